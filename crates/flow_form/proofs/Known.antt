-- A table of labels by their names has what a list of them has.
use Rattle.std.proofs.Common.{◌≡◌, ℕ, List, ◌∷◌, map, Option, Some, Bool, true, false, refl, ap, sym, ◌∙◌}
use Rattle.std.specs.Prelude.{option_map, bytes_eq, cond}
use Rattle.std.specs.Borrow.{Bor}
use Rattle.std.specs.HashMap.{HashMap, UpdatesBy}
use Rattle.std.proofs.lemmas.Map.Text.{hash_map_updates_str}
use Rattle.std.proofs.lemmas.Slice.Eq.{bytes_eq-Decides}
use Rattle.base_core.specs.declared.id.Pos.{Pos}
use Rattle.c_tree.specs.Tree.{Name}
use Rattle.flow_form.specs.declared.targets.Label.{Label}
use Rattle.flow_form.specs.Known.{label_of, AreKnown}
use Rattle.flow_form.specs.Positions.{enter}
use Rattle.flow_form.specs.Statements.{label}

is_true_too : (a b : Name) (s : Bool) → bytes_eq b a ≡ s → bytes_eq a b ≡ true → s ≡ true
is_true_too a b s is h = sym is ∙ (bytes_eq-Decides b a).1 (sym ((bytes_eq-Decides a b).0 h))

both_ways : (a b : Name) (s r : Bool) → bytes_eq a b ≡ s → bytes_eq b a ≡ r → s ≡ r
both_ways a b true r h k = sym (is_true_too a b r k h)
both_ways a b false true h k = is_true_too b a false h k
both_ways a b false false h k = refl

pub either_way : (a b : Name) → bytes_eq a b ≡ bytes_eq b a
either_way a b = both_ways a b (bytes_eq a b) (bytes_eq b a) refl refl

chosen : (s : Bool) (n : ℕ) (o : Option ℕ) (p : Option Pos) → option_map enter o ≡ p → option_map enter (cond s (Some n) o) ≡ cond s (Some (enter n)) p
chosen true n o p h = refl
chosen false n o p h = h

-- a label that is put into the table stands before those that are there
pub one_more : {S : Type 0} (old new : HashMap (Bor (List ℕ)) ℕ S) (l : Label) (ls : List Label) → UpdatesBy (λ x y. bytes_eq x.now y.now) (λ k. bytes_eq l.name.now k.now) old new (Some l.node) →
    AreKnown old (map label_of ls) → AreKnown new (map label_of (l ∷ ls))
one_more old new l ls changes is m =
    ap (option_map enter) (hash_map_updates_str l.name.now old new (Some l.node) changes m)
    ∙ chosen (bytes_eq l.name.now m) l.node _ (label m (map label_of ls)) (is m)
    ∙ ap (λ s. cond s (Some (enter l.node)) (label m (map label_of ls))) (either_way l.name.now m)
