-- What the parts of a list give together.
use Rattle.std.proofs.Common.{◌≡◌, List, [], ◌++◌, length, Bool, true, false, ◌&&◌, ◌||◌, Option, Some, None, refl, ap, ◌∙◌, append_assoc, append-nil}
use Rattle.c_rules.specs.declared.misfit.MisfitKind.{MisfitKind}
use Rattle.c_tree.specs.Tree.{Name}
use Rattle.c_judgements.specs.Parts.{added}
use Rattle.c_bindings.specs.Told.{Told}
use Rattle.c_declared.proofs.Joins as joins
use Rattle.c_judged.specs.Initializers.{or_misfit}

pub or_assoc : (a b c : Bool) → ((a || b) || c) ≡ (a || (b || c))
or_assoc true b c = refl
or_assoc false b c = refl

pub or_false : (a : Bool) → (a || false) ≡ a
or_false true = refl
or_false false = refl

pub misfit_assoc : (a b c : Option MisfitKind) → or_misfit (or_misfit a b) c ≡ or_misfit a (or_misfit b c)
misfit_assoc (Some m) b c = refl
misfit_assoc None b c = refl

pub misfit_none : (a : Option MisfitKind) → or_misfit a None ≡ a
misfit_none (Some m) = refl
misfit_none None = refl

pub and_assoc : (a b c : Bool) → ((a && b) && c) ≡ (a && (b && c))
and_assoc a b c = joins.and_assoc a b c

pub and_true : (a : Bool) → (a && true) ≡ a
and_true a = joins.and_true a

pub added_none : (ps : List (List Told)) → added [] ps ≡ ps
added_none ps = joins.added_none ps

pub added_twice : (xs ys : List Told) (ps : List (List Told)) → added ys (added xs ps) ≡ added (xs ++ ys) ps
added_twice xs ys ps = joins.added_twice xs ys ps

pub length_added : (xs : List Told) (ps : List (List Told)) → length (added xs ps) ≡ length ps
length_added xs ps = joins.length_added xs ps

pub labels_none : (ns : List Name) → ns ++ [] ≡ ns
labels_none ns = append-nil ns

pub labels_assoc : (a b c : List Name) → (a ++ b) ++ c ≡ a ++ (b ++ c)
labels_assoc a b c = append_assoc a b c

-- ---- one more part of a list: with what was before it, and with what is behind it

pub or_step : (s p n a b d w : Bool) → n ≡ (s || p) → p ≡ a → d ≡ b → (s || (a || b)) ≡ w → (n || d) ≡ w
or_step s p n a b d w e f g h =
    ap (λ x. x || d) e ∙ ap (λ x. (s || x) || d) f ∙ or_assoc s a d ∙ ap (λ x. s || (a || x)) g ∙ h

pub misfit_step : (s p n a b d w : Option MisfitKind) → n ≡ or_misfit s p → p ≡ a → d ≡ b → or_misfit s (or_misfit a b) ≡ w → or_misfit n d ≡ w
misfit_step s p n a b d w e f g h =
    ap (λ x. or_misfit x d) e ∙ ap (λ x. or_misfit (or_misfit s x) d) f ∙ misfit_assoc s a d ∙ ap (λ x. or_misfit s (or_misfit a x)) g ∙ h
