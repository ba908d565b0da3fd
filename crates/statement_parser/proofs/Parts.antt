-- The parts of a list of initialisers, one by one.
use Rattle.std.proofs.Common.{◌≡◌, ◌≢◌, ◌<◌, ◌≤◌, ℕ, ◌+◌, Bool, List, [], ◌∷◌, length, Option, Some, None, refl, sym, ap, ◌∙◌, subst, arith}
use Rattle.c_tree.specs.Tree.{Name, Initializer, Initializers, no_initializers}
use Rattle.c_tree.specs.StatementView.{initializers_of}
use Rattle.c_tree.specs.Marks.{Tokens}
use Rattle.c_grammar.specs.declared.kind.Kind.{Kind}
use Rattle.c_grammar.specs.declared.kind.Kind.TheVariants as k
use Rattle.c_grammar.specs.Kind.{kind, tail_of}
use Rattle.c_grammar.specs.Body.{done, look, Outcome, got, refused, exceeded, and_then, and_paid, Reader}
use Rattle.c_grammar.specs.Body as body
use Rattle.c_grammar.specs.Gauge.{Meter, within, added}
use Rattle.c_grammar.specs.Input.{Input, next, metered}
use Rattle.c_grammar.specs.Reading.{read}
use Rattle.c_grammar.specs.Rules.{NameEnvironment, an_initializer, all_initializers, more_initializers, initializers_by, more_initializers_by, next_initializer_by}
use Rattle.c_grammar.specs.declared.refusal.Refusal.{Refusal}
use Rattle.c_grammar.specs.Gives.{Fails}
use Rattle.c_grammar.specs.Lists.{mapped, before}
use Rattle.c_grammar.specs.Performing.{perform, at}
use Rattle.c_grammar.proofs.Joining.{last, tail_mapped, same_mapped, Joins, join_spend, join_skip, join_call, join_name, join_expect, then_fails}
use Rattle.c_grammar.proofs.Loops.{Turn}
use Rattle.c_grammar.proofs.Opens.{initializers_performs, more_initializers_performs}
use Rattle.c_grammar.proofs.Shorter.{read_leaves}
use Rattle.type_parser.proofs.TaggedShorter.{Under, then_under, name_under, taken_shorter}
use Rattle.statement_parser.specs.PartList.{OnePart, one_part, part_by, assigned, behind_part_by, next_by, with_part}

tail_less : (ts : Tokens) → length (tail_of ts) ≤ length ts
tail_less [] = omega arith
tail_less (t ∷ ts) = omega arith

paid_under : {X A : Type 0} (n : ℕ) (o : Option X) (ts : Tokens) (f : X → Outcome X A) → ((x : X) → Under n (f x)) → Under n (and_paid o ts f)
paid_under n None ts f h = tt
paid_under n (Some x) ts f h = h x

module _ (t : NameEnvironment) (d : ℕ) where
  abbrev others : OnePart → Reader Meter (Initializers × Bool)
  others (x, None) us m = mapped (with_part x) (read (all_initializers t d 1) (at us m))
  others (x, Some b) us m = got (with_part x (no_initializers, b)) us m

  next_on : (x : Option Name × Initializer) (y : Kind) (j : Input) →
      and_then (perform (next_initializer_by t d y) j) (λ ps us m. got (with_part x ps) us m) ≡ and_then (mapped (λ y. y) (perform (next_by x y) j)) others
  next_on x k.CloseBrace j = refl
  next_on x _ j = ap (λ o. and_then o (λ ps us m. got (with_part x ps) us m)) (last (read (all_initializers t d 1) j)) ∙ tail_mapped (with_part x) (read (all_initializers t d 1) j)

  behind_by : (x : Option Name × Initializer) (y : Kind) (j : Input) →
      and_then (perform (more_initializers_by t d y) j) (λ ps us m. got (with_part x ps) us m) ≡ and_then (mapped (λ y. y) (perform (behind_part_by t x y) j)) others
  behind_by x k.CloseBrace j = refl
  behind_by x k.Comma j = next_on x (kind t.types (next j).rest) (next j)
  behind_by x _ j = refl

  behind_on : {x : Option Name × Initializer} {j : Input} → Joins (λ y. y) others (body.call (more_initializers t d) (λ ps. done (with_part x ps))) (look [] (behind_part_by t x)) j
  behind_on {x = x} {j = j} =
      record { is = ap (λ o. and_then o (λ ps us m. got (with_part x ps) us m)) (more_initializers_performs t d j) ∙ behind_by x (kind [] j.rest) j }

  part_on : (owed : ℕ) (y : Kind) (j : Input) → Joins (λ y. y) others (initializers_by t d owed y) (part_by t d owed y) j
  part_on owed k.Dot j = join_spend (λ m. join_skip (join_name t.types (λ n. join_expect k.Assign (join_call (λ x us p. behind_on {x = (Some n, x)})))))
  part_on owed _ j = join_call (λ x us p. behind_on {x = (None, x)})

  parts_on : (owed : ℕ) (i : Input) → read (all_initializers t d owed) i ≡ and_then (perform (one_part t d owed) i) others
  parts_on owed i =
      let h : Joins (λ y. y) others (initializers_by t d owed (kind [] i.rest)) (part_by t d owed (kind [] i.rest)) i = part_on owed (kind [] i.rest) i in
      initializers_performs t d owed i ∙ h.is ∙ ap (λ o. and_then o others) (same_mapped (perform (one_part t d owed) i))

  -- one part more
  pub parts_turn : (owed : ℕ) (i j : Input) (x : Option Name × Initializer) → perform (one_part t d owed) i ≡ got (x, None) j.rest j.meter →
      Turn with_part x (read (all_initializers t d owed) i) (read (all_initializers t d 1) j)
  parts_turn owed i j x e = record { is = parts_on owed i ∙ ap (λ o. and_then o others) e }

  -- the last
  pub parts_last : (owed : ℕ) (i j : Input) (x : Option Name × Initializer) (b : Bool) → perform (one_part t d owed) i ≡ got (x, Some b) j.rest j.meter →
      Turn with_part x (read (all_initializers t d owed) i) (got (no_initializers, b) j.rest j.meter)
  parts_last owed i j x b e = record { is = parts_on owed i ∙ ap (λ o. and_then o others) e }

  pub parts_fail : (owed : ℕ) (i : Input) (e : Refusal) → Fails (perform (one_part t d owed) i) e → Fails (read (all_initializers t d owed) i) e
  parts_fail owed i e h = subst (λ o. Fails o e) (sym (parts_on owed i)) (then_fails others h)

  next_under : (n : ℕ) (x : Option Name × Initializer) (y : Kind) (j : Input) → length j.rest < n → Under n (perform (next_by x y) j)
  next_under n x k.CloseBrace j less = omega (arith, less, tail_less j.rest)
  next_under n x _ j less = less

  behind_under : (n : ℕ) (x : Option Name × Initializer) (y : Kind) (j : Input) → (y ≢ k.Nothing → length (tail_of j.rest) < n) → Under n (perform (behind_part_by t x y) j)
  behind_under n x k.CloseBrace j less = less (λ e. absurd cc)
  behind_under n x k.Comma j less = next_under n x (kind t.types (next j).rest) (next j) (less (λ e. absurd cc))
  behind_under n x _ j less = tt

  under_behind : (n : ℕ) (x : Option Name × Initializer) (j : Input) → length j.rest ≤ n → Under n (perform (look [] (behind_part_by t x)) j)
  under_behind n x j less = behind_under n x (kind [] j.rest) j (λ some. let h = taken_shorter [] j.rest (kind [] j.rest) refl some in omega (arith, h, less))

  part_under : (n owed : ℕ) (y : Kind) (i : Input) → length i.rest ≤ n → Under n (perform (part_by t d owed y) i)
  part_under n owed k.Dot i less = paid_under n (within (added owed (d + 1) i.meter)) i.rest _ (λ m. name_under n t.types (assigned t d) (next (metered m i)) (omega (arith, less, tail_less i.rest)))
  part_under n owed _ i less = then_under n (read (an_initializer t d owed) i) _ (read_leaves n (an_initializer t d owed) i less) (λ x us m p. under_behind n (None, x) (at us m) p)

  pub parts_shorter : (owed : ℕ) (i j : Input) (x : OnePart) → perform (one_part t d owed) i ≡ got x j.rest j.meter → length j.rest < length i.rest
  parts_shorter owed i j x e = subst (λ o. Under (length i.rest) o) e (part_under (length i.rest) owed (kind [] i.rest) i (omega arith))

-- a part that names no member
part_other : (t : NameEnvironment) (d owed : ℕ) (y : Kind) → y ≢ k.Dot → part_by t d owed y ≡ body.call (an_initializer t d owed) (λ x. look [] (behind_part_by t (None, x)))
part_other t d owed k.Dot other = absurd (other refl)
part_other t d owed _ other = refl

pub part_unnamed : (t : NameEnvironment) (d owed : ℕ) (i j : Input) (x : Initializer) (y : Kind) → y ≡ kind [] i.rest → y ≢ k.Dot → read (an_initializer t d owed) i ≡ got x j.rest j.meter →
    perform (one_part t d owed) i ≡ perform (look [] (behind_part_by t (None, x))) j
part_unnamed t d owed i j x y is other e =
    ap (λ z. perform (part_by t d owed z) i) (sym is)
    ∙ ap (λ b. perform b i) (part_other t d owed y other)
    ∙ ap (λ o. and_then o (λ v us m. perform (look [] (behind_part_by t (None, v))) (at us m))) e

-- the list of all of them
pub parts_none : (xs : List (Option Name × Initializer)) (b : Bool) → before with_part xs (no_initializers, b) ≡ (initializers_of xs, b)
parts_none [] b = refl
parts_none (x ∷ xs) b = ap (with_part x) (parts_none xs b)
