-- What stands at a place of a list of marks, and what follows it.
use Rattle.std.proofs.Common.{◌≡◌, ℕ, zero, suc, Option, None, Some, List, [], ◌∷◌, false, ◌&&◌, drop, slice_get, refl, ap, sym, ◌∙◌}
use Rattle.posix_table.specs.declared.kind.Param.{Param}
use Rattle.posix_table.specs.declared.kind.Param.TheVariants as p
use Rattle.c_rules.specs.Judgement.{Operand, kind}
use Rattle.c_rules.specs.LibraryCalls.{take_all, takes_operand, behind}
use Rattle.c_rules.specs.Marks.{next_place}

-- the list from a place on, by what stands there
abbrev from : {X : Type 0} → Option X → List X → List X
from None xs = []
from (Some x) xs = x ∷ xs

from_place : {X : Type 0} (xs : List X) (n : ℕ) → drop n xs ≡ from (slice_get xs n) (drop (suc n) xs)
from_place [] zero = refl
from_place [] (suc n) = refl
from_place (x ∷ xs) zero = refl
from_place (x ∷ xs) (suc n) = from_place xs n

pub take_none : (ps : List Param) (n : ℕ) (x : Operand) (xs : List Operand) → slice_get ps n ≡ None → take_all (drop n ps) (x ∷ xs) ≡ false
take_none ps n x xs is = ap (λ qs. take_all qs (x ∷ xs)) (from_place ps n ∙ ap (λ o. from o (drop (suc n) ps)) is)

-- the marks behind one are those from the next place on
behind_place : (ps : List Param) (n : ℕ) (q : Param) → slice_get ps n ≡ Some q → behind q (drop (suc n) ps) ≡ drop (next_place q n) ps
behind_place ps n p.More is = sym (from_place ps n ∙ ap (λ o. from o (drop (suc n) ps)) is)
behind_place ps n p.Int is = refl
behind_place ps n p.Read is = refl
behind_place ps n p.Write is = refl
behind_place ps n p.Both is = refl
behind_place ps n p.Copied is = refl
behind_place ps n p.Kernel is = refl
behind_place ps n p.Kept is = refl
behind_place ps n p.Null is = refl
behind_place ps n p.SetIn is = refl
behind_place ps n p.SetOut is = refl
behind_place ps n p.ActionIn is = refl
behind_place ps n p.ActionOut is = refl
behind_place ps n p.HandlerFn is = refl
behind_place ps n p.ThreadFn is = refl
behind_place ps n p.ForkFn is = refl
behind_place ps n p.Either is = refl

pub take_one : (ps : List Param) (n : ℕ) (q : Param) (x : Operand) (xs : List Operand) → slice_get ps n ≡ Some q →
    take_all (drop n ps) (x ∷ xs) ≡ (takes_operand q x.form.constant (kind x.judged) && take_all (drop (next_place q n) ps) xs)
take_one ps n q x xs is =
    ap (λ qs. take_all qs (x ∷ xs)) (from_place ps n ∙ ap (λ o. from o (drop (suc n) ps)) is)
    ∙ ap (λ qs. takes_operand q x.form.constant (kind x.judged) && take_all qs xs) (behind_place ps n q is)
