-- The order of abstract sets is one, and the join is the least abstract set above both.
use Rattle.std.proofs.Common.{◌≡◌, refl, sym, ap, ◌∙◌, ℕ, Bool, true, false, ◌&&◌, ◌||◌}
use Rattle.std.specs.Prelude.{IsTrue}
use Rattle.std.specs.Ordering.{nat_cmp}
use Rattle.std.specs.Cmp.{nat_cmp_total}
use Rattle.std.specs.FinSet.{FinSet, nat_cmp-IsAntisymmetric}
use Rattle.std.specs.FinSet as set
use Rattle.std.proofs.lemmas.Bool.{and_parts, and_from}
use Rattle.sig_set.specs.Signals.{every_signal}
use Rattle.abstract_values.specs.declared.signal_set.AbsSet.{AbsSet}
use Rattle.abstract_values.specs.Sets.{SetUnder, set_join, is_any_set, IsSomeSet, any_set}

abbrev Signals : Type 0
Signals = FinSet nat_cmp

-- each member of s is one of t
abbrev Within : Signals → Signals → Type 0
Within s t = IsTrue (set.is_subset s t)

abbrev Has : Signals → ℕ → Type 0
Has s signal = set.contains s signal ≡ true

members : (s t : Signals) → Within s t → (signal : ℕ) → Has s signal → Has t signal
members s t = set.is_subset-contains nat_cmp_total s t

within : (s t : Signals) → ((signal : ℕ) → Has s signal → Has t signal) → Within s t
within s t = set.contains-is_subset nat_cmp_total s t

within_refl : (s : Signals) → Within s s
within_refl s = within s s (λ q h. h)

within_trans : (s t u : Signals) → Within s t → Within t u → Within s u
within_trans s t u h k = within s u (λ q m. members t u k q (members s t h q m))

same_bool : (x y : Bool) → (x ≡ true → y ≡ true) → (y ≡ true → x ≡ true) → x ≡ y
same_bool true y h k = sym (h refl)
same_bool false true h k = k refl
same_bool false false h k = refl

within_antisymmetric : (s t : Signals) → Within s t → Within t s → s ≡ t
within_antisymmetric s t h k = set.same_set nat_cmp_total nat_cmp-IsAntisymmetric s t (λ q. same_bool _ _ (members s t h q) (members t s k q))

module _ (s t : Signals) where
  meet_is : (q : ℕ) → set.contains (set.intersection s t) q ≡ (set.contains s q && set.contains t q)
  meet_is q = set.contains-intersection nat_cmp_total s t q

  union_is : (q : ℕ) → set.contains (set.union s t) q ≡ (set.contains s q || set.contains t q)
  union_is q = set.contains-union nat_cmp_total s t q

  meet_left : Within (set.intersection s t) s
  meet_left = within _ _ (λ q h. (and_parts (set.contains s q) (set.contains t q) (sym (meet_is q) ∙ h)).0)

  meet_right : Within (set.intersection s t) t
  meet_right = within _ _ (λ q h. (and_parts (set.contains s q) (set.contains t q) (sym (meet_is q) ∙ h)).1)

  meet_greatest : (u : Signals) → Within u s → Within u t → Within u (set.intersection s t)
  meet_greatest u h k = within _ _ (λ q m. meet_is q ∙ and_from _ _ (members u s h q m) (members u t k q m))

  union_left : Within s (set.union s t)
  union_left = within _ _ (λ q h. union_is q ∙ ap (λ b. b || set.contains t q) h)

  or_true : (x y : Bool) → y ≡ true → (x || y) ≡ true
  or_true true y h = refl
  or_true false y h = h

  or_cases : (x y z : Bool) → (x ≡ true → z ≡ true) → (y ≡ true → z ≡ true) → (x || y) ≡ true → z ≡ true
  or_cases true y z h k e = h refl
  or_cases false y z h k e = k e

  union_right : Within t (set.union s t)
  union_right = within _ _ (λ q h. union_is q ∙ or_true (set.contains s q) _ h)

  union_least : (u : Signals) → Within s u → Within t u → Within (set.union s t) u
  union_least u h k = within _ _ (λ q m. or_cases (set.contains s q) (set.contains t q) _ (members s u h q) (members t u k q) (sym (union_is q) ∙ m))

pub set_refl : (a : AbsSet) → SetUnder a a
set_refl a = (within_refl a.must, within_refl a.may)

pub set_trans : (a b c : AbsSet) → SetUnder a b → SetUnder b c → SetUnder a c
set_trans a b c h k = (within_trans c.must b.must a.must k.0 h.0, within_trans a.may b.may c.may h.1 k.1)

pub set_antisymmetric : (a b : AbsSet) → SetUnder a b → SetUnder b a → a ≡ b
set_antisymmetric a b h k =
    let must = within_antisymmetric a.must b.must k.0 h.0 in
    let may = within_antisymmetric a.may b.may h.1 k.1 in
    λ i. record { must = must i; may = may i }

pub set_join_left : (a b : AbsSet) → SetUnder a (set_join a b)
set_join_left a b = (meet_left a.must b.must, union_left a.may b.may)

pub set_join_right : (a b : AbsSet) → SetUnder b (set_join a b)
set_join_right a b = (meet_right a.must b.must, union_right a.may b.may)

pub set_join_least : (a b u : AbsSet) → SetUnder a u → SetUnder b u → SetUnder (set_join a b) u
set_join_least a b u h k = (meet_greatest a.must b.must u.must h.0 k.0, union_least a.may b.may u.may h.1 k.1)

-- what is above a set of which nothing is known is no more known
pub set_any_up : (a b : AbsSet) → SetUnder a b → is_any_set a ≡ true → is_any_set b ≡ true
set_any_up a b h e =
    let parts = and_parts (set.is_subset a.must set.empty) (set.is_subset every_signal a.may) e in
    and_from _ _ (within_trans b.must a.must set.empty h.0 parts.0) (within_trans every_signal a.may b.may parts.1 h.1)

-- a join stands for some set where a part does
pub set_join_some : (a b : AbsSet) → IsSomeSet a → IsSomeSet (set_join a b)
set_join_some a b h =
    within_trans _ a.must _ (meet_left a.must b.must) (within_trans a.must a.may _ h (union_left a.may b.may))

pub any_set_some : IsSomeSet any_set
any_set_some = within set.empty every_signal (λ q h. let none = set.contains-empty nat_cmp q in absurd cc)
