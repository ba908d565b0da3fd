-- The order of abstract integers is one, and the join is the least value above both.
use Rattle.std.proofs.Common.{◌≡◌, refl, sym, ap, ◌∙◌, Bool, true, false, cond, ◌&&◌}
use Rattle.std.specs.Prelude.{ℤ, pos, not}
use Rattle.std.specs.Ordering.{int_eq}
use Rattle.std.proofs.lemmas.Bool.{and_parts}
use Rattle.std.proofs.lemmas.Cmp.{int_eq_equiv}
use Rattle.std.proofs.lemmas.Map.Lookups.{exact_signed}
use Rattle.std.proofs.lemmas.Map.Views.{tells_apart}
use Rattle.abstract_values.specs.declared.number.AbsInt.{AbsInt}
use Rattle.abstract_values.specs.declared.number.AbsInt.TheVariants.{Any, NotZero, Exactly, EntryErrno}
use Rattle.abstract_values.specs.Numbers.{IntUnder, never_zero, apart, int_join, is_any_int}

pub int_refl : (a : AbsInt) → IntUnder a a
int_refl Any = tt
int_refl NotZero = tt
int_refl (Exactly i) = refl
int_refl EntryErrno = tt

pub int_trans : (a b c : AbsInt) → IntUnder a b → IntUnder b c → IntUnder a c
int_trans a b Any h k = tt
int_trans Any Any NotZero h k = k
int_trans Any NotZero NotZero h k = h
int_trans Any (Exactly j) NotZero h k = absurd h
int_trans Any EntryErrno NotZero h k = absurd h
int_trans NotZero b NotZero h k = tt
int_trans (Exactly i) Any NotZero h k = absurd k
int_trans (Exactly i) NotZero NotZero h k = h
int_trans (Exactly i) (Exactly j) NotZero h k = λ e. k (sym h ∙ e)
int_trans (Exactly i) EntryErrno NotZero h k = absurd k
int_trans EntryErrno Any NotZero h k = k
int_trans EntryErrno NotZero NotZero h k = h
int_trans EntryErrno (Exactly j) NotZero h k = absurd h
int_trans EntryErrno EntryErrno NotZero h k = k
int_trans a Any (Exactly l) h k = absurd k
int_trans a NotZero (Exactly l) h k = absurd k
int_trans a EntryErrno (Exactly l) h k = absurd k
int_trans Any (Exactly j) (Exactly l) h k = absurd h
int_trans NotZero (Exactly j) (Exactly l) h k = absurd h
int_trans (Exactly i) (Exactly j) (Exactly l) h k = h ∙ k
int_trans EntryErrno (Exactly j) (Exactly l) h k = absurd h
int_trans a Any EntryErrno h k = absurd k
int_trans a NotZero EntryErrno h k = absurd k
int_trans a (Exactly j) EntryErrno h k = absurd k
int_trans a EntryErrno EntryErrno h k = h

pub int_antisymmetric : (a b : AbsInt) → IntUnder a b → IntUnder b a → a ≡ b
int_antisymmetric Any Any h k = refl
int_antisymmetric Any NotZero h k = absurd h
int_antisymmetric Any (Exactly j) h k = absurd h
int_antisymmetric Any EntryErrno h k = absurd h
int_antisymmetric NotZero Any h k = absurd k
int_antisymmetric NotZero NotZero h k = refl
int_antisymmetric NotZero (Exactly j) h k = absurd h
int_antisymmetric NotZero EntryErrno h k = absurd h
int_antisymmetric (Exactly i) Any h k = absurd k
int_antisymmetric (Exactly i) NotZero h k = absurd k
int_antisymmetric (Exactly i) (Exactly j) h k = ap Exactly h
int_antisymmetric (Exactly i) EntryErrno h k = absurd h
int_antisymmetric EntryErrno Any h k = absurd k
int_antisymmetric EntryErrno NotZero h k = absurd k
int_antisymmetric EntryErrno (Exactly j) h k = absurd k
int_antisymmetric EntryErrno EntryErrno h k = refl

int_eq_true : (i j : ℤ) → int_eq i j ≡ true → i ≡ j
int_eq_true i j e = tells_apart exact_signed i j e

int_eq_same : (i j : ℤ) → i ≡ j → int_eq i j ≡ true
int_eq_same i j e = rw e (int_eq_equiv.refl j)

under_not_zero : (a : AbsInt) → IntUnder a NotZero → never_zero a ≡ true
under_not_zero Any h = absurd h
under_not_zero NotZero h = refl
under_not_zero (Exactly i) h = by_test (int_eq i (pos 0)) refl
  where
    by_test : (t : Bool) → int_eq i (pos 0) ≡ t → not t ≡ true
    by_test true is = absurd (h (int_eq_true i (pos 0) is))
    by_test false is = refl
under_not_zero EntryErrno h = absurd h

never_zero_under : (a : AbsInt) → never_zero a ≡ true → IntUnder a NotZero
never_zero_under Any e = absurd cc
never_zero_under NotZero e = tt
never_zero_under (Exactly i) e = λ zero. let same = int_eq_same i (pos 0) zero in absurd cc
never_zero_under EntryErrno e = absurd cc

module _ (a b : AbsInt) where
  pub apart_left : IntUnder a (apart a b)
  apart_left = by_test (never_zero a && never_zero b) refl
    where
      by_test : (t : Bool) → (never_zero a && never_zero b) ≡ t → IntUnder a (cond t NotZero Any)
      by_test true is = never_zero_under a (and_parts (never_zero a) (never_zero b) is).0
      by_test false is = tt

  pub apart_right : IntUnder b (apart a b)
  apart_right = by_test (never_zero a && never_zero b) refl
    where
      by_test : (t : Bool) → (never_zero a && never_zero b) ≡ t → IntUnder b (cond t NotZero Any)
      by_test true is = never_zero_under b (and_parts (never_zero a) (never_zero b) is).1
      by_test false is = tt

  pub apart_not_zero : IntUnder a NotZero → IntUnder b NotZero → IntUnder (apart a b) NotZero
  apart_not_zero h k = rw (under_not_zero a h, under_not_zero b k) tt

chosen_left : (i : ℤ) (u : AbsInt) (t : Bool) → IntUnder (Exactly i) u → IntUnder (Exactly i) (cond t (Exactly i) u)
chosen_left i u true h = refl
chosen_left i u false h = h

chosen_right : (i j : ℤ) (u : AbsInt) (t : Bool) → int_eq i j ≡ t → IntUnder (Exactly j) u → IntUnder (Exactly j) (cond t (Exactly i) u)
chosen_right i j u true e h = sym (int_eq_true i j e)
chosen_right i j u false e h = h

chosen_not_zero : (i : ℤ) (u : AbsInt) (t : Bool) → IntUnder (Exactly i) NotZero → IntUnder u NotZero → IntUnder (cond t (Exactly i) u) NotZero
chosen_not_zero i u true h k = h
chosen_not_zero i u false h k = k

chosen_exactly : (i j k : ℤ) (u : AbsInt) (t : Bool) → int_eq i j ≡ t → i ≡ k → j ≡ k → IntUnder (cond t (Exactly i) u) (Exactly k)
chosen_exactly i j k u true e h g = h
chosen_exactly i j k u false e h g = let same = int_eq_same i j (h ∙ sym g) in absurd cc

pub int_join_left : (a b : AbsInt) → IntUnder a (int_join a b)
int_join_left Any b = apart_left Any b
int_join_left NotZero b = apart_left NotZero b
int_join_left (Exactly i) Any = apart_left (Exactly i) Any
int_join_left (Exactly i) NotZero = apart_left (Exactly i) NotZero
int_join_left (Exactly i) (Exactly j) = chosen_left i _ (int_eq i j) (apart_left (Exactly i) (Exactly j))
int_join_left (Exactly i) EntryErrno = apart_left (Exactly i) EntryErrno
int_join_left EntryErrno Any = tt
int_join_left EntryErrno NotZero = tt
int_join_left EntryErrno (Exactly j) = tt
int_join_left EntryErrno EntryErrno = tt

pub int_join_right : (a b : AbsInt) → IntUnder b (int_join a b)
int_join_right Any b = apart_right Any b
int_join_right NotZero b = apart_right NotZero b
int_join_right (Exactly i) Any = apart_right (Exactly i) Any
int_join_right (Exactly i) NotZero = apart_right (Exactly i) NotZero
int_join_right (Exactly i) (Exactly j) = chosen_right i j _ (int_eq i j) refl (apart_right (Exactly i) (Exactly j))
int_join_right (Exactly i) EntryErrno = apart_right (Exactly i) EntryErrno
int_join_right EntryErrno Any = tt
int_join_right EntryErrno NotZero = tt
int_join_right EntryErrno (Exactly j) = tt
int_join_right EntryErrno EntryErrno = tt

join_not_zero : (a b : AbsInt) → IntUnder a NotZero → IntUnder b NotZero → IntUnder (int_join a b) NotZero
join_not_zero Any b h k = absurd h
join_not_zero NotZero b h k = apart_not_zero NotZero b h k
join_not_zero (Exactly i) Any h k = absurd k
join_not_zero (Exactly i) NotZero h k = apart_not_zero (Exactly i) NotZero h k
join_not_zero (Exactly i) (Exactly j) h k = chosen_not_zero i _ (int_eq i j) h (apart_not_zero (Exactly i) (Exactly j) h k)
join_not_zero (Exactly i) EntryErrno h k = absurd k
join_not_zero EntryErrno b h k = absurd h

pub int_join_least : (a b u : AbsInt) → IntUnder a u → IntUnder b u → IntUnder (int_join a b) u
int_join_least a b Any h k = tt
int_join_least a b NotZero h k = join_not_zero a b h k
int_join_least Any b (Exactly l) h k = absurd h
int_join_least NotZero b (Exactly l) h k = absurd h
int_join_least (Exactly i) Any (Exactly l) h k = absurd k
int_join_least (Exactly i) NotZero (Exactly l) h k = absurd k
int_join_least (Exactly i) (Exactly j) (Exactly l) h k = chosen_exactly i j l _ (int_eq i j) refl h k
int_join_least (Exactly i) EntryErrno (Exactly l) h k = absurd k
int_join_least EntryErrno b (Exactly l) h k = absurd h
int_join_least Any b EntryErrno h k = absurd h
int_join_least NotZero b EntryErrno h k = absurd h
int_join_least (Exactly i) b EntryErrno h k = absurd h
int_join_least EntryErrno Any EntryErrno h k = absurd k
int_join_least EntryErrno NotZero EntryErrno h k = absurd k
int_join_least EntryErrno (Exactly j) EntryErrno h k = absurd k
int_join_least EntryErrno EntryErrno EntryErrno h k = tt

-- what is above a value of which nothing is known is no more known
pub int_any_up : (a b : AbsInt) → IntUnder a b → is_any_int a ≡ true → is_any_int b ≡ true
int_any_up Any Any h e = refl
int_any_up Any NotZero h e = absurd h
int_any_up Any (Exactly j) h e = absurd h
int_any_up Any EntryErrno h e = absurd h
int_any_up NotZero b h e = absurd cc
int_any_up (Exactly i) b h e = absurd cc
int_any_up EntryErrno b h e = absurd cc
