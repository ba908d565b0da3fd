-- Runs that are written down step by step: what each step leads to follows from what it starts from.
use Rattle.std.proofs.Common.{◌≡◌, ℕ, List, [], ◌∷◌, refl, sym, ap, subst, ◌∙◌, Bool, true, false, arith, suc, nat_eq, eq-eqb}
use Rattle.std.specs.Prelude.{◌≢◌, ℤ, Contains}
use Rattle.base_core.specs.declared.id.Pos.{Pos}
use Rattle.posix_table.specs.declared.kind.Effect.{Effect}
use Rattle.posix_table.specs.declared.kind.Effect.TheVariants as effect
use Rattle.run_model.specs.Values.{Word, Int, Ptr, Values, Scalar, NoValue}
use Rattle.run_model.specs.Code.{Code, Edge, Always}
use Rattle.run_model.specs.World.{World}
use Rattle.run_model.specs.ThreadSteps.{Goes}
use Rattle.run_model.specs.ProcessSteps.{Label}
use Rattle.run_model.specs.Runs.{Step, Run, GoesOn}

pub data Path (code : Code) : World → Type 0 where
  stop : {w : World} → Path code w
  then : {w w' : World} {l : Label} → Step code w l w' → Path code w' → Path code w

abbrev pub run_of : {code : Code} {w : World} → Path code w → Run
run_of Path.stop = []
run_of (Path.then {w' = w'} {l = l} s p) = (l, w') ∷ run_of p

pub goes_of : {code : Code} {w : World} (p : Path code w) → GoesOn code w (run_of p)
goes_of Path.stop = tt
goes_of (Path.then s p) = (s, goes_of p)

-- along the only edge
pub along : {code : Code} {from : Pos} {vals : Values} (to : Pos) → code.next from ≡ record { to = to; guard = Always } ∷ [] → Goes code from vals to
along to e = record { edge = record { to = to; guard = Always }; next = the_first _ _ e; guard = tt; leads = refl }
  where
    the_first : (es : List Edge) (e : Edge) → es ≡ e ∷ [] → Contains es e
    the_first [] e q = absurd cc
    the_first (f ∷ fs) e q = (0, omega arith, cc)

-- ---- things that differ

pub false_true : false ≡ true → ⊥
false_true e = absurd cc

pub int_pointer : (i : ℤ) (o : ℕ) → Scalar (Int i) ≡ Scalar (Ptr o) → ⊥
int_pointer i o e = absurd cc

pub not_zero : (n : ℕ) → suc n ≢ 0
not_zero n e = absurd cc

pub is_value : (w : Word) → Scalar w ≢ NoValue
is_value w e = absurd cc

abbrev pub number : Effect → ℕ
number effect.Plain = 0
number effect.Fork = 1
number effect.Split = 2
number effect.Pure = 3
number effect.Wait = 4
number effect.Fill = 5
number effect.Exec = 6
number effect.Empty = 7
number effect.Full = 8
number effect.Any = 9
number effect.Add = 10
number effect.Del = 11
number effect.Mask = 12
number effect.Install = 13
number effect.Endp = 14
number effect.Thread = 15
number effect.Atfork = 16

same_effect : (a b : Effect) → nat_eq (number a) (number b) ≡ false → a ≡ b → ⊥
same_effect a b e f = differ (number a) (number b) e (ap number f)
  where
    differ : (m n : ℕ) → nat_eq m n ≡ false → m ≡ n → ⊥
    differ m n e f = absurd (false_true (sym e ∙ subst (λ (k : ℕ). nat_eq m k ≡ true) f (eq-eqb m m refl)))

abbrev pub differ : Effect → Effect → Bool
differ a b = nat_eq (number a) (number b)

pub apart : (a b : Effect) → differ a b ≡ false → a ≢ b
apart a b e = same_effect a b e
