-- Runs that are put together step by step.
use Rattle.std.proofs.Common.{◌≡◌, ℕ, ℤ, zero, suc, List, [], ◌∷◌, ◌++◌, refl, sym, subst, Option, Some, None}
use Rattle.std.proofs.lemmas.Option.{none-some, same_Some}
use Rattle.std.specs.Option.{option_and_then}
use Rattle.base_core.specs.declared.id.Phase.{Phase}
use Rattle.base_core.specs.declared.id.Phase.TheVariants.{In0}
use Rattle.flat_programs.specs.FlatTree.{FlatTree}
use Rattle.flat_programs.specs.Positions.{Function, Position, next}
use Rattle.flat_programs.specs.World.{IsInt, Mask, Beginning, Frame, frame, thread, Dispositions, process, World}
use Rattle.flat_programs.specs.Steps.{ErrnoAfter, DispositionsAfter, ThreadStep, Label, Step, Run, GoesOn}
use Rattle.flat_programs.specs.Laws.{last_world}

-- a run leads from w to v
pub record Leads (t : FlatTree) (w v : World) : Type 0 where
  pub run : Run
  pub goes : GoesOn t w run
  pub last : last_world w run ≡ v

pub stay : (t : FlatTree) (w : World) → Leads t w w
stay t w = record { run = []; goes = tt; last = refl }

pub goes_further : (t : FlatTree) (w v u : World) (l : Label) (run : Run) → GoesOn t w run → last_world w run ≡ v → Step t v l u → GoesOn t w (run ++ (l, u) ∷ [])
goes_further t w v u l [] goes last step = (subst (λ (x : World). Step t x l u) (sym last) step, tt)
goes_further t w v u l (s ∷ ss) goes last step = (goes.0, goes_further t s.1 v u l ss goes.1 last step)

last_further : (w u : World) (l : Label) (run : Run) → last_world w (run ++ (l, u) ∷ []) ≡ u
last_further w u l [] = refl
last_further w u l (s ∷ ss) = last_further s.1 u l ss

-- one step more
pub further : (t : FlatTree) (w v u : World) (l : Label) → Leads t w v → Step t v l u → Leads t w u
further t w v u l r step = record { run = r.run ++ (l, u) ∷ []; goes = goes_further t w v u l r.run r.goes r.last step; last = last_further w u l r.run }

-- the world whose one thread is this
abbrev pub world : Dispositions → Mask → ℤ → List Frame → World
world a mask errno stack = process a (thread mask errno stack) ∷ []

-- where n moves lead
abbrev pub along : FlatTree → Function → ℕ → Position → Option Position
along t f zero p = Some p
along t f (suc n) p = option_and_then (along t f n) (next t f p)

same_errno : (phase : Phase) (errno : ℤ) → IsInt errno → ErrnoAfter phase errno errno
same_errno In0 errno int = int
same_errno phase errno int = refl

-- n moves more, each of which keeps errno and the dispositions
pub walk : (t : FlatTree) (n : ℕ) (w : World) (a : Dispositions) (mask : Mask) (errno : ℤ) (f : Function) (began : Beginning) (rest : List Frame) (p q : Position) → IsInt errno → along t f n p ≡ Some q
    → Leads t w (world a mask errno (frame f p began ∷ rest))
    → Leads t w (world a mask errno (frame f q began ∷ rest))
walk t zero w a mask errno f began rest p q int is r = subst (λ (x : Position). Leads t w (world a mask errno (frame f x began ∷ rest))) (same_Some p q is) r
walk t (suc n) w a mask errno f began rest p q int is r = by_next (next t f p) refl is (λ m. walk t n w a mask errno f began rest m q int)
  where
    by_next : (o : Option Position) → next t f p ≡ o → option_and_then (along t f n) o ≡ Some q
        → ((m : Position) → along t f n m ≡ Some q → Leads t w (world a mask errno (frame f m began ∷ rest)) → Leads t w (world a mask errno (frame f q began ∷ rest)))
        → Leads t w (world a mask errno (frame f q began ∷ rest))
    by_next None goes is' others = absurd (none-some q is')
    by_next (Some m) goes is' others =
        others m is' (further t w _ _ _ r (Step.steps (ThreadStep.moves {mask = mask} {errno = errno} {began = began} {rest = rest} goes (same_errno p.phase errno int) DispositionsAfter.keeps)))
