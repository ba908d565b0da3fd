-- Steps of a world, and runs.
use Rattle.std.specs.Prelude.{List, [], ◌∷◌, ◌++◌, Option, Some, None}
use Rattle.run_model.specs.Code.{Code}
use Rattle.run_model.specs.World.{Process, World}
use Rattle.run_model.specs.Start.{IsStart}
use Rattle.run_model.specs.ProcessSteps.{Label, ProcessStep}

abbrev pub list_of : Option Process → List Process
list_of None = []
list_of (Some q) = q ∷ []

-- one process makes a step, and the others stay as they are
pub data Step (code : Code) : World → Label → World → Type 0 where
  step : (left right : List Process) {new : List Process} {q : Process} {r : Option Process} {l : Label}
      → ProcessStep code q l r new
      → Step code (left ++ q ∷ right) l (left ++ (list_of r ++ (new ++ right)))

-- the steps of a run, each with the world that it leads to; a run may stop anywhere
abbrev pub Run : Type 0
Run = List (Label × World)

abbrev pub GoesOn : Code → World → Run → Type 0
GoesOn code w [] = Unit {0}
GoesOn code w (s ∷ ss) = Step code w s.0 s.1 × GoesOn code s.1 ss

-- a run of the program from the world w
pub record IsRun (code : Code) (w : World) (run : Run) : Type 0 where
  pub start : IsStart code w
  pub goes : GoesOn code w run
