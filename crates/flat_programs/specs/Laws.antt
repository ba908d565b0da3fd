-- Laws of every run, of an accepted program or not.
use Rattle.std.specs.Prelude.{◌≡◌, [], ◌∷◌}
use Rattle.flat_programs.specs.FlatTree.{FlatTree}
use Rattle.flat_programs.specs.World.{IsInt, Frame, Process, World, IsStart}
use Rattle.flat_programs.specs.Steps.{Run, GoesOn}

-- the world at the end of a run from w
abbrev pub last_world : World → Run → World
last_world w [] = w
last_world w (s ∷ ss) = last_world s.1 ss

-- a function of a flat program leaves the mask alone, and a handler gives it back: whenever no handler runs, the mask is
-- the one with which main began
abbrev pub MaskComesBack : Type 0
MaskComesBack = (t : FlatTree) (w : World) (run : Run) (start : IsStart w) → GoesOn t w run
    → (p : Process) (main : Frame) → last_world w run ≡ p ∷ [] → p.thread.stack ≡ main ∷ [] → p.thread.mask ≡ start.mask

-- errno is a value of int at any time
abbrev pub ErrnoIsInt : Type 0
ErrnoIsInt = (t : FlatTree) (w : World) (run : Run) → IsStart w → GoesOn t w run
    → (p : Process) → last_world w run ≡ p ∷ [] → IsInt p.thread.errno
