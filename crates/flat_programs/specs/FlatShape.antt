-- Which trees are flat programs.
use Rattle.std.specs.Prelude.{◌≢◌, ℕ, ◌+◌, ◌≤◌, List, [], ◌∷◌, length, map, All, AllPairs, Contains}
use Rattle.flat_programs.specs.declared.flat.Statement.{Statement}
use Rattle.flat_programs.specs.declared.flat.Statement.TheVariants.{Call, Install}
use Rattle.flat_programs.specs.FlatTree.{HandlerTree, FlatTree}

-- a lower-case letter of ASCII
pub record IsLetter (byte : ℕ) : Type 0 where
  pub least : 97 ≤ byte
  pub greatest : byte ≤ 122

-- the name and the parameter of a handler are letters
pub record IsHandlerShaped (h : HandlerTree) : Type 0 where
  pub name : IsLetter h.name
  pub parameter : IsLetter h.parameter

-- an install names a signal and a handler of the program
abbrev pub IsStatementShaped : List HandlerTree → Statement → Type 0
IsStatementShaped handlers (Call f) = Unit {0}
IsStatementShaped handlers (Install signal handler) = (1 ≤ signal) × (signal ≤ 28) × Contains (map (λ (h : HandlerTree). h.name) handlers) handler

-- how many calls stand in the handlers
abbrev pub calls_in : List HandlerTree → ℕ
calls_in [] = 0
calls_in (h ∷ hs) = length h.calls + calls_in hs

-- the tree is a flat program: the names of its handlers are letters and differ, each install names a signal and one of
-- the handlers, and at most 100 calls and installs stand in it
pub record IsFlat (t : FlatTree) : Type 0 where
  pub handlers : All IsHandlerShaped t.handlers
  pub different : AllPairs (λ (a b : ℕ). a ≢ b) (map (λ (h : HandlerTree). h.name) t.handlers)
  pub statements : All (IsStatementShaped t.handlers) t.statements
  pub few : calls_in t.handlers + length t.statements ≤ 100
