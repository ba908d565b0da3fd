-- What reading the tokens of a text comes to.
use Rattle.std.specs.Prelude.{◌≡◌, ℕ, suc, ◌≤◌, nat_lt, if◌then◌else◌, List, length, take, Result, Ok, Err}
use Rattle.base_core.specs.Limits.{most_open, most_nodes, most_depth}
use Rattle.c_tree.specs.Marks.{Tokens}
use Rattle.c_tree.specs.Tree.{ItemTree}
use Rattle.c_tree.specs.Shape.{Shape}
use Rattle.c_tree.specs.Spelling.{spell}
use Rattle.c_tree.specs.Nodes.{nodes}
use Rattle.c_tree.specs.Depth.{depth}
use Rattle.c_tree.specs.Limits.{NestsAtMost}
use Rattle.c_parser.specs.declared.fault.ParseFault.{ParseFault}
use Rattle.c_parser.specs.declared.fault.ParseFault.TheVariants.{Syntax, Nested, Large, NoMemory}
use Rattle.c_parser.specs.Faults.{NoneBegins, NoneWithinLimitsBegins, IsFirstNested}

-- the tokens are those of this program, which is within the limits but perhaps that on brackets
pub record IsRead (ts : Tokens) (xs : List ItemTree) : Type 0 where
  pub shape : Shape xs
  pub spelled : spell xs ≡ ts
  pub few : length (nodes xs) ≤ most_nodes
  pub shallow : depth xs ≤ most_depth

-- the fault is in the tokens
abbrev pub IsFault : Tokens → ParseFault → Type 0
IsFault ts (Syntax k) = NoneBegins ts k
IsFault ts (Nested k) = IsFirstNested ts k
IsFault ts (Large k) = NoneWithinLimitsBegins ts k
IsFault ts NoMemory = Unit {0}

-- no more than 100 brackets are open before the fault, nor at it, unless it tells of them
abbrev pub IsFirstFault : Tokens → ParseFault → Type 0
IsFirstFault ts (Syntax k) = NestsAtMost most_open (take (suc k) ts)
IsFirstFault ts (Nested k) = Unit {0}
IsFirstFault ts (Large k) = NestsAtMost most_open (take (suc k) ts)
IsFirstFault ts NoMemory = Unit {0}

-- of a fault in the tokens before token k, at which too many brackets are open first, and that of token k: the first
abbrev pub earlier : ParseFault → ℕ → ParseFault
earlier (Syntax j) k = if nat_lt j k then Syntax j else Nested k
earlier (Nested j) k = Nested k
earlier (Large j) k = if nat_lt j k then Large j else Nested k
earlier NoMemory k = NoMemory

abbrev pub IsNoMemory : ParseFault → Type 0
IsNoMemory NoMemory = Unit {0}
IsNoMemory _ = ⊥

-- all went well, or memory failed
abbrev pub IsOkOrNoMemory : {A : Type 0} → Result A ParseFault → Type 0
IsOkOrNoMemory (Ok p) = Unit {0}
IsOkOrNoMemory (Err fault) = IsNoMemory fault
