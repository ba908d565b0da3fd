-- What is said of texts: which program a text spells, what no run of it does, and why a text spells none.
use Rattle.std.specs.Prelude.{◌≡◌, ◌⊎◌, ℕ, ◌<◌, ◌≤◌, List, length, Ok, Err}
use Rattle.base_core.specs.Limits.{most_bytes, fewest_before_large}
use Rattle.base_core.specs.declared.token.Token.{Token}
use Rattle.c_lexer.specs.Lexis.{Lexis, lexis}
use Rattle.c_lexer.specs.declared.fault.LexFault.{LexFault}
use Rattle.c_tree.specs.Tree.{ItemTree}
use Rattle.c_tree.specs.Shape.{Shape}
use Rattle.c_tree.specs.Spelling.{spell}
use Rattle.c_tree.specs.Limits.{WithinLimits}
use Rattle.c_parser.specs.Faults.{NoneBegins, NoneWithinLimitsBegins, IsFirstNested}
use Rattle.flat_programs.specs.FlatTree.{FlatTree}
use Rattle.flat_programs.specs.FlatShape.{IsFlat}
use Rattle.flat_programs.specs.FlatCondition.{IsAccepted}
use Rattle.flat_programs.specs.WholeProgram.{IsFlatProgram, program_of}
use Rattle.flat_programs.specs.World.{World, IsStart}
use Rattle.flat_programs.specs.Steps.{Run, GoesOn}
use Rattle.flat_programs.specs.Breaches.{BreaksNone}
use Rattle.asafe.specs.declared.token_fault.TokenFault.{TokenFault}
use Rattle.asafe.specs.declared.token_fault.TokenFault.TheVariants.{Syntax, Nested}

-- the tokens of the text are these, in order
abbrev pub HasTokens : List ℕ → List Token → Type 0
HasTokens text ts = (l : Lexis) × (lexis text ≡ Ok l) × (l.tokens ≡ ts)

-- ---- texts that spell a program

-- the text spells the program
pub record Spells (text : List ℕ) (items : List ItemTree) : Type 0 where
  pub shape : Shape items
  pub tokens : HasTokens text (spell items)

-- the text spells this program and no other, and it is within the limits
pub record SpellsOnly (text : List ℕ) (items : List ItemTree) : Type 0 where
  pub spells : Spells text items
  pub only : (others : List ItemTree) → Spells text others → others ≡ items
  pub limits : WithinLimits items

-- the text spells exactly one program, it is flat, the condition on its handlers holds, and no run of it, signals arriving between
-- any two steps, breaks a rule or returns from a handler with errno changed
pub record KeepsTheRules (text : List ℕ) : Type 0 where
  pub tree : FlatTree
  pub program : SpellsOnly text (program_of tree)
  pub flat : IsFlat tree
  pub accepted : IsAccepted tree
  pub runs : (w : World) (run : Run) → IsStart w → GoesOn tree w run → BreaksNone tree run

-- the text spells exactly one program, it is flat, and the condition on its handlers doesn't hold
pub record IsRefusedText (text : List ℕ) : Type 0 where
  pub tree : FlatTree
  pub program : SpellsOnly text (program_of tree)
  pub flat : IsFlat tree
  pub refused : ¬ IsAccepted tree

-- the text spells exactly one program, and it is not flat
pub record IsNotFlat (text : List ℕ) : Type 0 where
  pub items : List ItemTree
  pub program : SpellsOnly text items
  pub not_flat : ¬ IsFlatProgram items

-- the text is not too long
abbrev pub IsShort : List ℕ → Type 0
IsShort text = length text ≤ most_bytes

-- the text is not too long, and spells a program within the limits
pub record IsInSubset (text : List ℕ) : Type 0 where
  pub short : IsShort text
  pub items : List ItemTree
  pub spells : Spells text items
  pub limits : WithinLimits items

-- ---- texts that spell no program within the limits

-- no program's tokens begin with those up to token k, or more than 100 brackets are open at it for the first time
abbrev pub IsTokenFault : TokenFault → List Token → ℕ → Type 0
IsTokenFault Syntax ts k = NoneBegins ts k
IsTokenFault Nested ts k = IsFirstNested ts k

-- the text has tokens, of which token k doesn't fit
pub record HasTokenFault (text : List ℕ) (fault : TokenFault) (read : Lexis) (k : ℕ) : Type 0 where
  pub lexed : lexis text ≡ Ok read
  pub cause : IsTokenFault fault read.tokens k

-- the text has a fault of the lexis, or tokens of which one doesn't fit
abbrev pub HasFault : List ℕ → Type 0
HasFault text = ((fault : LexFault) × (lexis text ≡ Err fault)) ⊎ ((fault : TokenFault) × (read : Lexis) × (k : ℕ) × HasTokenFault text fault read k)

-- the text has tokens, and no program within the limits begins with those up to one of them
pub record PassesLimits (text : List ℕ) : Type 0 where
  pub read : Lexis
  pub lexed : lexis text ≡ Ok read
  pub token : ℕ
  pub cause : NoneWithinLimitsBegins read.tokens token

-- the text is too long, or passes the limits
abbrev pub IsTooLarge : List ℕ → Type 0
IsTooLarge text = (most_bytes < length text) ⊎ PassesLimits text

-- the text is not too long, and has too few tokens to pass a limit
pub record IsSmall (text : List ℕ) : Type 0 where
  pub short : IsShort text
  pub read : Lexis
  pub lexed : lexis text ≡ Ok read
  pub few : length read.tokens < fewest_before_large
