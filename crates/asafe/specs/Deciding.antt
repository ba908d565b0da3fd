-- What is decided of the tokens of a text.
use Rattle.std.specs.Prelude.{◌≡◌, ℕ, List, Ok}
use Rattle.base_core.specs.declared.token.Token.{Token}
use Rattle.c_lexer.specs.Lexis.{Lexis, lexis}
use Rattle.c_tree.specs.Tree.{ItemTree}
use Rattle.c_tree.specs.Shape.{Shape}
use Rattle.c_tree.specs.Spelling.{spell}
use Rattle.c_tree.specs.Limits.{WithinLimits}
use Rattle.c_parser.specs.Faults.{NoneWithinLimitsBegins}
use Rattle.asafe.specs.declared.decision.Decision.{Decision}
use Rattle.asafe.specs.declared.decision.Decision.TheVariants.{Accepted, Refused, NotFlat, Misplaced, TooLarge}
use Rattle.asafe.specs.Text.{KeepsTheRules, IsRefusedText, IsNotFlat, IsTokenFault}

-- the tokens are those of exactly one program, which is within the limits
pub record IsProgram (ts : List Token) : Type 0 where
  pub items : List ItemTree
  pub shape : Shape items
  pub spelled : spell items ≡ ts
  pub only : (others : List ItemTree) → Shape others → spell others ≡ ts → others ≡ items
  pub limits : WithinLimits items

-- of each text with these tokens, or of the tokens themselves
abbrev pub Decides : Lexis → Decision → Type 0
Decides read Accepted = (text : List ℕ) → lexis text ≡ Ok read → KeepsTheRules text
Decides read Refused = (text : List ℕ) → lexis text ≡ Ok read → IsRefusedText text
Decides read NotFlat = (text : List ℕ) → lexis text ≡ Ok read → IsNotFlat text
Decides read (Misplaced fault k) = IsTokenFault fault read.tokens k
Decides read TooLarge = (k : ℕ) × NoneWithinLimitsBegins read.tokens k
