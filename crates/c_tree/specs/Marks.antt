-- The tokens of the grammar: classes, and the texts of operators (C11 6.4.1 and 6.4.6).
use Rattle.std.specs.Prelude.{ℕ, List, codes}
use Rattle.base_core.specs.declared.token.Class.TheVariants.{Keyword, Name, Integer, Character, Text, Punctuator}
use Rattle.base_core.specs.declared.token.Token.{Token}
use Rattle.c_tree.specs.declared.tree.AssignOp.{AssignOp}
use Rattle.c_tree.specs.declared.tree.AssignOp.TheVariants as a
use Rattle.c_tree.specs.declared.tree.BinaryOp.{BinaryOp}
use Rattle.c_tree.specs.declared.tree.BinaryOp.TheVariants as b
use Rattle.c_tree.specs.declared.tree.UnaryOp.{UnaryOp}
use Rattle.c_tree.specs.declared.tree.UnaryOp.TheVariants as u
use Rattle.c_tree.specs.declared.tree.StepOp.{StepOp}
use Rattle.c_tree.specs.declared.tree.StepOp.TheVariants as s

abbrev pub Tokens : Type 0
Tokens = List Token

abbrev pub keyword : List ℕ → Token
keyword text = record { class = Keyword; lexeme = text }

abbrev pub name_token : List ℕ → Token
name_token text = record { class = Name; lexeme = text }

abbrev pub integer_token : List ℕ → Token
integer_token text = record { class = Integer; lexeme = text }

abbrev pub character_token : List ℕ → Token
character_token text = record { class = Character; lexeme = text }

abbrev pub text_token : List ℕ → Token
text_token text = record { class = Text; lexeme = text }

abbrev pub mark : List ℕ → Token
mark text = record { class = Punctuator; lexeme = text }

abbrev pub op_text : BinaryOp → List ℕ
op_text b.Or = codes "||"
op_text b.And = codes "&&"
op_text b.BitOr = codes "|"
op_text b.BitXor = codes "^"
op_text b.BitAnd = codes "&"
op_text b.Equal = codes "=="
op_text b.Unequal = codes "!="
op_text b.Less = codes "<"
op_text b.Greater = codes ">"
op_text b.AtMost = codes "<="
op_text b.AtLeast = codes ">="
op_text b.ShiftLeft = codes "<<"
op_text b.ShiftRight = codes ">>"
op_text b.Add = codes "+"
op_text b.Sub = codes "-"
op_text b.Mul = codes "*"
op_text b.Div = codes "/"
op_text b.Rem = codes "%"

abbrev pub assign_text : AssignOp → List ℕ
assign_text a.Plain = codes "="
assign_text a.Mul = codes "*="
assign_text a.Div = codes "/="
assign_text a.Rem = codes "%="
assign_text a.Add = codes "+="
assign_text a.Sub = codes "-="
assign_text a.ShiftLeft = codes "<<="
assign_text a.ShiftRight = codes ">>="
assign_text a.BitAnd = codes "&="
assign_text a.BitXor = codes "^="
assign_text a.BitOr = codes "|="

abbrev pub unary_text : UnaryOp → List ℕ
unary_text u.Address = codes "&"
unary_text u.Follow = codes "*"
unary_text u.Plus = codes "+"
unary_text u.Minus = codes "-"
unary_text u.BitNot = codes "~"
unary_text u.Not = codes "!"

abbrev pub step_text : StepOp → List ℕ
step_text s.Up = codes "++"
step_text s.Down = codes "--"
