-- Kinds of tokens, as the rules of the grammar tell them apart (C11 6.4.1 and 6.4.6).
use Rattle.std.specs.Prelude.{ℕ, ◌≡◌, ◌==◌, List, [], ◌∷◌, length, map, Bool, Option, Some, None, if◌then◌else◌, codes}
use Rattle.std.specs.Str.{bytes_eq}
use denote.Enum.Bare.{sameb}
use Rattle.base_core.specs.Keywords as lexis
use Rattle.base_core.specs.declared.token.Class.{Class}
use Rattle.base_core.specs.declared.token.Class.TheVariants as class
use Rattle.base_core.specs.declared.token.Token.{Token}
use Rattle.c_tree.specs.declared.tree.AssignOp.{AssignOp}
use Rattle.c_tree.specs.declared.tree.AssignOp.TheVariants as a
use Rattle.c_tree.specs.declared.tree.BinaryOp.{BinaryOp}
use Rattle.c_tree.specs.declared.tree.BinaryOp.TheVariants as b
use Rattle.c_tree.specs.declared.tree.UnaryOp.{UnaryOp}
use Rattle.c_tree.specs.declared.tree.UnaryOp.TheVariants as u
use Rattle.c_tree.specs.declared.tree.StepOp.{StepOp}
use Rattle.c_tree.specs.declared.tree.StepOp.TheVariants as s
use Rattle.c_tree.specs.Tree.{Name}
use Rattle.c_tree.specs.TypeWords.{is_among}
use Rattle.c_tree.specs.Marks.{Tokens, keyword, name_token, integer_token, character_token, text_token, mark}
use Rattle.c_grammar.specs.declared.kind.Kind.{Kind}
use Rattle.c_grammar.specs.declared.kind.Kind.TheVariants as k
use Rattle.c_grammar.specs.contracts.kind.Kind.{the_type}

unfoldable pub same_kind : Kind → Kind → Bool
same_kind = sameb the_type

-- the token of a kind: of a class, the one with this text
abbrev pub token_of : Kind → Name → Token
token_of k.Nothing n = name_token n
token_of k.Foreign n = name_token n
token_of k.Name n = name_token n
token_of k.TypeName n = name_token n
token_of k.Integer n = integer_token n
token_of k.Character n = character_token n
token_of k.Text n = text_token n
token_of k.Break n = keyword (codes "break")
token_of k.Case n = keyword (codes "case")
token_of k.Char n = keyword (codes "char")
token_of k.Const n = keyword (codes "const")
token_of k.Continue n = keyword (codes "continue")
token_of k.Default n = keyword (codes "default")
token_of k.Do n = keyword (codes "do")
token_of k.Else n = keyword (codes "else")
token_of k.Enum n = keyword (codes "enum")
token_of k.Extern n = keyword (codes "extern")
token_of k.For n = keyword (codes "for")
token_of k.Goto n = keyword (codes "goto")
token_of k.If n = keyword (codes "if")
token_of k.Int n = keyword (codes "int")
token_of k.Long n = keyword (codes "long")
token_of k.Return n = keyword (codes "return")
token_of k.Short n = keyword (codes "short")
token_of k.Signed n = keyword (codes "signed")
token_of k.Sizeof n = keyword (codes "sizeof")
token_of k.Static n = keyword (codes "static")
token_of k.Struct n = keyword (codes "struct")
token_of k.Switch n = keyword (codes "switch")
token_of k.Typedef n = keyword (codes "typedef")
token_of k.Unsigned n = keyword (codes "unsigned")
token_of k.Void n = keyword (codes "void")
token_of k.Volatile n = keyword (codes "volatile")
token_of k.While n = keyword (codes "while")
token_of k.OpenBrace n = mark (codes "{")
token_of k.CloseBrace n = mark (codes "}")
token_of k.OpenParen n = mark (codes "(")
token_of k.CloseParen n = mark (codes ")")
token_of k.OpenBracket n = mark (codes "[")
token_of k.CloseBracket n = mark (codes "]")
token_of k.Semicolon n = mark (codes ";")
token_of k.Comma n = mark (codes ",")
token_of k.Dot n = mark (codes ".")
token_of k.Arrow n = mark (codes "->")
token_of k.Question n = mark (codes "?")
token_of k.Colon n = mark (codes ":")
token_of k.Tilde n = mark (codes "~")
token_of k.Exclamation n = mark (codes "!")
token_of k.BarBar n = mark (codes "||")
token_of k.AmpersandAmpersand n = mark (codes "&&")
token_of k.Bar n = mark (codes "|")
token_of k.Caret n = mark (codes "^")
token_of k.Ampersand n = mark (codes "&")
token_of k.EqualEqual n = mark (codes "==")
token_of k.NotEqual n = mark (codes "!=")
token_of k.Less n = mark (codes "<")
token_of k.Greater n = mark (codes ">")
token_of k.LessEqual n = mark (codes "<=")
token_of k.GreaterEqual n = mark (codes ">=")
token_of k.LessLess n = mark (codes "<<")
token_of k.GreaterGreater n = mark (codes ">>")
token_of k.Plus n = mark (codes "+")
token_of k.Minus n = mark (codes "-")
token_of k.Star n = mark (codes "*")
token_of k.Slash n = mark (codes "/")
token_of k.Percent n = mark (codes "%")
token_of k.Assign n = mark (codes "=")
token_of k.StarAssign n = mark (codes "*=")
token_of k.SlashAssign n = mark (codes "/=")
token_of k.PercentAssign n = mark (codes "%=")
token_of k.PlusAssign n = mark (codes "+=")
token_of k.MinusAssign n = mark (codes "-=")
token_of k.LessLessAssign n = mark (codes "<<=")
token_of k.GreaterGreaterAssign n = mark (codes ">>=")
token_of k.AmpersandAssign n = mark (codes "&=")
token_of k.CaretAssign n = mark (codes "^=")
token_of k.BarAssign n = mark (codes "|=")
token_of k.PlusPlus n = mark (codes "++")
token_of k.MinusMinus n = mark (codes "--")

abbrev pub keywords : List Kind
keywords =
    k.Break ∷ k.Case ∷ k.Char ∷ k.Const ∷ k.Continue ∷ k.Default ∷ k.Do ∷ k.Else ∷ k.Enum ∷ k.Extern ∷ k.For ∷ k.Goto ∷ k.If ∷ k.Int ∷ k.Long ∷ k.Return ∷ k.Short ∷ k.Signed ∷ k.Sizeof ∷ k.Static ∷ k.Struct ∷ k.Switch ∷ k.Typedef ∷ k.Unsigned ∷ k.Void ∷ k.Volatile ∷ k.While ∷ []

abbrev pub marks : List Kind
marks =
    k.OpenBrace ∷ k.CloseBrace ∷ k.OpenParen ∷ k.CloseParen ∷ k.OpenBracket ∷ k.CloseBracket ∷ k.Semicolon ∷ k.Comma ∷ k.Dot ∷ k.Arrow ∷ k.Question ∷ k.Colon ∷ k.Tilde ∷ k.Exclamation ∷ k.BarBar ∷ k.AmpersandAmpersand ∷ k.Bar ∷ k.Caret ∷ k.Ampersand ∷ k.EqualEqual ∷ k.NotEqual ∷ k.Less ∷ k.Greater ∷ k.LessEqual ∷ k.GreaterEqual ∷ k.LessLess ∷ k.GreaterGreater ∷ k.Plus ∷ k.Minus ∷ k.Star ∷ k.Slash ∷ k.Percent ∷ k.Assign ∷ k.StarAssign ∷ k.SlashAssign ∷ k.PercentAssign ∷ k.PlusAssign ∷ k.MinusAssign ∷ k.LessLessAssign ∷ k.GreaterGreaterAssign ∷ k.AmpersandAssign ∷ k.CaretAssign ∷ k.BarAssign ∷ k.PlusPlus ∷ k.MinusMinus ∷ []

abbrev pub text_of : Kind → Name
text_of k = (token_of k []).lexeme

-- the keywords that the rules tell apart are the keywords of the subset, in that order (C11 6.4.1)
abbrev pub KeywordsAreThoseOfTheLexis : Type 0
KeywordsAreThoseOfTheLexis = map text_of keywords ≡ lexis.keywords

-- the first of these kinds that has this text
abbrev pub among : List Kind → Name → Kind
among [] text = k.Foreign
among (x ∷ xs) text = if bytes_eq text (text_of x) then x else among xs text

-- those whose text has this many bytes
abbrev pub of_length : ℕ → List Kind → List Kind
of_length n [] = []
of_length n (x ∷ xs) = if length (text_of x) == n then x ∷ of_length n xs else of_length n xs

unfoldable pub keyword_kind : Name → Kind
keyword_kind text = among keywords text

unfoldable pub mark_kind : Name → Kind
mark_kind text = among marks text

abbrev pub kind_by : Class → Name → Kind
kind_by class.Keyword text = keyword_kind text
kind_by class.Name text = k.Name
kind_by class.Integer text = k.Integer
kind_by class.Character text = k.Character
kind_by class.Text text = k.Text
kind_by class.Punctuator text = mark_kind text

abbrev pub kind_of : Token → Kind
kind_of t = kind_by t.class t.lexeme

-- the kind of a token at a place where these names are types
abbrev pub sorted : List Name → Kind → Name → Kind
sorted types k.Name n = if is_among types n then k.TypeName else k.Name
sorted types kind n = kind

-- the kind of the next token
unfoldable pub kind : List Name → Tokens → Kind
kind types [] = k.Nothing
kind types (t ∷ ts) = sorted types (kind_of t) t.lexeme

-- what a token of the kind is between, before or behind operands
abbrev pub binary_operator : Kind → Option BinaryOp
binary_operator k.BarBar = Some b.Or
binary_operator k.AmpersandAmpersand = Some b.And
binary_operator k.Bar = Some b.BitOr
binary_operator k.Caret = Some b.BitXor
binary_operator k.Ampersand = Some b.BitAnd
binary_operator k.EqualEqual = Some b.Equal
binary_operator k.NotEqual = Some b.Unequal
binary_operator k.Less = Some b.Less
binary_operator k.Greater = Some b.Greater
binary_operator k.LessEqual = Some b.AtMost
binary_operator k.GreaterEqual = Some b.AtLeast
binary_operator k.LessLess = Some b.ShiftLeft
binary_operator k.GreaterGreater = Some b.ShiftRight
binary_operator k.Plus = Some b.Add
binary_operator k.Minus = Some b.Sub
binary_operator k.Star = Some b.Mul
binary_operator k.Slash = Some b.Div
binary_operator k.Percent = Some b.Rem
binary_operator _ = None

abbrev pub assignment_operator : Kind → Option AssignOp
assignment_operator k.Assign = Some a.Plain
assignment_operator k.StarAssign = Some a.Mul
assignment_operator k.SlashAssign = Some a.Div
assignment_operator k.PercentAssign = Some a.Rem
assignment_operator k.PlusAssign = Some a.Add
assignment_operator k.MinusAssign = Some a.Sub
assignment_operator k.LessLessAssign = Some a.ShiftLeft
assignment_operator k.GreaterGreaterAssign = Some a.ShiftRight
assignment_operator k.AmpersandAssign = Some a.BitAnd
assignment_operator k.CaretAssign = Some a.BitXor
assignment_operator k.BarAssign = Some a.BitOr
assignment_operator _ = None

abbrev pub unary_operator : Kind → Option UnaryOp
unary_operator k.Ampersand = Some u.Address
unary_operator k.Star = Some u.Follow
unary_operator k.Plus = Some u.Plus
unary_operator k.Minus = Some u.Minus
unary_operator k.Tilde = Some u.BitNot
unary_operator k.Exclamation = Some u.Not
unary_operator _ = None

abbrev pub step_operator : Kind → Option StepOp
step_operator k.PlusPlus = Some s.Up
step_operator k.MinusMinus = Some s.Down
step_operator _ = None

-- the kind of an operator's token
abbrev pub operator_kind : BinaryOp → Kind
operator_kind b.Or = k.BarBar
operator_kind b.And = k.AmpersandAmpersand
operator_kind b.BitOr = k.Bar
operator_kind b.BitXor = k.Caret
operator_kind b.BitAnd = k.Ampersand
operator_kind b.Equal = k.EqualEqual
operator_kind b.Unequal = k.NotEqual
operator_kind b.Less = k.Less
operator_kind b.Greater = k.Greater
operator_kind b.AtMost = k.LessEqual
operator_kind b.AtLeast = k.GreaterEqual
operator_kind b.ShiftLeft = k.LessLess
operator_kind b.ShiftRight = k.GreaterGreater
operator_kind b.Add = k.Plus
operator_kind b.Sub = k.Minus
operator_kind b.Mul = k.Star
operator_kind b.Div = k.Slash
operator_kind b.Rem = k.Percent

abbrev pub assignment_kind : AssignOp → Kind
assignment_kind a.Plain = k.Assign
assignment_kind a.Mul = k.StarAssign
assignment_kind a.Div = k.SlashAssign
assignment_kind a.Rem = k.PercentAssign
assignment_kind a.Add = k.PlusAssign
assignment_kind a.Sub = k.MinusAssign
assignment_kind a.ShiftLeft = k.LessLessAssign
assignment_kind a.ShiftRight = k.GreaterGreaterAssign
assignment_kind a.BitAnd = k.AmpersandAssign
assignment_kind a.BitXor = k.CaretAssign
assignment_kind a.BitOr = k.BarAssign

abbrev pub unary_kind : UnaryOp → Kind
unary_kind u.Address = k.Ampersand
unary_kind u.Follow = k.Star
unary_kind u.Plus = k.Plus
unary_kind u.Minus = k.Minus
unary_kind u.BitNot = k.Tilde
unary_kind u.Not = k.Exclamation

abbrev pub step_kind : StepOp → Kind
step_kind s.Up = k.PlusPlus
step_kind s.Down = k.MinusMinus

-- a token has this kind, and a rule of the grammar may take it
abbrev pub IsReal : Kind → Type 0
IsReal k.Nothing = ⊥
IsReal k.Foreign = ⊥
IsReal _ = Unit {0}

-- no name has this kind, whichever names are types
abbrev pub IsUnnamed : Kind → Type 0
IsUnnamed k.Name = ⊥
IsUnnamed k.TypeName = ⊥
IsUnnamed _ = Unit {0}

-- the kind shows the class of the token, and its text too where the class is a keyword or a punctuator
abbrev pub IsFixed : Kind → Type 0
IsFixed k.Nothing = ⊥
IsFixed k.Foreign = ⊥
IsFixed k.Name = ⊥
IsFixed k.TypeName = ⊥
IsFixed _ = Unit {0}

-- the text of the next token, or nothing at the end
abbrev pub head_text : Tokens → Name
head_text [] = []
head_text (t ∷ ts) = t.lexeme

-- what follows the next token
abbrev pub tail_of : Tokens → Tokens
tail_of [] = []
tail_of (t ∷ ts) = ts
