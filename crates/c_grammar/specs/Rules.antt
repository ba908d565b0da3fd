-- The rules of the grammar (C11 6.5 to 6.9, for what the subset keeps), as a parser reads them: each rule looks at one token
-- to choose how it goes on.
--
-- Each rule is given the names that are types, and those that may not be declared. d counts the nodes that lie above what is read, so that a node read there has
-- depth d + 1. owed counts the nodes that the first token makes necessary and that were not counted before: those that stand
-- in its place whatever follows are counted with the token that asks for them.
use Rattle.std.specs.Prelude.{ℕ, suc, ◌+◌, Bool, true, false, ◌&&◌, ◌||◌, nat_le, List, [], ◌∷◌, ◌++◌, Option, Some, None, if◌then◌else◌}
use Rattle.c_tree.specs.declared.tree.AssignOp.TheVariants as a
use Rattle.c_tree.specs.declared.tree.BinaryOp.TheVariants as b
use Rattle.c_tree.specs.declared.tree.UnaryOp.TheVariants as u
use Rattle.c_tree.specs.declared.tree.StepOp.TheVariants as s
use Rattle.c_tree.specs.declared.tree.Storage.{Storage}
use Rattle.c_tree.specs.declared.tree.Storage.TheVariants as st
use Rattle.c_tree.specs.declared.tree.Qual.{Qual}
use Rattle.c_tree.specs.declared.tree.Qual.TheVariants as q
use Rattle.c_tree.specs.declared.type_word.TypeWord.{TypeWord}
use Rattle.c_tree.specs.declared.type_word.TypeWord.TheVariants as tw
use Rattle.c_tree.specs.TypeWords.{is_one_type, is_among, has_tag}
use Rattle.c_tree.specs.ExpressionShape.{op_level, level}
use Rattle.c_tree.specs.Shape.{Scope, Context, of_loop, of_branch, of_block, of_switch, outside, behind_specifiers, behind_named, behind_item}
use Rattle.c_tree.specs.Tree.{Name, Quals, Stars, Expression, comma, assign, choose, binary, cast, unary, before, size_of, size_of_type, index, call, dot, arrow, after, name, integer, character, text, paren, Expressions, no_expressions, expressions, Sizes, no_sizes, open_size, size, TypeTree, typed, Specifiers, no_specifiers, specifiers, Specifier, const_word, volatile_word, void_word, char_word, short_word, int_word, long_word, signed_word, unsigned_word, type_name, struct_tag, struct_of, enum_tag, enum_of, Members, no_members, member, Declarators, no_declarators, declarators, Enumerators, no_enumerators, enumerator, enumerator_with, DeclaratorTree, plain, array, function, pointer, Parameters, no_parameters, parameters, ParameterForm, named_form, bare_form, BareTree, bare_stars, bare_pointer, Initializer, single, listed, Initializers, no_initializers, initializers, NamedTree, DeclarationTree, ForStartTree, start_declaration, start_expression, StatementTree, block, declaration, expression_statement, if_statement, if_else_statement, while_statement, do_statement, for_statement, switch_statement, case_label, default_label, named_label, break_statement, continue_statement, return_statement, goto_statement, Statements, no_statements, statements, ItemTree, function_item, declaration_item}
use Rattle.c_grammar.specs.declared.kind.Kind.{Kind}
use Rattle.c_grammar.specs.declared.kind.Kind.TheVariants as k
use Rattle.c_grammar.specs.declared.infix.First.{First}
use Rattle.c_grammar.specs.declared.infix.First.TheVariants as fi
use Rattle.c_grammar.specs.declared.infix.Infix.{Infix}
use Rattle.c_grammar.specs.declared.infix.Infix.TheVariants as ix
use Rattle.c_grammar.specs.declared.start.Start.{Start}
use Rattle.c_grammar.specs.declared.start.Start.TheVariants as sp
use Rattle.c_grammar.specs.declared.start.TypeKeyword.{TypeKeyword}
use Rattle.c_grammar.specs.declared.start.TypeKeyword.TheVariants as kw
use Rattle.c_grammar.specs.Kind.{same_kind}
use Rattle.c_grammar.specs.Body.{Body, done, stop, look, take, spend, rise, scope}
use Rattle.c_grammar.specs.Body as body

-- what the names mean where a token is read: those that are types, and those that are reserved: they may be used, but not be declared
pub record NameEnvironment : Type 0 where
  pub types : List Name
  pub reserved : List Name

-- the names that may not be declared
abbrev pub barred : NameEnvironment → List Name
barred t = t.reserved ++ t.types

-- behind this name in its own declarator: there the name of a type is reserved
abbrev pub inside : Bool → Name → NameEnvironment → NameEnvironment
inside y n t = record { types = t.types; reserved = if y then n ∷ [] else t.reserved }

-- these names are types, and none is reserved
abbrev pub only_types : List Name → NameEnvironment
only_types types = record { types = types; reserved = [] }

pub data Rule : Type 0 where
  -- an expression of at least a level: types, d, level, owed
  an_expression : NameEnvironment → ℕ → ℕ → ℕ → Rule
  -- the same, in its own scope
  a_whole : NameEnvironment → ℕ → ℕ → ℕ → Rule
  -- its first operand
  a_prefix : NameEnvironment → ℕ → ℕ → ℕ → Rule
  -- how an expression goes on behind one that was read
  a_rest : NameEnvironment → ℕ → ℕ → Expression → Rule
  -- the operand of sizeof whose bracket was read
  an_opened : NameEnvironment → ℕ → Rule
  more_texts : Rule
  -- the arguments of a call, with the closing bracket
  all_arguments : NameEnvironment → ℕ → Rule
  more_arguments : NameEnvironment → ℕ → Rule
  a_type : NameEnvironment → ℕ → Rule
  -- specifiers, behind those of these words; perhaps with a name to follow them, unless they have a struct or an enum
  all_specifiers : NameEnvironment → ℕ → Bool → List TypeWord → Rule
  -- behind the word struct
  a_struct : NameEnvironment → ℕ → Rule
  -- the members of a struct, with the closing brace
  all_members : NameEnvironment → ℕ → Rule
  more_members : NameEnvironment → ℕ → Rule
  all_declarators : NameEnvironment → ℕ → Rule
  more_declarators : NameEnvironment → ℕ → Rule
  -- behind the word enum
  an_enum : NameEnvironment → ℕ → Rule
  -- the enumerators, with the closing brace
  all_enumerators : NameEnvironment → ℕ → Rule
  more_enumerators : NameEnvironment → ℕ → Rule
  all_stars : Rule
  all_quals : Rule
  -- a declarator, perhaps of a function, perhaps of a type
  a_declarator : NameEnvironment → ℕ → Bool → Bool → Rule
  all_sizes : NameEnvironment → ℕ → Rule
  at_most_one_size : NameEnvironment → ℕ → Rule
  -- the parameters of a function, with the closing bracket
  all_parameters : NameEnvironment → ℕ → Rule
  some_parameters : NameEnvironment → ℕ → Rule
  more_parameters : NameEnvironment → ℕ → Rule
  a_parameter : NameEnvironment → ℕ → Rule
  a_bare : NameEnvironment → ℕ → Rule
  an_initializer : NameEnvironment → ℕ → ℕ → Rule
  -- the parts of a list of initialisers, with the closing brace
  all_initializers : NameEnvironment → ℕ → ℕ → Rule
  more_initializers : NameEnvironment → ℕ → Rule
  -- a declaration inside a function
  a_declaration : NameEnvironment → ℕ → Rule
  a_declared : NameEnvironment → ℕ → Storage → Rule
  a_named : NameEnvironment → ℕ → Rule
  -- the names behind the first, with the semicolon
  more_named : NameEnvironment → ℕ → Rule
  -- an expression and this token, or the token alone
  an_optional : NameEnvironment → ℕ → Kind → Rule
  a_start : NameEnvironment → ℕ → Rule
  a_statement : NameEnvironment → ℕ → Context → ℕ → Rule
  -- the statements of a block, with the closing brace
  all_statements : NameEnvironment → ℕ → Context → Rule
  -- a name that is declared outside functions
  an_outer : Storage → Scope → Rule
  more_outer : Storage → Scope → Rule
  -- the declarator of a function or of the first name of a declaration
  a_first : NameEnvironment → Rule
  an_item : Scope → Rule
  all_items : Scope → Rule

-- what a rule reads
abbrev pub Result : Rule → Type 0
Result (an_expression t d l o) = Expression
Result (a_whole t d l o) = Expression
Result (a_prefix t d l o) = Expression
Result (a_rest t d l x) = Expression
Result (an_opened t d) = Expression
Result more_texts = List Name
Result (all_arguments t d) = Expressions
Result (more_arguments t d) = Expressions
Result (a_type t d) = TypeTree
Result (all_specifiers t d b ws) = Specifiers
Result (a_struct t d) = Specifier
Result (all_members t d) = Members
Result (more_members t d) = Members
Result (all_declarators t d) = Declarators
Result (more_declarators t d) = Declarators
Result (an_enum t d) = Specifier
Result (all_enumerators t d) = Enumerators × Bool
Result (more_enumerators t d) = Enumerators × Bool
Result all_stars = Stars
Result all_quals = Quals
Result (a_declarator t d f y) = DeclaratorTree
Result (all_sizes t d) = Sizes
Result (at_most_one_size t d) = Sizes
Result (all_parameters t d) = Parameters × Bool
Result (some_parameters t d) = Parameters
Result (more_parameters t d) = Parameters
Result (a_parameter t d) = Specifiers × ParameterForm
Result (a_bare t d) = BareTree
Result (an_initializer t d o) = Initializer
Result (all_initializers t d o) = Initializers × Bool
Result (more_initializers t d) = Initializers × Bool
Result (a_declaration t d) = DeclarationTree
Result (a_declared t d c) = DeclarationTree
Result (a_named t d) = NamedTree
Result (more_named t d) = List NamedTree
Result (an_optional t d e) = Option Expression
Result (a_start t d) = ForStartTree
Result (a_statement t d p o) = StatementTree
Result (all_statements t d p) = Statements
Result (an_outer c s) = NamedTree
Result (more_outer c s) = List NamedTree
Result (a_first t) = DeclaratorTree
Result (an_item s) = ItemTree
Result (all_items s) = List ItemTree

abbrev pub Reads : Type 0 → Type 0
Reads A = Body Rule Result A

infixl 10 ◌>>=◌
abbrev pub ◌>>=◌ : {A : Type 0} → (r : Rule) → (Result r → Reads A) → Reads A
r >>= f = body.call r f

-- steps that read no value
infixr 10 ◌>>◌
abbrev pub ◌>>◌ : {A : Type 0} → (Reads A → Reads A) → Reads A → Reads A
p >> f = p f

abbrev pub skip : {A : Type 0} → Reads A → Reads A
skip f = take (λ n. f)

-- a token of this kind
abbrev pub expect : {A : Type 0} → Kind → Reads A → Reads A
expect e f = look [] (λ j. if same_kind j e then take (λ n. f) else stop)

-- a name that is no type, and none of these
abbrev pub named_by : {A : Type 0} → List Name → (Name → Reads A) → Kind → Reads A
named_by ns f k.Name = take (λ n. if is_among ns n then stop else f n)
named_by ns f _ = stop

abbrev pub a_name : {A : Type 0} → NameEnvironment → (Name → Reads A) → Reads A
a_name t f = look t.types (named_by [] f)

-- a name that may be declared
abbrev pub a_new_name : {A : Type 0} → NameEnvironment → (Name → Reads A) → Reads A
a_new_name t f = look (barred t) (named_by [] f)

-- ---- expressions

-- what an operand begins with
abbrev pub first_of_operand : Kind → Option First
first_of_operand k.Name = Some fi.Word
first_of_operand k.Integer = Some fi.Number
first_of_operand k.Character = Some fi.Character
first_of_operand k.Text = Some fi.Text
first_of_operand k.OpenParen = Some fi.Open
first_of_operand k.Sizeof = Some fi.Sizeof
first_of_operand k.PlusPlus = Some (fi.Step s.Up)
first_of_operand k.MinusMinus = Some (fi.Step s.Down)
first_of_operand k.Ampersand = Some (fi.Unary u.Address)
first_of_operand k.Star = Some (fi.Unary u.Follow)
first_of_operand k.Plus = Some (fi.Unary u.Plus)
first_of_operand k.Minus = Some (fi.Unary u.Minus)
first_of_operand k.Tilde = Some (fi.Unary u.BitNot)
first_of_operand k.Exclamation = Some (fi.Unary u.Not)
first_of_operand _ = None

-- what an expression goes on with
abbrev pub infix_of : Kind → Option Infix
infix_of k.Comma = Some ix.Comma
infix_of k.Assign = Some (ix.Assign a.Plain)
infix_of k.StarAssign = Some (ix.Assign a.Mul)
infix_of k.SlashAssign = Some (ix.Assign a.Div)
infix_of k.PercentAssign = Some (ix.Assign a.Rem)
infix_of k.PlusAssign = Some (ix.Assign a.Add)
infix_of k.MinusAssign = Some (ix.Assign a.Sub)
infix_of k.LessLessAssign = Some (ix.Assign a.ShiftLeft)
infix_of k.GreaterGreaterAssign = Some (ix.Assign a.ShiftRight)
infix_of k.AmpersandAssign = Some (ix.Assign a.BitAnd)
infix_of k.CaretAssign = Some (ix.Assign a.BitXor)
infix_of k.BarAssign = Some (ix.Assign a.BitOr)
infix_of k.Question = Some ix.Question
infix_of k.BarBar = Some (ix.Operator b.Or)
infix_of k.AmpersandAmpersand = Some (ix.Operator b.And)
infix_of k.Bar = Some (ix.Operator b.BitOr)
infix_of k.Caret = Some (ix.Operator b.BitXor)
infix_of k.Ampersand = Some (ix.Operator b.BitAnd)
infix_of k.EqualEqual = Some (ix.Operator b.Equal)
infix_of k.NotEqual = Some (ix.Operator b.Unequal)
infix_of k.Less = Some (ix.Operator b.Less)
infix_of k.Greater = Some (ix.Operator b.Greater)
infix_of k.LessEqual = Some (ix.Operator b.AtMost)
infix_of k.GreaterEqual = Some (ix.Operator b.AtLeast)
infix_of k.LessLess = Some (ix.Operator b.ShiftLeft)
infix_of k.GreaterGreater = Some (ix.Operator b.ShiftRight)
infix_of k.Plus = Some (ix.Operator b.Add)
infix_of k.Minus = Some (ix.Operator b.Sub)
infix_of k.Star = Some (ix.Operator b.Mul)
infix_of k.Slash = Some (ix.Operator b.Div)
infix_of k.Percent = Some (ix.Operator b.Rem)
infix_of k.OpenBracket = Some ix.Index
infix_of k.OpenParen = Some ix.Call
infix_of k.Dot = Some ix.Dot
infix_of k.Arrow = Some ix.Arrow
infix_of k.PlusPlus = Some (ix.Step s.Up)
infix_of k.MinusMinus = Some (ix.Step s.Down)
infix_of _ = None

-- the level of the expression that it makes, and the least level of the operand before it
abbrev pub own_level : Option Infix → ℕ
own_level None = 0
own_level (Some ix.Comma) = 1
own_level (Some (ix.Assign o)) = 2
own_level (Some ix.Question) = 3
own_level (Some (ix.Operator o)) = op_level o
own_level (Some ix.Index) = 16
own_level (Some ix.Call) = 16
own_level (Some ix.Dot) = 16
own_level (Some ix.Arrow) = 16
own_level (Some (ix.Step o)) = 16

abbrev pub left_level : Option Infix → ℕ
left_level None = 0
left_level (Some ix.Comma) = 1
left_level (Some (ix.Assign o)) = 15
left_level (Some ix.Question) = 4
left_level (Some (ix.Operator o)) = op_level o
left_level (Some ix.Index) = 16
left_level (Some ix.Call) = 16
left_level (Some ix.Dot) = 16
left_level (Some ix.Arrow) = 16
left_level (Some (ix.Step o)) = 16

-- an expression of at least this level goes on behind one of that level
abbrev pub goes_on : ℕ → Option Infix → ℕ → Bool
goes_on least i l = nat_le least (own_level i) && nat_le (left_level i) l

-- the specifier that is this qualifier, and the one that is this keyword
abbrev pub qualifier_of : Qual → Specifier
qualifier_of q.Const = const_word
qualifier_of q.Volatile = volatile_word

abbrev pub keyword_of : TypeKeyword → Specifier
keyword_of kw.Void = void_word
keyword_of kw.Char = char_word
keyword_of kw.Short = short_word
keyword_of kw.Int = int_word
keyword_of kw.Long = long_word
keyword_of kw.Signed = signed_word
keyword_of kw.Unsigned = unsigned_word

-- the word of the type that a keyword is
abbrev pub type_word : TypeKeyword → TypeWord
type_word kw.Void = tw.Void
type_word kw.Char = tw.Char
type_word kw.Short = tw.Short
type_word kw.Int = tw.Int
type_word kw.Long = tw.Long
type_word kw.Signed = tw.Signed
type_word kw.Unsigned = tw.Unsigned

-- what the specifiers of a type begin with, and go on with
abbrev pub start_of : Kind → Option Start
start_of k.Const = Some (sp.Qualifier q.Const)
start_of k.Volatile = Some (sp.Qualifier q.Volatile)
start_of k.Void = Some (sp.Keyword kw.Void)
start_of k.Char = Some (sp.Keyword kw.Char)
start_of k.Short = Some (sp.Keyword kw.Short)
start_of k.Int = Some (sp.Keyword kw.Int)
start_of k.Long = Some (sp.Keyword kw.Long)
start_of k.Signed = Some (sp.Keyword kw.Signed)
start_of k.Unsigned = Some (sp.Keyword kw.Unsigned)
start_of k.TypeName = Some sp.TypeName
start_of k.Struct = Some sp.Struct
start_of k.Enum = Some sp.Enum
start_of _ = None

abbrev pub is_start : Option Start → Bool
is_start None = false
is_start _ = true

-- a type begins with it
abbrev pub begins_type : Kind → Bool
begins_type k = is_start (start_of k)

-- a declaration inside a function begins with it
abbrev pub begins_declaration : Kind → Bool
begins_declaration k.Static = true
begins_declaration k.Extern = true
begins_declaration k = begins_type k

-- a declarator begins with it
abbrev pub begins_declarator : Kind → Bool
begins_declarator k.Star = true
begins_declarator k.Name = true
begins_declarator k.OpenParen = true
begins_declarator _ = false

-- in brackets: a type and an operand, or an expression; no cast stands where a unary expression has to
abbrev pub opened_by : NameEnvironment → ℕ → ℕ → Kind → Reads Expression
opened_by t d least kind =
    if begins_type kind && nat_le least 14
    then (do
      y ← a_type t (d + 1)
      expect k.CloseParen
      x ← an_expression t (d + 1) 14 0
      done (cast y x))
    else (do
      x ← an_expression t (d + 1) 1 0
      expect k.CloseParen
      done (paren x))

-- behind sizeof and a bracket
abbrev pub sized_by : NameEnvironment → ℕ → Kind → Reads Expression
sized_by t d kind =
    if begins_type kind
    then (do
      y ← a_type t (d + 1)
      expect k.CloseParen
      done (size_of_type y))
    else scope (d + 2) (an_opened t (d + 1)) (λ x. done (size_of x))

-- behind sizeof
abbrev pub sizeof_by : NameEnvironment → ℕ → Kind → Reads Expression
sizeof_by t d k.OpenParen = skip (look t.types (sized_by t d))
sizeof_by t d _ = do
  x ← an_expression t (d + 1) 15 1
  done (size_of x)

abbrev pub prefix_by : NameEnvironment → ℕ → ℕ → ℕ → Option First → Reads Expression
prefix_by t d least owed None = stop
prefix_by t d least owed (Some fi.Word) = spend owed (d + 1) (take (λ n. done (name n)))
prefix_by t d least owed (Some fi.Number) = spend owed (d + 1) (take (λ n. done (integer n)))
prefix_by t d least owed (Some fi.Character) = spend owed (d + 1) (take (λ n. done (character n)))
prefix_by t d least owed (Some fi.Text) = spend owed (d + 1) (take (λ n. body.call more_texts (λ ns. done (text (n ∷ ns)))))
prefix_by t d least owed (Some fi.Open) = spend (owed + 1) (d + 2) (skip (look t.types (opened_by t d least)))
prefix_by t d least owed (Some fi.Sizeof) = spend owed (d + 1) (skip (look t.types (sizeof_by t d)))
prefix_by t d least owed (Some (fi.Step o)) = do
  spend (owed + 1) (d + 2)
  skip
  x ← an_expression t (d + 1) 15 0
  done (before o x)
prefix_by t d least owed (Some (fi.Unary o)) = do
  spend (owed + 1) (d + 2)
  skip
  x ← an_expression t (d + 1) 14 0
  done (unary o x)

-- how an expression of at least a level goes on behind x
abbrev pub longer : NameEnvironment → ℕ → ℕ → Expression → Option Infix → Reads Expression
longer t d least x None = done x
longer t d least x (Some ix.Comma) = do
  rise
  spend 2 (d + 2)
  skip
  y ← an_expression t (d + 1) 2 0
  z ← a_rest t d least (comma x y)
  done z
longer t d least x (Some (ix.Assign o)) = do
  rise
  spend 2 (d + 2)
  skip
  y ← an_expression t (d + 1) 2 0
  z ← a_rest t d least (assign o x y)
  done z
longer t d least x (Some ix.Question) = do
  rise
  spend 3 (d + 2)
  skip
  y ← an_expression t (d + 1) 1 0
  expect k.Colon
  w ← an_expression t (d + 1) 3 0
  z ← a_rest t d least (choose x y w)
  done z
longer t d least x (Some (ix.Operator o)) = do
  rise
  spend 2 (d + 2)
  skip
  y ← an_expression t (d + 1) (suc (op_level o)) 0
  z ← a_rest t d least (binary o x y)
  done z
longer t d least x (Some ix.Index) = do
  rise
  spend 2 (d + 2)
  skip
  y ← an_expression t (d + 1) 1 0
  expect k.CloseBracket
  z ← a_rest t d least (index x y)
  done z
longer t d least x (Some ix.Call) = do
  rise
  spend 1 (d + 1)
  skip
  xs ← all_arguments t (d + 1)
  z ← a_rest t d least (call x xs)
  done z
longer t d least x (Some ix.Dot) = rise (spend 1 (d + 1) (skip (a_name t (λ n. body.call (a_rest t d least (dot x n)) done))))
longer t d least x (Some ix.Arrow) = rise (spend 1 (d + 1) (skip (a_name t (λ n. body.call (a_rest t d least (arrow x n)) done))))
longer t d least x (Some (ix.Step o)) = do
  rise
  spend 1 (d + 1)
  skip
  z ← a_rest t d least (after o x)
  done z

abbrev pub texts_by : Kind → Reads (List Name)
texts_by k.Text = take (λ n. body.call more_texts (λ ns. done (n ∷ ns)))
texts_by _ = done []

abbrev pub arguments_by : NameEnvironment → ℕ → Kind → Reads Expressions
arguments_by t d k.CloseParen = skip (done no_expressions)
arguments_by t d _ = do
  x ← an_expression t d 2 1
  xs ← more_arguments t d
  done (expressions x xs)

abbrev pub more_arguments_by : NameEnvironment → ℕ → Kind → Reads Expressions
more_arguments_by t d k.CloseParen = skip (done no_expressions)
more_arguments_by t d k.Comma = do
  spend 1 (d + 1)
  skip
  x ← an_expression t d 2 0
  xs ← more_arguments t d
  done (expressions x xs)
more_arguments_by t d _ = stop

-- ---- types and declarators

abbrev pub ends_type : List TypeWord → Reads Specifiers
ends_type ws = if is_one_type ws then done no_specifiers else stop

-- a word that the words before it go on with
abbrev pub with_word : List TypeWord → TypeWord → Reads Specifiers → Reads Specifiers
with_word ws w f = if is_one_type (ws ++ w ∷ []) then f else ends_type ws

-- the next token makes a name of depth d + 1 necessary, or does not
abbrev pub naming : {A : Type 0} → Bool → ℕ → Reads A → Reads A
naming b d f = if b then spend 1 (d + 1) f else f

abbrev pub specifiers_by : NameEnvironment → ℕ → Bool → List TypeWord → Option Start → Reads Specifiers
specifiers_by t d b ws None = ends_type ws
specifiers_by t d b ws (Some (sp.Qualifier x)) = do
  skip
  xs ← all_specifiers t d b ws
  done (specifiers (qualifier_of x) xs)
specifiers_by t d b ws (Some (sp.Keyword x)) = with_word ws (type_word x) (naming b d (do
  skip
  xs ← all_specifiers t d false (ws ++ type_word x ∷ [])
  done (specifiers (keyword_of x) xs)))
specifiers_by t d b ws (Some sp.TypeName) = with_word ws tw.Whole (naming b d (take (λ n. body.call (all_specifiers t d false (ws ++ tw.Whole ∷ [])) (λ xs. done (specifiers (type_name n) xs)))))
specifiers_by t d b ws (Some sp.Struct) = with_word ws tw.Whole (do
  skip
  x ← a_struct t d
  xs ← all_specifiers t d false (ws ++ tw.Whole ∷ [])
  done (specifiers x xs))
specifiers_by t d b ws (Some sp.Enum) = with_word ws tw.Whole (do
  skip
  x ← an_enum t d
  xs ← all_specifiers t d false (ws ++ tw.Whole ∷ [])
  done (specifiers x xs))

-- the members, or the tag alone
abbrev pub struct_body_by : NameEnvironment → ℕ → Name → Kind → Reads Specifier
struct_body_by t d n k.OpenBrace = do
  spend 1 (d + 1)
  skip
  ms ← all_members t d
  done (struct_of (Some n) ms)
struct_body_by t d n _ = done (struct_tag n)

abbrev pub struct_by : NameEnvironment → ℕ → Kind → Reads Specifier
struct_by t d k.Name = take (λ n. look [] (struct_body_by t d n))
struct_by t d k.OpenBrace = do
  spend 1 (d + 1)
  skip
  ms ← all_members t d
  done (struct_of None ms)
struct_by t d _ = stop

abbrev pub more_members_by : NameEnvironment → ℕ → Kind → Reads Members
more_members_by t d k.CloseBrace = skip (done no_members)
more_members_by t d kind =
    if begins_type kind
    then spend 1 (d + 1) (body.call (all_members t d) done)
    else stop

abbrev pub more_declarators_by : NameEnvironment → ℕ → Kind → Reads Declarators
more_declarators_by t d k.Comma = do
  spend 1 (d + 1)
  skip
  c ← a_declarator t (d + 1) false false
  cs ← more_declarators t d
  done (declarators c cs)
more_declarators_by t d _ = done no_declarators

abbrev pub enum_body_by : NameEnvironment → ℕ → Name → Kind → Reads Specifier
enum_body_by t d n k.OpenBrace = do
  spend 1 (d + 1)
  skip
  es ← all_enumerators t d
  done (enum_of (Some n) es.0 es.1)
enum_body_by t d n _ = done (enum_tag n)

abbrev pub enum_by : NameEnvironment → ℕ → Kind → Reads Specifier
enum_by t d k.Name = take (λ n. look [] (enum_body_by t d n))
enum_by t d k.OpenBrace = do
  spend 1 (d + 1)
  skip
  es ← all_enumerators t d
  done (enum_of None es.0 es.1)
enum_by t d _ = stop

-- behind the name of an enumerator
abbrev pub enumerator_by : NameEnvironment → ℕ → Name → Kind → Reads (Enumerators × Bool)
enumerator_by t d n k.Assign = do
  spend 1 (d + 2)
  skip
  x ← an_expression t (d + 1) 3 0
  es ← more_enumerators t d
  done (enumerator_with n x es.0, es.1)
enumerator_by t d n _ = do
  es ← more_enumerators t d
  done (enumerator n es.0, es.1)

-- behind a comma: another enumerator, or the end
abbrev pub next_enumerator_by : NameEnvironment → ℕ → Kind → Reads (Enumerators × Bool)
next_enumerator_by t d k.CloseBrace = skip (done (no_enumerators, true))
next_enumerator_by t d k.Name = spend 1 (d + 1) (body.call (all_enumerators t d) done)
next_enumerator_by t d _ = stop

abbrev pub more_enumerators_by : NameEnvironment → ℕ → Kind → Reads (Enumerators × Bool)
more_enumerators_by t d k.CloseBrace = skip (done (no_enumerators, false))
more_enumerators_by t d k.Comma = skip (look (barred t) (next_enumerator_by t d))
more_enumerators_by t d _ = stop

abbrev pub stars_by : Kind → Reads Stars
stars_by k.Star = do
  skip
  qs ← all_quals
  ss ← all_stars
  done (qs ∷ ss)
stars_by _ = done []

abbrev pub quals_by : Kind → Reads Quals
quals_by k.Const = do
  skip
  qs ← all_quals
  done (q.Const ∷ qs)
quals_by k.Volatile = do
  skip
  qs ← all_quals
  done (q.Volatile ∷ qs)
quals_by _ = done []

-- behind the stars and the name of a declarator
abbrev pub declared_by : NameEnvironment → ℕ → Bool → Stars → Name → Kind → Reads DeclaratorTree
declared_by t d f ss n k.OpenBracket = do
  xs ← all_sizes t d
  done (array ss n xs)
declared_by t d f ss n k.OpenParen = if f then (do
  skip
  ps ← all_parameters t d
  done (function ss n ps.0 ps.1)) else done (plain ss n)
declared_by t d f ss n _ = done (plain ss n)

-- behind the name of a pointer to a function
abbrev pub pointed : NameEnvironment → ℕ → Stars → Quals → Name → Reads DeclaratorTree
pointed t d ss qs n = do
  xs ← at_most_one_size t d
  expect k.CloseParen
  expect k.OpenParen
  ps ← all_parameters t d
  done (pointer ss qs n xs ps.0 ps.1)

abbrev pub declarator_by : NameEnvironment → ℕ → Bool → Bool → Stars → Kind → Reads DeclaratorTree
declarator_by t d f y ss k.Name = take (λ n. look [] (declared_by (inside y n t) d f ss n))
declarator_by t d f y ss k.OpenParen = do
  skip
  expect k.Star
  qs ← all_quals
  a_new_name t (λ n. pointed (inside y n t) d ss qs n)
declarator_by t d f y ss _ = stop

abbrev pub size_by : NameEnvironment → ℕ → Kind → Reads Sizes
size_by t d k.CloseBracket = do
  skip
  xs ← all_sizes t d
  done (open_size xs)
size_by t d _ = do
  x ← an_expression t d 3 1
  expect k.CloseBracket
  xs ← all_sizes t d
  done (size x xs)

abbrev pub sizes_by : NameEnvironment → ℕ → Kind → Reads Sizes
sizes_by t d k.OpenBracket = skip (look t.types (size_by t d))
sizes_by t d _ = done no_sizes

abbrev pub one_size_by : NameEnvironment → ℕ → Kind → Reads Sizes
one_size_by t d k.CloseBracket = skip (done (open_size no_sizes))
one_size_by t d _ = do
  x ← an_expression t d 3 1
  expect k.CloseBracket
  done (size x no_sizes)

abbrev pub at_most_one_by : NameEnvironment → ℕ → Kind → Reads Sizes
at_most_one_by t d k.OpenBracket = skip (look t.types (one_size_by t d))
at_most_one_by t d _ = done no_sizes

-- the one word void is the empty list
abbrev pub listed_parameters : Parameters → Parameters × Bool
listed_parameters (parameters (specifiers void_word no_specifiers) (bare_form (bare_stars [])) no_parameters) = (no_parameters, true)
listed_parameters ps = (ps, false)

abbrev pub parameters_by : NameEnvironment → ℕ → Kind → Reads (Parameters × Bool)
parameters_by t d k.CloseParen = skip (done (no_parameters, false))
parameters_by t d _ = do
  ps ← some_parameters t d
  done (listed_parameters ps)

abbrev pub more_parameters_by : NameEnvironment → ℕ → Kind → Reads Parameters
more_parameters_by t d k.CloseParen = skip (done no_parameters)
more_parameters_by t d k.Comma = do
  skip
  ps ← some_parameters t d
  done ps
more_parameters_by t d _ = stop

abbrev pub Parameter : Type 0
Parameter = Specifiers × ParameterForm

-- behind the stars and the name of a parameter
abbrev pub parameter_name_by : NameEnvironment → ℕ → Specifiers → Stars → Name → Kind → Reads Parameter
parameter_name_by t d ws ss n k.OpenBracket = do
  xs ← all_sizes t (d + 1)
  done (ws, named_form (array ss n xs))
parameter_name_by t d ws ss n _ = done (ws, named_form (plain ss n))

-- behind the star and the qualifiers of a pointer to a function
abbrev pub parameter_pointer_by : NameEnvironment → ℕ → Specifiers → Stars → Quals → Kind → Reads Parameter
parameter_pointer_by t d ws ss qs k.Name = rise (spend 1 (d + 1) (take (λ n. (do
  xs ← at_most_one_size t (d + 1)
  expect k.CloseParen
  expect k.OpenParen
  ps ← all_parameters t (d + 1)
  done (ws, named_form (pointer ss qs n xs ps.0 ps.1))))))
parameter_pointer_by t d ws ss qs k.CloseParen = do
  skip
  expect k.OpenParen
  ps ← all_parameters t d
  done (ws, bare_form (bare_pointer ss qs ps.0 ps.1))
parameter_pointer_by t d ws ss qs _ = stop

abbrev pub parameter_by : NameEnvironment → ℕ → Specifiers → Stars → Kind → Reads Parameter
parameter_by t d ws ss k.Name = rise (spend 1 (d + 1) (take (λ n. look [] (parameter_name_by t d ws ss n))))
parameter_by t d ws ss k.OpenParen = do
  skip
  expect k.Star
  qs ← all_quals
  look (barred t) (parameter_pointer_by t d ws ss qs)
parameter_by t d ws ss _ = done (ws, bare_form (bare_stars ss))

abbrev pub bare_by : NameEnvironment → ℕ → Stars → Kind → Reads BareTree
bare_by t d ss k.OpenParen = do
  skip
  expect k.Star
  qs ← all_quals
  expect k.CloseParen
  expect k.OpenParen
  ps ← all_parameters t d
  done (bare_pointer ss qs ps.0 ps.1)
bare_by t d ss _ = done (bare_stars ss)

-- ---- initialisers and declarations

abbrev pub initializer_by : NameEnvironment → ℕ → ℕ → Kind → Reads Initializer
initializer_by t d owed k.OpenBrace = do
  spend (owed + 1) (d + 2)
  skip
  ps ← all_initializers t (d + 1) 0
  done (listed ps.0 ps.1)
initializer_by t d owed _ = do
  x ← an_expression t d 2 owed
  done (single x)

abbrev pub initializers_by : NameEnvironment → ℕ → ℕ → Kind → Reads (Initializers × Bool)
initializers_by t d owed k.Dot = spend owed (d + 1) (skip (a_name t (λ n. (do
  expect k.Assign
  i ← an_initializer t d 0
  ps ← more_initializers t d
  done (initializers (Some n) i ps.0, ps.1)))))
initializers_by t d owed _ = do
  i ← an_initializer t d owed
  ps ← more_initializers t d
  done (initializers None i ps.0, ps.1)

abbrev pub next_initializer_by : NameEnvironment → ℕ → Kind → Reads (Initializers × Bool)
next_initializer_by t d k.CloseBrace = skip (done (no_initializers, true))
next_initializer_by t d _ = do
  ps ← all_initializers t d 1
  done ps

abbrev pub more_initializers_by : NameEnvironment → ℕ → Kind → Reads (Initializers × Bool)
more_initializers_by t d k.CloseBrace = skip (done (no_initializers, false))
more_initializers_by t d k.Comma = skip (look t.types (next_initializer_by t d))
more_initializers_by t d _ = stop

abbrev pub declaration_by : NameEnvironment → ℕ → Kind → Reads DeclarationTree
declaration_by t d k.Static = do
  skip
  x ← a_declared t d st.Static
  done x
declaration_by t d k.Extern = do
  skip
  x ← a_declared t d st.Extern
  done x
declaration_by t d _ = do
  x ← a_declared t d st.Nothing
  done x

-- where the specifiers have a struct or an enum, the first declarator makes a name necessary
abbrev pub declared_names_by : NameEnvironment → ℕ → Storage → Specifiers → Kind → Reads DeclarationTree
declared_names_by t d c ws k.Semicolon = if has_tag ws then skip (done (record { storage = c; specs = ws; names = [] })) else stop
declared_names_by t d c ws kind =
    if begins_declarator kind
    then naming (has_tag ws) d (do
      n ← a_named t d
      ns ← more_named t d
      done (record { storage = c; specs = ws; names = n ∷ ns }))
    else stop

-- a function has no initialiser
abbrev pub has_initializer : DeclaratorTree → Bool
has_initializer (function ss n ps v) = false
has_initializer _ = true

-- behind a declarator, whose name has depth d: an initialiser, or none
abbrev pub named_init_by : NameEnvironment → ℕ → Bool → DeclaratorTree → Kind → Reads NamedTree
named_init_by t d may c k.Assign = if may then (do
  spend 1 (d + 1)
  skip
  i ← an_initializer t d 0
  done (record { declarator = c; init = Some i })) else stop
named_init_by t d may c _ = done (record { declarator = c; init = None })

abbrev pub more_named_by : NameEnvironment → ℕ → Kind → Reads (List NamedTree)
more_named_by t d k.Semicolon = skip (done [])
more_named_by t d k.Comma = do
  spend 1 (d + 1)
  skip
  n ← a_named t d
  ns ← more_named t d
  done (n ∷ ns)
more_named_by t d _ = stop

-- ---- statements

abbrev pub optional_by : NameEnvironment → ℕ → Kind → Kind → Reads (Option Expression)
optional_by t d e kind =
    if same_kind kind e
    then skip (done None)
    else (do
      x ← an_expression t d 1 1
      expect e
      done (Some x))

abbrev pub start_by : NameEnvironment → ℕ → Kind → Reads ForStartTree
start_by t d kind =
    if begins_declaration kind
    then spend 1 (d + 1) (do
      x ← a_declaration t (d + 1)
      done (start_declaration x))
    else (do
      x ← an_optional t d k.Semicolon
      done (start_expression x))

-- behind the branch of an if
abbrev pub else_by : NameEnvironment → ℕ → Context → Expression → StatementTree → Kind → Reads StatementTree
else_by t d p x y k.Else = do
  spend 1 (d + 2)
  skip
  z ← a_statement t (d + 1) (of_branch p) 0
  done (if_else_statement x y z)
else_by t d p x y _ = done (if_statement x y)

-- an expression, whose first token is the next
abbrev pub expressed : NameEnvironment → ℕ → ℕ → Reads StatementTree
expressed t d owed = do
  x ← an_expression t (d + 1) 1 (owed + 1)
  expect k.Semicolon
  done (expression_statement (Some x))

-- a statement that begins with a name as an expression goes on with it
abbrev pub follows_name : Kind → Bool
follows_name k.Semicolon = true
follows_name kind = goes_on 1 (infix_of kind) 17

-- behind a name that begins a statement in a block
abbrev pub labelled_by : NameEnvironment → ℕ → Name → Kind → Reads StatementTree
labelled_by t d n k.Colon = skip (done (named_label n))
labelled_by t d n kind =
    if follows_name kind
    then spend 1 (d + 2) (scope (d + 2) (a_rest t (d + 1) 1 (name n)) (λ x. expect k.Semicolon (done (expression_statement (Some x)))))
    else stop

abbrev pub statement_by : NameEnvironment → ℕ → Context → ℕ → Kind → Reads StatementTree
statement_by t d p owed k.OpenBrace = do
  spend owed (d + 1)
  skip
  ss ← all_statements t (d + 1) (of_block p)
  done (block ss)
statement_by t d p owed k.Semicolon = spend owed (d + 1) (skip (done (expression_statement None)))
statement_by t d p owed k.If = do
  spend (owed + 2) (d + 2)
  skip
  expect k.OpenParen
  x ← an_expression t (d + 1) 1 0
  expect k.CloseParen
  y ← a_statement t (d + 1) (of_branch p) 0
  look [] (else_by t d p x y)
statement_by t d p owed k.While = do
  spend (owed + 2) (d + 2)
  skip
  expect k.OpenParen
  x ← an_expression t (d + 1) 1 0
  expect k.CloseParen
  y ← a_statement t (d + 1) (of_loop p) 0
  done (while_statement x y)
statement_by t d p owed k.Do = do
  spend (owed + 2) (d + 2)
  skip
  y ← a_statement t (d + 1) (of_loop p) 0
  expect k.While
  expect k.OpenParen
  x ← an_expression t (d + 1) 1 0
  expect k.CloseParen
  expect k.Semicolon
  done (do_statement y x)
statement_by t d p owed k.For = do
  spend (owed + 1) (d + 2)
  skip
  expect k.OpenParen
  c ← a_start t (d + 1)
  x ← an_optional t (d + 1) k.Semicolon
  y ← an_optional t (d + 1) k.CloseParen
  z ← a_statement t (d + 1) (of_loop p) 0
  done (for_statement c x y z)
statement_by t d p owed k.Switch = do
  spend (owed + 2) (d + 2)
  skip
  expect k.OpenParen
  x ← an_expression t (d + 1) 1 0
  expect k.CloseParen
  expect k.OpenBrace
  ss ← all_statements t (d + 2) (of_switch p)
  done (switch_statement x (block ss))
statement_by t d p owed k.Case = if p.in_cases then (do
  spend (owed + 1) (d + 2)
  skip
  x ← an_expression t (d + 1) 3 0
  expect k.Colon
  done (case_label x)) else stop
statement_by t d p owed k.Default = if p.in_cases then (do
  spend owed (d + 1)
  skip
  expect k.Colon
  done default_label) else stop
statement_by t d p owed k.Break = if p.in_loop || p.in_switch then (do
  spend owed (d + 1)
  skip
  expect k.Semicolon
  done break_statement) else stop
statement_by t d p owed k.Continue = if p.in_loop then (do
  spend owed (d + 1)
  skip
  expect k.Semicolon
  done continue_statement) else stop
statement_by t d p owed k.Return = do
  spend owed (d + 1)
  skip
  x ← an_optional t (d + 1) k.Semicolon
  done (return_statement x)
statement_by t d p owed k.Goto = spend owed (d + 1) (skip (a_name t (λ n. expect k.Semicolon (done (goto_statement n)))))
statement_by t d p owed k.Name =
    if p.in_block
    then spend owed (d + 1) (take (λ n. look [] (labelled_by t d n)))
    else expressed t d owed
statement_by t d p owed kind =
    if begins_declaration kind
    then (if p.in_block then spend owed (d + 1) (do
      x ← a_declaration t (d + 1)
      done (declaration x)) else stop)
    else expressed t d owed

abbrev pub statements_by : NameEnvironment → ℕ → Context → Kind → Reads Statements
statements_by t d p k.CloseBrace = skip (done no_statements)
statements_by t d p _ = body.strict (a_statement t d p 1) (λ x. body.call (all_statements t d p) (λ xs. done (statements x xs)))

-- ---- outside functions

abbrev pub is_typedef : Storage → Bool
is_typedef st.Typedef = true
is_typedef _ = false

-- where names are declared outside functions: the name of a type is new
abbrev pub outer_types : Storage → Scope → NameEnvironment
outer_types st.Typedef s = record { types = s.types; reserved = s.others }
outer_types _ s = only_types s.types

abbrev pub may_begin : Storage → DeclaratorTree → Bool
may_begin st.Typedef c = false
may_begin _ c = has_initializer c

abbrev pub more_outer_by : Storage → Scope → Kind → Reads (List NamedTree)
more_outer_by c s k.Semicolon = skip (done [])
more_outer_by c s k.Comma = do
  spend 1 3
  skip
  n ← an_outer c s
  ns ← more_outer c (behind_named c n s)
  done (n ∷ ns)
more_outer_by c s _ = stop

abbrev pub is_function : DeclaratorTree → Bool
is_function (function ss n ps v) = true
is_function _ = false

-- a declaration goes on with it behind its first declarator
abbrev pub follows_first : DeclaratorTree → Kind → Bool
follows_first c k.Assign = has_initializer c
follows_first c k.Comma = true
follows_first c k.Semicolon = true
follows_first c _ = false

-- behind the first declarator, which may be of a function: its body, or a declaration goes on and all lies one node deeper
abbrev pub first_by : DeclaratorTree → Kind → Reads DeclaratorTree
first_by c k.OpenBrace = if is_function c then done c else stop
first_by c kind = if follows_first c kind then rise (done c) else stop

-- behind the stars and the name of the first declarator: an array is no function, and lies one node deeper
abbrev pub first_declared_by : NameEnvironment → Stars → Name → Kind → Reads DeclaratorTree
first_declared_by t ss n k.OpenBracket = rise (declared_by t 3 false ss n k.OpenBracket)
first_declared_by t ss n k.OpenParen = do
  skip
  ps ← all_parameters t 2
  look [] (first_by (function ss n ps.0 ps.1))
first_declared_by t ss n kind = first_by (plain ss n) kind

-- behind its stars: a pointer to a function is no function either
abbrev pub first_declarator_by : NameEnvironment → Stars → Kind → Reads DeclaratorTree
first_declarator_by t ss k.Name = take (λ n. look [] (first_declared_by t ss n))
first_declarator_by t ss k.OpenParen = rise (declarator_by t 3 false false ss k.OpenParen)
first_declarator_by t ss _ = stop

abbrev pub function_of : Storage → Specifiers → Statements → DeclaratorTree → ItemTree
function_of c ws ss (function xs n ps v) = function_item (record { storage = c; specs = ws; stars = xs; name = n; params = ps; word = v; body = block ss })
function_of c ws ss d = declaration_item (record { storage = c; specs = ws; names = record { declarator = d; init = None } ∷ [] })

-- the other names behind the first
abbrev pub with_names : Storage → Specifiers → Scope → NamedTree → Reads ItemTree
with_names c ws s n = do
  ns ← more_outer c (behind_named c n s)
  done (declaration_item (record { storage = c; specs = ws; names = n ∷ ns }))

-- behind the first declarator of an item that is no typedef
abbrev pub item_by : Storage → Specifiers → Scope → DeclaratorTree → Kind → Reads ItemTree
item_by c ws s x k.OpenBrace = if is_function x then (do
  skip
  ss ← all_statements (only_types s.types) 3 (of_block outside)
  done (function_of c ws ss x)) else stop
item_by c ws s x k.Assign = if has_initializer x then (do
  spend 1 4
  skip
  i ← an_initializer (only_types s.types) 3 0
  with_names c ws s (record { declarator = x; init = Some i })) else stop
item_by c ws s x _ = with_names c ws s (record { declarator = x; init = None })

-- behind the specifiers of an item, in the scope behind them; where these have a struct or an enum, the first declarator makes
-- a name necessary, or a body
abbrev pub item_names_by : Storage → Specifiers → Scope → Kind → Reads ItemTree
item_names_by c ws s k.Semicolon = if has_tag ws then skip (done (declaration_item (record { storage = c; specs = ws; names = [] }))) else stop
item_names_by st.Typedef ws s kind =
    if begins_declarator kind
    then naming (has_tag ws) 2 (do
      n ← an_outer st.Typedef s
      with_names st.Typedef ws s n)
    else stop
item_names_by c ws s kind =
    if begins_declarator kind
    then naming (has_tag ws) 2 (scope 2 (a_first (only_types s.types)) (λ x. look [] (item_by c ws s x)))
    else stop

abbrev pub item_specifiers : Storage → Scope → Reads ItemTree
item_specifiers c s = do
  ws ← all_specifiers (only_types s.types) 2 true []
  look (barred (outer_types c (behind_specifiers ws s))) (item_names_by c ws (behind_specifiers ws s))

abbrev pub item_start_by : Scope → Kind → Reads ItemTree
item_start_by s k.Static = spend 1 2 (skip (item_specifiers st.Static s))
item_start_by s k.Extern = spend 1 2 (skip (item_specifiers st.Extern s))
item_start_by s k.Typedef = spend 1 2 (skip (item_specifiers st.Typedef s))
item_start_by s kind = if begins_type kind then spend 1 2 (item_specifiers st.Nothing s) else stop

abbrev pub items_by : Scope → Kind → Reads (List ItemTree)
items_by s k.Nothing = done []
items_by s _ = body.strict (an_item s) (λ x. body.call (all_items (behind_item x s)) (λ xs. done (x ∷ xs)))

abbrev pub rule : (r : Rule) → Reads (Result r)
rule (an_expression t d least owed) = scope (d + 1) (a_whole t d least owed) done
rule (a_whole t d least owed) = do
  x ← a_prefix t d least owed
  y ← a_rest t d least x
  done y
rule (a_prefix t d least owed) = look t.types (λ kind. prefix_by t d least owed (first_of_operand kind))
rule (a_rest t d least x) = look t.types (λ kind. if goes_on least (infix_of kind) (level x) then longer t d least x (infix_of kind) else done x)
rule (an_opened t d) = do
  x ← an_expression t (d + 1) 1 2
  expect k.CloseParen
  y ← a_rest t d 15 (paren x)
  done y
rule more_texts = look [] texts_by
rule (all_arguments t d) = look t.types (arguments_by t d)
rule (more_arguments t d) = look [] (more_arguments_by t d)
rule (a_type t d) = do
  ws ← all_specifiers t d false []
  x ← a_bare t d
  done (typed ws x)
rule (all_specifiers t d b ws) = look t.types (λ kind. specifiers_by t d b ws (start_of kind))
rule (a_struct t d) = look [] (struct_by t d)
rule (all_members t d) = do
  ws ← all_specifiers t d false []
  cs ← all_declarators t d
  expect k.Semicolon
  ms ← more_members t d
  done (member ws cs ms)
rule (more_members t d) = look t.types (more_members_by t d)
rule (all_declarators t d) = do
  c ← a_declarator t (d + 1) false false
  cs ← more_declarators t d
  done (declarators c cs)
rule (more_declarators t d) = look [] (more_declarators_by t d)
rule (an_enum t d) = look [] (enum_by t d)
rule (all_enumerators t d) = a_new_name t (λ n. look [] (enumerator_by t d n))
rule (more_enumerators t d) = look [] (more_enumerators_by t d)
rule all_stars = look [] stars_by
rule all_quals = look [] quals_by
rule (a_declarator t d f y) = do
  ss ← all_stars
  look (barred t) (declarator_by t d f y ss)
rule (all_sizes t d) = look [] (sizes_by t d)
rule (at_most_one_size t d) = look [] (at_most_one_by t d)
rule (all_parameters t d) = look t.types (parameters_by t d)
rule (some_parameters t d) = scope d (a_parameter t d) (λ p. body.call (more_parameters t d) (λ ps. done (parameters p.0 p.1 ps)))
rule (more_parameters t d) = look [] (more_parameters_by t d)
rule (a_parameter t d) = do
  ws ← all_specifiers t d false []
  ss ← all_stars
  look (barred t) (parameter_by t d ws ss)
rule (a_bare t d) = do
  ss ← all_stars
  look [] (bare_by t d ss)
rule (an_initializer t d owed) = look t.types (initializer_by t d owed)
rule (all_initializers t d owed) = look [] (initializers_by t d owed)
rule (more_initializers t d) = look [] (more_initializers_by t d)
rule (a_declaration t d) = look t.types (declaration_by t d)
rule (a_declared t d c) = do
  ws ← all_specifiers t d true []
  look t.types (declared_names_by t d c ws)
rule (a_named t d) = do
  c ← a_declarator t (d + 1) true false
  look [] (named_init_by t (d + 1) (has_initializer c) c)
rule (more_named t d) = look [] (more_named_by t d)
rule (an_optional t d e) = look [] (optional_by t d e)
rule (a_start t d) = look t.types (start_by t d)
rule (a_statement t d p owed) = look t.types (statement_by t d p owed)
rule (all_statements t d p) = look t.types (statements_by t d p)
rule (an_outer c s) = do
  x ← a_declarator (outer_types c s) 3 true (is_typedef c)
  look [] (named_init_by (outer_types c s) 3 (may_begin c x) x)
rule (more_outer c s) = look [] (more_outer_by c s)
rule (a_first t) = do
  ss ← all_stars
  look (barred t) (first_declarator_by t ss)
rule (an_item s) = look s.types (item_start_by s)
rule (all_items s) = look [] (items_by s)

-- A rule calls rules that rank lower, or takes a token before it calls.
abbrev pub rank : Rule → ℕ
rank (an_expression t d l o) = 3
rank (a_whole t d l o) = 2
rank (an_opened t d) = 4
rank (all_arguments t d) = 4
rank (a_type t d) = 3
rank (all_members t d) = 4
rank (more_members t d) = 5
rank (all_declarators t d) = 3
rank (a_declarator t d f y) = 2
rank (all_parameters t d) = 5
rank (some_parameters t d) = 4
rank (a_parameter t d) = 3
rank (a_bare t d) = 2
rank (an_initializer t d o) = 4
rank (all_initializers t d o) = 5
rank (a_declaration t d) = 5
rank (a_declared t d c) = 4
rank (a_named t d) = 3
rank (an_optional t d e) = 4
rank (a_start t d) = 6
rank (a_statement t d p o) = 6
rank (all_statements t d p) = 7
rank (an_outer c s) = 3
rank (a_first t) = 3
rank (an_item s) = 4
rank (all_items s) = 5
rank _ = 1

-- above every rank
abbrev pub top : ℕ
top = 8
