-- The conditions of shape on declarations, statements and programs (C11 6.7 to 6.9).
use Rattle.std.specs.Prelude.{◌≡◌, ◌≤◌, List, [], ◌∷◌, ◌++◌, Option, Some, None, Bool, true, false, ◌||◌, ⊤, IsTrue, IsFalse}
use Rattle.c_tree.specs.declared.tree.Storage.{Storage}
use Rattle.c_tree.specs.declared.tree.Storage.TheVariants as st
use Rattle.c_tree.specs.TypeWords.{built_in_types, IsOrdinary, NamesType, has_tag}
use Rattle.c_tree.specs.ExpressionShape.{level, FitsWord, IsNotVoid, ShapeExpression, ShapeSpecifiers, ShapeDeclarator, ShapeParameters}
use Rattle.c_tree.specs.DeclaredNames.{declarator_name, declared_inside, declared_specifiers, declared_named, declared_function}
use Rattle.c_tree.specs.Tree.{Name, Expression, Specifiers, DeclaratorTree, function, Initializer, single, listed, Initializers, no_initializers, initializers, NamedTree, DeclarationTree, ForStartTree, start_declaration, start_expression, StatementTree, block, declaration, expression_statement, if_statement, if_else_statement, while_statement, do_statement, for_statement, switch_statement, case_label, default_label, named_label, break_statement, continue_statement, return_statement, goto_statement, Statements, no_statements, statements, FunctionTree, ItemTree, function_item, declaration_item}

-- the names that a point of the text follows: those that are types, and those declared as anything else, of any scope
pub record Scope : Type 0 where
  pub types : List Name
  pub others : List Name

abbrev pub HasInitializer : Initializers → Type 0
HasInitializer no_initializers = ⊥
HasInitializer (initializers n i ps) = ⊤

abbrev pub FitsDesignator : List Name → Option Name → Type 0
FitsDesignator types None = ⊤
FitsDesignator types (Some n) = IsOrdinary types n

abbrev mutual
  pub ShapeInit : List Name → Initializer → Type 0
  ShapeInit types (single x) = (2 ≤ level x) × ShapeExpression types x
  ShapeInit types (listed ps c) = HasInitializer ps × ShapeInitializers types ps

  pub ShapeInitializers : List Name → Initializers → Type 0
  ShapeInitializers types no_initializers = ⊤
  ShapeInitializers types (initializers n i ps) = FitsDesignator types n × ShapeInit types i × ShapeInitializers types ps

-- a function and a type have no initialiser
abbrev pub FitsInit : Storage → DeclaratorTree → Option Initializer → Type 0
FitsInit s d None = ⊤
FitsInit st.Typedef d (Some i) = ⊥
FitsInit st.Nothing (function ss n ps v) (Some i) = ⊥
FitsInit st.Static (function ss n ps v) (Some i) = ⊥
FitsInit st.Extern (function ss n ps v) (Some i) = ⊥
FitsInit s d (Some i) = ⊤

abbrev pub ShapeOptionalInit : List Name → Option Initializer → Type 0
ShapeOptionalInit types None = ⊤
ShapeOptionalInit types (Some i) = ShapeInit types i

-- a name that becomes a type is declared as nothing else before, nor by the sizes and parameters of its own declarator
abbrev pub FitsTypedef : Storage → DeclaratorTree → Scope → Type 0
FitsTypedef st.Typedef d s = IsOrdinary s.others (declarator_name d) × IsOrdinary (declared_inside d) (declarator_name d)
FitsTypedef _ d s = ⊤

abbrev pub ShapeNamed : Storage → NamedTree → Scope → Type 0
ShapeNamed storage n s = ShapeDeclarator s.types n.declarator × FitsTypedef storage n.declarator s × FitsInit storage n.declarator n.init × ShapeOptionalInit s.types n.init

-- the scope behind a declared name: a typedef's name is a type from the end of its declarator on
abbrev pub behind_named : Storage → NamedTree → Scope → Scope
behind_named st.Typedef n s = record { types = declarator_name n.declarator ∷ s.types; others = s.others ++ declared_inside n.declarator }
behind_named _ n s = record { types = s.types; others = s.others ++ declared_named n }

abbrev pub ShapeNames : Storage → List NamedTree → Scope → Type 0
ShapeNames storage [] s = ⊤
ShapeNames storage (n ∷ ns) s = ShapeNamed storage n s × ShapeNames storage ns (behind_named storage n s)

abbrev pub behind_names : Storage → List NamedTree → Scope → Scope
behind_names storage [] s = s
behind_names storage (n ∷ ns) s = behind_names storage ns (behind_named storage n s)

-- a declaration without names declares a struct or an enum (C11 6.7p2)
abbrev pub DeclaresSomething : DeclarationTree → Type 0
DeclaresSomething d = d.names ≡ [] → IsTrue (has_tag d.specs)

abbrev pub behind_specifiers : Specifiers → Scope → Scope
behind_specifiers ws s = record { types = s.types; others = s.others ++ declared_specifiers ws }

abbrev pub ShapeDeclaration : DeclarationTree → Scope → Type 0
ShapeDeclaration d s = NamesType d.specs × ShapeSpecifiers s.types d.specs × DeclaresSomething d × ShapeNames d.storage d.names (behind_specifiers d.specs s)

abbrev pub behind_declaration : DeclarationTree → Scope → Scope
behind_declaration d s = behind_names d.storage d.names (behind_specifiers d.specs s)

-- types are declared outside functions alone, and no function is a type
abbrev pub IsNoTypedef : Storage → Type 0
IsNoTypedef st.Typedef = ⊥
IsNoTypedef _ = ⊤

-- a declaration inside a function, which declares no type: the names declared before do not matter there
abbrev pub ShapeInner : List Name → DeclarationTree → Type 0
ShapeInner types d = IsNoTypedef d.storage × ShapeDeclaration d (record { types = types; others = [] })

abbrev pub ShapeOptional : List Name → Option Expression → Type 0
ShapeOptional types None = ⊤
ShapeOptional types (Some x) = ShapeExpression types x

abbrev pub ShapeStart : List Name → ForStartTree → Type 0
ShapeStart types (start_declaration d) = ShapeInner types d
ShapeStart types (start_expression x) = ShapeOptional types x

-- an if without else is the last part of the statement (C11 6.8.4.1p3)
abbrev pub ends_open : StatementTree → Bool
ends_open (if_statement x s) = true
ends_open (if_else_statement x s r) = ends_open r
ends_open (while_statement x s) = ends_open s
ends_open (for_statement a x y s) = ends_open s
ends_open _ = false

abbrev pub IsBlock : StatementTree → Type 0
IsBlock (block ss) = ⊤
IsBlock _ = ⊥

-- where a statement stands: in a loop, in a switch, directly in a block, directly in the block of a switch
pub record Context : Type 0 where
  pub in_loop : Bool
  pub in_switch : Bool
  pub in_block : Bool
  pub in_cases : Bool

-- the context of a loop's body, of a branch, of a statement of a block, and of a statement of a switch's block
abbrev pub of_loop : Context → Context
of_loop c = record { in_loop = true; in_switch = c.in_switch; in_block = false; in_cases = false }

abbrev pub of_branch : Context → Context
of_branch c = record { in_loop = c.in_loop; in_switch = c.in_switch; in_block = false; in_cases = false }

abbrev pub of_block : Context → Context
of_block c = record { in_loop = c.in_loop; in_switch = c.in_switch; in_block = true; in_cases = false }

abbrev pub of_switch : Context → Context
of_switch c = record { in_loop = c.in_loop; in_switch = true; in_block = true; in_cases = true }

-- cases and default stand directly in the block of a switch, labels and declarations directly in a block, break in a loop
-- or a switch, continue in a loop (C11 6.8.1p2, 6.8.2, 6.8.6.2, 6.8.6.3)
abbrev mutual
  pub ShapeStatement : List Name → StatementTree → Context → Type 0
  ShapeStatement types (block ss) c = ShapeStatements types ss (of_block c)
  ShapeStatement types (declaration d) c = IsTrue c.in_block × ShapeInner types d
  ShapeStatement types (expression_statement x) c = ShapeOptional types x
  ShapeStatement types (if_statement x s) c = ShapeExpression types x × ShapeStatement types s (of_branch c)
  ShapeStatement types (if_else_statement x s r) c = IsFalse (ends_open s) × ShapeExpression types x × ShapeStatement types s (of_branch c) × ShapeStatement types r (of_branch c)
  ShapeStatement types (while_statement x s) c = ShapeExpression types x × ShapeStatement types s (of_loop c)
  ShapeStatement types (do_statement s x) c = ShapeStatement types s (of_loop c) × ShapeExpression types x
  ShapeStatement types (for_statement a x y s) c = ShapeStart types a × ShapeOptional types x × ShapeOptional types y × ShapeStatement types s (of_loop c)
  ShapeStatement types (switch_statement x s) c = ShapeExpression types x × ShapeSwitched types s c
  ShapeStatement types (case_label x) c = IsTrue c.in_cases × (3 ≤ level x) × ShapeExpression types x
  ShapeStatement types default_label c = IsTrue c.in_cases
  ShapeStatement types (named_label n) c = IsTrue c.in_block × IsOrdinary types n
  ShapeStatement types break_statement c = IsTrue (c.in_loop || c.in_switch)
  ShapeStatement types continue_statement c = IsTrue c.in_loop
  ShapeStatement types (return_statement x) c = ShapeOptional types x
  ShapeStatement types (goto_statement n) c = IsOrdinary types n

  -- the body of a switch, a block
  pub ShapeSwitched : List Name → StatementTree → Context → Type 0
  ShapeSwitched types (block ss) c = ShapeStatements types ss (of_switch c)
  ShapeSwitched types _ c = ⊥

  pub ShapeStatements : List Name → Statements → Context → Type 0
  ShapeStatements types no_statements c = ⊤
  ShapeStatements types (statements s ss) c = ShapeStatement types s c × ShapeStatements types ss c

-- outside every loop, switch and block
abbrev pub outside : Context
outside = record { in_loop = false; in_switch = false; in_block = false; in_cases = false }

abbrev pub ShapeFunction : List Name → FunctionTree → Type 0
ShapeFunction types f =
    IsNoTypedef f.storage × NamesType f.specs × ShapeSpecifiers types f.specs × IsOrdinary types f.name × FitsWord f.word f.params × IsNotVoid f.params
    × ShapeParameters types f.params × IsBlock f.body × ShapeStatement types f.body outside

abbrev pub ShapeItem : ItemTree → Scope → Type 0
ShapeItem (function_item f) s = ShapeFunction s.types f
ShapeItem (declaration_item d) s = ShapeDeclaration d s

abbrev pub behind_item : ItemTree → Scope → Scope
behind_item (function_item f) s = record { types = s.types; others = s.others ++ declared_function f }
behind_item (declaration_item d) s = behind_declaration d s

abbrev pub ShapeItems : List ItemTree → Scope → Type 0
ShapeItems [] s = ⊤
ShapeItems (i ∷ is) s = ShapeItem i s × ShapeItems is (behind_item i s)

-- before the first item the built-in names are types, and nothing else is declared
abbrev pub first_scope : Scope
first_scope = record { types = built_in_types; others = [] }

-- the program has the shape that the grammar asks
abbrev pub Shape : List ItemTree → Type 0
Shape items = ShapeItems items first_scope
