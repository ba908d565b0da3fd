-- The number behind a part of a tree: where the part's first node has the number n, this number comes after its last node. It is n
-- plus the number of the part's nodes, as proofs/Behind.antt shows.
use Rattle.std.specs.Prelude.{ℕ, ◌+◌, List, Option}
use Rattle.c_tree.specs.Nodes.{Node}
use Rattle.c_tree.specs.Passing.{pass_expression, pass_expressions, pass_sizes, pass_type, pass_specifiers, pass_declarator, pass_parameters, pass_init, pass_optional_init, pass_initializers, pass_named, pass_names, pass_declaration, pass_optional, pass_start, pass_statement, pass_statements, pass_function, pass_item, pass_items}
use Rattle.c_tree.specs.Tree.{DeclarationTree, DeclaratorTree, Expression, Expressions, ForStartTree, FunctionTree, Initializer, Initializers, ItemTree, NamedTree, Parameters, Sizes, Specifiers, StatementTree, Statements, TypeTree}

-- each node has one number
abbrev pub count_node : ℕ → Node → ℕ
count_node n x = n + 1

abbrev pub behind_expression : ℕ → Expression → ℕ
behind_expression n x = pass_expression count_node n x

abbrev pub behind_expressions : ℕ → Expressions → ℕ
behind_expressions n x = pass_expressions count_node n x

abbrev pub behind_sizes : ℕ → Sizes → ℕ
behind_sizes n x = pass_sizes count_node n x

abbrev pub behind_type : ℕ → TypeTree → ℕ
behind_type n x = pass_type count_node n x

abbrev pub behind_specifiers : ℕ → Specifiers → ℕ
behind_specifiers n x = pass_specifiers count_node n x

abbrev pub behind_declarator : ℕ → DeclaratorTree → ℕ
behind_declarator n x = pass_declarator count_node n x

abbrev pub behind_parameters : ℕ → Parameters → ℕ
behind_parameters n x = pass_parameters count_node n x

abbrev pub behind_init : ℕ → Initializer → ℕ
behind_init n x = pass_init count_node n x

abbrev pub behind_initializers : ℕ → Initializers → ℕ
behind_initializers n x = pass_initializers count_node n x

abbrev pub behind_optional_init : ℕ → Option Initializer → ℕ
behind_optional_init n x = pass_optional_init count_node n x

abbrev pub behind_named : ℕ → NamedTree → ℕ
behind_named n x = pass_named count_node n x

abbrev pub behind_names : ℕ → List NamedTree → ℕ
behind_names n x = pass_names count_node n x

abbrev pub behind_declaration : ℕ → DeclarationTree → ℕ
behind_declaration n x = pass_declaration count_node n x

abbrev pub behind_optional : ℕ → Option Expression → ℕ
behind_optional n x = pass_optional count_node n x

abbrev pub behind_start : ℕ → ForStartTree → ℕ
behind_start n x = pass_start count_node n x

abbrev pub behind_statement : ℕ → StatementTree → ℕ
behind_statement n x = pass_statement count_node n x

abbrev pub behind_statements : ℕ → Statements → ℕ
behind_statements n x = pass_statements count_node n x

abbrev pub behind_function : ℕ → FunctionTree → ℕ
behind_function n x = pass_function count_node n x

abbrev pub behind_item : ℕ → ItemTree → ℕ
behind_item n x = pass_item count_node n x

abbrev pub behind_items : ℕ → List ItemTree → ℕ
behind_items n x = pass_items count_node n x
