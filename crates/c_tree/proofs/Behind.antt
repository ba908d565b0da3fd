-- The number behind a part is the number of its first node plus the number of its nodes.
use Rattle.std.proofs.Common.{◌≡◌, ℕ, ◌+◌, List, [], ◌∷◌, length, Option, None, zero, suc, ap, ◌∙◌, sym, arith}
use Rattle.c_tree.specs.Behind.{count_node, behind_expression, behind_expressions, behind_sizes, behind_type, behind_specifiers, behind_declarator, behind_parameters, behind_init, behind_initializers, behind_named, behind_names, behind_declaration, behind_optional, behind_start, behind_statement, behind_statements, behind_function, behind_item, behind_items}
use Rattle.c_tree.specs.Nodes.{Node, nodes_expression, nodes_expressions, nodes_sizes, nodes_type, nodes_specifiers, nodes_declarator, nodes_parameters, nodes_init, nodes_initializers, nodes_named, nodes_names, nodes_declaration, nodes_optional, nodes_start, nodes_statement, nodes_statements, nodes_function, nodes_item, nodes_items}
use Rattle.c_tree.specs.Passing.{pass_all}
use Rattle.c_tree.specs.Progress.{Progress, pass, count_function}
use Rattle.c_tree.specs.Tree.{DeclarationTree, DeclaratorTree, Expression, Expressions, ForStartTree, FunctionTree, Initializer, Initializers, ItemTree, NamedTree, Parameters, Sizes, Specifiers, StatementTree, Statements, TypeTree}
use Rattle.c_tree.proofs.Found.{from, at_node, pass_here, pass_by, stays}
use Rattle.c_tree.proofs.Passing.{expression_passes, expressions_passes, sizes_passes, type_passes, specifiers_passes, declarator_passes, parameters_passes, init_passes, initializers_passes, named_passes, names_passes, declaration_passes, optional_passes, start_passes, statement_passes, statements_passes, function_passes, item_passes, items_passes}

pub counted : (n : ℕ) (ns : List Node) → pass_all count_node n ns ≡ n + length ns
counted n [] = omega arith
counted n (x ∷ ns) = omega (arith, counted (n + 1) ns)

pub expression_behind : (n : ℕ) (x : Expression) → behind_expression n x ≡ n + length (nodes_expression x)
expression_behind n x = expression_passes count_node n x ∙ counted n (nodes_expression x)

pub expressions_behind : (n : ℕ) (x : Expressions) → behind_expressions n x ≡ n + length (nodes_expressions x)
expressions_behind n x = expressions_passes count_node n x ∙ counted n (nodes_expressions x)

pub sizes_behind : (n : ℕ) (x : Sizes) → behind_sizes n x ≡ n + length (nodes_sizes x)
sizes_behind n x = sizes_passes count_node n x ∙ counted n (nodes_sizes x)

pub type_behind : (n : ℕ) (x : TypeTree) → behind_type n x ≡ n + length (nodes_type x)
type_behind n x = type_passes count_node n x ∙ counted n (nodes_type x)

pub specifiers_behind : (n : ℕ) (x : Specifiers) → behind_specifiers n x ≡ n + length (nodes_specifiers x)
specifiers_behind n x = specifiers_passes count_node n x ∙ counted n (nodes_specifiers x)

pub declarator_behind : (n : ℕ) (x : DeclaratorTree) → behind_declarator n x ≡ n + length (nodes_declarator x)
declarator_behind n x = declarator_passes count_node n x ∙ counted n (nodes_declarator x)

pub parameters_behind : (n : ℕ) (x : Parameters) → behind_parameters n x ≡ n + length (nodes_parameters x)
parameters_behind n x = parameters_passes count_node n x ∙ counted n (nodes_parameters x)

pub init_behind : (n : ℕ) (x : Initializer) → behind_init n x ≡ n + length (nodes_init x)
init_behind n x = init_passes count_node n x ∙ counted n (nodes_init x)

pub initializers_behind : (n : ℕ) (x : Initializers) → behind_initializers n x ≡ n + length (nodes_initializers x)
initializers_behind n x = initializers_passes count_node n x ∙ counted n (nodes_initializers x)

pub named_behind : (n : ℕ) (x : NamedTree) → behind_named n x ≡ n + length (nodes_named x)
named_behind n x = named_passes count_node n x ∙ counted n (nodes_named x)

pub names_behind : (n : ℕ) (x : List NamedTree) → behind_names n x ≡ n + length (nodes_names x)
names_behind n x = names_passes count_node n x ∙ counted n (nodes_names x)

pub declaration_behind : (n : ℕ) (x : DeclarationTree) → behind_declaration n x ≡ n + length (nodes_declaration x)
declaration_behind n x = declaration_passes count_node n x ∙ counted n (nodes_declaration x)

pub optional_behind : (n : ℕ) (x : Option Expression) → behind_optional n x ≡ n + length (nodes_optional x)
optional_behind n x = optional_passes count_node n x ∙ counted n (nodes_optional x)

pub start_behind : (n : ℕ) (x : ForStartTree) → behind_start n x ≡ n + length (nodes_start x)
start_behind n x = start_passes count_node n x ∙ counted n (nodes_start x)

pub statement_behind : (n : ℕ) (x : StatementTree) → behind_statement n x ≡ n + length (nodes_statement x)
statement_behind n x = statement_passes count_node n x ∙ counted n (nodes_statement x)

pub statements_behind : (n : ℕ) (x : Statements) → behind_statements n x ≡ n + length (nodes_statements x)
statements_behind n x = statements_passes count_node n x ∙ counted n (nodes_statements x)

pub function_behind : (n : ℕ) (x : FunctionTree) → behind_function n x ≡ n + length (nodes_function x)
function_behind n x = function_passes count_node n x ∙ counted n (nodes_function x)

pub item_behind : (n : ℕ) (x : ItemTree) → behind_item n x ≡ n + length (nodes_item x)
item_behind n x = item_passes count_node n x ∙ counted n (nodes_item x)

pub items_behind : (n : ℕ) (x : List ItemTree) → behind_items n x ≡ n + length (nodes_items x)
items_behind n x = items_passes count_node n x ∙ counted n (nodes_items x)

-- a search that has found none of these nodes has passed them all
left_behind : (left k : ℕ) (ns : List Node) → (pass_all pass (from left k) ns).found ≡ None → length ns + (pass_all pass (from left k) ns).left ≡ left
left_behind left k [] e = omega arith
left_behind zero k (x ∷ ns) e =
    let found : (pass_all pass (from 0 k) (x ∷ ns)) ≡ at_node k x = ap (λ p. pass_all pass p ns) (pass_here k x) ∙ stays k x ns in
    absurd (let f = sym (ap (λ (p : Progress). p.found) found) ∙ e in cc)
left_behind (suc left) k (x ∷ ns) e =
    let one = ap (λ p. pass_all pass p ns) (pass_by left k x) in
    omega (arith, left_behind left (count_function x k) ns (sym (ap (λ (p : Progress). p.found) one) ∙ e), ap (λ (p : Progress). p.left) one)

pub passed : (left at new : ℕ) (s : Progress) (ns : List Node) → s ≡ pass_all pass (from left 0) ns → s.found ≡ None → new + s.left ≡ at + left → new ≡ pass_all count_node at ns
passed left at new s ns e none sum =
    omega (arith, left_behind left 0 ns (sym (ap (λ (p : Progress). p.found) e) ∙ none), ap (λ (p : Progress). p.left) e, sum, counted at ns)
