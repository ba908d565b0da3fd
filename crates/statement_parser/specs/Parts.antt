-- Parts of the rules of statements, as code reads them.
use Rattle.std.specs.Prelude.{ℕ, ◌+◌, [], Option, Some, if◌then◌else◌}
use Rattle.c_tree.specs.Shape.{Context, of_loop, of_branch, of_switch}
use Rattle.c_tree.specs.Tree.{Name, Expression, name, ForStartTree, StatementTree, block, declaration, expression_statement, while_statement, do_statement, for_statement, switch_statement}
use Rattle.c_grammar.specs.declared.kind.Kind.{Kind}
use Rattle.c_grammar.specs.declared.kind.Kind.TheVariants as k
use Rattle.c_grammar.specs.Body.{done, stop, look, take, spend, scope, strict}
use Rattle.c_grammar.specs.Body as body
use Rattle.c_grammar.specs.Rules.{NameEnvironment, Reads, skip, expect, begins_declaration, else_by, an_expression, a_rest, a_declaration, an_optional, a_statement, all_statements, expressed, labelled_by, statement_by}

-- behind a name that begins an expression
abbrev pub named_expression : NameEnvironment → ℕ → Name → Reads StatementTree
named_expression t d n = spend 1 (d + 2) (scope (d + 2) (a_rest t (d + 1) 1 (name n)) (λ x. expect k.Semicolon (done (expression_statement (Some x)))))

-- a declaration, which stands directly in a block
abbrev pub declared : NameEnvironment → ℕ → Context → ℕ → Reads StatementTree
declared t d p owed = if p.in_block then spend owed (d + 1) (body.call (a_declaration t (d + 1)) (λ x. done (declaration x))) else stop

-- a statement that no keyword begins
abbrev pub plain_by : NameEnvironment → ℕ → Context → ℕ → Kind → Reads StatementTree
plain_by t d p owed k.Name = if p.in_block then spend owed (d + 1) (take (λ n. look [] (labelled_by t d n))) else expressed t d owed
plain_by t d p owed kind = if begins_declaration kind then declared t d p owed else expressed t d owed

-- a statement that holds no others
abbrev pub simple_by : NameEnvironment → ℕ → Context → ℕ → Kind → Reads StatementTree
simple_by t d p owed k.Semicolon = statement_by t d p owed k.Semicolon
simple_by t d p owed k.Case = statement_by t d p owed k.Case
simple_by t d p owed k.Default = statement_by t d p owed k.Default
simple_by t d p owed k.Break = statement_by t d p owed k.Break
simple_by t d p owed k.Continue = statement_by t d p owed k.Continue
simple_by t d p owed k.Return = statement_by t d p owed k.Return
simple_by t d p owed k.Goto = statement_by t d p owed k.Goto
simple_by t d p owed kind = plain_by t d p owed kind

-- what an if, a while or a switch begins with
abbrev pub condition : NameEnvironment → ℕ → ℕ → Reads Expression
condition t d owed = spend (owed + 2) (d + 2) (skip (expect k.OpenParen (body.call (an_expression t (d + 1) 1 0) (λ x. expect k.CloseParen (done x)))))

-- an if, behind its condition
abbrev pub if_branch : NameEnvironment → ℕ → Context → Expression → Reads StatementTree
if_branch t d p x = body.call (a_statement t (d + 1) (of_branch p) 0) (λ y. look [] (else_by t d p x y))

-- a while, behind its condition
abbrev pub while_repeated : NameEnvironment → ℕ → Context → Expression → Reads StatementTree
while_repeated t d p x = body.call (a_statement t (d + 1) (of_loop p) 0) (λ y. done (while_statement x y))

-- the end of a do
abbrev pub do_ended : StatementTree → Expression → Reads StatementTree
do_ended y x = expect k.CloseParen (expect k.Semicolon (done (do_statement y x)))

-- a do, behind what it repeats
abbrev pub do_condition : NameEnvironment → ℕ → StatementTree → Reads StatementTree
do_condition t d y = expect k.While (expect k.OpenParen (body.call (an_expression t (d + 1) 1 0) (λ x. do_ended y x)))

-- a for, behind its closing bracket
abbrev pub for_repeated : NameEnvironment → ℕ → Context → ForStartTree → Option Expression → Option Expression → Reads StatementTree
for_repeated t d p c x y = body.call (a_statement t (d + 1) (of_loop p) 0) (λ z. done (for_statement c x y z))

-- a for, behind what it begins with
abbrev pub for_tested : NameEnvironment → ℕ → Context → ForStartTree → Reads StatementTree
for_tested t d p c = body.call (an_optional t (d + 1) k.Semicolon) (λ x. body.call (an_optional t (d + 1) k.CloseParen) (λ y. for_repeated t d p c x y))

-- a switch, behind its value
abbrev pub switched : NameEnvironment → ℕ → Context → Expression → Reads StatementTree
switched t d p x = expect k.OpenBrace (body.call (all_statements t (d + 2) (of_switch p)) (λ ss. done (switch_statement x (block ss))))

-- one statement of a block, which takes a token
abbrev pub one_statement : NameEnvironment → ℕ → Context → Reads StatementTree
one_statement t d p = strict (a_statement t d p 1) done
