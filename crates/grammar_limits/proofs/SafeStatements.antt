-- The rules of statements keep to what is due.
use Rattle.std.proofs.Common.{ℕ, ◌+◌, ◌≤◌, Bool, ◌||◌, cond, Some, arith}
use Rattle.c_tree.specs.Tree.{Name, Expression, StatementTree, name, declaration, expression_statement}
use Rattle.c_tree.specs.Shape.{Context}
use Rattle.c_grammar.specs.declared.kind.Kind.{Kind}
use Rattle.c_grammar.specs.declared.kind.Kind.TheVariants as k
use Rattle.c_grammar.specs.Body.{done}
use Rattle.c_grammar.specs.Body as body
use Rattle.c_grammar.specs.Kind.{same_kind}
use Rattle.c_grammar.specs.Rules.{NameEnvironment, expect, begins_declaration, else_by, expressed, follows_name, labelled_by, statement_by, statements_by, a_rest, a_declaration, an_optional, a_start, a_statement, all_statements}
use Rattle.grammar_limits.proofs.Dues.{Safe, Due, safe_done, safe_stop, safe_look, safe_take, safe_spend, safe_call, safe_strict, safe_scope, safe_if, safe_expect, safe_name}

-- an expression or none
pub optional-due : (t : NameEnvironment) (d : ℕ) (e : Kind) → Due (an_optional t d e)
optional-due t d e low = safe_look (λ j. safe_if (same_kind j e) (safe_take (λ _. safe_done (omega arith) (omega arith))) (safe_call (omega arith) (omega arith) (omega arith) (omega arith) (λ _. safe_expect e (safe_done (omega arith) (omega arith)))))

-- the start of a loop
pub start-due : (t : NameEnvironment) (d : ℕ) → Due (a_start t d)
start-due t d low = safe_look (λ e. safe_if (begins_declaration e) (safe_spend (omega arith) (omega arith) (safe_call (omega arith) (omega arith) (omega arith) (omega arith) (λ _. safe_done (omega arith) (omega arith)))) (safe_call (omega arith) (omega arith) (omega arith) (omega arith) (λ _. safe_done (omega arith) (omega arith))))

else-by : (t : NameEnvironment) (d : ℕ) (p : Context) (x : Expression) (y : StatementTree) (u c : ℕ) (e : Kind) → d + 22 ≤ u → 40 ≤ c → Safe (else_by t d p x y e) 30 0 u c 0
else-by t d p x y u c k.Else room h = safe_spend (omega arith) (omega arith) (safe_take (λ _. safe_call (omega arith) (omega arith) (omega arith) (omega arith) (λ _. safe_done (omega arith) (omega arith))))
else-by t d p x y u c _ room h = safe_done (omega arith) (omega arith)

-- a statement that begins with a name as an expression, where it goes on so
name-first : (t : NameEnvironment) (d : ℕ) (n : Name) (u c : ℕ) (b : Bool) → d + 22 ≤ u → 40 ≤ c →
    Safe (cond b (body.spend 1 (d + 2) (body.scope (d + 2) (a_rest t (d + 1) 1 (name n)) (λ x. expect k.Semicolon (done (expression_statement (Some x)))))) body.stop) 30 0 u c 0
name-first t d n u c b room h = safe_if b (safe_spend (omega arith) (omega arith) (safe_scope (omega arith) (omega arith) (omega arith) (omega arith) (omega arith) (λ _. safe_expect k.Semicolon (safe_done (omega arith) (omega arith))))) safe_stop

labelled-by : (t : NameEnvironment) (d : ℕ) (n : Name) (u c : ℕ) (e : Kind) → d + 22 ≤ u → 40 ≤ c → Safe (labelled_by t d n e) 30 0 u c 0
labelled-by t d n u c k.Colon room h = safe_take (λ _. safe_done (omega arith) (omega arith))
labelled-by t d n u c e room h = name-first t d n u c (follows_name e) room h

expressed-by : (t : NameEnvironment) (d o : ℕ) → o + 1 ≤ 5 → Safe (expressed t d o) 30 0 (d + 22) 30 0
expressed-by t d o low = safe_call (omega arith) (omega arith) (omega arith) (omega arith) (λ _. safe_expect k.Semicolon (safe_done (omega arith) (omega arith)))

statement-else : (t : NameEnvironment) (d : ℕ) (p : Context) (o : ℕ) (b : Bool) → o + 1 ≤ 5 →
    Safe (cond b (cond p.in_block (body.spend o (d + 1) (body.call (a_declaration t (d + 1)) (λ x. done (declaration x)))) body.stop) (expressed t d o)) 30 0 (d + 22) 30 0
statement-else t d p o b low = safe_if b (safe_if p.in_block (safe_spend (omega arith) (omega arith) (safe_call (omega arith) (omega arith) (omega arith) (omega arith) (λ _. safe_done (omega arith) (omega arith)))) safe_stop) (expressed-by t d o low)

statement-by : (t : NameEnvironment) (d : ℕ) (p : Context) (o : ℕ) (e : Kind) → o + 1 ≤ 5 → Safe (statement_by t d p o e) 30 0 (d + 22) 30 0
statement-by t d p o k.OpenBrace low = safe_spend (omega arith) (omega arith) (safe_take (λ _. safe_call (omega arith) (omega arith) (omega arith) (omega arith) (λ _. safe_done (omega arith) (omega arith))))
statement-by t d p o k.Semicolon low = safe_spend (omega arith) (omega arith) (safe_take (λ _. safe_done (omega arith) (omega arith)))
statement-by t d p o k.If low = safe_spend (omega arith) (omega arith) (safe_take (λ _. safe_expect k.OpenParen (safe_call (omega arith) (omega arith) (omega arith) (omega arith) (λ x. safe_expect k.CloseParen (safe_call (omega arith) (omega arith) (omega arith) (omega arith) (λ y. safe_look (λ e. else-by t d p x y _ _ e (omega arith) (omega arith))))))))
statement-by t d p o k.While low = safe_spend (omega arith) (omega arith) (safe_take (λ _. safe_expect k.OpenParen (safe_call (omega arith) (omega arith) (omega arith) (omega arith) (λ _. safe_expect k.CloseParen (safe_call (omega arith) (omega arith) (omega arith) (omega arith) (λ _. safe_done (omega arith) (omega arith)))))))
statement-by t d p o k.Do low = safe_spend (omega arith) (omega arith) (safe_take (λ _. safe_call (omega arith) (omega arith) (omega arith) (omega arith) (λ _. safe_expect k.While (safe_expect k.OpenParen (safe_call (omega arith) (omega arith) (omega arith) (omega arith) (λ _. safe_expect k.CloseParen (safe_expect k.Semicolon (safe_done (omega arith) (omega arith)))))))))
statement-by t d p o k.For low = safe_spend (omega arith) (omega arith) (safe_take (λ _. safe_expect k.OpenParen (safe_call (omega arith) (omega arith) (omega arith) (omega arith) (λ _. safe_call (omega arith) (omega arith) (omega arith) (omega arith) (λ _. safe_call (omega arith) (omega arith) (omega arith) (omega arith) (λ _. safe_call (omega arith) (omega arith) (omega arith) (omega arith) (λ _. safe_done (omega arith) (omega arith))))))))
statement-by t d p o k.Switch low = safe_spend (omega arith) (omega arith) (safe_take (λ _. safe_expect k.OpenParen (safe_call (omega arith) (omega arith) (omega arith) (omega arith) (λ _. safe_expect k.CloseParen (safe_expect k.OpenBrace (safe_call (omega arith) (omega arith) (omega arith) (omega arith) (λ _. safe_done (omega arith) (omega arith))))))))
statement-by t d p o k.Case low = safe_if p.in_cases (safe_spend (omega arith) (omega arith) (safe_take (λ _. safe_call (omega arith) (omega arith) (omega arith) (omega arith) (λ _. safe_expect k.Colon (safe_done (omega arith) (omega arith)))))) safe_stop
statement-by t d p o k.Default low = safe_if p.in_cases (safe_spend (omega arith) (omega arith) (safe_take (λ _. safe_expect k.Colon (safe_done (omega arith) (omega arith))))) safe_stop
statement-by t d p o k.Break low = safe_if (p.in_loop || p.in_switch) (safe_spend (omega arith) (omega arith) (safe_take (λ _. safe_expect k.Semicolon (safe_done (omega arith) (omega arith))))) safe_stop
statement-by t d p o k.Continue low = safe_if p.in_loop (safe_spend (omega arith) (omega arith) (safe_take (λ _. safe_expect k.Semicolon (safe_done (omega arith) (omega arith))))) safe_stop
statement-by t d p o k.Return low = safe_spend (omega arith) (omega arith) (safe_take (λ _. safe_call (omega arith) (omega arith) (omega arith) (omega arith) (λ _. safe_done (omega arith) (omega arith))))
statement-by t d p o k.Goto low = safe_spend (omega arith) (omega arith) (safe_take (λ _. safe_name (λ _. safe_expect k.Semicolon (safe_done (omega arith) (omega arith)))))
statement-by t d p o k.Name low = safe_if p.in_block (safe_spend (omega arith) (omega arith) (safe_take (λ n. safe_look (λ e. labelled-by t d n _ _ e (omega arith) (omega arith))))) (expressed-by t d o low)
statement-by t d p o e low = statement-else t d p o (begins_declaration e) low

-- a statement
pub statement-due : (t : NameEnvironment) (d : ℕ) (p : Context) (o : ℕ) → Due (a_statement t d p o)
statement-due t d p o low = safe_look (λ e. statement-by t d p o e low)

statements-by : (t : NameEnvironment) (d : ℕ) (p : Context) (e : Kind) → Safe (statements_by t d p e) 30 0 (d + 22) 30 0
statements-by t d p k.CloseBrace = safe_take (λ _. safe_done (omega arith) (omega arith))
statements-by t d p _ = safe_strict (omega arith) (omega arith) (omega arith) (omega arith) (λ _. safe_call (omega arith) (omega arith) (omega arith) (omega arith) (λ _. safe_done (omega arith) (omega arith)))

-- the statements of a block
pub statements-due : (t : NameEnvironment) (d : ℕ) (p : Context) → Due (all_statements t d p)
statements-due t d p low = safe_look (λ e. statements-by t d p e)
