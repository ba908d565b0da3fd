-- What the rules of statements count.
use Rattle.std.proofs.Common.{◌≡◌, ℕ, suc, ◌+◌, max, [], ◌++◌, length, refl, arith, length-append, cond, ◌||◌, Option, Some}
use Rattle.c_tree.specs.Tree.{Name, Expression, name, ForStartTree, StatementTree, declaration, expression_statement, for_statement, statements}
use Rattle.c_tree.specs.Nodes.{Node, nodes_start, nodes_optional, nodes_expression, nodes_statement}
use Rattle.c_tree.specs.Depth.{depth_expression, depth_statement}
use Rattle.c_tree.specs.Marks.{Tokens}
use Rattle.c_tree.specs.Shape.{Context}
use Rattle.c_grammar.specs.declared.kind.Kind.{Kind}
use Rattle.c_grammar.specs.declared.kind.Kind.TheVariants as k
use Rattle.c_grammar.specs.Kind.{same_kind}
use Rattle.c_grammar.specs.Body.{done}
use Rattle.c_grammar.specs.Body as body
use Rattle.c_grammar.specs.Gauge.{Meter}
use Rattle.c_grammar.specs.Rules.{NameEnvironment, a_rest, begins_declaration, else_by, expressed, follows_name, labelled_by, statement_by, statements_by, a_declaration, an_optional, a_start, a_statement, all_statements}
use Rattle.c_grammar.proofs.Conditions.{go_done, go_stop, go_look, go_call, go_strict, go_scope, go_if}
use Rattle.c_grammar.proofs.Costs.Counting.{Costs}
use Rattle.c_grammar.proofs.Costs.Steps.{Counts, Cost, pay, skips, wants, a_name_taken}
use Rattle.c_grammar.proofs.Costs.Numbers.{expression_deep, statement_deep, for_deep}

-- an expression or none
pub optional-cost : (t : NameEnvironment) (d : ℕ) (e : Kind) → Cost (an_optional t d e)
optional-cost t d e ts m = go_look (λ j is. go_if {b = same_kind j e}
    (λ yes. skips (λ _ us. go_done (λ before. (omega arith, omega arith))))
    (λ no. go_call (λ x us n p. wants e (λ vs. go_done (λ before. (omega arith, p.1))))))

-- the start of a loop
pub start-cost : (t : NameEnvironment) (d : ℕ) → Cost (a_start t d)
start-cost t d ts m = go_look (λ e is. go_if {b = begins_declaration e}
    (λ yes. pay (go_call (λ x us n p. go_done (λ before. let a = p (omega arith) in (omega arith, omega arith)))))
    (λ no. go_call (λ x us n p. go_done p)))

-- behind a branch of an if, whose condition and branch are counted
else-by : (t : NameEnvironment) (d : ℕ) (p : Context) (o : ℕ) (x : Expression) (y : StatementTree) (e : Kind) (ts us : Tokens) (m n : Meter) →
    suc n.made ≡ m.made + (o + suc (length (nodes_expression x) + length (nodes_statement y))) → n.peak ≡ max m.peak (d + (1 + max (depth_expression x) (depth_statement y))) →
    Counts (else_by t d p x y e) (Costs (a_statement t d p o) ts m) us n
else-by t d p o x y k.Else ts us m n made peak = pay (skips (λ _ vs. go_call (λ z ws q h. go_done (
    let a = length-append (nodes_expression x) (nodes_statement y ++ nodes_statement z) in let b = length-append (nodes_statement y) (nodes_statement z) in let deep = statement_deep z in (omega arith, omega arith)))))
else-by t d p o x y _ ts us m n made peak = go_done (let a = length-append (nodes_expression x) (nodes_statement y) in (omega arith, peak))

expressed-by : (t : NameEnvironment) (d : ℕ) (p : Context) (o : ℕ) (ts : Tokens) (m : Meter) → Counts (expressed t d o) (Costs (a_statement t d p o) ts m) ts m
expressed-by t d p o ts m = go_call (λ x us n q. wants k.Semicolon (λ vs. go_done (omega arith, omega arith)))

labelled-rest : (t : NameEnvironment) (d : ℕ) (p : Context) (o : ℕ) (a : Name) (ts us : Tokens) (m n : Meter) → n.made ≡ m.made + o → n.peak ≡ max m.peak (d + 1) →
    Counts (body.spend 1 (d + 2) (body.scope (d + 2) (a_rest t (d + 1) 1 (name a)) (λ x. body.look [] (λ j. cond (same_kind j k.Semicolon) (body.take (λ b. done (expression_statement (Some x)))) body.stop)))) (Costs (a_statement t d p o) ts m) us n
labelled-rest t d p o a ts us m n made peak = pay (go_scope (λ x vs q h. wants k.Semicolon (λ ws. go_done (let b = h (omega arith) in let deep = expression_deep x in (omega arith, omega arith)))))

labelled-else : (t : NameEnvironment) (d : ℕ) (p : Context) (o : ℕ) (a : Name) (e : Kind) (ts us : Tokens) (m n : Meter) → n.made ≡ m.made + o → n.peak ≡ max m.peak (d + 1) →
    Counts (cond (follows_name e) (body.spend 1 (d + 2) (body.scope (d + 2) (a_rest t (d + 1) 1 (name a)) (λ x. body.look [] (λ j. cond (same_kind j k.Semicolon) (body.take (λ b. done (expression_statement (Some x)))) body.stop)))) body.stop) (Costs (a_statement t d p o) ts m) us n
labelled-else t d p o a e ts us m n made peak = go_if {b = follows_name e} (λ yes. labelled-rest t d p o a ts us m n made peak) (λ no. go_stop)

labelled-by : (t : NameEnvironment) (d : ℕ) (p : Context) (o : ℕ) (a : Name) (e : Kind) (ts us : Tokens) (m n : Meter) → n.made ≡ m.made + o → n.peak ≡ max m.peak (d + 1) →
    Counts (labelled_by t d a e) (Costs (a_statement t d p o) ts m) us n
labelled-by t d p o a k.Colon ts us m n made peak = skips (λ _ vs. go_done (omega arith, omega arith))
labelled-by t d p o a e ts us m n made peak = labelled-else t d p o a e ts us m n made peak

-- a declaration or an expression
statement-else : (t : NameEnvironment) (d : ℕ) (p : Context) (o : ℕ) (e : Kind) (ts : Tokens) (m : Meter) →
    Counts (cond (begins_declaration e) (cond p.in_block (body.spend o (d + 1) (body.call (a_declaration t (d + 1)) (λ x. done (declaration x)))) body.stop) (expressed t d o)) (Costs (a_statement t d p o) ts m) ts m
statement-else t d p o e ts m = go_if {b = begins_declaration e}
    (λ yes. go_if {b = p.in_block} (λ inside. pay (go_call (λ x us n q. go_done (let a = q (omega arith) in (omega arith, omega arith))))) (λ out. go_stop))
    (λ no. expressed-by t d p o ts m)

for_size : (c : ForStartTree) (x y : Option Expression) (z : StatementTree) →
    length (nodes_statement (for_statement c x y z)) ≡ suc (length (nodes_start c) + (length (nodes_optional x) + (length (nodes_optional y) + length (nodes_statement z))))
for_size c x y z = simp length-append

statement-by : (t : NameEnvironment) (d : ℕ) (p : Context) (o : ℕ) (e : Kind) (ts : Tokens) (m : Meter) → Counts (statement_by t d p o e) (Costs (a_statement t d p o) ts m) ts m
statement-by t d p o k.OpenBrace ts m = pay (skips (λ _ us. go_call (λ ss vs n h. go_done (let a = h (omega arith) in (omega arith, omega arith)))))
statement-by t d p o k.Semicolon ts m = pay (skips (λ _ us. go_done (omega arith, omega arith)))
statement-by t d p o k.If ts m = pay (skips (λ _ us. wants k.OpenParen (λ vs. go_call (λ x ws n q. wants k.CloseParen (λ xs. go_call (λ y ys z r. go_look (λ e is.
    let deep = expression_deep x in let deep_too = statement_deep y in else-by t d p o x y e ts ys m z (omega arith) (omega arith))))))))
statement-by t d p o k.While ts m = pay (skips (λ _ us. wants k.OpenParen (λ vs. go_call (λ x ws n q. wants k.CloseParen (λ xs. go_call (λ y ys z r. go_done (
    let deep = expression_deep x in let deep_too = statement_deep y in (omega (arith, length-append {A = Node}), omega arith))))))))
statement-by t d p o k.Do ts m = pay (skips (λ _ us. go_call (λ y vs n q. wants k.While (λ ws. wants k.OpenParen (λ xs. go_call (λ x ys z r. wants k.CloseParen (λ zs. wants k.Semicolon (λ bs. go_done (
    let deep = expression_deep x in let deep_too = statement_deep y in (omega (arith, length-append {A = Node}), omega arith))))))))))
statement-by t d p o k.For ts m = pay (skips (λ _ us. wants k.OpenParen (λ vs. go_call (λ c ws n q. go_call (λ x xs g h. go_call (λ y ys i j. go_call (λ z zs l r. go_done (
    let a = q (omega arith) in let b = h (omega arith) in let e = j (omega arith) in (omega (arith, for_size c x y z), for_deep d _ _ _ _ _ _ _ _ _ a.1 b.1 e.1 r.1 (statement_deep z))))))))))
statement-by t d p o k.Switch ts m = pay (skips (λ _ us. wants k.OpenParen (λ vs. go_call (λ x ws n q. wants k.CloseParen (λ xs. wants k.OpenBrace (λ ys. go_call (λ ss zs l r. go_done (
    let a = r (omega arith) in let deep = expression_deep x in (omega (arith, length-append {A = Node}), omega arith)))))))))
statement-by t d p o k.Case ts m = go_if {b = p.in_cases} (λ yes. pay (skips (λ _ us. go_call (λ x vs n q. wants k.Colon (λ ws. go_done (let deep = expression_deep x in (omega arith, omega arith))))))) (λ no. go_stop)
statement-by t d p o k.Default ts m = go_if {b = p.in_cases} (λ yes. pay (skips (λ _ us. wants k.Colon (λ ws. go_done (omega arith, omega arith))))) (λ no. go_stop)
statement-by t d p o k.Break ts m = go_if {b = p.in_loop || p.in_switch} (λ yes. pay (skips (λ _ us. wants k.Semicolon (λ ws. go_done (omega arith, omega arith))))) (λ no. go_stop)
statement-by t d p o k.Continue ts m = go_if {b = p.in_loop} (λ yes. pay (skips (λ _ us. wants k.Semicolon (λ ws. go_done (omega arith, omega arith))))) (λ no. go_stop)
statement-by t d p o k.Return ts m = pay (skips (λ _ us. go_call (λ x vs n h. go_done (let a = h (omega arith) in (omega arith, omega arith)))))
statement-by t d p o k.Goto ts m = pay (skips (λ _ us. a_name_taken (λ a vs. wants k.Semicolon (λ ws. go_done (omega arith, omega arith)))))
statement-by t d p o k.Name ts m = go_if {b = p.in_block}
    (λ yes. pay (skips (λ a us. go_look (λ e is. labelled-by t d p o a e ts us m _ refl refl))))
    (λ no. expressed-by t d p o ts m)
statement-by t d p o e ts m = statement-else t d p o e ts m

-- a statement
pub statement-cost : (t : NameEnvironment) (d : ℕ) (p : Context) (o : ℕ) → Cost (a_statement t d p o)
statement-cost t d p o ts m = go_look (λ e is. statement-by t d p o e ts m)

first-statement : (t : NameEnvironment) (d : ℕ) (p : Context) (ts : Tokens) (m : Meter) → Counts (body.strict (a_statement t d p 1) (λ x. body.call (all_statements t d p) (λ xs. done (statements x xs)))) (Costs (all_statements t d p) ts m) ts m
first-statement t d p ts m = go_strict (λ x us n q. go_call (λ xs vs z h. go_done (λ before. let a = h (omega arith) in (omega (arith, length-append {A = Node}), omega arith))))

statements-by : (t : NameEnvironment) (d : ℕ) (p : Context) (e : Kind) (ts : Tokens) (m : Meter) → Counts (statements_by t d p e) (Costs (all_statements t d p) ts m) ts m
statements-by t d p k.CloseBrace ts m = skips (λ _ us. go_done (λ before. (omega arith, omega arith)))
statements-by t d p _ ts m = first-statement t d p ts m

-- the statements of a block
pub statements-cost : (t : NameEnvironment) (d : ℕ) (p : Context) → Cost (all_statements t d p)
statements-cost t d p ts m = go_look (λ e is. statements-by t d p e ts m)
