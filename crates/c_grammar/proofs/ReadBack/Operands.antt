-- How an expression is read: its first operand, what goes on behind it, and where it ends.
use Rattle.std.proofs.Common.{◌≡◌, ℕ, ◌<◌, ◌≤◌, suc, true, false, nat_le, cond, refl, ap, ◌∙◌, le_refl, arith, Option}
use Rattle.std.proofs.lemmas.Bool.{cond-true, cond-false, and_from, and_left}
use Rattle.std.proofs.lemmas.Bool.Decides.{nat_tests}
use Rattle.c_tree.specs.Tree.{Expression, comma, assign, choose}
use Rattle.c_tree.specs.Marks.{Tokens}
use Rattle.c_tree.specs.ExpressionShape.{level}
use Rattle.c_grammar.specs.declared.kind.Kind.{Kind}
use Rattle.c_grammar.specs.Kind.{kind}
use Rattle.c_grammar.specs.Body.{Outcome, got, done}
use Rattle.c_grammar.specs.Rules.{NameEnvironment, Reads, first_of_operand, prefix_by, infix_of, own_level, left_level, goes_on, longer, an_expression, a_whole, a_prefix, a_rest}
use Rattle.c_grammar.specs.declared.infix.First.{First}
use Rattle.c_grammar.specs.declared.infix.Infix.{Infix}
use Rattle.c_grammar.proofs.Onto.{onto_expression}
use Rattle.c_grammar.proofs.Parse.{parse}
use Rattle.c_grammar.proofs.Runs.{Runs, ran, run_done, run_seen, run_call, run_scope, run_rest}
use Rattle.c_grammar.proofs.Weight.{weight, ceiling}
use Rattle.c_grammar.proofs.MoreKinds.{infix_weighs}
use Rattle.c_grammar.proofs.ReadBack.Tree.{ReadsExpression}

-- nothing goes on with what binds less
pub rest_stops : (t : NameEnvironment) (d l : ℕ) (x : Expression) (r : Tokens) → weight r < l → parse (a_rest t d l x) r ≡ got x r tt
rest_stops t d l x r ends =
    let i = infix_of (kind t.types r) in
    let few : own_level i < l = omega (arith, infix_weighs t.types r) in
    let no : nat_le l (own_level i) ≡ false = grind (arith, nat_tests) in
    ran (a_rest t d l x) r (got x r tt)
    (run_seen (cond-false (goes_on l i (level x)) (longer t d l x i) (done x) (and_left (nat_le l (own_level i)) (nat_le (left_level i) (level x)) no)) (run_done refl))

-- an expression goes on with an operator that binds as much as is asked, and takes what stands before it
pub rest_goes : (t : NameEnvironment) (d l : ℕ) (x : Expression) (ts : Tokens) (o : Outcome (Unit {0}) Expression) (e : Kind) (i : Option Infix) → kind t.types ts ≡ e → infix_of e ≡ i → l ≤ own_level i → left_level i ≤ level x →
    Runs false 1 (longer t d l x i) ts o → parse (a_rest t d l x) ts ≡ o
rest_goes t d l x ts o e i is of least left h =
    let go : nat_le l (own_level i) ≡ true = grind (arith, nat_tests) in
    let takes : nat_le (left_level i) (level x) ≡ true = grind (arith, nat_tests) in
    let same : infix_of (kind t.types ts) ≡ i = ap infix_of is ∙ of in
    let f : Option Infix → Reads Expression = λ j. cond (goes_on l j (level x)) (longer t d l x j) (done x) in
    ran (a_rest t d l x) ts o
    (run_seen (ap f same ∙ cond-true (goes_on l i (level x)) (longer t d l x i) (done x) (and_from (nat_le l (own_level i)) (nat_le (left_level i) (level x)) go takes)) h)

-- the first operand, by its first token
pub prefix_reads : (t : NameEnvironment) (d l o : ℕ) (ts : Tokens) (x : Expression) (r : Tokens) (e : Kind) (i : Option First) → kind t.types ts ≡ e → first_of_operand e ≡ i → Runs false 1 (prefix_by t d l o i) ts (got x r tt) →
    parse (a_whole t d l o) ts ≡ parse (a_rest t d l x) r
prefix_reads t d l o ts x r e i is of h =
    let f : Option First → Reads Expression = λ j. prefix_by t d l o j in
    let p : parse (a_prefix t d l o) ts ≡ got x r tt = ran (a_prefix t d l o) ts (got x r tt) (run_seen (ap f (ap first_of_operand is ∙ of)) h) in
    ran (a_whole t d l o) ts (parse (a_rest t d l x) r) (run_call refl p (run_rest refl refl))

-- an expression in its scope
pub expression_is : (t : NameEnvironment) (d l o : ℕ) (ts : Tokens) (x : Expression) (r : Tokens) → parse (a_whole t d l o) ts ≡ got x r tt → parse (an_expression t d l o) ts ≡ got x r tt
expression_is t d l o ts x r h = ran (an_expression t d l o) ts (got x r tt) (run_scope refl h (run_done refl))

-- how far the ceiling lies below the level
pub ceiling_near : (x : Expression) → level x ≤ suc (ceiling x)
ceiling_near (assign o x y) = omega arith
ceiling_near (choose x y z) = omega arith
ceiling_near (comma x y) = omega arith
ceiling_near _ = omega arith

-- no ceiling is 0
pub ceiling_low : (x : Expression) → 1 ≤ level x → 1 ≤ ceiling x
ceiling_low (assign o x y) h = omega arith
ceiling_low (choose x y z) h = omega arith
ceiling_low (comma x y) h = h
ceiling_low _ h = h

-- above the choice the ceiling is the level
pub ceiling_high : (x : Expression) → 4 ≤ level x → level x ≤ ceiling x
ceiling_high (assign o x y) h = absurd (omega arith)
ceiling_high (choose x y z) h = absurd (omega arith)
ceiling_high (comma x y) h = le_refl _
ceiling_high _ h = le_refl _

-- an expression before what binds less than is asked, in its own scope
pub whole_read : (t : NameEnvironment) (d l o : ℕ) (x : Expression) (r : Tokens) → ReadsExpression t x → 1 ≤ l → l ≤ 15 → l ≤ level x → weight r < l →
    parse (a_whole t d l o) (onto_expression x r) ≡ got x r tt
whole_read t d l o x r h some few fits ends = h.whole d l o r some few fits (omega (arith, ceiling_near x)) ∙ rest_stops t d l x r ends

-- an expression before what binds less than is asked
pub expression_read : (t : NameEnvironment) (d l o : ℕ) (x : Expression) (r : Tokens) → ReadsExpression t x → 1 ≤ l → l ≤ 15 → l ≤ level x → weight r < l →
    parse (an_expression t d l o) (onto_expression x r) ≡ got x r tt
expression_read t d l o x r h some few fits ends = expression_is t d l o (onto_expression x r) x r (whole_read t d l o x r h some few fits ends)
