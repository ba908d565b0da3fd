-- What the rules of expressions count.
use Rattle.std.proofs.Common.{◌≡◌, ℕ, ◌+◌, max, refl, ap, arith, length-append, ◌&&◌, nat_le, Option, Some, None}
use Rattle.c_tree.specs.Tree.{Expression, size_of, expressions}
use Rattle.c_tree.specs.Nodes.{Node}
use Rattle.c_tree.specs.Marks.{Tokens}
use Rattle.c_tree.specs.ExpressionShape.{level}
use Rattle.c_grammar.specs.declared.kind.Kind.{Kind}
use Rattle.c_grammar.specs.declared.kind.Kind.TheVariants as k
use Rattle.c_grammar.specs.Body.{done}
use Rattle.c_grammar.specs.Body as body
use Rattle.c_grammar.specs.Gauge.{Meter}
use Rattle.c_grammar.specs.Rules.{NameEnvironment, first_of_operand, begins_type, opened_by, sized_by, sizeof_by, prefix_by, texts_by, arguments_by, more_arguments_by, an_expression, a_whole, a_prefix, a_rest, an_opened, more_texts, all_arguments, more_arguments, longer, goes_on, infix_of}
use Rattle.c_grammar.specs.declared.infix.First.{First}
use Rattle.c_grammar.specs.declared.infix.Infix.{Infix}
use Rattle.c_grammar.specs.declared.infix.First.TheVariants as fi
use Rattle.c_grammar.specs.declared.infix.Infix.TheVariants as ix
use Rattle.c_grammar.proofs.Conditions.{go_done, go_stop, go_look, go_call, go_scope, go_if}
use Rattle.c_grammar.proofs.Costs.Counting.{Costs}
use Rattle.c_grammar.proofs.Costs.Steps.{Counts, Cost, pay, lift, skips, wants, a_name_taken}
use Rattle.c_grammar.proofs.Costs.Numbers.{expression_deep}

-- an expression in its own scope
pub expression-cost : (t : NameEnvironment) (d l o : ℕ) → Cost (an_expression t d l o)
expression-cost t d l o ts m = go_scope (λ x us n p. let a = p (omega arith) in go_done (a.0, ap (max m.peak) a.1))

-- a whole expression
pub whole-cost : (t : NameEnvironment) (d l o : ℕ) → Cost (a_whole t d l o)
whole-cost t d l o ts m = go_call (λ x us n p. go_call (λ y vs q h. go_done (λ peak. let a = p peak in let b = h a.1 in (omega arith, b.1))))

longer-by : (t : NameEnvironment) (d l : ℕ) (x : Expression) (i : Option Infix) (ts : Tokens) (m : Meter) → Counts (longer t d l x i) (Costs (a_rest t d l x) ts m) ts m
longer-by t d l x None ts m = go_done (λ peak. (refl, peak))
longer-by t d l x (Some ix.Comma) ts m =
    lift (pay (skips (λ _ us. go_call (λ y vs n p. go_call (λ z ws q h. go_done (λ peak. let deep = expression_deep y in let b = h (omega arith) in (omega (arith, length-append {A = Node}), b.1)))))))
longer-by t d l x (Some (ix.Assign o)) ts m =
    lift (pay (skips (λ _ us. go_call (λ y vs n p. go_call (λ z ws q h. go_done (λ peak. let deep = expression_deep y in let b = h (omega arith) in (omega (arith, length-append {A = Node}), b.1)))))))
longer-by t d l x (Some ix.Question) ts m =
    lift (pay (skips (λ _ us. go_call (λ y vs n p. wants k.Colon (λ ws. go_call (λ w vs n r. go_call (λ z ws q h. go_done (λ peak.
    let deep = expression_deep y in let deep_too = expression_deep w in let b = h (omega arith) in (omega (arith, length-append {A = Node}), b.1)))))))))
longer-by t d l x (Some (ix.Operator o)) ts m =
    lift (pay (skips (λ _ us. go_call (λ y vs n p. go_call (λ z ws q h. go_done (λ peak. let deep = expression_deep y in let b = h (omega arith) in (omega (arith, length-append {A = Node}), b.1)))))))
longer-by t d l x (Some ix.Index) ts m =
    lift (pay (skips (λ _ us. go_call (λ y vs n p. wants k.CloseBracket (λ ws. go_call (λ z ws q h. go_done (λ peak.
    let deep = expression_deep y in let b = h (omega arith) in (omega (arith, length-append {A = Node}), b.1))))))))
longer-by t d l x (Some ix.Call) ts m =
    lift (pay (skips (λ _ us. go_call (λ xs vs n p. go_call (λ z ws q h. go_done (λ peak. let a = p (omega arith) in let b = h (omega arith) in (omega (arith, length-append {A = Node}), b.1)))))))
longer-by t d l x (Some ix.Dot) ts m = lift (pay (skips (λ _ us. a_name_taken (λ n vs. go_call (λ z ws q h. go_done (λ peak. let b = h (omega arith) in (omega arith, b.1)))))))
longer-by t d l x (Some ix.Arrow) ts m = lift (pay (skips (λ _ us. a_name_taken (λ n vs. go_call (λ z ws q h. go_done (λ peak. let b = h (omega arith) in (omega arith, b.1)))))))
longer-by t d l x (Some (ix.Step o)) ts m = lift (pay (skips (λ _ us. go_call (λ z ws q h. go_done (λ peak. let b = h (omega arith) in (omega arith, b.1))))))

-- how an expression goes on
pub rest-cost : (t : NameEnvironment) (d l : ℕ) (x : Expression) → Cost (a_rest t d l x)
rest-cost t d l x ts m = go_look (λ e is. go_if {b = goes_on l (infix_of e) (level x)} (λ yes. longer-by t d l x (infix_of e) ts m) (λ no. go_done (λ peak. (refl, peak))))

opened-by : (t : NameEnvironment) (d l o : ℕ) (e : Kind) (ts us : Tokens) (m n : Meter) → n.made ≡ m.made + (o + 1) → (m.peak ≡ d + 1 → n.peak ≡ d + 2) →
    Counts (opened_by t d l e) (Costs (a_prefix t d l o) ts m) us n
opened-by t d l o e ts us m n made peak = go_if {b = begins_type e && nat_le l 14}
    (λ yes. go_call (λ y vs p q. wants k.CloseParen (λ ws. go_call (λ x xs r h. go_done (λ before.
    let at = peak before in let a = q (omega arith) in let deep = expression_deep x in (omega (arith, length-append {A = Node}), omega arith))))))
    (λ no. go_call (λ x vs p q. wants k.CloseParen (λ ws. go_done (λ before. let at = peak before in let deep = expression_deep x in (omega arith, omega arith)))))

sized-by : (t : NameEnvironment) (d l o : ℕ) (e : Kind) (ts us : Tokens) (m n : Meter) → n.made ≡ m.made + o → (m.peak ≡ d + 1 → n.peak ≡ d + 1) →
    Counts (sized_by t d e) (Costs (a_prefix t d l o) ts m) us n
sized-by t d l o e ts us m n made peak = go_if {b = begins_type e}
    (λ yes. go_call (λ y vs p q. wants k.CloseParen (λ ws. go_done (λ before. let at = peak before in let a = q (omega arith) in (omega arith, omega arith)))))
    (λ no. go_scope (λ x vs p q. go_done (λ before. let at = peak before in let a = q (omega arith) in (omega arith, omega arith))))

operand-by : (t : NameEnvironment) (d l o : ℕ) (ts us : Tokens) (m n : Meter) → n.made ≡ m.made + o → (m.peak ≡ d + 1 → n.peak ≡ d + 1) →
    Counts (body.call (an_expression t (d + 1) 15 1) (λ x. done (size_of x))) (Costs (a_prefix t d l o) ts m) us n
operand-by t d l o ts us m n made peak = go_call (λ x vs p q. go_done (λ before. let at = peak before in let deep = expression_deep x in (omega arith, omega arith)))

sizeof-by : (t : NameEnvironment) (d l o : ℕ) (e : Kind) (ts us : Tokens) (m n : Meter) → n.made ≡ m.made + o → (m.peak ≡ d + 1 → n.peak ≡ d + 1) →
    Counts (sizeof_by t d e) (Costs (a_prefix t d l o) ts m) us n
sizeof-by t d l o k.OpenParen ts us m n made peak = skips (λ _ vs. go_look (λ e is. sized-by t d l o e ts vs m n made peak))
sizeof-by t d l o _ ts us m n made peak = operand-by t d l o ts us m n made peak

prefix-by : (t : NameEnvironment) (d l o : ℕ) (i : Option First) (ts : Tokens) (m : Meter) → Counts (prefix_by t d l o i) (Costs (a_prefix t d l o) ts m) ts m
prefix-by t d l o None ts m = go_stop
prefix-by t d l o (Some fi.Word) ts m = pay (skips (λ n us. go_done (λ before. (omega arith, omega arith))))
prefix-by t d l o (Some fi.Number) ts m = pay (skips (λ n us. go_done (λ before. (omega arith, omega arith))))
prefix-by t d l o (Some fi.Character) ts m = pay (skips (λ n us. go_done (λ before. (omega arith, omega arith))))
prefix-by t d l o (Some fi.Text) ts m = pay (skips (λ n us. go_call (λ ns vs p q. go_done (λ before. let made = ap (λ (z : Meter). z.made) q in let peak = ap (λ (z : Meter). z.peak) q in (omega arith, omega arith)))))
prefix-by t d l o (Some fi.Open) ts m = pay (skips (λ _ us. go_look (λ e is. opened-by t d l o e ts us m _ refl (λ before. omega arith))))
prefix-by t d l o (Some fi.Sizeof) ts m = pay (skips (λ _ us. go_look (λ e is. sizeof-by t d l o e ts us m _ refl (λ before. omega arith))))
prefix-by t d l o (Some (fi.Step s)) ts m = pay (skips (λ _ us. go_call (λ x vs p q. go_done (λ before. let deep = expression_deep x in (omega arith, omega arith)))))
prefix-by t d l o (Some (fi.Unary s)) ts m = pay (skips (λ _ us. go_call (λ x vs p q. go_done (λ before. let deep = expression_deep x in (omega arith, omega arith)))))

-- a first operand
pub prefix-cost : (t : NameEnvironment) (d l o : ℕ) → Cost (a_prefix t d l o)
prefix-cost t d l o ts m = go_look (λ e is. prefix-by t d l o (first_of_operand e) ts m)

-- the operand of sizeof behind its bracket
pub opened-cost : (t : NameEnvironment) (d : ℕ) → Cost (an_opened t d)
opened-cost t d ts m = go_call (λ x us n p. wants k.CloseParen (λ vs. go_call (λ y ws q h. go_done (λ before. let deep = expression_deep x in let a = h (omega arith) in (omega arith, a.1)))))

texts-by : (e : Kind) (ts : Tokens) (m : Meter) → Counts (texts_by e) (Costs more_texts ts m) ts m
texts-by k.Text ts m = skips (λ n us. go_call (λ ns vs p q. go_done q))
texts-by _ ts m = go_done refl

-- no nodes for more texts
pub texts-cost : Cost more_texts
texts-cost ts m = go_look (λ e is. texts-by e ts m)

first-argument : (t : NameEnvironment) (d : ℕ) (ts : Tokens) (m : Meter) → Counts (body.call (an_expression t d 2 1) (λ x. body.call (more_arguments t d) (λ xs. done (expressions x xs)))) (Costs (all_arguments t d) ts m) ts m
first-argument t d ts m = go_call (λ x us n p. go_call (λ xs vs q h. go_done (λ before. let a = h (omega arith) in (omega (arith, length-append {A = Node}), omega arith))))

arguments-by : (t : NameEnvironment) (d : ℕ) (e : Kind) (ts : Tokens) (m : Meter) → Counts (arguments_by t d e) (Costs (all_arguments t d) ts m) ts m
arguments-by t d k.CloseParen ts m = skips (λ _ us. go_done (λ before. (omega arith, omega arith)))
arguments-by t d _ ts m = first-argument t d ts m

-- the arguments of a call
pub arguments-cost : (t : NameEnvironment) (d : ℕ) → Cost (all_arguments t d)
arguments-cost t d ts m = go_look (λ e is. arguments-by t d e ts m)

more-arguments-by : (t : NameEnvironment) (d : ℕ) (e : Kind) (ts : Tokens) (m : Meter) → Counts (more_arguments_by t d e) (Costs (more_arguments t d) ts m) ts m
more-arguments-by t d k.CloseParen ts m = skips (λ _ us. go_done (λ before. (omega arith, omega arith)))
more-arguments-by t d k.Comma ts m = pay (skips (λ _ us. go_call (λ x vs n p. go_call (λ xs ws q h. go_done (λ before.
    let deep = expression_deep x in let a = h (omega arith) in (omega (arith, length-append {A = Node}), omega arith))))))
more-arguments-by t d _ ts m = go_stop

-- more arguments
pub more-arguments-cost : (t : NameEnvironment) (d : ℕ) → Cost (more_arguments t d)
more-arguments-cost t d ts m = go_look (λ e is. more-arguments-by t d e ts m)
