-- What the text of an expression begins with.
use Rattle.std.proofs.Common.{◌≡◌, ◌≢◌, ◌<◌, ◌≤◌, false, List, [], ◌∷◌, length, codes, refl, sym, ap, ◌∙◌, length-append, append-nil, arith, Some, None}
use Rattle.c_tree.specs.declared.tree.UnaryOp.{UnaryOp}
use Rattle.c_tree.specs.declared.tree.StepOp.{StepOp}
use Rattle.c_tree.specs.Tree.{Name, Expression, comma, assign, choose, binary, cast, unary, before, size_of, size_of_type, index, call, dot, arrow, after, name, integer, character, text, paren}
use Rattle.c_tree.specs.Marks.{Tokens, mark}
use Rattle.c_tree.specs.Spelling.{spell_expression}
use Rattle.c_tree.specs.ExpressionShape.{level, ShapeExpression}
use Rattle.c_grammar.specs.declared.kind.Kind.{Kind}
use Rattle.c_grammar.specs.declared.kind.Kind.TheVariants as k
use Rattle.c_grammar.specs.Kind.{kind, tail_of, unary_kind, step_kind}
use Rattle.c_grammar.specs.Rules.{NameEnvironment, first_of_operand, begins_type}
use Rattle.c_grammar.specs.declared.infix.First.TheVariants as fi
use Rattle.c_grammar.proofs.Onto.{onto_expression}
use Rattle.c_grammar.proofs.OntoSpelling.{expression_onto}
use Rattle.c_grammar.proofs.KindLemmas.{kind_at, kind_name, kind_end}
use Rattle.c_grammar.proofs.MoreKinds.{kind_unary, kind_step, first_unary, first_step, operator_most}

-- an operand begins with a token of the kind
operand_from : (e : Kind) (i : Kind) → i ≡ e → first_of_operand e ≢ None → first_of_operand i ≢ None
operand_from e i is h = λ q. h (ap first_of_operand (sym is) ∙ q)

unary_operand : (o : UnaryOp) → first_of_operand (unary_kind o) ≢ None
unary_operand o = λ q. let e : Some (fi.Unary o) ≡ None = sym (first_unary o) ∙ q in cc

step_operand : (o : StepOp) → first_of_operand (step_kind o) ≢ None
step_operand o = λ q. let e : Some (fi.Step o) ≡ None = sym (first_step o) ∙ q in cc

-- an expression begins with what an operand begins with
pub expression_head : (t : NameEnvironment) (x : Expression) (r : Tokens) → ShapeExpression t.types x → first_of_operand (kind t.types (onto_expression x r)) ≢ None
expression_head t (comma x y) r s = expression_head t x _ s.2
expression_head t (assign o x y) r s = expression_head t x _ s.2
expression_head t (choose x y z) r s = expression_head t x _ s.3
expression_head t (binary o x y) r s = expression_head t x _ s.2
expression_head t (cast y x) r s = operand_from k.OpenParen _ (kind_at t.types k.OpenParen [] _ tt) (λ q. cc)
expression_head t (unary o x) r s = operand_from (unary_kind o) _ (kind_unary t.types o _) (unary_operand o)
expression_head t (before o x) r s = operand_from (step_kind o) _ (kind_step t.types o _) (step_operand o)
expression_head t (size_of x) r s = operand_from k.Sizeof _ (kind_at t.types k.Sizeof [] _ tt) (λ q. cc)
expression_head t (size_of_type y) r s = operand_from k.Sizeof _ (kind_at t.types k.Sizeof [] _ tt) (λ q. cc)
expression_head t (index x y) r s = expression_head t x _ s.1
expression_head t (call x xs) r s = expression_head t x _ s.1
expression_head t (dot x n) r s = expression_head t x _ s.2
expression_head t (arrow x n) r s = expression_head t x _ s.2
expression_head t (after o x) r s = expression_head t x _ s.1
expression_head t (name n) r s = operand_from k.Name _ (kind_name t.types n _ s) (λ q. cc)
expression_head t (integer n) r s = operand_from k.Integer _ (kind_at t.types k.Integer n _ tt) (λ q. cc)
expression_head t (character n) r s = operand_from k.Character _ (kind_at t.types k.Character n _ tt) (λ q. cc)
expression_head t (text []) r s = absurd (omega arith)
expression_head t (text (n ∷ ns)) r s = operand_from k.Text _ (kind_at t.types k.Text n _ tt) (λ q. cc)
expression_head t (paren x) r s = operand_from k.OpenParen _ (kind_at t.types k.OpenParen [] _ tt) (λ q. cc)

-- no operand begins with a kind that begins none
pub operand_not : (e f : Kind) → first_of_operand e ≢ None → first_of_operand f ≡ None → e ≢ f
operand_not e f h none = λ q. h (ap first_of_operand q ∙ none)

-- no type begins with what an operand begins with
pub operand_no_type : (e : Kind) → first_of_operand e ≢ None → begins_type e ≡ false
operand_no_type k.Const h = absurd (h refl)
operand_no_type k.Volatile h = absurd (h refl)
operand_no_type k.Void h = absurd (h refl)
operand_no_type k.Char h = absurd (h refl)
operand_no_type k.Short h = absurd (h refl)
operand_no_type k.Int h = absurd (h refl)
operand_no_type k.Long h = absurd (h refl)
operand_no_type k.Signed h = absurd (h refl)
operand_no_type k.Unsigned h = absurd (h refl)
operand_no_type k.TypeName h = absurd (h refl)
operand_no_type k.Struct h = absurd (h refl)
operand_no_type k.Enum h = absurd (h refl)
operand_no_type _ h = refl

-- no expression is read as nothing
spelled : (t : NameEnvironment) (x : Expression) (ts : Tokens) → onto_expression x [] ≡ ts → first_of_operand (kind t.types (onto_expression x [])) ≢ None → 1 ≤ length ts
spelled t x [] e h = absurd (h (ap (λ v. first_of_operand (kind t.types v)) e ∙ ap first_of_operand (kind_end t.types)))
spelled t x (v ∷ vs) e h = omega arith

-- an expression takes a token at least
pub expression_longer : (t : NameEnvironment) (x : Expression) (r : Tokens) → ShapeExpression t.types x → length r < length (onto_expression x r)
expression_longer t x r s =
    let some : 1 ≤ length (spell_expression x) = spelled t x (spell_expression x) (expression_onto x [] ∙ append-nil (spell_expression x)) (expression_head t x [] s) in
    omega (arith, ap length (expression_onto x r), length-append (spell_expression x) r)

-- one text cannot begin with two kinds
pub heads_differ : {P : Type 0} (types : List Name) (ts us : Tokens) (e f : Kind) → ts ≡ us → kind types ts ≡ e → kind types us ≡ f → e ≢ f → P
heads_differ types ts us e f same is of differ = absurd (differ (sym is ∙ ap (kind types) same ∙ of))

unary_not_open : (o : UnaryOp) → unary_kind o ≢ k.OpenParen
unary_not_open o = λ q. let e : Some (fi.Unary o) ≡ Some fi.Open = sym (first_unary o) ∙ ap first_of_operand q in cc

step_not_open : (o : StepOp) → step_kind o ≢ k.OpenParen
step_not_open o = λ q. let e : Some (fi.Step o) ≡ Some fi.Open = sym (first_step o) ∙ ap first_of_operand q in cc

-- where a unary expression begins with a bracket, no type stands in it
pub open_no_type : (t : NameEnvironment) (x : Expression) (r us : Tokens) → ShapeExpression t.types x → 15 ≤ level x → onto_expression x r ≡ mark (codes "(") ∷ us → begins_type (kind t.types us) ≡ false
open_no_type t (comma x y) r us s l e = absurd (omega arith)
open_no_type t (assign o x y) r us s l e = absurd (omega arith)
open_no_type t (choose x y z) r us s l e = absurd (omega arith)
open_no_type t (binary o x y) r us s l e = absurd (omega (arith, operator_most o))
open_no_type t (cast y x) r us s l e = absurd (omega arith)
open_no_type t (unary o x) r us s l e = heads_differ t.types _ _ _ _ e (kind_unary t.types o _) (kind_at t.types k.OpenParen [] us tt) (unary_not_open o)
open_no_type t (before o x) r us s l e = heads_differ t.types _ _ _ _ e (kind_step t.types o _) (kind_at t.types k.OpenParen [] us tt) (step_not_open o)
open_no_type t (size_of x) r us s l e = heads_differ t.types _ _ _ _ e (kind_at t.types k.Sizeof [] _ tt) (kind_at t.types k.OpenParen [] us tt) (λ q. cc)
open_no_type t (size_of_type y) r us s l e = heads_differ t.types _ _ _ _ e (kind_at t.types k.Sizeof [] _ tt) (kind_at t.types k.OpenParen [] us tt) (λ q. cc)
open_no_type t (index x y) r us s l e = open_no_type t x _ us s.1 (omega arith) e
open_no_type t (call x xs) r us s l e = open_no_type t x _ us s.1 (omega arith) e
open_no_type t (dot x n) r us s l e = open_no_type t x _ us s.2 (omega arith) e
open_no_type t (arrow x n) r us s l e = open_no_type t x _ us s.2 (omega arith) e
open_no_type t (after o x) r us s l e = open_no_type t x _ us s.1 (omega arith) e
open_no_type t (name n) r us s l e = heads_differ t.types _ _ _ _ e (kind_name t.types n r s) (kind_at t.types k.OpenParen [] us tt) (λ q. cc)
open_no_type t (integer n) r us s l e = heads_differ t.types _ _ _ _ e (kind_at t.types k.Integer n r tt) (kind_at t.types k.OpenParen [] us tt) (λ q. cc)
open_no_type t (character n) r us s l e = heads_differ t.types _ _ _ _ e (kind_at t.types k.Character n r tt) (kind_at t.types k.OpenParen [] us tt) (λ q. cc)
open_no_type t (text []) r us s l e = absurd (omega arith)
open_no_type t (text (n ∷ ns)) r us s l e = heads_differ t.types _ _ _ _ e (kind_at t.types k.Text n _ tt) (kind_at t.types k.OpenParen [] us tt) (λ q. cc)
open_no_type t (paren x) r us s l e =
    let same : kind t.types (onto_expression x (mark (codes ")") ∷ r)) ≡ kind t.types us = ap (λ v. kind t.types (tail_of v)) e in
    ap begins_type (sym same) ∙ operand_no_type _ (expression_head t x _ s)
