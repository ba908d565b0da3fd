-- The kinds of operators' tokens, and what kinds begin and go on with.
use Rattle.std.proofs.Common.{◌≡◌, ◌≤◌, Bool, true, false, cond, List, [], ◌∷◌, refl, sym, ap, ◌∙◌, le_refl, arith, Some}
use Rattle.c_tree.specs.declared.tree.AssignOp.{AssignOp}
use Rattle.c_tree.specs.declared.tree.AssignOp.TheVariants as a
use Rattle.c_tree.specs.declared.tree.BinaryOp.{BinaryOp}
use Rattle.c_tree.specs.declared.tree.BinaryOp.TheVariants as b
use Rattle.c_tree.specs.declared.tree.UnaryOp.{UnaryOp}
use Rattle.c_tree.specs.declared.tree.UnaryOp.TheVariants as u
use Rattle.c_tree.specs.declared.tree.StepOp.{StepOp}
use Rattle.c_tree.specs.declared.tree.StepOp.TheVariants as s
use Rattle.c_tree.specs.Tree.{Name}
use Rattle.c_tree.specs.TypeWords.{is_among}
use Rattle.c_tree.specs.Marks.{Tokens, mark, op_text, assign_text, unary_text, step_text}
use Rattle.c_tree.specs.ExpressionShape.{op_level}
use Rattle.c_grammar.specs.declared.kind.Kind.{Kind}
use Rattle.c_grammar.specs.declared.kind.Kind.TheVariants as k
use Rattle.c_grammar.specs.Kind.{kind, sorted, IsFixed, operator_kind, assignment_kind, unary_kind, step_kind, head_text}
use Rattle.c_grammar.specs.Rules.{infix_of, own_level, first_of_operand}
use Rattle.c_grammar.specs.declared.infix.First.TheVariants as fi
use Rattle.c_grammar.specs.declared.infix.Infix.TheVariants as ix
use Rattle.c_grammar.proofs.KindLemmas.{kind_at, kind_sorted, operator_mark, assignment_mark, unary_mark, step_mark}
use Rattle.c_grammar.proofs.Weight.{weight, weight_of, weight_is}

fixed_operator : (o : BinaryOp) → IsFixed (operator_kind o)
fixed_operator b.Or = tt
fixed_operator _ = tt

fixed_assignment : (o : AssignOp) → IsFixed (assignment_kind o)
fixed_assignment a.Plain = tt
fixed_assignment _ = tt

fixed_unary : (o : UnaryOp) → IsFixed (unary_kind o)
fixed_unary u.Address = tt
fixed_unary _ = tt

fixed_step : (o : StepOp) → IsFixed (step_kind o)
fixed_step s.Up = tt
fixed_step s.Down = tt

-- the kind of a binary operator's token
pub kind_operator : (types : List Name) (o : BinaryOp) (us : Tokens) → kind types (mark (op_text o) ∷ us) ≡ operator_kind o
kind_operator types o us = ap (λ v. kind types (v ∷ us)) (sym (operator_mark o [])) ∙ kind_at types (operator_kind o) [] us (fixed_operator o)

-- the kind of an assignment operator's token
pub kind_assignment : (types : List Name) (o : AssignOp) (us : Tokens) → kind types (mark (assign_text o) ∷ us) ≡ assignment_kind o
kind_assignment types o us = ap (λ v. kind types (v ∷ us)) (sym (assignment_mark o [])) ∙ kind_at types (assignment_kind o) [] us (fixed_assignment o)

-- the kind of a unary operator's token
pub kind_unary : (types : List Name) (o : UnaryOp) (us : Tokens) → kind types (mark (unary_text o) ∷ us) ≡ unary_kind o
kind_unary types o us = ap (λ v. kind types (v ∷ us)) (sym (unary_mark o [])) ∙ kind_at types (unary_kind o) [] us (fixed_unary o)

-- the kind of a step operator's token
pub kind_step : (types : List Name) (o : StepOp) (us : Tokens) → kind types (mark (step_text o) ∷ us) ≡ step_kind o
kind_step types o us = ap (λ v. kind types (v ∷ us)) (sym (step_mark o [])) ∙ kind_at types (step_kind o) [] us (fixed_step o)

-- an expression goes on with a binary operator
pub infix_operator : (o : BinaryOp) → infix_of (operator_kind o) ≡ Some (ix.Operator o)
infix_operator b.Or = refl
infix_operator _ = refl

-- an expression goes on with an assignment
pub infix_assignment : (o : AssignOp) → infix_of (assignment_kind o) ≡ Some (ix.Assign o)
infix_assignment a.Plain = refl
infix_assignment _ = refl

-- an expression goes on with a step
pub infix_step : (o : StepOp) → infix_of (step_kind o) ≡ Some (ix.Step o)
infix_step s.Up = refl
infix_step s.Down = refl

-- an operand begins with a unary operator
pub first_unary : (o : UnaryOp) → first_of_operand (unary_kind o) ≡ Some (fi.Unary o)
first_unary u.Address = refl
first_unary _ = refl

-- an operand begins with a step
pub first_step : (o : StepOp) → first_of_operand (step_kind o) ≡ Some (fi.Step o)
first_step s.Up = refl
first_step s.Down = refl

-- the weight of a token of a known kind
pub weight_kind : (r : Tokens) (e : Kind) → kind [] r ≡ e → weight r ≡ weight_of e
weight_kind r e is = weight_is r ∙ ap weight_of is

weight_operator : (o : BinaryOp) → weight_of (operator_kind o) ≡ op_level o
weight_operator b.Or = refl
weight_operator _ = refl

weight_assignment : (o : AssignOp) → weight_of (assignment_kind o) ≡ 2
weight_assignment a.Plain = refl
weight_assignment _ = refl

weight_step : (o : StepOp) → weight_of (step_kind o) ≡ 16
weight_step s.Up = refl
weight_step s.Down = refl

-- an operator weighs its level
pub operator_weighs : (o : BinaryOp) (us : Tokens) → weight (mark (op_text o) ∷ us) ≡ op_level o
operator_weighs o us = weight_kind _ _ (kind_operator [] o us) ∙ weight_operator o

-- an assignment weighs 2
pub assignment_weighs : (o : AssignOp) (us : Tokens) → weight (mark (assign_text o) ∷ us) ≡ 2
assignment_weighs o us = weight_kind _ _ (kind_assignment [] o us) ∙ weight_assignment o

-- a step weighs 16
pub step_weighs : (o : StepOp) (us : Tokens) → weight (mark (step_text o) ∷ us) ≡ 16
step_weighs o us = weight_kind _ _ (kind_step [] o us) ∙ weight_step o

weight_most : (e : Kind) → own_level (infix_of e) ≤ weight_of e
weight_most k.Text = omega arith
weight_most _ = le_refl _

pub infix_sorted : (types : List Name) (e : Kind) (n : Name) → infix_of (sorted types e n) ≡ infix_of e
infix_sorted types k.Name n = whether (is_among types n)
  where
    whether : (test : Bool) → infix_of (cond test k.TypeName k.Name) ≡ infix_of k.Name
    whether true = refl
    whether false = refl
infix_sorted types _ n = refl

-- what goes on an expression weighs its level, whichever names are types
pub infix_weighs : (types : List Name) (r : Tokens) → own_level (infix_of (kind types r)) ≤ weight r
infix_weighs types r =
    let e : infix_of (kind types r) ≡ infix_of (kind [] r) = ap infix_of (kind_sorted types r) ∙ infix_sorted types (kind [] r) (head_text r) in
    let f : own_level (infix_of (kind types r)) ≡ own_level (infix_of (kind [] r)) = ap own_level e in
    let m : own_level (infix_of (kind [] r)) ≤ weight_of (kind [] r) = weight_most (kind [] r) in
    omega (arith, weight_is r)

gap_of : (e : Kind) → weight_of e ≤ 15 → weight_of e ≤ 13
gap_of k.Text h = absurd (omega arith)
gap_of k.OpenParen h = absurd (omega arith)
gap_of k.OpenBracket h = absurd (omega arith)
gap_of k.Dot h = absurd (omega arith)
gap_of k.Arrow h = absurd (omega arith)
gap_of k.PlusPlus h = absurd (omega arith)
gap_of k.MinusMinus h = absurd (omega arith)
gap_of _ h = omega arith

-- no operator stands between those behind a cast and those behind a multiplication
pub weight_gap : (r : Tokens) → weight r ≤ 15 → weight r ≤ 13
weight_gap r h = let g : weight_of (kind [] r) ≤ 13 = gap_of (kind [] r) (omega (arith, weight_is r)) in omega (arith, weight_is r)

-- the levels of binary operators
pub operator_least : (o : BinaryOp) → 4 ≤ op_level o
operator_least b.Or = omega arith
operator_least _ = omega arith

-- the highest level of a binary operator
pub operator_most : (o : BinaryOp) → op_level o ≤ 13
operator_most b.Or = omega arith
operator_most _ = omega arith
