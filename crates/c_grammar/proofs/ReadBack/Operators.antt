-- Expressions with an operator behind their first operand are read.
use Rattle.std.proofs.Common.{◌≡◌, ◌+◌, ◌≤◌, suc, [], ◌∷◌, codes, refl, ◌∙◌, arith, Some}
use Rattle.c_tree.specs.declared.tree.AssignOp.{AssignOp}
use Rattle.c_tree.specs.declared.tree.BinaryOp.{BinaryOp}
use Rattle.c_tree.specs.declared.tree.StepOp.{StepOp}
use Rattle.c_tree.specs.Tree.{Name, Expression, comma, assign, choose, binary, index, call, dot, arrow, after, Expressions}
use Rattle.c_tree.specs.Marks.{mark, op_text, assign_text, step_text}
use Rattle.c_tree.specs.TypeWords.{IsOrdinary}
use Rattle.c_tree.specs.ExpressionShape.{level, op_level}
use Rattle.c_grammar.specs.declared.kind.Kind.TheVariants as k
use Rattle.c_grammar.specs.Kind.{token_of, operator_kind, assignment_kind, step_kind}
use Rattle.c_grammar.specs.Rules.{NameEnvironment}
use Rattle.c_grammar.specs.declared.infix.Infix.TheVariants as ix
use Rattle.c_grammar.proofs.Onto.{onto_expression, onto_arguments}
use Rattle.c_grammar.proofs.KindLemmas.{kind_at}
use Rattle.c_grammar.proofs.Weight.{weight, weight_at}
use Rattle.c_grammar.proofs.MoreKinds.{kind_operator, kind_assignment, kind_step, infix_operator, infix_assignment, infix_step, operator_weighs, assignment_weighs, step_weighs, operator_least, operator_most}
use Rattle.c_grammar.proofs.Runs.{run_take, run_spend, run_rise, run_call, run_expect, run_name, run_rest}
use Rattle.c_grammar.proofs.ReadBack.Tree.{ReadsExpression, ReadsArguments}
use Rattle.c_grammar.proofs.ReadBack.Operands.{rest_goes, expression_read, ceiling_low, ceiling_high}

module _ (t : NameEnvironment) where
  -- a comma expression is read
  pub comma_reads : (x y : Expression) → 1 ≤ level x → 2 ≤ level y → ReadsExpression t x → ReadsExpression t y → ReadsExpression t (comma x y)
  comma_reads x y xl yl hx hy = record {
    whole = λ d l o r some few fits ends.
        let us = mark (codes ",") ∷ onto_expression y r in
        let w : weight us ≡ 1 = weight_at k.Comma [] (onto_expression y r) tt in
        hx.whole d l o us some few (omega arith) (omega (arith, ceiling_low x xl))
        ∙ rest_goes t d l x us _ k.Comma (Some ix.Comma) (kind_at t.types k.Comma [] _ tt) refl fits xl
        (run_rise (run_spend (run_take (run_call refl (expression_read t (d + 1) 2 0 y r hy (omega arith) (omega arith) yl (omega arith)) (run_rest refl refl)))));
  }

  -- an assignment is read
  pub assign_reads : (a : AssignOp) (x y : Expression) → 15 ≤ level x → 2 ≤ level y → ReadsExpression t x → ReadsExpression t y → ReadsExpression t (assign a x y)
  assign_reads a x y xl yl hx hy = record {
    whole = λ d l o r some few fits ends.
        let us = mark (assign_text a) ∷ onto_expression y r in
        let w : weight us ≡ 2 = assignment_weighs a (onto_expression y r) in
        hx.whole d l o us some few (omega arith) (omega (arith, ceiling_high x (omega arith)))
        ∙ rest_goes t d l x us _ (assignment_kind a) (Some (ix.Assign a)) (kind_assignment t.types a _) (infix_assignment a) fits xl
        (run_rise (run_spend (run_take (run_call refl (expression_read t (d + 1) 2 0 y r hy (omega arith) (omega arith) yl (omega arith)) (run_rest refl refl)))));
  }

  -- a choice is read
  pub choose_reads : (x y z : Expression) → 4 ≤ level x → 1 ≤ level y → 3 ≤ level z → ReadsExpression t x → ReadsExpression t y → ReadsExpression t z → ReadsExpression t (choose x y z)
  choose_reads x y z xl yl zl hx hy hz = record {
    whole = λ d l o r some few fits ends.
        let vs = mark (codes ":") ∷ onto_expression z r in
        let us = mark (codes "?") ∷ onto_expression y vs in
        let w : weight us ≡ 3 = weight_at k.Question [] (onto_expression y vs) tt in
        let v : weight vs ≡ 0 = weight_at k.Colon [] (onto_expression z r) tt in
        hx.whole d l o us some few (omega arith) (omega (arith, ceiling_high x xl))
        ∙ rest_goes t d l x us _ k.Question (Some ix.Question) (kind_at t.types k.Question [] _ tt) refl fits xl
        (run_rise (run_spend (run_take
        (run_call refl (expression_read t (d + 1) 1 0 y vs hy (omega arith) (omega arith) yl (omega arith))
        (run_expect k.Colon tt
        (run_call refl (expression_read t (d + 1) 3 0 z r hz (omega arith) (omega arith) zl (omega arith)) (run_rest refl refl)))))));
  }

  -- a binary operation is read
  pub binary_reads : (b : BinaryOp) (x y : Expression) → op_level b ≤ level x → suc (op_level b) ≤ level y → ReadsExpression t x → ReadsExpression t y → ReadsExpression t (binary b x y)
  binary_reads b x y xl yl hx hy = record {
    whole = λ d l o r some few fits ends.
        let us = mark (op_text b) ∷ onto_expression y r in
        let w : weight us ≡ op_level b = operator_weighs b (onto_expression y r) in
        let low : 4 ≤ op_level b = operator_least b in
        let high : op_level b ≤ 13 = operator_most b in
        hx.whole d l o us some few (omega arith) (omega (arith, ceiling_high x (omega arith)))
        ∙ rest_goes t d l x us _ (operator_kind b) (Some (ix.Operator b)) (kind_operator t.types b _) (infix_operator b) fits xl
        (run_rise (run_spend (run_take (run_call refl (expression_read t (d + 1) (suc (op_level b)) 0 y r hy (omega arith) (omega arith) yl (omega arith)) (run_rest refl refl)))));
  }

  -- an index is read
  pub index_reads : (x y : Expression) → 16 ≤ level x → 1 ≤ level y → ReadsExpression t x → ReadsExpression t y → ReadsExpression t (index x y)
  index_reads x y xl yl hx hy = record {
    whole = λ d l o r some few fits ends.
        let vs = mark (codes "]") ∷ r in
        let us = mark (codes "[") ∷ onto_expression y vs in
        let w : weight us ≡ 16 = weight_at k.OpenBracket [] (onto_expression y vs) tt in
        let v : weight vs ≡ 0 = weight_at k.CloseBracket [] r tt in
        hx.whole d l o us some few (omega arith) (omega (arith, ceiling_high x (omega arith)))
        ∙ rest_goes t d l x us _ k.OpenBracket (Some ix.Index) (kind_at t.types k.OpenBracket [] _ tt) refl fits xl
        (run_rise (run_spend (run_take
        (run_call refl (expression_read t (d + 1) 1 0 y vs hy (omega arith) (omega arith) yl (omega arith))
        (run_expect k.CloseBracket tt (run_rest refl refl))))));
  }

  -- a call is read
  pub call_reads : (x : Expression) (xs : Expressions) → 16 ≤ level x → ReadsExpression t x → ReadsArguments t xs → ReadsExpression t (call x xs)
  call_reads x xs xl hx hy = record {
    whole = λ d l o r some few fits ends.
        let vs = mark (codes ")") ∷ r in
        let us = mark (codes "(") ∷ onto_arguments xs vs in
        let w : weight us ≡ 16 = weight_at k.OpenParen [] (onto_arguments xs vs) tt in
        hx.whole d l o us some few (omega arith) (omega (arith, ceiling_high x (omega arith)))
        ∙ rest_goes t d l x us _ k.OpenParen (Some ix.Call) (kind_at t.types k.OpenParen [] _ tt) refl fits xl
        (run_rise (run_spend (run_take (run_call refl (hy.all (d + 1) r) (run_rest refl refl)))));
  }

  -- a member is read
  pub dot_reads : (x : Expression) (n : Name) → 16 ≤ level x → IsOrdinary t.types n → ReadsExpression t x → ReadsExpression t (dot x n)
  dot_reads x n xl new hx = record {
    whole = λ d l o r some few fits ends.
        let w : weight _ ≡ 16 = weight_at k.Dot [] (token_of k.Name n ∷ r) tt in
        hx.whole d l o _ some few (omega arith) (omega (arith, ceiling_high x (omega arith)))
        ∙ rest_goes t d l x _ _ k.Dot (Some ix.Dot) (kind_at t.types k.Dot [] _ tt) refl fits xl
        (run_rise (run_spend (run_take (run_name new (run_rest refl refl)))));
  }

  -- a member behind a pointer is read
  pub arrow_reads : (x : Expression) (n : Name) → 16 ≤ level x → IsOrdinary t.types n → ReadsExpression t x → ReadsExpression t (arrow x n)
  arrow_reads x n xl new hx = record {
    whole = λ d l o r some few fits ends.
        let w : weight _ ≡ 16 = weight_at k.Arrow [] (token_of k.Name n ∷ r) tt in
        hx.whole d l o _ some few (omega arith) (omega (arith, ceiling_high x (omega arith)))
        ∙ rest_goes t d l x _ _ k.Arrow (Some ix.Arrow) (kind_at t.types k.Arrow [] _ tt) refl fits xl
        (run_rise (run_spend (run_take (run_name new (run_rest refl refl)))));
  }

  -- a step behind its operand is read
  pub after_reads : (s : StepOp) (x : Expression) → 16 ≤ level x → ReadsExpression t x → ReadsExpression t (after s x)
  after_reads s x xl hx = record {
    whole = λ d l o r some few fits ends.
        let w : weight (mark (step_text s) ∷ r) ≡ 16 = step_weighs s r in
        hx.whole d l o _ some few (omega arith) (omega (arith, ceiling_high x (omega arith)))
        ∙ rest_goes t d l x _ _ (step_kind s) (Some (ix.Step s)) (kind_step t.types s _) (infix_step s) fits xl
        (run_rise (run_spend (run_take (run_rest refl refl))));
  }
