-- What one operator makes of the expression before it.
use Rattle.std.specs.Prelude.{ℕ, suc, ◌+◌}
use Rattle.c_tree.specs.ExpressionShape.{op_level}
use Rattle.c_tree.specs.Tree.{Name, Expression, Expressions, comma, assign, choose, binary, index, call, dot, arrow, after}
use Rattle.c_grammar.specs.declared.kind.Kind.TheVariants as k
use Rattle.c_grammar.specs.Body.{done, spend, rise, Outcome}
use Rattle.c_grammar.specs.Body as body
use Rattle.c_grammar.specs.Gauge.{Meter}
use Rattle.c_grammar.specs.Input.{Input}
use Rattle.c_grammar.specs.Rules.{NameEnvironment, Reads, skip, expect, a_name, an_expression, all_arguments}
use Rattle.c_grammar.specs.declared.infix.Infix.{Infix}
use Rattle.c_grammar.specs.declared.infix.Infix.TheVariants as ix
use Rattle.c_grammar.specs.Lists.{mapped}
use Rattle.c_grammar.specs.Performing.{perform}

-- an operator, and its right operand
abbrev pub right_operand : NameEnvironment → ℕ → ℕ → Reads Expression
right_operand t d least = rise (spend 2 (d + 2) (skip (body.call (an_expression t (d + 1) least 0) done)))

-- both choices
abbrev pub choices : NameEnvironment → ℕ → Reads (Expression × Expression)
choices t d = rise (spend 3 (d + 2) (skip (body.call (an_expression t (d + 1) 1 0) (λ y. expect k.Colon (body.call (an_expression t (d + 1) 3 0) (λ w. done (y, w)))))))

abbrev pub subscript : NameEnvironment → ℕ → Reads Expression
subscript t d = rise (spend 2 (d + 2) (skip (body.call (an_expression t (d + 1) 1 0) (λ y. expect k.CloseBracket (done y)))))

abbrev pub arguments : NameEnvironment → ℕ → Reads Expressions
arguments t d = rise (spend 1 (d + 1) (skip (body.call (all_arguments t (d + 1)) done)))

abbrev pub member_name : NameEnvironment → ℕ → Reads Name
member_name t d = rise (spend 1 (d + 1) (skip (a_name t done)))

abbrev pub stepped : ℕ → Reads (Unit {0})
stepped d = rise (spend 1 (d + 1) (skip (done tt)))

abbrev pub extended : NameEnvironment → ℕ → Expression → Infix → Input → Outcome Meter Expression
extended t d x ix.Comma i = mapped (comma x) (perform (right_operand t d 2) i)
extended t d x (ix.Assign o) i = mapped (assign o x) (perform (right_operand t d 2) i)
extended t d x ix.Question i = mapped (λ p. choose x p.0 p.1) (perform (choices t d) i)
extended t d x (ix.Operator o) i = mapped (binary o x) (perform (right_operand t d (suc (op_level o))) i)
extended t d x ix.Index i = mapped (index x) (perform (subscript t d) i)
extended t d x ix.Call i = mapped (call x) (perform (arguments t d) i)
extended t d x ix.Dot i = mapped (dot x) (perform (member_name t d) i)
extended t d x ix.Arrow i = mapped (arrow x) (perform (member_name t d) i)
extended t d x (ix.Step o) i = mapped (λ u. after o x) (perform (stepped d) i)

-- one more argument, behind a comma
abbrev pub another : NameEnvironment → ℕ → Reads Expression
another t d = spend 1 (d + 1) (skip (body.call (an_expression t d 2 0) done))
