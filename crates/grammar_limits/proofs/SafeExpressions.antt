-- The rules of expressions keep to what is due.
use Rattle.std.proofs.Common.{ℕ, ◌+◌, ◌≤◌, nat_le, ◌&&◌, arith, Option, Some, None}
use Rattle.c_tree.specs.Tree.{Expression}
use Rattle.c_tree.specs.ExpressionShape.{level}
use Rattle.c_grammar.specs.declared.kind.Kind.{Kind}
use Rattle.c_grammar.specs.declared.kind.Kind.TheVariants as k
use Rattle.c_grammar.specs.Rules.{NameEnvironment, first_of_operand, infix_of, goes_on, begins_type, opened_by, sizeof_by, prefix_by, longer, texts_by, arguments_by, more_arguments_by, an_expression, a_whole, a_prefix, a_rest, an_opened, more_texts, all_arguments, more_arguments}
use Rattle.c_grammar.specs.declared.infix.First.{First}
use Rattle.c_grammar.specs.declared.infix.Infix.{Infix}
use Rattle.c_grammar.specs.declared.infix.First.TheVariants as fi
use Rattle.c_grammar.specs.declared.infix.Infix.TheVariants as ix
use Rattle.grammar_limits.proofs.Dues.{Safe, Due, safe_done, safe_stop, safe_look, safe_take, safe_spend, safe_rise, safe_call, safe_scope, safe_if, safe_expect, safe_name}

-- an expression
pub expression-due : (t : NameEnvironment) (d l o : ℕ) → Due (an_expression t d l o)
expression-due t d l o low = safe_scope (omega arith) (omega arith) (omega arith) (omega arith) (omega arith) (λ _. safe_done (omega arith) (omega arith))

pub whole-due : (t : NameEnvironment) (d l o : ℕ) → Due (a_whole t d l o)
whole-due t d l o low = safe_call (omega arith) (omega arith) (omega arith) (omega arith) (λ _. safe_call (omega arith) (omega arith) (omega arith) (omega arith) (λ _. safe_done (omega arith) (omega arith)))

-- behind sizeof
sizeof_safe : (t : NameEnvironment) (d u c : ℕ) (e : Kind) → d + 21 ≤ u → 30 ≤ c → Safe (sizeof_by t d e) 10 0 u c 0
sizeof_safe t d u c k.OpenParen room h = safe_take (λ _. safe_look (λ j. safe_if (begins_type j) (safe_call (omega arith) (omega arith) (omega arith) (omega arith) (λ _. safe_expect k.CloseParen (safe_done (omega arith) (omega arith)))) (safe_scope (omega arith) (omega arith) (omega arith) (omega arith) (omega arith) (λ _. safe_done (omega arith) (omega arith)))))
sizeof_safe t d u c _ room h = safe_call (omega arith) (omega arith) (omega arith) (omega arith) (λ _. safe_done (omega arith) (omega arith))

-- in brackets
opened_safe : (t : NameEnvironment) (d l u c : ℕ) (e : Kind) → d + 21 ≤ u → 30 ≤ c → Safe (opened_by t d l e) 10 0 u c 0
opened_safe t d l u c e room h = safe_if (begins_type e && nat_le l 14) (safe_call (omega arith) (omega arith) (omega arith) (omega arith) (λ _. safe_expect k.CloseParen (safe_call (omega arith) (omega arith) (omega arith) (omega arith) (λ _. safe_done (omega arith) (omega arith))))) (safe_call (omega arith) (omega arith) (omega arith) (omega arith) (λ _. safe_expect k.CloseParen (safe_done (omega arith) (omega arith))))

-- by the first token of an operand
prefix-by : (t : NameEnvironment) (d l o : ℕ) (f : Option First) → o ≤ 5 → Safe (prefix_by t d l o f) 10 0 (d + 20) 10 0
prefix-by t d l o None low = safe_stop
prefix-by t d l o (Some fi.Word) low = safe_spend (omega arith) (omega arith) (safe_take (λ _. safe_done (omega arith) (omega arith)))
prefix-by t d l o (Some fi.Number) low = safe_spend (omega arith) (omega arith) (safe_take (λ _. safe_done (omega arith) (omega arith)))
prefix-by t d l o (Some fi.Character) low = safe_spend (omega arith) (omega arith) (safe_take (λ _. safe_done (omega arith) (omega arith)))
prefix-by t d l o (Some fi.Text) low = safe_spend (omega arith) (omega arith) (safe_take (λ _. safe_call (omega arith) (omega arith) (omega arith) (omega arith) (λ _. safe_done (omega arith) (omega arith))))
prefix-by t d l o (Some fi.Open) low = safe_spend (omega arith) (omega arith) (safe_take (λ _. safe_look (λ e. opened_safe t d l _ _ e (omega arith) (omega arith))))
prefix-by t d l o (Some fi.Sizeof) low = safe_spend (omega arith) (omega arith) (safe_take (λ _. safe_look (λ e. sizeof_safe t d _ _ e (omega arith) (omega arith))))
prefix-by t d l o (Some (fi.Step x)) low = safe_spend (omega arith) (omega arith) (safe_take (λ _. safe_call (omega arith) (omega arith) (omega arith) (omega arith) (λ _. safe_done (omega arith) (omega arith))))
prefix-by t d l o (Some (fi.Unary x)) low = safe_spend (omega arith) (omega arith) (safe_take (λ _. safe_call (omega arith) (omega arith) (omega arith) (omega arith) (λ _. safe_done (omega arith) (omega arith))))

pub prefix-due : (t : NameEnvironment) (d l o : ℕ) → Due (a_prefix t d l o)
prefix-due t d l o low = safe_look (λ e. prefix-by t d l o (first_of_operand e) low)

-- how an expression goes on
longer-by : (t : NameEnvironment) (d l : ℕ) (x : Expression) (i : Option Infix) → Safe (longer t d l x i) 10 0 (d + 20) 10 0
longer-by t d l x None = safe_done (omega arith) (omega arith)
longer-by t d l x (Some ix.Comma) = safe_rise (omega arith) (safe_spend (omega arith) (omega arith) (safe_take (λ _. safe_call (omega arith) (omega arith) (omega arith) (omega arith) (λ _. safe_call (omega arith) (omega arith) (omega arith) (omega arith) (λ _. safe_done (omega arith) (omega arith))))))
longer-by t d l x (Some (ix.Assign o)) = safe_rise (omega arith) (safe_spend (omega arith) (omega arith) (safe_take (λ _. safe_call (omega arith) (omega arith) (omega arith) (omega arith) (λ _. safe_call (omega arith) (omega arith) (omega arith) (omega arith) (λ _. safe_done (omega arith) (omega arith))))))
longer-by t d l x (Some ix.Question) = safe_rise (omega arith) (safe_spend (omega arith) (omega arith) (safe_take (λ _. safe_call (omega arith) (omega arith) (omega arith) (omega arith) (λ _. safe_expect k.Colon (safe_call (omega arith) (omega arith) (omega arith) (omega arith) (λ _. safe_call (omega arith) (omega arith) (omega arith) (omega arith) (λ _. safe_done (omega arith) (omega arith))))))))
longer-by t d l x (Some (ix.Operator o)) = safe_rise (omega arith) (safe_spend (omega arith) (omega arith) (safe_take (λ _. safe_call (omega arith) (omega arith) (omega arith) (omega arith) (λ _. safe_call (omega arith) (omega arith) (omega arith) (omega arith) (λ _. safe_done (omega arith) (omega arith))))))
longer-by t d l x (Some ix.Index) = safe_rise (omega arith) (safe_spend (omega arith) (omega arith) (safe_take (λ _. safe_call (omega arith) (omega arith) (omega arith) (omega arith) (λ _. safe_expect k.CloseBracket (safe_call (omega arith) (omega arith) (omega arith) (omega arith) (λ _. safe_done (omega arith) (omega arith)))))))
longer-by t d l x (Some ix.Call) = safe_rise (omega arith) (safe_spend (omega arith) (omega arith) (safe_take (λ _. safe_call (omega arith) (omega arith) (omega arith) (omega arith) (λ _. safe_call (omega arith) (omega arith) (omega arith) (omega arith) (λ _. safe_done (omega arith) (omega arith))))))
longer-by t d l x (Some ix.Dot) = safe_rise (omega arith) (safe_spend (omega arith) (omega arith) (safe_take (λ _. safe_name (λ _. safe_call (omega arith) (omega arith) (omega arith) (omega arith) (λ _. safe_done (omega arith) (omega arith))))))
longer-by t d l x (Some ix.Arrow) = safe_rise (omega arith) (safe_spend (omega arith) (omega arith) (safe_take (λ _. safe_name (λ _. safe_call (omega arith) (omega arith) (omega arith) (omega arith) (λ _. safe_done (omega arith) (omega arith))))))
longer-by t d l x (Some (ix.Step o)) = safe_rise (omega arith) (safe_spend (omega arith) (omega arith) (safe_take (λ _. safe_call (omega arith) (omega arith) (omega arith) (omega arith) (λ _. safe_done (omega arith) (omega arith)))))

pub rest-due : (t : NameEnvironment) (d l : ℕ) (x : Expression) → Due (a_rest t d l x)
rest-due t d l x low = safe_look (λ e. safe_if (goes_on l (infix_of e) (level x)) (longer-by t d l x (infix_of e)) (safe_done (omega arith) (omega arith)))

-- the operand of sizeof in a bracket
pub opened-due : (t : NameEnvironment) (d : ℕ) → Due (an_opened t d)
opened-due t d low = safe_call (omega arith) (omega arith) (omega arith) (omega arith) (λ _. safe_expect k.CloseParen (safe_call (omega arith) (omega arith) (omega arith) (omega arith) (λ _. safe_done (omega arith) (omega arith))))

texts-by : (e : Kind) → Safe (texts_by e) 10 0 20 10 0
texts-by k.Text = safe_take (λ _. safe_call (omega arith) (omega arith) (omega arith) (omega arith) (λ _. safe_done (omega arith) (omega arith)))
texts-by _ = safe_done (omega arith) (omega arith)

pub texts-due : Due more_texts
texts-due low = safe_look (λ e. texts-by e)

arguments-by : (t : NameEnvironment) (d : ℕ) (e : Kind) → Safe (arguments_by t d e) 10 0 (d + 20) 10 0
arguments-by t d k.CloseParen = safe_take (λ _. safe_done (omega arith) (omega arith))
arguments-by t d _ = safe_call (omega arith) (omega arith) (omega arith) (omega arith) (λ _. safe_call (omega arith) (omega arith) (omega arith) (omega arith) (λ _. safe_done (omega arith) (omega arith)))

-- arguments
pub arguments-due : (t : NameEnvironment) (d : ℕ) → Due (all_arguments t d)
arguments-due t d low = safe_look (λ e. arguments-by t d e)

more-arguments-by : (t : NameEnvironment) (d : ℕ) (e : Kind) → Safe (more_arguments_by t d e) 10 0 (d + 20) 10 0
more-arguments-by t d k.CloseParen = safe_take (λ _. safe_done (omega arith) (omega arith))
more-arguments-by t d k.Comma = safe_spend (omega arith) (omega arith) (safe_take (λ _. safe_call (omega arith) (omega arith) (omega arith) (omega arith) (λ _. safe_call (omega arith) (omega arith) (omega arith) (omega arith) (λ _. safe_done (omega arith) (omega arith)))))
more-arguments-by t d _ = safe_stop

pub more-arguments-due : (t : NameEnvironment) (d : ℕ) → Due (more_arguments t d)
more-arguments-due t d low = safe_look (λ e. more-arguments-by t d e)
