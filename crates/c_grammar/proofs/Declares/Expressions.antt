-- Expressions and sizes: none of the names that they declare is reserved.
use Rattle.std.proofs.Common.{ℕ, nat_le, ◌&&◌, Option, Some, None}
use Rattle.c_tree.specs.ExpressionShape.{level}
use Rattle.c_tree.specs.Marks.{Tokens}
use Rattle.c_tree.specs.Tree.{Expression}
use Rattle.c_grammar.specs.declared.kind.Kind.{Kind}
use Rattle.c_grammar.specs.declared.kind.Kind.TheVariants as k
use Rattle.c_grammar.specs.Rules.{NameEnvironment, first_of_operand, begins_type, opened_by, sized_by, sizeof_by, prefix_by, arguments_by, more_arguments_by, an_expression, a_whole, a_prefix, a_rest, an_opened, all_arguments, more_arguments, longer, goes_on, infix_of, size_by, sizes_by, one_size_by, at_most_one_by, all_sizes, at_most_one_size, rule}
use Rattle.c_grammar.specs.declared.infix.First.{First}
use Rattle.c_grammar.specs.declared.infix.Infix.{Infix}
use Rattle.c_grammar.specs.declared.infix.First.TheVariants as fi
use Rattle.c_grammar.specs.declared.infix.Infix.TheVariants as ix
use Rattle.c_grammar.proofs.Avoiding.{avoids_none, avoids_both}
use Rattle.c_grammar.proofs.Conditions.{go_done, go_stop, go_look, go_spend, go_rise, go_call, go_scope, go_if, go_any, go_wanted, go_a_name}
use Rattle.c_grammar.proofs.Declares.Apart.{Apart}

-- ---- operands

opened-by : (t : NameEnvironment) (d l o : ℕ) (e : Kind) (us : Tokens) → Apart (a_prefix t d l o) (opened_by t d l e) us
opened-by t d l o e us = go_if {b = begins_type e && nat_le l 14}
    (λ on. go_call (λ y vs _ p. go_wanted k.CloseParen (λ ws. go_call (λ x os _ q. go_done (avoids_both t.reserved _ _ p q)))))
    (λ off. go_call (λ x vs _ p. go_wanted k.CloseParen (λ ws. go_done p)))

sized-by : (t : NameEnvironment) (d l o : ℕ) (e : Kind) (us : Tokens) → Apart (a_prefix t d l o) (sized_by t d e) us
sized-by t d l o e us = go_if {b = begins_type e} (λ on. go_call (λ y vs _ p. go_wanted k.CloseParen (λ ws. go_done p))) (λ off. go_scope (λ x vs _ p. go_done p))

operand-by : (t : NameEnvironment) (d l o : ℕ) (us : Tokens) → Apart (a_prefix t d l o) (sizeof_by t d k.Nothing) us
operand-by t d l o us = go_call (λ x vs _ p. go_done p)

sizeof-by : (t : NameEnvironment) (d l o : ℕ) (e : Kind) (us : Tokens) → Apart (a_prefix t d l o) (sizeof_by t d e) us
sizeof-by t d l o k.OpenParen us = go_any (λ n vs. go_look (λ e is. sized-by t d l o e vs))
sizeof-by t d l o _ us = operand-by t d l o us

prefix-by : (t : NameEnvironment) (d l o : ℕ) (i : Option First) (ts : Tokens) → Apart (a_prefix t d l o) (prefix_by t d l o i) ts
prefix-by t d l o None ts = go_stop
prefix-by t d l o (Some fi.Word) ts = go_spend (λ _ _. go_any (λ n us. go_done (avoids_none t.reserved)))
prefix-by t d l o (Some fi.Number) ts = go_spend (λ _ _. go_any (λ n us. go_done (avoids_none t.reserved)))
prefix-by t d l o (Some fi.Character) ts = go_spend (λ _ _. go_any (λ n us. go_done (avoids_none t.reserved)))
prefix-by t d l o (Some fi.Text) ts = go_spend (λ _ _. go_any (λ n us. go_call (λ ns vs _ p. go_done (avoids_none t.reserved))))
prefix-by t d l o (Some fi.Open) ts = go_spend (λ _ _. go_any (λ n us. go_look (λ e is. opened-by t d l o e us)))
prefix-by t d l o (Some fi.Sizeof) ts = go_spend (λ _ _. go_any (λ n us. go_look (λ e is. sizeof-by t d l o e us)))
prefix-by t d l o (Some (fi.Step c)) ts = go_spend (λ _ _. go_any (λ n us. go_call (λ x vs _ p. go_done p)))
prefix-by t d l o (Some (fi.Unary c)) ts = go_spend (λ _ _. go_any (λ n us. go_call (λ x vs _ p. go_done p)))

-- a first operand
pub a_prefix-apart : (t : NameEnvironment) (d l o : ℕ) (ts : Tokens) → Apart (a_prefix t d l o) (rule (a_prefix t d l o)) ts
a_prefix-apart t d l o ts = go_look (λ e is. prefix-by t d l o (first_of_operand e) ts)

-- ---- what follows an operand

longer-by : (t : NameEnvironment) (d l : ℕ) (x : Expression) (i : Option Infix) (ts : Tokens) → Apart (a_rest t d l x) (longer t d l x i) ts
longer-by t d l x None ts = go_done (λ h. h)
longer-by t d l x (Some ix.Comma) ts = go_rise (λ _ _. go_spend (λ _ _. go_any (λ n us. go_call (λ y vs _ p. go_call (λ z ws _ q. go_done (λ h. q (avoids_both t.reserved _ _ h p)))))))
longer-by t d l x (Some (ix.Assign o)) ts = go_rise (λ _ _. go_spend (λ _ _. go_any (λ n us. go_call (λ y vs _ p. go_call (λ z ws _ q. go_done (λ h. q (avoids_both t.reserved _ _ h p)))))))
longer-by t d l x (Some ix.Question) ts = go_rise (λ _ _. go_spend (λ _ _. go_any (λ n us. go_call (λ y vs _ p. go_wanted k.Colon (λ os. go_call (λ w rs _ o. go_call (λ z ws _ q.
    go_done (λ h. q (avoids_both t.reserved _ _ h (avoids_both t.reserved _ _ p o))))))))))
longer-by t d l x (Some (ix.Operator o)) ts = go_rise (λ _ _. go_spend (λ _ _. go_any (λ n us. go_call (λ y vs _ p. go_call (λ z ws _ q. go_done (λ h. q (avoids_both t.reserved _ _ h p)))))))
longer-by t d l x (Some ix.Index) ts = go_rise (λ _ _. go_spend (λ _ _. go_any (λ n us. go_call (λ y vs _ p. go_wanted k.CloseBracket (λ os. go_call (λ z ws _ q.
    go_done (λ h. q (avoids_both t.reserved _ _ h p))))))))
longer-by t d l x (Some ix.Call) ts = go_rise (λ _ _. go_spend (λ _ _. go_any (λ n us. go_call (λ xs vs _ p. go_call (λ z ws _ q. go_done (λ h. q (avoids_both t.reserved _ _ h p)))))))
longer-by t d l x (Some ix.Dot) ts = go_rise (λ _ _. go_spend (λ _ _. go_any (λ n us. go_a_name (λ m vs _ _. go_call (λ z ws _ q. go_done q)))))
longer-by t d l x (Some ix.Arrow) ts = go_rise (λ _ _. go_spend (λ _ _. go_any (λ n us. go_a_name (λ m vs _ _. go_call (λ z ws _ q. go_done q)))))
longer-by t d l x (Some (ix.Step o)) ts = go_rise (λ _ _. go_spend (λ _ _. go_any (λ n us. go_call (λ z ws _ q. go_done q))))

-- how an expression goes on
pub a_rest-apart : (t : NameEnvironment) (d l : ℕ) (x : Expression) (ts : Tokens) → Apart (a_rest t d l x) (rule (a_rest t d l x)) ts
a_rest-apart t d l x ts = go_look (λ e is. go_if {b = goes_on l (infix_of e) (level x)} (λ on. longer-by t d l x (infix_of e) ts) (λ off. go_done (λ h. h)))

-- a whole expression
pub a_whole-apart : (t : NameEnvironment) (d l o : ℕ) (ts : Tokens) → Apart (a_whole t d l o) (rule (a_whole t d l o)) ts
a_whole-apart t d l o ts = go_call (λ x us _ p. go_call (λ y vs _ q. go_done (q p)))

-- an expression in its own scope
pub an_expression-apart : (t : NameEnvironment) (d l o : ℕ) (ts : Tokens) → Apart (an_expression t d l o) (rule (an_expression t d l o)) ts
an_expression-apart t d l o ts = go_scope (λ x us _ p. go_done p)

-- the operand of sizeof behind its bracket
pub an_opened-apart : (t : NameEnvironment) (d : ℕ) (ts : Tokens) → Apart (an_opened t d) (rule (an_opened t d)) ts
an_opened-apart t d ts = go_call (λ x us _ p. go_wanted k.CloseParen (λ vs. go_call (λ y ws _ q. go_done (q p))))

-- ---- arguments and sizes

arguments : (t : NameEnvironment) (d : ℕ) (ts : Tokens) → Apart (all_arguments t d) (arguments_by t d k.Nothing) ts
arguments t d ts = go_call (λ x us _ p. go_call (λ xs vs _ q. go_done (avoids_both t.reserved _ _ p q)))

arguments-by : (t : NameEnvironment) (d : ℕ) (e : Kind) (ts : Tokens) → Apart (all_arguments t d) (arguments_by t d e) ts
arguments-by t d k.CloseParen ts = go_any (λ n us. go_done (avoids_none t.reserved))
arguments-by t d _ ts = arguments t d ts

-- the arguments of a call
pub all_arguments-apart : (t : NameEnvironment) (d : ℕ) (ts : Tokens) → Apart (all_arguments t d) (rule (all_arguments t d)) ts
all_arguments-apart t d ts = go_look (λ e is. arguments-by t d e ts)

more_arguments-by : (t : NameEnvironment) (d : ℕ) (e : Kind) (ts : Tokens) → Apart (more_arguments t d) (more_arguments_by t d e) ts
more_arguments-by t d k.CloseParen ts = go_any (λ n us. go_done (avoids_none t.reserved))
more_arguments-by t d k.Comma ts = go_spend (λ _ _. go_any (λ n us. go_call (λ x vs _ p. go_call (λ xs ws _ q. go_done (avoids_both t.reserved _ _ p q)))))
more_arguments-by t d _ ts = go_stop

-- more arguments
pub more_arguments-apart : (t : NameEnvironment) (d : ℕ) (ts : Tokens) → Apart (more_arguments t d) (rule (more_arguments t d)) ts
more_arguments-apart t d ts = go_look (λ e is. more_arguments-by t d e ts)

sized : (t : NameEnvironment) (d : ℕ) (us : Tokens) → Apart (all_sizes t d) (size_by t d k.Nothing) us
sized t d us = go_call (λ x vs _ p. go_wanted k.CloseBracket (λ ws. go_call (λ xs os _ q. go_done (avoids_both t.reserved _ _ p q))))

size-by : (t : NameEnvironment) (d : ℕ) (e : Kind) (us : Tokens) → Apart (all_sizes t d) (size_by t d e) us
size-by t d k.CloseBracket us = go_any (λ n vs. go_call (λ xs ws _ p. go_done p))
size-by t d _ us = sized t d us

sizes-by : (t : NameEnvironment) (d : ℕ) (e : Kind) (ts : Tokens) → Apart (all_sizes t d) (sizes_by t d e) ts
sizes-by t d k.OpenBracket ts = go_any (λ n us. go_look (λ e is. size-by t d e us))
sizes-by t d _ ts = go_done (avoids_none t.reserved)

-- the sizes of a declarator
pub all_sizes-apart : (t : NameEnvironment) (d : ℕ) (ts : Tokens) → Apart (all_sizes t d) (rule (all_sizes t d)) ts
all_sizes-apart t d ts = go_look (λ e is. sizes-by t d e ts)

sized-once : (t : NameEnvironment) (d : ℕ) (us : Tokens) → Apart (at_most_one_size t d) (one_size_by t d k.Nothing) us
sized-once t d us = go_call (λ x vs _ p. go_wanted k.CloseBracket (λ ws. go_done (avoids_both t.reserved _ _ p (avoids_none t.reserved))))

one_size-by : (t : NameEnvironment) (d : ℕ) (e : Kind) (us : Tokens) → Apart (at_most_one_size t d) (one_size_by t d e) us
one_size-by t d k.CloseBracket us = go_any (λ n vs. go_done (avoids_none t.reserved))
one_size-by t d _ us = sized-once t d us

at_most_one-by : (t : NameEnvironment) (d : ℕ) (e : Kind) (ts : Tokens) → Apart (at_most_one_size t d) (at_most_one_by t d e) ts
at_most_one-by t d k.OpenBracket ts = go_any (λ n us. go_look (λ e is. one_size-by t d e us))
at_most_one-by t d _ ts = go_done (avoids_none t.reserved)

-- a size or none
pub at_most_one_size-apart : (t : NameEnvironment) (d : ℕ) (ts : Tokens) → Apart (at_most_one_size t d) (rule (at_most_one_size t d)) ts
at_most_one_size-apart t d ts = go_look (λ e is. at_most_one-by t d e ts)
