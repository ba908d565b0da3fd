-- The bodies of the rules of expressions are fine.
use Rattle.std.proofs.Common.{ℕ, Bool, true, false, List, [], refl, Option, Some, None}
use Rattle.c_tree.specs.Tree.{Name, Expression, Expressions}
use Rattle.c_grammar.specs.declared.kind.Kind.{Kind}
use Rattle.c_grammar.specs.declared.kind.Kind.TheVariants as k
use Rattle.c_grammar.specs.Rules.{NameEnvironment, first_of_operand, infix_of, opened_by, sized_by, sizeof_by, prefix_by, longer, texts_by, arguments_by, more_arguments_by, an_expression, a_whole, a_prefix, a_rest, an_opened, more_texts, all_arguments, more_arguments}
use Rattle.c_grammar.specs.declared.infix.First.{First}
use Rattle.c_grammar.specs.declared.infix.Infix.{Infix}
use Rattle.c_grammar.specs.declared.infix.First.TheVariants as fi
use Rattle.c_grammar.specs.declared.infix.Infix.TheVariants as ix
use Rattle.c_grammar.proofs.Performs.Steps.{Fine, IsFine, fine_done, fine_stop, fine_look, fine_each, fine_spend, fine_rise, fine_call, fine_scope, fine_if, fine_take, fine_expect, fine_name}

by_opened : {seen : Bool} (t : NameEnvironment) (d least : ℕ) (e : Kind) → Fine Expression true 1 seen (opened_by t d least e)
by_opened t d least e = fine_if _ (fine_call refl (λ y. fine_expect k.CloseParen tt (fine_call refl (λ x. fine_done)))) (fine_call refl (λ x. fine_expect k.CloseParen tt fine_done))

by_sized : {seen : Bool} (t : NameEnvironment) (d : ℕ) (e : Kind) → Fine Expression true 1 seen (sized_by t d e)
by_sized t d e = fine_if _ (fine_call refl (λ y. fine_expect k.CloseParen tt fine_done)) (fine_scope refl (λ x. fine_done))

by_sizeof : (t : NameEnvironment) (d : ℕ) (e : Kind) → Fine Expression true 1 true (sizeof_by t d e)
by_sizeof t d k.OpenParen = fine_take (λ n. fine_each (λ there e. by_sized t d e))
by_sizeof t d _ = fine_call refl (λ x. fine_done)

by_prefix : (t : NameEnvironment) (d least owed : ℕ) (f : Option First) → Fine Expression false 1 true (prefix_by t d least owed f)
by_prefix t d least owed None = fine_stop
by_prefix t d least owed (Some fi.Word) = fine_spend (fine_take (λ n. fine_done))
by_prefix t d least owed (Some fi.Number) = fine_spend (fine_take (λ n. fine_done))
by_prefix t d least owed (Some fi.Character) = fine_spend (fine_take (λ n. fine_done))
by_prefix t d least owed (Some fi.Text) = fine_spend (fine_take (λ n. fine_call refl (λ ns. fine_done)))
by_prefix t d least owed (Some fi.Open) = fine_spend (fine_take (λ n. fine_each (λ there e. by_opened t d least e)))
by_prefix t d least owed (Some fi.Sizeof) = fine_spend (fine_take (λ n. fine_look (fine_call refl (λ x. fine_done)) (λ e. by_sizeof t d e)))
by_prefix t d least owed (Some (fi.Step o)) = fine_spend (fine_take (λ n. fine_call refl (λ x. fine_done)))
by_prefix t d least owed (Some (fi.Unary o)) = fine_spend (fine_take (λ n. fine_call refl (λ x. fine_done)))

by_infix : (t : NameEnvironment) (d least : ℕ) (x : Expression) (i : Option Infix) → Fine Expression false 1 true (longer t d least x i)
by_infix t d least x None = fine_done
by_infix t d least x (Some ix.Comma) = fine_rise (fine_spend (fine_take (λ n. fine_call refl (λ y. fine_call refl (λ z. fine_done)))))
by_infix t d least x (Some (ix.Assign o)) = fine_rise (fine_spend (fine_take (λ n. fine_call refl (λ y. fine_call refl (λ z. fine_done)))))
by_infix t d least x (Some ix.Question) = fine_rise (fine_spend (fine_take (λ n. fine_call refl (λ y. fine_expect k.Colon tt (fine_call refl (λ w. fine_call refl (λ z. fine_done)))))))
by_infix t d least x (Some (ix.Operator o)) = fine_rise (fine_spend (fine_take (λ n. fine_call refl (λ y. fine_call refl (λ z. fine_done)))))
by_infix t d least x (Some ix.Index) = fine_rise (fine_spend (fine_take (λ n. fine_call refl (λ y. fine_expect k.CloseBracket tt (fine_call refl (λ z. fine_done))))))
by_infix t d least x (Some ix.Call) = fine_rise (fine_spend (fine_take (λ n. fine_call refl (λ xs. fine_call refl (λ z. fine_done)))))
by_infix t d least x (Some ix.Dot) = fine_rise (fine_spend (fine_take (λ m. fine_name [] (λ n. fine_call refl (λ z. fine_done)))))
by_infix t d least x (Some ix.Arrow) = fine_rise (fine_spend (fine_take (λ m. fine_name [] (λ n. fine_call refl (λ z. fine_done)))))
by_infix t d least x (Some (ix.Step o)) = fine_rise (fine_spend (fine_take (λ n. fine_call refl (λ z. fine_done))))

by_texts : (e : Kind) → Fine (List Name) false 1 true (texts_by e)
by_texts k.Text = fine_take (λ n. fine_call refl (λ ns. fine_done))
by_texts _ = fine_done

by_arguments : (t : NameEnvironment) (d : ℕ) (e : Kind) → Fine Expressions false 4 true (arguments_by t d e)
by_arguments t d k.CloseParen = fine_take (λ n. fine_done)
by_arguments t d _ = fine_call refl (λ x. fine_call refl (λ xs. fine_done))

by_more_arguments : (t : NameEnvironment) (d : ℕ) (e : Kind) → Fine Expressions false 1 true (more_arguments_by t d e)
by_more_arguments t d k.CloseParen = fine_take (λ n. fine_done)
by_more_arguments t d k.Comma = fine_spend (fine_take (λ n. fine_call refl (λ x. fine_call refl (λ xs. fine_done))))
by_more_arguments t d _ = fine_stop

pub expression_fine : (t : NameEnvironment) (d least owed : ℕ) → IsFine (an_expression t d least owed)
expression_fine t d least owed = fine_scope refl (λ x. fine_done)

pub whole_fine : (t : NameEnvironment) (d least owed : ℕ) → IsFine (a_whole t d least owed)
whole_fine t d least owed = fine_call refl (λ x. fine_call refl (λ y. fine_done))

pub prefix_fine : (t : NameEnvironment) (d least owed : ℕ) → IsFine (a_prefix t d least owed)
prefix_fine t d least owed = fine_look fine_stop (λ e. by_prefix t d least owed (first_of_operand e))

pub rest_fine : (t : NameEnvironment) (d least : ℕ) (x : Expression) → IsFine (a_rest t d least x)
rest_fine t d least x = fine_look (fine_if _ fine_done fine_done) (λ e. fine_if _ (by_infix t d least x (infix_of e)) fine_done)

pub opened_fine : (t : NameEnvironment) (d : ℕ) → IsFine (an_opened t d)
opened_fine t d = fine_call refl (λ x. fine_expect k.CloseParen tt (fine_call refl (λ y. fine_done)))

pub more_texts_fine : IsFine more_texts
more_texts_fine = fine_look fine_done by_texts

pub arguments_fine : (t : NameEnvironment) (d : ℕ) → IsFine (all_arguments t d)
arguments_fine t d = fine_look (fine_call refl (λ x. fine_call refl (λ xs. fine_done))) (by_arguments t d)

pub more_arguments_fine : (t : NameEnvironment) (d : ℕ) → IsFine (more_arguments t d)
more_arguments_fine t d = fine_look fine_stop (by_more_arguments t d)
