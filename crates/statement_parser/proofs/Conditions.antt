-- Statements that begin with a condition.
use Rattle.std.proofs.Common.{◌≡◌, ◌+◌, ℕ, Result as Res, refl, sym, ap, ◌∙◌, subst}
use Rattle.c_tree.specs.Tree.{Expression, StatementTree}
use Rattle.c_tree.specs.declared.tree.Stmt.{Stmt}
use Rattle.c_tree.specs.StatementView.{view_statement}
use Rattle.c_grammar.specs.declared.kind.Kind.TheVariants as k
use Rattle.c_grammar.specs.Body.{done, spend, got, and_then, Reader}
use Rattle.c_grammar.specs.Body as body
use Rattle.c_grammar.specs.Gauge.{Meter}
use Rattle.c_grammar.specs.Input.{Input}
use Rattle.c_grammar.specs.Rules.{NameEnvironment, Reads, skip, expect, an_expression}
use Rattle.c_grammar.specs.declared.refusal.Refusal.{Refusal}
use Rattle.c_grammar.specs.Gives.{Fails, Gives}
use Rattle.c_grammar.specs.Performing.{perform, at}
use Rattle.c_grammar.proofs.Joining.{Joins, join_spend, join_skip, join_expect, join_call, same_mapped, then_fails, erred}
use Rattle.statement_parser.specs.Parts.{condition}

module _ (t : NameEnvironment) (d owed : ℕ) (f : Expression → Reads StatementTree) where
  -- what begins with a condition
  abbrev pub conditional : Reads StatementTree
  conditional = spend (owed + 2) (d + 2) (skip (expect k.OpenParen (body.call (an_expression t (d + 1) 1 0) (λ x. expect k.CloseParen (f x)))))

  abbrev others : Expression → Reader Meter StatementTree
  others x us m = perform (f x) (at us m)

  condition_on : (i : Input) → perform conditional i ≡ and_then (perform (condition t d owed) i) others
  condition_on i =
      let h : Joins (λ x. x) others conditional (condition t d owed) i =
      join_spend (λ m. join_skip (join_expect k.OpenParen (join_call (λ x us p. join_expect k.CloseParen (record { is = refl }))))) in
      h.is ∙ ap (λ o. and_then o others) (same_mapped (perform (condition t d owed) i))

  -- it goes on behind it
  pub condition_gives : (i j n : Input) (x : Expression) (r : Res Stmt Refusal) → perform (condition t d owed) i ≡ got x j.rest j.meter → Gives view_statement (perform (f x) j) r n →
      Gives view_statement (perform conditional i) r n
  condition_gives i j n x r e h = subst (λ o. Gives view_statement o r n) (sym (condition_on i ∙ ap (λ o. and_then o others) e)) h

  -- or fails where it fails
  pub condition_fails : (i : Input) (e : Refusal) → Fails (perform (condition t d owed) i) e → Fails (perform conditional i) e
  condition_fails i e h = subst (λ o. Fails o e) (sym (condition_on i)) (then_fails others h)
