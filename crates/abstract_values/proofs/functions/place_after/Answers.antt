use Rattle.abstract_values.proofs.Merges.{after_met, after_unmet}
use Rattle.abstract_values.proofs.functions.place_after.Goals as goal

pub returns-then-is_at-clause-place : goal.returns-then-is_at-clause-place
returns-then-is_at-clause-place c = after_met c.args.codes.now c.args.place c.args.code (c.is_at.ensures.at.0 c.if-is_at.true)

pub returns-clause-place : goal.returns-clause-place
returns-clause-place c = after_unmet c.args.codes.now c.args.place c.args.code (λ at. let stands = c.is_at.ensures.at.1 at in let never = c.if-is_at.false in absurd cc)
