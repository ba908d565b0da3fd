use Rattle.std.proofs.Common.{sym}
use Rattle.fact_values.proofs.Grown.{installed_fresh, installed_over}
use Rattle.fact_values.proofs.facts.Facts.joined_for.Goals as goal

pub returns-in-None : goal.returns-in-None
returns-in-None c = installed_fresh _ c.args.installed.now (sym c.in-None.ensures)

pub returns-in-Some : goal.returns-in-Some
returns-in-Some c = installed_over _ c.args.installed.now c.in-Some.held c.join.result (sym c.in-Some.ensures) c.join.ensures
