use Rattle.grammar_limits.proofs.Late.{exceeded_late}
use Rattle.grammar_limits.proofs.law.limits_come_late.Goals as goal

pub returns : goal.returns
returns c = exceeded_late
