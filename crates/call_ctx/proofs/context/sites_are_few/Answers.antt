use Rattle.call_ctx.proofs.Few.{few_along}
use Rattle.call_ctx.proofs.context.sites_are_few.Goals as goal

pub returns-clause-pushed : goal.returns-clause-pushed
returns-clause-pushed _ depth c d site is = few_along depth _ _ is.sites

pub returns-clause-called : goal.returns-clause-called
returns-clause-called _ depth c d site entered is = few_along depth _ _ is.sites
