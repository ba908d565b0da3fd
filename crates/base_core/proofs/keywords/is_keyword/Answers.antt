use Rattle.std.proofs.Common.{rules}
use Rattle.base_core.specs.Keywords.{is_keyword}
use Rattle.base_core.proofs.keywords.is_keyword.Goals as goal

pub returns : goal.returns
unfolding is_keyword
returns c = search rules
