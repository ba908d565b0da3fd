use Rattle.std.proofs.Common.{◌∙◌}
use Rattle.c_grammar.proofs.KindLemmas.{kind_of_first, kind_of_none}
use Rattle.c_grammar.proofs.cursor.first_kind.Goals as goal

pub returns-in-empty : goal.returns-in-empty
returns-in-empty c = kind_of_none c.args.tokens.now c.in-empty.len_below

pub returns-in-len1-up : goal.returns-in-len1-up
returns-in-len1-up c = c.kind_of.ensures ∙ kind_of_first c.args.tokens.now c.first-item.result c.in-len1-up.len_at_least c.first-item.is
