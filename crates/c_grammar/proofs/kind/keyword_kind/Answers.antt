use Rattle.std.proofs.Common.{arith, ◌∙◌}
use Rattle.c_grammar.specs.Kind.{keyword_kind, keywords}
use Rattle.c_grammar.proofs.ByLength.{among_length, keyword_other}
use Rattle.c_grammar.proofs.kind.keyword_kind.Goals as goal

pub returns-in-2 : goal.returns-in-2
unfolding keyword_kind
returns-in-2 c = c.keyword_of_two.ensures ∙ among_length 2 keywords c.args.bytes.now (omega arith)

pub returns-in-3 : goal.returns-in-3
unfolding keyword_kind
returns-in-3 c = c.keyword_of_three.ensures ∙ among_length 3 keywords c.args.bytes.now (omega arith)

pub returns-in-4 : goal.returns-in-4
unfolding keyword_kind
returns-in-4 c = c.keyword_of_four.ensures ∙ among_length 4 keywords c.args.bytes.now (omega arith)

pub returns-in-5 : goal.returns-in-5
unfolding keyword_kind
returns-in-5 c = c.keyword_of_five.ensures ∙ among_length 5 keywords c.args.bytes.now (omega arith)

pub returns-in-6 : goal.returns-in-6
unfolding keyword_kind
returns-in-6 c = c.keyword_of_six.ensures ∙ among_length 6 keywords c.args.bytes.now (omega arith)

pub returns-in-7 : goal.returns-in-7
unfolding keyword_kind
returns-in-7 c = c.keyword_of_seven.ensures ∙ among_length 7 keywords c.args.bytes.now (omega arith)

pub returns-in-8 : goal.returns-in-8
unfolding keyword_kind
returns-in-8 c = c.keyword_of_eight.ensures ∙ among_length 8 keywords c.args.bytes.now (omega arith)

pub returns-in_default : goal.returns-in_default
unfolding keyword_kind
returns-in_default c = keyword_other c.args.bytes.now (omega arith) (omega arith) (omega arith) (omega arith) (omega arith) (omega arith) (omega arith)
