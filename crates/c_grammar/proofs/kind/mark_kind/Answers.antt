use Rattle.std.proofs.Common.{arith, ◌∙◌}
use Rattle.c_grammar.specs.Kind.{mark_kind, marks}
use Rattle.c_grammar.proofs.ByLength.{among_length, mark_other}
use Rattle.c_grammar.proofs.kind.mark_kind.Goals as goal

pub returns-in-1 : goal.returns-in-1
unfolding mark_kind
returns-in-1 c = c.mark_of_one.ensures ∙ among_length 1 marks c.args.bytes.now (omega arith)

pub returns-in-2 : goal.returns-in-2
unfolding mark_kind
returns-in-2 c = c.mark_of_two.ensures ∙ among_length 2 marks c.args.bytes.now (omega arith)

pub returns-in-3 : goal.returns-in-3
unfolding mark_kind
returns-in-3 c = c.mark_of_three.ensures ∙ among_length 3 marks c.args.bytes.now (omega arith)

pub returns-in_default : goal.returns-in_default
unfolding mark_kind
returns-in_default c = mark_other c.args.bytes.now (omega arith) (omega arith) (omega arith)
