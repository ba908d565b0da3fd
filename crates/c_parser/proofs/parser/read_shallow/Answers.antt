use Rattle.std.proofs.Common.{map}
use Rattle.c_tree.specs.StatementView.{view_item}
use Rattle.c_parser.proofs.Earlier.{first_of}
use Rattle.c_parser.proofs.Meaning.{answer_read, answer_fault}
use Rattle.c_parser.proofs.parser.read_shallow.Goals as goal

pub returns-in-Ok-clause-answer : goal.returns-in-Ok-clause-answer
returns-in-Ok-clause-answer c = answer_read c.args.tokens.now (map view_item c.in-Ok.items) c.requires c.in-Ok.ensures.answer

pub returns-in-Err-clause-fault : goal.returns-in-Err-clause-fault
returns-in-Err-clause-fault c = (c.in-Err.ensures.fault, first_of c.args.tokens.now c.in-Err.fault c.requires)

pub returns-in-Err-clause-answer : goal.returns-in-Err-clause-answer
returns-in-Err-clause-answer c = answer_fault c.args.tokens.now c.in-Err.fault c.requires c.in-Err.ensures.answer
