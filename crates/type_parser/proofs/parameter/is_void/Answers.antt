use Rattle.type_parser.proofs.ParameterLists.{void_many}
use Rattle.type_parser.proofs.parameter.is_void.Goals as goal

pub returns-in-len2-up : goal.returns-in-len2-up
returns-in-len2-up c = void_many c.args.parameter.now c.as_slice.result.now c.as_slice.ensures c.in-len2-up.len_at_least
