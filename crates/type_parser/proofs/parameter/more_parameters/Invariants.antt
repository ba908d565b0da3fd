use Rattle.std.proofs.Common.{map, length}
use Rattle.c_tree.specs.View.{view_parameter}
use Rattle.c_grammar.specs.Reading.{read}
use Rattle.c_grammar.specs.Rules.{more_parameters}
use Rattle.c_grammar.specs.Lists.{mapped}
use Rattle.c_grammar.proofs.Loops.{Loop}
use Rattle.type_parser.specs.ParameterList.{with_parameter}
use Rattle.type_parser.proofs.parameter.more_parameters.Given as goal

abbrev pub invariant-loop-found : goal.invariant-loop-found
invariant-loop-found g l = Loop with_parameter (map view_parameter l.found) (read (more_parameters l.grammar.types.now l.d) l.cursor) (mapped (with_parameter (view_parameter l.fn.first)) (read (more_parameters l.fn.grammar.types.now l.fn.d) l.fn.cursor))

abbrev pub decreases-loop-found : goal.decreases-loop-found
decreases-loop-found g l = length l.cursor.rest
