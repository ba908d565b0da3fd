use Rattle.std.proofs.Common.{map, length}
use Rattle.std.specs.Prelude.{option_map}
use Rattle.c_tree.specs.View.{view_expression}
use Rattle.c_grammar.specs.Reading.{read}
use Rattle.c_grammar.specs.Rules.{all_sizes}
use Rattle.c_grammar.proofs.Loops.{Loop}
use Rattle.type_parser.specs.DeclaratorParts.{sized}
use Rattle.type_parser.proofs.declarator.sizes.Given as goal

abbrev pub invariant-loop-found : goal.invariant-loop-found
invariant-loop-found g l = Loop sized (map (option_map view_expression) l.found) (read (all_sizes l.grammar.types.now l.d) l.cursor) (read (all_sizes l.fn.grammar.types.now l.fn.d) l.fn.cursor)

abbrev pub decreases-loop-found : goal.decreases-loop-found
decreases-loop-found g l = length l.cursor.rest
