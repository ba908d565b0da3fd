use Rattle.std.proofs.Common.{◌≡◌, length}
use Rattle.c_tree.specs.View.{view_expression}
use Rattle.c_grammar.specs.Reading.{read}
use Rattle.c_grammar.specs.Rules.{a_rest}
use Rattle.expression_parser.proofs.grammar.Grammar.rest.Given as goal

abbrev pub invariant-loop-sign : goal.invariant-loop-sign
invariant-loop-sign g l = read (a_rest l.self.types.now l.d l.least (view_expression l.left)) l.cursor ≡ read (a_rest l.fn.self.types.now l.fn.d l.fn.least (view_expression l.fn.x)) l.fn.cursor

abbrev pub decreases-loop-sign : goal.decreases-loop-sign
decreases-loop-sign g l = length l.cursor.rest
