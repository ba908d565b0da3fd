use Rattle.std.proofs.Common.{map, sym, subst}
use Rattle.c_tree.specs.View.{view_parameter, view_specifier, specifiers_of}
use Rattle.c_grammar.specs.Gives.{Gives}
use Rattle.type_parser.proofs.ParameterLists.{parameter_on}
use Rattle.type_parser.proofs.parameter.parameter.Goals as goal

pub returns : goal.returns
returns g c =
    let e = parameter_on c.args.grammar.now.types.now c.args.d c.args.cursor.now c.specifiers.new.cursor c.stars.new.cursor (specifiers_of (map view_specifier c.in_ok-specs.specs)) c.in_ok-stars.stars c.in_ok-specs.ensures c.in_ok-stars.ensures in
    subst (λ o. Gives view_parameter o c.formed.result c.formed.new.cursor) (sym e) c.formed.ensures
