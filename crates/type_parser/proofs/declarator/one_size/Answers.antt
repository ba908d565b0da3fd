use Rattle.std.proofs.Common.{◌≡◌, [], map}
use Rattle.std.specs.Prelude.{option_map}
use Rattle.c_tree.specs.View.{view_expression, sizes_of}
use Rattle.c_grammar.specs.declared.kind.Kind.TheVariants as k
use Rattle.c_grammar.specs.Kind.{kind}
use Rattle.c_grammar.specs.Reading.{read}
use Rattle.c_grammar.specs.Rules.{at_most_one_size}
use Rattle.c_grammar.proofs.Joining.{erred}
use Rattle.type_parser.proofs.DeclaratorLists.{one_fails}
use Rattle.type_parser.proofs.declarator.one_size.Goals as goal

pub returns-in_err-size-in-OpenBracket : goal.returns-in_err-size-in-OpenBracket
returns-in_err-size-in-OpenBracket g c =
    let is : kind [] c.args.cursor.now.rest ≡ k.OpenBracket = cc in
    erred (λ xs. sizes_of (map (option_map view_expression) xs)) (read (at_most_one_size c.args.grammar.now.types.now c.args.d) c.args.cursor.now) c.from_residual.result c.in_err-size-in-OpenBracket.field-0.0 c.bracketed.new.cursor
    c.from_residual.ensures (one_fails c.args.grammar.now.types.now c.args.d c.args.cursor.now c.in_err-size-in-OpenBracket.field-0.0 is c.in_err-size-in-OpenBracket.ensures)
