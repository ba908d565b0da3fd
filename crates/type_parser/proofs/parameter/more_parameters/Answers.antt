use Rattle.std.proofs.Common.{◌≡◌, [], map, true, false}
use Rattle.c_tree.specs.Tree.{no_parameters}
use Rattle.c_tree.specs.View.{view_parameter, parameters_of}
use Rattle.c_grammar.specs.declared.kind.Kind.TheVariants as k
use Rattle.c_grammar.specs.Kind.{kind, same_kind}
use Rattle.c_grammar.proofs.Joining.{erred}
use Rattle.c_grammar.proofs.Loops.{loop_turn, loop_ends, loop_fails, pushed}
use Rattle.type_parser.proofs.ParameterLists.{parameters_turn, parameters_fail, parameters_shorter, parameters_end, parameters_stop, before_none}
use Rattle.type_parser.proofs.parameter.more_parameters.Goals as goal

pub returns-in_err-another_parameter : goal.returns-in_err-another_parameter
returns-in_err-another_parameter g c =
    let is : same_kind (kind [] c.loop-found.cursor.rest) k.Comma ≡ true = cc in
    erred _ _ _ _ _ c.from_residual-in_err-another_parameter.ensures (loop_fails c.loop-found.invariant (parameters_fail c.args.grammar.now.types.now c.args.d c.loop-found.cursor c.in_err-another_parameter.field-0.0 is c.in_err-another_parameter.ensures))

pub loop-found-smaller : goal.loop-found-smaller
loop-found-smaller g c =
    let is : same_kind (kind [] c.loop-found.cursor.rest) k.Comma ≡ true = cc in
    parameters_shorter c.args.grammar.now.types.now c.args.d c.loop-found.cursor c.another_parameter.new.cursor (view_parameter c.in_ok-another_parameter.field-0) is c.in_ok-another_parameter.ensures

pub loop-found-preserved : goal.loop-found-preserved
loop-found-preserved g c =
    let is : same_kind (kind [] c.loop-found.cursor.rest) k.Comma ≡ true = cc in
    loop_turn _ c.loop-found.invariant (parameters_turn c.args.grammar.now.types.now c.args.d c.loop-found.cursor c.another_parameter.new.cursor (view_parameter c.in_ok-another_parameter.field-0) is c.in_ok-another_parameter.ensures)
    (pushed view_parameter c.loop-found.found c.push-in-loop-found.new.self c.in_ok-another_parameter.field-0 c.in_ok-push-2.ensures.ok)

pub returns-in_err-expect : goal.returns-in_err-expect
returns-in_err-expect g c =
    let comma : same_kind (kind [] c.loop-found.cursor.rest) k.Comma ≡ false = cc in
    erred _ _ _ _ _ c.from_residual-in_err-expect.ensures (loop_fails c.loop-found.invariant (parameters_stop c.args.grammar.now.types.now c.args.d c.loop-found.cursor c.in_err-expect.field-0.0 comma c.in_err-expect.ensures.other c.in_err-expect.ensures.syntax))

pub returns : goal.returns
returns g c =
    loop_ends (λ xs. parameters_of (map view_parameter xs)) no_parameters c.loop-found.found c.expect.new.cursor c.loop-found.invariant
    (parameters_end c.args.grammar.now.types.now c.args.d c.loop-found.cursor c.expect.new.cursor c.in_ok-expect.ensures.is c.in_ok-expect.ensures.behind) (before_none _)
