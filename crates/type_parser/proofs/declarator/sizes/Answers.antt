use Rattle.std.proofs.Common.{◌≡◌, [], map, true, false}
use Rattle.std.specs.Prelude.{option_map}
use Rattle.c_tree.specs.Tree.{no_sizes}
use Rattle.c_tree.specs.View.{view_expression, sizes_of}
use Rattle.c_grammar.specs.declared.kind.Kind.TheVariants as k
use Rattle.c_grammar.specs.Kind.{kind, same_kind}
use Rattle.c_grammar.specs.Reading.{read}
use Rattle.c_grammar.specs.Rules.{all_sizes}
use Rattle.c_grammar.proofs.Joining.{erred}
use Rattle.c_grammar.proofs.Loops.{loop_turn, loop_ends, loop_fails, pushed}
use Rattle.type_parser.proofs.DeclaratorLists.{sizes_turn, sizes_fail, sizes_shorter, sizes_end, before_sizes}
use Rattle.type_parser.proofs.declarator.sizes.Goals as goal

pub returns-in_err-bracketed : goal.returns-in_err-bracketed
returns-in_err-bracketed g c =
    let is : same_kind (kind [] c.loop-found.cursor.rest) k.OpenBracket ≡ true = cc in
    erred (λ xs. sizes_of (map (option_map view_expression) xs)) (read (all_sizes c.args.grammar.now.types.now c.args.d) c.args.cursor.now) c.from_residual.result c.in_err-bracketed.field-0.0 c.bracketed.new.cursor
    c.from_residual.ensures (loop_fails c.loop-found.invariant (sizes_fail c.args.grammar.now.types.now c.args.d c.loop-found.cursor c.in_err-bracketed.field-0.0 is c.in_err-bracketed.ensures))

pub loop-found-smaller : goal.loop-found-smaller
loop-found-smaller g c =
    let is : same_kind (kind [] c.loop-found.cursor.rest) k.OpenBracket ≡ true = cc in
    sizes_shorter c.args.grammar.now.types.now c.args.d c.loop-found.cursor c.bracketed.new.cursor (option_map view_expression c.in_ok-bracketed.field-0) is c.in_ok-bracketed.ensures

pub loop-found-preserved : goal.loop-found-preserved
loop-found-preserved g c =
    let is : same_kind (kind [] c.loop-found.cursor.rest) k.OpenBracket ≡ true = cc in
    loop_turn (map (option_map view_expression) c.push.new.self) c.loop-found.invariant (sizes_turn c.args.grammar.now.types.now c.args.d c.loop-found.cursor c.bracketed.new.cursor (option_map view_expression c.in_ok-bracketed.field-0) is c.in_ok-bracketed.ensures)
    (pushed (option_map view_expression) c.loop-found.found c.push.new.self c.in_ok-bracketed.field-0 c.in_ok-push.ensures.ok)

pub returns : goal.returns
returns g c =
    let other : same_kind (kind [] c.loop-found.cursor.rest) k.OpenBracket ≡ false = cc in
    loop_ends (λ xs. sizes_of (map (option_map view_expression) xs)) no_sizes c.loop-found.found c.loop-found.cursor c.loop-found.invariant
    (sizes_end c.args.grammar.now.types.now c.args.d c.loop-found.cursor other) (before_sizes (map (option_map view_expression) c.loop-found.found))
