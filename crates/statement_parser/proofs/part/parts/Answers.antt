use Rattle.std.proofs.Common.{◌≡◌, map, Some, None, refl, subst, arith}
use Rattle.c_tree.specs.Tree.{no_initializers}
use Rattle.c_tree.specs.StatementView.{view_part, initializers_of}
use Rattle.c_grammar.specs.Body.{got}
use Rattle.c_grammar.specs.Performing.{perform}
use Rattle.c_grammar.proofs.Joining.{erred}
use Rattle.c_grammar.proofs.Loops.{loop_turn, loop_ends, loop_fails, pushed}
use Rattle.statement_parser.specs.PartList.{one_part}
use Rattle.statement_parser.proofs.Parts.{parts_turn, parts_last, parts_fail, parts_shorter, parts_none}
use Rattle.statement_parser.proofs.part.parts.Goals as goal

pub returns-in_err-next : goal.returns-in_err-next
returns-in_err-next g c =
    erred _ _ _ _ _ c.from_residual.ensures
    (loop_fails c.loop-found.invariant.read_on (parts_fail c.args.nest.now.types.now c.args.d c.loop-found.owed c.loop-found.cursor c.in_err-next.field-0.0 c.in_err-next.ensures))

pub loop-found-smaller : goal.loop-found-smaller
loop-found-smaller g c =
    parts_shorter c.args.nest.now.types.now c.args.d c.loop-found.owed c.loop-found.cursor c.part.new.cursor (view_part c.in_ok-next.next, c.in_ok-next.last) c.in_ok-next.ensures

pub returns-in-Some : goal.returns-in-Some
returns-in-Some g c =
    let b : c.in_ok-next.last ≡ Some c.in-Some.comma = cc in
    let e = subst (λ z. perform (one_part c.args.nest.now.types.now c.args.d c.loop-found.owed) c.loop-found.cursor ≡ got (view_part c.in_ok-next.next, z) c.part.new.cursor.rest c.part.new.cursor.meter) b c.in_ok-next.ensures in
    loop_ends (λ z. z) (no_initializers, c.in-Some.comma) (initializers_of (map view_part c.push.new.self), c.in-Some.comma) c.part.new.cursor
    (loop_turn (map view_part c.push.new.self) c.loop-found.invariant.read_on (parts_last c.args.nest.now.types.now c.args.d c.loop-found.owed c.loop-found.cursor c.part.new.cursor (view_part c.in_ok-next.next) c.in-Some.comma e)
    (pushed view_part c.loop-found.found c.push.new.self c.in_ok-next.next c.in_ok-push.ensures.ok))
    refl (parts_none (map view_part c.push.new.self) c.in-Some.comma)

pub loop-found-preserved : goal.loop-found-preserved
loop-found-preserved g c =
    let b : c.in_ok-next.last ≡ None = cc in
    let e = subst (λ z. perform (one_part c.args.nest.now.types.now c.args.d c.loop-found.owed) c.loop-found.cursor ≡ got (view_part c.in_ok-next.next, z) c.part.new.cursor.rest c.part.new.cursor.meter) b c.in_ok-next.ensures in
    record {
      read_on = loop_turn (map view_part c.push.new.self) c.loop-found.invariant.read_on (parts_turn c.args.nest.now.types.now c.args.d c.loop-found.owed c.loop-found.cursor c.part.new.cursor (view_part c.in_ok-next.next) e)
          (pushed view_part c.loop-found.found c.push.new.self c.in_ok-next.next c.in_ok-push.ensures.ok);
      few = omega arith;
    }
