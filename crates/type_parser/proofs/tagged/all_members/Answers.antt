use Rattle.std.proofs.Common.{◌≡◌, map, true, false, refl, subst}
use Rattle.c_tree.specs.Tree.{no_members}
use Rattle.c_tree.specs.View.{view_member, members_of}
use Rattle.c_grammar.specs.Body.{got}
use Rattle.c_grammar.specs.Performing.{perform}
use Rattle.c_grammar.proofs.Joining.{erred}
use Rattle.c_grammar.proofs.Loops.{loop_turn, loop_ends, loop_fails, pushed}
use Rattle.type_parser.specs.Tagged.{one_member}
use Rattle.type_parser.proofs.TaggedMembers.{members_turn, members_last, members_fail, members_shorter, members_none}
use Rattle.type_parser.proofs.tagged.all_members.Goals as goal

pub returns-in_err-next : goal.returns-in_err-next
returns-in_err-next g c =
    erred _ _ _ _ _ c.from_residual.ensures (loop_fails c.loop-found.invariant (members_fail c.args.grammar.now.types.now c.args.d c.loop-found.cursor c.in_err-next.field-0.0 c.in_err-next.ensures))

pub returns-then-last : goal.returns-then-last
returns-then-last g c =
    let b : c.in_ok-next.last ≡ true = cc in
    let e = subst (λ z. perform (one_member c.args.grammar.now.types.now c.args.d) c.loop-found.cursor ≡ got (view_member c.in_ok-next.next, z) c.member.new.cursor.rest c.member.new.cursor.meter) b c.in_ok-next.ensures in
    loop_ends (λ xs. members_of (map view_member xs)) no_members c.push.new.self c.member.new.cursor
    (loop_turn (map view_member c.push.new.self) c.loop-found.invariant (members_last c.args.grammar.now.types.now c.args.d c.loop-found.cursor c.member.new.cursor (view_member c.in_ok-next.next) e)
    (pushed view_member c.loop-found.found c.push.new.self c.in_ok-next.next c.in_ok-push.ensures.ok))
    refl (members_none (map view_member c.push.new.self))

pub loop-found-smaller : goal.loop-found-smaller
loop-found-smaller g c =
    members_shorter c.args.grammar.now.types.now c.args.d c.loop-found.cursor c.member.new.cursor (view_member c.in_ok-next.next, c.in_ok-next.last) c.in_ok-next.ensures

pub loop-found-preserved : goal.loop-found-preserved
loop-found-preserved g c =
    let b : c.in_ok-next.last ≡ false = cc in
    let e = subst (λ z. perform (one_member c.args.grammar.now.types.now c.args.d) c.loop-found.cursor ≡ got (view_member c.in_ok-next.next, z) c.member.new.cursor.rest c.member.new.cursor.meter) b c.in_ok-next.ensures in
    loop_turn (map view_member c.push.new.self) c.loop-found.invariant (members_turn c.args.grammar.now.types.now c.args.d c.loop-found.cursor c.member.new.cursor (view_member c.in_ok-next.next) e)
    (pushed view_member c.loop-found.found c.push.new.self c.in_ok-next.next c.in_ok-push.ensures.ok)
