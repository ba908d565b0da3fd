use Rattle.std.proofs.Common.{◌≡◌, [], ◌∷◌, ◌++◌, map, Some, None, refl, subst}
use Rattle.c_tree.specs.Tree.{no_enumerators}
use Rattle.c_tree.specs.View.{view_enumerator, enumerators_of}
use Rattle.c_grammar.specs.Body.{got}
use Rattle.c_grammar.specs.Performing.{perform}
use Rattle.c_grammar.proofs.Joining.{erred}
use Rattle.c_grammar.proofs.Loops.{loop_turn, loop_ends, loop_fails, pushed}
use Rattle.type_parser.specs.Tagged.{one_enumerator}
use Rattle.type_parser.proofs.TaggedEnumerators.{enumerators_turn, enumerators_last, enumerators_fail, enumerators_shorter, enumerators_none}
use Rattle.type_parser.proofs.tagged.enumerators.Goals as goal

pub returns-in_err-next : goal.returns-in_err-next
returns-in_err-next g c =
    erred _ _ _ _ _ c.from_residual.ensures (loop_fails c.loop-found.invariant (enumerators_fail c.args.grammar.now.types.now c.args.d c.loop-found.cursor c.in_err-next.field-0.0 c.in_err-next.ensures))

pub returns-in-Some : goal.returns-in-Some
returns-in-Some g c =
    let b : c.in_ok-next.last ≡ Some c.in-Some.comma = cc in
    let e = subst (λ z. perform (one_enumerator c.args.grammar.now.types.now c.args.d) c.loop-found.cursor ≡ got (view_enumerator c.in_ok-next.next, z) c.enumerator.new.cursor.rest c.enumerator.new.cursor.meter) b c.in_ok-next.ensures in
    loop_ends (λ z. z) (no_enumerators, c.in-Some.comma) (enumerators_of (map view_enumerator c.push.new.self), c.in-Some.comma) c.enumerator.new.cursor
    (loop_turn (map view_enumerator c.push.new.self) c.loop-found.invariant (enumerators_last c.args.grammar.now.types.now c.args.d c.loop-found.cursor c.enumerator.new.cursor (view_enumerator c.in_ok-next.next) c.in-Some.comma e)
    (pushed view_enumerator c.loop-found.found c.push.new.self c.in_ok-next.next (subst (λ x. c.push.new.self ≡ c.loop-found.found ++ x ∷ []) c.into_inner.ensures c.in_ok-push.ensures.ok)))
    refl (enumerators_none (map view_enumerator c.push.new.self) c.in-Some.comma)

pub loop-found-smaller : goal.loop-found-smaller
loop-found-smaller g c =
    enumerators_shorter c.args.grammar.now.types.now c.args.d c.loop-found.cursor c.enumerator.new.cursor (view_enumerator c.in_ok-next.next, c.in_ok-next.last) c.in_ok-next.ensures

pub loop-found-preserved : goal.loop-found-preserved
loop-found-preserved g c =
    let b : c.in_ok-next.last ≡ None = cc in
    let e = subst (λ z. perform (one_enumerator c.args.grammar.now.types.now c.args.d) c.loop-found.cursor ≡ got (view_enumerator c.in_ok-next.next, z) c.enumerator.new.cursor.rest c.enumerator.new.cursor.meter) b c.in_ok-next.ensures in
    loop_turn (map view_enumerator c.push.new.self) c.loop-found.invariant (enumerators_turn c.args.grammar.now.types.now c.args.d c.loop-found.cursor c.enumerator.new.cursor (view_enumerator c.in_ok-next.next) e)
    (pushed view_enumerator c.loop-found.found c.push.new.self c.in_ok-next.next (subst (λ x. c.push.new.self ≡ c.loop-found.found ++ x ∷ []) c.into_inner.ensures c.in_ok-push.ensures.ok))
