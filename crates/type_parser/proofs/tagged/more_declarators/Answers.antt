use Rattle.std.proofs.Common.{◌≡◌, [], ◌∷◌, ◌++◌, map, subst, true, false}
use Rattle.c_tree.specs.Tree.{no_declarators}
use Rattle.c_tree.specs.View.{view_declarator, declarators_of}
use Rattle.c_grammar.specs.declared.kind.Kind.TheVariants as k
use Rattle.c_grammar.specs.Kind.{kind, same_kind}
use Rattle.c_grammar.proofs.Joining.{erred}
use Rattle.c_grammar.proofs.Loops.{loop_turn, loop_ends, loop_fails, pushed}
use Rattle.type_parser.proofs.TaggedDeclarators.{declarators_turn, declarators_fail, declarators_shorter, declarators_end, declarators_none}
use Rattle.type_parser.proofs.tagged.more_declarators.Goals as goal

pub returns-in_err-next : goal.returns-in_err-next
returns-in_err-next g c =
    let is : same_kind (kind [] c.loop-cursor.cursor.rest) k.Comma ≡ true = cc in
    erred _ _ _ _ _ c.from_residual-in_err-next.ensures (loop_fails c.loop-cursor.invariant (declarators_fail c.args.grammar.now.types.now c.args.d c.loop-cursor.cursor c.in_err-next.field-0.0 is c.in_err-next.ensures))

pub loop-cursor-smaller : goal.loop-cursor-smaller
loop-cursor-smaller g c =
    let is : same_kind (kind [] c.loop-cursor.cursor.rest) k.Comma ≡ true = cc in
    declarators_shorter c.args.grammar.now.types.now c.args.d c.loop-cursor.cursor c.another_declarator.new.cursor (view_declarator c.in_ok-next.next) is c.in_ok-next.ensures

pub loop-cursor-preserved : goal.loop-cursor-preserved
loop-cursor-preserved g c =
    let is : same_kind (kind [] c.loop-cursor.cursor.rest) k.Comma ≡ true = cc in
    loop_turn _ c.loop-cursor.invariant (declarators_turn c.args.grammar.now.types.now c.args.d c.loop-cursor.cursor c.another_declarator.new.cursor (view_declarator c.in_ok-next.next) is c.in_ok-next.ensures)
    (pushed view_declarator c.loop-cursor.found c.push-in-loop-cursor.new.self c.in_ok-next.next (subst (λ x. c.push-in-loop-cursor.new.self ≡ c.loop-cursor.found ++ x ∷ []) c.into_inner-in-loop-cursor.ensures c.in_ok-push-2.ensures.ok))

pub returns : goal.returns
returns g c =
    let other : same_kind (kind [] c.loop-cursor.cursor.rest) k.Comma ≡ false = cc in
    loop_ends (λ xs. declarators_of (map view_declarator xs)) no_declarators c.loop-cursor.found c.loop-cursor.cursor c.loop-cursor.invariant
    (declarators_end c.args.grammar.now.types.now c.args.d c.loop-cursor.cursor other) (declarators_none _)
