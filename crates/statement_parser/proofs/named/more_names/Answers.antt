use Rattle.std.proofs.Common.{◌≡◌, [], ◌∷◌, ◌++◌, subst, map, true, false}
use Rattle.c_tree.specs.StatementView.{view_named}
use Rattle.c_grammar.specs.declared.kind.Kind.TheVariants as k
use Rattle.c_grammar.specs.Kind.{kind, same_kind}
use Rattle.c_grammar.proofs.Joining.{erred}
use Rattle.c_grammar.proofs.Loops.{loop_turn, loop_ends, loop_fails, pushed, before_same}
use Rattle.statement_parser.proofs.NameLists.{named_turn, named_fail, named_shorter, named_end, named_stop}
use Rattle.statement_parser.proofs.named.more_names.Goals as goal

pub returns-in_err-next : goal.returns-in_err-next
returns-in_err-next c =
    let is : same_kind (kind [] c.loop-alloc.cursor.rest) k.Comma ≡ true = cc in
    erred _ _ _ _ _ c.from_residual-in_err-next.ensures (loop_fails c.loop-alloc.invariant (named_fail c.args.types.now c.args.d c.loop-alloc.cursor c.in_err-next.field-0.0 is c.in_err-next.ensures))

pub loop-alloc-smaller : goal.loop-alloc-smaller
loop-alloc-smaller c =
    let is : same_kind (kind [] c.loop-alloc.cursor.rest) k.Comma ≡ true = cc in
    named_shorter c.args.types.now c.args.d c.loop-alloc.cursor c.another_name.new.cursor (view_named c.in_ok-next.next) is c.in_ok-next.ensures

pub loop-alloc-preserved : goal.loop-alloc-preserved
loop-alloc-preserved c =
    let is : same_kind (kind [] c.loop-alloc.cursor.rest) k.Comma ≡ true = cc in
    loop_turn _ c.loop-alloc.invariant (named_turn c.args.types.now c.args.d c.loop-alloc.cursor c.another_name.new.cursor (view_named c.in_ok-next.next) is c.in_ok-next.ensures)
    (pushed view_named c.loop-alloc.found c.push-in-loop-alloc.new.self c.in_ok-next.next (subst (λ z. c.push-in-loop-alloc.new.self ≡ c.loop-alloc.found ++ z ∷ []) c.into_inner-in-loop-alloc.ensures c.in_ok-push-2.ensures.ok))

pub returns-in_err-expect : goal.returns-in_err-expect
returns-in_err-expect c =
    let comma : same_kind (kind [] c.loop-alloc.cursor.rest) k.Comma ≡ false = cc in
    erred _ _ _ _ _ c.from_residual-in_err-expect.ensures (loop_fails c.loop-alloc.invariant (named_stop c.args.types.now c.args.d c.loop-alloc.cursor c.in_err-expect.field-0.0 comma c.in_err-expect.ensures.other c.in_err-expect.ensures.syntax))

pub returns : goal.returns
returns c =
    loop_ends (map view_named) [] c.loop-alloc.found c.expect.new.cursor c.loop-alloc.invariant
    (named_end c.args.types.now c.args.d c.loop-alloc.cursor c.expect.new.cursor c.in_ok-expect.ensures.is c.in_ok-expect.ensures.behind) (before_same _)
