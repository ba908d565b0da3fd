use Rattle.std.proofs.Common.{◌≡◌, [], ◌∷◌, ◌++◌, subst, map, true, false, rules}
use Rattle.c_tree.specs.StatementView.{view_item}
use Rattle.c_grammar.specs.declared.kind.Kind.TheVariants as k
use Rattle.c_grammar.specs.Kind.{kind, same_kind}
use Rattle.c_grammar.proofs.Joining.{erred}
use Rattle.c_grammar.proofs.Loops.{loop_turn, loop_ends, loop_fails, pushed, before_same}
use Rattle.item_parser.proofs.ItemLoop.{items_turn, items_fail, items_end}
use Rattle.item_parser.proofs.all_items.items.Goals as goal

pub returns-in_err-next : goal.returns-in_err-next
returns-in_err-next c =
    let other : same_kind (kind [] c.loop-alloc.cursor.rest) k.Nothing ≡ false = first_of (cc, search rules) in
    erred _ _ _ _ _ c.from_residual-in_err-next.ensures (loop_fails c.loop-alloc.invariant (items_fail c.loop-alloc.scope c.loop-alloc.cursor c.in_err-next.field-0.0 other c.in_err-next.ensures.reads))

pub loop-alloc-preserved : goal.loop-alloc-preserved
loop-alloc-preserved c =
    let other : same_kind (kind [] c.loop-alloc.cursor.rest) k.Nothing ≡ false = first_of (cc, search rules) in
    loop_turn (map view_item c.push.new.self) c.loop-alloc.invariant
    (items_turn c.loop-alloc.scope c.one_item.new.scope c.loop-alloc.cursor c.one_item.new.cursor (view_item c.in_ok-next.next) c.in_ok-next.ensures.behind other c.in_ok-next.ensures.reads)
    (pushed view_item c.loop-alloc.found c.push.new.self c.in_ok-next.next (subst (λ z. c.push.new.self ≡ c.loop-alloc.found ++ z ∷ []) c.into_inner.ensures c.in_ok-push.ensures.ok))

pub returns : goal.returns
returns c =
    let is : same_kind (kind [] c.loop-alloc.cursor.rest) k.Nothing ≡ true = first_of (cc, search rules) in
    loop_ends (λ xs. map view_item xs) [] c.loop-alloc.found c.loop-alloc.cursor c.loop-alloc.invariant
    (items_end c.loop-alloc.scope c.loop-alloc.cursor is) (before_same (map view_item c.loop-alloc.found))
