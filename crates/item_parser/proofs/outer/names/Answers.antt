use Rattle.std.proofs.Common.{◌≡◌, [], ◌∷◌, ◌++◌, map, true, false, ap, ◌∙◌}
use Rattle.c_tree.specs.StatementView.{view_named}
use Rattle.c_grammar.specs.declared.kind.Kind.TheVariants as k
use Rattle.c_grammar.specs.Kind.{kind, same_kind}
use Rattle.c_grammar.proofs.Joining.{erred}
use Rattle.c_grammar.proofs.Loops.{loop_turn, loop_ends, loop_fails, pushed, before_same}
use Rattle.item_parser.proofs.OuterNames.{names_turn, names_fail, names_shorter, names_end, names_stop, names_begin, behind_first, behind_pushed}
use Rattle.item_parser.proofs.outer.names.Goals as goal

pub loop-alloc-init : goal.loop-alloc-init
loop-alloc-init c =
    let found = c.add_name.new.found in
    let one : map view_named found ≡ view_named c.args.first ∷ [] =
    pushed view_named c.new-found.result found c.args.first c.in_ok-add_name.ensures.found ∙ ap (λ z. map view_named z ++ view_named c.args.first ∷ []) c.new-found.ensures in
    record {
      reads = names_begin c.args.storage c.args.scope.now c.add_name.new.scope (view_named c.args.first) (map view_named found) c.args.cursor.now one c.in_ok-add_name.ensures.scope;
      behind = behind_first c.args.storage c.args.scope.now c.add_name.new.scope (view_named c.args.first) (map view_named found) one c.in_ok-add_name.ensures.scope;
    }

pub returns-in_err-next-clause-reads : goal.returns-in_err-next-clause-reads
returns-in_err-next-clause-reads c =
    let is : same_kind (kind [] c.loop-alloc.cursor.rest) k.Comma ≡ true = cc in
    erred _ _ _ _ _ c.from_residual-in_err-next.ensures (loop_fails c.loop-alloc.invariant.reads (names_fail c.args.storage c.loop-alloc.scope c.loop-alloc.cursor c.in_err-next.field-0.0 is c.in_err-next.ensures))

pub loop-alloc-smaller : goal.loop-alloc-smaller
loop-alloc-smaller c =
    let is : same_kind (kind [] c.loop-alloc.cursor.rest) k.Comma ≡ true = cc in
    names_shorter c.args.storage c.loop-alloc.scope c.loop-alloc.cursor c.another.new.cursor (view_named c.in_ok-next.next) is c.in_ok-next.ensures

pub loop-alloc-preserved : goal.loop-alloc-preserved
loop-alloc-preserved c =
    let is : same_kind (kind [] c.loop-alloc.cursor.rest) k.Comma ≡ true = cc in
    let found = c.add_name-in-loop-alloc.new.found in
    let scope = c.add_name-in-loop-alloc.new.scope in
    let more : map view_named found ≡ map view_named c.loop-alloc.found ++ view_named c.in_ok-next.next ∷ [] =
    pushed view_named c.loop-alloc.found found c.in_ok-next.next c.in_ok-add_name-2.ensures.found in
    record {
      reads = loop_turn (map view_named found) c.loop-alloc.invariant.reads
          (names_turn c.args.storage c.loop-alloc.scope scope c.loop-alloc.cursor c.another.new.cursor (view_named c.in_ok-next.next) c.in_ok-add_name-2.ensures.scope is c.in_ok-next.ensures) more;
      behind = behind_pushed c.args.storage (map view_named c.loop-alloc.found) (map view_named found) (view_named c.in_ok-next.next) c.args.scope.now c.loop-alloc.scope scope more c.loop-alloc.invariant.behind
          c.in_ok-add_name-2.ensures.scope;
    }

pub returns-in_err-expect-clause-reads : goal.returns-in_err-expect-clause-reads
returns-in_err-expect-clause-reads c =
    let comma : same_kind (kind [] c.loop-alloc.cursor.rest) k.Comma ≡ false = cc in
    erred _ _ _ _ _ c.from_residual-in_err-expect.ensures (loop_fails c.loop-alloc.invariant.reads (names_stop c.args.storage c.loop-alloc.scope c.loop-alloc.cursor c.in_err-expect.field-0.0 comma c.in_err-expect.ensures.other c.in_err-expect.ensures.syntax))

pub returns : goal.returns
returns c = record {
  reads = loop_ends (λ ns. map view_named ns) [] c.loop-alloc.found c.expect.new.cursor c.loop-alloc.invariant.reads
      (names_end c.args.storage c.loop-alloc.scope c.loop-alloc.cursor c.expect.new.cursor c.in_ok-expect.ensures.is c.in_ok-expect.ensures.behind) (before_same (map view_named c.loop-alloc.found));
  behind = c.loop-alloc.invariant.behind;
}
