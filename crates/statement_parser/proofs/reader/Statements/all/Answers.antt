use Rattle.std.proofs.Common.{◌≡◌, [], ◌∷◌, ◌++◌, map, true, false, subst}
use Rattle.c_tree.specs.Tree.{no_statements}
use Rattle.c_tree.specs.StatementView.{view_statement, statements_of}
use Rattle.c_grammar.specs.declared.kind.Kind.TheVariants as k
use Rattle.c_grammar.specs.Kind.{kind, same_kind}
use Rattle.c_grammar.proofs.Joining.{erred}
use Rattle.c_grammar.proofs.Loops.{loop_turn, loop_ends, loop_fails, pushed}
use Rattle.statement_parser.proofs.Listing.{statements_turn, statements_fail, statements_shorter, statements_end, statements_none}
use Rattle.statement_parser.proofs.reader.Statements.all.Goals as goal

pub returns-in_err-next : goal.returns-in_err-next
returns-in_err-next g c =
    let other : same_kind (kind c.args.self.now.types.now.types c.loop-context.cursor.rest) k.CloseBrace ≡ false = cc in
    erred _ _ _ _ _ c.from_residual.ensures (loop_fails c.loop-context.invariant (statements_fail c.args.self.now.types.now c.args.d c.args.context c.loop-context.cursor c.in_err-next.field-0.0 other c.in_err-next.ensures))

pub loop-context-smaller : goal.loop-context-smaller
loop-context-smaller g c =
    statements_shorter c.args.self.now.types.now c.args.d c.args.context c.loop-context.cursor c.one.new.cursor (view_statement c.in_ok-next.next) c.in_ok-next.ensures

pub loop-context-preserved : goal.loop-context-preserved
loop-context-preserved g c =
    let other : same_kind (kind c.args.self.now.types.now.types c.loop-context.cursor.rest) k.CloseBrace ≡ false = cc in
    loop_turn _ c.loop-context.invariant (statements_turn c.args.self.now.types.now c.args.d c.args.context c.loop-context.cursor c.one.new.cursor (view_statement c.in_ok-next.next) other c.in_ok-next.ensures)
    (pushed view_statement c.loop-context.found c.push.new.self c.in_ok-next.next (subst (λ z. c.push.new.self ≡ c.loop-context.found ++ z ∷ []) c.into_inner.ensures c.in_ok-push.ensures.ok))

pub returns : goal.returns
returns g c =
    let is : same_kind (kind c.args.self.now.types.now.types c.loop-context.cursor.rest) k.CloseBrace ≡ true = cc in
    loop_ends (λ xs. statements_of (map view_statement xs)) no_statements c.loop-context.found c.take.new.self c.loop-context.invariant
    (statements_end c.args.self.now.types.now c.args.d c.args.context c.loop-context.cursor c.take.new.self is c.take.ensures) (statements_none _)
