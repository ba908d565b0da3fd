use Rattle.std.proofs.Common.{◌≡◌, [], ◌∷◌, ◌++◌, map, subst, true, false}
use Rattle.c_tree.specs.Tree.{no_expressions}
use Rattle.c_tree.specs.View.{view_expression, expressions_of}
use Rattle.c_grammar.specs.declared.kind.Kind.TheVariants as k
use Rattle.c_grammar.specs.Kind.{kind, same_kind}
use Rattle.c_grammar.proofs.Joining.{erred}
use Rattle.expression_parser.proofs.Listing.{arguments_turn, arguments_fail, arguments_shorter, arguments_end, arguments_stop, before_none}
use Rattle.c_grammar.proofs.Loops.{loop_turn, loop_ends, loop_fails, pushed}
use Rattle.expression_parser.proofs.grammar.Grammar.more_arguments.Goals as goal

pub returns-in_err-next : goal.returns-in_err-next
returns-in_err-next g c =
    let is : same_kind (kind [] c.loop-cursor.cursor.rest) k.Comma ≡ true = cc in
    erred _ _ _ _ _ c.from_residual-in_err-next.ensures (loop_fails c.loop-cursor.invariant (arguments_fail c.args.self.now.types.now c.args.d c.loop-cursor.cursor c.in_err-next.field-0.0 is c.in_err-next.ensures))

pub loop-cursor-smaller : goal.loop-cursor-smaller
loop-cursor-smaller g c =
    let is : same_kind (kind [] c.loop-cursor.cursor.rest) k.Comma ≡ true = cc in
    arguments_shorter c.args.self.now.types.now c.args.d c.loop-cursor.cursor c.another.new.cursor (view_expression c.in_ok-next.next) is c.in_ok-next.ensures

pub loop-cursor-preserved : goal.loop-cursor-preserved
loop-cursor-preserved g c =
    let is : same_kind (kind [] c.loop-cursor.cursor.rest) k.Comma ≡ true = cc in
    loop_turn _ c.loop-cursor.invariant (arguments_turn c.args.self.now.types.now c.args.d c.loop-cursor.cursor c.another.new.cursor (view_expression c.in_ok-next.next) is c.in_ok-next.ensures)
    (pushed view_expression c.loop-cursor.found c.push-in-loop-cursor.new.self c.in_ok-next.next (subst (λ x. c.push-in-loop-cursor.new.self ≡ c.loop-cursor.found ++ x ∷ []) c.into_inner-in-loop-cursor.ensures c.in_ok-push-2.ensures.ok))

pub returns-in_err-expect : goal.returns-in_err-expect
returns-in_err-expect g c =
    let comma : same_kind (kind [] c.loop-cursor.cursor.rest) k.Comma ≡ false = cc in
    erred _ _ _ _ _ c.from_residual-in_err-expect.ensures (loop_fails c.loop-cursor.invariant (arguments_stop c.args.self.now.types.now c.args.d c.loop-cursor.cursor c.in_err-expect.field-0.0 comma c.in_err-expect.ensures.other c.in_err-expect.ensures.syntax))

pub returns : goal.returns
returns g c =
    loop_ends (λ xs. expressions_of (map view_expression xs)) no_expressions c.loop-cursor.found c.expect.new.cursor c.loop-cursor.invariant
    (arguments_end c.args.self.now.types.now c.args.d c.loop-cursor.cursor c.expect.new.cursor c.in_ok-expect.ensures.is c.in_ok-expect.ensures.behind) (before_none _)
