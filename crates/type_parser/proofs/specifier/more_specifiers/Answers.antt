use Rattle.std.proofs.Common.{◌≡◌, map, ap, sym, ◌∙◌, true, false}
use Rattle.c_tree.specs.Tree.{no_specifiers}
use Rattle.c_tree.specs.TypeWords.{is_one_type}
use Rattle.c_tree.specs.View.{view_specifier, specifiers_of}
use Rattle.c_grammar.specs.Kind.{kind}
use Rattle.c_grammar.proofs.Joining.{erred}
use Rattle.c_grammar.proofs.Loops.{loop_begins, loop_turn, loop_ends, loop_fails, pushed}
use Rattle.type_parser.proofs.SpecifierLoop.{specifiers_turn, specifiers_fail, specifiers_end, specifiers_stop, specifiers_shorter, before_none, followed, ends_here}
use Rattle.type_parser.proofs.specifier.more_specifiers.Goals as goal

pub loop-found-init : goal.loop-found-init
loop-found-init g c = loop_begins _ _ (ap (map view_specifier) c.new-found.ensures)

pub returns-in_err-specifier : goal.returns-in_err-specifier
returns-in_err-specifier g c =
    let h = followed c.kind.result (kind c.args.grammar.now.types.now.types c.loop-found.cursor.rest) c.loop-found.words c.follow.new.self c.in_ok-start.field-0 c.in-Some.start c.in_ok-start.ensures c.in-Some.is c.kind.ensures in
    erred _ _ _ _ _ c.from_residual-in_err-specifier.ensures
    (loop_fails c.loop-found.invariant (specifiers_fail c.args.grammar.now.types.now c.args.d c.loop-found.cursor c.loop-found.owing c.loop-found.words c.follow.new.self c.in-Some.start c.in_err-specifier.field-0.0 h c.in_err-specifier.ensures))

pub loop-found-smaller : goal.loop-found-smaller
loop-found-smaller g c =
    let h = followed c.kind.result (kind c.args.grammar.now.types.now.types c.loop-found.cursor.rest) c.loop-found.words c.follow.new.self c.in_ok-start.field-0 c.in-Some.start c.in_ok-start.ensures c.in-Some.is c.kind.ensures in
    specifiers_shorter c.args.grammar.now.types.now c.args.d c.loop-found.cursor c.specifier.new.cursor c.loop-found.owing c.loop-found.words c.follow.new.self c.in-Some.start (view_specifier c.in_ok-specifier.field-0) h c.in_ok-specifier.ensures

pub loop-found-preserved : goal.loop-found-preserved
loop-found-preserved g c =
    let h = followed c.kind.result (kind c.args.grammar.now.types.now.types c.loop-found.cursor.rest) c.loop-found.words c.follow.new.self c.in_ok-start.field-0 c.in-Some.start c.in_ok-start.ensures c.in-Some.is c.kind.ensures in
    loop_turn _ c.loop-found.invariant
    (specifiers_turn c.args.grammar.now.types.now c.args.d c.loop-found.cursor c.specifier.new.cursor c.loop-found.owing c.stays-owing.result c.loop-found.words c.follow.new.self c.in-Some.start (view_specifier c.in_ok-specifier.field-0) h c.in_ok-specifier.ensures c.stays-owing.ensures)
    (pushed view_specifier c.loop-found.found c.push.new.self c.in_ok-specifier.field-0 c.in_ok-push.ensures.ok)

pub returns-then-is_whole : goal.returns-then-is_whole
returns-then-is_whole g c =
    let h = ends_here c.kind.result (kind c.args.grammar.now.types.now.types c.loop-found.cursor.rest) c.loop-found.words c.follow.new.self c.in_ok-start.field-0 c.in_ok-start.ensures c.in_default.is c.kind.ensures in
    let one : is_one_type c.loop-found.words ≡ true = ap is_one_type (sym h.same) ∙ sym c.is_whole.ensures ∙ c.if-is_whole.true in
    loop_ends (λ ws. specifiers_of (map view_specifier ws)) no_specifiers c.loop-found.found c.loop-found.cursor c.loop-found.invariant
    (specifiers_end c.args.grammar.now.types.now c.args.d c.loop-found.cursor c.loop-found.owing c.loop-found.words h.ends one) (before_none _)

pub returns-else-is_whole : goal.returns-else-is_whole
returns-else-is_whole g c =
    let h = ends_here c.kind.result (kind c.args.grammar.now.types.now.types c.loop-found.cursor.rest) c.loop-found.words c.follow.new.self c.in_ok-start.field-0 c.in_ok-start.ensures c.in_default.is c.kind.ensures in
    let none : is_one_type c.loop-found.words ≡ false = ap is_one_type (sym h.same) ∙ sym c.is_whole.ensures ∙ c.if-is_whole.false in
    loop_fails c.loop-found.invariant (specifiers_stop c.args.grammar.now.types.now c.args.d c.loop-found.cursor c.loop-found.owing c.loop-found.words c.refused.result h.ends none c.refused.ensures)
