use Rattle.std.proofs.Common.{◌≡◌, [], true, false}
use Rattle.c_grammar.specs.declared.kind.Kind.TheVariants as k
use Rattle.c_grammar.specs.Kind.{kind, same_kind}
use Rattle.expression_parser.proofs.Listing.{texts_turn, texts_end, texts_shorter}
use Rattle.c_grammar.proofs.Loops.{loop_turn, loop_ends, before_same}
use Rattle.expression_parser.proofs.expression.texts.Goals as goal

pub loop-alloc-smaller : goal.loop-alloc-smaller
loop-alloc-smaller c =
    let is : same_kind (kind [] c.loop-alloc.cursor.rest) k.Text ≡ true = cc in
    texts_shorter c.loop-alloc.cursor c.word.new.cursor is c.in_ok-word.ensures.behind

pub loop-alloc-preserved : goal.loop-alloc-preserved
loop-alloc-preserved c =
    let is : same_kind (kind [] c.loop-alloc.cursor.rest) k.Text ≡ true = cc in
    loop_turn _ c.loop-alloc.invariant (texts_turn c.loop-alloc.cursor c.word.new.cursor c.in_ok-word.field-0 is c.in_ok-word.ensures.text c.in_ok-word.ensures.behind) c.in_ok-push-2.ensures.ok

pub returns : goal.returns
returns c =
    let other : same_kind (kind [] c.loop-alloc.cursor.rest) k.Text ≡ false = cc in
    loop_ends (λ ns. ns) [] c.loop-alloc.found c.loop-alloc.cursor c.loop-alloc.invariant (texts_end c.loop-alloc.cursor other) (before_same _)
