use Rattle.std.proofs.Common.{◌≡◌, [], true, false}
use Rattle.c_grammar.specs.declared.kind.Kind.TheVariants as k
use Rattle.c_grammar.specs.Kind.{kind, same_kind}
use Rattle.c_grammar.specs.Reading.{read}
use Rattle.c_grammar.specs.Rules.{all_stars}
use Rattle.c_grammar.proofs.Joining.{erred}
use Rattle.c_grammar.proofs.Loops.{loop_turn, loop_ends, loop_fails, before_same}
use Rattle.type_parser.proofs.DeclaratorLists.{stars_turn, stars_fail, stars_shorter, stars_end}
use Rattle.type_parser.proofs.pointer.stars.Goals as goal

pub returns-in_err-star : goal.returns-in_err-star
returns-in_err-star c =
    let is : same_kind (kind [] c.loop-alloc.cursor.rest) k.Star ≡ true = cc in
    erred (λ ss. ss) (read all_stars c.args.cursor.now) c.from_residual.result c.in_err-star.field-0.0 c.star.new.cursor c.from_residual.ensures
    (loop_fails c.loop-alloc.invariant (stars_fail c.loop-alloc.cursor c.in_err-star.field-0.0 is c.in_err-star.ensures))

pub loop-alloc-smaller : goal.loop-alloc-smaller
loop-alloc-smaller c =
    let is : same_kind (kind [] c.loop-alloc.cursor.rest) k.Star ≡ true = cc in
    stars_shorter c.loop-alloc.cursor c.star.new.cursor c.in_ok-star.field-0 is c.in_ok-star.ensures

pub loop-alloc-preserved : goal.loop-alloc-preserved
loop-alloc-preserved c =
    let is : same_kind (kind [] c.loop-alloc.cursor.rest) k.Star ≡ true = cc in
    loop_turn c.push.new.self c.loop-alloc.invariant (stars_turn c.loop-alloc.cursor c.star.new.cursor c.in_ok-star.field-0 is c.in_ok-star.ensures) c.in_ok-push.ensures.ok

pub returns : goal.returns
returns c =
    let other : same_kind (kind [] c.loop-alloc.cursor.rest) k.Star ≡ false = cc in
    loop_ends (λ ss. ss) [] c.loop-alloc.found c.loop-alloc.cursor c.loop-alloc.invariant (stars_end c.loop-alloc.cursor other) (before_same c.loop-alloc.found)
