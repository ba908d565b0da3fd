use Rattle.std.proofs.Common.{rules, ◌+◌, ◌∷◌, ◌&&◌, drop, ap, sym, ◌∙◌}
use Rattle.std.proofs.lemmas.List.{drop_more}
use Rattle.c_rules.specs.LibraryCalls as rule
use Rattle.c_rules.specs.Marks.{next_place}
use Rattle.c_rules.specs.Seen.{seen_operand, seen_operands}
use Rattle.c_rules.proofs.Marks.{take_none, take_one}
use Rattle.c_rules.proofs.library_calls.take_all.Goals as goal

pub returns-in-None : goal.returns-in-None
returns-in-None c =
    let marks = c.args.marks.now in
    let place = c.loop-x.place in
    let here = drop_more c.args.xs.now c.loop-x.x-index c.x-item.result c.loop-x-test.true ∙ ap (λ x. x ∷ drop (c.loop-x.x-index + 1) c.args.xs.now) (sym c.x-item.is) in
    let all = ap (λ ys. rule.take_all (drop place marks) ys) (sym (ap seen_operands here)) ∙ c.loop-x.invariant.0 in
    sym (take_none marks place (seen_operand c.x-item.result) (seen_operands (drop (c.loop-x.x-index + 1) c.args.xs.now)) (sym c.at.ensures ∙ c.in-None.is)) ∙ all

pub returns-then-not-takes_operand : goal.returns-then-not-takes_operand
returns-then-not-takes_operand c =
    let marks = c.args.marks.now in
    let place = c.loop-x.place in
    let rest = seen_operands (drop (c.loop-x.x-index + 1) c.args.xs.now) in
    let here = drop_more c.args.xs.now c.loop-x.x-index c.x-item.result c.loop-x-test.true ∙ ap (λ x. x ∷ drop (c.loop-x.x-index + 1) c.args.xs.now) (sym c.x-item.is) in
    let all = ap (λ ys. rule.take_all (drop place marks) ys) (sym (ap seen_operands here)) ∙ c.loop-x.invariant.0 in
    let one = take_one marks place c.in-Some.mark (seen_operand c.x-item.result) rest (sym c.at.ensures ∙ c.in-Some.is) in
    let not_taken = sym c.takes_operand.ensures ∙ c.if-not-takes_operand.true in
    sym (one ∙ ap (λ b. b && rule.take_all (drop (next_place c.in-Some.mark place) marks) rest) not_taken) ∙ all

pub loop-x-preserved : goal.loop-x-preserved
loop-x-preserved c =
    let marks = c.args.marks.now in
    let place = c.loop-x.place in
    let rest = seen_operands (drop (c.loop-x.x-index + 1) c.args.xs.now) in
    let here = drop_more c.args.xs.now c.loop-x.x-index c.x-item.result c.loop-x-test.true ∙ ap (λ x. x ∷ drop (c.loop-x.x-index + 1) c.args.xs.now) (sym c.x-item.is) in
    let all = ap (λ ys. rule.take_all (drop place marks) ys) (sym (ap seen_operands here)) ∙ c.loop-x.invariant.0 in
    let one = take_one marks place c.in-Some.mark (seen_operand c.x-item.result) rest (sym c.at.ensures ∙ c.in-Some.is) in
    let taken = sym c.takes_operand.ensures ∙ c.if-not-takes_operand.false in
    (ap (λ n. rule.take_all (drop n marks) rest) c.next_place-place.ensures ∙ sym (one ∙ ap (λ b. b && rule.take_all (drop (next_place c.in-Some.mark place) marks) rest) taken) ∙ all, search rules)
