use Rattle.std.proofs.Common.{◌≡◌, ◌+◌, take, count_by, arith}
use Rattle.std.proofs.lemmas.Grind.{common_steps}
use Rattle.std.proofs.lemmas.List.Sums.{count_by_more_yes, count_by_more_no}
use Rattle.c_tree.specs.Limits.{is_opener, is_closer}
use Rattle.c_parser.proofs.Nesting.{first_at}
use Rattle.c_parser.proofs.brackets.first_nested.Goals as goal
use Rattle.c_parser.proofs.brackets.first_nested.Goals.{then-is_opener, else-is_opener, then-is_closer, else-is_closer}

pub returns-then-saturating_sub-closed : goal.returns-then-saturating_sub-closed
returns-then-saturating_sub-closed c =
    let opened : c.if-is_opener.opened ≡ count_by is_opener (take (c.loop-k.k + 1) c.args.tokens.now) =
    elim c.if-is_opener.branch [ then-is_opener w ↦ grind (arith, common_steps, count_by_more_yes) | else-is_opener w ↦ grind (arith, common_steps, count_by_more_no) ] in
    let closed : c.if-is_closer.closed ≡ count_by is_closer (take (c.loop-k.k + 1) c.args.tokens.now) =
    elim c.if-is_closer.branch [ then-is_closer w ↦ grind (arith, common_steps, count_by_more_yes) | else-is_closer w ↦ grind (arith, common_steps, count_by_more_no) ] in
    first_at c.loop-k.k c.args.tokens.now (omega arith) c.loop-k.invariant.nests (omega (arith, c.saturating_sub.ensures))
