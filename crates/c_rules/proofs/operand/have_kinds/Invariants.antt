use Rattle.std.proofs.Common.{◌≡◌, drop}
use Rattle.std.specs.Prelude.{is_some}
use Rattle.std.specs.List.{list_all}
use Rattle.c_rules.specs.Judgement.{kind}
use Rattle.c_rules.specs.Seen.{seen_operands}
use Rattle.c_rules.proofs.operand.have_kinds.Given as goal

abbrev pub invariant-loop-one : goal.invariant-loop-one
invariant-loop-one l = list_all (λ x. is_some (kind x.judged)) (seen_operands (drop l.one-index l.all)) ≡ list_all (λ x. is_some (kind x.judged)) (seen_operands l.fn.all)
