-- The plain data that values of the program stand for.
use Rattle.std.specs.Prelude.{List, map}
use Rattle.c_kinds.specs.View.{view}
use Rattle.c_rules.specs.Judgement as plain
use Rattle.c_rules.specs.Judgement.{Judgement, fits, fails, waits, silent}
use Rattle.c_rules.specs.declared.verdict.Verdict.{Verdict}
use Rattle.c_rules.specs.declared.verdict.Verdict.TheVariants as v
use Rattle.c_rules.specs.declared.operand.Operand.{Operand}

abbrev pub seen : Verdict → Judgement
seen (v.Fits k) = fits (view k)
seen (v.Fails m) = fails m
seen v.Waits = waits
seen v.Silent = silent

abbrev pub seen_operand : Operand → plain.Operand
seen_operand x = record { judged = seen x.verdict; form = x.form }

abbrev pub seen_operands : List Operand → List plain.Operand
seen_operands xs = map seen_operand xs
