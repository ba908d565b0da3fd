-- The plain data that values of the walk over statements stand for.
use Rattle.c_kinds.specs.View.{view}
use Rattle.c_judged.specs.declared.cases.Cases.{Cases}
use Rattle.c_judged.specs.declared.statements.Body.{Body}
use Rattle.c_judged.specs.Statements as plain

abbrev pub seen_cases : Cases → plain.Cases
seen_cases cs = record { of = cs.of; values = cs.values; defaulted = cs.defaulted }

abbrev pub seen_body : Body → plain.Body
seen_body f = record { result = view f.result; labels = f.labels }
