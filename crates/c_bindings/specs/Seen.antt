-- The plain data that what is told of a node is seen as.
use Rattle.c_rules.specs.Seen.{seen}
use Rattle.c_bindings.specs.declared.told.Told.{Told}
use Rattle.c_bindings.specs.Told as plain

abbrev pub seen_told : Told → plain.Told
seen_told t = record { judged = seen t.verdict; binding = t.binding; value = t.value }
