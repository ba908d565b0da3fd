use Rattle.std.proofs.Common.{◌≡◌, length}
use Rattle.c_lexer.specs.FaultFile.{fault_file_behind, fault_file}
use Rattle.c_lexer.specs.Progress.{progress, IsReady}
use Rattle.c_lexer.proofs.fault_place.fault_file.Given as goal

abbrev pub invariant-loop-rest : goal.invariant-loop-rest
invariant-loop-rest l = record { same : fault_file_behind (progress l.scanner) l.rest ≡ fault_file l.text; ready : IsReady (progress l.scanner) (length l.rest) }

abbrev pub decreases-loop-rest : goal.decreases-loop-rest
decreases-loop-rest l = length l.rest
