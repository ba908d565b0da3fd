use Rattle.std.proofs.Common.{◌≡◌, ◌++◌, length, string_bytes}
use Rattle.posix_table.specs.Text.{parameters_text}
use Rattle.posix_table.proofs.text.push_parameters.Given as goal

abbrev pub invariant-loop-rest : goal.invariant-loop-rest
invariant-loop-rest l = string_bytes l.out ++ parameters_text l.left l.rest ≡ string_bytes l.fn.out ++ parameters_text l.fn.fewest l.fn.letters

abbrev pub decreases-loop-rest : goal.decreases-loop-rest
decreases-loop-rest l = length l.rest
