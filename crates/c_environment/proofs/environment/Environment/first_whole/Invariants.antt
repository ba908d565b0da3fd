use Rattle.std.proofs.Common.{◌≡◌, map, drop}
use Rattle.c_tree.specs.View.{view_specifier, specifiers_of}
use Rattle.c_environment.specs.Types as plain
use Rattle.c_environment.specs.Seen.{seen_environment}
use Rattle.c_environment.proofs.environment.Environment.first_whole.Given as goal

abbrev pub invariant-loop-word : goal.invariant-loop-word
invariant-loop-word l =
    plain.first_whole (seen_environment l.self) (specifiers_of (map view_specifier (drop l.word-index l.specs)))
    ≡ plain.first_whole (seen_environment l.fn.self) (specifiers_of (map view_specifier l.fn.specs))
