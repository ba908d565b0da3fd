use Rattle.std.proofs.Common.{◌≡◌, take}
use Rattle.std.specs.Prelude.{All, IsUtf8}
use Rattle.c_parser.proofs.places.files_of.Given as goal

abbrev pub invariant-loop-k : goal.invariant-loop-k
invariant-loop-k l = record { same : l.files ≡ take l.k l.tokens.files; text : All IsUtf8 l.files }
