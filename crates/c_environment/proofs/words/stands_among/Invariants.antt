use Rattle.std.proofs.Common.{◌≡◌, map, drop}
use Rattle.c_tree.specs.View.{view_specifier, specifiers_of}
use Rattle.c_environment.specs.Types as plain
use Rattle.c_environment.specs.Words.{is_word}
use Rattle.c_environment.proofs.words.stands_among.Given as goal

abbrev pub invariant-loop-word : goal.invariant-loop-word
invariant-loop-word l = plain.stands_among (is_word l.asked) (specifiers_of (map view_specifier (drop l.word-index l.specs))) ≡ plain.stands_among (is_word l.fn.asked) (specifiers_of (map view_specifier l.fn.specs))
