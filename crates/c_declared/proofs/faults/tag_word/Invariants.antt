use Rattle.std.proofs.Common.{◌≡◌, map, drop}
use Rattle.c_tree.specs.View.{view_specifier, specifiers_of}
use Rattle.c_declared.specs.Faults.{tag_word}
use Rattle.c_declared.proofs.faults.tag_word.Given as goal

abbrev pub invariant-loop-word : goal.invariant-loop-word
invariant-loop-word l = tag_word (specifiers_of (map view_specifier (drop l.word-index l.specs))) ≡ tag_word (specifiers_of (map view_specifier l.fn.specs))
