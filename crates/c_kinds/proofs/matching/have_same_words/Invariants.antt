use Rattle.std.proofs.Common.{◌≡◌, map, drop}
use Rattle.c_kinds.specs.Kind.{words, kinds_of}
use Rattle.c_kinds.specs.Word.{same_words}
use Rattle.c_kinds.specs.View.{view}
use Rattle.c_kinds.proofs.matching.have_same_words.Given as goal

abbrev pub invariant-loop-one : goal.invariant-loop-one
invariant-loop-one l = same_words (words (kinds_of (map view (drop l.one-index l.ones)))) (words (kinds_of (map view l.rest))) ≡ same_words (words (kinds_of (map view l.fn.ones))) (words (kinds_of (map view l.fn.others)))
