-- Which values may stand where (C11 6.5.16.1, as the subset reads it), and which declarations of one object agree (6.2.7).
use Rattle.std.specs.Prelude.{List, Bool, true, false, ◌&&◌, ◌||◌, ◌==◌}
use Rattle.c_kinds.specs.declared.word.Word.{Word}
use Rattle.c_kinds.specs.Word.{same, same_words}
use Rattle.c_kinds.specs.Kind.{Kind, int, pointer, function_of, array, structure, signals, kernel, word, words}

-- a pointer to a function whose parameters and result have these outermost words
abbrev pub has_signature : List Word → Word → Kind → Bool
has_signature vs v (function_of ks k) = same_words (words ks) vs && same (word k) v
has_signature vs v _ = false

-- A value of the first type may stand where the second is due: as the right side of an assignment (6.5.16.1p1), an argument
-- (6.5.2.2p2), an initialiser (6.7.9p11) or what a return gives (6.8.6.4p3). Integers are converted (6.3.1.3), and so are pointers to
-- objects, whatever they point to (6.3.2.3p1, p7); an array is a pointer there (6.3.2.1p3), but none is due. Structures match if they are
-- the same. Of functions the outermost words of parameters and result count (6.7.6.3p15, more loosely).
abbrev pub matches : Kind → Kind → Bool
matches (int width signed) (int width' signed') = true
matches (pointer k) (pointer k') = true
matches (array k) (pointer k') = true
matches (structure n) (structure n') = n == n'
matches signals signals = true
matches k (function_of ks' k') = has_signature (words ks') (word k') k
matches _ _ = false

-- operands of a comparison, or of a choice, in either order (6.5.8p2, 6.5.9p2, 6.5.15p3)
abbrev pub matches_either_way : Kind → Kind → Bool
matches_either_way k k' = matches k k' || matches k' k

-- Two declarations of one object have types that agree (6.2.7p2): arrays by their elements, whatever their sizes (6.7.6.2p6).
abbrev pub agrees : Kind → Kind → Bool
agrees (array k) (array k') = agrees k k'
agrees kernel kernel = true
agrees k k' = matches_either_way k k'
