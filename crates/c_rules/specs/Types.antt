-- The kinds that rules give, and what they ask of kinds.
use Rattle.std.specs.Prelude.{ℕ, suc, Bool, true, false, List, [], ◌∷◌, codes, if◌then◌else◌}
use Rattle.std.specs.Str.{bytes_eq}
use Rattle.c_kinds.specs.Kind.{Kind, void, int, pointer, function, word}
use Rattle.c_kinds.specs.Word.{is_scalar, decayed_word, same}
use Rattle.c_kinds.specs.declared.word.Word.TheVariants as w
use Rattle.c_arithmetic.specs.declared.types.IntType.{IntType}
use Rattle.c_builtins.specs.Types.{tags}

abbrev pub of_type : IntType → Kind
of_type t = int t.width t.signed

abbrev pub type_of : ℕ → Bool → IntType
type_of width is_signed = record { width = width; signed = is_signed }

-- int, char, long and size_t (6.2.5p4, p5; 7.19p2)
abbrev pub plain_int : Kind
plain_int = int 32 true

abbrev pub char : Kind
char = int 8 true

abbrev pub long : Kind
long = int 64 true

abbrev pub size : Kind
size = int 64 false

-- a pointer to a function of an int without a result, as sa_handler is (POSIX.1-2017 XBD signal.h)
abbrev pub handler : Kind
handler = function (plain_int ∷ []) void

abbrev pub is_int : Kind → Bool
is_int k = same w.Int (word k)

abbrev pub is_void : Kind → Bool
is_void k = same w.Void (word k)

-- a pointer to an object, as which an array stands too
abbrev pub is_object_pointer : Kind → Bool
is_object_pointer k = same w.Ptr (decayed_word (word k))

-- a value that compares with 0: it may be a condition (6.5.3.3p1, 6.5.13p2, 6.5.15p2, 6.8.4.1p1, 6.8.5p2)
abbrev pub is_condition : Kind → Bool
is_condition k = is_scalar (decayed_word (word k))

abbrev pub is_void_pointer : Kind → Bool
is_void_pointer (pointer void) = true
is_void_pointer _ = false

-- the number of a built-in structure: the place of its tag among those of all
abbrev pub place_among : List (List ℕ) → List ℕ → ℕ
place_among [] tag = 0
place_among (known ∷ more) tag = if bytes_eq known tag then 0 else suc (place_among more tag)

-- struct tm and struct sigaction (POSIX.1-2017 XBD time.h, signal.h)
abbrev pub tm_number : ℕ
tm_number = place_among tags (codes "tm")

abbrev pub sigaction_number : ℕ
sigaction_number = place_among tags (codes "sigaction")
