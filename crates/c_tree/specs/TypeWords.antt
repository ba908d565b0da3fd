-- The words that name a type: which names are types, and which specifiers stand together (C11 6.7.2, 6.7.8).
use Rattle.std.specs.Prelude.{◌+◌, ◌*◌, List, [], ◌∷◌, ◌++◌, length, count_by, Bool, true, false, ◌&&◌, nat_le, IsTrue, IsFalse, bytes_eq, codes}
use Rattle.std.specs.List.{list_any, list_all}
use Rattle.c_tree.specs.declared.type_word.TypeWord.{TypeWord}
use Rattle.c_tree.specs.declared.type_word.TypeWord.TheVariants as tw
use Rattle.c_tree.specs.Tree.{Name, Specifiers, no_specifiers, specifiers, Specifier, const_word, volatile_word, void_word, char_word, short_word, int_word, long_word, signed_word, unsigned_word, type_name, struct_tag, struct_of, enum_tag, enum_of}

-- the names that are types in every program
unfoldable pub built_in_types : List Name
built_in_types =
    codes "size_t" ∷ codes "ssize_t" ∷ codes "off_t" ∷ codes "time_t" ∷ codes "clock_t" ∷ codes "ptrdiff_t" ∷ codes "intptr_t" ∷ codes "int64_t" ∷
    codes "uintptr_t" ∷ codes "uint64_t" ∷ codes "pthread_t" ∷ codes "nfds_t" ∷ codes "pid_t" ∷ codes "clockid_t" ∷ codes "int32_t" ∷
    codes "sig_atomic_t" ∷ codes "uid_t" ∷ codes "gid_t" ∷ codes "mode_t" ∷ codes "socklen_t" ∷ codes "uint32_t" ∷ codes "in_addr_t" ∷
    codes "uint16_t" ∷ codes "sa_family_t" ∷ codes "in_port_t" ∷ codes "int16_t" ∷ codes "uint8_t" ∷ codes "int8_t" ∷ codes "sigset_t" ∷
    codes "siginfo_t" ∷ codes "FILE" ∷ codes "pthread_attr_t" ∷ codes "pthread_mutex_t" ∷ codes "pthread_mutexattr_t" ∷ codes "pthread_cond_t" ∷
    codes "pthread_condattr_t" ∷ codes "sem_t" ∷ codes "fd_set" ∷ []

-- the name stands in the list
abbrev pub is_among : List Name → Name → Bool
is_among known n = list_any (bytes_eq n) known

-- the name is a type, where these names are types
abbrev pub IsTypeName : List Name → Name → Type 0
IsTypeName types n = IsTrue (is_among types n)

-- the name is none
abbrev pub IsOrdinary : List Name → Name → Type 0
IsOrdinary types n = IsFalse (is_among types n)

-- the words of specifiers without qualifiers, in order: a type's name, a struct and an enum name a whole type by themselves
abbrev pub words_of : Specifier → List TypeWord
words_of const_word = []
words_of volatile_word = []
words_of void_word = tw.Void ∷ []
words_of char_word = tw.Char ∷ []
words_of short_word = tw.Short ∷ []
words_of int_word = tw.Int ∷ []
words_of long_word = tw.Long ∷ []
words_of signed_word = tw.Signed ∷ []
words_of unsigned_word = tw.Unsigned ∷ []
words_of (type_name n) = tw.Whole ∷ []
words_of (struct_tag n) = tw.Whole ∷ []
words_of (struct_of t ms) = tw.Whole ∷ []
words_of (enum_tag n) = tw.Whole ∷ []
words_of (enum_of t es c) = tw.Whole ∷ []

abbrev pub type_words : Specifiers → List TypeWord
type_words no_specifiers = []
type_words (specifiers w ws) = words_of w ++ type_words ws

abbrev pub is_integer_word : TypeWord → Bool
is_integer_word tw.Void = false
is_integer_word tw.Char = false
is_integer_word tw.Whole = false
is_integer_word _ = true

abbrev pub is_short : TypeWord → Bool
is_short tw.Short = true
is_short _ = false

abbrev pub is_int : TypeWord → Bool
is_int tw.Int = true
is_int _ = false

abbrev pub is_long : TypeWord → Bool
is_long tw.Long = true
is_long _ = false

abbrev pub is_sign : TypeWord → Bool
is_sign tw.Signed = true
is_sign tw.Unsigned = true
is_sign _ = false

-- an integer type, its words in any order: at most one sign, at most one int, and one short, or at most two long (C11 6.7.2p2)
abbrev pub is_integer_type : List TypeWord → Bool
is_integer_type ws =
    list_all is_integer_word ws && nat_le 1 (length ws) && nat_le (count_by is_sign ws) 1 && nat_le (count_by is_int ws) 1
    && nat_le (2 * count_by is_short ws + count_by is_long ws) 2

-- the words name one type
abbrev pub is_one_type : List TypeWord → Bool
is_one_type (tw.Void ∷ []) = true
is_one_type (tw.Char ∷ []) = true
is_one_type (tw.Signed ∷ tw.Char ∷ []) = true
is_one_type (tw.Unsigned ∷ tw.Char ∷ []) = true
is_one_type (tw.Whole ∷ []) = true
is_one_type ws = is_integer_type ws

-- the specifiers name one type
abbrev pub NamesType : Specifiers → Type 0
NamesType ws = IsTrue (is_one_type (type_words ws))

-- a struct or an enum stands among them, by its tag or its braces
abbrev pub has_tag : Specifiers → Bool
has_tag no_specifiers = false
has_tag (specifiers (struct_tag n) ws) = true
has_tag (specifiers (struct_of t ms) ws) = true
has_tag (specifiers (enum_tag n) ws) = true
has_tag (specifiers (enum_of t es c) ws) = true
has_tag (specifiers _ ws) = has_tag ws
