-- The outermost words of types, and what holds of a type by its outermost word alone (C11 6.2.5).
use Rattle.std.specs.Prelude.{Bool, true, false, List, [], ◌∷◌, ◌&&◌}
use Rattle.c_kinds.specs.declared.word.Word.{Word}
use Rattle.c_kinds.specs.declared.word.Word.TheVariants as w

abbrev pub same : Word → Word → Bool
same w.Void w.Void = true
same w.Int w.Int = true
same w.Ptr w.Ptr = true
same w.FnPtr w.FnPtr = true
same w.Array w.Array = true
same w.Struct w.Struct = true
same w.Set w.Set = true
same w.Kernel w.Kernel = true
same _ _ = false

-- as many, and the same in order
abbrev pub same_words : List Word → List Word → Bool
same_words [] [] = true
same_words (v ∷ vs) (w ∷ ws) = same v w && same_words vs ws
same_words _ _ = false

-- pointers, to objects and to functions (6.2.5p20)
abbrev pub is_pointer : Word → Bool
is_pointer w.Ptr = true
is_pointer w.FnPtr = true
is_pointer _ = false

-- arithmetic and pointer types are scalar (6.2.5p21)
abbrev pub is_scalar : Word → Bool
is_scalar w.Int = true
is_scalar w.Ptr = true
is_scalar w.FnPtr = true
is_scalar _ = false

-- void alone comprises no value (6.2.5p19)
abbrev pub has_values : Word → Bool
has_values w.Void = false
has_values _ = true

-- an array stands as a pointer to its first element, where its value is asked (6.3.2.1p3)
abbrev pub decayed_word : Word → Word
decayed_word w.Array = w.Ptr
decayed_word w = w
