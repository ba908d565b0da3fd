-- The types of C values, as plain data (C11 6.2.5, for what the subset keeps).
use Rattle.std.specs.Prelude.{ℕ, List, [], ◌∷◌, Option, Some, None, Bool}
use Rattle.c_kinds.specs.declared.word.Word.{Word}
use Rattle.c_kinds.specs.declared.word.Word.TheVariants as w

mutual
  -- void (6.2.5p19); an integer with its width and whether it is signed (6.2.5p4, p6); a pointer to an object, and one to a
  -- function with its parameters and its result, and an array with its element (6.2.5p20); a structure by its number, since each
  -- declaration makes a type of its own (6.7.2.3p5); sigset_t; an object of the system's, as FILE and pthread_mutex_t
  pub data Kind : Type 0 where
    void : Kind
    int : ℕ → Bool → Kind
    pointer : Kind → Kind
    function_of : Kinds → Kind → Kind
    array : Kind → Kind
    structure : ℕ → Kind
    signals : Kind
    kernel : Kind

  pub data Kinds : Type 0 where
    no_kinds : Kinds
    kinds : Kind → Kinds → Kinds

abbrev pub kinds_of : List Kind → Kinds
kinds_of [] = no_kinds
kinds_of (k ∷ ks) = kinds k (kinds_of ks)

abbrev pub list_of : Kinds → List Kind
list_of no_kinds = []
list_of (kinds k ks) = k ∷ list_of ks

-- a pointer to a function with these parameters and this result
abbrev pub function : List Kind → Kind → Kind
function ks k = function_of (kinds_of ks) k

-- what a pointer points to, and an array holds
abbrev pub target : Kind → Option Kind
target (pointer k) = Some k
target (array k) = Some k
target _ = None

-- what an array holds in the end, past all of its dimensions: it is complete where this is (6.2.5p20, p22)
abbrev pub innermost : Kind → Kind
innermost (array k) = innermost k
innermost k = k

-- an array stands as a pointer to its first element, where its value is asked (6.3.2.1p3)
abbrev pub decayed : Kind → Kind
decayed (array k) = pointer k
decayed k = k

abbrev pub word : Kind → Word
word void = w.Void
word (int width signed) = w.Int
word (pointer k) = w.Ptr
word (function_of ks k) = w.FnPtr
word (array k) = w.Array
word (structure n) = w.Struct
word signals = w.Set
word kernel = w.Kernel

abbrev pub words : Kinds → List Word
words no_kinds = []
words (kinds k ks) = word k ∷ words ks
