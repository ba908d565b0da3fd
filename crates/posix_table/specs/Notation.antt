-- How the profile is written: a line has a signature, as "(i,r,i,i?) i", and the names of the functions that have it.
use Rattle.std.specs.Prelude.{ℕ, zero, suc, ◌-◌, ◌==◌, Bool, false, ◌&&◌, ◌||◌, is_some, cond, List, [], ◌∷◌, Option, None, Some, length, codes, map, unwrap_or}
use Rattle.std.specs.List.{filter_map, count_by, list_all, list_any}
use Rattle.std.specs.Str.{bytes_eq}
use Rattle.posix_table.specs.declared.kind.Param.{Param}
use Rattle.posix_table.specs.declared.kind.Param.TheVariants as param
use Rattle.posix_table.specs.declared.kind.ResultKind.{ResultKind}
use Rattle.posix_table.specs.declared.kind.ResultKind.TheVariants as result
use Rattle.posix_table.specs.declared.kind.Effect.{Effect}
use Rattle.posix_table.specs.declared.kind.Effect.TheVariants as effect
use Rattle.posix_table.specs.declared.row.Row.{Row}

-- the value beside the first key that passes
abbrev pub beside : {K X : Type 0} → (K → Bool) → List K → List X → Option X
beside test [] xs = None
beside test (k ∷ ks) [] = None
beside test (k ∷ ks) (x ∷ xs) = cond (test k) (Some x) (beside test ks xs)

-- a byte before the words of a text, where a blank begins a word
abbrev pub before_words : ℕ → List (List ℕ) → List (List ℕ)
before_words byte [] = (byte ∷ []) ∷ []
before_words byte (word ∷ words) = cond (byte == 32) ([] ∷ word ∷ words) ((byte ∷ word) ∷ words)

-- the words of a text, between single blanks
abbrev pub words : List ℕ → List (List ℕ)
words [] = [] ∷ []
words (byte ∷ bytes) = before_words byte (words bytes)

-- the word at a place, or no byte
abbrev pub word_at : ℕ → List (List ℕ) → List ℕ
word_at place [] = []
word_at zero (word ∷ words) = word
word_at (suc place) (word ∷ words) = word_at place words

-- the parameter of a letter
abbrev pub param_of : ℕ → Option Param
param_of letter = beside (λ known. known == letter) (codes "irwbckx0STABHPQy*")
    (param.Int ∷ param.Read ∷ param.Write ∷ param.Both ∷ param.Copied ∷ param.Kernel ∷ param.Kept ∷ param.Null ∷ param.SetIn ∷ param.SetOut
    ∷ param.ActionIn ∷ param.ActionOut ∷ param.HandlerFn ∷ param.ThreadFn ∷ param.ForkFn ∷ param.Either ∷ param.More ∷ [])

-- the words of the results, in the order of the kinds below
abbrev pub result_words : List (List ℕ)
result_words = words (codes "i v ! 1 n g h")

-- the words of the effects, likewise
abbrev pub effect_words : List (List ℕ)
effect_words = words (codes "fork split pure wait fill exec empty full any add del mask install endp thread atfork")

-- the result of a word of one letter
abbrev pub result_of : List ℕ → ResultKind
result_of word = unwrap_or (beside (λ known. bytes_eq known word) result_words
    (result.Int ∷ result.Nothing ∷ result.Never ∷ result.First ∷ result.Fresh ∷ result.Own ∷ result.OldHandler ∷ [])) result.Nothing

-- the effect of a word; without a word there is none
abbrev pub effect_of : List ℕ → Effect
effect_of word = unwrap_or (beside (λ known. bytes_eq known word) effect_words
    (effect.Fork ∷ effect.Split ∷ effect.Pure ∷ effect.Wait ∷ effect.Fill ∷ effect.Exec ∷ effect.Empty ∷ effect.Full ∷ effect.Any ∷ effect.Add ∷ effect.Del
    ∷ effect.Mask ∷ effect.Install ∷ effect.Endp ∷ effect.Thread ∷ effect.Atfork ∷ [])) effect.Plain

-- the arguments that must be given: each letter but those before a question mark, and not the star
abbrev pub fewest_of : List ℕ → ℕ
fewest_of letters = length (filter_map param_of letters) - count_by (λ byte. byte == 63) letters - count_by (λ byte. byte == 42) letters

-- the arguments that may be given, without a limit where a star stands
abbrev pub most_of : List ℕ → Option ℕ
most_of letters = cond (count_by (λ byte. byte == 42) letters == 0) (Some (length (filter_map param_of letters))) None

-- the row of a name, from the words of its signature
abbrev pub row_of : Bool → List (List ℕ) → List ℕ → Row
row_of safe signature name = record {
  name = name;
  safe = safe;
  fewest = fewest_of (word_at 0 signature);
  most = most_of (word_at 0 signature);
  parameters = filter_map param_of (word_at 0 signature);
  result = result_of (word_at 1 signature);
  effect = effect_of (word_at 2 signature);
}

-- the rows of a line's names
abbrev pub rows_of : Bool → List ℕ × List ℕ → List Row
rows_of safe line = map (row_of safe (words line.0)) (words line.1)

-- ---- known words

-- a letter of a parameter, or one of the marks "(),?"
abbrev pub is_known_byte : ℕ → Bool
is_known_byte byte = is_some (param_of byte) || list_any (λ mark. mark == byte) (codes "(),?")

abbrev pub is_one_of : List (List ℕ) → List ℕ → Bool
is_one_of known word = list_any (bytes_eq word) known

-- Each word of a signature is known: the parameters by their letters and marks, the result, and the effect where there is one.
abbrev pub is_known_signature : List (List ℕ) → Bool
is_known_signature (parameters ∷ result ∷ []) = list_all is_known_byte parameters && is_one_of result_words result
is_known_signature (parameters ∷ result ∷ effect ∷ []) =
    list_all is_known_byte parameters && (is_one_of result_words result && is_one_of effect_words effect)
is_known_signature _ = false
