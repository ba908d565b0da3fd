-- The words that specify a type, one by one.
use Rattle.std.specs.Prelude.{◌≡◌, ℕ, List, [], ◌∷◌, ◌++◌, Bool, true, false, ◌&&◌, Option, Some, None}
use Rattle.c_tree.specs.Tree as c
use Rattle.c_tree.specs.TypeWords.{is_one_type}
use Rattle.c_tree.specs.declared.type_word.TypeWord.{TypeWord}
use Rattle.c_tree.specs.declared.type_word.TypeWord.TheVariants as tw
use Rattle.c_grammar.specs.declared.start.Start.{Start}
use Rattle.c_grammar.specs.declared.start.Start.TheVariants as sp
use Rattle.c_grammar.specs.Body.{done, take}
use Rattle.c_grammar.specs.Body as body
use Rattle.c_grammar.specs.Rules.{NameEnvironment, Reads, skip, naming, is_start, qualifier_of, keyword_of, type_word, a_struct, an_enum}

-- the words name a type by themselves, and no integer type that other words go on
abbrev pub is_alone : List TypeWord → Bool
is_alone (tw.Void ∷ []) = true
is_alone (tw.Char ∷ []) = true
is_alone (tw.Whole ∷ []) = true
is_alone (tw.Signed ∷ tw.Char ∷ []) = true
is_alone (tw.Unsigned ∷ tw.Char ∷ []) = true
is_alone _ = false

-- the word of the type that a specifier is
abbrev pub word_of : Option Start → Option TypeWord
word_of None = None
word_of (Some (sp.Qualifier x)) = None
word_of (Some (sp.Keyword x)) = Some (type_word x)
word_of (Some sp.TypeName) = Some tw.Whole
word_of (Some sp.Struct) = Some tw.Whole
word_of (Some sp.Enum) = Some tw.Whole

-- it may stand behind these words
abbrev pub follows : List TypeWord → Option TypeWord → Bool
follows ws None = true
follows ws (Some x) = is_one_type (ws ++ x ∷ [])

-- these words and then it
abbrev pub behind : List TypeWord → Option TypeWord → List TypeWord
behind ws None = ws
behind ws (Some x) = ws ++ x ∷ []

-- a word was added to those before it, unless it may not follow them
abbrev pub Adds : List TypeWord → Option TypeWord → Bool → List TypeWord → Type 0
Adds old x true new = (follows old x ≡ true) × (new ≡ behind old x)
Adds old x false new = (follows old x ≡ false) × (new ≡ old)

-- the specifiers go on with it
abbrev pub goes_on : List TypeWord → Option Start → Bool
goes_on ws f = is_start f && follows ws (word_of f)

-- a specifier goes on with these words, and its own becomes the last of them
pub record Follows (f : Option Start) (old : List TypeWord) (x : Start) (new : List TypeWord) : Type 0 where
  pub start : f ≡ Some x
  pub goes : goes_on old f ≡ true
  pub added : new ≡ behind old (word_of f)

-- none does
pub record Ends (f : Option Start) (old new : List TypeWord) : Type 0 where
  pub ends : goes_on old f ≡ false
  pub same : new ≡ old

abbrev pub Goes : Option Start → List TypeWord → Option Start → List TypeWord → Type 0
Goes f old (Some x) new = Follows f old x new
Goes f old None new = Ends f old new

-- behind a qualifier it is still to be counted that a name has to follow
abbrev pub stays : Bool → Start → Bool
stays b (sp.Qualifier x) = b
stays b _ = false

-- one specifier
abbrev pub a_specifier : NameEnvironment → ℕ → Bool → Start → Reads c.Specifier
a_specifier t d b (sp.Qualifier x) = skip (done (qualifier_of x))
a_specifier t d b (sp.Keyword x) = naming b d (skip (done (keyword_of x)))
a_specifier t d b sp.TypeName = naming b d (take (λ n. done (c.type_name n)))
a_specifier t d b sp.Struct = skip (body.call (a_struct t d) done)
a_specifier t d b sp.Enum = skip (body.call (an_enum t d) done)
