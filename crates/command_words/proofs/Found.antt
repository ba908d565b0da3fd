-- From what `clap` says of its matches to what is found in their rows.
use Rattle.std.proofs.Common.{◌≡◌, ◌∙◌, refl, sym, subst, ap, List, [], ◌∷◌, Option, Some, None, Bool, true, false, unwrap_or, inl, inr}
use Rattle.std.specs.Option.{option_map_or}
use Rattle.clap.specs.Words.{App, HasKind, Kinds, Row, Text, fault_of, is_simple, is_simple_and_free, kind_of, matches_of}
use Rattle.clap.specs.declared.error.Error.{Error}
use Rattle.clap.specs.declared.error.kind.ErrorKind.TheVariants.{OutOfMemory}
use Rattle.clap.proofs.OnLiterals.{clap_on_literals}
use Rattle.command_words.specs.Command.{command_app}
use Rattle.command_words.specs.Given.{found_in}
use Rattle.command_words.specs.Jobs.{Asked}
use Rattle.command_words.specs.Table.{job_of}
use Rattle.command_words.specs.Words.{asked, unless_refused}

pub some_names : (o : Option (List Text)) (names : List Text) → Some names ≡ o → names ≡ unwrap_or o []
some_names o names is = ap (λ p. unwrap_or p []) is

pub no_names : (o : Option (List Text)) → None ≡ o → [] ≡ unwrap_or o []
no_names o is = ap (λ p. unwrap_or p []) is

pub some_flag : (o : Option Text) (f : Text → Bool) (value : Text) → Some value ≡ o → f value ≡ option_map_or f o false
some_flag o f value is = ap (λ p. option_map_or f p false) is

pub no_flag : (o : Option Text) (f : Text → Bool) → None ≡ o → false ≡ option_map_or f o false
no_flag o f is = ap (λ p. option_map_or f p false) is

-- ---- what the words ask for

simple : is_simple command_app ≡ true
unfolding clap_on_literals
simple = refl

simple_and_free : is_simple_and_free command_app ≡ true
unfolding clap_on_literals
simple_and_free = refl

of_rows : (app : App) (words : List Text) (rows : List Row) (job : Option Asked) → app ≡ command_app → job ≡ job_of (found_in rows) → rows ≡ matches_of app words
    → fault_of app words ≡ [] → job ≡ asked words
unfolding asked
of_rows app words rows job is finds has none =
    finds ∙ ap (λ found. job_of (found_in found)) (has ∙ ap (λ a. matches_of a words) is)
    ∙ ap (λ kinds. unless_refused kinds (job_of (found_in (matches_of command_app words)))) (sym none ∙ ap (λ a. fault_of a words) is)

-- words that `clap` takes ask for the job of what it finds
pub asked_taken : {X : Type 0} (app : App) (words : List Text) (rows : List Row) (job : Option Asked) → app ≡ command_app → job ≡ job_of (found_in rows)
    → (is_simple app ≡ true → (rows ≡ matches_of app words) × X) → (is_simple_and_free app ≡ true → fault_of app words ≡ []) → job ≡ asked words
asked_taken app words rows job is finds has none =
    of_rows app words rows job is finds (has (ap is_simple is ∙ simple)).0 (none (ap is_simple_and_free is ∙ simple_and_free))

some_kind : (kinds : Kinds) (e : Error) (job : Option Asked) → (kind_of e ≡ OutOfMemory → ⊥) → HasKind kinds e → None ≡ unless_refused kinds job
some_kind [] e job not_memory (inl memory) = absurd (not_memory memory)
some_kind [] e job not_memory (inr none) = absurd none
some_kind (kind ∷ kinds) e job not_memory has = refl

-- words that it refuses ask for no job
pub asked_refused : (app : App) (words : List Text) (e : Error) → app ≡ command_app → (kind_of e ≡ OutOfMemory → ⊥)
    → (is_simple_and_free app ≡ true → HasKind (fault_of app words) e) → None ≡ asked words
unfolding asked
asked_refused app words e is not_memory has =
    some_kind (fault_of command_app words) e (job_of (found_in (matches_of command_app words))) not_memory
    (subst (λ a. HasKind (fault_of a words) e) is (has (ap is_simple_and_free is ∙ simple_and_free)))
