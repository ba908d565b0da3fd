-- How a step refers to objects, and which references a handler may not make (C11 7.14.1.1p5, 5.1.2.3p5).
use Rattle.std.specs.Prelude.{ℕ, List, [], ◌∷◌, ◌++◌, Option, Some, None, Bool, true, false, ◌||◌, ◌&&◌, not}
use Rattle.base_core.specs.declared.rules.Rules.{Rules}
use Rattle.base_core.specs.declared.rules.Rules.TheVariants as profile
use Rattle.posix_table.specs.declared.kind.Param.{Param}
use Rattle.posix_table.specs.declared.kind.Param.TheVariants as letter
use Rattle.posix_table.specs.declared.kind.Effect.{Effect}
use Rattle.posix_table.specs.declared.kind.Effect.TheVariants as effect
use Rattle.run_model.specs.Values.{Ptr, Value, Scalar, At}
use Rattle.run_model.specs.Objects.{Object}
use Rattle.run_model.specs.Code.{Code, Origin, OfVariable, OfText, OfArrival, CallOf, Library, Action, Read, Assign, Change, Into}
use Rattle.run_model.specs.World.{Shared}
use Rattle.run_model.specs.Places.{Env, Local, designated}
use Rattle.run_model.specs.Arguments.{Given, givens}

-- how an object is referred to. Taking its address is no reference
pub data Reference : Type 0 where
  IsRead IsAssigned IsUpdated LibraryReads LibraryWrites : Reference

abbrev pub changes_set : Effect → Bool
changes_set effect.Add = true
changes_set effect.Del = true
changes_set _ = false

-- the library reads behind an argument of this letter, and writes behind it
abbrev pub is_read : Effect → Param → Bool
is_read e letter.Read = true
is_read e letter.Copied = true
is_read e letter.SetIn = true
is_read e letter.ActionIn = true
is_read e letter.Both = true
is_read e letter.SetOut = changes_set e
is_read e _ = false

abbrev pub is_written : Param → Bool
is_written letter.Write = true
is_written letter.Both = true
is_written letter.SetOut = true
is_written letter.ActionOut = true
is_written _ = false

abbrev pub only : Bool → ℕ → Reference → List (ℕ × Reference)
only true o r = (o, r) ∷ []
only false o r = []

abbrev pub object_of : Option Value → Reference → List (ℕ × Reference)
object_of (Some (At o part)) r = (o, r) ∷ []
object_of _ r = []

abbrev pub behind_argument : Effect → Param → Value → List (ℕ × Reference)
behind_argument e l (Scalar (Ptr o)) = only (is_read e l) o LibraryReads ++ only (is_written l) o LibraryWrites
behind_argument e l _ = []

abbrev pub by_arguments : Effect → List Given → List (ℕ × Reference)
by_arguments e [] = []
by_arguments e (g ∷ gs) = behind_argument e g.letter g.value ++ by_arguments e gs

abbrev pub by_call : CallOf → Local → List (ℕ × Reference)
by_call (Library call) l = by_arguments call.row.effect (givens call l.vals)
by_call _ l = []

-- the objects that a step refers to: a library function its arguments' on the step into In0
abbrev pub references : Code → Env → Local → Action → List (ℕ × Reference)
references code env l (Read n) = object_of (designated code env l n) IsRead
references code env l (Assign n t b) = object_of (Some (l.vals t)) IsAssigned
references code env l (Change n t op b old) = object_of (Some (l.vals t)) IsUpdated
references code env l (Into n) = by_call (code.call n) l
references code env l _ = []

-- ---- outer objects

abbrev pub is_of_arrival : Origin → Bool
is_of_arrival (OfArrival f) = true
is_of_arrival _ = false

-- of static storage, of main's arguments, or made while its thread ran no handler; not the arrival's own
abbrev pub is_outer : Object → Bool
is_outer x = not (is_of_arrival x.origin) && not x.inside

abbrev pub is_text : Origin → Bool
is_text (OfText n) = true
is_text _ = false

abbrev pub is_constant : Code → Origin → Bool
is_constant code (OfVariable v) = (code.variable v).constant
is_constant code _ = false

-- declared volatile sig_atomic_t
abbrev pub is_flag : Code → Origin → Bool
is_flag code (OfVariable v) = (code.variable v).flag
is_flag code _ = false

abbrev pub is_strict : Rules → Bool
is_strict profile.Strict = true
is_strict _ = false

-- what is forbidden on an outer object. Strictly: all but assignment to a flag and reads of string literals. Else also reads and updates of
-- flags are allowed, reads of const objects, and reads of what wasn't written while the process was handled
abbrev pub forbids : (strict : Bool) → Code → Origin → (stirred : Bool) → Reference → Bool
forbids false code origin stirred IsRead = not (is_text origin) && not (is_flag code origin) && not (is_constant code origin) && stirred
forbids false code origin stirred LibraryReads = not (is_text origin) && not (is_flag code origin) && not (is_constant code origin) && stirred
forbids true code origin stirred IsRead = not (is_text origin)
forbids true code origin stirred LibraryReads = not (is_text origin)
forbids strict code origin stirred IsAssigned = not (is_flag code origin)
forbids false code origin stirred IsUpdated = not (is_flag code origin)
forbids true code origin stirred IsUpdated = true
forbids strict code origin stirred LibraryWrites = true

abbrev pub forbids_object : Rules → Code → Shared → Option Object → ℕ → Reference → Bool
forbids_object rules code s None o r = false
forbids_object rules code s (Some x) o r = is_outer x && forbids (is_strict rules) code x.origin (s.stirred o) r

-- one of these references is forbidden
abbrev pub is_forbidden : Rules → Code → Shared → List (ℕ × Reference) → Bool
is_forbidden rules code s [] = false
is_forbidden rules code s (x ∷ xs) = forbids_object rules code s (s.objects x.0) x.0 x.1 || is_forbidden rules code s xs
