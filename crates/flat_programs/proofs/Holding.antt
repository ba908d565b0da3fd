-- Facts of what an Option holds.
use Rattle.std.proofs.Common.{◌≡◌, Bool, true, false, cond, Option, Some, None, refl, subst}
use Rattle.std.specs.Option.{option_map, option_and_then}

abbrev pub Holds : {A : Type 0} → (A → Type 0) → Option A → Type 0
Holds P None = Unit {0}
Holds P (Some x) = P x

pub then_holds : {A B : Type 0} (Q : A → Type 0) (P : B → Type 0) (f : A → Option B) (o : Option A) → Holds Q o → ((x : A) → Q x → Holds P (f x)) → Holds P (option_and_then f o)
then_holds Q P f None held onward = tt
then_holds Q P f (Some x) held onward = onward x held

pub map_holds : {A B : Type 0} (Q : A → Type 0) (P : B → Type 0) (f : A → B) (o : Option A) → Holds Q o → ((x : A) → Q x → P (f x)) → Holds P (option_map f o)
map_holds Q P f None held onward = tt
map_holds Q P f (Some x) held onward = onward x held

pub weaken : {A : Type 0} (Q P : A → Type 0) (o : Option A) → Holds Q o → ((x : A) → Q x → P x) → Holds P o
weaken Q P None held onward = tt
weaken Q P (Some x) held onward = onward x held

pub held_at : {A : Type 0} (P : A → Type 0) (o : Option A) (x : A) → Holds P o → o ≡ Some x → P x
held_at P o x held is = subst (λ (v : Option _). Holds P v) is held

choose_by : {A : Type 0} (P : A → Type 0) (b t : Bool) (x : A) (o : Option A) → b ≡ t → (b ≡ true → P x) → Holds P o → Holds P (cond t (Some x) o)
choose_by P b true x o is here later = here is
choose_by P b false x o is here later = later

-- the first of several choices, or a later one
pub choose : {A : Type 0} (P : A → Type 0) (b : Bool) (x : A) (o : Option A) → (b ≡ true → P x) → Holds P o → Holds P (cond b (Some x) o)
choose P b x o here later = choose_by P b b x o refl here later
