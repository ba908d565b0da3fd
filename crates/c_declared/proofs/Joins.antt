-- What is said of parts that follow one another, and their faults.
use Rattle.std.proofs.Common.{◌≡◌, List, [], ◌∷◌, ◌++◌, length, Bool, true, false, ◌||◌, ◌&&◌, refl, ap, ◌∙◌}
use Rattle.c_judgements.specs.Parts.{added}
use Rattle.c_judgements.proofs.Grows as grows
use Rattle.c_bindings.specs.Told.{Told}
use Rattle.c_declared.specs.declared.faults.Faults.{Faults}
use Rattle.c_declared.specs.Faults.{no_faults, faults_of_both}

or_assoc : (a b c : Bool) → ((a || b) || c) ≡ (a || (b || c))
or_assoc true b c = refl
or_assoc false b c = refl

or_false : (a : Bool) → (a || false) ≡ a
or_false true = refl
or_false false = refl

pub and_assoc : (a b c : Bool) → ((a && b) && c) ≡ (a && (b && c))
and_assoc true b c = refl
and_assoc false b c = refl

pub and_true : (a : Bool) → (a && true) ≡ a
and_true true = refl
and_true false = refl

abbrev of : Bool → Bool → Bool → Bool → Faults
of a b c d = record { unknown = a; repeated = b; passed = c; incomplete = d }

of_same : (a a' b b' c c' d d' : Bool) → a ≡ a' → b ≡ b' → c ≡ c' → d ≡ d' → of a b c d ≡ of a' b' c' d'
of_same a a' b b' c c' d d' e f g h = ap (λ x. of x b c d) e ∙ (ap (λ x. of a' x c d) f ∙ (ap (λ x. of a' b' x d) g ∙ ap (λ x. of a' b' c' x) h))

pub faults_assoc : (f g h : Faults) → faults_of_both (faults_of_both f g) h ≡ faults_of_both f (faults_of_both g h)
faults_assoc f g h =
    of_same ((f.unknown || g.unknown) || h.unknown) (f.unknown || (g.unknown || h.unknown)) ((f.repeated || g.repeated) || h.repeated) (f.repeated || (g.repeated || h.repeated))
    ((f.passed || g.passed) || h.passed) (f.passed || (g.passed || h.passed)) ((f.incomplete || g.incomplete) || h.incomplete) (f.incomplete || (g.incomplete || h.incomplete))
    (or_assoc f.unknown g.unknown h.unknown) (or_assoc f.repeated g.repeated h.repeated) (or_assoc f.passed g.passed h.passed) (or_assoc f.incomplete g.incomplete h.incomplete)

pub faults_last : (f : Faults) → faults_of_both f no_faults ≡ f
faults_last f =
    of_same (f.unknown || false) f.unknown (f.repeated || false) f.repeated (f.passed || false) f.passed (f.incomplete || false) f.incomplete
    (or_false f.unknown) (or_false f.repeated) (or_false f.passed) (or_false f.incomplete)

pub added_twice : (xs ys : List Told) (ps : List (List Told)) → added ys (added xs ps) ≡ added (xs ++ ys) ps
added_twice xs ys ps = grows.added_twice xs ys ps

pub added_none : (ps : List (List Told)) → added [] ps ≡ ps
added_none ps = grows.added_none ps

pub length_added : (xs : List Told) (ps : List (List Told)) → length (added xs ps) ≡ length ps
length_added xs [] = refl
length_added xs (p ∷ ps) = refl
