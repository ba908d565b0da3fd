-- Declarators and parameters are made of what was read behind their names.
use Rattle.std.proofs.Common.{◌≡◌, ℕ, ◌+◌, false, [], List, map, Result as Res, Ok, Err, refl, sym, ap, ◌∙◌, subst}
use Rattle.c_tree.specs.declared.tree.SpecWord.{SpecWord}
use Rattle.c_tree.specs.declared.tree.Declarator.{Declarator}
use Rattle.c_tree.specs.declared.tree.Parameter.{Parameter as Written}
use Rattle.c_tree.specs.Tree.{Name, Quals, Stars, Specifiers, DeclaratorTree, pointer, bare_pointer, named_form, bare_form}
use Rattle.c_tree.specs.View.{view_specifier, view_declarator, view_parameter, specifiers_of}
use Rattle.c_grammar.specs.declared.kind.Kind.{Kind}
use Rattle.c_grammar.specs.declared.kind.Kind.TheVariants as k
use Rattle.c_grammar.specs.declared.refusal.Refusal.{Refusal}
use Rattle.c_grammar.specs.declared.refusal.Refusal.TheVariants.{Syntax, Large, NoMemory}
use Rattle.c_grammar.specs.Kind.{kind, head_text}
use Rattle.c_grammar.specs.Body.{take, look, Outcome, got, refused, exceeded, Reader}
use Rattle.c_grammar.specs.Gauge.{Meter}
use Rattle.c_grammar.specs.Input.{Input, next}
use Rattle.c_grammar.specs.Gives.{Gives, Fails}
use Rattle.c_grammar.specs.Rules.{NameEnvironment, Reads, barred, pointed, declared_by, parameter_by, parameter_name_by, parameter_pointer_by}
use Rattle.c_grammar.specs.Lists.{mapped}
use Rattle.c_grammar.specs.Performing.{perform}
use Rattle.c_grammar.proofs.Joining.{last, Joins, join_rise, join_spend, join_skip, join_call, join_expect}
use Rattle.type_parser.specs.DeclaratorParts as declarators
use Rattle.type_parser.specs.DeclaratorParts.{behind_bare, bare_pointer_from}
use Rattle.type_parser.specs.ParameterList.{named, named_pointer, behind_pointer, Declaring}

abbrev ends : {A : Type 0} → A → Reader Meter A
ends a us m = got a us m

join_take : {A B C : Type 0} {g : B → C} {go : C → Reader Meter A} {j : Input} {f : Name → Reads A} {h : Name → Reads B} → ((n : Name) → Joins g go (f n) (h n) (next j)) → Joins g go (take f) (take h) j
join_take {j = j} same = record { is = (same (head_text j.rest)).is }

pub pointed_joined : (t : NameEnvironment) (d : ℕ) (ss : Stars) (qs : Quals) (n : Name) (i : Input) →
    perform (pointed t d ss qs n) i ≡ mapped (λ p. pointer ss qs n p.0 p.1.0 p.1.1) (perform (declarators.behind_pointer t d) i)
pointed_joined t d ss qs n i =
    let h : Joins (λ p. pointer ss qs n p.0 p.1.0 p.1.1) ends (pointed t d ss qs n) (declarators.behind_pointer t d) i =
    join_call (λ xs us m. join_expect k.CloseParen (join_expect k.OpenParen (join_call (λ ps vs o. record { is = refl })))) in
    h.is ∙ last _

pub bare_joined : (t : NameEnvironment) (d : ℕ) (ss : Stars) (i : Input) →
    perform (bare_pointer_from t d ss) i ≡ mapped (λ p. bare_pointer ss p.0 p.1.0 p.1.1) (perform (behind_bare t d) i)
bare_joined t d ss i =
    let h : Joins (λ p. bare_pointer ss p.0 p.1.0 p.1.1) ends (bare_pointer_from t d ss) (behind_bare t d) i =
    join_expect k.Star (join_call (λ qs us m. join_expect k.CloseParen (join_expect k.OpenParen (join_call (λ ps vs o. record { is = refl }))))) in
    h.is ∙ last _

pub bare_parameter_joined : (t : NameEnvironment) (d : ℕ) (ws : Specifiers) (ss : Stars) (qs : Quals) (i : Input) →
    perform (parameter_pointer_by t d ws ss qs k.CloseParen) i ≡ mapped (λ ps. (ws, bare_form (bare_pointer ss qs ps.0 ps.1))) (perform (behind_pointer t d) i)
bare_parameter_joined t d ws ss qs i =
    let h : Joins (λ ps. (ws, bare_form (bare_pointer ss qs ps.0 ps.1))) ends (parameter_pointer_by t d ws ss qs k.CloseParen) (behind_pointer t d) i =
    join_skip (join_expect k.OpenParen (join_call (λ ps us m. record { is = refl }))) in
    h.is ∙ last _

-- ---- a parameter with a name

name_by : (t : NameEnvironment) (d : ℕ) (ws : Specifiers) (ss : Stars) (n : Name) (x : Kind) (j : Input) →
    Joins (λ y. (ws, named_form y)) ends (parameter_name_by t d ws ss n x) (declared_by t (d + 1) false ss n x) j
name_by t d ws ss n k.OpenBracket j = join_call (λ xs us m. record { is = refl })
name_by t d ws ss n k.OpenParen j = record { is = refl }
name_by t d ws ss n _ j = record { is = refl }

named_joined : (t : NameEnvironment) (d : ℕ) (ws : Specifiers) (ss : Stars) (i : Input) → perform (parameter_by t d ws ss k.Name) i ≡ mapped (λ x. (ws, named_form x)) (perform (named t d ss) i)
named_joined t d ws ss i =
    let h : Joins (λ x. (ws, named_form x)) ends (parameter_by t d ws ss k.Name) (named t d ss) i =
    join_rise (λ m. join_spend (λ p. join_take (λ n. record { is = (name_by t d ws ss n (kind [] _) _).is }))) in
    h.is ∙ last _

pointer_joined : (t : NameEnvironment) (d : ℕ) (ws : Specifiers) (ss : Stars) (qs : Quals) (i : Input) →
    perform (parameter_pointer_by t d ws ss qs k.Name) i ≡ mapped (λ x. (ws, named_form x)) (perform (named_pointer t d ss qs) i)
pointer_joined t d ws ss qs i =
    let h : Joins (λ x. (ws, named_form x)) ends (parameter_pointer_by t d ws ss qs k.Name) (named_pointer t d ss qs) i =
    join_rise (λ m. join_spend (λ p. join_take (λ n. join_call (λ xs us q. join_expect k.CloseParen (join_expect k.OpenParen (join_call (λ ps vs o. record { is = refl }))))))) in
    h.is ∙ last _

fails_mapped : {A B : Type 0} (g : A → B) (o : Outcome Meter A) (e : Refusal) → Fails o e → Fails (mapped g o) e
fails_mapped g (got a ts m) (Syntax n) h = record { says = h.says }
fails_mapped g (got a ts m) (Large n) h = record { says = h.says }
fails_mapped g (got a ts m) NoMemory h = record { says = tt }
fails_mapped g (refused ts) e h = record { says = h.says }
fails_mapped g (exceeded ts) e h = record { says = h.says }

-- what was read of the declarator was read of the parameter
declaring_gives : (ws : List SpecWord) (out : Outcome Meter DeclaratorTree) (r : Res Declarator Refusal) (q : Res Written Refusal) (j : Input) → Gives view_declarator out r j → Declaring ws r q →
    Gives view_parameter (mapped (λ x. (specifiers_of (map view_specifier ws), named_form x)) out) q j
declaring_gives ws out (Ok x) (Ok p) j h is = ap (mapped (λ x. (specifiers_of (map view_specifier ws), named_form x))) h ∙ ap (λ z. got z j.rest j.meter) (sym is)
declaring_gives ws out (Err e) (Err f) j h is = fails_mapped _ out f (subst (λ z. Fails out z) (sym is) h)
declaring_gives ws out (Ok x) (Err f) j h is = absurd is
declaring_gives ws out (Err e) (Ok p) j h is = absurd is

pub name_gives : (t : NameEnvironment) (d : ℕ) (ws : List SpecWord) (ss : Stars) (i j : Input) (r : Res Declarator Refusal) (q : Res Written Refusal) → kind (barred t) i.rest ≡ k.Name →
    Gives view_declarator (perform (named t d ss) i) r j → Declaring ws r q →
    Gives view_parameter (perform (look (barred t) (parameter_by t d (specifiers_of (map view_specifier ws)) ss)) i) q j
name_gives t d ws ss i j r q is h said =
    subst (λ o. Gives view_parameter o q j)
    (sym (ap (λ x. perform (parameter_by t d (specifiers_of (map view_specifier ws)) ss x) i) is ∙ named_joined t d (specifiers_of (map view_specifier ws)) ss i))
    (declaring_gives ws (perform (named t d ss) i) r q j h said)

pub pointer_gives : (t : NameEnvironment) (d : ℕ) (ws : List SpecWord) (ss : Stars) (qs : Quals) (i j : Input) (r : Res Declarator Refusal) (q : Res Written Refusal) → kind (barred t) i.rest ≡ k.Name →
    Gives view_declarator (perform (named_pointer t d ss qs) i) r j → Declaring ws r q →
    Gives view_parameter (perform (look (barred t) (parameter_pointer_by t d (specifiers_of (map view_specifier ws)) ss qs)) i) q j
pointer_gives t d ws ss qs i j r q is h said =
    subst (λ o. Gives view_parameter o q j)
    (sym (ap (λ x. perform (parameter_pointer_by t d (specifiers_of (map view_specifier ws)) ss qs x) i) is ∙ pointer_joined t d (specifiers_of (map view_specifier ws)) ss qs i))
    (declaring_gives ws (perform (named_pointer t d ss qs) i) r q j h said)
