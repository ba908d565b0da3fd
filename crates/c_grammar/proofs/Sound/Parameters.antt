-- Parameters, and what stands for a declarator in a type: what is read is spelled by a tree of its shape.
use Rattle.std.proofs.Common.{◌≡◌, ℕ, Bool, false, [], ◌∷◌, codes, refl}
use Rattle.c_tree.specs.Marks.{Tokens, name_token, mark}
use Rattle.c_tree.specs.TypeWords.{is_among, NamesType}
use Rattle.c_tree.specs.ExpressionShape.{FitsWord, IsNotVoid, ShapeSpecifiers, ShapeParameters}
use Rattle.c_tree.specs.Tree.{Name, Quals, Stars, Specifiers, specifiers, no_specifiers, void_word, Parameters, no_parameters, parameters, bare_form, bare_stars}
use Rattle.c_grammar.specs.declared.kind.Kind.{Kind}
use Rattle.c_grammar.specs.declared.kind.Kind.TheVariants as k
use Rattle.c_grammar.specs.Kind.{kind}
use Rattle.c_grammar.specs.Rules.{NameEnvironment, barred, all_parameters, some_parameters, more_parameters, a_parameter, a_bare, listed_parameters, parameters_by, more_parameters_by, parameter_name_by, parameter_pointer_by, parameter_by, bare_by, rule}
use Rattle.c_grammar.proofs.Conditions.{go_done, go_stop, go_look, go_spend, go_rise, go_call, go_scope, go_take, go_name, go_expect}
use Rattle.c_grammar.proofs.KindLemmas.{among_neither}
use Rattle.c_grammar.proofs.Onto.{onto_specifiers, onto_stars, onto_quals, onto_parameters, onto_more_parameters}
use Rattle.c_grammar.proofs.Read.{HasParameter}
use Rattle.c_grammar.proofs.Keeps.{Keeps, KeepsOn}

-- parameters behind a comma
after_comma : (ps : Parameters) (r : Tokens) → HasParameter ps → mark (codes ",") ∷ onto_parameters ps false r ≡ onto_more_parameters ps r
after_comma no_parameters r h = absurd h
after_comma (parameters ws f ps) r h = refl

-- the parameters of a function, of which the one word void is the empty list
abbrev Listed : NameEnvironment → Parameters → Parameters × Bool → Type 0
Listed t ps qs = ((r : Tokens) → onto_parameters ps false r ≡ onto_parameters qs.0 qs.1 r) × FitsWord qs.1 qs.0 × IsNotVoid qs.0 × ShapeParameters t.types qs.0

listed : (t : NameEnvironment) (ps : Parameters) → ShapeParameters t.types ps → Listed t ps (listed_parameters ps)
listed t (parameters (specifiers void_word no_specifiers) (bare_form (bare_stars [])) no_parameters) h = ((λ r. refl), tt, tt, tt)
listed t _ h = ((λ r. refl), tt, tt, h)

some : (t : NameEnvironment) (d : ℕ) (ts : Tokens) → Keeps (all_parameters t d) (parameters_by t d k.Nothing) ts
some t d ts = go_call (λ ps us _ p. go_done (let h = listed t ps p.2 in (rw p.0 (h.0 _), h.1, h.2, h.3)))

parameters-by : (t : NameEnvironment) (d : ℕ) (ts : Tokens) (e : Kind) → kind t.types ts ≡ e → Keeps (all_parameters t d) (parameters_by t d e) ts
parameters-by t d ts k.CloseParen is = go_take t.types k.CloseParen is tt (λ n us at. go_done (at, tt, tt, tt))
parameters-by t d ts _ is = some t d ts

-- the parameters of a function
pub all_parameters-sound : (t : NameEnvironment) (d : ℕ) (ts : Tokens) → Keeps (all_parameters t d) (rule (all_parameters t d)) ts
all_parameters-sound t d ts = go_look (λ e is. parameters-by t d ts e is)

-- a parameter and those behind it
pub some_parameters-sound : (t : NameEnvironment) (d : ℕ) (ts : Tokens) → Keeps (some_parameters t d) (rule (some_parameters t d)) ts
some_parameters-sound t d ts = go_scope (λ x us _ p. go_call (λ ps vs _ q. go_done (rw (p.0, q.0) refl, tt, (p.1, p.2, p.3, q.1))))

more_parameters-by : (t : NameEnvironment) (d : ℕ) (ts : Tokens) (e : Kind) → kind [] ts ≡ e → Keeps (more_parameters t d) (more_parameters_by t d e) ts
more_parameters-by t d ts k.CloseParen is = go_take [] k.CloseParen is tt (λ n us at. go_done (at, tt))
more_parameters-by t d ts k.Comma is = go_take [] k.Comma is tt (λ n us at. go_call (λ ps vs _ p. go_done (rw (at, p.0) (after_comma ps _ p.1), p.2)))
more_parameters-by t d ts _ is = go_stop

-- more parameters
pub more_parameters-sound : (t : NameEnvironment) (d : ℕ) (ts : Tokens) → Keeps (more_parameters t d) (rule (more_parameters t d)) ts
more_parameters-sound t d ts = go_look (λ e is. more_parameters-by t d ts e is)

-- the specifiers of a parameter stand before this
record Stands (t : NameEnvironment) (ws : Specifiers) (ts us : Tokens) : Type 0 where
  is_before : ts ≡ onto_specifiers ws us
  names : NamesType ws
  shape : ShapeSpecifiers t.types ws

name-by : (t : NameEnvironment) (d : ℕ) (ws : Specifiers) (ss : Stars) (n : Name) (ts us vs : Tokens) (e : Kind) → kind [] vs ≡ e → Stands t ws ts us → us ≡ onto_stars ss (name_token n ∷ vs) →
    is_among t.types n ≡ false → KeepsOn (a_parameter t d) (parameter_name_by t d ws ss n e) ts vs
name-by t d ws ss n ts us vs k.OpenBracket is st at ordinary = go_call (λ xs os _ p. go_done (rw (st.is_before, at, p.0) refl, st.names, st.shape, (tt, (ordinary, p.2 is, p.1))))
name-by t d ws ss n ts us vs _ is st at ordinary = go_done (rw (st.is_before, at) refl, st.names, st.shape, (tt, ordinary))

pointer-by : (t : NameEnvironment) (d : ℕ) (ws : Specifiers) (ss : Stars) (qs : Quals) (ts us vs : Tokens) (e : Kind) → kind (barred t) vs ≡ e → Stands t ws ts us →
    us ≡ onto_stars ss (mark (codes "(") ∷ mark (codes "*") ∷ onto_quals qs vs) → KeepsOn (a_parameter t d) (parameter_pointer_by t d ws ss qs e) ts vs
pointer-by t d ws ss qs ts us vs k.Name is st at = go_rise (λ _ _. go_spend (λ _ _. go_name (barred t) is (λ n os named new. go_call (λ xs rs _ p.
    go_expect k.CloseParen tt (λ m bs close. go_expect k.OpenParen tt (λ i cs opening. go_call (λ ps fs _ q.
    go_done (rw (st.is_before, at, named, p.0, close, opening, q.0) refl, st.names, st.shape, (tt, ((among_neither t.reserved t.types n new).1, p.2, p.1, q.1, q.2, q.3))))))))))
pointer-by t d ws ss qs ts us vs k.CloseParen is st at = go_take (barred t) k.CloseParen is tt (λ n os close. go_expect k.OpenParen tt (λ m rs opening. go_call (λ ps cs _ q.
    go_done (rw (st.is_before, at, close, opening, q.0) refl, st.names, st.shape, (q.1, q.2, q.3)))))
pointer-by t d ws ss qs ts us vs _ is st at = go_stop

parameter-by : (t : NameEnvironment) (d : ℕ) (ws : Specifiers) (ss : Stars) (ts us vs : Tokens) (e : Kind) → kind (barred t) vs ≡ e → Stands t ws ts us → us ≡ onto_stars ss vs →
    KeepsOn (a_parameter t d) (parameter_by t d ws ss e) ts vs
parameter-by t d ws ss ts us vs k.Name is st at = go_rise (λ _ _. go_spend (λ _ _. go_name (barred t) is (λ n os named new.
    go_look (λ e next. name-by t d ws ss n ts us os e next st (rw (at, named) refl) (among_neither t.reserved t.types n new).1))))
parameter-by t d ws ss ts us vs k.OpenParen is st at = go_take (barred t) k.OpenParen is tt (λ n os opening. go_expect k.Star tt (λ m rs star. go_call (λ qs cs _ p.
    go_look (λ e next. pointer-by t d ws ss qs ts us cs e next st (rw (at, opening, star, p) refl)))))
parameter-by t d ws ss ts us vs _ is st at = go_done (rw (st.is_before, at) refl, st.names, st.shape, tt)

-- a parameter
pub a_parameter-sound : (t : NameEnvironment) (d : ℕ) (ts : Tokens) → Keeps (a_parameter t d) (rule (a_parameter t d)) ts
a_parameter-sound t d ts = go_call (λ ws us _ p. go_call (λ ss vs _ q. go_look (λ e is. parameter-by t d ws ss ts us vs e is (record { is_before = p.0; names = p.2; shape = p.1 }) q)))

bare-by : (t : NameEnvironment) (d : ℕ) (ss : Stars) (ts us : Tokens) (e : Kind) → kind [] us ≡ e → ts ≡ onto_stars ss us → KeepsOn (a_bare t d) (bare_by t d ss e) ts us
bare-by t d ss ts us k.OpenParen is at = go_take [] k.OpenParen is tt (λ n vs opening. go_expect k.Star tt (λ m ws star. go_call (λ qs os _ p.
    go_expect k.CloseParen tt (λ i rs close. go_expect k.OpenParen tt (λ j bs again. go_call (λ ps cs _ q.
    go_done (rw (at, opening, star, p, close, again, q.0) refl, (q.1, q.2, q.3))))))))
bare-by t d ss ts us _ is at = go_done (at, tt)

-- what stands for a declarator in a type
pub a_bare-sound : (t : NameEnvironment) (d : ℕ) (ts : Tokens) → Keeps (a_bare t d) (rule (a_bare t d)) ts
a_bare-sound t d ts = go_call (λ ss us _ p. go_look (λ e is. bare-by t d ss ts us e is p))
