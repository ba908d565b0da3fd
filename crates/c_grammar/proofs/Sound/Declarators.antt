-- Declarators, their stars and sizes: what is read is spelled by a tree of its shape.
use Rattle.std.proofs.Common.{◌≡◌, ℕ, Bool, false, [], ◌∷◌, codes, refl, arith}
use Rattle.c_tree.specs.Marks.{Tokens, name_token, mark}
use Rattle.c_tree.specs.TypeWords.{is_among, IsOrdinary}
use Rattle.c_tree.specs.DeclaredNames.{declarator_name}
use Rattle.c_tree.specs.ExpressionShape.{IsNoFunction, ShapeDeclarator}
use Rattle.c_tree.specs.Tree.{Name, Stars, DeclaratorTree, pointer}
use Rattle.c_grammar.specs.declared.kind.Kind.{Kind}
use Rattle.c_grammar.specs.declared.kind.Kind.TheVariants as k
use Rattle.c_grammar.specs.Kind.{kind}
use Rattle.c_grammar.specs.Gauge.{free}
use Rattle.c_grammar.specs.Rules.{NameEnvironment, barred, inside, all_declarators, more_declarators, all_stars, all_quals, a_declarator, all_sizes, at_most_one_size, more_declarators_by, stars_by, quals_by, declared_by, declarator_by, size_by, sizes_by, one_size_by, at_most_one_by, rule}
use Rattle.c_grammar.proofs.Conditions.{Goes, go_done, go_stop, go_look, go_spend, go_call, go_if, go_take, go_name, go_expect, go_a_name}
use Rattle.c_grammar.proofs.KindLemmas.{among_neither}
use Rattle.c_grammar.proofs.Onto.{onto_declarator, onto_stars}
use Rattle.c_grammar.proofs.Read.{Read}
use Rattle.c_grammar.proofs.Keeps.{Keeps, KeepsOn}

-- the declarators of a member
pub all_declarators-sound : (t : NameEnvironment) (d : ℕ) (ts : Tokens) → Keeps (all_declarators t d) (rule (all_declarators t d)) ts
all_declarators-sound t d ts = go_call (λ c us _ p. go_call (λ cs vs _ q. go_done (rw (p.0, q.0) refl, tt, (p.2 refl, p.1, q.1))))

more_declarators-by : (t : NameEnvironment) (d : ℕ) (ts : Tokens) (e : Kind) → kind [] ts ≡ e → Keeps (more_declarators t d) (more_declarators_by t d e) ts
more_declarators-by t d ts k.Comma is = go_spend (λ _ _. go_take [] k.Comma is tt (λ n us at. go_call (λ c vs _ p. go_call (λ cs ws _ q. go_done (rw (at, p.0, q.0) refl, (p.2 refl, p.1, q.1))))))
more_declarators-by t d ts _ is = go_done (refl, tt)

-- more declarators of a member
pub more_declarators-sound : (t : NameEnvironment) (d : ℕ) (ts : Tokens) → Keeps (more_declarators t d) (rule (more_declarators t d)) ts
more_declarators-sound t d ts = go_look (λ e is. more_declarators-by t d ts e is)

stars-by : (ts : Tokens) (e : Kind) → kind [] ts ≡ e → Keeps all_stars (stars_by e) ts
stars-by ts k.Star is = go_take [] k.Star is tt (λ n us at. go_call (λ qs vs _ p. go_call (λ ss ws _ q. go_done (rw (at, p, q) refl))))
stars-by ts _ is = go_done refl

-- the stars of a declarator
pub all_stars-sound : (ts : Tokens) → Keeps all_stars (rule all_stars) ts
all_stars-sound ts = go_look (λ e is. stars-by ts e is)

quals-by : (ts : Tokens) (e : Kind) → kind [] ts ≡ e → Keeps all_quals (quals_by e) ts
quals-by ts k.Const is = go_take [] k.Const is tt (λ n us at. go_call (λ qs vs _ p. go_done (rw (at, p) refl)))
quals-by ts k.Volatile is = go_take [] k.Volatile is tt (λ n us at. go_call (λ qs vs _ p. go_done (rw (at, p) refl)))
quals-by ts _ is = go_done refl

-- the qualifiers behind a star
pub all_quals-sound : (ts : Tokens) → Keeps all_quals (rule all_quals) ts
all_quals-sound ts = go_look (λ e is. quals-by ts e is)

module _ {Q : DeclaratorTree → Tokens → Unit {0} → Type 0} where
  -- a declarator of a pointer to a function, behind its stars
  pub pointer-goes : (t : NameEnvironment) (d : ℕ) (f y : Bool) (ss : Stars) (ts us : Tokens) → kind (barred t) us ≡ k.OpenParen → ts ≡ onto_stars ss us →
      ((c : DeclaratorTree) (vs : Tokens) → ts ≡ onto_declarator c vs → ShapeDeclarator t.types c → IsNoFunction c → IsOrdinary t.reserved (declarator_name c) → Q c vs tt) →
      Goes (Unit {0}) free Read DeclaratorTree (declarator_by t d f y ss k.OpenParen) Q us tt
  pointer-goes t d f y ss ts us is at h = go_take (barred t) k.OpenParen is tt (λ m vs opening. go_expect k.Star tt (λ l ws star. go_call (λ qs os _ p. go_a_name (λ n rs named new.
      let fresh = among_neither t.reserved t.types n new in
      go_call (λ xs bs _ q. go_expect k.CloseParen tt (λ i cs close. go_expect k.OpenParen tt (λ j fs again. go_call (λ ps hs _ o.
      go_done (h (pointer ss qs n xs ps.0 ps.1) hs (rw (at, opening, star, p, named, q.0, close, again, o.0) refl) (fresh.1, q.2, q.1, o.1, o.2, o.3) tt fresh.0)))))))))

declared-by : (t : NameEnvironment) (d : ℕ) (f y : Bool) (ss : Stars) (n : Name) (ts vs : Tokens) (e : Kind) → kind [] vs ≡ e → ts ≡ onto_stars ss (name_token n ∷ vs) →
    is_among t.types n ≡ false → is_among t.reserved n ≡ false → KeepsOn (a_declarator t d f y) (declared_by (inside y n t) d f ss n e) ts vs
declared-by t d f y ss n ts vs k.OpenBracket is at ordinary other = go_call (λ xs ws _ p. go_done (rw (at, p.0) refl, (ordinary, p.2 is, p.1), (λ _. tt), other))
declared-by t d f y ss n ts vs k.OpenParen is at ordinary other = go_if {b = f}
    (λ on. go_take [] k.OpenParen is tt (λ m ws opening. go_call (λ ps os _ p. go_done (rw (at, opening, p.0) refl, (ordinary, p.1, p.2, p.3), (λ off. absurd (cc)), other))))
    (λ off. go_done (at, ordinary, (λ _. tt), other))
declared-by t d f y ss n ts vs _ is at ordinary other = go_done (at, ordinary, (λ _. tt), other)

declarator-by : (t : NameEnvironment) (d : ℕ) (f y : Bool) (ss : Stars) (ts us : Tokens) (e : Kind) → kind (barred t) us ≡ e → ts ≡ onto_stars ss us →
    KeepsOn (a_declarator t d f y) (declarator_by t d f y ss e) ts us
declarator-by t d f y ss ts us k.Name is at = go_name (barred t) is (λ n vs named new.
    let fresh = among_neither t.reserved t.types n new in
    go_look (λ e next. declared-by t d f y ss n ts vs e next (rw (at, named) refl) fresh.1 fresh.0))
declarator-by t d f y ss ts us k.OpenParen is at = pointer-goes t d f y ss ts us is at (λ c vs spelled shaped none fresh. (spelled, shaped, (λ _. none), fresh))
declarator-by t d f y ss ts us _ is at = go_stop

-- a declarator
pub a_declarator-sound : (t : NameEnvironment) (d : ℕ) (f y : Bool) (ts : Tokens) → Keeps (a_declarator t d f y) (rule (a_declarator t d f y)) ts
a_declarator-sound t d f y ts = go_call (λ ss us _ p. go_look (λ e is. declarator-by t d f y ss ts us e is p))

sized : (t : NameEnvironment) (d : ℕ) (ts us : Tokens) → ts ≡ mark (codes "[") ∷ us → KeepsOn (all_sizes t d) (size_by t d k.Nothing) ts us
sized t d ts us at = go_call (λ x vs _ p. go_expect k.CloseBracket tt (λ n ws close. go_call (λ xs os _ q.
    go_done (let read = p (omega arith) in (rw (at, read.0, close, q.0) refl, (read.2, read.1, q.1), (λ _. tt))))))

size-by : (t : NameEnvironment) (d : ℕ) (ts us : Tokens) (e : Kind) → kind t.types us ≡ e → ts ≡ mark (codes "[") ∷ us → KeepsOn (all_sizes t d) (size_by t d e) ts us
size-by t d ts us k.CloseBracket is at = go_take t.types k.CloseBracket is tt (λ n vs close. go_call (λ xs ws _ p. go_done (rw (at, close, p.0) refl, p.1, (λ _. tt))))
size-by t d ts us _ is at = sized t d ts us at

sizes-by : (t : NameEnvironment) (d : ℕ) (ts : Tokens) (e : Kind) → kind [] ts ≡ e → Keeps (all_sizes t d) (sizes_by t d e) ts
sizes-by t d ts k.OpenBracket is = go_take [] k.OpenBracket is tt (λ n us at. go_look (λ e next. size-by t d ts us e next at))
sizes-by t d ts _ is = go_done (refl, tt, (λ same. absurd (cc)))

-- the sizes of a declarator
pub all_sizes-sound : (t : NameEnvironment) (d : ℕ) (ts : Tokens) → Keeps (all_sizes t d) (rule (all_sizes t d)) ts
all_sizes-sound t d ts = go_look (λ e is. sizes-by t d ts e is)

sized-once : (t : NameEnvironment) (d : ℕ) (ts us : Tokens) → ts ≡ mark (codes "[") ∷ us → KeepsOn (at_most_one_size t d) (one_size_by t d k.Nothing) ts us
sized-once t d ts us at = go_call (λ x vs _ p. go_expect k.CloseBracket tt (λ n ws close.
    go_done (let read = p (omega arith) in (rw (at, read.0, close) refl, (read.2, read.1, tt), tt))))

one_size-by : (t : NameEnvironment) (d : ℕ) (ts us : Tokens) (e : Kind) → kind t.types us ≡ e → ts ≡ mark (codes "[") ∷ us → KeepsOn (at_most_one_size t d) (one_size_by t d e) ts us
one_size-by t d ts us k.CloseBracket is at = go_take t.types k.CloseBracket is tt (λ n vs close. go_done (rw (at, close) refl, tt, tt))
one_size-by t d ts us _ is at = sized-once t d ts us at

at_most_one-by : (t : NameEnvironment) (d : ℕ) (ts : Tokens) (e : Kind) → kind [] ts ≡ e → Keeps (at_most_one_size t d) (at_most_one_by t d e) ts
at_most_one-by t d ts k.OpenBracket is = go_take [] k.OpenBracket is tt (λ n us at. go_look (λ e next. one_size-by t d ts us e next at))
at_most_one-by t d ts _ is = go_done (refl, tt, tt)

-- a size or none
pub at_most_one_size-sound : (t : NameEnvironment) (d : ℕ) (ts : Tokens) → Keeps (at_most_one_size t d) (rule (at_most_one_size t d)) ts
at_most_one_size-sound t d ts = go_look (λ e is. at_most_one-by t d ts e is)
