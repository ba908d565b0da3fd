-- The rules of initialisers and of declarations inside functions read tokens that a tree of their shape spells.
use Rattle.std.proofs.Common.{◌≡◌, ℕ, ◌+◌, Bool, true, false, cond, [], ◌∷◌, Some, None, refl, sym, ap, subst, ◌∙◌, arith}
use Rattle.std.proofs.lemmas.Bool.{false≢true}
use Rattle.std.specs.Prelude.{codes}
use Rattle.c_tree.specs.declared.tree.Storage.{Storage}
use Rattle.c_tree.specs.declared.tree.Storage.TheVariants as st
use Rattle.c_tree.specs.Marks.{Tokens, mark}
use Rattle.c_tree.specs.TypeWords.{NamesType, has_tag}
use Rattle.c_tree.specs.ExpressionShape.{ShapeSpecifiers, ShapeDeclarator}
use Rattle.c_tree.specs.Shape.{Scope, HasInitializer, ShapeInit, FitsInit, FitsTypedef, IsNoTypedef, behind_specifiers, behind_named}
use Rattle.c_tree.specs.Tree.{Specifiers, DeclaratorTree, function, Initializer, Initializers, no_initializers, initializers, NamedTree, DeclarationTree}
use Rattle.c_grammar.specs.declared.kind.Kind.{Kind}
use Rattle.c_grammar.specs.declared.kind.Kind.TheVariants as k
use Rattle.c_grammar.specs.Kind.{kind}
use Rattle.c_grammar.specs.Body.{stop, done}
use Rattle.c_grammar.specs.Body as body
use Rattle.c_grammar.specs.Gauge.{free}
use Rattle.c_grammar.specs.Rules.{NameEnvironment, Reads, rule, an_initializer, all_initializers, more_initializers, a_declaration, a_declared, a_named, more_named, initializer_by, initializers_by, next_initializer_by, more_initializers_by, declaration_by, declared_names_by, has_initializer, named_init_by, more_named_by, begins_declarator, naming}
use Rattle.c_grammar.proofs.Onto.{onto_initial, onto_initializers, onto_more_initializers, onto_specifiers, onto_storage, onto_declarator}
use Rattle.c_grammar.proofs.Conditions.{Goes, go_done, go_stop, go_look, go_spend, go_call, go_if, go_take, go_expect, go_a_name}
use Rattle.c_grammar.proofs.Read.{Read}
use Rattle.c_grammar.proofs.Keeps.{Keeps, KeepsOn}
use Rattle.c_grammar.proofs.Sound.Types.{go_naming}

-- false is not true
pub never : {A : Type 0} → false ≡ true → A
never e = absurd (false≢true e)

-- ---- initialisers

single-goes : (t : NameEnvironment) (d : ℕ) (o : ℕ) (ts : Tokens) → Keeps (an_initializer t d o) (initializer_by t d o k.Nothing) ts
single-goes t d o ts = go_call (λ x us _ h. let r = h (omega arith) in go_done (r.0, (r.2, r.1)))

initializer-goes : (t : NameEnvironment) (d : ℕ) (o : ℕ) (ts : Tokens) (e : Kind) → kind t.types ts ≡ e → Keeps (an_initializer t d o) (initializer_by t d o e) ts
initializer-goes t d o ts k.OpenBrace is = go_spend (λ y _. go_take t.types k.OpenBrace is tt (λ n us at. go_call (λ ps vs _ h. go_done (cc, (h.1, h.2)))))
initializer-goes t d o ts _ is = single-goes t d o ts

-- The tokens of an initialiser are those that one of its shape spells.
pub an_initializer-sound : (t : NameEnvironment) (d : ℕ) (o : ℕ) (ts : Tokens) → Keeps (an_initializer t d o) (rule (an_initializer t d o)) ts
an_initializer-sound t d o ts = go_look (λ e is. initializer-goes t d o ts e is)

undesignated-goes : (t : NameEnvironment) (d : ℕ) (o : ℕ) (ts : Tokens) → Keeps (all_initializers t d o) (initializers_by t d o k.Nothing) ts
undesignated-goes t d o ts = go_call (λ i us _ h. go_call (λ ps vs _ q. go_done (cc, tt, (tt, h.1, q.1))))

initializers-goes : (t : NameEnvironment) (d : ℕ) (o : ℕ) (ts : Tokens) (e : Kind) → kind [] ts ≡ e → Keeps (all_initializers t d o) (initializers_by t d o e) ts
initializers-goes t d o ts k.Dot is =
    go_spend (λ y _. go_take [] k.Dot is tt (λ n us at. go_a_name (λ m vs here ordinary. go_expect k.Assign tt (λ l ws there. go_call (λ i xs _ h. go_call (λ ps ys _ q.
    go_done (cc, tt, (ordinary, h.1, q.1))))))))
initializers-goes t d o ts _ is = undesignated-goes t d o ts

-- The tokens of a list of initialisers and its closing brace are those that initialisers of their shape spell.
pub all_initializers-sound : (t : NameEnvironment) (d : ℕ) (o : ℕ) (ts : Tokens) → Keeps (all_initializers t d o) (rule (all_initializers t d o)) ts
all_initializers-sound t d o ts = go_look (λ e is. initializers-goes t d o ts e is)

led : (ps : Initializers) (r : Tokens) → HasInitializer ps → onto_more_initializers ps r ≡ mark (codes ",") ∷ onto_initializers ps r
led no_initializers r h = absurd h
led (initializers n i ps) r h = refl

listed-goes : (t : NameEnvironment) (d : ℕ) (ts us : Tokens) → ts ≡ mark (codes ",") ∷ us → KeepsOn (more_initializers t d) (next_initializer_by t d k.Nothing) ts us
listed-goes t d ts us at = go_call (λ ps vs _ h. go_done ((at ∙ ap (λ v. mark (codes ",") ∷ v) h.0) ∙ sym (led ps.0 _ h.1), h.2))

next-goes : (t : NameEnvironment) (d : ℕ) (ts us : Tokens) → ts ≡ mark (codes ",") ∷ us → (e : Kind) → kind t.types us ≡ e → KeepsOn (more_initializers t d) (next_initializer_by t d e) ts us
next-goes t d ts us at k.CloseBrace is = go_take t.types k.CloseBrace is tt (λ n vs here. go_done (cc, tt))
next-goes t d ts us at _ is = listed-goes t d ts us at

more_initializers-goes : (t : NameEnvironment) (d : ℕ) (ts : Tokens) (e : Kind) → kind [] ts ≡ e → Keeps (more_initializers t d) (more_initializers_by t d e) ts
more_initializers-goes t d ts k.CloseBrace is = go_take [] k.CloseBrace is tt (λ n us at. go_done (at, tt))
more_initializers-goes t d ts k.Comma is = go_take [] k.Comma is tt (λ n us at. go_look (λ e next. next-goes t d ts us at e next))
more_initializers-goes t d ts _ is = go_stop

-- The tokens behind an initialiser of a list, with its closing brace, are those that more initialisers of their shape spell.
pub more_initializers-sound : (t : NameEnvironment) (d : ℕ) (ts : Tokens) → Keeps (more_initializers t d) (rule (more_initializers t d)) ts
more_initializers-sound t d ts = go_look (λ e is. more_initializers-goes t d ts e is)

-- ---- declared names

same_types : (c : Storage) (n : NamedTree) (s : Scope) → IsNoTypedef c → (behind_named c n s).types ≡ s.types
same_types st.Typedef n s inner = absurd inner
same_types _ n s inner = refl

-- where no type is declared, no name becomes one
pub fits_typedef : (c : Storage) (x : DeclaratorTree) (s : Scope) → IsNoTypedef c → FitsTypedef c x s
fits_typedef st.Typedef x s inner = absurd inner
fits_typedef _ x s inner = tt

-- where no type is declared, what is no function may have an initialiser
pub fits_init : (c : Storage) (x : DeclaratorTree) (i : Initializer) → IsNoTypedef c → has_initializer x ≡ true → FitsInit c x (Some i)
fits_init st.Typedef x i inner may = absurd inner
fits_init _ (function ss n ps v) i inner may = never may
fits_init _ _ i inner may = tt

module _ {Q : NamedTree → Tokens → Unit {0} → Type 0} where
  -- behind a declarator: with no initialiser, and with one
  pub named_init-goes : (t : NameEnvironment) (d : ℕ) (may : Bool) (x : DeclaratorTree) (us : Tokens) → Q (record { declarator = x; init = None }) us tt →
      ((i : Initializer) (vs : Tokens) → us ≡ onto_initial (Some i) vs → ShapeInit t.types i → may ≡ true → Q (record { declarator = x; init = Some i }) vs tt) →
      (e : Kind) → kind [] us ≡ e → Goes (Unit {0}) free Read NamedTree (named_init_by t d may x e) Q us tt
  named_init-goes t d may x us none some k.Assign is =
      go_if {b = may} (λ yes. go_spend (λ y _. go_take [] k.Assign is tt (λ n vs at. go_call (λ i ws _ h. go_done (some i ws (cc) h.1 yes))))) (λ other. go_stop)
  named_init-goes t d may x us none some _ is = go_done none

-- The tokens of a declared name and its initialiser are those that they spell, of their shape where no type is declared.
pub a_named-sound : (t : NameEnvironment) (d : ℕ) (ts : Tokens) → Keeps (a_named t d) (rule (a_named t d)) ts
a_named-sound t d ts =
    go_call (λ x us _ h. go_look (λ e is. named_init-goes t (d + 1) (has_initializer x) x us
    (h.0, λ c s inner same. (subst (λ u. ShapeDeclarator u x) (sym same) h.1, fits_typedef c x s inner, tt, tt))
    (λ i vs at shaped may. (
      h.0 ∙ ap (λ v. onto_declarator x v) at,
      λ c s inner same. (subst (λ u. ShapeDeclarator u x) (sym same) h.1, fits_typedef c x s inner, fits_init c x i inner may, subst (λ u. ShapeInit u i) (sym same) shaped),
    )) e is))

more_named-goes : (t : NameEnvironment) (d : ℕ) (ts : Tokens) (e : Kind) → kind [] ts ≡ e → Keeps (more_named t d) (more_named_by t d e) ts
more_named-goes t d ts k.Semicolon is = go_take [] k.Semicolon is tt (λ n us at. go_done (at, λ c s inner same. tt))
more_named-goes t d ts k.Comma is =
    go_spend (λ y _. go_take [] k.Comma is tt (λ n us at. go_call (λ x vs _ f. go_call (λ xs ws _ g.
    go_done (cc, λ c s inner same. (f.1 c s inner same, g.1 c (behind_named c x s) inner (same_types c x s inner ∙ same)))))))
more_named-goes t d ts _ is = go_stop

-- The tokens of the names behind the first, with the semicolon, are those that they spell, of their shape where no type is declared.
pub more_named-sound : (t : NameEnvironment) (d : ℕ) (ts : Tokens) → Keeps (more_named t d) (rule (more_named t d)) ts
more_named-sound t d ts = go_look (λ e is. more_named-goes t d ts e is)

-- ---- declarations

others-goes : (t : NameEnvironment) (d : ℕ) (ts : Tokens) → Keeps (a_declaration t d) (declaration_by t d k.Nothing) ts
others-goes t d ts = go_call (λ x us _ h. go_done (h tt))

declaration-goes : (t : NameEnvironment) (d : ℕ) (ts : Tokens) (e : Kind) → kind t.types ts ≡ e → Keeps (a_declaration t d) (declaration_by t d e) ts
declaration-goes t d ts k.Static is = go_take t.types k.Static is tt (λ n us at. go_call (λ x vs _ h. let r = h tt in go_done (at ∙ r.0, r.1)))
declaration-goes t d ts k.Extern is = go_take t.types k.Extern is tt (λ n us at. go_call (λ x vs _ h. let r = h tt in go_done (at ∙ r.0, r.1)))
declaration-goes t d ts _ is = others-goes t d ts

-- The tokens of a declaration inside a function are those that one of its shape spells.
pub a_declaration-sound : (t : NameEnvironment) (d : ℕ) (ts : Tokens) → Keeps (a_declaration t d) (rule (a_declaration t d)) ts
a_declaration-sound t d ts = go_look (λ e is. declaration-goes t d ts e is)

-- at least one name, behind the specifiers
abbrev names : NameEnvironment → ℕ → Storage → Specifiers → Reads DeclarationTree
names t d c ws = naming (has_tag ws) d (body.call (a_named t d) (λ n. body.call (more_named t d) (λ ns. done (record { storage = c; specs = ws; names = n ∷ ns }))))

names-goes : (t : NameEnvironment) (d : ℕ) (c : Storage) (ws : Specifiers) (ts us : Tokens) → ts ≡ onto_specifiers ws us → ShapeSpecifiers t.types ws → NamesType ws →
    (begins : Bool) → KeepsOn (a_declared t d c) (cond begins (names t d c ws) stop) ts us
names-goes t d c ws ts us at shaped named true =
    go_naming (has_tag ws) d (go_call (λ x vs _ f. go_call (λ xs rest _ g. go_done (λ inner.
    let scope : Scope = behind_specifiers ws (record { types = t.types; others = [] }) in
    (ap (λ v. onto_storage c v) (cc), (inner, (named, shaped, (λ none. absurd (cc)), (f.1 c scope inner refl, g.1 c (behind_named c x scope) inner (same_types c x scope inner)))))))))
names-goes t d c ws ts us at shaped named false = go_stop

declared-goes : (t : NameEnvironment) (d : ℕ) (c : Storage) (ws : Specifiers) (ts us : Tokens) → ts ≡ onto_specifiers ws us → ShapeSpecifiers t.types ws → NamesType ws →
    (e : Kind) → kind t.types us ≡ e → KeepsOn (a_declared t d c) (declared_names_by t d c ws e) ts us
declared-goes t d c ws ts us at shaped named k.Semicolon is =
    go_if {b = has_tag ws} (λ tagged. go_take t.types k.Semicolon is tt (λ n vs here. go_done (λ inner. (ap (λ v. onto_storage c v) (cc), (inner, (named, shaped, (λ none. tagged), tt)))))) (λ other. go_stop)
declared-goes t d c ws ts us at shaped named e is = names-goes t d c ws ts us at shaped named (begins_declarator e)

-- The tokens of a declaration inside a function, behind its storage class, are those that one of its shape spells.
pub a_declared-sound : (t : NameEnvironment) (d : ℕ) (c : Storage) (ts : Tokens) → Keeps (a_declared t d c) (rule (a_declared t d c)) ts
a_declared-sound t d c ts = go_call (λ ws us _ h. go_look (λ e is. declared-goes t d c ws ts us h.0 h.1 h.2 e is))
