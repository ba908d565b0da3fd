-- Types and their specifiers, structs and enums: what is read is spelled by a tree of its shape.
use Rattle.std.proofs.Common.{◌≡◌, ℕ, ◌+◌, Bool, true, false, List, [], ◌∷◌, ◌++◌, IsTrue, codes, if◌then◌else◌, refl, sym, ap, subst, ◌∙◌, append_assoc, append-nil, arith, Option, Some, None}
use Rattle.c_tree.specs.Marks.{Tokens, name_token, mark}
use Rattle.c_tree.specs.TypeWords.{is_one_type, is_among, words_of, type_words}
use Rattle.c_tree.specs.declared.type_word.TypeWord.{TypeWord}
use Rattle.c_tree.specs.declared.type_word.TypeWord.TheVariants as tw
use Rattle.c_tree.specs.ExpressionShape.{HasEnumerator, ShapeSpecifier}
use Rattle.c_tree.specs.Tree.{Name, Specifiers, specifiers, Specifier, type_name, Enumerators, no_enumerators, enumerator, enumerator_with}
use Rattle.c_grammar.specs.declared.kind.Kind.{Kind}
use Rattle.c_grammar.specs.declared.kind.Kind.TheVariants as k
use Rattle.c_grammar.specs.Kind.{kind, token_of, IsReal}
use Rattle.c_grammar.specs.Body.{done, stop, spend, call}
use Rattle.c_grammar.specs.Rules.{NameEnvironment, Reads, a_type, all_specifiers, a_struct, all_members, more_members, an_enum, all_enumerators, more_enumerators, start_of, begins_type, ends_type, with_word, naming, barred, specifiers_by, struct_body_by, struct_by, more_members_by, enum_body_by, enum_by, enumerator_by, next_enumerator_by, more_enumerators_by, rule, qualifier_of, keyword_of, type_word}
use Rattle.c_grammar.specs.declared.start.Start.{Start}
use Rattle.c_grammar.specs.declared.start.Start.TheVariants as sp
use Rattle.c_grammar.specs.Gauge.{free}
use Rattle.c_grammar.proofs.Conditions.{Property, Goes, go_done, go_stop, go_look, go_spend, go_call, go_if, go_take, go_expect, go_a_name}
use Rattle.c_grammar.proofs.KindLemmas.{kind_name, among_neither}
use Rattle.c_grammar.proofs.Onto.{onto_enumerators, onto_more_enumerators, onto_specifier}
use Rattle.c_grammar.proofs.Keeps.{Keeps, KeepsOn}

-- the next token may make a name necessary
pub go_naming : {Post : Property (Unit {0})} {A : Type 0} {Q : A → Tokens → Unit {0} → Type 0} {ts : Tokens} {f : Reads A} (b : Bool) (d : ℕ) →
    Goes (Unit {0}) free Post A f Q ts tt → Goes (Unit {0}) free Post A (naming b d f) Q ts tt
go_naming true d h = go_spend (λ _ _. h)
go_naming false d h = h

-- the token of this kind is the specifier, whose words are these
abbrev Spells : NameEnvironment → Specifier → List TypeWord → Kind → Type 0
Spells t x ws e = IsReal e × ((n : Name) (us : Tokens) → token_of e n ∷ us ≡ onto_specifier x us) × (words_of x ≡ ws) × ShapeSpecifier t.types x

-- the kind of the token that specifiers begin with
abbrev Starts : NameEnvironment → Option Start → Kind → Type 0
Starts t None e = Unit {0}
Starts t (Some (sp.Qualifier x)) e = Spells t (qualifier_of x) [] e
Starts t (Some (sp.Keyword x)) e = Spells t (keyword_of x) (type_word x ∷ []) e
Starts t (Some sp.TypeName) e = e ≡ k.TypeName
Starts t (Some sp.Struct) e = e ≡ k.Struct
Starts t (Some sp.Enum) e = e ≡ k.Enum

starts : (t : NameEnvironment) (e : Kind) → Starts t (start_of e) e
starts t k.Const = (tt, (λ n us. refl), refl, tt)
starts t k.Volatile = (tt, (λ n us. refl), refl, tt)
starts t k.Void = (tt, (λ n us. refl), refl, tt)
starts t k.Char = (tt, (λ n us. refl), refl, tt)
starts t k.Short = (tt, (λ n us. refl), refl, tt)
starts t k.Int = (tt, (λ n us. refl), refl, tt)
starts t k.Long = (tt, (λ n us. refl), refl, tt)
starts t k.Signed = (tt, (λ n us. refl), refl, tt)
starts t k.Unsigned = (tt, (λ n us. refl), refl, tt)
starts t k.TypeName = refl
starts t k.Struct = refl
starts t k.Enum = refl
starts t _ = tt

types_among : (types : List Name) (n : Name) (us : Tokens) (test : Bool) → is_among types n ≡ test → kind types (name_token n ∷ us) ≡ k.TypeName → is_among types n ≡ true
types_among types n us true e is = e
types_among types n us false e is = absurd (cc (kind_name types n us e))

ends : (t : NameEnvironment) (d : ℕ) (b : Bool) (ws : List TypeWord) (ts : Tokens) → Keeps (all_specifiers t d b ws) (ends_type ws) ts
ends t d b ws ts = go_if {b = is_one_type ws} (λ on. go_done (refl, tt, rw append-nil on)) (λ off. go_stop)

with-word : (t : NameEnvironment) (d : ℕ) (b : Bool) (ws : List TypeWord) (w : TypeWord) (f : Reads Specifiers) (ts : Tokens) → Keeps (all_specifiers t d b ws) f ts → Keeps (all_specifiers t d b ws) (with_word ws w f) ts
with-word t d b ws w f ts h = go_if {b = is_one_type (ws ++ w ∷ [])} (λ on. h) (λ off. ends t d b ws ts)

-- the words of the specifiers behind one go on with its own
behind : (ws vs : List TypeWord) (x : Specifier) (xs : Specifiers) → words_of x ≡ vs → IsTrue (is_one_type ((ws ++ vs) ++ type_words xs)) → IsTrue (is_one_type (ws ++ type_words (specifiers x xs)))
behind ws vs x xs e h = subst (λ us. IsTrue (is_one_type us)) (append_assoc ws vs (type_words xs) ∙ ap (λ us. ws ++ (us ++ type_words xs)) (sym e)) h

specifiers-by : (t : NameEnvironment) (d : ℕ) (b : Bool) (ws : List TypeWord) (ts : Tokens) (e : Kind) (i : Option Start) → kind t.types ts ≡ e → Starts t i e → Keeps (all_specifiers t d b ws) (specifiers_by t d b ws i) ts
specifiers-by t d b ws ts e None is st = ends t d b ws ts
specifiers-by t d b ws ts e (Some (sp.Qualifier x)) is st = go_take t.types e is st.0 (λ n us at. go_call (λ xs vs _ p.
    go_done (rw (at, p.0) (st.1 _ _), (st.3, p.1), behind ws [] (qualifier_of x) xs st.2 (rw append-nil p.2))))
specifiers-by t d b ws ts e (Some (sp.Keyword x)) is st = with-word t d b ws (type_word x) _ ts (go_naming b d (go_take t.types e is st.0 (λ n us at. go_call (λ xs vs _ p.
    go_done (rw (at, p.0) (st.1 _ _), (st.3, p.1), behind ws (type_word x ∷ []) (keyword_of x) xs st.2 p.2)))))
specifiers-by t d b ws ts e (Some sp.TypeName) is st = with-word t d b ws tw.Whole _ ts (go_naming b d (go_take t.types k.TypeName (is ∙ st) tt (λ n us at. go_call (λ xs vs _ p.
    go_done (rw (at, p.0) refl, (types_among t.types n us (is_among t.types n) refl (rw at at (is ∙ st)), p.1), behind ws (tw.Whole ∷ []) (type_name n) xs refl p.2)))))
specifiers-by t d b ws ts e (Some sp.Struct) is st = with-word t d b ws tw.Whole _ ts (go_take t.types k.Struct (is ∙ st) tt (λ n us at. go_call (λ x vs _ o. go_call (λ xs os _ p.
    go_done (rw (at, ← p.0) o.0, (o.1, p.1), behind ws (tw.Whole ∷ []) x xs o.2 p.2)))))
specifiers-by t d b ws ts e (Some sp.Enum) is st = with-word t d b ws tw.Whole _ ts (go_take t.types k.Enum (is ∙ st) tt (λ n us at. go_call (λ x vs _ o. go_call (λ xs os _ p.
    go_done (rw (at, ← p.0) o.0, (o.1, p.1), behind ws (tw.Whole ∷ []) x xs o.2 p.2)))))

-- specifiers behind those of some words
pub all_specifiers-sound : (t : NameEnvironment) (d : ℕ) (b : Bool) (ws : List TypeWord) (ts : Tokens) → Keeps (all_specifiers t d b ws) (rule (all_specifiers t d b ws)) ts
all_specifiers-sound t d b ws ts = go_look (λ e is. specifiers-by t d b ws ts e (start_of e) is (starts t e))

-- a type
pub a_type-sound : (t : NameEnvironment) (d : ℕ) (ts : Tokens) → Keeps (a_type t d) (rule (a_type t d)) ts
a_type-sound t d ts = go_call (λ ws us _ p. go_call (λ x vs _ q. go_done (rw (p.0, q.0) refl, (p.2, p.1, q.1))))

struct-body : (t : NameEnvironment) (d : ℕ) (n : Name) (ts us : Tokens) (e : Kind) → kind [] us ≡ e → ts ≡ name_token n ∷ us → KeepsOn (a_struct t d) (struct_body_by t d n e) ts us
struct-body t d n ts us k.OpenBrace is at = go_spend (λ _ _. go_take [] k.OpenBrace is tt (λ m vs opening. go_call (λ ms ws _ p. go_done (rw (at, opening, p.0) refl, (p.1, p.2), refl))))
struct-body t d n ts us _ is at = go_done (rw at refl, tt, refl)

struct-by : (t : NameEnvironment) (d : ℕ) (ts : Tokens) (e : Kind) → kind [] ts ≡ e → Keeps (a_struct t d) (struct_by t d e) ts
struct-by t d ts k.Name is = go_take [] k.Name is tt (λ n us at. go_look (λ e next. struct-body t d n ts us e next at))
struct-by t d ts k.OpenBrace is = go_spend (λ _ _. go_take [] k.OpenBrace is tt (λ n us at. go_call (λ ms vs _ p. go_done (rw (at, p.0) refl, (p.1, p.2), refl))))
struct-by t d ts _ is = go_stop

-- a struct, behind the word
pub a_struct-sound : (t : NameEnvironment) (d : ℕ) (ts : Tokens) → Keeps (a_struct t d) (rule (a_struct t d)) ts
a_struct-sound t d ts = go_look (λ e is. struct-by t d ts e is)

-- the members of a struct
pub all_members-sound : (t : NameEnvironment) (d : ℕ) (ts : Tokens) → Keeps (all_members t d) (rule (all_members t d)) ts
all_members-sound t d ts = go_call (λ ws us _ p. go_call (λ cs vs _ q. go_expect k.Semicolon tt (λ n os semicolon. go_call (λ ms rs _ o.
    go_done (rw (p.0, q.0, semicolon, o.0) refl, tt, (p.2, p.1, q.1, q.2, o.1))))))

members-on : (t : NameEnvironment) (d : ℕ) (ts : Tokens) (e : Kind) → Keeps (more_members t d) (if begins_type e then spend 1 (d + 1) (call (all_members t d) done) else stop) ts
members-on t d ts e = go_if {b = begins_type e} (λ on. go_spend (λ _ _. go_call (λ ms us _ p. go_done (p.0, p.2)))) (λ off. go_stop)

members-by : (t : NameEnvironment) (d : ℕ) (ts : Tokens) (e : Kind) → kind t.types ts ≡ e → Keeps (more_members t d) (more_members_by t d e) ts
members-by t d ts k.CloseBrace is = go_take t.types k.CloseBrace is tt (λ n us at. go_done (at, tt))
members-by t d ts e is = members-on t d ts e

-- more members
pub more_members-sound : (t : NameEnvironment) (d : ℕ) (ts : Tokens) → Keeps (more_members t d) (rule (more_members t d)) ts
more_members-sound t d ts = go_look (λ e is. members-by t d ts e is)

enum-body : (t : NameEnvironment) (d : ℕ) (n : Name) (ts us : Tokens) (e : Kind) → kind [] us ≡ e → ts ≡ name_token n ∷ us → KeepsOn (an_enum t d) (enum_body_by t d n e) ts us
enum-body t d n ts us k.OpenBrace is at = go_spend (λ _ _. go_take [] k.OpenBrace is tt (λ m vs opening. go_call (λ es ws _ p. go_done (rw (at, opening, p.0) refl, (p.1, p.2), refl))))
enum-body t d n ts us _ is at = go_done (rw at refl, tt, refl)

enum-by : (t : NameEnvironment) (d : ℕ) (ts : Tokens) (e : Kind) → kind [] ts ≡ e → Keeps (an_enum t d) (enum_by t d e) ts
enum-by t d ts k.Name is = go_take [] k.Name is tt (λ n us at. go_look (λ e next. enum-body t d n ts us e next at))
enum-by t d ts k.OpenBrace is = go_spend (λ _ _. go_take [] k.OpenBrace is tt (λ n us at. go_call (λ es vs _ p. go_done (rw (at, p.0) refl, (p.1, p.2), refl))))
enum-by t d ts _ is = go_stop

-- an enum, behind the word
pub an_enum-sound : (t : NameEnvironment) (d : ℕ) (ts : Tokens) → Keeps (an_enum t d) (rule (an_enum t d)) ts
an_enum-sound t d ts = go_look (λ e is. enum-by t d ts e is)

enumerator-alone : (t : NameEnvironment) (d : ℕ) (n : Name) (ts us : Tokens) → is_among t.types n ≡ false → ts ≡ name_token n ∷ us → KeepsOn (all_enumerators t d) (enumerator_by t d n k.Nothing) ts us
enumerator-alone t d n ts us ordinary at = go_call (λ es vs _ p. go_done (rw (at, p.0) refl, tt, (ordinary, p.1)))

enumerator-by : (t : NameEnvironment) (d : ℕ) (n : Name) (ts us : Tokens) (e : Kind) → kind [] us ≡ e → is_among t.types n ≡ false → ts ≡ name_token n ∷ us → KeepsOn (all_enumerators t d) (enumerator_by t d n e) ts us
enumerator-by t d n ts us k.Assign is ordinary at = go_spend (λ _ _. go_take [] k.Assign is tt (λ m vs set. go_call (λ x ws _ p. go_call (λ es os _ q.
    go_done (let read = p (omega arith) in (rw (at, set, read.0, q.0) refl, tt, (ordinary, read.2, read.1, q.1)))))))
enumerator-by t d n ts us _ is ordinary at = enumerator-alone t d n ts us ordinary at

-- the enumerators of an enum
pub all_enumerators-sound : (t : NameEnvironment) (d : ℕ) (ts : Tokens) → Keeps (all_enumerators t d) (rule (all_enumerators t d)) ts
all_enumerators-sound t d ts = go_a_name (λ n us at new. go_look (λ e is. enumerator-by t d n ts us e is (among_neither t.reserved t.types n new).1 at))

-- enumerators behind a comma
after_comma : (es : Enumerators) (r : Tokens) → HasEnumerator es → mark (codes ",") ∷ onto_enumerators es r ≡ onto_more_enumerators es r
after_comma no_enumerators r h = absurd h
after_comma (enumerator n es) r h = refl
after_comma (enumerator_with n x es) r h = refl

next-by : (t : NameEnvironment) (d : ℕ) (ts us : Tokens) (e : Kind) → kind (barred t) us ≡ e → ts ≡ mark (codes ",") ∷ us → KeepsOn (more_enumerators t d) (next_enumerator_by t d e) ts us
next-by t d ts us k.CloseBrace is at = go_take (barred t) k.CloseBrace is tt (λ n vs close. go_done (rw (at, close) refl, tt))
next-by t d ts us k.Name is at = go_spend (λ _ _. go_call (λ es vs _ p. go_done (rw (at, p.0) (after_comma es.0 _ p.1), p.2)))
next-by t d ts us _ is at = go_stop

more_enumerators-by : (t : NameEnvironment) (d : ℕ) (ts : Tokens) (e : Kind) → kind [] ts ≡ e → Keeps (more_enumerators t d) (more_enumerators_by t d e) ts
more_enumerators-by t d ts k.CloseBrace is = go_take [] k.CloseBrace is tt (λ n us at. go_done (at, tt))
more_enumerators-by t d ts k.Comma is = go_take [] k.Comma is tt (λ n us at. go_look (λ e next. next-by t d ts us e next at))
more_enumerators-by t d ts _ is = go_stop

-- more enumerators
pub more_enumerators-sound : (t : NameEnvironment) (d : ℕ) (ts : Tokens) → Keeps (more_enumerators t d) (rule (more_enumerators t d)) ts
more_enumerators-sound t d ts = go_look (λ e is. more_enumerators-by t d ts e is)
