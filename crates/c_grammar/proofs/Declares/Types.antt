-- Types and their specifiers, structs and enums: none of the names that they declare is reserved.
use Rattle.std.proofs.Common.{◌≡◌, ℕ, ◌+◌, Bool, List, [], ◌∷◌, ◌++◌, if◌then◌else◌, refl, sym, subst, Option, Some, None}
use Rattle.c_tree.specs.DeclaredNames.{declared_specifier, declared_specifiers}
use Rattle.c_tree.specs.Marks.{Tokens}
use Rattle.c_tree.specs.Tree.{Name, Specifiers, Specifier}
use Rattle.c_tree.specs.TypeWords.{is_one_type, IsOrdinary}
use Rattle.c_tree.specs.declared.type_word.TypeWord.{TypeWord}
use Rattle.c_tree.specs.declared.type_word.TypeWord.TheVariants as tw
use Rattle.c_grammar.specs.declared.kind.Kind.{Kind}
use Rattle.c_grammar.specs.declared.kind.Kind.TheVariants as k
use Rattle.c_grammar.specs.Body.{done, stop, spend, call}
use Rattle.c_grammar.specs.Rules.{NameEnvironment, Reads, a_type, all_specifiers, a_struct, all_members, more_members, all_declarators, more_declarators, an_enum, all_enumerators, more_enumerators, start_of, begins_type, ends_type, with_word, specifiers_by, struct_body_by, struct_by, more_members_by, more_declarators_by, enum_body_by, enum_by, enumerator_by, next_enumerator_by, more_enumerators_by, rule, qualifier_of, keyword_of, type_word}
use Rattle.c_grammar.specs.declared.start.Start.{Start}
use Rattle.c_grammar.specs.declared.start.Start.TheVariants as sp
use Rattle.c_grammar.proofs.Avoiding.{Avoids, avoids_none, avoids_both, avoids_more, avoids_declarator}
use Rattle.c_grammar.proofs.Conditions.{go_done, go_stop, go_look, go_spend, go_call, go_if, go_any, go_wanted, go_a_name}
use Rattle.c_grammar.proofs.Declares.Apart.{Apart}
use Rattle.c_grammar.proofs.KindLemmas.{among_neither}
use Rattle.c_grammar.proofs.Sound.Types.{go_naming}

-- ---- specifiers

-- a word declares nothing
abbrev IsBare : Option Start → Type 0
IsBare (Some (sp.Qualifier x)) = declared_specifier (qualifier_of x) ≡ []
IsBare (Some (sp.Keyword x)) = declared_specifier (keyword_of x) ≡ []
IsBare _ = Unit {0}

bare_start : (e : Kind) → IsBare (start_of e)
bare_start k.Const = refl
bare_start k.Volatile = refl
bare_start k.Void = refl
bare_start k.Char = refl
bare_start k.Short = refl
bare_start k.Int = refl
bare_start k.Long = refl
bare_start k.Signed = refl
bare_start k.Unsigned = refl
bare_start _ = tt

behind : (ts : List Name) (x : Specifier) (xs : Specifiers) → declared_specifier x ≡ [] → Avoids ts (declared_specifiers xs) → Avoids ts (declared_specifier x ++ declared_specifiers xs)
behind ts x xs bare h = subst (λ ds. Avoids ts (ds ++ declared_specifiers xs)) (sym bare) h

ends : (t : NameEnvironment) (d : ℕ) (b : Bool) (ws : List TypeWord) (ts : Tokens) → Apart (all_specifiers t d b ws) (ends_type ws) ts
ends t d b ws ts = go_if {b = is_one_type ws} (λ on. go_done (avoids_none t.reserved)) (λ off. go_stop)

with-word : (t : NameEnvironment) (d : ℕ) (b : Bool) (ws : List TypeWord) (w : TypeWord) (f : Reads Specifiers) (ts : Tokens) → Apart (all_specifiers t d b ws) f ts →
    Apart (all_specifiers t d b ws) (with_word ws w f) ts
with-word t d b ws w f ts h = go_if {b = is_one_type (ws ++ w ∷ [])} (λ on. h) (λ off. ends t d b ws ts)

specifiers-by : (t : NameEnvironment) (d : ℕ) (b : Bool) (ws : List TypeWord) (i : Option Start) (ts : Tokens) → IsBare i → Apart (all_specifiers t d b ws) (specifiers_by t d b ws i) ts
specifiers-by t d b ws None ts bare = ends t d b ws ts
specifiers-by t d b ws (Some (sp.Qualifier x)) ts bare = go_any (λ n us. go_call (λ xs vs _ p. go_done (behind t.reserved (qualifier_of x) xs bare p)))
specifiers-by t d b ws (Some (sp.Keyword x)) ts bare = with-word t d b ws (type_word x) _ ts (go_naming b d (go_any (λ n us. go_call (λ xs vs _ p. go_done (behind t.reserved (keyword_of x) xs bare p)))))
specifiers-by t d b ws (Some sp.TypeName) ts bare = with-word t d b ws tw.Whole _ ts (go_naming b d (go_any (λ n us. go_call (λ xs vs _ p. go_done p))))
specifiers-by t d b ws (Some sp.Struct) ts bare = with-word t d b ws tw.Whole _ ts (go_any (λ n us. go_call (λ x vs _ p. go_call (λ xs os _ q. go_done (avoids_both t.reserved _ _ p q)))))
specifiers-by t d b ws (Some sp.Enum) ts bare = with-word t d b ws tw.Whole _ ts (go_any (λ n us. go_call (λ x vs _ p. go_call (λ xs os _ q. go_done (avoids_both t.reserved _ _ p q)))))

-- specifiers behind those of some words
pub all_specifiers-apart : (t : NameEnvironment) (d : ℕ) (b : Bool) (ws : List TypeWord) (ts : Tokens) → Apart (all_specifiers t d b ws) (rule (all_specifiers t d b ws)) ts
all_specifiers-apart t d b ws ts = go_look (λ e is. specifiers-by t d b ws (start_of e) ts (bare_start e))

-- a type
pub a_type-apart : (t : NameEnvironment) (d : ℕ) (ts : Tokens) → Apart (a_type t d) (rule (a_type t d)) ts
a_type-apart t d ts = go_call (λ ws us _ p. go_call (λ x vs _ q. go_done (avoids_both t.reserved _ _ p q)))

-- ---- structs

struct-body : (t : NameEnvironment) (d : ℕ) (n : Name) (e : Kind) (us : Tokens) → Apart (a_struct t d) (struct_body_by t d n e) us
struct-body t d n k.OpenBrace us = go_spend (λ _ _. go_any (λ m vs. go_call (λ ms ws _ p. go_done p)))
struct-body t d n _ us = go_done (avoids_none t.reserved)

struct-by : (t : NameEnvironment) (d : ℕ) (e : Kind) (ts : Tokens) → Apart (a_struct t d) (struct_by t d e) ts
struct-by t d k.Name ts = go_any (λ n us. go_look (λ e is. struct-body t d n e us))
struct-by t d k.OpenBrace ts = go_spend (λ _ _. go_any (λ n us. go_call (λ ms vs _ p. go_done p)))
struct-by t d _ ts = go_stop

-- a struct
pub a_struct-apart : (t : NameEnvironment) (d : ℕ) (ts : Tokens) → Apart (a_struct t d) (rule (a_struct t d)) ts
a_struct-apart t d ts = go_look (λ e is. struct-by t d e ts)

-- the members of a struct
pub all_members-apart : (t : NameEnvironment) (d : ℕ) (ts : Tokens) → Apart (all_members t d) (rule (all_members t d)) ts
all_members-apart t d ts = go_call (λ ws us _ p. go_call (λ cs vs _ q. go_wanted k.Semicolon (λ os. go_call (λ ms rs _ o. go_done (avoids_both t.reserved _ _ p (avoids_both t.reserved _ _ q o))))))

members-on : (t : NameEnvironment) (d : ℕ) (e : Kind) (ts : Tokens) → Apart (more_members t d) (if begins_type e then spend 1 (d + 1) (call (all_members t d) done) else stop) ts
members-on t d e ts = go_if {b = begins_type e} (λ on. go_spend (λ _ _. go_call (λ ms us _ p. go_done p))) (λ off. go_stop)

members-by : (t : NameEnvironment) (d : ℕ) (e : Kind) (ts : Tokens) → Apart (more_members t d) (more_members_by t d e) ts
members-by t d k.CloseBrace ts = go_any (λ n us. go_done (avoids_none t.reserved))
members-by t d e ts = members-on t d e ts

-- more members
pub more_members-apart : (t : NameEnvironment) (d : ℕ) (ts : Tokens) → Apart (more_members t d) (rule (more_members t d)) ts
more_members-apart t d ts = go_look (λ e is. members-by t d e ts)

-- the declarators of a member
pub all_declarators-apart : (t : NameEnvironment) (d : ℕ) (ts : Tokens) → Apart (all_declarators t d) (rule (all_declarators t d)) ts
all_declarators-apart t d ts = go_call (λ c us _ p. go_call (λ cs vs _ q. go_done (avoids_both t.reserved _ _ (avoids_declarator t.reserved c p.0 p.1) q)))

more_declarators-by : (t : NameEnvironment) (d : ℕ) (e : Kind) (ts : Tokens) → Apart (more_declarators t d) (more_declarators_by t d e) ts
more_declarators-by t d k.Comma ts =
    go_spend (λ _ _. go_any (λ n us. go_call (λ c vs _ p. go_call (λ cs ws _ q. go_done (avoids_both t.reserved _ _ (avoids_declarator t.reserved c p.0 p.1) q)))))
more_declarators-by t d _ ts = go_done (avoids_none t.reserved)

-- more declarators of a member
pub more_declarators-apart : (t : NameEnvironment) (d : ℕ) (ts : Tokens) → Apart (more_declarators t d) (rule (more_declarators t d)) ts
more_declarators-apart t d ts = go_look (λ e is. more_declarators-by t d e ts)

-- ---- enums

enum-body : (t : NameEnvironment) (d : ℕ) (n : Name) (e : Kind) (us : Tokens) → Apart (an_enum t d) (enum_body_by t d n e) us
enum-body t d n k.OpenBrace us = go_spend (λ _ _. go_any (λ m vs. go_call (λ es ws _ p. go_done p)))
enum-body t d n _ us = go_done (avoids_none t.reserved)

enum-by : (t : NameEnvironment) (d : ℕ) (e : Kind) (ts : Tokens) → Apart (an_enum t d) (enum_by t d e) ts
enum-by t d k.Name ts = go_any (λ n us. go_look (λ e is. enum-body t d n e us))
enum-by t d k.OpenBrace ts = go_spend (λ _ _. go_any (λ n us. go_call (λ es vs _ p. go_done p)))
enum-by t d _ ts = go_stop

-- an enum
pub an_enum-apart : (t : NameEnvironment) (d : ℕ) (ts : Tokens) → Apart (an_enum t d) (rule (an_enum t d)) ts
an_enum-apart t d ts = go_look (λ e is. enum-by t d e ts)

enumerator-alone : (t : NameEnvironment) (d : ℕ) (n : Name) (us : Tokens) → IsOrdinary t.reserved n → Apart (all_enumerators t d) (enumerator_by t d n k.Nothing) us
enumerator-alone t d n us new = go_call (λ es vs _ p. go_done (avoids_more t.reserved n _ new p))

enumerator-by : (t : NameEnvironment) (d : ℕ) (n : Name) (e : Kind) (us : Tokens) → IsOrdinary t.reserved n → Apart (all_enumerators t d) (enumerator_by t d n e) us
enumerator-by t d n k.Assign us new =
    go_spend (λ _ _. go_any (λ m vs. go_call (λ x ws _ p. go_call (λ es os _ q. go_done (avoids_more t.reserved n _ new (avoids_both t.reserved _ _ p q))))))
enumerator-by t d n _ us new = enumerator-alone t d n us new

-- the enumerators of an enum
pub all_enumerators-apart : (t : NameEnvironment) (d : ℕ) (ts : Tokens) → Apart (all_enumerators t d) (rule (all_enumerators t d)) ts
all_enumerators-apart t d ts = go_a_name (λ n us _ new. go_look (λ e is. enumerator-by t d n e us (among_neither t.reserved t.types n new).0))

next-by : (t : NameEnvironment) (d : ℕ) (e : Kind) (us : Tokens) → Apart (more_enumerators t d) (next_enumerator_by t d e) us
next-by t d k.CloseBrace us = go_any (λ n vs. go_done (avoids_none t.reserved))
next-by t d k.Name us = go_spend (λ _ _. go_call (λ es vs _ p. go_done p))
next-by t d _ us = go_stop

more_enumerators-by : (t : NameEnvironment) (d : ℕ) (e : Kind) (ts : Tokens) → Apart (more_enumerators t d) (more_enumerators_by t d e) ts
more_enumerators-by t d k.CloseBrace ts = go_any (λ n us. go_done (avoids_none t.reserved))
more_enumerators-by t d k.Comma ts = go_any (λ n us. go_look (λ e is. next-by t d e us))
more_enumerators-by t d _ ts = go_stop

-- more enumerators
pub more_enumerators-apart : (t : NameEnvironment) (d : ℕ) (ts : Tokens) → Apart (more_enumerators t d) (rule (more_enumerators t d)) ts
more_enumerators-apart t d ts = go_look (λ e is. more_enumerators-by t d e ts)
