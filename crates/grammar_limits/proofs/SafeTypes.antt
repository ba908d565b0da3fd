-- The rules of types keep to what is due.
use Rattle.std.proofs.Common.{ℕ, ◌+◌, ◌≤◌, Bool, false, cond, List, [], ◌∷◌, ◌++◌, arith, Option, Some, None}
use Rattle.c_tree.specs.Tree.{Name, Specifier, specifiers, type_name}
use Rattle.c_tree.specs.TypeWords.{is_one_type}
use Rattle.c_tree.specs.declared.type_word.TypeWord.{TypeWord}
use Rattle.c_tree.specs.declared.type_word.TypeWord.TheVariants as tw
use Rattle.c_grammar.specs.declared.kind.Kind.{Kind}
use Rattle.c_grammar.specs.declared.kind.Kind.TheVariants as k
use Rattle.c_grammar.specs.Body.{done}
use Rattle.c_grammar.specs.Body as body
use Rattle.c_grammar.specs.Rules.{NameEnvironment, start_of, begins_type, ends_type, naming, specifiers_by, struct_body_by, struct_by, more_members_by, more_declarators_by, enum_body_by, enum_by, enumerator_by, next_enumerator_by, more_enumerators_by, a_type, all_specifiers, a_struct, all_members, more_members, all_declarators, more_declarators, an_enum, all_enumerators, more_enumerators, keyword_of, type_word}
use Rattle.c_grammar.specs.declared.start.Start.{Start}
use Rattle.c_grammar.specs.declared.start.Start.TheVariants as sp
use Rattle.grammar_limits.proofs.Dues.{Safe, Due, safe_done, safe_stop, safe_look, safe_take, safe_spend, safe_call, safe_if, safe_expect, safe_name, safe_naming}

pub type-due : (t : NameEnvironment) (d : ℕ) → Due (a_type t d)
type-due t d low = safe_call (omega arith) (omega arith) (omega arith) (omega arith) (λ _. safe_call (omega arith) (omega arith) (omega arith) (omega arith) (λ _. safe_done (omega arith) (omega arith)))

-- where the words before are those of a type
ends-by : (t : NameEnvironment) (d : ℕ) (ws : List TypeWord) → Safe (ends_type ws) 10 0 (d + 20) 10 0
ends-by t d ws = safe_if (is_one_type ws) (safe_done (omega arith) (omega arith)) safe_stop

-- behind a word of a type, whose token pays for a name as well
word-by : (t : NameEnvironment) (d : ℕ) (b : Bool) (ws : List TypeWord) (f : Name → Specifier) → Safe (naming b d (body.take (λ n. body.call (all_specifiers t d false ws) (λ xs. done (specifiers (f n) xs))))) 10 0 (d + 20) 10 0
word-by t d b ws f = safe_naming b d (omega arith) (omega arith) (safe_take (λ _. safe_call (omega arith) (omega arith) (omega arith) (omega arith) (λ _. safe_done (omega arith) (omega arith)))) (safe_take (λ _. safe_call (omega arith) (omega arith) (omega arith) (omega arith) (λ _. safe_done (omega arith) (omega arith))))

specifiers-by : (t : NameEnvironment) (d : ℕ) (b : Bool) (ws : List TypeWord) (s : Option Start) → Safe (specifiers_by t d b ws s) 10 0 (d + 20) 10 0
specifiers-by t d b ws None = ends-by t d ws
specifiers-by t d b ws (Some (sp.Qualifier x)) = safe_take (λ _. safe_call (omega arith) (omega arith) (omega arith) (omega arith) (λ _. safe_done (omega arith) (omega arith)))
specifiers-by t d b ws (Some (sp.Keyword x)) = safe_if (is_one_type (ws ++ type_word x ∷ [])) (word-by t d b (ws ++ type_word x ∷ []) (λ _. keyword_of x)) (ends-by t d ws)
specifiers-by t d b ws (Some sp.TypeName) = safe_if (is_one_type (ws ++ tw.Whole ∷ [])) (word-by t d b (ws ++ tw.Whole ∷ []) type_name) (ends-by t d ws)
specifiers-by t d b ws (Some sp.Struct) = safe_if (is_one_type (ws ++ tw.Whole ∷ [])) (safe_take (λ _. safe_call (omega arith) (omega arith) (omega arith) (omega arith) (λ _. safe_call (omega arith) (omega arith) (omega arith) (omega arith) (λ _. safe_done (omega arith) (omega arith))))) (ends-by t d ws)
specifiers-by t d b ws (Some sp.Enum) = safe_if (is_one_type (ws ++ tw.Whole ∷ [])) (safe_take (λ _. safe_call (omega arith) (omega arith) (omega arith) (omega arith) (λ _. safe_call (omega arith) (omega arith) (omega arith) (omega arith) (λ _. safe_done (omega arith) (omega arith))))) (ends-by t d ws)

-- the words of a type
pub specifiers-due : (t : NameEnvironment) (d : ℕ) (b : Bool) (ws : List TypeWord) → Due (all_specifiers t d b ws)
specifiers-due t d b ws low = safe_look (λ e. specifiers-by t d b ws (start_of e))

struct-body-by : (t : NameEnvironment) (d u : ℕ) (n : Name) (e : Kind) → d + 20 ≤ u → Safe (struct_body_by t d n e) 10 0 u 110 0
struct-body-by t d u n k.OpenBrace room = safe_spend (omega arith) (omega arith) (safe_take (λ _. safe_call (omega arith) (omega arith) (omega arith) (omega arith) (λ _. safe_done (omega arith) (omega arith))))
struct-body-by t d u n _ room = safe_done (omega arith) (omega arith)

struct-by : (t : NameEnvironment) (d : ℕ) (e : Kind) → Safe (struct_by t d e) 10 0 (d + 20) 10 0
struct-by t d k.Name = safe_take (λ n. safe_look (λ e. struct-body-by t d _ n e (omega arith)))
struct-by t d k.OpenBrace = safe_spend (omega arith) (omega arith) (safe_take (λ _. safe_call (omega arith) (omega arith) (omega arith) (omega arith) (λ _. safe_done (omega arith) (omega arith))))
struct-by t d _ = safe_stop

-- a struct and its members
pub struct-due : (t : NameEnvironment) (d : ℕ) → Due (a_struct t d)
struct-due t d low = safe_look (λ e. struct-by t d e)

pub members-due : (t : NameEnvironment) (d : ℕ) → Due (all_members t d)
members-due t d low = safe_call (omega arith) (omega arith) (omega arith) (omega arith) (λ _. safe_call (omega arith) (omega arith) (omega arith) (omega arith) (λ _. safe_expect k.Semicolon (safe_call (omega arith) (omega arith) (omega arith) (omega arith) (λ _. safe_done (omega arith) (omega arith)))))

another-member : (t : NameEnvironment) (d : ℕ) (b : Bool) → Safe (cond b (body.spend 1 (d + 1) (body.call (all_members t d) done)) body.stop) 20 0 (d + 21) 20 0
another-member t d b = safe_if b (safe_spend (omega arith) (omega arith) (safe_call (omega arith) (omega arith) (omega arith) (omega arith) (λ _. safe_done (omega arith) (omega arith)))) safe_stop

more-members-by : (t : NameEnvironment) (d : ℕ) (e : Kind) → Safe (more_members_by t d e) 20 0 (d + 21) 20 0
more-members-by t d k.CloseBrace = safe_take (λ _. safe_done (omega arith) (omega arith))
more-members-by t d e = another-member t d (begins_type e)

pub more-members-due : (t : NameEnvironment) (d : ℕ) → Due (more_members t d)
more-members-due t d low = safe_look (λ e. more-members-by t d e)

pub declarators-due : (t : NameEnvironment) (d : ℕ) → Due (all_declarators t d)
declarators-due t d low = safe_call (omega arith) (omega arith) (omega arith) (omega arith) (λ _. safe_call (omega arith) (omega arith) (omega arith) (omega arith) (λ _. safe_done (omega arith) (omega arith)))

more-declarators-by : (t : NameEnvironment) (d : ℕ) (e : Kind) → Safe (more_declarators_by t d e) 10 0 (d + 20) 10 0
more-declarators-by t d k.Comma = safe_spend (omega arith) (omega arith) (safe_take (λ _. safe_call (omega arith) (omega arith) (omega arith) (omega arith) (λ _. safe_call (omega arith) (omega arith) (omega arith) (omega arith) (λ _. safe_done (omega arith) (omega arith)))))
more-declarators-by t d _ = safe_done (omega arith) (omega arith)

pub more-declarators-due : (t : NameEnvironment) (d : ℕ) → Due (more_declarators t d)
more-declarators-due t d low = safe_look (λ e. more-declarators-by t d e)

enum-body-by : (t : NameEnvironment) (d u : ℕ) (n : Name) (e : Kind) → d + 20 ≤ u → Safe (enum_body_by t d n e) 10 0 u 110 0
enum-body-by t d u n k.OpenBrace room = safe_spend (omega arith) (omega arith) (safe_take (λ _. safe_call (omega arith) (omega arith) (omega arith) (omega arith) (λ _. safe_done (omega arith) (omega arith))))
enum-body-by t d u n _ room = safe_done (omega arith) (omega arith)

enum-by : (t : NameEnvironment) (d : ℕ) (e : Kind) → Safe (enum_by t d e) 10 0 (d + 20) 10 0
enum-by t d k.Name = safe_take (λ n. safe_look (λ e. enum-body-by t d _ n e (omega arith)))
enum-by t d k.OpenBrace = safe_spend (omega arith) (omega arith) (safe_take (λ _. safe_call (omega arith) (omega arith) (omega arith) (omega arith) (λ _. safe_done (omega arith) (omega arith))))
enum-by t d _ = safe_stop

-- an enum and its enumerators
pub enum-due : (t : NameEnvironment) (d : ℕ) → Due (an_enum t d)
enum-due t d low = safe_look (λ e. enum-by t d e)

enumerator-by : (t : NameEnvironment) (d u : ℕ) (n : Name) (e : Kind) → d + 21 ≤ u → Safe (enumerator_by t d n e) 10 0 u 110 0
enumerator-by t d u n k.Assign room = safe_spend (omega arith) (omega arith) (safe_take (λ _. safe_call (omega arith) (omega arith) (omega arith) (omega arith) (λ _. safe_call (omega arith) (omega arith) (omega arith) (omega arith) (λ _. safe_done (omega arith) (omega arith)))))
enumerator-by t d u n _ room = safe_call (omega arith) (omega arith) (omega arith) (omega arith) (λ _. safe_done (omega arith) (omega arith))

pub enumerators-due : (t : NameEnvironment) (d : ℕ) → Due (all_enumerators t d)
enumerators-due t d low = safe_name (λ n. safe_look (λ e. enumerator-by t d _ n e (omega arith)))

next-enumerator-by : (t : NameEnvironment) (d u : ℕ) (e : Kind) → d + 20 ≤ u → Safe (next_enumerator_by t d e) 10 0 u 110 0
next-enumerator-by t d u k.CloseBrace room = safe_take (λ _. safe_done (omega arith) (omega arith))
next-enumerator-by t d u k.Name room = safe_spend (omega arith) (omega arith) (safe_call (omega arith) (omega arith) (omega arith) (omega arith) (λ _. safe_done (omega arith) (omega arith)))
next-enumerator-by t d u _ room = safe_stop

more-enumerators-by : (t : NameEnvironment) (d : ℕ) (e : Kind) → Safe (more_enumerators_by t d e) 10 0 (d + 20) 10 0
more-enumerators-by t d k.CloseBrace = safe_take (λ _. safe_done (omega arith) (omega arith))
more-enumerators-by t d k.Comma = safe_take (λ _. safe_look (λ e. next-enumerator-by t d _ e (omega arith)))
more-enumerators-by t d _ = safe_stop

pub more-enumerators-due : (t : NameEnvironment) (d : ℕ) → Due (more_enumerators t d)
more-enumerators-due t d low = safe_look (λ e. more-enumerators-by t d e)
