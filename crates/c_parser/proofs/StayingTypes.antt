-- What the rules of types and declarators keep.
use Rattle.std.proofs.Common.{◌≡◌, ℕ, ◌+◌, ◌≤◌, Bool, true, false, List, [], ◌∷◌, ◌++◌, cond, refl, Option, Some, None}
use Rattle.c_tree.specs.Tree.{Name, Quals, Stars, DeclaratorTree, Specifiers, no_specifiers, specifiers, Specifier, struct_tag, struct_of, enum_tag, enum_of}
use Rattle.c_tree.specs.TypeWords.{is_one_type, has_tag}
use Rattle.c_tree.specs.declared.type_word.TypeWord.{TypeWord}
use Rattle.c_tree.specs.declared.type_word.TypeWord.TheVariants as tw
use Rattle.c_tree.specs.Marks.{Tokens}
use Rattle.c_grammar.specs.declared.kind.Kind.{Kind}
use Rattle.c_grammar.specs.declared.kind.Kind.TheVariants as k
use Rattle.c_grammar.specs.Body.{done}
use Rattle.c_grammar.specs.Body as body
use Rattle.c_grammar.specs.Gauge.{Meter}
use Rattle.c_grammar.specs.Rules.{NameEnvironment, Reads, inside, start_of, begins_type, ends_type, with_word, specifiers_by, struct_body_by, struct_by, more_members_by, more_declarators_by, enum_body_by, enum_by, enumerator_by, next_enumerator_by, more_enumerators_by, stars_by, quals_by, declared_by, pointed, declarator_by, size_by, sizes_by, one_size_by, at_most_one_by, parameters_by, more_parameters_by, parameter_name_by, parameter_pointer_by, parameter_by, bare_by, a_type, all_specifiers, a_struct, all_members, more_members, all_declarators, more_declarators, an_enum, all_enumerators, more_enumerators, all_stars, all_quals, a_declarator, all_sizes, at_most_one_size, all_parameters, some_parameters, more_parameters, a_parameter, a_bare, qualifier_of, type_word}
use Rattle.c_grammar.specs.declared.start.Start.{Start}
use Rattle.c_grammar.specs.declared.start.Start.TheVariants as sp
use Rattle.c_grammar.proofs.Conditions.{go_done, go_stop, go_look, go_call, go_scope, go_if}
use Rattle.c_grammar.proofs.Limits.{Fits}
use Rattle.c_parser.proofs.Staying.{Stays, Safe, Kept, fits-left, fits-entered, pays, pays_name, lifts, skips, wants, a_name_taken}

pub type-kept : (t : NameEnvironment) (d : ℕ) → Kept (a_type t d)
type-kept t d ts m = go_call (λ ws us n p. go_call (λ x vs o q. go_done (λ deep f. q deep (p.0 f))))

-- ---- specifiers

tagged : (x : Specifier) (xs : Specifiers) → has_tag (specifiers x no_specifiers) ≡ true → has_tag (specifiers x xs) ≡ true
tagged (struct_tag n) xs h = refl
tagged (struct_of t ms) xs h = refl
tagged (enum_tag n) xs h = refl
tagged (enum_of t es c) xs h = refl
tagged _ xs h = absurd cc

untagged : (x : Specifier) (xs : Specifiers) → has_tag (specifiers x xs) ≡ false → has_tag xs ≡ false
untagged (struct_tag n) xs h = absurd cc
untagged (struct_of t ms) xs h = absurd cc
untagged (enum_tag n) xs h = absurd cc
untagged (enum_of t es c) xs h = absurd cc
untagged _ xs h = h

-- a struct or an enum makes no name necessary
tag-alone : (d : ℕ) (x : Specifier) (xs : Specifiers) → has_tag (specifiers x no_specifiers) ≡ true → has_tag (specifiers x xs) ≡ false → d + 1 ≤ 1000
tag-alone d x xs tag none = let has = tagged x xs tag in absurd cc

ends : (t : NameEnvironment) (d : ℕ) (b : Bool) (ws : List TypeWord) (ts : Tokens) (m : Meter) → Safe (ends_type ws) (Stays (all_specifiers t d b ws) ts m) ts m
ends t d b ws ts m = go_if {b = is_one_type ws} (λ yes. go_done (λ f. f, λ e none tag. absurd cc)) (λ no. go_stop)

goes-on : (t : NameEnvironment) (d : ℕ) (b : Bool) (ws : List TypeWord) (w : TypeWord) (f : Reads Specifiers) (ts : Tokens) (m : Meter) → Safe f (Stays (all_specifiers t d b ws) ts m) ts m →
    Safe (with_word ws w f) (Stays (all_specifiers t d b ws) ts m) ts m
goes-on t d b ws w f ts m h = go_if {b = is_one_type (ws ++ w ∷ [])} (λ yes. h) (λ no. ends t d b ws ts m)

specifiers-by : (t : NameEnvironment) (d : ℕ) (b : Bool) (ws : List TypeWord) (i : Option Start) (ts : Tokens) (m : Meter) → Safe (specifiers_by t d b ws i) (Stays (all_specifiers t d b ws) ts m) ts m
specifiers-by t d b ws None ts m = ends t d b ws ts m
specifiers-by t d b ws (Some (sp.Qualifier x)) ts m = skips (λ _ us. go_call (λ xs vs n p. go_done (p.0, λ e none tag. p.1 e none (untagged (qualifier_of x) xs tag))))
specifiers-by t d b ws (Some (sp.Keyword x)) ts m =
    goes-on t d b ws (type_word x) _ ts m (pays_name b d (λ y deep g. skips (λ _ us. go_call (λ xs vs n p. go_done (λ f. p.0 (g f), λ e none tag. deep e)))))
specifiers-by t d b ws (Some sp.TypeName) ts m =
    goes-on t d b ws tw.Whole _ ts m (pays_name b d (λ y deep g. skips (λ _ us. go_call (λ xs vs n p. go_done (λ f. p.0 (g f), λ e none tag. deep e)))))
specifiers-by t d b ws (Some sp.Struct) ts m =
    goes-on t d b ws tw.Whole _ ts m (skips (λ _ us. go_call (λ x vs n p. go_call (λ xs ws' o q. go_done (λ f. q.0 (p.0 f), λ e none tag. tag-alone d x xs p.1 tag)))))
specifiers-by t d b ws (Some sp.Enum) ts m =
    goes-on t d b ws tw.Whole _ ts m (skips (λ _ us. go_call (λ x vs n p. go_call (λ xs ws' o q. go_done (λ f. q.0 (p.0 f), λ e none tag. tag-alone d x xs p.1 tag)))))

pub specifiers-kept : (t : NameEnvironment) (d : ℕ) (b : Bool) (ws : List TypeWord) → Kept (all_specifiers t d b ws)
specifiers-kept t d b ws ts m = go_look (λ e is. specifiers-by t d b ws (start_of e) ts m)

-- ---- structs and enumerations

struct-body-by : (t : NameEnvironment) (d : ℕ) (a : Name) (e : Kind) (ts us : Tokens) (m : Meter) → Safe (struct_body_by t d a e) (Stays (a_struct t d) ts m) us m
struct-body-by t d a k.OpenBrace ts us m = pays (λ y deep g. skips (λ _ vs. go_call (λ ms ws n p. go_done (λ f. p deep g, refl))))
struct-body-by t d a _ ts us m = go_done (λ f. f, refl)

struct-by : (t : NameEnvironment) (d : ℕ) (e : Kind) (ts : Tokens) (m : Meter) → Safe (struct_by t d e) (Stays (a_struct t d) ts m) ts m
struct-by t d k.Name ts m = skips (λ a us. go_look (λ e is. struct-body-by t d a e ts us m))
struct-by t d k.OpenBrace ts m = pays (λ y deep g. skips (λ _ vs. go_call (λ ms ws n p. go_done (λ f. p deep g, refl))))
struct-by t d _ ts m = go_stop

pub struct-kept : (t : NameEnvironment) (d : ℕ) → Kept (a_struct t d)
struct-kept t d ts m = go_look (λ e is. struct-by t d e ts m)

pub members-kept : (t : NameEnvironment) (d : ℕ) → Kept (all_members t d)
members-kept t d ts m = go_call (λ ws us n p. go_call (λ cs vs o q. wants k.Semicolon (λ xs. go_call (λ ms ys z r. go_done (λ deep f. r (q deep (p.0 f)))))))

another-member : (t : NameEnvironment) (d : ℕ) (e : Kind) (ts : Tokens) (m : Meter) → Safe (cond (begins_type e) (body.spend 1 (d + 1) (body.call (all_members t d) done)) body.stop) (Stays (more_members t d) ts m) ts m
another-member t d e ts m = go_if {b = begins_type e} (λ yes. pays (λ y deep g. go_call (λ ms us n p. go_done (λ f. p deep g)))) (λ no. go_stop)

more-members-by : (t : NameEnvironment) (d : ℕ) (e : Kind) (ts : Tokens) (m : Meter) → Safe (more_members_by t d e) (Stays (more_members t d) ts m) ts m
more-members-by t d k.CloseBrace ts m = skips (λ _ us. go_done (λ f. f))
more-members-by t d e ts m = another-member t d e ts m

pub more-members-kept : (t : NameEnvironment) (d : ℕ) → Kept (more_members t d)
more-members-kept t d ts m = go_look (λ e is. more-members-by t d e ts m)

pub declarators-kept : (t : NameEnvironment) (d : ℕ) → Kept (all_declarators t d)
declarators-kept t d ts m = go_call (λ c us n p. go_call (λ cs vs o q. go_done (λ deep f. q (p deep f))))

more-declarators-by : (t : NameEnvironment) (d : ℕ) (e : Kind) (ts : Tokens) (m : Meter) → Safe (more_declarators_by t d e) (Stays (more_declarators t d) ts m) ts m
more-declarators-by t d k.Comma ts m = pays (λ y deep g. skips (λ _ us. go_call (λ c vs n p. go_call (λ cs ws o q. go_done (λ f. q (p deep g))))))
more-declarators-by t d _ ts m = go_done (λ f. f)

pub more-declarators-kept : (t : NameEnvironment) (d : ℕ) → Kept (more_declarators t d)
more-declarators-kept t d ts m = go_look (λ e is. more-declarators-by t d e ts m)

enum-body-by : (t : NameEnvironment) (d : ℕ) (a : Name) (e : Kind) (ts us : Tokens) (m : Meter) → Safe (enum_body_by t d a e) (Stays (an_enum t d) ts m) us m
enum-body-by t d a k.OpenBrace ts us m = pays (λ y deep g. skips (λ _ vs. go_call (λ es ws n p. go_done (λ f. p g, refl))))
enum-body-by t d a _ ts us m = go_done (λ f. f, refl)

enum-by : (t : NameEnvironment) (d : ℕ) (e : Kind) (ts : Tokens) (m : Meter) → Safe (enum_by t d e) (Stays (an_enum t d) ts m) ts m
enum-by t d k.Name ts m = skips (λ a us. go_look (λ e is. enum-body-by t d a e ts us m))
enum-by t d k.OpenBrace ts m = pays (λ y deep g. skips (λ _ vs. go_call (λ es ws n p. go_done (λ f. p g, refl))))
enum-by t d _ ts m = go_stop

pub enum-kept : (t : NameEnvironment) (d : ℕ) → Kept (an_enum t d)
enum-kept t d ts m = go_look (λ e is. enum-by t d e ts m)

enumerator-by : (t : NameEnvironment) (d : ℕ) (a : Name) (e : Kind) (ts us : Tokens) (m : Meter) → Safe (enumerator_by t d a e) (Stays (all_enumerators t d) ts m) us m
enumerator-by t d a k.Assign ts us m = pays (λ y deep g. skips (λ _ vs. go_call (λ x ws n p. go_call (λ es xs o q. go_done (λ f. q (p.1 g.peak))))))
enumerator-by t d a _ ts us m = go_call (λ es vs n p. go_done p)

pub enumerators-kept : (t : NameEnvironment) (d : ℕ) → Kept (all_enumerators t d)
enumerators-kept t d ts m = a_name_taken (λ a us. go_look (λ e is. enumerator-by t d a e ts us m))

next-enumerator-by : (t : NameEnvironment) (d : ℕ) (e : Kind) (ts us : Tokens) (m : Meter) → Safe (next_enumerator_by t d e) (Stays (more_enumerators t d) ts m) us m
next-enumerator-by t d k.CloseBrace ts us m = skips (λ _ vs. go_done (λ f. f))
next-enumerator-by t d k.Name ts us m = pays (λ y deep g. go_call (λ es vs n p. go_done (λ f. p g)))
next-enumerator-by t d _ ts us m = go_stop

more-enumerators-by : (t : NameEnvironment) (d : ℕ) (e : Kind) (ts : Tokens) (m : Meter) → Safe (more_enumerators_by t d e) (Stays (more_enumerators t d) ts m) ts m
more-enumerators-by t d k.CloseBrace ts m = skips (λ _ us. go_done (λ f. f))
more-enumerators-by t d k.Comma ts m = skips (λ _ us. go_look (λ e is. next-enumerator-by t d e ts us m))
more-enumerators-by t d _ ts m = go_stop

pub more-enumerators-kept : (t : NameEnvironment) (d : ℕ) → Kept (more_enumerators t d)
more-enumerators-kept t d ts m = go_look (λ e is. more-enumerators-by t d e ts m)

-- ---- declarators

stars-by : (e : Kind) (ts : Tokens) (m : Meter) → Safe (stars_by e) (Stays all_stars ts m) ts m
stars-by k.Star ts m = skips (λ _ us. go_call (λ qs vs n p. go_call (λ ss ws o q. go_done (λ f. q (p f)))))
stars-by _ ts m = go_done (λ f. f)

pub stars-kept : Kept all_stars
stars-kept ts m = go_look (λ e is. stars-by e ts m)

quals-by : (e : Kind) (ts : Tokens) (m : Meter) → Safe (quals_by e) (Stays all_quals ts m) ts m
quals-by k.Const ts m = skips (λ _ us. go_call (λ qs vs n p. go_done p))
quals-by k.Volatile ts m = skips (λ _ us. go_call (λ qs vs n p. go_done p))
quals-by _ ts m = go_done (λ f. f)

pub quals-kept : Kept all_quals
quals-kept ts m = go_look (λ e is. quals-by e ts m)

declared-by : (t : NameEnvironment) (d : ℕ) (f : Bool) (ss : Stars) (a : Name) (e : Kind) (us : Tokens) (n : Meter) (Q : DeclaratorTree → Tokens → Meter → Type 0) →
    ((x : DeclaratorTree) (vs : Tokens) (o : Meter) → (d ≤ 1000 → Fits n → Fits o) → Q x vs o) → Safe (declared_by t d f ss a e) Q us n
declared-by t d f ss a k.OpenBracket us n Q h = go_call (λ xs vs o p. go_done (h _ _ _ (λ deep. p)))
declared-by t d f ss a k.OpenParen us n Q h = go_if {b = f} (λ yes. skips (λ _ vs. go_call (λ ps ws o p. go_done (h _ _ _ p)))) (λ no. go_done (h _ _ _ (λ deep g. g)))
declared-by t d f ss a _ us n Q h = go_done (h _ _ _ (λ deep g. g))

pointed-by : (t : NameEnvironment) (d : ℕ) (ss : Stars) (qs : Quals) (a : Name) (us : Tokens) (n : Meter) (Q : DeclaratorTree → Tokens → Meter → Type 0) →
    ((x : DeclaratorTree) (vs : Tokens) (o : Meter) → (d ≤ 1000 → Fits n → Fits o) → Q x vs o) → Safe (pointed t d ss qs a) Q us n
pointed-by t d ss qs a us n Q h =
    go_call (λ xs vs o p. wants k.CloseParen (λ ws. wants k.OpenParen (λ ys. go_call (λ ps zs z q. go_done (h _ _ _ (λ deep g. q deep (p g)))))))

-- behind the stars of a declarator, of the first of an item or of another
pub declarator-by : (t : NameEnvironment) (d : ℕ) (f y : Bool) (ss : Stars) (e : Kind) (us : Tokens) (n : Meter) (Q : DeclaratorTree → Tokens → Meter → Type 0) →
    ((x : DeclaratorTree) (vs : Tokens) (o : Meter) → (d ≤ 1000 → Fits n → Fits o) → Q x vs o) → Safe (declarator_by t d f y ss e) Q us n
declarator-by t d f y ss k.Name us n Q h = skips (λ a vs. go_look (λ e is. declared-by (inside y a t) d f ss a e vs n Q h))
declarator-by t d f y ss k.OpenParen us n Q h =
    skips (λ _ vs. wants k.Star (λ ws. go_call (λ qs xs o p. a_name_taken (λ a ys. pointed-by (inside y a t) d ss qs a ys o Q (λ x zs z q. h x zs z (λ deep g. q deep (p g)))))))
declarator-by t d f y ss _ us n Q h = go_stop

pub declarator-kept : (t : NameEnvironment) (d : ℕ) (f y : Bool) → Kept (a_declarator t d f y)
declarator-kept t d f y ts m = go_call (λ ss us n p. go_look (λ e is. declarator-by t d f y ss e us n _ (λ x vs o q deep g. q deep (p g))))

size-by : (t : NameEnvironment) (d : ℕ) (e : Kind) (ts us : Tokens) (m : Meter) → Safe (size_by t d e) (Stays (all_sizes t d) ts m) us m
size-by t d k.CloseBracket ts us m = skips (λ _ vs. go_call (λ xs ws n p. go_done p))
size-by t d _ ts us m = go_call (λ x vs n p. wants k.CloseBracket (λ ws. go_call (λ xs ys o q. go_done (λ f. q (p.1 f.peak)))))

sizes-by : (t : NameEnvironment) (d : ℕ) (e : Kind) (ts : Tokens) (m : Meter) → Safe (sizes_by t d e) (Stays (all_sizes t d) ts m) ts m
sizes-by t d k.OpenBracket ts m = skips (λ _ us. go_look (λ e is. size-by t d e ts us m))
sizes-by t d _ ts m = go_done (λ f. f)

pub sizes-kept : (t : NameEnvironment) (d : ℕ) → Kept (all_sizes t d)
sizes-kept t d ts m = go_look (λ e is. sizes-by t d e ts m)

one-size-by : (t : NameEnvironment) (d : ℕ) (e : Kind) (ts us : Tokens) (m : Meter) → Safe (one_size_by t d e) (Stays (at_most_one_size t d) ts m) us m
one-size-by t d k.CloseBracket ts us m = skips (λ _ vs. go_done (λ f. f))
one-size-by t d _ ts us m = go_call (λ x vs n p. wants k.CloseBracket (λ ws. go_done (λ f. p.1 f.peak)))

at-most-one-by : (t : NameEnvironment) (d : ℕ) (e : Kind) (ts : Tokens) (m : Meter) → Safe (at_most_one_by t d e) (Stays (at_most_one_size t d) ts m) ts m
at-most-one-by t d k.OpenBracket ts m = skips (λ _ us. go_look (λ e is. one-size-by t d e ts us m))
at-most-one-by t d _ ts m = go_done (λ f. f)

pub at-most-one-kept : (t : NameEnvironment) (d : ℕ) → Kept (at_most_one_size t d)
at-most-one-kept t d ts m = go_look (λ e is. at-most-one-by t d e ts m)

-- ---- parameters

parameters-by : (t : NameEnvironment) (d : ℕ) (e : Kind) (ts : Tokens) (m : Meter) → Safe (parameters_by t d e) (Stays (all_parameters t d) ts m) ts m
parameters-by t d k.CloseParen ts m = skips (λ _ us. go_done (λ deep f. f))
parameters-by t d _ ts m = go_call (λ ps us n p. go_done p)

pub parameters-kept : (t : NameEnvironment) (d : ℕ) → Kept (all_parameters t d)
parameters-kept t d ts m = go_look (λ e is. parameters-by t d e ts m)

pub some-parameters-kept : (t : NameEnvironment) (d : ℕ) → Kept (some_parameters t d)
some-parameters-kept t d ts m = go_scope (λ x us n p. go_call (λ ps vs o q. go_done (λ deep f. q deep (fits-left m n f.peak (p deep (fits-entered d m deep f))))))

more-parameters-by : (t : NameEnvironment) (d : ℕ) (e : Kind) (ts : Tokens) (m : Meter) → Safe (more_parameters_by t d e) (Stays (more_parameters t d) ts m) ts m
more-parameters-by t d k.CloseParen ts m = skips (λ _ us. go_done (λ deep f. f))
more-parameters-by t d k.Comma ts m = skips (λ _ us. go_call (λ ps vs n p. go_done p))
more-parameters-by t d _ ts m = go_stop

pub more-parameters-kept : (t : NameEnvironment) (d : ℕ) → Kept (more_parameters t d)
more-parameters-kept t d ts m = go_look (λ e is. more-parameters-by t d e ts m)

parameter-name-by : (t : NameEnvironment) (d : ℕ) (ws : Specifiers) (ss : Stars) (a : Name) (e : Kind) (ts us : Tokens) (m n : Meter) → Fits n →
    Safe (parameter_name_by t d ws ss a e) (Stays (a_parameter t d) ts m) us n
parameter-name-by t d ws ss a k.OpenBracket ts us m n g = go_call (λ xs vs o p. go_done (λ deep f. p g))
parameter-name-by t d ws ss a _ ts us m n g = go_done (λ deep f. g)

parameter-pointer-by : (t : NameEnvironment) (d : ℕ) (ws : Specifiers) (ss : Stars) (qs : Quals) (e : Kind) (ts us : Tokens) (m n : Meter) → (Fits m → Fits n) →
    Safe (parameter_pointer_by t d ws ss qs e) (Stays (a_parameter t d) ts m) us n
parameter-pointer-by t d ws ss qs k.Name ts us m n h = lifts (λ y g. pays (λ z deep i. skips (λ _ vs. go_call (λ xs ys o p.
    wants k.CloseParen (λ ws. wants k.OpenParen (λ xs. go_call (λ ps zs w q. go_done (λ _ f. q deep (p i)))))))))
parameter-pointer-by t d ws ss qs k.CloseParen ts us m n h = skips (λ _ vs. wants k.OpenParen (λ ws. go_call (λ ps xs o p. go_done (λ deep f. p deep (h f)))))
parameter-pointer-by t d ws ss qs _ ts us m n h = go_stop

parameter-by : (t : NameEnvironment) (d : ℕ) (ws : Specifiers) (ss : Stars) (e : Kind) (ts us : Tokens) (m n : Meter) → (Fits m → Fits n) →
    Safe (parameter_by t d ws ss e) (Stays (a_parameter t d) ts m) us n
parameter-by t d ws ss k.Name ts us m n h = lifts (λ y g. pays (λ z deep i. skips (λ a vs. go_look (λ e is. parameter-name-by t d ws ss a e ts vs m z i))))
parameter-by t d ws ss k.OpenParen ts us m n h =
    skips (λ _ vs. wants k.Star (λ xs. go_call (λ qs ys o p. go_look (λ e is. parameter-pointer-by t d ws ss qs e ts ys m o (λ f. p (h f))))))
parameter-by t d ws ss _ ts us m n h = go_done (λ deep f. h f)

pub parameter-kept : (t : NameEnvironment) (d : ℕ) → Kept (a_parameter t d)
parameter-kept t d ts m = go_call (λ ws us n p. go_call (λ ss vs o q. go_look (λ e is. parameter-by t d ws ss e ts vs m o (λ f. q (p.0 f)))))

bare-by : (t : NameEnvironment) (d : ℕ) (ss : Stars) (e : Kind) (ts us : Tokens) (m n : Meter) → (Fits m → Fits n) → Safe (bare_by t d ss e) (Stays (a_bare t d) ts m) us n
bare-by t d ss k.OpenParen ts us m n h = skips (λ _ vs. wants k.Star (λ ws. go_call (λ qs xs o p.
    wants k.CloseParen (λ ys. wants k.OpenParen (λ zs. go_call (λ ps us' z q. go_done (λ deep f. q deep (p (h f)))))))))
bare-by t d ss _ ts us m n h = go_done (λ deep f. h f)

pub bare-kept : (t : NameEnvironment) (d : ℕ) → Kept (a_bare t d)
bare-kept t d ts m = go_call (λ ss us n p. go_look (λ e is. bare-by t d ss e ts us m n p))
