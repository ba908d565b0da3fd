-- Stars and qualifiers are read, and what begins and ends a declarator.
use Rattle.std.proofs.Common.{◌≡◌, ◌≢◌, inl, inr, Bool, true, false, List, [], ◌∷◌, refl, sym, ap, ◌∙◌}
use Rattle.c_tree.specs.declared.tree.Qual.TheVariants as q
use Rattle.c_tree.specs.Tree.{Name, Quals, Stars, DeclaratorTree, plain, array, function, pointer, BareTree, bare_stars, bare_pointer}
use Rattle.c_tree.specs.Marks.{Tokens, name_token}
use Rattle.c_tree.specs.TypeWords.{IsOrdinary}
use Rattle.c_tree.specs.ExpressionShape.{ShapeDeclarator}
use Rattle.c_tree.specs.DeclaredNames.{declarator_name}
use Rattle.c_grammar.specs.declared.kind.Kind.{Kind}
use Rattle.c_grammar.specs.declared.kind.Kind.TheVariants as k
use Rattle.c_grammar.specs.Kind.{kind, token_of, IsFixed}
use Rattle.c_grammar.specs.Body.{got, done}
use Rattle.c_grammar.specs.Rules.{NameEnvironment, stars_by, quals_by, all_stars, all_quals, begins_type, begins_declarator}
use Rattle.c_grammar.proofs.Onto.{onto_quals, onto_stars, onto_declarator, onto_bare}
use Rattle.c_grammar.proofs.Parse.{parse}
use Rattle.c_grammar.proofs.KindLemmas.{kind_at, kind_name, kind_same}
use Rattle.c_grammar.proofs.Runs.{ran, run_done, run_seen, run_at, run_take, run_call}
use Rattle.c_grammar.proofs.ReadBack.Tree.{EndsType, EndsForm}

-- neither a star nor a qualifier
abbrev pub ends_stars : Kind → Bool
ends_stars k.Star = false
ends_stars k.Const = false
ends_stars k.Volatile = false
ends_stars _ = true

-- no qualifier
abbrev ends_quals : Kind → Bool
ends_quals k.Const = false
ends_quals k.Volatile = false
ends_quals _ = true

quals_end : (e : Kind) → ends_quals e ≡ true → quals_by e ≡ done []
quals_end k.Const h = absurd (cc)
quals_end k.Volatile h = absurd (cc)
quals_end _ h = refl

stars_end : (e : Kind) → ends_stars e ≡ true → stars_by e ≡ done []
stars_end k.Star h = absurd (cc)
stars_end k.Const h = absurd (cc)
stars_end k.Volatile h = absurd (cc)
stars_end _ h = refl

stars_quals : (e : Kind) → ends_stars e ≡ true → ends_quals e ≡ true
stars_quals k.Const h = absurd (cc)
stars_quals k.Volatile h = absurd (cc)
stars_quals _ h = refl

some_quals_read : (qs : Quals) (r : Tokens) → ends_quals (kind [] r) ≡ true → parse all_quals (onto_quals qs r) ≡ got qs r tt
some_quals_read [] r h = ran all_quals r (got [] r tt) (run_seen (quals_end (kind [] r) h) (run_done refl))
some_quals_read (q.Const ∷ qs) r h = ran all_quals _ (got (q.Const ∷ qs) r tt) (run_at k.Const tt (run_take (run_call refl (some_quals_read qs r h) (run_done refl))))
some_quals_read (q.Volatile ∷ qs) r h = ran all_quals _ (got (q.Volatile ∷ qs) r tt) (run_at k.Volatile tt (run_take (run_call refl (some_quals_read qs r h) (run_done refl))))

-- qualifiers before what is no qualifier and no star
pub quals_read : (qs : Quals) (r : Tokens) → ends_stars (kind [] r) ≡ true → parse all_quals (onto_quals qs r) ≡ got qs r tt
quals_read qs r h = some_quals_read qs r (stars_quals (kind [] r) h)

stars_after : (ss : Stars) (r : Tokens) → ends_stars (kind [] r) ≡ true → ends_quals (kind [] (onto_stars ss r)) ≡ true
stars_after [] r h = stars_quals (kind [] r) h
stars_after (s ∷ ss) r h = ap ends_quals (kind_at [] k.Star [] _ tt)

-- stars before what is no star and no qualifier
pub stars_read : (ss : Stars) (r : Tokens) → ends_stars (kind [] r) ≡ true → parse all_stars (onto_stars ss r) ≡ got ss r tt
stars_read [] r h = ran all_stars r (got [] r tt) (run_seen (stars_end (kind [] r) h) (run_done refl))
stars_read (s ∷ ss) r h =
    ran all_stars _ (got (s ∷ ss) r tt)
    (run_at k.Star tt (run_take (run_call refl (some_quals_read s (onto_stars ss r) (stars_after ss r h)) (run_call refl (stars_read ss r h) (run_done refl)))))

-- a given token ends stars
pub stars_end_at : (e : Kind) (r : Tokens) → IsFixed e → ends_stars e ≡ true → ends_stars (kind [] (token_of e [] ∷ r)) ≡ true
stars_end_at e r fixed h = ap ends_stars (kind_at [] e [] r fixed) ∙ h

-- a name ends stars
pub stars_end_name : (n : Name) (r : Tokens) → ends_stars (kind [] (name_token n ∷ r)) ≡ true
stars_end_name n r = ap ends_stars (kind_name [] n r refl)

-- the end of a parameter ends stars
pub stars_end_form : (r : Tokens) → EndsForm r → ends_stars (kind [] r) ≡ true
stars_end_form r ends = elim ends [ inl e ↦ ap ends_stars e | inr e ↦ ap ends_stars e ]

-- ---- what ends specifiers

-- a given token ends specifiers
pub type_ends_at : (t : NameEnvironment) (e : Kind) (r : Tokens) → IsFixed e → begins_type e ≡ false → e ≢ k.OpenBrace → EndsType t (token_of e [] ∷ r)
type_ends_at t e r fixed none other = (ap begins_type (kind_at t.types e [] r fixed) ∙ none, λ q. other (sym (kind_at [] e [] r fixed) ∙ q))

-- a name that is no type ends specifiers
pub type_ends_name : (t : NameEnvironment) (n : Name) (r : Tokens) → IsOrdinary t.types n → EndsType t (name_token n ∷ r)
type_ends_name t n r new =
    (ap begins_type (kind_name t.types n r new), λ q. let e : k.Name ≡ k.OpenBrace = sym (kind_name [] n r refl) ∙ q in cc)

-- stars end specifiers, where what follows does
pub type_ends_stars : (t : NameEnvironment) (ss : Stars) (r : Tokens) → EndsType t r → EndsType t (onto_stars ss r)
type_ends_stars t [] r h = h
type_ends_stars t (s ∷ ss) r h = type_ends_at t k.Star _ tt refl (λ q. cc)

-- a declarator ends specifiers
pub type_ends_declarator : (t : NameEnvironment) (c : DeclaratorTree) (r : Tokens) → IsOrdinary t.types (declarator_name c) → EndsType t (onto_declarator c r)
type_ends_declarator t (plain ss n) r new = type_ends_stars t ss _ (type_ends_name t n _ new)
type_ends_declarator t (array ss n xs) r new = type_ends_stars t ss _ (type_ends_name t n _ new)
type_ends_declarator t (function ss n ps v) r new = type_ends_stars t ss _ (type_ends_name t n _ new)
type_ends_declarator t (pointer ss qs n xs ps v) r new = type_ends_stars t ss _ (type_ends_at t k.OpenParen _ tt refl (λ q. cc))

-- the end of a parameter ends specifiers
pub type_ends_form : (t : NameEnvironment) (r : Tokens) → EndsForm r → EndsType t r
type_ends_form t r ends = elim ends [
  | inl e ↦ (ap begins_type (kind_same [] t.types r k.Comma tt e), λ q. let f : k.Comma ≡ k.OpenBrace = sym e ∙ q in cc)
  | inr e ↦ (ap begins_type (kind_same [] t.types r k.CloseParen tt e), λ q. let f : k.CloseParen ≡ k.OpenBrace = sym e ∙ q in cc)
]

-- what has no name ends specifiers
pub type_ends_bare : (t : NameEnvironment) (b : BareTree) (r : Tokens) → EndsForm r → EndsType t (onto_bare b r)
type_ends_bare t (bare_stars ss) r ends = type_ends_stars t ss r (type_ends_form t r ends)
type_ends_bare t (bare_pointer ss qs ps v) r ends = type_ends_stars t ss _ (type_ends_at t k.OpenParen _ tt refl (λ q. cc))

-- the name that a declarator declares is no type
pub declares_ordinary : (types : List Name) (c : DeclaratorTree) → ShapeDeclarator types c → IsOrdinary types (declarator_name c)
declares_ordinary types (plain ss n) s = s
declares_ordinary types (array ss n xs) s = s.0
declares_ordinary types (function ss n ps v) s = s.0
declares_ordinary types (pointer ss qs n xs ps v) s = s.0

-- ---- what begins a declarator

stars_head : (types : List Name) (ss : Stars) (r : Tokens) → begins_declarator (kind types r) ≡ true → begins_declarator (kind types (onto_stars ss r)) ≡ true
stars_head types [] r h = h
stars_head types (s ∷ ss) r h = ap begins_declarator (kind_at types k.Star [] _ tt)

-- a declarator begins with what a declarator begins with, where its name is none of these
pub declarator_head : (types : List Name) (c : DeclaratorTree) (r : Tokens) → IsOrdinary types (declarator_name c) → begins_declarator (kind types (onto_declarator c r)) ≡ true
declarator_head types (plain ss n) r new = stars_head types ss _ (ap begins_declarator (kind_name types n _ new))
declarator_head types (array ss n xs) r new = stars_head types ss _ (ap begins_declarator (kind_name types n _ new))
declarator_head types (function ss n ps v) r new = stars_head types ss _ (ap begins_declarator (kind_name types n _ new))
declarator_head types (pointer ss qs n xs ps v) r new = stars_head types ss _ (ap begins_declarator (kind_at types k.OpenParen [] _ tt))
