-- What kinds of tokens say of the tokens, and the kinds of operators.
use Rattle.std.proofs.Common.{◌≡◌, ◌≢◌, ◌<◌, ◌≤◌, Bool, true, false, ◌&&◌, ◌||◌, List, [], ◌∷◌, ◌++◌, length, get_or, Some, cond, refl, sym, ap, subst, ◌∙◌, rules, arith}
use Rattle.std.specs.Str.{bytes_eq}
use Rattle.std.proofs.lemmas.List.Folds.{list_any-append}
use Rattle.std.proofs.lemmas.Slice.Eq.{bytes_eq-Decides}
use denote.Enum.Bare.{same_true as the_same_true, same_false as the_same_false, true_same, false_same as the_false_same}
use Rattle.base_core.specs.declared.token.Class.{Class}
use Rattle.base_core.specs.declared.token.Class.TheVariants as class
use Rattle.base_core.specs.declared.token.Token.{Token}
use Rattle.c_tree.specs.declared.tree.AssignOp.{AssignOp}
use Rattle.c_tree.specs.declared.tree.AssignOp.TheVariants as a
use Rattle.c_tree.specs.declared.tree.BinaryOp.{BinaryOp}
use Rattle.c_tree.specs.declared.tree.BinaryOp.TheVariants as b
use Rattle.c_tree.specs.declared.tree.UnaryOp.{UnaryOp}
use Rattle.c_tree.specs.declared.tree.UnaryOp.TheVariants as u
use Rattle.c_tree.specs.declared.tree.StepOp.{StepOp}
use Rattle.c_tree.specs.declared.tree.StepOp.TheVariants as s
use Rattle.c_tree.specs.Tree.{Name}
use Rattle.c_tree.specs.TypeWords.{is_among}
use Rattle.c_tree.specs.Marks.{Tokens, name_token, mark, op_text, assign_text, unary_text, step_text}
use Rattle.c_grammar.specs.declared.kind.Kind.{Kind}
use Rattle.c_grammar.specs.declared.kind.Kind.TheVariants as k
use Rattle.c_grammar.specs.contracts.kind.Kind.{the_type}
use Rattle.c_grammar.specs.Kind.{same_kind, token_of, keywords, marks, text_of, among, keyword_kind, mark_kind, kind_by, kind_of, sorted, kind, IsReal, IsUnnamed, IsFixed, head_text, binary_operator, assignment_operator, unary_operator, step_operator, operator_kind, assignment_kind, unary_kind, step_kind}

-- ---- whether two kinds are the same

-- a kind is the same as itself
pub same_refl : (x : Kind) → same_kind x x ≡ true
unfolding same_kind
same_refl x = true_same the_type x x refl

-- where the test holds, the kinds are equal
pub same_true : (x y : Kind) → same_kind x y ≡ true → x ≡ y
unfolding same_kind
same_true x y e = the_same_true the_type (search rules) x y e

-- where the test fails, the kinds differ
pub same_false : (x y : Kind) → same_kind x y ≡ false → x ≢ y
unfolding same_kind
same_false x y e = the_same_false the_type x y e

-- the test fails where the kinds differ
pub false_same : (x y : Kind) → x ≢ y → same_kind x y ≡ false
unfolding same_kind
false_same x y h = the_false_same the_type (search rules) x y h

-- ---- the kind of a given token

-- at the end there is no token
pub kind_end : (types : List Name) → kind types [] ≡ k.Nothing
unfolding kind
kind_end types = refl

-- a token has the kind that it is made of
pub kind_at : (types : List Name) (x : Kind) (n : Name) (us : Tokens) → IsFixed x → kind types (token_of x n ∷ us) ≡ x
unfolding kind keyword_kind mark_kind
kind_at types k.Nothing n us h = absurd h
kind_at types k.Foreign n us h = absurd h
kind_at types k.Name n us h = absurd h
kind_at types k.TypeName n us h = absurd h
kind_at types _ n us h = refl

-- a fixed kind is real
pub fixed_real : (x : Kind) → IsFixed x → IsReal x
fixed_real k.Nothing h = absurd h
fixed_real k.Foreign h = absurd h
fixed_real _ h = tt

-- no name has a fixed kind
pub fixed_unnamed : (x : Kind) → IsFixed x → IsUnnamed x
fixed_unnamed k.Name h = absurd h
fixed_unnamed k.TypeName h = absurd h
fixed_unnamed _ h = tt

-- a name that is no type is a name
pub kind_name : (types : List Name) (n : Name) (us : Tokens) → is_among types n ≡ false → kind types (name_token n ∷ us) ≡ k.Name
unfolding kind
kind_name types n us e = rw e refl

-- a name that is a type is a type name
pub kind_type : (types : List Name) (n : Name) (us : Tokens) → is_among types n ≡ true → kind types (name_token n ∷ us) ≡ k.TypeName
unfolding kind
kind_type types n us e = rw e refl

-- ---- the token of a given kind

fixed_sorted : (types : List Name) (x : Kind) (n : Name) → IsFixed x → sorted types x n ≡ x
fixed_sorted types k.Name n h = absurd h
fixed_sorted types _ n h = refl

-- kinds of this class, each of whose tokens has one text
abbrev AllOf : Class → List Kind → Type 0
AllOf c [] = Unit {0}
AllOf c (x ∷ xs) = ((token_of x []).class ≡ c) × IsFixed x × AllOf c xs

all_keywords : AllOf class.Keyword keywords
all_keywords = search rules

all_marks : AllOf class.Punctuator marks
all_marks = search rules

-- what is shown of a token of this class and text, whose kind is x
abbrev Shows : Class → Name → Kind → Type 0
Shows c n x = (m : Name) × ((let t : Token = record { class = c; lexeme = n } in t) ≡ token_of x m)

found_here : (c : Class) (n : Name) (x y : Kind) (types : List Name) → (token_of x []).class ≡ c → IsFixed x → n ≡ text_of x → sorted types x n ≡ y → Shows c n y
found_here c n x y types of fixed e is =
    let same : x ≡ y = sym (fixed_sorted types x n fixed) ∙ is in
    let here : (let t : Token = record { class = c; lexeme = n } in t) ≡ token_of x [] = rw (e, ← of) refl in
    ([], here ∙ ap (λ z. token_of z []) same)

found_one : (c : Class) (n : Name) (x y : Kind) (other : Kind) (types : List Name) (test : Bool) → (token_of x []).class ≡ c → IsFixed x → bytes_eq n (text_of x) ≡ test → (sorted types other n ≡ y → Shows c n y)
    → sorted types (cond test x other) n ≡ y → Shows c n y
found_one c n x y other types true of fixed e more is = found_here c n x y types of fixed ((bytes_eq-Decides n (text_of x)).0 e) is
found_one c n x y other types false of fixed e more is = more is

found : (c : Class) (xs : List Kind) (n : Name) (y : Kind) (types : List Name) → AllOf c xs → IsReal y → sorted types (among xs n) n ≡ y → Shows c n y
found c [] n y types of real is = absurd (subst IsReal (sym is) real)
found c (x ∷ xs) n y types of real is = found_one c n x y (among xs n) types (bytes_eq n (text_of x)) of.0 of.1 refl (λ e. found c xs n y types of.2 real e) is

found_name : (n : Name) (y : Kind) (test : Bool) → cond test k.TypeName k.Name ≡ y → Shows class.Name n y
found_name n y true is = (n, ap (λ z. token_of z n) is)
found_name n y false is = (n, ap (λ z. token_of z n) is)

shown : (c : Class) (n : Name) (y : Kind) (types : List Name) → IsReal y → sorted types (kind_by c n) n ≡ y → Shows c n y
unfolding keyword_kind mark_kind
shown class.Keyword n y types real is = found class.Keyword keywords n y types all_keywords real is
shown class.Name n y types real is = found_name n y (is_among types n) is
shown class.Integer n y types real is = (n, ap (λ z. token_of z n) is)
shown class.Character n y types real is = (n, ap (λ z. token_of z n) is)
shown class.Text n y types real is = (n, ap (λ z. token_of z n) is)
shown class.Punctuator n y types real is = found class.Punctuator marks n y types all_marks real is

-- where the next token has a real kind, it is a token of that kind
pub head_is : (types : List Name) (ts : Tokens) (x : Kind) → kind types ts ≡ x → IsReal x → (n : Name) × (us : Tokens) × (ts ≡ token_of x n ∷ us)
unfolding kind
head_is types [] x is real = absurd (subst IsReal (sym is) real)
head_is types (t ∷ us) x is real =
    let h = shown t.class t.lexeme x types real is in
    (h.0, us, ap (λ v. v ∷ us) h.1)

named : (types : List Name) (n : Name) (test : Bool) → is_among types n ≡ test → cond test k.TypeName k.Name ≡ k.Name → is_among types n ≡ false
named types n true e is = absurd (cc)
named types n false e is = e

typed : (types : List Name) (n : Name) (test : Bool) → is_among types n ≡ test → cond test k.TypeName k.Name ≡ k.TypeName → is_among types n ≡ true
typed types n true e is = e
typed types n false e is = absurd (cc)

-- where the next token is a name, it is one that is no type
pub name_head : (types : List Name) (ts : Tokens) → kind types ts ≡ k.Name → (n : Name) × (us : Tokens) × (ts ≡ name_token n ∷ us) × (is_among types n ≡ false)
unfolding kind
name_head types ts is =
    let h = head_is types ts k.Name is tt in
    let e : kind types (name_token h.0 ∷ h.1) ≡ k.Name = ap (λ v. kind types v) (sym h.2) ∙ is in
    (h.0, h.1, h.2, named types h.0 (is_among types h.0) refl e)

-- where the next token is a type name, it is a name that is a type
pub type_head : (types : List Name) (ts : Tokens) → kind types ts ≡ k.TypeName → (n : Name) × (us : Tokens) × (ts ≡ name_token n ∷ us) × (is_among types n ≡ true)
unfolding kind
type_head types ts is =
    let h = head_is types ts k.TypeName is tt in
    let e : kind types (name_token h.0 ∷ h.1) ≡ k.TypeName = ap (λ v. kind types v) (sym h.2) ∙ is in
    (h.0, h.1, h.2, typed types h.0 (is_among types h.0) refl e)

some_one : (x other : Kind) (n : Name) (types : List Name) (test : Bool) → IsFixed x → (sorted types other n ≡ k.Nothing → ⊥) → sorted types (cond test x other) n ≡ k.Nothing → ⊥
some_one x other n types true fixed more e =
    let none : x ≡ k.Nothing = sym (fixed_sorted types x n fixed) ∙ e in
    subst IsFixed none fixed
some_one x other n types false fixed more e = more e

some_among : (c : Class) (xs : List Kind) (n : Name) (types : List Name) → AllOf c xs → sorted types (among xs n) n ≡ k.Nothing → ⊥
some_among c [] n types of e = absurd (cc)
some_among c (x ∷ xs) n types of e = some_one x (among xs n) n types (bytes_eq n (text_of x)) of.1 (λ is. some_among c xs n types of.2 is) e

some_name : (test : Bool) → cond test k.TypeName k.Name ≡ k.Nothing → ⊥
some_name true e = absurd (cc)
some_name false e = absurd (cc)

some_kind : (c : Class) (n : Name) (types : List Name) → sorted types (kind_by c n) n ≡ k.Nothing → ⊥
unfolding keyword_kind mark_kind
some_kind class.Keyword n types e = some_among class.Keyword keywords n types all_keywords e
some_kind class.Name n types e = some_name (is_among types n) e
some_kind class.Integer n types e = absurd (cc)
some_kind class.Character n types e = absurd (cc)
some_kind class.Text n types e = absurd (cc)
some_kind class.Punctuator n types e = some_among class.Punctuator marks n types all_marks e

-- ---- which names are types

sorted_same : (types others : List Name) (x y : Kind) (n : Name) → IsUnnamed y → sorted types x n ≡ y → sorted others x n ≡ y
sorted_same types others k.Name y n un is = absurd (unnamed (is_among types n) is)
  where
    unnamed : (test : Bool) → cond test k.TypeName k.Name ≡ y → ⊥
    unnamed true e = subst IsUnnamed (sym e) un
    unnamed false e = subst IsUnnamed (sym e) un
sorted_same types others _ y n un is = is

-- a kind that no name has is the same whichever names are types
pub kind_same : (types others : List Name) (ts : Tokens) (x : Kind) → IsUnnamed x → kind types ts ≡ x → kind others ts ≡ x
unfolding kind
kind_same types others [] x un is = is
kind_same types others (t ∷ us) x un is = sorted_same types others (kind_of t) x t.lexeme un is

sorted_twice : (types : List Name) (x : Kind) (n : Name) → sorted types x n ≡ sorted types (sorted [] x n) n
sorted_twice types k.Name n = refl
sorted_twice types _ n = refl

-- the kind where some names are types, from the kind where none is
pub kind_sorted : (types : List Name) (ts : Tokens) → kind types ts ≡ sorted types (kind [] ts) (head_text ts)
unfolding kind
kind_sorted types [] = refl
kind_sorted types (t ∷ us) = sorted_twice types (kind_of t) t.lexeme

sorted_none : (x : Kind) (n : Name) → sorted [] x n ≡ x
sorted_none k.Name n = refl
sorted_none _ n = refl

-- ---- where the names of two lists are types

neither : (a b : Bool) → (a || b) ≡ false → (a ≡ false) × (b ≡ false)
neither true b e = absurd (cc)
neither false b e = (refl, e)

-- a name that is in neither list
pub among_neither : (ns types : List Name) (n : Name) → is_among (ns ++ types) n ≡ false → (is_among ns n ≡ false) × (is_among types n ≡ false)
among_neither ns types n e = neither (is_among ns n) (is_among types n) (sym (list_any-append (bytes_eq n) ns types) ∙ e)

pub neither_among : (ns types : List Name) (n : Name) → is_among ns n ≡ false → is_among types n ≡ false → is_among (ns ++ types) n ≡ false
neither_among ns types n a b = list_any-append (bytes_eq n) ns types ∙ ap (λ v. v || is_among types n) a ∙ b

sorted_beside : (ns types : List Name) (x : Kind) (n : Name) → sorted (ns ++ types) x n ≡ cond (same_kind x k.Name && (is_among ns n || is_among types n)) k.TypeName x
unfolding same_kind
sorted_beside ns types k.Name n = ap (λ v. cond v k.TypeName k.Name) (list_any-append (bytes_eq n) ns types)
sorted_beside ns types _ n = refl

-- the kind there, from the kind where no name is a type
pub kind_beside : (ns types : List Name) (ts : Tokens) →
    kind (ns ++ types) ts ≡ cond (same_kind (kind [] ts) k.Name && (is_among ns (head_text ts) || is_among types (head_text ts))) k.TypeName (kind [] ts)
kind_beside ns types ts = kind_sorted (ns ++ types) ts ∙ sorted_beside ns types (kind [] ts) (head_text ts)

-- where no name is a type, the kind of the next token is its kind anywhere
pub kind_first : (t : Token) (us : Tokens) → kind [] (t ∷ us) ≡ kind_of t
unfolding kind
kind_first t us = sorted_none (kind_of t) t.lexeme

-- where no name is a type, the kind of the next token is the kind of the first
pub kind_of_first : (ts : Tokens) (t : Token) → 1 ≤ length ts → t ≡ get_or ts 0 t → kind_of t ≡ kind [] ts
kind_of_first [] t some e = absurd (omega arith)
kind_of_first (u ∷ us) t some e = ap (λ v. kind_of v) e ∙ sym (kind_first u us)

-- where no token is left, there is none
pub kind_of_none : (ts : Tokens) → length ts < 1 → k.Nothing ≡ kind [] ts
kind_of_none [] none = sym (kind_end [])
kind_of_none (u ∷ us) none = absurd (omega arith)

-- only at the end is there no token
pub end_head : (types : List Name) (ts : Tokens) → kind types ts ≡ k.Nothing → ts ≡ []
unfolding kind
end_head types [] e = refl
end_head types (t ∷ us) e = absurd (some_kind t.class t.lexeme types e)

-- ---- operators

-- the kind of a binary operator is read as that operator
pub operator_at : (o : BinaryOp) → binary_operator (operator_kind o) ≡ Some o
operator_at b.Or = refl
operator_at b.And = refl
operator_at b.BitOr = refl
operator_at b.BitXor = refl
operator_at b.BitAnd = refl
operator_at b.Equal = refl
operator_at b.Unequal = refl
operator_at b.Less = refl
operator_at b.Greater = refl
operator_at b.AtMost = refl
operator_at b.AtLeast = refl
operator_at b.ShiftLeft = refl
operator_at b.ShiftRight = refl
operator_at b.Add = refl
operator_at b.Sub = refl
operator_at b.Mul = refl
operator_at b.Div = refl
operator_at b.Rem = refl

-- only the kind of a binary operator is read as that operator
pub operator_back : (x : Kind) (o : BinaryOp) → binary_operator x ≡ Some o → x ≡ operator_kind o
operator_back k.BarBar o e = let same : b.Or ≡ o = cc in ap operator_kind same
operator_back k.AmpersandAmpersand o e = let same : b.And ≡ o = cc in ap operator_kind same
operator_back k.Bar o e = let same : b.BitOr ≡ o = cc in ap operator_kind same
operator_back k.Caret o e = let same : b.BitXor ≡ o = cc in ap operator_kind same
operator_back k.Ampersand o e = let same : b.BitAnd ≡ o = cc in ap operator_kind same
operator_back k.EqualEqual o e = let same : b.Equal ≡ o = cc in ap operator_kind same
operator_back k.NotEqual o e = let same : b.Unequal ≡ o = cc in ap operator_kind same
operator_back k.Less o e = let same : b.Less ≡ o = cc in ap operator_kind same
operator_back k.Greater o e = let same : b.Greater ≡ o = cc in ap operator_kind same
operator_back k.LessEqual o e = let same : b.AtMost ≡ o = cc in ap operator_kind same
operator_back k.GreaterEqual o e = let same : b.AtLeast ≡ o = cc in ap operator_kind same
operator_back k.LessLess o e = let same : b.ShiftLeft ≡ o = cc in ap operator_kind same
operator_back k.GreaterGreater o e = let same : b.ShiftRight ≡ o = cc in ap operator_kind same
operator_back k.Plus o e = let same : b.Add ≡ o = cc in ap operator_kind same
operator_back k.Minus o e = let same : b.Sub ≡ o = cc in ap operator_kind same
operator_back k.Star o e = let same : b.Mul ≡ o = cc in ap operator_kind same
operator_back k.Slash o e = let same : b.Div ≡ o = cc in ap operator_kind same
operator_back k.Percent o e = let same : b.Rem ≡ o = cc in ap operator_kind same
operator_back _ o e = absurd (cc)

-- the kind of a binary operator is fixed
pub operator_fixed : (o : BinaryOp) → IsFixed (operator_kind o)
operator_fixed b.Or = tt
operator_fixed b.And = tt
operator_fixed b.BitOr = tt
operator_fixed b.BitXor = tt
operator_fixed b.BitAnd = tt
operator_fixed b.Equal = tt
operator_fixed b.Unequal = tt
operator_fixed b.Less = tt
operator_fixed b.Greater = tt
operator_fixed b.AtMost = tt
operator_fixed b.AtLeast = tt
operator_fixed b.ShiftLeft = tt
operator_fixed b.ShiftRight = tt
operator_fixed b.Add = tt
operator_fixed b.Sub = tt
operator_fixed b.Mul = tt
operator_fixed b.Div = tt
operator_fixed b.Rem = tt

-- the token of a binary operator is the punctuator with its text
pub operator_mark : (o : BinaryOp) (n : Name) → token_of (operator_kind o) n ≡ mark (op_text o)
operator_mark b.Or n = refl
operator_mark b.And n = refl
operator_mark b.BitOr n = refl
operator_mark b.BitXor n = refl
operator_mark b.BitAnd n = refl
operator_mark b.Equal n = refl
operator_mark b.Unequal n = refl
operator_mark b.Less n = refl
operator_mark b.Greater n = refl
operator_mark b.AtMost n = refl
operator_mark b.AtLeast n = refl
operator_mark b.ShiftLeft n = refl
operator_mark b.ShiftRight n = refl
operator_mark b.Add n = refl
operator_mark b.Sub n = refl
operator_mark b.Mul n = refl
operator_mark b.Div n = refl
operator_mark b.Rem n = refl

-- the kind of an assignment operator is read as that operator
pub assignment_at : (o : AssignOp) → assignment_operator (assignment_kind o) ≡ Some o
assignment_at a.Plain = refl
assignment_at a.Mul = refl
assignment_at a.Div = refl
assignment_at a.Rem = refl
assignment_at a.Add = refl
assignment_at a.Sub = refl
assignment_at a.ShiftLeft = refl
assignment_at a.ShiftRight = refl
assignment_at a.BitAnd = refl
assignment_at a.BitXor = refl
assignment_at a.BitOr = refl

-- only the kind of an assignment operator is read as that operator
pub assignment_back : (x : Kind) (o : AssignOp) → assignment_operator x ≡ Some o → x ≡ assignment_kind o
assignment_back k.Assign o e = let same : a.Plain ≡ o = cc in ap assignment_kind same
assignment_back k.StarAssign o e = let same : a.Mul ≡ o = cc in ap assignment_kind same
assignment_back k.SlashAssign o e = let same : a.Div ≡ o = cc in ap assignment_kind same
assignment_back k.PercentAssign o e = let same : a.Rem ≡ o = cc in ap assignment_kind same
assignment_back k.PlusAssign o e = let same : a.Add ≡ o = cc in ap assignment_kind same
assignment_back k.MinusAssign o e = let same : a.Sub ≡ o = cc in ap assignment_kind same
assignment_back k.LessLessAssign o e = let same : a.ShiftLeft ≡ o = cc in ap assignment_kind same
assignment_back k.GreaterGreaterAssign o e = let same : a.ShiftRight ≡ o = cc in ap assignment_kind same
assignment_back k.AmpersandAssign o e = let same : a.BitAnd ≡ o = cc in ap assignment_kind same
assignment_back k.CaretAssign o e = let same : a.BitXor ≡ o = cc in ap assignment_kind same
assignment_back k.BarAssign o e = let same : a.BitOr ≡ o = cc in ap assignment_kind same
assignment_back _ o e = absurd (cc)

-- the kind of an assignment operator is fixed
pub assignment_fixed : (o : AssignOp) → IsFixed (assignment_kind o)
assignment_fixed a.Plain = tt
assignment_fixed a.Mul = tt
assignment_fixed a.Div = tt
assignment_fixed a.Rem = tt
assignment_fixed a.Add = tt
assignment_fixed a.Sub = tt
assignment_fixed a.ShiftLeft = tt
assignment_fixed a.ShiftRight = tt
assignment_fixed a.BitAnd = tt
assignment_fixed a.BitXor = tt
assignment_fixed a.BitOr = tt

-- the token of an assignment operator is the punctuator with its text
pub assignment_mark : (o : AssignOp) (n : Name) → token_of (assignment_kind o) n ≡ mark (assign_text o)
assignment_mark a.Plain n = refl
assignment_mark a.Mul n = refl
assignment_mark a.Div n = refl
assignment_mark a.Rem n = refl
assignment_mark a.Add n = refl
assignment_mark a.Sub n = refl
assignment_mark a.ShiftLeft n = refl
assignment_mark a.ShiftRight n = refl
assignment_mark a.BitAnd n = refl
assignment_mark a.BitXor n = refl
assignment_mark a.BitOr n = refl

-- the kind of a unary operator is read as that operator
pub unary_at : (o : UnaryOp) → unary_operator (unary_kind o) ≡ Some o
unary_at u.Address = refl
unary_at u.Follow = refl
unary_at u.Plus = refl
unary_at u.Minus = refl
unary_at u.BitNot = refl
unary_at u.Not = refl

-- only the kind of a unary operator is read as that operator
pub unary_back : (x : Kind) (o : UnaryOp) → unary_operator x ≡ Some o → x ≡ unary_kind o
unary_back k.Ampersand o e = let same : u.Address ≡ o = cc in ap unary_kind same
unary_back k.Star o e = let same : u.Follow ≡ o = cc in ap unary_kind same
unary_back k.Plus o e = let same : u.Plus ≡ o = cc in ap unary_kind same
unary_back k.Minus o e = let same : u.Minus ≡ o = cc in ap unary_kind same
unary_back k.Tilde o e = let same : u.BitNot ≡ o = cc in ap unary_kind same
unary_back k.Exclamation o e = let same : u.Not ≡ o = cc in ap unary_kind same
unary_back _ o e = absurd (cc)

-- the kind of a unary operator is fixed
pub unary_fixed : (o : UnaryOp) → IsFixed (unary_kind o)
unary_fixed u.Address = tt
unary_fixed u.Follow = tt
unary_fixed u.Plus = tt
unary_fixed u.Minus = tt
unary_fixed u.BitNot = tt
unary_fixed u.Not = tt

-- the token of a unary operator is the punctuator with its text
pub unary_mark : (o : UnaryOp) (n : Name) → token_of (unary_kind o) n ≡ mark (unary_text o)
unary_mark u.Address n = refl
unary_mark u.Follow n = refl
unary_mark u.Plus n = refl
unary_mark u.Minus n = refl
unary_mark u.BitNot n = refl
unary_mark u.Not n = refl

-- the kind of a step operator is read as that operator
pub step_at : (o : StepOp) → step_operator (step_kind o) ≡ Some o
step_at s.Up = refl
step_at s.Down = refl

-- only the kind of a step operator is read as that operator
pub step_back : (x : Kind) (o : StepOp) → step_operator x ≡ Some o → x ≡ step_kind o
step_back k.PlusPlus o e = let same : s.Up ≡ o = cc in ap step_kind same
step_back k.MinusMinus o e = let same : s.Down ≡ o = cc in ap step_kind same
step_back _ o e = absurd (cc)

-- the kind of a step operator is fixed
pub step_fixed : (o : StepOp) → IsFixed (step_kind o)
step_fixed s.Up = tt
step_fixed s.Down = tt

-- the token of a step operator is the punctuator with its text
pub step_mark : (o : StepOp) (n : Name) → token_of (step_kind o) n ≡ mark (step_text o)
step_mark s.Up n = refl
step_mark s.Down n = refl
