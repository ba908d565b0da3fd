-- Lists of names of which none is taken.
use Rattle.std.proofs.Common.{◌≡◌, Bool, true, false, ◌||◌, List, [], ◌∷◌, ◌++◌, refl, sym, ap, subst, ◌∙◌}
use Rattle.std.specs.Str.{bytes_eq}
use Rattle.std.proofs.lemmas.List.Folds.{list_any-append}
use Rattle.std.proofs.lemmas.Slice.Eq.{bytes_eq-Decides}
use Rattle.c_tree.specs.Tree.{Name, DeclaratorTree, plain, array, function, pointer}
use Rattle.c_tree.specs.TypeWords.{is_among, IsOrdinary}
use Rattle.c_tree.specs.DeclaredNames.{declarator_name, declared_inside, declared_declarator, declared_sizes, declared_parameters}

-- none of the declared names is taken
abbrev pub Avoids : List Name → List Name → Type 0
Avoids taken declared = (n : Name) → is_among declared n ≡ true → is_among taken n ≡ false

or_true : (b : Bool) → b || true ≡ true
or_true true = refl
or_true false = refl

same_name : (n : Name) → bytes_eq n n ≡ true
same_name n = (bytes_eq-Decides n n).1 refl

among_left : (xs ys : List Name) (n : Name) → is_among xs n ≡ true → is_among (xs ++ ys) n ≡ true
among_left xs ys n e = list_any-append (bytes_eq n) xs ys ∙ ap (λ v. v || is_among ys n) e

among_right : (xs ys : List Name) (n : Name) → is_among ys n ≡ true → is_among (xs ++ ys) n ≡ true
among_right xs ys n e = list_any-append (bytes_eq n) xs ys ∙ ap (λ v. is_among xs n || v) e ∙ or_true (is_among xs n)

among_first : (n : Name) (ns : List Name) → is_among (n ∷ ns) n ≡ true
among_first n ns = ap (λ v. v || is_among ns n) (same_name n)

among_later : (m n : Name) (ns : List Name) → is_among ns n ≡ true → is_among (m ∷ ns) n ≡ true
among_later m n ns e = ap (λ v. bytes_eq n m || v) e ∙ or_true (bytes_eq n m)

-- the first of two lists of declared names
pub avoids_left : (ts xs ys : List Name) → Avoids ts (xs ++ ys) → Avoids ts xs
avoids_left ts xs ys h = λ n e. h n (among_left xs ys n e)

-- the second of two lists of declared names
pub avoids_right : (ts xs ys : List Name) → Avoids ts (xs ++ ys) → Avoids ts ys
avoids_right ts xs ys h = λ n e. h n (among_right xs ys n e)

-- the first declared name is not taken
pub avoids_head : (ts : List Name) (n : Name) (ns : List Name) → Avoids ts (n ∷ ns) → is_among ts n ≡ false
avoids_head ts n ns h = h n (among_first n ns)

-- nor are those behind it
pub avoids_tail : (ts : List Name) (n : Name) (ns : List Name) → Avoids ts (n ∷ ns) → Avoids ts ns
avoids_tail ts n ns h = λ m e. h m (among_later n m ns e)

-- where no name is taken, every list will do
pub avoids_nothing : (ds : List Name) → Avoids [] ds
avoids_nothing ds = λ n e. refl

only : (n m : Name) (ds : List Name) → IsOrdinary ds n → is_among ds m ≡ true → (test : Bool) → bytes_eq m n ≡ test → test || false ≡ false
only n m ds new e true is = sym (subst (λ v. is_among ds v ≡ true) ((bytes_eq-Decides m n).0 is) e) ∙ new
only n m ds new e false is = refl

-- where one name is taken, every list will do in which it does not stand
pub avoids_one : (n : Name) (ds : List Name) → IsOrdinary ds n → Avoids (n ∷ []) ds
avoids_one n ds new = λ m e. only n m ds new e (bytes_eq m n) refl

alone : (n : Name) (ds : List Name) → Avoids (n ∷ []) ds → (test : Bool) → is_among ds n ≡ test → test ≡ false
alone n ds h true e = sym (among_first n []) ∙ h n e
alone n ds h false e = refl

-- where one name is taken, it does not stand in a list that will do
pub avoids_itself : (n : Name) (ds : List Name) → Avoids (n ∷ []) ds → IsOrdinary ds n
avoids_itself n ds h = alone n ds h (is_among ds n) refl

-- where no name is declared, none is taken
pub avoids_none : (ts : List Name) → Avoids ts []
avoids_none ts = λ n e. absurd (cc)

either : (ts xs ys : List Name) (n : Name) → Avoids ts xs → Avoids ts ys → (test : Bool) → is_among xs n ≡ test → test || is_among ys n ≡ true → is_among ts n ≡ false
either ts xs ys n h g true is e = h n is
either ts xs ys n h g false is e = g n e

-- two lists of declared names
pub avoids_both : (ts xs ys : List Name) → Avoids ts xs → Avoids ts ys → Avoids ts (xs ++ ys)
avoids_both ts xs ys h g = λ n e. either ts xs ys n h g (is_among xs n) refl (sym (list_any-append (bytes_eq n) xs ys) ∙ e)

more : (ts : List Name) (m n : Name) (ns : List Name) → IsOrdinary ts m → Avoids ts ns → (test : Bool) → bytes_eq n m ≡ test → test || is_among ns n ≡ true → is_among ts n ≡ false
more ts m n ns new h true is e = subst (λ v. is_among ts v ≡ false) (sym ((bytes_eq-Decides n m).0 is)) new
more ts m n ns new h false is e = h n e

-- a declared name before others
pub avoids_more : (ts : List Name) (n : Name) (ns : List Name) → IsOrdinary ts n → Avoids ts ns → Avoids ts (n ∷ ns)
avoids_more ts n ns new h = λ m e. more ts n m ns new h (bytes_eq m n) refl e

-- the name that a declarator declares, and those that its sizes and parameters declare
pub avoids_declarator : (ts : List Name) (c : DeclaratorTree) → IsOrdinary ts (declarator_name c) → Avoids ts (declared_inside c) → Avoids ts (declared_declarator c)
avoids_declarator ts (plain ss n) new h = avoids_more ts n [] new h
avoids_declarator ts (array ss n xs) new h = avoids_more ts n (declared_sizes xs) new h
avoids_declarator ts (function ss n ps v) new h = avoids_more ts n (declared_parameters ps) new h
avoids_declarator ts (pointer ss qs n xs ps v) new h = avoids_more ts n (declared_sizes xs ++ declared_parameters ps) new h

-- the name that a declarator declares is not taken
pub avoids_name : (ts : List Name) (c : DeclaratorTree) → Avoids ts (declared_declarator c) → IsOrdinary ts (declarator_name c)
avoids_name ts (plain ss n) h = avoids_head ts n [] h
avoids_name ts (array ss n xs) h = avoids_head ts n (declared_sizes xs) h
avoids_name ts (function ss n ps v) h = avoids_head ts n (declared_parameters ps) h
avoids_name ts (pointer ss qs n xs ps v) h = avoids_head ts n (declared_sizes xs ++ declared_parameters ps) h

-- nor are those that its sizes and parameters declare
pub avoids_inside : (ts : List Name) (c : DeclaratorTree) → Avoids ts (declared_declarator c) → Avoids ts (declared_inside c)
avoids_inside ts (plain ss n) h = avoids_tail ts n [] h
avoids_inside ts (array ss n xs) h = avoids_tail ts n (declared_sizes xs) h
avoids_inside ts (function ss n ps v) h = avoids_tail ts n (declared_parameters ps) h
avoids_inside ts (pointer ss qs n xs ps v) h = avoids_tail ts n (declared_sizes xs ++ declared_parameters ps) h
