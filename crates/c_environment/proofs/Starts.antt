-- The names before the first item, from the steps that declare them.
use Rattle.std.proofs.Common.{◌≡◌, ℕ, suc, List, [], ◌∷◌, ◌++◌, map, length, Some, Option, None, refl, ap, sym, ◌∙◌}
use Rattle.std.proofs.lemmas.List.{append_assoc, append-nil}
use Rattle.c_scopes.specs.Scope.{Name, Scope, declare}
use Rattle.c_builtins.specs.declared.names.BuiltIn.{BuiltIn}
use Rattle.c_builtins.specs.declared.types.BuiltInType.{BuiltInType}
use Rattle.c_environment.specs.Entity as e
use Rattle.c_environment.specs.Entity.{Entity, Structure}
use Rattle.c_environment.specs.Environment.{Environment}
use Rattle.c_environment.specs.Start.{numbered, libraries, built_in_type, built_in_structure, structure_tags, one_block}
use Rattle.c_environment.specs.Fill.{with_known, with_all_known, known_built_in, known_type, known_rows, with_tags, with_tags_entered, with_built_in_structures, filled, nothing}

-- one more at the front of what follows
one_more : {A : Type 0} (xs : List A) (x : A) (ys : List A) → (xs ++ x ∷ []) ++ ys ≡ xs ++ x ∷ ys
one_more xs x ys = append_assoc xs (x ∷ []) ys

counted : {A : Type 0} (xs : List A) (x : A) → length (xs ++ x ∷ []) ≡ suc (length xs)
counted [] x = refl
counted (y ∷ xs) x = ap suc (counted xs x)

abbrev with_things : Environment → List Entity → Scope → Environment
with_things env es s = record env { entities = es; implementation = s }

abbrev names_of : List (Name × Entity) → List Name
names_of ks = map (λ k. k.0) ks

abbrev things_of : List (Name × Entity) → List Entity
things_of ks = map (λ k. k.1) ks

-- what is known besides, as two lists
all_known : (env : Environment) (ks : List (Name × Entity)) →
    with_all_known env ks ≡ with_things env (env.entities ++ things_of ks) (numbered (length env.entities) (names_of ks) env.implementation)
all_known env [] = ap (λ es. with_things env es env.implementation) (sym (append-nil env.entities))
all_known env (k ∷ ks) =
    all_known (with_known env k) ks
    ∙ ap (λ es. with_things env es (numbered (length (env.entities ++ k.1 ∷ [])) (names_of ks) (declare k.0 (length env.entities) env.implementation))) (one_more env.entities k.1 (things_of ks))
    ∙ ap (λ i. with_things env (env.entities ++ things_of (k ∷ ks)) (numbered i (names_of ks) (declare k.0 (length env.entities) env.implementation))) (counted env.entities k.1)

-- ---- two lists from one

names_both : (ks ls : List (Name × Entity)) → names_of (ks ++ ls) ≡ names_of ks ++ names_of ls
names_both [] ls = refl
names_both (k ∷ ks) ls = ap (λ ns. k.0 ∷ ns) (names_both ks ls)

things_both : (ks ls : List (Name × Entity)) → things_of (ks ++ ls) ≡ things_of ks ++ things_of ls
things_both [] ls = refl
things_both (k ∷ ks) ls = ap (λ es. k.1 ∷ es) (things_both ks ls)

known_both : (env : Environment) (ks ls : List (Name × Entity)) → with_all_known (with_all_known env ks) ls ≡ with_all_known env (ks ++ ls)
known_both env [] ls = refl
known_both env (k ∷ ks) ls = known_both (with_known env k) ks ls

names_of_built_ins : (bs : List (Name × BuiltIn)) → names_of (map known_built_in bs) ≡ map (λ b. b.0) bs
names_of_built_ins [] = refl
names_of_built_ins (b ∷ bs) = ap (λ ns. b.0 ∷ ns) (names_of_built_ins bs)

things_of_built_ins : (bs : List (Name × BuiltIn)) → things_of (map known_built_in bs) ≡ map (λ b. e.built_in b.1) bs
things_of_built_ins [] = refl
things_of_built_ins (b ∷ bs) = ap (λ es. e.built_in b.1 ∷ es) (things_of_built_ins bs)

names_of_types : (ts : List (Name × BuiltInType)) → names_of (map known_type ts) ≡ map (λ b. b.0) ts
names_of_types [] = refl
names_of_types (t ∷ ts) = ap (λ ns. t.0 ∷ ns) (names_of_types ts)

things_of_types : (ts : List (Name × BuiltInType)) → things_of (map known_type ts) ≡ map built_in_type ts
things_of_types [] = refl
things_of_types (t ∷ ts) = ap (λ es. built_in_type t ∷ es) (things_of_types ts)

names_of_rows : (i : ℕ) (rows : List Name) → names_of (known_rows i rows) ≡ rows
names_of_rows i [] = refl
names_of_rows i (n ∷ ns) = ap (λ ms. n ∷ ms) (names_of_rows (suc i) ns)

things_of_rows : (i : ℕ) (rows : List Name) → things_of (known_rows i rows) ≡ libraries i rows
things_of_rows i [] = refl
things_of_rows i (n ∷ ns) = ap (λ es. e.library i ∷ es) (things_of_rows (suc i) ns)

-- the names of the implementation, in order
abbrev known : List (Name × BuiltIn) → List (Name × BuiltInType) → List Name → List (Name × Entity)
known bs ts rows = map known_built_in bs ++ (map known_type ts ++ known_rows 0 rows)

known_names : (bs : List (Name × BuiltIn)) (ts : List (Name × BuiltInType)) (rows : List Name) → names_of (known bs ts rows) ≡ map (λ b. b.0) bs ++ (map (λ b. b.0) ts ++ rows)
known_names bs ts rows =
    names_both (map known_built_in bs) (map known_type ts ++ known_rows 0 rows)
    ∙ ap (λ ns. ns ++ names_of (map known_type ts ++ known_rows 0 rows)) (names_of_built_ins bs)
    ∙ ap (λ ns. map (λ b. b.0) bs ++ ns) (names_both (map known_type ts) (known_rows 0 rows) ∙ ap (λ ns. ns ++ names_of (known_rows 0 rows)) (names_of_types ts) ∙ ap (λ ns. map (λ b. b.0) ts ++ ns) (names_of_rows 0 rows))

known_things : (bs : List (Name × BuiltIn)) (ts : List (Name × BuiltInType)) (rows : List Name) → things_of (known bs ts rows) ≡ map (λ b. e.built_in b.1) bs ++ (map built_in_type ts ++ libraries 0 rows)
known_things bs ts rows =
    things_both (map known_built_in bs) (map known_type ts ++ known_rows 0 rows)
    ∙ ap (λ es. es ++ things_of (map known_type ts ++ known_rows 0 rows)) (things_of_built_ins bs)
    ∙ ap (λ es. map (λ b. e.built_in b.1) bs ++ es) (things_both (map known_type ts) (known_rows 0 rows) ∙ ap (λ es. es ++ things_of (known_rows 0 rows)) (things_of_types ts) ∙ ap (λ es. map built_in_type ts ++ es) (things_of_rows 0 rows))

-- ---- tags and structures

abbrev with_tagged : Environment → Scope → List (Option ℕ) → Environment
with_tagged env s ts = record env { tags = s; tagged = ts }

all_tags : (env : Environment) (i : ℕ) (ns : List Name) → with_tags env i ns ≡ with_tagged env (numbered (length env.tagged) ns env.tags) (env.tagged ++ structure_tags i ns)
all_tags env i [] = ap (with_tagged env env.tags) (sym (append-nil env.tagged))
all_tags env i (n ∷ ns) =
    all_tags (with_tagged env (declare n (length env.tagged) env.tags) (env.tagged ++ Some i ∷ [])) (suc i) ns
    ∙ ap (λ j. with_tagged env (numbered j ns (declare n (length env.tagged) env.tags)) ((env.tagged ++ Some i ∷ []) ++ structure_tags (suc i) ns)) (counted env.tagged (Some i))
    ∙ ap (with_tagged env (numbered (length env.tagged) (n ∷ ns) env.tags)) (one_more env.tagged (Some i) (structure_tags (suc i) ns))

abbrev with_structures : Environment → List Structure → Environment
with_structures env ss = record env { structures = ss }

all_structures : (env : Environment) (mss : List (List (Name × BuiltInType))) → with_built_in_structures env mss ≡ with_structures env (env.structures ++ map built_in_structure mss)
all_structures env [] = ap (with_structures env) (sym (append-nil env.structures))
all_structures env (ms ∷ mss) = all_structures (with_structures env (env.structures ++ built_in_structure ms ∷ [])) mss ∙ ap (with_structures env) (one_more env.structures (built_in_structure ms) (map built_in_structure mss))

-- ---- all of them

-- what is declared before the first item of a unit with these functions and objects, over these names of the implementation
abbrev pub started : List (Name × BuiltIn) → List (Name × BuiltInType) → List Name → List Name → List (List (Name × BuiltInType)) → Scope → Scope → Environment
started bs ts rows gs mss fs os = record {
  entities = map (λ b. e.built_in b.1) bs ++ (map built_in_type ts ++ libraries 0 rows);
  names = one_block;
  implementation = numbered 0 (map (λ b. b.0) bs ++ (map (λ b. b.0) ts ++ rows)) one_block;
  linked = one_block;
  tags = [] ∷ numbered 0 gs one_block;
  tagged = structure_tags 0 gs;
  structures = map built_in_structure mss;
  variables = 0;
  inside = None;
  functions = fs;
  objects = os;
  initialised = one_block;
  labels = one_block;
}

known_is : (fs os : Scope) (bs : List (Name × BuiltIn)) (ts : List (Name × BuiltInType)) (rows : List Name) →
    with_all_known (with_all_known (with_all_known (nothing fs os) (map known_built_in bs)) (map known_type ts)) (known_rows 0 rows)
    ≡ with_things (nothing fs os) (map (λ b. e.built_in b.1) bs ++ (map built_in_type ts ++ libraries 0 rows)) (numbered 0 (map (λ b. b.0) bs ++ (map (λ b. b.0) ts ++ rows)) one_block)
known_is fs os bs ts rows =
    known_both (with_all_known (nothing fs os) (map known_built_in bs)) (map known_type ts) (known_rows 0 rows)
    ∙ known_both (nothing fs os) (map known_built_in bs) (map known_type ts ++ known_rows 0 rows)
    ∙ all_known (nothing fs os) (known bs ts rows)
    ∙ ap (λ es. with_things (nothing fs os) es (numbered 0 (names_of (known bs ts rows)) one_block)) (known_things bs ts rows)
    ∙ ap (λ ns. with_things (nothing fs os) (map (λ b. e.built_in b.1) bs ++ (map built_in_type ts ++ libraries 0 rows)) (numbered 0 ns one_block)) (known_names bs ts rows)

pub filled_is : (fs os : Scope) (bs : List (Name × BuiltIn)) (ts : List (Name × BuiltInType)) (rows : List Name) (gs : List Name) (mss : List (List (Name × BuiltInType))) →
    filled (nothing fs os) bs ts rows gs mss ≡ started bs ts rows gs mss fs os
filled_is fs os bs ts rows gs mss =
    let env = with_things (nothing fs os) (map (λ b. e.built_in b.1) bs ++ (map built_in_type ts ++ libraries 0 rows)) (numbered 0 (map (λ b. b.0) bs ++ (map (λ b. b.0) ts ++ rows)) one_block) in
    ap (λ v. with_built_in_structures (with_tags_entered (with_tags v 0 gs)) mss) (known_is fs os bs ts rows)
    ∙ ap (λ v. with_built_in_structures (with_tags_entered v) mss) (all_tags env 0 gs)
    ∙ all_structures (with_tags_entered (with_tagged env (numbered 0 gs one_block) (structure_tags 0 gs))) mss
