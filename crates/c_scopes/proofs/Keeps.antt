-- The table of names, kept as blocks change.
use Rattle.std.proofs.Common.{◌≡◌, ℕ, suc, ◌+◌, ◌-◌, ◌<◌, List, [], ◌∷◌, ◌++◌, length, take, map, reverse, Some, IsSome, Bool, true, false, refl, ap, sym, subst, ◌∙◌, arith}
use Rattle.std.specs.Prelude.{bytes_eq, cond, slice_get}
use Rattle.std.proofs.Math.Seq.{take-length, take-suc}
use Rattle.std.proofs.lemmas.Option.{slice_get_within, get_or_from_slice_get}
use Rattle.std.proofs.lemmas.List.{reverse-append, reverse-reverse}
use Rattle.std.specs.Borrow.{Bor}
use Rattle.std.specs.HashMap.{HashMap}
use Rattle.std.proofs.lemmas.Map.Text.{hash_map_updates_str}
use Rattle.std.proofs.lemmas.Slice.Eq.{bytes_eq-Decides}
use Rattle.c_scopes.specs.Scope.{Name, Scope, enter, leave, declare, declare_around}
use Rattle.c_scopes.specs.Kept.{entry, pair, seen, kept, with_all, IsKept, Changes}
use Rattle.c_scopes.proofs.Entries.{entry_behind}
use Rattle.c_scopes.specs.declared.scope.Entry.{Entry}
use Rattle.c_scopes.specs.declared.scope.Declared.{Declared}

pub declares : {S : Type 0} (old new : HashMap (Bor (List ℕ)) Entry S) (d : Declared) (b : List Declared) (bs : List (List Declared)) (depth : ℕ) → depth + 1 ≡ length (seen (b ∷ bs)) →
    Changes old new d.name.now (Some (record { depth = depth; what = d.what })) → d.before ≡ kept old d.name.now → IsKept old (b ∷ bs) → IsKept new ((d ∷ b) ∷ bs)
declares old new d b bs depth deep changes before is = record {
  holds = λ n.
      hash_map_updates_str d.name.now old new (Some (record { depth = depth; what = d.what })) changes n
      ∙ ap (λ o. cond (bytes_eq d.name.now n) (Some (record { depth = depth; what = d.what })) o) (is.holds n)
      ∙ ap (λ k. cond (bytes_eq d.name.now n) (Some (record { depth = k; what = d.what })) (entry (seen (b ∷ bs)) n)) (omega arith)
      ∙ sym (entry_behind (map pair b) (seen bs) d.name.now d.what n);
  blocks = ((before ∙ is.holds d.name.now, is.blocks.0), is.blocks.1);
}

-- a name's entry before it was declared last
taken_back : (d : Declared) (b : List Declared) (bs : Scope) (n : Name) (same : Bool) → bytes_eq d.name.now n ≡ same → d.before ≡ entry (map pair b ∷ bs) d.name.now →
    cond same d.before (entry (((pair d) ∷ map pair b) ∷ bs) n) ≡ entry (map pair b ∷ bs) n
taken_back d b bs n true is before = before ∙ ap (entry (map pair b ∷ bs)) ((bytes_eq-Decides d.name.now n).0 is)
taken_back d b bs n false is before = entry_behind (map pair b) bs d.name.now d.what n ∙ ap (λ t. cond t (Some (record { depth = length bs; what = d.what })) (entry (map pair b ∷ bs) n)) is

pub undoes : {S : Type 0} (old new : HashMap (Bor (List ℕ)) Entry S) (d : Declared) (b : List Declared) (bs : List (List Declared)) →
    Changes old new d.name.now d.before → IsKept old ((d ∷ b) ∷ bs) → IsKept new (b ∷ bs)
undoes old new d b bs changes is = record {
  holds = λ n.
      hash_map_updates_str d.name.now old new d.before changes n
      ∙ ap (λ o. cond (bytes_eq d.name.now n) d.before o) (is.holds n)
      ∙ taken_back d b (seen bs) n (bytes_eq d.name.now n) refl is.blocks.0.0;
  blocks = (is.blocks.0.1, is.blocks.1);
}

-- the name that was declared last is known
pub stands : {S : Type 0} (known : HashMap (Bor (List ℕ)) Entry S) (d : Declared) (b : List Declared) (bs : List (List Declared)) → IsKept known ((d ∷ b) ∷ bs) → IsSome (kept known d.name.now)
stands known d b bs is =
    rw (is.holds d.name.now) (rw (entry_behind (map pair b) (seen bs) d.name.now d.what d.name.now)
    (rw ((bytes_eq-Decides d.name.now d.name.now).1 refl) refl))

-- a list is what is left without its last element, and that
pub at_end : {A : Type 0} (old new : List A) (n : ℕ) (x : A) → n ≡ length old → Some x ≡ slice_get old (n - 1) → new ≡ take (n - 1) old → old ≡ new ++ x ∷ []
at_end old new n x len is rest =
    let within : n - 1 < length old = slice_get_within old (n - 1) x (sym is) in
    let whole : length old ≡ suc (n - 1) = omega arith in
    sym (take-length old)
    ∙ ap (λ k. take k old) whole
    ∙ take-suc old (n - 1) x within
    ∙ ap (λ y. take (n - 1) old ++ y ∷ []) (get_or_from_slice_get old (n - 1) x x (sym is))
    ∙ ap (λ ys. ys ++ x ∷ []) (sym rest)

-- one more at the end is one more at the front
pub reverse-push : {A : Type 0} (xs : List A) (x : A) → reverse (xs ++ x ∷ []) ≡ x ∷ reverse xs
reverse-push xs x = reverse-append xs (x ∷ [])

-- ---- the names of a block, declared again

all_and : (bs : Scope) (ds es : List Declared) → with_all bs (ds ++ es) ≡ with_all (with_all bs ds) es
all_and bs [] es = refl
all_and bs (d ∷ ds) es = all_and (declare d.name.now d.what bs) ds es

-- in the order in which they were declared they are the block
all_again : (b : List Declared) (bs : Scope) → with_all ([] ∷ bs) (reverse b) ≡ map pair b ∷ bs
all_again [] bs = refl
all_again (d ∷ b) bs = ap (with_all ([] ∷ bs)) (reverse-append (d ∷ []) b) ∙ all_and ([] ∷ bs) (reverse b) (d ∷ []) ∙ ap (declare d.name.now d.what) (all_again b bs)

in_around : (items : List Declared) (bs : Scope) (n : Name) (x : ℕ) → 1 < length (map pair (reverse items) ∷ bs) →
    with_all (enter (declare n x (leave (map pair (reverse items) ∷ bs)))) items ≡ declare_around n x (map pair (reverse items) ∷ bs)
in_around items [] n x deep = absurd (omega (arith, deep))
in_around items (c ∷ bs) n x deep = ap (with_all ([] ∷ ((n, x) ∷ c) ∷ bs)) (sym (reverse-reverse items)) ∙ all_again (reverse items) (((n, x) ∷ c) ∷ bs)

-- Behind a block that is left, a name that is declared, and the block entered again with its names, the name stands in the block around.
pub stands_around : (self bs : Scope) (items : List Declared) (n : Name) (x : ℕ) → map pair (reverse items) ∷ bs ≡ self → 1 < length self →
    with_all (enter (declare n x (leave self))) items ≡ declare_around n x self
stands_around self bs items n x is deep =
    subst (λ s. 1 < length s → with_all (enter (declare n x (leave s))) items ≡ declare_around n x s) is (in_around items bs n x) deep
