-- What a search finds.
use Rattle.std.proofs.Common.{◌≡◌, ℕ, zero, suc, ◌+◌, List, [], ◌∷◌, Option, Some, None, Bool, true, false, take, refl, ap, sym, ◌∙◌, ◌≤◌, ◌<◌, ◌-◌, length, arith, sub-one, subst}
use Rattle.std.specs.Prelude.{slice_get, count_by, cond, All, IsUtf8, is_some}
use Rattle.std.proofs.lemmas.List.Sums.{sum_by-cons}
use Rattle.std.proofs.lemmas.Option.{slice_get_within, get_or_from_slice_get}
use Rattle.base_core.specs.declared.place.Place.{Place}
use Rattle.c_tree.specs.ProgramTree.{ProgramTree, IsPlaced, is_function_node, is_function_at, trees, close_of, close_at, file_name}
use Rattle.c_tree.specs.Progress.{Progress, pass, count_function}
use Rattle.c_tree.specs.Nodes.{Node, is_function, program_node, nodes}
use Rattle.c_tree.specs.Passing.{pass_items, pass_all}
use Rattle.c_tree.specs.Tree.{Name, ItemTree}
use Rattle.c_tree.proofs.Passing.{items_passes}

abbrev pub from : ℕ → ℕ → Progress
from left functions = record { left = left; functions = functions; found = None }

abbrev pub at_node : ℕ → Node → Progress
at_node functions n = record { left = 0; functions = functions; found = Some n }

pub pass_found : (k : ℕ) (x n : Node) → pass (at_node k x) n ≡ at_node k x
unfolding pass
pass_found k x n = refl

pub pass_here : (k : ℕ) (n : Node) → pass (from 0 k) n ≡ at_node k n
unfolding pass
pass_here k n = refl

pub pass_by : (left k : ℕ) (n : Node) → pass (from (suc left) k) n ≡ from left (count_function n k)
unfolding pass
pass_by left k n = refl

pub stays : (k : ℕ) (x : Node) (ns : List Node) → pass_all pass (at_node k x) ns ≡ at_node k x
stays k x [] = refl
stays k x (n ∷ ns) = ap (λ p. pass_all pass p ns) (pass_found k x n) ∙ stays k x ns

-- it finds the node of its number
pub finds : (left k : ℕ) (ns : List Node) → (pass_all pass (from left k) ns).found ≡ slice_get ns left
finds left k [] = refl
finds zero k (n ∷ ns) = ap (λ p. (pass_all pass p ns).found) (pass_here k n) ∙ ap (λ (p : Progress). p.found) (stays k n ns)
finds (suc left) k (n ∷ ns) = ap (λ p. (pass_all pass p ns).found) (pass_by left k n) ∙ finds left (count_function n k) ns

one_more : (b : Bool) (k c : ℕ) → cond b (k + 1) k + c ≡ k + (cond b 1 0 + c)
one_more true k c = omega arith
one_more false k c = omega arith

-- it counts the functions before that node
pub counts : (left k : ℕ) (ns : List Node) → (pass_all pass (from left k) ns).functions ≡ k + count_by is_function (take left ns)
counts zero k [] = omega arith
counts (suc left) k [] = omega arith
counts zero k (n ∷ ns) = ap (λ p. (pass_all pass p ns).functions) (pass_here k n) ∙ ap (λ (p : Progress). p.functions) (stays k n ns) ∙ omega arith
counts (suc left) k (n ∷ ns) =
    ap (λ p. (pass_all pass p ns).functions) (pass_by left k n) ∙ counts left (count_function n k) ns
    ∙ one_more (is_function n) k (count_by is_function (take left ns))
    ∙ ap (λ s. k + s) (sym (sum_by-cons (λ x. cond (is_function x) 1 0) n (take left ns)))

-- a search through a whole program
abbrev pub through : ℕ → List ItemTree → Progress
through n items = pass_items pass (pass (from n 0) (program_node items)) items

through_passes : (n : ℕ) (items : List ItemTree) → through n items ≡ pass_all pass (from n 0) (nodes items)
through_passes n items = items_passes pass (pass (from n 0) (program_node items)) items

pub through_finds : (p : Progress) (n : ℕ) (items : List ItemTree) → p ≡ through n items → p.found ≡ slice_get (nodes items) n
through_finds p n items e = ap (λ (q : Progress). q.found) (e ∙ through_passes n items) ∙ finds n 0 (nodes items)

pub through_counts : (p : Progress) (n : ℕ) (items : List ItemTree) → p ≡ through n items → p.functions ≡ count_by is_function (take n (nodes items))
through_counts p n items e = ap (λ (q : Progress). q.functions) (e ∙ through_passes n items) ∙ counts n 0 (nodes items) ∙ omega arith

-- the closing brace of the node that a search found
pub close_function : (p : ProgramTree) (n : ℕ) (s : Progress) (x : Node) → s ≡ through n (trees p) → s.found ≡ Some x → is_function x ≡ true →
    slice_get p.closes s.functions ≡ close_at p n
close_function p n s x e found is_one =
    let seen = sym (through_finds s n (trees p) e) ∙ found in
    let closed = ap (λ (o : Option Node). close_of o p n) seen in
    let chosen = ap (λ b. cond b (slice_get p.closes (count_by is_function (take n (nodes (trees p))))) None) is_one in
    ap (slice_get p.closes) (through_counts s n (trees p) e) ∙ sym (closed ∙ chosen)

pub close_other : (p : ProgramTree) (n : ℕ) (s : Progress) (x : Node) → s ≡ through n (trees p) → s.found ≡ Some x → is_function x ≡ false → None ≡ close_at p n
close_other p n s x e found is_none =
    let seen = sym (through_finds s n (trees p) e) ∙ found in
    let closed = ap (λ (o : Option Node). close_of o p n) seen in
    let chosen = ap (λ b. cond b (slice_get p.closes (count_by is_function (take n (nodes (trees p))))) None) is_none in
    sym (closed ∙ chosen)

pub close_none : (p : ProgramTree) (n : ℕ) (s : Progress) → s ≡ through n (trees p) → s.found ≡ None → None ≡ close_at p n
close_none p n s e found = sym (ap (λ (o : Option Node). close_of o p n) (sym (through_finds s n (trees p) e) ∙ found))

pub file_behind : (files : List Name) (n : ℕ) → 1 ≤ n → file_name files n ≡ slice_get files (n - 1)
file_behind files zero h = absurd (omega (arith, h))
file_behind files (suc n) h = rw sub-one refl

pub file_text : (files : List Name) (k : ℕ) (x : Name) → All IsUtf8 files → slice_get files k ≡ Some x → IsUtf8 x
file_text files k x all e =
    let P : Name → Type 0 = λ n. IsUtf8 n in
    subst P (get_or_from_slice_get files k x x e) (all k x (slice_get_within files k x e))

less_functions : (n : ℕ) (ns : List Node) (x : Node) → slice_get ns n ≡ Some x → is_function x ≡ true → count_by is_function (take n ns) < count_by is_function ns
less_functions n [] x e f = cc
less_functions zero (y ∷ ns) x e f =
    let same : y ≡ x = cc in
    let one : ◌≡◌ {A = ℕ} (cond (is_function y) 1 0) 1 = ap (λ b. cond {A = ℕ} b 1 0) (ap is_function same ∙ f) in
    omega (arith, one, sum_by-cons (λ x. cond (is_function x) 1 0) y ns)
less_functions (suc n) (y ∷ ns) x e f =
    omega (arith, less_functions n ns x e f, sum_by-cons (λ x. cond (is_function x) 1 0) y ns, sum_by-cons (λ x. cond (is_function x) 1 0) y (take n ns))

some_within : (xs : List Place) (k : ℕ) → k < length xs → is_some (slice_get xs k) ≡ true
some_within [] k h = absurd (omega (arith, h))
some_within (x ∷ xs) zero h = refl
some_within (x ∷ xs) (suc k) h = some_within xs k (omega (arith, h))

chosen_brace : (p : ProgramTree) (n : ℕ) (x : Node) (b : Bool) → is_function x ≡ b → (is_function x ≡ true → is_some (slice_get p.closes (count_by is_function (take n (nodes (trees p))))) ≡ true) →
    is_some (cond b (slice_get p.closes (count_by is_function (take n (nodes (trees p))))) None) ≡ b
chosen_brace p n x true e h = h e
chosen_brace p n x false e h = refl

brace_of : (p : ProgramTree) → IsPlaced p → (n : ℕ) (o : Option Node) → slice_get (nodes (trees p)) n ≡ o → is_some (close_of o p n) ≡ is_function_node o
brace_of p placed n None e = refl
brace_of p placed n (Some x) e =
    chosen_brace p n x (is_function x) refl (λ f. some_within p.closes (count_by is_function (take n (nodes (trees p)))) (omega (arith, less_functions n (nodes (trees p)) x e f, placed.closes)))

-- a node has a closing brace where it is a function
pub closes_functions : (p : ProgramTree) → IsPlaced p → (n : ℕ) → is_some (close_at p n) ≡ is_function_at p n
closes_functions p placed n = brace_of p placed n (slice_get (nodes (trees p)) n) refl
