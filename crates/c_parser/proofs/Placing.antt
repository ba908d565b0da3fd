-- Places of tokens, in lists.
use Rattle.std.proofs.Common.{◌≡◌, ℕ, ◌+◌, ◌<◌, ◌≤◌, List, [], ◌∷◌, ◌++◌, length, map, take, get_or, Some, None, sym, ap, subst, ◌∙◌, arith}
use Rattle.std.specs.Prelude.{slice_get, All}
use Rattle.std.proofs.lemmas.List.{map_more, take_more}
use Rattle.std.proofs.lemmas.List.Elements.{All-nil, All-cons, All-weaker}
use Rattle.std.proofs.lemmas.Option.{get_or_from_slice_get, slice_get-get_or, slice_get_within}
use Rattle.base_core.specs.declared.place.Place.{Place}
use Rattle.c_lexer.specs.Lexis.{Lexis}
use Rattle.c_tree.specs.declared.tree.Item.{Item}
use Rattle.c_tree.specs.StatementView.{view_item}
use Rattle.node_places.specs.Starts.{starts}
use Rattle.c_parser.specs.Places.{place_at}

pub place_is : (l : Lexis) (k : ℕ) (p : Place) → slice_get (l.places ++ l.end ∷ []) k ≡ Some p → p ≡ place_at l k
place_is l k p e = sym (get_or_from_slice_get (l.places ++ l.end ∷ []) k p l.end e)

-- one place more
pub placed_more : (l : Lexis) (ks : List ℕ) (i k : ℕ) (p : Place) (ps qs : List Place) → i < length ks → k ≡ get_or ks i k → p ≡ place_at l k → ps ≡ map (place_at l) (take i ks) → qs ≡ ps ++ p ∷ [] →
    qs ≡ map (place_at l) (take (i + 1) ks)
placed_more l ks i k p ps qs below at is before after =
    after ∙ ap (λ us. us ++ p ∷ []) before ∙ ap (λ q. map (place_at l) (take i ks) ++ q ∷ []) (is ∙ ap (place_at l) at) ∙ sym (map_more (place_at l) ks i k below)

-- The nodes stand at tokens, and the node of an empty program at the end.
pub starts_fit : (items : List Item) (n : ℕ) (ks : List ℕ) → ks ≡ starts (map view_item items) → (0 < length items → All (λ k. k < n) ks) → All (λ k. k ≤ n) ks
starts_fit [] n ks e h = subst (λ us. All (λ k. k ≤ n) us) (sym e) (All-cons (λ k. k ≤ n) 0 [] (omega arith) (All-nil (λ k. k ≤ n)))
starts_fit (x ∷ xs) n ks e h = All-weaker (λ k. k < n) (λ k. k ≤ n) (λ k below. omega (arith, below)) ks (h (omega arith))

-- one file more
pub files_more : (names files all : List (List ℕ)) (k : ℕ) (name l : List ℕ) → slice_get names k ≡ Some name → files ≡ take k names → l ≡ name → all ≡ files ++ l ∷ [] → all ≡ take (k + 1) names
files_more names files all k name l at before same after =
    after ∙ ap (λ us. us ++ l ∷ []) before ∙ ap (λ n. take k names ++ n ∷ []) (same ∙ sym (get_or_from_slice_get names k name [] at)) ∙ sym (take_more names k [] (slice_get_within names k name at))

pub file_there : (A : Type 0) (names : List (List ℕ)) (k : ℕ) → k < length names → slice_get names k ≡ None → A
file_there A names k below e = let there = slice_get-get_or names k [] below in absurd cc
