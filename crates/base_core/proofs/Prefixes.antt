-- The front of a text is a prefix of it.
use Rattle.std.proofs.Common.{◌≡◌, ℕ, List, Option, Some, take, drop, sym, subst}
use Rattle.std.proofs.lemmas.List.{take-append-drop}
use Rattle.base_core.specs.Contents.{HoldsPrefix}

pub front_is_prefix : (held : Option (List ℕ)) (n : ℕ) (bytes : List ℕ) → held ≡ Some (take n bytes) → HoldsPrefix held bytes
front_is_prefix held n bytes is = subst (λ (h : Option (List ℕ)). HoldsPrefix h bytes) (sym is) (drop n bytes, sym (take-append-drop n bytes))
