-- How far a walk over a tree has come.
use Rattle.std.specs.Prelude.{ℕ, ◌+◌, ◌-◌, List, [], ◌∷◌, ◌++◌, Bool, true, false}
use Rattle.node_places.specs.declared.walk.Walk.{Walk}

-- the index of the next token, the first tokens of the nodes passed, and the last tokens of the functions passed
pub record Walked : Type 0 where
  pub at : ℕ
  pub starts : List ℕ
  pub closes : List ℕ

abbrev pub walked : Walk → Walked
walked w = record { at = w.at; starts = w.starts.items; closes = w.closes.items }

-- past so many tokens
abbrev pub skip : ℕ → Walked → Walked
skip n w = record { at = w.at + n; starts = w.starts; closes = w.closes }

-- past a token that stands there or does not
abbrev pub skip_if : Bool → Walked → Walked
skip_if true w = skip 1 w
skip_if false w = w

-- a node begins at the next token
abbrev pub begin : Walked → Walked
begin w = record { at = w.at; starts = w.starts ++ w.at ∷ []; closes = w.closes }

-- a function ended at the last token
abbrev pub close : Walked → Walked
close w = record { at = w.at; starts = w.starts; closes = w.closes ++ (w.at - 1) ∷ [] }
