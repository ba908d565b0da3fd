-- Positions, and the ways on from one.
use Rattle.std.specs.Prelude.{ℕ, List, [], ◌∷◌, Option, Some, None, Bool, true, false}
use Rattle.base_core.specs.declared.id.Pos.{Pos}
use Rattle.base_core.specs.declared.id.NodeId.{NodeId}
use Rattle.base_core.specs.declared.id.Phase.TheVariants.{Enter, In0, In1, Leave, Finish}
use Rattle.flow_form.specs.declared.edge.Edge.{Edge}
use Rattle.flow_form.specs.declared.edge.Guard.TheVariants.{Always, Nonzero, Zero}
use Rattle.flow_form.specs.declared.edge.Source.{Source}

infix 25 ◌⟶◌
infix 25 ◌⟹◌
abbrev pub node : ℕ → NodeId
node n = record { 0 = n }

abbrev pub enter : ℕ → Pos
enter n = record { node = node n; phase = Enter }

abbrev pub in0 : ℕ → Pos
in0 n = record { node = node n; phase = In0 }

abbrev pub in1 : ℕ → Pos
in1 n = record { node = node n; phase = In1 }

abbrev pub leave : ℕ → Pos
leave n = record { node = node n; phase = Leave }

abbrev pub finish : ℕ → Pos
finish n = record { node = node n; phase = Finish }

-- a position with what is known of its node's value, and the ways on from it
pub record Ways : Type 0 where
  pub source : Source
  pub next : List Edge

-- a position of which nothing more is to be known
abbrev pub plain : Pos → Source
plain p = record { at = p; past = 0; used = None; gives = None; reads = false }

-- the Leave of an expression a, behind which the number b stands; r: whether a is read. No node uses its value
abbrev pub unused : (a b : ℕ) (r : Bool) → Source
unused a b r = record { at = leave a; past = b; used = None; gives = None; reads = r }

-- n uses the value of a at once
abbrev pub used : (n a b : ℕ) (r : Bool) → Source
used n a b r = record { at = leave a; past = b; used = Some (record { user = n; later = false }); gives = None; reads = r }

-- n uses the value of a when the parts of n behind a have been evaluated
abbrev pub kept : (n a b : ℕ) (r : Bool) → Source
kept n a b r = record { at = leave a; past = b; used = Some (record { user = n; later = true }); gives = None; reads = r }

-- the Leave of n, where the function f has its result
abbrev pub giving : (f n : ℕ) → Source
giving f n = record { at = leave n; past = 0; used = None; gives = Some f; reads = false }

-- from this position to that one
abbrev pub ◌⟹◌ : Source → Pos → Ways
◌⟹◌ s q = record { source = s; next = record { to = q; guard = Always } ∷ [] }

abbrev pub ◌⟶◌ : Pos → Pos → Ways
◌⟶◌ p q = plain p ⟹ q

-- to this position where the value of n is zero
abbrev pub if_zero : ℕ → Pos → Edge
if_zero n q = record { to = q; guard = Zero (node n) }

-- to this position where the value of n is not zero
abbrev pub if_nonzero : ℕ → Pos → Edge
if_nonzero n q = record { to = q; guard = Nonzero (node n) }

-- from this position on one of two ways
abbrev pub choice : Source → Edge → Edge → Ways
choice s a b = record { source = s; next = a ∷ b ∷ [] }

-- no way on from this position
abbrev pub ends : Source → Ways
ends s = record { source = s; next = [] }

abbrev pub otherwise : {A : Type 0} → A → Option A → A
otherwise a None = a
otherwise a (Some b) = b
