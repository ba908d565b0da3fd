-- What facts hold, as functions from keys; the order of facts; the least facts that hold something besides.
use Rattle.std.specs.Prelude.{◌≡◌, ◌≢◌, ℕ, ◌≤◌, ◌↔◌, List, [], ◌++◌, Bool, true, false, ◌||◌, Option, Some, None, Contains, IsTrue, IfSome}
use Rattle.std.specs.List.{list_any, All}
use Rattle.std.specs.List.Sorted.{IsStrictlySortedBy}
use Rattle.std.specs.Map.{lookup}
use Rattle.std.specs.Option.{unwrap_or}
use Rattle.std.specs.Bool.{OnFalse}
use Rattle.std.specs.Ordering.{nat_cmp, ordering_then}
use Rattle.std.specs.BTreeMap.{is_at}
use Rattle.std.specs.declared.cmp.Ordering.{Ordering}
use Rattle.base_core.specs.declared.id.FnId.{FnId}
use Rattle.call_ctx.specs.declared.context.Role.{Role}
use Rattle.call_ctx.specs.declared.context.Role.TheVariants.{NoRole}
use Rattle.call_ctx.specs.declared.cell.Cell.{Cell}
use Rattle.call_ctx.specs.Contexts.{IsWithin}
use Rattle.call_ctx.specs.Order.{role_cmp, cell_cmp}
use Rattle.abstract_values.specs.declared.state.State.{State}
use Rattle.abstract_values.specs.Sets.{SetUnder, set_join, IsSomeSet}
use Rattle.abstract_values.specs.States.{Under, IsJoin, IsWellFormed}
use Rattle.fact_values.specs.declared.object.Obj.{Obj}
use Rattle.fact_values.specs.declared.object.Holder.{Holder}
use Rattle.fact_values.specs.declared.object.Target.{Target}
use Rattle.fact_values.specs.declared.part.Installed.{Installed}
use Rattle.fact_values.specs.declared.part.Part.{Part}
use Rattle.fact_values.specs.declared.part.Part.TheVariants as part
use Rattle.fact_values.specs.declared.part.Held.{Held}
use Rattle.fact_values.specs.declared.part.Held.TheVariants as held
use Rattle.fact_values.specs.declared.consequence.Consequence.{Consequence}
use Rattle.fact_values.specs.Objects.{obj_cmp, holder_cmp, target_cmp, fn_cmp, has_target, is_empty, IsObjectWithin, IsHolderWithin, IsTargetWithin}
use Rattle.fact_values.specs.declared.facts.Marks.{Marks}
use Rattle.fact_values.specs.FactLists.{FactLists}

-- the orders of the other keys
abbrev pub handler_cmp : ℕ × FnId → ℕ × FnId → Ordering
handler_cmp a b = ordering_then (nat_cmp a.0 b.0) (fn_cmp a.1 b.1)

abbrev pub fork_cmp : Role × FnId → Role × FnId → Ordering
fork_cmp a b = ordering_then (role_cmp a.0 b.0) (fn_cmp a.1 b.1)

abbrev pub consequence : Part → Held → Consequence
consequence p h = record { part = p; held = h }

-- facts as functions from keys
pub record View : Type 0 where
  -- how many call sites contexts keep
  pub depth : ℕ
  pub state_at : Cell → Option State
  pub points : Holder → Target → Bool
  -- by the number of the signal
  pub installed_at : ℕ → FnId → Option Installed
  pub is_thread : FnId → Bool
  pub is_fork : Role → FnId → Bool
  pub is_stirred : Obj → Bool

abbrev pub has_among : Option (List Target) → Target → Bool
has_among None t = false
has_among (Some targets) t = has_target targets t

abbrev pub view : FactLists → View
view f = record {
  depth = f.depth;
  state_at = λ c. lookup (is_at (cell_cmp c)) f.cells;
  points = λ h t. has_among (lookup (is_at (holder_cmp h)) f.targets) t;
  installed_at = λ s g. lookup (is_at (handler_cmp (s, g))) f.installed;
  is_thread = λ g. list_any (is_at (fn_cmp g)) f.threads;
  is_fork = λ r g. list_any (is_at (fork_cmp (r, g))) f.forks;
  is_stirred = λ o. list_any (is_at (obj_cmp o)) f.stirred;
}

-- the upper one says no more
abbrev pub InstalledUnder : Installed → Installed → Type 0
InstalledUnder i j = SetUnder i.mask j.mask × (IsTrue i.deferred → IsTrue j.deferred)

-- the least above both
abbrev pub installed_join : Installed → Installed → Installed
installed_join i j = record { mask = set_join i.mask j.mask; deferred = i.deferred || j.deferred }

-- what is held is of the part's form
abbrev pub Fits : Part → Held → Type 0
Fits (part.Cell c) (held.State s) = Unit {0}
Fits (part.Target h t) held.Nothing = Unit {0}
Fits (part.Installed s g) (held.Installed i) = Unit {0}
Fits (part.Thread g) held.Nothing = Unit {0}
Fits (part.Fork r g) held.Nothing = Unit {0}
Fits (part.Stirred o) held.Nothing = Unit {0}
Fits _ _ = ⊥

-- a part of facts of a depth
abbrev pub IsPartWithin : ℕ → Part → Type 0
IsPartWithin depth (part.Cell c) = IsWithin depth c.ctx
IsPartWithin depth (part.Target h t) = IsHolderWithin depth h × IsTargetWithin depth t
IsPartWithin depth (part.Installed s g) = (1 ≤ s) × (s ≤ 28)
IsPartWithin depth (part.Thread g) = Unit {0}
IsPartWithin depth (part.Fork r g) = r ≢ NoRole
IsPartWithin depth (part.Stirred o) = IsObjectWithin depth o

-- what a part may hold
abbrev pub IsFormed : Held → Type 0
IsFormed (held.State s) = IsWellFormed s
IsFormed (held.Installed i) = IsSomeSet i.mask
IsFormed held.Nothing = Unit {0}

-- what may be added to facts of a depth
pub record IsFit (depth : ℕ) (q : Consequence) : Type 0 where
  pub form : Fits q.part q.held
  pub within : IsPartWithin depth q.part
  pub formed : IsFormed q.held

-- the facts hold a part
abbrev pub HoldsPart : View → Part → Held → Type 0
HoldsPart f (part.Cell c) (held.State s) = (t : State) × (f.state_at c ≡ Some t) × Under s t
HoldsPart f (part.Target h t) held.Nothing = f.points h t ≡ true
HoldsPart f (part.Installed s g) (held.Installed i) = (j : Installed) × (f.installed_at s g ≡ Some j) × InstalledUnder i j
HoldsPart f (part.Thread g) held.Nothing = f.is_thread g ≡ true
HoldsPart f (part.Fork r g) held.Nothing = f.is_fork r g ≡ true
HoldsPart f (part.Stirred o) held.Nothing = f.is_stirred o ≡ true
HoldsPart f _ _ = ⊥

abbrev pub Holds : View → Consequence → Type 0
Holds f q = HoldsPart f q.part q.held

-- facts of one depth; whatever the lower ones hold, the upper ones hold
pub record Below (f g : View) : Type 0 where
  pub depth : f.depth ≡ g.depth
  pub each : (q : Consequence) → Holds f q → Holds g q

-- what the first holds is below what the second holds
abbrev pub HeldUnder : Held → Held → Type 0
HeldUnder (held.State s) (held.State t) = Under s t
HeldUnder (held.Installed i) (held.Installed j) = InstalledUnder i j
HeldUnder held.Nothing held.Nothing = Unit {0}
HeldUnder _ _ = ⊥

-- of the same part, and no more of it
pub record Weaker (q r : Consequence) : Type 0 where
  pub part : q.part ≡ r.part
  pub held : HeldUnder q.held r.held

-- the least facts above f that hold a consequence
pub record IsLeastWith (f : View) (q : Consequence) (g : View) : Type 0 where
  pub holds : Holds g q
  pub above : Below f g
  pub least : (h : View) → Below f h → Holds h q → Below g h

-- the new state of a cell that had this one, or none
pub record IsNewState (before : Option State) (s u : State) : Type 0 where
  pub fresh : before ≡ None → u ≡ s
  pub joined : (t : State) → before ≡ Some t → IsJoin t s u
  pub formed : IfSome before IsWellFormed → IsWellFormed s → IsWellFormed u

-- how a function is installed anew that was installed so, or not
pub record IsNewInstalled (before : Option Installed) (i u : Installed) : Type 0 where
  pub fresh : before ≡ None → u ≡ i
  pub joined : (t : Installed) → before ≡ Some t → u ≡ installed_join t i

-- what `add` does: the new facts are the least, and they grew exactly where the old ones didn't hold it
pub record Adds (q : Consequence) (answer : Bool) (old new : FactLists) : Type 0 where
  pub depth : new.depth ≡ old.depth
  pub least : IsLeastWith (view old) q (view new)
  pub grew : IsTrue answer ↔ (Holds (view old) q → ⊥)
  pub same : OnFalse answer (new ≡ old)

-- the least facts above f that hold each of some consequences
pub record IsLeastWithAll (f : View) (list : List Consequence) (g : View) : Type 0 where
  pub holds : All (Holds g) list
  pub above : Below f g
  pub least : (h : View) → Below f h → All (Holds h) list → Below g h

-- states that are both there and below each other, or both not there
abbrev pub AreStatesAlike : Option State → Option State → Type 0
AreStatesAlike None None = Unit {0}
AreStatesAlike (Some s) (Some t) = Under s t × Under t s
AreStatesAlike _ _ = ⊥

abbrev pub AreInstalledAlike : Option Installed → Option Installed → Type 0
AreInstalledAlike None None = Unit {0}
AreInstalledAlike (Some i) (Some j) = InstalledUnder i j × InstalledUnder j i
AreInstalledAlike _ _ = ⊥

-- facts that hold the same
pub record AreAlike (f g : View) : Type 0 where
  pub depth : f.depth ≡ g.depth
  pub states : (c : Cell) → AreStatesAlike (f.state_at c) (g.state_at c)
  pub points : (h : Holder) (t : Target) → f.points h t ≡ g.points h t
  pub installed : (s : ℕ) (x : FnId) → AreInstalledAlike (f.installed_at s x) (g.installed_at s x)
  pub threads : (x : FnId) → f.is_thread x ≡ g.is_thread x
  pub forks : (r : Role) (x : FnId) → f.is_fork r x ≡ g.is_fork r x
  pub stirred : (o : Obj) → f.is_stirred o ≡ g.is_stirred o

-- what facts of their depth are made of
pub record IsInBounds (f : View) : Type 0 where
  pub least : 1 ≤ f.depth
  pub most : f.depth ≤ 2
  pub each : (q : Consequence) → Holds f q → IsPartWithin f.depth q.part
  pub states : (c : Cell) → IfSome (f.state_at c) IsWellFormed
  pub installed : (s : ℕ) (g : FnId) → IfSome (f.installed_at s g) (λ i. IsSomeSet i.mask)

-- each holder's targets rise, and there are some
pub record HasTargets (f : FactLists) : Type 0 where
  pub some : (h : Holder) → IfSome (lookup (is_at (holder_cmp h)) f.targets) (λ targets. is_empty targets ≡ false)
  pub sorted : (h : Holder) → IfSome (lookup (is_at (holder_cmp h)) f.targets) (IsStrictlySortedBy target_cmp)

-- what every value of the type `Facts` is
pub record AreFacts (f : FactLists) : Type 0 where
  pub bounds : IsInBounds (view f)
  pub targets : HasTargets f

-- the k-th target of a holder, and whether it has one
abbrev pub targets_at : FactLists → Holder → List Target
targets_at f h = unwrap_or (lookup (is_at (holder_cmp h)) f.targets) []

abbrev pub marks_of : State → Marks
marks_of s = record { mask = s.mask; errno = s.errno; alone = s.alone; bare = s.bare }

-- what was appended is exactly what P holds of
pub record Appends (P : Consequence → Type 0) (old new : List Consequence) : Type 0 where
  pub added : List Consequence
  pub is : new ≡ old ++ added
  pub exact : (q : Consequence) → Contains added q ↔ P q
