-- Objects, holders and targets: their order, and how many sites their contexts keep.
use Rattle.std.specs.Prelude.{◌≡◌, ℕ, List, [], ◌∷◌, Bool, true, false, not, ◌||◌}
use Rattle.std.specs.Bool.{OnFalse}
use Rattle.std.specs.Ordering.{nat_cmp}
use Rattle.std.specs.List.{list_any}
use Rattle.std.specs.BTreeMap.{is_at}
use Rattle.std.specs.declared.cmp.Ordering.{Ordering}
use Rattle.base_core.specs.declared.id.FnId.{FnId}
use Rattle.call_ctx.specs.Contexts.{IsWithin}
use Rattle.call_ctx.specs.Order.{ctx_numbers}
use Rattle.call_ctx.specs.Contexts.{base_context}
use Rattle.call_ctx.specs.declared.context.Side.TheVariants.{Free}
use Rattle.fact_values.specs.declared.object.Obj.{Obj}
use Rattle.fact_values.specs.declared.object.Obj.TheVariants.{Variable, Text, Allocated, Library, Arrival, Arguments}
use Rattle.fact_values.specs.declared.object.Holder.{Holder}
use Rattle.fact_values.specs.declared.object.Holder.TheVariants as holder
use Rattle.fact_values.specs.declared.object.Target.{Target}
use Rattle.fact_values.specs.declared.object.Target.TheVariants as target
use Rattle.fact_values.specs.contracts.object.ObjOrd.TheImpl as obj_order
use Rattle.fact_values.specs.contracts.object.HolderOrd.TheImpl as holder_order
use Rattle.fact_values.specs.contracts.object.TargetOrd.TheImpl as target_order

-- by kind, then number, then context
abbrev pub obj_cmp : Obj → Obj → Ordering
obj_cmp = obj_order.cmp-value.it

-- the objects first
abbrev pub holder_cmp : Holder → Holder → Ordering
holder_cmp = holder_order.cmp-value.it

abbrev pub target_cmp : Target → Target → Ordering
target_cmp = target_order.cmp-value.it

abbrev pub fn_cmp : FnId → FnId → Ordering
fn_cmp a b = nat_cmp a.0 b.0

-- an object as a list of numbers: its kind, its number and its context, which is that of main's first frame where it has none
abbrev pub obj_numbers : Obj → List ℕ
obj_numbers (Variable variable ctx) = 0 ∷ variable.0 ∷ ctx_numbers ctx
obj_numbers (Text node) = 1 ∷ node.0 ∷ ctx_numbers (base_context Free)
obj_numbers (Allocated call ctx) = 2 ∷ call.0 ∷ ctx_numbers ctx
obj_numbers (Library place) = 3 ∷ place ∷ ctx_numbers (base_context Free)
obj_numbers (Arrival handler ctx) = 4 ∷ handler.0 ∷ ctx_numbers ctx
obj_numbers Arguments = 5 ∷ 0 ∷ ctx_numbers (base_context Free)

abbrev pub holder_numbers : Holder → List ℕ
holder_numbers (holder.Object o) = 0 ∷ obj_numbers o
holder_numbers (holder.Node node ctx) = 1 ∷ node.0 ∷ ctx_numbers ctx

abbrev pub target_numbers : Target → List ℕ
target_numbers (target.Object o) = 0 ∷ obj_numbers o
target_numbers (target.Function f) = 1 ∷ f.0 ∷ []

-- its context keeps at most so many sites
abbrev pub IsObjectWithin : ℕ → Obj → Type 0
IsObjectWithin depth (Variable variable ctx) = IsWithin depth ctx
IsObjectWithin depth (Allocated call ctx) = IsWithin depth ctx
IsObjectWithin depth (Arrival handler ctx) = IsWithin depth ctx
IsObjectWithin depth _ = Unit {0}

abbrev pub IsHolderWithin : ℕ → Holder → Type 0
IsHolderWithin depth (holder.Object o) = IsObjectWithin depth o
IsHolderWithin depth (holder.Node node ctx) = IsWithin depth ctx

abbrev pub IsTargetWithin : ℕ → Target → Type 0
IsTargetWithin depth (target.Object o) = IsObjectWithin depth o
IsTargetWithin depth (target.Function f) = Unit {0}

-- whether a list has a target
abbrev pub has_target : List Target → Target → Bool
has_target targets t = list_any (is_at (target_cmp t)) targets

abbrev pub is_empty : List Target → Bool
is_empty [] = true
is_empty (t ∷ targets) = false

-- what an insert makes of a list of targets
pub record InsertsTarget (t : Target) (answer : Bool) (old new : List Target) : Type 0 where
  pub has : (u : Target) → has_target new u ≡ (has_target (t ∷ []) u || has_target old u)
  pub grew : answer ≡ not (has_target old t)
  pub same : OnFalse answer (new ≡ old)
