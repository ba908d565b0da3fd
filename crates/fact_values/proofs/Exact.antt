-- Keys that the orders don't tell apart are equal.
use Rattle.std.proofs.Common.{ℕ, refl, ap}
use Rattle.std.specs.Ordering.{nat_cmp}
use Rattle.std.specs.Cmp.{IsTotalOrder, nat_cmp_total}
use Rattle.std.proofs.lemmas.Cmp.{on_total, then_total}
use Rattle.std.proofs.lemmas.Map.Lookups.{CmpEqualImpliesEq, exact_unsigned, exact_pairs}
use Rattle.base_core.specs.declared.id.NodeId.{NodeId}
use Rattle.base_core.specs.declared.id.VarId.{VarId}
use Rattle.base_core.specs.declared.id.FnId.{FnId}
use Rattle.call_ctx.specs.declared.context.Ctx.{Ctx}
use Rattle.call_ctx.specs.Order.{ctx_cmp, node_cmp, role_cmp}
use Rattle.call_ctx.proofs.Compared.{exact_ctx, exact_cell, exact_node, exact_role, role_total}
use Rattle.call_ctx.specs.declared.context.Role.{Role}
use Rattle.fact_values.specs.declared.object.Holder.{Holder}
use Rattle.fact_values.specs.declared.object.Target.{Target}
use Rattle.fact_values.specs.declared.part.Part.TheVariants as part
use Rattle.fact_values.specs.contracts.part.PartOrd.TheImpl.Laws as part_laws
use Rattle.fact_values.specs.PartOrder.{part_cmp}
use Rattle.fact_values.specs.declared.object.Obj.TheVariants.{Variable, Text, Allocated, Library, Arrival, Arguments}
use Rattle.fact_values.specs.declared.object.Holder.TheVariants as holder
use Rattle.fact_values.specs.declared.object.Target.TheVariants as target
use Rattle.fact_values.specs.contracts.object.ObjOrd.TheImpl.Laws as obj_laws
use Rattle.fact_values.specs.contracts.object.HolderOrd.TheImpl.Laws as holder_laws
use Rattle.fact_values.specs.contracts.object.TargetOrd.TheImpl.Laws as target_laws
use Rattle.fact_values.specs.Objects.{obj_cmp, holder_cmp, target_cmp, fn_cmp}
use Rattle.fact_values.specs.Facts.{handler_cmp, fork_cmp}

exact_var : CmpEqualImpliesEq (λ (a b : VarId). nat_cmp a.0 b.0)
exact_var a b e = ap (λ (n : ℕ). record { 0 = n }) (exact_unsigned a.0 b.0 e)

pub exact_fn : CmpEqualImpliesEq fn_cmp
exact_fn a b e = ap (λ (n : ℕ). record { 0 = n }) (exact_unsigned a.0 b.0 e)

pub exact_obj : CmpEqualImpliesEq obj_cmp
exact_obj (Variable v c) (Variable w d) e = ap (λ (p : VarId × Ctx). Variable p.0 p.1) (exact_pairs _ ctx_cmp exact_var exact_ctx (v, c) (w, d) e)
exact_obj (Text n) (Text m) e = ap Text (exact_node n m e)
exact_obj (Allocated n c) (Allocated m d) e = ap (λ (p : NodeId × Ctx). Allocated p.0 p.1) (exact_pairs node_cmp ctx_cmp exact_node exact_ctx (n, c) (m, d) e)
exact_obj (Library n) (Library m) e = ap Library (exact_unsigned n m e)
exact_obj (Arrival f c) (Arrival g d) e = ap (λ (p : FnId × Ctx). Arrival p.0 p.1) (exact_pairs fn_cmp ctx_cmp exact_fn exact_ctx (f, c) (g, d) e)
exact_obj Arguments Arguments e = refl
exact_obj _ _ e = absurd cc

pub exact_holder : CmpEqualImpliesEq holder_cmp
exact_holder (holder.Object o) (holder.Object p) e = ap holder.Object (exact_obj o p e)
exact_holder (holder.Node n c) (holder.Node m d) e = ap (λ (p : NodeId × Ctx). holder.Node p.0 p.1) (exact_pairs node_cmp ctx_cmp exact_node exact_ctx (n, c) (m, d) e)
exact_holder _ _ e = absurd cc

pub exact_target : CmpEqualImpliesEq target_cmp
exact_target (target.Object o) (target.Object p) e = ap target.Object (exact_obj o p e)
exact_target (target.Function f) (target.Function g) e = ap target.Function (exact_fn f g e)
exact_target _ _ e = absurd cc

pub exact_handler : CmpEqualImpliesEq handler_cmp
exact_handler a b e = exact_pairs nat_cmp fn_cmp exact_unsigned exact_fn a b e

pub exact_fork : CmpEqualImpliesEq fork_cmp
exact_fork a b e = exact_pairs role_cmp fn_cmp exact_role exact_fn a b e

pub exact_part : CmpEqualImpliesEq part_cmp
exact_part (part.Cell a) (part.Cell b) e = ap part.Cell (exact_cell a b e)
exact_part (part.Target h t) (part.Target k u) e = ap (λ (p : Holder × Target). part.Target p.0 p.1) (exact_pairs holder_cmp target_cmp exact_holder exact_target (h, t) (k, u) e)
exact_part (part.Installed s g) (part.Installed t h) e = ap (λ (p : ℕ × FnId). part.Installed p.0 p.1) (exact_handler (s, g) (t, h) e)
exact_part (part.Thread g) (part.Thread h) e = ap part.Thread (exact_fn g h e)
exact_part (part.Fork r g) (part.Fork q h) e = ap (λ (p : Role × FnId). part.Fork p.0 p.1) (exact_fork (r, g) (q, h) e)
exact_part (part.Stirred o) (part.Stirred p) e = ap part.Stirred (exact_obj o p e)
exact_part _ _ e = absurd cc

pub part_total : IsTotalOrder part_cmp
part_total = part_laws.total-law

pub obj_total : IsTotalOrder obj_cmp
obj_total = obj_laws.total-law

pub holder_total : IsTotalOrder holder_cmp
holder_total = holder_laws.total-law

pub target_total : IsTotalOrder target_cmp
target_total = target_laws.total-law

pub fn_total : IsTotalOrder fn_cmp
fn_total = on_total (λ g. g.0) nat_cmp_total

pub handler_total : IsTotalOrder handler_cmp
handler_total = then_total (on_total (λ h. h.0) nat_cmp_total) (on_total (λ h. h.1) fn_total)

pub fork_total : IsTotalOrder fork_cmp
fork_total = then_total (on_total (λ h. h.0) role_total) (on_total (λ h. h.1) fn_total)
