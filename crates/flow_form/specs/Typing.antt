-- What the names and constants of a program mean, as far as the flow of control asks it, by the numbers of nodes.
use Rattle.std.specs.Prelude.{ℕ, ℤ, pos, List, Option, Some, None, Bool, false, slice_get}
use Rattle.posix_table.specs.declared.kind.Effect.{Effect}
use Rattle.posix_table.specs.declared.kind.Effect.TheVariants as effect
use Rattle.posix_table.specs.declared.kind.ResultKind.{ResultKind}
use Rattle.posix_table.specs.declared.kind.ResultKind.TheVariants as result
use Rattle.posix_table.specs.declared.row.Row.{Row}
use Rattle.flow_form.specs.declared.meaning.Call.{Call}
use Rattle.flow_form.specs.declared.meaning.Call.TheVariants as call
use Rattle.flow_form.specs.declared.meaning.Callee.{Callee}
use Rattle.flow_form.specs.declared.meaning.Callee.TheVariants as callee
use Rattle.flow_form.specs.declared.meaning.Names.{Names}
use Rattle.flow_form.specs.declared.meaning.Meaning.{Meaning}
use Rattle.flow_form.specs.Positions.{otherwise}

-- call: how a call goes of which this node is the callee; constant: the value of a case label; is_automatic: this declared name is
-- an automatic variable; is_void: this expression has the type void; is_array: an array type; designates: this name, or the
-- operand of this `*`, stands for an object or errno, and not for a constant or a function; main: the node of the function main
pub record Typing : Type 0 where
  pub call : ℕ → Call
  pub constant : ℕ → ℤ
  pub is_automatic : ℕ → Bool
  pub is_void : ℕ → Bool
  pub is_array : ℕ → Bool
  pub designates : ℕ → Bool
  pub main : ℕ

abbrev pub effect_call : Effect → Call
effect_call effect.Fork = call.Copies
effect_call effect.Split = call.Copies
effect_call effect.Wait = call.Waits
effect_call _ = call.Returns

abbrev pub result_call : ResultKind → Effect → Call
result_call result.Never e = call.Never
result_call _ e = effect_call e

abbrev pub row_call : Option Row → Call
row_call None = call.Returns
row_call (Some r) = result_call r.result r.effect

-- how a call goes, by the table of the library functions
abbrev pub call_of : List Row → Callee → Call
call_of rows callee.Pointer = call.Value
call_of rows callee.Function = call.Returns
call_of rows (callee.Library k) = row_call (slice_get rows k)

abbrev pub callee_at : Names → ℕ → Callee
callee_at names n = otherwise callee.Pointer (slice_get names.callees.items n)

-- what a table by nodes and the table of the library functions say
abbrev pub typing : Meaning → Typing
typing m = record {
  call = λ n. call_of m.table.now (callee_at m.names.now n);
  constant = λ n. otherwise (pos 0) (slice_get m.names.now.constants.items n);
  is_automatic = λ n. otherwise false (slice_get m.names.now.automatic.items n);
  is_void = λ n. otherwise false (slice_get m.names.now.voids.items n);
  is_array = λ n. otherwise false (slice_get m.names.now.arrays.items n);
  designates = λ n. otherwise false (slice_get m.names.now.designators.items n);
  main = m.names.now.main;
}
