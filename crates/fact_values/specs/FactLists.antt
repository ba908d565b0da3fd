-- Facts as contracts see them: lists, each in the order of its keys.
use Rattle.std.specs.Prelude.{ℕ, List, []}
use Rattle.base_core.specs.declared.id.FnId.{FnId}
use Rattle.call_ctx.specs.declared.context.Role.{Role}
use Rattle.call_ctx.specs.declared.cell.Cell.{Cell}
use Rattle.abstract_values.specs.declared.state.State.{State}
use Rattle.fact_values.specs.declared.object.Obj.{Obj}
use Rattle.fact_values.specs.declared.object.Holder.{Holder}
use Rattle.fact_values.specs.declared.object.Target.{Target}
use Rattle.fact_values.specs.declared.part.Installed.{Installed}

pub record FactLists : Type 0 where
  -- how many call sites contexts keep
  pub depth : ℕ
  pub cells : List (Cell × State)
  pub targets : List (Holder × List Target)
  -- by the numbers of their signals, and functions
  pub installed : List ((ℕ × FnId) × Installed)
  pub threads : List FnId
  pub forks : List (Role × FnId)
  pub stirred : List Obj

-- what a contract sees of facts
pub record FactsValue : Type 0 where
  pub lists : FactLists

abbrev pub no_facts : ℕ → FactLists
no_facts depth = record { depth = depth; cells = []; targets = []; installed = []; threads = []; forks = []; stirred = [] }
