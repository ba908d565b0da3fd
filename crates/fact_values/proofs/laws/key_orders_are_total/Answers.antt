use Rattle.fact_values.proofs.Exact.{obj_total, holder_total, target_total, part_total, exact_obj, exact_holder, exact_target, exact_part}
use Rattle.fact_values.proofs.laws.key_orders_are_total.Goals as goal

pub returns-clause-objects : goal.returns-clause-objects
returns-clause-objects c = obj_total

pub returns-clause-holders : goal.returns-clause-holders
returns-clause-holders c = holder_total

pub returns-clause-targets : goal.returns-clause-targets
returns-clause-targets c = target_total

pub returns-clause-parts : goal.returns-clause-parts
returns-clause-parts c = part_total

pub returns-clause-objects_apart : goal.returns-clause-objects_apart
returns-clause-objects_apart c = exact_obj

pub returns-clause-holders_apart : goal.returns-clause-holders_apart
returns-clause-holders_apart c = exact_holder

pub returns-clause-targets_apart : goal.returns-clause-targets_apart
returns-clause-targets_apart c = exact_target

pub returns-clause-parts_apart : goal.returns-clause-parts_apart
returns-clause-parts_apart c = exact_part
