use Rattle.fact_values.specs.ByNumbers.{obj_by_numbers, holder_by_numbers, target_by_numbers, part_by_numbers}
use Rattle.fact_values.proofs.laws.keys_are_ordered_by_numbers.Goals as goal

pub returns-clause-objects : goal.returns-clause-objects
returns-clause-objects c = obj_by_numbers

pub returns-clause-holders : goal.returns-clause-holders
returns-clause-holders c = holder_by_numbers

pub returns-clause-targets : goal.returns-clause-targets
returns-clause-targets c = target_by_numbers

pub returns-clause-parts : goal.returns-clause-parts
returns-clause-parts c = part_by_numbers
