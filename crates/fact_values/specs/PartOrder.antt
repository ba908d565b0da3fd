-- The order of parts: by kind, and then as the lists of numbers of what they speak of.
use Rattle.std.specs.Prelude.{ℕ, List, [], ◌∷◌, ◌++◌}
use Rattle.std.specs.declared.cmp.Ordering.{Ordering}
use Rattle.call_ctx.specs.Order.{role_number, cell_numbers}
use Rattle.fact_values.specs.declared.part.Part.{Part}
use Rattle.fact_values.specs.declared.part.Part.TheVariants as part
use Rattle.fact_values.specs.contracts.part.PartOrd.TheImpl as part_order
use Rattle.fact_values.specs.Objects.{obj_numbers, holder_numbers, target_numbers}

-- by the order of the variants, and then by what they hold from the first on
abbrev pub part_cmp : Part → Part → Ordering
part_cmp = part_order.cmp-value.it

-- a part as a list of numbers
abbrev pub part_numbers : Part → List ℕ
part_numbers (part.Cell c) = 0 ∷ cell_numbers c
part_numbers (part.Target h t) = 1 ∷ (holder_numbers h ++ target_numbers t)
part_numbers (part.Installed s g) = 2 ∷ s ∷ g.0 ∷ []
part_numbers (part.Thread g) = 3 ∷ g.0 ∷ []
part_numbers (part.Fork r g) = 4 ∷ role_number r ∷ g.0 ∷ []
part_numbers (part.Stirred o) = 5 ∷ obj_numbers o
