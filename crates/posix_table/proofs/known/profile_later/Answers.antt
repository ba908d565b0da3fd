use Rattle.std.proofs.Common.{◌≡◌, ◌∙◌, sym, subst}
use Rattle.posix_table.specs.Profile.{profile_rows, later_rows}
use Rattle.posix_table.specs.Table.{IsTable}
use Rattle.posix_table.proofs.Sorted.{later_is_table}
use Rattle.posix_table.proofs.Parts.{of_five}
use Rattle.posix_table.proofs.known.profile_later.Goals as goal

pub of_rows-requires : goal.of_rows-requires
unfolding later_rows profile_rows
of_rows-requires c =
    let all : c.add-5.new.rows.items ≡ later_rows = of_five _ _ _ _ _ _ _ _ _ _ _ c.new-rows.ensures.items c.in_ok-add.ensures c.in_ok-add-2.ensures c.in_ok-add-3.ensures c.in_ok-add-4.ensures c.in_ok-add-5.ensures in
    subst IsTable (sym all) later_is_table

pub returns-clause-value : goal.returns-clause-value
unfolding later_rows profile_rows
returns-clause-value c = c.of_rows.ensures.value ∙ of_five _ _ _ _ _ _ _ _ _ _ _ c.new-rows.ensures.items c.in_ok-add.ensures c.in_ok-add-2.ensures c.in_ok-add-3.ensures c.in_ok-add-4.ensures c.in_ok-add-5.ensures
