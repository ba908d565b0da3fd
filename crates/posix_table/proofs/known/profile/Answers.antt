use Rattle.std.proofs.Common.{◌≡◌, ◌∙◌, sym, subst}
use Rattle.posix_table.specs.Profile.{profile_rows}
use Rattle.posix_table.specs.Table.{IsTable}
use Rattle.posix_table.proofs.Sorted.{profile_is_table}
use Rattle.posix_table.proofs.Parts.{of_four}
use Rattle.posix_table.proofs.known.profile.Goals as goal

pub of_rows-requires : goal.of_rows-requires
unfolding profile_rows
of_rows-requires c =
    let all : c.add-4.new.rows.items ≡ profile_rows = of_four _ _ _ _ _ _ _ _ _ c.new-rows.ensures.items c.in_ok-add.ensures c.in_ok-add-2.ensures c.in_ok-add-3.ensures c.in_ok-add-4.ensures in
    subst IsTable (sym all) profile_is_table

pub returns-clause-value : goal.returns-clause-value
unfolding profile_rows
returns-clause-value c = c.of_rows.ensures.value ∙ of_four _ _ _ _ _ _ _ _ _ c.new-rows.ensures.items c.in_ok-add.ensures c.in_ok-add-2.ensures c.in_ok-add-3.ensures c.in_ok-add-4.ensures
