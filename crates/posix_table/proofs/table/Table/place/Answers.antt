use Rattle.std.proofs.Common.{Ok, Err, length, ◌∙◌, rules, sym, subst, ap}
use Rattle.std.proofs.lemmas.Fn.{always_returns_same}
use Rattle.std.specs.List.Sorted.{IsSearchInRange, IsBinarySearchResult}
use Rattle.std.specs.Cmp.Lexicographic.{slice_cmp}
use Rattle.std.specs.Ordering.{nat_cmp}
use Rattle.posix_table.specs.Table.{place_named}
use Rattle.posix_table.proofs.Search.{found_place, absent_place}
use Rattle.posix_table.proofs.table.Table.place.Goals as goal

pub returns-in-Ok-clause-value : goal.returns-in-Ok-clause-value
returns-in-Ok-clause-value c =
    let name = c.args.name.now in
    let rows = c.self.inside.rows.items in
    let by_name = c.in-Ok.ensures.position (λ row. slice_cmp nat_cmp row.name name) (always_returns_same _ _ _ (λ a r g called. search rules)) in
    let here = found_place rows c.self.invariant.sorted name c.in-Ok.k
    (subst (λ items. IsSearchInRange (Ok c.in-Ok.k) (length items)) c.deref.ensures.value c.in-Ok.ensures.bound)
    (subst (λ items. IsBinarySearchResult (λ row. slice_cmp nat_cmp row.name name) items (Ok c.in-Ok.k)) c.deref.ensures.value by_name) in
    sym here ∙ ap (λ items. place_named items name) c.self.view_is

pub returns-in-Err-clause-value : goal.returns-in-Err-clause-value
returns-in-Err-clause-value c =
    let name = c.args.name.now in
    let by_name = c.in-Err.ensures.position (λ row. slice_cmp nat_cmp row.name name) (always_returns_same _ _ _ (λ a r g called. search rules)) in
    let nowhere = absent_place c.self.inside.rows.items c.self.invariant.sorted name c.in-Err.field-0
    (subst (λ items. IsBinarySearchResult (λ row. slice_cmp nat_cmp row.name name) items (Err c.in-Err.field-0)) c.deref.ensures.value by_name) in
    sym nowhere ∙ ap (λ items. place_named items name) c.self.view_is
