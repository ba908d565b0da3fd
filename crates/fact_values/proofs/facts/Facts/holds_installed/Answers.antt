use Rattle.std.proofs.Common.{◌≡◌, sym, subst}
use Rattle.std.specs.Prelude.{Some}
use Rattle.fact_values.specs.Facts.{view, InstalledUnder}
use Rattle.fact_values.proofs.facts.Facts.holds_installed.Goals as goal

pub returns-in-Some : goal.returns-in-Some
returns-in-Some c =
    let is : (view c.args.self.now.lists).installed_at c.args.signal c.args.function ≡ Some c.in-Some.held = sym c.in-Some.ensures in (
      λ t. (c.in-Some.held, is, c.below.ensures.0 t),
      λ x. c.below.ensures.1 (let same : c.in-Some.held ≡ x.0 = (let e = x.1 in cc) in subst (λ s. InstalledUnder c.args.installed.now s) (sym same) x.2),
    )
