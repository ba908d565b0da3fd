-- The order of installed handlers.
use Rattle.std.proofs.Common.{◌≡◌, Bool, true, false, refl, ◌||◌}
use Rattle.abstract_values.proofs.Sets.{set_refl, set_trans, set_join_left, set_join_right, set_join_least}
use Rattle.fact_values.specs.declared.part.Installed.{Installed}
use Rattle.fact_values.specs.Facts.{InstalledUnder, installed_join}

pub or_left : (a b : Bool) → a ≡ true → (a || b) ≡ true
or_left true b h = refl
or_left false b h = absurd cc

pub or_right : (a b : Bool) → b ≡ true → (a || b) ≡ true
or_right true b h = refl
or_right false b h = h

pub or_least : {P : Type 0} (a b : Bool) → (a ≡ true → P) → (b ≡ true → P) → (a || b) ≡ true → P
or_least true b h g e = h refl
or_least false b h g e = g e

pub installed_refl : (i : Installed) → InstalledUnder i i
installed_refl i = (set_refl i.mask, λ h. h)

pub installed_trans : (i j k : Installed) → InstalledUnder i j → InstalledUnder j k → InstalledUnder i k
installed_trans i j k h g = (set_trans i.mask j.mask k.mask h.0 g.0, λ x. g.1 (h.1 x))

pub installed_left : (i j : Installed) → InstalledUnder i (installed_join i j)
installed_left i j = (set_join_left i.mask j.mask, or_left i.deferred j.deferred)

pub installed_right : (i j : Installed) → InstalledUnder j (installed_join i j)
installed_right i j = (set_join_right i.mask j.mask, or_right i.deferred j.deferred)

pub installed_least : (i j k : Installed) → InstalledUnder i k → InstalledUnder j k → InstalledUnder (installed_join i j) k
installed_least i j k h g = (set_join_least i.mask j.mask k.mask h.0 g.0, or_least i.deferred j.deferred h.1 g.1)
