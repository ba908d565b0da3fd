-- The answers of readers, with the lists in the place of the slices that are left.
use Rattle.std.specs.Prelude.{List, Option}
use Rattle.std.specs.Option.{option_map}
use Rattle.std.specs.Borrow.{Bor}
use Rattle.base_core.specs.declared.token.Token.{Token}

abbrev pub seen_rest : Option (Bor (List Token)) → Option (List Token)
seen_rest = option_map (λ (rest : Bor (List Token)). rest.now)

abbrev pub seen : {X : Type 0} → Option (X × Bor (List Token)) → Option (X × List Token)
seen {X} = option_map (λ (p : X × Bor (List Token)). (p.0, p.1.now))
