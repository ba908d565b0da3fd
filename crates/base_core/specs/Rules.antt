-- Sets of rules.
use Rattle.std.specs.Prelude.{Bool, true, false}
use Rattle.base_core.specs.declared.rules.Rule.{Rule}
use Rattle.base_core.specs.declared.rules.Rule.TheVariants.{U, S, E, F, A, M, R}

-- for each rule whether it is in the set
pub record RuleSet : Type 0 where
  pub u : Bool
  pub s : Bool
  pub e : Bool
  pub f : Bool
  pub a : Bool
  pub m : Bool
  pub r : Bool

abbrev pub contains : RuleSet → Rule → Bool
contains set U = set.u
contains set S = set.s
contains set E = set.e
contains set F = set.f
contains set A = set.a
contains set M = set.m
contains set R = set.r

abbrev pub same_rule : Rule → Rule → Bool
same_rule U U = true
same_rule S S = true
same_rule E E = true
same_rule F F = true
same_rule A A = true
same_rule M M = true
same_rule R R = true
same_rule _ _ = false
