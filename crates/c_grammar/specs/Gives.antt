-- What a function that reads a rule ensures: it answers what the rule reads, unless memory fails.
use Rattle.std.specs.Prelude.{◌≡◌, Option, Some, Result, Ok, Err}
use Rattle.c_grammar.specs.Body.{Outcome, got}
use Rattle.c_grammar.specs.Gauge.{Meter}
use Rattle.c_grammar.specs.Input.{Input}
use Rattle.c_grammar.specs.Reading.{Failure, no_rule, past_limit, failure_of}
use Rattle.c_grammar.specs.declared.refusal.Refusal.{Refusal}
use Rattle.c_grammar.specs.declared.refusal.Refusal.TheVariants.{Syntax, Large, NoMemory}

-- the refusal says why reading failed, if it did
abbrev pub Says : Refusal → Option Failure → Type 0
Says (Syntax n) why = why ≡ Some (no_rule n)
Says (Large n) why = why ≡ Some (past_limit n)
Says NoMemory why = Unit {0}

pub record Fails {B : Type 0} (out : Outcome Meter B) (e : Refusal) : Type 0 where
  pub says : Says e (failure_of out)

abbrev pub Gives : {A B : Type 0} → (A → B) → Outcome Meter B → Result A Refusal → Input → Type 0
Gives view out (Ok a) new = out ≡ got (view a) new.rest new.meter
Gives view out (Err e) new = Fails out e
