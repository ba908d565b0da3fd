-- What a rule reads from an input, within the limits.
use Rattle.std.specs.Prelude.{ℕ, length, Option, Some, None}
use Rattle.c_grammar.specs.Body.{Outcome, got, refused, exceeded, reads}
use Rattle.c_grammar.specs.Gauge.{Meter, limited}
use Rattle.c_grammar.specs.Input.{Input}
use Rattle.c_grammar.specs.Rules.{Rule, Result, rank, rule, top}

unfoldable pub read : (r : Rule) → Input → Outcome Meter (Result r)
read r i = reads Rule Result rank rule Meter limited top r i.rest i.meter

-- why nothing was read, with the number of tokens that were left: no rule goes on with the first of them, or with it a limit
-- is passed
pub data Failure : Type 0 where
  no_rule : ℕ → Failure
  past_limit : ℕ → Failure

abbrev pub failure_of : {X A : Type 0} → Outcome X A → Option Failure
failure_of (got a ts x) = None
failure_of (refused ts) = Some (no_rule (length ts))
failure_of (exceeded ts) = Some (past_limit (length ts))
