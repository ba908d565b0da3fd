-- Reading by the rules of the grammar, where nothing is counted.
use Rattle.std.proofs.Common.{◌≡◌, ◌<◌, false, arith}
use Rattle.c_tree.specs.Marks.{Tokens}
use Rattle.c_grammar.specs.Body.{Outcome, exec, reads}
use Rattle.c_grammar.specs.Gauge.{free}
use Rattle.c_grammar.specs.Rules.{Rule, Result, rule, rank, top}
use Rattle.c_grammar.specs.Rules as r
use Rattle.c_grammar.proofs.Opening.{opened}

unfoldable pub parse : (r : Rule) → Tokens → Outcome (Unit {0}) (Result r)
parse r ts = reads Rule Result rank rule (Unit {0}) free top r ts tt

-- no rule ranks above the top
pub bounded : (r : Rule) → rank r < top
bounded (r.an_expression t d l o) = omega arith
bounded _ = omega arith

-- a rule reads what its body does
pub opening : (r : Rule) (ts : Tokens) → parse r ts ≡ exec Rule Result rank (Unit {0}) free (λ q us y. parse q us) false (rank r) (rule r) ts tt
unfolding parse
opening r ts = opened Rule Result rank rule (Unit {0}) free top bounded r ts tt
