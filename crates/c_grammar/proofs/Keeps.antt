-- A body keeps what a rule promises of the tokens that it reads.
use Rattle.c_tree.specs.Marks.{Tokens}
use Rattle.c_grammar.specs.Gauge.{free}
use Rattle.c_grammar.specs.Rules.{Rule, Result, Reads}
use Rattle.c_grammar.proofs.Conditions.{Goes}
use Rattle.c_grammar.proofs.Read.{Read}

-- what the body reads from these tokens is what the rule promises, if all that it calls keeps its own promise
abbrev pub Keeps : (r : Rule) → Reads (Result r) → Tokens → Type 0
Keeps r b ts = Goes (Unit {0}) free Read (Result r) b (Read r ts tt) ts tt

-- the same of the rest of the body, which reads the later tokens us where the whole reads ts
abbrev pub KeepsOn : (r : Rule) → Reads (Result r) → Tokens → Tokens → Type 0
KeepsOn r b ts us = Goes (Unit {0}) free Read (Result r) b (Read r ts tt) us tt
