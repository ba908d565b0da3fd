use Rattle.statement_parser.proofs.nest.+nested.Given as goal

abbrev pub decreases-nested : goal.decreases-nested
decreases-nested l = l.budget
