use Rattle.statement_parser.proofs.init.+nested.Given as goal

abbrev pub decreases-nested : goal.decreases-nested
decreases-nested l = l.budget
