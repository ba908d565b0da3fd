use Rattle.std.proofs.Common.{◌≡◌, ◌<◌, length, map, drop}
use Rattle.c_judgements.specs.Parts.{added}
use Rattle.c_tree.specs.StatementView.{view_statement, statements_of}
use Rattle.c_environment.specs.Scopes as scopes
use Rattle.c_environment.specs.Seen.{seen_environment}
use Rattle.c_declared.specs.Seen.{shown}
use Rattle.c_judged.specs.Seen.{seen_body, seen_cases}
use Rattle.c_judged.specs.Statements as spec
use Rattle.c_judged.proofs.statements.+statements.Given as goal

abbrev pub invariant-walk_statements-loop-s : goal.invariant-walk_statements-loop-s
invariant-walk_statements-loop-s l =
    (added (spec.said_statements l.table (seen_body l.f) (seen_environment l.env) (seen_cases l.cases) (statements_of (map view_statement (drop l.s-index l.all)))).all (shown l.out) ≡ added (spec.said_statements l.fn.table (seen_body l.fn.f) (seen_environment l.fn.env) (seen_cases l.fn.cases) (statements_of (map view_statement l.fn.all))).all (shown l.fn.out))
    × (scopes.behind_statements (seen_environment l.env) (statements_of (map view_statement (drop l.s-index l.all))) ≡ scopes.behind_statements (seen_environment l.fn.env) (statements_of (map view_statement l.fn.all)))
    × (0 < length (shown l.out))
