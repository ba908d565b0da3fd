use Rattle.c_tree.specs.View.{view_expression}
use Rattle.c_grammar.proofs.Joining.{erred}
use Rattle.statement_parser.specs.Parts.{if_branch}
use Rattle.statement_parser.proofs.Conditions.{condition_gives, condition_fails}
use Rattle.statement_parser.proofs.reader.Statements.if_statement.Goals as goal

pub returns-in_err-condition : goal.returns-in_err-condition
returns-in_err-condition g c =
    erred _ _ _ _ _ c.from_residual.ensures
    (condition_fails c.args.self.now.types.now c.args.d c.args.owed (λ x. if_branch c.args.self.now.types.now c.args.d c.args.context x) c.args.cursor.now c.in_err-condition.field-0.0 c.in_err-condition.ensures.reads)

pub returns : goal.returns
returns g c =
    condition_gives c.args.self.now.types.now c.args.d c.args.owed (λ x. if_branch c.args.self.now.types.now c.args.d c.args.context x) c.args.cursor.now c.condition.new.cursor c.if_branch.new.cursor (view_expression c.in_ok-condition.condition) c.if_branch.result c.in_ok-condition.ensures.reads c.if_branch.ensures
