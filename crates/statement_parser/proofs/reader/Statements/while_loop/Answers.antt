use Rattle.c_tree.specs.View.{view_expression}
use Rattle.c_grammar.proofs.Joining.{erred}
use Rattle.statement_parser.specs.Parts.{while_repeated}
use Rattle.statement_parser.proofs.Conditions.{condition_gives, condition_fails}
use Rattle.statement_parser.proofs.reader.Statements.while_loop.Goals as goal

pub returns-in_err-condition : goal.returns-in_err-condition
returns-in_err-condition g c =
    erred _ _ _ _ _ c.from_residual.ensures
    (condition_fails c.args.self.now.types.now c.args.d c.args.owed (λ x. while_repeated c.args.self.now.types.now c.args.d c.args.context x) c.args.cursor.now c.in_err-condition.field-0.0 c.in_err-condition.ensures.reads)

pub returns : goal.returns
returns g c =
    condition_gives c.args.self.now.types.now c.args.d c.args.owed (λ x. while_repeated c.args.self.now.types.now c.args.d c.args.context x) c.args.cursor.now c.condition.new.cursor c.while_repeated.new.cursor (view_expression c.in_ok-condition.condition) c.while_repeated.result c.in_ok-condition.ensures.reads c.while_repeated.ensures
