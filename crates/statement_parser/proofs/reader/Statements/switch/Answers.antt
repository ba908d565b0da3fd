use Rattle.c_tree.specs.View.{view_expression}
use Rattle.c_grammar.proofs.Joining.{erred}
use Rattle.statement_parser.specs.Parts.{switched}
use Rattle.statement_parser.proofs.Conditions.{condition_gives, condition_fails}
use Rattle.statement_parser.proofs.reader.Statements.switch.Goals as goal

pub returns-in_err-value : goal.returns-in_err-value
returns-in_err-value g c =
    erred _ _ _ _ _ c.from_residual.ensures
    (condition_fails c.args.self.now.types.now c.args.d c.args.owed (λ x. switched c.args.self.now.types.now c.args.d c.args.context x) c.args.cursor.now c.in_err-value.field-0.0 c.in_err-value.ensures.reads)

pub returns : goal.returns
returns g c =
    condition_gives c.args.self.now.types.now c.args.d c.args.owed (λ x. switched c.args.self.now.types.now c.args.d c.args.context x) c.args.cursor.now c.condition.new.cursor c.switched.new.cursor (view_expression c.in_ok-value.value) c.switched.result c.in_ok-value.ensures.reads c.switched.ensures
