use Rattle.std.proofs.Common.{sym, subst, map, ◌∙◌}
use Rattle.c_tree.specs.StatementView.{view_item}
use Rattle.c_parser.specs.Reading.{IsFirstFault}
use Rattle.c_parser.specs.Answer.{IsFaultOf}
use Rattle.c_parser.proofs.Earlier.{earlier_first}
use Rattle.c_parser.proofs.Meaning.{answer_nested, answer_before}
use Rattle.c_parser.proofs.parser.before_bracket.Goals as goal
use Rattle.c_parser.proofs.parser.before_bracket.Goals.{in-Ok, in-Err}

pub returns-clause-first : goal.returns-clause-first
returns-clause-first c =
    elim c.match-read_items.branch [
      | in-Ok w ↦ subst (λ f. IsFirstFault c.args.tokens.now f) (sym w.result-is) tt
      | in-Err w ↦ subst (λ f. IsFirstFault c.args.tokens.now f) (sym (w.result-is ∙ w.earlier.ensures)) (earlier_first c.args.tokens.now c.args.k w.in-Err.fault c.requires)
    ]

pub returns-clause-answer : goal.returns-clause-answer
returns-clause-answer c =
    elim c.match-read_items.branch [
      | in-Ok w ↦ subst (λ f. IsFaultOf c.args.tokens.now f) (sym w.result-is) (answer_nested c.args.tokens.now c.args.k (map view_item w.in-Ok.field-0) c.requires w.in-Ok.ensures.answer)
      | in-Err w ↦ subst (λ f. IsFaultOf c.args.tokens.now f) (sym (w.result-is ∙ w.earlier.ensures)) (answer_before c.args.tokens.now c.args.k w.in-Err.fault c.requires w.in-Err.ensures.answer)
    ]
