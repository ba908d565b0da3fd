use Rattle.std.proofs.Common.{Ok, sym, ap, subst, ◌∙◌, map}
use Rattle.c_tree.specs.StatementView.{view_item}
use Rattle.c_parser.specs.Answer.{IsAnswer, IsFaultOf}
use Rattle.c_parser.proofs.Meaning.{blameless, read_only}
use Rattle.c_parser.proofs.parser.parse.Goals as goal

pub returns-in-Some-clause-complete : goal.returns-in-Some-clause-complete
returns-in-Some-clause-complete c = λ xs shape limits e. blameless c.as_slice-all.result.now c.before_bracket.result xs c.before_bracket.ensures.fault shape limits (e ∙ sym c.as_slice-all.ensures)

pub returns-in_ok-placed-in-Ok-clause-only : goal.returns-in_ok-placed-in-Ok-clause-only
returns-in_ok-placed-in-Ok-clause-only c = λ xs shape e.
    read_only c.as_slice-all.result.now (map view_item c.in-Ok.items) xs c.in-Ok.ensures.fault shape (e ∙ sym c.as_slice-all.ensures) ∙ ap (map view_item) (sym c.in_ok-placed-in-Ok.ensures.items)

pub returns-in-Err-clause-complete : goal.returns-in-Err-clause-complete
returns-in-Err-clause-complete c = λ xs shape limits e. blameless c.as_slice-all.result.now c.in-Err.fault xs c.in-Err.ensures.fault.0 shape limits (e ∙ sym c.as_slice-all.ensures)

pub returns-in-Some-clause-answer : goal.returns-in-Some-clause-answer
returns-in-Some-clause-answer c = subst (λ ts. IsFaultOf ts c.before_bracket.result) c.as_slice-all.ensures c.before_bracket.ensures.answer

pub returns-in_ok-placed-in-Ok-clause-answer : goal.returns-in_ok-placed-in-Ok-clause-answer
returns-in_ok-placed-in-Ok-clause-answer c =
    subst (λ ts. IsAnswer ts (Ok (map view_item c.in_ok-placed-in-Ok.field-0.items))) c.as_slice-all.ensures
    (subst (λ xs. IsAnswer c.as_slice-all.result.now (Ok (map view_item xs))) (sym c.in_ok-placed-in-Ok.ensures.items) c.in-Ok.ensures.answer)

pub returns-in-Err-clause-answer : goal.returns-in-Err-clause-answer
returns-in-Err-clause-answer c = subst (λ ts. IsFaultOf ts c.in-Err.fault) c.as_slice-all.ensures c.in-Err.ensures.answer
