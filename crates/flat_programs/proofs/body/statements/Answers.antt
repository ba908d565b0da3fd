use Rattle.std.proofs.Common.{◌≡◌, ◌∷◌, ◌++◌, List, [], cond, sym, ◌∙◌, ap, subst}
use Rattle.flat_programs.specs.declared.flat.Statement.{Statement}
use Rattle.flat_programs.specs.FlatSpelling.{spell_statements}
use Rattle.flat_programs.specs.Body.{AreReadable}
use Rattle.flat_programs.proofs.Lists.{statements_more, statement_shorter}
use Rattle.flat_programs.proofs.body.statements.Goals as goal

pub loop-next-smaller : goal.loop-next-smaller
loop-next-smaller c = statement_shorter c.loop-next.rest.now c.in-Some.next c.in-Some.after.now c.in-Some.ensures

pub loop-next-preserved : goal.loop-next-preserved
loop-next-preserved c =
    let pushed = c.push.ensures.items ∙ ap (λ b. cond b (c.loop-next.statements.items ++ c.in-Some.next ∷ []) c.loop-next.statements.items) c.if-is_err.ensures.negation in
    subst (λ (ss : List Statement). (c.args.tokens.now ≡ spell_statements ss ++ c.in-Some.after.now) × AreReadable ss) (sym pushed)
    (statements_more c.args.tokens.now c.loop-next.statements.items c.loop-next.rest.now c.in-Some.next c.in-Some.after.now c.loop-next.invariant.0 c.loop-next.invariant.1 c.in-Some.ensures)
