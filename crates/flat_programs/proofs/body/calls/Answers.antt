use Rattle.std.proofs.Common.{◌≡◌, ◌∷◌, ◌++◌, List, [], cond, sym, ◌∙◌, ap, subst}
use Rattle.flat_programs.specs.declared.flat.LibraryFunction.{LibraryFunction}
use Rattle.flat_programs.specs.FlatSpelling.{spell_calls}
use Rattle.flat_programs.proofs.Lists.{calls_more}
use Rattle.flat_programs.proofs.body.calls.Goals as goal

pub loop-function-preserved : goal.loop-function-preserved
loop-function-preserved c =
    let pushed = c.push.ensures.items ∙ ap (λ b. cond b (c.loop-function.calls.items ++ c.in-Some.function ∷ []) c.loop-function.calls.items) c.if-is_err.ensures.negation in
    subst (λ (fs : List LibraryFunction). c.args.tokens.now ≡ spell_calls fs ++ c.in-Some.after.now) (sym pushed)
    (calls_more c.args.tokens.now c.loop-function.calls.items c.loop-function.rest.now c.in-Some.function c.in-Some.after.now c.loop-function.invariant c.in-Some.ensures)
