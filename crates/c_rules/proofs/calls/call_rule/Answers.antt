use Rattle.std.proofs.Common.{◌≡◌, IfOk, ap, sym, subst, ◌∙◌}
use Rattle.c_kinds.specs.View.{view, view_types}
use Rattle.c_kinds.proofs.ViewLemmas.{view_FnPtr}
use Rattle.c_rules.specs.Calls as rule
use Rattle.c_rules.specs.Seen.{seen, seen_operands}
use Rattle.c_rules.proofs.Lists.{listed}
use Rattle.c_rules.proofs.calls.call_rule.Goals as goal

pub returns-in-FnPtr : goal.returns-in-FnPtr
returns-in-FnPtr c =
    let xs = seen_operands c.args.xs.now in
    let dues = view_types c.in-FnPtr.dues in
    let gives = view c.in-FnPtr.gives.value in
    let of_callee = ap (λ k. rule.call_rule xs k) (ap view c.in-FnPtr.is ∙ view_FnPtr c.in-FnPtr.dues c.in-FnPtr.gives) in
    let same = ap (λ k. rule.called xs dues (view k)) c.deref.ensures ∙ ap (λ ps. rule.called xs ps gives) (sym (listed dues)) ∙ sym of_callee in
    subst (λ j. IfOk c.called.result (λ v. seen v ≡ j)) same c.called.ensures
