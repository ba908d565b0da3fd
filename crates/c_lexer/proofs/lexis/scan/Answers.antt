use Rattle.std.proofs.Common.{◌≡◌, ◌≤◌, length, sym, subst, ap, ◌∙◌, arith}
use Rattle.std.proofs.lemmas.Bool.Decides.{nat_tests}
use Rattle.c_lexer.specs.Lexis.{rest, Progress}
use Rattle.c_lexer.specs.Progress.{progress, IsReady}
use Rattle.c_lexer.proofs.Readiness.{ready_start, ready_rest}
use Rattle.c_lexer.proofs.Turns.{rest_goes, rest_ends, lexis_starts, fault_given}
use Rattle.c_lexer.proofs.Stands.{keeps_start, keeps_turn, keeps_end}
use Rattle.c_lexer.proofs.lexis.scan.Goals as goal

pub loop-rest-init : goal.loop-rest-init
loop-rest-init c =
    let text = c.args.text.now in
    record {
      same = ap (λ p. rest p text) c.new-scanner.ensures ∙ lexis_starts text;
      ready = subst (λ p. IsReady p (length text)) (sym c.new-scanner.ensures) (ready_start (length text) c.requires);
      keeps = keeps_start text c.new-scanner.result.tokens.items c.new-scanner.result.fresh (ap (λ (p : Progress). p.tokens) c.new-scanner.ensures) (ap (λ (p : Progress). p.fresh) c.new-scanner.ensures);
    }

pub returns-in-Err-clause-exact : goal.returns-in-Err-clause-exact
returns-in-Err-clause-exact c =
    let z = c.loop-rest.rest.now in
    let nonempty : 1 ≤ length z = grind (arith, nat_tests) in
    fault_given c.in-Err.fault (progress c.loop-rest.scanner) (progress c.step.new.self) z _ c.in-Err.ensures.steps nonempty c.loop-rest.invariant.same

pub loop-rest-preserved : goal.loop-rest-preserved
loop-rest-preserved c =
    let z = c.loop-rest.rest.now in
    let p = progress c.loop-rest.scanner in
    let q = progress c.step.new.self in
    let nonempty : 1 ≤ length z = grind (arith, nat_tests) in
    let within = c.in-Ok.ensures.within in
    record {
      same = ap (rest q) c.back-rest.ensures ∙ sym (rest_goes p q c.in-Ok.n z c.in-Ok.ensures.steps within.0.0 nonempty) ∙ c.loop-rest.invariant.same;
      ready = ready_rest q z c.back-rest.result.now c.in-Ok.n c.back-rest.ensures within.1;
      keeps = keeps_turn c.args.text.now p q c.in-Ok.n z c.back-rest.result.now c.back-rest.ensures c.in-Ok.ensures.item nonempty c.in-Ok.ensures.steps c.loop-rest.invariant.keeps;
    }

pub returns-clause-exact : goal.returns-clause-exact
returns-clause-exact c =
    let z = c.loop-rest.rest.now in
    let empty : length z ≡ 0 = grind (arith, nat_tests) in
    sym c.loop-rest.invariant.same ∙ rest_ends (progress c.loop-rest.scanner) z empty

pub returns-clause-stands : goal.returns-clause-stands
returns-clause-stands c =
    let z = c.loop-rest.rest.now in
    let empty : length z ≡ 0 = grind (arith, nat_tests) in
    keeps_end c.args.text.now c.loop-rest.scanner.tokens.items c.loop-rest.scanner.fresh z empty c.loop-rest.invariant.keeps
