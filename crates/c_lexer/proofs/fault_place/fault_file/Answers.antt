use Rattle.std.proofs.Common.{◌≡◌, ◌≤◌, ℕ, List, Option, length, string_bytes, IfOk, sym, subst, ap, ◌∙◌, arith}
use Rattle.std.proofs.lemmas.Bool.Decides.{nat_tests}
use Rattle.std.specs.Option.{option_map}
use Rattle.c_lexer.specs.FaultFile.{fault_file_behind}
use Rattle.c_lexer.specs.Progress.{progress, IsReady}
use Rattle.c_lexer.proofs.FaultFiles.{behind_goes, behind_stops, behind_ends, behind_starts}
use Rattle.c_lexer.proofs.Readiness.{ready_start, ready_rest}
use Rattle.c_lexer.proofs.fault_place.fault_file.Goals as goal

pub loop-rest-init : goal.loop-rest-init
loop-rest-init c =
    let text = c.args.text.now in
    record {
      same = ap (λ p. fault_file_behind p text) c.new-scanner.ensures ∙ behind_starts text;
      ready = subst (λ p. IsReady p (length text)) (sym c.new-scanner.ensures) (ready_start (length text) c.requires);
    }

pub returns-in-Fault : goal.returns-in-Fault
returns-in-Fault c =
    let z = c.loop-rest.rest.now in
    let p = progress c.loop-rest.scanner in
    let nonempty : 1 ≤ length z = grind (arith, nat_tests) in
    let named = c.file_named.ensures ∙ sym (behind_stops p c.in-Fault.field-0 c.in-Fault.field-1 z c.in-Fault.ensures.value nonempty) ∙ c.loop-rest.invariant.same in
    subst (λ (t : Option (List ℕ)). IfOk c.copied.result (λ name. option_map string_bytes name ≡ t)) named c.copied.ensures

pub loop-rest-preserved : goal.loop-rest-preserved
loop-rest-preserved c =
    let z = c.loop-rest.rest.now in
    let p = progress c.loop-rest.scanner in
    let q = progress c.step.new.self in
    let nonempty : 1 ≤ length z = grind (arith, nat_tests) in
    let within = c.in-Ok.ensures.within in
    record {
      same = ap (fault_file_behind q) c.back-rest.ensures ∙ sym (behind_goes p q c.in-Ok.n z c.in-Ok.ensures.steps within.0.0 nonempty) ∙ c.loop-rest.invariant.same;
      ready = ready_rest q z c.back-rest.result.now c.in-Ok.n c.back-rest.ensures within.1;
    }

pub returns : goal.returns
returns c =
    let z = c.loop-rest.rest.now in
    let empty : length z ≡ 0 = grind (arith, nat_tests) in
    sym (behind_ends (progress c.loop-rest.scanner) z empty) ∙ c.loop-rest.invariant.same
