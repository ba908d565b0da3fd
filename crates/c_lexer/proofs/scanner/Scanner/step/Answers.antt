use Rattle.std.proofs.Common.{◌-◌, length, arith}
use Rattle.c_lexer.proofs.Readiness.{ready_split}
use Rattle.c_lexer.proofs.scanner.Scanner.step.Goals as goal

pub returns-after-self-clause-within : goal.returns-after-self-clause-within
returns-after-self-clause-within c =
    let z = c.args.z.now in
    ((omega arith, omega arith), c.pass.ensures.ready (length z - 1) (ready_split _ z c.front.result.now 1 c.front.ensures (omega arith) c.requires.ready))

pub returns-in-Gap-clause-within : goal.returns-in-Gap-clause-within
returns-in-Gap-clause-within c =
    let z = c.args.z.now in
    let part = c.in-Gap.ensures.within in
    (part, c.pass-in-Gap.ensures.ready (length z - c.in-Gap.n) (ready_split _ z c.front-in-Gap.result.now c.in-Gap.n c.front-in-Gap.ensures part.1 c.requires.ready))

pub returns-in_ok-keep-in-Token-clause-within : goal.returns-in_ok-keep-in-Token-clause-within
returns-in_ok-keep-in-Token-clause-within c =
    let z = c.args.z.now in
    let part = c.in-Token.ensures.within.0 in
    (part, c.in_ok-keep-in-Token.ensures.ready (length z - c.in-Token.n) (ready_split _ z c.front-in-Token.result.now c.in-Token.n c.front-in-Token.ensures part.1 c.requires.ready))
