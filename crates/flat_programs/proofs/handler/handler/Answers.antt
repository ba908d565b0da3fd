use Rattle.flat_programs.proofs.Items.{no_brace, read_handler}
use Rattle.flat_programs.proofs.handler.handler.Goals as goal

pub returns-in-None-expect : goal.returns-in-None-expect
returns-in-None-expect c =
    no_brace c.args.tokens.now (c.in-Some.name, c.in-Some.parameter) c.in-Some.rest.now c.in_ok-calls-in-Some.calls.items c.in_ok-calls-in-Some.rest.now
    c.in-Some.ensures c.in_ok-calls-in-Some.ensures.spelled c.in_ok-calls-in-Some.ensures.end c.in-None-expect.ensures

pub returns-in-Some-expect : goal.returns-in-Some-expect
returns-in-Some-expect c =
    rw c.new.ensures
    (read_handler c.args.tokens.now c.in-Some.name c.in-Some.parameter c.in-Some.rest.now c.in_ok-calls-in-Some.calls.items c.in_ok-calls-in-Some.rest.now c.in-Some-expect.rest.now
    c.in-Some.ensures c.in_ok-calls-in-Some.ensures.spelled c.in-Some-expect.ensures)
