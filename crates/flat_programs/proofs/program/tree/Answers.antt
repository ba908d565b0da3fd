use Rattle.std.proofs.Common.{sym}
use Rattle.flat_programs.proofs.Items.{no_main, no_end, no_more, read_tree, no_length, some_length}
use Rattle.flat_programs.proofs.program.tree.Goals as goal

pub returns-in-None : goal.returns-in-None
returns-in-None c =
    no_main c.args.tokens.now c.in_ok-handlers.handlers.items c.in_ok-handlers.rest.now
    (record { spelled = c.in_ok-handlers.ensures.spelled; shaped = c.in_ok-handlers.ensures.shaped; end = c.in_ok-handlers.ensures.end }) c.in-None.ensures

pub returns-in-None-main_tail : goal.returns-in-None-main_tail
returns-in-None-main_tail c =
    no_end c.args.tokens.now c.in_ok-handlers.handlers.items c.in_ok-handlers.rest.now c.in-Some.rest.now c.in_ok-statements-in-Some.statements.items c.in_ok-statements-in-Some.rest.now
    (record {
      handlers = record { spelled = c.in_ok-handlers.ensures.spelled; shaped = c.in_ok-handlers.ensures.shaped; end = c.in_ok-handlers.ensures.end };
      head = c.in-Some.ensures;
      spelled = c.in_ok-statements-in-Some.ensures.spelled;
      readable = c.in_ok-statements-in-Some.ensures.readable;
      end = c.in_ok-statements-in-Some.ensures.end;
    }) c.in-None-main_tail.ensures

pub returns-then-is_empty : goal.returns-then-is_empty
returns-then-is_empty c =
    rw c.new.ensures
    (read_tree c.args.tokens.now c.in_ok-handlers.handlers.items c.in_ok-handlers.rest.now c.in-Some.rest.now c.in_ok-statements-in-Some.statements.items c.in_ok-statements-in-Some.rest.now
    c.in-Some-main_tail.end.now
    (record {
      handlers = record { spelled = c.in_ok-handlers.ensures.spelled; shaped = c.in_ok-handlers.ensures.shaped; end = c.in_ok-handlers.ensures.end };
      head = c.in-Some.ensures;
      spelled = c.in_ok-statements-in-Some.ensures.spelled;
      readable = c.in_ok-statements-in-Some.ensures.readable;
      end = c.in_ok-statements-in-Some.ensures.end;
    })
    c.in-Some-main_tail.ensures (no_length c.in-Some-main_tail.end.now (sym c.if-is_empty.ensures)))

pub returns-else-is_empty : goal.returns-else-is_empty
returns-else-is_empty c =
    no_more c.args.tokens.now c.in_ok-handlers.handlers.items c.in_ok-handlers.rest.now c.in-Some.rest.now c.in_ok-statements-in-Some.statements.items c.in_ok-statements-in-Some.rest.now
    c.in-Some-main_tail.end.now
    (record {
      handlers = record { spelled = c.in_ok-handlers.ensures.spelled; shaped = c.in_ok-handlers.ensures.shaped; end = c.in_ok-handlers.ensures.end };
      head = c.in-Some.ensures;
      spelled = c.in_ok-statements-in-Some.ensures.spelled;
      readable = c.in_ok-statements-in-Some.ensures.readable;
      end = c.in_ok-statements-in-Some.ensures.end;
    }) c.in-Some-main_tail.ensures (λ none. some_length c.in-Some-main_tail.end.now (sym c.if-is_empty.ensures) none)
