use Rattle.std.proofs.Common.{◌∙◌, ap, subst, sym}
use Rattle.base_core.specs.Taken.{appended}
use Rattle.asafe.specs.declared.status.Status.TheVariants.{Yes, Refused, Text, TooLarge, NotYet}
use Rattle.asafe.specs.Ends.{IsDecidedOrFault, IsNotYetOrNoMemory, IsReadFaultOrFault, IsTooLargeOrFault, IsUsageOrFault, IsYesOrFault}
use Rattle.asafe.proofs.Endings.{decided, not_small, says, says_as, too_long}
use Rattle.asafe.proofs.Printed.{absent, later, later_no_part, list_text, lists, no_job, no_memory_text, not_read, not_yet_text, part_of, prints_as, prints_part, puts_line, usage_job, usage_text}
use Rattle.asafe.proofs.command.run.Goals as goal

pub returns-in-Ok-clause-yes : goal.returns-in-Ok-clause-yes
returns-in-Ok-clause-yes g c = λ is text has. (says_as _ _ _ _ _ _ Yes text c.words_ending-ending.ensures.ends c.status.ensures is has).1

pub returns-in-Ok-clause-refused : goal.returns-in-Ok-clause-refused
returns-in-Ok-clause-refused g c = λ is text has. (says_as _ _ _ _ _ _ Refused text c.words_ending-ending.ensures.ends c.status.ensures is has).1

pub returns-in-Ok-clause-not_yet : goal.returns-in-Ok-clause-not_yet
returns-in-Ok-clause-not_yet g c = λ is text has. (says_as _ _ _ _ _ _ NotYet text c.words_ending-ending.ensures.ends c.status.ensures is has).1

pub returns-in-Ok-clause-fault : goal.returns-in-Ok-clause-fault
returns-in-Ok-clause-fault g c = λ is text has. (says_as _ _ _ _ _ _ Text text c.words_ending-ending.ensures.ends c.status.ensures is has).1

pub returns-in-Ok-clause-too_large : goal.returns-in-Ok-clause-too_large
returns-in-Ok-clause-too_large g c = λ is text has. says_as _ _ _ _ _ _ TooLarge text c.words_ending-ending.ensures.ends c.status.ensures is has

pub returns-in-Ok-clause-complete : goal.returns-in-Ok-clause-complete
returns-in-Ok-clause-complete g c = λ text has is.
    subst IsDecidedOrFault (sym c.status.ensures) (decided text _ (says _ _ _ _ _ text c.words_ending-ending.ensures.ends has) is)

pub returns-in-Ok-clause-large : goal.returns-in-Ok-clause-large
returns-in-Ok-clause-large g c = λ text has long.
    subst IsTooLargeOrFault (sym c.status.ensures) (too_long text _ (says _ _ _ _ _ text c.words_ending-ending.ensures.ends has) long)

pub returns-in-Ok-clause-small : goal.returns-in-Ok-clause-small
returns-in-Ok-clause-small g c = λ text has small is. not_small text (says_as _ _ _ _ _ _ TooLarge text c.words_ending-ending.ensures.ends c.status.ensures is has) small

pub returns-in-Ok-clause-fault_printed : goal.returns-in-Ok-clause-fault_printed
returns-in-Ok-clause-fault_printed g c = λ is text has.
    puts_line _ text _ _ _ c.words_ending-ending.result _ _ c.words_ending-ending.ensures.ends has (sym c.status.ensures ∙ is)
    (c.in-Ok.ensures.all ∙ ap (appended (g.K.Sink.taken c.args.out.now)) c.text.ensures)

pub returns-in-Ok-clause-listed : goal.returns-in-Ok-clause-listed
returns-in-Ok-clause-listed g c = λ asks. subst IsYesOrFault (sym c.status.ensures) (lists _ _ _ _ _ asks c.words_ending-ending.ensures.ends)

pub returns-in-Ok-clause-listed_printed : goal.returns-in-Ok-clause-listed_printed
returns-in-Ok-clause-listed_printed g c = λ asks is.
    c.in-Ok.ensures.all ∙ ap (appended (g.K.Sink.taken c.args.out.now)) (c.text.ensures ∙ list_text _ _ _ _ _ asks c.words_ending-ending.ensures.ends (sym c.status.ensures ∙ is))

pub returns-in-Ok-clause-later : goal.returns-in-Ok-clause-later
returns-in-Ok-clause-later g c = λ is. subst IsNotYetOrNoMemory (sym c.status.ensures) (later _ _ _ _ _ is c.words_ending-ending.ensures.ends).0

pub returns-in-Ok-clause-usage : goal.returns-in-Ok-clause-usage
returns-in-Ok-clause-usage g c = λ is. usage_job _ _ _ _ _ c.words_ending-ending.ensures.ends (sym c.status.ensures ∙ is)

pub returns-in-Ok-clause-usage_only : goal.returns-in-Ok-clause-usage_only
returns-in-Ok-clause-usage_only g c = λ is. subst IsUsageOrFault (sym c.status.ensures) (no_job _ _ _ _ _ is c.words_ending-ending.ensures.ends)

pub returns-in-Ok-clause-usage_printed : goal.returns-in-Ok-clause-usage_printed
returns-in-Ok-clause-usage_printed g c = λ is.
    c.in-Ok.ensures.all ∙ ap (appended (g.K.Sink.taken c.args.out.now)) (c.text.ensures ∙ usage_text c.words_ending-ending.result (sym c.status.ensures ∙ is))

pub returns-in-Ok-clause-read_fault : goal.returns-in-Ok-clause-read_fault
returns-in-Ok-clause-read_fault g c = λ is. not_read _ _ _ _ _ c.words_ending-ending.ensures.ends (sym c.status.ensures ∙ is)

pub returns-in-Ok-clause-absent : goal.returns-in-Ok-clause-absent
returns-in-Ok-clause-absent g c = λ lacks. subst IsReadFaultOrFault (sym c.status.ensures) (absent c.words_ending-ending.result (c.words_ending-ending.ensures.absent lacks))

pub returns-in-Ok-clause-printed : goal.returns-in-Ok-clause-printed
returns-in-Ok-clause-printed g c =
    prints_as _ _ _ _ c.words_ending-ending.result _ _ _ c.words_ending-ending.ensures.ends c.status.ensures
    (c.in-Ok.ensures.all ∙ ap (appended (g.K.Sink.taken c.args.out.now)) c.text.ensures)

pub returns-in-Ok-clause-silent : goal.returns-in-Ok-clause-silent
returns-in-Ok-clause-silent g c = λ is. c.put_all.ensures.idle (c.text.ensures ∙ not_yet_text c.words_ending-ending.result (sym c.status.ensures ∙ is))

pub returns-in-Ok-clause-no_memory : goal.returns-in-Ok-clause-no_memory
returns-in-Ok-clause-no_memory g c = λ is. c.put_all.ensures.idle (c.text.ensures ∙ no_memory_text c.words_ending-ending.result (sym c.status.ensures ∙ is))

pub returns-clause-part : goal.returns-clause-part
returns-clause-part g c = λ is text has.
    part_of _ text _ _ _ c.words_ending-ending.result _ _ c.text.result.now c.words_ending-ending.ensures.ends has c.text.ensures c.in-Err.ensures.part

pub returns-clause-printed : goal.returns-clause-printed
returns-clause-printed g c =
    prints_part _ _ _ _ c.words_ending-ending.result _ _ c.text.result.now c.words_ending-ending.ensures.ends c.text.ensures c.in-Err.ensures.part

pub returns-clause-later : goal.returns-clause-later
returns-clause-later g c = λ is.
    absurd (later_no_part _ _ _ _ c.words_ending-ending.result _ _ c.text.result.now is c.words_ending-ending.ensures.ends c.text.ensures c.in-Err.ensures.part)
