use Rattle.command_words.proofs.Numbers.{number_read, number_refused}
use Rattle.command_words.proofs.values.number_in.Goals as goal

pub returns-else-n-gt-MOST : goal.returns-else-n-gt-MOST
returns-else-n-gt-MOST c = number_read c.args.word.now c.in-Ok.n c.requires c.in-Ok.ensures.value.0 c.if-n-gt-MOST.false

pub returns-in-Err : goal.returns-in-Err
returns-in-Err c = number_refused c.args.word.now c.requires c.in-Err.ensures.value.0
