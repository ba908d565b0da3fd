use Rattle.asafe.proofs.command.text_ending.Goals as goal

pub returns-in-Err : goal.returns-in-Err
returns-in-Err c = c.fault_ending.ensures c.args.json c.in-Err.ensures.exact
