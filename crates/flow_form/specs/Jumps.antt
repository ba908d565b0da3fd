-- What the code's jumps stand for.
use Rattle.std.specs.Prelude.{map}
use Rattle.flow_form.specs.declared.jumps.Jumps.{Jumps}
use Rattle.flow_form.specs.Known.{label_of}
use Rattle.flow_form.specs.Statements.{Around}

abbrev pub around : Jumps → Around
around w = record { stop = w.stop; again = w.again; function = w.function; labels = map label_of w.targets.now.labels.items }
