use Rattle.std.proofs.Common.{[]}
use Rattle.c_grammar.proofs.Loops.{loop_begins, loop_turn, loop_ends, before_same}
use Rattle.type_parser.proofs.DeclaratorLists.{quals_end, quals_turn, quals_shorter}
use Rattle.type_parser.proofs.pointer.quals.Goals as goal

pub loop-qual-init : goal.loop-qual-init
loop-qual-init c = loop_begins _ _ c.new-found.ensures

pub loop-qual-smaller : goal.loop-qual-smaller
loop-qual-smaller c = quals_shorter c.loop-qual.cursor c.take.new.self c.in-Some.qual (cc) c.take.ensures

pub loop-qual-preserved : goal.loop-qual-preserved
loop-qual-preserved c = loop_turn c.push.new.self c.loop-qual.invariant (quals_turn c.loop-qual.cursor c.take.new.self c.in-Some.qual (cc) c.take.ensures) c.in_ok-push.ensures.ok

pub returns : goal.returns
returns c = loop_ends (λ qs. qs) [] c.loop-qual.found c.loop-qual.cursor c.loop-qual.invariant (quals_end c.loop-qual.cursor (cc)) (before_same c.loop-qual.found)
