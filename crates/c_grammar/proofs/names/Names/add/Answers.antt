use Rattle.c_grammar.proofs.Known.{joins_last}
use Rattle.c_grammar.proofs.names.Names.add.Goals as goal

pub invariant_of-self-2 : goal.invariant_of-self-2
invariant_of-self-2 c =
    rw (c.push_back_reserved.ensures.items, c.reserve.ensures.items, c.in-Ok.ensures)
    (joins_last c.in_ok-from_slice.field-0 c.self.inside.known.keys c.insert.new.self.keys c.in_ok-insert.field-0 c.self.inside.names.items c.args.name.now c.in_ok-from_slice.ensures.items c.self.invariant
    (c.in_ok-insert.ensures.added, c.in_ok-insert.ensures.keys))
