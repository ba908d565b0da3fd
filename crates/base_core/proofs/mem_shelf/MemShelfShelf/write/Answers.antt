use Rattle.std.proofs.Common.{inl}
use Rattle.base_core.proofs.Prefixes.{front_is_prefix}
use Rattle.base_core.proofs.mem_shelf.MemShelfShelf.write.Goals as goal

pub returns-in-Ok-clause-refused : goal.returns-in-Ok-clause-refused
returns-in-Ok-clause-refused c = inl (front_is_prefix _ c.min.result c.args.bytes.now c.in-Ok.ensures.stored)
