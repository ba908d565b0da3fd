-- What a shelf in memory holds, and which of its calls are to fail.
use Rattle.std.specs.Prelude.{ℕ, List, Option}
use Rattle.base_core.specs.declared.mem_shelf.MemShelf.{MemShelf}
use Rattle.base_core.specs.declared.mem_shelf.PlannedFailure.{PlannedFailure}
use Rattle.base_core.specs.Texts.{bytes_of}

-- the bytes of a name
abbrev pub held : MemShelf → List ℕ → Option (List ℕ)
held shelf name = bytes_of shelf.texts name

-- the planned failures, in the order in which they were planned
abbrev pub planned : MemShelf → List PlannedFailure
planned shelf = shelf.planned.items

-- how often a read has failed
abbrev pub failed_reads_of : MemShelf → ℕ
failed_reads_of shelf = shelf.failed_reads

-- how often a write has failed
abbrev pub failed_writes_of : MemShelf → ℕ
failed_writes_of shelf = shelf.failed_writes
