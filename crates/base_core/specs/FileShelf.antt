-- How often the shelf of the system's files has failed.
use Rattle.std.specs.Prelude.{ℕ}
use Rattle.base_core.specs.declared.file_shelf.FileShelf.{FileShelf}

-- how often a read has failed
abbrev pub failed_file_reads : {R File Entries : Type 0} → FileShelf R File Entries → ℕ
failed_file_reads shelf = shelf.failed_reads

-- how often a write has failed
abbrev pub failed_file_writes : {R File Entries : Type 0} → FileShelf R File Entries → ℕ
failed_file_writes shelf = shelf.failed_writes
