-- How a lexeme holds its bytes. No public clause cites this module.
use Rattle.std.specs.Prelude.{ℕ, ◌≤◌, List, take}
use Rattle.base_core.specs.declared.lexeme.TheConstants.{ROOM}
use Rattle.base_core.specs.declared.lexeme.Stored.{Stored}
use Rattle.base_core.specs.declared.lexeme.Stored.TheVariants.{Inside, OnHeap}

-- the bytes that are held
abbrev pub stored_bytes : Stored → List ℕ
stored_bytes (Inside n bytes) = take n bytes
stored_bytes (OnHeap bytes) = bytes.value.items

-- no more bytes are inside than there is room for
abbrev pub IsWithinRoom : Stored → Type 0
IsWithinRoom (Inside n bytes) = n ≤ ROOM
IsWithinRoom (OnHeap bytes) = Unit {0}
