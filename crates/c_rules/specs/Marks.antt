-- Places in a list of marks: a step between the code and LibraryCalls.
use Rattle.std.specs.Prelude.{ℕ, suc}
use Rattle.posix_table.specs.declared.kind.Param.{Param}
use Rattle.posix_table.specs.declared.kind.Param.TheVariants as p

-- the place of the mark for what follows an argument at this one
abbrev pub next_place : Param → ℕ → ℕ
next_place p.More n = n
next_place _ n = suc n
