use Rattle.std.proofs.Common.{◌≡◌, take, count_by}
use Rattle.c_tree.specs.Limits.{NestsAtMost, is_opener, is_closer}
use Rattle.c_parser.proofs.brackets.first_nested.Given as goal

abbrev pub invariant-loop-k : goal.invariant-loop-k
invariant-loop-k l = record { opened : l.opened ≡ count_by is_opener (take l.k l.tokens); closed : l.closed ≡ count_by is_closer (take l.k l.tokens); nests : NestsAtMost 100 (take l.k l.tokens) }
