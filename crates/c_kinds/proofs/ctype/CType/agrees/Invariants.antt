use Rattle.std.proofs.Common.{◌≡◌}
use Rattle.c_kinds.specs.Matching.{agrees}
use Rattle.c_kinds.specs.View.{view}
use Rattle.c_kinds.proofs.ctype.CType.agrees.Given as goal

abbrev pub invariant-loop-one : goal.invariant-loop-one
invariant-loop-one l = agrees (view l.one) (view l.two) ≡ agrees (view l.fn.self) (view l.fn.other)
