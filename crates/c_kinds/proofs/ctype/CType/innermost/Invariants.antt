use Rattle.std.proofs.Common.{◌≡◌}
use Rattle.c_kinds.specs.Kind.{innermost}
use Rattle.c_kinds.specs.View.{view}
use Rattle.c_kinds.proofs.ctype.CType.innermost.Given as goal

abbrev pub invariant-loop-inner : goal.invariant-loop-inner
invariant-loop-inner l = innermost (view l.inner) ≡ innermost (view l.fn.self)
