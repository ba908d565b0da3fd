-- The arguments of a call are smaller than the call.
use denote.Param.Weighed.{most}
use Rattle.std.proofs.Common.{arith, List, ◌<◌}
use Rattle.c_tree.specs.declared.tree.Expr.{Expr}
use Rattle.c_tree.specs.declared.tree.Expr.TheVariants as e
use Rattle.c_tree.specs.declared.tree.Bare.TheViews.{sized-Call}
use Rattle.c_tree.proofs.tree.Expr.TheLaws.{the_size}

pub arguments_smaller : (f : Expr) (xs : List Expr) → most the_size xs < the_size (e.Call f xs)
arguments_smaller f xs = let h = sized-Call f xs in omega (arith, h)
