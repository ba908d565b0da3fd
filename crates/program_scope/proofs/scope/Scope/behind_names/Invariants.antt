use Rattle.std.proofs.Common.{◌≡◌, map, drop}
use Rattle.c_tree.specs.Shape.{behind_names}
use Rattle.c_tree.specs.StatementView.{view_named}
use Rattle.program_scope.proofs.scope.Scope.behind_names.Given as goal

abbrev pub invariant-loop-named : goal.invariant-loop-named
invariant-loop-named l = behind_names l.storage (map view_named (drop l.named-index l.all)) l.self ≡ behind_names l.fn.storage (map view_named l.fn.all) l.fn.self
