-- The conditions on the names of a flat program, as tests.
use Rattle.std.specs.Prelude.{◌≡◌, ℕ, ◌+◌, ◌≤◌, List, [], ◌∷◌, length, Bool, true, not, ◌&&◌, ◌==◌}
use Rattle.std.specs.List.{list_any, list_all}
use Rattle.flat_programs.specs.FlatTree.{HandlerTree, FlatTree}
use Rattle.flat_programs.specs.FlatShape.{calls_in}
use Rattle.flat_programs.specs.declared.flat.Statement.{Statement}
use Rattle.flat_programs.specs.declared.flat.Statement.TheVariants.{Call, Install}

abbrev pub is_named : List HandlerTree → ℕ → Bool
is_named handlers name = list_any (λ (h : HandlerTree). h.name == name) handlers

abbrev pub names_differ : List HandlerTree → Bool
names_differ [] = true
names_differ (h ∷ hs) = not (is_named hs h.name) && names_differ hs

abbrev pub is_install_named : List HandlerTree → Statement → Bool
is_install_named handlers (Call f) = true
is_install_named handlers (Install signal handler) = is_named handlers handler

-- the conditions on names and numbers
pub record HasShape (t : FlatTree) : Type 0 where
  pub small : calls_in t.handlers + length t.statements ≤ 100
  pub differ : names_differ t.handlers ≡ true
  pub named : list_all (is_install_named t.handlers) t.statements ≡ true
