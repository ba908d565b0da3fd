-- Flat programs as plain data: signal handlers, and a function main whose statements are calls and installs.
use Rattle.std.specs.Prelude.{ℕ, List}
use Rattle.flat_programs.specs.declared.flat.LibraryFunction.{LibraryFunction}
use Rattle.flat_programs.specs.declared.flat.Statement.{Statement}

-- void name(int parameter) { calls }
pub record HandlerTree : Type 0 where
  pub name : ℕ
  pub parameter : ℕ
  pub calls : List LibraryFunction

-- the handlers, then int main(void) { statements return 0; }
pub record FlatTree : Type 0 where
  pub handlers : List HandlerTree
  pub statements : List Statement
