-- The numbers of the rules that a node may break.
use Rattle.std.specs.Prelude.{ℕ}
use Rattle.c_rules.specs.declared.misfit.MisfitKind.{MisfitKind}
use Rattle.c_rules.specs.declared.misfit.MisfitKind.TheVariants.{UnknownName, DeclaredTwice, NotCallable, WrongCount, KindMismatch, NotConstant, LeftOut, NoMain, NotAssignable, LibraryAsValue}

abbrev pub number : MisfitKind → ℕ
number UnknownName = 1
number DeclaredTwice = 2
number NotCallable = 3
number WrongCount = 4
number KindMismatch = 5
number NotConstant = 6
number LeftOut = 7
number NoMain = 8
number NotAssignable = 9
number LibraryAsValue = 10
