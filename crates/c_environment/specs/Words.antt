-- The words of specifiers whose place among them doesn't count.
use Rattle.std.specs.Prelude.{Bool}
use Rattle.c_tree.specs.Tree.{Specifier}
use Rattle.c_environment.specs.Types.{is_const, is_volatile, is_char, is_short, is_long, is_unsigned}
use Rattle.c_environment.specs.declared.words.Word.{Word}
use Rattle.c_environment.specs.declared.words.Word.TheVariants as w

abbrev pub is_word : Word → Specifier → Bool
is_word w.Const = is_const
is_word w.Volatile = is_volatile
is_word w.Char = is_char
is_word w.Short = is_short
is_word w.Long = is_long
is_word w.Unsigned = is_unsigned
