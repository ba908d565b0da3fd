-- Keywords and names (C11 6.4.1 and 6.4.2).
use Rattle.std.specs.Prelude.{if◌then◌else◌, take}
use Rattle.base_core.specs.declared.token.Class.TheVariants.{Keyword, Name}
use Rattle.base_core.specs.Keywords.{is_keyword}
use Rattle.c_lexer.specs.Bytes.{Text, run}
use Rattle.c_lexer.specs.declared.bytes.ByteClass.TheVariants.{Word}
use Rattle.c_lexer.specs.declared.item.Item.{Item}
use Rattle.c_lexer.specs.declared.item.Item.TheVariants.{Token}

-- the longest word at the front: a letter or `_`, and then letters, digits and `_`
unfoldable pub name : Text → Item
name z =
    if is_keyword (take (run Word z) z) then Token Keyword (run Word z) else Token Name (run Word z)
