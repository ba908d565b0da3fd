-- What stands at the front of a text (C11 6.4): each lexeme is the longest that begins there.
use Rattle.std.specs.Prelude.{Bool, ◌&&◌, if◌then◌else◌, ◌==◌, slice_index}
use Rattle.std.specs.Char.{is_ascii_digit}
use Rattle.c_lexer.specs.Bytes.{Text, is_blank, is_letter}
use Rattle.c_lexer.specs.Comments.{block_comment, line_comment}
use Rattle.c_lexer.specs.Directives.{directive}
use Rattle.c_lexer.specs.Integers.{integer}
use Rattle.c_lexer.specs.Literals.{character, string}
use Rattle.c_lexer.specs.Names.{name}
use Rattle.c_lexer.specs.Punctuators.{punctuator}
use Rattle.c_lexer.specs.declared.item.Item.{Item}
use Rattle.c_lexer.specs.declared.item.Item.TheVariants.{Blank}

-- a comment, a directive or a punctuator
unfoldable pub sign : Bool → Text → Item
sign fresh z =
    let b = slice_index z 0 in
    if b == 47 && slice_index z 1 == 42 then block_comment z
    else (if b == 47 && slice_index z 1 == 47 then line_comment z
    else (if b == 35 && fresh then directive z
    else punctuator z))

-- The item at the front of a text that isn't empty. It is fresh where only blanks stand before it on its line.
unfoldable pub first : Bool → Text → Item
first fresh z =
    let b = slice_index z 0 in
    if is_blank b then Blank
    else (if is_letter b then name z
    else (if is_ascii_digit b then integer z
    else (if b == 39 then character z
    else (if b == 34 then string z
    else sign fresh z))))
