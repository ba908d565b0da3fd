-- Where a fault of a text lies, and of which kind it is.
use Rattle.std.specs.Prelude.{ℕ, List, Option, None, Some, codes}
use Rattle.base_core.specs.declared.place.Place.{Place}
use Rattle.c_lexer.specs.declared.fault.LexFault.{LexFault}
use Rattle.c_lexer.specs.declared.fault.LexFault.TheVariants.{BadByte, OpenComment, OpenLiteral, NumberTooLarge, Directive, NoMemory}

-- the place of a fault; want of memory has none
abbrev pub place_of : LexFault → Option Place
place_of (BadByte place) = Some place
place_of (OpenComment place) = Some place
place_of (OpenLiteral place) = Some place
place_of (NumberTooLarge place) = Some place
place_of (Directive place) = Some place
place_of NoMemory = None

-- the word for a fault's kind
abbrev pub kind_of : LexFault → List ℕ
kind_of (BadByte place) = codes "BadByte"
kind_of (OpenComment place) = codes "OpenComment"
kind_of (OpenLiteral place) = codes "OpenLiteral"
kind_of (NumberTooLarge place) = codes "NumberTooLarge"
kind_of (Directive place) = codes "Directive"
kind_of NoMemory = codes "NoMemory"
