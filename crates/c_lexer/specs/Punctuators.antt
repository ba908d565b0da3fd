-- Punctuators (C11 6.4.6), without `...`, `#`, `##` and the digraphs.
use Rattle.std.specs.Prelude.{List, [], ◌∷◌, if◌then◌else◌, slice_index, codes}
use Rattle.base_core.specs.declared.token.Class.TheVariants.{Punctuator}
use Rattle.c_lexer.specs.Bytes.{Text, is_among}
use Rattle.c_lexer.specs.declared.item.Item.{Item}
use Rattle.c_lexer.specs.declared.item.Item.TheVariants.{Token, Fault}
use Rattle.c_lexer.specs.declared.item.Refusal.TheVariants.{BadByte}

-- by their length
abbrev pub of_three : List Text
of_three = codes "<<=" ∷ codes ">>=" ∷ []

abbrev pub of_two : List Text
of_two =
    codes "->" ∷ codes "++" ∷ codes "--" ∷ codes "<<" ∷ codes ">>" ∷ codes "<=" ∷ codes ">=" ∷ codes "==" ∷ codes "!=" ∷
    codes "&&" ∷ codes "||" ∷ codes "*=" ∷ codes "/=" ∷ codes "%=" ∷ codes "+=" ∷ codes "-=" ∷ codes "&=" ∷ codes "^=" ∷
    codes "|=" ∷ []

abbrev pub of_one : List Text
of_one =
    codes "{" ∷ codes "}" ∷ codes "(" ∷ codes ")" ∷ codes "[" ∷ codes "]" ∷ codes ";" ∷ codes "," ∷ codes "." ∷ codes "&" ∷
    codes "*" ∷ codes "+" ∷ codes "-" ∷ codes "~" ∷ codes "!" ∷ codes "/" ∷ codes "%" ∷ codes "<" ∷ codes ">" ∷ codes "^" ∷
    codes "|" ∷ codes "?" ∷ codes ":" ∷ codes "=" ∷ []

-- the longest punctuator at the front
unfoldable pub punctuator : Text → Item
punctuator z =
    let a = slice_index z 0 in
    let b = slice_index z 1 in
    if is_among of_three (a ∷ b ∷ slice_index z 2 ∷ []) then Token Punctuator 3
    else (if is_among of_two (a ∷ b ∷ []) then Token Punctuator 2
    else (if is_among of_one (a ∷ []) then Token Punctuator 1
    else Fault BadByte 0))
