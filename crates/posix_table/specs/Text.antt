-- The text of a table: a line a row, as "open safe (r,i,i?) i".
use Rattle.std.specs.Prelude.{ℕ, ◌-◌, ◌==◌, ◌&&◌, not, Bool, true, false, if◌then◌else◌, List, [], ◌∷◌, ◌++◌, codes}
use Rattle.posix_table.specs.declared.kind.Param.{Param}
use Rattle.posix_table.specs.declared.kind.Param.TheVariants as param
use Rattle.posix_table.specs.declared.kind.ResultKind.{ResultKind}
use Rattle.posix_table.specs.declared.kind.ResultKind.TheVariants as result
use Rattle.posix_table.specs.declared.kind.Effect.{Effect}
use Rattle.posix_table.specs.declared.kind.Effect.TheVariants as effect
use Rattle.posix_table.specs.declared.row.Row.{Row}
use Rattle.posix_table.specs.Law.{is_more}

abbrev pub letter : Param → List ℕ
letter param.Int = codes "i"
letter param.Read = codes "r"
letter param.Write = codes "w"
letter param.Both = codes "b"
letter param.Copied = codes "c"
letter param.Kernel = codes "k"
letter param.Kept = codes "x"
letter param.Null = codes "0"
letter param.SetIn = codes "S"
letter param.SetOut = codes "T"
letter param.ActionIn = codes "A"
letter param.ActionOut = codes "B"
letter param.HandlerFn = codes "H"
letter param.ThreadFn = codes "P"
letter param.ForkFn = codes "Q"
letter param.Either = codes "y"
letter param.More = codes "*"

abbrev pub result_letter : ResultKind → List ℕ
result_letter result.Int = codes "i"
result_letter result.Nothing = codes "v"
result_letter result.Never = codes "!"
result_letter result.First = codes "1"
result_letter result.Fresh = codes "n"
result_letter result.Own = codes "g"
result_letter result.OldHandler = codes "h"

-- the word of an effect behind a blank
abbrev pub effect_word : Effect → List ℕ
effect_word effect.Plain = []
effect_word effect.Fork = codes " fork"
effect_word effect.Split = codes " split"
effect_word effect.Pure = codes " pure"
effect_word effect.Wait = codes " wait"
effect_word effect.Fill = codes " fill"
effect_word effect.Exec = codes " exec"
effect_word effect.Empty = codes " empty"
effect_word effect.Full = codes " full"
effect_word effect.Any = codes " any"
effect_word effect.Add = codes " add"
effect_word effect.Del = codes " del"
effect_word effect.Mask = codes " mask"
effect_word effect.Install = codes " install"
effect_word effect.Endp = codes " endp"
effect_word effect.Thread = codes " thread"
effect_word effect.Atfork = codes " atfork"

-- a question mark where the argument may be left out, that is, where no more must be given
abbrev pub question : ℕ → Param → List ℕ
question left p = if left == 0 && not (is_more p) then codes "?" else []

-- a comma before what follows
abbrev pub comma : List Param → List ℕ
comma [] = []
comma (p ∷ ps) = codes ","

-- the parameters, of which so many arguments must still be given
abbrev pub parameters_text : ℕ → List Param → List ℕ
parameters_text left [] = []
parameters_text left (p ∷ ps) = letter p ++ (question left p ++ (comma ps ++ parameters_text (left - 1) ps))

-- the parameters in brackets, the result and the effect
abbrev pub signature_text : Row → List ℕ
signature_text row =
    codes "(" ++ (parameters_text row.fewest row.parameters ++ (codes ") " ++ (result_letter row.result ++ effect_word row.effect)))

abbrev pub safety : Bool → List ℕ
safety true = codes " safe "
safety false = codes " unsafe "

-- the line of a row
abbrev pub line_of : Row → List ℕ
line_of row = row.name ++ (safety row.safe ++ (signature_text row ++ codes "\n"))

-- the lines of the rows in their order
abbrev pub text_of_table : List Row → List ℕ
text_of_table [] = []
text_of_table (row ∷ rows) = line_of row ++ text_of_table rows
