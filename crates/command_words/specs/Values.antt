-- The values of options, and the number of a generated program.
use Rattle.std.specs.Prelude.{ℕ, Bool, false, ◌&&◌, ◌||◌, ◌==◌, [], ◌∷◌, length, Option, Some, None, if◌then◌else◌, nat_lt, codes}
use Rattle.std.specs.List.{list_all}
use Rattle.std.specs.Char.{digit_value}
use Rattle.std.specs.Str.{bytes_eq}
use Rattle.std.specs.Str.Parse.{digits_value}
use Rattle.base_core.specs.declared.rules.Rules.{Rules}
use Rattle.base_core.specs.declared.rules.Rules.TheVariants.{Usual, Strict, Later}
use Rattle.clap.specs.Words.{Text}
use Rattle.command_words.specs.declared.job.Depth.{Depth}
use Rattle.command_words.specs.declared.job.Depth.TheVariants.{One, Two}

-- the profile that a word names
abbrev pub rules_named : Text → Option Rules
rules_named word =
    if bytes_eq word (codes "usual") then Some Usual
    else (if bytes_eq word (codes "strict") then Some Strict
    else (if bytes_eq word (codes "later") then Some Later else None))

-- `usual` where the option is absent
abbrev pub rules_value : Option Text → Option Rules
rules_value None = Some Usual
rules_value (Some word) = rules_named word

abbrev pub depth_named : Text → Option Depth
depth_named word =
    if bytes_eq word (codes "1") then Some One
    else (if bytes_eq word (codes "2") then Some Two else None)

-- 2 where the option is absent
abbrev pub depth_value : Option Text → Option Depth
depth_value None = Some Two
depth_value (Some word) = depth_named word

-- a sign, or a zero before more digits
abbrev pub begins_badly : Text → Bool
begins_badly [] = false
begins_badly (x ∷ xs) = (x == 43) || ((x == 48) && nat_lt 0 (length xs))

-- more than four bytes, a sign, or a zero too many
abbrev pub is_ill_formed : Text → Bool
is_ill_formed word = nat_lt 4 (length word) || begins_badly word

abbrev pub is_numeral : Text → Bool
is_numeral word = nat_lt 0 (length word) && list_all (λ d. nat_lt (digit_value d) 10) word

-- the value of decimal digits, where it is at most 2,000
abbrev pub number_in : Text → Option ℕ
number_in word = if is_numeral word then (if nat_lt 2000 (digits_value 10 word) then None else Some (digits_value 10 word)) else None

-- one to four decimal digits without a leading zero, of at most 2,000
abbrev pub number_of : Text → Option ℕ
number_of word = if is_ill_formed word then None else number_in word
