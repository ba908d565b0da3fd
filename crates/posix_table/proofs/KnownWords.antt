-- Every word of the profiles is known to the notation.
use Rattle.std.proofs.Common.{◌≡◌, true, ◌++◌, codes, refl}
use Rattle.std.specs.List.{list_all}
use Rattle.posix_table.specs.Notation.{words, is_known_signature}
use Rattle.posix_table.specs.Profile.{safe_lines, unsafe_lines}

-- of the profile
pub profile_words_are_known : list_all (λ line. is_known_signature (words line.0)) (safe_lines ++ unsafe_lines) ≡ true
profile_words_are_known = refl

-- of the row of _Fork
pub split_words_are_known : is_known_signature (words (codes "() i split")) ≡ true
split_words_are_known = refl
