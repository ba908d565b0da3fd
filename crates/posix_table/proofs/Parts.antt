-- Rows that were added in parts.
use Rattle.std.proofs.Common.{◌≡◌, List, [], ◌++◌, ap, ◌∙◌}
use Rattle.posix_table.specs.declared.row.Row.{Row}

-- four parts
pub of_four : (none r s t all a b c d : List Row) → none ≡ [] → r ≡ none ++ a → s ≡ r ++ b → t ≡ s ++ c → all ≡ t ++ d → all ≡ a ++ b ++ c ++ d
of_four none r s t all a b c d empty first second third fourth =
    fourth ∙ ap (λ l. l ++ d) (third ∙ ap (λ l. l ++ c) (second ∙ ap (λ l. l ++ b) (first ∙ ap (λ l. l ++ a) empty)))

-- five parts
pub of_five : (none r s t u all a b c d e : List Row) → none ≡ [] → r ≡ none ++ a → s ≡ r ++ b → t ≡ s ++ c → u ≡ t ++ d → all ≡ u ++ e
    → all ≡ a ++ b ++ c ++ d ++ e
of_five none r s t u all a b c d e empty first second third fourth fifth =
    fifth ∙ ap (λ l. l ++ e) (of_four none r s t u a b c d empty first second third fourth)
