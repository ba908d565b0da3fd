-- Comments (C11 6.4.9). Lines aren't spliced: a `\` directly before a newline is refused in a comment.
use Rattle.std.specs.Prelude.{ℕ, ◌≡◌, ◌+◌, ◌-◌, ◌&&◌, if◌then◌else◌, ◌==◌, take, drop, slice_index, Option, Some, None}
use Rattle.c_lexer.specs.Bytes.{Text, run, first_pair}
use Rattle.c_lexer.specs.declared.bytes.ByteClass.TheVariants.{Line}
use Rattle.c_lexer.specs.declared.item.Item.{Item}
use Rattle.c_lexer.specs.declared.item.Item.TheVariants.{Gap, Fault}
use Rattle.c_lexer.specs.declared.item.Refusal.TheVariants.{BadByte, OpenComment}

-- a comment of that length, whose first `\` before a newline stands there
abbrev pub comment : ℕ → Option ℕ → Item
comment n None = Gap n
comment n (Some splice) = Fault BadByte splice

-- the comment that ends at the first `*/`, whose `*` stands there
abbrev pub block_ending : Text → Option ℕ → Item
block_ending z None = Fault OpenComment 0
block_ending z (Some star) = comment (star + 2) (first_pair 92 10 0 (take star z))

-- The comment at the front of a text that begins with `/*`. It ends at the first `*/` behind these two bytes.
unfoldable pub block_comment : Text → Item
block_comment z = block_ending z (first_pair 42 47 2 (drop 2 z))

-- the text begins with a byte of a line
abbrev pub begins_line_comment : Text → Type 0
begins_line_comment z = (slice_index z 0 ≡ 47) × (slice_index z 1 ≡ 47)

-- The comment at the front of a text that begins with `//`. It ends before the newline, or with the text.
unfoldable pub line_comment : Text → Item
line_comment z =
    let n = run Line z in if slice_index z n == 10 && slice_index z (n - 1) == 92 then Fault BadByte (n - 1) else Gap n
