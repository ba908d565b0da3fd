-- Directives: lines that include a header, and line markers (C11 6.10.2 and 6.10.4).
use Rattle.std.specs.Prelude.{ℕ, ◌+◌, Bool, ◌&&◌, if◌then◌else◌, ◌==◌, nat_le, is_some, List, [], ◌∷◌, length, take, drop, slice_index, Option, Some, None, codes}
use Rattle.std.specs.Str.{bytes_eq}
use Rattle.std.specs.Str.Lossy.{utf8_valid_len}
use Rattle.c_lexer.specs.Bytes.{Text, run, past_blanks, all_in, is_among}
use Rattle.c_lexer.specs.Numbers.{value}
use Rattle.c_lexer.specs.declared.bytes.ByteClass.TheVariants.{Blank, Line, Digit, Header, File, Group}
use Rattle.c_lexer.specs.declared.item.Item.{Item}
use Rattle.c_lexer.specs.declared.item.Item.TheVariants.{Gap, Marker, Fault}
use Rattle.c_lexer.specs.declared.item.Refusal.TheVariants.{Directive}

-- the headers that a text may include
abbrev pub headers : List Text
headers =
    codes "arpa/inet.h" ∷ codes "errno.h" ∷ codes "fcntl.h" ∷ codes "limits.h" ∷ codes "netinet/in.h" ∷ codes "poll.h" ∷
    codes "pthread.h" ∷ codes "semaphore.h" ∷ codes "signal.h" ∷ codes "stddef.h" ∷ codes "stdint.h" ∷ codes "stdio.h" ∷
    codes "stdlib.h" ∷ codes "string.h" ∷ codes "sys/select.h" ∷ codes "sys/socket.h" ∷ codes "sys/stat.h" ∷
    codes "sys/time.h" ∷ codes "sys/times.h" ∷ codes "sys/types.h" ∷ codes "sys/un.h" ∷ codes "sys/utsname.h" ∷
    codes "sys/wait.h" ∷ codes "syslog.h" ∷ codes "time.h" ∷ codes "unistd.h" ∷ []

unfoldable pub is_header : Text → Bool
is_header name = is_among headers name

-- what stands behind the `#` and the blanks that follow it, up to the end of the line
abbrev pub body : Text → Text
body z = past_blanks (drop 1 (take (run Line z) z))

-- ---- include <NAME>

-- from the `<` on
abbrev pub angle : Text → Text
angle line = past_blanks (drop 7 line)

-- `include`, `<`, the name of a header, `>`, and blanks between them and at the end
unfoldable pub is_include : Text → Bool
is_include line =
    let name = drop 1 (angle line) in
    let n = run Header name in
    bytes_eq (take 7 line) (codes "include") && slice_index (angle line) 0 == 60 && slice_index name n == 62
    && is_header (take n name) && all_in Blank (drop (n + 1) name)

-- ---- DIGITS "NAME", and then groups of digits

abbrev pub digits : Text → Text
digits line = take (run Digit line) line

-- from the `"` on
abbrev pub quoted : Text → Text
quoted line = past_blanks (drop (run Digit line) line)

abbrev pub file_name : Text → Text
file_name line = take (run File (drop 1 (quoted line))) (drop 1 (quoted line))

-- the value of one to nine digits
abbrev pub line_number : Text → Option ℕ
line_number line =
    if nat_le 1 (length (digits line)) && nat_le (length (digits line)) 9 && nat_le (value 10 (digits line)) 999999999 then Some (value 10 (digits line)) else None

abbrev pub is_utf8 : Text → Bool
is_utf8 z = utf8_valid_len z == length z

-- the digits, the name in quotes, which has no `"` and no `\`, and groups of digits, and blanks between them and at the end
unfoldable pub is_marker : Text → Bool
is_marker line =
    let name = drop 1 (quoted line) in
    let n = run File name in
    is_some (line_number line) && slice_index (quoted line) 0 == 34 && slice_index name n == 34
    && is_utf8 (take n name) && all_in Group (drop (n + 1) name)

-- ---- the directive at the front of a text that begins with `#`, up to the end of its line

unfoldable pub directive : Text → Item
directive z =
    if is_include (body z) then Gap (run Line z)
    else (if is_marker (body z) then Marker (run Line z)
    else Fault Directive 0)
