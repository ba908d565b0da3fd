-- Line markers.
use Rattle.std.proofs.Common.{◌≡◌, Bool, true, false, ◌&&◌, refl}
use Rattle.c_lexer.specs.Bytes.{Text}
use Rattle.c_lexer.specs.Directives.{is_marker, is_utf8, file_name}

left : (a b : Bool) → (a && b) ≡ true → a ≡ true
left true b h = refl
left false b h = absurd (cc)

right : (a b : Bool) → (a && b) ≡ true → b ≡ true
right true b h = h
right false b h = absurd (cc)

-- the name in a marker is UTF-8
pub marker_utf8 : (line : Text) → is_marker line ≡ true → is_utf8 (file_name line) ≡ true
unfolding is_marker
marker_utf8 line h = right _ _ (left _ _ h)
