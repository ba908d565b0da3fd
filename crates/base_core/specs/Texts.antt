-- Texts by name.
use Rattle.std.specs.Prelude.{ℕ, List, Option, Vec, String}
use Rattle.std.specs.Option.{option_map}
use Rattle.std.specs.BTreeMap.{BTreeMap, get_by_text}
use Rattle.std.specs.declared.alloc.Global.{Global}

-- the bytes of a name
abbrev pub bytes_of : BTreeMap (String Global) (Vec ℕ Global) → List ℕ → Option (List ℕ)
bytes_of texts name = option_map (λ text. text.items) (get_by_text texts name)
