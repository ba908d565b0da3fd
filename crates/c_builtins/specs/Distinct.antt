-- No built-in name stands twice.
use Rattle.std.specs.Prelude.{◌≡◌, ℕ, List, [], ◌∷◌, ◌++◌, Bool, true, not, ◌&&◌, map}
use Rattle.std.specs.List.{list_any}
use Rattle.std.specs.Str.{bytes_eq}
use Rattle.c_builtins.specs.declared.names.BuiltIn.{BuiltIn}
use Rattle.c_builtins.specs.declared.types.BuiltInType.{BuiltInType}
use Rattle.c_builtins.specs.Names.{built_ins}
use Rattle.c_builtins.specs.Types.{type_names, tags}

abbrev pub are_distinct : List (List ℕ) → Bool
are_distinct [] = true
are_distinct (n ∷ ns) = not (list_any (bytes_eq n) ns) && are_distinct ns

-- the names of expressions and of types, which share one name space (C11 6.2.3)
abbrev pub ordinary_names : List (List ℕ)
ordinary_names = map (λ (b : List ℕ × BuiltIn). b.0) built_ins ++ map (λ (t : List ℕ × BuiltInType). t.0) type_names

pub record NamesAreDistinct : Type 0 where
  pub ordinary : are_distinct ordinary_names ≡ true
  pub of_structures : are_distinct tags ≡ true
