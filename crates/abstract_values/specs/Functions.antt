-- The order of abstract functions.
use Rattle.std.specs.Prelude.{[], ◌∷◌, Bool, true, false}
use Rattle.abstract_values.specs.declared.functions.AbsFns.{AbsFns}
use Rattle.abstract_values.specs.declared.functions.AbsFns.TheVariants.{Any, Among}
use Rattle.abstract_values.specs.Codes.{AreCodes, codes_join, CodesUnder}

-- whatever the lower one stands for, the upper one stands for
abbrev pub FnsUnder : AbsFns → AbsFns → Type 0
FnsUnder a Any = Unit {0}
FnsUnder (Among codes) (Among others) = CodesUnder codes others
FnsUnder Any (Among others) = ⊥

-- the least abstract functions above both
abbrev pub fns_join : AbsFns → AbsFns → AbsFns
fns_join (Among codes) (Among others) = Among (codes_join codes others)
fns_join _ _ = Any

-- it stands for every function
abbrev pub is_any_fns : AbsFns → Bool
is_any_fns Any = true
is_any_fns (Among codes) = false

-- it stands for some function
abbrev pub IsSomeFn : AbsFns → Type 0
IsSomeFn Any = Unit {0}
IsSomeFn (Among []) = ⊥
IsSomeFn (Among (code ∷ codes)) = Unit {0}

-- its list is one of codes that rise
abbrev pub HasCodes : AbsFns → Type 0
HasCodes Any = Unit {0}
HasCodes (Among codes) = AreCodes 0 codes
