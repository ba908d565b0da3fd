-- The order of abstract functions is one, and the join is the least value above both.
use Rattle.std.proofs.Common.{◌≡◌, refl, ap, ℕ, List, [], ◌∷◌, true}
use Rattle.abstract_values.specs.declared.functions.AbsFns.{AbsFns}
use Rattle.abstract_values.specs.declared.functions.AbsFns.TheVariants.{Any, Among}
use Rattle.abstract_values.specs.Codes.{codes_join}
use Rattle.abstract_values.specs.Functions.{FnsUnder, fns_join, is_any_fns, IsSomeFn, HasCodes}
use Rattle.abstract_values.proofs.Codes.{codes_refl, codes_trans, codes_antisymmetric, codes_join_left, codes_join_right, codes_join_least, codes-join, join_is_some}

pub fns_refl : (a : AbsFns) → FnsUnder a a
fns_refl Any = tt
fns_refl (Among codes) = codes_refl codes

pub fns_trans : (a b c : AbsFns) → FnsUnder a b → FnsUnder b c → FnsUnder a c
fns_trans a b Any h k = tt
fns_trans Any Any (Among c) h k = absurd k
fns_trans Any (Among b) (Among c) h k = absurd h
fns_trans (Among a) Any (Among c) h k = absurd k
fns_trans (Among a) (Among b) (Among c) h k = codes_trans a b c h k

pub fns_antisymmetric : (a b : AbsFns) → HasCodes a → HasCodes b → FnsUnder a b → FnsUnder b a → a ≡ b
fns_antisymmetric Any Any p q h k = refl
fns_antisymmetric Any (Among b) p q h k = absurd h
fns_antisymmetric (Among a) Any p q h k = absurd k
fns_antisymmetric (Among a) (Among b) p q h k = ap Among (codes_antisymmetric 0 0 a b p q h k)

pub fns_join_left : (a b : AbsFns) → FnsUnder a (fns_join a b)
fns_join_left Any b = tt
fns_join_left (Among a) Any = tt
fns_join_left (Among a) (Among b) = codes_join_left a b

pub fns_join_right : (a b : AbsFns) → FnsUnder b (fns_join a b)
fns_join_right Any b = tt
fns_join_right (Among a) Any = tt
fns_join_right (Among a) (Among b) = codes_join_right a b

pub fns_join_least : (a b u : AbsFns) → FnsUnder a u → FnsUnder b u → FnsUnder (fns_join a b) u
fns_join_least a b Any h k = tt
fns_join_least Any b (Among u) h k = absurd h
fns_join_least (Among a) Any (Among u) h k = absurd k
fns_join_least (Among a) (Among b) (Among u) h k = codes_join_least a b u h k

pub fns_any_up : (a b : AbsFns) → FnsUnder a b → is_any_fns a ≡ true → is_any_fns b ≡ true
fns_any_up Any Any h e = refl
fns_any_up Any (Among b) h e = absurd h
fns_any_up (Among a) b h e = absurd cc

some_of : (codes : List ℕ) → (codes ≡ [] → ⊥) → IsSomeFn (Among codes)
some_of [] h = h refl
some_of (c ∷ codes) h = tt

pub fns_join_some : (a b : AbsFns) → IsSomeFn a → IsSomeFn (fns_join a b)
fns_join_some Any b h = tt
fns_join_some (Among []) b h = absurd h
fns_join_some (Among (c ∷ codes)) Any h = tt
fns_join_some (Among (c ∷ codes)) (Among others) h = some_of (codes_join (c ∷ codes) others) (join_is_some c codes others)

pub fns_join_codes : (a b : AbsFns) → HasCodes a → HasCodes b → HasCodes (fns_join a b)
fns_join_codes Any b h k = tt
fns_join_codes (Among a) Any h k = tt
fns_join_codes (Among a) (Among b) h k = codes-join a b 0 h k
