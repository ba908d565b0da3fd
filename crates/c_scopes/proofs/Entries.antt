-- What an entry says of the blocks.
use Rattle.std.proofs.Common.{◌≡◌, ◌≢◌, ℕ, ◌<◌, ◌+◌, [], ◌∷◌, length, Option, Some, None, IfSome, true, false, refl, ap, sym, arith}
use Rattle.std.specs.Prelude.{option_map, bytes_eq, cond}
use Rattle.c_scopes.specs.Scope.{Name, Block, Scope, declared, look_up, declared_here, or_else}
use Rattle.c_scopes.specs.Kept.{entry, here}
use Rattle.c_scopes.specs.declared.scope.Entry.{Entry}

pub looked_up : (bs : Scope) (n : Name) → look_up bs n ≡ option_map (λ e. e.what) (entry bs n)
looked_up [] n = refl
looked_up (b ∷ bs) n =
    elim (declared b n) as (λ o. or_else o (look_up bs n) ≡ option_map (λ e. e.what) (here (length bs) o (entry bs n)))
    [ Some x ↦ refl | None ↦ looked_up bs n ]

deeper : (o : Option Entry) (m k : ℕ) → m < k → IfSome o (λ e. e.depth < m) → IfSome o (λ e. e.depth < k)
deeper None m k less h = tt
deeper (Some e) m k less h = omega arith

pub shallow : (bs : Scope) (n : Name) → IfSome (entry bs n) (λ e. e.depth < length bs)
shallow [] n = tt
shallow (b ∷ bs) n =
    elim (declared b n) as (λ o. IfSome (here (length bs) o (entry bs n)) (λ e. e.depth < length (b ∷ bs)))
    [ Some x ↦ omega arith | None ↦ deeper (entry bs n) (length bs) (length (b ∷ bs)) (omega arith) (shallow bs n) ]

-- what is found at this depth, the innermost block declares
here_at : (d : ℕ) (o : Option ℕ) (r : Option Entry) (e : Entry) → IfSome r (λ f. f.depth < d) → here d o r ≡ Some e → e.depth ≡ d → Some e.what ≡ o
here_at d (Some x) r e less is same = cc
here_at d None (Some f) e less is same = let f_is : f ≡ e = cc in absurd (omega (arith, ap (λ g. g.depth) f_is))
here_at d None None e less is same = absurd cc

here_not_at : (d : ℕ) (o : Option ℕ) (r : Option Entry) (e : Entry) → here d o r ≡ Some e → e.depth ≢ d → None ≡ o
here_not_at d (Some x) r e is other = absurd (other cc)
here_not_at d None r e is other = refl

here_none : (d : ℕ) (o : Option ℕ) (r : Option Entry) → here d o r ≡ None → None ≡ o
here_none d (Some x) r is = absurd cc
here_none d None r is = refl

pub found_at : (bs : Scope) (n : Name) (depth : ℕ) (e : Entry) → depth + 1 ≡ length bs → Some e ≡ entry bs n → e.depth ≡ depth → Some e.what ≡ declared_here bs n
found_at [] n depth e deep is same = absurd cc
found_at (b ∷ bs) n depth e deep is same = here_at (length bs) (declared b n) (entry bs n) e (shallow bs n) (sym is) (omega arith)

pub found_not_at : (bs : Scope) (n : Name) (depth : ℕ) (e : Entry) → depth + 1 ≡ length bs → Some e ≡ entry bs n → e.depth ≢ depth → None ≡ declared_here bs n
found_not_at [] n depth e deep is other = refl
found_not_at (b ∷ bs) n depth e deep is other = here_not_at (length bs) (declared b n) (entry bs n) e (sym is) (λ same. other (omega arith))

pub found_none : (bs : Scope) (n : Name) → None ≡ entry bs n → None ≡ declared_here bs n
found_none [] n is = refl
found_none (b ∷ bs) n is = here_none (length bs) (declared b n) (entry bs n) (sym is)

-- the innermost block declares one name more
pub entry_behind : (b : Block) (bs : Scope) (name : Name) (x : ℕ) (n : Name) → entry (((name, x) ∷ b) ∷ bs) n ≡ cond (bytes_eq name n) (Some (record { depth = length bs; what = x })) (entry (b ∷ bs) n)
entry_behind b bs name x n =
    elim (bytes_eq name n) as (λ t. here (length bs) (cond t (Some x) (declared b n)) (entry bs n) ≡ cond t (Some (record { depth = length bs; what = x })) (entry (b ∷ bs) n))
    [ true ↦ refl | false ↦ refl ]
