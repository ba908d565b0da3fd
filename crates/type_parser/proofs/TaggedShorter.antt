-- Parts of structs and enums take a token.
use Rattle.std.proofs.Common.{◌≡◌, ◌≢◌, ◌<◌, ◌≤◌, ℕ, Bool, true, false, cond, List, [], ◌∷◌, length, refl, sym, ◌∙◌, arith}
use Rattle.c_tree.specs.Tree.{Name}
use Rattle.c_tree.specs.Marks.{Tokens}
use Rattle.c_grammar.specs.declared.kind.Kind.{Kind}
use Rattle.c_grammar.specs.declared.kind.Kind.TheVariants as k
use Rattle.c_grammar.specs.Kind.{kind, same_kind, tail_of, head_text}
use Rattle.c_grammar.specs.Body.{take, stop, Outcome, got, refused, exceeded, and_then, Reader, look}
use Rattle.c_grammar.specs.Input.{Input, next}
use Rattle.c_grammar.specs.Rules.{Reads, expect, named_by}
use Rattle.c_grammar.proofs.KindLemmas.{kind_end, same_true}
use Rattle.c_grammar.specs.Performing.{perform}
use Rattle.c_grammar.proofs.Joining.{perform_leaves}
use Rattle.c_grammar.proofs.Shorter.{Leaves}

-- fewer tokens are left
abbrev pub Under : {X A : Type 0} → ℕ → Outcome X A → Type 0
Under n (got a ts x) = length ts < n
Under n (refused ts) = Unit {0}
Under n (exceeded ts) = Unit {0}

pub then_under : {X A B : Type 0} (n : ℕ) (o : Outcome X A) (f : A → Reader X B) → Leaves n o → ((a : A) (ts : Tokens) (x : X) → length ts ≤ n → Under n (f a ts x)) → Under n (and_then o f)
then_under n (got a ts x) f h k = k a ts x h
then_under n (refused ts) f h k = tt
then_under n (exceeded ts) f h k = tt

leaves_under : {X A : Type 0} (m n : ℕ) (o : Outcome X A) → m < n → Leaves m o → Under n o
leaves_under m n (got a ts x) less h = omega (arith, less, h)
leaves_under m n (refused ts) less h = tt
leaves_under m n (exceeded ts) less h = tt

-- a token of a kind of its own is gone once it is taken
pub taken_shorter : (types : List Name) (ts : Tokens) (x : Kind) → kind types ts ≡ x → x ≢ k.Nothing → length (tail_of ts) < length ts
taken_shorter types [] x is some = absurd (some (sym is ∙ kind_end types))
taken_shorter types (y ∷ ts) x is some = omega arith

behind_under : {A : Type 0} (n : ℕ) (b : Reads A) (i : Input) → length (tail_of i.rest) < n → Under n (perform b (next i))
behind_under n b i less = leaves_under (length (tail_of i.rest)) n (perform b (next i)) less (perform_leaves (length (tail_of i.rest)) b (next i) (omega arith))

if_under : {A : Type 0} (n : ℕ) (b : Reads A) (i : Input) (c : Bool) → (c ≡ true → length (tail_of i.rest) < n) → Under n (perform (cond c (take (λ z. b)) stop) i)
if_under n b i true h = behind_under n b i (h refl)
if_under n b i false h = tt

pub expect_under : {A : Type 0} (n : ℕ) (e : Kind) (b : Reads A) (i : Input) → e ≢ k.Nothing → length i.rest ≤ n → Under n (perform (expect e b) i)
expect_under n e b i some less =
    if_under n b i (same_kind (kind [] i.rest) e) (λ is. let h = taken_shorter [] i.rest e (same_true (kind [] i.rest) e is) some in omega (arith, h, less))

named_under : {A : Type 0} (n : ℕ) (f : Name → Reads A) (i : Input) (x : Kind) → (x ≡ k.Name → length (tail_of i.rest) < n) → Under n (perform (named_by [] f x) i)
named_under n f i k.Name h = behind_under n (f (head_text i.rest)) i (h refl)
named_under n f i _ h = tt

pub name_under : {A : Type 0} (n : ℕ) (types : List Name) (f : Name → Reads A) (i : Input) → length i.rest ≤ n → Under n (perform (look types (named_by [] f)) i)
name_under n types f i less = named_under n f i (kind types i.rest) (λ is. let h = taken_shorter types i.rest k.Name is (λ e. absurd cc) in omega (arith, h, less))
