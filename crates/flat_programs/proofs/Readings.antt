-- The shape of a flat program, as tests and as facts.
use Rattle.std.proofs.Common.{◌≡◌, ◌≢◌, ℕ, zero, suc, ◌<◌, List, [], ◌∷◌, Bool, true, false, not, ◌||◌, ◌==◌, length, map, get_or, refl, sym, ◌∙◌, ap, subst, ◌⊎◌, inl, inr, eqb-true, eq-eqb, arith}
use Rattle.std.proofs.lemmas.Bool.{and_parts, and_from, or_cases}
use Rattle.std.specs.List.{All, AllPairs, Contains, list_all}
use Rattle.flat_programs.specs.FlatTree.{HandlerTree, FlatTree}
use Rattle.flat_programs.specs.declared.flat.Statement.{Statement}
use Rattle.flat_programs.specs.declared.flat.Statement.TheVariants.{Call, Install}
use Rattle.flat_programs.specs.FlatShape.{IsLetter, IsHandlerShaped, IsStatementShaped, IsFlat}
use Rattle.flat_programs.specs.Shape.{is_named, names_differ, is_install_named, HasShape}
use Rattle.flat_programs.specs.Body.{IsReadable, AreReadable}
use Rattle.flat_programs.specs.Handlers.{AreShaped}
use Rattle.flat_programs.specs.Programs.{IsReadableTree}

abbrev names : List HandlerTree → List ℕ
names hs = map (λ (h : HandlerTree). h.name) hs

-- a name that is found stands among the names
named_at : (hs : List HandlerTree) (n : ℕ) → is_named hs n ≡ true → Contains (names hs) n
named_at [] n is = absurd cc
named_at (h ∷ hs) n is = at (or_cases (h.name == n) (is_named hs n) is) (named_at hs n)
  where
    at : ((h.name == n) ≡ true) ⊎ (is_named hs n ≡ true) → (is_named hs n ≡ true → Contains (names hs) n) → Contains (names (h ∷ hs)) n
    at (inl here) later = (0, omega arith, eqb-true h.name n here)
    at (inr there) later = let k = later there in let below = k.1 in (suc k.0, omega arith, k.2)

-- and a name that stands there is found
at_named : (hs : List HandlerTree) (n k d : ℕ) → k < length (names hs) → get_or (names hs) k d ≡ n → is_named hs n ≡ true
at_named [] n k d below is = absurd (omega arith)
at_named (h ∷ hs) n zero d below is = ap (λ b. b || is_named hs n) (eq-eqb h.name n is)
at_named (h ∷ hs) n (suc k) d below is =
    let later = at_named hs n k d (omega arith) is in
    ap (λ b. (h.name == n) || b) later ∙ or_true (h.name == n)
  where
    or_true : (b : Bool) → (b || true) ≡ true
    or_true true = refl
    or_true false = refl

shaped_all : (hs : List HandlerTree) → AreShaped hs → All IsHandlerShaped hs
shaped_all [] are k d below = absurd (omega arith)
shaped_all (h ∷ hs) are zero d below = are.0
shaped_all (h ∷ hs) are (suc k) d below = shaped_all hs are.1 k d (omega arith)

all_shaped : (hs : List HandlerTree) → All IsHandlerShaped hs → AreShaped hs
all_shaped [] all = tt
all_shaped (h ∷ hs) all = (all 0 h (omega arith), all_shaped hs (λ k d below. all (suc k) d (omega arith)))

-- the name of a handler is a letter
letter_of_name : (hs : List HandlerTree) (n k d : ℕ) → AreShaped hs → k < length (names hs) → get_or (names hs) k d ≡ n → IsLetter n
letter_of_name [] n k d are below is = absurd (omega arith)
letter_of_name (h ∷ hs) n zero d are below is = subst IsLetter is are.0.name
letter_of_name (h ∷ hs) n (suc k) d are below is = letter_of_name hs n k d are.1 (omega arith) is

-- names that differ
not_true : (b : Bool) → not b ≡ true → b ≡ false
not_true true is = absurd cc
not_true false is = refl

false_or : (b : Bool) → (b ≡ true → ⊥) → not b ≡ true
false_or true none = absurd (none refl)
false_or false none = refl

differ_pairs : (hs : List HandlerTree) → names_differ hs ≡ true → AllPairs (λ (a b : ℕ). a ≢ b) (names hs)
differ_pairs [] is i j d before below = absurd (omega arith)
differ_pairs (h ∷ hs) is zero zero d before below = absurd (omega arith)
differ_pairs (h ∷ hs) is zero (suc j) d before below = λ same.
    let parts = and_parts (not (is_named hs h.name)) (names_differ hs) is in
    let found = at_named hs h.name j d (omega arith) (sym same) in
    let clash : true ≡ false = sym found ∙ not_true (is_named hs h.name) parts.0 in
    cc
differ_pairs (h ∷ hs) is (suc i) zero d before below = absurd (omega arith)
differ_pairs (h ∷ hs) is (suc i) (suc j) d before below = differ_pairs hs (and_parts (not (is_named hs h.name)) (names_differ hs) is).1 i j d (omega arith) (omega arith)

pairs_differ : (hs : List HandlerTree) → AllPairs (λ (a b : ℕ). a ≢ b) (names hs) → names_differ hs ≡ true
pairs_differ [] pairs = refl
pairs_differ (h ∷ hs) pairs =
    and_from (not (is_named hs h.name)) (names_differ hs)
    (false_or (is_named hs h.name) (λ is. let at = named_at hs h.name is in let below = at.1 in pairs 0 (suc at.0) h.name (omega arith) (omega arith) (sym at.2)))
    (pairs_differ hs (λ i j d before below. pairs (suc i) (suc j) d (omega arith) (omega arith)))

-- statements
statement_shaped : (hs : List HandlerTree) (s : Statement) → IsReadable s → is_install_named hs s ≡ true → IsStatementShaped hs s
statement_shaped hs (Call f) is named = tt
statement_shaped hs (Install signal handler) is named = (is.0.0, is.0.1, named_at hs handler named)

statements_shaped : (hs : List HandlerTree) (ss : List Statement) → AreReadable ss → list_all (is_install_named hs) ss ≡ true → All (IsStatementShaped hs) ss
statements_shaped hs [] are named k d below = absurd (omega arith)
statements_shaped hs (s ∷ ss) are named zero d below = statement_shaped hs s are.0 (and_parts (is_install_named hs s) (list_all (is_install_named hs) ss) named).0
statements_shaped hs (s ∷ ss) are named (suc k) d below = statements_shaped hs ss are.1 (and_parts (is_install_named hs s) (list_all (is_install_named hs) ss) named).1 k d (omega arith)

statement_readable : (hs : List HandlerTree) (s : Statement) → AreShaped hs → IsStatementShaped hs s → IsReadable s
statement_readable hs (Call f) are is = tt
statement_readable hs (Install signal handler) are is = ((is.0, is.1), letter_of_name hs handler is.2.0 handler are is.2.1 is.2.2)

statements_readable : (hs : List HandlerTree) (ss : List Statement) → AreShaped hs → All (IsStatementShaped hs) ss → AreReadable ss
statements_readable hs [] are all = tt
statements_readable hs (s ∷ ss) are all = (statement_readable hs s are (all 0 s (omega arith)), statements_readable hs ss are (λ k d below. all (suc k) d (omega arith)))

install_named : (hs : List HandlerTree) (s : Statement) → IsStatementShaped hs s → is_install_named hs s ≡ true
install_named hs (Call f) is = refl
install_named hs (Install signal handler) is = at_named hs handler is.2.0 handler is.2.1 is.2.2

statements_named : (hs : List HandlerTree) (ss : List Statement) → All (IsStatementShaped hs) ss → list_all (is_install_named hs) ss ≡ true
statements_named hs [] all = refl
statements_named hs (s ∷ ss) all =
    and_from (is_install_named hs s) (list_all (is_install_named hs) ss) (install_named hs s (all 0 s (omega arith))) (statements_named hs ss (λ k d below. all (suc k) d (omega arith)))

-- a flat program can be read, and has the shape; and what was read and has the shape is flat
pub readable_of_flat : (u : FlatTree) → IsFlat u → IsReadableTree u
readable_of_flat u is = let shaped = all_shaped u.handlers is.handlers in record { handlers = shaped; statements = statements_readable u.handlers u.statements shaped is.statements }

pub shape_of_flat : (u : FlatTree) → IsFlat u → HasShape u
shape_of_flat u is = record { small = is.few; differ = pairs_differ u.handlers is.different; named = statements_named u.handlers u.statements is.statements }

pub flat_of_shape : (t : FlatTree) → IsReadableTree t → HasShape t → IsFlat t
flat_of_shape t is shape = record {
  handlers = shaped_all t.handlers is.handlers;
  different = differ_pairs t.handlers shape.differ;
  statements = statements_shaped t.handlers t.statements is.statements shape.named;
  few = shape.small;
}
