-- A flat program is a program of the whole grammar.
use Rattle.std.proofs.Common.{◌≡◌, ℕ, zero, suc, List, [], ◌∷◌, ◌++◌, Bool, true, false, not, ◌||◌, refl, ap, sym, ◌∙◌, codes, arith, ◌-◌}
use Rattle.std.proofs.lemmas.Slice.Eq.{bytes_eq-Decides}
use Rattle.c_tree.specs.DeclaredNames.{declared_function}
use Rattle.std.specs.Prelude.{slice_get, unwrap_or, bytes_eq, length}
use Rattle.std.proofs.lemmas.List.{append-nil, append_assoc}
use Rattle.std.specs.List.{list_all}
use Rattle.std.proofs.lemmas.Bool.{and_parts}
use Rattle.base_core.specs.Signal.{signal_names}
use Rattle.c_tree.specs.Tree.{Name}
use Rattle.c_tree.specs.TypeWords.{built_in_types, is_among, IsOrdinary}
use Rattle.c_tree.specs.Shape.{ShapeItems, ShapeStatements, ShapeStatement, Context, of_block, outside}
use Rattle.c_tree.specs.Spelling as whole
use Rattle.flat_programs.specs.declared.flat.LibraryFunction.{LibraryFunction}
use Rattle.flat_programs.specs.declared.flat.LibraryFunction.TheVariants.{Abort, Getpid, Pause, Rand}
use Rattle.flat_programs.specs.declared.flat.Statement.{Statement}
use Rattle.flat_programs.specs.declared.flat.Statement.TheVariants.{Call, Install}
use Rattle.flat_programs.specs.FlatTree.{HandlerTree}
use Rattle.flat_programs.specs.FlatSpelling.{function_name, signal_name, spell_calls, spell_statements, spell_handler, spell_handlers, spell_main, keyword, name, mark, integer}
use Rattle.flat_programs.specs.WholeProgram.{statement_of, calls_of, body_of, handler_item, main_item, handler_function, items_of, FlatIsWhole}

-- ---- spelling

calls_spelled : (fs : List LibraryFunction) → whole.spell_statements (calls_of fs) ≡ spell_calls fs
calls_spelled [] = refl
calls_spelled (f ∷ fs) = ap (λ ts. whole.spell_statement (statement_of (Call f)) ++ ts) (calls_spelled fs)

statements_spelled : (ss : List Statement) → whole.spell_statements (body_of ss) ++ mark (codes "}") ∷ [] ≡ spell_statements ss ++ keyword (codes "return") ∷ integer (codes "0") ∷ mark (codes ";") ∷ mark (codes "}") ∷ []
statements_spelled [] = refl
statements_spelled (Call f ∷ ss) = ap (λ ts. whole.spell_statement (statement_of (Call f)) ++ ts) (statements_spelled ss)
statements_spelled (Install signal handler ∷ ss) = ap (λ ts. whole.spell_statement (statement_of (Install signal handler)) ++ ts) (statements_spelled ss)

handler_spelled : (h : HandlerTree) → whole.spell_item (handler_item h) ≡ spell_handler h
handler_spelled h =
    ap (λ ts. keyword (codes "void") ∷ name (h.name ∷ []) ∷ mark (codes "(") ∷ keyword (codes "int") ∷ name (h.parameter ∷ []) ∷ mark (codes ")") ∷ mark (codes "{") ∷ (ts ++ mark (codes "}") ∷ [])) (calls_spelled h.calls)

main_spelled : (ss : List Statement) → whole.spell (main_item ss ∷ []) ≡ spell_main ss
main_spelled ss =
    append-nil (whole.spell_item (main_item ss))
    ∙ ap (λ ts. keyword (codes "int") ∷ name (codes "main") ∷ mark (codes "(") ∷ keyword (codes "void") ∷ mark (codes ")") ∷ mark (codes "{") ∷ ts) (statements_spelled ss)

items_spelled : (hs : List HandlerTree) (ss : List Statement) → whole.spell (items_of hs ss) ≡ spell_handlers hs ++ spell_main ss
items_spelled [] ss = main_spelled ss
items_spelled (h ∷ hs) ss =
    ap (λ ts. ts ++ whole.spell (items_of hs ss)) (handler_spelled h)
    ∙ ap (λ ts. spell_handler h ++ ts) (items_spelled hs ss)
    ∙ sym (append_assoc (spell_handler h) (spell_handlers hs) (spell_main ss))

-- ---- names

false_of : (b : Bool) → (b ≡ true → ⊥) → b ≡ false
false_of true h = absurd (h refl)
false_of false h = refl

other_length : (n a b : ℕ) (k : Name) → (n ∷ []) ≡ (a ∷ b ∷ k) → ⊥
other_length n a b k e = let lengths : 1 ≡ suc (suc (length k)) = ap length e in absurd (omega (arith, lengths))

-- the name has two bytes at least
abbrev is_long : Name → Bool
is_long [] = false
is_long (a ∷ []) = false
is_long (a ∷ b ∷ k) = true

-- a name of one letter is none that is longer
short : (n : ℕ) (known : List Name) → list_all is_long known ≡ true → is_among known (n ∷ []) ≡ false
short n [] long = refl
short n ([] ∷ known) long = absurd (cc)
short n ((a ∷ []) ∷ known) long = absurd (cc)
short n ((a ∷ b ∷ k) ∷ known) long =
    ap (λ x. x || is_among known (n ∷ [])) (false_of (bytes_eq (n ∷ []) (a ∷ b ∷ k)) (λ is. other_length n a b k ((bytes_eq-Decides (n ∷ []) (a ∷ b ∷ k)).0 is)))
    ∙ short n known long

letter_ordinary : (n : ℕ) → IsOrdinary built_in_types (n ∷ [])
unfolding built_in_types
letter_ordinary n = short n built_in_types refl

-- of names that are no types, each is none
each_ordinary : (types ns : List Name) (k : ℕ) → list_all (λ (n : Name). not (is_among types n)) ns ≡ true → is_among types [] ≡ false →
    is_among types (unwrap_or (slice_get ns k) []) ≡ false
each_ordinary types [] k all empty = empty
each_ordinary types (n ∷ ns) zero all empty = not_true (is_among types n) (and_parts (not (is_among types n)) (list_all (λ (n : Name). not (is_among types n)) ns) all).0
  where
    not_true : (b : Bool) → not b ≡ true → b ≡ false
    not_true false e = refl
    not_true true e = sym e
each_ordinary types (n ∷ ns) (suc k) all empty =
    each_ordinary types ns k (and_parts (not (is_among types n)) (list_all (λ (n : Name). not (is_among types n)) ns) all).1 empty

signal_ordinary : (signal : ℕ) → IsOrdinary built_in_types (signal_name signal)
unfolding built_in_types
signal_ordinary signal = each_ordinary built_in_types signal_names (signal - 1) refl refl

function_ordinary : (f : LibraryFunction) → IsOrdinary built_in_types (function_name f)
unfolding built_in_types
function_ordinary Abort = refl
function_ordinary Getpid = refl
function_ordinary Pause = refl
function_ordinary Rand = refl

call_ordinary : IsOrdinary built_in_types (codes "signal")
unfolding built_in_types
call_ordinary = refl

main_ordinary : IsOrdinary built_in_types (codes "main")
unfolding built_in_types
main_ordinary = refl

-- ---- shape

statement_shaped : (s : Statement) (p : Context) → ShapeStatement built_in_types (statement_of s) p
statement_shaped (Call f) p = (omega arith, function_ordinary f, tt)
statement_shaped (Install signal handler) p =
    (omega arith, call_ordinary, (omega arith, signal_ordinary signal, (omega arith, letter_ordinary handler, tt)))

calls_shaped : (fs : List LibraryFunction) (p : Context) → ShapeStatements built_in_types (calls_of fs) p
calls_shaped [] p = tt
calls_shaped (f ∷ fs) p = (statement_shaped (Call f) p, calls_shaped fs p)

body_shaped : (ss : List Statement) (p : Context) → ShapeStatements built_in_types (body_of ss) p
body_shaped [] p = (tt, tt)
body_shaped (s ∷ ss) p = (statement_shaped s p, body_shaped ss p)

items_shaped : (hs : List HandlerTree) (ss : List Statement) (others : List Name) → ShapeItems (items_of hs ss) (record { types = built_in_types; others = others })
items_shaped [] ss others =
    ((tt, refl, (tt, tt), main_ordinary, tt, tt, tt, tt, body_shaped ss (of_block outside)), tt)
items_shaped (h ∷ hs) ss others = (
  (
    tt,
    refl,
    (tt, tt),
    letter_ordinary h.name,
    tt,
    tt,
    (refl, (tt, tt), (tt, letter_ordinary h.parameter), tt),
    tt,
    calls_shaped h.calls (of_block outside),
  ),
  items_shaped hs ss (others ++ declared_function (handler_function h)),
)

pub flat_is_whole : FlatIsWhole
flat_is_whole t flat = record { shape = items_shaped t.handlers t.statements []; spelled = items_spelled t.handlers t.statements }
