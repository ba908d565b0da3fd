-- Handlers, and the whole program.
use Rattle.std.proofs.Common.{◌≡◌, ℕ, ◌<◌, List, [], ◌∷◌, ◌++◌, Some, None, length, refl, sym, ◌∙◌, ap, append_assoc, codes, length-append, eqb-true, suc, ◌==◌, true, false, arith}
use Rattle.std.proofs.lemmas.List.{append-nil}
use Rattle.base_core.specs.declared.token.Class.TheVariants.{Punctuator}
use Rattle.base_core.specs.declared.token.Token.{Token}
use Rattle.flat_programs.specs.declared.flat.LibraryFunction.{LibraryFunction}
use Rattle.flat_programs.specs.declared.flat.Statement.{Statement}
use Rattle.flat_programs.specs.FlatTree.{HandlerTree, FlatTree}
use Rattle.flat_programs.specs.FlatSpelling.{mark, spell_calls, spell_handler, spell_handlers, spell_statements, spell}
use Rattle.flat_programs.specs.FlatShape.{IsHandlerShaped}
use Rattle.flat_programs.specs.Expect.{expect}
use Rattle.flat_programs.specs.Call.{call}
use Rattle.flat_programs.specs.Statement.{statement}
use Rattle.flat_programs.specs.Head.{handler_head, main_head, main_tail}
use Rattle.flat_programs.specs.Body.{AreReadable}
use Rattle.flat_programs.specs.Handlers.{AreShaped, NoHandler}
use Rattle.flat_programs.specs.Programs.{IsReadableTree, ReadsTree}
use Rattle.flat_programs.proofs.Holding.{held_at}
use Rattle.flat_programs.proofs.Single.{expect_sound}
use Rattle.flat_programs.proofs.Sound.{handler_front, handler_head_sound, main_front, main_head_sound, main_back, main_tail_sound}
use Rattle.flat_programs.proofs.Complete.{call-brace, handler_head-spell, handler_head-main}
use Rattle.flat_programs.proofs.Lists.{same_read, no_read, calls_only, statements_only}

-- a handler, with what stands behind it, in the order in which it is read
handler_parts : (h : HandlerTree) (rest : List Token) → spell_handler h ++ rest ≡ handler_front (h.name, h.parameter) ++ (spell_calls h.calls ++ mark (codes "}") ∷ rest)
handler_parts h rest =
    append_assoc (handler_front (h.name, h.parameter)) (spell_calls h.calls ++ mark (codes "}") ∷ []) rest
    ∙ ap (λ l. handler_front (h.name, h.parameter) ++ l) (append_assoc (spell_calls h.calls) (mark (codes "}") ∷ []) rest)

head_of : (h : HandlerTree) (ts rest : List Token) → IsHandlerShaped h → ts ≡ spell_handler h ++ rest
    → handler_head ts ≡ Some ((h.name, h.parameter), spell_calls h.calls ++ mark (codes "}") ∷ rest)
head_of h ts rest is at = ap handler_head (at ∙ handler_parts h rest) ∙ handler_head-spell h.name h.parameter (spell_calls h.calls ++ mark (codes "}") ∷ rest) is.name is.parameter

-- without a head there is no handler
pub no_head : (ts : List Token) → None ≡ handler_head ts → NoHandler ts
no_head ts none h rest is at = no_read ((h.name, h.parameter), spell_calls h.calls ++ mark (codes "}") ∷ rest) (none ∙ head_of h ts rest is at)

-- without a brace behind the calls there is no handler
pub no_brace : (ts : List Token) (p : ℕ × ℕ) (body : List Token) (fs : List LibraryFunction) (behind : List Token) → Some (p, body) ≡ handler_head ts
    → body ≡ spell_calls fs ++ behind → call behind ≡ None → None ≡ expect Punctuator (codes "}") behind → NoHandler ts
no_brace ts p body fs behind head_is body_is end none h rest is at =
    let same = same_read p (h.name, h.parameter) body (spell_calls h.calls ++ mark (codes "}") ∷ rest) (head_is ∙ head_of h ts rest is at) in
    let only = calls_only fs h.calls behind rest end (sym body_is ∙ same.1) in
    no_read rest (none ∙ ap (expect Punctuator (codes "}")) only.1)

-- what is read is a handler
pub read_handler : (ts : List Token) (n p : ℕ) (body : List Token) (fs : List LibraryFunction) (behind after : List Token) → Some ((n, p), body) ≡ handler_head ts
    → body ≡ spell_calls fs ++ behind → Some after ≡ expect Punctuator (codes "}") behind
    → IsHandlerShaped (record { name = n; parameter = p; calls = fs }) × (ts ≡ spell_handler (record { name = n; parameter = p; calls = fs }) ++ after)
read_handler ts n p body fs behind after head_is body_is brace =
    let head = held_at _ (handler_head ts) ((n, p), body) (handler_head_sound ts) (sym head_is) in
    let end = held_at _ (expect Punctuator (codes "}") behind) after (expect_sound Punctuator (codes "}") behind) (sym brace) in (
      record { name = head.0.0; parameter = head.0.1 },
      head.1 ∙ ap (λ l. handler_front (n, p) ++ l) (body_is ∙ ap (λ l. spell_calls fs ++ l) end) ∙ sym (handler_parts (record { name = n; parameter = p; calls = fs }) after),
    )

same_handler : (h g : HandlerTree) → ◌≡◌ {A = ℕ × ℕ} (h.name, h.parameter) (g.name, g.parameter) → h.calls ≡ g.calls → h ≡ g
same_handler h g names calls = λ i. record { name = (names i).0; parameter = (names i).1; calls = calls i }

-- two handlers at the head are one
handler_only : (h g : HandlerTree) (r s : List Token) → IsHandlerShaped h → IsHandlerShaped g → spell_handler h ++ r ≡ spell_handler g ++ s → (h ≡ g) × (r ≡ s)
handler_only h g r s is_h is_g same =
    let heads = same_read (h.name, h.parameter) (g.name, g.parameter) (spell_calls h.calls ++ mark (codes "}") ∷ r) (spell_calls g.calls ++ mark (codes "}") ∷ s)
    (sym (head_of h (spell_handler h ++ r) r is_h refl) ∙ head_of g (spell_handler h ++ r) s is_g same) in
    let bodies = calls_only h.calls g.calls (mark (codes "}") ∷ r) s (call-brace r) heads.1 in
    let behind : r ≡ s = let e = bodies.1 in cc in
    (same_handler h g heads.0 bodies.0, behind)

-- one more handler is read
spell_handlers-append : (hs : List HandlerTree) (h : HandlerTree) → spell_handlers (hs ++ h ∷ []) ≡ spell_handlers hs ++ spell_handler h
spell_handlers-append [] h = append-nil (spell_handler h)
spell_handlers-append (g ∷ hs) h = ap (λ l. spell_handler g ++ l) (spell_handlers-append hs h) ∙ sym (append_assoc (spell_handler g) (spell_handlers hs) (spell_handler h))

shaped-append : (hs : List HandlerTree) (h : HandlerTree) → AreShaped hs → IsHandlerShaped h → AreShaped (hs ++ h ∷ [])
shaped-append [] h are is = (is, tt)
shaped-append (g ∷ hs) h are is = (are.0, shaped-append hs h are.1 is)

pub handlers_more : (whole : List Token) (hs : List HandlerTree) (rest : List Token) (h : HandlerTree) (after : List Token)
    → whole ≡ spell_handlers hs ++ rest → AreShaped hs → IsHandlerShaped h → rest ≡ spell_handler h ++ after
    → (whole ≡ spell_handlers (hs ++ h ∷ []) ++ after) × AreShaped (hs ++ h ∷ [])
handlers_more whole hs rest h after so_far are is here = (
  so_far ∙ ap (λ l. spell_handlers hs ++ l) here ∙ sym (append_assoc (spell_handlers hs) (spell_handler h) after) ∙ ap (λ l. l ++ after) (sym (spell_handlers-append hs h)),
  shaped-append hs h are is,
)

pub handler_shorter : (rest : List Token) (h : HandlerTree) (after : List Token) → rest ≡ spell_handler h ++ after → length after < length rest
handler_shorter rest h after here = let size = ap length here in omega (arith, length-append (spell_calls h.calls ++ mark (codes "}") ∷ []) after)

-- the handlers before main are those that are read
handlers_only : (hs gs : List HandlerTree) (rest after : List Token) → AreShaped hs → AreShaped gs → NoHandler rest
    → spell_handlers hs ++ rest ≡ spell_handlers gs ++ (main_front ++ after) → (hs ≡ gs) × (rest ≡ main_front ++ after)
handlers_only [] [] rest after are_h are_g none same = (refl, same)
handlers_only [] (g ∷ gs) rest after are_h are_g none same =
    absurd (none g (spell_handlers gs ++ (main_front ++ after)) are_g.0 (same ∙ append_assoc (spell_handler g) (spell_handlers gs) (main_front ++ after)))
handlers_only (h ∷ hs) [] rest after are_h are_g none same =
    let head = head_of h (spell_handlers (h ∷ hs) ++ rest) (spell_handlers hs ++ rest) are_h.0 (append_assoc (spell_handler h) (spell_handlers hs) rest) in
    absurd (no_read ((h.name, h.parameter), spell_calls h.calls ++ mark (codes "}") ∷ (spell_handlers hs ++ rest)) (sym (handler_head-main after) ∙ ap handler_head (sym same) ∙ head))
handlers_only (h ∷ hs) (g ∷ gs) rest after are_h are_g none same =
    let first = handler_only h g (spell_handlers hs ++ rest) (spell_handlers gs ++ (main_front ++ after)) are_h.0 are_g.0
    (sym (append_assoc (spell_handler h) (spell_handlers hs) rest) ∙ same ∙ append_assoc (spell_handler g) (spell_handlers gs) (main_front ++ after)) in
    let others = handlers_only hs gs rest after are_h.1 are_g.1 none first.1 in
    ((λ i. first.0 i ∷ others.0 i), others.1)

-- a program in the order in which it is read
pub program_parts : (u : FlatTree) → spell u ≡ spell_handlers u.handlers ++ (main_front ++ (spell_statements u.statements ++ main_back))
program_parts u = refl

-- what was read of a program before the end of main
pub record Read (ts : List Token) (hs : List HandlerTree) (rest : List Token) : Type 0 where
  pub spelled : ts ≡ spell_handlers hs ++ rest
  pub shaped : AreShaped hs
  pub end : NoHandler rest

pub record ReadBody (ts : List Token) (hs : List HandlerTree) (rest body : List Token) (ss : List Statement) (behind : List Token) : Type 0 where
  pub handlers : Read ts hs rest
  pub head : Some body ≡ main_head rest
  pub spelled : body ≡ spell_statements ss ++ behind
  pub readable : AreReadable ss
  pub end : statement behind ≡ None

-- where a tree has these tokens, its handlers are those that are read, and the head of main is read behind them
main_of : (ts : List Token) (hs : List HandlerTree) (rest : List Token) (u : FlatTree) → Read ts hs rest
    → IsReadableTree u → ts ≡ spell u → (hs ≡ u.handlers) × (main_head rest ≡ Some (spell_statements u.statements ++ main_back))
main_of ts hs rest u read is at =
    let only = handlers_only hs u.handlers rest (spell_statements u.statements ++ main_back) read.shaped is.handlers read.end (sym read.spelled ∙ at) in
    (only.0, ap main_head only.1)

pub no_main : (ts : List Token) (hs : List HandlerTree) (rest : List Token) → Read ts hs rest → None ≡ main_head rest → (u : FlatTree) → IsReadableTree u → ts ≡ spell u → ⊥
no_main ts hs rest read none u is at = no_read (spell_statements u.statements ++ main_back) (none ∙ (main_of ts hs rest u read is at).1)

some_same : (a b : List Token) → Some a ≡ Some b → a ≡ b
some_same a b is = cc

-- and its statements are those that are read, with the end of main behind them
end_of : (ts : List Token) (hs : List HandlerTree) (rest body : List Token) (ss : List Statement) (behind : List Token) (u : FlatTree) → ReadBody ts hs rest body ss behind
    → IsReadableTree u → ts ≡ spell u → (hs ≡ u.handlers) × (ss ≡ u.statements) × (main_tail behind ≡ Some [])
end_of ts hs rest body ss behind u read is at =
    let main = main_of ts hs rest u read.handlers is at in
    let same = some_same body (spell_statements u.statements ++ main_back) (read.head ∙ main.1) in
    let only = statements_only ss u.statements behind [] read.readable is.statements read.end (sym read.spelled ∙ same) in
    (main.0, only.0, ap main_tail only.1)

pub no_end : (ts : List Token) (hs : List HandlerTree) (rest body : List Token) (ss : List Statement) (behind : List Token) → ReadBody ts hs rest body ss behind → None ≡ main_tail behind
    → (u : FlatTree) → IsReadableTree u → ts ≡ spell u → ⊥
no_end ts hs rest body ss behind read none u is at =
    let empty : List Token = [] in
    no_read empty (none ∙ (end_of ts hs rest body ss behind u read is at).2)

-- more tokens behind the end of main
pub no_more : (ts : List Token) (hs : List HandlerTree) (rest body : List Token) (ss : List Statement) (behind after : List Token) → ReadBody ts hs rest body ss behind → Some after ≡ main_tail behind
    → (after ≡ [] → ⊥) → (u : FlatTree) → IsReadableTree u → ts ≡ spell u → ⊥
no_more ts hs rest body ss behind after read some full u is at = full (some_same after [] (some ∙ (end_of ts hs rest body ss behind u read is at).2))

-- what is read is the tree, and there is no other
pub read_tree : (ts : List Token) (hs : List HandlerTree) (rest body : List Token) (ss : List Statement) (behind after : List Token) → ReadBody ts hs rest body ss behind
    → Some after ≡ main_tail behind → after ≡ [] → ReadsTree ts (Some (record { handlers = hs; statements = ss }))
read_tree ts hs rest body ss behind after read tail_is end =
    let head = held_at _ (main_head rest) body (main_head_sound rest) (sym read.head) in
    let tail = held_at _ (main_tail behind) after (main_tail_sound behind) (sym tail_is) in (
      record { handlers = read.handlers.shaped; statements = read.readable },
      read.handlers.spelled ∙ ap (λ l. spell_handlers hs ++ l) (head ∙ ap (λ l. main_front ++ l) (read.spelled ∙ ap (λ l. spell_statements ss ++ l) (tail ∙ ap (λ l. main_back ++ l) end))),
      λ u is at. let parts = end_of ts hs rest body ss behind u read is at in λ i. record { handlers = sym parts.0 i; statements = sym parts.1 i },
    )

pub no_length : (ts : List Token) → (length ts == 0) ≡ true → ts ≡ []
no_length [] is = refl
no_length (t ∷ ts) is = absurd (some_test (length ts) is)
  where
    some_test : (n : ℕ) → (suc n == 0) ≡ true → ⊥
    some_test n is = let e : suc n ≡ 0 = eqb-true (suc n) 0 is in omega arith

pub some_length : (ts : List Token) → (length ts == 0) ≡ false → ts ≡ [] → ⊥
some_length ts is none = let same : (length ts == 0) ≡ true = ap (λ (l : List Token). length l == 0) none in let clash : true ≡ false = sym same ∙ is in cc
