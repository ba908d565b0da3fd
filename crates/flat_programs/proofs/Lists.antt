-- Lists of calls and of statements.
use Rattle.std.proofs.Common.{◌≡◌, List, [], ◌∷◌, ◌++◌, Option, Some, None, refl, sym, ◌∙◌, ap, append_assoc, codes, length, ◌<◌, arith}
use Rattle.std.proofs.lemmas.List.{append-nil}
use Rattle.base_core.specs.declared.token.Token.{Token}
use Rattle.flat_programs.specs.declared.flat.LibraryFunction.{LibraryFunction}
use Rattle.flat_programs.specs.declared.flat.Statement.{Statement}
use Rattle.flat_programs.specs.declared.flat.Statement.TheVariants.{Call, Install}
use Rattle.flat_programs.specs.FlatSpelling.{mark, spell_call, spell_calls, spell_statement, spell_statements}
use Rattle.flat_programs.specs.Call.{call}
use Rattle.flat_programs.specs.Statement.{statement}
use Rattle.flat_programs.specs.Body.{IsReadable, AreReadable}
use Rattle.flat_programs.proofs.Holding.{held_at}
use Rattle.flat_programs.proofs.Sound.{call_sound, statement_sound, main_back}
use Rattle.flat_programs.proofs.Complete.{call-spell, call-brace, statement-spell, statement-return}

-- two answers that are equal have equal parts
pub same_read : {A : Type 0} (x y : A) (r s : List Token) → ◌≡◌ {A = Option (A × List Token)} (Some (x, r)) (Some (y, s)) → (x ≡ y) × (r ≡ s)
same_read {A} x y r s is =
    let p : ◌≡◌ {A = A × List Token} (x, r) (y, s) = cc in
    (ap (λ (q : A × List Token). q.0) p, ap (λ (q : A × List Token). q.1) p)

pub no_read : {A : Type 0} (x : A) → None ≡ Some x → ⊥
no_read x is = cc

spell_calls-append : (fs : List LibraryFunction) (f : LibraryFunction) → spell_calls (fs ++ f ∷ []) ≡ spell_calls fs ++ spell_call f
spell_calls-append [] f = refl
spell_calls-append (g ∷ fs) f = ap (λ l. spell_call g ++ l) (spell_calls-append fs f) ∙ sym (append_assoc (spell_call g) (spell_calls fs) (spell_call f))

-- one more call is read
pub calls_more : (whole : List Token) (fs : List LibraryFunction) (rest : List Token) (f : LibraryFunction) (after : List Token)
    → whole ≡ spell_calls fs ++ rest → Some (f, after) ≡ call rest → whole ≡ spell_calls (fs ++ f ∷ []) ++ after
calls_more whole fs rest f after so_far is =
    let here = held_at _ (call rest) (f, after) (call_sound rest) (sym is) in
    so_far ∙ ap (λ l. spell_calls fs ++ l) here ∙ sym (append_assoc (spell_calls fs) (spell_call f) after) ∙ ap (λ l. l ++ after) (sym (spell_calls-append fs f))

-- the calls before a closing brace are those that are read
pub calls_only : (fs gs : List LibraryFunction) (rest after : List Token) → call rest ≡ None → spell_calls fs ++ rest ≡ spell_calls gs ++ mark (codes "}") ∷ after
    → (fs ≡ gs) × (rest ≡ mark (codes "}") ∷ after)
calls_only [] [] rest after none same = (refl, same)
calls_only [] (g ∷ gs) rest after none same =
    let read = call-spell g (spell_calls gs ++ mark (codes "}") ∷ after) in
    let here = ap call (same ∙ append_assoc (spell_call g) (spell_calls gs) (mark (codes "}") ∷ after)) in
    absurd (no_read (g, spell_calls gs ++ mark (codes "}") ∷ after) (sym none ∙ here ∙ read))
calls_only (f ∷ fs) [] rest after none same =
    let read = call-spell f (spell_calls fs ++ rest) in
    let here = ap call (sym (append_assoc (spell_call f) (spell_calls fs) rest) ∙ same) in
    absurd (no_read (f, spell_calls fs ++ rest) (sym (sym read ∙ here ∙ call-brace after)))
calls_only (f ∷ fs) (g ∷ gs) rest after none same =
    let left = call-spell f (spell_calls fs ++ rest) in
    let right = call-spell g (spell_calls gs ++ mark (codes "}") ∷ after) in
    let here = ap call (sym (append_assoc (spell_call f) (spell_calls fs) rest) ∙ same ∙ append_assoc (spell_call g) (spell_calls gs) (mark (codes "}") ∷ after)) in
    let both = same_read f g (spell_calls fs ++ rest) (spell_calls gs ++ mark (codes "}") ∷ after) (sym left ∙ here ∙ right) in
    let first = both.0 in
    let others = both.1 in
    let tail = calls_only fs gs rest after none others in
    ((λ i. first i ∷ tail.0 i), tail.1)

spell_statements-append : (ss : List Statement) (s : Statement) → spell_statements (ss ++ s ∷ []) ≡ spell_statements ss ++ spell_statement s
spell_statements-append [] s = append-nil (spell_statement s)
spell_statements-append (t ∷ ss) s = ap (λ l. spell_statement t ++ l) (spell_statements-append ss s) ∙ sym (append_assoc (spell_statement t) (spell_statements ss) (spell_statement s))

readable-append : (ss : List Statement) (s : Statement) → AreReadable ss → IsReadable s → AreReadable (ss ++ s ∷ [])
readable-append [] s are is = (is, tt)
readable-append (t ∷ ss) s are is = (are.0, readable-append ss s are.1 is)

-- one more statement is read
pub statements_more : (whole : List Token) (ss : List Statement) (rest : List Token) (s : Statement) (after : List Token)
    → whole ≡ spell_statements ss ++ rest → AreReadable ss → Some (s, after) ≡ statement rest → (whole ≡ spell_statements (ss ++ s ∷ []) ++ after) × AreReadable (ss ++ s ∷ [])
statements_more whole ss rest s after so_far are is =
    let here = held_at _ (statement rest) (s, after) (statement_sound rest) (sym is) in (
      so_far ∙ ap (λ l. spell_statements ss ++ l) here.1 ∙ sym (append_assoc (spell_statements ss) (spell_statement s) after) ∙ ap (λ l. l ++ after) (sym (spell_statements-append ss s)),
      readable-append ss s are here.0,
    )

-- the statements before the last lines of main are those that are read
pub statements_only : (ss us : List Statement) (rest after : List Token) → AreReadable ss → AreReadable us → statement rest ≡ None
    → spell_statements ss ++ rest ≡ spell_statements us ++ (main_back ++ after) → (ss ≡ us) × (rest ≡ main_back ++ after)
statements_only [] [] rest after are_s are_u none same = (refl, same)
statements_only [] (u ∷ us) rest after are_s are_u none same =
    let read = statement-spell u (spell_statements us ++ (main_back ++ after)) are_u.0 in
    let here = ap statement (same ∙ append_assoc (spell_statement u) (spell_statements us) (main_back ++ after)) in
    absurd (no_read (u, spell_statements us ++ (main_back ++ after)) (sym none ∙ here ∙ read))
statements_only (s ∷ ss) [] rest after are_s are_u none same =
    let read = statement-spell s (spell_statements ss ++ rest) are_s.0 in
    let here = ap statement (sym (append_assoc (spell_statement s) (spell_statements ss) rest) ∙ same) in
    absurd (no_read (s, spell_statements ss ++ rest) (sym (sym read ∙ here ∙ statement-return after)))
statements_only (s ∷ ss) (u ∷ us) rest after are_s are_u none same =
    let left = statement-spell s (spell_statements ss ++ rest) are_s.0 in
    let right = statement-spell u (spell_statements us ++ (main_back ++ after)) are_u.0 in
    let here = ap statement (sym (append_assoc (spell_statement s) (spell_statements ss) rest) ∙ same ∙ append_assoc (spell_statement u) (spell_statements us) (main_back ++ after)) in
    let both = same_read s u (spell_statements ss ++ rest) (spell_statements us ++ (main_back ++ after)) (sym left ∙ here ∙ right) in
    let first = both.0 in
    let others = both.1 in
    let tail = statements_only ss us rest after are_s.1 are_u.1 none others in
    ((λ i. first i ∷ tail.0 i), tail.1)

-- what is left behind a call, and behind a statement, is shorter
pub call_shorter : (rest : List Token) (f : LibraryFunction) (after : List Token) → Some (f, after) ≡ call rest → length after < length rest
call_shorter rest f after is =
    let here = ap length (held_at _ (call rest) (f, after) (call_sound rest) (sym is)) in
    omega arith

longer_statement : (s : Statement) (after : List Token) → length after < length (spell_statement s ++ after)
longer_statement (Call f) after = omega arith
longer_statement (Install signal handler) after = omega arith

pub statement_shorter : (rest : List Token) (s : Statement) (after : List Token) → Some (s, after) ≡ statement rest → length after < length rest
statement_shorter rest s after is =
    let here = ap length (held_at _ (statement rest) (s, after) (statement_sound rest) (sym is)).1 in
    let longer = longer_statement s after in
    omega arith
