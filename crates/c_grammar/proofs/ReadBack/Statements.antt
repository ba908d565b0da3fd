-- Statements: what a tree of the right shape spells is read as that tree.
use Rattle.std.proofs.Common.{◌≡◌, ◌≢◌, ◌<◌, ◌≤◌, ℕ, ◌+◌, Bool, true, false, List, [], ◌∷◌, ◌++◌, length, cond, Option, Some, None, IsTrue, refl, sym, ap, subst, ◌∙◌, codes, arith}
use Rattle.std.proofs.lemmas.Bool.{cond-true}
use Rattle.c_tree.specs.declared.tree.Storage.{Storage}
use Rattle.c_tree.specs.declared.tree.Storage.TheVariants as st
use Rattle.c_tree.specs.declared.tree.BinaryOp.{BinaryOp}
use Rattle.c_tree.specs.declared.tree.BinaryOp.TheVariants as b
use Rattle.c_tree.specs.Marks.{Tokens, mark, name_token}
use Rattle.c_tree.specs.Tree.{Name, Expression, binary, comma, name, DeclarationTree, ForStartTree, start_declaration, start_expression, StatementTree, block, declaration, expression_statement, if_statement, if_else_statement, while_statement, do_statement, for_statement, switch_statement, case_label, default_label, named_label, break_statement, continue_statement, return_statement, goto_statement, Statements, no_statements, statements}
use Rattle.c_tree.specs.ExpressionShape.{level, ShapeExpression}
use Rattle.c_tree.specs.Shape.{Context, of_loop, of_branch, of_block, of_switch, IsNoTypedef, ShapeInner, ShapeOptional, ShapeStart, ends_open, ShapeStatement, ShapeStatements}
use Rattle.c_tree.specs.Spelling.{spell_statement}
use Rattle.c_grammar.specs.declared.kind.Kind.{Kind}
use Rattle.c_grammar.specs.declared.kind.Kind.TheVariants as k
use Rattle.c_grammar.specs.Kind.{kind, same_kind, token_of, IsFixed, IsUnnamed}
use Rattle.c_grammar.specs.Body.{done, stop, look, take, call, strict, spend, scope, Outcome, got}
use Rattle.c_grammar.specs.Rules.{NameEnvironment, only_types, infix_of, goes_on, follows_name, an_expression, a_whole, a_rest, a_declaration, an_optional, a_start, a_statement, all_statements, expect, first_of_operand, begins_type, begins_declaration, else_by, expressed, labelled_by, statement_by, statements_by}
use Rattle.c_grammar.specs.declared.infix.Infix.{Infix}
use Rattle.c_grammar.specs.declared.infix.Infix.TheVariants as ix
use Rattle.c_grammar.proofs.KindLemmas.{same_refl, same_true, same_false, false_same, kind_end, kind_at, kind_name, kind_same, name_head}
use Rattle.c_grammar.proofs.Onto.{onto_expression, onto_specifiers, onto_storage, onto_declaration, onto_optional, onto_for_start, onto_statement, onto_statements}
use Rattle.c_grammar.proofs.OntoSpelling.{statement_onto}
use Rattle.c_grammar.proofs.Parse.{parse, opening}
use Rattle.c_grammar.proofs.Runs.{Runs, ran, then_done, run_done, run_look, run_seen, run_take, run_spend, run_call, run_scope, run_then, run_else, run_at, run_expect, run_name}
use Rattle.c_grammar.proofs.RunsStrict.{run_strict, longer_by}
use Rattle.c_grammar.proofs.Weight.{weight_of}
use Rattle.c_grammar.proofs.ReadBack.Rules.{expression_complete, expression_head, specifiers_head, name_first, name_stops}
use Rattle.c_grammar.proofs.ReadBack.Declarations.{light, kind_other, declaration_complete}

false_true : false ≢ true
false_true e = absurd (cc)

-- ---- expressions in statements

-- the comma binds loosest
level_some : (x : Expression) → 1 ≤ level x
level_some (binary b.Or x y) = omega arith
level_some (binary _ x y) = omega arith
level_some (comma x y) = omega arith
level_some _ = omega arith

-- an expression of any level is read up to a token that binds nothing
pub expression_alone : (t : List Name) (d o : ℕ) (x : Expression) (e : Kind) (r : Tokens) → IsFixed e → weight_of e < 1 → ShapeExpression t x →
    parse (an_expression (only_types t) d 1 o) (onto_expression x (token_of e [] ∷ r)) ≡ got x (token_of e [] ∷ r) tt
expression_alone t d o x e r fixed ends s = expression_complete t d 1 o x (token_of e [] ∷ r) s (omega arith) (omega arith) (level_some x) (light e r 1 fixed ends)

-- an expression is read up to a token, or the token alone
pub optional_complete : (t : List Name) (d : ℕ) (e : Kind) (x : Option Expression) (r : Tokens) → IsFixed e → IsUnnamed e → first_of_operand e ≡ None → weight_of e < 1 → ShapeOptional t x →
    parse (an_optional (only_types t) d e) (onto_optional x (token_of e [] ∷ r)) ≡ got x r tt
optional_complete t d e None r fixed un none ends s = ran (an_optional (only_types t) d e) _ _ (run_at e fixed (run_then _ (same_refl e) (run_take (run_done refl))))
optional_complete t d e (Some x) r fixed un none ends s =
    let head = expression_head (only_types t) x (token_of e [] ∷ r) s in
    ran (an_optional (only_types t) d e) _ _ (run_look _ refl (run_else _ (false_same _ e (λ is. head (ap first_of_operand (kind_same [] t _ e un is) ∙ none)))
    (run_call refl (expression_alone t d 1 x e r fixed ends s) (run_expect e fixed (run_done refl)))))

-- an operand begins no declaration
operand_no_declaration : (e : Kind) → first_of_operand e ≢ None → begins_declaration e ≡ false
operand_no_declaration k.Name h = refl
operand_no_declaration k.Integer h = refl
operand_no_declaration k.Character h = refl
operand_no_declaration k.Text h = refl
operand_no_declaration k.OpenParen h = refl
operand_no_declaration k.Sizeof h = refl
operand_no_declaration k.PlusPlus h = refl
operand_no_declaration k.MinusMinus h = refl
operand_no_declaration k.Ampersand h = refl
operand_no_declaration k.Star h = refl
operand_no_declaration k.Plus h = refl
operand_no_declaration k.Minus h = refl
operand_no_declaration k.Tilde h = refl
operand_no_declaration k.Exclamation h = refl
operand_no_declaration _ h = absurd (h refl)

type_declaration : (e : Kind) → begins_type e ≡ true → begins_declaration e ≡ true
type_declaration k.Static h = refl
type_declaration k.Extern h = refl
type_declaration _ h = h

stored_head : (t : List Name) (c : Storage) (x : DeclarationTree) (r : Tokens) → x.storage ≡ c → ShapeInner t x → begins_declaration (kind t (onto_storage c (onto_specifiers x.specs r))) ≡ true
stored_head t st.Typedef x r e s = absurd (subst IsNoTypedef e s.0)
stored_head t st.Static x r e s = ap begins_declaration (kind_at t k.Static [] _ tt)
stored_head t st.Extern x r e s = ap begins_declaration (kind_at t k.Extern [] _ tt)
stored_head t st.Nothing x r e s = type_declaration _ (specifiers_head (only_types t) x.specs r s.1.1 s.1.0)

-- a declaration inside a function begins as one
pub declaration_head : (t : List Name) (x : DeclarationTree) (r : Tokens) → ShapeInner t x → begins_declaration (kind t (onto_declaration x r)) ≡ true
declaration_head t x r s = stored_head t x.storage x _ refl s

-- the start of a for is read
pub start_complete : (t : List Name) (d : ℕ) (x : ForStartTree) (r : Tokens) → ShapeStart t x → parse (a_start (only_types t) d) (onto_for_start x r) ≡ got x r tt
start_complete t d (start_declaration x) r s =
    ran (a_start (only_types t) d) _ _ (run_look _ refl (run_then _ (declaration_head t x r s) (run_spend (run_call refl (declaration_complete t (d + 1) x r s) (run_done refl)))))
start_complete t d (start_expression None) r s =
    ran (a_start (only_types t) d) _ _ (run_at k.Semicolon tt (run_call refl (optional_complete t d k.Semicolon None r tt tt refl (omega arith) s) (run_done refl)))
start_complete t d (start_expression (Some x)) r s =
    ran (a_start (only_types t) d) _ _ (run_look _ refl (run_else _ (operand_no_declaration _ (expression_head (only_types t) x _ s))
    (run_call refl (optional_complete t d k.Semicolon (Some x) r tt tt refl (omega arith) s) (run_done refl))))

-- ---- an expression as a statement

by_operand : (t : NameEnvironment) (d : ℕ) (p : Context) (o : ℕ) (e : Kind) → first_of_operand e ≢ None → e ≢ k.Name → statement_by t d p o e ≡ expressed t d o
by_operand t d p o k.Name h new = absurd (new refl)
by_operand t d p o k.Integer h new = refl
by_operand t d p o k.Character h new = refl
by_operand t d p o k.Text h new = refl
by_operand t d p o k.OpenParen h new = refl
by_operand t d p o k.Sizeof h new = refl
by_operand t d p o k.PlusPlus h new = refl
by_operand t d p o k.MinusMinus h new = refl
by_operand t d p o k.Ampersand h new = refl
by_operand t d p o k.Star h new = refl
by_operand t d p o k.Plus h new = refl
by_operand t d p o k.Minus h new = refl
by_operand t d p o k.Tilde h new = refl
by_operand t d p o k.Exclamation h new = refl
by_operand t d p o _ h new = absurd (h refl)

semicolon_colon : k.Semicolon ≢ k.Colon
semicolon_colon e = absurd (cc)

by_rest : (t : NameEnvironment) (d : ℕ) (n : Name) (e : Kind) → e ≢ k.Colon → follows_name e ≡ true →
    labelled_by t d n e ≡ spend 1 (d + 2) (scope (d + 2) (a_rest t (d + 1) 1 (name n)) (λ x. expect k.Semicolon (done (expression_statement (Some x)))))
by_rest t d n k.Colon h follows = absurd (h refl)
by_rest t d n e h follows = cond-true (follows_name e) (spend 1 (d + 2) (scope (d + 2) (a_rest t (d + 1) 1 (name n)) (λ x. expect k.Semicolon (done (expression_statement (Some x)))))) stop follows

-- a name goes on with every operator
operator_goes : (o : BinaryOp) → goes_on 1 (Some (ix.Operator o)) 17 ≡ true
operator_goes b.Or = refl
operator_goes _ = refl

no_goes : (i : Option Infix) → goes_on 1 i 17 ≡ false → i ≡ None
no_goes None h = refl
no_goes (Some (ix.Operator o)) h = absurd (false_true (sym h ∙ operator_goes o))
no_goes _ h = absurd (cc)

no_follow : (e : Kind) → follows_name e ≡ false → infix_of e ≡ None
no_follow k.Semicolon h = absurd (cc)
no_follow e h = no_goes (infix_of e) h

expressed_runs : (t : List Name) (d o : ℕ) (x : Expression) (r : Tokens) → ShapeExpression t x →
    Runs false 6 (expressed (only_types t) d o) (onto_expression x (mark (codes ";") ∷ r)) (got (expression_statement (Some x)) r tt)
expressed_runs t d o x r s = run_call refl (expression_alone t (d + 1) (o + 1) x k.Semicolon r tt (omega arith) s) (run_expect k.Semicolon tt (run_done refl))

whole_alone : (t : List Name) (d o : ℕ) (x : Expression) (e : Kind) (r : Tokens) → IsFixed e → weight_of e < 1 → ShapeExpression t x →
    parse (a_whole (only_types t) d 1 o) (onto_expression x (token_of e [] ∷ r)) ≡ got x (token_of e [] ∷ r) tt
whole_alone t d o x e r fixed ends s = sym (opening (an_expression (only_types t) d 1 o) _ ∙ then_done _) ∙ expression_alone t d o x e r fixed ends s

rest_same : (x y : Expression) (us vs : Tokens) → ◌≡◌ {A = Outcome (Unit {0}) Expression} (got x us tt) (got y vs tt) → us ≡ vs
rest_same x y us vs e = cc

-- what follows the first name of an expression goes on with it, or is the semicolon
name_follows : (t : List Name) (d : ℕ) (x : Expression) (r : Tokens) (n : Name) (us : Tokens) → parse (a_rest (only_types t) d 1 (name n)) us ≡ got x (mark (codes ";") ∷ r) tt →
    (test : Bool) → follows_name (kind [] us) ≡ test → follows_name (kind [] us) ≡ true
name_follows t d x r n us h true is = is
name_follows t d x r n us h false is =
    let same : us ≡ mark (codes ";") ∷ r = rest_same (name n) x us _ (sym (name_stops (only_types t) d n us (no_follow (kind [] us) is)) ∙ h) in
    ap (λ vs. follows_name (kind [] vs)) same ∙ ap follows_name (kind_at [] k.Semicolon [] r tt)

-- behind a name that no colon follows, the expression goes on
labelled_runs : (t : List Name) (d : ℕ) (x : Expression) (r : Tokens) (n : Name) (us : Tokens) → ShapeExpression t x → onto_expression x (mark (codes ";") ∷ r) ≡ name_token n ∷ us →
    Runs true 6 (look [] (labelled_by (only_types t) d n)) us (got (expression_statement (Some x)) r tt)
labelled_runs t d x r n us s begins =
    let first = name_first (only_types t) (d + 1) 0 x (mark (codes ";") ∷ r) n us s begins in
    let rest : parse (a_rest (only_types t) (d + 1) 1 (name n)) us ≡ got x (mark (codes ";") ∷ r) tt = sym first.0 ∙ whole_alone t (d + 1) 0 x k.Semicolon r tt (omega arith) s in
    run_seen (by_rest (only_types t) d n _ (λ is. kind_other [] k.Semicolon k.Colon r tt semicolon_colon (ap (kind []) (sym (first.1 is)) ∙ is)) (name_follows t (d + 1) x r n us rest _ refl))
    (run_spend (run_scope refl rest (run_expect k.Semicolon tt (run_done refl))))

named_runs : (t : List Name) (d : ℕ) (p : Context) (o : ℕ) (x : Expression) (r : Tokens) (in_block : Bool) → p.in_block ≡ in_block → ShapeExpression t x → kind t (onto_expression x (mark (codes ";") ∷ r)) ≡ k.Name →
    Runs false 6 (statement_by (only_types t) d p o k.Name) (onto_expression x (mark (codes ";") ∷ r)) (got (expression_statement (Some x)) r tt)
named_runs t d p o x r false at s is = run_else _ at (expressed_runs t d o x r s)
named_runs t d p o x r true at s is =
    let h = name_head t _ is in
    run_then _ at (run_spend (subst (λ ts. Runs false 6 (take (λ n. look [] (labelled_by (only_types t) d n))) ts (got (expression_statement (Some x)) r tt)) (sym h.2) (run_take (labelled_runs t d x r h.0 h.1 s h.2))))

expressed_by : (t : List Name) (d : ℕ) (p : Context) (o : ℕ) (x : Expression) (r : Tokens) (named : Bool) → same_kind (kind t (onto_expression x (mark (codes ";") ∷ r))) k.Name ≡ named → ShapeExpression t x →
    parse (a_statement (only_types t) d p o) (onto_expression x (mark (codes ";") ∷ r)) ≡ got (expression_statement (Some x)) r tt
expressed_by t d p o x r true test s = let is = same_true _ k.Name test in ran (a_statement (only_types t) d p o) _ _ (run_look k.Name is (named_runs t d p o x r p.in_block refl s is))
expressed_by t d p o x r false test s = ran (a_statement (only_types t) d p o) _ _ (run_seen (by_operand (only_types t) d p o _ (expression_head (only_types t) x _ s) (same_false _ k.Name test)) (expressed_runs t d o x r s))

-- an expression and its semicolon are read as a statement: a name there is no label
pub expressed_complete : (t : List Name) (d : ℕ) (p : Context) (o : ℕ) (x : Expression) (r : Tokens) → ShapeExpression t x →
    parse (a_statement (only_types t) d p o) (onto_expression x (mark (codes ";") ∷ r)) ≡ got (expression_statement (Some x)) r tt
expressed_complete t d p o x r s = expressed_by t d p o x r _ refl s

-- ---- what a statement begins with

-- no statement begins with it, or the end of the text
abbrev begins_statement : Kind → Bool
begins_statement k.CloseBrace = false
begins_statement k.Else = false
begins_statement k.Nothing = false
begins_statement _ = true

operand_statement : (e : Kind) → first_of_operand e ≢ None → begins_statement e ≡ true
operand_statement k.CloseBrace h = absurd (h refl)
operand_statement k.Else h = absurd (h refl)
operand_statement k.Nothing h = absurd (h refl)
operand_statement _ h = refl

declaration_statement : (e : Kind) → begins_declaration e ≡ true → begins_statement e ≡ true
declaration_statement k.CloseBrace h = absurd (cc)
declaration_statement k.Else h = absurd (cc)
declaration_statement k.Nothing h = absurd (cc)
declaration_statement _ h = refl

-- a statement begins as one
statement_head : (t : List Name) (p : Context) (x : StatementTree) (r : Tokens) → ShapeStatement t x p → begins_statement (kind t (onto_statement x r)) ≡ true
statement_head t p (block ss) r s = ap begins_statement (kind_at t k.OpenBrace [] _ tt)
statement_head t p (declaration x) r s = declaration_statement _ (declaration_head t x r s.1)
statement_head t p (expression_statement None) r s = ap begins_statement (kind_at t k.Semicolon [] _ tt)
statement_head t p (expression_statement (Some x)) r s = operand_statement _ (expression_head (only_types t) x _ s)
statement_head t p (if_statement x y) r s = ap begins_statement (kind_at t k.If [] _ tt)
statement_head t p (if_else_statement x y z) r s = ap begins_statement (kind_at t k.If [] _ tt)
statement_head t p (while_statement x y) r s = ap begins_statement (kind_at t k.While [] _ tt)
statement_head t p (do_statement x y) r s = ap begins_statement (kind_at t k.Do [] _ tt)
statement_head t p (for_statement a x y z) r s = ap begins_statement (kind_at t k.For [] _ tt)
statement_head t p (switch_statement x y) r s = ap begins_statement (kind_at t k.Switch [] _ tt)
statement_head t p (case_label x) r s = ap begins_statement (kind_at t k.Case [] _ tt)
statement_head t p default_label r s = ap begins_statement (kind_at t k.Default [] _ tt)
statement_head t p (named_label n) r s = ap begins_statement (kind_name t n _ s.1)
statement_head t p break_statement r s = ap begins_statement (kind_at t k.Break [] _ tt)
statement_head t p continue_statement r s = ap begins_statement (kind_at t k.Continue [] _ tt)
statement_head t p (return_statement x) r s = ap begins_statement (kind_at t k.Return [] _ tt)
statement_head t p (goto_statement n) r s = ap begins_statement (kind_at t k.Goto [] _ tt)

-- a statement begins with no token of this kind
statement_other : (t others : List Name) (p : Context) (x : StatementTree) (r : Tokens) (e : Kind) → IsUnnamed e → begins_statement e ≡ false → ShapeStatement t x p → kind others (onto_statement x r) ≢ e
statement_other t others p x r e un no_start s is = false_true (sym no_start ∙ sym (ap begins_statement (kind_same others t _ e un is)) ∙ statement_head t p x r s)

nothing_left : (t : List Name) (p : Context) (x : StatementTree) → ShapeStatement t x p → spell_statement x ≢ []
nothing_left t p x s e = statement_other t t p x [] k.Nothing tt refl s (ap (kind t) (statement_onto x [] ∙ ap (λ ts. ts ++ []) e) ∙ kind_end t)

-- a statement takes a token at least
pub statement_longer : (t : List Name) (p : Context) (x : StatementTree) (r : Tokens) → ShapeStatement t x p → length r < length (onto_statement x r)
statement_longer t p x r s = subst (λ ts. length r < length ts) (sym (statement_onto x r)) (longer_by (spell_statement x) r (nothing_left t p x s))

brace_else : k.CloseBrace ≢ k.Else
brace_else e = absurd (cc)

while_else : k.While ≢ k.Else
while_else e = absurd (cc)

-- no else follows where other statements, or the end of a block, do
statements_other : (t : List Name) (p : Context) (xs : Statements) (r : Tokens) → ShapeStatements t xs p → kind [] (onto_statements xs (mark (codes "}") ∷ r)) ≢ k.Else
statements_other t p no_statements r s = kind_other [] k.CloseBrace k.Else r tt brace_else
statements_other t p (statements x xs) r s = statement_other t [] p x _ k.Else tt refl s.0

-- ---- statements

by_declaration : (t : NameEnvironment) (d : ℕ) (p : Context) (o : ℕ) (e : Kind) → begins_declaration e ≡ true →
    statement_by t d p o e ≡ cond p.in_block (spend o (d + 1) (call (a_declaration t (d + 1)) (λ x. done (declaration x)))) stop
by_declaration t d p o k.Static h = refl
by_declaration t d p o k.Extern h = refl
by_declaration t d p o k.Const h = refl
by_declaration t d p o k.Volatile h = refl
by_declaration t d p o k.Void h = refl
by_declaration t d p o k.Char h = refl
by_declaration t d p o k.Short h = refl
by_declaration t d p o k.Int h = refl
by_declaration t d p o k.Long h = refl
by_declaration t d p o k.Signed h = refl
by_declaration t d p o k.Unsigned h = refl
by_declaration t d p o k.TypeName h = refl
by_declaration t d p o k.Struct h = refl
by_declaration t d p o k.Enum h = refl
by_declaration t d p o _ h = absurd (cc)

by_no_else : (t : NameEnvironment) (d : ℕ) (p : Context) (x : Expression) (y : StatementTree) (e : Kind) → e ≢ k.Else → else_by t d p x y e ≡ done (if_statement x y)
by_no_else t d p x y k.Else h = absurd (h refl)
by_no_else t d p x y _ h = refl

by_statement : (t : NameEnvironment) (d : ℕ) (p : Context) (e : Kind) → e ≢ k.CloseBrace → statements_by t d p e ≡ strict (a_statement t d p 1) (λ x. call (all_statements t d p) (λ xs. done (statements x xs)))
by_statement t d p k.CloseBrace h = absurd (h refl)
by_statement t d p _ h = refl

mutual
  -- a statement is read, where no else follows that it would take
  pub statement_complete : (t : List Name) (d : ℕ) (p : Context) (o : ℕ) (x : StatementTree) (r : Tokens) → ShapeStatement t x p → (IsTrue (ends_open x) → kind [] r ≢ k.Else) →
      parse (a_statement (only_types t) d p o) (onto_statement x r) ≡ got x r tt
  statement_complete t d p o (block ss) r s ends = ran (a_statement (only_types t) d p o) _ _ (run_at k.OpenBrace tt (run_spend (run_take (run_call refl (statements_complete t (d + 1) (of_block p) ss r s) (run_done refl)))))
  statement_complete t d p o (declaration x) r s ends =
      ran (a_statement (only_types t) d p o) _ _ (run_seen (by_declaration (only_types t) d p o _ (declaration_head t x r s.1)) (run_then _ s.0 (run_spend (run_call refl (declaration_complete t (d + 1) x r s.1) (run_done refl)))))
  statement_complete t d p o (expression_statement None) r s ends = ran (a_statement (only_types t) d p o) _ _ (run_at k.Semicolon tt (run_spend (run_take (run_done refl))))
  statement_complete t d p o (expression_statement (Some x)) r s ends = expressed_complete t d p o x r s
  statement_complete t d p o (if_statement x y) r s ends =
      ran (a_statement (only_types t) d p o) _ _ (run_at k.If tt (run_spend (run_take (run_expect k.OpenParen tt (run_call refl (expression_alone t (d + 1) 0 x k.CloseParen _ tt (omega arith) s.0) (run_expect k.CloseParen tt
      (run_call refl (statement_complete t (d + 1) (of_branch p) 0 y r s.1 (λ opens. ends refl)) (run_seen (by_no_else (only_types t) d p x y _ (ends refl)) (run_done refl)))))))))
  statement_complete t d p o (if_else_statement x y z) r s ends =
      ran (a_statement (only_types t) d p o) _ _ (run_at k.If tt (run_spend (run_take (run_expect k.OpenParen tt (run_call refl (expression_alone t (d + 1) 0 x k.CloseParen _ tt (omega arith) s.1) (run_expect k.CloseParen tt
      (run_call refl (statement_complete t (d + 1) (of_branch p) 0 y _ s.2 (λ opens. absurd (false_true (sym s.0 ∙ opens))))
      (run_at k.Else tt (run_spend (run_take (run_call refl (statement_complete t (d + 1) (of_branch p) 0 z r s.3 ends) (run_done refl))))))))))))
  statement_complete t d p o (while_statement x y) r s ends =
      ran (a_statement (only_types t) d p o) _ _ (run_at k.While tt (run_spend (run_take (run_expect k.OpenParen tt (run_call refl (expression_alone t (d + 1) 0 x k.CloseParen _ tt (omega arith) s.0) (run_expect k.CloseParen tt
      (run_call refl (statement_complete t (d + 1) (of_loop p) 0 y r s.1 ends) (run_done refl))))))))
  statement_complete t d p o (do_statement x y) r s ends =
      ran (a_statement (only_types t) d p o) _ _ (run_at k.Do tt (run_spend (run_take (run_call refl (statement_complete t (d + 1) (of_loop p) 0 x _ s.0 (λ opens. kind_other [] k.While k.Else _ tt while_else))
      (run_expect k.While tt (run_expect k.OpenParen tt (run_call refl (expression_alone t (d + 1) 0 y k.CloseParen _ tt (omega arith) s.1) (run_expect k.CloseParen tt (run_expect k.Semicolon tt (run_done refl))))))))))
  statement_complete t d p o (for_statement a x y z) r s ends =
      ran (a_statement (only_types t) d p o) _ _ (run_at k.For tt (run_spend (run_take (run_expect k.OpenParen tt (run_call refl (start_complete t (d + 1) a _ s.0)
      (run_call refl (optional_complete t (d + 1) k.Semicolon x _ tt tt refl (omega arith) s.1) (run_call refl (optional_complete t (d + 1) k.CloseParen y _ tt tt refl (omega arith) s.2)
      (run_call refl (statement_complete t (d + 1) (of_loop p) 0 z r s.3 ends) (run_done refl)))))))))
  statement_complete t d p o (switch_statement x (block ss)) r s ends =
      ran (a_statement (only_types t) d p o) _ _ (run_at k.Switch tt (run_spend (run_take (run_expect k.OpenParen tt (run_call refl (expression_alone t (d + 1) 0 x k.CloseParen _ tt (omega arith) s.0) (run_expect k.CloseParen tt
      (run_expect k.OpenBrace tt (run_call refl (statements_complete t (d + 2) (of_switch p) ss r s.1) (run_done refl)))))))))
  statement_complete t d p o (switch_statement x _) r s ends = absurd s.1
  statement_complete t d p o (case_label x) r s ends =
      ran (a_statement (only_types t) d p o) _ _ (run_at k.Case tt (run_then _ s.0 (run_spend (run_take (run_call refl (expression_complete t (d + 1) 3 0 x _ s.2 (omega arith) (omega arith) s.1 (light k.Colon r 3 tt (omega arith)))
      (run_expect k.Colon tt (run_done refl)))))))
  statement_complete t d p o default_label r s ends = ran (a_statement (only_types t) d p o) _ _ (run_at k.Default tt (run_then _ s (run_spend (run_take (run_expect k.Colon tt (run_done refl))))))
  statement_complete t d p o (named_label n) r s ends = ran (a_statement (only_types t) d p o) _ _ (run_look k.Name (kind_name t n _ s.1) (run_then _ s.0 (run_spend (run_take (run_at k.Colon tt (run_take (run_done refl)))))))
  statement_complete t d p o break_statement r s ends = ran (a_statement (only_types t) d p o) _ _ (run_at k.Break tt (run_then _ s (run_spend (run_take (run_expect k.Semicolon tt (run_done refl))))))
  statement_complete t d p o continue_statement r s ends = ran (a_statement (only_types t) d p o) _ _ (run_at k.Continue tt (run_then _ s (run_spend (run_take (run_expect k.Semicolon tt (run_done refl))))))
  statement_complete t d p o (return_statement x) r s ends =
      ran (a_statement (only_types t) d p o) _ _ (run_at k.Return tt (run_spend (run_take (run_call refl (optional_complete t (d + 1) k.Semicolon x r tt tt refl (omega arith) s) (run_done refl)))))
  statement_complete t d p o (goto_statement n) r s ends = ran (a_statement (only_types t) d p o) _ _ (run_at k.Goto tt (run_spend (run_take (run_name s (run_expect k.Semicolon tt (run_done refl))))))

  -- the statements of a block are read, with the closing brace
  pub statements_complete : (t : List Name) (d : ℕ) (p : Context) (xs : Statements) (r : Tokens) → ShapeStatements t xs p →
      parse (all_statements (only_types t) d p) (onto_statements xs (mark (codes "}") ∷ r)) ≡ got xs r tt
  statements_complete t d p no_statements r s = ran (all_statements (only_types t) d p) _ _ (run_at k.CloseBrace tt (run_take (run_done refl)))
  statements_complete t d p (statements x xs) r s =
      ran (all_statements (only_types t) d p) _ _ (run_seen (by_statement (only_types t) d p _ (statement_other t t p x _ k.CloseBrace tt refl s.0))
      (run_strict refl (statement_complete t d p 1 x _ s.0 (λ opens. statements_other t p xs r s.1)) (statement_longer t p x _ s.0)
      (run_call refl (statements_complete t d p xs r s.1) (run_done refl))))
