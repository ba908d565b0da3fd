-- The rules of statements read tokens that a tree of their shape spells.
use Rattle.std.proofs.Common.{◌≡◌, ◌≢◌, ◌⊎◌, inl, inr, ℕ, ◌+◌, Bool, true, false, ◌||◌, cond, [], ◌∷◌, Some, refl, sym, ap, subst, ◌∙◌, arith}
use Rattle.std.proofs.lemmas.Bool.{false_from_ne_true}
use Rattle.std.specs.Prelude.{IsTrue}
use Rattle.c_tree.specs.Marks.{Tokens, name_token}
use Rattle.c_tree.specs.TypeWords.{is_among}
use Rattle.c_tree.specs.ExpressionShape.{ShapeExpression}
use Rattle.c_tree.specs.Shape.{Context, of_branch, ends_open, ShapeStatement}
use Rattle.c_tree.specs.Tree.{Name, Expression, name, StatementTree, declaration, expression_statement, if_statement}
use Rattle.c_grammar.specs.declared.kind.Kind.{Kind}
use Rattle.c_grammar.specs.declared.kind.Kind.TheVariants as k
use Rattle.c_grammar.specs.Kind.{kind, token_of, same_kind, IsReal}
use Rattle.c_grammar.specs.Body.{stop, spend, scope, done}
use Rattle.c_grammar.specs.Body as body
use Rattle.c_grammar.specs.Gauge.{free}
use Rattle.c_grammar.specs.Rules.{NameEnvironment, Reads, rule, expect, a_rest, a_declaration, a_statement, all_statements, an_optional, a_start, statement_by, statements_by, else_by, follows_name, labelled_by, expressed, begins_declaration}
use Rattle.c_grammar.proofs.KindLemmas.{same_true}
use Rattle.c_grammar.proofs.Onto.{onto_expression, onto_statement}
use Rattle.c_grammar.proofs.Conditions.{Goes, go_done, go_stop, go_look, go_spend, go_call, go_strict, go_scope, go_if, go_take, go_name, go_expect, go_a_name}
use Rattle.c_grammar.proofs.Read.{Read}
use Rattle.c_grammar.proofs.Keeps.{Keeps, KeepsOn}
use Rattle.c_grammar.proofs.Sound.Declarations.{never}

-- any token but else
abbrev IsNoElse : Kind → Type 0
IsNoElse k.Else = ⊥
IsNoElse _ = Unit {0}

no_else : (e : Kind) (us : Tokens) → kind [] us ≡ e → IsNoElse e → kind [] us ≢ k.Else
no_else e us is another same = subst IsNoElse (sym is ∙ same) another

expressed-goes : (t : NameEnvironment) (d : ℕ) (p : Context) (o : ℕ) (ts : Tokens) → KeepsOn (a_statement t d p o) (expressed t d o) ts ts
expressed-goes t d p o ts = go_call (λ x us _ h. go_expect k.Semicolon tt (λ n vs at. let r = h (omega arith) in go_done (cc, r.1, never)))

-- an expression that begins with this name, which was read
abbrev named_first : NameEnvironment → ℕ → Name → Reads StatementTree
named_first t d n = spend 1 (d + 2) (scope (d + 2) (a_rest t (d + 1) 1 (name n)) (λ x. expect k.Semicolon (done (expression_statement (Some x)))))

rest-goes : (t : NameEnvironment) (d : ℕ) (p : Context) (o : ℕ) (n : Name) (ts us : Tokens) → ts ≡ name_token n ∷ us → is_among t.types n ≡ false →
    (follows : Bool) → KeepsOn (a_statement t d p o) (cond follows (named_first t d n) stop) ts us
rest-goes t d p o n ts us at ordinary false = go_stop
rest-goes t d p o n ts us at ordinary true =
    go_spend (λ y _. go_scope (λ x vs _ h. go_expect k.Semicolon tt (λ m ws here. let r = h ordinary (omega arith) in go_done (cc, r.1, never))))

labelled-goes : (t : NameEnvironment) (d : ℕ) (p : Context) (o : ℕ) (n : Name) (ts us : Tokens) → ts ≡ name_token n ∷ us → is_among t.types n ≡ false → IsTrue p.in_block →
    (e : Kind) → kind [] us ≡ e → KeepsOn (a_statement t d p o) (labelled_by t d n e) ts us
labelled-goes t d p o n ts us at ordinary inside k.Colon is = go_take [] k.Colon is tt (λ m vs here. go_done (cc, (inside, ordinary), never))
labelled-goes t d p o n ts us at ordinary inside e is = rest-goes t d p o n ts us at ordinary (follows_name e)

unended-goes : (t : NameEnvironment) (d : ℕ) (p : Context) (o : ℕ) (x : Expression) (y : StatementTree) (ts us : Tokens) → ts ≡ onto_statement (if_statement x y) us →
    ShapeExpression t.types x → ShapeStatement t.types y (of_branch p) → kind [] us ≢ k.Else → KeepsOn (a_statement t d p o) (done (if_statement x y)) ts us
unended-goes t d p o x y ts us at tested shaped another = go_done (at, (tested, shaped), λ _. another)

else-goes : (t : NameEnvironment) (d : ℕ) (p : Context) (o : ℕ) (x : Expression) (y : StatementTree) (ts us : Tokens) → ts ≡ onto_statement (if_statement x y) us →
    ShapeExpression t.types x → ShapeStatement t.types y (of_branch p) → (IsTrue (ends_open y) → kind [] us ≢ k.Else) → (e : Kind) → kind [] us ≡ e → KeepsOn (a_statement t d p o) (else_by t d p x y e) ts us
else-goes t d p o x y ts us at tested shaped closes k.Else is =
    go_spend (λ m _. go_take [] k.Else is tt (λ n vs here. go_call (λ z ws _ q. go_done (cc, (false_from_ne_true (ends_open y) (λ ends. closes ends is), tested, shaped, q.1), q.2))))
else-goes t d p o x y ts us at tested shaped closes _ is = unended-goes t d p o x y ts us at tested shaped (no_else _ us is tt)

-- a declaration, which stands directly in a block
abbrev declared : NameEnvironment → ℕ → Context → ℕ → Reads StatementTree
declared t d p o = cond p.in_block (spend o (d + 1) (body.call (a_declaration t (d + 1)) (λ x. done (declaration x)))) stop

declared-goes : (t : NameEnvironment) (d : ℕ) (p : Context) (o : ℕ) (ts : Tokens) → KeepsOn (a_statement t d p o) (declared t d p o) ts ts
declared-goes t d p o ts = go_if {b = p.in_block} (λ inside. go_spend (λ y _. go_call (λ x us _ h. go_done (h.0, (inside, h.1), never)))) (λ outer. go_stop)

other-goes : (t : NameEnvironment) (d : ℕ) (p : Context) (o : ℕ) (ts : Tokens) (declares : Bool) → KeepsOn (a_statement t d p o) (cond declares (declared t d p o) (expressed t d o)) ts ts
other-goes t d p o ts true = declared-goes t d p o ts
other-goes t d p o ts false = expressed-goes t d p o ts

statement-goes : (t : NameEnvironment) (d : ℕ) (p : Context) (o : ℕ) (ts : Tokens) (e : Kind) → kind t.types ts ≡ e → KeepsOn (a_statement t d p o) (statement_by t d p o e) ts ts
statement-goes t d p o ts k.OpenBrace is =
    go_spend (λ y _. go_take t.types k.OpenBrace is tt (λ n us at. go_call (λ ss vs _ q. go_done (cc, q.1, never))))
statement-goes t d p o ts k.Semicolon is = go_spend (λ y _. go_take t.types k.Semicolon is tt (λ n us at. go_done (at, tt, never)))
statement-goes t d p o ts k.If is =
    go_spend (λ y _. go_take t.types k.If is tt (λ n us at. go_expect k.OpenParen tt (λ m vs here. go_call (λ x ws _ h.
    go_expect k.CloseParen tt (λ l xs there. go_call (λ z ys _ q. let r = h (omega arith) in go_look (λ e next. else-goes t d p o x z ts ys (cc) r.1 q.1 q.2 e next)))))))
statement-goes t d p o ts k.While is =
    go_spend (λ y _. go_take t.types k.While is tt (λ n us at. go_expect k.OpenParen tt (λ m vs here. go_call (λ x ws _ h.
    go_expect k.CloseParen tt (λ l xs there. go_call (λ z ys _ q. let r = h (omega arith) in go_done (cc, (r.1, q.1), q.2)))))))
statement-goes t d p o ts k.Do is =
    go_spend (λ y _. go_take t.types k.Do is tt (λ n us at. go_call (λ z vs _ q. go_expect k.While tt (λ m ws here. go_expect k.OpenParen tt (λ l xs there. go_call (λ x ys _ h.
    go_expect k.CloseParen tt (λ i zs behind. go_expect k.Semicolon tt (λ j rest last. let r = h (omega arith) in go_done (cc, (q.1, r.1), never)))))))))
statement-goes t d p o ts k.For is =
    go_spend (λ y _. go_take t.types k.For is tt (λ n us at. go_expect k.OpenParen tt (λ m vs here. go_call (λ c ws _ f. go_call (λ x xs _ g. go_call (λ w ys _ h. go_call (λ z zs _ q.
    let a = g (inl refl) in let b = h (inr refl) in go_done (cc, (f.1, a.1, b.1, q.1), q.2))))))))
statement-goes t d p o ts k.Switch is =
    go_spend (λ y _. go_take t.types k.Switch is tt (λ n us at. go_expect k.OpenParen tt (λ m vs here. go_call (λ x ws _ h.
    go_expect k.CloseParen tt (λ l xs there. go_expect k.OpenBrace tt (λ i ys behind. go_call (λ ss zs _ q. let r = h (omega arith) in go_done (cc, (r.1, q.1), never))))))))
statement-goes t d p o ts k.Case is =
    go_if {b = p.in_cases} (λ inside. go_spend (λ y _. go_take t.types k.Case is tt (λ n us at. go_call (λ x vs _ h. go_expect k.Colon tt (λ m ws here. let r = h (omega arith) in go_done (cc, (inside, r.2, r.1), never))))))
    (λ outer. go_stop)
statement-goes t d p o ts k.Default is =
    go_if {b = p.in_cases} (λ inside. go_spend (λ y _. go_take t.types k.Default is tt (λ n us at. go_expect k.Colon tt (λ m vs here. go_done (cc, inside, never))))) (λ outer. go_stop)
statement-goes t d p o ts k.Break is =
    go_if {b = p.in_loop || p.in_switch} (λ inside. go_spend (λ y _. go_take t.types k.Break is tt (λ n us at. go_expect k.Semicolon tt (λ m vs here. go_done (cc, inside, never))))) (λ outer. go_stop)
statement-goes t d p o ts k.Continue is =
    go_if {b = p.in_loop} (λ inside. go_spend (λ y _. go_take t.types k.Continue is tt (λ n us at. go_expect k.Semicolon tt (λ m vs here. go_done (cc, inside, never))))) (λ outer. go_stop)
statement-goes t d p o ts k.Return is =
    go_spend (λ y _. go_take t.types k.Return is tt (λ n us at. go_call (λ x vs _ h. let r = h (inl refl) in go_done (cc, r.1, never))))
statement-goes t d p o ts k.Goto is =
    go_spend (λ y _. go_take t.types k.Goto is tt (λ n us at. go_a_name (λ m vs here ordinary. go_expect k.Semicolon tt (λ l ws there. go_done (cc, ordinary, never)))))
statement-goes t d p o ts k.Name is =
    go_if {b = p.in_block} (λ inside. go_spend (λ y _. go_name t.types is (λ n us at ordinary. go_look (λ e next. labelled-goes t d p o n ts us at ordinary inside e next)))) (λ outer. expressed-goes t d p o ts)
statement-goes t d p o ts e is = other-goes t d p o ts (begins_declaration e)

-- A statement's tokens are those that a statement of its shape spells, and none that ends with an open if goes on with else.
pub a_statement-sound : (t : NameEnvironment) (d : ℕ) (p : Context) (o : ℕ) (ts : Tokens) → Keeps (a_statement t d p o) (rule (a_statement t d p o)) ts
a_statement-sound t d p o ts = go_look (λ e is. statement-goes t d p o ts e is)

another-goes : (t : NameEnvironment) (d : ℕ) (p : Context) (ts : Tokens) → Keeps (all_statements t d p) (statements_by t d p k.Nothing) ts
another-goes t d p ts = go_strict (λ x us _ h. go_call (λ xs vs _ q. go_done (cc, (h.1, q.1))))

statements-goes : (t : NameEnvironment) (d : ℕ) (p : Context) (ts : Tokens) (e : Kind) → kind t.types ts ≡ e → Keeps (all_statements t d p) (statements_by t d p e) ts
statements-goes t d p ts k.CloseBrace is = go_take t.types k.CloseBrace is tt (λ n us at. go_done (at, tt))
statements-goes t d p ts _ is = another-goes t d p ts

-- The tokens of a block's statements and its closing brace are those that statements of their shape spell.
pub all_statements-sound : (t : NameEnvironment) (d : ℕ) (p : Context) (ts : Tokens) → Keeps (all_statements t d p) (rule (all_statements t d p)) ts
all_statements-sound t d p ts = go_look (λ e is. statements-goes t d p ts e is)

-- ---- an expression and a token, or the token alone

-- a token that ends an expression which may be left out
abbrev IsEnd : Kind → Type 0
IsEnd k.Semicolon = Unit {0}
IsEnd k.CloseParen = Unit {0}
IsEnd _ = ⊥

is_end : (e : Kind) → (e ≡ k.Semicolon) ⊎ (e ≡ k.CloseParen) → IsEnd e
is_end e (inl is) = subst IsEnd (sym is) tt
is_end e (inr is) = subst IsEnd (sym is) tt

-- a token is taken, whichever it is
go_any : {A : Type 0} (Q : A → Tokens → Unit {0} → Type 0) (f : Name → Reads A) (ts : Tokens) → ((n : Name) (us : Tokens) → Goes (Unit {0}) free Read A (f n) Q us tt) →
    Goes (Unit {0}) free Read A (body.take f) Q ts tt
go_any Q f [] h = record { sure = tt }
go_any Q f (t ∷ us) h = record { sure = (h t.lexeme us).sure }

-- Before a token that ends no such expression nothing has to be shown.
no_end-goes : (t : NameEnvironment) (d : ℕ) (e : Kind) (ts : Tokens) → (IsEnd e → ⊥) → Keeps (an_optional t d e) (rule (an_optional t d e)) ts
no_end-goes t d e ts none =
    go_look (λ j is. go_if {b = same_kind j e} (λ same. go_any _ _ ts (λ n us. go_done (λ ends. absurd (none (is_end e ends)))))
    (λ other. go_call (λ x us _ h. go_look (λ i next. go_if {b = same_kind i e} (λ same. go_any _ _ us (λ n vs. go_done (λ ends. absurd (none (is_end e ends))))) (λ another. go_stop)))))

end-goes : (t : NameEnvironment) (d : ℕ) (e : Kind) (ts : Tokens) → IsReal e → ((n : Name) → token_of e n ≡ token_of e []) → Keeps (an_optional t d e) (rule (an_optional t d e)) ts
end-goes t d e ts real one =
    go_look (λ j is. go_if {b = same_kind j e}
    (λ same. go_take [] e (is ∙ same_true j e same) real (λ n us at. go_done (λ ends. (at ∙ ap (λ v. v ∷ us) (one n), tt))))
    (λ other. go_call (λ x us _ h. go_expect e real (λ n vs at. go_done (λ ends. let r = h (omega arith) in (r.0 ∙ ap (λ v. onto_expression x v) (at ∙ ap (λ v. v ∷ vs) (one n)), r.1))))))

-- The tokens of an expression that may be left out are those that it spells, before the token behind it.
pub an_optional-sound : (t : NameEnvironment) (d : ℕ) (e : Kind) (ts : Tokens) → Keeps (an_optional t d e) (rule (an_optional t d e)) ts
an_optional-sound t d k.Semicolon ts = end-goes t d k.Semicolon ts tt (λ n. refl)
an_optional-sound t d k.CloseParen ts = end-goes t d k.CloseParen ts tt (λ n. refl)
an_optional-sound t d e ts = no_end-goes t d e ts (λ h. h)

-- The tokens of the first part of a for are those that such a part of its shape spells.
pub a_start-sound : (t : NameEnvironment) (d : ℕ) (ts : Tokens) → Keeps (a_start t d) (rule (a_start t d)) ts
a_start-sound t d ts =
    go_look (λ e is. go_if {b = begins_declaration e} (λ declares. go_spend (λ y _. go_call (λ x us _ h. go_done h)))
    (λ other. go_call (λ x us _ h. go_done (h (inl refl)))))
