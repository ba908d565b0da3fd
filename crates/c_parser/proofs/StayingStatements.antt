-- What the rules of initialisers, declarations and statements keep.
use Rattle.std.proofs.Common.{◌≡◌, ℕ, ◌+◌, ◌≤◌, Bool, false, [], ◌∷◌, cond, ◌||◌, Some, refl}
use Rattle.c_tree.specs.declared.tree.Storage.{Storage}
use Rattle.c_tree.specs.TypeWords.{has_tag}
use Rattle.c_tree.specs.Tree.{Name, Expression, name, Specifiers, DeclaratorTree, NamedTree, StatementTree, declaration, expression_statement}
use Rattle.c_tree.specs.Marks.{Tokens}
use Rattle.c_tree.specs.Shape.{Context}
use Rattle.c_grammar.specs.declared.kind.Kind.{Kind}
use Rattle.c_grammar.specs.declared.kind.Kind.TheVariants as k
use Rattle.c_grammar.specs.Kind.{same_kind}
use Rattle.c_grammar.specs.Body.{done}
use Rattle.c_grammar.specs.Body as body
use Rattle.c_grammar.specs.Gauge.{Meter}
use Rattle.c_grammar.specs.Rules.{NameEnvironment, naming, follows_name, a_rest, begins_declaration, begins_declarator, has_initializer, initializer_by, initializers_by, next_initializer_by, more_initializers_by, declaration_by, declared_names_by, named_init_by, more_named_by, else_by, expressed, labelled_by, statement_by, statements_by, an_initializer, all_initializers, more_initializers, a_declaration, a_declared, a_named, more_named, an_optional, a_start, a_statement, all_statements}
use Rattle.c_grammar.proofs.Conditions.{go_done, go_stop, go_look, go_call, go_strict, go_scope, go_if}
use Rattle.c_grammar.proofs.Limits.{Fits}
use Rattle.c_parser.proofs.Staying.{Stays, Safe, Kept, fits-left, fits-entered, pays, skips, wants, a_name_taken}

-- ---- initialisers

initializer-by : (t : NameEnvironment) (d o : ℕ) (e : Kind) (ts : Tokens) (m : Meter) → Safe (initializer_by t d o e) (Stays (an_initializer t d o) ts m) ts m
initializer-by t d o k.OpenBrace ts m = pays (λ y deep g. skips (λ _ us. go_call (λ ps vs n p. go_done (λ f. p g))))
initializer-by t d o _ ts m = go_call (λ x us n p. go_done (λ f. p.1 f.peak))

pub initializer-kept : (t : NameEnvironment) (d o : ℕ) → Kept (an_initializer t d o)
initializer-kept t d o ts m = go_look (λ e is. initializer-by t d o e ts m)

initializers-by : (t : NameEnvironment) (d o : ℕ) (e : Kind) (ts : Tokens) (m : Meter) → Safe (initializers_by t d o e) (Stays (all_initializers t d o) ts m) ts m
initializers-by t d o k.Dot ts m =
    pays (λ y deep g. skips (λ _ us. a_name_taken (λ a vs. wants k.Assign (λ ws. go_call (λ i xs n p. go_call (λ ps ys z q. go_done (λ f. q (p g))))))))
initializers-by t d o _ ts m = go_call (λ i us n p. go_call (λ ps vs z q. go_done (λ f. q (p f))))

pub initializers-kept : (t : NameEnvironment) (d o : ℕ) → Kept (all_initializers t d o)
initializers-kept t d o ts m = go_look (λ e is. initializers-by t d o e ts m)

next-initializer-by : (t : NameEnvironment) (d : ℕ) (e : Kind) (ts us : Tokens) (m : Meter) → Safe (next_initializer_by t d e) (Stays (more_initializers t d) ts m) us m
next-initializer-by t d k.CloseBrace ts us m = skips (λ _ vs. go_done (λ f. f))
next-initializer-by t d _ ts us m = go_call (λ ps vs n p. go_done p)

more-initializers-by : (t : NameEnvironment) (d : ℕ) (e : Kind) (ts : Tokens) (m : Meter) → Safe (more_initializers_by t d e) (Stays (more_initializers t d) ts m) ts m
more-initializers-by t d k.CloseBrace ts m = skips (λ _ us. go_done (λ f. f))
more-initializers-by t d k.Comma ts m = skips (λ _ us. go_look (λ e is. next-initializer-by t d e ts us m))
more-initializers-by t d _ ts m = go_stop

pub more-initializers-kept : (t : NameEnvironment) (d : ℕ) → Kept (more_initializers t d)
more-initializers-kept t d ts m = go_look (λ e is. more-initializers-by t d e ts m)

-- ---- declarations

declaration-by : (t : NameEnvironment) (d : ℕ) (e : Kind) (ts : Tokens) (m : Meter) → Safe (declaration_by t d e) (Stays (a_declaration t d) ts m) ts m
declaration-by t d k.Static ts m = skips (λ _ us. go_call (λ x vs n p. go_done p))
declaration-by t d k.Extern ts m = skips (λ _ us. go_call (λ x vs n p. go_done p))
declaration-by t d _ ts m = go_call (λ x us n p. go_done p)

pub declaration-kept : (t : NameEnvironment) (d : ℕ) → Kept (a_declaration t d)
declaration-kept t d ts m = go_look (λ e is. declaration-by t d e ts m)

-- the names behind the specifiers
all-names : (t : NameEnvironment) (d : ℕ) (c : Storage) (ws : Specifiers) (ts us : Tokens) (m n : Meter) → d + 1 ≤ 1000 → (Fits m → Fits n) →
    Safe (body.call (a_named t d) (λ x. body.call (more_named t d) (λ xs. done (record { storage = c; specs = ws; names = x ∷ xs })))) (Stays (a_declared t d c) ts m) us n
all-names t d c ws ts us m n deep h = go_call (λ x vs o p. go_call (λ xs ys z q. go_done (λ f. q (p deep (h f)))))

some-names : (t : NameEnvironment) (d : ℕ) (c : Storage) (ws : Specifiers) (e : Kind) (ts us : Tokens) (m n : Meter) → (Fits m → Fits n) → (has_tag ws ≡ false → d + 1 ≤ 1000) →
    Safe (cond (begins_declarator e) (naming (has_tag ws) d (body.call (a_named t d) (λ x. body.call (more_named t d) (λ xs. done (record { storage = c; specs = ws; names = x ∷ xs }))))) body.stop)
    (Stays (a_declared t d c) ts m) us n
some-names t d c ws e ts us m n h first = go_if {b = begins_declarator e}
    (λ yes. go_if {b = has_tag ws} (λ tag. pays (λ y deep g. all-names t d c ws ts us m y deep (λ f. g))) (λ none. all-names t d c ws ts us m n (first none) h))
    (λ no. go_stop)

declared-names-by : (t : NameEnvironment) (d : ℕ) (c : Storage) (ws : Specifiers) (e : Kind) (ts us : Tokens) (m n : Meter) → (Fits m → Fits n) → (has_tag ws ≡ false → d + 1 ≤ 1000) →
    Safe (declared_names_by t d c ws e) (Stays (a_declared t d c) ts m) us n
declared-names-by t d c ws k.Semicolon ts us m n h first = go_if {b = has_tag ws} (λ yes. skips (λ _ vs. go_done h)) (λ no. go_stop)
declared-names-by t d c ws e ts us m n h first = some-names t d c ws e ts us m n h first

pub declared-kept : (t : NameEnvironment) (d : ℕ) (c : Storage) → Kept (a_declared t d c)
declared-kept t d c ts m = go_call (λ ws us n p. go_look (λ e is. declared-names-by t d c ws e ts us m n p.0 (p.1 refl refl)))

-- behind a declarator, inside a function or not
pub named-init-by : (t : NameEnvironment) (d : ℕ) (may : Bool) (c : DeclaratorTree) (e : Kind) (us : Tokens) (n : Meter) (Q : NamedTree → Tokens → Meter → Type 0) →
    ((x : NamedTree) (vs : Tokens) (o : Meter) → (Fits n → Fits o) → Q x vs o) → Safe (named_init_by t d may c e) Q us n
named-init-by t d may c k.Assign us n Q h = go_if {b = may} (λ yes. pays (λ y deep g. skips (λ _ vs. go_call (λ i ws o p. go_done (h _ _ _ (λ f. p g)))))) (λ no. go_stop)
named-init-by t d may c _ us n Q h = go_done (h _ _ _ (λ f. f))

pub named-kept : (t : NameEnvironment) (d : ℕ) → Kept (a_named t d)
named-kept t d ts m = go_call (λ c us n p. go_look (λ e is. named-init-by t (d + 1) (has_initializer c) c e us n _ (λ x vs o q deep f. q (p deep f))))

more-named-by : (t : NameEnvironment) (d : ℕ) (e : Kind) (ts : Tokens) (m : Meter) → Safe (more_named_by t d e) (Stays (more_named t d) ts m) ts m
more-named-by t d k.Semicolon ts m = skips (λ _ us. go_done (λ f. f))
more-named-by t d k.Comma ts m = pays (λ y deep g. skips (λ _ us. go_call (λ x vs o p. go_call (λ xs ys z q. go_done (λ f. q (p deep g))))))
more-named-by t d _ ts m = go_stop

pub more-named-kept : (t : NameEnvironment) (d : ℕ) → Kept (more_named t d)
more-named-kept t d ts m = go_look (λ e is. more-named-by t d e ts m)

-- ---- statements

pub optional-kept : (t : NameEnvironment) (d : ℕ) (e : Kind) → Kept (an_optional t d e)
optional-kept t d e ts m = go_look (λ j is. go_if {b = same_kind j e}
    (λ yes. skips (λ _ us. go_done (λ f. f)))
    (λ no. go_call (λ x us n p. wants e (λ vs. go_done (λ f. p.1 f.peak)))))

pub start-kept : (t : NameEnvironment) (d : ℕ) → Kept (a_start t d)
start-kept t d ts m = go_look (λ e is. go_if {b = begins_declaration e}
    (λ yes. pays (λ y deep g. go_call (λ x us n p. go_done (λ f. p g))))
    (λ no. go_call (λ x us n p. go_done p)))

else-by : (t : NameEnvironment) (d : ℕ) (p : Context) (o : ℕ) (x : Expression) (y : StatementTree) (e : Kind) (ts us : Tokens) (m n : Meter) → Fits n →
    Safe (else_by t d p x y e) (Stays (a_statement t d p o) ts m) us n
else-by t d p o x y k.Else ts us m n g = pays (λ y' deep i. skips (λ _ vs. go_call (λ z ws q h. go_done (λ f. h i))))
else-by t d p o x y _ ts us m n g = go_done (λ f. g)

expressed-by : (t : NameEnvironment) (d : ℕ) (p : Context) (o : ℕ) (ts : Tokens) (m : Meter) → Safe (expressed t d o) (Stays (a_statement t d p o) ts m) ts m
expressed-by t d p o ts m = go_call (λ x us n q. wants k.Semicolon (λ vs. go_done (λ f. q.1 f.peak)))

labelled-rest : (t : NameEnvironment) (d : ℕ) (p : Context) (o : ℕ) (a : Name) (e : Kind) (ts us : Tokens) (m n : Meter) →
    Safe (cond (follows_name e) (body.spend 1 (d + 2) (body.scope (d + 2) (a_rest t (d + 1) 1 (name a))
    (λ x. body.look [] (λ j. cond (same_kind j k.Semicolon) (body.take (λ b. done (expression_statement (Some x)))) body.stop)))) body.stop)
    (Stays (a_statement t d p o) ts m) us n
labelled-rest t d p o a e ts us m n = go_if {b = follows_name e}
    (λ yes. pays (λ y deep g. go_scope (λ x vs q h. wants k.Semicolon (λ ws. go_done (λ f. fits-left y q g.peak (h (fits-entered (d + 2) y deep g)))))))
    (λ no. go_stop)

labelled-by : (t : NameEnvironment) (d : ℕ) (p : Context) (o : ℕ) (a : Name) (e : Kind) (ts us : Tokens) (m n : Meter) → Fits n →
    Safe (labelled_by t d a e) (Stays (a_statement t d p o) ts m) us n
labelled-by t d p o a k.Colon ts us m n g = skips (λ _ vs. go_done (λ f. g))
labelled-by t d p o a e ts us m n g = labelled-rest t d p o a e ts us m n

-- a declaration or an expression
statement-else : (t : NameEnvironment) (d : ℕ) (p : Context) (o : ℕ) (e : Kind) (ts : Tokens) (m : Meter) →
    Safe (cond (begins_declaration e) (cond p.in_block (body.spend o (d + 1) (body.call (a_declaration t (d + 1)) (λ x. done (declaration x)))) body.stop) (expressed t d o)) (Stays (a_statement t d p o) ts m) ts m
statement-else t d p o e ts m = go_if {b = begins_declaration e}
    (λ yes. go_if {b = p.in_block} (λ inside. pays (λ y deep g. go_call (λ x us n q. go_done (λ f. q g)))) (λ out. go_stop))
    (λ no. expressed-by t d p o ts m)

statement-by : (t : NameEnvironment) (d : ℕ) (p : Context) (o : ℕ) (e : Kind) (ts : Tokens) (m : Meter) → Safe (statement_by t d p o e) (Stays (a_statement t d p o) ts m) ts m
statement-by t d p o k.OpenBrace ts m = pays (λ y deep g. skips (λ _ us. go_call (λ ss vs n q. go_done (λ f. q g))))
statement-by t d p o k.Semicolon ts m = pays (λ y deep g. skips (λ _ us. go_done (λ f. g)))
statement-by t d p o k.If ts m = pays (λ y deep g. skips (λ _ us. wants k.OpenParen (λ vs. go_call (λ x ws n q. wants k.CloseParen (λ xs. go_call (λ z ys n' r.
    go_look (λ e is. else-by t d p o x z e ts ys m n' (r (q.1 g.peak)))))))))
statement-by t d p o k.While ts m = pays (λ y deep g. skips (λ _ us. wants k.OpenParen (λ vs. go_call (λ x ws n q. wants k.CloseParen (λ xs. go_call (λ z ys n' r. go_done (λ f. r (q.1 g.peak))))))))
statement-by t d p o k.Do ts m = pays (λ y deep g. skips (λ _ us. go_call (λ z vs n q. wants k.While (λ ws. wants k.OpenParen (λ xs. go_call (λ x ys n' r.
    wants k.CloseParen (λ zs. wants k.Semicolon (λ us'. go_done (λ f. let i = q g in r.1 i.peak)))))))))
statement-by t d p o k.For ts m = pays (λ y deep g. skips (λ _ us. wants k.OpenParen (λ vs. go_call (λ c ws n q. go_call (λ x xs n' r. go_call (λ z ys n'' s. go_call (λ a zs w u. go_done (λ f. u (s (r (q g)))))))))))
statement-by t d p o k.Switch ts m = pays (λ y deep g. skips (λ _ us. wants k.OpenParen (λ vs. go_call (λ x ws n q. wants k.CloseParen (λ xs. wants k.OpenBrace (λ ys. go_call (λ ss zs n' r. go_done (λ f. r (q.1 g.peak)))))))))
statement-by t d p o k.Case ts m = go_if {b = p.in_cases} (λ yes. pays (λ y deep g. skips (λ _ us. go_call (λ x vs n q. wants k.Colon (λ ws. go_done (λ f. q.1 g.peak)))))) (λ no. go_stop)
statement-by t d p o k.Default ts m = go_if {b = p.in_cases} (λ yes. pays (λ y deep g. skips (λ _ us. wants k.Colon (λ vs. go_done (λ f. g))))) (λ no. go_stop)
statement-by t d p o k.Break ts m = go_if {b = p.in_loop || p.in_switch} (λ yes. pays (λ y deep g. skips (λ _ us. wants k.Semicolon (λ vs. go_done (λ f. g))))) (λ no. go_stop)
statement-by t d p o k.Continue ts m = go_if {b = p.in_loop} (λ yes. pays (λ y deep g. skips (λ _ us. wants k.Semicolon (λ vs. go_done (λ f. g))))) (λ no. go_stop)
statement-by t d p o k.Return ts m = pays (λ y deep g. skips (λ _ us. go_call (λ x vs n q. go_done (λ f. q g))))
statement-by t d p o k.Goto ts m = pays (λ y deep g. skips (λ _ us. a_name_taken (λ a vs. wants k.Semicolon (λ ws. go_done (λ f. g)))))
statement-by t d p o k.Name ts m = go_if {b = p.in_block} (λ yes. pays (λ y deep g. skips (λ a us. go_look (λ e is. labelled-by t d p o a e ts us m y g)))) (λ no. expressed-by t d p o ts m)
statement-by t d p o e ts m = statement-else t d p o e ts m

pub statement-kept : (t : NameEnvironment) (d : ℕ) (p : Context) (o : ℕ) → Kept (a_statement t d p o)
statement-kept t d p o ts m = go_look (λ e is. statement-by t d p o e ts m)

statements-by : (t : NameEnvironment) (d : ℕ) (p : Context) (e : Kind) (ts : Tokens) (m : Meter) → Safe (statements_by t d p e) (Stays (all_statements t d p) ts m) ts m
statements-by t d p k.CloseBrace ts m = skips (λ _ us. go_done (λ f. f))
statements-by t d p _ ts m = go_strict (λ x us n q. go_call (λ xs vs o r. go_done (λ f. r (q f))))

pub statements-kept : (t : NameEnvironment) (d : ℕ) (p : Context) → Kept (all_statements t d p)
statements-kept t d p ts m = go_look (λ e is. statements-by t d p e ts m)
