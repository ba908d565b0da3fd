-- Expressions and their operands: what is read is spelled by a tree of its shape.
use Rattle.std.proofs.Common.{◌≡◌, ℕ, ◌≤◌, nat_le, Bool, true, ◌&&◌, [], ◌∷◌, codes, refl, ◌∙◌, arith, Option, Some, None}
use Rattle.std.proofs.lemmas.Bool.Decides.{nat_tests}
use Rattle.c_tree.specs.declared.tree.UnaryOp.{UnaryOp}
use Rattle.c_tree.specs.declared.tree.UnaryOp.TheVariants as u
use Rattle.c_tree.specs.Marks.{Tokens, keyword, mark}
use Rattle.c_grammar.specs.declared.kind.Kind.{Kind}
use Rattle.c_grammar.specs.declared.kind.Kind.TheVariants as k
use Rattle.c_grammar.specs.Kind.{kind, IsReal, unary_kind, step_kind}
use Rattle.c_grammar.specs.Rules.{NameEnvironment, an_expression, a_whole, a_prefix, an_opened, more_texts, all_arguments, more_arguments, first_of_operand, begins_type, prefix_by, opened_by, sized_by, sizeof_by, texts_by, arguments_by, more_arguments_by, rule}
use Rattle.c_grammar.specs.declared.infix.First.{First}
use Rattle.c_grammar.specs.declared.infix.First.TheVariants as fi
use Rattle.c_grammar.proofs.Conditions.{go_done, go_stop, go_look, go_spend, go_call, go_scope, go_if, go_take, go_name, go_expect}
use Rattle.c_grammar.proofs.KindLemmas.{unary_mark, step_mark}
use Rattle.c_grammar.proofs.Sound.Rest.{step_real}
use Rattle.c_grammar.proofs.Keeps.{Keeps, KeepsOn}

-- the kind of the token that an operand begins with
abbrev Begins : Option First → Kind → Type 0
Begins None e = Unit {0}
Begins (Some fi.Word) e = e ≡ k.Name
Begins (Some fi.Number) e = e ≡ k.Integer
Begins (Some fi.Character) e = e ≡ k.Character
Begins (Some fi.Text) e = e ≡ k.Text
Begins (Some fi.Open) e = e ≡ k.OpenParen
Begins (Some fi.Sizeof) e = e ≡ k.Sizeof
Begins (Some (fi.Step o)) e = e ≡ step_kind o
Begins (Some (fi.Unary o)) e = e ≡ unary_kind o

begins : (e : Kind) → Begins (first_of_operand e) e
begins k.Name = refl
begins k.Integer = refl
begins k.Character = refl
begins k.Text = refl
begins k.OpenParen = refl
begins k.Sizeof = refl
begins k.PlusPlus = refl
begins k.MinusMinus = refl
begins k.Ampersand = refl
begins k.Star = refl
begins k.Plus = refl
begins k.Minus = refl
begins k.Tilde = refl
begins k.Exclamation = refl
begins _ = tt

unary_real : (o : UnaryOp) → IsReal (unary_kind o)
unary_real u.Address = tt
unary_real u.Follow = tt
unary_real u.Plus = tt
unary_real u.Minus = tt
unary_real u.BitNot = tt
unary_real u.Not = tt

-- a cast stands where its level allows it
castable : (begins : Bool) (l : ℕ) → begins && nat_le l 14 ≡ true → l ≤ 14
castable begins l e = grind (arith, nat_tests)

opened-by : (t : NameEnvironment) (d l o : ℕ) (ts us : Tokens) (e : Kind) → ts ≡ mark (codes "(") ∷ us → KeepsOn (a_prefix t d l o) (opened_by t d l e) ts us
opened-by t d l o ts us e at = go_if {b = begins_type e && nat_le l 14}
    (λ on. go_call (λ y vs _ p. go_expect k.CloseParen tt (λ n ws close. go_call (λ x os _ q. go_done (λ low.
    let read = q (omega arith) in (rw (at, p.0, close, read.0) refl, (read.2, p.1, read.1), castable (begins_type e) l on))))))
    (λ off. go_call (λ x vs _ p. go_expect k.CloseParen tt (λ n ws close. go_done (λ low. let read = p (omega arith) in (rw (at, read.0, close) refl, read.1, omega arith)))))

sized-by : (t : NameEnvironment) (d l o : ℕ) (ts us vs : Tokens) (e : Kind) → ts ≡ keyword (codes "sizeof") ∷ us → us ≡ mark (codes "(") ∷ vs → KeepsOn (a_prefix t d l o) (sized_by t d e) ts vs
sized-by t d l o ts us vs e at opening = go_if {b = begins_type e}
    (λ on. go_call (λ y ws _ p. go_expect k.CloseParen tt (λ n os close. go_done (λ low. (rw (at, opening, p.0, close) refl, p.1, low)))))
    (λ off. go_scope (λ x ws _ p. go_done (λ low. (rw (at, opening, p.0) refl, (p.2, p.1), low))))

operand-by : (t : NameEnvironment) (d l o : ℕ) (ts us : Tokens) → ts ≡ keyword (codes "sizeof") ∷ us → KeepsOn (a_prefix t d l o) (sizeof_by t d k.Nothing) ts us
operand-by t d l o ts us at = go_call (λ x vs _ p. go_done (λ low. let read = p (omega arith) in (rw (at, read.0) refl, (read.2, read.1), low)))

sizeof-by : (t : NameEnvironment) (d l o : ℕ) (ts us : Tokens) (e : Kind) → kind t.types us ≡ e → ts ≡ keyword (codes "sizeof") ∷ us → KeepsOn (a_prefix t d l o) (sizeof_by t d e) ts us
sizeof-by t d l o ts us k.OpenParen is at = go_take t.types k.OpenParen is tt (λ n vs opening. go_look (λ e _. sized-by t d l o ts us vs e at opening))
sizeof-by t d l o ts us _ is at = operand-by t d l o ts us at

prefix-by : (t : NameEnvironment) (d l o : ℕ) (ts : Tokens) (e : Kind) (f : Option First) → kind t.types ts ≡ e → Begins f e → Keeps (a_prefix t d l o) (prefix_by t d l o f) ts
prefix-by t d l o ts e None is st = go_stop
prefix-by t d l o ts e (Some fi.Word) is st = go_spend (λ _ _. go_name t.types (is ∙ st) (λ n us at ordinary. go_done (λ low. (at, ordinary, omega arith))))
prefix-by t d l o ts e (Some fi.Number) is st = go_spend (λ _ _. go_take t.types k.Integer (is ∙ st) tt (λ n us at. go_done (λ low. (at, tt, omega arith))))
prefix-by t d l o ts e (Some fi.Character) is st = go_spend (λ _ _. go_take t.types k.Character (is ∙ st) tt (λ n us at. go_done (λ low. (at, tt, omega arith))))
prefix-by t d l o ts e (Some fi.Text) is st = go_spend (λ _ _. go_take t.types k.Text (is ∙ st) tt (λ n us at. go_call (λ ns vs _ p. go_done (λ low. (rw (at, p) refl, omega arith, omega arith)))))
prefix-by t d l o ts e (Some fi.Open) is st = go_spend (λ _ _. go_take t.types k.OpenParen (is ∙ st) tt (λ n us at. go_look (λ j _. opened-by t d l o ts us j at)))
prefix-by t d l o ts e (Some fi.Sizeof) is st = go_spend (λ _ _. go_take t.types k.Sizeof (is ∙ st) tt (λ n us at. go_look (λ j next. sizeof-by t d l o ts us j next at)))
prefix-by t d l o ts e (Some (fi.Step c)) is st = go_spend (λ _ _. go_take t.types (step_kind c) (is ∙ st) (step_real c) (λ n us at. go_call (λ x vs _ p. go_done (λ low.
    let read = p (omega arith) in (rw (at, step_mark c n, read.0) refl, (read.2, read.1), low)))))
prefix-by t d l o ts e (Some (fi.Unary c)) is st = go_spend (λ _ _. go_take t.types (unary_kind c) (is ∙ st) (unary_real c) (λ n us at. go_call (λ x vs _ p. go_done (λ low.
    let read = p (omega arith) in (rw (at, unary_mark c n, read.0) refl, (read.2, read.1), low)))))

-- the first operand of an expression
pub a_prefix-sound : (t : NameEnvironment) (d l o : ℕ) (ts : Tokens) → Keeps (a_prefix t d l o) (rule (a_prefix t d l o)) ts
a_prefix-sound t d l o ts = go_look (λ e is. prefix-by t d l o ts e (first_of_operand e) is (begins e))

-- an expression in its own scope
pub a_whole-sound : (t : NameEnvironment) (d l o : ℕ) (ts : Tokens) → Keeps (a_whole t d l o) (rule (a_whole t d l o)) ts
a_whole-sound t d l o ts = go_call (λ x us _ p. go_call (λ y vs _ q. go_done (λ low. let operand = p low in let rest = q operand.1 operand.2 in (rw operand.0 rest.0, rest.1, rest.2))))

-- an expression of at least a level
pub an_expression-sound : (t : NameEnvironment) (d l o : ℕ) (ts : Tokens) → Keeps (an_expression t d l o) (rule (an_expression t d l o)) ts
an_expression-sound t d l o ts = go_scope (λ x us _ p. go_done p)

-- the operand of sizeof whose bracket was read
pub an_opened-sound : (t : NameEnvironment) (d : ℕ) (ts : Tokens) → Keeps (an_opened t d) (rule (an_opened t d)) ts
an_opened-sound t d ts = go_call (λ x us _ p. go_expect k.CloseParen tt (λ n vs close. go_call (λ y ws _ q. go_done (let read = p (omega arith) in let rest = q read.1 (omega arith) in (rw (read.0, close) rest.0, rest.1, rest.2)))))

texts-by : (ts : Tokens) (e : Kind) → kind [] ts ≡ e → Keeps more_texts (texts_by e) ts
texts-by ts k.Text is = go_take [] k.Text is tt (λ n us at. go_call (λ ns vs _ p. go_done (rw (at, p) refl)))
texts-by ts _ is = go_done refl

-- the texts behind a text
pub more_texts-sound : (ts : Tokens) → Keeps more_texts (rule more_texts) ts
more_texts-sound ts = go_look (λ e is. texts-by ts e is)

arguments : (t : NameEnvironment) (d : ℕ) (ts : Tokens) → Keeps (all_arguments t d) (arguments_by t d k.Nothing) ts
arguments t d ts = go_call (λ x us _ p. go_call (λ xs vs _ q. go_done (let read = p (omega arith) in (rw (read.0, q.0) refl, (read.2, read.1, q.1)))))

arguments-by : (t : NameEnvironment) (d : ℕ) (ts : Tokens) (e : Kind) → kind t.types ts ≡ e → Keeps (all_arguments t d) (arguments_by t d e) ts
arguments-by t d ts k.CloseParen is = go_take t.types k.CloseParen is tt (λ n us at. go_done (at, tt))
arguments-by t d ts _ is = arguments t d ts

-- the arguments of a call
pub all_arguments-sound : (t : NameEnvironment) (d : ℕ) (ts : Tokens) → Keeps (all_arguments t d) (rule (all_arguments t d)) ts
all_arguments-sound t d ts = go_look (λ e is. arguments-by t d ts e is)

more_arguments-by : (t : NameEnvironment) (d : ℕ) (ts : Tokens) (e : Kind) → kind [] ts ≡ e → Keeps (more_arguments t d) (more_arguments_by t d e) ts
more_arguments-by t d ts k.CloseParen is = go_take [] k.CloseParen is tt (λ n us at. go_done (at, tt))
more_arguments-by t d ts k.Comma is =
    go_spend (λ _ _. go_take [] k.Comma is tt (λ n us at. go_call (λ x vs _ p. go_call (λ xs ws _ q. go_done (let read = p (omega arith) in (rw (at, read.0, q.0) refl, (read.2, read.1, q.1)))))))
more_arguments-by t d ts _ is = go_stop

-- more arguments
pub more_arguments-sound : (t : NameEnvironment) (d : ℕ) (ts : Tokens) → Keeps (more_arguments t d) (rule (more_arguments t d)) ts
more_arguments-sound t d ts = go_look (λ e is. more_arguments-by t d ts e is)
