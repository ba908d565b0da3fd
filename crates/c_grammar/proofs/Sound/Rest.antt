-- How an expression goes on behind one that was read.
use Rattle.std.proofs.Common.{◌≡◌, ℕ, suc, ◌≤◌, nat_le, true, ◌&&◌, refl, ◌∙◌, arith, Option, Some, None}
use Rattle.std.proofs.lemmas.Bool.Decides.{nat_tests}
use Rattle.c_tree.specs.declared.tree.AssignOp.{AssignOp}
use Rattle.c_tree.specs.declared.tree.AssignOp.TheVariants as a
use Rattle.c_tree.specs.declared.tree.BinaryOp.{BinaryOp}
use Rattle.c_tree.specs.declared.tree.BinaryOp.TheVariants as b
use Rattle.c_tree.specs.declared.tree.StepOp.{StepOp}
use Rattle.c_tree.specs.declared.tree.StepOp.TheVariants as s
use Rattle.c_tree.specs.Marks.{Tokens}
use Rattle.c_tree.specs.ExpressionShape.{level, op_level}
use Rattle.c_tree.specs.Tree.{Expression}
use Rattle.c_grammar.specs.declared.kind.Kind.{Kind}
use Rattle.c_grammar.specs.declared.kind.Kind.TheVariants as k
use Rattle.c_grammar.specs.Kind.{kind, IsReal, operator_kind, assignment_kind, step_kind}
use Rattle.c_grammar.specs.Rules.{NameEnvironment, a_rest, longer, infix_of, goes_on, rule}
use Rattle.c_grammar.specs.declared.infix.Infix.{Infix}
use Rattle.c_grammar.specs.declared.infix.Infix.TheVariants as ix
use Rattle.c_grammar.proofs.Conditions.{go_done, go_look, go_spend, go_rise, go_call, go_if, go_take, go_expect, go_a_name}
use Rattle.c_grammar.proofs.KindLemmas.{operator_mark, assignment_mark, step_mark}
use Rattle.c_grammar.proofs.Keeps.{Keeps}

-- the kind of the token that an expression goes on with
abbrev Stands : Option Infix → Kind → Type 0
Stands None e = Unit {0}
Stands (Some ix.Comma) e = e ≡ k.Comma
Stands (Some (ix.Assign o)) e = e ≡ assignment_kind o
Stands (Some ix.Question) e = e ≡ k.Question
Stands (Some (ix.Operator o)) e = e ≡ operator_kind o
Stands (Some ix.Index) e = e ≡ k.OpenBracket
Stands (Some ix.Call) e = e ≡ k.OpenParen
Stands (Some ix.Dot) e = e ≡ k.Dot
Stands (Some ix.Arrow) e = e ≡ k.Arrow
Stands (Some (ix.Step o)) e = e ≡ step_kind o

stands : (e : Kind) → Stands (infix_of e) e
stands k.Comma = refl
stands k.Assign = refl
stands k.StarAssign = refl
stands k.SlashAssign = refl
stands k.PercentAssign = refl
stands k.PlusAssign = refl
stands k.MinusAssign = refl
stands k.LessLessAssign = refl
stands k.GreaterGreaterAssign = refl
stands k.AmpersandAssign = refl
stands k.CaretAssign = refl
stands k.BarAssign = refl
stands k.Question = refl
stands k.BarBar = refl
stands k.AmpersandAmpersand = refl
stands k.Bar = refl
stands k.Caret = refl
stands k.Ampersand = refl
stands k.EqualEqual = refl
stands k.NotEqual = refl
stands k.Less = refl
stands k.Greater = refl
stands k.LessEqual = refl
stands k.GreaterEqual = refl
stands k.LessLess = refl
stands k.GreaterGreater = refl
stands k.Plus = refl
stands k.Minus = refl
stands k.Star = refl
stands k.Slash = refl
stands k.Percent = refl
stands k.OpenBracket = refl
stands k.OpenParen = refl
stands k.Dot = refl
stands k.Arrow = refl
stands k.PlusPlus = refl
stands k.MinusMinus = refl
stands _ = tt

operator_real : (o : BinaryOp) → IsReal (operator_kind o)
operator_real b.Or = tt
operator_real b.And = tt
operator_real b.BitOr = tt
operator_real b.BitXor = tt
operator_real b.BitAnd = tt
operator_real b.Equal = tt
operator_real b.Unequal = tt
operator_real b.Less = tt
operator_real b.Greater = tt
operator_real b.AtMost = tt
operator_real b.AtLeast = tt
operator_real b.ShiftLeft = tt
operator_real b.ShiftRight = tt
operator_real b.Add = tt
operator_real b.Sub = tt
operator_real b.Mul = tt
operator_real b.Div = tt
operator_real b.Rem = tt

assignment_real : (o : AssignOp) → IsReal (assignment_kind o)
assignment_real a.Plain = tt
assignment_real a.Mul = tt
assignment_real a.Div = tt
assignment_real a.Rem = tt
assignment_real a.Add = tt
assignment_real a.Sub = tt
assignment_real a.ShiftLeft = tt
assignment_real a.ShiftRight = tt
assignment_real a.BitAnd = tt
assignment_real a.BitXor = tt
assignment_real a.BitOr = tt

-- a rule may take the token of a step operator
pub step_real : (o : StepOp) → IsReal (step_kind o)
step_real s.Up = tt
step_real s.Down = tt

operator_low : (o : BinaryOp) → suc (op_level o) ≤ 15
operator_low b.Or = omega arith
operator_low b.And = omega arith
operator_low b.BitOr = omega arith
operator_low b.BitXor = omega arith
operator_low b.BitAnd = omega arith
operator_low b.Equal = omega arith
operator_low b.Unequal = omega arith
operator_low b.Less = omega arith
operator_low b.Greater = omega arith
operator_low b.AtMost = omega arith
operator_low b.AtLeast = omega arith
operator_low b.ShiftLeft = omega arith
operator_low b.ShiftRight = omega arith
operator_low b.Add = omega arith
operator_low b.Sub = omega arith
operator_low b.Mul = omega arith
operator_low b.Div = omega arith
operator_low b.Rem = omega arith

-- the levels allow it to go on
allowed : (l own left v : ℕ) → nat_le l own && nat_le left v ≡ true → (l ≤ own) × (left ≤ v)
allowed l own left v e = (grind (arith, nat_tests), grind (arith, nat_tests))

rest-by : (t : NameEnvironment) (d l : ℕ) (x : Expression) (ts : Tokens) (e : Kind) (i : Option Infix) → kind t.types ts ≡ e → Stands i e → goes_on l i (level x) ≡ true → Keeps (a_rest t d l x) (longer t d l x i) ts
rest-by t d l x ts e None is st on = go_done (λ s h. (refl, s, h))
rest-by t d l x ts e (Some ix.Comma) is st on = let fits = allowed l 1 1 (level x) on in
    go_rise (λ _ _. go_spend (λ _ _. go_take t.types k.Comma (is ∙ st) tt (λ n us at. go_call (λ y vs _ p. go_call (λ z ws _ q. go_done (λ s h.
    let read = p (omega arith) in let rest = q (fits.1, read.2, s, read.1) fits.0 in (rw (at, read.0) rest.0, rest.1, rest.2)))))))
rest-by t d l x ts e (Some (ix.Assign o)) is st on = let fits = allowed l 2 15 (level x) on in
    go_rise (λ _ _. go_spend (λ _ _. go_take t.types (assignment_kind o) (is ∙ st) (assignment_real o) (λ n us at. go_call (λ y vs _ p. go_call (λ z ws _ q. go_done (λ s h.
    let read = p (omega arith) in let rest = q (fits.1, read.2, s, read.1) fits.0 in (rw (at, assignment_mark o n, read.0) rest.0, rest.1, rest.2)))))))
rest-by t d l x ts e (Some ix.Question) is st on = let fits = allowed l 3 4 (level x) on in
    go_rise (λ _ _. go_spend (λ _ _. go_take t.types k.Question (is ∙ st) tt (λ n us at. go_call (λ y vs _ p. go_expect k.Colon tt (λ m ns colon. go_call (λ w os _ o. go_call (λ z ws _ q. go_done (λ s h.
    let read = p (omega arith) in let last = o (omega arith) in let rest = q (fits.1, read.2, last.2, s, read.1, last.1) fits.0 in (rw (at, read.0, colon, last.0) rest.0, rest.1, rest.2)))))))))
rest-by t d l x ts e (Some (ix.Operator o)) is st on = let fits = allowed l (op_level o) (op_level o) (level x) on in
    go_rise (λ _ _. go_spend (λ _ _. go_take t.types (operator_kind o) (is ∙ st) (operator_real o) (λ n us at. go_call (λ y vs _ p. go_call (λ z ws _ q. go_done (λ s h.
    let read = p (operator_low o) in let rest = q (fits.1, read.2, s, read.1) fits.0 in (rw (at, operator_mark o n, read.0) rest.0, rest.1, rest.2)))))))
rest-by t d l x ts e (Some ix.Index) is st on = let fits = allowed l 16 16 (level x) on in
    go_rise (λ _ _. go_spend (λ _ _. go_take t.types k.OpenBracket (is ∙ st) tt (λ n us at. go_call (λ y vs _ p. go_expect k.CloseBracket tt (λ m ns close. go_call (λ z ws _ q. go_done (λ s h.
    let read = p (omega arith) in let rest = q (fits.1, s, read.1) fits.0 in (rw (at, read.0, close) rest.0, rest.1, rest.2))))))))
rest-by t d l x ts e (Some ix.Call) is st on = let fits = allowed l 16 16 (level x) on in
    go_rise (λ _ _. go_spend (λ _ _. go_take t.types k.OpenParen (is ∙ st) tt (λ n us at. go_call (λ xs vs _ p. go_call (λ z ws _ q. go_done (λ s h.
    let rest = q (fits.1, s, p.1) fits.0 in (rw (at, p.0) rest.0, rest.1, rest.2)))))))
rest-by t d l x ts e (Some ix.Dot) is st on = let fits = allowed l 16 16 (level x) on in
    go_rise (λ _ _. go_spend (λ _ _. go_take t.types k.Dot (is ∙ st) tt (λ n us at. go_a_name (λ m vs named ordinary. go_call (λ z ws _ q. go_done (λ s h.
    let rest = q (fits.1, ordinary, s) fits.0 in (rw (at, named) rest.0, rest.1, rest.2)))))))
rest-by t d l x ts e (Some ix.Arrow) is st on = let fits = allowed l 16 16 (level x) on in
    go_rise (λ _ _. go_spend (λ _ _. go_take t.types k.Arrow (is ∙ st) tt (λ n us at. go_a_name (λ m vs named ordinary. go_call (λ z ws _ q. go_done (λ s h.
    let rest = q (fits.1, ordinary, s) fits.0 in (rw (at, named) rest.0, rest.1, rest.2)))))))
rest-by t d l x ts e (Some (ix.Step o)) is st on = let fits = allowed l 16 16 (level x) on in
    go_rise (λ _ _. go_spend (λ _ _. go_take t.types (step_kind o) (is ∙ st) (step_real o) (λ n us at. go_call (λ z ws _ q. go_done (λ s h.
    let rest = q (fits.1, s) fits.0 in (rw (at, step_mark o n) rest.0, rest.1, rest.2))))))

-- an expression goes on as the rule promises
pub a_rest-sound : (t : NameEnvironment) (d l : ℕ) (x : Expression) (ts : Tokens) → Keeps (a_rest t d l x) (rule (a_rest t d l x)) ts
a_rest-sound t d l x ts = go_look (λ e is. go_if (λ on. rest-by t d l x ts e (infix_of e) is (stands e) on) (λ off. go_done (λ s h. (refl, s, h))))
