-- An expression that goes on is one that an operator made longer, and goes on from there.
use Rattle.std.proofs.Common.{◌≡◌, ◌<◌, ◌≤◌, ℕ, suc, ◌+◌, Bool, true, false, cond, [], ◌∷◌, length, Some, refl, sym, ap, ◌∙◌, subst, arith, Option, None}
use Rattle.c_tree.specs.ExpressionShape.{level, op_level}
use Rattle.c_tree.specs.Tree.{Expression, comma, assign, choose, binary, index, call, dot, arrow, after}
use Rattle.c_tree.specs.Marks.{Tokens}
use Rattle.c_grammar.specs.declared.kind.Kind.TheVariants as k
use Rattle.c_grammar.specs.Kind.{kind, tail_of}
use Rattle.c_grammar.specs.Body.{done, take, spend, rise, got, and_then, Reader}
use Rattle.c_grammar.specs.Body as body
use Rattle.c_grammar.specs.Gauge.{Meter}
use Rattle.c_grammar.specs.Input.{Input}
use Rattle.c_grammar.specs.Reading.{read}
use Rattle.c_grammar.specs.Rules.{NameEnvironment, a_rest, an_expression, longer, infix_of, goes_on}
use Rattle.c_grammar.specs.declared.infix.Infix.{Infix}
use Rattle.c_grammar.specs.declared.infix.Infix.TheVariants as ix
use Rattle.c_grammar.proofs.KindLemmas.{kind_end}
use Rattle.c_grammar.specs.declared.refusal.Refusal.{Refusal}
use Rattle.c_grammar.specs.Gives.{Fails}
use Rattle.expression_parser.specs.Infixes.{goes_on_with}
use Rattle.expression_parser.specs.Extending.{extended, right_operand, choices, subscript, arguments, member_name, stepped}
use Rattle.c_grammar.specs.Performing.{perform, at}
use Rattle.c_grammar.proofs.Opens.{rest_performs}
use Rattle.c_grammar.proofs.Joining.{last, Joins, join_rise, join_spend, join_skip, join_call, join_expect, join_name, then_fails, taken, made}
use Rattle.c_grammar.proofs.Shorter.{Leaves}

module _ (t : NameEnvironment) (d least : ℕ) where
  abbrev rest_of : Expression → Reader Meter Expression
  rest_of y us m = read (a_rest t d least y) (at us m)

  join_last : {B : Type 0} {g : B → Expression} {b : B} {j : Input} → Joins g rest_of (body.call (a_rest t d least (g b)) done) (done b) j
  join_last {g = g} {b = b} {j = j} = record { is = last (read (a_rest t d least (g b)) j) }

  right_joined : (x : Expression) (l : ℕ) (g : Expression → Expression) (j : Input) →
      Joins g rest_of (rise (spend 2 (d + 2) (take (λ n. body.call (an_expression t (d + 1) l 0) (λ y. body.call (a_rest t d least (g y)) done))))) (right_operand t d l) j
  right_joined x l g j = join_rise (λ m. join_spend (λ n. join_skip (join_call (λ y us p. join_last))))

  longer_extended : (x : Expression) (j : Input) (f : Infix) → perform (longer t d least x (Some f)) j ≡ and_then (extended t d x f j) rest_of
  longer_extended x j ix.Comma = (right_joined x 2 (comma x) j).is
  longer_extended x j (ix.Assign o) = (right_joined x 2 (assign o x) j).is
  longer_extended x j ix.Question =
      let h : Joins (λ p. choose x p.0 p.1) rest_of (longer t d least x (Some ix.Question)) (choices t d) j =
      join_rise (λ m. join_spend (λ n. join_skip (join_call (λ y us p. join_expect k.Colon (join_call (λ w vs q. join_last)))))) in
      h.is
  longer_extended x j (ix.Operator o) = (right_joined x (suc (op_level o)) (binary o x) j).is
  longer_extended x j ix.Index =
      let h : Joins (index x) rest_of (longer t d least x (Some ix.Index)) (subscript t d) j =
      join_rise (λ m. join_spend (λ n. join_skip (join_call (λ y us p. join_expect k.CloseBracket join_last)))) in
      h.is
  longer_extended x j ix.Call =
      let h : Joins (call x) rest_of (longer t d least x (Some ix.Call)) (arguments t d) j = join_rise (λ m. join_spend (λ n. join_skip (join_call (λ y us p. join_last)))) in
      h.is
  longer_extended x j ix.Dot =
      let h : Joins (dot x) rest_of (longer t d least x (Some ix.Dot)) (member_name t d) j = join_rise (λ m. join_spend (λ n. join_skip (join_name t.types (λ n. join_last)))) in
      h.is
  longer_extended x j ix.Arrow =
      let h : Joins (arrow x) rest_of (longer t d least x (Some ix.Arrow)) (member_name t d) j = join_rise (λ m. join_spend (λ n. join_skip (join_name t.types (λ n. join_last)))) in
      h.is
  longer_extended x j (ix.Step o) =
      let h : Joins (λ u. after o x) rest_of (longer t d least x (Some (ix.Step o))) (stepped d) j = join_rise (λ m. join_spend (λ n. join_skip join_last)) in
      h.is

-- ---- one turn of a loop over operators

abbrev goes_by : NameEnvironment → ℕ → ℕ → Expression → Input → Option Infix
goes_by t d least x i = goes_on_with least (infix_of (kind t.types i.rest)) (level x)

chosen : (t : NameEnvironment) (d least : ℕ) (x : Expression) (i : Input) (f : Option Infix) (b : Bool) → perform (cond b (longer t d least x f) (done x)) i ≡ perform (longer t d least x (cond b f None)) i
chosen t d least x i f true = refl
chosen t d least x i f false = refl

rest_by : (t : NameEnvironment) (d least : ℕ) (x : Expression) (i : Input) (f : Option Infix) → goes_by t d least x i ≡ f → read (a_rest t d least x) i ≡ perform (longer t d least x f) i
rest_by t d least x i f is =
    rest_performs t d least x i ∙ chosen t d least x i (infix_of (kind t.types i.rest)) (goes_on least (infix_of (kind t.types i.rest)) (level x)) ∙ ap (λ y. perform (longer t d least x y) i) is

rest_then : (t : NameEnvironment) (d least : ℕ) (x : Expression) (i : Input) (s : Infix) → goes_by t d least x i ≡ Some s →
    read (a_rest t d least x) i ≡ and_then (extended t d x s i) (rest_of t d least)
rest_then t d least x i s is = rest_by t d least x i (Some s) is ∙ longer_extended t d least x i s

-- what stands behind an expression makes it longer
pub rest_extends : (t : NameEnvironment) (d least : ℕ) (x y : Expression) (i j : Input) (s : Infix) → goes_on_with least (infix_of (kind t.types i.rest)) (level x) ≡ Some s →
    extended t d x s i ≡ got y j.rest j.meter → read (a_rest t d least x) i ≡ read (a_rest t d least y) j
rest_extends t d least x y i j s is e = rest_then t d least x i s is ∙ ap (λ o. and_then o (rest_of t d least)) e

-- what stands behind it fails
pub rest_fails : (t : NameEnvironment) (d least : ℕ) (x : Expression) (i : Input) (s : Infix) (e : Refusal) → goes_on_with least (infix_of (kind t.types i.rest)) (level x) ≡ Some s →
    Fails (extended t d x s i) e → Fails (read (a_rest t d least x) i) e
rest_fails t d least x i s e is h =
    subst (λ o. Fails o e) (sym (rest_then t d least x i s is)) (then_fails (rest_of t d least) h)

-- it goes on with nothing
pub rest_ends : (t : NameEnvironment) (d least : ℕ) (x : Expression) (i : Input) → goes_on_with least (infix_of (kind t.types i.rest)) (level x) ≡ None → read (a_rest t d least x) i ≡ got x i.rest i.meter
rest_ends t d least x i is = rest_by t d least x i None is

-- ---- an operator takes a token

extended_leaves : (n : ℕ) (t : NameEnvironment) (d : ℕ) (x : Expression) (f : Infix) (i : Input) → length (tail_of i.rest) ≤ n → Leaves n (extended t d x f i)
extended_leaves n t d x ix.Comma i k = made {b = right_operand t d 2} {i = i} (comma x) (taken k)
extended_leaves n t d x (ix.Assign o) i k = made {b = right_operand t d 2} {i = i} (assign o x) (taken k)
extended_leaves n t d x ix.Question i k = made {b = choices t d} {i = i} (λ p. choose x p.0 p.1) (taken k)
extended_leaves n t d x (ix.Operator o) i k = made {b = right_operand t d (suc (op_level o))} {i = i} (binary o x) (taken k)
extended_leaves n t d x ix.Index i k = made {b = subscript t d} {i = i} (index x) (taken k)
extended_leaves n t d x ix.Call i k = made {b = arguments t d} {i = i} (call x) (taken k)
extended_leaves n t d x ix.Dot i k = made {b = member_name t d} {i = i} (dot x) (taken k)
extended_leaves n t d x ix.Arrow i k = made {b = member_name t d} {i = i} (arrow x) (taken k)
extended_leaves n t d x (ix.Step o) i k = made {b = stepped d} {i = i} (λ u. after o x) (taken k)

no_sign : (b : Bool) (s : Infix) → cond b None None ≡ Some s → ⊥
no_sign true s e = absurd cc
no_sign false s e = absurd cc

shorter_tail : (t : NameEnvironment) (least l : ℕ) (ts : Tokens) (s : Infix) → goes_on_with least (infix_of (kind t.types ts)) l ≡ Some s → length (tail_of ts) < length ts
shorter_tail t least l [] s is =
    absurd (no_sign (goes_on least None l) s (sym (ap (λ x. goes_on_with least (infix_of x) l) (kind_end t.types)) ∙ is))
shorter_tail t least l (y ∷ ts) s is = omega arith

-- so fewer tokens are left
pub extended_shorter : (t : NameEnvironment) (d least l : ℕ) (x y : Expression) (i j : Input) (s : Infix) → goes_on_with least (infix_of (kind t.types i.rest)) l ≡ Some s →
    extended t d x s i ≡ got y j.rest j.meter → length j.rest < length i.rest
extended_shorter t d least l x y i j s is e =
    let h : length j.rest ≤ length (tail_of i.rest) = subst (λ o. Leaves (length (tail_of i.rest)) o) e (extended_leaves (length (tail_of i.rest)) t d x s i (omega arith)) in
    omega (arith, shorter_tail t least l i.rest s is)
