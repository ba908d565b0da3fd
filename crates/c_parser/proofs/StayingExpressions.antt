-- What the rules of expressions keep.
use Rattle.std.proofs.Common.{ℕ, ◌+◌, ◌≤◌, ◌&&◌, nat_le, arith, Option, Some, None}
use Rattle.c_tree.specs.Tree.{Expression}
use Rattle.c_tree.specs.Marks.{Tokens}
use Rattle.c_tree.specs.ExpressionShape.{level}
use Rattle.c_grammar.specs.declared.kind.Kind.{Kind}
use Rattle.c_grammar.specs.declared.kind.Kind.TheVariants as k
use Rattle.c_grammar.specs.Body.{spend, rise}
use Rattle.c_grammar.specs.Gauge.{Meter}
use Rattle.c_grammar.specs.Rules.{NameEnvironment, Reads, skip, first_of_operand, begins_type, opened_by, sized_by, sizeof_by, prefix_by, texts_by, arguments_by, more_arguments_by, an_expression, a_whole, a_prefix, a_rest, an_opened, more_texts, all_arguments, more_arguments, longer, goes_on, infix_of}
use Rattle.c_grammar.specs.declared.infix.First.{First}
use Rattle.c_grammar.specs.declared.infix.Infix.{Infix}
use Rattle.c_grammar.specs.declared.infix.First.TheVariants as fi
use Rattle.c_grammar.specs.declared.infix.Infix.TheVariants as ix
use Rattle.c_grammar.proofs.Conditions.{go_done, go_stop, go_look, go_call, go_scope, go_if}
use Rattle.c_grammar.proofs.Limits.{Fits}
use Rattle.c_parser.proofs.Staying.{Stays, Safe, Kept, fits-left, pays, lifts, skips, wants, a_name_taken}

pub expression-kept : (t : NameEnvironment) (d l o : ℕ) → Kept (an_expression t d l o)
expression-kept t d l o ts m = go_scope (λ x us n p. go_done (p.0, λ h. fits-left m n h p.1))

pub whole-kept : (t : NameEnvironment) (d l o : ℕ) → Kept (a_whole t d l o)
whole-kept t d l o ts m = go_call (λ x us n p. go_call (λ y vs z h. go_done (p.0, h p.1)))

-- behind an operator, whose tokens count
grows : {A : Type 0} {b : Reads A} {Q : A → Tokens → Meter → Type 0} {n d : ℕ} (ts : Tokens) (m : Meter) → ((us : Tokens) (y : Meter) → Fits y → Safe b Q us y) → Safe (rise (spend n d (skip b))) Q ts m
grows ts m h = lifts (λ y f. pays (λ z deep g. skips (λ _ us. h us z g)))

longer-by : (t : NameEnvironment) (d l : ℕ) (x : Expression) (i : Option Infix) (ts : Tokens) (m : Meter) → Safe (longer t d l x i) (Stays (a_rest t d l x) ts m) ts m
longer-by t d l x None ts m = go_done (λ f. f)
longer-by t d l x (Some ix.Comma) ts m = grows ts m (λ us y g. go_call (λ z vs n p. go_call (λ w ws q h. go_done (λ f. h (p.1 g.peak)))))
longer-by t d l x (Some (ix.Assign o)) ts m = grows ts m (λ us y g. go_call (λ z vs n p. go_call (λ w ws q h. go_done (λ f. h (p.1 g.peak)))))
longer-by t d l x (Some ix.Question) ts m =
    grows ts m (λ us y g. go_call (λ z vs n p. wants k.Colon (λ ws. go_call (λ w xs q h. go_call (λ v ys r i. go_done (λ f. let b = p.1 g.peak in i (h.1 b.peak)))))))
longer-by t d l x (Some (ix.Operator o)) ts m = grows ts m (λ us y g. go_call (λ z vs n p. go_call (λ w ws q h. go_done (λ f. h (p.1 g.peak)))))
longer-by t d l x (Some ix.Index) ts m = grows ts m (λ us y g. go_call (λ z vs n p. wants k.CloseBracket (λ xs. go_call (λ w ws q h. go_done (λ f. h (p.1 g.peak))))))
longer-by t d l x (Some ix.Call) ts m = grows ts m (λ us y g. go_call (λ z vs n p. go_call (λ w ws q h. go_done (λ f. h (p g)))))
longer-by t d l x (Some ix.Dot) ts m = grows ts m (λ us y g. a_name_taken (λ n vs. go_call (λ w ws q h. go_done (λ f. h g))))
longer-by t d l x (Some ix.Arrow) ts m = grows ts m (λ us y g. a_name_taken (λ n vs. go_call (λ w ws q h. go_done (λ f. h g))))
longer-by t d l x (Some (ix.Step o)) ts m = grows ts m (λ us y g. go_call (λ w ws q h. go_done (λ f. h g)))

pub rest-kept : (t : NameEnvironment) (d l : ℕ) (x : Expression) → Kept (a_rest t d l x)
rest-kept t d l x ts m = go_look (λ e is. go_if {b = goes_on l (infix_of e) (level x)} (λ yes. longer-by t d l x (infix_of e) ts m) (λ no. go_done (λ f. f)))

-- behind the first token of an operand
opened-by : (t : NameEnvironment) (d l o : ℕ) (e : Kind) (ts us : Tokens) (m n : Meter) → d + 1 ≤ 1000 → Fits n → Safe (opened_by t d l e) (Stays (a_prefix t d l o) ts m) us n
opened-by t d l o e ts us m n deep g = go_if {b = begins_type e && nat_le l 14}
    (λ yes. go_call (λ y vs p q. wants k.CloseParen (λ ws. go_call (λ x xs r h. go_done (deep, let b = q deep g in h.1 b.peak)))))
    (λ no. go_call (λ x vs p q. wants k.CloseParen (λ ws. go_done (deep, q.1 g.peak))))

sized-by : (t : NameEnvironment) (d l o : ℕ) (e : Kind) (ts us : Tokens) (m n : Meter) → d + 1 ≤ 1000 → Fits n → Safe (sized_by t d e) (Stays (a_prefix t d l o) ts m) us n
sized-by t d l o e ts us m n deep g = go_if {b = begins_type e}
    (λ yes. go_call (λ y vs p q. wants k.CloseParen (λ ws. go_done (deep, q deep g))))
    (λ no. go_scope (λ x vs p q. go_done (deep, fits-left n p g.peak (q (omega arith)))))

sizeof-by : (t : NameEnvironment) (d l o : ℕ) (e : Kind) (ts us : Tokens) (m n : Meter) → d + 1 ≤ 1000 → Fits n → Safe (sizeof_by t d e) (Stays (a_prefix t d l o) ts m) us n
sizeof-by t d l o k.OpenParen ts us m n deep g = skips (λ _ vs. go_look (λ e is. sized-by t d l o e ts vs m n deep g))
sizeof-by t d l o _ ts us m n deep g = go_call (λ x vs p q. go_done (deep, q.1 g.peak))

prefix-by : (t : NameEnvironment) (d l o : ℕ) (i : Option First) (ts : Tokens) (m : Meter) → Safe (prefix_by t d l o i) (Stays (a_prefix t d l o) ts m) ts m
prefix-by t d l o None ts m = go_stop
prefix-by t d l o (Some fi.Word) ts m = pays (λ y deep g. skips (λ _ us. go_done (deep, g)))
prefix-by t d l o (Some fi.Number) ts m = pays (λ y deep g. skips (λ _ us. go_done (deep, g)))
prefix-by t d l o (Some fi.Character) ts m = pays (λ y deep g. skips (λ _ us. go_done (deep, g)))
prefix-by t d l o (Some fi.Text) ts m = pays (λ y deep g. skips (λ _ us. go_call (λ ns vs z p. go_done (deep, p g))))
prefix-by t d l o (Some fi.Open) ts m = pays (λ y deep g. skips (λ _ us. go_look (λ e is. opened-by t d l o e ts us m y (omega arith) g)))
prefix-by t d l o (Some fi.Sizeof) ts m = pays (λ y deep g. skips (λ _ us. go_look (λ e is. sizeof-by t d l o e ts us m y deep g)))
prefix-by t d l o (Some (fi.Step i)) ts m = pays (λ y deep g. skips (λ _ us. go_call (λ x vs z p. go_done (omega arith, p.1 g.peak))))
prefix-by t d l o (Some (fi.Unary i)) ts m = pays (λ y deep g. skips (λ _ us. go_call (λ x vs z p. go_done (omega arith, p.1 g.peak))))

pub prefix-kept : (t : NameEnvironment) (d l o : ℕ) → Kept (a_prefix t d l o)
prefix-kept t d l o ts m = go_look (λ e is. prefix-by t d l o (first_of_operand e) ts m)

-- The operand of sizeof begins with an expression in brackets, which lies deeper.
pub opened-kept : (t : NameEnvironment) (d : ℕ) → Kept (an_opened t d)
opened-kept t d ts m = go_call (λ x us n p. wants k.CloseParen (λ vs. go_call (λ y ws q h. go_done (λ f. let deep = p.0 in h (p.1 (omega arith))))))

texts-by : (e : Kind) (ts : Tokens) (m : Meter) → Safe (texts_by e) (Stays more_texts ts m) ts m
texts-by k.Text ts m = skips (λ _ us. go_call (λ ns vs n p. go_done p))
texts-by _ ts m = go_done (λ f. f)

pub texts-kept : Kept more_texts
texts-kept ts m = go_look (λ e is. texts-by e ts m)

arguments-by : (t : NameEnvironment) (d : ℕ) (e : Kind) (ts : Tokens) (m : Meter) → Safe (arguments_by t d e) (Stays (all_arguments t d) ts m) ts m
arguments-by t d k.CloseParen ts m = skips (λ _ us. go_done (λ f. f))
arguments-by t d _ ts m = go_call (λ x us n p. go_call (λ xs vs q h. go_done (λ f. h (p.1 f.peak))))

pub arguments-kept : (t : NameEnvironment) (d : ℕ) → Kept (all_arguments t d)
arguments-kept t d ts m = go_look (λ e is. arguments-by t d e ts m)

more-arguments-by : (t : NameEnvironment) (d : ℕ) (e : Kind) (ts : Tokens) (m : Meter) → Safe (more_arguments_by t d e) (Stays (more_arguments t d) ts m) ts m
more-arguments-by t d k.CloseParen ts m = skips (λ _ us. go_done (λ f. f))
more-arguments-by t d k.Comma ts m = pays (λ y deep g. skips (λ _ us. go_call (λ x vs n p. go_call (λ xs ws q h. go_done (λ f. h (p.1 g.peak))))))
more-arguments-by t d _ ts m = go_stop

pub more-arguments-kept : (t : NameEnvironment) (d : ℕ) → Kept (more_arguments t d)
more-arguments-kept t d ts m = go_look (λ e is. more-arguments-by t d e ts m)
