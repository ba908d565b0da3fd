-- Expressions that begin with their own token are read.
use Rattle.std.proofs.Common.{◌≡◌, ◌≢◌, ℕ, ◌+◌, ◌<◌, ◌≤◌, Bool, true, false, ◌&&◌, nat_le, cond, List, [], ◌∷◌, length, codes, refl, sym, ap, subst, ◌∙◌, arith, Option, Some, None}
use Rattle.std.proofs.lemmas.Bool.{cond-true, cond-false, and_from, and_left}
use Rattle.std.proofs.lemmas.Bool.Decides.{nat_tests}
use Rattle.c_tree.specs.declared.tree.UnaryOp.{UnaryOp}
use Rattle.c_tree.specs.declared.tree.StepOp.{StepOp}
use Rattle.c_tree.specs.Tree.{Name, Expression, cast, unary, before, size_of, size_of_type, name, integer, character, text, paren, TypeTree}
use Rattle.c_tree.specs.Marks.{Tokens, mark}
use Rattle.c_tree.specs.TypeWords.{IsOrdinary}
use Rattle.c_tree.specs.ExpressionShape.{level, ShapeExpression}
use Rattle.c_grammar.specs.declared.kind.Kind.{Kind}
use Rattle.c_grammar.specs.declared.kind.Kind.TheVariants as k
use Rattle.c_grammar.specs.Kind.{kind, same_kind, unary_kind, step_kind}
use Rattle.c_grammar.specs.Body.{Outcome, got, refused, exceeded, done, stop, take, and_then, exec}
use Rattle.c_grammar.specs.Body as body
use Rattle.c_grammar.specs.Gauge.{free}
use Rattle.c_grammar.specs.Rules.{NameEnvironment, Rule, Result, Reads, rank, expect, prefix_by, first_of_operand, texts_by, sizeof_by, begins_type, an_expression, a_whole, a_prefix, a_rest, an_opened, more_texts}
use Rattle.c_grammar.specs.declared.infix.First.{First}
use Rattle.c_grammar.specs.declared.infix.First.TheVariants as fi
use Rattle.c_grammar.proofs.Onto.{onto_expression, onto_texts, onto_type}
use Rattle.c_grammar.proofs.Parse.{parse, opening}
use Rattle.c_grammar.proofs.KindLemmas.{kind_at, kind_name, head_is}
use Rattle.c_grammar.proofs.Weight.{weight, weight_at}
use Rattle.c_grammar.proofs.MoreKinds.{kind_unary, kind_step, first_unary, first_step, weight_kind, weight_gap}
use Rattle.c_grammar.proofs.Heads.{expression_head, operand_no_type, open_no_type}
use Rattle.c_grammar.proofs.Runs.{Runs, ran, run_done, run_look, run_seen, run_at, run_take, run_spend, run_call, run_scope, run_expect}
use Rattle.c_grammar.proofs.ReadBack.Tree.{ReadsExpression, ReadsType}
use Rattle.c_grammar.proofs.ReadBack.Operands.{prefix_reads, whole_read, expression_read}

-- ---- texts

texts_end : (e : Kind) → e ≢ k.Text → texts_by e ≡ done []
texts_end k.Text h = absurd (h refl)
texts_end _ h = refl

-- string literals before what is none
pub texts_read : (ns : List Name) (r : Tokens) → kind [] r ≢ k.Text → parse more_texts (onto_texts ns r) ≡ got ns r tt
texts_read [] r h = ran more_texts r (got [] r tt) (run_seen (texts_end (kind [] r) h) (run_done refl))
texts_read (n ∷ ns) r h = ran more_texts _ (got (n ∷ ns) r tt) (run_look k.Text (kind_at [] k.Text n _ tt) (run_take (run_call refl (texts_read ns r h) (run_done refl))))

no_text : (r : Tokens) → weight r ≤ 17 → kind [] r ≢ k.Text
no_text r few = λ e. absurd (omega (arith, weight_kind r k.Text e))

-- ---- what the first token owes makes no difference, where nothing is counted

abbrev exec_free : {A : Type 0} → Bool → ℕ → Reads A → Tokens → Outcome (Unit {0}) A
exec_free taken limit b ts = exec Rule Result rank (Unit {0}) free (λ q us y. parse q us) taken limit b ts tt

prefix_owed : (t : NameEnvironment) (d l o p : ℕ) (ts : Tokens) (i : Option First) → exec_free false 1 (prefix_by t d l o i) ts ≡ exec_free false 1 (prefix_by t d l p i) ts
prefix_owed t d l o p ts None = refl
prefix_owed t d l o p ts (Some fi.Word) = refl
prefix_owed t d l o p ts (Some fi.Number) = refl
prefix_owed t d l o p ts (Some fi.Character) = refl
prefix_owed t d l o p ts (Some fi.Text) = refl
prefix_owed t d l o p ts (Some fi.Open) = refl
prefix_owed t d l o p ts (Some fi.Sizeof) = refl
prefix_owed t d l o p ts (Some (fi.Step s)) = refl
prefix_owed t d l o p ts (Some (fi.Unary u)) = refl

whole_owed : (t : NameEnvironment) (d l o p : ℕ) (ts : Tokens) → parse (a_whole t d l o) ts ≡ parse (a_whole t d l p) ts
whole_owed t d l o p ts =
    let e : parse (a_prefix t d l o) ts ≡ parse (a_prefix t d l p) ts =
    opening (a_prefix t d l o) ts ∙ prefix_owed t d l o p ts (first_of_operand (kind t.types ts)) ∙ sym (opening (a_prefix t d l p) ts) in
    opening (a_whole t d l o) ts
    ∙ ap (λ q. and_then q (λ x us y. exec_free false 2 (body.call (a_rest t d l x) (λ v. done v)) us)) e
    ∙ sym (opening (a_whole t d l p) ts)

expression_owed : (t : NameEnvironment) (d l o p : ℕ) (ts : Tokens) → parse (an_expression t d l o) ts ≡ parse (an_expression t d l p) ts
expression_owed t d l o p ts =
    opening (an_expression t d l o) ts
    ∙ ap (λ q. and_then q (λ x us y. got x us tt)) (whole_owed t d l o p ts)
    ∙ sym (opening (an_expression t d l p) ts)

-- ---- a bracket behind sizeof

closed : (t : NameEnvironment) (d : ℕ) (x : Expression) (test : Bool) (vs : Tokens) →
    exec_free false 4 (cond test (take (λ n. body.call (a_rest t d 15 (paren x)) (λ v. done v))) stop) vs
    ≡ and_then (exec_free true 1 (cond test (take (λ n. done (paren x))) stop) vs) (λ y us z. exec_free false 2 (body.call (a_rest t d 15 y) (λ v. done v)) us)
closed t d x false vs = refl
closed t d x true [] = refl
closed t d x true (v ∷ vs) = refl

opened_then : (t : NameEnvironment) (d : ℕ) (q : Outcome (Unit {0}) Expression) →
    and_then q (λ x vs y. exec_free false 4 (expect k.CloseParen (body.call (a_rest t d 15 (paren x)) (λ v. done v))) vs)
    ≡ and_then (and_then q (λ x vs y. exec_free true 1 (expect k.CloseParen (done (paren x))) vs)) (λ y us z. exec_free false 2 (body.call (a_rest t d 15 y) (λ v. done v)) us)
opened_then t d (got x vs y) = closed t d x (same_kind (kind [] vs) k.CloseParen) vs
opened_then t d (refused vs) = refl
opened_then t d (exceeded vs) = refl

-- what is read of a bracket behind sizeof is what is read of a unary expression that begins with the bracket
opened_whole : (t : NameEnvironment) (d o : ℕ) (us : Tokens) → begins_type (kind t.types us) ≡ false → parse (an_opened t d) us ≡ parse (a_whole t d 15 o) (mark (codes "(") ∷ us)
opened_whole t d o us none =
    let q = parse (an_expression t (d + 1) 1 0) us in
    let p : parse (a_prefix t d 15 o) (mark (codes "(") ∷ us) ≡ and_then q (λ x vs y. exec_free true 1 (expect k.CloseParen (done (paren x))) vs) =
    ran (a_prefix t d 15 o) (mark (codes "(") ∷ us) (and_then q (λ x vs y. exec_free true 1 (expect k.CloseParen (done (paren x))) vs))
    (run_at k.OpenParen tt (run_spend (run_take (run_seen (cond-false (begins_type (kind t.types us) && nat_le 15 14) _ _ (and_left (begins_type (kind t.types us)) (nat_le 15 14) none)) (record { runs = refl }))))) in
    opening (an_opened t d) us
    ∙ ap (λ q. and_then q (λ x vs y. exec_free false 4 (expect k.CloseParen (body.call (a_rest t d 15 (paren x)) (λ v. done v))) vs)) (expression_owed t (d + 1) 1 2 0 us)
    ∙ opened_then t d q
    ∙ ap (λ q. and_then q (λ y us z. exec_free false 2 (body.call (a_rest t d 15 y) (λ v. done v)) us)) (sym p)
    ∙ sym (opening (a_whole t d 15 o) (mark (codes "(") ∷ us))

-- ---- the cases

module _ (t : NameEnvironment) where
  -- a name is read
  pub name_reads : (n : Name) → IsOrdinary t.types n → ReadsExpression t (name n)
  name_reads n new = record {
    whole = λ d l o r some few fits ends.
        prefix_reads t d l o _ (name n) r k.Name (Some fi.Word) (kind_name t.types n r new) refl (run_spend (run_take (run_done refl)));
  }

  -- an integer is read
  pub integer_reads : (n : Name) → ReadsExpression t (integer n)
  integer_reads n = record {
    whole = λ d l o r some few fits ends.
        prefix_reads t d l o _ (integer n) r k.Integer (Some fi.Number) (kind_at t.types k.Integer n r tt) refl (run_spend (run_take (run_done refl)));
  }

  -- a character is read
  pub character_reads : (n : Name) → ReadsExpression t (character n)
  character_reads n = record {
    whole = λ d l o r some few fits ends.
        prefix_reads t d l o _ (character n) r k.Character (Some fi.Character) (kind_at t.types k.Character n r tt) refl (run_spend (run_take (run_done refl)));
  }

  -- string literals are read
  pub text_reads : (ns : List Name) → 1 ≤ length ns → ReadsExpression t (text ns)
  text_reads [] long = absurd (omega arith)
  text_reads (n ∷ ns) long = record {
    whole = λ d l o r some few fits ends.
        prefix_reads t d l o _ (text (n ∷ ns)) r k.Text (Some fi.Text) (kind_at t.types k.Text n _ tt) refl
        (run_spend (run_take (run_call refl (texts_read ns r (no_text r ends)) (run_done refl))));
  }

  -- an expression in brackets is read
  pub paren_reads : (x : Expression) → ShapeExpression t.types x → 1 ≤ level x → ReadsExpression t x → ReadsExpression t (paren x)
  paren_reads x s xl hx = record {
    whole = λ d l o r some few fits ends.
        let us = mark (codes ")") ∷ r in
        let w : weight us ≡ 0 = weight_at k.CloseParen [] r tt in
        let none : begins_type (kind t.types (onto_expression x us)) ≡ false = operand_no_type _ (expression_head t x us s) in
        prefix_reads t d l o _ (paren x) r k.OpenParen (Some fi.Open) (kind_at t.types k.OpenParen [] _ tt) refl
        (run_spend (run_take (run_seen (cond-false (begins_type (kind t.types (onto_expression x us)) && nat_le l 14) _ _ (and_left _ (nat_le l 14) none))
        (run_call refl (expression_read t (d + 1) 1 0 x us hx (omega arith) (omega arith) xl (omega arith)) (run_expect k.CloseParen tt (run_done refl))))));
  }

  -- a cast is read
  pub cast_reads : (y : TypeTree) (x : Expression) → 14 ≤ level x → ((us : Tokens) → begins_type (kind t.types (onto_type y us)) ≡ true) → ReadsType t y → ReadsExpression t x → ReadsExpression t (cast y x)
  cast_reads y x xl begins hy hx = record {
    whole = λ d l o r some few fits ends.
        let us = mark (codes ")") ∷ onto_expression x r in
        let low : nat_le l 14 ≡ true = grind (arith, nat_tests) in
        prefix_reads t d l o _ (cast y x) r k.OpenParen (Some fi.Open) (kind_at t.types k.OpenParen [] _ tt) refl
        (run_spend (run_take (run_seen (cond-true (begins_type (kind t.types (onto_type y us)) && nat_le l 14) _ _ (and_from _ (nat_le l 14) (begins us) low))
        (run_call refl (hy.all (d + 1) (onto_expression x r)) (run_expect k.CloseParen tt
        (run_call refl (expression_read t (d + 1) 14 0 x r hx (omega arith) (omega arith) xl (omega (arith, weight_gap r))) (run_done refl)))))));
  }

  -- a unary operation is read
  pub unary_reads : (u : UnaryOp) (x : Expression) → 14 ≤ level x → ReadsExpression t x → ReadsExpression t (unary u x)
  unary_reads u x xl hx = record {
    whole = λ d l o r some few fits ends.
        prefix_reads t d l o _ (unary u x) r (unary_kind u) (Some (fi.Unary u)) (kind_unary t.types u _) (first_unary u)
        (run_spend (run_take (run_call refl (expression_read t (d + 1) 14 0 x r hx (omega arith) (omega arith) xl (omega (arith, weight_gap r))) (run_done refl))));
  }

  -- a step before its operand is read
  pub before_reads : (s : StepOp) (x : Expression) → 15 ≤ level x → ReadsExpression t x → ReadsExpression t (before s x)
  before_reads s x xl hx = record {
    whole = λ d l o r some few fits ends.
        prefix_reads t d l o _ (before s x) r (step_kind s) (Some (fi.Step s)) (kind_step t.types s _) (first_step s)
        (run_spend (run_take (run_call refl (expression_read t (d + 1) 15 0 x r hx (omega arith) (omega arith) xl (omega (arith, weight_gap r))) (run_done refl))));
  }

  -- the size of a type is read
  pub size_of_type_reads : (y : TypeTree) → ((us : Tokens) → begins_type (kind t.types (onto_type y us)) ≡ true) → ReadsType t y → ReadsExpression t (size_of_type y)
  size_of_type_reads y begins hy = record {
    whole = λ d l o r some few fits ends.
        prefix_reads t d l o _ (size_of_type y) r k.Sizeof (Some fi.Sizeof) (kind_at t.types k.Sizeof [] _ tt) refl
        (run_spend (run_take (run_at k.OpenParen tt (run_take (run_seen (cond-true (begins_type (kind t.types (onto_type y (mark (codes ")") ∷ r)))) _ _ (begins _))
        (run_call refl (hy.all (d + 1) r) (run_expect k.CloseParen tt (run_done refl))))))));
  }

  -- behind sizeof: a bracket, or another token
  sized : (d : ℕ) (x : Expression) (r ts : Tokens) → weight r < 15 → 15 ≤ level x → ts ≡ onto_expression x r → parse (a_whole t (d + 1) 15 0) ts ≡ got x r tt →
      ((us : Tokens) → ts ≡ mark (codes "(") ∷ us → begins_type (kind t.types us) ≡ false) →
      parse (an_expression t (d + 1) 15 1) ts ≡ got x r tt → (e : Kind) → kind t.types ts ≡ e → Runs true 1 (sizeof_by t d e) ts (got (size_of x) r tt)
  sized d x r ts ends xl of whole untyped all k.OpenParen is =
      let at = head_is t.types ts k.OpenParen is tt in
      let us = at.1 in
      let begins : ts ≡ mark (codes "(") ∷ us = at.2 in
      let none : begins_type (kind t.types us) ≡ false = untyped us begins in
      let inside : parse (an_opened t (d + 1)) us ≡ got x r tt = opened_whole t (d + 1) 0 us none ∙ ap (parse (a_whole t (d + 1) 15 0)) (sym begins) ∙ whole in
      subst (λ vs. Runs true 1 (sizeof_by t d k.OpenParen) vs (got (size_of x) r tt)) (sym begins)
      (run_take (run_seen (cond-false (begins_type (kind t.types us)) _ _ none) (run_scope refl inside (run_done refl))))
  sized d x r ts ends xl of whole untyped all _ is = run_call refl all (run_done refl)

  -- the size of an expression is read
  pub size_of_reads : (x : Expression) → ShapeExpression t.types x → 15 ≤ level x → ReadsExpression t x → ReadsExpression t (size_of x)
  size_of_reads x s xl hx = record {
    whole = λ d l o r some few fits ends.
        let low : weight r ≤ 13 = weight_gap r ends in
        let ts = onto_expression x r in
        let all : parse (an_expression t (d + 1) 15 1) ts ≡ got x r tt = expression_read t (d + 1) 15 1 x r hx (omega arith) (omega arith) xl (omega arith) in
        let whole : parse (a_whole t (d + 1) 15 0) ts ≡ got x r tt = whole_read t (d + 1) 15 0 x r hx (omega arith) (omega arith) xl (omega arith) in
        prefix_reads t d l o _ (size_of x) r k.Sizeof (Some fi.Sizeof) (kind_at t.types k.Sizeof [] _ tt) refl
        (run_spend (run_take (run_look (kind t.types ts) refl (sized d x r ts (omega arith) xl refl whole (λ us e. open_no_type t x r us s xl e) all (kind t.types ts) refl))));
  }
