-- Arguments, sizes and enumerators are read.
use Rattle.std.proofs.Common.{◌≡◌, ◌≢◌, ◌⊎◌, inl, inr, ℕ, ◌+◌, ◌≤◌, Bool, true, false, List, [], ◌∷◌, codes, refl, arith}
use Rattle.c_tree.specs.Tree.{Name, Expression, Expressions, no_expressions, expressions, Sizes, no_sizes, open_size, size, Enumerators, no_enumerators, enumerator, enumerator_with}
use Rattle.c_tree.specs.Marks.{Tokens, mark, name_token}
use Rattle.c_tree.specs.TypeWords.{IsOrdinary}
use Rattle.c_tree.specs.ExpressionShape.{level, AtMostOne, ShapeExpression}
use Rattle.c_grammar.specs.declared.kind.Kind.{Kind}
use Rattle.c_grammar.specs.declared.kind.Kind.TheVariants as k
use Rattle.c_grammar.specs.Kind.{kind}
use Rattle.c_grammar.specs.Body.{got, done}
use Rattle.c_grammar.specs.Rules.{NameEnvironment, barred, arguments_by, sizes_by, size_by, at_most_one_by, one_size_by, enumerator_by, an_expression, all_arguments, more_arguments, all_sizes, at_most_one_size, all_enumerators, more_enumerators}
use Rattle.c_grammar.proofs.Onto.{onto_expression, onto_more, onto_sizes, onto_enumerators, onto_more_enumerators, onto_trailing}
use Rattle.c_grammar.proofs.Parse.{parse}
use Rattle.c_grammar.proofs.KindLemmas.{kind_at, kind_name}
use Rattle.c_grammar.proofs.Weight.{weight, weight_at}
use Rattle.c_grammar.proofs.MoreKinds.{weight_kind}
use Rattle.c_grammar.proofs.Heads.{expression_head, operand_not}
use Rattle.c_grammar.proofs.Runs.{ran, run_done, run_look, run_seen, run_at, run_take, run_spend, run_call, run_expect, run_name}
use Rattle.c_grammar.proofs.ReadBack.Tree.{ReadsExpression, ReadsArguments, ReadsSizes, ReadsEnumerators}
use Rattle.c_grammar.proofs.ReadBack.Operands.{expression_read}
use Rattle.c_grammar.proofs.ReadBack.Words.{other_kind}

-- ---- what an expression in a list begins with: the rule goes on as with any other token but the last

some_argument : (t : NameEnvironment) (d : ℕ) (e : Kind) → e ≢ k.CloseParen → arguments_by t d e ≡ arguments_by t d k.Nothing
some_argument t d k.CloseParen h = absurd (h refl)
some_argument t d _ h = refl

some_size : (t : NameEnvironment) (d : ℕ) (e : Kind) → e ≢ k.CloseBracket → size_by t d e ≡ size_by t d k.Nothing
some_size t d k.CloseBracket h = absurd (h refl)
some_size t d _ h = refl

some_one_size : (t : NameEnvironment) (d : ℕ) (e : Kind) → e ≢ k.CloseBracket → one_size_by t d e ≡ one_size_by t d k.Nothing
some_one_size t d k.CloseBracket h = absurd (h refl)
some_one_size t d _ h = refl

sizes_end : (t : NameEnvironment) (d : ℕ) (e : Kind) → e ≢ k.OpenBracket → sizes_by t d e ≡ done no_sizes
sizes_end t d k.OpenBracket h = absurd (h refl)
sizes_end t d _ h = refl

one_ends : (t : NameEnvironment) (d : ℕ) (e : Kind) → e ≢ k.OpenBracket → at_most_one_by t d e ≡ done no_sizes
one_ends t d k.OpenBracket h = absurd (h refl)
one_ends t d _ h = refl

no_value : (t : NameEnvironment) (d : ℕ) (n : Name) (e : Kind) → e ≢ k.Assign → enumerator_by t d n e ≡ enumerator_by t d n k.Nothing
no_value t d n k.Assign h = absurd (h refl)
no_value t d n _ h = refl

-- ---- arguments

more_weighs : (xs : Expressions) (r : Tokens) → weight (onto_more xs (mark (codes ")") ∷ r)) ≤ 1
more_weighs no_expressions r = omega (arith, weight_at k.CloseParen [] r tt)
more_weighs (expressions x xs) r = omega (arith, weight_at k.Comma [] (onto_expression x (onto_more xs (mark (codes ")") ∷ r))) tt)

module _ (t : NameEnvironment) where
  -- no arguments are read
  pub no_expressions_reads : ReadsArguments t no_expressions
  no_expressions_reads = record {
    all = λ d r. ran (all_arguments t d) _ (got no_expressions r tt) (run_at k.CloseParen tt (run_take (run_done refl)));
    more = λ d r. ran (more_arguments t d) _ (got no_expressions r tt) (run_at k.CloseParen tt (run_take (run_done refl)));
  }

  -- arguments are read
  pub expressions_reads : (x : Expression) (xs : Expressions) → 2 ≤ level x → ShapeExpression t.types x → ReadsExpression t x → ReadsArguments t xs → ReadsArguments t (expressions x xs)
  expressions_reads x xs xl s hx hxs = record {
    all = λ d r.
        let us = onto_more xs (mark (codes ")") ∷ r) in
        let ends : weight us ≤ 1 = more_weighs xs r in
        ran (all_arguments t d) _ (got (expressions x xs) r tt)
        (run_seen (some_argument t d _ (operand_not _ k.CloseParen (expression_head t x us s) refl))
        (run_call refl (expression_read t d 2 1 x us hx (omega arith) (omega arith) xl (omega arith)) (run_call refl (hxs.more d r) (run_done refl))));
    more = λ d r.
        let us = onto_more xs (mark (codes ")") ∷ r) in
        let ends : weight us ≤ 1 = more_weighs xs r in
        ran (more_arguments t d) _ (got (expressions x xs) r tt)
        (run_at k.Comma tt (run_spend (run_take
        (run_call refl (expression_read t d 2 0 x us hx (omega arith) (omega arith) xl (omega arith)) (run_call refl (hxs.more d r) (run_done refl))))));
  }

  -- ---- sizes

  no_size_one : (d : ℕ) (r : Tokens) → kind [] r ≢ k.OpenBracket → parse (at_most_one_size t d) r ≡ got no_sizes r tt
  no_size_one d r ends = ran (at_most_one_size t d) r (got no_sizes r tt) (run_seen (one_ends t d (kind [] r) ends) (run_done refl))

  -- no sizes are read
  pub no_sizes_reads : ReadsSizes t no_sizes
  no_sizes_reads = record {
    all = λ d r ends. ran (all_sizes t d) r (got no_sizes r tt) (run_seen (sizes_end t d (kind [] r) ends) (run_done refl));
    one = λ d r few ends. no_size_one d r ends;
  }

  open_one : (xs : Sizes) (d : ℕ) (r : Tokens) → AtMostOne (open_size xs) → parse (at_most_one_size t d) (onto_sizes (open_size xs) r) ≡ got (open_size xs) r tt
  open_one no_sizes d r few = ran (at_most_one_size t d) _ (got (open_size no_sizes) r tt) (run_at k.OpenBracket tt (run_take (run_at k.CloseBracket tt (run_take (run_done refl)))))
  open_one (open_size xs) d r few = absurd few
  open_one (size x xs) d r few = absurd few

  -- an open size is read
  pub open_size_reads : (xs : Sizes) → ReadsSizes t xs → ReadsSizes t (open_size xs)
  open_size_reads xs h = record {
    all = λ d r ends. ran (all_sizes t d) _ (got (open_size xs) r tt)
        (run_at k.OpenBracket tt (run_take (run_at k.CloseBracket tt (run_take (run_call refl (h.all d r ends) (run_done refl))))));
    one = λ d r few ends. open_one xs d r few;
  }

  size_read : (x : Expression) (d : ℕ) (us : Tokens) → 3 ≤ level x → ReadsExpression t x → parse (an_expression t d 3 1) (onto_expression x (mark (codes "]") ∷ us)) ≡ got x (mark (codes "]") ∷ us) tt
  size_read x d us xl hx =
      let w : weight (mark (codes "]") ∷ us) ≡ 0 = weight_at k.CloseBracket [] us tt in
      expression_read t d 3 1 x (mark (codes "]") ∷ us) hx (omega arith) (omega arith) xl (omega arith)

  size_one : (x : Expression) (xs : Sizes) (d : ℕ) (r : Tokens) → 3 ≤ level x → ShapeExpression t.types x → ReadsExpression t x → AtMostOne (size x xs) → parse (at_most_one_size t d) (onto_sizes (size x xs) r) ≡ got (size x xs) r tt
  size_one x no_sizes d r xl s hx few =
      ran (at_most_one_size t d) _ (got (size x no_sizes) r tt)
      (run_at k.OpenBracket tt (run_take (run_seen (some_one_size t d _ (operand_not _ k.CloseBracket (expression_head t x _ s) refl))
      (run_call refl (size_read x d r xl hx) (run_expect k.CloseBracket tt (run_done refl))))))
  size_one x (open_size xs) d r xl s hx few = absurd few
  size_one x (size y xs) d r xl s hx few = absurd few

  -- a size is read
  pub size_reads : (x : Expression) (xs : Sizes) → 3 ≤ level x → ShapeExpression t.types x → ReadsExpression t x → ReadsSizes t xs → ReadsSizes t (size x xs)
  size_reads x xs xl s hx hxs = record {
    all = λ d r ends. ran (all_sizes t d) _ (got (size x xs) r tt)
        (run_at k.OpenBracket tt (run_take (run_seen (some_size t d _ (operand_not _ k.CloseBracket (expression_head t x _ s) refl))
        (run_call refl (size_read x d (onto_sizes xs r) xl hx) (run_expect k.CloseBracket tt (run_call refl (hxs.all d r ends) (run_done refl)))))));
    one = λ d r few ends. size_one x xs d r xl s hx few;
  }

-- ---- enumerators

-- behind an enumerator stands a comma or the closing brace
enumerators_next : (types : List Name) (es : Enumerators) (c : Bool) (r : Tokens) → let ts = onto_more_enumerators es (onto_trailing c (mark (codes "}") ∷ r)) in (kind types ts ≡ k.Comma) ⊎ (kind types ts ≡ k.CloseBrace)
enumerators_next types no_enumerators true r = inl (kind_at types k.Comma [] _ tt)
enumerators_next types no_enumerators false r = inr (kind_at types k.CloseBrace [] _ tt)
enumerators_next types (enumerator n es) c r = inl (kind_at types k.Comma [] _ tt)
enumerators_next types (enumerator_with n x es) c r = inl (kind_at types k.Comma [] _ tt)

enumerators_weigh : (es : Enumerators) (c : Bool) (r : Tokens) → weight (onto_more_enumerators es (onto_trailing c (mark (codes "}") ∷ r))) ≤ 1
enumerators_weigh es c r =
    let ts = onto_more_enumerators es (onto_trailing c (mark (codes "}") ∷ r)) in
    elim (enumerators_next [] es c r) [ inl e ↦ omega (arith, weight_kind ts k.Comma e) | inr e ↦ omega (arith, weight_kind ts k.CloseBrace e) ]

enumerators_no_value : (es : Enumerators) (c : Bool) (r : Tokens) → kind [] (onto_more_enumerators es (onto_trailing c (mark (codes "}") ∷ r))) ≢ k.Assign
enumerators_no_value es c r =
    elim (enumerators_next [] es c r) [ inl e ↦ other_kind [] _ k.Comma k.Assign e (λ q. cc) | inr e ↦ other_kind [] _ k.CloseBrace k.Assign e (λ q. cc) ]

module _ (t : NameEnvironment) where
  -- the end of enumerators is read
  pub no_enumerators_reads : ReadsEnumerators t no_enumerators
  no_enumerators_reads = record { all = λ d c r some. absurd some; more = λ d c r. none d c r }
    where
      none : (d : ℕ) (c : Bool) (r : Tokens) → parse (more_enumerators t d) (onto_trailing c (mark (codes "}") ∷ r)) ≡ got (no_enumerators, c) r tt
      none d true r = ran (more_enumerators t d) _ (got (no_enumerators, true) r tt) (run_at k.Comma tt (run_take (run_at k.CloseBrace tt (run_take (run_done refl)))))
      none d false r = ran (more_enumerators t d) _ (got (no_enumerators, false) r tt) (run_at k.CloseBrace tt (run_take (run_done refl)))

  -- behind a comma
  further : (d : ℕ) (n : Name) (us : Tokens) (es : Enumerators × Bool) (r : Tokens) → IsOrdinary (barred t) n → parse (all_enumerators t d) (name_token n ∷ us) ≡ got es r tt →
      parse (more_enumerators t d) (mark (codes ",") ∷ name_token n ∷ us) ≡ got es r tt
  further d n us es r new h =
      ran (more_enumerators t d) _ (got es r tt) (run_at k.Comma tt (run_take (run_look k.Name (kind_name (barred t) n us new) (run_spend (run_call refl h (run_done refl))))))

  -- an enumerator is read
  pub enumerator_reads : (n : Name) (es : Enumerators) → IsOrdinary (barred t) n → ReadsEnumerators t es → ReadsEnumerators t (enumerator n es)
  enumerator_reads n es new h =
      let all : (d : ℕ) (c : Bool) (r : Tokens) → parse (all_enumerators t d) (onto_enumerators (enumerator n es) (onto_trailing c (mark (codes "}") ∷ r))) ≡ got (enumerator n es, c) r tt =
      λ d c r. ran (all_enumerators t d) _ (got (enumerator n es, c) r tt)
      (run_name new (run_seen (no_value t d n _ (enumerators_no_value es c r)) (run_call refl (h.more d c r) (run_done refl)))) in
      record { all = λ d c r some. all d c r; more = λ d c r. further d n _ _ r new (all d c r) }

  -- an enumerator with its value is read
  pub enumerator_with_reads : (n : Name) (x : Expression) (es : Enumerators) → IsOrdinary (barred t) n → 3 ≤ level x → ReadsExpression t x → ReadsEnumerators t es → ReadsEnumerators t (enumerator_with n x es)
  enumerator_with_reads n x es new xl hx h =
      let all : (d : ℕ) (c : Bool) (r : Tokens) → parse (all_enumerators t d) (onto_enumerators (enumerator_with n x es) (onto_trailing c (mark (codes "}") ∷ r))) ≡ got (enumerator_with n x es, c) r tt =
      λ d c r.
      let ends : weight (onto_more_enumerators es (onto_trailing c (mark (codes "}") ∷ r))) ≤ 1 = enumerators_weigh es c r in
      ran (all_enumerators t d) _ (got (enumerator_with n x es, c) r tt)
      (run_name new (run_at k.Assign tt (run_spend (run_take
      (run_call refl (expression_read t (d + 1) 3 0 x _ hx (omega arith) (omega arith) xl (omega arith)) (run_call refl (h.more d c r) (run_done refl))))))) in
      record { all = λ d c r some. all d c r; more = λ d c r. further d n _ _ r new (all d c r) }
