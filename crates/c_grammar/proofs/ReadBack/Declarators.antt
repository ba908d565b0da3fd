-- Declarators are read.
use Rattle.std.proofs.Common.{◌≡◌, ◌≢◌, inl, inr, ℕ, ◌+◌, Bool, false, [], ◌∷◌, codes, refl}
use Rattle.std.proofs.lemmas.Bool.{true_from_ne_false}
use Rattle.c_tree.specs.Tree.{Name, Quals, Stars, Specifiers, Sizes, no_sizes, open_size, size, plain, array, function, pointer, Parameters, ParameterForm}
use Rattle.c_tree.specs.Marks.{Tokens, mark}
use Rattle.c_tree.specs.TypeWords.{IsOrdinary}
use Rattle.c_tree.specs.ExpressionShape.{AtLeastOne, AtMostOne}
use Rattle.c_grammar.specs.declared.kind.Kind.{Kind}
use Rattle.c_grammar.specs.declared.kind.Kind.TheVariants as k
use Rattle.c_grammar.specs.Kind.{kind}
use Rattle.c_grammar.specs.Body.{got, done}
use Rattle.c_grammar.specs.Rules.{NameEnvironment, barred, inside, declared_by, declarator_by, parameter_name_by, a_declarator}
use Rattle.c_grammar.proofs.Onto.{onto_sizes, onto_declarator}
use Rattle.c_grammar.proofs.KindLemmas.{kind_at, kind_name}
use Rattle.c_grammar.proofs.Runs.{Runs, ran, run_done, run_look, run_seen, run_at, run_take, run_spend, run_rise, run_call, run_expect, run_then}
use Rattle.c_grammar.proofs.ReadBack.Tree.{EndsForm, ReadsSizes, ReadsDeclarator, ReadsNamed}
use Rattle.c_grammar.proofs.ReadBack.Words.{other_kind}
use Rattle.c_grammar.proofs.ReadBack.Stars.{quals_read, stars_read, stars_end_at, stars_end_name}
use Rattle.c_grammar.proofs.ReadBack.ParameterLists.{ReadsList}

-- what goes on with no declarator
declared_ends : (t : NameEnvironment) (d : ℕ) (f : Bool) (ss : Stars) (n : Name) (e : Kind) → e ≢ k.OpenBracket → e ≢ k.OpenParen → declared_by t d f ss n e ≡ done (plain ss n)
declared_ends t d f ss n k.OpenBracket h g = absurd (h refl)
declared_ends t d f ss n k.OpenParen h g = absurd (g refl)
declared_ends t d f ss n _ h g = refl

parameter_ends : (t : NameEnvironment) (d : ℕ) (ws : Specifiers) (ss : Stars) (n : Name) (e : Kind) → e ≢ k.OpenBracket → parameter_name_by t d ws ss n e ≡ done (ws, ParameterForm.named_form (plain ss n))
parameter_ends t d ws ss n k.OpenBracket h = absurd (h refl)
parameter_ends t d ws ss n _ h = refl

-- sizes begin with a bracket
pub sizes_head : (xs : Sizes) (r : Tokens) → AtLeastOne xs → kind [] (onto_sizes xs r) ≡ k.OpenBracket
sizes_head no_sizes r some = absurd some
sizes_head (open_size xs) r some = kind_at [] k.OpenBracket [] _ tt
sizes_head (size x xs) r some = kind_at [] k.OpenBracket [] _ tt

form_no_bracket : (r : Tokens) → EndsForm r → kind [] r ≢ k.OpenBracket
form_no_bracket r ends = elim ends [ inl e ↦ other_kind [] r k.Comma k.OpenBracket e (λ q. cc) | inr e ↦ other_kind [] r k.CloseParen k.OpenBracket e (λ q. cc) ]

close_no_bracket : (r : Tokens) → kind [] (mark (codes ")") ∷ r) ≢ k.OpenBracket
close_no_bracket r = other_kind [] _ k.CloseParen k.OpenBracket (kind_at [] k.CloseParen [] r tt) (λ q. cc)

module _ (t : NameEnvironment) where
  -- ---- a declarator, perhaps of a type

  -- a plain declarator is read
  pub plain_reads : (y : Bool) (ss : Stars) (n : Name) → IsOrdinary (barred t) n → ReadsDeclarator t y (plain ss n)
  plain_reads y ss n new = record {
    all = λ d f r may ends. ran (a_declarator t d f y) _ (got (plain ss n) r tt)
        (run_call refl (stars_read ss _ (stars_end_name n r))
        (run_look k.Name (kind_name (barred t) n r new) (run_take (run_seen (declared_ends (inside y n t) d f ss n (kind [] r) ends.0 ends.1) (run_done refl)))));
  }

  -- the declarator of an array is read
  pub array_reads : (y : Bool) (ss : Stars) (n : Name) (xs : Sizes) → IsOrdinary (barred t) n → AtLeastOne xs → ReadsSizes (inside y n t) xs → ReadsDeclarator t y (array ss n xs)
  array_reads y ss n xs new some hxs = record {
    all = λ d f r may ends. ran (a_declarator t d f y) _ (got (array ss n xs) r tt)
        (run_call refl (stars_read ss _ (stars_end_name n _))
        (run_look k.Name (kind_name (barred t) n _ new) (run_take (run_look k.OpenBracket (sizes_head xs r some) (run_call refl (hxs.all d r ends.0) (run_done refl))))));
  }

  -- the declarator of a function is read
  pub function_reads : (y : Bool) (ss : Stars) (n : Name) (ps : Parameters) (v : Bool) → IsOrdinary (barred t) n → ReadsList (inside y n t) ps v → ReadsDeclarator t y (function ss n ps v)
  function_reads y ss n ps v new hps = record {
    all = λ d f r may ends. ran (a_declarator t d f y) _ (got (function ss n ps v) r tt)
        (run_call refl (stars_read ss _ (stars_end_name n _))
        (run_look k.Name (kind_name (barred t) n _ new) (run_take
        (run_at k.OpenParen tt (run_then _ (true_from_ne_false f may) (run_take (run_call refl (hps d r) (run_done refl))))))));
  }

  -- behind its stars a pointer to a function is read
  pub pointer_runs : (taken : Bool) (limit d : ℕ) (f y : Bool) (ss : Stars) (qs : Quals) (n : Name) (xs : Sizes) (ps : Parameters) (v : Bool) (r : Tokens) → IsOrdinary (barred t) n → AtMostOne xs →
      ReadsSizes (inside y n t) xs → ReadsList (inside y n t) ps v →
      Runs taken limit (declarator_by t d f y ss k.OpenParen) (onto_declarator (pointer [] qs n xs ps v) r) (got (pointer ss qs n xs ps v) r tt)
  pointer_runs taken limit d f y ss qs n xs ps v r new few hxs hps =
      run_take (run_expect k.Star tt
      (run_call refl (quals_read qs _ (stars_end_name n _))
      (run_look k.Name (kind_name (barred t) n _ new) (run_take
      (run_call refl (hxs.one d _ few (close_no_bracket _))
      (run_expect k.CloseParen tt (run_expect k.OpenParen tt (run_call refl (hps d r) (run_done refl)))))))))

  -- the declarator of a pointer to a function is read
  pub pointer_reads : (y : Bool) (ss : Stars) (qs : Quals) (n : Name) (xs : Sizes) (ps : Parameters) (v : Bool) → IsOrdinary (barred t) n → AtMostOne xs → ReadsSizes (inside y n t) xs → ReadsList (inside y n t) ps v →
      ReadsDeclarator t y (pointer ss qs n xs ps v)
  pointer_reads y ss qs n xs ps v new few hxs hps = record {
    all = λ d f r may ends. ran (a_declarator t d f y) _ (got (pointer ss qs n xs ps v) r tt)
        (run_call refl (stars_read ss _ (stars_end_at k.OpenParen _ tt refl)) (run_at k.OpenParen tt (pointer_runs false 2 d f y ss qs n xs ps v r new few hxs hps)));
  }

  -- ---- a declarator behind the specifiers of a parameter

  -- a plain declarator is read there
  pub plain_named : (ss : Stars) (n : Name) → IsOrdinary (barred t) n → ReadsNamed t (plain ss n)
  plain_named ss n new = record {
    parameter = λ d ws r object ends.
        run_call refl (stars_read ss _ (stars_end_name n r))
        (run_look k.Name (kind_name (barred t) n r new) (run_rise (run_spend (run_take (run_seen (parameter_ends t d ws ss n (kind [] r) (form_no_bracket r ends)) (run_done refl))))));
  }

  -- the declarator of an array is read there
  pub array_named : (ss : Stars) (n : Name) (xs : Sizes) → IsOrdinary (barred t) n → AtLeastOne xs → ReadsSizes t xs → ReadsNamed t (array ss n xs)
  array_named ss n xs new some hxs = record {
    parameter = λ d ws r object ends.
        run_call refl (stars_read ss _ (stars_end_name n _))
        (run_look k.Name (kind_name (barred t) n _ new) (run_rise (run_spend (run_take
        (run_look k.OpenBracket (sizes_head xs r some) (run_call refl (hxs.all (d + 1) r (form_no_bracket r ends)) (run_done refl)))))));
  }

  -- no function stands there
  pub function_named : (ss : Stars) (n : Name) (ps : Parameters) (v : Bool) → ReadsNamed t (function ss n ps v)
  function_named ss n ps v = record { parameter = λ d ws r object ends. absurd object }

  -- the declarator of a pointer to a function is read there
  pub pointer_named : (ss : Stars) (qs : Quals) (n : Name) (xs : Sizes) (ps : Parameters) (v : Bool) → IsOrdinary (barred t) n → AtMostOne xs → ReadsSizes t xs → ReadsList t ps v → ReadsNamed t (pointer ss qs n xs ps v)
  pointer_named ss qs n xs ps v new few hxs hps = record {
    parameter = λ d ws r object ends.
        run_call refl (stars_read ss _ (stars_end_at k.OpenParen _ tt refl))
        (run_at k.OpenParen tt (run_take (run_expect k.Star tt
        (run_call refl (quals_read qs _ (stars_end_name n _))
        (run_look k.Name (kind_name (barred t) n _ new) (run_rise (run_spend (run_take
        (run_call refl (hxs.one (d + 1) _ few (close_no_bracket _))
        (run_expect k.CloseParen tt (run_expect k.OpenParen tt (run_call refl (hps (d + 1) r) (run_done refl)))))))))))));
  }
