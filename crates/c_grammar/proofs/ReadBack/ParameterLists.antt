-- The parameters of functions are read.
use Rattle.std.proofs.Common.{◌≡◌, inl, inr, ℕ, Bool, true, false, [], ◌∷◌, codes, refl, ap}
use Rattle.c_tree.specs.Tree.{Quals, Stars, Specifiers, no_specifiers, specifiers, void_word, DeclaratorTree, Parameters, no_parameters, parameters, ParameterForm, named_form, bare_form, BareTree, bare_stars, bare_pointer}
use Rattle.c_tree.specs.Marks.{Tokens, mark}
use Rattle.c_tree.specs.TypeWords.{NamesType}
use Rattle.c_tree.specs.ExpressionShape.{FitsWord, IsNotVoid, IsNoFunction, ShapeForm, ShapeParameters}
use Rattle.c_grammar.specs.declared.kind.Kind.{Kind}
use Rattle.c_grammar.specs.declared.kind.Kind.TheVariants as k
use Rattle.c_grammar.specs.Body.{got}
use Rattle.c_grammar.specs.Rules.{NameEnvironment, barred, begins_type, parameters_by, listed_parameters, all_parameters, some_parameters, more_parameters, a_parameter, a_bare}
use Rattle.c_grammar.proofs.Onto.{onto_specifiers, onto_form, onto_parameters, onto_more_parameters}
use Rattle.c_grammar.proofs.Parse.{parse}
use Rattle.c_grammar.proofs.KindLemmas.{kind_at, kind_same}
use Rattle.c_grammar.proofs.TypeHeads.{specifiers_head}
use Rattle.c_grammar.proofs.Runs.{ran, run_done, run_look, run_seen, run_at, run_take, run_call, run_scope, run_expect}
use Rattle.c_grammar.proofs.ReadBack.Tree.{EndsType, EndsForm, ReadsSpecifiers, ReadsNamed, ReadsParameters, ReadsForm, ReadsBare}
use Rattle.c_grammar.proofs.ReadBack.Words.{no_specifiers_reads, specifiers_reads, void_reads}
use Rattle.c_grammar.proofs.ReadBack.Stars.{quals_read, stars_read, stars_end_at, stars_end_form, type_ends_bare, type_ends_declarator, declares_ordinary}

-- the parameters of a function are read as these
abbrev pub ReadsList : NameEnvironment → Parameters → Bool → Type 0
ReadsList t ps v = (d : ℕ) (r : Tokens) → parse (all_parameters t d) (onto_parameters ps v (mark (codes ")") ∷ r)) ≡ got (ps, v) r tt

some_parameter : (t : NameEnvironment) (d : ℕ) (e : Kind) → begins_type e ≡ true → parameters_by t d e ≡ parameters_by t d k.Nothing
some_parameter t d k.CloseParen h = absurd (cc)
some_parameter t d _ h = refl

-- what is not the word void alone is listed as it is
listed : (ps : Parameters) → IsNotVoid ps → listed_parameters ps ≡ (ps, false)
listed (parameters (specifiers void_word no_specifiers) (bare_form (bare_stars [])) no_parameters) h = absurd h
listed _ h = refl

-- behind a parameter stands a comma or the closing bracket
form_ends : (ps : Parameters) (r : Tokens) → EndsForm (onto_more_parameters ps (mark (codes ")") ∷ r))
form_ends no_parameters r = inr (kind_at [] k.CloseParen [] r tt)
form_ends (parameters ws f ps) r = inl (kind_at [] k.Comma [] _ tt)

module _ (t : NameEnvironment) where
  type_ends_parameter : (f : ParameterForm) (r : Tokens) → ShapeForm t.types f → EndsForm r → EndsType t (onto_form f r)
  type_ends_parameter (named_form c) r s ends = type_ends_declarator t c r (declares_ordinary t.types c s.1)
  type_ends_parameter (bare_form b) r s ends = type_ends_bare t b r ends

  -- the end of parameters is read
  pub no_parameters_reads : ReadsParameters t no_parameters
  no_parameters_reads = record {
    some = λ d r some. absurd (some refl);
    more = λ d r. ran (more_parameters t d) _ (got no_parameters r tt) (run_at k.CloseParen tt (run_take (run_done refl)));
  }

  -- parameters are read
  pub parameters_reads : (ws : Specifiers) (f : ParameterForm) (ps : Parameters) → NamesType ws → ShapeForm t.types f → ReadsSpecifiers t ws → ReadsForm t f → ReadsParameters t ps → ReadsParameters t (parameters ws f ps)
  parameters_reads ws f ps one s hws hf hps =
      let some : (d : ℕ) (r : Tokens) → parse (some_parameters t d) (onto_parameters (parameters ws f ps) false (mark (codes ")") ∷ r)) ≡ got (parameters ws f ps) r tt =
      λ d r.
      let us = onto_more_parameters ps (mark (codes ")") ∷ r) in
      let ends : EndsForm us = form_ends ps r in
      let first : parse (a_parameter t d) (onto_specifiers ws (onto_form f us)) ≡ got (ws, f) us tt =
      ran (a_parameter t d) _ (got (ws, f) us tt) (run_call refl (hws.all d false [] (onto_form f us) one (type_ends_parameter f us s ends)) (hf.all d ws us ends)) in
      ran (some_parameters t d) _ (got (parameters ws f ps) r tt) (run_scope refl first (run_call refl (hps.more d r) (run_done refl))) in
      record {
        some = λ d r _. some d r;
        more = λ d r. ran (more_parameters t d) _ (got (parameters ws f ps) r tt) (run_at k.Comma tt (run_take (run_call refl (some d r) (run_done refl))));
      }

  -- a parameter with a name is read
  pub named_form_reads : (c : DeclaratorTree) → IsNoFunction c → ReadsNamed t c → ReadsForm t (named_form c)
  named_form_reads c object hc = record { all = λ d ws r ends. hc.parameter d ws r object ends }

  -- a parameter without a name is read
  pub bare_form_reads : (b : BareTree) → ReadsBare t b → ReadsForm t (bare_form b)
  bare_form_reads b hb = record { all = λ d ws r ends. hb.parameter d ws r ends }

  -- stars without a name are read
  pub bare_stars_reads : (ss : Stars) → ReadsBare t (bare_stars ss)
  bare_stars_reads ss = record {
    all = λ d r ends. ran (a_bare t d) _ (got (bare_stars ss) r tt)
        (run_call refl (stars_read ss r (stars_end_form r ends)) (elim ends [ inl e ↦ run_look k.Comma e (run_done refl) | inr e ↦ run_look k.CloseParen e (run_done refl) ]));
    parameter = λ d ws r ends.
        run_call refl (stars_read ss r (stars_end_form r ends))
        (elim ends [ inl e ↦ run_look k.Comma (kind_same [] (barred t) r k.Comma tt e) (run_done refl) | inr e ↦ run_look k.CloseParen (kind_same [] (barred t) r k.CloseParen tt e) (run_done refl) ]);
  }

  -- a pointer to a function without a name is read
  pub bare_pointer_reads : (ss : Stars) (qs : Quals) (ps : Parameters) (v : Bool) → ReadsList t ps v → ReadsBare t (bare_pointer ss qs ps v)
  bare_pointer_reads ss qs ps v hps = record {
    all = λ d r ends. ran (a_bare t d) _ (got (bare_pointer ss qs ps v) r tt)
        (run_call refl (stars_read ss _ (stars_end_at k.OpenParen _ tt refl))
        (run_at k.OpenParen tt (run_take (run_expect k.Star tt
        (run_call refl (quals_read qs _ (stars_end_at k.CloseParen _ tt refl))
        (run_expect k.CloseParen tt (run_expect k.OpenParen tt (run_call refl (hps d r) (run_done refl)))))))));
    parameter = λ d ws r ends.
        run_call refl (stars_read ss _ (stars_end_at k.OpenParen _ tt refl))
        (run_at k.OpenParen tt (run_take (run_expect k.Star tt
        (run_call refl (quals_read qs _ (stars_end_at k.CloseParen _ tt refl))
        (run_at k.CloseParen tt (run_take (run_expect k.OpenParen tt (run_call refl (hps d r) (run_done refl)))))))));
  }

  only_void : ReadsParameters t (parameters (specifiers void_word no_specifiers) (bare_form (bare_stars [])) no_parameters)
  only_void =
      parameters_reads (specifiers void_word no_specifiers) (bare_form (bare_stars [])) no_parameters refl tt (specifiers_reads t void_word no_specifiers (void_reads t) (no_specifiers_reads t))
      (bare_form_reads (bare_stars []) (bare_stars_reads [])) no_parameters_reads

  -- all parameters of a function, with its bracket
  pub list_read : (ps : Parameters) (v : Bool) → FitsWord v ps → IsNotVoid ps → ShapeParameters t.types ps → ReadsParameters t ps → ReadsList t ps v
  list_read no_parameters false fits some s h d r = ran (all_parameters t d) _ (got (no_parameters, false) r tt) (run_at k.CloseParen tt (run_take (run_done refl)))
  list_read no_parameters true fits some s h d r =
      ran (all_parameters t d) _ (got (no_parameters, true) r tt) (run_at k.Void tt (run_call refl (only_void.some d r (λ e. cc)) (run_done refl)))
  list_read (parameters ws f ps) true fits some s h d r = absurd fits
  list_read (parameters ws f ps) false fits some s h d r =
      ran (all_parameters t d) _ (got (parameters ws f ps, false) r tt)
      (run_seen (some_parameter t d _ (specifiers_head t ws _ s.1 s.0))
      (run_call refl (h.some d r (λ e. cc)) (run_done (ap (λ p. got p r tt) (listed (parameters ws f ps) some)))))
