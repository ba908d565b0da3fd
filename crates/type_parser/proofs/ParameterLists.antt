-- Parameters, one by one.
use Rattle.std.proofs.Common.{◌≡◌, ◌≢◌, ◌<◌, ◌≤◌, ℕ, true, false, ◌&&◌, List, [], ◌∷◌, map, length, refl, sym, ap, ◌∙◌, subst, arith}
use Rattle.c_tree.specs.declared.tree.Parameter.{Parameter as Written, out-Parameter}
use Rattle.c_tree.specs.declared.tree.SpecWord.{SpecWord}
use Rattle.c_tree.specs.Tree.{void_word, Specifiers, specifiers, no_specifiers, Parameters, parameters, no_parameters, ParameterForm, bare_form, bare_stars, Stars}
use Rattle.c_tree.specs.Marks.{Tokens}
use Rattle.c_tree.specs.View.{parameters_of, specifiers_of, view_specifier, view_form, view_parameter}
use Rattle.c_tree.proofs.ViewLemmas.{view_Parameter}
use Rattle.c_grammar.specs.declared.kind.Kind.{Kind}
use Rattle.c_grammar.specs.declared.kind.Kind.TheVariants as k
use Rattle.c_grammar.specs.Kind.{kind, same_kind, tail_of}
use Rattle.c_grammar.specs.Body.{stop, look, Outcome, got, refused, exceeded, and_then, Reader}
use Rattle.c_grammar.specs.Gauge.{Meter, left, entered}
use Rattle.c_grammar.specs.Input.{Input, next, metered}
use Rattle.c_grammar.specs.Reading.{read}
use Rattle.c_grammar.specs.Rules.{NameEnvironment, Parameter, parameter_by, a_parameter, all_specifiers, all_stars, some_parameters, more_parameters, more_parameters_by, listed_parameters, barred}
use Rattle.c_grammar.proofs.KindLemmas.{kind_end, same_true, same_false}
use Rattle.c_grammar.specs.declared.refusal.Refusal.{Refusal}
use Rattle.c_grammar.specs.declared.refusal.Refusal.TheVariants.{Syntax}
use Rattle.c_grammar.specs.Gives.{Fails}
use Rattle.c_grammar.specs.Lists.{mapped, before}
use Rattle.c_grammar.specs.Performing.{perform, at}
use Rattle.c_grammar.proofs.Joining.{last, tail_mapped, then_fails, perform_leaves}
use Rattle.c_grammar.proofs.Loops.{Turn}
use Rattle.c_grammar.proofs.Opens.{parameter_performs, some_parameters_performs, more_parameters_performs}
use Rattle.c_grammar.proofs.Shorter.{Leaves}
use Rattle.type_parser.specs.ParameterList.{is_void, is_one_void, listed, is_plain, only_void, with_parameter, one_parameter, another_parameter}

-- ---- the word void

void_listed : (ws : Specifiers) (f : ParameterForm) → only_void ws && is_plain f ≡ true → listed_parameters (parameters ws f no_parameters) ≡ (no_parameters, true)
void_listed no_specifiers f is = absurd cc
void_listed (specifiers x (specifiers y ws)) f is = absurd cc
void_listed (specifiers void_word no_specifiers) (bare_form (bare_stars [])) is = refl
void_listed (specifiers void_word no_specifiers) _ is = absurd cc
void_listed (specifiers _ no_specifiers) f is = absurd cc

other_listed : (ws : Specifiers) (f : ParameterForm) → only_void ws && is_plain f ≡ false → listed_parameters (parameters ws f no_parameters) ≡ (parameters ws f no_parameters, false)
other_listed (specifiers void_word no_specifiers) (bare_form (bare_stars [])) is = absurd cc
other_listed _ _ is = refl

more_listed : (ws : Specifiers) (f : ParameterForm) (p : Parameter) (ps : Parameters) → listed_parameters (parameters ws f (with_parameter p ps)) ≡ (parameters ws f (with_parameter p ps), false)
more_listed (specifiers void_word no_specifiers) (bare_form (bare_stars [])) p ps = refl
more_listed _ _ p ps = refl

-- the one word void is the empty list
pub void_alone : (ps : List Parameter) → is_one_void ps ≡ true → listed ps ≡ (no_parameters, true)
void_alone [] is = absurd cc
void_alone (p ∷ []) is = void_listed p.0 p.1 is
void_alone (p ∷ q ∷ ps) is = absurd cc

pub not_void_alone : (ps : List Parameter) → is_one_void ps ≡ false → listed ps ≡ (parameters_of ps, false)
not_void_alone [] is = refl
not_void_alone (p ∷ []) is = other_listed p.0 p.1 is
not_void_alone (p ∷ q ∷ ps) is = more_listed p.0 p.1 q (parameters_of ps)

many_words : (ws : List SpecWord) → 2 ≤ length ws → only_void (specifiers_of (map view_specifier ws)) ≡ false
many_words [] many = absurd (omega (arith, many))
many_words (x ∷ []) many = absurd (omega (arith, many))
many_words (x ∷ y ∷ ws) many = refl

-- several specifiers are not the word void alone
pub void_many : (p : Written) (ws : List SpecWord) → ws ≡ (out-Parameter p).specs → 2 ≤ length ws → false ≡ is_void (view_parameter p)
void_many p ws is many =
    sym
    (ap (λ q. is_void q) (view_Parameter p)
    ∙ ap (λ b. b && is_plain (view_form (out-Parameter p).form)) (ap (λ vs. only_void (specifiers_of (map view_specifier vs))) (sym is) ∙ many_words ws many))

-- ---- one after another

-- a token of a kind of its own is gone once it is taken
taken_tail : (ts : Tokens) (x : Kind) → same_kind (kind [] ts) x ≡ true → x ≢ k.Nothing → length (tail_of ts) < length ts
taken_tail [] x is some = absurd (some (sym (same_true (kind [] []) x is) ∙ kind_end []))
taken_tail (t ∷ ts) x is some = omega arith

module _ (t : NameEnvironment) (d : ℕ) where
  abbrev others : Parameter → Reader Meter Parameters
  others p us m = mapped (with_parameter p) (read (more_parameters t d) (at us m))

  first_then : (m : Meter) (o : Outcome Meter Parameter) →
      and_then o (λ p us n. and_then (read (more_parameters t d) (at us (left m n))) (λ ps vs l. got (with_parameter p ps) vs l)) ≡ and_then (and_then o (λ p us n. got p us (left m n))) others
  first_then m (got p us n) = tail_mapped (with_parameter p) (read (more_parameters t d) (at us (left m n)))
  first_then m (refused us) = refl
  first_then m (exceeded us) = refl

  -- the first parameter, and the others
  pub parameters_begin : (i : Input) → read (some_parameters t d) i ≡ and_then (perform (one_parameter t d) i) (λ p us m. mapped (with_parameter p) (read (more_parameters t d) (at us m)))
  parameters_begin i = some_parameters_performs t d i ∙ first_then i.meter (read (a_parameter t d) (metered (entered d i.meter) i))

  parameters_on : (i : Input) → same_kind (kind [] i.rest) k.Comma ≡ true → read (more_parameters t d) i ≡ and_then (perform (another_parameter t d) i) others
  parameters_on i is =
      more_parameters_performs t d i
      ∙ ap (λ x. perform (more_parameters_by t d x) i) (same_true (kind [] i.rest) k.Comma is)
      ∙ last (read (some_parameters t d) (next i))
      ∙ parameters_begin (next i)

  pub parameters_turn : (i j : Input) (p : Parameter) → same_kind (kind [] i.rest) k.Comma ≡ true → perform (another_parameter t d) i ≡ got p j.rest j.meter →
      Turn with_parameter p (read (more_parameters t d) i) (read (more_parameters t d) j)
  parameters_turn i j p is e = record { is = parameters_on i is ∙ ap (λ o. and_then o others) e }

  pub parameters_fail : (i : Input) (e : Refusal) → same_kind (kind [] i.rest) k.Comma ≡ true → Fails (perform (another_parameter t d) i) e → Fails (read (more_parameters t d) i) e
  parameters_fail i e is h = subst (λ o. Fails o e) (sym (parameters_on i is)) (then_fails others h)

  pub parameters_shorter : (i j : Input) (p : Parameter) → same_kind (kind [] i.rest) k.Comma ≡ true → perform (another_parameter t d) i ≡ got p j.rest j.meter → length j.rest < length i.rest
  parameters_shorter i j p is e =
      let l : length j.rest ≤ length (tail_of i.rest) = subst (λ o. Leaves (length (tail_of i.rest)) o) e (perform_leaves (length (tail_of i.rest)) (one_parameter t d) (next i) (omega arith)) in
      omega (arith, taken_tail i.rest k.Comma is (λ e. absurd cc))

  pub parameters_end : (i j : Input) → same_kind (kind [] i.rest) k.CloseParen ≡ true → j ≡ next i → read (more_parameters t d) i ≡ got no_parameters j.rest j.meter
  parameters_end i j is go =
      more_parameters_performs t d i
      ∙ ap (λ x. perform (more_parameters_by t d x) i) (same_true (kind [] i.rest) k.CloseParen is)
      ∙ ap (λ z. got no_parameters z.rest z.meter) (sym go)

  parameters_off : (x : Kind) → x ≢ k.Comma → x ≢ k.CloseParen → more_parameters_by t d x ≡ stop
  parameters_off k.Comma comma close = absurd (comma refl)
  parameters_off k.CloseParen comma close = absurd (close refl)
  parameters_off _ comma close = refl

  pub parameters_stop : (i : Input) (e : Refusal) → same_kind (kind [] i.rest) k.Comma ≡ false → same_kind (kind [] i.rest) k.CloseParen ≡ false → e ≡ Syntax (length i.rest) → Fails (read (more_parameters t d) i) e
  parameters_stop i e comma close is =
      let h : read (more_parameters t d) i ≡ refused i.rest =
      more_parameters_performs t d i ∙ ap (λ b. perform b i) (parameters_off (kind [] i.rest) (same_false (kind [] i.rest) k.Comma comma) (same_false (kind [] i.rest) k.CloseParen close)) in
      let f : Fails {B = Parameters} (refused i.rest) (Syntax (length i.rest)) = record { says = refl } in
      subst (λ o. Fails o e) (sym h) (subst (λ r. Fails {B = Parameters} (refused i.rest) r) (sym is) f)

-- a parameter whose specifiers and stars were read
pub parameter_on : (t : NameEnvironment) (d : ℕ) (i j l : Input) (ws : Specifiers) (ss : Stars) → read (all_specifiers t d false []) i ≡ got ws j.rest j.meter → read all_stars j ≡ got ss l.rest l.meter →
    read (a_parameter t d) i ≡ perform (look (barred t) (parameter_by t d ws ss)) l
parameter_on t d i j l ws ss words stars =
    parameter_performs t d i
    ∙ ap (λ o. and_then o (λ v us m. and_then (read all_stars (at us m)) (λ w vs n. perform (look (barred t) (parameter_by t d v w)) (at vs n)))) words
    ∙ ap (λ o. and_then o (λ w vs n. perform (look (barred t) (parameter_by t d ws w)) (at vs n))) stars

-- the list of all of them
pub before_none : (ps : List Parameter) → before with_parameter ps no_parameters ≡ parameters_of ps
before_none [] = refl
before_none (p ∷ ps) = ap (with_parameter p) (before_none ps)
