-- Qualifiers, stars and sizes, one by one.
use Rattle.std.proofs.Common.{◌≡◌, ◌≢◌, ◌<◌, ◌≤◌, ℕ, true, false, List, [], ◌∷◌, length, Option, Some, None, refl, sym, ap, ◌∙◌, subst, arith}
use Rattle.c_tree.specs.declared.tree.Qual.{Qual}
use Rattle.c_tree.specs.Tree.{Quals, Stars, Expression, Sizes, no_sizes, open_size, size}
use Rattle.c_tree.specs.Marks.{Tokens}
use Rattle.c_tree.specs.View.{sizes_of}
use Rattle.c_grammar.specs.declared.kind.Kind.{Kind}
use Rattle.c_grammar.specs.declared.kind.Kind.TheVariants as k
use Rattle.c_grammar.specs.Kind.{kind, same_kind, tail_of}
use Rattle.c_grammar.specs.Body.{Outcome, got, and_then, Reader, done}
use Rattle.c_grammar.specs.Body as body
use Rattle.c_grammar.specs.Gauge.{Meter}
use Rattle.c_grammar.specs.Input.{Input, next}
use Rattle.c_grammar.specs.Performing.{perform, at}
use Rattle.c_grammar.specs.Reading.{read}
use Rattle.c_grammar.specs.Rules.{NameEnvironment, Reads, skip, all_quals, quals_by, all_stars, stars_by, all_sizes, sizes_by, size_by, at_most_one_size, at_most_one_by, one_size_by}
use Rattle.c_grammar.proofs.KindLemmas.{kind_end, same_true, same_false}
use Rattle.c_grammar.specs.declared.refusal.Refusal.{Refusal}
use Rattle.c_grammar.specs.Gives.{Fails}
use Rattle.c_grammar.specs.Lists.{mapped, before}
use Rattle.expression_parser.specs.Pointers.{qualifier}
use Rattle.c_grammar.proofs.Joining.{tail_mapped, same_mapped, Joins, join_skip, join_call, join_expect, then_fails, perform_leaves}
use Rattle.c_grammar.proofs.Loops.{Turn, loop_err}
use Rattle.c_grammar.proofs.Opens.{quals_performs, stars_performs, sizes_performs, at_most_one_size_performs}
use Rattle.c_grammar.proofs.Shorter.{Leaves}
use Rattle.type_parser.specs.DeclaratorParts.{star, sized, bracketed, bracketed_by}

-- a token of a kind of its own is gone once it is taken
taken_tail : (ts : Tokens) (x : Kind) → same_kind (kind [] ts) x ≡ true → x ≢ k.Nothing → length (tail_of ts) < length ts
taken_tail [] x is some = absurd (some (sym (same_true (kind [] []) x is) ∙ kind_end []))
taken_tail (t ∷ ts) x is some = omega arith

-- what takes a token leaves fewer
skip_shorter : {A : Type 0} (b : Reads A) (i j : Input) (v : A) → length (tail_of i.rest) < length i.rest → perform (skip b) i ≡ got v j.rest j.meter → length j.rest < length i.rest
skip_shorter b i j v fewer e =
    let l : length j.rest ≤ length (tail_of i.rest) = subst (λ o. Leaves (length (tail_of i.rest)) o) e (perform_leaves (length (tail_of i.rest)) b (next i) (omega arith)) in
    omega (arith, fewer)

-- ---- qualifiers

quals_on : (x : Kind) (y : Qual) → qualifier x ≡ Some y → quals_by x ≡ skip (body.call all_quals (λ qs. done (y ∷ qs)))
quals_on k.Const y e = ap (λ z. skip (body.call all_quals (λ qs. done (z ∷ qs)))) cc
quals_on k.Volatile y e = ap (λ z. skip (body.call all_quals (λ qs. done (z ∷ qs)))) cc
quals_on _ y e = absurd cc

quals_off : (x : Kind) → qualifier x ≡ None → quals_by x ≡ done []
quals_off k.Const e = absurd cc
quals_off k.Volatile e = absurd cc
quals_off _ e = refl

pub quals_turn : (i j : Input) (y : Qual) → qualifier (kind [] i.rest) ≡ Some y → j ≡ next i → Turn ◌∷◌ y (read all_quals i) (read all_quals j)
quals_turn i j y is go =
    record {
      is = quals_performs i
          ∙ ap (λ b. perform b i) (quals_on (kind [] i.rest) y is)
          ∙ tail_mapped (λ qs. y ∷ qs) (read all_quals (next i))
          ∙ ap (λ z. mapped (λ qs. y ∷ qs) (read all_quals z)) (sym go);
    }

pub quals_end : (i : Input) → qualifier (kind [] i.rest) ≡ None → read all_quals i ≡ got [] i.rest i.meter
quals_end i none = quals_performs i ∙ ap (λ b. perform b i) (quals_off (kind [] i.rest) none)

no_qualifier : (x : Kind) (y : Qual) → x ≡ k.Nothing → qualifier x ≡ Some y → ⊥
no_qualifier x y none is = absurd cc

quals_tail : (ts : Tokens) (y : Qual) → qualifier (kind [] ts) ≡ Some y → length (tail_of ts) < length ts
quals_tail [] y is = absurd (no_qualifier (kind [] []) y (kind_end []) is)
quals_tail (t ∷ ts) y is = omega arith

pub quals_shorter : (i j : Input) (y : Qual) → qualifier (kind [] i.rest) ≡ Some y → j ≡ next i → length j.rest < length i.rest
quals_shorter i j y is go = subst (λ z. length z.rest < length i.rest) (sym go) (quals_tail i.rest y is)

-- ---- stars

abbrev other_stars : Quals → Reader Meter Stars
other_stars qs us m = mapped (λ ss. qs ∷ ss) (read all_stars (at us m))

stars_on : (i : Input) → same_kind (kind [] i.rest) k.Star ≡ true → read all_stars i ≡ and_then (perform star i) other_stars
stars_on i is =
    let h : Joins (λ y. y) other_stars (stars_by k.Star) star i = join_skip (join_call {r = all_quals} (λ qs us m. record { is = tail_mapped (λ ss. qs ∷ ss) (read all_stars (at us m)) })) in
    stars_performs i
    ∙ ap (λ x. perform (stars_by x) i) (same_true (kind [] i.rest) k.Star is)
    ∙ h.is ∙ ap (λ o. and_then o other_stars) (same_mapped (perform star i))

pub stars_turn : (i j : Input) (qs : Quals) → same_kind (kind [] i.rest) k.Star ≡ true → perform star i ≡ got qs j.rest j.meter → Turn ◌∷◌ qs (read all_stars i) (read all_stars j)
stars_turn i j qs is e = record { is = stars_on i is ∙ ap (λ o. and_then o other_stars) e }

pub stars_fail : (i : Input) (e : Refusal) → same_kind (kind [] i.rest) k.Star ≡ true → Fails (perform star i) e → Fails (read all_stars i) e
stars_fail i e is h = subst (λ o. Fails o e) (sym (stars_on i is)) (then_fails other_stars h)

stars_off : (x : Kind) → x ≢ k.Star → stars_by x ≡ done []
stars_off k.Star other = absurd (other refl)
stars_off _ other = refl

pub stars_end : (i : Input) → same_kind (kind [] i.rest) k.Star ≡ false → read all_stars i ≡ got [] i.rest i.meter
stars_end i other = stars_performs i ∙ ap (λ b. perform b i) (stars_off (kind [] i.rest) (same_false (kind [] i.rest) k.Star other))

pub stars_shorter : (i j : Input) (qs : Quals) → same_kind (kind [] i.rest) k.Star ≡ true → perform star i ≡ got qs j.rest j.meter → length j.rest < length i.rest
stars_shorter i j qs is e = skip_shorter (body.call all_quals done) i j qs (taken_tail i.rest k.Star is (λ e. absurd cc)) e

-- ---- sizes

module _ (t : NameEnvironment) (d : ℕ) where
  abbrev other_sizes : Option Expression → Reader Meter Sizes
  other_sizes v us m = mapped (sized v) (read (all_sizes t d) (at us m))

  abbrev no_other : Option Expression → Reader Meter Sizes
  no_other v us m = got (sized v no_sizes) us m

  size_joined : (x : Kind) (j : Input) → Joins (λ v. v) other_sizes (size_by t d x) (bracketed_by t d x) j
  size_joined k.CloseBracket j = join_skip (record { is = tail_mapped open_size (read (all_sizes t d) (next j)) })
  size_joined _ j = join_call (λ x us m. join_expect k.CloseBracket (record { is = tail_mapped (size x) (read (all_sizes t d) (next (at us m))) }))

  one_joined : (x : Kind) (j : Input) → Joins (λ v. v) no_other (one_size_by t d x) (bracketed_by t d x) j
  one_joined k.CloseBracket j = join_skip (record { is = refl })
  one_joined _ j = join_call (λ x us m. join_expect k.CloseBracket (record { is = refl }))

  sizes_on : (i : Input) → same_kind (kind [] i.rest) k.OpenBracket ≡ true → read (all_sizes t d) i ≡ and_then (perform (bracketed t d) i) other_sizes
  sizes_on i is =
      sizes_performs t d i
      ∙ ap (λ x. perform (sizes_by t d x) i) (same_true (kind [] i.rest) k.OpenBracket is)
      ∙ (size_joined (kind t.types (next i).rest) (next i)).is
      ∙ ap (λ o. and_then o other_sizes) (same_mapped (perform (bracketed t d) i))

  pub sizes_turn : (i j : Input) (v : Option Expression) → same_kind (kind [] i.rest) k.OpenBracket ≡ true → perform (bracketed t d) i ≡ got v j.rest j.meter →
      Turn sized v (read (all_sizes t d) i) (read (all_sizes t d) j)
  sizes_turn i j v is e = record { is = sizes_on i is ∙ ap (λ o. and_then o other_sizes) e }

  pub sizes_fail : (i : Input) (e : Refusal) → same_kind (kind [] i.rest) k.OpenBracket ≡ true → Fails (perform (bracketed t d) i) e → Fails (read (all_sizes t d) i) e
  sizes_fail i e is h = subst (λ o. Fails o e) (sym (sizes_on i is)) (then_fails other_sizes h)

  pub sizes_shorter : (i j : Input) (v : Option Expression) → same_kind (kind [] i.rest) k.OpenBracket ≡ true → perform (bracketed t d) i ≡ got v j.rest j.meter → length j.rest < length i.rest
  sizes_shorter i j v is e = skip_shorter (body.look t.types (bracketed_by t d)) i j v (taken_tail i.rest k.OpenBracket is (λ e. absurd cc)) e

  sizes_off : (x : Kind) → x ≢ k.OpenBracket → sizes_by t d x ≡ done no_sizes
  sizes_off k.OpenBracket other = absurd (other refl)
  sizes_off _ other = refl

  pub sizes_end : (i : Input) → same_kind (kind [] i.rest) k.OpenBracket ≡ false → read (all_sizes t d) i ≡ got no_sizes i.rest i.meter
  sizes_end i other = sizes_performs t d i ∙ ap (λ b. perform b i) (sizes_off (kind [] i.rest) (same_false (kind [] i.rest) k.OpenBracket other))

  -- one at most
  abbrev pub one_by : Kind → Input → Outcome Meter Sizes
  one_by k.OpenBracket i = mapped (λ v. sized v no_sizes) (perform (bracketed t d) i)
  one_by _ i = got no_sizes i.rest i.meter

  one_begun : (x : Kind) (i : Input) → perform (at_most_one_by t d x) i ≡ one_by x i
  one_begun k.OpenBracket i =
      (one_joined (kind t.types (next i).rest) (next i)).is
      ∙ ap (λ o. and_then o no_other) (same_mapped (perform (bracketed t d) i))
      ∙ tail_mapped (λ v. sized v no_sizes) (perform (bracketed t d) i)
  one_begun _ i = refl

  pub one_begins : (i : Input) → read (at_most_one_size t d) i ≡ one_by (kind [] i.rest) i
  one_begins i = at_most_one_size_performs t d i ∙ one_begun (kind [] i.rest) i

  pub one_fails : (i : Input) (e : Refusal) → kind [] i.rest ≡ k.OpenBracket → Fails (perform (bracketed t d) i) e → Fails (read (at_most_one_size t d) i) e
  one_fails i e is h = loop_err (λ v. sized v no_sizes) (perform (bracketed t d) i) (read (at_most_one_size t d) i) e (sym (one_begins i ∙ ap (λ x. one_by x i) is)) h

-- the list of all of them
pub before_sizes : (xs : List (Option Expression)) → before sized xs no_sizes ≡ sizes_of xs
before_sizes [] = refl
before_sizes (None ∷ xs) = ap open_size (before_sizes xs)
before_sizes (Some x ∷ xs) = ap (size x) (before_sizes xs)

pub one_size_of : (v : Option Expression) → sizes_of (v ∷ []) ≡ sized v no_sizes
one_size_of None = refl
one_size_of (Some x) = refl
