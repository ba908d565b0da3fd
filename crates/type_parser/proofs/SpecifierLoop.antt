-- Specifiers, one by one.
use Rattle.std.proofs.Common.{◌≡◌, ◌<◌, ◌≤◌, ℕ, ◌+◌, Bool, true, false, cond, List, [], ◌∷◌, ◌++◌, length, Option, Some, None, refl, sym, ap, ◌∙◌, subst, arith}
use Rattle.c_tree.specs.Tree.{Specifier, Specifiers, no_specifiers, specifiers, type_name}
use Rattle.c_tree.specs.TypeWords.{is_one_type}
use Rattle.c_tree.specs.declared.type_word.TypeWord.{TypeWord}
use Rattle.c_tree.specs.declared.type_word.TypeWord.TheVariants as tw
use Rattle.c_tree.specs.Marks.{Tokens}
use Rattle.c_tree.specs.View.{specifiers_of}
use Rattle.c_grammar.specs.declared.kind.Kind.{Kind}
use Rattle.c_grammar.specs.Kind.{kind, tail_of, head_text}
use Rattle.c_grammar.specs.Body.{done, stop, take, Outcome, got, refused, exceeded, and_then, and_paid, Reader}
use Rattle.c_grammar.specs.Body as body
use Rattle.c_grammar.specs.Gauge.{Meter, within, added}
use Rattle.c_grammar.specs.Input.{Input, next, metered}
use Rattle.c_grammar.specs.Reading.{read}
use Rattle.c_grammar.specs.Rules.{qualifier_of, keyword_of, type_word, Reads, NameEnvironment, skip, naming, all_specifiers, specifiers_by, ends_type, start_of, a_struct, an_enum}
use Rattle.c_grammar.proofs.KindLemmas.{kind_end}
use Rattle.c_grammar.specs.declared.refusal.Refusal.{Refusal}
use Rattle.c_grammar.specs.declared.refusal.Refusal.TheVariants.{Syntax}
use Rattle.c_grammar.specs.Gives.{Fails}
use Rattle.c_grammar.specs.Lists.{mapped, before}
use Rattle.c_grammar.specs.Performing.{perform, at}
use Rattle.c_grammar.proofs.Joining.{tail_mapped, then_fails, perform_leaves}
use Rattle.c_grammar.proofs.Loops.{Turn}
use Rattle.c_grammar.proofs.Opens.{specifiers_performs}
use Rattle.c_grammar.proofs.Shorter.{Leaves, paid_leaves}
use Rattle.c_grammar.specs.declared.start.Start.{Start}
use Rattle.c_grammar.specs.declared.start.Start.TheVariants as sp
use Rattle.type_parser.specs.SpecifierWords.{a_specifier, stays, word_of, behind, goes_on, Follows, Ends, Goes}

module _ (t : NameEnvironment) (d : ℕ) where
  -- the specifiers behind one of them
  abbrev others : Bool → List TypeWord → Specifier → Reader Meter Specifiers
  others b ws x us m = mapped (specifiers x) (read (all_specifiers t d b ws) (at us m))

  chosen : (b : Bool) (f g : Reads Specifiers) (i : Input) → b ≡ true → perform (cond b f g) i ≡ perform f i
  chosen true f g i may = refl
  chosen false f g i may = absurd cc

  paid : (o : Option Meter) (ts : Tokens) (f : Meter → Outcome Meter Specifiers) (h : Meter → Outcome Meter Specifier) (g : Specifier → Reader Meter Specifiers) →
      ((m : Meter) → f m ≡ and_then (h m) g) → and_paid o ts f ≡ and_then (and_paid o ts h) g
  paid None ts f h g same = refl
  paid (Some m) ts f h g same = same m

  -- a name is counted before the specifier, or not
  named : (b : Bool) (f : Reads Specifiers) (h : Reads Specifier) (g : Specifier → Reader Meter Specifiers) (i : Input) →
      ((m : Meter) → perform f (metered m i) ≡ and_then (perform h (metered m i)) g) → perform (naming b d f) i ≡ and_then (perform (naming b d h) i) g
  named true f h g i same = paid (within (added 1 (d + 1) i.meter)) i.rest _ _ g same
  named false f h g i same = same i.meter

  keyword : (b : Bool) (ws : List TypeWord) (x : Specifier) (i : Input) →
      perform (naming b d (skip (body.call (all_specifiers t d false ws) (λ xs. done (specifiers x xs))))) i ≡ and_then (perform (naming b d (skip (done x))) i) (others false ws)
  keyword b ws x i = named b _ _ (others false ws) i (λ m. tail_mapped (specifiers x) (read (all_specifiers t d false ws) (next (metered m i))))

  named_type : (b : Bool) (ws : List TypeWord) (i : Input) →
      perform (naming b d (take (λ n. body.call (all_specifiers t d false ws) (λ xs. done (specifiers (type_name n) xs))))) i ≡ and_then (perform (naming b d (take (λ n. done (type_name n)))) i) (others false ws)
  named_type b ws i = named b _ _ (others false ws) i (λ m. tail_mapped (specifiers (type_name (head_text i.rest))) (read (all_specifiers t d false ws) (next (metered m i))))

  tagged : (ws : List TypeWord) (o : Outcome Meter Specifier) →
      and_then o (λ x us m. and_then (read (all_specifiers t d false ws) (at us m)) (λ xs vs n. got (specifiers x xs) vs n)) ≡ and_then (and_then o (λ x us m. got x us m)) (others false ws)
  tagged ws (got x us m) = tail_mapped (specifiers x) (read (all_specifiers t d false ws) (at us m))
  tagged ws (refused us) = refl
  tagged ws (exceeded us) = refl

  goes : (b : Bool) (ws : List TypeWord) (x : Start) (i : Input) → goes_on ws (Some x) ≡ true →
      perform (specifiers_by t d b ws (Some x)) i ≡ and_then (perform (a_specifier t d b x) i) (others (stays b x) (behind ws (word_of (Some x))))
  goes b ws (sp.Qualifier x) i may = tail_mapped (specifiers (qualifier_of x)) (read (all_specifiers t d b ws) (next i))
  goes b ws (sp.Keyword x) i may = chosen _ _ _ i may ∙ keyword b (ws ++ type_word x ∷ []) (keyword_of x) i
  goes b ws sp.TypeName i may = chosen _ _ _ i may ∙ named_type b (ws ++ tw.Whole ∷ []) i
  goes b ws sp.Struct i may = chosen _ _ _ i may ∙ tagged (ws ++ tw.Whole ∷ []) (read (a_struct t d) (next i))
  goes b ws sp.Enum i may = chosen _ _ _ i may ∙ tagged (ws ++ tw.Whole ∷ []) (read (an_enum t d) (next i))

  goes_by : (b : Bool) (ws : List TypeWord) (x : Start) (i : Input) (f : Option Start) → f ≡ Some x → goes_on ws f ≡ true →
      perform (specifiers_by t d b ws f) i ≡ and_then (perform (a_specifier t d b x) i) (others (stays b x) (behind ws (word_of f)))
  goes_by b ws x i f is may =
      subst (λ f. goes_on ws f ≡ true → perform (specifiers_by t d b ws f) i ≡ and_then (perform (a_specifier t d b x) i) (others (stays b x) (behind ws (word_of f)))) (sym is) (goes b ws x i) may

  specifiers_on : (i : Input) (b : Bool) (ws new : List TypeWord) (x : Start) → Follows (start_of (kind t.types i.rest)) ws x new →
      read (all_specifiers t d b ws) i ≡ and_then (perform (a_specifier t d b x) i) (others (stays b x) new)
  specifiers_on i b ws new x h =
      specifiers_performs t d b ws i ∙ goes_by b ws x i (start_of (kind t.types i.rest)) h.start h.goes ∙
      ap (λ z. and_then (perform (a_specifier t d b x) i) (others (stays b x) z)) (sym h.added)

  -- one more specifier, and the others
  pub specifiers_turn : (i j : Input) (b c : Bool) (ws new : List TypeWord) (x : Start) (v : Specifier) → Follows (start_of (kind t.types i.rest)) ws x new →
      perform (a_specifier t d b x) i ≡ got v j.rest j.meter → c ≡ stays b x →
      Turn specifiers v (read (all_specifiers t d b ws) i) (read (all_specifiers t d c new) j)
  specifiers_turn i j b c ws new x v h e same = record {
    is = specifiers_on i b ws new x h ∙ ap (λ o. and_then o (others (stays b x) new)) e ∙ ap (λ z. mapped (specifiers v) (read (all_specifiers t d z new) j)) (sym same);
  }

  pub specifiers_fail : (i : Input) (b : Bool) (ws new : List TypeWord) (x : Start) (e : Refusal) → Follows (start_of (kind t.types i.rest)) ws x new → Fails (perform (a_specifier t d b x) i) e →
      Fails (read (all_specifiers t d b ws) i) e
  specifiers_fail i b ws new x e h f = subst (λ o. Fails o e) (sym (specifiers_on i b ws new x h)) (then_fails (others (stays b x) new) f)

  -- ---- behind the last

  no_more : (b : Bool) (f g : Reads Specifiers) → b ≡ false → cond b f g ≡ g
  no_more true f g may = absurd cc
  no_more false f g may = refl

  off : (b : Bool) (ws : List TypeWord) (f : Option Start) → goes_on ws f ≡ false → specifiers_by t d b ws f ≡ ends_type ws
  off b ws None may = refl
  off b ws (Some (sp.Qualifier x)) may = absurd cc
  off b ws (Some (sp.Keyword x)) may = no_more _ _ _ may
  off b ws (Some sp.TypeName) may = no_more _ _ _ may
  off b ws (Some sp.Struct) may = no_more _ _ _ may
  off b ws (Some sp.Enum) may = no_more _ _ _ may

  ended : (c : Bool) (ws : List TypeWord) (i : Input) (b : Bool) → is_one_type ws ≡ b → goes_on ws (start_of (kind t.types i.rest)) ≡ false →
      read (all_specifiers t d c ws) i ≡ perform (cond b (done no_specifiers) stop) i
  ended c ws i b is may = specifiers_performs t d c ws i ∙ ap (λ z. perform z i) (off c ws (start_of (kind t.types i.rest)) may) ∙ ap (λ z. perform (cond z (done no_specifiers) stop) i) is

  pub specifiers_end : (i : Input) (c : Bool) (ws : List TypeWord) → goes_on ws (start_of (kind t.types i.rest)) ≡ false → is_one_type ws ≡ true → read (all_specifiers t d c ws) i ≡ got no_specifiers i.rest i.meter
  specifiers_end i c ws may is = ended c ws i true is may

  pub specifiers_stop : (i : Input) (c : Bool) (ws : List TypeWord) (e : Refusal) → goes_on ws (start_of (kind t.types i.rest)) ≡ false → is_one_type ws ≡ false → e ≡ Syntax (length i.rest) →
      Fails (read (all_specifiers t d c ws) i) e
  specifiers_stop i c ws e may is syntax =
      let f : Fails {B = Specifiers} (refused i.rest) (Syntax (length i.rest)) = record { says = refl } in
      subst (λ o. Fails o e) (sym (ended c ws i false is may)) (subst (λ r. Fails {B = Specifiers} (refused i.rest) r) (sym syntax) f)

  -- ---- a specifier takes a token

  naming_leaves : (n : ℕ) (b : Bool) (f : Reads Specifier) (i : Input) → ((m : Meter) → Leaves n (perform f (metered m i))) → Leaves n (perform (naming b d f) i)
  naming_leaves n true f i h = paid_leaves n (within (added 1 (d + 1) i.meter)) i.rest _ h
  naming_leaves n false f i h = h i.meter

  specifier_leaves : (n : ℕ) (b : Bool) (x : Start) (i : Input) → length (tail_of i.rest) ≤ n → Leaves n (perform (a_specifier t d b x) i)
  specifier_leaves n b (sp.Qualifier x) i h = h
  specifier_leaves n b (sp.Keyword x) i h = naming_leaves n b (skip (done (keyword_of x))) i (λ m. h)
  specifier_leaves n b sp.TypeName i h = naming_leaves n b (take (λ y. done (type_name y))) i (λ m. h)
  specifier_leaves n b sp.Struct i h = perform_leaves n (body.call (a_struct t d) done) (next i) h
  specifier_leaves n b sp.Enum i h = perform_leaves n (body.call (an_enum t d) done) (next i) h

  tail_shorter : (ws : List TypeWord) (ts : Tokens) → goes_on ws (start_of (kind t.types ts)) ≡ true → length (tail_of ts) < length ts
  tail_shorter ws [] may =
      let e : false ≡ true = sym (ap (λ z. goes_on ws (start_of z)) (kind_end t.types)) ∙ may in
      absurd cc
  tail_shorter ws (y ∷ ts) may = omega arith

  pub specifiers_shorter : (i j : Input) (b : Bool) (ws new : List TypeWord) (x : Start) (v : Specifier) → Follows (start_of (kind t.types i.rest)) ws x new → perform (a_specifier t d b x) i ≡ got v j.rest j.meter →
      length j.rest < length i.rest
  specifiers_shorter i j b ws new x v h e =
      let l : length j.rest ≤ length (tail_of i.rest) = subst (λ o. Leaves (length (tail_of i.rest)) o) e (specifier_leaves (length (tail_of i.rest)) b x i (omega arith)) in
      omega (arith, tail_shorter ws i.rest h.goes)

-- the list of all of them
pub before_none : (xs : List Specifier) → before specifiers xs no_specifiers ≡ specifiers_of xs
before_none [] = refl
before_none (x ∷ xs) = ap (specifiers x) (before_none xs)

-- what the words say of the next token
pub followed : (here there : Kind) (old new : List TypeWord) (o : Option Start) (x : Start) → Goes (start_of here) old o new → o ≡ Some x → here ≡ there → Follows (start_of there) old x new
followed here there old new o x h some is = subst (λ z. Follows (start_of z) old x new) is (subst (λ z. Goes (start_of here) old z new) some h)

pub ends_here : (here there : Kind) (old new : List TypeWord) (o : Option Start) → Goes (start_of here) old o new → o ≡ None → here ≡ there → Ends (start_of there) old new
ends_here here there old new o h none is = subst (λ z. Ends (start_of z) old new) is (subst (λ z. Goes (start_of here) old z new) none h)
