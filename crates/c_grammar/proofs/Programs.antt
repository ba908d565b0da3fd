-- What is read of the tokens of a text: the program that they spell, or why there is none.
use Rattle.std.proofs.Common.{◌≡◌, ℕ, suc, ◌≤◌, List, [], ◌∷◌, ◌++◌, length, Some, refl, sym, ap, ◌∙◌, append-nil, arith}
use Rattle.base_core.specs.declared.token.Token.{Token}
use Rattle.c_tree.specs.Marks.{Tokens}
use Rattle.c_tree.specs.Shape.{Shape, first_scope}
use Rattle.c_tree.specs.Spelling.{spell}
use Rattle.c_tree.specs.Nodes.{nodes}
use Rattle.c_tree.specs.Depth.{depth}
use Rattle.c_tree.specs.Tree.{ItemTree}
use Rattle.c_grammar.specs.Body.{Outcome, got, refused, exceeded, reads}
use Rattle.c_grammar.specs.Gauge.{Meter, free, counted, limited}
use Rattle.c_grammar.specs.Input.{Input}
use Rattle.c_grammar.specs.Reading.{read, no_rule, past_limit, failure_of}
use Rattle.c_grammar.specs.Rules.{Rule, Result, rule, rank, top, all_items}
use Rattle.c_grammar.proofs.Parse.{bounded}
use Rattle.c_grammar.proofs.Conditions.{all_go}
use Rattle.c_grammar.proofs.Sure.{holds_got}
use Rattle.c_grammar.proofs.Read.{Read}
use Rattle.c_grammar.proofs.Declares.Apart.{Yields}
use Rattle.c_grammar.proofs.Costs.Counting.{Costs}
use Rattle.c_grammar.proofs.Limits.{limited_free, limited_free-refused, limited_counted, free_counted, within_limits, Fits-fits}
use Rattle.c_grammar.proofs.Local.{refused_early, exceeded_early}
use Rattle.c_grammar.proofs.Onto.{onto_program}
use Rattle.c_grammar.proofs.Sound.All.{all_sound}
use Rattle.c_grammar.proofs.Costs.All.{all_cost}
use Rattle.c_grammar.proofs.OntoSpelling.{program_onto}
use Rattle.c_grammar.proofs.ReadBack.Items.{reads_back as parses_back}
use Rattle.c_grammar.proofs.Parse.{parse}

abbrev pub whole : Rule
whole = all_items first_scope

-- the program itself is counted
abbrev pub begun : Tokens → Input
begun ts = record { rest = ts; meter = record { made = 1; peak = 1 } }

abbrev limited_read : Tokens → Outcome Meter (List ItemTree)
limited_read ts = reads Rule Result rank rule Meter limited top whole ts (record { made = 1; peak = 1 })

abbrev free_read : Tokens → Outcome (Unit {0}) (List ItemTree)
free_read ts = reads Rule Result rank rule (Unit {0}) free top whole ts tt

opened : (ts : Tokens) → read whole (begun ts) ≡ limited_read ts
unfolding read
opened ts = refl

program_spells : (xs : List ItemTree) → onto_program xs [] ≡ spell xs
program_spells xs = program_onto xs [] ∙ append-nil (spell xs)

reads_back : (xs : List ItemTree) → Shape xs → free_read (spell xs) ≡ got xs [] tt
unfolding parse
reads_back xs shape = parses_back xs shape

-- what was read: a program that the tokens spell, with its nodes and its depth
pub record Found (ts us : Tokens) (xs : List ItemTree) (m : Meter) : Type 0 where
  pub shape : Shape xs
  pub spelled : ts ≡ spell xs
  pub ended : us ≡ []
  pub made : m.made ≡ length (nodes xs)
  pub peak : m.peak ≡ depth xs

pub found : (ts us : Tokens) (xs : List ItemTree) (m : Meter) → read whole (begun ts) ≡ got xs us m → Found ts us xs m
found ts us xs m e =
    let e' : limited_read ts ≡ got xs us m = sym (opened ts) ∙ e in
    let freely = limited_free Rule Result rank rule top whole ts (record { made = 1; peak = 1 }) xs us m e' in
    let counting = limited_counted Rule Result rank rule top whole ts (record { made = 1; peak = 1 }) xs us m e' in
    let s : Read whole ts tt xs us tt = (holds_got (Yields whole ts tt) (free_read ts) xs us tt (all_go (Unit {0}) free Yields (λ r vs x. all_sound r vs) whole ts tt) freely).0 in
    let c : Costs whole ts (record { made = 1; peak = 1 }) xs us m =
    holds_got (Costs whole ts (record { made = 1; peak = 1 })) (reads Rule Result rank rule Meter counted top whole ts (record { made = 1; peak = 1 })) xs us m
    (all_go Meter counted Costs all_cost whole ts (record { made = 1; peak = 1 })) counting in
    record {
      shape = s.2;
      spelled = s.0 ∙ ap (λ r. onto_program xs r) s.1 ∙ program_spells xs;
      ended = s.1;
      made = (c (omega arith)).0 ∙ omega arith;
      peak = (c (omega arith)).1 ∙ omega arith;
    }

clash_refused : (xs : List ItemTree) (us vs : Tokens) → ◌≡◌ {A = Outcome (Unit {0}) (List ItemTree)} (got xs us tt) (refused vs) → ⊥
clash_refused xs us vs e = absurd cc

clash_exceeded : (xs : List ItemTree) (us vs : Tokens) (m : Meter) → ◌≡◌ {A = Outcome Meter (List ItemTree)} (got xs us m) (exceeded vs) → ⊥
clash_exceeded xs us vs m e = absurd cc

same_program : (xs ys : List ItemTree) (us vs : Tokens) → ◌≡◌ {A = Outcome (Unit {0}) (List ItemTree)} (got xs us tt) (got ys vs tt) → xs ≡ ys
same_program xs ys us vs e = cc

-- two programs of that shape with equal spelling are equal
pub unique : (a b : List ItemTree) → Shape a → Shape b → spell a ≡ spell b → a ≡ b
unique a b s u e = same_program a b [] [] (sym (reads_back a s) ∙ ap free_read e ∙ reads_back b u)

-- a program within the limits is read within them
reads_within : (xs : List ItemTree) → Shape xs → length (nodes xs) ≤ 100000 → depth xs ≤ 1000 → (m : Meter) × (limited_read (spell xs) ≡ got xs [] m)
reads_within xs s few shallow =
    let counting = free_counted Rule Result rank rule top whole (spell xs) (record { made = 1; peak = 1 }) xs [] (reads_back xs s) in
    let c : Costs whole (spell xs) (record { made = 1; peak = 1 }) xs [] counting.0 =
    holds_got (Costs whole (spell xs) (record { made = 1; peak = 1 })) (reads Rule Result rank rule Meter counted top whole (spell xs) (record { made = 1; peak = 1 })) xs [] counting.0
    (all_go Meter counted Costs all_cost whole (spell xs) (record { made = 1; peak = 1 })) counting.1 in
    let d = c (omega arith) in (
      counting.0,
      within_limits Rule Result rank rule top whole (spell xs) (record { made = 1; peak = 1 }) xs [] counting.0 counting.1
          (Fits-fits counting.0 (record { made = omega (arith, d.0, few); peak = omega (arith, d.1, shallow) })),
    )

-- A reading that ends by a refusal: where it ends is all that is told.
refused_at : {X A : Type 0} (o : Outcome X A) (n : ℕ) → failure_of o ≡ Some (no_rule n) → (us : Tokens) × (o ≡ refused us) × (length us ≡ n)
refused_at (got a ts x) n e = absurd cc
refused_at (refused ts) n e = let same : length ts ≡ n = cc in (ts, refl, same)
refused_at (exceeded ts) n e = absurd cc

exceeded_at : {X A : Type 0} (o : Outcome X A) (n : ℕ) → failure_of o ≡ Some (past_limit n) → (us : Tokens) × (o ≡ exceeded us) × (length us ≡ n)
exceeded_at (got a ts x) n e = absurd cc
exceeded_at (refused ts) n e = absurd cc
exceeded_at (exceeded ts) n e = let same : length ts ≡ n = cc in (ts, refl, same)

-- Where a token is refused, no program's tokens begin with those up to it, whatever follows.
pub refused_means : (u s : Tokens) (t : Token) → failure_of (read whole (begun (u ++ t ∷ s))) ≡ Some (no_rule (suc (length s))) →
    (xs : List ItemTree) → Shape xs → (s' : Tokens) → spell xs ≡ u ++ t ∷ s' → ⊥
refused_means u s t e xs shape s' begins =
    let at = refused_at (limited_read (u ++ t ∷ s)) (suc (length s)) (ap failure_of (sym (opened (u ++ t ∷ s))) ∙ e) in
    let freely = limited_free-refused Rule Result rank rule top whole (u ++ t ∷ s) (record { made = 1; peak = 1 }) at.0 at.1 in
    let early = refused_early Rule Result rank rule (Unit {0}) free top bounded u s s' t whole tt at.0 freely (omega (arith, at.2)) in
    clash_refused xs [] (early.0 ++ t ∷ s') (sym (reads_back xs shape) ∙ ap free_read begins ∙ early.2)

-- Where the end is refused, the tokens are those of no program.
pub refused_end : (ts : Tokens) → failure_of (read whole (begun ts)) ≡ Some (no_rule 0) → (xs : List ItemTree) → Shape xs → spell xs ≡ ts → ⊥
refused_end ts e xs shape same =
    let at = refused_at (limited_read ts) 0 (ap failure_of (sym (opened ts)) ∙ e) in
    let freely = limited_free-refused Rule Result rank rule top whole ts (record { made = 1; peak = 1 }) at.0 at.1 in
    clash_refused xs [] at.0 (sym (reads_back xs shape) ∙ ap free_read same ∙ freely)

-- Where a token passes a limit, no program within the limits begins with those up to it, whatever follows.
pub exceeded_means : (u s : Tokens) (t : Token) → failure_of (read whole (begun (u ++ t ∷ s))) ≡ Some (past_limit (suc (length s))) →
    (xs : List ItemTree) → Shape xs → length (nodes xs) ≤ 100000 → depth xs ≤ 1000 → (s' : Tokens) → spell xs ≡ u ++ t ∷ s' → ⊥
exceeded_means u s t e xs shape few shallow s' begins =
    let at = exceeded_at (limited_read (u ++ t ∷ s)) (suc (length s)) (ap failure_of (sym (opened (u ++ t ∷ s))) ∙ e) in
    let early = exceeded_early Rule Result rank rule Meter limited top bounded u s s' t whole (record { made = 1; peak = 1 }) at.0 at.1 (omega (arith, at.2)) in
    let back = reads_within xs shape few shallow in
    clash_exceeded xs [] (early.0 ++ t ∷ s') back.0 (sym back.1 ∙ ap limited_read begins ∙ early.2)

pub exceeded_end : (ts : Tokens) → failure_of (read whole (begun ts)) ≡ Some (past_limit 0) → (xs : List ItemTree) → Shape xs → length (nodes xs) ≤ 100000 → depth xs ≤ 1000 → spell xs ≡ ts → ⊥
exceeded_end ts e xs shape few shallow same =
    let at = exceeded_at (limited_read ts) 0 (ap failure_of (sym (opened ts)) ∙ e) in
    let back = reads_within xs shape few shallow in
    clash_exceeded xs [] at.0 back.0 (sym back.1 ∙ ap limited_read same ∙ at.1)
