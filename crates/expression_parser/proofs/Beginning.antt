-- The first operand, by what it begins with.
use Rattle.std.proofs.Common.{◌≡◌, ℕ, ◌+◌, ◌∷◌, Option, Some, None, refl, ◌∙◌}
use Rattle.c_tree.specs.Marks.{Tokens}
use Rattle.c_tree.specs.Tree.{name, integer, character, text, before, unary}
use Rattle.c_grammar.specs.Body.{Outcome, got, refused, exceeded, and_then, and_paid}
use Rattle.c_grammar.specs.Gauge.{Meter, within, added}
use Rattle.c_grammar.specs.Kind.{kind, head_text}
use Rattle.c_grammar.specs.Input.{Input, next, metered}
use Rattle.c_grammar.specs.Reading.{read}
use Rattle.c_grammar.specs.Rules.{NameEnvironment, a_prefix, an_expression, more_texts, prefix_by, first_of_operand}
use Rattle.c_grammar.specs.declared.infix.First.{First}
use Rattle.c_grammar.specs.declared.infix.First.TheVariants as fi
use Rattle.expression_parser.specs.Beginning.{begun}
use Rattle.c_grammar.specs.Lists.{mapped}
use Rattle.c_grammar.specs.Performing.{perform}
use Rattle.c_grammar.proofs.Opens.{prefix_performs}

paid_mapped : {A B : Type 0} (g : A → B) (o : Option Meter) (ts : Tokens) (f : Meter → Outcome Meter B) (h : Meter → Outcome Meter A) →
    ((m : Meter) → f m ≡ mapped g (h m)) → and_paid o ts f ≡ mapped g (and_paid o ts h)
paid_mapped g None ts f h same = refl
paid_mapped g (Some m) ts f h same = same m

tail_twice : {X A B : Type 0} (g : A → B) (h : X → A) (o : Outcome Meter X) → and_then o (λ v us m. got (g (h v)) us m) ≡ mapped g (and_then o (λ v us m. got (h v) us m))
tail_twice g h (got v us m) = refl
tail_twice g h (refused us) = refl
tail_twice g h (exceeded us) = refl

begins : (t : NameEnvironment) (d least owed : ℕ) (f : Option First) (i : Input) → perform (prefix_by t d least owed f) i ≡ begun t d least owed f i
begins t d least owed None i = refl
begins t d least owed (Some fi.Word) i = paid_mapped (λ n. name n) (within (added owed (d + 1) i.meter)) i.rest _ _ (λ m. refl)
begins t d least owed (Some fi.Number) i = paid_mapped (λ n. integer n) (within (added owed (d + 1) i.meter)) i.rest _ _ (λ m. refl)
begins t d least owed (Some fi.Character) i = paid_mapped (λ n. character n) (within (added owed (d + 1) i.meter)) i.rest _ _ (λ m. refl)
begins t d least owed (Some fi.Text) i =
    paid_mapped (λ ns. text ns) (within (added owed (d + 1) i.meter)) i.rest _ _ (λ m. tail_twice (λ ns. text ns) (λ ns. head_text i.rest ∷ ns) (read more_texts (next (metered m i))))
begins t d least owed (Some fi.Open) i = refl
begins t d least owed (Some fi.Sizeof) i = refl
begins t d least owed (Some (fi.Step o)) i =
    paid_mapped (before o) (within (added (owed + 1) (d + 2) i.meter)) i.rest _ _ (λ m. tail_twice (before o) (λ x. x) (read (an_expression t (d + 1) 15 0) (next (metered m i))))
begins t d least owed (Some (fi.Unary o)) i =
    paid_mapped (unary o) (within (added (owed + 1) (d + 2) i.meter)) i.rest _ _ (λ m. tail_twice (unary o) (λ x. x) (read (an_expression t (d + 1) 14 0) (next (metered m i))))

pub prefix_begins : (t : NameEnvironment) (d least owed : ℕ) (i : Input) → read (a_prefix t d least owed) i ≡ begun t d least owed (first_of_operand (kind t.types i.rest)) i
prefix_begins t d least owed i = prefix_performs t d least owed i ∙ begins t d least owed (first_of_operand (kind t.types i.rest)) i
