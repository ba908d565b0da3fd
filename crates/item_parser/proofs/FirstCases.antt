-- The first declarator of an item by the token behind its name.
use Rattle.std.proofs.Common.{◌≡◌, ◌≢◌, Bool, [], refl, sym, ap, ◌∙◌}
use Rattle.c_tree.specs.Tree.{Name, Stars, DeclaratorTree, plain, function, Parameters}
use Rattle.c_grammar.specs.declared.kind.Kind.{Kind}
use Rattle.c_grammar.specs.declared.kind.Kind.TheVariants as k
use Rattle.c_grammar.specs.Kind.{kind}
use Rattle.c_grammar.specs.Body.{look, got, and_then}
use Rattle.c_grammar.specs.Input.{Input, next}
use Rattle.c_grammar.specs.Performing.{perform, at}
use Rattle.c_grammar.specs.Reading.{read}
use Rattle.c_grammar.specs.Rules.{NameEnvironment, all_parameters, first_by, first_declared_by}

other_first : (t : NameEnvironment) (ss : Stars) (n : Name) (e : Kind) → e ≢ k.OpenBracket → e ≢ k.OpenParen → first_declared_by t ss n e ≡ first_by (plain ss n) e
other_first t ss n k.OpenBracket a b = absurd (a refl)
other_first t ss n k.OpenParen a b = absurd (b refl)
other_first t ss n _ a b = refl

-- a name with neither sizes nor parameters
pub plain_on : (t : NameEnvironment) (ss : Stars) (n : Name) (e : Kind) (i : Input) (x : DeclaratorTree) → e ≡ kind [] i.rest → e ≢ k.OpenBracket → e ≢ k.OpenParen → x ≡ plain ss n →
    perform (look [] (first_declared_by t ss n)) i ≡ perform (look [] (first_by x)) i
plain_on t ss n e i x is a b same =
    ap (λ z. perform (first_declared_by t ss n z) i) (sym is)
    ∙ ap (λ z. perform z i) (other_first t ss n e a b)
    ∙ ap (λ z. perform (first_by (plain ss n) z) i) is
    ∙ ap (λ y. perform (look [] (first_by y)) i) (sym same)

-- a name with parameters
pub function_on : (t : NameEnvironment) (ss : Stars) (n : Name) (i h j : Input) (ps : Parameters × Bool) (x : DeclaratorTree) → kind [] i.rest ≡ k.OpenParen → h ≡ next i →
    read (all_parameters t 2) h ≡ got ps j.rest j.meter → x ≡ function ss n ps.0 ps.1 → perform (look [] (first_declared_by t ss n)) i ≡ perform (look [] (first_by x)) j
function_on t ss n i h j ps x is go e same =
    ap (λ z. perform (first_declared_by t ss n z) i) is
    ∙ ap (λ z. and_then (read (all_parameters t 2) z) (λ qs us m. perform (look [] (first_by (function ss n qs.0 qs.1))) (at us m))) (sym go)
    ∙ ap (λ o. and_then o (λ qs us m. perform (look [] (first_by (function ss n qs.0 qs.1))) (at us m))) e
    ∙ ap (λ y. perform (look [] (first_by y)) j) (sym same)
