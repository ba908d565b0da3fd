use Rattle.std.proofs.Common.{◌≡◌, Bool, true, false, List, [], ◌∷◌, map, refl, ap, sym, ◌∙◌}
use Rattle.std.specs.Prelude.{◌↔◌, IsTrue}
use Rattle.std.proofs.lemmas.Bool.{false≢true}
use Rattle.c_tree.specs.declared.tree.Parameter.{Parameter}
use Rattle.c_tree.specs.View.{view_parameter, parameters_of}
use Rattle.c_tree.proofs.ViewLemmas.{view_Params}
use Rattle.node_places.specs.Past.{is_void}
use Rattle.node_places.proofs.expressions.has_void.Goals as goal

without_parameters : (xs : List Parameter) (b : Bool) → (IsTrue b ↔ (xs ≡ [])) → b ≡ is_void (parameters_of (map view_parameter xs)) true
without_parameters [] true h = refl
without_parameters [] false h = absurd (false≢true (h.1 refl))
without_parameters (x ∷ xs) true h = let e = h.0 refl in cc
without_parameters (x ∷ xs) false h = refl

pub returns-then-params : goal.returns-then-params
returns-then-params c =
    let seen = ap (λ ps. is_void ps.0 ps.1) (view_Params c.args.params.now) in
    without_parameters _ c.is_empty.result c.is_empty.ensures ∙ sym (ap (is_void _) c.if-params.true) ∙ sym seen
