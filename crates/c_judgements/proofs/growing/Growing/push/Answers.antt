use Rattle.std.proofs.Common.{[], ◌∷◌, length, reverse, ap, sym, subst, ◌∙◌}
use Rattle.c_judgements.specs.Parts.{added, parts, AreOpen}
use Rattle.c_judgements.proofs.Grows.{grown, pushes_open}
use Rattle.c_judgements.proofs.growing.Growing.push.Goals as goal

pub invariant_of-self-2 : goal.invariant_of-self-2
invariant_of-self-2 g c =
    subst (λ xs. AreOpen (length xs) (reverse c.self.inside.opened.items)) (sym c.in_ok-push.ensures.items)
    (pushes_open c.self.inside.items.items (reverse c.self.inside.opened.items) c.args.own c.self.invariant)

pub returns-clause-ok : goal.returns-clause-ok
returns-clause-ok g c =
    ap (λ xs. parts xs (reverse c.self.inside.opened.items)) c.in_ok-push.ensures.items
    ∙ grown c.self.inside.items.items (c.args.own ∷ []) (reverse c.self.inside.opened.items) c.self.invariant
    ∙ ap (added (c.args.own ∷ [])) c.self.view_is
