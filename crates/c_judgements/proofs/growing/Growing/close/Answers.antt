use Rattle.std.proofs.Common.{length, reverse, ap, sym, subst, ◌∙◌}
use Rattle.c_judgements.specs.Parts.{closed, parts, AreOpen}
use Rattle.c_judgements.proofs.Grows.{closes, closes_open, reverse-push}
use Rattle.c_judgements.proofs.growing.Growing.close.Goals as goal

pub invariant_of-self : goal.invariant_of-self
invariant_of-self g c =
    let opened = ap reverse c.in-Some.ensures.items ∙ reverse-push c.pop.new.self.items c.in-Some.at in
    closes_open c.self.inside.items.items c.in-Some.at (reverse c.pop.new.self.items) c.args.own
    (subst (λ is. AreOpen (length c.self.inside.items.items) is) opened c.self.invariant)

pub returns-in-Some : goal.returns-in-Some
returns-in-Some g c =
    let opened = ap reverse c.in-Some.ensures.items ∙ reverse-push c.pop.new.self.items c.in-Some.at in
    closes c.self.inside.items.items c.in-Some.at (reverse c.pop.new.self.items) c.args.own
    (subst (λ is. AreOpen (length c.self.inside.items.items) is) opened c.self.invariant)
    ∙ ap (λ is. closed c.args.own (parts c.self.inside.items.items is)) (sym opened)
    ∙ ap (closed c.args.own) c.self.view_is
