use Rattle.std.proofs.Common.{length, reverse, ap, ◌∙◌}
use Rattle.c_judgements.specs.Parts.{count}
use Rattle.c_judgements.proofs.Grows.{counts}
use Rattle.c_judgements.proofs.growing.Growing.len.Goals as goal

pub returns : goal.returns
returns g c =
    ap length c.as_slice.ensures.value
    ∙ counts c.self.inside.items.items (reverse c.self.inside.opened.items) c.self.invariant
    ∙ ap count c.self.view_is
