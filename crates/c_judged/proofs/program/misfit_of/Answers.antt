use Rattle.std.proofs.Common.{sym, ◌∙◌, ◌<◌, map, arith, length}
use Rattle.std.proofs.lemmas.List.{length-map}
use Rattle.c_bindings.specs.Seen.{seen_told}
use Rattle.c_judged.proofs.First.{below}
use Rattle.c_judged.proofs.program.misfit_of.Goals as goal

-- the place is below the count
pub returns-in-Some-2 : goal.returns-in-Some-2
returns-in-Some-2 c =
    let h : c.in-Some.place < length (map seen_told c.args.all.now) = below (map seen_told c.args.all.now) (c.in-Some.place, c.in-Some.misfit) (sym c.in-Some.is ∙ c.first_misfit.ensures) in
    let e = length-map c.args.all.now seen_told in
    let no : ⊥ = omega (arith, h, e, c.if-place-count.false) in
    elim no [ ]
