use Rattle.std.proofs.Common.{Option, None, Some, false, arith, ap, sym, refl, ◌≡◌, ◌∙◌, option_map, is_some}
use Rattle.c_tree.specs.Search.{progress, seen}
use Rattle.c_tree.proofs.Behind.{passed}
use Rattle.c_tree.proofs.count.add.Goals as goal

none_of : {A : Type 0} (o : Option A) → is_some o ≡ false → o ≡ None
none_of None e = refl
none_of (Some x) e = absurd (cc)

pub returns-in-Some : goal.returns-in-Some
returns-in-Some c = λ ns e.
    let nothing = none_of c.args.search.now.found (sym c.is_some.ensures ∙ c.if-is_some.false) in
    passed 4294967295 c.args.at.now c.in-Some.behind (progress c.args.search.now) ns e (ap (option_map seen) nothing) (omega (arith, c.in-Some.ensures, c.checked_add.ensures))
