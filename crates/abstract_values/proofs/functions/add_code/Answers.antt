use Rattle.std.proofs.Common.{sym, ap, ◌∙◌, subst, arith}
use Rattle.std.specs.Prelude.{not}
use Rattle.abstract_values.specs.Codes.{AreCodes}
use Rattle.abstract_values.proofs.Codes.{present, added, codes-with}
use Rattle.abstract_values.proofs.functions.add_code.Goals as goal

pub returns-then-is_at-clause-added : goal.returns-then-is_at-clause-added
returns-then-is_at-clause-added c =
    sym (present _ _ _ _ c.args.codes.now.items c.deref.ensures.value c.deref-2.ensures.value c.place_of-place.ensures.place (c.is_at.ensures.at.0 c.if-is_at.true)).0

pub returns-then-is_at-clause-grew : goal.returns-then-is_at-clause-grew
returns-then-is_at-clause-grew c =
    ap not (sym (present _ _ _ _ c.args.codes.now.items c.deref.ensures.value c.deref-2.ensures.value c.place_of-place.ensures.place (c.is_at.ensures.at.0 c.if-is_at.true)).1)

pub returns-clause-added : goal.returns-clause-added
returns-clause-added c =
    c.in_ok-insert_at.ensures.ok
    ∙ (added _ _ _ _ c.args.codes.now.items c.deref.ensures.value c.deref-2.ensures.value c.place_of-place.ensures.place c.requires.codes (λ at. let stands = c.is_at.ensures.at.1 at in let never = c.if-is_at.false in absurd cc)).0

pub returns-clause-grew : goal.returns-clause-grew
returns-clause-grew c =
    ap not (sym (added _ _ _ _ c.args.codes.now.items c.deref.ensures.value c.deref-2.ensures.value c.place_of-place.ensures.place c.requires.codes (λ at. let stands = c.is_at.ensures.at.1 at in let never = c.if-is_at.false in absurd cc)).1)

pub returns-clause-codes : goal.returns-clause-codes
returns-clause-codes c =
    let is = c.in_ok-insert_at.ensures.ok
    ∙ (added _ _ _ _ c.args.codes.now.items c.deref.ensures.value c.deref-2.ensures.value c.place_of-place.ensures.place c.requires.codes (λ at. let stands = c.is_at.ensures.at.1 at in let never = c.if-is_at.false in absurd cc)).0 in
    subst (AreCodes 0) (sym is) (codes-with 0 c.args.code c.args.codes.now.items (omega arith) c.requires.range c.requires.codes)
