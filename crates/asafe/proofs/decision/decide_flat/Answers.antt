use Rattle.std.proofs.Common.{Err, ap, sym}
use Rattle.asafe.proofs.Texts.{keeps, refuses, is_not_flat}
use Rattle.asafe.proofs.decision.decide_flat.Goals as goal

pub returns-then-are_safe : goal.returns-then-are_safe
returns-then-are_safe c = λ text lexed.
    keeps text c.args.tokens.now c.requires c.in-Ok.program lexed c.in-Ok.ensures.shaped c.in-Ok.ensures.spelled (sym c.if-are_safe.ensures)

pub returns-in-Ok : goal.returns-in-Ok
returns-in-Ok c = λ text lexed.
    refuses text c.args.tokens.now c.requires c.in-Ok.program lexed c.in-Ok.ensures.shaped c.in-Ok.ensures.spelled (sym c.if-are_safe.ensures)

pub returns-in-Err-NotFlat : goal.returns-in-Err-NotFlat
returns-in-Err-NotFlat c = λ text lexed.
    is_not_flat text c.args.tokens.now c.requires lexed (λ u is_flat spelled. c.in-Err-NotFlat.ensures.not_yet (ap Err c.in-Err-NotFlat.field-0-is) u is_flat spelled)
