use Rattle.std.proofs.Common.{◌≡◌, ◌∷◌, ◌++◌, List, [], Option, cond, sym, ◌∙◌, ap, subst}
use Rattle.std.specs.Borrow.{Bor}
use Rattle.base_core.specs.declared.token.Token.{Token}
use Rattle.flat_programs.specs.FlatTree.{HandlerTree}
use Rattle.flat_programs.specs.FlatSpelling.{spell_handlers}
use Rattle.flat_programs.specs.Handlers.{AreShaped, ReadsHandler}
use Rattle.flat_programs.proofs.Items.{handlers_more, handler_shorter}
use Rattle.flat_programs.proofs.handler.handlers.Goals as goal

pub next-preserved : goal.next-preserved
next-preserved c =
    let pushed : c.push.new.self.items ≡ c.next.handlers.items ++ c.in-Some.found ∷ [] =
    c.push.ensures.items ∙ ap (λ b. cond b (c.next.handlers.items ++ c.in-Some.found ∷ []) c.next.handlers.items) c.if-is_err.ensures.negation in
    let read = subst (λ (o : Option (HandlerTree × Bor (List Token))). ReadsHandler c.next.rest.now o) c.in-Some.is c.in_ok-handler.ensures in
    subst (λ (hs : List HandlerTree). (c.args.tokens.now ≡ spell_handlers hs ++ c.in-Some.after.now) × AreShaped hs) (sym pushed)
    (handlers_more c.args.tokens.now c.next.handlers.items c.next.rest.now c.in-Some.found c.in-Some.after.now c.next.invariant.0 c.next.invariant.1 read.0 read.1)

pub next-smaller : goal.next-smaller
next-smaller c =
    let read = subst (λ (o : Option (HandlerTree × Bor (List Token))). ReadsHandler c.next.rest.now o) c.in-Some.is c.in_ok-handler.ensures in
    handler_shorter c.next.rest.now c.in-Some.found c.in-Some.after.now read.1
