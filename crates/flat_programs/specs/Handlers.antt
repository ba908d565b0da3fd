-- Handlers at the head of a list of tokens.
use Rattle.std.specs.Prelude.{◌≡◌, List, [], ◌∷◌, ◌++◌, Option, Some, None}
use Rattle.std.specs.Borrow.{Bor}
use Rattle.base_core.specs.declared.token.Token.{Token}
use Rattle.flat_programs.specs.FlatTree.{HandlerTree}
use Rattle.flat_programs.specs.FlatShape.{IsHandlerShaped}
use Rattle.flat_programs.specs.FlatSpelling.{spell_handler}

abbrev pub AreShaped : List HandlerTree → Type 0
AreShaped [] = Unit {0}
AreShaped (h ∷ hs) = IsHandlerShaped h × AreShaped hs

-- no handler stands at the head
abbrev pub NoHandler : List Token → Type 0
NoHandler ts = (h : HandlerTree) (rest : List Token) → IsHandlerShaped h → ts ≡ spell_handler h ++ rest → ⊥

-- the handler at the head was read, or none stands there
abbrev pub ReadsHandler : List Token → Option (HandlerTree × Bor (List Token)) → Type 0
ReadsHandler ts None = NoHandler ts
ReadsHandler ts (Some p) = IsHandlerShaped p.0 × (ts ≡ spell_handler p.0 ++ p.1.now)
