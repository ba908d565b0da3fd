-- The seven rules, each over one step.
use Rattle.std.specs.Prelude.{◌≡◌, List, ◌∷◌, Bool, true, false, ◌||◌, ◌&&◌, not, nat_lt}
use Rattle.base_core.specs.declared.rules.Rule.{Rule}
use Rattle.base_core.specs.declared.rules.Rule.TheVariants.{U, S, E, F, A, M, R}
use Rattle.base_core.specs.declared.rules.Rules.{Rules}
use Rattle.run_model.specs.Signals.{is_fault}
use Rattle.run_model.specs.Values.{same_int}
use Rattle.run_model.specs.Code.{Code}
use Rattle.run_model.specs.World.{How, Arrived, Frame, in_handler}
use Rattle.run_model.specs.Places.{env_of, local_of}
use Rattle.run_model.specs.ThreadSteps.{StepKind, Moves, Leaves}
use Rattle.run_model.specs.ProcessSteps.{Label}
use Rattle.run_model.specs.Unsafe.{is_unsafe, is_finish, role_of, is_child, is_over, forks_over, is_repair, is_sigprocmask}
use Rattle.run_model.specs.References.{references, is_forbidden}

-- ---- the frame `next` has come to where it stands from `top`, over the frames `rest`

-- an unsafe function is entered, and a handler has interrupted an unsafe function or the exit processing (XSH 2.4.3)
abbrev pub breaks_U : Code → Frame → List Frame → Bool
breaks_U code next rest = is_unsafe code next.pos && is_over code (next ∷ rest)

-- a handler refers to an outer object in a way that is forbidden (C11 7.14.1.1p5)
abbrev pub breaks_S : Code → Rules → Label → Frame → Frame → List Frame → Bool
breaks_S code rules l top next rest =
    in_handler (top ∷ rest) && is_forbidden rules code l.shared (references code (env_of top rest) (local_of l.shared l.before.mask l.before.errno top) (code.action top.pos next.pos))

-- in the child of a multi-threaded process an unsafe function is entered, or the exit processing (XSH fork). A child fork handler may unlock
-- and initialise mutexes
abbrev pub breaks_F : Code → Label → Frame → List Frame → Bool
breaks_F code l next rest =
    l.confined && ((is_unsafe code next.pos && not (is_repair code next.pos && is_child (role_of next.how rest))) || is_finish next.pos.phase)

-- a fork handler of a fork that a handler called enters an unsafe function (XSH fork)
abbrev pub breaks_A : Code → Frame → List Frame → Bool
breaks_A code next rest = is_unsafe code next.pos && forks_over next.how rest

-- sigprocmask is entered in a multi-threaded process (XSH pthread_sigmask)
abbrev pub breaks_M : Code → Label → Frame → Bool
breaks_M code l next = is_sigprocmask code next.pos && nat_lt 1 l.count

-- ---- the frame `top` leaves

-- a handler returns with another errno than at its arrival (XSH 2.4.3)
abbrev pub breaks_E : Label → How → Bool
breaks_E l (Arrived sig saved errno) = not (same_int l.before.errno errno)
breaks_E l _ = false

-- the handler of a hardware fault's signal returns (after XSH 2.4.3)
abbrev pub breaks_R : How → Bool
breaks_R (Arrived sig saved errno) = is_fault sig
breaks_R _ = false

-- ----

abbrev pub by_move : Code → Rules → Label → Rule → List Frame → List Frame → Bool
by_move code rules l U (top ∷ rest) (next ∷ _) = breaks_U code next rest
by_move code rules l S (top ∷ rest) (next ∷ _) = breaks_S code rules l top next rest
by_move code rules l F (top ∷ rest) (next ∷ _) = breaks_F code l next rest
by_move code rules l A (top ∷ rest) (next ∷ _) = breaks_A code next rest
by_move code rules l M (top ∷ rest) (next ∷ _) = breaks_M code l next
by_move code rules l _ before after = false

abbrev pub by_leaving : Label → Rule → List Frame → Bool
by_leaving l E (top ∷ rest) = breaks_E l top.how
by_leaving l R (top ∷ rest) = breaks_R top.how
by_leaving l _ before = false

abbrev pub by_kind : Code → Rules → Label → Rule → StepKind → Bool
by_kind code rules l r Moves = by_move code rules l r l.before.stack l.after.stack
by_kind code rules l r Leaves = by_leaving l r l.before.stack
by_kind code rules l r _ = false

-- the step breaks the rule, under these rules
abbrev pub breaks : Code → Rules → Label → Rule → Bool
breaks code rules l r = by_kind code rules l r l.kind

abbrev pub Breaks : Code → Rules → Label → Rule → Type 0
Breaks code rules l r = breaks code rules l r ≡ true
