-- The contexts of frames by the ways in which they begin.
use Rattle.std.specs.Prelude.{◌≡◌, ℕ, ◌≤◌, [], ◌∷◌, ◌++◌, length, Bool, true, false, ◌||◌}
use Rattle.base_core.specs.declared.id.NodeId.{NodeId}
use Rattle.call_ctx.specs.declared.context.Role.{Role}
use Rattle.call_ctx.specs.declared.context.Role.TheVariants.{NoRole}
use Rattle.call_ctx.specs.declared.context.Side.{Side}
use Rattle.call_ctx.specs.declared.context.Ctx.{Ctx}
use Rattle.call_ctx.specs.declared.sites.Sites.TheVariants.{Empty}
use Rattle.call_ctx.specs.Sites.{sites_of, last_of}

-- the context d is c with one more site, of which the last are kept
pub record IsPushed (c : Ctx) (site : NodeId) (depth : ℕ) (d : Ctx) : Type 0 where
  pub sites : sites_of d.sites ≡ last_of depth (sites_of c.sites ++ site ∷ [])
  pub others : d ≡ record c { sites = d.sites }

-- main's first frame, and the first of a thread
abbrev pub base_context : Side → Ctx
base_context entered = record { fault = false; entered = entered; role = NoRole; over = false; handler = false; sites = Empty }

-- a function that is called in c: all marks of c stay
pub record IsCalled (c : Ctx) (site : NodeId) (depth : ℕ) (entered : Side) (d : Ctx) : Type 0 where
  pub sites : sites_of d.sites ≡ last_of depth (sites_of c.sites ++ site ∷ [])
  pub others : d ≡ record c { entered = entered; sites = d.sites }

-- a signal-catching function over a frame in c, which is inside an unsafe function or the exit processing or isn't (POSIX.1-2017 XSH 2.4.3)
abbrev pub arrived_context : Ctx → Bool → Bool → Side → Ctx
arrived_context c inside fault entered =
    record { fault = fault; entered = entered; role = NoRole; over = c.over || inside; handler = true; sites = Empty }

-- a fork handler of a fork in c (POSIX.1-2017 XSH pthread_atfork)
abbrev pub handling_context : Ctx → Role → Side → Ctx
handling_context c role entered = record c { entered = entered; role = role; sites = Empty }

-- at most so many sites are kept
abbrev pub IsWithin : ℕ → Ctx → Type 0
IsWithin depth c = length (sites_of c.sites) ≤ depth
