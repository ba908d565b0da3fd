-- What a parser reads from: the tokens that are left, and what was spent.
use Rattle.std.specs.Prelude.{ℕ, max}
use Rattle.c_tree.specs.Marks.{Tokens}
use Rattle.c_grammar.specs.Kind.{tail_of}
use Rattle.c_grammar.specs.Gauge.{Meter}

pub record Input : Type 0 where
  pub rest : Tokens
  pub meter : Meter

abbrev pub start_of : Tokens → ℕ → ℕ → Input
start_of tokens made peak = record { rest = tokens; meter = record { made = made; peak = peak } }

-- behind the next token
abbrev pub next : Input → Input
next i = record i { rest = tail_of i.rest }

-- with another meter
abbrev pub metered : Meter → Input → Input
metered m i = record i { meter = m }

-- outside a scope again, where the deepest node had this depth before it
abbrev pub back_to : ℕ → Meter → Meter
back_to outer m = record { made = m.made; peak = max outer m.peak }
