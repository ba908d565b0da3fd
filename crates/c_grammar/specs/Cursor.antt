-- What a `Cursor` shows, and what it keeps ready.
use Rattle.std.specs.Prelude.{◌≡◌, []}
use Rattle.c_grammar.specs.declared.cursor.Cursor.TheInside.{Inside}
use Rattle.c_grammar.specs.Kind.{kind}
use Rattle.c_grammar.specs.Input.{Input}

abbrev pub input_of : Inside → Input
input_of c = record { rest = c.rest.now; meter = record { made = c.made; peak = c.peak } }

-- the kind of the next token is at hand
abbrev pub IsReady : Inside → Type 0
IsReady c = c.kind ≡ kind [] c.rest.now
