-- What a body reads from an input, as code reads it: where a token is taken, one stands there.
use Rattle.std.specs.Prelude.{length, nat_lt, cond}
use Rattle.c_tree.specs.Marks.{Tokens}
use Rattle.c_grammar.specs.Kind.{kind, head_text}
use Rattle.c_grammar.specs.Body.{done, stop, look, take, spend, rise, call, strict, scope, Outcome, got, refused, and_then, and_paid}
use Rattle.c_grammar.specs.Gauge.{Meter, within, added, raised, entered, left}
use Rattle.c_grammar.specs.Input.{Input, next, metered}
use Rattle.c_grammar.specs.Reading.{read}
use Rattle.c_grammar.specs.Rules.{Reads}

abbrev pub at : Tokens → Meter → Input
at ts m = record { rest = ts; meter = m }

abbrev pub perform : {A : Type 0} → Reads A → Input → Outcome Meter A
perform (done a) i = got a i.rest i.meter
perform stop i = refused i.rest
perform (look types f) i = perform (f (kind types i.rest)) i
perform (take f) i = perform (f (head_text i.rest)) (next i)
perform (spend n d b) i = and_paid (within (added n d i.meter)) i.rest (λ m. perform b (metered m i))
perform (rise b) i = and_paid (within (raised i.meter)) i.rest (λ m. perform b (metered m i))
perform (call r f) i = and_then (read r i) (λ v us m. perform (f v) (at us m))
perform (strict r f) i = and_then (read r i) (λ v us m. cond (nat_lt (length us) (length i.rest)) (perform (f v) (at us m)) (refused us))
perform (scope n r f) i = and_then (read r (metered (entered n i.meter) i)) (λ v us m. perform (f v) (at us (left i.meter m)))
