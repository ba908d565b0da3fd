-- What parsing answers, by the rules of the grammar.
use Rattle.std.specs.Prelude.{◌≡◌, ◌⊎◌, ℕ, ◌-◌, List, length, take, Result, Ok, Err}
use Rattle.base_core.specs.Limits.{most_open}
use Rattle.c_tree.specs.Marks.{Tokens}
use Rattle.c_tree.specs.Tree.{ItemTree}
use Rattle.c_tree.specs.Shape.{first_scope}
use Rattle.c_tree.specs.Limits.{NestsAtMost}
use Rattle.c_grammar.specs.Body.{Outcome, got, refused, exceeded}
use Rattle.c_grammar.specs.Gauge.{Meter}
use Rattle.c_grammar.specs.Input.{start_of}
use Rattle.c_grammar.specs.Reading.{read}
use Rattle.c_grammar.specs.Rules.{all_items}
use Rattle.c_parser.specs.declared.fault.ParseFault.{ParseFault}
use Rattle.c_parser.specs.declared.fault.ParseFault.TheVariants.{Syntax, Nested, Large, NoMemory}
use Rattle.c_parser.specs.Faults.{IsFirstNested}
use Rattle.c_parser.specs.Reading.{earlier}

-- of so many tokens: the program that was read, or the first token that no rule goes on with, or with which there are too many
-- nodes or too great a depth
abbrev pub answer_of : ℕ → Outcome Meter (List ItemTree) → Result (List ItemTree) ParseFault
answer_of n (got xs us m) = Ok xs
answer_of n (refused us) = Err (Syntax (n - length us))
answer_of n (exceeded us) = Err (Large (n - length us))

-- what the tokens are read as by the rules for a program (C11 6.9), whatever brackets are open; the program is the first node
abbrev pub reading_of : Tokens → Result (List ItemTree) ParseFault
reading_of ts = answer_of (length ts) (read (all_items first_scope) (start_of ts 1 1))

-- where token k opens a bracket too many: the fault in the tokens before it, if it comes first
abbrev pub stopped_at : ℕ → Result (List ItemTree) ParseFault → Result (List ItemTree) ParseFault
stopped_at k (Ok xs) = Err (Nested k)
stopped_at k (Err fault) = Err (earlier fault k)

-- The one answer to these tokens: what they are read as, or, where token k is the first that opens a bracket too many, what the
-- tokens before it are read as, if that is a fault in front of token k.
abbrev pub IsAnswer : Tokens → Result (List ItemTree) ParseFault → Type 0
IsAnswer ts a = (NestsAtMost most_open ts × (a ≡ reading_of ts)) ⊎ ((k : ℕ) × IsFirstNested ts k × (a ≡ stopped_at k (reading_of (take k ts))))

-- the fault is in the answer, or it is want of memory
abbrev pub IsFaultOf : Tokens → ParseFault → Type 0
IsFaultOf ts fault = (fault ≡ NoMemory) ⊎ IsAnswer ts (Err fault)

-- the fault is what reading comes to, or it is want of memory
abbrev pub IsReadAs : Tokens → ParseFault → Type 0
IsReadAs ts fault = (fault ≡ NoMemory) ⊎ (Err fault ≡ reading_of ts)
