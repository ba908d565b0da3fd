-- Limits of programs are passed late.
use Rattle.std.specs.Prelude.{◌≡◌, ◌+◌, ◌≤◌, length}
use Rattle.base_core.specs.Limits.{fewest_before_large}
use Rattle.c_tree.specs.Marks.{Tokens}
use Rattle.c_tree.specs.Shape.{first_scope}
use Rattle.c_grammar.specs.Body.{exceeded}
use Rattle.c_grammar.specs.Input.{start_of}
use Rattle.c_grammar.specs.Reading.{read}
use Rattle.c_grammar.specs.Rules.{all_items}

-- where reading the items of a program passes a limit, 900 tokens at least are behind
abbrev pub LimitsComeLate : Type 0
LimitsComeLate = (ts us : Tokens) → read (all_items first_scope) (start_of ts 1 1) ≡ exceeded us → length us + fewest_before_large ≤ length ts
