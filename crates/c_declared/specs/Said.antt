-- What is said of the nodes of a part of the text.
use Rattle.std.specs.Prelude.{List, [], ◌∷◌, ◌++◌, Option, ℤ, Bool, true, ◌&&◌, if◌then◌else◌}
use Rattle.c_rules.specs.Judgement.{Judgement, waits, is_settled}
use Rattle.c_bindings.specs.declared.binding.Binding.{Binding}
use Rattle.c_bindings.specs.Told.{Told, plainly, bound, of_value}

-- What is told of each node, in preorder; and whether the outermost of them have kinds, or count as nodes that have.
pub record Said : Type 0 where
  pub all : List Told
  pub settled : Bool

abbrev pub nothing : Said
nothing = record { all = []; settled = true }

-- of one part, and then of another
abbrev pub both : Said → Said → Said
both s t = record { all = s.all ++ t.all; settled = s.settled && t.settled }

-- of a node, and of those below it
abbrev pub node_told : Told → Said → Said
node_told t below = record { all = t ∷ below.all; settled = is_settled t.judged }

-- of a node that is no name and has no value
abbrev pub node : Judgement → Said → Said
node j below = node_told (plainly j) below

-- of a name, which stands for this behind it
abbrev pub named_node : Option Binding → Judgement → Said → Said
named_node b j below = node_told (bound j b) below

-- of an enumerator with this value
abbrev pub valued_node : Option ℤ → Judgement → Said → Said
valued_node v j below = node_told (of_value j v) below

-- The same of a node that by its form has no kind: whatever is said of it, it counts as a node that has one.
abbrev pub formless : Judgement → Said → Said
formless j below = record { all = plainly j ∷ below.all; settled = true }

-- the same of a case with this value
abbrev pub formless_valued : Option ℤ → Judgement → Said → Said
formless_valued v j below = record { all = of_value j v ∷ below.all; settled = true }

-- a node's own rule is asked once the outermost nodes below it are settled
abbrev pub once : Said → Judgement → Judgement
once below j = if below.settled then j else waits
