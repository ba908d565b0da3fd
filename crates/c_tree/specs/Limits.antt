-- Limits of programs.
use Rattle.std.specs.Prelude.{ℕ, ◌+◌, ◌≤◌, List, length, take, count_by, Bool, true, false, ◌&&◌, ◌||◌, bytes_eq, codes}
use Rattle.base_core.specs.declared.token.Class.{Class}
use Rattle.base_core.specs.declared.token.Class.TheVariants.{Punctuator}
use Rattle.base_core.specs.declared.token.Token.{Token}
use Rattle.base_core.specs.Limits.{most_open, most_nodes, most_depth}
use Rattle.c_tree.specs.Tree.{ItemTree}
use Rattle.c_tree.specs.Spelling.{spell}
use Rattle.c_tree.specs.Nodes.{nodes}
use Rattle.c_tree.specs.Depth.{depth}

abbrev pub is_punctuator : Class → Bool
is_punctuator Punctuator = true
is_punctuator _ = false

-- the token is one of the brackets ( [ { , or of ) ] }
abbrev pub is_opener : Token → Bool
is_opener t = is_punctuator t.class && (bytes_eq t.lexeme (codes "(") || (bytes_eq t.lexeme (codes "[") || bytes_eq t.lexeme (codes "{")))

abbrev pub is_closer : Token → Bool
is_closer t = is_punctuator t.class && (bytes_eq t.lexeme (codes ")") || (bytes_eq t.lexeme (codes "]") || bytes_eq t.lexeme (codes "}")))

-- at each token at most so many brackets are open, counting openers less closers
abbrev pub NestsAtMost : ℕ → List Token → Type 0
NestsAtMost limit tokens = (k : ℕ) → count_by is_opener (take k tokens) ≤ limit + count_by is_closer (take k tokens)

-- the limits of a program: brackets that are open at once, nodes, and depth
pub record WithinLimits (items : List ItemTree) : Type 0 where
  pub brackets : NestsAtMost most_open (spell items)
  pub few : length (nodes items) ≤ most_nodes
  pub shallow : depth items ≤ most_depth
