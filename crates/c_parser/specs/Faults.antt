-- What the faults of parsing say of the tokens of a text.
use Rattle.std.specs.Prelude.{◌≡◌, ◌⊎◌, ℕ, suc, ◌+◌, ◌<◌, ◌≤◌, List, length, take, count_by}
use Rattle.c_tree.specs.Marks.{Tokens}
use Rattle.c_tree.specs.Tree.{ItemTree}
use Rattle.c_tree.specs.Shape.{Shape}
use Rattle.c_tree.specs.Spelling.{spell}
use Rattle.c_tree.specs.Nodes.{nodes}
use Rattle.c_tree.specs.Depth.{depth}
use Rattle.c_tree.specs.Limits.{NestsAtMost, is_opener, is_closer}
use Rattle.base_core.specs.Limits.{most_open, most_nodes, most_depth, fewest_before_large}

-- the program's tokens begin with tokens 0 to k; where k is their number, they are these tokens
abbrev pub BeginsWith : Tokens → ℕ → List ItemTree → Type 0
BeginsWith ts k xs = ((k < length ts) × (take (suc k) (spell xs) ≡ take (suc k) ts)) ⊎ ((k ≡ length ts) × (spell xs ≡ ts))

-- no program begins so
pub record NoneBegins (ts : Tokens) (k : ℕ) : Type 0 where
  pub within : k ≤ length ts
  pub none : (xs : List ItemTree) → Shape xs → ¬ BeginsWith ts k xs

-- no program begins so whose nodes and depth are within the limits, however many brackets it opens; and that many tokens are
-- needed to pass one of these limits
pub record NoneWithinLimitsBegins (ts : Tokens) (k : ℕ) : Type 0 where
  pub within : k ≤ length ts
  pub late : fewest_before_large ≤ k
  pub none : (xs : List ItemTree) → Shape xs → length (nodes xs) ≤ most_nodes → depth xs ≤ most_depth → ¬ BeginsWith ts k xs

-- at token k more than 100 brackets are open for the first time
pub record IsFirstNested (ts : Tokens) (k : ℕ) : Type 0 where
  pub within : k < length ts
  pub more : most_open + count_by is_closer (take (suc k) ts) < count_by is_opener (take (suc k) ts)
  pub first : NestsAtMost most_open (take k ts)
