use Rattle.std.proofs.Common.{ℕ, ◌+◌, ◌<◌, ◌≤◌, All}
use Rattle.c_kinds.specs.Weight.{weight, weigh}
use Rattle.c_kinds.specs.declared.ctype.CType.{size-CType}
use Rattle.c_kinds.specs.declared.ctype.Types.{size-Types}
use Rattle.c_kinds.proofs.ctype.+letting_go.Given as goal

abbrev pub decreases-CType::drop : goal.decreases-CType::drop
decreases-CType::drop l = goal.size-CType::drop l

abbrev pub decreases-CType::let_go : goal.decreases-CType::let_go
decreases-CType::let_go l = goal.size-CType::let_go l

abbrev pub decreases-Types::drop : goal.decreases-Types::drop
decreases-Types::drop l = goal.size-Types::drop l

abbrev pub decreases-Types::let_go : goal.decreases-Types::let_go
decreases-Types::let_go l = goal.size-Types::let_go l

abbrev pub invariant-CType::drop-loop-self : goal.invariant-CType::drop-loop-self
invariant-CType::drop-loop-self l = size-CType l.self ≤ size-CType l.fn.self

abbrev pub invariant-CType::let_go-loop-self : goal.invariant-CType::let_go-loop-self
invariant-CType::let_go-loop-self l = record {
  smaller : size-CType l.self ≤ size-CType l.fn.self;
  lighter : weigh l.left.items + weight l.self ≤ weigh l.fn.left.items + weight l.fn.self;
  lower : (d : ℕ) → size-CType l.fn.self ≤ d → All (λ t. size-CType t < d) l.fn.left.items → All (λ t. size-CType t < d) l.left.items;
}

abbrev pub invariant-Types::drop-loop-one : goal.invariant-Types::drop-loop-one
invariant-Types::drop-loop-one l = All (λ t. size-CType t < size-Types l.fn.self) l.left.items

abbrev pub decreases-Types::drop-loop-one : goal.decreases-Types::drop-loop-one
decreases-Types::drop-loop-one l = weigh l.left.items
