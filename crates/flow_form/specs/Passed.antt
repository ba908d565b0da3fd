-- The ways that a walk has noted when it has passed a part of a tree: those from before, rs, and then the part's, one by one.
use Rattle.std.specs.Prelude.{ℕ, ◌+◌, List, [], ◌∷◌, ◌++◌, Bool, true, false}
use Rattle.c_tree.specs.Tree.{Expression, comma, assign, choose, binary, cast, unary, before, size_of, size_of_type, index, call, dot, arrow, after, name, integer, character, text, paren, Expressions, no_expressions, expressions}
use Rattle.c_tree.specs.Behind.{behind_expression, behind_type}
use Rattle.flow_form.specs.declared.edge.Source.{Source}
use Rattle.flow_form.specs.declared.meaning.Call.{Call}
use Rattle.flow_form.specs.declared.meaning.Call.TheVariants.{Value, Never, Copies}
use Rattle.flow_form.specs.Control.{reads, takes_place, used_value, kept_value, unused_value, cast_source, between, behind_callee}
use Rattle.flow_form.specs.Positions.{Ways, enter, in0, in1, leave, plain, used, kept, ◌⟶◌, ◌⟹◌, if_zero, if_nonzero, choice, ends}
use Rattle.flow_form.specs.Typing.{Typing}

abbrev pub and : List Ways → Ways → List Ways
and rs r = rs ++ r ∷ []

-- c: what is called, by the call n of which a is the callee; f: passes the callee
abbrev pub past_callee : Call → ℕ → ℕ → (List Ways → List Ways) → List Ways → List Ways
past_callee Value n a f rs = f (and rs (enter n ⟶ enter a))
past_callee _ n a f rs = rs

abbrev pub past_called : Call → ℕ → List Ways → List Ways
past_called Never n rs = and rs (ends (plain (in0 n)))
past_called Copies n rs = and (and rs (in0 n ⟶ in1 n)) (in1 n ⟶ leave n)
past_called _ n rs = and rs (in0 n ⟶ leave n)

-- from s into the last operand of n, a; r: the Leave of a; f: passes the operand
abbrev pub past_last : Source → (n a : ℕ) → Source → (List Ways → List Ways) → List Ways → List Ways
past_last s n a r f rs = and (f (and rs (s ⟹ enter a))) (r ⟹ leave n)

abbrev mutual
  pub past : Typing → Bool → ℕ → Expression → List Ways → List Ways
  past t p n (comma x y) rs = past_last (unused_value t (n + 1) x) n (behind_expression (n + 1) x) (used n (behind_expression (n + 1) x) (behind_expression (behind_expression (n + 1) x) y) (reads t false (behind_expression (n + 1) x) y)) (λ us. past t false (behind_expression (n + 1) x) y us) (past t false (n + 1) x (and rs (enter n ⟶ enter (n + 1))))
  past t p n (assign o x y) rs = past_last (kept n (n + 1) (behind_expression (n + 1) x) false) n (behind_expression (n + 1) x) (used n (behind_expression (n + 1) x) (behind_expression (behind_expression (n + 1) x) y) (reads t false (behind_expression (n + 1) x) y)) (λ us. past t false (behind_expression (n + 1) x) y us) (past t true (n + 1) x (and rs (enter n ⟶ enter (n + 1))))
  past t p n (choose x y z) rs = and (past t false (behind_expression (behind_expression (n + 1) x) y) z (and (and (past t false (behind_expression (n + 1) x) y (past t false (n + 1) x (and rs (enter n ⟶ enter (n + 1))))) (used_value t n (behind_expression (n + 1) x) y ⟹ leave n)) (choice (used_value t n (n + 1) x) (if_nonzero (n + 1) (enter (behind_expression (n + 1) x))) (if_zero (n + 1) (enter (behind_expression (behind_expression (n + 1) x) y)))))) (used_value t n (behind_expression (behind_expression (n + 1) x) y) z ⟹ leave n)
  past t p n (binary o x y) rs = and (past t false (behind_expression (n + 1) x) y (and (past t false (n + 1) x (and rs (enter n ⟶ enter (n + 1)))) (between o n (n + 1) (behind_expression (n + 1) x) (reads t false (n + 1) x)))) (used_value t n (behind_expression (n + 1) x) y ⟹ leave n)
  past t p n (cast c x) rs = and (past t false (behind_type (n + 1) c) x (and rs (enter n ⟶ enter (behind_type (n + 1) c)))) (cast_source t n (behind_type (n + 1) c) (behind_expression (behind_type (n + 1) c) x) (reads t false (behind_type (n + 1) c) x) ⟹ leave n)
  past t p n (unary o x) rs = past_last (plain (enter n)) n (n + 1) (used n (n + 1) (behind_expression (n + 1) x) (reads t (takes_place o) (n + 1) x)) (λ us. past t (takes_place o) (n + 1) x us) rs
  past t p n (before o x) rs = past_last (plain (enter n)) n (n + 1) (used n (n + 1) (behind_expression (n + 1) x) (reads t true (n + 1) x)) (λ us. past t true (n + 1) x us) rs
  past t p n (size_of x) rs = and rs (enter n ⟶ leave n)
  past t p n (size_of_type c) rs = and rs (enter n ⟶ leave n)
  past t p n (index x y) rs = past_last (kept_value t n (n + 1) x) n (behind_expression (n + 1) x) (used n (behind_expression (n + 1) x) (behind_expression (behind_expression (n + 1) x) y) (reads t false (behind_expression (n + 1) x) y)) (λ us. past t false (behind_expression (n + 1) x) y us) (past t false (n + 1) x (and rs (enter n ⟶ enter (n + 1))))
  past t p n (call f xs) rs = past_called (t.call (n + 1)) n (past_arguments t (behind_callee (t.call (n + 1)) n (kept_value t n (n + 1) f)) n (behind_expression (n + 1) f) xs (past_callee (t.call (n + 1)) n (n + 1) (λ us. past t false (n + 1) f us) rs))
  past t p n (dot x m) rs = past_last (plain (enter n)) n (n + 1) (used n (n + 1) (behind_expression (n + 1) x) (reads t true (n + 1) x)) (λ us. past t true (n + 1) x us) rs
  past t p n (arrow x m) rs = past_last (plain (enter n)) n (n + 1) (used n (n + 1) (behind_expression (n + 1) x) (reads t false (n + 1) x)) (λ us. past t false (n + 1) x us) rs
  past t p n (after o x) rs = past_last (plain (enter n)) n (n + 1) (used n (n + 1) (behind_expression (n + 1) x) (reads t true (n + 1) x)) (λ us. past t true (n + 1) x us) rs
  past t p n (name m) rs = and rs (enter n ⟶ leave n)
  past t p n (integer m) rs = and rs (enter n ⟶ leave n)
  past t p n (character m) rs = and rs (enter n ⟶ leave n)
  past t p n (text ms) rs = and rs (enter n ⟶ leave n)
  past t p n (paren x) rs = past_last (plain (enter n)) n (n + 1) (used n (n + 1) (behind_expression (n + 1) x) (reads t p (n + 1) x)) (λ us. past t p (n + 1) x us) rs

  pub past_arguments : Typing → Source → (c n : ℕ) → Expressions → List Ways → List Ways
  past_arguments t s c n no_expressions rs = and rs (s ⟹ in0 c)
  past_arguments t s c n (expressions x xs) rs = past_arguments t (kept_value t c n x) c (behind_expression n x) xs (past t false n x (and rs (s ⟹ enter n)))
