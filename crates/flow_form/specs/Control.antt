-- Where control goes in expressions (C11 6.5), from left to right, and which node uses each value. x has the number n, its parts
-- have the numbers behind it.
use Rattle.std.specs.Prelude.{ℕ, ◌+◌, List, [], ◌∷◌, ◌++◌, Bool, true, false, not, ◌&&◌}
use Rattle.c_tree.specs.declared.tree.BinaryOp.{BinaryOp}
use Rattle.c_tree.specs.declared.tree.BinaryOp.TheVariants.{And, Or}
use Rattle.c_tree.specs.declared.tree.UnaryOp.{UnaryOp}
use Rattle.c_tree.specs.declared.tree.UnaryOp.TheVariants.{Address, Follow}
use Rattle.c_tree.specs.Tree.{Expression, comma, assign, choose, binary, cast, unary, before, size_of, size_of_type, index, call, dot, arrow, after, name, integer, character, text, paren, Expressions, no_expressions, expressions}
use Rattle.c_tree.specs.Behind.{behind_expression, behind_type}
use Rattle.flow_form.specs.declared.edge.Source.{Source}
use Rattle.flow_form.specs.declared.meaning.Call.{Call}
use Rattle.flow_form.specs.declared.meaning.Call.TheVariants.{Value, Never, Copies}
use Rattle.flow_form.specs.Positions.{Ways, enter, in0, in1, leave, plain, unused, used, kept, ◌⟶◌, ◌⟹◌, if_zero, if_nonzero, choice, ends}
use Rattle.flow_form.specs.Typing.{Typing}

-- x designates an object or errno (C11 6.3.2.1)
abbrev pub designator : Typing → ℕ → Expression → Bool
designator t n (name m) = t.designates n
designator t n (unary Follow x) = t.designates n
designator t n (index x y) = true
designator t n (dot x m) = true
designator t n (arrow x m) = true
designator t n (text ms) = true
designator t n _ = false

-- x is read: it designates an object, has no array type, and does not stand as a place
abbrev pub reads : Typing → (is_place : Bool) → ℕ → Expression → Bool
reads t true n x = false
reads t false n x = designator t n x && not (t.is_array n)

-- the operand of & stands as a place (C11 6.5.3.2)
abbrev pub takes_place : UnaryOp → Bool
takes_place Address = true
takes_place _ = false

-- the Leave of an operand x of n, with the number a: n uses its value at once, when later operands are evaluated, or not
abbrev pub used_value : Typing → (n a : ℕ) → Expression → Source
used_value t n a x = used n a (behind_expression a x) (reads t false a x)

abbrev pub kept_value : Typing → (n a : ℕ) → Expression → Source
kept_value t n a x = kept n a (behind_expression a x) (reads t false a x)

abbrev pub unused_value : Typing → (a : ℕ) → Expression → Source
unused_value t a x = unused a (behind_expression a x) (reads t false a x)

abbrev pub used_unless : (is_void : Bool) → (n a b : ℕ) → (r : Bool) → Source
used_unless true n a b r = unused a b r
used_unless false n a b r = used n a b r

-- a cast to void does not use its operand (C11 6.3.2.2)
abbrev pub cast_source : Typing → (n a b : ℕ) → (r : Bool) → Source
cast_source t n a b r = used_unless (t.is_void n) n a b r

-- from the Enter of n into its first operand, a; then the rest
abbrev pub first : (n a : ℕ) → List Ways → List Ways → List Ways
first n a xs rest = (enter n ⟶ enter a) ∷ (xs ++ rest)

-- from s into the last operand of n, a; r: the Leave of a
abbrev pub last : Source → (n a : ℕ) → Source → List Ways → List Ways
last s n a r xs = (s ⟹ enter a) ∷ (xs ++ (r ⟹ leave n) ∷ [])

-- from the left operand a of n to the right one, b: for && and || by the value of the left one (C11 6.5.13, 6.5.14)
abbrev pub between : BinaryOp → ℕ → ℕ → ℕ → Bool → Ways
between And n a b r = choice (used n a b r) (if_zero a (leave n)) (if_nonzero a (enter b))
between Or n a b r = choice (used n a b r) (if_nonzero a (leave n)) (if_zero a (enter b))
between _ n a b r = kept n a b r ⟹ enter b

abbrev pub operator : Ways → ℕ → ℕ → Source → List Ways → List Ways → List Ways
operator w n a r xs ys = (enter n ⟶ enter a) ∷ (xs ++ w ∷ (ys ++ (r ⟹ leave n) ∷ []))

-- one of two operands is evaluated, by the value of the first, a (C11 6.5.15); r, s, u: the Leaves of the three
abbrev pub chosen : (n a b c : ℕ) → (r s u : Source) → List Ways → List Ways → List Ways → List Ways
chosen n a b c r s u xs ys zs = (enter n ⟶ enter a) ∷ (xs ++ (ys ++ (s ⟹ leave n) ∷ (choice r (if_nonzero a (enter b)) (if_zero a (enter c)) ∷ (zs ++ (u ⟹ leave n) ∷ []))))

-- the call itself, behind its arguments
abbrev pub called : Call → ℕ → List Ways
called Never n = ends (plain (in0 n)) ∷ []
called Copies n = (in0 n ⟶ in1 n) ∷ (in1 n ⟶ leave n) ∷ []
called _ n = (in0 n ⟶ leave n) ∷ []

-- a callee by its plain name is not evaluated; fs: the ways inside it
abbrev pub callee_ways : Call → ℕ → ℕ → List Ways → List Ways
callee_ways Value n a fs = (enter n ⟶ enter a) ∷ fs
callee_ways _ n a fs = []

-- from where control goes to the first argument, or to the call; s: the callee's Leave
abbrev pub behind_callee : Call → ℕ → Source → Source
behind_callee Value n s = s
behind_callee _ n s = plain (enter n)

abbrev mutual
  -- the ways on from the positions of x, which has the number n, and of its parts; all but from x's own Leave
  pub inside : Typing → (is_place : Bool) → ℕ → Expression → List Ways
  inside t p n (comma x y) = first n (n + 1) (inside t false (n + 1) x) (last (unused_value t (n + 1) x) n (behind_expression (n + 1) x) (used_value t n (behind_expression (n + 1) x) y) (inside t false (behind_expression (n + 1) x) y))
  inside t p n (assign o x y) = first n (n + 1) (inside t true (n + 1) x) (last (kept n (n + 1) (behind_expression (n + 1) x) false) n (behind_expression (n + 1) x) (used_value t n (behind_expression (n + 1) x) y) (inside t false (behind_expression (n + 1) x) y))
  inside t p n (choose x y z) = chosen n (n + 1) (behind_expression (n + 1) x) (behind_expression (behind_expression (n + 1) x) y)
      (used_value t n (n + 1) x) (used_value t n (behind_expression (n + 1) x) y) (used_value t n (behind_expression (behind_expression (n + 1) x) y) z)
      (inside t false (n + 1) x) (inside t false (behind_expression (n + 1) x) y) (inside t false (behind_expression (behind_expression (n + 1) x) y) z)
  inside t p n (binary o x y) = operator (between o n (n + 1) (behind_expression (n + 1) x) (reads t false (n + 1) x)) n (n + 1) (used_value t n (behind_expression (n + 1) x) y) (inside t false (n + 1) x) (inside t false (behind_expression (n + 1) x) y)
  inside t p n (cast c x) = last (plain (enter n)) n (behind_type (n + 1) c) (cast_source t n (behind_type (n + 1) c) (behind_expression (behind_type (n + 1) c) x) (reads t false (behind_type (n + 1) c) x)) (inside t false (behind_type (n + 1) c) x)
  inside t p n (unary o x) = last (plain (enter n)) n (n + 1) (used n (n + 1) (behind_expression (n + 1) x) (reads t (takes_place o) (n + 1) x)) (inside t (takes_place o) (n + 1) x)
  inside t p n (before o x) = last (plain (enter n)) n (n + 1) (used n (n + 1) (behind_expression (n + 1) x) false) (inside t true (n + 1) x)
  inside t p n (size_of x) = (enter n ⟶ leave n) ∷ []
  inside t p n (size_of_type c) = (enter n ⟶ leave n) ∷ []
  inside t p n (index x y) = first n (n + 1) (inside t false (n + 1) x) (last (kept_value t n (n + 1) x) n (behind_expression (n + 1) x) (used_value t n (behind_expression (n + 1) x) y) (inside t false (behind_expression (n + 1) x) y))
  inside t p n (call f xs) = callee_ways (t.call (n + 1)) n (n + 1) (inside t false (n + 1) f)
      ++ (arguments t (behind_callee (t.call (n + 1)) n (kept_value t n (n + 1) f)) n (behind_expression (n + 1) f) xs ++ called (t.call (n + 1)) n)
  inside t p n (dot x m) = last (plain (enter n)) n (n + 1) (used n (n + 1) (behind_expression (n + 1) x) false) (inside t true (n + 1) x)
  inside t p n (arrow x m) = last (plain (enter n)) n (n + 1) (used_value t n (n + 1) x) (inside t false (n + 1) x)
  inside t p n (after o x) = last (plain (enter n)) n (n + 1) (used n (n + 1) (behind_expression (n + 1) x) false) (inside t true (n + 1) x)
  inside t p n (name m) = (enter n ⟶ leave n) ∷ []
  inside t p n (integer m) = (enter n ⟶ leave n) ∷ []
  inside t p n (character m) = (enter n ⟶ leave n) ∷ []
  inside t p n (text ms) = (enter n ⟶ leave n) ∷ []
  inside t p n (paren x) = last (plain (enter n)) n (n + 1) (used n (n + 1) (behind_expression (n + 1) x) (reads t p (n + 1) x)) (inside t p (n + 1) x)

  -- from s through the arguments of the call c, of which the first has the number n, to the call's In0
  pub arguments : Typing → Source → (c n : ℕ) → Expressions → List Ways
  arguments t s c n no_expressions = (s ⟹ in0 c) ∷ []
  arguments t s c n (expressions x xs) = (s ⟹ enter n) ∷ (inside t false n x ++ arguments t (kept_value t c n x) c (behind_expression n x) xs)
