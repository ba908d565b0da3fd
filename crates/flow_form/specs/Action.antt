-- What is done on the way from one position to another: by cases on the node whose In0, In1, Leave or Finish is entered.
use Rattle.std.specs.Prelude.{ℕ, ◌+◌, List, [], ◌∷◌, Option, Some, None, Bool, true, false, nat_eq, if◌then◌else◌}
use Rattle.base_core.specs.declared.id.Pos.{Pos}
use Rattle.base_core.specs.declared.id.Phase.{Phase}
use Rattle.base_core.specs.declared.id.Phase.TheVariants.{Enter, In0, In1, Leave, Finish}
use Rattle.c_tree.specs.declared.tree.AssignOp.{AssignOp}
use Rattle.c_tree.specs.declared.tree.AssignOp.TheVariants as o
use Rattle.c_tree.specs.declared.tree.BinaryOp.{BinaryOp}
use Rattle.c_tree.specs.declared.tree.BinaryOp.TheVariants.{And, Or}
use Rattle.c_tree.specs.declared.tree.UnaryOp.{UnaryOp}
use Rattle.c_tree.specs.declared.tree.UnaryOp.TheVariants.{Address, Follow}
use Rattle.c_tree.specs.declared.tree.StepOp.{StepOp}
use Rattle.c_tree.specs.Tree.{Name, Expression, comma, assign, choose, binary, cast, unary, before, size_of, size_of_type, index, call, dot, arrow, after, name, integer, character, text, paren, Expressions, no_expressions, expressions, return_statement}
use Rattle.c_tree.specs.Nodes.{Node, function_node, named_node, statement_node, expression_node}
use Rattle.flow_form.specs.declared.meaning.Call.{Call}
use Rattle.flow_form.specs.declared.meaning.Call.TheVariants.{Value}
use Rattle.c_tree.specs.Behind.{behind_expression, behind_type, behind_declarator}
use Rattle.flow_form.specs.Statements.{optional_values}

-- what a node designates: the object of its own name or string, the object behind the pointer that a's value is, an element
-- of what a's value points to, a member of the object of a, of the object behind a
pub data Place : Type 0 where
  Own : Place
  Behind : (a : ℕ) → Place
  Element : (a i : ℕ) → Place
  Member : (a : ℕ) → Name → Place
  MemberBehind : (a : ℕ) → Name → Place

-- the value that a node takes from the pending values of its operands
pub data Operation : Type 0 where
  Literal : Name → Operation
  Named : Operation
  Truth : Bool → Operation  -- 0 or 1, known by the way on which control comes
  IsNonzero : (a : ℕ) → Operation
  Keep : (a : ℕ) → Operation
  Convert : (a : ℕ) → Operation
  AddressOf : (a : ℕ) → Operation
  Unary : UnaryOp → (a : ℕ) → Operation
  Binary : BinaryOp → (a b : ℕ) → Operation
  SizeOf : Operation
  Nothing : Operation  -- a cast to void: its operand's value is not used, and its own is none

pub data Action : Type 0 where
  Pass : Action  -- nothing but the position changes
  Take : (n : ℕ) → Operation → Action  -- n takes a value
  Designate : (n : ℕ) → Place → Action  -- n takes the object of a place that is not read
  Read : (n : ℕ) → Place → Action  -- n takes what it reads at a place
  Store : (n a b : ℕ) → Action  -- the object of a takes the value of b, and n the same
  Update : (n a : ℕ) → AssignOp → (b : ℕ) → Action  -- the object of a takes its value and b's by the operator, and n the same
  Step : (n a : ℕ) → StepOp → (first : Bool) → Action  -- the object of a steps up or down; n takes its value after (first) or before
  Declare : (n : ℕ) → List ℕ → Action  -- the declared name n begins with these values
  CallIn : (n : ℕ) → (callee : Option ℕ) → List ℕ → Action  -- a call begins; the callee's node where it is a value
  CallOut : (n : ℕ) → (callee : Option ℕ) → List ℕ → Action  -- a call ends, and n takes its result
  Forked : (n : ℕ) → Action  -- the process is copied, or fork fails
  Return : (n : ℕ) → Action  -- the function takes the value of n
  End : (f : ℕ) → Action  -- the function f is left
  Exit : (f : ℕ) → Action  -- the exit processing behind main begins

-- a place is read, or stands as a place
abbrev pub at_place : (is_read : Bool) → ℕ → Place → Action
at_place true n l = Read n l
at_place false n l = Designate n l

abbrev pub numbers : ℕ → Expressions → List ℕ
numbers n no_expressions = []
numbers n (expressions x xs) = n ∷ numbers (behind_expression n x) xs

-- the callee's node where it is a value
abbrev pub value_callee : Call → ℕ → Option ℕ
value_callee Value n = Some n
value_callee _ n = None

abbrev pub short_truth : BinaryOp → Bool
short_truth Or = true
short_truth _ = false

-- && and || give 0 or 1: known behind the left operand a, else by the right operand b
abbrev pub operation : BinaryOp → (a b source : ℕ) → Operation
operation And a b source = if nat_eq source a then Truth false else IsNonzero b
operation Or a b source = if nat_eq source a then Truth true else IsNonzero b
operation o a b source = Binary o a b

-- the value of a cast of a
abbrev pub cast_to : (is_void : Bool) → (a : ℕ) → Operation
cast_to true a = Nothing
cast_to false a = Convert a

-- what is done into the Leave of the expression n, coming from a position of the node source; reads: whether n is read;
-- designates: whether n, a name or `*a`, designates an object (errno, a constant and a function are none); is_void: whether n
-- has the type void; callee: what is called
module _ (reads designates is_void : ℕ → Bool) (callee : ℕ → Call) where
  abbrev pub named : Bool → ℕ → Action
  named true n = at_place (reads n) n Own
  named false n = Take n Named

  -- `*a`, where a is a function or a pointer to one, has a's value
  abbrev pub followed : Bool → (n a : ℕ) → Action
  followed true n a = at_place (reads n) n (Behind a)
  followed false n a = Take n (Keep a)

  abbrev pub leaving : ℕ → Expression → (source : ℕ) → Action
  leaving n (comma x y) s = Take n (Keep (behind_expression (n + 1) x))
  leaving n (assign o.Plain x y) s = Store n (n + 1) (behind_expression (n + 1) x)
  leaving n (assign o x y) s = Update n (n + 1) o (behind_expression (n + 1) x)
  leaving n (choose x y z) s = Take n (Convert s)
  leaving n (binary o x y) s = Take n (operation o (n + 1) (behind_expression (n + 1) x) s)
  leaving n (cast c x) s = Take n (cast_to (is_void n) (behind_type (n + 1) c))
  leaving n (unary Address x) s = Take n (AddressOf (n + 1))
  leaving n (unary Follow x) s = followed (designates n) n (n + 1)
  leaving n (unary o x) s = Take n (Unary o (n + 1))
  leaving n (before o x) s = Step n (n + 1) o true
  leaving n (size_of x) s = Take n SizeOf
  leaving n (size_of_type c) s = Take n SizeOf
  leaving n (index x y) s = at_place (reads n) n (Element (n + 1) (behind_expression (n + 1) x))
  leaving n (call f xs) s = CallOut n (value_callee (callee (n + 1)) (n + 1)) (numbers (behind_expression (n + 1) f) xs)
  leaving n (dot x m) s = at_place (reads n) n (Member (n + 1) m)
  leaving n (arrow x m) s = at_place (reads n) n (MemberBehind (n + 1) m)
  leaving n (after o x) s = Step n (n + 1) o false
  leaving n (name m) s = named (designates n) n
  leaving n (integer m) s = Take n (Literal m)
  leaving n (character m) s = Take n (Literal m)
  leaving n (text ms) s = at_place (reads n) n Own
  leaving n (paren x) s = Take n (Keep (n + 1))

  abbrev pub entering_call : ℕ → Expression → Action
  entering_call n (call f xs) = CallIn n (value_callee (callee (n + 1)) (n + 1)) (numbers (behind_expression (n + 1) f) xs)
  entering_call n x = Pass

  abbrev pub first_numbers : List (ℕ × Expression) → List ℕ
  first_numbers [] = []
  first_numbers (x ∷ xs) = x.0 ∷ first_numbers xs

  -- what is done into the Leave of the node n
  abbrev pub leaving_node : ℕ → Node → (source : ℕ) → Action
  leaving_node n (expression_node x) s = leaving n x s
  leaving_node n (named_node d) s = Declare n (first_numbers (optional_values (behind_declarator (n + 1) d.declarator) d.init))
  leaving_node n (statement_node (return_statement (Some x))) s = Return (n + 1)
  leaving_node n (function_node f) s = End n
  leaving_node n v s = Pass

  abbrev pub entering_in0 : ℕ → Node → Action
  entering_in0 n (expression_node x) = entering_call n x
  entering_in0 n v = Pass

  abbrev pub into : Phase → ℕ → Node → (source : ℕ) → Action
  into Enter n v s = Pass
  into In0 n v s = entering_in0 n v
  into In1 n v s = Forked n
  into Leave n v s = leaving_node n v s
  into Finish n v s = Exit n

  -- what is done from p to q, where v is the node of q
  abbrev pub action : Node → (p q : Pos) → Action
  action v p q = into q.phase q.node.0 v p.node.0
