-- Where control goes in statements (C11 6.8), functions and programs.
use Rattle.std.specs.Prelude.{ℕ, ◌+◌, List, [], ◌∷◌, ◌++◌, Option, Some, None, Bool, true, false, bytes_eq, nat_eq, ◌||◌, if◌then◌else◌}
use Rattle.base_core.specs.declared.id.Pos.{Pos}
use Rattle.c_tree.specs.Tree.{Name, Expression, Initializer, single, listed, Initializers, no_initializers, initializers, NamedTree, DeclarationTree, ForStartTree, start_declaration, start_expression, StatementTree, block, declaration, expression_statement, if_statement, if_else_statement, while_statement, do_statement, for_statement, switch_statement, case_label, default_label, named_label, break_statement, continue_statement, return_statement, goto_statement, Statements, no_statements, statements, FunctionTree, ItemTree, function_item, declaration_item}
use Rattle.flow_form.specs.declared.edge.Edge.{Edge}
use Rattle.flow_form.specs.declared.edge.Guard.TheVariants.{Equal, NoneOf}
use Rattle.flow_form.specs.Typing.{Typing}
use Rattle.c_tree.specs.Behind.{behind_expression, behind_specifiers, behind_declarator, behind_parameters, behind_init, behind_named, behind_optional, behind_start, behind_statement, behind_item}
use Rattle.flow_form.specs.declared.edge.Source.{Source}
use Rattle.flow_form.specs.Control.{used_value, kept_value, unused_value, last, inside}
use Rattle.flow_form.specs.Positions.{Ways, node, enter, leave, finish, plain, unused, giving, ◌⟶◌, ◌⟹◌, if_zero, if_nonzero, choice, ends, otherwise}

-- where jumps lead: a break, a continue, a return from this function, and a goto by the name of its label
pub record Around : Type 0 where
  pub stop : Pos
  pub again : Pos
  pub function : ℕ
  pub labels : List (Name × ℕ)

abbrev pub in_loop : Around → Pos → Pos → Around
in_loop w stop again = record { stop = stop; again = again; function = w.function; labels = w.labels }

abbrev pub in_switch : Around → Pos → Around
in_switch w stop = record { stop = stop; again = w.again; function = w.function; labels = w.labels }

-- the Enter of the label of this name
abbrev pub label : Name → List (Name × ℕ) → Option Pos
label m [] = None
label m (l ∷ ls) = if bytes_eq m l.0 then Some (enter l.1) else label m ls

-- where control goes from the Leave of a statement that jumps (C11 6.8.6)
abbrev pub jump : Around → StatementTree → Option Pos
jump w break_statement = Some w.stop
jump w continue_statement = Some w.again
jump w (return_statement x) = Some (leave w.function)
jump w (goto_statement m) = label m w.labels
jump w _ = None

-- the Leave of the statement s, which has the number n: where s is a return with an operand, the function has its result there
abbrev pub leaving : Around → ℕ → StatementTree → Source
leaving w n (return_statement (Some x)) = giving w.function n
leaving w n s = plain (leave n)

-- from the Leave of the statement s, which has the number n: to p, unless s jumps
abbrev pub from : Around → ℕ → StatementTree → Pos → Ways
from w n s p = leaving w n s ⟹ otherwise p (jump w s)

-- the expressions of an initialiser in order of the text, with their numbers
abbrev mutual
  pub values : ℕ → Initializer → List (ℕ × Expression)
  values n (single x) = (n, x) ∷ []
  values n (listed is c) = all_values (n + 1) is

  pub all_values : ℕ → Initializers → List (ℕ × Expression)
  all_values n no_initializers = []
  all_values n (initializers m i is) = values n i ++ all_values (behind_init n i) is

abbrev pub optional_values : ℕ → Option Initializer → List (ℕ × Expression)
optional_values n None = []
optional_values n (Some i) = values n i

-- from s through these expressions, whose values the declared name n uses, to its Leave
abbrev pub through : Typing → Source → ℕ → List (ℕ × Expression) → List Ways
through t s n [] = (s ⟹ leave n) ∷ []
through t s n (x ∷ xs) = (s ⟹ enter x.0) ∷ (inside t false x.0 x.1 ++ through t (kept_value t n x.0 x.1) n xs)

-- the Leave of the declared name n, behind which the number b stands
abbrev pub declared : (n b : ℕ) → Source
declared n b = unused n b false

-- from s through the declared names that are automatic variables, of which the first name has the number n, to q (C11 6.7.9)
abbrev pub names_ways : Typing → Source → Pos → ℕ → List NamedTree → List Ways
names_ways t s q n [] = (s ⟹ q) ∷ []
names_ways t s q n (d ∷ ds) = if t.is_automatic n
    then (s ⟹ enter n) ∷ (through t (plain (enter n)) n (optional_values (behind_declarator (n + 1) d.declarator) d.init) ++ names_ways t (declared n (behind_named n d)) q (behind_named n d) ds)
    else names_ways t s q (behind_named n d) ds

abbrev pub declaration_ways : Typing → ℕ → DeclarationTree → List Ways
declaration_ways t n d = names_ways t (plain (enter n)) (leave n) (behind_specifiers (n + 1) d.specs) d.names

-- to q, or into the optional expression n
abbrev pub to_optional : ℕ → Option Expression → Pos → Pos
to_optional n None q = q
to_optional n (Some x) q = enter n

-- an optional expression whose value no node uses, and from there to q
abbrev pub step_ways : Typing → ℕ → Option Expression → Pos → List Ways
step_ways t n None q = []
step_ways t n (Some x) q = inside t false n x ++ (unused_value t n x ⟹ q) ∷ []

-- the optional condition a of the loop n, and by its value to the Leave of n or to its body b
abbrev pub condition_ways : Typing → (n a b : ℕ) → Option Expression → List Ways
condition_ways t n a b None = []
condition_ways t n a b (Some x) = inside t false a x ++ choice (used_value t n a x) (if_zero a (leave n)) (if_nonzero a (enter b)) ∷ []

-- the first part of a for, n: from p to it, and from it to q
abbrev pub start_ways : Typing → Pos → ℕ → ForStartTree → Pos → List Ways
start_ways t p n (start_declaration d) q = (p ⟶ enter n) ∷ (declaration_ways t n d ++ (leave n ⟶ q) ∷ [])
start_ways t p n (start_expression x) q = (p ⟶ to_optional n x q) ∷ step_ways t n x q

-- the edge to the statement n, if it is a label of the switch s, whose expression is a (C11 6.8.4.2)
abbrev pub case_edges : Typing → (s a n : ℕ) → StatementTree → List Edge
case_edges t s a n (case_label x) = record { to = enter n; guard = Equal (node a) (t.constant n) } ∷ []
case_edges t s a n default_label = record { to = enter n; guard = NoneOf (node s) } ∷ []
case_edges t s a n _ = []

-- the edges to the labels directly in a switch's block, from the statement n on
abbrev pub cases : Typing → (s a n : ℕ) → Statements → List Edge
cases t s a n no_statements = []
cases t s a n (statements r rs) = case_edges t s a n r ++ cases t s a (behind_statement n r) rs

abbrev pub is_default : StatementTree → Bool
is_default default_label = true
is_default s = false

abbrev pub has_default : Statements → Bool
has_default no_statements = false
has_default (statements r rs) = is_default r || has_default rs

-- without a default, control leaves the switch
abbrev pub leave_edges : Bool → ℕ → List Edge
leave_edges true s = []
leave_edges false s = record { to = leave s; guard = NoneOf (node s) } ∷ []

-- where control goes from the expression a of the switch s, which has the body b
abbrev pub switch_edges : Typing → (s a b : ℕ) → StatementTree → List Edge
switch_edges t s a b (block ss) = leave_edges (has_default ss) s ++ cases t s a (b + 1) ss
switch_edges t s a b _ = []

abbrev mutual
  -- the ways on from the positions of a statement, which has the number n, and of its parts; all but from its own Leave
  pub statement_ways : Typing → Around → ℕ → StatementTree → List Ways
  statement_ways t w n (block ss) = in_order t w (plain (enter n)) None (leave n) (n + 1) ss
  statement_ways t w n (declaration d) = declaration_ways t n d
  statement_ways t w n (expression_statement None) = (enter n ⟶ leave n) ∷ []
  statement_ways t w n (expression_statement (Some x)) = last (plain (enter n)) n (n + 1) (unused_value t (n + 1) x) (inside t false (n + 1) x)
  statement_ways t w n (if_statement x s) =
      let a = n + 1 in let b = behind_expression a x in
      (enter n ⟶ enter a) ∷ (inside t false a x ++ choice (used_value t n a x) (if_zero a (leave n)) (if_nonzero a (enter b))
      ∷ (statement_ways t w b s ++ from w b s (leave n) ∷ []))
  statement_ways t w n (if_else_statement x s r) =
      let a = n + 1 in let b = behind_expression a x in let c = behind_statement b s in
      (enter n ⟶ enter a) ∷ (inside t false a x ++ (statement_ways t w b s ++ from w b s (leave n)
      ∷ (choice (used_value t n a x) (if_nonzero a (enter b)) (if_zero a (enter c)) ∷ (statement_ways t w c r ++ from w c r (leave n) ∷ []))))
  statement_ways t w n (while_statement x s) =
      let a = n + 1 in let b = behind_expression a x in let v = in_loop w (leave n) (enter a) in
      (enter n ⟶ enter a) ∷ (inside t false a x ++ choice (used_value t n a x) (if_zero a (leave n)) (if_nonzero a (enter b))
      ∷ (statement_ways t v b s ++ from v b s (enter a) ∷ []))
  statement_ways t w n (do_statement s x) =
      let b = n + 1 in let a = behind_statement b s in let v = in_loop w (leave n) (enter a) in
      (enter n ⟶ enter b) ∷ (statement_ways t v b s ++ from v b s (enter a)
      ∷ (inside t false a x ++ choice (used_value t n a x) (if_zero a (leave n)) (if_nonzero a (enter b)) ∷ []))
  statement_ways t w n (for_statement start x y s) =
      let a = behind_start (n + 1) start in let c = behind_optional a x in let b = behind_optional c y in
      let test = to_optional a x (enter b) in let again = to_optional c y test in let v = in_loop w (leave n) again in
      start_ways t (enter n) (n + 1) start test
      ++ (condition_ways t n a b x
      ++ (step_ways t c y test
      ++ (statement_ways t v b s ++ from v b s again ∷ [])))
  statement_ways t w n (switch_statement x s) =
      let a = n + 1 in let b = behind_expression a x in
      (enter n ⟶ enter a) ∷ (inside t false a x ++ (statement_ways t (in_switch w (leave n)) b s
      ++ (leave b ⟶ leave n) ∷ (record { source = used_value t n a x; next = switch_edges t n a b s } ∷ [])))
  statement_ways t w n (return_statement (Some x)) = last (plain (enter n)) n (n + 1) (used_value t n (n + 1) x) (inside t false (n + 1) x)
  statement_ways t w n _ = (enter n ⟶ leave n) ∷ []

  -- from s (or by a jump from there to j) through the statements, of which the first has the number n, to q
  pub in_order : Typing → Around → Source → Option Pos → Pos → ℕ → Statements → List Ways
  in_order t w s j q n no_statements = (s ⟹ otherwise q j) ∷ []
  in_order t w s j q n (statements r rs) = (s ⟹ otherwise (enter n) j) ∷ (statement_ways t w n r ++ in_order t w (leaving w n r) (jump w r) q (behind_statement n r) rs)

-- the named labels of statements, with the numbers of their nodes (C11 6.8.1)
abbrev mutual
  pub labels : ℕ → StatementTree → List (Name × ℕ)
  labels n (block ss) = all_labels (n + 1) ss
  labels n (if_statement x s) = labels (behind_expression (n + 1) x) s
  labels n (if_else_statement x s r) = labels (behind_expression (n + 1) x) s ++ labels (behind_statement (behind_expression (n + 1) x) s) r
  labels n (while_statement x s) = labels (behind_expression (n + 1) x) s
  labels n (do_statement s x) = labels (n + 1) s
  labels n (for_statement start x y s) = labels (behind_optional (behind_optional (behind_start (n + 1) start) x) y) s
  labels n (switch_statement x s) = labels (behind_expression (n + 1) x) s
  labels n (named_label m) = (m, n) ∷ []
  labels n _ = []

  pub all_labels : ℕ → Statements → List (Name × ℕ)
  all_labels n no_statements = []
  all_labels n (statements s ss) = labels n s ++ all_labels (behind_statement n s) ss

-- the Leave of the function n, which has its result there; the base frame of main goes on to the exit processing (C11 5.1.2.2.3)
abbrev pub end_ways : Bool → ℕ → List Ways
end_ways true n = (giving n n ⟹ finish n) ∷ (ends (plain (finish n)) ∷ [])
end_ways false n = ends (giving n n) ∷ []

abbrev pub body_number : ℕ → FunctionTree → ℕ
body_number n f = behind_parameters (behind_specifiers (n + 1) f.specs) f.params

abbrev pub function_ways : Typing → ℕ → FunctionTree → List Ways
function_ways t n f =
    let b = body_number n f in
    (enter n ⟶ enter b)
    ∷ (statement_ways t (record { stop = leave n; again = leave n; function = n; labels = labels b f.body }) b f.body
    ++ (leave b ⟶ leave n) ∷ end_ways (nat_eq n t.main) n)

abbrev pub item_ways : Typing → ℕ → ItemTree → List Ways
item_ways t n (function_item f) = function_ways t n f
item_ways t n (declaration_item d) = []

abbrev pub items_ways : Typing → ℕ → List ItemTree → List Ways
items_ways t n [] = []
items_ways t n (i ∷ is) = item_ways t n i ++ items_ways t (behind_item n i) is

-- the ways on from all positions of a program, of which the program itself is node 0
abbrev pub program_ways : Typing → List ItemTree → List Ways
program_ways t items = items_ways t 1 items
