-- The ways that a walk has noted when it has passed a statement: those from before, rs, and then the statement's, one by one.
use Rattle.std.specs.Prelude.{ℕ, ◌+◌, List, [], ◌∷◌, Option, Some, None, Bool, true, false, nat_eq}
use Rattle.base_core.specs.declared.id.Pos.{Pos}
use Rattle.c_tree.specs.Tree.{Expression, Initializer, single, listed, Initializers, no_initializers, initializers, NamedTree, DeclarationTree, ForStartTree, start_declaration, start_expression, StatementTree, block, declaration, expression_statement, if_statement, if_else_statement, while_statement, do_statement, for_statement, switch_statement, case_label, default_label, named_label, break_statement, continue_statement, return_statement, goto_statement, Statements, no_statements, statements, FunctionTree, ItemTree, function_item, declaration_item}
use Rattle.c_tree.specs.Behind.{behind_expression, behind_specifiers, behind_declarator, behind_init, behind_named, behind_optional, behind_start, behind_statement, behind_item}
use Rattle.flow_form.specs.declared.edge.Source.{Source}
use Rattle.flow_form.specs.Control.{used_value, kept_value, unused_value}
use Rattle.flow_form.specs.Passed.{and, past, past_last}
use Rattle.flow_form.specs.Positions.{Ways, enter, leave, finish, plain, giving, ◌⟶◌, ◌⟹◌, if_zero, if_nonzero, choice, ends, otherwise}
use Rattle.flow_form.specs.Statements.{Around, in_loop, in_switch, jump, leaving, from, declared, to_optional, switch_edges, labels, body_number}
use Rattle.flow_form.specs.Typing.{Typing}

-- an optional expression of the statement n
abbrev pub past_whole : Typing → ℕ → Option Expression → List Ways → List Ways
past_whole t n None rs = and rs (enter n ⟶ leave n)
past_whole t n (Some x) rs = past_last (plain (enter n)) n (n + 1) (unused_value t (n + 1) x) (λ us. past t false (n + 1) x us) rs

-- an optional operand of the return n
abbrev pub past_result : Typing → ℕ → Option Expression → List Ways → List Ways
past_result t n None rs = and rs (enter n ⟶ leave n)
past_result t n (Some x) rs = past_last (plain (enter n)) n (n + 1) (used_value t n (n + 1) x) (λ us. past t false (n + 1) x us) rs

-- from where control goes on behind an initialiser, k, of the declared name n, into which it came from s
abbrev mutual
  pub behind_value : Typing → Source → (n k : ℕ) → Initializer → Source
  behind_value t s n k (single x) = kept_value t n k x
  behind_value t s n k (listed is c) = behind_values t s n (k + 1) is

  pub behind_values : Typing → Source → (n k : ℕ) → Initializers → Source
  behind_values t s n k no_initializers = s
  behind_values t s n k (initializers m i is) = behind_values t (behind_value t s n k i) n (behind_init k i) is

-- from s through an initialiser, k, of the declared name n
abbrev mutual
  pub past_value : Typing → Source → (n k : ℕ) → Initializer → List Ways → List Ways
  past_value t s n k (single x) rs = past t false k x (and rs (s ⟹ enter k))
  past_value t s n k (listed is c) rs = past_values t s n (k + 1) is rs

  pub past_values : Typing → Source → (n k : ℕ) → Initializers → List Ways → List Ways
  past_values t s n k no_initializers rs = rs
  past_values t s n k (initializers m i is) rs = past_values t (behind_value t s n k i) n (behind_init k i) is (past_value t s n k i rs)

-- from the Enter of the declared name n through its initialiser, k, to its Leave
abbrev pub past_initial : Typing → (n k : ℕ) → Option Initializer → List Ways → List Ways
past_initial t n k None rs = and rs (enter n ⟶ leave n)
past_initial t n k (Some i) rs = and (past_value t (plain (enter n)) n k i rs) (behind_value t (plain (enter n)) n k i ⟹ leave n)

-- the declared name n, whether it is an automatic variable; from where control goes on behind it
abbrev pub behind_name : Bool → Source → ℕ → NamedTree → Source
behind_name true s n d = declared n (behind_named n d)
behind_name false s n d = s

abbrev pub past_name : Bool → Typing → Source → ℕ → NamedTree → List Ways → List Ways
past_name true t s n d rs = past_initial t n (behind_declarator (n + 1) d.declarator) d.init (and rs (s ⟹ enter n))
past_name false t s n d rs = rs

abbrev pub past_names : Typing → Source → Pos → ℕ → List NamedTree → List Ways → List Ways
past_names t s q n [] rs = and rs (s ⟹ q)
past_names t s q n (d ∷ ds) rs = past_names t (behind_name (t.is_automatic n) s n d) q (behind_named n d) ds (past_name (t.is_automatic n) t s n d rs)

abbrev pub past_declaration : Typing → ℕ → DeclarationTree → List Ways → List Ways
past_declaration t n d rs = past_names t (plain (enter n)) (leave n) (behind_specifiers (n + 1) d.specs) d.names rs

abbrev pub past_step : Typing → ℕ → Option Expression → Pos → List Ways → List Ways
past_step t n None q rs = rs
past_step t n (Some x) q rs = and (past t false n x rs) (unused_value t n x ⟹ q)

abbrev pub past_condition : Typing → (n a b : ℕ) → Option Expression → List Ways → List Ways
past_condition t n a b None rs = rs
past_condition t n a b (Some x) rs = and (past t false a x rs) (choice (used_value t n a x) (if_zero a (leave n)) (if_nonzero a (enter b)))

abbrev pub past_start : Typing → Pos → ℕ → ForStartTree → Pos → List Ways → List Ways
past_start t p n (start_declaration d) q rs = and (past_declaration t n d (and rs (p ⟶ enter n))) (leave n ⟶ q)
past_start t p n (start_expression x) q rs = past_step t n x q (and rs (p ⟶ to_optional n x q))

-- where the loop n goes when its condition a is to be tried, before its body b; and behind its body, where c is the third expression
abbrev pub try_at : (a b : ℕ) → Option Expression → Pos
try_at a b x = to_optional a x (enter b)

abbrev pub again_at : (a b c : ℕ) → Option Expression → Option Expression → Pos
again_at a b c x y = to_optional c y (try_at a b x)

-- the loop n with the condition a, the third expression c and the body b; f: passes the body
abbrev pub past_for : Typing → Around → (n a b c : ℕ) → ForStartTree → Option Expression → Option Expression → StatementTree → (Around → ℕ → List Ways → List Ways) → List Ways → List Ways
past_for t w n a b c start x y s f rs = and (f (in_loop w (leave n) (again_at a b c x y)) b (past_step t c y (try_at a b x) (past_condition t n a b x (past_start t (enter n) (n + 1) start (try_at a b x) rs)))) (from (in_loop w (leave n) (again_at a b c x y)) b s (again_at a b c x y))

abbrev mutual
  pub past_statement : Typing → Around → ℕ → StatementTree → List Ways → List Ways
  past_statement t w n (block ss) rs = past_in_order t w (plain (enter n)) None (leave n) (n + 1) ss rs
  past_statement t w n (declaration d) rs = past_declaration t n d rs
  past_statement t w n (expression_statement x) rs = past_whole t n x rs
  past_statement t w n (if_statement x s) rs = and (past_statement t w (behind_expression (n + 1) x) s (and (past t false (n + 1) x (and rs (enter n ⟶ enter (n + 1)))) (choice (used_value t n (n + 1) x) (if_zero (n + 1) (leave n)) (if_nonzero (n + 1) (enter (behind_expression (n + 1) x)))))) (from w (behind_expression (n + 1) x) s (leave n))
  past_statement t w n (if_else_statement x s r) rs = and (past_statement t w (behind_statement (behind_expression (n + 1) x) s) r (and (and (past_statement t w (behind_expression (n + 1) x) s (past t false (n + 1) x (and rs (enter n ⟶ enter (n + 1))))) (from w (behind_expression (n + 1) x) s (leave n))) (choice (used_value t n (n + 1) x) (if_nonzero (n + 1) (enter (behind_expression (n + 1) x))) (if_zero (n + 1) (enter (behind_statement (behind_expression (n + 1) x) s)))))) (from w (behind_statement (behind_expression (n + 1) x) s) r (leave n))
  past_statement t w n (while_statement x s) rs = and (past_statement t (in_loop w (leave n) (enter (n + 1))) (behind_expression (n + 1) x) s (and (past t false (n + 1) x (and rs (enter n ⟶ enter (n + 1)))) (choice (used_value t n (n + 1) x) (if_zero (n + 1) (leave n)) (if_nonzero (n + 1) (enter (behind_expression (n + 1) x)))))) (from (in_loop w (leave n) (enter (n + 1))) (behind_expression (n + 1) x) s (enter (n + 1)))
  past_statement t w n (do_statement s x) rs = and (past t false (behind_statement (n + 1) s) x (and (past_statement t (in_loop w (leave n) (enter (behind_statement (n + 1) s))) (n + 1) s (and rs (enter n ⟶ enter (n + 1)))) (from (in_loop w (leave n) (enter (behind_statement (n + 1) s))) (n + 1) s (enter (behind_statement (n + 1) s))))) (choice (used_value t n (behind_statement (n + 1) s) x) (if_zero (behind_statement (n + 1) s) (leave n)) (if_nonzero (behind_statement (n + 1) s) (enter (n + 1))))
  past_statement t w n (for_statement start x y s) rs = past_for t w n (behind_start (n + 1) start) (behind_optional (behind_optional (behind_start (n + 1) start) x) y) (behind_optional (behind_start (n + 1) start) x) start x y s (λ v b us. past_statement t v b s us) rs
  past_statement t w n (switch_statement x s) rs = and (and (past_statement t (in_switch w (leave n)) (behind_expression (n + 1) x) s (past t false (n + 1) x (and rs (enter n ⟶ enter (n + 1))))) (leave (behind_expression (n + 1) x) ⟶ leave n)) (record { source = used_value t n (n + 1) x; next = switch_edges t n (n + 1) (behind_expression (n + 1) x) s })
  past_statement t w n (case_label x) rs = and rs (enter n ⟶ leave n)
  past_statement t w n default_label rs = and rs (enter n ⟶ leave n)
  past_statement t w n (named_label m) rs = and rs (enter n ⟶ leave n)
  past_statement t w n break_statement rs = and rs (enter n ⟶ leave n)
  past_statement t w n continue_statement rs = and rs (enter n ⟶ leave n)
  past_statement t w n (return_statement x) rs = past_result t n x rs
  past_statement t w n (goto_statement m) rs = and rs (enter n ⟶ leave n)

  pub past_in_order : Typing → Around → Source → Option Pos → Pos → ℕ → Statements → List Ways → List Ways
  past_in_order t w s j q n no_statements rs = and rs (s ⟹ otherwise q j)
  past_in_order t w s j q n (statements r ss) rs = past_in_order t w (leaving w n r) (jump w r) q (behind_statement n r) ss (past_statement t w n r (and rs (s ⟹ otherwise (enter n) j)))

-- the end of the function n; whether it is main
abbrev pub past_end : Bool → ℕ → List Ways → List Ways
past_end true n rs = and (and rs (giving n n ⟹ finish n)) (ends (plain (finish n)))
past_end false n rs = and rs (ends (giving n n))

-- the function n, whose body has the number b
abbrev pub past_body : Typing → ℕ → ℕ → StatementTree → List Ways → List Ways
past_body t n b s rs = past_end (nat_eq n t.main) n (and (past_statement t (record { stop = leave n; again = leave n; function = n; labels = labels b s }) b s (and rs (enter n ⟶ enter b))) (leave b ⟶ leave n))

abbrev pub past_function : Typing → ℕ → FunctionTree → List Ways → List Ways
past_function t n f rs = past_body t n (body_number n f) f.body rs

abbrev pub past_item : Typing → ℕ → ItemTree → List Ways → List Ways
past_item t n (function_item f) rs = past_function t n f rs
past_item t n (declaration_item d) rs = rs

abbrev pub past_items : Typing → ℕ → List ItemTree → List Ways → List Ways
past_items t n [] rs = rs
past_items t n (i ∷ is) rs = past_items t (behind_item n i) is (past_item t n i rs)
