-- What is said of the nodes of statements (C11 6.8).
use Rattle.std.specs.Prelude.{List, [], ◌∷◌, ◌++◌, Option, Some, None, ℤ, Bool, true, false, not, ◌&&◌, is_none}
use Rattle.std.specs.List.{list_any}
use Rattle.std.specs.Ordering.{int_eq}
use Rattle.c_kinds.specs.Kind.{Kind, int}
use Rattle.c_arithmetic.specs.declared.types.IntType.{IntType}
use Rattle.c_constants.specs.Constants.{case_value}
use Rattle.c_tree.specs.TypeWords.{is_among}
use Rattle.c_tree.specs.Tree.{Name, Expression, ForStartTree, start_declaration, start_expression, StatementTree, block, declaration, expression_statement, if_statement, if_else_statement, while_statement, do_statement, for_statement, switch_statement, case_label, default_label, named_label, break_statement, continue_statement, return_statement, goto_statement, Statements, no_statements, statements}
use Rattle.c_environment.specs.Environment.{Environment, value, entered, left, is_label}
use Rattle.c_environment.specs.Behind.{behind_expression}
use Rattle.c_environment.specs.Scopes.{behind_optional, behind_start, behind_statement}
use Rattle.c_rules.specs.declared.misfit.MisfitKind.TheVariants.{UnknownName, DeclaredTwice, NotConstant}
use Rattle.c_rules.specs.Judgement.{Judgement, Operand, silent, unless, kind, is_settled}
use Rattle.c_rules.specs.Types.{type_of}
use Rattle.c_rules.specs.Statements.{evaluated, condition, switched, return_nothing, returned}
use Rattle.c_declared.specs.Said.{Said, nothing, both, formless, formless_valued, once}
use Rattle.c_declared.specs.Operands.{Rows}
use Rattle.c_declared.specs.Nodes.{operand, said, broken}
use Rattle.c_judged.specs.Declarations.{said_declaration}

-- what statements know of their function: the kind of its result, and the labels in its body (6.8.6.1p1)
pub record Body : Type 0 where
  pub result : Kind
  pub labels : List Name

-- the cases of the innermost switch so far (6.8.4.2p3): their values, in the type of what is switched on, and whether default was among them
pub record Cases : Type 0 where
  pub of : Option IntType
  pub values : List ℤ
  pub defaulted : Bool

abbrev pub no_cases : Cases
no_cases = record { of = None; values = []; defaulted = false }

abbrev pub integer_of : Option Kind → Option IntType
integer_of (Some (int width is_signed)) = Some (type_of width is_signed)
integer_of _ = None

abbrev pub first_cases : Option Kind → Cases
first_cases k = record { of = integer_of k; values = []; defaulted = false }

abbrev pub value_in : Environment → Option IntType → Expression → Option ℤ
value_in env None x = None
value_in env (Some t) x = case_value (value env) x t

abbrev pub with_value : Cases → Option ℤ → Cases
with_value cs None = cs
with_value cs (Some z) = record cs { values = cs.values ++ z ∷ [] }

abbrev pub behind_default : Cases → Cases
behind_default cs = record cs { defaulted = true }

-- behind a statement of the block of a switch
abbrev pub behind_cases : Environment → Cases → StatementTree → Cases
behind_cases env cs (case_label x) = with_value cs (value_in env cs.of x)
behind_cases env cs default_label = behind_default cs
behind_cases env cs s = cs

abbrev pub is_earlier : List ℤ → Option ℤ → Bool
is_earlier zs None = false
is_earlier zs (Some z) = list_any (int_eq z) zs

abbrev pub is_known : Option IntType → Bool
is_known None = false
is_known (Some t) = true

-- a case: its value is constant and of the promoted type of what is switched on, and no other case's
abbrev pub case_rule : Cases → Option ℤ → Judgement
case_rule cs v = unless (broken (is_earlier cs.values v) DeclaredTwice) (unless (broken (is_known cs.of && is_none v) NotConstant) silent)

abbrev pub default_rule : Cases → Judgement
default_rule cs = unless (broken cs.defaulted DeclaredTwice) silent

-- a label is declared once in its function (6.8.1p3), and a goto names one of the function
abbrev pub label_rule : Environment → Name → Judgement
label_rule env n = unless (broken (is_label env n) DeclaredTwice) silent

abbrev pub goto_rule : Body → Name → Judgement
goto_rule f n = unless (broken (not (is_among f.labels n)) UnknownName) silent

-- the labels in statements
abbrev mutual
  pub labels : StatementTree → List Name
  labels (block ss) = labels_of ss
  labels (if_statement x s) = labels s
  labels (if_else_statement x s r) = labels s ++ labels r
  labels (while_statement x s) = labels s
  labels (do_statement s x) = labels s
  labels (for_statement a x y s) = labels s
  labels (switch_statement x s) = labels s
  labels (named_label n) = n ∷ []
  labels _ = []

  pub labels_of : Statements → List Name
  labels_of no_statements = []
  labels_of (statements s ss) = labels s ++ labels_of ss

-- ---- expressions that may be missing

abbrev pub said_optional : Rows → Environment → Option Expression → Said
said_optional rows env None = nothing
said_optional rows env (Some x) = said rows env x

abbrev pub operand_if_any : Rows → Environment → Option Expression → Option Operand
operand_if_any rows env None = None
operand_if_any rows env (Some x) = Some (operand rows env x)

abbrev pub settled_by : Option Operand → Bool
settled_by None = true
settled_by (Some x) = is_settled x.judged

abbrev pub evaluated_by : Option Operand → Judgement
evaluated_by None = silent
evaluated_by (Some x) = evaluated x

abbrev pub condition_by : Option Operand → Judgement
condition_by None = silent
condition_by (Some x) = condition x

abbrev pub return_by : Kind → Option Operand → Judgement
return_by k None = return_nothing k
return_by k (Some x) = returned k x

abbrev pub said_start : Rows → Environment → ForStartTree → Said
said_start rows env (start_declaration d) = said_declaration rows env d
said_start rows env (start_expression x) = said_optional rows env x

-- what stands in the brackets of a for
abbrev pub said_control : Rows → Environment → ForStartTree → Option Expression → Option Expression → Said
said_control rows env a x y =
    both (both (said_start rows env a) (said_optional rows (behind_start env a) x)) (said_optional rows (behind_optional (behind_start env a) x) y)

-- ---- statements without statements in them

abbrev pub said_evaluated : Rows → Environment → Option Expression → Said
said_evaluated rows env x = formless (evaluated_by (operand_if_any rows env x)) (said_optional rows env x)

abbrev pub said_return : Rows → Body → Environment → Option Expression → Said
said_return rows f env x = formless (return_by f.result (operand_if_any rows env x)) (said_optional rows env x)

abbrev pub said_case : Rows → Environment → Cases → Expression → Said
said_case rows env cs x = formless_valued (value_in env cs.of x) (once (said rows env x) (case_rule cs (value_in env cs.of x))) (said rows env x)

-- ---- statements, behind the cases before them
abbrev mutual
  pub said_statement : Rows → Body → Environment → Cases → StatementTree → Said
  said_statement rows f env cs (block ss) = formless silent (said_statements rows f (entered env) no_cases ss)
  said_statement rows f env cs (declaration d) = said_declaration rows env d
  said_statement rows f env cs (expression_statement x) = said_evaluated rows env x
  said_statement rows f env cs (if_statement x s) =
      formless (condition (operand rows (entered env) x)) (both (said rows (entered env) x) (said_statement rows f (entered (behind_expression (entered env) x)) no_cases s))
  said_statement rows f env cs (if_else_statement x s r) =
      formless (condition (operand rows (entered env) x))
      (both (both (said rows (entered env) x) (said_statement rows f (entered (behind_expression (entered env) x)) no_cases s))
      (said_statement rows f (entered (left (behind_statement (entered (behind_expression (entered env) x)) s))) no_cases r))
  said_statement rows f env cs (while_statement x s) =
      formless (condition (operand rows (entered env) x)) (both (said rows (entered env) x) (said_statement rows f (entered (behind_expression (entered env) x)) no_cases s))
  said_statement rows f env cs (do_statement s x) =
      formless (condition (operand rows (left (behind_statement (entered (entered env)) s)) x))
      (both (said_statement rows f (entered (entered env)) no_cases s) (said rows (left (behind_statement (entered (entered env)) s)) x))
  said_statement rows f env cs (for_statement a x y s) =
      formless (once (said_control rows (entered env) a x y) (condition_by (operand_if_any rows (behind_start (entered env) a) x)))
      (both (said_control rows (entered env) a x y)
      (said_statement rows f (entered (behind_optional (behind_optional (behind_start (entered env) a) x) y)) no_cases s))
  said_statement rows f env cs (switch_statement x s) =
      formless (switched (operand rows (entered env) x))
      (both (said rows (entered env) x)
      (said_switched rows f (entered (behind_expression (entered env) x)) (first_cases (kind (operand rows (entered env) x).judged)) s
      (said_statement rows f (entered (behind_expression (entered env) x)) no_cases s)))
  said_statement rows f env cs (case_label x) = said_case rows env cs x
  said_statement rows f env cs default_label = formless (default_rule cs) nothing
  said_statement rows f env cs (named_label n) = formless (label_rule env n) nothing
  said_statement rows f env cs break_statement = formless silent nothing
  said_statement rows f env cs continue_statement = formless silent nothing
  said_statement rows f env cs (return_statement x) = said_return rows f env x
  said_statement rows f env cs (goto_statement n) = formless (goto_rule f n) nothing

  -- the block of a switch; another statement, which the grammar allows nowhere there, is what it is elsewhere
  pub said_switched : Rows → Body → Environment → Cases → StatementTree → Said → Said
  said_switched rows f env cs (block ss) elsewhere = formless silent (said_statements rows f (entered env) cs ss)
  said_switched rows f env cs s elsewhere = elsewhere

  pub said_statements : Rows → Body → Environment → Cases → Statements → Said
  said_statements rows f env cs no_statements = nothing
  said_statements rows f env cs (statements s ss) =
      both (said_statement rows f env cs s) (said_statements rows f (behind_statement env s) (behind_cases env cs s) ss)

-- a block, behind the cases of its switch
abbrev pub said_block : Rows → Body → Environment → Cases → Statements → Said
said_block rows f env cs ss = formless silent (said_statements rows f (entered env) cs ss)
