-- What is said of the nodes of a program (C11 6.9, 5.1.2.2.1).
use Rattle.std.specs.Prelude.{ℕ, List, [], ◌∷◌, Option, Some, None, Bool, true, not, ◌&&◌, ◌||◌, is_none, codes, if◌then◌else◌}
use Rattle.std.specs.Option.{option_and_then}
use Rattle.c_kinds.specs.Kind.{Kind}
use Rattle.c_tree.specs.Tree.{Name, StatementTree, block, FunctionTree, ItemTree, function_item, declaration_item}
use Rattle.c_environment.specs.Entity.{DeclaredType, Variable, variables_of}
use Rattle.c_environment.specs.Environment.{Environment, linked_entity, is_initialised, function_number}
use Rattle.c_environment.specs.Start.{start}
use Rattle.c_environment.specs.Types.{specified, pointed, function_type}
use Rattle.c_environment.specs.Behind.{behind_specifiers, behind_parameters, parameter_kinds}
use Rattle.c_environment.specs.Scopes.{behind_item, behind_items, in_function, with_parameters}
use Rattle.c_rules.specs.declared.misfit.MisfitKind.{MisfitKind}
use Rattle.c_rules.specs.Judgement.{Judgement, silent, waits}
use Rattle.c_rules.specs.Declarations.{main_misfit}
use Rattle.c_bindings.specs.Binding.{function_binding}
use Rattle.c_bindings.specs.Told.{Told, bound, first_misfit, one_further}
use Rattle.c_declared.specs.Said.{Said, nothing, both, node, node_told, once}
use Rattle.c_declared.specs.Operands.{Rows}
use Rattle.c_declared.specs.declared.faults.Faults.{Faults}
use Rattle.c_declared.specs.Faults.{faults_of_both, faults_specifiers, faults_parameters, result_faults}
use Rattle.c_declared.specs.Nodes.{said_specifiers, said_parameters}
use Rattle.c_judged.specs.Declarations.{is_taken, differs, kind_of, first_broken, name_rule, said_declaration}
use Rattle.c_judged.specs.Statements.{Body, labels, no_cases, said_statement, said_statements}

-- ---- functions (6.9.1)

-- the type of a function, before its specifiers
abbrev pub type_of_function : Environment → FunctionTree → DeclaredType
type_of_function env f = function_type (parameter_kinds true (in_function env f) f.params) (pointed f.stars (specified env f.specs))

abbrev pub function_faults : Environment → FunctionTree → Faults
function_faults env f =
    faults_of_both (faults_specifiers env f.specs)
    (faults_of_both (result_faults (pointed f.stars (specified env f.specs))) (faults_parameters true (in_function env f) f.params))

-- Its name is declared once, or often as a function with types that agree, and defined once; its tags are declared once. The name is looked
-- for behind the specifiers, its type is known behind the parameters.
abbrev pub head_rule : Bool → Bool → Faults → DeclaredType → Judgement
head_rule is_twice is_other f t = name_rule (first_broken is_twice is_other f) true None (not f.incomplete) t.kind

abbrev pub differs_here : Environment → Name → DeclaredType → Bool
differs_here env n t = differs env n t.kind

-- behind the parameters, with these kinds; the specifiers and the parameters have these faults
abbrev pub head_closed : Environment → Name → Bool → Bool → Faults → DeclaredType → Bool → Faults → List Kind → Judgement
head_closed env n is_twice settled f gives ready g kinds =
    if settled && ready
    then head_rule is_twice (differs_here env n (function_type kinds gives)) (faults_of_both f (faults_of_both (result_faults gives) g)) (function_type kinds gives)
    else waits

abbrev pub is_function_taken : Environment → Name → Bool
is_function_taken env n = is_taken env true true n || is_initialised env n

abbrev pub function_rule : Environment → FunctionTree → Judgement
function_rule env f =
    head_rule (is_function_taken (behind_specifiers env f.specs) f.name)
    (differs_here (behind_parameters true (in_function env f) f.params) f.name (type_of_function env f)) (function_faults env f) (type_of_function env f)

-- the nodes of its specifiers and parameters
abbrev pub said_head : Rows → Environment → FunctionTree → Said
said_head rows env f = both (said_specifiers rows env f.specs) (said_parameters rows true (in_function env f) f.params)

-- the body is a statement without a scope of its own: its names are in that of the parameters
abbrev pub said_body : Rows → Body → Environment → StatementTree → Said
said_body rows b env (block ss) = node silent (said_statements rows b env no_cases ss)
said_body rows b env s = said_statement rows b env no_cases s

abbrev pub body_by : DeclaredType → StatementTree → Body
body_by t s = record { result = t.kind; labels = labels s }

abbrev pub body_of : Environment → FunctionTree → Body
body_of env f = body_by (pointed f.stars (specified env f.specs)) f.body

-- where its statements stand
abbrev pub in_body : Environment → FunctionTree → Environment
in_body env f = with_parameters (in_function env f) (specified env f.specs) f

abbrev pub said_function : Rows → Environment → FunctionTree → Said
said_function rows env f =
    node_told (bound (once (said_head rows env f) (function_rule env f)) (function_binding env f.name))
    (both (said_head rows env f) (said_body rows (body_of env f) (in_body env f) f.body))

-- ---- items and programs

abbrev pub said_item : Rows → Environment → ItemTree → Said
said_item rows env (function_item f) = said_function rows env f
said_item rows env (declaration_item d) = said_declaration rows env d

abbrev pub said_items : Rows → Environment → List ItemTree → Said
said_items rows env [] = nothing
said_items rows env (i ∷ is) = both (said_item rows env i) (said_items rows (behind_item env i) is)

-- the type of the function main, where the program defines one
abbrev pub main_kind : Environment → Option Kind
main_kind env = if is_none (function_number env (codes "main")) then None else option_and_then kind_of (linked_entity env (codes "main"))

-- the program itself is the first node
abbrev pub or_at_program : Option (ℕ × MisfitKind) → Option MisfitKind → Option (ℕ × MisfitKind)
or_at_program (Some p) o = Some p
or_at_program None (Some m) = Some (0, m)
or_at_program None None = None

abbrev pub misfit_of : List Told → Environment → Option (ℕ × MisfitKind)
misfit_of all env = or_at_program (one_further (first_misfit all)) (main_misfit (main_kind env))

-- What is told of the nodes of a program behind the first, which is the program itself.
abbrev pub program_told : List Name → Rows → List ItemTree → List Told
program_told names rows items = (said_items rows (start names items) items).all

-- The variables of a program, in order of their numbers.
abbrev pub program_variables : List Name → List ItemTree → List Variable
program_variables names items = variables_of (behind_items (start names items) items).entities

-- The first node that breaks a rule, by its number in preorder, and which rule: that of main is asked once no other is broken.
abbrev pub program_misfit : List Name → Rows → List ItemTree → Option (ℕ × MisfitKind)
program_misfit names rows items = misfit_of (program_told names rows items) (behind_items (start names items) items)
