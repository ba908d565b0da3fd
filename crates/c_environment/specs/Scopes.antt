-- What the names stand for behind initialisers, declarations, statements and items (C11 6.2.1).
use Rattle.std.specs.Prelude.{ℕ, List, [], ◌∷◌, Option, Some, None, Bool, true, false, not, ◌&&◌, ◌||◌, if◌then◌else◌}
use Rattle.c_scopes.specs.Scope.{Name}
use Rattle.c_tree.specs.declared.tree.Storage.{Storage}
use Rattle.c_tree.specs.declared.tree.Storage.TheVariants as st
use Rattle.c_tree.specs.Tree.{Expression, Specifiers, specifiers, no_specifiers, struct_tag, Initializer, single, listed, Initializers, no_initializers, initializers, NamedTree, DeclarationTree, ForStartTree, start_declaration, start_expression, StatementTree, block, declaration, expression_statement, if_statement, if_else_statement, while_statement, do_statement, for_statement, switch_statement, case_label, default_label, named_label, break_statement, continue_statement, return_statement, goto_statement, Statements, no_statements, statements, FunctionTree, ItemTree, function_item, declaration_item}
use Rattle.c_tree.specs.DeclaredNames.{declarator_name}
use Rattle.c_environment.specs.Entity as e
use Rattle.c_environment.specs.Entity.{DeclaredType}
use Rattle.c_environment.specs.Environment.{Environment, tag_here, entered, left, within_function, function_number, at_file_scope, with_entity, with_function, with_function_around, with_variable, with_linked_variable, with_tag, with_structure, with_declared, with_label, with_initialised}
use Rattle.c_environment.specs.Types.{structure_number, specified, pointed, function_type}
use Rattle.c_environment.specs.Behind.{behind_expression, behind_specifiers, behind_declarator, behind_parameters, declared, parameter_kinds}

-- ---- initialisers

abbrev mutual
  pub behind_initializer : Environment → Initializer → Environment
  behind_initializer env (single x) = behind_expression env x
  behind_initializer env (listed ps last) = behind_initializers env ps

  pub behind_initializers : Environment → Initializers → Environment
  behind_initializers env no_initializers = env
  behind_initializers env (initializers n i ps) = behind_initializers (behind_initializer env i) ps

abbrev pub behind_optional_initializer : Environment → Option Initializer → Environment
behind_optional_initializer env None = env
behind_optional_initializer env (Some i) = behind_initializer env i

-- ---- declarations (6.7)

-- A name of an object: at file scope, and with `extern`, it has linkage (6.2.2p4, p5); else `static` gives it static storage duration.
abbrev pub with_object : Environment → Bool → Storage → Name → DeclaredType → Environment
with_object env true storage n t = with_linked_variable env n t
with_object env false st.Extern n t = with_linked_variable env n t
with_object env false st.Static n t = with_variable env n t true
with_object env false _ n t = with_variable env n t false

-- a name of an object or function
abbrev pub with_ordinary : Environment → Bool → Storage → Name → DeclaredType → Environment
with_ordinary env true storage n t = with_function env n t
with_ordinary env false storage n t = with_object env (at_file_scope env) storage n t

abbrev pub with_name : Environment → Storage → Name → DeclaredType → Environment
with_name env st.Typedef n t = with_entity env n (e.type_name t)
with_name env storage n t = with_ordinary env t.is_function storage n t

-- functions, names of the file's scope, and those declared with `extern` have linkage, types' names have none (6.2.2p4 to p6)
abbrev pub is_extern : Storage → Bool
is_extern st.Extern = true
is_extern _ = false

abbrev pub is_typedef : Storage → Bool
is_typedef st.Typedef = true
is_typedef _ = false

abbrev pub has_linkage : Environment → Storage → Bool → Bool
has_linkage env storage is_function = not (is_typedef storage) && (is_function || at_file_scope env || is_extern storage)

-- an initialiser defines an object with linkage, wherever the declaration stands (6.9p5)
abbrev pub initialised_by : Environment → Bool → Name → Option Initializer → Environment
initialised_by env linked n None = env
initialised_by env linked n (Some i) = if linked then with_initialised env n else env

-- behind a declared name: its declarator, and its initialiser, in which it is in scope
abbrev pub behind_named : Environment → Storage → DeclaredType → NamedTree → Environment
behind_named env storage t n =
    behind_optional_initializer
    (initialised_by (with_name (behind_declarator env n.declarator) storage (declarator_name n.declarator) (declared env t n.declarator))
    (has_linkage env storage (declared env t n.declarator).is_function) (declarator_name n.declarator) n.init)
    n.init

abbrev pub behind_names : Environment → Storage → DeclaredType → List NamedTree → Environment
behind_names env storage t [] = env
behind_names env storage t (n ∷ ns) = behind_names (behind_named env storage t n) storage t ns

-- a structure's tag alone, without names, is declared in its own block (6.7.2.3p7)
abbrev pub declared_tag : Environment → Name → Option (Option ℕ) → Environment
declared_tag env n (Some (Some k)) = with_declared env k
declared_tag env n (Some None) = env
declared_tag env n None = with_tag (with_structure env true) n (Some (structure_number env None))

abbrev pub behind_alone : Environment → Specifiers → Environment
behind_alone env (specifiers (struct_tag n) no_specifiers) = declared_tag env n (tag_here env n)
behind_alone env ws = behind_specifiers env ws

abbrev pub behind_list : Environment → Storage → Specifiers → List NamedTree → Environment
behind_list env storage ws [] = behind_alone env ws
behind_list env storage ws (n ∷ ns) = behind_names (behind_specifiers env ws) storage (specified env ws) (n ∷ ns)

abbrev pub behind_declaration : Environment → DeclarationTree → Environment
behind_declaration env d = behind_list env d.storage d.specs d.names

-- ---- statements: blocks, and if, switch and loops with each of their parts, are scopes (6.8p3, 6.8.4p3, 6.8.5p5)

abbrev pub behind_optional : Environment → Option Expression → Environment
behind_optional env None = env
behind_optional env (Some x) = behind_expression env x

abbrev pub behind_start : Environment → ForStartTree → Environment
behind_start env (start_declaration d) = behind_declaration env d
behind_start env (start_expression x) = behind_optional env x

abbrev mutual
  pub behind_statement : Environment → StatementTree → Environment
  behind_statement env (block ss) = left (behind_statements (entered env) ss)
  behind_statement env (declaration d) = behind_declaration env d
  behind_statement env (expression_statement x) = behind_optional env x
  behind_statement env (if_statement x s) = left (left (behind_statement (entered (behind_expression (entered env) x)) s))
  behind_statement env (if_else_statement x s r) = left (left (behind_statement (entered (left (behind_statement (entered (behind_expression (entered env) x)) s))) r))
  behind_statement env (while_statement x s) = left (left (behind_statement (entered (behind_expression (entered env) x)) s))
  behind_statement env (do_statement s x) = left (behind_expression (left (behind_statement (entered (entered env)) s)) x)
  behind_statement env (for_statement a x y s) = left (left (behind_statement (entered (behind_optional (behind_optional (behind_start (entered env) a) x) y)) s))
  behind_statement env (switch_statement x s) = left (left (behind_statement (entered (behind_expression (entered env) x)) s))
  behind_statement env (case_label x) = behind_expression env x
  behind_statement env default_label = env
  behind_statement env (named_label n) = with_label env n
  behind_statement env break_statement = env
  behind_statement env continue_statement = env
  behind_statement env (return_statement x) = behind_optional env x
  behind_statement env (goto_statement n) = env

  pub behind_statements : Environment → Statements → Environment
  behind_statements env no_statements = env
  behind_statements env (statements s ss) = behind_statements (behind_statement env s) ss

-- ---- items (6.9)

-- the body of a function, in the scope of its parameters (6.2.1p4, 6.9.1p9)
abbrev pub behind_body : Environment → StatementTree → Environment
behind_body env (block ss) = behind_statements env ss
behind_body env s = behind_statement env s

-- The name of a function is in scope from behind its parameters on (6.2.1p7), in the scope around theirs.
abbrev pub with_parameters : Environment → DeclaredType → FunctionTree → Environment
with_parameters env t f =
    with_initialised (with_function_around (behind_parameters true env f.params) f.name (function_type (parameter_kinds true env f.params) (pointed f.stars t))) f.name

-- behind the specifiers, in the scope of the parameters
abbrev pub in_function : Environment → FunctionTree → Environment
in_function env f = entered (within_function (behind_specifiers env f.specs) (function_number env f.name))

abbrev pub behind_function : Environment → FunctionTree → Environment
behind_function env f = within_function (left (behind_body (with_parameters (in_function env f) (specified env f.specs) f) f.body)) None

abbrev pub behind_item : Environment → ItemTree → Environment
behind_item env (function_item f) = behind_function env f
behind_item env (declaration_item d) = behind_declaration env d

abbrev pub behind_items : Environment → List ItemTree → Environment
behind_items env [] = env
behind_items env (i ∷ is) = behind_items (behind_item env i) is
