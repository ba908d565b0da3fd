-- What is said of the nodes of expressions, and of types and declarators, at a place where names stand for this, over a table with these rows
-- (C11 6.5, 6.7). A node's rules are asked in this order: its names are declared; nothing is declared twice; nothing stands there that the subset
-- leaves out; what has to be constant is; its kinds fit.
use Rattle.std.specs.Prelude.{List, [], ◌∷◌, Option, Some, None, ℤ, Bool, false, not, ◌||◌, is_some, is_none, if◌then◌else◌}
use Rattle.c_kinds.specs.Kind.{Kind}
use Rattle.c_tree.specs.Tree.{Name, Expression, comma, assign, choose, binary, cast, unary, before, size_of, size_of_type, index, call, dot, arrow, after, name, integer, character, text, paren, Expressions, no_expressions, expressions, Sizes, no_sizes, open_size, size, TypeTree, typed, Specifiers, no_specifiers, specifiers, Specifier, struct_of, enum_of, Members as MemberTrees, no_members, member, Declarators, no_declarators, declarators, Enumerators, no_enumerators, enumerator, enumerator_with, DeclaratorTree, plain, array, function, pointer, Parameters, no_parameters, parameters, ParameterForm, named_form, bare_form, BareTree, bare_stars, bare_pointer}
use Rattle.c_tree.specs.DeclaredNames.{declarator_name}
use Rattle.c_constants.specs.Constants as constants
use Rattle.c_environment.specs.Entity as e
use Rattle.c_environment.specs.Entity.{DeclaredType, Members, with_member}
use Rattle.c_environment.specs.Environment.{Environment, value, entered, with_entity, with_optional_tag, is_declared_here, is_reserved}
use Rattle.c_environment.specs.Types.{specified, adjusted}
use Rattle.c_environment.specs.Behind.{opened, behind_expression, behind_type, behind_sizes, behind_specifier, behind_specifiers, behind_declarators, behind_declarator, behind_form, declared, declared_members, named_type}
use Rattle.c_rules.specs.declared.misfit.MisfitKind.{MisfitKind}
use Rattle.c_rules.specs.declared.misfit.MisfitKind.TheVariants.{UnknownName, DeclaredTwice, NotConstant, KindMismatch, LeftOut}
use Rattle.c_rules.specs.Judgement.{Judgement, fits, unless, Operand, kind}
use Rattle.c_rules.specs.Types.{plain_int}
use Rattle.c_rules.specs.Form as form
use Rattle.c_rules.specs.Names as names
use Rattle.c_rules.specs.Operators as operators
use Rattle.c_rules.specs.Values as values
use Rattle.c_rules.specs.Access as access
use Rattle.c_rules.specs.Conversions as conversions
use Rattle.c_bindings.specs.declared.binding.Binding.{Binding}
use Rattle.c_bindings.specs.Binding.{bound_to}
use Rattle.c_declared.specs.Said.{Said, nothing, both, node, named_node, valued_node, once}
use Rattle.c_declared.specs.Operands.{Rows, valued, placed, named_operand, row_of, called, as_callee, member_kind, pointed_member}
use Rattle.c_declared.specs.declared.faults.Faults.{Faults}
use Rattle.c_declared.specs.Faults.{faults_of_both, faults_specifiers, faults_declarator, faults_type, object_faults, parameter_faults, is_own, tag_word}
use Rattle.c_declared.specs.Sizes.{are_sizes, sizes_of}

abbrev pub broken : Bool → MisfitKind → Option MisfitKind
broken holds m = if holds then Some m else None

-- by these faults, by whether a name is declared twice, whether the sizes are constant and whether the first is given as the place asks
abbrev pub declared_rule : Faults → Bool → Bool → Bool → Kind → Judgement
declared_rule f is_twice are_constant are_complete k =
    unless (broken f.unknown UnknownName)
    (unless (broken (is_twice || f.repeated) DeclaredTwice)
    (unless (broken f.passed LeftOut)
    (unless (broken (not are_constant) NotConstant)
    (unless (broken (f.incomplete || not are_complete) KindMismatch) (fits k)))))

-- a type name where it stands
abbrev pub type_rule : Faults → Judgement → Judgement
type_rule f j =
    unless (broken f.unknown UnknownName) (unless (broken f.repeated DeclaredTwice) (unless (broken f.passed LeftOut) (unless (broken f.incomplete KindMismatch) j)))

-- a member (6.7.2.1), whose specifiers have this tag: its name is declared once in its structure
abbrev pub member_rule : Environment → Members → Option Specifier → DeclaredType → DeclaratorTree → Judgement
member_rule env earlier word t d =
    declared_rule (faults_of_both (object_faults env (behind_declarator env d) word (is_own d) (declared env t d)) (faults_declarator env t d))
    (is_some (e.member earlier (declarator_name d))) (are_sizes env (sizes_of d)) (not (declared env t d).is_open) (declared env t d).kind

-- a parameter with a name (6.7.6.3), behind its specifiers
abbrev pub parameter_rule : Environment → Environment → Specifiers → DeclaredType → DeclaratorTree → Judgement
parameter_rule outside env ws t d =
    declared_rule
    (faults_of_both (faults_specifiers outside ws) (faults_of_both (parameter_faults env (behind_declarator env d) (tag_word ws) (is_own d) (adjusted (declared env t d))) (faults_declarator env t d)))
    (is_declared_here (behind_declarator env d) (declarator_name d)) (are_sizes env (sizes_of d)) (not (adjusted (declared env t d)).is_open) (adjusted (declared env t d)).kind

-- an enumerator (6.7.2.2): a constant's name is none of the implementation's, and its value is one of int
abbrev pub enumerator_rule : Environment → Name → Option ℤ → Judgement
enumerator_rule env n v =
    unless (broken (is_declared_here env n || is_reserved env n) DeclaredTwice) (unless (broken (is_none v) NotConstant) (fits plain_int))

-- what an expression stands for that is a name
abbrev pub expression_binding : Environment → Expression → Option Binding
expression_binding env (name n) = bound_to env n
expression_binding env _ = None

-- an expression where the names stand for this, and the nodes below it
abbrev pub expression_node : Environment → Expression → Judgement → Said → Said
expression_node env x j below = named_node (expression_binding env x) j below

abbrev mutual
  -- ---- an expression itself, by its rule from its parts
  pub operand : Rows → Environment → Expression → Operand
  operand rows env (comma x y) = valued (operators.comma (operand rows env x) (operand rows (behind_expression env x) y))
  operand rows env (assign o x y) = valued (values.assign o (operand rows env x) (operand rows (behind_expression env x) y))
  operand rows env (choose w x y) =
      valued (operators.choose (operand rows env w) (operand rows (behind_expression env w) x) (operand rows (behind_expression (behind_expression env w) x) y))
  operand rows env (binary o x y) = valued (operators.binary o (operand rows env x) (operand rows (behind_expression env x) y))
  operand rows env (cast t x) =
      valued (once (said_type rows env t) (type_rule (faults_type env t) (conversions.cast (named_type env t).kind (operand rows (behind_type env t) x))))
  operand rows env (unary o x) = placed (operators.unary o (operand rows env x)) (form.unary_form o (operand rows env x))
  operand rows env (before o x) = valued (values.step (operand rows env x))
  operand rows env (size_of x) = valued (conversions.size_of (operand rows env x))
  operand rows env (size_of_type t) = valued (once (said_type rows env t) (type_rule (faults_type env t) conversions.size_of_type))
  operand rows env (index x y) =
      placed (access.index (operand rows env x) (operand rows (behind_expression env x) y)) (form.index_form (operand rows env x))
  operand rows env (call f xs) = valued (called (row_of rows env f) (as_callee (behind_expression env f) f (operand rows env f)) (operands rows (behind_expression env f) xs))
  operand rows env (dot x m) =
      placed (access.dot (member_kind (behind_expression env x) m (kind (operand rows env x).judged)) (operand rows env x)) (form.dot_form (operand rows env x).form)
  operand rows env (arrow x m) = placed (access.arrow (pointed_member (behind_expression env x) m (kind (operand rows env x).judged)) (operand rows env x)) (form.arrow_form (operand rows env x))
  operand rows env (after o x) = valued (values.step (operand rows env x))
  operand rows env (name n) = named_operand env n false
  operand rows env (integer z) = placed (names.integer z) (form.integer_form z)
  operand rows env (character c) = valued names.character
  operand rows env (text ts) = placed names.text form.text_form
  operand rows env (paren x) = placed (operators.paren (operand rows env x)) (form.paren_form (operand rows env x).form)

  pub operands : Rows → Environment → Expressions → List Operand
  operands rows env no_expressions = []
  operands rows env (expressions x xs) = operand rows env x ∷ operands rows (behind_expression env x) xs

  -- ---- the nodes below an expression
  pub below : Rows → Environment → Expression → Said
  below rows env (comma x y) = both (expression_node env x (operand rows env x).judged (below rows env x)) (expression_node (behind_expression env x) y (operand rows (behind_expression env x) y).judged (below rows (behind_expression env x) y))
  below rows env (assign o x y) = both (expression_node env x (operand rows env x).judged (below rows env x)) (expression_node (behind_expression env x) y (operand rows (behind_expression env x) y).judged (below rows (behind_expression env x) y))
  below rows env (choose w x y) =
      both (both (expression_node env w (operand rows env w).judged (below rows env w)) (expression_node (behind_expression env w) x (operand rows (behind_expression env w) x).judged (below rows (behind_expression env w) x)))
      (expression_node (behind_expression (behind_expression env w) x) y (operand rows (behind_expression (behind_expression env w) x) y).judged (below rows (behind_expression (behind_expression env w) x) y))
  below rows env (binary o x y) = both (expression_node env x (operand rows env x).judged (below rows env x)) (expression_node (behind_expression env x) y (operand rows (behind_expression env x) y).judged (below rows (behind_expression env x) y))
  below rows env (cast t x) = both (said_type rows env t) (expression_node (behind_type env t) x (operand rows (behind_type env t) x).judged (below rows (behind_type env t) x))
  below rows env (unary o x) = expression_node env x (operand rows env x).judged (below rows env x)
  below rows env (before o x) = expression_node env x (operand rows env x).judged (below rows env x)
  below rows env (size_of x) = expression_node env x (operand rows env x).judged (below rows env x)
  below rows env (size_of_type t) = said_type rows env t
  below rows env (index x y) = both (expression_node env x (operand rows env x).judged (below rows env x)) (expression_node (behind_expression env x) y (operand rows (behind_expression env x) y).judged (below rows (behind_expression env x) y))
  below rows env (call f xs) = both (expression_node env f (as_callee (behind_expression env f) f (operand rows env f)).judged (below rows env f)) (said_expressions rows (behind_expression env f) xs)
  below rows env (dot x m) = expression_node env x (operand rows env x).judged (below rows env x)
  below rows env (arrow x m) = expression_node env x (operand rows env x).judged (below rows env x)
  below rows env (after o x) = expression_node env x (operand rows env x).judged (below rows env x)
  below rows env (name n) = nothing
  below rows env (integer z) = nothing
  below rows env (character c) = nothing
  below rows env (text ts) = nothing
  below rows env (paren x) = expression_node env x (operand rows env x).judged (below rows env x)

  pub said_expressions : Rows → Environment → Expressions → Said
  said_expressions rows env no_expressions = nothing
  said_expressions rows env (expressions x xs) = both (expression_node env x (operand rows env x).judged (below rows env x)) (said_expressions rows (behind_expression env x) xs)

  pub said_sizes : Rows → Environment → Sizes → Said
  said_sizes rows env no_sizes = nothing
  said_sizes rows env (open_size xs) = said_sizes rows env xs
  said_sizes rows env (size x xs) = both (expression_node env x (operand rows env x).judged (below rows env x)) (said_sizes rows (behind_expression env x) xs)

  -- ---- types and declarators
  pub said_type : Rows → Environment → TypeTree → Said
  said_type rows env (typed ws b) = both (said_specifiers rows env ws) (said_bare rows (behind_specifiers env ws) b)

  pub said_specifiers : Rows → Environment → Specifiers → Said
  said_specifiers rows env no_specifiers = nothing
  said_specifiers rows env (specifiers w ws) = both (said_specifier rows env w) (said_specifiers rows (behind_specifier env w) ws)

  pub said_specifier : Rows → Environment → Specifier → Said
  said_specifier rows env (struct_of t ms) = said_members rows (opened env t) e.no_members ms
  said_specifier rows env (enum_of t es last) = said_enumerators rows (with_optional_tag env t None) None es
  said_specifier rows env _ = nothing

  pub said_members : Rows → Environment → Members → MemberTrees → Said
  said_members rows env earlier no_members = nothing
  said_members rows env earlier (member ws ds ms) =
      both (both (said_specifiers rows env ws) (said_declarators rows (behind_specifiers env ws) earlier (tag_word ws) (specified env ws) ds))
      (said_members rows (behind_declarators (behind_specifiers env ws) ds) (declared_members (behind_specifiers env ws) earlier (specified env ws) ds) ms)

  pub said_declarators : Rows → Environment → Members → Option Specifier → DeclaredType → Declarators → Said
  said_declarators rows env earlier word t no_declarators = nothing
  said_declarators rows env earlier word t (declarators d ds) =
      both (node (once (said_declarator rows env d) (member_rule env earlier word t d)) (said_declarator rows env d))
      (said_declarators rows (behind_declarator env d) (with_member earlier (declarator_name d) (declared env t d).kind) word t ds)

  pub said_enumerators : Rows → Environment → Option ℤ → Enumerators → Said
  said_enumerators rows env previous no_enumerators = nothing
  said_enumerators rows env previous (enumerator n es) =
      both (valued_node (constants.enumerator (value env) None previous) (enumerator_rule env n (constants.enumerator (value env) None previous)) nothing)
      (said_enumerators rows (with_entity env n (e.enumerator (constants.enumerator (value env) None previous))) (constants.enumerator (value env) None previous) es)
  said_enumerators rows env previous (enumerator_with n x es) =
      both
      (valued_node (constants.enumerator (value env) (Some x) previous)
      (once (expression_node env x (operand rows env x).judged (below rows env x)) (enumerator_rule (behind_expression env x) n (constants.enumerator (value env) (Some x) previous)))
      (expression_node env x (operand rows env x).judged (below rows env x)))
      (said_enumerators rows (with_entity (behind_expression env x) n (e.enumerator (constants.enumerator (value env) (Some x) previous))) (constants.enumerator (value env) (Some x) previous) es)

  -- the sizes and the parameters of a declarator
  pub said_declarator : Rows → Environment → DeclaratorTree → Said
  said_declarator rows env (plain ss n) = nothing
  said_declarator rows env (array ss n xs) = said_sizes rows env xs
  said_declarator rows env (function ss n ps v) = said_parameters rows false (entered env) ps
  said_declarator rows env (pointer ss qs n xs ps v) = both (said_sizes rows env xs) (said_parameters rows false (entered (behind_sizes env xs)) ps)

  pub said_parameters : Rows → Bool → Environment → Parameters → Said
  said_parameters rows has_body env no_parameters = nothing
  said_parameters rows has_body env (parameters ws f ps) =
      both (said_form rows has_body env ws (said_specifiers rows env ws) f)
      (said_parameters rows has_body (behind_form has_body (behind_specifiers env ws) (specified env ws) f) ps)

  -- a parameter with a name is a node that holds its specifiers; its name stands for a variable where the function has a body
  pub said_form : Rows → Bool → Environment → Specifiers → Said → ParameterForm → Said
  said_form rows has_body env ws inside (named_form d) =
      named_node (bound_to (behind_form has_body (behind_specifiers env ws) (specified env ws) (named_form d)) (declarator_name d))
      (once (both inside (said_declarator rows (behind_specifiers env ws) d)) (parameter_rule env (behind_specifiers env ws) ws (specified env ws) d))
      (both inside (said_declarator rows (behind_specifiers env ws) d))
  said_form rows has_body env ws inside (bare_form b) = both inside (said_bare rows (behind_specifiers env ws) b)

  pub said_bare : Rows → Environment → BareTree → Said
  said_bare rows env (bare_stars ss) = nothing
  said_bare rows env (bare_pointer ss qs ps v) = said_parameters rows false (entered env) ps

-- an expression and the nodes below it
abbrev pub said : Rows → Environment → Expression → Said
said rows env x = expression_node env x (operand rows env x).judged (below rows env x)
