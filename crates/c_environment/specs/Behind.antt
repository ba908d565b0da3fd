-- What the names stand for behind each part of a program (C11 6.2.1): a name is in scope from the end of its declarator on, a tag from where
-- it appears, an enumerator from behind its value (p7). Behind a part that breaks a rule the names stand for anything.
use Rattle.std.specs.Prelude.{ℕ, List, [], ◌∷◌, Option, Some, None, ℤ, Bool, true, false}
use Rattle.c_kinds.specs.Kind.{Kind}
use Rattle.c_scopes.specs.Scope.{Name}
use Rattle.c_tree.specs.Tree.{Expression, comma, assign, choose, binary, cast, unary, before, size_of, size_of_type, index, call, dot, arrow, after, name, integer, character, text, paren, Expressions, no_expressions, expressions, Sizes, no_sizes, open_size, size, TypeTree, typed, Specifiers, no_specifiers, specifiers, Specifier, struct_tag, struct_of, enum_of, Members as MemberTrees, no_members, member, Declarators, no_declarators, declarators, Enumerators, no_enumerators, enumerator, enumerator_with, DeclaratorTree, plain, array, function, pointer, Parameters, no_parameters, parameters, ParameterForm, named_form, bare_form, BareTree, bare_stars, bare_pointer}
use Rattle.c_tree.specs.DeclaredNames.{declarator_name}
use Rattle.c_constants.specs.Constants as constants
use Rattle.c_environment.specs.Entity as e
use Rattle.c_environment.specs.Entity.{DeclaredType, Members, with_member}
use Rattle.c_environment.specs.Environment.{Environment, value, tag, tag_here, entered, left, with_entity, with_variable, with_tag, with_optional_tag, with_structure, completed, with_begun}
use Rattle.c_environment.specs.Types.{structure_number, defined_structure, specified, pointed, arrayed, function_type, pointer_type, adjusted}

-- ---- tags (6.7.2.3)

-- a tag that is mentioned, where nothing of that name is visible, is one of a structure of its own (p8)
abbrev pub mentioned : Environment → Name → Option (Option ℕ) → Environment
mentioned env n (Some what) = env
mentioned env n None = with_tag (with_structure env false) n (Some (structure_number env None))

abbrev pub tagged_by : Environment → Name → Option (Option ℕ) → Environment
tagged_by env n (Some (Some k)) = env
tagged_by env n _ = with_tag (with_structure env true) n (Some (structure_number env None))

-- the tag of a structure with members is declared in this block, where it isn't yet (p7)
abbrev pub tagged : Environment → Option Name → Environment
tagged env None = with_structure env true
tagged env (Some n) = tagged_by env n (tag_here env n)

-- before the members of a structure, which begin here (p1)
abbrev pub opened : Environment → Option Name → Environment
opened env t = with_begun (tagged env t) (defined_structure env t)

-- ---- parameters, of a function with a body or without

abbrev pub with_parameter : Bool → Environment → Name → DeclaredType → Environment
with_parameter true env n t = with_variable env n t false
with_parameter false env n t = with_entity env n (e.parameter t)

-- ---- expressions, types and declarators: only the types that stand in them declare anything

abbrev mutual
  pub behind_expression : Environment → Expression → Environment
  behind_expression env (comma x y) = behind_expression (behind_expression env x) y
  behind_expression env (assign o x y) = behind_expression (behind_expression env x) y
  behind_expression env (choose x y z) = behind_expression (behind_expression (behind_expression env x) y) z
  behind_expression env (binary o x y) = behind_expression (behind_expression env x) y
  behind_expression env (cast t x) = behind_expression (behind_type env t) x
  behind_expression env (unary o x) = behind_expression env x
  behind_expression env (before o x) = behind_expression env x
  behind_expression env (size_of x) = behind_expression env x
  behind_expression env (size_of_type t) = behind_type env t
  behind_expression env (index x y) = behind_expression (behind_expression env x) y
  behind_expression env (call f xs) = behind_expressions (behind_expression env f) xs
  behind_expression env (dot x n) = behind_expression env x
  behind_expression env (arrow x n) = behind_expression env x
  behind_expression env (after o x) = behind_expression env x
  behind_expression env (name n) = env
  behind_expression env (integer n) = env
  behind_expression env (character n) = env
  behind_expression env (text ts) = env
  behind_expression env (paren x) = behind_expression env x

  pub behind_expressions : Environment → Expressions → Environment
  behind_expressions env no_expressions = env
  behind_expressions env (expressions x xs) = behind_expressions (behind_expression env x) xs

  pub behind_sizes : Environment → Sizes → Environment
  behind_sizes env no_sizes = env
  behind_sizes env (open_size xs) = behind_sizes env xs
  behind_sizes env (size x xs) = behind_sizes (behind_expression env x) xs

  pub behind_type : Environment → TypeTree → Environment
  behind_type env (typed ws b) = behind_bare (behind_specifiers env ws) b

  pub behind_specifiers : Environment → Specifiers → Environment
  behind_specifiers env no_specifiers = env
  behind_specifiers env (specifiers w ws) = behind_specifiers (behind_specifier env w) ws

  pub behind_specifier : Environment → Specifier → Environment
  behind_specifier env (struct_tag n) = mentioned env n (tag env n)
  behind_specifier env (struct_of t ms) = completed (behind_members (opened env t) ms) (defined_structure env t) (members_of (opened env t) e.no_members ms)
  behind_specifier env (enum_of t es last) = behind_enumerators (with_optional_tag env t None) None es
  behind_specifier env _ = env

  pub behind_members : Environment → MemberTrees → Environment
  behind_members env no_members = env
  behind_members env (member ws ds ms) = behind_members (behind_declarators (behind_specifiers env ws) ds) ms

  pub behind_declarators : Environment → Declarators → Environment
  behind_declarators env no_declarators = env
  behind_declarators env (declarators d ds) = behind_declarators (behind_declarator env d) ds

  -- the members of a structure, behind those before them
  pub members_of : Environment → Members → MemberTrees → Members
  members_of env earlier no_members = earlier
  members_of env earlier (member ws ds ms) =
      members_of (behind_declarators (behind_specifiers env ws) ds) (declared_members (behind_specifiers env ws) earlier (specified env ws) ds) ms

  pub declared_members : Environment → Members → DeclaredType → Declarators → Members
  declared_members env earlier t no_declarators = earlier
  declared_members env earlier t (declarators d ds) = declared_members (behind_declarator env d) (with_member earlier (declarator_name d) (declared env t d).kind) t ds

  -- enumerators, behind one of the value
  pub behind_enumerators : Environment → Option ℤ → Enumerators → Environment
  behind_enumerators env previous no_enumerators = env
  behind_enumerators env previous (enumerator n es) =
      behind_enumerators (with_entity env n (e.enumerator (constants.enumerator (value env) None previous))) (constants.enumerator (value env) None previous) es
  behind_enumerators env previous (enumerator_with n x es) =
      behind_enumerators (with_entity (behind_expression env x) n (e.enumerator (constants.enumerator (value env) (Some x) previous))) (constants.enumerator (value env) (Some x) previous) es

  -- behind the sizes and parameters of a declarator, whose name isn't declared by it; the parameters of a function without a body are a scope
  -- of their own (6.2.1p4)
  pub behind_declarator : Environment → DeclaratorTree → Environment
  behind_declarator env (plain ss n) = env
  behind_declarator env (array ss n xs) = behind_sizes env xs
  behind_declarator env (function ss n ps v) = left (behind_parameters false (entered env) ps)
  behind_declarator env (pointer ss qs n xs ps v) = left (behind_parameters false (entered (behind_sizes env xs)) ps)

  -- parameters, of a function with a body or without
  pub behind_parameters : Bool → Environment → Parameters → Environment
  behind_parameters has_body env no_parameters = env
  behind_parameters has_body env (parameters ws f ps) = behind_parameters has_body (behind_form has_body (behind_specifiers env ws) (specified env ws) f) ps

  pub behind_form : Bool → Environment → DeclaredType → ParameterForm → Environment
  behind_form has_body env t (named_form d) = with_parameter has_body (behind_declarator env d) (declarator_name d) (adjusted (declared env t d))
  behind_form has_body env t (bare_form b) = behind_bare env b

  pub behind_bare : Environment → BareTree → Environment
  behind_bare env (bare_stars ss) = env
  behind_bare env (bare_pointer ss qs ps v) = left (behind_parameters false (entered env) ps)

  -- ---- the types of declarators, from those of their specifiers

  pub declared : Environment → DeclaredType → DeclaratorTree → DeclaredType
  declared env t (plain ss n) = pointed ss t
  declared env t (array ss n xs) = arrayed xs (pointed ss t)
  declared env t (function ss n ps v) = function_type (parameter_kinds false (entered env) ps) (pointed ss t)
  declared env t (pointer ss qs n xs ps v) = pointer_type qs xs (parameter_kinds false (entered (behind_sizes env xs)) ps) (pointed ss t)

  pub parameter_kinds : Bool → Environment → Parameters → List Kind
  parameter_kinds has_body env no_parameters = []
  parameter_kinds has_body env (parameters ws f ps) =
      (parameter_type (behind_specifiers env ws) (specified env ws) f).kind
      ∷ parameter_kinds has_body (behind_form has_body (behind_specifiers env ws) (specified env ws) f) ps

  pub parameter_type : Environment → DeclaredType → ParameterForm → DeclaredType
  parameter_type env t (named_form d) = adjusted (declared env t d)
  parameter_type env t (bare_form b) = adjusted (bare env t b)

  pub bare : Environment → DeclaredType → BareTree → DeclaredType
  bare env t (bare_stars ss) = pointed ss t
  bare env t (bare_pointer ss qs ps v) = pointer_type qs no_sizes (parameter_kinds false (entered env) ps) (pointed ss t)

-- the type that a type name gives (6.7.7)
abbrev pub named_type : Environment → TypeTree → DeclaredType
named_type env (typed ws b) = bare (behind_specifiers env ws) (specified env ws) b
