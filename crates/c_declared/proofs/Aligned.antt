-- Of a part of the text as many judgements are said as it has nodes.
use Rattle.std.proofs.Common.{◌≡◌, List, ◌++◌, length, length-append, Option, Some, None, ℤ, Bool, false, suc, refl, ap, arith}
use Rattle.c_tree.specs.Nodes.{Node, nodes_expression, nodes_expressions, nodes_sizes, nodes_type, nodes_specifiers, nodes_specifier, nodes_members, nodes_declarators, nodes_enumerators, nodes_declarator, nodes_parameters, nodes_form, nodes_bare}
use Rattle.c_tree.specs.Tree.{Expression, comma, assign, choose, binary, cast, unary, before, size_of, size_of_type, index, call, dot, arrow, after, name, integer, character, text, paren, Expressions, no_expressions, expressions, Sizes, no_sizes, open_size, size, TypeTree, typed, Specifiers, no_specifiers, specifiers, Specifier, struct_of, enum_of, Members as MemberTrees, no_members, member, Declarators, no_declarators, declarators, Enumerators, no_enumerators, enumerator, enumerator_with, DeclaratorTree, plain, array, function, pointer, Parameters, no_parameters, parameters, ParameterForm, named_form, bare_form, BareTree, bare_stars, bare_pointer}
use Rattle.c_tree.specs.DeclaredNames.{declarator_name}
use Rattle.c_constants.specs.Constants as constants
use Rattle.c_environment.specs.Entity as e
use Rattle.c_environment.specs.Entity.{DeclaredType, Members, with_member}
use Rattle.c_environment.specs.Environment.{Environment, value, entered, with_entity, with_optional_tag}
use Rattle.c_environment.specs.Types.{specified}
use Rattle.c_environment.specs.Behind.{opened, behind_expression, behind_type, behind_sizes, behind_specifier, behind_specifiers, behind_declarators, behind_declarator, behind_form, declared, declared_members}
use Rattle.c_declared.specs.Said.{Said, both}
use Rattle.c_declared.specs.Faults.{tag_word}
use Rattle.c_declared.specs.Operands.{Rows, as_callee}
use Rattle.c_declared.specs.Nodes.{operand, expression_node, below, said, said_expressions, said_sizes, said_type, said_specifiers, said_specifier, said_members, said_declarators, said_enumerators, said_declarator, said_parameters, said_form, said_bare}

-- one part, and then another
pub two : (s t : Said) (a b : List Node) → length s.all ≡ length a → length t.all ≡ length b → length (both s t).all ≡ length (a ++ b)
two s t a b e f = omega (arith, length-append s.all t.all, length-append a b, e, f)

-- three, the first two of them said together
pub three : (s t u : Said) (a b c : List Node) → length s.all ≡ length a → length t.all ≡ length b → length u.all ≡ length c →
    length (both (both s t) u).all ≡ length (a ++ (b ++ c))
three s t u a b c e f g =
    omega (arith, length-append (s.all ++ t.all) u.all, length-append s.all t.all, length-append a (b ++ c), length-append b c, e, f, g)

-- the two operands of a node
pair : (rows : Rows) (env : Environment) (x y : Expression) →
    length (said rows env x).all ≡ length (nodes_expression x) → length (said rows (behind_expression env x) y).all ≡ length (nodes_expression y) →
    suc (length (both (said rows env x) (said rows (behind_expression env x) y)).all) ≡ suc (length (nodes_expression x ++ nodes_expression y))
pair rows env x y e f = ap suc (two (said rows env x) (said rows (behind_expression env x) y) (nodes_expression x) (nodes_expression y) e f)

mutual
  pub expression_aligned : (rows : Rows) (env : Environment) (x : Expression) → length (said rows env x).all ≡ length (nodes_expression x)
  expression_aligned rows env (comma x y) = pair rows env x y (expression_aligned rows env x) (expression_aligned rows (behind_expression env x) y)
  expression_aligned rows env (assign o x y) = pair rows env x y (expression_aligned rows env x) (expression_aligned rows (behind_expression env x) y)
  expression_aligned rows env (choose w x y) =
      let second = behind_expression env w in
      let third = behind_expression second x in
      ap suc (three (said rows env w) (said rows second x) (said rows third y) (nodes_expression w) (nodes_expression x) (nodes_expression y) (expression_aligned rows env w) (expression_aligned rows second x) (expression_aligned rows third y))
  expression_aligned rows env (binary o x y) = pair rows env x y (expression_aligned rows env x) (expression_aligned rows (behind_expression env x) y)
  expression_aligned rows env (cast t x) =
      ap suc (two (said_type rows env t) (said rows (behind_type env t) x) (nodes_type t) (nodes_expression x) (type_aligned rows env t) (expression_aligned rows (behind_type env t) x))
  expression_aligned rows env (unary o x) = ap suc (expression_aligned rows env x)
  expression_aligned rows env (before o x) = ap suc (expression_aligned rows env x)
  expression_aligned rows env (size_of x) = ap suc (expression_aligned rows env x)
  expression_aligned rows env (size_of_type t) = ap suc (type_aligned rows env t)
  expression_aligned rows env (index x y) = pair rows env x y (expression_aligned rows env x) (expression_aligned rows (behind_expression env x) y)
  expression_aligned rows env (call f xs) =
      ap suc (two (expression_node env f (as_callee (behind_expression env f) f (operand rows env f)).judged (below rows env f)) (said_expressions rows (behind_expression env f) xs) (nodes_expression f) (nodes_expressions xs) (expression_aligned rows env f) (expressions_aligned rows (behind_expression env f) xs))
  expression_aligned rows env (dot x m) = ap suc (expression_aligned rows env x)
  expression_aligned rows env (arrow x m) = ap suc (expression_aligned rows env x)
  expression_aligned rows env (after o x) = ap suc (expression_aligned rows env x)
  expression_aligned rows env (name n) = refl
  expression_aligned rows env (integer z) = refl
  expression_aligned rows env (character c) = refl
  expression_aligned rows env (text ts) = refl
  expression_aligned rows env (paren x) = ap suc (expression_aligned rows env x)

  pub expressions_aligned : (rows : Rows) (env : Environment) (xs : Expressions) → length (said_expressions rows env xs).all ≡ length (nodes_expressions xs)
  expressions_aligned rows env no_expressions = refl
  expressions_aligned rows env (expressions x xs) =
      two (said rows env x) (said_expressions rows (behind_expression env x) xs) (nodes_expression x) (nodes_expressions xs) (expression_aligned rows env x) (expressions_aligned rows (behind_expression env x) xs)

  pub sizes_aligned : (rows : Rows) (env : Environment) (xs : Sizes) → length (said_sizes rows env xs).all ≡ length (nodes_sizes xs)
  sizes_aligned rows env no_sizes = refl
  sizes_aligned rows env (open_size xs) = sizes_aligned rows env xs
  sizes_aligned rows env (size x xs) =
      two (said rows env x) (said_sizes rows (behind_expression env x) xs) (nodes_expression x) (nodes_sizes xs) (expression_aligned rows env x) (sizes_aligned rows (behind_expression env x) xs)

  pub type_aligned : (rows : Rows) (env : Environment) (t : TypeTree) → length (said_type rows env t).all ≡ length (nodes_type t)
  type_aligned rows env (typed ws b) =
      two (said_specifiers rows env ws) (said_bare rows (behind_specifiers env ws) b) (nodes_specifiers ws) (nodes_bare b) (specifiers_aligned rows env ws) (bare_aligned rows (behind_specifiers env ws) b)

  pub specifiers_aligned : (rows : Rows) (env : Environment) (ws : Specifiers) → length (said_specifiers rows env ws).all ≡ length (nodes_specifiers ws)
  specifiers_aligned rows env no_specifiers = refl
  specifiers_aligned rows env (specifiers w ws) =
      two (said_specifier rows env w) (said_specifiers rows (behind_specifier env w) ws) (nodes_specifier w) (nodes_specifiers ws) (specifier_aligned rows env w) (specifiers_aligned rows (behind_specifier env w) ws)

  pub specifier_aligned : (rows : Rows) (env : Environment) (w : Specifier) → length (said_specifier rows env w).all ≡ length (nodes_specifier w)
  specifier_aligned rows env (struct_of t ms) = members_aligned rows (opened env t) e.no_members ms
  specifier_aligned rows env (enum_of t es last) = enumerators_aligned rows (with_optional_tag env t None) None es
  specifier_aligned rows env _ = refl

  pub members_aligned : (rows : Rows) (env : Environment) (earlier : Members) (ms : MemberTrees) →
      length (said_members rows env earlier ms).all ≡ length (nodes_members ms)
  members_aligned rows env earlier no_members = refl
  members_aligned rows env earlier (member ws ds ms) =
      let inner = behind_specifiers env ws in
      let t = specified env ws in
      let further = behind_declarators inner ds in
      let ones = declared_members inner earlier t ds in
      three (said_specifiers rows env ws) (said_declarators rows inner earlier (tag_word ws) t ds) (said_members rows further ones ms) (nodes_specifiers ws) (nodes_declarators ds) (nodes_members ms)
      (specifiers_aligned rows env ws) (declarators_aligned rows inner earlier (tag_word ws) t ds) (members_aligned rows further ones ms)

  pub declarators_aligned : (rows : Rows) (env : Environment) (earlier : Members) (word : Option Specifier) (t : DeclaredType) (ds : Declarators) →
      length (said_declarators rows env earlier word t ds).all ≡ length (nodes_declarators ds)
  declarators_aligned rows env earlier word t no_declarators = refl
  declarators_aligned rows env earlier word t (declarators d ds) =
      let further = behind_declarator env d in
      let ones = with_member earlier (declarator_name d) (declared env t d).kind in
      ap suc (two (said_declarator rows env d) (said_declarators rows further ones word t ds) (nodes_declarator d) (nodes_declarators ds)
      (declarator_aligned rows env d) (declarators_aligned rows further ones word t ds))

  pub enumerators_aligned : (rows : Rows) (env : Environment) (previous : Option ℤ) (es : Enumerators) →
      length (said_enumerators rows env previous es).all ≡ length (nodes_enumerators es)
  enumerators_aligned rows env previous no_enumerators = refl
  enumerators_aligned rows env previous (enumerator n es) =
      let v = constants.enumerator (value env) None previous in
      ap suc (enumerators_aligned rows (with_entity env n (e.enumerator v)) v es)
  enumerators_aligned rows env previous (enumerator_with n x es) =
      let v = constants.enumerator (value env) (Some x) previous in
      let further = with_entity (behind_expression env x) n (e.enumerator v) in
      ap suc (two (said rows env x) (said_enumerators rows further v es) (nodes_expression x) (nodes_enumerators es) (expression_aligned rows env x) (enumerators_aligned rows further v es))

  pub declarator_aligned : (rows : Rows) (env : Environment) (d : DeclaratorTree) → length (said_declarator rows env d).all ≡ length (nodes_declarator d)
  declarator_aligned rows env (plain ss n) = refl
  declarator_aligned rows env (array ss n xs) = sizes_aligned rows env xs
  declarator_aligned rows env (function ss n ps v) = parameters_aligned rows false (entered env) ps
  declarator_aligned rows env (pointer ss qs n xs ps v) =
      let inner = entered (behind_sizes env xs) in
      two (said_sizes rows env xs) (said_parameters rows false inner ps) (nodes_sizes xs) (nodes_parameters ps) (sizes_aligned rows env xs) (parameters_aligned rows false inner ps)

  pub parameters_aligned : (rows : Rows) (has_body : Bool) (env : Environment) (ps : Parameters) →
      length (said_parameters rows has_body env ps).all ≡ length (nodes_parameters ps)
  parameters_aligned rows has_body env no_parameters = refl
  parameters_aligned rows has_body env (parameters ws f ps) =
      let s = said_specifiers rows env ws in
      let further = behind_form has_body (behind_specifiers env ws) (specified env ws) f in
      two (said_form rows has_body env ws s f) (said_parameters rows has_body further ps) (nodes_form (nodes_specifiers ws) ws f) (nodes_parameters ps)
      (form_aligned rows has_body env ws s (nodes_specifiers ws) f (specifiers_aligned rows env ws)) (parameters_aligned rows has_body further ps)

  pub form_aligned : (rows : Rows) (has_body : Bool) (env : Environment) (ws : Specifiers) (inside : Said) (ns : List Node) (f : ParameterForm) → length inside.all ≡ length ns →
      length (said_form rows has_body env ws inside f).all ≡ length (nodes_form ns ws f)
  form_aligned rows has_body env ws inside ns (named_form d) h =
      let inner = behind_specifiers env ws in
      ap suc (two inside (said_declarator rows inner d) ns (nodes_declarator d) h (declarator_aligned rows inner d))
  form_aligned rows has_body env ws inside ns (bare_form b) h =
      let inner = behind_specifiers env ws in
      two inside (said_bare rows inner b) ns (nodes_bare b) h (bare_aligned rows inner b)

  pub bare_aligned : (rows : Rows) (env : Environment) (b : BareTree) → length (said_bare rows env b).all ≡ length (nodes_bare b)
  bare_aligned rows env (bare_stars ss) = refl
  bare_aligned rows env (bare_pointer ss qs ps v) = parameters_aligned rows false (entered env) ps
