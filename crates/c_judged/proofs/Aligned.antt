-- Of a part of the text as many judgements are said as it has nodes.
use Rattle.std.proofs.Common.{◌≡◌, ℕ, List, [], ◌∷◌, ◌++◌, length, length-append, Option, Some, None, suc, refl, ap, true, arith}
use Rattle.c_kinds.specs.Kind.{Kind}
use Rattle.c_tree.specs.declared.tree.Storage.{Storage}
use Rattle.c_tree.specs.Nodes.{Node, nodes_expression, nodes_specifiers, nodes_declarator, nodes_parameters, nodes_init, nodes_initializers, nodes_optional_init, nodes_named, nodes_names, nodes_declaration, nodes_optional, nodes_start, nodes_statement, nodes_statements, nodes_function, nodes_item, nodes_items}
use Rattle.c_tree.specs.Tree.{Expression, Specifier, Initializer, single, listed, Initializers, no_initializers, initializers, NamedTree, DeclarationTree, ForStartTree, start_declaration, start_expression, StatementTree, block, declaration, expression_statement, if_statement, if_else_statement, while_statement, do_statement, for_statement, switch_statement, case_label, default_label, named_label, break_statement, continue_statement, return_statement, goto_statement, Statements, no_statements, statements, FunctionTree, ItemTree, function_item, declaration_item}
use Rattle.c_environment.specs.Entity.{DeclaredType}
use Rattle.c_environment.specs.Environment.{Environment, entered, left}
use Rattle.c_environment.specs.Types.{specified}
use Rattle.c_environment.specs.Behind.{behind_expression, behind_specifiers, declared}
use Rattle.c_environment.specs.Scopes.{behind_initializer, behind_named, behind_optional, behind_start, behind_statement, behind_item, in_function, with_parameters}
use Rattle.c_rules.specs.Judgement.{kind}
use Rattle.c_declared.specs.Faults.{tag_word}
use Rattle.c_declared.specs.Said.{Said, both}
use Rattle.c_declared.specs.Operands.{Rows}
use Rattle.c_declared.specs.Nodes.{operand, said, said_specifiers, said_declarator, said_parameters}
use Rattle.c_declared.proofs.Aligned.{two, three, expression_aligned, specifiers_aligned, declarator_aligned, parameters_aligned}
use Rattle.c_judged.specs.Aligned.{AsManyAsNodes}
use Rattle.c_judged.specs.Initializers.{said_initializer, said_initializers, filled, filled_kind, next_place}
use Rattle.c_judged.specs.Declarations.{said_optional as said_optional_initializer, in_initializer, said_named, said_names, said_declaration}
use Rattle.c_judged.specs.Statements.{Body, Cases, no_cases, first_cases, behind_cases, said_optional, said_start, said_statement, said_switched, said_statements}
use Rattle.c_judged.specs.Program.{said_body, body_of, said_function, said_item, said_items}

-- four parts, the first three of them said together
four : (s t u v : Said) (a b c d : List Node) → length s.all ≡ length a → length t.all ≡ length b → length u.all ≡ length c → length v.all ≡ length d →
    length (both (both (both s t) u) v).all ≡ length (a ++ (b ++ (c ++ d)))
four s t u v a b c d e f g h =
    omega (arith, length-append ((s.all ++ t.all) ++ u.all) v.all, length-append (s.all ++ t.all) u.all, length-append s.all t.all, length-append a (b ++ (c ++ d)), length-append b (c ++ d), length-append c d, e, f, g, h)

-- ---- initialisers

mutual
  pub initializer_aligned : (rows : Rows) (env : Environment) (due : Option Kind) (i : Initializer) →
      length (said_initializer rows env due i).all ≡ length (nodes_init i)
  initializer_aligned rows env due (single x) = expression_aligned rows env x
  initializer_aligned rows env due (listed ps last) = ap suc (initializers_aligned rows env due 0 ps)

  pub initializers_aligned : (rows : Rows) (env : Environment) (due : Option Kind) (at : ℕ) (ps : Initializers) →
      length (said_initializers rows env due at ps).all ≡ length (nodes_initializers ps)
  initializers_aligned rows env due at no_initializers = refl
  initializers_aligned rows env due at (initializers n i ps) =
      let place = filled env due at n in
      let further = behind_initializer env i in
      two (said_initializer rows env (filled_kind env due place) i) (said_initializers rows further due (next_place at place) ps) (nodes_init i) (nodes_initializers ps)
      (initializer_aligned rows env (filled_kind env due place) i) (initializers_aligned rows further due (next_place at place) ps)

-- ---- declarations

optional_initializer_aligned : (rows : Rows) (env : Environment) (k : Kind) (i : Option Initializer) →
    length (said_optional_initializer rows env k i).all ≡ length (nodes_optional_init i)
optional_initializer_aligned rows env k None = refl
optional_initializer_aligned rows env k (Some i) = initializer_aligned rows env (Some k) i

pub named_aligned : (rows : Rows) (env : Environment) (storage : Storage) (word : Option Specifier) (t : DeclaredType) (n : NamedTree) →
    length (said_named rows env storage word t n).all ≡ length (nodes_named n)
named_aligned rows env storage word t n =
    let inner = in_initializer env storage t n in
    let k = (declared env t n.declarator).kind in
    ap suc (two (said_declarator rows env n.declarator) (said_optional_initializer rows inner k n.init) (nodes_declarator n.declarator) (nodes_optional_init n.init)
    (declarator_aligned rows env n.declarator) (optional_initializer_aligned rows inner k n.init))

pub names_aligned : (rows : Rows) (env : Environment) (storage : Storage) (word : Option Specifier) (t : DeclaredType) (ns : List NamedTree) →
    length (said_names rows env storage word t ns).all ≡ length (nodes_names ns)
names_aligned rows env storage word t [] = refl
names_aligned rows env storage word t (n ∷ ns) =
    let further = behind_named env storage t n in
    two (said_named rows env storage word t n) (said_names rows further storage word t ns) (nodes_named n) (nodes_names ns)
    (named_aligned rows env storage word t n) (names_aligned rows further storage word t ns)

pub declaration_aligned : (rows : Rows) (env : Environment) (d : DeclarationTree) → length (said_declaration rows env d).all ≡ length (nodes_declaration d)
declaration_aligned rows env d =
    let inner = behind_specifiers env d.specs in
    let t = specified env d.specs in
    ap suc (two (said_specifiers rows env d.specs) (said_names rows inner d.storage (tag_word d.specs) t d.names) (nodes_specifiers d.specs) (nodes_names d.names)
    (specifiers_aligned rows env d.specs) (names_aligned rows inner d.storage (tag_word d.specs) t d.names))

-- ---- statements

pub optional_aligned : (rows : Rows) (env : Environment) (x : Option Expression) → length (said_optional rows env x).all ≡ length (nodes_optional x)
optional_aligned rows env None = refl
optional_aligned rows env (Some x) = expression_aligned rows env x

pub start_aligned : (rows : Rows) (env : Environment) (a : ForStartTree) → length (said_start rows env a).all ≡ length (nodes_start a)
start_aligned rows env (start_declaration d) = declaration_aligned rows env d
start_aligned rows env (start_expression x) = optional_aligned rows env x

mutual
  pub statement_aligned : (rows : Rows) (f : Body) (env : Environment) (cs : Cases) (x : StatementTree) →
      length (said_statement rows f env cs x).all ≡ length (nodes_statement x)
  statement_aligned rows f env cs (block ss) = ap suc (statements_aligned rows f (entered env) no_cases ss)
  statement_aligned rows f env cs (declaration d) = declaration_aligned rows env d
  statement_aligned rows f env cs (expression_statement x) = ap suc (optional_aligned rows env x)
  statement_aligned rows f env cs (if_statement x s) =
      let inner = entered env in
      let first = entered (behind_expression inner x) in
      ap suc (two (said rows inner x) (said_statement rows f first no_cases s) (nodes_expression x) (nodes_statement s)
      (expression_aligned rows inner x) (statement_aligned rows f first no_cases s))
  statement_aligned rows f env cs (if_else_statement x s r) =
      let inner = entered env in
      let first = entered (behind_expression inner x) in
      let second = entered (left (behind_statement first s)) in
      ap suc (three (said rows inner x) (said_statement rows f first no_cases s) (said_statement rows f second no_cases r) (nodes_expression x) (nodes_statement s) (nodes_statement r)
      (expression_aligned rows inner x) (statement_aligned rows f first no_cases s) (statement_aligned rows f second no_cases r))
  statement_aligned rows f env cs (while_statement x s) =
      let inner = entered env in
      let first = entered (behind_expression inner x) in
      ap suc (two (said rows inner x) (said_statement rows f first no_cases s) (nodes_expression x) (nodes_statement s)
      (expression_aligned rows inner x) (statement_aligned rows f first no_cases s))
  statement_aligned rows f env cs (do_statement s x) =
      let first = entered (entered env) in
      let second = left (behind_statement first s) in
      ap suc (two (said_statement rows f first no_cases s) (said rows second x) (nodes_statement s) (nodes_expression x)
      (statement_aligned rows f first no_cases s) (expression_aligned rows second x))
  statement_aligned rows f env cs (for_statement a x y s) =
      let inner = entered env in
      let second = behind_start inner a in
      let third = behind_optional second x in
      let last = entered (behind_optional third y) in
      ap suc (four (said_start rows inner a) (said_optional rows second x) (said_optional rows third y) (said_statement rows f last no_cases s) (nodes_start a) (nodes_optional x) (nodes_optional y) (nodes_statement s)
      (start_aligned rows inner a) (optional_aligned rows second x) (optional_aligned rows third y) (statement_aligned rows f last no_cases s))
  statement_aligned rows f env cs (switch_statement x s) =
      let inner = entered env in
      let first = entered (behind_expression inner x) in
      let of = first_cases (kind (operand rows inner x).judged) in
      let elsewhere = said_statement rows f first no_cases s in
      ap suc (two (said rows inner x) (said_switched rows f first of s elsewhere) (nodes_expression x) (nodes_statement s)
      (expression_aligned rows inner x) (switched_aligned rows f first of s elsewhere (statement_aligned rows f first no_cases s)))
  statement_aligned rows f env cs (case_label x) = ap suc (expression_aligned rows env x)
  statement_aligned rows f env cs default_label = refl
  statement_aligned rows f env cs (named_label n) = refl
  statement_aligned rows f env cs break_statement = refl
  statement_aligned rows f env cs continue_statement = refl
  statement_aligned rows f env cs (return_statement x) = ap suc (optional_aligned rows env x)
  statement_aligned rows f env cs (goto_statement n) = refl

  switched_aligned : (rows : Rows) (f : Body) (env : Environment) (cs : Cases) (x : StatementTree) (elsewhere : Said) → length elsewhere.all ≡ length (nodes_statement x) →
      length (said_switched rows f env cs x elsewhere).all ≡ length (nodes_statement x)
  switched_aligned rows f env cs (block ss) elsewhere h = ap suc (statements_aligned rows f (entered env) cs ss)
  switched_aligned rows f env cs _ elsewhere h = h

  pub statements_aligned : (rows : Rows) (f : Body) (env : Environment) (cs : Cases) (xs : Statements) →
      length (said_statements rows f env cs xs).all ≡ length (nodes_statements xs)
  statements_aligned rows f env cs no_statements = refl
  statements_aligned rows f env cs (statements s ss) =
      let further = behind_statement env s in
      let more = behind_cases env cs s in
      two (said_statement rows f env cs s) (said_statements rows f further more ss) (nodes_statement s) (nodes_statements ss)
      (statement_aligned rows f env cs s) (statements_aligned rows f further more ss)

-- ---- items

body_aligned : (rows : Rows) (f : Body) (env : Environment) (x : StatementTree) →
    length (said_body rows f env x).all ≡ length (nodes_statement x)
body_aligned rows f env (block ss) = ap suc (statements_aligned rows f env no_cases ss)
body_aligned rows f env x = statement_aligned rows f env no_cases x

pub function_aligned : (rows : Rows) (env : Environment) (f : FunctionTree) →
    length (said_function rows env f).all ≡ length (nodes_function f)
function_aligned rows env f =
    let inner = in_function env f in
    let within = with_parameters inner (specified env f.specs) f in
    ap suc (three (said_specifiers rows env f.specs) (said_parameters rows true inner f.params) (said_body rows (body_of env f) within f.body) (nodes_specifiers f.specs) (nodes_parameters f.params) (nodes_statement f.body)
    (specifiers_aligned rows env f.specs) (parameters_aligned rows true inner f.params) (body_aligned rows (body_of env f) within f.body))

pub item_aligned : (rows : Rows) (env : Environment) (i : ItemTree) → length (said_item rows env i).all ≡ length (nodes_item i)
item_aligned rows env (function_item f) = function_aligned rows env f
item_aligned rows env (declaration_item d) = declaration_aligned rows env d

pub items_aligned : (rows : Rows) (env : Environment) (items : List ItemTree) →
    length (said_items rows env items).all ≡ length (nodes_items items)
items_aligned rows env [] = refl
items_aligned rows env (i ∷ is) =
    two (said_item rows env i) (said_items rows (behind_item env i) is) (nodes_item i) (nodes_items is)
    (item_aligned rows env i) (items_aligned rows (behind_item env i) is)

pub as_many : AsManyAsNodes
as_many rows env items = omega (arith, items_aligned rows env items)
