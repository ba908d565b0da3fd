-- The edges of each position stand in order of their targets, and the number behind a used value's node is greater than the node's.
use Rattle.std.proofs.Common.{◌≡◌, ℕ, ◌+◌, ◌<◌, ◌≤◌, List, [], ◌∷◌, ◌++◌, length, Option, Some, None, Bool, true, false, refl, arith}
use Rattle.std.specs.Prelude.{cond, nat_eq}
use Rattle.base_core.specs.declared.id.Pos.{Pos}
use Rattle.c_tree.specs.declared.tree.BinaryOp.{BinaryOp}
use Rattle.c_tree.specs.declared.tree.BinaryOp.TheVariants.{And, Or}
use Rattle.c_tree.specs.Nodes.{nodes_expression, nodes_statement}
use Rattle.c_tree.specs.Tree.{Expression, comma, assign, choose, binary, cast, unary, before, size_of, size_of_type, index, call, dot, arrow, after, name, integer, character, text, paren, Expressions, no_expressions, expressions, NamedTree, ForStartTree, start_declaration, start_expression, StatementTree, block, declaration, expression_statement, if_statement, if_else_statement, while_statement, do_statement, for_statement, switch_statement, case_label, default_label, named_label, break_statement, continue_statement, return_statement, goto_statement, Statements, no_statements, statements, FunctionTree, ItemTree, function_item, declaration_item}
use Rattle.c_tree.specs.Behind.{behind_expression, behind_type, behind_specifiers, behind_declarator, behind_named, behind_optional, behind_start, behind_statement, behind_item}
use Rattle.c_tree.proofs.Behind.{expression_behind, optional_behind, start_behind, statement_behind}
use Rattle.flow_form.specs.declared.edge.Edge.{Edge}
use Rattle.flow_form.specs.declared.edge.Guard.TheVariants.{Always, Equal, NoneOf}
use Rattle.flow_form.specs.declared.edge.Source.{Source}
use Rattle.flow_form.specs.declared.edge.Use.{Use}
use Rattle.flow_form.specs.declared.meaning.Call.{Call}
use Rattle.flow_form.specs.declared.meaning.Call.TheVariants.{Value, Returns, Never, Copies, Waits}
use Rattle.flow_form.specs.Typing.{Typing}
use Rattle.flow_form.specs.Control.{inside, arguments, called, callee_ways, behind_callee, between, kept_value, unused_value, used_unless, takes_place}
use Rattle.flow_form.specs.Laws.{IsOrdered}
use Rattle.flow_form.specs.Pending.{is_leave}
use Rattle.flow_form.specs.Positions.{Ways, node, enter, leave, plain, kept, ◌⟶◌, ◌⟹◌, choice}
use Rattle.flow_form.specs.Statements.{Around, in_loop, in_switch, jump, leaving, optional_values, through, declared, names_ways, declaration_ways, step_ways, condition_ways, start_ways, to_optional, case_edges, cases, has_default, leave_edges, switch_edges, statement_ways, in_order, labels, body_number, end_ways, function_ways, items_ways}

abbrev pub Ahead : Option Use → ℕ → ℕ → Type 0
Ahead None n b = Unit {0}
Ahead (Some u) n b = n < b

abbrev pub Given : Option ℕ → Pos → Type 0
Given None p = Unit {0}
Given (Some f) p = is_leave p.phase ≡ true

-- the number behind the node of a used value is greater, and a function has its result at a Leave
abbrev pub IsSource : Source → Type 0
IsSource s = Ahead s.used s.at.node.0 s.past × Given s.gives s.at

abbrev pub Fine : List Ways → Type 0
Fine [] = Unit {0}
Fine (r ∷ rs) = (IsOrdered r.next × IsSource r.source) × Fine rs

pub fine_append : (xs ys : List Ways) → Fine xs → Fine ys → Fine (xs ++ ys)
fine_append [] ys h k = k
fine_append (x ∷ xs) ys h k = (h.0, fine_append xs ys h.1 k)

some_expression : (x : Expression) → 0 < length (nodes_expression x)
some_expression (comma x y) = omega arith
some_expression (assign o x y) = omega arith
some_expression (choose x y z) = omega arith
some_expression (binary o x y) = omega arith
some_expression (cast c x) = omega arith
some_expression (unary o x) = omega arith
some_expression (before o x) = omega arith
some_expression (size_of x) = omega arith
some_expression (size_of_type c) = omega arith
some_expression (index x y) = omega arith
some_expression (call f xs) = omega arith
some_expression (dot x m) = omega arith
some_expression (arrow x m) = omega arith
some_expression (after o x) = omega arith
some_expression (name m) = omega arith
some_expression (integer m) = omega arith
some_expression (character m) = omega arith
some_expression (text ms) = omega arith
some_expression (paren x) = omega arith

some_statement : (s : StatementTree) → 0 < length (nodes_statement s)
some_statement (block ss) = omega arith
some_statement (declaration d) = omega arith
some_statement (expression_statement x) = omega arith
some_statement (if_statement x s) = omega arith
some_statement (if_else_statement x s r) = omega arith
some_statement (while_statement x s) = omega arith
some_statement (do_statement s x) = omega arith
some_statement (for_statement start x y s) = omega arith
some_statement (switch_statement x s) = omega arith
some_statement (case_label x) = omega arith
some_statement default_label = omega arith
some_statement (named_label m) = omega arith
some_statement break_statement = omega arith
some_statement continue_statement = omega arith
some_statement (return_statement x) = omega arith
some_statement (goto_statement m) = omega arith

pub expression_more : (n : ℕ) (x : Expression) → n < behind_expression n x
expression_more n x = omega (arith, expression_behind n x, some_expression x)

pub statement_more : (n : ℕ) (s : StatementTree) → n < behind_statement n s
statement_more n s = omega (arith, statement_behind n s, some_statement s)

operand : (a : ℕ) (x : Expression) → (a < behind_expression a x) × Unit {0}
operand a x = (expression_more a x, tt)

between_fine : (o : BinaryOp) (n a b : ℕ) (r : Bool) → n < b → a < b → IsOrdered (between o n a b r).next × IsSource (between o n a b r).source
between_fine And n a b r h k = ((h, (tt, tt)), (k, tt))
between_fine Or n a b r h k = ((h, (tt, tt)), (k, tt))
between_fine _ n a b r h k = ((tt, tt), (k, tt))

called_fine : (c : Call) (n : ℕ) → Fine (called c n)
called_fine Value n = (((tt, tt), (tt, tt)), tt)
called_fine Returns n = (((tt, tt), (tt, tt)), tt)
called_fine Never n = ((tt, (tt, tt)), tt)
called_fine Copies n = (((tt, tt), (tt, tt)), (((tt, tt), (tt, tt)), tt))
called_fine Waits n = (((tt, tt), (tt, tt)), tt)

callee_fine : (c : Call) (n a : ℕ) (F : List Ways) → Fine F → Fine (callee_ways c n a F)
callee_fine Value n a F h = (((tt, tt), (tt, tt)), h)
callee_fine Returns n a F h = tt
callee_fine Never n a F h = tt
callee_fine Copies n a F h = tt
callee_fine Waits n a F h = tt

behind_callee_fine : (c : Call) (n : ℕ) (s : Source) → IsSource s → IsSource (behind_callee c n s)
behind_callee_fine Value n s h = h
behind_callee_fine Returns n s h = (tt, tt)
behind_callee_fine Never n s h = (tt, tt)
behind_callee_fine Copies n s h = (tt, tt)
behind_callee_fine Waits n s h = (tt, tt)

unless_fine : (b : Bool) (n a c : ℕ) (r : Bool) → a < c → IsSource (used_unless b n a c r)
unless_fine true n a c r h = (tt, tt)
unless_fine false n a c r h = (h, tt)

-- s: from where control comes into the part a, of which X are the rows inside; r: the part's Leave
last_fine : (s : Source) (a : ℕ) (r : Source) (q : Pos) (X : List Ways) → IsSource s → IsSource r → Fine X → Fine ((s ⟹ enter a) ∷ (X ++ (r ⟹ q) ∷ []))
last_fine s a r q X h k x = (((tt, tt), h), fine_append X _ x (((tt, tt), k), tt))

mutual
  pub inside_fine : (t : Typing) (p : Bool) (n : ℕ) (x : Expression) → Fine (inside t p n x)
  inside_fine t p n (comma x y) = (((tt, tt), (tt, tt)), fine_append (inside t false (n + 1) x) _ (inside_fine t false (n + 1) x) (last_fine (unused_value t (n + 1) x) (behind_expression (n + 1) x) _ _ (inside t false (behind_expression (n + 1) x) y) (tt, tt) (operand _ y) (inside_fine t false (behind_expression (n + 1) x) y)))
  inside_fine t p n (assign o x y) = (((tt, tt), (tt, tt)), fine_append (inside t true (n + 1) x) _ (inside_fine t true (n + 1) x) (last_fine (kept n (n + 1) (behind_expression (n + 1) x) false) (behind_expression (n + 1) x) _ _ (inside t false (behind_expression (n + 1) x) y) (expression_more (n + 1) x, tt) (operand _ y) (inside_fine t false (behind_expression (n + 1) x) y)))
  inside_fine t p n (choose x y z) =
      let b = behind_expression (n + 1) x in let c = behind_expression b y in (
        ((tt, tt), (tt, tt)),
        fine_append (inside t false (n + 1) x) _ (inside_fine t false (n + 1) x) (fine_append (inside t false b y) _ (inside_fine t false b y) (
          ((tt, tt), operand b y),
          (
            ((expression_more b y, (tt, tt)), operand (n + 1) x),
            fine_append (inside t false c z) _ (inside_fine t false c z) (((tt, tt), operand c z), tt),
          ),
        )),
      )
  inside_fine t p n (binary o x y) =
      let b = behind_expression (n + 1) x in let more = expression_more (n + 1) x in (
        ((tt, tt), (tt, tt)),
        fine_append (inside t false (n + 1) x) _ (inside_fine t false (n + 1) x) (
          between_fine o n (n + 1) b _ (omega (arith, more)) more,
          fine_append (inside t false b y) _ (inside_fine t false b y) (((tt, tt), operand b y), tt),
        ),
      )
  inside_fine t p n (cast c x) = last_fine (plain (enter n)) (behind_type (n + 1) c) _ _ (inside t false (behind_type (n + 1) c) x) (tt, tt) (unless_fine (t.is_void n) n (behind_type (n + 1) c) _ _ (expression_more (behind_type (n + 1) c) x)) (inside_fine t false (behind_type (n + 1) c) x)
  inside_fine t p n (unary o x) = last_fine (plain (enter n)) (n + 1) _ _ (inside t (takes_place o) (n + 1) x) (tt, tt) (operand (n + 1) x) (inside_fine t (takes_place o) (n + 1) x)
  inside_fine t p n (before o x) = last_fine (plain (enter n)) (n + 1) _ _ (inside t true (n + 1) x) (tt, tt) (operand (n + 1) x) (inside_fine t true (n + 1) x)
  inside_fine t p n (size_of x) = (((tt, tt), (tt, tt)), tt)
  inside_fine t p n (size_of_type c) = (((tt, tt), (tt, tt)), tt)
  inside_fine t p n (index x y) = (((tt, tt), (tt, tt)), fine_append (inside t false (n + 1) x) _ (inside_fine t false (n + 1) x) (last_fine (kept_value t n (n + 1) x) (behind_expression (n + 1) x) _ _ (inside t false (behind_expression (n + 1) x) y) (expression_more (n + 1) x, tt) (operand _ y) (inside_fine t false (behind_expression (n + 1) x) y)))
  inside_fine t p n (call f xs) =
      fine_append (callee_ways (t.call (n + 1)) n (n + 1) (inside t false (n + 1) f)) _ (callee_fine (t.call (n + 1)) n (n + 1) (inside t false (n + 1) f) (inside_fine t false (n + 1) f))
      (fine_append (arguments t (behind_callee (t.call (n + 1)) n (kept_value t n (n + 1) f)) n (behind_expression (n + 1) f) xs) _
      (arguments_fine t (behind_callee (t.call (n + 1)) n (kept_value t n (n + 1) f)) n (behind_expression (n + 1) f) xs (behind_callee_fine (t.call (n + 1)) n (kept_value t n (n + 1) f) (operand (n + 1) f)))
      (called_fine (t.call (n + 1)) n))
  inside_fine t p n (dot x m) = last_fine (plain (enter n)) (n + 1) _ _ (inside t true (n + 1) x) (tt, tt) (operand (n + 1) x) (inside_fine t true (n + 1) x)
  inside_fine t p n (arrow x m) = last_fine (plain (enter n)) (n + 1) _ _ (inside t false (n + 1) x) (tt, tt) (operand (n + 1) x) (inside_fine t false (n + 1) x)
  inside_fine t p n (after o x) = last_fine (plain (enter n)) (n + 1) _ _ (inside t true (n + 1) x) (tt, tt) (operand (n + 1) x) (inside_fine t true (n + 1) x)
  inside_fine t p n (name m) = (((tt, tt), (tt, tt)), tt)
  inside_fine t p n (integer m) = (((tt, tt), (tt, tt)), tt)
  inside_fine t p n (character m) = (((tt, tt), (tt, tt)), tt)
  inside_fine t p n (text ms) = (((tt, tt), (tt, tt)), tt)
  inside_fine t p n (paren x) = last_fine (plain (enter n)) (n + 1) _ _ (inside t p (n + 1) x) (tt, tt) (operand (n + 1) x) (inside_fine t p (n + 1) x)

  pub arguments_fine : (t : Typing) (s : Source) (c n : ℕ) (xs : Expressions) → IsSource s → Fine (arguments t s c n xs)
  arguments_fine t s c n no_expressions h = (((tt, tt), h), tt)
  arguments_fine t s c n (expressions x xs) h = (((tt, tt), h), fine_append (inside t false n x) _ (inside_fine t false n x) (arguments_fine t (kept_value t c n x) c (behind_expression n x) xs (operand n x)))

leaving_fine : (w : Around) (n : ℕ) (s : StatementTree) → IsSource (leaving w n s)
leaving_fine w n (return_statement (Some x)) = (tt, refl)
leaving_fine w n (return_statement None) = (tt, tt)
leaving_fine w n _ = (tt, tt)

through_fine : (t : Typing) (s : Source) (n : ℕ) (xs : List (ℕ × Expression)) → IsSource s → Fine (through t s n xs)
through_fine t s n [] h = (((tt, tt), h), tt)
through_fine t s n (x ∷ xs) h = (((tt, tt), h), fine_append (inside t false x.0 x.1) _ (inside_fine t false x.0 x.1) (through_fine t (kept_value t n x.0 x.1) n xs (operand x.0 x.1)))

branch_fine : (t : Typing) (s : Source) (q : Pos) (n : ℕ) (d : NamedTree) (ds : List NamedTree) (b : Bool) → IsSource s → ((r : Source) → IsSource r → Fine (names_ways t r q (behind_named n d) ds)) →
    Fine (cond b (record { source = s; next = (record { to = enter n; guard = Always }) ∷ [] } ∷ (through t (plain (enter n)) n (optional_values (behind_declarator (n + 1) d.declarator) d.init) ++ names_ways t (declared n (behind_named n d)) q (behind_named n d) ds)) (names_ways t s q (behind_named n d) ds))
branch_fine t s q n d ds true h f =
    let xs = optional_values (behind_declarator (n + 1) d.declarator) d.init in
    (((tt, tt), h), fine_append (through t (plain (enter n)) n xs) _ (through_fine t (plain (enter n)) n xs (tt, tt)) (f (declared n (behind_named n d)) (tt, tt)))
branch_fine t s q n d ds false h f = f s h

names_fine : (t : Typing) (s : Source) (q : Pos) (n : ℕ) (ds : List NamedTree) → IsSource s → Fine (names_ways t s q n ds)
names_fine t s q n [] h = (((tt, tt), h), tt)
names_fine t s q n (d ∷ ds) h = branch_fine t s q n d ds (t.is_automatic n) h (λ r k. names_fine t r q (behind_named n d) ds k)

step_fine : (t : Typing) (n : ℕ) (x : Option Expression) (q : Pos) → Fine (step_ways t n x q)
step_fine t n None q = tt
step_fine t n (Some x) q = fine_append (inside t false n x) _ (inside_fine t false n x) (((tt, tt), (tt, tt)), tt)

condition_fine : (t : Typing) (n a b : ℕ) (x : Option Expression) → n < b → Fine (condition_ways t n a b x)
condition_fine t n a b None h = tt
condition_fine t n a b (Some x) h = fine_append (inside t false a x) _ (inside_fine t false a x) (((h, (tt, tt)), operand a x), tt)

start_fine : (t : Typing) (p : Pos) (n : ℕ) (s : ForStartTree) (q : Pos) → Fine (start_ways t p n s q)
start_fine t p n (start_declaration d) q = (((tt, tt), (tt, tt)), fine_append (declaration_ways t n d) _ (names_fine t (plain (enter n)) (leave n) (behind_specifiers (n + 1) d.specs) d.names (tt, tt)) (((tt, tt), (tt, tt)), tt))
start_fine t p n (start_expression x) q = (((tt, tt), (tt, tt)), step_fine t n x q)

-- all edges lead to nodes from n on
abbrev From : ℕ → List Edge → Type 0
From n [] = Unit {0}
From n (e ∷ es) = (n ≤ e.to.node.0) × From n es

from_weaker : (m n : ℕ) (es : List Edge) → m ≤ n → From n es → From m es
from_weaker m n [] h k = tt
from_weaker m n (e ∷ es) h k = (omega (arith, h, k.0), from_weaker m n es h k.1)

ordered_cons : (e : Edge) (m : ℕ) (es : List Edge) → e.to.node.0 < m → From m es → IsOrdered es → IsOrdered (e ∷ es)
ordered_cons e m [] h k o = (tt, tt)
ordered_cons e m (f ∷ fs) h k o = (omega (arith, h, k.0), o)

case_fine : (t : Typing) (s a n m : ℕ) (r : StatementTree) (es : List Edge) → n < m → From m es → IsOrdered es → IsOrdered (case_edges t s a n r ++ es) × From n (case_edges t s a n r ++ es)
case_fine t s a n m (case_label x) es h k o = (ordered_cons (record { to = enter n; guard = Equal (node a) (t.constant n) }) m es h k o, (omega arith, from_weaker n m es (omega (arith, h)) k))
case_fine t s a n m default_label es h k o = (ordered_cons (record { to = enter n; guard = NoneOf (node s) }) m es h k o, (omega arith, from_weaker n m es (omega (arith, h)) k))
case_fine t s a n m _ es h k o = (o, from_weaker n m es (omega (arith, h)) k)

cases_fine : (t : Typing) (s a n : ℕ) (ss : Statements) → IsOrdered (cases t s a n ss) × From n (cases t s a n ss)
cases_fine t s a n no_statements = (tt, tt)
cases_fine t s a n (statements r ss) =
    let rest = cases_fine t s a (behind_statement n r) ss in
    case_fine t s a n (behind_statement n r) r (cases t s a (behind_statement n r) ss) (statement_more n r) rest.1 rest.0

leave_edges_fine : (b : Bool) (s m : ℕ) (es : List Edge) → s < m → From m es → IsOrdered es → IsOrdered (leave_edges b s ++ es)
leave_edges_fine true s m es h k o = o
leave_edges_fine false s m es h k o = ordered_cons (record { to = leave s; guard = NoneOf (node s) }) m es h k o

switch_fine : (t : Typing) (s a b : ℕ) (body : StatementTree) → s < b → IsOrdered (switch_edges t s a b body)
switch_fine t s a b (block ss) h = let all = cases_fine t s a (b + 1) ss in leave_edges_fine (has_default ss) s (b + 1) (cases t s a (b + 1) ss) (omega (arith, h)) all.1 all.0
switch_fine t s a b _ h = tt

-- from n into its condition a; r: the Leave of the condition; s: the Leave of a statement behind it
if_fine : (n a : ℕ) (r s : Source) (e f : Edge) (q : Pos) (X S : List Ways) → IsSource r → IsSource s → e.to.node.0 < f.to.node.0 → Fine X → Fine S →
    Fine ((enter n ⟶ enter a) ∷ (X ++ choice r e f ∷ (S ++ (s ⟹ q) ∷ [])))
if_fine n a r s e f q X S hr hs h x y = (((tt, tt), (tt, tt)), fine_append X _ x (((h, (tt, tt)), hr), fine_append S _ y (((tt, tt), hs), tt)))

mutual
  pub statement_fine : (t : Typing) (w : Around) (n : ℕ) (s : StatementTree) → Fine (statement_ways t w n s)
  statement_fine t w n (block ss) = in_order_fine t w (plain (enter n)) None (leave n) (n + 1) ss (tt, tt)
  statement_fine t w n (declaration d) = names_fine t (plain (enter n)) (leave n) (behind_specifiers (n + 1) d.specs) d.names (tt, tt)
  statement_fine t w n (expression_statement None) = (((tt, tt), (tt, tt)), tt)
  statement_fine t w n (expression_statement (Some x)) = last_fine (plain (enter n)) (n + 1) _ _ (inside t false (n + 1) x) (tt, tt) (tt, tt) (inside_fine t false (n + 1) x)
  statement_fine t w n (if_statement x s) =
      let b = behind_expression (n + 1) x in
      if_fine n (n + 1) _ _ _ _ _ (inside t false (n + 1) x) (statement_ways t w b s) (operand (n + 1) x) (leaving_fine w b s) (omega (arith, expression_more (n + 1) x)) (inside_fine t false (n + 1) x) (statement_fine t w b s)
  statement_fine t w n (if_else_statement x s r) =
      let b = behind_expression (n + 1) x in let c = behind_statement b s in (
        ((tt, tt), (tt, tt)),
        fine_append (inside t false (n + 1) x) _ (inside_fine t false (n + 1) x) (fine_append (statement_ways t w b s) _ (statement_fine t w b s) (
          ((tt, tt), leaving_fine w b s),
          (
            ((statement_more b s, (tt, tt)), operand (n + 1) x),
            fine_append (statement_ways t w c r) _ (statement_fine t w c r) (((tt, tt), leaving_fine w c r), tt),
          ),
        )),
      )
  statement_fine t w n (while_statement x s) =
      let b = behind_expression (n + 1) x in let v = in_loop w (leave n) (enter (n + 1)) in
      if_fine n (n + 1) _ _ _ _ _ (inside t false (n + 1) x) (statement_ways t v b s) (operand (n + 1) x) (leaving_fine v b s) (omega (arith, expression_more (n + 1) x)) (inside_fine t false (n + 1) x) (statement_fine t v b s)
  statement_fine t w n (do_statement s x) =
      let a = behind_statement (n + 1) s in let v = in_loop w (leave n) (enter a) in (
        ((tt, tt), (tt, tt)),
        fine_append (statement_ways t v (n + 1) s) _ (statement_fine t v (n + 1) s) (
          ((tt, tt), leaving_fine v (n + 1) s),
          fine_append (inside t false a x) _ (inside_fine t false a x) (((omega arith, (tt, tt)), operand a x), tt),
        ),
      )
  statement_fine t w n (for_statement start x y s) =
      let a = behind_start (n + 1) start in let c = behind_optional a x in let b = behind_optional c y in
      let test = to_optional a x (enter b) in let again = to_optional c y test in let v = in_loop w (leave n) again in
      let more : n < b = omega (arith, start_behind (n + 1) start, optional_behind a x, optional_behind c y) in
      fine_append (start_ways t (enter n) (n + 1) start test) _ (start_fine t (enter n) (n + 1) start test)
      (fine_append (condition_ways t n a b x) _ (condition_fine t n a b x more)
      (fine_append (step_ways t c y test) _ (step_fine t c y test)
      (fine_append (statement_ways t v b s) _ (statement_fine t v b s) (((tt, tt), leaving_fine v b s), tt))))
  statement_fine t w n (switch_statement x s) =
      let b = behind_expression (n + 1) x in let v = in_switch w (leave n) in (
        ((tt, tt), (tt, tt)),
        fine_append (inside t false (n + 1) x) _ (inside_fine t false (n + 1) x) (fine_append (statement_ways t v b s) _ (statement_fine t v b s)
            (((tt, tt), (tt, tt)), ((switch_fine t n (n + 1) b s (omega (arith, expression_more (n + 1) x)), operand (n + 1) x), tt))),
      )
  statement_fine t w n (return_statement None) = (((tt, tt), (tt, tt)), tt)
  statement_fine t w n (return_statement (Some x)) = last_fine (plain (enter n)) (n + 1) _ _ (inside t false (n + 1) x) (tt, tt) (operand (n + 1) x) (inside_fine t false (n + 1) x)
  statement_fine t w n (case_label x) = (((tt, tt), (tt, tt)), tt)
  statement_fine t w n default_label = (((tt, tt), (tt, tt)), tt)
  statement_fine t w n (named_label m) = (((tt, tt), (tt, tt)), tt)
  statement_fine t w n break_statement = (((tt, tt), (tt, tt)), tt)
  statement_fine t w n continue_statement = (((tt, tt), (tt, tt)), tt)
  statement_fine t w n (goto_statement m) = (((tt, tt), (tt, tt)), tt)

  pub in_order_fine : (t : Typing) (w : Around) (s : Source) (o : Option Pos) (q : Pos) (n : ℕ) (ss : Statements) → IsSource s → Fine (in_order t w s o q n ss)
  in_order_fine t w s o q n no_statements h = (((tt, tt), h), tt)
  in_order_fine t w s o q n (statements r ss) h = (((tt, tt), h), fine_append (statement_ways t w n r) _ (statement_fine t w n r) (in_order_fine t w (leaving w n r) (jump w r) q (behind_statement n r) ss (leaving_fine w n r)))

end_fine : (b : Bool) (n : ℕ) → Fine (end_ways b n)
end_fine true n = (((tt, tt), (tt, refl)), ((tt, (tt, tt)), tt))
end_fine false n = ((tt, (tt, refl)), tt)

pub function_fine : (t : Typing) (n : ℕ) (f : FunctionTree) → Fine (function_ways t n f)
function_fine t n f =
    let b = body_number n f in let w : Around = record { stop = leave n; again = leave n; function = n; labels = labels b f.body } in
    (((tt, tt), (tt, tt)), fine_append (statement_ways t w b f.body) _ (statement_fine t w b f.body) (((tt, tt), (tt, tt)), end_fine (nat_eq n t.main) n))

pub items_fine : (t : Typing) (n : ℕ) (is : List ItemTree) → Fine (items_ways t n is)
items_fine t n [] = tt
items_fine t n (function_item f ∷ is) = fine_append (function_ways t n f) _ (function_fine t n f) (items_fine t (behind_item n (function_item f)) is)
items_fine t n (declaration_item d ∷ is) = items_fine t (behind_item n (declaration_item d)) is
