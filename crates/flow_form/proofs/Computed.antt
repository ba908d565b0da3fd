-- The positions, edges and pending values of a program, computed. Its text:
--   void h(int s) { }
--   struct s { int m[2]; struct s *n; } g;
--   int f(int a, int *p) {
--     int i = a && *p, k[2] = { 1, a + 1 }, z;
--     static int once = 1;
--     do { if (i) continue; for (int j = 0; j < 2; j++) { if (j) break; k[j] += i ? a : 1; } } while (++i < 3 || a);
--     switch (a) { case 1: g.m[i] = 2; default: break; case 2: goto out; }
--     while (a) { f(f(1, p), g.n->m); a--; }
--     if (fork() == 0) exit(sizeof f(1, p)); else (void) sigsuspend((sigset_t *) 0);
--   out: return (h(1), z);
--   }
--   int main(void) { int (*q)(int, int *) = f; return (*q)(1, &g.m[0]); }

use Rattle.std.proofs.Common.{◌≡◌, ℤ, pos, List, [], ◌∷◌, Some, None, Bool, true, false, refl, codes}
use Rattle.c_tree.specs.declared.tree.AssignOp.TheVariants as assign_op
use Rattle.c_tree.specs.declared.tree.BinaryOp.TheVariants as op
use Rattle.c_tree.specs.declared.tree.UnaryOp.TheVariants as unary_op
use Rattle.c_tree.specs.declared.tree.StepOp.TheVariants as step_op
use Rattle.c_tree.specs.declared.tree.Storage.TheVariants as storage
use Rattle.c_tree.specs.Tree.{comma, assign, choose, binary, cast, unary, before, size_of, index, call, dot, arrow, after, name, integer, paren, no_expressions, expressions, no_sizes, size, typed, no_specifiers, specifiers, void_word, int_word, type_name, struct_tag, struct_of, no_members, member, no_declarators, declarators, plain, array, pointer, no_parameters, parameters, named_form, bare_form, bare_stars, single, listed, no_initializers, initializers, start_declaration, block, declaration, expression_statement, if_statement, if_else_statement, while_statement, do_statement, for_statement, switch_statement, case_label, default_label, named_label, break_statement, continue_statement, return_statement, goto_statement, no_statements, statements, ItemTree, function_item, declaration_item}
use Rattle.base_core.specs.declared.id.Pos.{Pos}
use Rattle.flow_form.specs.declared.edge.Guard.TheVariants.{Always, Nonzero, Zero, Equal, NoneOf}
use Rattle.flow_form.specs.declared.meaning.Call.{Call}
use Rattle.flow_form.specs.declared.meaning.Call.TheVariants.{Value, Returns, Never, Copies, Waits}
use Rattle.flow_form.specs.Typing.{Typing}
use Rattle.flow_form.specs.Positions.{node, enter, in0, in1, leave, finish}
use Rattle.flow_form.specs.Statements.{program_ways}
use Rattle.flow_form.specs.Action.{Own, Behind, Element, Member, MemberBehind, Literal, Named, Truth, IsNonzero, Keep, Convert, AddressOf, Binary, SizeOf, Nothing, Pass, Take, Designate, Read, Store, Update, Step, Declare, CallIn, CallOut, Forked, Return, End, Exit}
use Rattle.flow_form.proofs.Compute.{flag_at, at_list, there, ways_on, held_at, reads_of, actions}

abbrev item0 : ItemTree
item0 = function_item (record { storage = storage.Nothing; specs = (specifiers void_word no_specifiers); stars = []; name = (codes "h"); params = (parameters (specifiers int_word no_specifiers) (named_form (plain [] (codes "s"))) no_parameters); word = false; body = (block no_statements) })

abbrev item1 : ItemTree
item1 = declaration_item (record { storage = storage.Nothing; specs = (specifiers (struct_of (Some (codes "s")) (member (specifiers int_word no_specifiers) (declarators (array [] (codes "m") (size (integer (codes "2")) no_sizes)) no_declarators) (member (specifiers (struct_tag (codes "s")) no_specifiers) (declarators (plain ([] ∷ []) (codes "n")) no_declarators) no_members))) no_specifiers); names = ((record { declarator = (plain [] (codes "g")); init = None }) ∷ []) })

abbrev item2 : ItemTree
item2 = function_item (record { storage = storage.Nothing; specs = (specifiers int_word no_specifiers); stars = []; name = (codes "f"); params = (parameters (specifiers int_word no_specifiers) (named_form (plain [] (codes "a"))) (parameters (specifiers int_word no_specifiers) (named_form (plain ([] ∷ []) (codes "p"))) no_parameters)); word = false; body = (block (statements (declaration (record { storage = storage.Nothing; specs = (specifiers int_word no_specifiers); names = ((record { declarator = (plain [] (codes "i")); init = (Some (single (binary op.And (name (codes "a")) (unary unary_op.Follow (name (codes "p")))))) }) ∷ (record { declarator = (array [] (codes "k") (size (integer (codes "2")) no_sizes)); init = (Some (listed (initializers None (single (integer (codes "1"))) (initializers None (single (binary op.Add (name (codes "a")) (integer (codes "1")))) no_initializers)) false)) }) ∷ (record { declarator = (plain [] (codes "z")); init = None }) ∷ []) })) (statements (declaration (record { storage = storage.Static; specs = (specifiers int_word no_specifiers); names = ((record { declarator = (plain [] (codes "once")); init = (Some (single (integer (codes "1")))) }) ∷ []) })) (statements (do_statement (block (statements (if_statement (name (codes "i")) continue_statement) (statements (for_statement (start_declaration (record { storage = storage.Nothing; specs = (specifiers int_word no_specifiers); names = ((record { declarator = (plain [] (codes "j")); init = (Some (single (integer (codes "0")))) }) ∷ []) })) (Some (binary op.Less (name (codes "j")) (integer (codes "2")))) (Some (after step_op.Up (name (codes "j")))) (block (statements (if_statement (name (codes "j")) break_statement) (statements (expression_statement (Some (assign assign_op.Add (index (name (codes "k")) (name (codes "j"))) (choose (name (codes "i")) (name (codes "a")) (integer (codes "1")))))) no_statements)))) no_statements))) (binary op.Or (binary op.Less (before step_op.Up (name (codes "i"))) (integer (codes "3"))) (name (codes "a")))) (statements (switch_statement (name (codes "a")) (block (statements (case_label (integer (codes "1"))) (statements (expression_statement (Some (assign assign_op.Plain (index (dot (name (codes "g")) (codes "m")) (name (codes "i"))) (integer (codes "2"))))) (statements default_label (statements break_statement (statements (case_label (integer (codes "2"))) (statements (goto_statement (codes "out")) no_statements)))))))) (statements (while_statement (name (codes "a")) (block (statements (expression_statement (Some (call (name (codes "f")) (expressions (call (name (codes "f")) (expressions (integer (codes "1")) (expressions (name (codes "p")) no_expressions))) (expressions (arrow (dot (name (codes "g")) (codes "n")) (codes "m")) no_expressions))))) (statements (expression_statement (Some (after step_op.Down (name (codes "a"))))) no_statements)))) (statements (if_else_statement (binary op.Equal (call (name (codes "fork")) no_expressions) (integer (codes "0"))) (expression_statement (Some (call (name (codes "exit")) (expressions (size_of (call (name (codes "f")) (expressions (integer (codes "1")) (expressions (name (codes "p")) no_expressions)))) no_expressions)))) (expression_statement (Some (cast (typed (specifiers void_word no_specifiers) (bare_stars [])) (call (name (codes "sigsuspend")) (expressions (cast (typed (specifiers (type_name (codes "sigset_t")) no_specifiers) (bare_stars ([] ∷ []))) (integer (codes "0"))) no_expressions)))))) (statements (named_label (codes "out")) (statements (return_statement (Some (paren (comma (call (name (codes "h")) (expressions (integer (codes "1")) no_expressions)) (name (codes "z")))))) no_statements))))))))) })

abbrev item3 : ItemTree
item3 = function_item (record { storage = storage.Nothing; specs = (specifiers int_word no_specifiers); stars = []; name = (codes "main"); params = no_parameters; word = true; body = (block (statements (declaration (record { storage = storage.Nothing; specs = (specifiers int_word no_specifiers); names = ((record { declarator = (pointer [] [] (codes "q") no_sizes (parameters (specifiers int_word no_specifiers) (bare_form (bare_stars [])) (parameters (specifiers int_word no_specifiers) (bare_form (bare_stars ([] ∷ []))) no_parameters)) false); init = (Some (single (name (codes "f")))) }) ∷ []) })) (statements (return_statement (Some (call (paren (unary unary_op.Follow (name (codes "q")))) (expressions (integer (codes "1")) (expressions (unary unary_op.Address (index (dot (name (codes "g")) (codes "m")) (integer (codes "0")))) no_expressions))))) no_statements))) })

abbrev items : List ItemTree
items = (item0 ∷ item1 ∷ item2 ∷ item3 ∷ [])

abbrev calls : List Call
calls = (Value ∷ Value ∷ Value ∷ Value ∷ Value ∷ Value ∷ Value ∷ Value ∷ Value ∷ Value ∷ Value ∷ Value ∷ Value ∷ Value ∷ Value ∷ Value ∷ Value ∷ Value ∷ Value ∷ Value ∷ Value ∷ Value ∷ Value ∷ Value ∷ Value ∷ Value ∷ Value ∷ Value ∷ Value ∷ Value ∷ Value ∷ Value ∷ Value ∷ Value ∷ Value ∷ Value ∷ Value ∷ Value ∷ Value ∷ Value ∷ Value ∷ Value ∷ Value ∷ Value ∷ Value ∷ Value ∷ Value ∷ Value ∷ Value ∷ Value ∷ Value ∷ Value ∷ Value ∷ Value ∷ Value ∷ Value ∷ Value ∷ Value ∷ Value ∷ Value ∷ Value ∷ Value ∷ Value ∷ Value ∷ Value ∷ Value ∷ Value ∷ Value ∷ Value ∷ Value ∷ Value ∷ Value ∷ Value ∷ Value ∷ Value ∷ Value ∷ Value ∷ Value ∷ Value ∷ Value ∷ Value ∷ Value ∷ Value ∷ Value ∷ Value ∷ Returns ∷ Value ∷ Returns ∷ Value ∷ Value ∷ Value ∷ Value ∷ Value ∷ Value ∷ Value ∷ Value ∷ Value ∷ Value ∷ Value ∷ Copies ∷ Value ∷ Value ∷ Value ∷ Never ∷ Value ∷ Value ∷ Returns ∷ Value ∷ Value ∷ Value ∷ Value ∷ Value ∷ Waits ∷ Value ∷ Value ∷ Value ∷ Value ∷ Value ∷ Value ∷ Value ∷ Returns ∷ Value ∷ Value ∷ Value ∷ Value ∷ Value ∷ Value ∷ Value ∷ Value ∷ Value ∷ Value ∷ Value ∷ Value ∷ Value ∷ Value ∷ Value ∷ Value ∷ Value ∷ Value ∷ [])

abbrev constants : List ℤ
constants = ((pos 0) ∷ (pos 0) ∷ (pos 0) ∷ (pos 0) ∷ (pos 0) ∷ (pos 0) ∷ (pos 0) ∷ (pos 0) ∷ (pos 0) ∷ (pos 0) ∷ (pos 0) ∷ (pos 0) ∷ (pos 0) ∷ (pos 0) ∷ (pos 0) ∷ (pos 0) ∷ (pos 0) ∷ (pos 0) ∷ (pos 0) ∷ (pos 0) ∷ (pos 0) ∷ (pos 0) ∷ (pos 0) ∷ (pos 0) ∷ (pos 0) ∷ (pos 0) ∷ (pos 0) ∷ (pos 0) ∷ (pos 0) ∷ (pos 0) ∷ (pos 0) ∷ (pos 0) ∷ (pos 0) ∷ (pos 0) ∷ (pos 0) ∷ (pos 0) ∷ (pos 0) ∷ (pos 0) ∷ (pos 0) ∷ (pos 0) ∷ (pos 0) ∷ (pos 0) ∷ (pos 0) ∷ (pos 0) ∷ (pos 0) ∷ (pos 0) ∷ (pos 0) ∷ (pos 0) ∷ (pos 0) ∷ (pos 0) ∷ (pos 0) ∷ (pos 0) ∷ (pos 0) ∷ (pos 0) ∷ (pos 0) ∷ (pos 0) ∷ (pos 0) ∷ (pos 0) ∷ (pos 0) ∷ (pos 0) ∷ (pos 0) ∷ (pos 0) ∷ (pos 0) ∷ (pos 0) ∷ (pos 0) ∷ (pos 0) ∷ (pos 1) ∷ (pos 0) ∷ (pos 0) ∷ (pos 0) ∷ (pos 0) ∷ (pos 0) ∷ (pos 0) ∷ (pos 0) ∷ (pos 0) ∷ (pos 0) ∷ (pos 0) ∷ (pos 2) ∷ (pos 0) ∷ (pos 0) ∷ (pos 0) ∷ (pos 0) ∷ (pos 0) ∷ (pos 0) ∷ (pos 0) ∷ (pos 0) ∷ (pos 0) ∷ (pos 0) ∷ (pos 0) ∷ (pos 0) ∷ (pos 0) ∷ (pos 0) ∷ (pos 0) ∷ (pos 0) ∷ (pos 0) ∷ (pos 0) ∷ (pos 0) ∷ (pos 0) ∷ (pos 0) ∷ (pos 0) ∷ (pos 0) ∷ (pos 0) ∷ (pos 0) ∷ (pos 0) ∷ (pos 0) ∷ (pos 0) ∷ (pos 0) ∷ (pos 0) ∷ (pos 0) ∷ (pos 0) ∷ (pos 0) ∷ (pos 0) ∷ (pos 0) ∷ (pos 0) ∷ (pos 0) ∷ (pos 0) ∷ (pos 0) ∷ (pos 0) ∷ (pos 0) ∷ (pos 0) ∷ (pos 0) ∷ (pos 0) ∷ (pos 0) ∷ (pos 0) ∷ (pos 0) ∷ (pos 0) ∷ (pos 0) ∷ (pos 0) ∷ (pos 0) ∷ (pos 0) ∷ (pos 0) ∷ (pos 0) ∷ (pos 0) ∷ (pos 0) ∷ (pos 0) ∷ (pos 0) ∷ (pos 0) ∷ (pos 0) ∷ (pos 0) ∷ [])

abbrev automatic : List Bool
automatic = (false ∷ false ∷ false ∷ false ∷ false ∷ false ∷ false ∷ false ∷ false ∷ false ∷ false ∷ false ∷ false ∷ false ∷ true ∷ false ∷ false ∷ false ∷ false ∷ true ∷ false ∷ false ∷ false ∷ false ∷ false ∷ false ∷ true ∷ false ∷ false ∷ false ∷ false ∷ false ∷ false ∷ false ∷ false ∷ false ∷ false ∷ true ∷ false ∷ false ∷ false ∷ false ∷ false ∷ false ∷ false ∷ false ∷ false ∷ false ∷ false ∷ false ∷ false ∷ false ∷ false ∷ false ∷ false ∷ false ∷ false ∷ false ∷ false ∷ false ∷ false ∷ false ∷ false ∷ false ∷ false ∷ false ∷ false ∷ false ∷ false ∷ false ∷ false ∷ false ∷ false ∷ false ∷ false ∷ false ∷ false ∷ false ∷ false ∷ false ∷ false ∷ false ∷ false ∷ false ∷ false ∷ false ∷ false ∷ false ∷ false ∷ false ∷ false ∷ false ∷ false ∷ false ∷ false ∷ false ∷ false ∷ false ∷ false ∷ false ∷ false ∷ false ∷ false ∷ false ∷ false ∷ false ∷ false ∷ false ∷ false ∷ false ∷ false ∷ false ∷ false ∷ false ∷ false ∷ false ∷ false ∷ false ∷ false ∷ false ∷ false ∷ false ∷ false ∷ false ∷ false ∷ false ∷ true ∷ false ∷ false ∷ false ∷ false ∷ false ∷ false ∷ false ∷ false ∷ false ∷ false ∷ false ∷ false ∷ [])

abbrev voids : List Bool
voids = (false ∷ false ∷ false ∷ false ∷ false ∷ false ∷ false ∷ false ∷ false ∷ false ∷ false ∷ false ∷ false ∷ false ∷ false ∷ false ∷ false ∷ false ∷ false ∷ false ∷ false ∷ false ∷ false ∷ false ∷ false ∷ false ∷ false ∷ false ∷ false ∷ false ∷ false ∷ false ∷ false ∷ false ∷ false ∷ false ∷ false ∷ false ∷ false ∷ false ∷ false ∷ false ∷ false ∷ false ∷ false ∷ false ∷ false ∷ false ∷ false ∷ false ∷ false ∷ false ∷ false ∷ false ∷ false ∷ false ∷ false ∷ false ∷ false ∷ false ∷ false ∷ false ∷ false ∷ false ∷ false ∷ false ∷ false ∷ false ∷ false ∷ false ∷ false ∷ false ∷ false ∷ false ∷ false ∷ false ∷ false ∷ false ∷ false ∷ false ∷ false ∷ false ∷ false ∷ false ∷ false ∷ false ∷ false ∷ false ∷ false ∷ false ∷ false ∷ false ∷ false ∷ false ∷ false ∷ false ∷ false ∷ false ∷ false ∷ false ∷ false ∷ false ∷ true ∷ false ∷ false ∷ false ∷ false ∷ false ∷ false ∷ false ∷ true ∷ false ∷ false ∷ false ∷ false ∷ false ∷ false ∷ false ∷ false ∷ true ∷ false ∷ false ∷ false ∷ false ∷ false ∷ false ∷ false ∷ false ∷ false ∷ false ∷ false ∷ false ∷ false ∷ false ∷ false ∷ false ∷ false ∷ false ∷ false ∷ [])

abbrev arrays : List Bool
arrays = (false ∷ false ∷ false ∷ false ∷ false ∷ false ∷ false ∷ false ∷ false ∷ false ∷ false ∷ false ∷ false ∷ false ∷ false ∷ false ∷ false ∷ false ∷ false ∷ false ∷ false ∷ false ∷ false ∷ false ∷ false ∷ false ∷ false ∷ false ∷ false ∷ false ∷ false ∷ false ∷ false ∷ false ∷ false ∷ false ∷ false ∷ false ∷ false ∷ false ∷ false ∷ false ∷ false ∷ false ∷ false ∷ false ∷ false ∷ false ∷ false ∷ false ∷ false ∷ true ∷ false ∷ false ∷ false ∷ false ∷ false ∷ false ∷ false ∷ false ∷ false ∷ false ∷ false ∷ false ∷ false ∷ false ∷ false ∷ false ∷ false ∷ false ∷ false ∷ true ∷ false ∷ false ∷ false ∷ false ∷ false ∷ false ∷ false ∷ false ∷ false ∷ false ∷ false ∷ false ∷ false ∷ false ∷ false ∷ false ∷ false ∷ false ∷ true ∷ false ∷ false ∷ false ∷ false ∷ false ∷ false ∷ false ∷ false ∷ false ∷ false ∷ false ∷ false ∷ false ∷ false ∷ false ∷ false ∷ false ∷ false ∷ false ∷ false ∷ false ∷ false ∷ false ∷ false ∷ false ∷ false ∷ false ∷ false ∷ false ∷ false ∷ false ∷ false ∷ false ∷ false ∷ false ∷ false ∷ false ∷ false ∷ false ∷ false ∷ false ∷ false ∷ false ∷ false ∷ false ∷ true ∷ false ∷ false ∷ [])

abbrev designates : List Bool
designates = (false ∷ false ∷ false ∷ false ∷ false ∷ false ∷ false ∷ false ∷ false ∷ false ∷ false ∷ false ∷ false ∷ false ∷ false ∷ false ∷ true ∷ true ∷ true ∷ false ∷ false ∷ false ∷ false ∷ false ∷ true ∷ false ∷ false ∷ false ∷ false ∷ false ∷ false ∷ false ∷ false ∷ true ∷ false ∷ false ∷ false ∷ false ∷ false ∷ false ∷ true ∷ false ∷ false ∷ true ∷ false ∷ false ∷ true ∷ false ∷ false ∷ false ∷ false ∷ true ∷ true ∷ false ∷ true ∷ true ∷ false ∷ false ∷ false ∷ false ∷ true ∷ false ∷ true ∷ false ∷ true ∷ false ∷ false ∷ false ∷ false ∷ false ∷ false ∷ false ∷ true ∷ true ∷ false ∷ false ∷ false ∷ false ∷ false ∷ false ∷ false ∷ true ∷ false ∷ false ∷ false ∷ false ∷ false ∷ false ∷ false ∷ true ∷ false ∷ false ∷ true ∷ false ∷ false ∷ true ∷ false ∷ false ∷ false ∷ false ∷ false ∷ false ∷ false ∷ false ∷ false ∷ false ∷ false ∷ false ∷ true ∷ false ∷ false ∷ false ∷ false ∷ false ∷ false ∷ false ∷ false ∷ false ∷ false ∷ false ∷ false ∷ false ∷ true ∷ false ∷ false ∷ false ∷ false ∷ false ∷ false ∷ false ∷ false ∷ false ∷ true ∷ false ∷ false ∷ false ∷ false ∷ true ∷ false ∷ [])

abbrev t : Typing
t = record {
  call = λ n. at_list Value calls n;
  constant = λ n. at_list (pos 0) constants n;
  is_automatic = λ n. flag_at automatic n;
  is_void = λ n. flag_at voids n;
  is_array = λ n. flag_at arrays n;
  designates = λ n. flag_at designates n;
  main = 123;
}

-- exactly these positions are there
pub positions0 : there (program_ways t items) 0 25 ≡ (enter 1 ∷ leave 1 ∷ enter 3 ∷ leave 3 ∷ enter 9 ∷ leave 9 ∷ enter 12 ∷ leave 12 ∷ enter 13 ∷ leave 13 ∷ enter 14 ∷ leave 14 ∷ enter 15 ∷ leave 15 ∷ enter 16 ∷ leave 16 ∷ enter 17 ∷ leave 17 ∷ enter 18 ∷ leave 18 ∷ enter 19 ∷ leave 19 ∷ enter 22 ∷ leave 22 ∷ enter 23 ∷ leave 23 ∷ enter 24 ∷ leave 24 ∷ [])
positions0 = refl

pub positions1 : there (program_ways t items) 25 25 ≡ (enter 25 ∷ leave 25 ∷ enter 26 ∷ leave 26 ∷ enter 27 ∷ leave 27 ∷ enter 30 ∷ leave 30 ∷ enter 31 ∷ leave 31 ∷ enter 32 ∷ leave 32 ∷ enter 33 ∷ leave 33 ∷ enter 34 ∷ leave 34 ∷ enter 35 ∷ leave 35 ∷ enter 36 ∷ leave 36 ∷ enter 37 ∷ leave 37 ∷ enter 38 ∷ leave 38 ∷ enter 39 ∷ leave 39 ∷ enter 40 ∷ leave 40 ∷ enter 41 ∷ leave 41 ∷ enter 42 ∷ leave 42 ∷ enter 43 ∷ leave 43 ∷ enter 44 ∷ leave 44 ∷ enter 45 ∷ leave 45 ∷ enter 46 ∷ leave 46 ∷ enter 47 ∷ leave 47 ∷ enter 48 ∷ leave 48 ∷ enter 49 ∷ leave 49 ∷ [])
positions1 = refl

pub positions2 : there (program_ways t items) 50 25 ≡ (enter 50 ∷ leave 50 ∷ enter 51 ∷ leave 51 ∷ enter 52 ∷ leave 52 ∷ enter 53 ∷ leave 53 ∷ enter 54 ∷ leave 54 ∷ enter 55 ∷ leave 55 ∷ enter 56 ∷ leave 56 ∷ enter 57 ∷ leave 57 ∷ enter 58 ∷ leave 58 ∷ enter 59 ∷ leave 59 ∷ enter 60 ∷ leave 60 ∷ enter 61 ∷ leave 61 ∷ enter 62 ∷ leave 62 ∷ enter 63 ∷ leave 63 ∷ enter 64 ∷ leave 64 ∷ enter 65 ∷ leave 65 ∷ enter 66 ∷ leave 66 ∷ enter 68 ∷ leave 68 ∷ enter 69 ∷ leave 69 ∷ enter 70 ∷ leave 70 ∷ enter 71 ∷ leave 71 ∷ enter 72 ∷ leave 72 ∷ enter 73 ∷ leave 73 ∷ enter 74 ∷ leave 74 ∷ [])
positions2 = refl

pub positions3 : there (program_ways t items) 75 25 ≡ (enter 75 ∷ leave 75 ∷ enter 76 ∷ leave 76 ∷ enter 77 ∷ leave 77 ∷ enter 79 ∷ leave 79 ∷ enter 80 ∷ leave 80 ∷ enter 81 ∷ leave 81 ∷ enter 82 ∷ leave 82 ∷ enter 83 ∷ leave 83 ∷ enter 84 ∷ in0 84 ∷ leave 84 ∷ enter 86 ∷ in0 86 ∷ leave 86 ∷ enter 88 ∷ leave 88 ∷ enter 89 ∷ leave 89 ∷ enter 90 ∷ leave 90 ∷ enter 91 ∷ leave 91 ∷ enter 92 ∷ leave 92 ∷ enter 93 ∷ leave 93 ∷ enter 94 ∷ leave 94 ∷ enter 95 ∷ leave 95 ∷ enter 96 ∷ leave 96 ∷ enter 97 ∷ leave 97 ∷ enter 98 ∷ in0 98 ∷ in1 98 ∷ leave 98 ∷ [])
positions3 = refl

pub positions4 : there (program_ways t items) 100 25 ≡ (enter 100 ∷ leave 100 ∷ enter 101 ∷ leave 101 ∷ enter 102 ∷ in0 102 ∷ leave 102 ∷ enter 104 ∷ leave 104 ∷ enter 109 ∷ leave 109 ∷ enter 110 ∷ leave 110 ∷ enter 111 ∷ in0 111 ∷ leave 111 ∷ enter 113 ∷ leave 113 ∷ enter 114 ∷ leave 114 ∷ enter 115 ∷ leave 115 ∷ enter 116 ∷ leave 116 ∷ enter 117 ∷ leave 117 ∷ enter 118 ∷ leave 118 ∷ enter 119 ∷ in0 119 ∷ leave 119 ∷ enter 121 ∷ leave 121 ∷ enter 122 ∷ leave 122 ∷ enter 123 ∷ leave 123 ∷ finish 123 ∷ enter 124 ∷ leave 124 ∷ [])
positions4 = refl

pub positions5 : there (program_ways t items) 125 14 ≡ (enter 125 ∷ leave 125 ∷ enter 126 ∷ leave 126 ∷ enter 127 ∷ leave 127 ∷ enter 128 ∷ leave 128 ∷ enter 129 ∷ in0 129 ∷ leave 129 ∷ enter 130 ∷ leave 130 ∷ enter 131 ∷ leave 131 ∷ enter 132 ∷ leave 132 ∷ enter 133 ∷ leave 133 ∷ enter 134 ∷ leave 134 ∷ enter 135 ∷ leave 135 ∷ enter 136 ∷ leave 136 ∷ enter 137 ∷ leave 137 ∷ enter 138 ∷ leave 138 ∷ [])
positions5 = refl

abbrev all : List Pos
all = (enter 1 ∷ leave 1 ∷ enter 3 ∷ leave 3 ∷ enter 9 ∷ leave 9 ∷ enter 12 ∷ leave 12 ∷ enter 13 ∷ leave 13 ∷ enter 14 ∷ leave 14 ∷ enter 15 ∷ leave 15 ∷ enter 16 ∷ leave 16 ∷ enter 17 ∷ leave 17 ∷ enter 18 ∷ leave 18 ∷ enter 19 ∷ leave 19 ∷ enter 22 ∷ leave 22 ∷ enter 23 ∷ leave 23 ∷ enter 24 ∷ leave 24 ∷ enter 25 ∷ leave 25 ∷ enter 26 ∷ leave 26 ∷ enter 27 ∷ leave 27 ∷ enter 30 ∷ leave 30 ∷ enter 31 ∷ leave 31 ∷ enter 32 ∷ leave 32 ∷ enter 33 ∷ leave 33 ∷ enter 34 ∷ leave 34 ∷ enter 35 ∷ leave 35 ∷ enter 36 ∷ leave 36 ∷ enter 37 ∷ leave 37 ∷ enter 38 ∷ leave 38 ∷ enter 39 ∷ leave 39 ∷ enter 40 ∷ leave 40 ∷ enter 41 ∷ leave 41 ∷ enter 42 ∷ leave 42 ∷ enter 43 ∷ leave 43 ∷ enter 44 ∷ leave 44 ∷ enter 45 ∷ leave 45 ∷ enter 46 ∷ leave 46 ∷ enter 47 ∷ leave 47 ∷ enter 48 ∷ leave 48 ∷ enter 49 ∷ leave 49 ∷ enter 50 ∷ leave 50 ∷ enter 51 ∷ leave 51 ∷ enter 52 ∷ leave 52 ∷ enter 53 ∷ leave 53 ∷ enter 54 ∷ leave 54 ∷ enter 55 ∷ leave 55 ∷ enter 56 ∷ leave 56 ∷ enter 57 ∷ leave 57 ∷ enter 58 ∷ leave 58 ∷ enter 59 ∷ leave 59 ∷ enter 60 ∷ leave 60 ∷ enter 61 ∷ leave 61 ∷ enter 62 ∷ leave 62 ∷ enter 63 ∷ leave 63 ∷ enter 64 ∷ leave 64 ∷ enter 65 ∷ leave 65 ∷ enter 66 ∷ leave 66 ∷ enter 68 ∷ leave 68 ∷ enter 69 ∷ leave 69 ∷ enter 70 ∷ leave 70 ∷ enter 71 ∷ leave 71 ∷ enter 72 ∷ leave 72 ∷ enter 73 ∷ leave 73 ∷ enter 74 ∷ leave 74 ∷ enter 75 ∷ leave 75 ∷ enter 76 ∷ leave 76 ∷ enter 77 ∷ leave 77 ∷ enter 79 ∷ leave 79 ∷ enter 80 ∷ leave 80 ∷ enter 81 ∷ leave 81 ∷ enter 82 ∷ leave 82 ∷ enter 83 ∷ leave 83 ∷ enter 84 ∷ in0 84 ∷ leave 84 ∷ enter 86 ∷ in0 86 ∷ leave 86 ∷ enter 88 ∷ leave 88 ∷ enter 89 ∷ leave 89 ∷ enter 90 ∷ leave 90 ∷ enter 91 ∷ leave 91 ∷ enter 92 ∷ leave 92 ∷ enter 93 ∷ leave 93 ∷ enter 94 ∷ leave 94 ∷ enter 95 ∷ leave 95 ∷ enter 96 ∷ leave 96 ∷ enter 97 ∷ leave 97 ∷ enter 98 ∷ in0 98 ∷ in1 98 ∷ leave 98 ∷ enter 100 ∷ leave 100 ∷ enter 101 ∷ leave 101 ∷ enter 102 ∷ in0 102 ∷ leave 102 ∷ enter 104 ∷ leave 104 ∷ enter 109 ∷ leave 109 ∷ enter 110 ∷ leave 110 ∷ enter 111 ∷ in0 111 ∷ leave 111 ∷ enter 113 ∷ leave 113 ∷ enter 114 ∷ leave 114 ∷ enter 115 ∷ leave 115 ∷ enter 116 ∷ leave 116 ∷ enter 117 ∷ leave 117 ∷ enter 118 ∷ leave 118 ∷ enter 119 ∷ in0 119 ∷ leave 119 ∷ enter 121 ∷ leave 121 ∷ enter 122 ∷ leave 122 ∷ enter 123 ∷ leave 123 ∷ finish 123 ∷ enter 124 ∷ leave 124 ∷ enter 125 ∷ leave 125 ∷ enter 126 ∷ leave 126 ∷ enter 127 ∷ leave 127 ∷ enter 128 ∷ leave 128 ∷ enter 129 ∷ in0 129 ∷ leave 129 ∷ enter 130 ∷ leave 130 ∷ enter 131 ∷ leave 131 ∷ enter 132 ∷ leave 132 ∷ enter 133 ∷ leave 133 ∷ enter 134 ∷ leave 134 ∷ enter 135 ∷ leave 135 ∷ enter 136 ∷ leave 136 ∷ enter 137 ∷ leave 137 ∷ enter 138 ∷ leave 138 ∷ [])

pub edges0 : ways_on (program_ways t items) (enter 1 ∷ leave 1 ∷ enter 3 ∷ leave 3 ∷ enter 9 ∷ leave 9 ∷ enter 12 ∷ leave 12 ∷ enter 13 ∷ leave 13 ∷ enter 14 ∷ leave 14 ∷ enter 15 ∷ leave 15 ∷ enter 16 ∷ leave 16 ∷ enter 17 ∷ leave 17 ∷ enter 18 ∷ leave 18 ∷ enter 19 ∷ leave 19 ∷ enter 22 ∷ leave 22 ∷ enter 23 ∷ leave 23 ∷ enter 24 ∷ leave 24 ∷ enter 25 ∷ leave 25 ∷ enter 26 ∷ leave 26 ∷ enter 27 ∷ leave 27 ∷ enter 30 ∷ leave 30 ∷ enter 31 ∷ leave 31 ∷ enter 32 ∷ leave 32 ∷ []) ≡ ((record { to = enter 3; guard = Always } ∷ []) ∷ [] ∷ (record { to = leave 3; guard = Always } ∷ []) ∷ (record { to = leave 1; guard = Always } ∷ []) ∷ (record { to = enter 12; guard = Always } ∷ []) ∷ [] ∷ (record { to = enter 13; guard = Always } ∷ []) ∷ (record { to = leave 9; guard = Always } ∷ []) ∷ (record { to = enter 14; guard = Always } ∷ []) ∷ (record { to = enter 27; guard = Always } ∷ []) ∷ (record { to = enter 15; guard = Always } ∷ []) ∷ (record { to = enter 19; guard = Always } ∷ []) ∷ (record { to = enter 16; guard = Always } ∷ []) ∷ (record { to = leave 14; guard = Always } ∷ []) ∷ (record { to = leave 16; guard = Always } ∷ []) ∷ (record { to = leave 15; guard = (Zero (node 16)) } ∷ record { to = enter 17; guard = (Nonzero (node 16)) } ∷ []) ∷ (record { to = enter 18; guard = Always } ∷ []) ∷ (record { to = leave 15; guard = Always } ∷ []) ∷ (record { to = leave 18; guard = Always } ∷ []) ∷ (record { to = leave 17; guard = Always } ∷ []) ∷ (record { to = enter 22; guard = Always } ∷ []) ∷ (record { to = enter 26; guard = Always } ∷ []) ∷ (record { to = leave 22; guard = Always } ∷ []) ∷ (record { to = enter 23; guard = Always } ∷ []) ∷ (record { to = enter 24; guard = Always } ∷ []) ∷ (record { to = leave 19; guard = Always } ∷ []) ∷ (record { to = leave 24; guard = Always } ∷ []) ∷ (record { to = enter 25; guard = Always } ∷ []) ∷ (record { to = leave 25; guard = Always } ∷ []) ∷ (record { to = leave 23; guard = Always } ∷ []) ∷ (record { to = leave 26; guard = Always } ∷ []) ∷ (record { to = leave 13; guard = Always } ∷ []) ∷ (record { to = leave 27; guard = Always } ∷ []) ∷ (record { to = enter 30; guard = Always } ∷ []) ∷ (record { to = enter 31; guard = Always } ∷ []) ∷ (record { to = enter 63; guard = Always } ∷ []) ∷ (record { to = enter 32; guard = Always } ∷ []) ∷ (record { to = enter 57; guard = Always } ∷ []) ∷ (record { to = enter 33; guard = Always } ∷ []) ∷ (record { to = enter 35; guard = Always } ∷ []) ∷ [])
edges0 = refl

pub edges1 : ways_on (program_ways t items) (enter 33 ∷ leave 33 ∷ enter 34 ∷ leave 34 ∷ enter 35 ∷ leave 35 ∷ enter 36 ∷ leave 36 ∷ enter 37 ∷ leave 37 ∷ enter 38 ∷ leave 38 ∷ enter 39 ∷ leave 39 ∷ enter 40 ∷ leave 40 ∷ enter 41 ∷ leave 41 ∷ enter 42 ∷ leave 42 ∷ enter 43 ∷ leave 43 ∷ enter 44 ∷ leave 44 ∷ enter 45 ∷ leave 45 ∷ enter 46 ∷ leave 46 ∷ enter 47 ∷ leave 47 ∷ enter 48 ∷ leave 48 ∷ enter 49 ∷ leave 49 ∷ enter 50 ∷ leave 50 ∷ enter 51 ∷ leave 51 ∷ enter 52 ∷ leave 52 ∷ []) ≡ ((record { to = leave 33; guard = Always } ∷ []) ∷ (record { to = leave 32; guard = (Zero (node 33)) } ∷ record { to = enter 34; guard = (Nonzero (node 33)) } ∷ []) ∷ (record { to = leave 34; guard = Always } ∷ []) ∷ (record { to = enter 57; guard = Always } ∷ []) ∷ (record { to = enter 36; guard = Always } ∷ []) ∷ (record { to = leave 31; guard = Always } ∷ []) ∷ (record { to = enter 37; guard = Always } ∷ []) ∷ (record { to = enter 39; guard = Always } ∷ []) ∷ (record { to = enter 38; guard = Always } ∷ []) ∷ (record { to = leave 36; guard = Always } ∷ []) ∷ (record { to = leave 38; guard = Always } ∷ []) ∷ (record { to = leave 37; guard = Always } ∷ []) ∷ (record { to = enter 40; guard = Always } ∷ []) ∷ (record { to = leave 35; guard = (Zero (node 39)) } ∷ record { to = enter 44; guard = (Nonzero (node 39)) } ∷ []) ∷ (record { to = leave 40; guard = Always } ∷ []) ∷ (record { to = enter 41; guard = Always } ∷ []) ∷ (record { to = leave 41; guard = Always } ∷ []) ∷ (record { to = leave 39; guard = Always } ∷ []) ∷ (record { to = enter 43; guard = Always } ∷ []) ∷ (record { to = enter 39; guard = Always } ∷ []) ∷ (record { to = leave 43; guard = Always } ∷ []) ∷ (record { to = leave 42; guard = Always } ∷ []) ∷ (record { to = enter 45; guard = Always } ∷ []) ∷ (record { to = enter 42; guard = Always } ∷ []) ∷ (record { to = enter 46; guard = Always } ∷ []) ∷ (record { to = enter 48; guard = Always } ∷ []) ∷ (record { to = leave 46; guard = Always } ∷ []) ∷ (record { to = leave 45; guard = (Zero (node 46)) } ∷ record { to = enter 47; guard = (Nonzero (node 46)) } ∷ []) ∷ (record { to = leave 47; guard = Always } ∷ []) ∷ (record { to = leave 35; guard = Always } ∷ []) ∷ (record { to = enter 49; guard = Always } ∷ []) ∷ (record { to = leave 44; guard = Always } ∷ []) ∷ (record { to = enter 50; guard = Always } ∷ []) ∷ (record { to = leave 48; guard = Always } ∷ []) ∷ (record { to = enter 51; guard = Always } ∷ []) ∷ (record { to = enter 53; guard = Always } ∷ []) ∷ (record { to = leave 51; guard = Always } ∷ []) ∷ (record { to = enter 52; guard = Always } ∷ []) ∷ (record { to = leave 52; guard = Always } ∷ []) ∷ (record { to = leave 50; guard = Always } ∷ []) ∷ [])
edges1 = refl

pub edges2 : ways_on (program_ways t items) (enter 53 ∷ leave 53 ∷ enter 54 ∷ leave 54 ∷ enter 55 ∷ leave 55 ∷ enter 56 ∷ leave 56 ∷ enter 57 ∷ leave 57 ∷ enter 58 ∷ leave 58 ∷ enter 59 ∷ leave 59 ∷ enter 60 ∷ leave 60 ∷ enter 61 ∷ leave 61 ∷ enter 62 ∷ leave 62 ∷ enter 63 ∷ leave 63 ∷ enter 64 ∷ leave 64 ∷ enter 65 ∷ leave 65 ∷ enter 66 ∷ leave 66 ∷ enter 68 ∷ leave 68 ∷ enter 69 ∷ leave 69 ∷ enter 70 ∷ leave 70 ∷ enter 71 ∷ leave 71 ∷ enter 72 ∷ leave 72 ∷ enter 73 ∷ leave 73 ∷ []) ≡ ((record { to = enter 54; guard = Always } ∷ []) ∷ (record { to = leave 49; guard = Always } ∷ []) ∷ (record { to = leave 54; guard = Always } ∷ []) ∷ (record { to = enter 55; guard = (Nonzero (node 54)) } ∷ record { to = enter 56; guard = (Zero (node 54)) } ∷ []) ∷ (record { to = leave 55; guard = Always } ∷ []) ∷ (record { to = leave 53; guard = Always } ∷ []) ∷ (record { to = leave 56; guard = Always } ∷ []) ∷ (record { to = leave 53; guard = Always } ∷ []) ∷ (record { to = enter 58; guard = Always } ∷ []) ∷ (record { to = leave 30; guard = (Zero (node 57)) } ∷ record { to = enter 31; guard = (Nonzero (node 57)) } ∷ []) ∷ (record { to = enter 59; guard = Always } ∷ []) ∷ (record { to = leave 57; guard = (Nonzero (node 58)) } ∷ record { to = enter 62; guard = (Zero (node 58)) } ∷ []) ∷ (record { to = enter 60; guard = Always } ∷ []) ∷ (record { to = enter 61; guard = Always } ∷ []) ∷ (record { to = leave 60; guard = Always } ∷ []) ∷ (record { to = leave 59; guard = Always } ∷ []) ∷ (record { to = leave 61; guard = Always } ∷ []) ∷ (record { to = leave 58; guard = Always } ∷ []) ∷ (record { to = leave 62; guard = Always } ∷ []) ∷ (record { to = leave 57; guard = Always } ∷ []) ∷ (record { to = enter 64; guard = Always } ∷ []) ∷ (record { to = enter 80; guard = Always } ∷ []) ∷ (record { to = leave 64; guard = Always } ∷ []) ∷ (record { to = enter 66; guard = (Equal (node 64) (pos 1)) } ∷ record { to = enter 75; guard = (NoneOf (node 63)) } ∷ record { to = enter 77; guard = (Equal (node 64) (pos 2)) } ∷ []) ∷ (record { to = enter 66; guard = Always } ∷ []) ∷ (record { to = leave 63; guard = Always } ∷ []) ∷ (record { to = leave 66; guard = Always } ∷ []) ∷ (record { to = enter 68; guard = Always } ∷ []) ∷ (record { to = enter 69; guard = Always } ∷ []) ∷ (record { to = enter 75; guard = Always } ∷ []) ∷ (record { to = enter 70; guard = Always } ∷ []) ∷ (record { to = leave 68; guard = Always } ∷ []) ∷ (record { to = enter 71; guard = Always } ∷ []) ∷ (record { to = enter 74; guard = Always } ∷ []) ∷ (record { to = enter 72; guard = Always } ∷ []) ∷ (record { to = enter 73; guard = Always } ∷ []) ∷ (record { to = leave 72; guard = Always } ∷ []) ∷ (record { to = leave 71; guard = Always } ∷ []) ∷ (record { to = leave 73; guard = Always } ∷ []) ∷ (record { to = leave 70; guard = Always } ∷ []) ∷ [])
edges2 = refl

pub edges3 : ways_on (program_ways t items) (enter 74 ∷ leave 74 ∷ enter 75 ∷ leave 75 ∷ enter 76 ∷ leave 76 ∷ enter 77 ∷ leave 77 ∷ enter 79 ∷ leave 79 ∷ enter 80 ∷ leave 80 ∷ enter 81 ∷ leave 81 ∷ enter 82 ∷ leave 82 ∷ enter 83 ∷ leave 83 ∷ enter 84 ∷ in0 84 ∷ leave 84 ∷ enter 86 ∷ in0 86 ∷ leave 86 ∷ enter 88 ∷ leave 88 ∷ enter 89 ∷ leave 89 ∷ enter 90 ∷ leave 90 ∷ enter 91 ∷ leave 91 ∷ enter 92 ∷ leave 92 ∷ enter 93 ∷ leave 93 ∷ enter 94 ∷ leave 94 ∷ enter 95 ∷ leave 95 ∷ []) ≡ ((record { to = leave 74; guard = Always } ∷ []) ∷ (record { to = leave 69; guard = Always } ∷ []) ∷ (record { to = leave 75; guard = Always } ∷ []) ∷ (record { to = enter 76; guard = Always } ∷ []) ∷ (record { to = leave 76; guard = Always } ∷ []) ∷ (record { to = leave 63; guard = Always } ∷ []) ∷ (record { to = leave 77; guard = Always } ∷ []) ∷ (record { to = enter 79; guard = Always } ∷ []) ∷ (record { to = leave 79; guard = Always } ∷ []) ∷ (record { to = enter 115; guard = Always } ∷ []) ∷ (record { to = enter 81; guard = Always } ∷ []) ∷ (record { to = enter 96; guard = Always } ∷ []) ∷ (record { to = leave 81; guard = Always } ∷ []) ∷ (record { to = leave 80; guard = (Zero (node 81)) } ∷ record { to = enter 82; guard = (Nonzero (node 81)) } ∷ []) ∷ (record { to = enter 83; guard = Always } ∷ []) ∷ (record { to = enter 81; guard = Always } ∷ []) ∷ (record { to = enter 84; guard = Always } ∷ []) ∷ (record { to = enter 93; guard = Always } ∷ []) ∷ (record { to = enter 86; guard = Always } ∷ []) ∷ (record { to = leave 84; guard = Always } ∷ []) ∷ (record { to = leave 83; guard = Always } ∷ []) ∷ (record { to = enter 88; guard = Always } ∷ []) ∷ (record { to = leave 86; guard = Always } ∷ []) ∷ (record { to = enter 90; guard = Always } ∷ []) ∷ (record { to = leave 88; guard = Always } ∷ []) ∷ (record { to = enter 89; guard = Always } ∷ []) ∷ (record { to = leave 89; guard = Always } ∷ []) ∷ (record { to = in0 86; guard = Always } ∷ []) ∷ (record { to = enter 91; guard = Always } ∷ []) ∷ (record { to = in0 84; guard = Always } ∷ []) ∷ (record { to = enter 92; guard = Always } ∷ []) ∷ (record { to = leave 90; guard = Always } ∷ []) ∷ (record { to = leave 92; guard = Always } ∷ []) ∷ (record { to = leave 91; guard = Always } ∷ []) ∷ (record { to = enter 94; guard = Always } ∷ []) ∷ (record { to = leave 82; guard = Always } ∷ []) ∷ (record { to = enter 95; guard = Always } ∷ []) ∷ (record { to = leave 93; guard = Always } ∷ []) ∷ (record { to = leave 95; guard = Always } ∷ []) ∷ (record { to = leave 94; guard = Always } ∷ []) ∷ [])
edges3 = refl

pub edges4 : ways_on (program_ways t items) (enter 96 ∷ leave 96 ∷ enter 97 ∷ leave 97 ∷ enter 98 ∷ in0 98 ∷ in1 98 ∷ leave 98 ∷ enter 100 ∷ leave 100 ∷ enter 101 ∷ leave 101 ∷ enter 102 ∷ in0 102 ∷ leave 102 ∷ enter 104 ∷ leave 104 ∷ enter 109 ∷ leave 109 ∷ enter 110 ∷ leave 110 ∷ enter 111 ∷ in0 111 ∷ leave 111 ∷ enter 113 ∷ leave 113 ∷ enter 114 ∷ leave 114 ∷ enter 115 ∷ leave 115 ∷ enter 116 ∷ leave 116 ∷ enter 117 ∷ leave 117 ∷ enter 118 ∷ leave 118 ∷ enter 119 ∷ in0 119 ∷ leave 119 ∷ enter 121 ∷ []) ≡ ((record { to = enter 97; guard = Always } ∷ []) ∷ (record { to = enter 115; guard = Always } ∷ []) ∷ (record { to = enter 98; guard = Always } ∷ []) ∷ (record { to = enter 101; guard = (Nonzero (node 97)) } ∷ record { to = enter 109; guard = (Zero (node 97)) } ∷ []) ∷ (record { to = in0 98; guard = Always } ∷ []) ∷ (record { to = in1 98; guard = Always } ∷ []) ∷ (record { to = leave 98; guard = Always } ∷ []) ∷ (record { to = enter 100; guard = Always } ∷ []) ∷ (record { to = leave 100; guard = Always } ∷ []) ∷ (record { to = leave 97; guard = Always } ∷ []) ∷ (record { to = enter 102; guard = Always } ∷ []) ∷ (record { to = leave 96; guard = Always } ∷ []) ∷ (record { to = enter 104; guard = Always } ∷ []) ∷ [] ∷ (record { to = leave 101; guard = Always } ∷ []) ∷ (record { to = leave 104; guard = Always } ∷ []) ∷ (record { to = in0 102; guard = Always } ∷ []) ∷ (record { to = enter 110; guard = Always } ∷ []) ∷ (record { to = leave 96; guard = Always } ∷ []) ∷ (record { to = enter 111; guard = Always } ∷ []) ∷ (record { to = leave 109; guard = Always } ∷ []) ∷ (record { to = enter 113; guard = Always } ∷ []) ∷ (record { to = leave 111; guard = Always } ∷ []) ∷ (record { to = leave 110; guard = Always } ∷ []) ∷ (record { to = enter 114; guard = Always } ∷ []) ∷ (record { to = in0 111; guard = Always } ∷ []) ∷ (record { to = leave 114; guard = Always } ∷ []) ∷ (record { to = leave 113; guard = Always } ∷ []) ∷ (record { to = leave 115; guard = Always } ∷ []) ∷ (record { to = enter 116; guard = Always } ∷ []) ∷ (record { to = enter 117; guard = Always } ∷ []) ∷ (record { to = leave 9; guard = Always } ∷ []) ∷ (record { to = enter 118; guard = Always } ∷ []) ∷ (record { to = leave 116; guard = Always } ∷ []) ∷ (record { to = enter 119; guard = Always } ∷ []) ∷ (record { to = leave 117; guard = Always } ∷ []) ∷ (record { to = enter 121; guard = Always } ∷ []) ∷ (record { to = leave 119; guard = Always } ∷ []) ∷ (record { to = enter 122; guard = Always } ∷ []) ∷ (record { to = leave 121; guard = Always } ∷ []) ∷ [])
edges4 = refl

pub edges5 : ways_on (program_ways t items) (leave 121 ∷ enter 122 ∷ leave 122 ∷ enter 123 ∷ leave 123 ∷ finish 123 ∷ enter 124 ∷ leave 124 ∷ enter 125 ∷ leave 125 ∷ enter 126 ∷ leave 126 ∷ enter 127 ∷ leave 127 ∷ enter 128 ∷ leave 128 ∷ enter 129 ∷ in0 129 ∷ leave 129 ∷ enter 130 ∷ leave 130 ∷ enter 131 ∷ leave 131 ∷ enter 132 ∷ leave 132 ∷ enter 133 ∷ leave 133 ∷ enter 134 ∷ leave 134 ∷ enter 135 ∷ leave 135 ∷ enter 136 ∷ leave 136 ∷ enter 137 ∷ leave 137 ∷ enter 138 ∷ leave 138 ∷ []) ≡ ((record { to = in0 119; guard = Always } ∷ []) ∷ (record { to = leave 122; guard = Always } ∷ []) ∷ (record { to = leave 118; guard = Always } ∷ []) ∷ (record { to = enter 124; guard = Always } ∷ []) ∷ (record { to = finish 123; guard = Always } ∷ []) ∷ [] ∷ (record { to = enter 125; guard = Always } ∷ []) ∷ (record { to = leave 123; guard = Always } ∷ []) ∷ (record { to = enter 126; guard = Always } ∷ []) ∷ (record { to = enter 128; guard = Always } ∷ []) ∷ (record { to = enter 127; guard = Always } ∷ []) ∷ (record { to = leave 125; guard = Always } ∷ []) ∷ (record { to = leave 127; guard = Always } ∷ []) ∷ (record { to = leave 126; guard = Always } ∷ []) ∷ (record { to = enter 129; guard = Always } ∷ []) ∷ (record { to = leave 123; guard = Always } ∷ []) ∷ (record { to = enter 130; guard = Always } ∷ []) ∷ (record { to = leave 129; guard = Always } ∷ []) ∷ (record { to = leave 128; guard = Always } ∷ []) ∷ (record { to = enter 131; guard = Always } ∷ []) ∷ (record { to = enter 133; guard = Always } ∷ []) ∷ (record { to = enter 132; guard = Always } ∷ []) ∷ (record { to = leave 130; guard = Always } ∷ []) ∷ (record { to = leave 132; guard = Always } ∷ []) ∷ (record { to = leave 131; guard = Always } ∷ []) ∷ (record { to = leave 133; guard = Always } ∷ []) ∷ (record { to = enter 134; guard = Always } ∷ []) ∷ (record { to = enter 135; guard = Always } ∷ []) ∷ (record { to = in0 129; guard = Always } ∷ []) ∷ (record { to = enter 136; guard = Always } ∷ []) ∷ (record { to = leave 134; guard = Always } ∷ []) ∷ (record { to = enter 137; guard = Always } ∷ []) ∷ (record { to = enter 138; guard = Always } ∷ []) ∷ (record { to = leave 137; guard = Always } ∷ []) ∷ (record { to = leave 136; guard = Always } ∷ []) ∷ (record { to = leave 138; guard = Always } ∷ []) ∷ (record { to = leave 135; guard = Always } ∷ []) ∷ [])
edges5 = refl

pub pending0 : held_at t (program_ways t items) all (0 ∷ 1 ∷ 2 ∷ 3 ∷ 4 ∷ 5 ∷ 6 ∷ 7 ∷ 8 ∷ 9 ∷ 10 ∷ 11 ∷ 12 ∷ 13 ∷ 14 ∷ 15 ∷ 16 ∷ 17 ∷ 18 ∷ 19 ∷ 20 ∷ 21 ∷ 22 ∷ 23 ∷ 24 ∷ []) ≡ ([] ∷ (leave 1 ∷ []) ∷ [] ∷ [] ∷ [] ∷ [] ∷ [] ∷ [] ∷ [] ∷ (leave 9 ∷ leave 116 ∷ []) ∷ [] ∷ [] ∷ [] ∷ [] ∷ [] ∷ (leave 15 ∷ []) ∷ (leave 16 ∷ []) ∷ (leave 17 ∷ []) ∷ (leave 18 ∷ []) ∷ [] ∷ [] ∷ [] ∷ (leave 22 ∷ enter 23 ∷ leave 23 ∷ enter 24 ∷ leave 24 ∷ enter 25 ∷ leave 25 ∷ []) ∷ (leave 23 ∷ []) ∷ (leave 24 ∷ enter 25 ∷ leave 25 ∷ []) ∷ [])
pending0 = refl

pub pending1 : held_at t (program_ways t items) all (25 ∷ 26 ∷ 27 ∷ 28 ∷ 29 ∷ 30 ∷ 31 ∷ 32 ∷ 33 ∷ 34 ∷ 35 ∷ 36 ∷ 37 ∷ 38 ∷ 39 ∷ 40 ∷ 41 ∷ 42 ∷ 43 ∷ 44 ∷ 45 ∷ 46 ∷ 47 ∷ 48 ∷ 49 ∷ []) ≡ ((leave 25 ∷ []) ∷ [] ∷ [] ∷ [] ∷ [] ∷ [] ∷ [] ∷ [] ∷ (leave 33 ∷ []) ∷ [] ∷ [] ∷ [] ∷ [] ∷ (leave 38 ∷ []) ∷ (leave 39 ∷ []) ∷ (leave 40 ∷ enter 41 ∷ leave 41 ∷ []) ∷ (leave 41 ∷ []) ∷ [] ∷ (leave 43 ∷ []) ∷ [] ∷ [] ∷ (leave 46 ∷ []) ∷ [] ∷ [] ∷ [] ∷ [])
pending1 = refl

pub pending2 : held_at t (program_ways t items) all (50 ∷ 51 ∷ 52 ∷ 53 ∷ 54 ∷ 55 ∷ 56 ∷ 57 ∷ 58 ∷ 59 ∷ 60 ∷ 61 ∷ 62 ∷ 63 ∷ 64 ∷ 65 ∷ 66 ∷ 67 ∷ 68 ∷ 69 ∷ 70 ∷ 71 ∷ 72 ∷ 73 ∷ 74 ∷ []) ≡ ((leave 50 ∷ enter 53 ∷ leave 53 ∷ enter 54 ∷ leave 54 ∷ enter 55 ∷ leave 55 ∷ enter 56 ∷ leave 56 ∷ []) ∷ (leave 51 ∷ enter 52 ∷ leave 52 ∷ []) ∷ (leave 52 ∷ []) ∷ (leave 53 ∷ []) ∷ (leave 54 ∷ []) ∷ (leave 55 ∷ []) ∷ (leave 56 ∷ []) ∷ (leave 57 ∷ []) ∷ (leave 58 ∷ []) ∷ (leave 59 ∷ enter 61 ∷ leave 61 ∷ []) ∷ (leave 60 ∷ []) ∷ (leave 61 ∷ []) ∷ (leave 62 ∷ []) ∷ [] ∷ (leave 64 ∷ []) ∷ [] ∷ [] ∷ [] ∷ [] ∷ [] ∷ (leave 70 ∷ enter 74 ∷ leave 74 ∷ []) ∷ (leave 71 ∷ enter 73 ∷ leave 73 ∷ []) ∷ (leave 72 ∷ []) ∷ (leave 73 ∷ []) ∷ (leave 74 ∷ []) ∷ [])
pending2 = refl

pub pending3 : held_at t (program_ways t items) all (75 ∷ 76 ∷ 77 ∷ 78 ∷ 79 ∷ 80 ∷ 81 ∷ 82 ∷ 83 ∷ 84 ∷ 85 ∷ 86 ∷ 87 ∷ 88 ∷ 89 ∷ 90 ∷ 91 ∷ 92 ∷ 93 ∷ 94 ∷ 95 ∷ 96 ∷ 97 ∷ 98 ∷ 99 ∷ []) ≡ ([] ∷ [] ∷ [] ∷ [] ∷ [] ∷ [] ∷ (leave 81 ∷ []) ∷ [] ∷ [] ∷ [] ∷ [] ∷ (in0 84 ∷ leave 86 ∷ enter 90 ∷ leave 90 ∷ enter 91 ∷ leave 91 ∷ enter 92 ∷ leave 92 ∷ []) ∷ [] ∷ (in0 86 ∷ leave 88 ∷ enter 89 ∷ leave 89 ∷ []) ∷ (in0 86 ∷ leave 89 ∷ []) ∷ (in0 84 ∷ leave 90 ∷ []) ∷ (leave 91 ∷ []) ∷ (leave 92 ∷ []) ∷ [] ∷ [] ∷ (leave 95 ∷ []) ∷ [] ∷ (leave 97 ∷ []) ∷ (in1 98 ∷ leave 98 ∷ enter 100 ∷ leave 100 ∷ []) ∷ [] ∷ [])
pending3 = refl

pub pending4 : held_at t (program_ways t items) all (100 ∷ 101 ∷ 102 ∷ 103 ∷ 104 ∷ 105 ∷ 106 ∷ 107 ∷ 108 ∷ 109 ∷ 110 ∷ 111 ∷ 112 ∷ 113 ∷ 114 ∷ 115 ∷ 116 ∷ 117 ∷ 118 ∷ 119 ∷ 120 ∷ 121 ∷ 122 ∷ 123 ∷ 124 ∷ []) ≡ ((leave 100 ∷ []) ∷ [] ∷ [] ∷ [] ∷ (in0 102 ∷ leave 104 ∷ []) ∷ [] ∷ [] ∷ [] ∷ [] ∷ [] ∷ [] ∷ (in0 111 ∷ []) ∷ [] ∷ (in0 111 ∷ leave 113 ∷ []) ∷ (leave 114 ∷ []) ∷ [] ∷ [] ∷ (leave 117 ∷ []) ∷ (leave 118 ∷ []) ∷ [] ∷ [] ∷ (in0 119 ∷ leave 121 ∷ []) ∷ (leave 122 ∷ []) ∷ (leave 123 ∷ leave 128 ∷ []) ∷ [] ∷ [])
pending4 = refl

pub pending5 : held_at t (program_ways t items) all (125 ∷ 126 ∷ 127 ∷ 128 ∷ 129 ∷ 130 ∷ 131 ∷ 132 ∷ 133 ∷ 134 ∷ 135 ∷ 136 ∷ 137 ∷ 138 ∷ []) ≡ ([] ∷ [] ∷ (leave 127 ∷ []) ∷ [] ∷ (leave 129 ∷ []) ∷ (in0 129 ∷ leave 130 ∷ enter 133 ∷ leave 133 ∷ enter 134 ∷ leave 134 ∷ enter 135 ∷ leave 135 ∷ enter 136 ∷ leave 136 ∷ enter 137 ∷ leave 137 ∷ enter 138 ∷ leave 138 ∷ []) ∷ (leave 131 ∷ []) ∷ (leave 132 ∷ []) ∷ (in0 129 ∷ leave 133 ∷ enter 134 ∷ leave 134 ∷ enter 135 ∷ leave 135 ∷ enter 136 ∷ leave 136 ∷ enter 137 ∷ leave 137 ∷ enter 138 ∷ leave 138 ∷ []) ∷ (in0 129 ∷ leave 134 ∷ []) ∷ (leave 135 ∷ []) ∷ (leave 136 ∷ enter 138 ∷ leave 138 ∷ []) ∷ (leave 137 ∷ []) ∷ (leave 138 ∷ []) ∷ [])
pending5 = refl

-- which expressions are read, and what is done along each edge
abbrev reads : List Bool
reads = (false ∷ false ∷ false ∷ false ∷ false ∷ false ∷ false ∷ false ∷ false ∷ false ∷ false ∷ false ∷ false ∷ false ∷ false ∷ false ∷ true ∷ true ∷ true ∷ false ∷ false ∷ false ∷ false ∷ false ∷ true ∷ false ∷ false ∷ false ∷ false ∷ false ∷ false ∷ false ∷ false ∷ true ∷ false ∷ false ∷ false ∷ false ∷ false ∷ false ∷ true ∷ false ∷ false ∷ false ∷ false ∷ false ∷ true ∷ false ∷ false ∷ false ∷ false ∷ false ∷ true ∷ false ∷ true ∷ true ∷ false ∷ false ∷ false ∷ false ∷ false ∷ false ∷ true ∷ false ∷ true ∷ false ∷ false ∷ false ∷ false ∷ false ∷ false ∷ false ∷ false ∷ true ∷ false ∷ false ∷ false ∷ false ∷ false ∷ false ∷ false ∷ true ∷ false ∷ false ∷ false ∷ false ∷ false ∷ false ∷ false ∷ true ∷ false ∷ true ∷ false ∷ false ∷ false ∷ false ∷ false ∷ false ∷ false ∷ false ∷ false ∷ false ∷ false ∷ false ∷ false ∷ false ∷ false ∷ false ∷ false ∷ false ∷ false ∷ false ∷ false ∷ false ∷ false ∷ false ∷ false ∷ false ∷ false ∷ false ∷ false ∷ false ∷ true ∷ false ∷ false ∷ false ∷ false ∷ false ∷ false ∷ false ∷ false ∷ false ∷ true ∷ false ∷ false ∷ false ∷ false ∷ false ∷ false ∷ [])

pub reads_are : reads_of (program_ways t items) 139 ≡ reads
reads_are = refl

pub actions0 : actions t items reads ((enter 1, enter 3) ∷ (enter 3, leave 3) ∷ (leave 3, leave 1) ∷ (enter 9, enter 12) ∷ (enter 12, enter 13) ∷ (leave 12, leave 9) ∷ (enter 13, enter 14) ∷ (leave 13, enter 27) ∷ (enter 14, enter 15) ∷ (leave 14, enter 19) ∷ (enter 15, enter 16) ∷ (leave 15, leave 14) ∷ (enter 16, leave 16) ∷ (leave 16, leave 15) ∷ (leave 16, enter 17) ∷ (enter 17, enter 18) ∷ (leave 17, leave 15) ∷ (enter 18, leave 18) ∷ (leave 18, leave 17) ∷ (enter 19, enter 22) ∷ (leave 19, enter 26) ∷ (enter 22, leave 22) ∷ (leave 22, enter 23) ∷ (enter 23, enter 24) ∷ (leave 23, leave 19) ∷ (enter 24, leave 24) ∷ (leave 24, enter 25) ∷ (enter 25, leave 25) ∷ (leave 25, leave 23) ∷ (enter 26, leave 26) ∷ []) ≡ (Pass ∷ Pass ∷ (End 1) ∷ Pass ∷ Pass ∷ (End 9) ∷ Pass ∷ Pass ∷ Pass ∷ Pass ∷ Pass ∷ (Declare 14 (15 ∷ [])) ∷ (Read 16 Own) ∷ (Take 15 (Truth false)) ∷ Pass ∷ Pass ∷ (Take 15 (IsNonzero 17)) ∷ (Read 18 Own) ∷ (Read 17 (Behind 18)) ∷ Pass ∷ Pass ∷ (Take 22 (Literal (codes "1"))) ∷ Pass ∷ Pass ∷ (Declare 19 (22 ∷ 23 ∷ [])) ∷ (Read 24 Own) ∷ Pass ∷ (Take 25 (Literal (codes "1"))) ∷ (Take 23 (Binary op.Add 24 25)) ∷ (Declare 26 ([])) ∷ [])
actions0 = refl

pub actions1 : actions t items reads ((leave 26, leave 13) ∷ (enter 27, leave 27) ∷ (leave 27, enter 30) ∷ (enter 30, enter 31) ∷ (leave 30, enter 63) ∷ (enter 31, enter 32) ∷ (leave 31, enter 57) ∷ (enter 32, enter 33) ∷ (leave 32, enter 35) ∷ (enter 33, leave 33) ∷ (leave 33, leave 32) ∷ (leave 33, enter 34) ∷ (enter 34, leave 34) ∷ (leave 34, enter 57) ∷ (enter 35, enter 36) ∷ (leave 35, leave 31) ∷ (enter 36, enter 37) ∷ (leave 36, enter 39) ∷ (enter 37, enter 38) ∷ (leave 37, leave 36) ∷ (enter 38, leave 38) ∷ (leave 38, leave 37) ∷ (enter 39, enter 40) ∷ (leave 39, leave 35) ∷ (leave 39, enter 44) ∷ (enter 40, leave 40) ∷ (leave 40, enter 41) ∷ (enter 41, leave 41) ∷ (leave 41, leave 39) ∷ (enter 42, enter 43) ∷ []) ≡ (Pass ∷ Pass ∷ Pass ∷ Pass ∷ Pass ∷ Pass ∷ Pass ∷ Pass ∷ Pass ∷ (Read 33 Own) ∷ Pass ∷ Pass ∷ Pass ∷ Pass ∷ Pass ∷ Pass ∷ Pass ∷ Pass ∷ Pass ∷ Pass ∷ (Take 38 (Literal (codes "0"))) ∷ (Declare 37 (38 ∷ [])) ∷ Pass ∷ Pass ∷ Pass ∷ (Read 40 Own) ∷ Pass ∷ (Take 41 (Literal (codes "2"))) ∷ (Take 39 (Binary op.Less 40 41)) ∷ Pass ∷ [])
actions1 = refl

pub actions2 : actions t items reads ((leave 42, enter 39) ∷ (enter 43, leave 43) ∷ (leave 43, leave 42) ∷ (enter 44, enter 45) ∷ (leave 44, enter 42) ∷ (enter 45, enter 46) ∷ (leave 45, enter 48) ∷ (enter 46, leave 46) ∷ (leave 46, leave 45) ∷ (leave 46, enter 47) ∷ (enter 47, leave 47) ∷ (leave 47, leave 35) ∷ (enter 48, enter 49) ∷ (leave 48, leave 44) ∷ (enter 49, enter 50) ∷ (leave 49, leave 48) ∷ (enter 50, enter 51) ∷ (leave 50, enter 53) ∷ (enter 51, leave 51) ∷ (leave 51, enter 52) ∷ (enter 52, leave 52) ∷ (leave 52, leave 50) ∷ (enter 53, enter 54) ∷ (leave 53, leave 49) ∷ (enter 54, leave 54) ∷ (leave 54, enter 55) ∷ (leave 54, enter 56) ∷ (enter 55, leave 55) ∷ (leave 55, leave 53) ∷ (enter 56, leave 56) ∷ []) ≡ (Pass ∷ (Designate 43 Own) ∷ (Step 42 43 step_op.Up false) ∷ Pass ∷ Pass ∷ Pass ∷ Pass ∷ (Read 46 Own) ∷ Pass ∷ Pass ∷ Pass ∷ Pass ∷ Pass ∷ Pass ∷ Pass ∷ Pass ∷ Pass ∷ Pass ∷ (Designate 51 Own) ∷ Pass ∷ (Read 52 Own) ∷ (Designate 50 (Element 51 52)) ∷ Pass ∷ (Update 49 50 assign_op.Add 53) ∷ (Read 54 Own) ∷ Pass ∷ Pass ∷ (Read 55 Own) ∷ (Take 53 (Convert 55)) ∷ (Take 56 (Literal (codes "1"))) ∷ [])
actions2 = refl

pub actions3 : actions t items reads ((leave 56, leave 53) ∷ (enter 57, enter 58) ∷ (leave 57, leave 30) ∷ (leave 57, enter 31) ∷ (enter 58, enter 59) ∷ (leave 58, leave 57) ∷ (leave 58, enter 62) ∷ (enter 59, enter 60) ∷ (leave 59, enter 61) ∷ (enter 60, leave 60) ∷ (leave 60, leave 59) ∷ (enter 61, leave 61) ∷ (leave 61, leave 58) ∷ (enter 62, leave 62) ∷ (leave 62, leave 57) ∷ (enter 63, enter 64) ∷ (leave 63, enter 80) ∷ (enter 64, leave 64) ∷ (leave 64, enter 66) ∷ (leave 64, enter 75) ∷ (leave 64, enter 77) ∷ (enter 65, enter 66) ∷ (leave 65, leave 63) ∷ (enter 66, leave 66) ∷ (leave 66, enter 68) ∷ (enter 68, enter 69) ∷ (leave 68, enter 75) ∷ (enter 69, enter 70) ∷ (leave 69, leave 68) ∷ (enter 70, enter 71) ∷ []) ≡ ((Take 53 (Convert 56)) ∷ Pass ∷ Pass ∷ Pass ∷ Pass ∷ (Take 57 (Truth true)) ∷ Pass ∷ Pass ∷ Pass ∷ (Designate 60 Own) ∷ (Step 59 60 step_op.Up true) ∷ (Take 61 (Literal (codes "3"))) ∷ (Take 58 (Binary op.Less 59 61)) ∷ (Read 62 Own) ∷ (Take 57 (IsNonzero 62)) ∷ Pass ∷ Pass ∷ (Read 64 Own) ∷ Pass ∷ Pass ∷ Pass ∷ Pass ∷ Pass ∷ Pass ∷ Pass ∷ Pass ∷ Pass ∷ Pass ∷ Pass ∷ Pass ∷ [])
actions3 = refl

pub actions4 : actions t items reads ((leave 70, enter 74) ∷ (enter 71, enter 72) ∷ (leave 71, enter 73) ∷ (enter 72, leave 72) ∷ (leave 72, leave 71) ∷ (enter 73, leave 73) ∷ (leave 73, leave 70) ∷ (enter 74, leave 74) ∷ (leave 74, leave 69) ∷ (enter 75, leave 75) ∷ (leave 75, enter 76) ∷ (enter 76, leave 76) ∷ (leave 76, leave 63) ∷ (enter 77, leave 77) ∷ (leave 77, enter 79) ∷ (enter 79, leave 79) ∷ (leave 79, enter 115) ∷ (enter 80, enter 81) ∷ (leave 80, enter 96) ∷ (enter 81, leave 81) ∷ (leave 81, leave 80) ∷ (leave 81, enter 82) ∷ (enter 82, enter 83) ∷ (leave 82, enter 81) ∷ (enter 83, enter 84) ∷ (leave 83, enter 93) ∷ (enter 84, enter 86) ∷ (in0 84, leave 84) ∷ (leave 84, leave 83) ∷ (enter 86, enter 88) ∷ []) ≡ (Pass ∷ Pass ∷ Pass ∷ (Designate 72 Own) ∷ (Designate 71 (Member 72 (codes "m"))) ∷ (Read 73 Own) ∷ (Designate 70 (Element 71 73)) ∷ (Take 74 (Literal (codes "2"))) ∷ (Store 69 70 74) ∷ Pass ∷ Pass ∷ Pass ∷ Pass ∷ Pass ∷ Pass ∷ Pass ∷ Pass ∷ Pass ∷ Pass ∷ (Read 81 Own) ∷ Pass ∷ Pass ∷ Pass ∷ Pass ∷ Pass ∷ Pass ∷ Pass ∷ (CallOut 84 None (86 ∷ 90 ∷ [])) ∷ Pass ∷ Pass ∷ [])
actions4 = refl

pub actions5 : actions t items reads ((in0 86, leave 86) ∷ (leave 86, enter 90) ∷ (enter 88, leave 88) ∷ (leave 88, enter 89) ∷ (enter 89, leave 89) ∷ (leave 89, in0 86) ∷ (enter 90, enter 91) ∷ (leave 90, in0 84) ∷ (enter 91, enter 92) ∷ (leave 91, leave 90) ∷ (enter 92, leave 92) ∷ (leave 92, leave 91) ∷ (enter 93, enter 94) ∷ (leave 93, leave 82) ∷ (enter 94, enter 95) ∷ (leave 94, leave 93) ∷ (enter 95, leave 95) ∷ (leave 95, leave 94) ∷ (enter 96, enter 97) ∷ (leave 96, enter 115) ∷ (enter 97, enter 98) ∷ (leave 97, enter 101) ∷ (leave 97, enter 109) ∷ (enter 98, in0 98) ∷ (in0 98, in1 98) ∷ (in1 98, leave 98) ∷ (leave 98, enter 100) ∷ (enter 100, leave 100) ∷ (leave 100, leave 97) ∷ (enter 101, enter 102) ∷ []) ≡ ((CallOut 86 None (88 ∷ 89 ∷ [])) ∷ Pass ∷ (Take 88 (Literal (codes "1"))) ∷ Pass ∷ (Read 89 Own) ∷ (CallIn 86 None (88 ∷ 89 ∷ [])) ∷ Pass ∷ (CallIn 84 None (86 ∷ 90 ∷ [])) ∷ Pass ∷ (Designate 90 (MemberBehind 91 (codes "m"))) ∷ (Designate 92 Own) ∷ (Read 91 (Member 92 (codes "n"))) ∷ Pass ∷ Pass ∷ Pass ∷ Pass ∷ (Designate 95 Own) ∷ (Step 94 95 step_op.Down false) ∷ Pass ∷ Pass ∷ Pass ∷ Pass ∷ Pass ∷ (CallIn 98 None ([])) ∷ (Forked 98) ∷ (CallOut 98 None ([])) ∷ Pass ∷ (Take 100 (Literal (codes "0"))) ∷ (Take 97 (Binary op.Equal 98 100)) ∷ Pass ∷ [])
actions5 = refl

pub actions6 : actions t items reads ((leave 101, leave 96) ∷ (enter 102, enter 104) ∷ (leave 102, leave 101) ∷ (enter 104, leave 104) ∷ (leave 104, in0 102) ∷ (enter 109, enter 110) ∷ (leave 109, leave 96) ∷ (enter 110, enter 111) ∷ (leave 110, leave 109) ∷ (enter 111, enter 113) ∷ (in0 111, leave 111) ∷ (leave 111, leave 110) ∷ (enter 113, enter 114) ∷ (leave 113, in0 111) ∷ (enter 114, leave 114) ∷ (leave 114, leave 113) ∷ (enter 115, leave 115) ∷ (leave 115, enter 116) ∷ (enter 116, enter 117) ∷ (leave 116, leave 9) ∷ (enter 117, enter 118) ∷ (leave 117, leave 116) ∷ (enter 118, enter 119) ∷ (leave 118, leave 117) ∷ (enter 119, enter 121) ∷ (in0 119, leave 119) ∷ (leave 119, enter 122) ∷ (enter 121, leave 121) ∷ (leave 121, in0 119) ∷ (enter 122, leave 122) ∷ []) ≡ (Pass ∷ Pass ∷ Pass ∷ (Take 104 SizeOf) ∷ (CallIn 102 None (104 ∷ [])) ∷ Pass ∷ Pass ∷ Pass ∷ Pass ∷ Pass ∷ (CallOut 111 None (113 ∷ [])) ∷ (Take 110 Nothing) ∷ Pass ∷ (CallIn 111 None (113 ∷ [])) ∷ (Take 114 (Literal (codes "0"))) ∷ (Take 113 (Convert 114)) ∷ Pass ∷ Pass ∷ Pass ∷ (End 9) ∷ Pass ∷ (Return 117) ∷ Pass ∷ (Take 117 (Keep 118)) ∷ Pass ∷ (CallOut 119 None (121 ∷ [])) ∷ Pass ∷ (Take 121 (Literal (codes "1"))) ∷ (CallIn 119 None (121 ∷ [])) ∷ (Read 122 Own) ∷ [])
actions6 = refl

pub actions7 : actions t items reads ((leave 122, leave 118) ∷ (enter 123, enter 124) ∷ (leave 123, finish 123) ∷ (enter 124, enter 125) ∷ (leave 124, leave 123) ∷ (enter 125, enter 126) ∷ (leave 125, enter 128) ∷ (enter 126, enter 127) ∷ (leave 126, leave 125) ∷ (enter 127, leave 127) ∷ (leave 127, leave 126) ∷ (enter 128, enter 129) ∷ (leave 128, leave 123) ∷ (enter 129, enter 130) ∷ (in0 129, leave 129) ∷ (leave 129, leave 128) ∷ (enter 130, enter 131) ∷ (leave 130, enter 133) ∷ (enter 131, enter 132) ∷ (leave 131, leave 130) ∷ (enter 132, leave 132) ∷ (leave 132, leave 131) ∷ (enter 133, leave 133) ∷ (leave 133, enter 134) ∷ (enter 134, enter 135) ∷ (leave 134, in0 129) ∷ (enter 135, enter 136) ∷ (leave 135, leave 134) ∷ (enter 136, enter 137) ∷ (leave 136, enter 138) ∷ []) ≡ ((Take 118 (Keep 122)) ∷ Pass ∷ (Exit 123) ∷ Pass ∷ (End 123) ∷ Pass ∷ Pass ∷ Pass ∷ Pass ∷ (Take 127 Named) ∷ (Declare 126 (127 ∷ [])) ∷ Pass ∷ (End 123) ∷ Pass ∷ (CallOut 129 (Some 130) (133 ∷ 134 ∷ [])) ∷ (Return 129) ∷ Pass ∷ Pass ∷ Pass ∷ (Take 130 (Keep 131)) ∷ (Read 132 Own) ∷ (Take 131 (Keep 132)) ∷ (Take 133 (Literal (codes "1"))) ∷ Pass ∷ Pass ∷ (CallIn 129 (Some 130) (133 ∷ 134 ∷ [])) ∷ Pass ∷ (Take 134 (AddressOf 135)) ∷ Pass ∷ Pass ∷ [])
actions7 = refl

pub actions8 : actions t items reads ((enter 137, leave 137) ∷ (leave 137, leave 136) ∷ (enter 138, leave 138) ∷ (leave 138, leave 135) ∷ []) ≡ ((Designate 137 Own) ∷ (Designate 136 (Member 137 (codes "m"))) ∷ (Take 138 (Literal (codes "0"))) ∷ (Designate 135 (Element 136 138)) ∷ [])
actions8 = refl
