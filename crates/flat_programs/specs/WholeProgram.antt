-- A flat program as a program of the whole grammar.
use Rattle.std.specs.Prelude.{◌≡◌, List, [], ◌∷◌, Some, false, true, codes}
use Rattle.c_tree.specs.declared.tree.Storage.TheVariants as storage
use Rattle.c_tree.specs.Tree.{Name, call, name, integer, Expressions, no_expressions, expressions, Specifiers, no_specifiers, specifiers, void_word, int_word, plain, no_parameters, parameters, named_form, StatementTree, block, expression_statement, return_statement, Statements, no_statements, statements, FunctionTree, ItemTree, function_item}
use Rattle.c_tree.specs.Shape.{Shape}
use Rattle.c_tree.specs.Spelling as whole
use Rattle.flat_programs.specs.declared.flat.LibraryFunction.{LibraryFunction}
use Rattle.flat_programs.specs.declared.flat.Statement.{Statement}
use Rattle.flat_programs.specs.declared.flat.Statement.TheVariants.{Call, Install}
use Rattle.flat_programs.specs.FlatTree.{HandlerTree, FlatTree}
use Rattle.flat_programs.specs.FlatShape.{IsFlat}
use Rattle.flat_programs.specs.FlatSpelling.{function_name, signal_name, spell}

-- f(arguments);
abbrev pub call_statement : Name → Expressions → StatementTree
call_statement f arguments = expression_statement (Some (call (name f) arguments))

abbrev pub statement_of : Statement → StatementTree
statement_of (Call f) = call_statement (function_name f) no_expressions
statement_of (Install signal handler) = call_statement (codes "signal") (expressions (name (signal_name signal)) (expressions (name (handler ∷ [])) no_expressions))

abbrev pub calls_of : List LibraryFunction → Statements
calls_of [] = no_statements
calls_of (f ∷ fs) = statements (statement_of (Call f)) (calls_of fs)

-- the statements of main, with return 0; behind them
abbrev pub body_of : List Statement → Statements
body_of [] = statements (return_statement (Some (integer (codes "0")))) no_statements
body_of (s ∷ ss) = statements (statement_of s) (body_of ss)

abbrev pub void : Specifiers
void = specifiers void_word no_specifiers

abbrev pub int : Specifiers
int = specifiers int_word no_specifiers

-- void name(int parameter) { calls }
abbrev pub handler_function : HandlerTree → FunctionTree
handler_function h = record {
  storage = storage.Nothing;
  specs = void;
  stars = [];
  name = h.name ∷ [];
  params = parameters int (named_form (plain [] (h.parameter ∷ []))) no_parameters;
  word = false;
  body = block (calls_of h.calls);
}

abbrev pub handler_item : HandlerTree → ItemTree
handler_item h = function_item (handler_function h)

-- int main(void) { statements return 0; }
abbrev pub main_item : List Statement → ItemTree
main_item ss =
    function_item (record {
      storage = storage.Nothing;
      specs = int;
      stars = [];
      name = codes "main";
      params = no_parameters;
      word = true;
      body = block (body_of ss);
    })

abbrev pub items_of : List HandlerTree → List Statement → List ItemTree
items_of [] ss = main_item ss ∷ []
items_of (h ∷ hs) ss = handler_item h ∷ items_of hs ss

abbrev pub program_of : FlatTree → List ItemTree
program_of t = items_of t.handlers t.statements

-- the program is flat
pub record IsFlatProgram (items : List ItemTree) : Type 0 where
  pub tree : FlatTree
  pub flat : IsFlat tree
  pub is : items ≡ program_of tree

-- the flat program has the shape that the grammar asks, and spells the same tokens
pub record IsWhole (t : FlatTree) : Type 0 where
  pub shape : Shape (program_of t)
  pub spelled : whole.spell (program_of t) ≡ spell t

abbrev pub FlatIsWhole : Type 0
FlatIsWhole = (t : FlatTree) → IsFlat t → IsWhole t
