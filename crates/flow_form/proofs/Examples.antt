-- The nine positions and eight edges of `int main(void){return 0;}`.
use Rattle.std.proofs.Common.{◌≡◌, [], ◌∷◌, ◌++◌, Some, true, false, ap}
use Rattle.std.specs.Prelude.{nat_eq}
use Rattle.c_tree.specs.declared.tree.Storage.TheVariants as st
use Rattle.c_tree.specs.Tree.{no_specifiers, specifiers, int_word, no_parameters, integer, block, return_statement, no_statements, statements, ItemTree, function_item}
use Rattle.flow_form.specs.Typing.{Typing}
use Rattle.flow_form.specs.Positions.{enter, leave, finish, plain, used, giving, ◌⟶◌, ◌⟹◌, ends}
use Rattle.flow_form.specs.Statements.{program_ways, end_ways}

pub returns_zero : ItemTree
returns_zero = function_item (record {
  storage = st.Nothing;
  specs = specifiers int_word no_specifiers;
  stars = [];
  name = 109 ∷ 97 ∷ 105 ∷ 110 ∷ [];
  params = no_parameters;
  word = true;
  body = block (statements (return_statement (Some (integer (48 ∷ [])))) no_statements);
})

-- the value of the constant, 4, is used by the return, 3, which gives it to the function, 1
pub ways_of_returns_zero : (t : Typing) → t.main ≡ 1 → program_ways t (returns_zero ∷ []) ≡
    (enter 1 ⟶ enter 2) ∷ (enter 2 ⟶ enter 3) ∷ (enter 3 ⟶ enter 4) ∷ (enter 4 ⟶ leave 4) ∷ (used 3 4 5 false ⟹ leave 3) ∷ (giving 1 3 ⟹ leave 1) ∷ (leave 2 ⟶ leave 1) ∷ (giving 1 1 ⟹ finish 1) ∷ (ends (plain (finish 1))) ∷ []
unfolding returns_zero
ways_of_returns_zero t h = ap (λ k. (enter 1 ⟶ enter 2) ∷ (enter 2 ⟶ enter 3) ∷ (enter 3 ⟶ enter 4) ∷ (enter 4 ⟶ leave 4) ∷ (used 3 4 5 false ⟹ leave 3) ∷ (giving 1 3 ⟹ leave 1) ∷ (leave 2 ⟶ leave 1) ∷ (end_ways (nat_eq 1 k) 1 ++ [])) h
