-- What a walk has noted behind a statement is what it had noted before, and then the ways of the statement.
use Rattle.std.proofs.Common.{◌≡◌, ℕ, ◌+◌, List, [], ◌∷◌, ◌++◌, Option, Some, None, Bool, true, false, refl, ap, sym, ◌∙◌, append_assoc}
use Rattle.std.specs.Prelude.{nat_eq, cond}
use Rattle.std.proofs.lemmas.List.{append-nil}
use Rattle.base_core.specs.declared.id.Pos.{Pos}
use Rattle.c_tree.specs.Tree.{StatementTree, block, declaration, expression_statement, if_statement, if_else_statement, while_statement, do_statement, for_statement, switch_statement, case_label, default_label, named_label, break_statement, continue_statement, return_statement, goto_statement, Statements, no_statements, statements, FunctionTree, ItemTree, function_item, declaration_item, Expression, Initializer, single, listed, Initializers, no_initializers, initializers, NamedTree, DeclarationTree, ForStartTree, start_declaration, start_expression}
use Rattle.flow_form.specs.Typing.{Typing}
use Rattle.c_tree.specs.Behind.{behind_expression, behind_specifiers, behind_declarator, behind_init, behind_named, behind_optional, behind_start, behind_statement, behind_item}
use Rattle.flow_form.specs.declared.edge.Source.{Source}
use Rattle.flow_form.specs.Control.{kept_value}
use Rattle.flow_form.specs.Positions.{otherwise, Ways, enter, leave, plain, ◌⟶◌, ◌⟹◌}
use Rattle.flow_form.specs.Statements.{Around, in_loop, in_switch, jump, leaving, values, all_values, optional_values, through, declared, names_ways, declaration_ways, step_ways, condition_ways, start_ways, to_optional, statement_ways, in_order, labels, end_ways, body_number, function_ways, item_ways, items_ways}
use Rattle.flow_form.specs.PassedStatements.{behind_value, behind_values, past_value, past_values, past_initial, behind_name, past_name, past_names, past_declaration, past_step, past_condition, past_start, again_at, try_at, past_statement, past_in_order, past_end, past_function, past_item, past_items}
use Rattle.flow_form.proofs.Passed.{one_is, two_is, past_is}

mutual
  value_is : (t : Typing) (s : Source) (n k : ℕ) (i : Initializer) (xs : List (ℕ × Expression)) (rs : List Ways) →
      past_value t s n k i rs ++ through t (behind_value t s n k i) n xs ≡ rs ++ through t s n (values k i ++ xs)
  value_is t s n k (single x) xs rs = ap (λ ys. ys ++ through t (kept_value t n k x) n xs) (past_is t false k x (rs ++ (s ⟹ enter k) ∷ [])) ∙ simp append_assoc
  value_is t s n k (listed is c) xs rs = values_is t s n (k + 1) is xs rs

  values_is : (t : Typing) (s : Source) (n k : ℕ) (is : Initializers) (xs : List (ℕ × Expression)) (rs : List Ways) →
      past_values t s n k is rs ++ through t (behind_values t s n k is) n xs ≡ rs ++ through t s n (all_values k is ++ xs)
  values_is t s n k no_initializers xs rs = refl
  values_is t s n k (initializers m i is) xs rs =
      values_is t (behind_value t s n k i) n (behind_init k i) is xs (past_value t s n k i rs)
      ∙ value_is t s n k i (all_values (behind_init k i) is ++ xs) rs
      ∙ ap (λ ys. rs ++ through t s n ys) (sym (append_assoc (values k i) (all_values (behind_init k i) is) xs))

initial_is : (t : Typing) (n k : ℕ) (i : Option Initializer) (rs : List Ways) → past_initial t n k i rs ≡ rs ++ through t (plain (enter n)) n (optional_values k i)
initial_is t n k None rs = refl
initial_is t n k (Some i) rs = value_is t (plain (enter n)) n k i [] rs ∙ ap (λ ys. rs ++ through t (plain (enter n)) n ys) (append-nil (values k i))

-- whether a declared name is an automatic variable
name_is : (b : Bool) (t : Typing) (s : Source) (q : Pos) (n : ℕ) (d : NamedTree) (ds : List NamedTree) (rs : List Ways) →
    ((r : Source) (us : List Ways) → past_names t r q (behind_named n d) ds us ≡ us ++ names_ways t r q (behind_named n d) ds) →
    past_names t (behind_name b s n d) q (behind_named n d) ds (past_name b t s n d rs)
    ≡ rs ++ cond b ((s ⟹ enter n) ∷ (through t (plain (enter n)) n (optional_values (behind_declarator (n + 1) d.declarator) d.init) ++ names_ways t (declared n (behind_named n d)) q (behind_named n d) ds)) (names_ways t s q (behind_named n d) ds)
name_is true t s q n d ds rs h =
    h (declared n (behind_named n d)) _
    ∙ ap (λ ys. ys ++ names_ways t (declared n (behind_named n d)) q (behind_named n d) ds) (initial_is t n (behind_declarator (n + 1) d.declarator) d.init (rs ++ (s ⟹ enter n) ∷ []))
    ∙ simp append_assoc
name_is false t s q n d ds rs h = h s rs

names_is : (t : Typing) (s : Source) (q : Pos) (n : ℕ) (ds : List NamedTree) (rs : List Ways) → past_names t s q n ds rs ≡ rs ++ names_ways t s q n ds
names_is t s q n [] rs = refl
names_is t s q n (d ∷ ds) rs = name_is (t.is_automatic n) t s q n d ds rs (λ r us. names_is t r q (behind_named n d) ds us)

declaration_is : (t : Typing) (n : ℕ) (d : DeclarationTree) (rs : List Ways) → past_declaration t n d rs ≡ rs ++ declaration_ways t n d
declaration_is t n d rs = names_is t (plain (enter n)) (leave n) (behind_specifiers (n + 1) d.specs) d.names rs

plus : (rs X Y : List Ways) (r : Ways) → Y ≡ rs ++ X → Y ++ r ∷ [] ≡ rs ++ (X ++ r ∷ [])
plus rs X Y r h = ap (λ ys. ys ++ r ∷ []) h ∙ simp append_assoc

step_is : (t : Typing) (n : ℕ) (x : Option Expression) (q : Pos) (rs : List Ways) → past_step t n x q rs ≡ rs ++ step_ways t n x q
step_is t n None q rs = sym (append-nil rs)
step_is t n (Some x) q rs = plus rs _ _ _ (past_is t false n x rs)

condition_is : (t : Typing) (n a b : ℕ) (x : Option Expression) (rs : List Ways) → past_condition t n a b x rs ≡ rs ++ condition_ways t n a b x
condition_is t n a b None rs = sym (append-nil rs)
condition_is t n a b (Some x) rs = plus rs _ _ _ (past_is t false a x rs)

start_is : (t : Typing) (p : Pos) (n : ℕ) (x : ForStartTree) (q : Pos) (rs : List Ways) → past_start t p n x q rs ≡ rs ++ start_ways t p n x q
start_is t p n (start_declaration d) q rs = one_is rs _ _ _ _ (declaration_is t n d _)
start_is t p n (start_expression x) q rs = step_is t n x q (rs ++ (p ⟶ to_optional n x q) ∷ []) ∙ append_assoc rs ((p ⟶ to_optional n x q) ∷ []) (step_ways t n x q)

pub if_else_is : (rs X Y Z W U V : List Ways) (p q r s : Ways) → Y ≡ (rs ++ p ∷ []) ++ X → W ≡ Y ++ Z → V ≡ ((W ++ q ∷ []) ++ r ∷ []) ++ U →
    V ++ s ∷ [] ≡ rs ++ (p ∷ (X ++ (Z ++ q ∷ (r ∷ (U ++ s ∷ [])))))
if_else_is rs X Y Z W U V p q r s h k l =
    ap (λ ys. ys ++ s ∷ []) (l ∙ ap (λ ys. ((ys ++ q ∷ []) ++ r ∷ []) ++ U) (k ∙ ap (λ ys. ys ++ Z) h)) ∙ simp append_assoc

for_is : (rs A X Y S T U V W : List Ways) (r : Ways) → T ≡ rs ++ A → U ≡ T ++ X → V ≡ U ++ Y → W ≡ V ++ S → W ++ r ∷ [] ≡ rs ++ (A ++ (X ++ (Y ++ (S ++ r ∷ []))))
for_is rs A X Y S T U V W r h k l m =
    ap (λ ys. ys ++ r ∷ []) (m ∙ ap (λ ys. ys ++ S) (l ∙ ap (λ ys. ys ++ Y) (k ∙ ap (λ ys. ys ++ X) h))) ∙ simp append_assoc

switch_is : (rs X S Y W : List Ways) (q r s : Ways) → Y ≡ (rs ++ q ∷ []) ++ X → W ≡ Y ++ S → (W ++ r ∷ []) ++ s ∷ [] ≡ rs ++ (q ∷ (X ++ (S ++ r ∷ (s ∷ []))))
switch_is rs X S Y W q r s h k = ap (λ ys. (ys ++ r ∷ []) ++ s ∷ []) (k ∙ ap (λ ys. ys ++ S) h) ∙ simp append_assoc

mutual
  pub past_statement_is : (t : Typing) (w : Around) (n : ℕ) (s : StatementTree) (rs : List Ways) → past_statement t w n s rs ≡ rs ++ statement_ways t w n s
  past_statement_is t w n (block ss) rs = past_in_order_is t w (plain (enter n)) None (leave n) (n + 1) ss rs
  past_statement_is t w n (declaration d) rs = declaration_is t n d rs
  past_statement_is t w n (expression_statement None) rs = refl
  past_statement_is t w n (expression_statement (Some x)) rs = one_is rs _ _ _ _ (past_is t false (n + 1) x _)
  past_statement_is t w n (if_statement x s) rs = two_is rs _ _ _ _ _ _ _ (past_is t false (n + 1) x _) (past_statement_is t w (behind_expression (n + 1) x) s _)
  past_statement_is t w n (if_else_statement x s r) rs = if_else_is rs _ _ _ _ _ _ _ _ _ _ (past_is t false (n + 1) x _) (past_statement_is t w (behind_expression (n + 1) x) s _) (past_statement_is t w (behind_statement (behind_expression (n + 1) x) s) r _)
  past_statement_is t w n (while_statement x s) rs = two_is rs _ _ _ _ _ _ _ (past_is t false (n + 1) x _) (past_statement_is t (in_loop w (leave n) (enter (n + 1))) (behind_expression (n + 1) x) s _)
  past_statement_is t w n (do_statement s x) rs = two_is rs _ _ _ _ _ _ _ (past_statement_is t (in_loop w (leave n) (enter (behind_statement (n + 1) s))) (n + 1) s _) (past_is t false (behind_statement (n + 1) s) x _)
  past_statement_is t w n (for_statement start x y s) rs =
      let a = behind_start (n + 1) start in let c = behind_optional a x in let b = behind_optional c y in
      for_is rs _ _ _ _ _ _ _ _ _ (start_is t (enter n) (n + 1) start (try_at a b x) rs) (condition_is t n a b x _) (step_is t c y (try_at a b x) _)
      (past_statement_is t (in_loop w (leave n) (again_at a b c x y)) b s _)
  past_statement_is t w n (switch_statement x s) rs = switch_is rs _ _ _ _ _ _ _ (past_is t false (n + 1) x _) (past_statement_is t (in_switch w (leave n)) (behind_expression (n + 1) x) s _)
  past_statement_is t w n (case_label x) rs = refl
  past_statement_is t w n default_label rs = refl
  past_statement_is t w n (named_label m) rs = refl
  past_statement_is t w n break_statement rs = refl
  past_statement_is t w n continue_statement rs = refl
  past_statement_is t w n (return_statement None) rs = refl
  past_statement_is t w n (return_statement (Some x)) rs = one_is rs _ _ _ _ (past_is t false (n + 1) x _)
  past_statement_is t w n (goto_statement m) rs = refl

  pub past_in_order_is : (t : Typing) (w : Around) (s : Source) (j : Option Pos) (q : Pos) (n : ℕ) (ss : Statements) (rs : List Ways) →
      past_in_order t w s j q n ss rs ≡ rs ++ in_order t w s j q n ss
  past_in_order_is t w s j q n no_statements rs = refl
  past_in_order_is t w s j q n (statements r ss) rs =
      past_in_order_is t w (leaving w n r) (jump w r) q (behind_statement n r) ss _
      ∙ ap (λ ys. ys ++ in_order t w (leaving w n r) (jump w r) q (behind_statement n r) ss) (past_statement_is t w n r (rs ++ (s ⟹ otherwise (enter n) j) ∷ []))
      ∙ simp append_assoc

end_is : (b : Bool) (n : ℕ) (rs : List Ways) → past_end b n rs ≡ rs ++ end_ways b n
end_is true n rs = simp append_assoc
end_is false n rs = refl

function_shape : (b : Bool) (n : ℕ) (rs X Y : List Ways) (r s : Ways) → Y ≡ (rs ++ r ∷ []) ++ X → past_end b n (Y ++ s ∷ []) ≡ rs ++ (r ∷ (X ++ s ∷ end_ways b n))
function_shape b n rs X Y r s h = end_is b n (Y ++ s ∷ []) ∙ ap (λ ys. (ys ++ s ∷ []) ++ end_ways b n) h ∙ simp append_assoc

pub function_is : (t : Typing) (n : ℕ) (f : FunctionTree) (rs : List Ways) → past_function t n f rs ≡ rs ++ function_ways t n f
function_is t n f rs = function_shape (nat_eq n t.main) n rs _ _ _ _ (past_statement_is t (record { stop = leave n; again = leave n; function = n; labels = labels (body_number n f) f.body }) (body_number n f) f.body _)

item_is : (t : Typing) (n : ℕ) (i : ItemTree) (rs : List Ways) → past_item t n i rs ≡ rs ++ item_ways t n i
item_is t n (function_item f) rs = function_is t n f rs
item_is t n (declaration_item d) rs = sym (append-nil rs)

pub items_is : (t : Typing) (n : ℕ) (is : List ItemTree) (rs : List Ways) → past_items t n is rs ≡ rs ++ items_ways t n is
items_is t n [] rs = sym (append-nil rs)
items_is t n (i ∷ is) rs = items_is t (behind_item n i) is _ ∙ ap (λ ys. ys ++ items_ways t (behind_item n i) is) (item_is t n i rs) ∙ simp append_assoc
