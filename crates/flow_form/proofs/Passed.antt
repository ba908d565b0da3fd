-- What a walk has noted behind a part is what it had noted before, and then the ways of the part.
use Rattle.std.proofs.Common.{◌≡◌, ℕ, ◌+◌, List, [], ◌∷◌, ◌++◌, Bool, true, false, refl, ap, ◌∙◌, append_assoc}
use Rattle.std.proofs.lemmas.List.{append-nil}
use Rattle.flow_form.specs.declared.edge.Source.{Source}
use Rattle.c_tree.specs.Tree.{Expression, comma, assign, choose, binary, cast, unary, before, size_of, size_of_type, index, call, dot, arrow, after, name, integer, character, text, paren, Expressions, no_expressions, expressions}
use Rattle.flow_form.specs.declared.meaning.Call.{Call}
use Rattle.flow_form.specs.declared.meaning.Call.TheVariants.{Value, Returns, Never, Copies, Waits}
use Rattle.flow_form.specs.Typing.{Typing}
use Rattle.c_tree.specs.Behind.{behind_expression, behind_type}
use Rattle.flow_form.specs.Positions.{Ways, enter, ◌⟹◌}
use Rattle.flow_form.specs.Control.{inside, arguments, called, callee_ways, behind_callee, kept_value, takes_place}
use Rattle.flow_form.specs.Passed.{past, past_arguments, past_called, past_callee}

-- X: the ways of a part; Y: all that is noted behind it
pub one_is : (rs X Y : List Ways) (r s : Ways) → Y ≡ (rs ++ r ∷ []) ++ X → Y ++ s ∷ [] ≡ rs ++ (r ∷ (X ++ s ∷ []))
one_is rs X Y r s h = ap (λ ys. ys ++ s ∷ []) h ∙ simp append_assoc

pub two_is : (rs X Y Z W : List Ways) (q r s : Ways) → Y ≡ (rs ++ q ∷ []) ++ X → W ≡ (Y ++ r ∷ []) ++ Z →
    W ++ s ∷ [] ≡ rs ++ (q ∷ (X ++ r ∷ (Z ++ s ∷ [])))
two_is rs X Y Z W q r s h k = ap (λ ys. ys ++ s ∷ []) (k ∙ ap (λ ys. (ys ++ r ∷ []) ++ Z) h) ∙ simp append_assoc

pub three_is : (rs X Y Z W U V : List Ways) (p q r s : Ways) → Y ≡ (rs ++ p ∷ []) ++ X → W ≡ Y ++ Z → V ≡ ((W ++ q ∷ []) ++ r ∷ []) ++ U →
    V ++ s ∷ [] ≡ rs ++ (p ∷ (X ++ (Z ++ q ∷ (r ∷ (U ++ s ∷ [])))))
three_is rs X Y Z W U V p q r s h k l =
    ap (λ ys. ys ++ s ∷ []) (l ∙ ap (λ ys. ((ys ++ q ∷ []) ++ r ∷ []) ++ U) (k ∙ ap (λ ys. ys ++ Z) h)) ∙ simp append_assoc

pub called_is : (c : Call) (n : ℕ) (rs : List Ways) → past_called c n rs ≡ rs ++ called c n
called_is Value n rs = refl
called_is Returns n rs = refl
called_is Never n rs = refl
called_is Copies n rs = simp append_assoc
called_is Waits n rs = refl

pub callee_is : (c : Call) (n a : ℕ) (f : List Ways → List Ways) (F rs : List Ways) → ((us : List Ways) → f us ≡ us ++ F) →
    past_callee c n a f rs ≡ rs ++ callee_ways c n a F
callee_is Value n a f F rs h = h _ ∙ simp append_assoc
callee_is Returns n a f F rs h = simp append-nil
callee_is Never n a f F rs h = simp append-nil
callee_is Copies n a f F rs h = simp append-nil
callee_is Waits n a f F rs h = simp append-nil

pub call_is : (c : Call) (n : ℕ) (rs F A Y W : List Ways) → Y ≡ rs ++ F → W ≡ Y ++ A → past_called c n W ≡ rs ++ (F ++ (A ++ called c n))
call_is c n rs F A Y W h k = called_is c n W ∙ ap (λ ys. ys ++ called c n) (k ∙ ap (λ ys. ys ++ A) h) ∙ simp append_assoc

mutual
  pub past_is : (t : Typing) (p : Bool) (n : ℕ) (x : Expression) (rs : List Ways) → past t p n x rs ≡ rs ++ inside t p n x
  past_is t p n (comma x y) rs = two_is rs _ _ _ _ _ _ _ (past_is t false (n + 1) x _) (past_is t false (behind_expression (n + 1) x) y _)
  past_is t p n (assign o x y) rs = two_is rs _ _ _ _ _ _ _ (past_is t true (n + 1) x _) (past_is t false (behind_expression (n + 1) x) y _)
  past_is t p n (choose x y z) rs = three_is rs _ _ _ _ _ _ _ _ _ _ (past_is t false (n + 1) x _) (past_is t false (behind_expression (n + 1) x) y _) (past_is t false (behind_expression (behind_expression (n + 1) x) y) z _)
  past_is t p n (binary o x y) rs = two_is rs _ _ _ _ _ _ _ (past_is t false (n + 1) x _) (past_is t false (behind_expression (n + 1) x) y _)
  past_is t p n (cast c x) rs = one_is rs _ _ _ _ (past_is t false (behind_type (n + 1) c) x _)
  past_is t p n (unary o x) rs = one_is rs _ _ _ _ (past_is t (takes_place o) (n + 1) x _)
  past_is t p n (before o x) rs = one_is rs _ _ _ _ (past_is t true (n + 1) x _)
  past_is t p n (size_of x) rs = refl
  past_is t p n (size_of_type c) rs = refl
  past_is t p n (index x y) rs = two_is rs _ _ _ _ _ _ _ (past_is t false (n + 1) x _) (past_is t false (behind_expression (n + 1) x) y _)
  past_is t p n (call f xs) rs = call_is (t.call (n + 1)) n rs _ _ _ _
      (callee_is (t.call (n + 1)) n (n + 1) (λ us. past t false (n + 1) f us) (inside t false (n + 1) f) rs (λ us. past_is t false (n + 1) f us))
      (past_arguments_is t (behind_callee (t.call (n + 1)) n (kept_value t n (n + 1) f)) n (behind_expression (n + 1) f) xs _)
  past_is t p n (dot x m) rs = one_is rs _ _ _ _ (past_is t true (n + 1) x _)
  past_is t p n (arrow x m) rs = one_is rs _ _ _ _ (past_is t false (n + 1) x _)
  past_is t p n (after o x) rs = one_is rs _ _ _ _ (past_is t true (n + 1) x _)
  past_is t p n (name m) rs = refl
  past_is t p n (integer m) rs = refl
  past_is t p n (character m) rs = refl
  past_is t p n (text ms) rs = refl
  past_is t p n (paren x) rs = one_is rs _ _ _ _ (past_is t p (n + 1) x _)

  pub past_arguments_is : (t : Typing) (s : Source) (c n : ℕ) (xs : Expressions) (rs : List Ways) → past_arguments t s c n xs rs ≡ rs ++ arguments t s c n xs
  past_arguments_is t s c n no_expressions rs = refl
  past_arguments_is t s c n (expressions x xs) rs =
      past_arguments_is t (kept_value t c n x) c (behind_expression n x) xs _ ∙ ap (λ ys. ys ++ arguments t (kept_value t c n x) c (behind_expression n x) xs) (past_is t false n x (rs ++ (s ⟹ enter n) ∷ [])) ∙ simp append_assoc
