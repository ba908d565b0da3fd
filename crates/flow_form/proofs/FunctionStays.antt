-- Each edge of a function leads to a position of that function.
use Rattle.std.proofs.Common.{◌≡◌, ℕ, ◌+◌, List, [], ◌∷◌, ◌++◌, Option, Some, None, Bool, true, false, refl, eq-eqb}
use Rattle.std.specs.Prelude.{nat_eq, is_some, cond}
use Rattle.base_core.specs.declared.id.Pos.{Pos}
use Rattle.c_tree.specs.Tree.{Name, StatementTree, block, if_statement, if_else_statement, while_statement, do_statement, for_statement, switch_statement, named_label, Statements, no_statements, statements, FunctionTree}
use Rattle.flow_form.specs.Typing.{Typing}
use Rattle.c_tree.specs.Behind.{behind_expression, behind_optional, behind_start, behind_statement}
use Rattle.flow_form.specs.Control.{inside}
use Rattle.flow_form.specs.Positions.{Ways, enter, leave, plain}
use Rattle.flow_form.specs.declared.edge.Source.{Source}
use Rattle.flow_form.specs.Statements.{Around, in_loop, in_switch, jump, leaving, statement_ways, in_order, start_ways, step_ways, condition_ways, to_optional, labels, all_labels, body_number, end_ways, function_ways}
use Rattle.flow_form.specs.Table.{number, found, hit, or_else}
use Rattle.flow_form.proofs.Stays.{At, Stays, at_left, at_right, stays_append}
use Rattle.flow_form.proofs.StaysStatements.{LabelsAt, statement_begins, statement_stays}

module _ (P : Pos → Type 0) where
  labels_append : (ls ms : List (Name × ℕ)) → LabelsAt P ls → LabelsAt P ms → LabelsAt P (ls ++ ms)
  labels_append [] ms h k = k
  labels_append (l ∷ ls) ms h k = (h.0, labels_append ls ms h.1 k)

  mutual
    pub labels_there : (t : Typing) (w : Around) (n : ℕ) (s : StatementTree) → At P (statement_ways t w n s) → LabelsAt P (labels n s)
    labels_there t w n (block ss) h = all_labels_there t w (plain (enter n)) None (leave n) (n + 1) ss h
    labels_there t w n (if_statement x s) h = labels_there t w _ s (at_left P (statement_ways t w (behind_expression (n + 1) x) s) _ (at_right P (inside t false (n + 1) x) _ h.1).1)
    labels_there t w n (if_else_statement x s r) h =
        let b = behind_expression (n + 1) x in let c = behind_statement b s in
        let m = at_right P (inside t false (n + 1) x) _ h.1 in
        labels_append (labels b s) (labels c r) (labels_there t w b s (at_left P (statement_ways t w b s) _ m))
        (labels_there t w c r (at_left P (statement_ways t w c r) _ (at_right P (statement_ways t w b s) _ m).1.1))
    labels_there t w n (while_statement x s) h =
        labels_there t (in_loop w (leave n) (enter (n + 1))) _ s (at_left P (statement_ways t (in_loop w (leave n) (enter (n + 1))) (behind_expression (n + 1) x) s) _ (at_right P (inside t false (n + 1) x) _ h.1).1)
    labels_there t w n (do_statement s x) h =
        let v = in_loop w (leave n) (enter (behind_statement (n + 1) s)) in labels_there t v (n + 1) s (at_left P (statement_ways t v (n + 1) s) _ h.1)
    labels_there t w n (for_statement start x y s) h =
        let a = behind_start (n + 1) start in let c = behind_optional a x in let b = behind_optional c y in
        let test = to_optional a x (enter b) in let v = in_loop w (leave n) (to_optional c y test) in
        let h1 = at_right P (start_ways t (enter n) (n + 1) start test) _ h in let h2 = at_right P (condition_ways t n a b x) _ h1 in
        let h3 = at_right P (step_ways t c y test) _ h2 in
        labels_there t v b s (at_left P (statement_ways t v b s) _ h3)
    labels_there t w n (switch_statement x s) h =
        let v = in_switch w (leave n) in labels_there t v _ s (at_left P (statement_ways t v (behind_expression (n + 1) x) s) _ (at_right P (inside t false (n + 1) x) _ h.1))
    labels_there t w n (named_label m) h = (h.0, tt)
    labels_there t w n _ h = tt

    pub all_labels_there : (t : Typing) (w : Around) (v : Source) (o : Option Pos) (q : Pos) (n : ℕ) (ss : Statements) → At P (in_order t w v o q n ss) → LabelsAt P (all_labels n ss)
    all_labels_there t w v o q n no_statements h = tt
    all_labels_there t w v o q n (statements s ss) h =
        labels_append (labels n s) (all_labels (behind_statement n s) ss) (labels_there t w n s (at_left P (statement_ways t w n s) _ h.1))
        (all_labels_there t w (leaving w n s) (jump w s) q (behind_statement n s) ss (at_right P (statement_ways t w n s) _ h.1))

  end_there : (b : Bool) (n : ℕ) → At P (end_ways b n) → P (leave n)
  end_there true n h = h.0
  end_there false n h = h.0

  end_stays : (b : Bool) (n : ℕ) → At P (end_ways b n) → Stays P (end_ways b n)
  end_stays true n h = ((h.1.0, tt), (tt, tt))
  end_stays false n h = (tt, tt)

  pub function_stays : (t : Typing) (n : ℕ) (f : FunctionTree) → At P (function_ways t n f) → Stays P (function_ways t n f)
  function_stays t n f h =
      let b = body_number n f in
      let w : Around = record { stop = leave n; again = leave n; function = n; labels = labels b f.body } in
      let S = statement_ways t w b f.body in
      let l = at_left P S _ h.1 in let r = at_right P S _ h.1 in
      let out = end_there (nat_eq n t.main) n r.1 in (
        (statement_begins P t w b f.body l, tt),
        stays_append P S _ (statement_stays P t w b f.body (record { to_stop = out; to_again = out; to_function = out; to_labels = labels_there t w b f.body l }) l r.0)
            ((out, tt), end_stays (nat_eq n t.main) n r.1),
      )

-- the rows have one for this position
abbrev pub Has : List Ways → Pos → Type 0
Has rs q = is_some (found (number q) rs) ≡ true

at_map : (P Q : Pos → Type 0) (rs : List Ways) → ((q : Pos) → P q → Q q) → At P rs → At Q rs
at_map P Q [] f h = tt
at_map P Q (r ∷ rs) f h = (f r.source.at h.0, at_map P Q rs f h.1)

or_left : (a b : Option Ways) → is_some a ≡ true → is_some (or_else a b) ≡ true
or_left None b h = absurd cc
or_left (Some x) b h = refl

or_right : (a b : Option Ways) → is_some b ≡ true → is_some (or_else a b) ≡ true
or_right None b h = h
or_right (Some x) b h = refl

hit_itself : (b : Bool) (r : Ways) → b ≡ true → is_some (cond b (Some r) None) ≡ true
hit_itself true r h = refl
hit_itself false r h = absurd cc

pub all_there : (rs : List Ways) → At (Has rs) rs
all_there [] = tt
all_there (r ∷ rs) = (
  or_right (found (number r.source.at) rs) (hit (number r.source.at) r) (hit_itself (nat_eq (number r.source.at) (number r.source.at)) r (eq-eqb (number r.source.at) (number r.source.at) refl)),
  at_map (Has rs) (Has (r ∷ rs)) rs (λ q h. or_left (found (number q) rs) (hit (number q) r) h) (all_there rs),
)

-- each edge of a function leads to a position that has a row in it
pub edges_stay : (t : Typing) (n : ℕ) (f : FunctionTree) → Stays (Has (function_ways t n f)) (function_ways t n f)
edges_stay t n f = function_stays (Has (function_ways t n f)) t n f (all_there (function_ways t n f))
