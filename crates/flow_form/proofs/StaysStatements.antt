-- Each edge of a statement, and of a function, leads to a position of the function.
use Rattle.std.proofs.Common.{ℕ, ◌+◌, List, [], ◌∷◌, ◌++◌, Option, Some, None, Bool, true, false, ◌≡◌, refl, subst}
use Rattle.std.specs.Prelude.{bytes_eq, cond}
use Rattle.base_core.specs.declared.id.Pos.{Pos}
use Rattle.c_tree.specs.Tree.{Name, Expression, NamedTree, ForStartTree, start_declaration, start_expression, StatementTree, block, declaration, expression_statement, if_statement, if_else_statement, while_statement, do_statement, for_statement, switch_statement, case_label, default_label, named_label, break_statement, continue_statement, return_statement, goto_statement, Statements, no_statements, statements}
use Rattle.flow_form.specs.declared.edge.Edge.{Edge}
use Rattle.flow_form.specs.Typing.{Typing}
use Rattle.c_tree.specs.Behind.{behind_expression, behind_specifiers, behind_declarator, behind_named, behind_optional, behind_start, behind_statement}
use Rattle.flow_form.specs.declared.edge.Source.{Source}
use Rattle.flow_form.specs.Control.{inside, kept_value}
use Rattle.flow_form.specs.Positions.{otherwise, Ways, enter, leave, plain, ◌⟶◌, ◌⟹◌, choice}
use Rattle.flow_form.specs.Statements.{Around, in_loop, in_switch, label, jump, leaving, optional_values, through, declared, names_ways, statement_ways, in_order, start_ways, step_ways, condition_ways, to_optional, declaration_ways, case_edges, cases, switch_edges, has_default, leave_edges}
use Rattle.flow_form.proofs.Stays.{At, Targets, Stays, at_left, at_right, stays_append, entered, last_stays, inside_stays}

module _ (P : Pos → Type 0) where
  abbrev pub LabelsAt : List (Name × ℕ) → Type 0
  LabelsAt [] = Unit {0}
  LabelsAt (l ∷ ls) = P (enter l.1) × LabelsAt ls

  -- the targets of jumps are positions
  pub record Safe (w : Around) : Type 0 where
    pub to_stop : P w.stop
    pub to_again : P w.again
    pub to_function : P (leave w.function)
    pub to_labels : LabelsAt w.labels

  abbrev pub JumpAt : Option Pos → Type 0
  JumpAt None = Unit {0}
  JumpAt (Some q) = P q

  abbrev label_cases : (b : Bool) (q : Pos) (o : Option Pos) → P q → JumpAt o → JumpAt (cond b (Some q) o)
  label_cases true q o h k = h
  label_cases false q o h k = k

  label_there : (m : Name) (ls : List (Name × ℕ)) → LabelsAt ls → JumpAt (label m ls)
  label_there m [] h = tt
  label_there m (l ∷ ls) h = label_cases (bytes_eq m l.0) (enter l.1) (label m ls) h.0 (label_there m ls h.1)

  pub jump_there : (w : Around) (s : StatementTree) → Safe w → JumpAt (jump w s)
  jump_there w break_statement h = h.to_stop
  jump_there w continue_statement h = h.to_again
  jump_there w (return_statement x) h = h.to_function
  jump_there w (goto_statement m) h = label_there m w.labels h.to_labels
  jump_there w _ h = tt

  pub on : (j : Option Pos) (p : Pos) → JumpAt j → P p → P (otherwise p j)
  on None p h k = k
  on (Some q) p h k = h

  leaving_at : (w : Around) (n : ℕ) (s : StatementTree) → (leaving w n s).at ≡ leave n
  leaving_at w n (return_statement (Some x)) = refl
  leaving_at w n (return_statement None) = refl
  leaving_at w n _ = refl

  through_begins : (t : Typing) (s : Source) (n : ℕ) (xs : List (ℕ × Expression)) → At P (through t s n xs) → P s.at
  through_begins t s n [] h = h.0
  through_begins t s n (x ∷ xs) h = h.0

  through_stays : (t : Typing) (s : Source) (n : ℕ) (xs : List (ℕ × Expression)) → At P (through t s n xs) → P (leave n) → Stays P (through t s n xs)
  through_stays t s n [] h out = ((out, tt), tt)
  through_stays t s n (x ∷ xs) h out =
      let rest = through t (kept_value t n x.0 x.1) n xs in let part = inside_stays P t false x.0 x.1 in
      let l = at_left P (inside t false x.0 x.1) rest h.1 in let r = at_right P (inside t false x.0 x.1) rest h.1 in
      ((entered P x.0 (inside t false x.0 x.1) part.0 l, tt), stays_append P (inside t false x.0 x.1) rest (part.1 l (through_begins t (kept_value t n x.0 x.1) n xs r)) (through_stays t (kept_value t n x.0 x.1) n xs r out))

  in_order_begins : (t : Typing) (w : Around) (s : Source) (j : Option Pos) (q : Pos) (n : ℕ) (ss : Statements) → At P (in_order t w s j q n ss) → P s.at
  in_order_begins t w s j q n no_statements h = h.0
  in_order_begins t w s j q n (statements r ss) h = h.0

  -- a declared name that has positions, or one that has none
  abbrev branch : Typing → Source → Pos → ℕ → NamedTree → List NamedTree → Bool → List Ways
  branch t s q n d ds b = cond b ((s ⟹ enter n) ∷ (through t (plain (enter n)) n (optional_values (behind_declarator (n + 1) d.declarator) d.init) ++ names_ways t (declared n (behind_named n d)) q (behind_named n d) ds)) (names_ways t s q (behind_named n d) ds)

  branch_begins : (t : Typing) (s : Source) (q : Pos) (n : ℕ) (d : NamedTree) (ds : List NamedTree) (b : Bool) → (At P (names_ways t s q (behind_named n d) ds) → P s.at) → At P (branch t s q n d ds b) → P s.at
  branch_begins t s q n d ds true f h = h.0
  branch_begins t s q n d ds false f h = f h

  names_begin : (t : Typing) (s : Source) (q : Pos) (n : ℕ) (ds : List NamedTree) → At P (names_ways t s q n ds) → P s.at
  names_begin t s q n [] h = h.0
  names_begin t s q n (d ∷ ds) h = branch_begins t s q n d ds (t.is_automatic n) (λ g. names_begin t s q (behind_named n d) ds g) h

  branch_stays : (t : Typing) (s : Source) (q : Pos) (n : ℕ) (d : NamedTree) (ds : List NamedTree) (b : Bool) →
      ((r : Source) → At P (names_ways t r q (behind_named n d) ds) → Stays P (names_ways t r q (behind_named n d) ds)) → At P (branch t s q n d ds b) → Stays P (branch t s q n d ds b)
  branch_stays t s q n d ds true f h =
      let xs = optional_values (behind_declarator (n + 1) d.declarator) d.init in let v = declared n (behind_named n d) in let rest = names_ways t v q (behind_named n d) ds in
      let l = at_left P (through t (plain (enter n)) n xs) rest h.1 in let r = at_right P (through t (plain (enter n)) n xs) rest h.1 in
      ((through_begins t (plain (enter n)) n xs l, tt), stays_append P (through t (plain (enter n)) n xs) rest (through_stays t (plain (enter n)) n xs l (names_begin t v q (behind_named n d) ds r)) (f v r))
  branch_stays t s q n d ds false f h = f s h

  names_stay : (t : Typing) (s : Source) (q : Pos) (n : ℕ) (ds : List NamedTree) → P q → At P (names_ways t s q n ds) → Stays P (names_ways t s q n ds)
  names_stay t s q n [] out h = ((out, tt), tt)
  names_stay t s q n (d ∷ ds) out h = branch_stays t s q n d ds (t.is_automatic n) (λ r g. names_stay t r q (behind_named n d) ds out g) h

  start_begins : (t : Typing) (p : Pos) (n : ℕ) (s : ForStartTree) (q : Pos) (rest : List Ways) → At P (start_ways t p n s q ++ rest) → P p
  start_begins t p n (start_declaration d) q rest h = h.0
  start_begins t p n (start_expression x) q rest h = h.0

  pub statement_begins : (t : Typing) (w : Around) (n : ℕ) (s : StatementTree) → At P (statement_ways t w n s) → P (enter n)
  statement_begins t w n (block ss) h = in_order_begins t w (plain (enter n)) None (leave n) (n + 1) ss h
  statement_begins t w n (declaration d) h = names_begin t (plain (enter n)) (leave n) (behind_specifiers (n + 1) d.specs) d.names h
  statement_begins t w n (expression_statement None) h = h.0
  statement_begins t w n (expression_statement (Some x)) h = h.0
  statement_begins t w n (if_statement x s) h = h.0
  statement_begins t w n (if_else_statement x s r) h = h.0
  statement_begins t w n (while_statement x s) h = h.0
  statement_begins t w n (do_statement s x) h = h.0
  statement_begins t w n (for_statement start x y s) h = start_begins t (enter n) (n + 1) start _ _ h
  statement_begins t w n (switch_statement x s) h = h.0
  statement_begins t w n (return_statement None) h = h.0
  statement_begins t w n (return_statement (Some x)) h = h.0
  statement_begins t w n _ h = h.0

  loop_safe : (w : Around) (stop again : Pos) → Safe w → P stop → P again → Safe (in_loop w stop again)
  loop_safe w stop again h s a = record { to_stop = s; to_again = a; to_function = h.to_function; to_labels = h.to_labels }

  switch_safe : (w : Around) (stop : Pos) → Safe w → P stop → Safe (in_switch w stop)
  switch_safe w stop h s = record { to_stop = s; to_again = h.to_again; to_function = h.to_function; to_labels = h.to_labels }

  step_stays : (t : Typing) (n : ℕ) (x : Option Expression) (q : Pos) → At P (step_ways t n x q) → P q → Stays P (step_ways t n x q)
  step_stays t n None q h k = tt
  step_stays t n (Some x) q h k =
      let part = inside_stays P t false n x in let l = at_left P (inside t false n x) _ h in let r = at_right P (inside t false n x) _ h in
      stays_append P (inside t false n x) _ (part.1 l r.0) ((k, tt), tt)

  step_there : (t : Typing) (n : ℕ) (x : Option Expression) (q : Pos) → At P (step_ways t n x q) → P q → P (to_optional n x q)
  step_there t n None q h k = k
  step_there t n (Some x) q h k = entered P n (inside t false n x) (inside_stays P t false n x).0 (at_left P (inside t false n x) _ h)

  condition_stays : (t : Typing) (n a b : ℕ) (x : Option Expression) → At P (condition_ways t n a b x) → P (leave n) → P (enter b) → Stays P (condition_ways t n a b x)
  condition_stays t n a b None h out body = tt
  condition_stays t n a b (Some x) h out body =
      let part = inside_stays P t false a x in let l = at_left P (inside t false a x) _ h in let r = at_right P (inside t false a x) _ h in
      stays_append P (inside t false a x) _ (part.1 l r.0) ((out, (body, tt)), tt)

  condition_there : (t : Typing) (n a b : ℕ) (x : Option Expression) → At P (condition_ways t n a b x) → P (enter b) → P (to_optional a x (enter b))
  condition_there t n a b None h k = k
  condition_there t n a b (Some x) h k = entered P a (inside t false a x) (inside_stays P t false a x).0 (at_left P (inside t false a x) _ h)

  start_stays : (t : Typing) (p : Pos) (n : ℕ) (s : ForStartTree) (q : Pos) → At P (start_ways t p n s q) → P q → Stays P (start_ways t p n s q)
  start_stays t p n (start_declaration d) q h out =
      let ds = declaration_ways t n d in let l = at_left P ds _ h.1 in let r = at_right P ds _ h.1 in
      ((names_begin t (plain (enter n)) (leave n) (behind_specifiers (n + 1) d.specs) d.names l, tt), stays_append P ds _ (names_stay t (plain (enter n)) (leave n) (behind_specifiers (n + 1) d.specs) d.names r.0 l) ((out, tt), tt))
  start_stays t p n (start_expression x) q h out = ((step_there t n x q h.1 out, tt), step_stays t n x q h.1 out)

  targets_append : (xs ys : List Edge) → Targets P xs → Targets P ys → Targets P (xs ++ ys)
  targets_append [] ys h k = k
  targets_append (x ∷ xs) ys h k = (h.0, targets_append xs ys h.1 k)

  -- the labels of a switch stand in its block
  case_stays : (t : Typing) (w : Around) (s a n : ℕ) (r : StatementTree) → P (enter n) → Targets P (case_edges t s a n r)
  case_stays t w s a n (case_label x) h = (h, tt)
  case_stays t w s a n default_label h = (h, tt)
  case_stays t w s a n _ h = tt

  cases_stay : (t : Typing) (w : Around) (s a : ℕ) (v : Source) (j : Option Pos) (q : Pos) (n : ℕ) (ss : Statements) → At P (in_order t w v j q n ss) → Targets P (cases t s a n ss)
  cases_stay t w s a v j q n no_statements h = tt
  cases_stay t w s a v j q n (statements r ss) h =
      let rest = in_order t w (leaving w n r) (jump w r) q (behind_statement n r) ss in
      targets_append (case_edges t s a n r) (cases t s a (behind_statement n r) ss) (case_stays t w s a n r (statement_begins t w n r (at_left P (statement_ways t w n r) rest h.1)))
      (cases_stay t w s a (leaving w n r) (jump w r) q (behind_statement n r) ss (at_right P (statement_ways t w n r) rest h.1))

  leave_edges_stay : (b : Bool) (s : ℕ) → P (leave s) → Targets P (leave_edges b s)
  leave_edges_stay true s h = tt
  leave_edges_stay false s h = (h, tt)

  switch_stays : (t : Typing) (w : Around) (s a b : ℕ) (body : StatementTree) → At P (statement_ways t w b body) → P (leave s) → Targets P (switch_edges t s a b body)
  switch_stays t w s a b (block ss) h out = targets_append (leave_edges (has_default ss) s) (cases t s a (b + 1) ss) (leave_edges_stay (has_default ss) s out) (cases_stay t w s a (plain (enter b)) None (leave b) (b + 1) ss h)
  switch_stays t w s a b _ h out = tt

  -- r: the Leave of a, s: the Leave of b
  if_stays : (n a b : ℕ) (r s : Source) (X S : List Ways) (e f : Edge) (q : Pos) → (P r.at → P (leave a)) → (P s.at → P (leave b)) → (At P X → P (enter a)) → (At P X → P (leave a) → Stays P X) → (At P S → P (leave b) → Stays P S) →
      At P ((enter n ⟶ enter a) ∷ (X ++ choice r e f ∷ (S ++ (s ⟹ q) ∷ []))) → (At P S → P e.to) → (At P S → P f.to) → P q →
      Stays P ((enter n ⟶ enter a) ∷ (X ++ choice r e f ∷ (S ++ (s ⟹ q) ∷ [])))
  if_stays n a b r s X S e f q ra sb x y z h he hf hq =
      let l = at_left P X _ h.1 in let m = at_right P X _ h.1 in let k = at_left P S _ m.1 in let u = at_right P S _ m.1 in
      ((x l, tt), stays_append P X _ (y l (ra m.0)) ((he k, (hf k, tt)), stays_append P S _ (z k (sb u.0)) ((hq, tt), tt)))

  -- the Leave of a statement
  left : (w : Around) (n : ℕ) (s : StatementTree) → P (leaving w n s).at → P (leave n)
  left w n s h = subst P (leaving_at w n s) h

  mutual
    pub statement_stays : (t : Typing) (w : Around) (n : ℕ) (s : StatementTree) → Safe w → At P (statement_ways t w n s) → P (leave n) → Stays P (statement_ways t w n s)
    statement_stays t w n (block ss) j h out = in_order_stays t w (plain (enter n)) None (leave n) (n + 1) ss j tt h out
    statement_stays t w n (declaration d) j h out = names_stay t (plain (enter n)) (leave n) (behind_specifiers (n + 1) d.specs) d.names out h
    statement_stays t w n (expression_statement None) j h out = ((out, tt), tt)
    statement_stays t w n (expression_statement (Some x)) j h out = last_stays P (plain (enter n)) n _ _ _ (inside_stays P t false (n + 1) x) (λ q. q) h out
    statement_stays t w n (if_statement x s) j h out =
        let part = inside_stays P t false (n + 1) x in let b = behind_expression (n + 1) x in
        if_stays n (n + 1) b _ (leaving w b s) (inside t false (n + 1) x) (statement_ways t w b s) _ _ (otherwise (leave n) (jump w s)) (λ q. q) (left w b s) (λ l. entered P (n + 1) (inside t false (n + 1) x) part.0 l) part.1
        (λ k r. statement_stays t w b s j k r) h (λ k. out) (λ k. statement_begins t w b s k) (on (jump w s) (leave n) (jump_there w s j) out)
    statement_stays t w n (if_else_statement x s r) j h out =
        let part = inside_stays P t false (n + 1) x in let b = behind_expression (n + 1) x in let c = behind_statement b s in
        let X = inside t false (n + 1) x in let S = statement_ways t w b s in let R = statement_ways t w c r in
        let l = at_left P X _ h.1 in let m = at_right P X _ h.1 in let k = at_left P S _ m in let v = at_right P S _ m in
        let u = at_left P R _ v.1.1 in let z = at_right P R _ v.1.1 in (
          (entered P (n + 1) X part.0 l, tt),
          stays_append P X _ (part.1 l v.1.0) (stays_append P S _ (statement_stays t w b s j k (left w b s v.0)) (
            (on (jump w s) (leave n) (jump_there w s j) out, tt),
            (
              (statement_begins t w b s k, (statement_begins t w c r u, tt)),
              stays_append P R _ (statement_stays t w c r j u (left w c r z.0)) ((on (jump w r) (leave n) (jump_there w r j) out, tt), tt),
            ),
          )),
        )
    statement_stays t w n (while_statement x s) j h out =
        let part = inside_stays P t false (n + 1) x in let b = behind_expression (n + 1) x in let v = in_loop w (leave n) (enter (n + 1)) in
        let again = entered P (n + 1) (inside t false (n + 1) x) part.0 (at_left P (inside t false (n + 1) x) _ h.1) in
        let safe = loop_safe w (leave n) (enter (n + 1)) j out again in
        if_stays n (n + 1) b _ (leaving v b s) (inside t false (n + 1) x) (statement_ways t v b s) _ _ (otherwise (enter (n + 1)) (jump v s)) (λ q. q) (left v b s) (λ l. again) part.1
        (λ k r. statement_stays t v b s safe k r) h (λ k. out) (λ k. statement_begins t v b s k) (on (jump v s) (enter (n + 1)) (jump_there v s safe) again)
    statement_stays t w n (do_statement s x) j h out =
        let b = n + 1 in let a = behind_statement b s in let v = in_loop w (leave n) (enter a) in
        let X = inside t false a x in let S = statement_ways t v b s in let part = inside_stays P t false a x in
        let k = at_left P S _ h.1 in let m = at_right P S _ h.1 in let l = at_left P X _ m.1 in let r = at_right P X _ m.1 in
        let again = entered P a X part.0 l in let safe = loop_safe w (leave n) (enter a) j out again in let begin = statement_begins t v b s k in (
          (begin, tt),
          stays_append P S _ (statement_stays t v b s safe k (left v b s m.0)) (
            (on (jump v s) (enter a) (jump_there v s safe) again, tt),
            stays_append P X _ (part.1 l r.0) ((out, (begin, tt)), tt),
          ),
        )
    statement_stays t w n (for_statement start x y s) j h out =
        let a = behind_start (n + 1) start in let c = behind_optional a x in let b = behind_optional c y in
        let test = to_optional a x (enter b) in let again = to_optional c y test in let v = in_loop w (leave n) again in
        let A = start_ways t (enter n) (n + 1) start test in
        let X = condition_ways t n a b x in let Y = step_ways t c y test in let S = statement_ways t v b s in
        let ha = at_left P A _ h in let h1 = at_right P A _ h in let hx = at_left P X _ h1 in let h2 = at_right P X _ h1 in
        let hy = at_left P Y _ h2 in let h3 = at_right P Y _ h2 in let hs = at_left P S _ h3 in let h4 = at_right P S _ h3 in
        let body = statement_begins t v b s hs in
        let tested = condition_there t n a b x hx body in
        let stepped = step_there t c y test hy tested in
        let safe = loop_safe w (leave n) again j out stepped in
        stays_append P A _ (start_stays t (enter n) (n + 1) start test ha tested) (stays_append P X _ (condition_stays t n a b x hx out body)
        (stays_append P Y _ (step_stays t c y test hy tested) (stays_append P S _ (statement_stays t v b s safe hs (left v b s h4.0)) ((on (jump v s) again (jump_there v s safe) stepped, tt), tt))))
    statement_stays t w n (switch_statement x s) j h out =
        let a = n + 1 in let b = behind_expression a x in let v = in_switch w (leave n) in
        let X = inside t false a x in let S = statement_ways t v b s in let part = inside_stays P t false a x in
        let l = at_left P X _ h.1 in let m = at_right P X _ h.1 in let k = at_left P S _ m in let r = at_right P S _ m in (
          (entered P a X part.0 l, tt),
          stays_append P X _ (part.1 l r.1.0) (stays_append P S _ (statement_stays t v b s (switch_safe w (leave n) j out) k r.0)
              ((out, tt), (switch_stays t v n a b s k out, tt))),
        )
    statement_stays t w n (case_label x) j h out = ((out, tt), tt)
    statement_stays t w n default_label j h out = ((out, tt), tt)
    statement_stays t w n (named_label m) j h out = ((out, tt), tt)
    statement_stays t w n break_statement j h out = ((out, tt), tt)
    statement_stays t w n continue_statement j h out = ((out, tt), tt)
    statement_stays t w n (return_statement None) j h out = ((out, tt), tt)
    statement_stays t w n (return_statement (Some x)) j h out = last_stays P (plain (enter n)) n _ _ _ (inside_stays P t false (n + 1) x) (λ q. q) h out
    statement_stays t w n (goto_statement m) j h out = ((out, tt), tt)

    pub in_order_stays : (t : Typing) (w : Around) (s : Source) (o : Option Pos) (q : Pos) (n : ℕ) (ss : Statements) → Safe w → JumpAt o → At P (in_order t w s o q n ss) → P q → Stays P (in_order t w s o q n ss)
    in_order_stays t w s o q n no_statements j k h out = ((on o q k out, tt), tt)
    in_order_stays t w s o q n (statements r ss) j k h out =
        let S = statement_ways t w n r in let rest = in_order t w (leaving w n r) (jump w r) q (behind_statement n r) ss in
        let l = at_left P S rest h.1 in let m = at_right P S rest h.1 in (
          (on o (enter n) k (statement_begins t w n r l), tt),
          stays_append P S rest (statement_stays t w n r j l (left w n r (in_order_begins t w (leaving w n r) (jump w r) q (behind_statement n r) ss m)))
              (in_order_stays t w (leaving w n r) (jump w r) q (behind_statement n r) ss j (jump_there w r j) m out),
        )
