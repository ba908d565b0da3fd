-- Each edge leads to a position of the same function: to one that has a row there.
use Rattle.std.proofs.Common.{◌≡◌, ℕ, ◌+◌, List, [], ◌∷◌, ◌++◌, Bool, true, false, refl, subst}
use Rattle.base_core.specs.declared.id.Pos.{Pos}
use Rattle.c_tree.specs.declared.tree.BinaryOp.{BinaryOp}
use Rattle.c_tree.specs.declared.tree.BinaryOp.TheVariants.{And, Or}
use Rattle.c_tree.specs.Tree.{Expression, comma, assign, choose, binary, cast, unary, before, size_of, size_of_type, index, call, dot, arrow, after, name, integer, character, text, paren, Expressions, no_expressions, expressions}
use Rattle.c_tree.specs.Behind.{behind_expression, behind_type}
use Rattle.flow_form.specs.declared.edge.Edge.{Edge}
use Rattle.flow_form.specs.declared.edge.Source.{Source}
use Rattle.flow_form.specs.declared.meaning.Call.{Call}
use Rattle.flow_form.specs.declared.meaning.Call.TheVariants.{Value, Returns, Never, Copies, Waits}
use Rattle.flow_form.specs.Typing.{Typing}
use Rattle.flow_form.specs.Positions.{Ways, enter, in0, leave, plain}
use Rattle.flow_form.specs.Control.{inside, arguments, called, callee_ways, behind_callee, between, first, last, operator, chosen, used_unless, kept_value, takes_place}

-- what holds of all positions that have a row
abbrev pub At : (Pos → Type 0) → List Ways → Type 0
At P [] = Unit {0}
At P (r ∷ rs) = P r.source.at × At P rs

-- what holds of the targets of all edges
abbrev pub Targets : (Pos → Type 0) → List Edge → Type 0
Targets P [] = Unit {0}
Targets P (e ∷ es) = P e.to × Targets P es

abbrev pub Stays : (Pos → Type 0) → List Ways → Type 0
Stays P [] = Unit {0}
Stays P (r ∷ rs) = Targets P r.next × Stays P rs

-- the first row is that of n's Enter
abbrev pub Begins : ℕ → List Ways → Type 0
Begins n [] = ⊥
Begins n (r ∷ rs) = r.source.at ≡ enter n

module _ (P : Pos → Type 0) where
  pub at_left : (xs ys : List Ways) → At P (xs ++ ys) → At P xs
  at_left [] ys h = tt
  at_left (x ∷ xs) ys h = (h.0, at_left xs ys h.1)

  pub at_right : (xs ys : List Ways) → At P (xs ++ ys) → At P ys
  at_right [] ys h = h
  at_right (x ∷ xs) ys h = at_right xs ys h.1

  pub stays_append : (xs ys : List Ways) → Stays P xs → Stays P ys → Stays P (xs ++ ys)
  stays_append [] ys h k = k
  stays_append (x ∷ xs) ys h k = (h.0, stays_append xs ys h.1 k)

  pub entered : (n : ℕ) (xs : List Ways) → Begins n xs → At P xs → P (enter n)
  entered n [] b h = absurd b
  entered n (x ∷ xs) b h = subst P b h.0

  -- X stays among the positions that P holds of, if P holds of its own and of a's Leave
  abbrev pub Part : ℕ → List Ways → Type 0
  Part a X = Begins a X × (At P X → P (leave a) → Stays P X)

  -- r is the Leave of a
  pub last_stays : (s : Source) (n a : ℕ) (r : Source) (X : List Ways) → Part a X → (P r.at → P (leave a)) → At P (last s n a r X) → P (leave n) → Stays P (last s n a r X)
  last_stays s n a r X x f h out =
      let l = at_left X _ h.1 in let q = at_right X _ h.1 in
      ((entered a X x.0 l, tt), stays_append X _ (x.1 l (f q.0)) ((out, tt), tt))

  pub two_stays : (n a b : ℕ) (s r : Source) (X Y : List Ways) → Part a X → Part b Y → (P s.at → P (leave a)) → (P r.at → P (leave b)) →
      At P (first n a X (last s n b r Y)) → P (leave n) → Stays P (first n a X (last s n b r Y))
  two_stays n a b s r X Y x y f g h out =
      let l = at_left X _ h.1 in let m = at_right X _ h.1 in
      ((entered a X x.0 l, tt), stays_append X _ (x.1 l (f m.0)) (last_stays s n b r Y y g m out))

  between_stays : (o : BinaryOp) (n a b : ℕ) (r : Bool) → P (leave n) → P (enter b) → Targets P (between o n a b r).next
  between_stays And n a b r out to = (out, (to, tt))
  between_stays Or n a b r out to = (out, (to, tt))
  between_stays _ n a b r out to = (to, tt)

  between_at : (o : BinaryOp) (n a b : ℕ) (r : Bool) → (between o n a b r).source.at ≡ leave a
  between_at And n a b r = refl
  between_at Or n a b r = refl
  between_at _ n a b r = refl

  pub operator_stays : (o : BinaryOp) (n a b : ℕ) (i : Bool) (r : Source) (X Y : List Ways) → Part a X → Part b Y → (P r.at → P (leave b)) →
      At P (operator (between o n a b i) n a r X Y) → P (leave n) → Stays P (operator (between o n a b i) n a r X Y)
  operator_stays o n a b i r X Y x y g h out =
      let l = at_left X _ h.1 in let m = at_right X _ h.1 in let k = at_left Y _ m.1 in let q = at_right Y _ m.1 in
      ((entered a X x.0 l, tt), stays_append X _ (x.1 l (subst P (between_at o n a b i) m.0)) (between_stays o n a b i out (entered b Y y.0 k), stays_append Y _ (y.1 k (g q.0)) ((out, tt), tt)))

  pub chosen_stays : (n a b c : ℕ) (r s u : Source) (X Y Z : List Ways) → Part a X → Part b Y → Part c Z → (P r.at → P (leave a)) → (P s.at → P (leave b)) → (P u.at → P (leave c)) →
      At P (chosen n a b c r s u X Y Z) → P (leave n) → Stays P (chosen n a b c r s u X Y Z)
  chosen_stays n a b c r s u X Y Z x y z f g e h out =
      let l = at_left X _ h.1 in let m = at_right X _ h.1 in let k = at_left Y _ m in let q = at_right Y _ m in
      let i = at_left Z _ q.1.1 in let v = at_right Z _ q.1.1 in (
        (entered a X x.0 l, tt),
        stays_append X _ (x.1 l (f q.1.0)) (stays_append Y _ (y.1 k (g q.0)) (
          (out, tt),
          ((entered b Y y.0 k, (entered c Z z.0 i, tt)), stays_append Z _ (z.1 i (e v.0)) ((out, tt), tt)),
        )),
      )

  called_stays : (c : Call) (n : ℕ) → At P (called c n) → P (leave n) → Stays P (called c n)
  called_stays Value n h out = ((out, tt), tt)
  called_stays Returns n h out = ((out, tt), tt)
  called_stays Never n h out = (tt, tt)
  called_stays Copies n h out = ((h.1.0, tt), ((out, tt), tt))
  called_stays Waits n h out = ((out, tt), tt)

  called_first : (c : Call) (n : ℕ) → At P (called c n) → P (in0 n)
  called_first Value n h = h.0
  called_first Returns n h = h.0
  called_first Never n h = h.0
  called_first Copies n h = h.0
  called_first Waits n h = h.0

  -- a call by the plain name of a function
  plain_call_stays : (c : Call) (n : ℕ) (A : List Ways) → (At P A → P (in0 n) → Stays P A) → At P (A ++ called c n) → P (leave n) → Stays P (A ++ called c n)
  plain_call_stays c n A stays h out =
      let k = at_left A _ h in let r = at_right A _ h in
      stays_append A _ (stays k (called_first c n r)) (called_stays c n r out)

  call_stays : (c : Call) (n a : ℕ) (s : Source) (F : List Ways) (A : Source → List Ways) → Part a F → (P s.at → P (leave a)) → ((p : Source) → At P (A p) → P p.at) → ((p : Source) → At P (A p) → P (in0 n) → Stays P (A p)) →
      At P (callee_ways c n a F ++ (A (behind_callee c n s) ++ called c n)) → P (leave n) → Stays P (callee_ways c n a F ++ (A (behind_callee c n s) ++ called c n))
  call_stays Value n a s F A f g begins stays h out =
      let l = at_left F _ h.1 in let m = at_right F _ h.1 in let k = at_left (A s) _ m in
      ((entered a F f.0 l, tt), stays_append F _ (f.1 l (g (begins s k))) (plain_call_stays Value n (A s) (stays s) m out))
  call_stays Returns n a s F A f g begins stays h out = plain_call_stays Returns n (A (plain (enter n))) (stays (plain (enter n))) h out
  call_stays Never n a s F A f g begins stays h out = plain_call_stays Never n (A (plain (enter n))) (stays (plain (enter n))) h out
  call_stays Copies n a s F A f g begins stays h out = plain_call_stays Copies n (A (plain (enter n))) (stays (plain (enter n))) h out
  call_stays Waits n a s F A f g begins stays h out = plain_call_stays Waits n (A (plain (enter n))) (stays (plain (enter n))) h out

  arguments_begin : (t : Typing) (s : Source) (c n : ℕ) (xs : Expressions) → At P (arguments t s c n xs) → P s.at
  arguments_begin t s c n no_expressions h = h.0
  arguments_begin t s c n (expressions x xs) h = h.0

  call_begins : (c : Call) (t : Typing) (s : Source) (n a k : ℕ) (F Z : List Ways) (xs : Expressions) → Begins n (callee_ways c n a F ++ (arguments t (behind_callee c n s) n k xs ++ Z))
  call_begins Value t s n a k F Z xs = refl
  call_begins Returns t s n a k F Z no_expressions = refl
  call_begins Returns t s n a k F Z (expressions x xs) = refl
  call_begins Never t s n a k F Z no_expressions = refl
  call_begins Never t s n a k F Z (expressions x xs) = refl
  call_begins Copies t s n a k F Z no_expressions = refl
  call_begins Copies t s n a k F Z (expressions x xs) = refl
  call_begins Waits t s n a k F Z no_expressions = refl
  call_begins Waits t s n a k F Z (expressions x xs) = refl

  cast_at : (b : Bool) (n a c : ℕ) (r : Bool) → P (used_unless b n a c r).at → P (leave a)
  cast_at true n a c r h = h
  cast_at false n a c r h = h

  mutual
    pub inside_stays : (t : Typing) (p : Bool) (n : ℕ) (x : Expression) → Part n (inside t p n x)
    inside_stays t p n (comma x y) = (refl, two_stays n _ _ _ _ _ _ (inside_stays t false (n + 1) x) (inside_stays t false (behind_expression (n + 1) x) y) (λ q. q) (λ q. q))
    inside_stays t p n (assign o x y) = (refl, two_stays n _ _ _ _ _ _ (inside_stays t true (n + 1) x) (inside_stays t false (behind_expression (n + 1) x) y) (λ q. q) (λ q. q))
    inside_stays t p n (choose x y z) = (refl, chosen_stays n _ _ _ _ _ _ _ _ _ (inside_stays t false (n + 1) x) (inside_stays t false (behind_expression (n + 1) x) y) (inside_stays t false (behind_expression (behind_expression (n + 1) x) y) z) (λ q. q) (λ q. q) (λ q. q))
    inside_stays t p n (binary o x y) = (refl, operator_stays o n _ _ _ _ _ _ (inside_stays t false (n + 1) x) (inside_stays t false (behind_expression (n + 1) x) y) (λ q. q))
    inside_stays t p n (cast c x) = (refl, last_stays (plain (enter n)) n _ _ _ (inside_stays t false (behind_type (n + 1) c) x) (cast_at (t.is_void n) n (behind_type (n + 1) c) _ _))
    inside_stays t p n (unary o x) = (refl, last_stays (plain (enter n)) n _ _ _ (inside_stays t (takes_place o) (n + 1) x) (λ q. q))
    inside_stays t p n (before o x) = (refl, last_stays (plain (enter n)) n _ _ _ (inside_stays t true (n + 1) x) (λ q. q))
    inside_stays t p n (size_of x) = (refl, λ h out. ((out, tt), tt))
    inside_stays t p n (size_of_type c) = (refl, λ h out. ((out, tt), tt))
    inside_stays t p n (index x y) = (refl, two_stays n _ _ _ _ _ _ (inside_stays t false (n + 1) x) (inside_stays t false (behind_expression (n + 1) x) y) (λ q. q) (λ q. q))
    inside_stays t p n (call f xs) = (
      call_begins (t.call (n + 1)) t (kept_value t n (n + 1) f) n (n + 1) _ _ _ xs,
      call_stays (t.call (n + 1)) n (n + 1) (kept_value t n (n + 1) f) (inside t false (n + 1) f) (λ s. arguments t s n (behind_expression (n + 1) f) xs) (inside_stays t false (n + 1) f) (λ q. q)
          (λ s h. arguments_begin t s n (behind_expression (n + 1) f) xs h) (λ s h out. arguments_stay t s n (behind_expression (n + 1) f) xs h out),
    )
    inside_stays t p n (dot x m) = (refl, last_stays (plain (enter n)) n _ _ _ (inside_stays t true (n + 1) x) (λ q. q))
    inside_stays t p n (arrow x m) = (refl, last_stays (plain (enter n)) n _ _ _ (inside_stays t false (n + 1) x) (λ q. q))
    inside_stays t p n (after o x) = (refl, last_stays (plain (enter n)) n _ _ _ (inside_stays t true (n + 1) x) (λ q. q))
    inside_stays t p n (name m) = (refl, λ h out. ((out, tt), tt))
    inside_stays t p n (integer m) = (refl, λ h out. ((out, tt), tt))
    inside_stays t p n (character m) = (refl, λ h out. ((out, tt), tt))
    inside_stays t p n (text ms) = (refl, λ h out. ((out, tt), tt))
    inside_stays t p n (paren x) = (refl, last_stays (plain (enter n)) n _ _ _ (inside_stays t p (n + 1) x) (λ q. q))

    pub arguments_stay : (t : Typing) (s : Source) (c n : ℕ) (xs : Expressions) → At P (arguments t s c n xs) → P (in0 c) → Stays P (arguments t s c n xs)
    arguments_stay t s c n no_expressions h out = ((out, tt), tt)
    arguments_stay t s c n (expressions x xs) h out =
        let rest = arguments t (kept_value t c n x) c (behind_expression n x) xs in
        let part = inside_stays t false n x in
        let l = at_left (inside t false n x) rest h.1 in let r = at_right (inside t false n x) rest h.1 in
        ((entered n (inside t false n x) part.0 l, tt), stays_append (inside t false n x) rest (part.1 l (arguments_begin t (kept_value t c n x) c (behind_expression n x) xs r)) (arguments_stay t (kept_value t c n x) c (behind_expression n x) xs r out))
