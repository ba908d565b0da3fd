-- From one point of a walk to another: how many tokens are between, which nodes begin between, and where.
use Rattle.std.proofs.Common.{◌≡◌, ℕ, ◌+◌, ◌-◌, ◌≤◌, ◌<◌, List, [], ◌∷◌, ◌++◌, length, Bool, false, true, refl, ap, ◌∙◌, sym, subst, append_assoc, append-nil, arith, length-append}
use Rattle.std.specs.Prelude.{All, count_by, cond}
use Rattle.std.proofs.lemmas.List.Elements.{All-nil, All-cons, All-append, All-weaker}
use Rattle.std.proofs.lemmas.List.Sums.{sum_by-cons, sum_by-append}
use Rattle.c_tree.specs.Nodes.{Node, is_function, function_node}
use Rattle.c_tree.specs.Tree.{FunctionTree}
use Rattle.node_places.specs.Walked.{Walked, skip, begin, close}

-- from w to v there are n tokens, the nodes ns begin there, and none is a function; where w is at token k, they stand at f k
pub record Goes (w v : Walked) (n : ℕ) (f : ℕ → List ℕ) (ns : List Node) : Type 0 where
  pub at : v.at ≡ w.at + n
  pub starts : v.starts ≡ w.starts ++ f w.at
  pub closes : v.closes ≡ w.closes
  pub below : All (λ j. j ≤ w.at + n) (f w.at)
  pub each : length (f w.at) ≡ length ns
  pub plain : count_by is_function ns ≡ 0

abbrev pub none : ℕ → List ℕ
none k = []

raised : (a b : ℕ) (xs : List ℕ) → a ≤ b → All (λ j. j ≤ a) xs → All (λ j. j ≤ b) xs
raised a b xs h all = All-weaker (λ j. j ≤ a) (λ j. j ≤ b) (λ j q. omega (arith, h, q)) xs all

under : (a b : ℕ) (xs : List ℕ) → a < b → All (λ j. j ≤ a) xs → All (λ j. j < b) xs
under a b xs h all = All-weaker (λ j. j ≤ a) (λ j. j < b) (λ j q. omega (arith, h, q)) xs all

pub lifted : (a b : ℕ) (xs : List ℕ) → a ≤ b → All (λ j. j < a) xs → All (λ j. j < b) xs
lifted a b xs h all = All-weaker (λ j. j < a) (λ j. j < b) (λ j q. omega (arith, h, q)) xs all

pub functions_cons : (x : Node) (ns : List Node) (b : Bool) → is_function x ≡ b → count_by is_function (x ∷ ns) ≡ cond b 1 0 + count_by is_function ns
functions_cons x ns b e = sum_by-cons (λ y. cond (is_function y) 1 0) x ns ∙ ap (λ c. cond {A = ℕ} c 1 0 + count_by is_function ns) e

pub functions_append : (ns ms : List Node) → count_by is_function (ns ++ ms) ≡ count_by is_function ns + count_by is_function ms
functions_append ns ms = sum_by-append (λ y. cond (is_function y) 1 0) ns ms

pub stay : (w : Walked) → Goes w w 0 none []
stay w = record { at = omega arith; starts = sym (append-nil w.starts); closes = refl; below = All-nil (λ j. j ≤ w.at + 0); each = refl; plain = refl }

pub skipped : (w : Walked) (n : ℕ) → Goes w (skip n w) n none []
skipped w n = record { at = refl; starts = sym (append-nil w.starts); closes = refl; below = All-nil (λ j. j ≤ w.at + n); each = refl; plain = refl }

-- a node begins first, which is no function
pub begun : {w v : Walked} {n : ℕ} {f : ℕ → List ℕ} {ns : List Node} (x : Node) → is_function x ≡ false → Goes (begin w) v n f ns → Goes w v n (λ k. k ∷ f k) (x ∷ ns)
begun {w} {v} {n} {f} {ns} x e p = record {
  at = p.at;
  starts = p.starts ∙ append_assoc w.starts (w.at ∷ []) (f w.at);
  closes = p.closes;
  below = All-cons (λ j. j ≤ w.at + n) w.at (f w.at) (omega arith) p.below;
  each = omega (arith, p.each);
  plain = omega (arith, functions_cons x ns false e, p.plain);
}

-- so many tokens come first
pub behind : {w v : Walked} {n : ℕ} {f : ℕ → List ℕ} {ns : List Node} (m : ℕ) → Goes (skip m w) v n f ns → Goes w v (m + n) (λ k. f (k + m)) ns
behind {w} {v} {n} {f} {ns} m p = record {
  at = omega (arith, p.at);
  starts = p.starts;
  closes = p.closes;
  below = raised (w.at + m + n) (w.at + (m + n)) (f (w.at + m)) (omega arith) p.below;
  each = p.each;
  plain = p.plain;
}

-- so many tokens come last
pub ahead : {w v : Walked} {n : ℕ} {f : ℕ → List ℕ} {ns : List Node} (m : ℕ) → Goes w v n f ns → Goes w (skip m v) (n + m) f ns
ahead {w} {v} {n} {f} {ns} m p = record {
  at = omega (arith, p.at);
  starts = p.starts;
  closes = p.closes;
  below = raised (w.at + n) (w.at + (n + m)) (f w.at) (omega arith) p.below;
  each = p.each;
  plain = p.plain;
}

-- one part, and then another
pub then : {w v u : Walked} {m n : ℕ} {f g : ℕ → List ℕ} {ns ms : List Node} → Goes w v m f ns → Goes v u n g ms → Goes w u (m + n) (λ k. f k ++ g (k + m)) (ns ++ ms)
then {w} {v} {u} {m} {n} {f} {g} {ns} {ms} p q =
    let low = subst (λ k. All (λ j. j ≤ k + n) (g k)) p.at q.below in
    let each = subst (λ k. length (g k) ≡ length ms) p.at q.each in
    record {
      at = omega (arith, p.at, q.at);
      starts = q.starts ∙ ap (λ k. v.starts ++ g k) p.at ∙ ap (λ ks. ks ++ g (w.at + m)) p.starts ∙ append_assoc w.starts (f w.at) (g (w.at + m));
      closes = q.closes ∙ p.closes;
      below = All-append (λ j. j ≤ w.at + (m + n)) (f w.at) (g (w.at + m)) (raised (w.at + m) (w.at + (m + n)) (f w.at) (omega arith) p.below) (raised (w.at + m + n) (w.at + (m + n)) (g (w.at + m)) (omega arith) low);
      each = omega (arith, length-append (f w.at) (g (w.at + m)), length-append ns ms, p.each, each);
      plain = omega (arith, functions_append ns ms, p.plain, q.plain);
    }

-- a part, and then tokens where no node begins
pub ended : {w v u : Walked} {m n : ℕ} {f : ℕ → List ℕ} {ns : List Node} → Goes w v m f ns → Goes v u n none [] → Goes w u (m + n) f ns
ended {w} {v} {u} {m} {n} {f} {ns} p q = record {
  at = omega (arith, p.at, q.at);
  starts = q.starts ∙ append-nil v.starts ∙ p.starts;
  closes = q.closes ∙ p.closes;
  below = raised (w.at + m) (w.at + (m + n)) (f w.at) (omega arith) p.below;
  each = p.each;
  plain = p.plain;
}

-- the same with another name for the number of tokens
pub counted : {w v : Walked} {n m : ℕ} {f : ℕ → List ℕ} {ns : List Node} → Goes w v n f ns → n ≡ m → Goes w v m f ns
counted {w} {v} {n} {m} {f} {ns} p e = subst (λ k. Goes w v k f ns) e p

-- a part whose nodes all begin before its end
pub record Inside (w v : Walked) (n : ℕ) (f : ℕ → List ℕ) (ns : List Node) : Type 0 where
  pub goes : Goes w v n f ns
  pub some : 1 ≤ n
  pub within : All (λ j. j < w.at + n) (f w.at)

-- so many tokens come last, at least one
pub inside_ahead : {w v : Walked} {n : ℕ} {f : ℕ → List ℕ} {ns : List Node} (m : ℕ) → 1 ≤ m → Goes w v n f ns → Inside w (skip m v) (n + m) f ns
inside_ahead {w} {v} {n} {f} {ns} m h p = record { goes = ahead m p; some = omega (arith, h); within = under (w.at + n) (w.at + (n + m)) (f w.at) (omega (arith, h)) p.below }

pub inside_skipped : (w : Walked) (n : ℕ) → 1 ≤ n → Inside w (skip n w) n none []
inside_skipped w n h = record { goes = skipped w n; some = h; within = All-nil (λ j. j < w.at + n) }

pub inside_begun : {w v : Walked} {n : ℕ} {f : ℕ → List ℕ} {ns : List Node} (x : Node) → is_function x ≡ false → Inside (begin w) v n f ns → Inside w v n (λ k. k ∷ f k) (x ∷ ns)
inside_begun {w} {v} {n} {f} {ns} x e p = record { goes = begun x e p.goes; some = p.some; within = All-cons (λ j. j < w.at + n) w.at (f w.at) (omega (arith, p.some)) p.within }

pub inside_behind : {w v : Walked} {n : ℕ} {f : ℕ → List ℕ} {ns : List Node} (m : ℕ) → Inside (skip m w) v n f ns → Inside w v (m + n) (λ k. f (k + m)) ns
inside_behind {w} {v} {n} {f} {ns} m p = record { goes = behind m p.goes; some = omega (arith, p.some); within = lifted (w.at + m + n) (w.at + (m + n)) (f (w.at + m)) (omega arith) p.within }

pub inside_then : {w v u : Walked} {m n : ℕ} {f g : ℕ → List ℕ} {ns ms : List Node} → Goes w v m f ns → Inside v u n g ms → Inside w u (m + n) (λ k. f k ++ g (k + m)) (ns ++ ms)
inside_then {w} {v} {u} {m} {n} {f} {g} {ns} {ms} p q =
    let low = subst (λ k. All (λ j. j < k + n) (g k)) p.at q.within in
    record {
      goes = then p q.goes;
      some = omega (arith, q.some);
      within = All-append (λ j. j < w.at + (m + n)) (f w.at) (g (w.at + m)) (under (w.at + m) (w.at + (m + n)) (f w.at) (omega (arith, q.some)) p.below) (lifted (w.at + m + n) (w.at + (m + n)) (g (w.at + m)) (omega arith) low);
    }

pub inside_counted : {w v : Walked} {n m : ℕ} {f : ℕ → List ℕ} {ns : List Node} → Inside w v n f ns → n ≡ m → Inside w v m f ns
inside_counted {w} {v} {n} {m} {f} {ns} p e = subst (λ k. Inside w v k f ns) e p

-- items: also functions begin there, and where w is at token k, their last tokens stand at g k
pub record Runs (w v : Walked) (n : ℕ) (f g : ℕ → List ℕ) (ns : List Node) : Type 0 where
  pub at : v.at ≡ w.at + n
  pub starts : v.starts ≡ w.starts ++ f w.at
  pub closes : v.closes ≡ w.closes ++ g w.at
  pub within : All (λ j. j < w.at + n) (f w.at)
  pub closed_within : All (λ j. j < w.at + n) (g w.at)
  pub each : length (f w.at) ≡ length ns
  pub functions : length (g w.at) ≡ count_by is_function ns

pub no_runs : (w : Walked) → Runs w w 0 none none []
no_runs w = record { at = omega arith; starts = sym (append-nil w.starts); closes = sym (append-nil w.closes); within = All-nil (λ j. j < w.at + 0); closed_within = All-nil (λ j. j < w.at + 0); each = refl; functions = refl }

pub runs : {w v : Walked} {n : ℕ} {f : ℕ → List ℕ} {ns : List Node} → Inside w v n f ns → Runs w v n f none ns
runs {w} {v} {n} {f} {ns} p = record {
  at = p.goes.at;
  starts = p.goes.starts;
  closes = p.goes.closes ∙ sym (append-nil w.closes);
  within = p.within;
  closed_within = All-nil (λ j. j < w.at + n);
  each = p.goes.each;
  functions = sym p.goes.plain;
}

-- a function, behind whose first token stands all of p
pub closed : {w v : Walked} {n : ℕ} {f : ℕ → List ℕ} {ns : List Node} (x : FunctionTree) → Inside (begin w) v n f ns → Runs w (close v) n (λ k. k ∷ f k) (λ k. (k + n - 1) ∷ []) (function_node x ∷ ns)
closed {w} {v} {n} {f} {ns} x p = record {
  at = p.goes.at;
  starts = p.goes.starts ∙ append_assoc w.starts (w.at ∷ []) (f w.at);
  closes = ap (λ ks. ks ++ (v.at - 1) ∷ []) p.goes.closes ∙ ap (λ k. w.closes ++ (k - 1) ∷ []) p.goes.at;
  within = All-cons (λ j. j < w.at + n) w.at (f w.at) (omega (arith, p.some)) p.within;
  closed_within = All-cons (λ j. j < w.at + n) (w.at + n - 1) [] (omega (arith, p.some)) (All-nil (λ j. j < w.at + n));
  each = omega (arith, p.goes.each);
  functions = omega (arith, functions_cons (function_node x) ns true refl, p.goes.plain);
}

pub runs_then : {w v u : Walked} {m n : ℕ} {f g h i : ℕ → List ℕ} {ns ms : List Node} → Runs w v m f g ns → Runs v u n h i ms → Runs w u (m + n) (λ k. f k ++ h (k + m)) (λ k. g k ++ i (k + m)) (ns ++ ms)
runs_then {w} {v} {u} {m} {n} {f} {g} {h} {i} {ns} {ms} p q =
    let low = subst (λ k. All (λ j. j < k + n) (h k)) p.at q.within in
    let low_closes = subst (λ k. All (λ j. j < k + n) (i k)) p.at q.closed_within in
    let each = subst (λ k. length (h k) ≡ length ms) p.at q.each in
    let functions = subst (λ k. length (i k) ≡ count_by is_function ms) p.at q.functions in
    record {
      at = omega (arith, p.at, q.at);
      starts = q.starts ∙ ap (λ k. v.starts ++ h k) p.at ∙ ap (λ ks. ks ++ h (w.at + m)) p.starts ∙ append_assoc w.starts (f w.at) (h (w.at + m));
      closes = q.closes ∙ ap (λ k. v.closes ++ i k) p.at ∙ ap (λ ks. ks ++ i (w.at + m)) p.closes ∙ append_assoc w.closes (g w.at) (i (w.at + m));
      within = All-append (λ j. j < w.at + (m + n)) (f w.at) (h (w.at + m)) (lifted (w.at + m) (w.at + (m + n)) (f w.at) (omega arith) p.within) (lifted (w.at + m + n) (w.at + (m + n)) (h (w.at + m)) (omega arith) low);
      closed_within = All-append (λ j. j < w.at + (m + n)) (g w.at) (i (w.at + m)) (lifted (w.at + m) (w.at + (m + n)) (g w.at) (omega arith) p.closed_within) (lifted (w.at + m + n) (w.at + (m + n)) (i (w.at + m)) (omega arith) low_closes);
      each = omega (arith, length-append (f w.at) (h (w.at + m)), length-append ns ms, p.each, each);
      functions = omega (arith, length-append (g w.at) (i (w.at + m)), functions_append ns ms, p.functions, functions);
    }

pub runs_counted : {w v : Walked} {n m : ℕ} {f g : ℕ → List ℕ} {ns : List Node} → Runs w v n f g ns → n ≡ m → Runs w v m f g ns
runs_counted {w} {v} {n} {m} {f} {g} {ns} p e = subst (λ k. Runs w v k f g ns) e p
