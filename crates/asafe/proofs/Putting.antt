-- Bytes that are put piece by piece.
use Rattle.std.proofs.Common.{◌≡◌, ℕ, ◌≤◌, List, [], ◌∷◌, ◌++◌, Option, Some, None, length, take, drop, refl, sym, ◌∙◌, ap, append_assoc, length-append, eq-eqb, ◌==◌, true, false, arith}
use Rattle.std.proofs.lemmas.List.{append-nil, take-append-drop}
use Rattle.base_core.specs.Count.{Rose}
use Rattle.base_core.specs.Taken.{appended}
use Rattle.asafe.specs.Printing.{PutsPart}

-- the bytes before the rest were taken, and the count of faults hasn't fallen
pub record Goes (bytes rest : List ℕ) (before now : Option (List ℕ)) (faults_before faults_now : ℕ) : Type 0 where
  pub done : List ℕ
  pub split : bytes ≡ done ++ rest
  pub taken : now ≡ appended before done
  pub later : faults_before ≤ faults_now

appended-nil : (o : Option (List ℕ)) → appended o [] ≡ o
appended-nil None = refl
appended-nil (Some xs) = ap Some (append-nil xs)

appended-append : (o : Option (List ℕ)) (xs ys : List ℕ) → appended (appended o xs) ys ≡ appended o (xs ++ ys)
appended-append None xs ys = refl
appended-append (Some zs) xs ys = ap Some (append_assoc zs xs ys)

pub goes_start : (bytes : List ℕ) (o : Option (List ℕ)) (faults : ℕ) → Goes bytes bytes o o faults faults
goes_start bytes o faults = record { done = []; split = refl; taken = sym (appended-nil o); later = omega arith }

-- one more put
pub goes_on : (bytes rest : List ℕ) (before now after : Option (List ℕ)) (f g h n : ℕ) → Goes bytes rest before now f g
    → after ≡ appended now (take n rest) → g ≤ h → Goes bytes (drop n rest) before after f h
goes_on bytes rest before now after f g h n so_far took later =
    let earlier = so_far.later in
    record {
      done = so_far.done ++ take n rest;
      split = so_far.split ∙ ap (λ l. so_far.done ++ l) (sym (take-append-drop n rest)) ∙ sym (append_assoc so_far.done (take n rest) (drop n rest));
      taken = took ∙ ap (λ o. appended o (take n rest)) so_far.taken ∙ appended-append before so_far.done (take n rest);
      later = omega arith;
    }

-- all was put
pub goes_end : (bytes rest : List ℕ) (before now : Option (List ℕ)) (f g : ℕ) → Goes bytes rest before now f g → length rest ≡ 0 → now ≡ appended before bytes
goes_end bytes [] before now f g so_far none = so_far.taken ∙ ap (appended before) (sym (so_far.split ∙ append-nil so_far.done))
goes_end bytes (x ∷ xs) before now f g so_far none = absurd (omega arith)

-- a put failed, and the sink took a part
pub goes_part : (bytes rest : List ℕ) (before now after : Option (List ℕ)) (f g : ℕ) → Goes bytes rest before now f g → (length rest ≡ 0 → ⊥) → after ≡ now → PutsPart before after bytes
goes_part bytes rest before now after f g so_far some same = record {
  front = so_far.done;
  rest = rest;
  split = so_far.split;
  proper = λ none. some (ap length none);
  taken = same ∙ so_far.taken;
}

-- a put of no byte leaves what was taken
pub took_none : (now after : Option (List ℕ)) (rest : List ℕ) → after ≡ appended now (take 0 rest) → after ≡ now
took_none now after rest took = took ∙ appended-nil now

pub rose_later : (f g h : ℕ) → f ≤ g → Rose g h → Rose f h
rose_later f g h later rose = omega arith

-- nothing is left of no bytes
pub no_rest : (bytes rest : List ℕ) (before now : Option (List ℕ)) (f g : ℕ) → Goes bytes rest before now f g → bytes ≡ [] → (length rest == 0) ≡ false → ⊥
no_rest bytes rest before now f g so_far empty some =
    let size = length-append so_far.done rest in
    let whole = ap length so_far.split in
    let none = ap length empty in
    let no_length : length rest ≡ 0 = omega arith in
    let clash : true ≡ false = sym (eq-eqb (length rest) 0 no_length) ∙ some in
    cc
