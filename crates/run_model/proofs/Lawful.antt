-- A program of the examples meets what is asked of one.
use Rattle.std.proofs.Common.{◌≡◌, ℕ, zero, suc, ◌<◌, List, [], ◌∷◌, refl, subst, arith, Bool, true, false, cond, nat_eq}
use Rattle.std.specs.Prelude.{◌&&◌}
use Rattle.std.specs.List.{AllByRecursion}
use Rattle.std.proofs.lemmas.Bool.{eqb-true}
use Rattle.base_core.specs.declared.id.Pos.{Pos}
use Rattle.posix_table.specs.declared.kind.ResultKind.TheVariants as result
use Rattle.c_arithmetic.specs.declared.types.IntType.{IntType}
use Rattle.c_arithmetic.specs.Types.{int, long}
use Rattle.run_model.specs.Kinds.{Kind, Void, Number, FnPointer}
use Rattle.run_model.specs.Code.{Code, Operation, Constant, FunctionName, Action, Pass, Take, Into, Out, Close, Callee, Named, CallOf, NoCall, User, Library, LibraryCall, function}
use Rattle.run_model.specs.Forks.{copies_process}
use Rattle.run_model.specs.Owed.{HasType, ResultType}
use Rattle.run_model.specs.Outlines.{Way, Said, said, program, about, done_between, same_pos}
use Rattle.run_model.specs.Examples.{sigint, rand, signal, one_handler, ExampleIsCode}

-- what holds of each thing that is said, and of what stands where nothing is said
about_if : {A : Type 0} (P : ℕ → A → Type 0) (m n : ℕ) (a b : A) (c : Bool) → nat_eq m n ≡ c → P m a → P n b → P n (cond c a b)
about_if P m n a b true e h g = subst (λ (k : ℕ). P k a) (eqb-true m n e) h
about_if P m n a b false e h g = g

about_holds : {A : Type 0} (P : ℕ → A → Type 0) (a : A) → ((n : ℕ) → P n a) → (ss : List (Said A)) → AllByRecursion (λ (s : Said A). P s.node s.what) ss → (n : ℕ) → P n (about a ss n)
about_holds P a d [] h n = d n
about_holds P a d (s ∷ ss) h n = about_if P s.node n s.what (about a ss n) (nat_eq s.node n) refl h.0 (about_holds P a d ss h.1 n)

done_if : (P : Action → Type 0) (a b : Action) (c : Bool) → P a → P b → P (cond c a b)
done_if P a b true h g = h
done_if P a b false h g = g

done_holds : (P : Action → Type 0) → P Pass → (ws : List Way) → AllByRecursion (λ (w : Way). P w.does) ws → (p q : Pos) → P (done_between ws p q)
done_holds P d [] h p q = d
done_holds P d (w ∷ ws) h p q = done_if P w.does (done_between ws p q) (same_pos w.from p && same_pos w.to q) h.0 (done_holds P d ws h.1 p q)

-- ---- parts of what is equal

same_call : (c d : LibraryCall) → Library c ≡ Library d → c ≡ d
same_call c d e = cc

same_node : (m n : ℕ) (o p : Operation) → Take m o ≡ Take n p → m ≡ n
same_node m n o p e = cc

same_operation : (m n : ℕ) (o p : Operation) → Take m o ≡ Take n p → o ≡ p
same_operation m n o p e = cc

same_number : (s t : IntType) → Number s ≡ Number t → s ≡ t
same_number s t e = cc

-- ---- the example

abbrev example : Code
example = program (one_handler sigint rand)

TakesWell : Action → Type 0
TakesWell a = (n : ℕ) (op : Operation) → a ≡ Take n op → HasType example n op

taken : (m : ℕ) (o : Operation) → HasType example m o → TakesWell (Take m o)
unfolding TakesWell
taken m o h n op e = subst (λ (k : ℕ). HasType example k op) (same_node m n o op e) (subst (HasType example m) (same_operation m n o op e) h)

passed : TakesWell Pass
unfolding TakesWell
passed n op e = absurd cc

entered : (c : ℕ) → TakesWell (Into c)
unfolding TakesWell
entered c n op e = absurd cc

left : (c : ℕ) → TakesWell (Out c)
unfolding TakesWell
left c n op e = absurd cc

closed : (f : ℕ) → TakesWell (Close f)
unfolding TakesWell
closed f n op e = absurd cc

IsWide : ℕ → Kind → Type 0
IsWide n k = (t : IntType) → k ≡ Number t → 0 < t.width

wide : (n : ℕ) (s : IntType) → 0 < s.width → IsWide n (Number s)
unfolding IsWide
wide n s h t e = subst (λ (u : IntType). 0 < u.width) (same_number s t e) h

void_wide : (n : ℕ) → IsWide n Void
unfolding IsWide
void_wide n t e = absurd cc

pointer_wide : (n : ℕ) → IsWide n FnPointer
unfolding IsWide
pointer_wide n t e = absurd cc

GivesWell : ℕ → CallOf → Type 0
GivesWell n c = (call : LibraryCall) → c ≡ Library call → (example.kind n ≡ ResultType call.row.result) × (copies_process call.row.effect ≡ true → call.row.result ≡ result.Int)

no_call : (n : ℕ) → GivesWell n NoCall
unfolding GivesWell
no_call n call e = absurd cc

gives : (n : ℕ) (c : LibraryCall) → example.kind n ≡ ResultType c.row.result → (copies_process c.row.effect ≡ true → c.row.result ≡ result.Int) → GivesWell n (Library c)
unfolding GivesWell
gives n c h g call e = subst (λ (d : LibraryCall). (example.kind n ≡ ResultType d.row.result) × (copies_process d.row.effect ≡ true → d.row.result ≡ result.Int)) (same_call c call e) (h, g)

-- no user function is called
IsNoUser : ℕ → CallOf → Type 0
IsNoUser n c = (callee : Callee) (args : List ℕ) → c ≡ User callee args → ⊥

not_none : (n : ℕ) → IsNoUser n NoCall
unfolding IsNoUser
not_none n callee args e = absurd cc

not_library : (n : ℕ) (c : LibraryCall) → IsNoUser n (Library c)
unfolding IsNoUser
not_library n c callee args e = absurd cc

takes_well : (p q : Pos) → TakesWell (example.action p q)
takes_well = done_holds TakesWell passed (one_handler sigint rand).ways
    (taken 2 (Constant sigint) refl, (taken 3 (FunctionName 1) tt, (entered 4, (left 4, (closed 0, (passed, (entered 11, (left 11, (closed 1, tt)))))))))

gives_well : (n : ℕ) → GivesWell n (example.call n)
gives_well = about_holds GivesWell NoCall no_call (one_handler sigint rand).calls (gives 4 (signal 2 3) refl (λ e. absurd cc), (gives 11 rand refl (λ e. refl), tt))

no_user : (n : ℕ) → IsNoUser n (example.call n)
no_user = about_holds IsNoUser NoCall not_none (one_handler sigint rand).calls (not_library 4 (signal 2 3), (not_library 11 rand, tt))

is_wide : (n : ℕ) → IsWide n (example.kind n)
is_wide = about_holds IsWide (Number int) (λ n. wide n int (omega arith)) (said 0 Void ∷ (one_handler sigint rand).kinds) (void_wide 0, (pointer_wide 4, (void_wide 10, (wide 11 long (omega arith), tt))))

function_kinds : (f : ℕ) → example.kind (function example f).node ≡ (function example f).result
function_kinds zero = refl
function_kinds (suc zero) = refl
function_kinds (suc (suc f)) = refl

pub example_is_code : ExampleIsCode
unfolding TakesWell IsWide GivesWell IsNoUser
example_is_code = record {
  main = refl;
  enters = λ f e. refl;
  edges = λ f p e h c. refl;
  calls = λ f n callee args e h. refl;
  copies = λ f n call e c h. refl;
  named = λ n f args e. absurd (no_user n (Named f) args e);
  widths = λ n t e. is_wide n t e;
  takes = λ p q n op e. takes_well p q n op e;
  results = λ n call e. (gives_well n call e).0;
  ids = λ n call e c. (gives_well n call e).1 c;
  functions = function_kinds;
  main_result = refl;
  variables = λ v e. absurd cc;
  statics = tt;
}
