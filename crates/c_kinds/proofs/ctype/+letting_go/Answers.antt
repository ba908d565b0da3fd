use Rattle.std.proofs.Common.{arith, ◌≡◌, ◌<◌, ◌≤◌, All, Bool, true, false, if◌then◌else◌, is_ok, List, ◌++◌, Some, ap, sym, subst}
use Rattle.std.proofs.lemmas.List.Elements.{All-append, All-pop}
use Rattle.c_kinds.specs.Weight.{weight}
use Rattle.c_kinds.specs.declared.ctype.CType.{size-CType}
use Rattle.c_kinds.specs.declared.ctype.Types.{size-Types}
use Rattle.c_kinds.proofs.Sizes.{parts_smaller, parts_weigh, all_smaller}
use Rattle.c_kinds.proofs.ctype.+letting_go.Goals as goal

-- what holds of each of two lists, holds where one may have been appended to the other
appended : {X : Type 0} (P : X → Type 0) (b : Bool) (xs ys zs : List X) → zs ≡ (if b then xs ++ ys else xs) → All P xs → All P ys → All P zs
appended P true xs ys zs is hx hy = subst (λ l. All P l) (sym is) (All-append P xs ys hx hy)
appended P false xs ys zs is hx hy = subst (λ l. All P l) (sym is) hx

pub CType::let_go-loop-self-preserved-in-FnPtr-1 : goal.CType::let_go-loop-self-preserved-in-FnPtr-1
CType::let_go-loop-self-preserved-in-FnPtr-1 t c =
    let smaller = parts_smaller c.loop-self.self c.in-FnPtr.takes c.in-FnPtr.to c.in-FnPtr.is in
    let weighs = parts_weigh c.loop-self.self c.in-FnPtr.takes c.in-FnPtr.to c.in-FnPtr.is in
    record {
      smaller = omega (arith, smaller.1, ap size-CType c.in-Some.ensures);
      lighter = omega (arith, weighs, ap weight c.in-Some.ensures);
      lower = λ d deep olds.
          let low : size-Types c.in-FnPtr.takes ≤ d = omega (arith, smaller.0) in
          c.let_go.ensures.lower d low (c.loop-self.invariant.lower d deep olds);
    }

pub Types::drop-loop-one-preserved : goal.Types::drop-loop-one-preserved
Types::drop-loop-one-preserved t c =
    let both = All-pop (λ x. size-CType x < size-Types c.args.self) c.loop-one.left.items c.pop.new.self.items (Some c.in-Some-pop.one) c.in-Some-pop.ensures.items c.loop-one.invariant in
    let low : size-CType c.in-Some-pop.one ≤ size-Types c.args.self = omega (arith, both.1) in
    c.let_go.ensures.lower (size-Types c.args.self) low both.0

pub Types::let_go-returns-in-Some-clause-lower : goal.Types::let_go-returns-in-Some-clause-lower
Types::let_go-returns-in-Some-clause-lower t c = λ d deep olds.
    let news : All (λ x. size-CType x < size-Types c.args.self) c.in-Some.all.items =
    subst (λ v. All (λ x. size-CType x < size-Types c.args.self) v.items) (sym c.in-Some.ensures) (all_smaller c.args.self) in
    appended (λ x. size-CType x < d) (is_ok c.append-dropped.result) c.args.left.now.items c.in-Some.all.items c.append-dropped.new.self.items c.append-dropped.ensures.items
    olds (λ k e h. omega (arith, news k e h))
