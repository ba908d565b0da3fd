use Rattle.std.proofs.Common.{◌≡◌, ◌∷◌, ◌-◌, Some, length, take, vec_len, slice_get, map, reverse, refl, ap, sym, subst, arith, ◌∙◌}
use Rattle.c_scopes.specs.Kept.{IsKept}
use Rattle.c_scopes.proofs.Keeps.{undoes, stands, at_end, reverse-push}
use Rattle.c_scopes.proofs.scope.Scope.undo.Goals as goal

pub stand_again-requires : goal.stand_again-requires
stand_again-requires c =
    let items = c.self.inside.inner.items in
    let front = take (length items - 1) items in
    let is : Some c.in-Some.latest.now ≡ slice_get items (length items - 1) = c.in-Some.ensures.value ∙ ap (λ xs. slice_get xs (length xs - 1)) c.deref.ensures.value in
    stands c.self.inside.known c.in-Some.latest.now (reverse front) (map (λ v. reverse v.items) (reverse c.self.inside.outer.items))
    (subst (λ b. IsKept c.self.inside.known (b ∷ map (λ v. reverse v.items) (reverse c.self.inside.outer.items)))
    (ap reverse (at_end items front (length items) c.in-Some.latest.now refl is refl) ∙ reverse-push front c.in-Some.latest.now) c.self.invariant)

pub invariant_of-self : goal.invariant_of-self
invariant_of-self c =
    let n = vec_len c.self.inside.inner in
    let long : n ≡ length c.self.inside.inner.items = omega (arith, c.deref.ensures.len, ap length c.deref.ensures.value) in
    let is : Some c.in-Some.latest.now ≡ slice_get c.self.inside.inner.items (n - 1) =
    c.in-Some.ensures.value ∙ ap (λ xs. slice_get xs (length xs - 1)) c.deref.ensures.value ∙ ap (λ k. slice_get c.self.inside.inner.items (k - 1)) (sym long) in
    let rest_is = at_end c.self.inside.inner.items c.pop.new.self.items n c.in-Some.latest.now long is c.pop.ensures.rest in
    undoes c.self.inside.known c.stand_again.new.known c.in-Some.latest.now (reverse c.pop.new.self.items) (map (λ v. reverse v.items) (reverse c.self.inside.outer.items))
    c.stand_again.ensures
    (subst (λ b. IsKept c.self.inside.known (b ∷ map (λ v. reverse v.items) (reverse c.self.inside.outer.items))) (ap reverse rest_is ∙ reverse-push c.pop.new.self.items c.in-Some.latest.now) c.self.invariant)
