use Rattle.std.proofs.Common.{◌≡◌, ◌++◌, ◌<◌, length, map, reverse, arith, ap, sym, ◌∙◌}
use Rattle.std.proofs.lemmas.Result.{on_ok_weaker}
use Rattle.c_scopes.specs.Scope.{enter, leave, declare}
use Rattle.c_scopes.specs.Kept.{seen, with_all}
use Rattle.c_scopes.proofs.Keeps.{stands_around}
use Rattle.c_scopes.proofs.scope.Scope.declare_around.Goals as goal

pub returns : goal.returns
returns c =
    let deep : 1 < length c.args.self.now = omega (arith, c.depth.ensures, c.if-depth-eq0.false) in
    let items = c.as_slice-2.ensures.value ∙ c.in_ok-extend_from_slice.ensures.items ∙ ap (λ xs. xs ++ c.as_slice.result.now) c.new-aside.ensures.items ∙ c.as_slice.ensures.value in
    let bs = c.in_ok-enter.ensures.ok ∙ ap enter (c.in_ok-declare.ensures.ok ∙ ap (declare c.args.name.now c.args.what) c.leave.ensures) in
    on_ok_weaker c.declare_all.result
    (λ h. h ∙ ap (λ s. with_all s c.as_slice-2.result.now) bs ∙ ap (with_all (enter (declare c.args.name.now c.args.what (leave c.args.self.now)))) items
    ∙ stands_around c.args.self.now (seen (map (λ v. reverse v.items) (reverse c.self.inside.outer.items))) c.self.inside.inner.items c.args.name.now c.args.what c.self.view_is deep)
    c.declare_all.ensures
