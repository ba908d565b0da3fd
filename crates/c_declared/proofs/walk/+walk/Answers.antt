use Rattle.std.proofs.Common.{rules, subst, sym, ap, ◌∙◌, ◌≡◌, ◌&&◌, ◌∷◌, ◌++◌, ◌+◌, map, option_map, drop, [], arith}
use Rattle.std.proofs.lemmas.Result.{on_ok_weaker, IfOk-weaker}
use Rattle.std.proofs.lemmas.List.{map-append}
use Rattle.c_judgements.specs.Parts.{added}
use Rattle.c_kinds.specs.View.{view}
use Rattle.c_tree.specs.Tree as c_tree
use Rattle.c_tree.specs.View as tree
use Rattle.c_tree.specs.View.{view_expression, view_type, view_specifier, view_declarator, view_bare, view_form, view_member, view_parameter, specifiers_of, declarators_of, parameters_of}
use Rattle.c_tree.specs.declared.tree.TypeName.{out-TypeName}
use Rattle.c_tree.proofs.ViewLemmas.{view_Member, view_Parameter, view_ParamForm_Bare, view_TypeName, view_Expr_Index}
use Rattle.c_environment.specs.Behind as behind
use Rattle.c_environment.specs.Seen.{seen_type, seen_members, seen_environment}
use Rattle.c_environment.specs.Types.{specified}
use Rattle.c_environment.specs.Types as types
use Rattle.c_rules.specs.Access as access
use Rattle.c_rules.specs.Form as form
use Rattle.c_rules.specs.Seen.{seen_operand}
use Rattle.c_declared.specs.Faults as faults
use Rattle.c_declared.specs.Nodes as nodes
use Rattle.c_declared.specs.Operands as spec
use Rattle.c_declared.specs.Parts as parts
use Rattle.c_declared.specs.Sizes as sizes
use Rattle.c_declared.specs.Seen.{shown}
use Rattle.c_declared.proofs.Steps as steps
use Rattle.c_declared.proofs.Views as views
use denote.Param.Weighed.{most}
use Rattle.c_tree.proofs.tree.Expr.TheLaws.{the_size}
use Rattle.c_tree.proofs.tree.Declarator.TheLaws.{the_size as declarator_size}
use Rattle.c_tree.proofs.tree.ParamForm.TheLaws.{the_size as form_size}
use Rattle.c_tree.specs.declared.tree.Bare.TheViews.{sized-Bare}
use Rattle.c_tree.specs.declared.tree.Member.{size_is-Member}
use Rattle.c_tree.specs.declared.tree.Parameter.{size_is-Parameter}
use Rattle.c_tree.proofs.Sizes.{arguments_smaller}
use Rattle.c_declared.proofs.walk.+walk.Goals as goal

pub walk_declarator-returns-in_ok-part-in-Array-clause-settled : goal.walk_declarator-returns-in_ok-part-in-Array-clause-settled
walk_declarator-returns-in_ok-part-in-Array-clause-settled t c =
    let rows = c.args.table.now in
    let env = seen_environment c.args.env.now in
    let seen = ap view_declarator c.in-Array.is ∙ views.view_array c.in-Array.stars c.in-Array.field-1 c.in-Array.all in
    IfOk-weaker c.array_declared.result (λ w. w.settled ≡ c.in_ok-part-in-Array.part.settled) (λ w. w.settled ≡ (nodes.said_declarator rows env (view_declarator c.args.d.now)).settled)
    (λ w h. h ∙ c.in_ok-part-in-Array.ensures.settled
    ∙ ap (λ xs. (nodes.said_sizes rows env (tree.sizes_of (map (option_map view_expression) xs))).settled) c.as_slice-in-Array.ensures
    ∙ ap (λ d. (nodes.said_declarator rows env d).settled) (sym seen))
    c.array_declared.ensures.settled

pub walk_declarator-returns-in_ok-part-in-Array-clause-sizes : goal.walk_declarator-returns-in_ok-part-in-Array-clause-sizes
walk_declarator-returns-in_ok-part-in-Array-clause-sizes t c =
    let env = seen_environment c.args.env.now in
    let seen = ap view_declarator c.in-Array.is ∙ views.view_array c.in-Array.stars c.in-Array.field-1 c.in-Array.all in
    IfOk-weaker c.array_declared.result (λ w. w.are_sizes ≡ c.in_ok-part-in-Array.part.are_sizes) (λ w. w.are_sizes ≡ sizes.are_sizes env (sizes.sizes_of (view_declarator c.args.d.now)))
    (λ w h. h ∙ c.in_ok-part-in-Array.ensures.sizes
    ∙ ap (λ xs. sizes.are_sizes env (tree.sizes_of (map (option_map view_expression) xs))) c.as_slice-in-Array.ensures
    ∙ ap (λ d. sizes.are_sizes env (sizes.sizes_of d)) (sym seen))
    c.array_declared.ensures.sizes

pub walk_declarator-returns-in_ok-part-in-Array-clause-of : goal.walk_declarator-returns-in_ok-part-in-Array-clause-of
walk_declarator-returns-in_ok-part-in-Array-clause-of t c =
    let env = seen_environment c.args.env.now in
    let t = seen_type c.args.of.now in
    let seen = ap view_declarator c.in-Array.is ∙ views.view_array c.in-Array.stars c.in-Array.field-1 c.in-Array.all in
    IfOk-weaker c.array_declared.result
    (λ w. seen_type w.of ≡ types.arrayed (tree.sizes_of (map (option_map view_expression) c.as_slice-in-Array-3.result.now)) (types.pointed c.as_slice-in-Array-2.result.now t))
    (λ w. seen_type w.of ≡ behind.declared env t (view_declarator c.args.d.now))
    (λ w h. h
    ∙ ap (λ xs. types.arrayed (tree.sizes_of (map (option_map view_expression) xs)) (types.pointed c.as_slice-in-Array-2.result.now t)) c.as_slice-in-Array-3.ensures
    ∙ ap (λ ss. types.arrayed (tree.sizes_of (map (option_map view_expression) c.in-Array.all)) (types.pointed ss t)) c.as_slice-in-Array-2.ensures
    ∙ ap (λ d. behind.declared env t d) (sym seen))
    c.array_declared.ensures.of

pub walk_declarator-returns-in_ok-part-in-Array-clause-faults : goal.walk_declarator-returns-in_ok-part-in-Array-clause-faults
walk_declarator-returns-in_ok-part-in-Array-clause-faults t c =
    let env = seen_environment c.args.env.now in
    let t = seen_type c.args.of.now in
    let seen = ap view_declarator c.in-Array.is ∙ views.view_array c.in-Array.stars c.in-Array.field-1 c.in-Array.all in
    IfOk-weaker c.array_declared.result
    (λ w. w.faults ≡ faults.element_faults (types.pointed c.as_slice-in-Array-2.result.now t).is_open (tree.sizes_of (map (option_map view_expression) c.as_slice-in-Array-3.result.now)))
    (λ w. w.faults ≡ faults.faults_declarator env t (view_declarator c.args.d.now))
    (λ w h. h
    ∙ ap (λ xs. faults.element_faults (types.pointed c.as_slice-in-Array-2.result.now t).is_open (tree.sizes_of (map (option_map view_expression) xs))) c.as_slice-in-Array-3.ensures
    ∙ ap (λ ss. faults.element_faults (types.pointed ss t).is_open (tree.sizes_of (map (option_map view_expression) c.in-Array.all))) c.as_slice-in-Array-2.ensures
    ∙ ap (λ d. faults.faults_declarator env t d) (sym seen))
    c.array_declared.ensures.faults

pub walk_expression-returns-in_ok-x-in-Index-clause-operand : goal.walk_expression-returns-in_ok-x-in-Index-clause-operand
walk_expression-returns-in_ok-x-in-Index-clause-operand t c =
    let rows = c.args.table.now in
    let env = seen_environment c.args.env.now in
    let x = view_expression c.in-Index.x in
    let y = view_expression c.in-Index.y in
    let at = seen_environment c.walk_operand-in-Index.new.env in
    let seen = ap view_expression c.in-Index.is ∙ view_Expr_Index c.in-Index.x c.in-Index.y in
    let one : view_expression c.get-in-Index.result.now ≡ x = ap view_expression c.get-in-Index.ensures in
    let other : view_expression c.get-in-Index-2.result.now ≡ y = ap view_expression c.get-in-Index-2.ensures in
    let left : seen_operand c.get-in-Index-3.result.now.operand ≡ nodes.operand rows env x =
    ap (λ w. seen_operand w.operand) c.get-in-Index-3.ensures ∙ c.in_ok-x-in-Index.ensures.operand ∙ ap (λ v. nodes.operand rows env v) one in
    let behind_x : at ≡ behind.behind_expression env x = c.in_ok-x-in-Index.ensures.behind ∙ ap (λ v. behind.behind_expression env v) one in
    let right : nodes.operand rows at (view_expression c.get-in-Index-2.result.now) ≡ nodes.operand rows (behind.behind_expression env x) y =
    ap (λ v. nodes.operand rows at v) other ∙ ap (λ e. nodes.operand rows e y) behind_x in
    IfOk-weaker c.walk_index.result
    (λ w. seen_operand w.operand ≡ spec.placed (access.index (seen_operand c.get-in-Index-3.result.now.operand) (nodes.operand rows at (view_expression c.get-in-Index-2.result.now))) (form.index_form (seen_operand c.get-in-Index-3.result.now.operand)))
    (λ w. seen_operand w.operand ≡ nodes.operand rows env (view_expression c.args.e.now))
    (λ w h. h
    ∙ ap (λ o. spec.placed (access.index o (nodes.operand rows at (view_expression c.get-in-Index-2.result.now))) (form.index_form o)) left
    ∙ ap (λ o. spec.placed (access.index (nodes.operand rows env x) o) (form.index_form (nodes.operand rows env x))) right
    ∙ ap (λ v. nodes.operand rows env v) (sym seen))
    c.walk_index.ensures.operand

pub walk_member-returns-clause-all : goal.walk_member-returns-clause-all
walk_member-returns-clause-all t c =
    let of : seen_type c.get.result.now ≡ specified (seen_environment c.args.env.now) (specifiers_of (map view_specifier c.as_slice-specs.result.now)) = search rules in
    steps.member_said c.args.table.now (seen_environment c.args.env.now) (seen_environment c.walk_specifiers.new.env) (seen_members c.args.earlier.now) (view_member c.args.one.now)
    (specifiers_of (map view_specifier c.as_slice-specs.result.now)) (option_map (λ w. view_specifier w.now) c.tag_word-word.result) (declarators_of (map view_declarator c.as_slice-names.result.now)) (seen_type c.get.result.now)
    (shown c.args.out.now) (shown c.walk_specifiers.new.out) (shown c.walk_declarators.new.out)
    (ap (λ m. m.0) (view_Member c.args.one.now) ∙ ap (λ s. specifiers_of (map view_specifier s)) (sym c.as_slice-specs.ensures))
    (ap (λ m. m.1) (view_Member c.args.one.now) ∙ ap (λ s. declarators_of (map view_declarator s)) (sym c.as_slice-names.ensures))
    c.tag_word-word.ensures c.in_ok-part.ensures.behind of c.in_ok-part.ensures.all c.in_ok-named.ensures.all

pub walk_members-loop-one-preserved : goal.walk_members-loop-one-preserved
walk_members-loop-one-preserved t c =
    let rows = c.args.table.now in
    let env = seen_environment c.loop-one.env in
    let at = seen_environment c.walk_member.new.env in
    let earlier = seen_members c.loop-one.earlier in
    let later = seen_members c.walk_member.new.earlier in
    let m = view_member c.one-item.result in
    let rest = tree.members_of (map view_member (drop (c.loop-one.one-index + 1) c.args.all.now)) in
    let first = seen_environment c.args.env.now in
    let before = seen_members c.args.earlier.now in
    let whole = tree.members_of (map view_member c.args.all.now) in
    let more = steps.next c.args.all.now c.loop-one.one-index c.one-item.result c.loop-one-test.true c.one-item.is in (
      steps.settled_step c.loop-one.settled c.in_ok-part.part.settled c.both-settled.result
          (parts.said_member rows env earlier m).settled (nodes.said_members rows (parts.behind_member env m) (parts.members_behind env earlier m) rest).settled
          (nodes.said_members rows at later rest).settled (nodes.said_members rows first before whole).settled
          c.both-settled.ensures c.in_ok-part.ensures.settled
          (ap (λ e. (nodes.said_members rows e later rest).settled) c.in_ok-part.ensures.behind ∙ ap (λ k. (nodes.said_members rows (parts.behind_member env m) k rest).settled) c.in_ok-part.ensures.members)
          (subst (λ ys. (c.loop-one.settled && (nodes.said_members rows env earlier (tree.members_of (map view_member ys))).settled) ≡ (nodes.said_members rows first before whole).settled) more c.loop-one.invariant.0),
      steps.faults_step c.loop-one.faults c.in_ok-part.part.faults c.and-faults.result
          (faults.faults_specifiers env m.0) (faults.faults_members (parts.behind_member env m) rest) (faults.faults_members at rest) (faults.faults_members first whole)
          c.and-faults.ensures c.in_ok-part.ensures.faults (ap (λ e. faults.faults_members e rest) c.in_ok-part.ensures.behind)
          (subst (λ ys. faults.faults_of_both c.loop-one.faults (faults.faults_members env (tree.members_of (map view_member ys))) ≡ faults.faults_members first whole) more c.loop-one.invariant.1),
      ap (λ e. behind.members_of e later rest) c.in_ok-part.ensures.behind ∙ ap (λ k. behind.members_of (parts.behind_member env m) k rest) c.in_ok-part.ensures.members
          ∙ subst (λ ys. behind.members_of env earlier (tree.members_of (map view_member ys)) ≡ behind.members_of first before whole) more c.loop-one.invariant.2,
      steps.added_step (parts.said_member rows env earlier m).all (nodes.said_members rows (parts.behind_member env m) (parts.members_behind env earlier m) rest).all
          (nodes.said_members rows at later rest).all (shown c.loop-one.out) (shown c.walk_member.new.out) (added (nodes.said_members rows first before whole).all (shown c.args.out.now))
          c.in_ok-part.ensures.all
          (ap (λ e. (nodes.said_members rows e later rest).all) c.in_ok-part.ensures.behind ∙ ap (λ k. (nodes.said_members rows (parts.behind_member env m) k rest).all) c.in_ok-part.ensures.members)
          (subst (λ ys. added (nodes.said_members rows env earlier (tree.members_of (map view_member ys))).all (shown c.loop-one.out) ≡ added (nodes.said_members rows first before whole).all (shown c.args.out.now)) more c.loop-one.invariant.3),
      ap (λ e. behind.behind_members e rest) c.in_ok-part.ensures.behind
          ∙ subst (λ ys. behind.behind_members env (tree.members_of (map view_member ys)) ≡ behind.behind_members first whole) more c.loop-one.invariant.4,
      steps.some_added (parts.said_member rows env earlier m).all (shown c.loop-one.out) (shown c.walk_member.new.out) c.in_ok-part.ensures.all c.loop-one.invariant.5,
    )

pub walk_parameter-returns-clause-all : goal.walk_parameter-returns-clause-all
walk_parameter-returns-clause-all t c =
    on_ok_weaker c.walk_bare_parameter.result
    (steps.bare_said c.args.table.now c.args.has_body (seen_environment c.args.env.now) (seen_environment c.walk_specifiers-in-Bare.new.env) (view_parameter c.args.p.now)
    (specifiers_of (map view_specifier c.as_slice-specs.result.now)) (view_bare c.in-Bare.b)
    (shown c.args.out.now) (shown c.walk_specifiers-in-Bare.new.out) (shown c.walk_bare_parameter.new.out)
    (ap (λ p. p.0) (view_Parameter c.args.p.now) ∙ ap (λ s. specifiers_of (map view_specifier s)) (sym c.as_slice-specs.ensures))
    (ap (λ p. p.1) (view_Parameter c.args.p.now) ∙ ap view_form c.in-Bare.is ∙ view_ParamForm_Bare c.in-Bare.b)
    c.in_ok-part-in-Bare.ensures.behind c.in_ok-part-in-Bare.ensures.all)
    c.walk_bare_parameter.ensures.all

pub walk_parameters-loop-one-preserved : goal.walk_parameters-loop-one-preserved
walk_parameters-loop-one-preserved t c =
    let rows = c.args.table.now in
    let body = c.args.has_body in
    let env = seen_environment c.loop-one.env in
    let at = seen_environment c.walk_parameter.new.env in
    let m = view_parameter c.one-item.result in
    let rest = parameters_of (map view_parameter (drop (c.loop-one.one-index + 1) c.args.all.now)) in
    let first = seen_environment c.args.env.now in
    let whole = parameters_of (map view_parameter c.args.all.now) in
    let more = steps.next c.args.all.now c.loop-one.one-index c.one-item.result c.loop-one-test.true c.one-item.is in
    let settled : c.get.result.now.settled ≡ (parts.said_parameter rows body env m).settled = search rules in
    let broken : c.get-in-loop-one.result.now.faults ≡ faults.faults_form env m.0 m.1 = search rules in
    let of : seen_type c.get-in-loop-one-2.result.now.of ≡ parts.parameter_type env m = search rules in (
      steps.settled_step c.loop-one.settled c.get.result.now.settled c.both-settled.result
          (parts.said_parameter rows body env m).settled (nodes.said_parameters rows body (parts.behind_parameter body env m) rest).settled
          (nodes.said_parameters rows body at rest).settled (nodes.said_parameters rows body first whole).settled
          c.both-settled.ensures settled
          (ap (λ e. (nodes.said_parameters rows body e rest).settled) c.in_ok-by.ensures.behind)
          (subst (λ ys. (c.loop-one.settled && (nodes.said_parameters rows body env (parameters_of (map view_parameter ys))).settled) ≡ (nodes.said_parameters rows body first whole).settled) more c.loop-one.invariant.0),
      steps.faults_step c.loop-one.faults c.get-in-loop-one.result.now.faults c.and-faults.result
          (faults.faults_form env m.0 m.1) (faults.faults_parameters body (parts.behind_parameter body env m) rest) (faults.faults_parameters body at rest) (faults.faults_parameters body first whole)
          c.and-faults.ensures broken (ap (λ e. faults.faults_parameters body e rest) c.in_ok-by.ensures.behind)
          (subst (λ ys. faults.faults_of_both c.loop-one.faults (faults.faults_parameters body env (parameters_of (map view_parameter ys))) ≡ faults.faults_parameters body first whole) more c.loop-one.invariant.1),
      steps.list_step (map view c.loop-one.kinds.items) (view c.in_ok-share.field-0) (parts.parameter_type env m).kind
          (behind.parameter_kinds body (parts.behind_parameter body env m) rest) (map view c.push.new.self.items) (behind.parameter_kinds body at rest) (behind.parameter_kinds body first whole)
          (ap (λ ks. map view ks) c.in_ok-push.ensures.items ∙ map-append view c.loop-one.kinds.items (c.in_ok-share.field-0 ∷ []))
          (c.in_ok-share.ensures ∙ ap (λ t. t.kind) of)
          (ap (λ e. behind.parameter_kinds body e rest) c.in_ok-by.ensures.behind)
          (subst (λ ys. map view c.loop-one.kinds.items ++ behind.parameter_kinds body env (parameters_of (map view_parameter ys)) ≡ behind.parameter_kinds body first whole) more c.loop-one.invariant.2),
      steps.added_step (parts.said_parameter rows body env m).all (nodes.said_parameters rows body (parts.behind_parameter body env m) rest).all
          (nodes.said_parameters rows body at rest).all (shown c.loop-one.out) (shown c.walk_parameter.new.out) (added (nodes.said_parameters rows body first whole).all (shown c.args.out.now))
          c.in_ok-by.ensures.all
          (ap (λ e. (nodes.said_parameters rows body e rest).all) c.in_ok-by.ensures.behind)
          (subst (λ ys. added (nodes.said_parameters rows body env (parameters_of (map view_parameter ys))).all (shown c.loop-one.out) ≡ added (nodes.said_parameters rows body first whole).all (shown c.args.out.now)) more c.loop-one.invariant.3),
      ap (λ e. behind.behind_parameters body e rest) c.in_ok-by.ensures.behind
          ∙ subst (λ ys. behind.behind_parameters body env (parameters_of (map view_parameter ys)) ≡ behind.behind_parameters body first whole) more c.loop-one.invariant.4,
      steps.some_added (parts.said_parameter rows body env m).all (shown c.loop-one.out) (shown c.walk_parameter.new.out) c.in_ok-by.ensures.all c.loop-one.invariant.5,
    )

pub walk_type-returns-clause-all : goal.walk_type-returns-clause-all
walk_type-returns-clause-all t c =
    steps.on_ok c.type_declared.result
    (steps.type_said c.args.table.now (seen_environment c.args.env.now) (seen_environment c.walk_specifiers.new.env) (view_type c.args.t.now)
    (specifiers_of (map view_specifier c.as_slice-2.result.now)) (view_bare (out-TypeName c.args.t.now).bare)
    (shown c.args.out.now) (shown c.walk_specifiers.new.out) (shown c.walk_bare.new.out)
    (view_TypeName c.args.t.now ∙ ap (λ s. c_tree.typed (specifiers_of (map view_specifier s)) (view_bare (out-TypeName c.args.t.now).bare)) (sym c.as_slice-2.ensures))
    c.in_ok-part.ensures.behind c.in_ok-part.ensures.all c.in_ok-bare.ensures.all)

pub walk_expression-walk_call-requires : goal.walk_expression-walk_call-requires
walk_expression-walk_call-requires t c =
    (omega (arith, arguments_smaller c.in-Call.callee c.in-Call.arguments, ap the_size c.in-Call.is, ap (most the_size) c.as_slice.ensures, c.decreases), search rules)

pub walk_member-walk_declarators-requires : goal.walk_member-walk_declarators-requires
walk_member-walk_declarators-requires t c = (
  omega (arith, size_is-Member c.args.one.now, ap (most declarator_size) c.as_slice-names.ensures, c.decreases),
  steps.some_added (nodes.said_specifiers c.args.table.now (seen_environment c.args.env.now) (specifiers_of (map view_specifier c.as_slice-specs.result.now))).all (shown c.args.out.now) (shown c.walk_specifiers.new.out) c.in_ok-part.ensures.all c.requires,
)

pub walk_parameter-walk_bare_parameter-requires : goal.walk_parameter-walk_bare_parameter-requires
walk_parameter-walk_bare_parameter-requires t c = (
  omega (arith, size_is-Parameter c.args.p.now, ap form_size c.in-Bare.is, sized-Bare c.in-Bare.b, c.decreases),
  steps.some_added (nodes.said_specifiers c.args.table.now (seen_environment c.args.env.now) (specifiers_of (map view_specifier c.as_slice-specs.result.now))).all (shown c.args.out.now) (shown c.walk_specifiers-in-Bare.new.out) c.in_ok-part-in-Bare.ensures.all c.requires,
)
