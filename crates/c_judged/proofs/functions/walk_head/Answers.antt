use Rattle.std.proofs.Common.{sym, ap, ◌∙◌, ◌≡◌, ◌++◌, true, map}
use Rattle.std.proofs.lemmas.Result.{on_ok_weaker}
use Rattle.c_judgements.specs.Parts.{added}
use Rattle.c_kinds.specs.View.{view}
use Rattle.c_tree.specs.View.{view_specifier, view_parameter, view_parameters, specifiers_of, parameters_of}
use Rattle.c_tree.specs.StatementView.{view_function}
use Rattle.c_tree.proofs.ViewLemmas.{view_Params}
use Rattle.c_environment.specs.Behind.{behind_specifiers, behind_parameters, parameter_kinds}
use Rattle.c_environment.specs.Environment.{entered, within_function, function_number, with_initialised, with_function_around}
use Rattle.c_environment.specs.Scopes.{in_function}
use Rattle.c_environment.specs.Seen.{seen_type, seen_environment}
use Rattle.c_environment.specs.Types.{pointed, specified, function_type}
use Rattle.c_declared.specs.Nodes as nodes
use Rattle.c_declared.specs.Seen.{shown}
use Rattle.c_declared.proofs.Steps as steps
use Rattle.c_judged.specs.Program.{in_body}
use Rattle.c_judged.proofs.functions.walk_head.Goals as goal

-- in the scope of the parameters
inside : (c : goal.After-drop-gives-inside-2) → seen_environment c.enter_function.new.env ≡ in_function (seen_environment c.args.env.now) (view_function c.args.f.now)
inside c =
    let env = seen_environment c.args.env.now in
    let at = seen_environment c.walk_specifiers.new.env in
    c.in_ok-enter_function.ensures
    ∙ ap (λ k. entered (within_function at k)) (c.function_number-number.ensures ∙ ap (function_number env) c.as_bytes-name.ensures)
    ∙ ap (λ e. entered (within_function e (function_number env c.args.f.now.name)))
    (c.in_ok-part.ensures.behind ∙ ap (λ s. behind_specifiers env (specifiers_of (map view_specifier s))) c.as_slice-specs.ensures)

parameters : (c : goal.After-drop-gives-inside-2) → parameters_of (map view_parameter c.as_slice-params.result.now) ≡ (view_parameters c.args.f.now.params).0
parameters c = ap (λ ps. parameters_of (map view_parameter ps)) c.as_slice-params.ensures ∙ sym (ap (λ ps. ps.0) (view_Params c.args.f.now.params))

pub returns-clause-all : goal.returns-clause-all
returns-clause-all c =
    let rows = c.args.table.now in
    let env = seen_environment c.args.env.now in
    let inner = seen_environment c.enter_function.new.env in
    let f = view_function c.args.f.now in
    let given = parameters_of (map view_parameter c.as_slice-params.result.now) in
    let below = shown c.args.out.now in
    let words = (nodes.said_specifiers rows env f.specs).all in
    steps.on_ok c.end_head.result
    (steps.joined (nodes.said_specifiers rows env (specifiers_of (map view_specifier c.as_slice-specs.result.now))).all (nodes.said_parameters rows true inner given).all
    below (shown c.walk_specifiers.new.out) (shown c.walk_parameters.new.out) c.in_ok-part.ensures.all c.in_ok-takes.ensures.all
    ∙ ap (λ s. added ((nodes.said_specifiers rows env (specifiers_of (map view_specifier s))).all ++ (nodes.said_parameters rows true inner given).all) below) c.as_slice-specs.ensures
    ∙ ap (λ e. added (words ++ (nodes.said_parameters rows true e given).all) below) (inside c)
    ∙ ap (λ ps. added (words ++ (nodes.said_parameters rows true (in_function env f) ps).all) below) (parameters c))

pub returns-clause-env : goal.returns-clause-env
returns-clause-env c =
    let env = seen_environment c.args.env.now in
    let inner = seen_environment c.enter_function.new.env in
    let f = view_function c.args.f.now in
    let given = parameters_of (map view_parameter c.as_slice-params.result.now) in
    let gives : seen_type c.get.result.now ≡ pointed f.stars (specified env f.specs) =
    ap seen_type c.get.ensures ∙ c.in_ok-gives.ensures
    ∙ ap (λ s. pointed s (specified env (specifiers_of (map view_specifier c.as_slice-specs.result.now)))) c.as_slice.ensures
    ∙ ap (λ s. pointed f.stars (specified env (specifiers_of (map view_specifier s)))) c.as_slice-specs.ensures in
    let kinds : map view c.in_ok-takes.takes.kinds.items ≡ parameter_kinds true (in_function env f) f.params =
    c.in_ok-takes.ensures.kinds ∙ ap (λ e. parameter_kinds true e given) (inside c) ∙ ap (λ ps. parameter_kinds true (in_function env f) ps) (parameters c) in
    let after : seen_environment c.walk_parameters.new.env ≡ behind_parameters true (in_function env f) f.params =
    c.in_ok-takes.ensures.behind ∙ ap (λ e. behind_parameters true e given) (inside c) ∙ ap (λ ps. behind_parameters true (in_function env f) ps) (parameters c) in
    let given_type = function_type (map view c.in_ok-takes.takes.kinds.items) (seen_type c.get.result.now) in
    let type_is : given_type ≡ function_type (parameter_kinds true (in_function env f) f.params) (pointed f.stars (specified env f.specs)) =
    ap (λ ks. function_type ks (seen_type c.get.result.now)) kinds ∙ ap (λ t. function_type (parameter_kinds true (in_function env f) f.params) t) gives in
    let whole : with_initialised (with_function_around (seen_environment c.walk_parameters.new.env) f.name given_type) f.name ≡ in_body env f =
    ap (λ e. with_initialised (with_function_around e f.name given_type) f.name) after
    ∙ ap (λ t. with_initialised (with_function_around (behind_parameters true (in_function env f) f.params) f.name t) f.name) type_is in
    let then : (seen_environment c.end_head.new.env ≡ with_initialised (with_function_around (seen_environment c.walk_parameters.new.env) f.name given_type) f.name) → (seen_environment c.end_head.new.env ≡ in_body env f) = λ h. h ∙ whole in
    on_ok_weaker c.end_head.result then c.end_head.ensures.env
