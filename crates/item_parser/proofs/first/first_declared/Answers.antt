use Rattle.std.proofs.Common.{sym, ap, subst, ◌∙◌}
use Rattle.c_tree.specs.View.{view_declarator, view_parameters}
use Rattle.c_tree.proofs.ViewLemmas.{view_Declarator_Plain, view_Declarator_Function}
use Rattle.c_grammar.specs.Gives.{Gives}
use Rattle.item_parser.proofs.FirstCases.{plain_on, function_on}
use Rattle.item_parser.proofs.first.first_declared.Goals as goal

pub returns-in_ok-function-in-OpenParen : goal.returns-in_ok-function-in-OpenParen
returns-in_ok-function-in-OpenParen c =
    let params = c.in_ok-params-in-OpenParen.params in
    let e = function_on c.args.types.now c.args.stars c.args.name c.args.cursor.now c.take.new.self c.parameters.new.cursor (view_parameters params) (view_declarator c.in_ok-function-in-OpenParen.function)
    (sym c.kind.ensures ∙ c.in-OpenParen.is) c.take.ensures c.in_ok-params-in-OpenParen.ensures (ap view_declarator c.in_ok-function-in-OpenParen.ensures ∙ view_Declarator_Function c.args.stars c.args.name params) in
    subst (λ o. Gives view_declarator o c.behind_first.result c.behind_first.new.cursor) (sym e) c.behind_first.ensures

pub returns-in_ok-plain-in_default : goal.returns-in_ok-plain-in_default
returns-in_ok-plain-in_default c =
    let e = plain_on c.args.types.now c.args.stars c.args.name c.kind.result c.args.cursor.now (view_declarator c.in_ok-plain-in_default.plain) c.kind.ensures c.in_default.not-OpenBracket c.in_default.not-OpenParen
    (ap view_declarator c.in_ok-plain-in_default.ensures ∙ view_Declarator_Plain c.args.stars c.args.name) in
    subst (λ o. Gives view_declarator o c.behind_first-in_default.result c.behind_first-in_default.new.cursor) (sym e) c.behind_first-in_default.ensures
