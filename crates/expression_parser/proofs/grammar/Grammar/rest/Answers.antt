use Rattle.std.proofs.Common.{◌≡◌, Some, refl, sym, ◌∙◌, arith, rules}
use Rattle.std.proofs.lemmas.Grind.{common_steps}
use Rattle.c_tree.specs.ExpressionShape.{level}
use Rattle.c_tree.specs.View.{view_expression}
use Rattle.c_grammar.specs.Kind.{kind}
use Rattle.c_grammar.specs.Rules.{infix_of}
use Rattle.expression_parser.specs.Infixes.{goes_on_with}
use Rattle.expression_parser.proofs.Extending.{rest_extends, rest_fails, rest_ends, extended_shorter}
use Rattle.expression_parser.proofs.grammar.Grammar.rest.Goals as goal

pub loop-sign-init : goal.loop-sign-init
loop-sign-init g c = refl

pub returns-in_err-left : goal.returns-in_err-left
returns-in_err-left g c =
    let is : goes_on_with c.args.least (infix_of (kind c.args.self.now.types.now.types c.loop-sign.cursor.rest)) (level (view_expression c.loop-sign.left)) ≡ Some c.in-Some.sign = cc in
    let h = rest_fails c.args.self.now.types.now c.args.d c.args.least (view_expression c.loop-sign.left) c.loop-sign.cursor c.in-Some.sign c.in_err-left.field-0.0 is in
    first_of (search rules, grind (arith, common_steps))

pub loop-sign-smaller : goal.loop-sign-smaller
loop-sign-smaller g c =
    let is : goes_on_with c.args.least (infix_of (kind c.args.self.now.types.now.types c.loop-sign.cursor.rest)) (level (view_expression c.loop-sign.left)) ≡ Some c.in-Some.sign = cc in
    extended_shorter c.args.self.now.types.now c.args.d c.args.least (level (view_expression c.loop-sign.left)) _ _ c.loop-sign.cursor c.extended.new.cursor c.in-Some.sign is c.in_ok-left.ensures

pub loop-sign-preserved : goal.loop-sign-preserved
loop-sign-preserved g c =
    let is : goes_on_with c.args.least (infix_of (kind c.args.self.now.types.now.types c.loop-sign.cursor.rest)) (level (view_expression c.loop-sign.left)) ≡ Some c.in-Some.sign = cc in
    let e = c.in_ok-left.ensures in
    sym (rest_extends c.args.self.now.types.now c.args.d c.args.least (view_expression c.loop-sign.left) (view_expression c.in_ok-left.left) c.loop-sign.cursor c.extended.new.cursor c.in-Some.sign is e) ∙ c.loop-sign.invariant

pub returns : goal.returns
returns g c =
    let e = rest_ends c.args.self.now.types.now c.args.d c.args.least (view_expression c.loop-sign.left) c.loop-sign.cursor in
    first_of (search rules, grind (arith, common_steps))
