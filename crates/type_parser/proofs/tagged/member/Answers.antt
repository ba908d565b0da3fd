use Rattle.std.proofs.Common.{map, sym, subst}
use Rattle.c_tree.specs.View.{view_specifier, view_declarator, view_member, specifiers_of, declarators_of}
use Rattle.c_grammar.specs.Gives.{Gives}
use Rattle.type_parser.proofs.TaggedMembers.{member_parts}
use Rattle.type_parser.proofs.tagged.member.Goals as goal

pub returns : goal.returns
returns g c =
    let e = member_parts c.args.grammar.now.types.now c.args.d c.args.cursor.now c.specifiers.new.cursor c.declarators.new.cursor c.expect.new.cursor (specifiers_of (map view_specifier c.in_ok-specs.specs)) (declarators_of (map view_declarator c.in_ok-names.names)) c.in_ok-specs.ensures c.in_ok-names.ensures c.in_ok-expect.ensures.is c.in_ok-expect.ensures.behind in
    subst (λ o. Gives (λ p. (view_member p.0, p.1)) o c.behind_member.result c.behind_member.new.cursor) (sym e) c.behind_member.ensures
