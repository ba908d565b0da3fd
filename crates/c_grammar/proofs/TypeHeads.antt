-- What the text of a type begins with.
use Rattle.std.proofs.Common.{◌≡◌, true, [], ap}
use Rattle.c_tree.specs.Tree.{TypeTree, typed, Specifiers, no_specifiers, specifiers, Specifier, const_word, volatile_word, void_word, char_word, short_word, int_word, long_word, signed_word, unsigned_word, type_name, struct_tag, struct_of, enum_tag, enum_of}
use Rattle.c_tree.specs.Marks.{Tokens}
use Rattle.c_tree.specs.TypeWords.{NamesType}
use Rattle.c_tree.specs.ExpressionShape.{ShapeSpecifier, ShapeSpecifiers, ShapeType}
use Rattle.c_grammar.specs.declared.kind.Kind.TheVariants as k
use Rattle.c_grammar.specs.Kind.{kind}
use Rattle.c_grammar.specs.Rules.{NameEnvironment, begins_type}
use Rattle.c_grammar.proofs.Onto.{onto_specifier, onto_specifiers, onto_bare, onto_type}
use Rattle.c_grammar.proofs.KindLemmas.{kind_at, kind_type}

-- a specifier begins with what a type begins with
pub specifier_head : (t : NameEnvironment) (w : Specifier) (r : Tokens) → ShapeSpecifier t.types w → begins_type (kind t.types (onto_specifier w r)) ≡ true
specifier_head t const_word r s = ap begins_type (kind_at t.types k.Const [] r tt)
specifier_head t volatile_word r s = ap begins_type (kind_at t.types k.Volatile [] r tt)
specifier_head t void_word r s = ap begins_type (kind_at t.types k.Void [] r tt)
specifier_head t char_word r s = ap begins_type (kind_at t.types k.Char [] r tt)
specifier_head t short_word r s = ap begins_type (kind_at t.types k.Short [] r tt)
specifier_head t int_word r s = ap begins_type (kind_at t.types k.Int [] r tt)
specifier_head t long_word r s = ap begins_type (kind_at t.types k.Long [] r tt)
specifier_head t signed_word r s = ap begins_type (kind_at t.types k.Signed [] r tt)
specifier_head t unsigned_word r s = ap begins_type (kind_at t.types k.Unsigned [] r tt)
specifier_head t (type_name n) r s = ap begins_type (kind_type t.types n r s)
specifier_head t (struct_tag n) r s = ap begins_type (kind_at t.types k.Struct [] _ tt)
specifier_head t (struct_of n ms) r s = ap begins_type (kind_at t.types k.Struct [] _ tt)
specifier_head t (enum_tag n) r s = ap begins_type (kind_at t.types k.Enum [] _ tt)
specifier_head t (enum_of n es c) r s = ap begins_type (kind_at t.types k.Enum [] _ tt)

-- specifiers that name a type begin with what a type begins with
pub specifiers_head : (t : NameEnvironment) (xs : Specifiers) (r : Tokens) → ShapeSpecifiers t.types xs → NamesType xs → begins_type (kind t.types (onto_specifiers xs r)) ≡ true
specifiers_head t no_specifiers r s one = absurd (cc)
specifiers_head t (specifiers w ws) r s one = specifier_head t w (onto_specifiers ws r) s.0

-- a type begins with what a type begins with
pub type_head : (t : NameEnvironment) (y : TypeTree) (r : Tokens) → ShapeType t.types y → begins_type (kind t.types (onto_type y r)) ≡ true
type_head t (typed ws b) r s = specifiers_head t ws (onto_bare b r) s.1 s.0
