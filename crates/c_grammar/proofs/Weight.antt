-- How tightly what follows an expression would bind it.
use Rattle.std.proofs.Common.{◌≡◌, ℕ, [], ◌∷◌, refl, ap}
use Rattle.c_tree.specs.Tree.{Name, Expression, assign, choose}
use Rattle.c_tree.specs.Marks.{Tokens}
use Rattle.c_tree.specs.ExpressionShape.{level}
use Rattle.c_grammar.specs.declared.kind.Kind.{Kind}
use Rattle.c_grammar.specs.declared.kind.Kind.TheVariants as k
use Rattle.c_grammar.specs.Kind.{kind, token_of, IsFixed}
use Rattle.c_grammar.specs.Rules.{infix_of, own_level}
use Rattle.c_grammar.proofs.KindLemmas.{kind_at}

-- the level of the operator that a token of the kind is behind an operand; a text goes on with a text, tighter than all
abbrev pub weight_of : Kind → ℕ
weight_of k.Text = 18
weight_of e = own_level (infix_of e)

-- the level of the operator that the next token is behind an operand
pub weight : Tokens → ℕ
weight r = weight_of (kind [] r)

-- the weight of the next token is that of its kind
pub weight_is : (r : Tokens) → weight r ≡ weight_of (kind [] r)
unfolding weight
weight_is r = refl

-- the weight of a given token
pub weight_at : (e : Kind) (n : Name) (us : Tokens) → IsFixed e → weight (token_of e n ∷ us) ≡ weight_of e
unfolding weight
weight_at e n us fixed = ap weight_of (kind_at [] e n us fixed)

-- the weightiest operator that can stand behind the expression and take it whole
abbrev pub ceiling : Expression → ℕ
ceiling (assign o x y) = 1
ceiling (choose x y z) = 2
ceiling x = level x
