-- Specifiers among which a struct or an enum stands, and declarators of functions.
use Rattle.std.specs.Prelude.{not}
use Rattle.std.proofs.Common.{◌≡◌, ◌||◌, List, [], ◌∷◌, map, refl, sym, ap, ◌∙◌}
use Rattle.std.specs.List.{list_any}
use Rattle.c_tree.specs.declared.tree.SpecWord.{SpecWord}
use Rattle.c_tree.specs.Tree.{DeclaratorTree, function, Specifier, struct_tag, struct_of, enum_tag, enum_of, Specifiers, specifiers}
use Rattle.c_tree.specs.TypeWords.{has_tag}
use Rattle.c_tree.specs.View.{view_specifier, specifiers_of}
use Rattle.c_grammar.specs.Rules.{has_initializer, is_function}
use Rattle.statement_parser.specs.DeclarationParts.{is_tag}

-- it is one, or stands among the others
tag_first : (w : Specifier) (ws : Specifiers) → has_tag (specifiers w ws) ≡ is_tag w || has_tag ws
tag_first (struct_tag n) ws = refl
tag_first (struct_of t ms) ws = refl
tag_first (enum_tag n) ws = refl
tag_first (enum_of t es c) ws = refl
tag_first _ ws = refl

pub tag_among : (ws : List SpecWord) → list_any (λ w. is_tag (view_specifier w)) ws ≡ has_tag (specifiers_of (map view_specifier ws))
tag_among [] = refl
tag_among (w ∷ ws) = ap (λ b. is_tag (view_specifier w) || b) (tag_among ws) ∙ sym (tag_first (view_specifier w) (specifiers_of (map view_specifier ws)))

-- what is no function may have an initialiser
pub no_function : (x : DeclaratorTree) → has_initializer x ≡ not (is_function x)
no_function (function ss n ps v) = refl
no_function _ = refl
