-- Where the nodes of a declared pointer to a function begin.
use Rattle.std.proofs.Common.{◌≡◌, [], ◌∷◌, None, true, refl}
use Rattle.std.specs.Prelude.{codes}
use Rattle.c_tree.specs.declared.tree.Storage.TheVariants.{Nothing}
use Rattle.c_tree.specs.Tree.{specifiers, int_word, no_specifiers, pointer, no_sizes, no_parameters, ItemTree, declaration_item}
use Rattle.c_tree.specs.Marks.{keyword, mark, name_token}
use Rattle.c_tree.specs.Spelling.{spell}
use Rattle.node_places.specs.Starts.{starts}

-- int (*f)(void);
abbrev pub pointer_to_function : ItemTree
pointer_to_function = declaration_item (record {
  storage = Nothing;
  specs = specifiers int_word no_specifiers;
  names = record { declarator = pointer [] [] (codes "f") no_sizes no_parameters true; init = None } ∷ [];
})

pub pointer_spelled : spell (pointer_to_function ∷ [])
    ≡ keyword (codes "int") ∷ mark (codes "(") ∷ mark (codes "*") ∷ name_token (codes "f") ∷ mark (codes ")") ∷ mark (codes "(") ∷ keyword (codes "void") ∷ mark (codes ")") ∷ mark (codes ";") ∷ []
pointer_spelled = refl

-- The name begins at its declarator's first token, the bracket (column 5 here), and not at `f`.
pub name_at_its_bracket : starts (pointer_to_function ∷ []) ≡ 0 ∷ 0 ∷ 1 ∷ []
name_at_its_bracket = refl
