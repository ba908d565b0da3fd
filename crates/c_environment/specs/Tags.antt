-- Steps between the code and what tags make of the names.
use Rattle.std.specs.Prelude.{Option, Some, None, Bool}
use Rattle.c_scopes.specs.Scope.{Name}
use Rattle.c_tree.specs.Tree.{Specifier, Specifiers, specifiers, no_specifiers, struct_tag}
use Rattle.c_environment.specs.Environment.{Environment, with_tag, with_structure}
use Rattle.c_environment.specs.Types.{structure_number}

-- a structure more, which the tag names from here on
abbrev pub tagged_structure : Environment → Name → Bool → Environment
tagged_structure env n is_declared = with_tag (with_structure env is_declared) n (Some (structure_number env None))

-- the tag of a structure, where the word is one
abbrev pub tag_of : Specifier → Option Name
tag_of (struct_tag n) = Some n
tag_of w = None

-- the same, where the specifiers are that alone
abbrev pub tag_alone : Specifiers → Option Name
tag_alone (specifiers w no_specifiers) = tag_of w
tag_alone ws = None
