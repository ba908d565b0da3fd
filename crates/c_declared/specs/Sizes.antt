-- The sizes of arrays (C11 6.7.6.2). They aren't evaluated.
use Rattle.std.specs.Prelude.{Bool, true, false, not, ◌&&◌, Option, Some}
use Rattle.c_tree.specs.declared.tree.UnaryOp.{UnaryOp}
use Rattle.c_tree.specs.declared.tree.UnaryOp.TheVariants as u
use Rattle.c_tree.specs.Tree.{Expression, choose, binary, unary, size_of, size_of_type, name, integer, character, paren, Sizes, no_sizes, open_size, size, DeclaratorTree, array, pointer}
use Rattle.c_builtins.specs.declared.names.BuiltIn.TheVariants as b
use Rattle.c_environment.specs.Entity.{Entity, enumerator, built_in}
use Rattle.c_environment.specs.Environment.{Environment, entity}
use Rattle.c_environment.specs.Behind.{behind_expression}

-- an enumerator, or a constant of type int, its value known or left open
abbrev pub is_constant : Option Entity → Bool
is_constant (Some (enumerator v)) = true
is_constant (Some (built_in (b.Number k))) = true
is_constant (Some (built_in b.Null)) = true
is_constant (Some (built_in b.Opaque)) = true
is_constant _ = false

abbrev pub is_arithmetic : UnaryOp → Bool
is_arithmetic u.Address = false
is_arithmetic u.Follow = false
is_arithmetic _ = true

-- an integer constant expression (6.6p6), without casts
abbrev pub may_be_size : Environment → Expression → Bool
may_be_size env (name n) = is_constant (entity env n)
may_be_size env (integer z) = true
may_be_size env (character c) = true
may_be_size env (size_of x) = true
may_be_size env (size_of_type t) = true
may_be_size env (paren x) = may_be_size env x
may_be_size env (unary o x) = is_arithmetic o && may_be_size env x
may_be_size env (binary o x y) = may_be_size env x && may_be_size (behind_expression env x) y
may_be_size env (choose w x y) =
    may_be_size env w && may_be_size (behind_expression env w) x && may_be_size (behind_expression (behind_expression env w) x) y
may_be_size env _ = false

abbrev pub are_sizes : Environment → Sizes → Bool
are_sizes env no_sizes = true
are_sizes env (open_size xs) = are_sizes env xs
are_sizes env (size x xs) = may_be_size env x && are_sizes (behind_expression env x) xs

abbrev pub sizes_of : DeclaratorTree → Sizes
sizes_of (array ss n xs) = xs
sizes_of (pointer ss qs n xs ps v) = xs
sizes_of _ = no_sizes

abbrev pub are_given : Sizes → Bool
are_given no_sizes = true
are_given (open_size xs) = false
are_given (size x xs) = are_given xs

-- The elements of an array have a complete type (p1), which an array without a size isn't (6.2.5p22): the type before its sizes is none, and
-- only the first size may be left open.
abbrev pub elements_are_complete : Bool → Sizes → Bool
elements_are_complete is_open no_sizes = true
elements_are_complete is_open (open_size xs) = not is_open && are_given xs
elements_are_complete is_open (size x xs) = not is_open && are_given xs
