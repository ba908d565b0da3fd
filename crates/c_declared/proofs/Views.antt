-- What declarators stand for, with their sizes in a list.
use Rattle.std.proofs.Common.{◌≡◌, List, Option, map, ap, ◌∙◌}
use Rattle.std.specs.Prelude.{option_map}
use Rattle.base_core.specs.declared.lexeme.Lexeme.{Lexeme}
use Rattle.c_tree.specs.Tree as c
use Rattle.c_tree.specs.View.{view_declarator, view_expression, view_parameter, sizes_of, parameters_of}
use Rattle.c_tree.specs.declared.tree.Qual.{Qual}
use Rattle.c_tree.specs.declared.tree.Expr.{Expr}
use Rattle.c_tree.specs.declared.tree.Params.{Params, out-Params}
use Rattle.c_tree.specs.declared.tree.Declarator.TheVariants as d
use Rattle.c_tree.proofs.ViewLemmas.{view_Declarator_Array, view_Declarator_Pointer, view_Params}

pub view_array : (ss : List (List Qual)) (n : Lexeme) (xs : List (Option Expr)) → view_declarator (d.Array ss n xs) ≡ c.array ss n (sizes_of (map (option_map view_expression) xs))
view_array ss n xs = view_Declarator_Array ss n xs

pub view_pointer : (ss : List (List Qual)) (qs : List Qual) (n : Lexeme) (xs : List (Option Expr)) (ps : Params) →
    view_declarator (d.Pointer ss qs n xs ps)
    ≡ c.pointer ss qs n (sizes_of (map (option_map view_expression) xs)) (parameters_of (map view_parameter (out-Params ps).items)) (out-Params ps).word
view_pointer ss qs n xs ps =
    view_Declarator_Pointer ss qs n xs ps ∙ ap (λ v. c.pointer ss qs n (sizes_of (map (option_map view_expression) xs)) v.0 v.1) (view_Params ps)
