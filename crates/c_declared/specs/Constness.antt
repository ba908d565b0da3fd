-- Which constant expressions an expression is (C11 6.6), by what its parts are.
use Rattle.std.specs.Prelude.{Option, true, false, ◌&&◌}
use Rattle.c_kinds.specs.Kind.{Kind}
use Rattle.c_tree.specs.declared.tree.UnaryOp.{UnaryOp}
use Rattle.c_tree.specs.Tree.{Expression}
use Rattle.c_environment.specs.Entity.{Entity}
use Rattle.c_environment.specs.Environment.{Environment}
use Rattle.c_declared.specs.declared.constness.Constness.{Constness}
use Rattle.c_declared.specs.Operands.{Rows}
use Rattle.c_declared.specs.Sizes.{is_constant, is_arithmetic, may_be_size}
use Rattle.c_declared.specs.StaticConstants.{is_array, is_constant_entity, is_lasting_entity, unary_static, may_be_static, is_lasting_place}

abbrev pub constness : Rows → Environment → Expression → Constness
constness rows env x = record { size = may_be_size env x; fixed = may_be_static rows env x; lasting = is_lasting_place rows env x }

abbrev pub of_none : Constness
of_none = record { size = false; fixed = false; lasting = false }

abbrev pub of_constant : Constness
of_constant = record { size = true; fixed = true; lasting = false }

abbrev pub of_text : Constness
of_text = record { size = false; fixed = true; lasting = true }

abbrev pub of_name : Option Entity → Constness
of_name e = record { size = is_constant e; fixed = is_constant_entity e; lasting = is_lasting_entity e }

abbrev pub of_two : Constness → Constness → Constness
of_two c d = record { size = c.size && d.size; fixed = c.fixed && d.fixed; lasting = false }

abbrev pub of_choice : Constness → Constness → Constness → Constness
of_choice b c d = record { size = b.size && c.size && d.size; fixed = b.fixed && c.fixed && d.fixed; lasting = false }

abbrev pub of_cast : Constness → Constness
of_cast c = record { size = false; fixed = c.fixed; lasting = false }

abbrev pub of_dot : Constness → Constness
of_dot c = record { size = false; fixed = false; lasting = c.lasting }

abbrev pub of_unary : UnaryOp → Constness → Constness
of_unary o c = record { size = is_arithmetic o && c.size; fixed = unary_static o c.fixed c.lasting; lasting = false }

-- an element of what has this kind
abbrev pub of_index : Constness → Option Kind → Constness → Constness
of_index c k d = record { size = false; fixed = false; lasting = (c.lasting && is_array k) && d.size }
