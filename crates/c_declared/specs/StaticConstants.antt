-- Constant expressions in the initialisers of objects with static storage duration (C11 6.7.9p4, 6.6p7 to p9), over a table with these rows.
use Rattle.std.specs.Prelude.{Option, Some, Bool, true, false, ◌&&◌}
use Rattle.c_kinds.specs.Kind.{Kind, array}
use Rattle.c_tree.specs.declared.tree.UnaryOp.{UnaryOp}
use Rattle.c_tree.specs.declared.tree.UnaryOp.TheVariants as u
use Rattle.c_tree.specs.Tree.{Expression, choose, binary, cast, unary, size_of, size_of_type, index, dot, name, integer, character, text, paren}
use Rattle.c_builtins.specs.declared.names.BuiltIn.TheVariants as b
use Rattle.c_environment.specs.Entity.{Entity, variable, function, enumerator, library, built_in}
use Rattle.c_environment.specs.Environment.{Environment, entity}
use Rattle.c_environment.specs.Behind.{behind_expression, behind_type}
use Rattle.c_rules.specs.Judgement.{kind}
use Rattle.c_declared.specs.Operands.{Rows}
use Rattle.c_declared.specs.Nodes.{operand}
use Rattle.c_declared.specs.Sizes.{is_arithmetic, may_be_size}

abbrev pub is_array : Option Kind → Bool
is_array (Some (array k)) = true
is_array _ = false

abbrev pub is_constant_entity : Option Entity → Bool
is_constant_entity (Some (enumerator v)) = true
is_constant_entity (Some (built_in b.Errno)) = false
is_constant_entity (Some (built_in b.LeftOut)) = false
is_constant_entity (Some (built_in x)) = true
is_constant_entity (Some (function t)) = true
is_constant_entity (Some (library k)) = true
is_constant_entity (Some (variable v)) = v.lasting && is_array (Some v.of.kind)
is_constant_entity _ = false

abbrev pub is_lasting_entity : Option Entity → Bool
is_lasting_entity (Some (variable v)) = v.lasting
is_lasting_entity (Some (function t)) = true
is_lasting_entity _ = false

-- The place of an object of static storage duration: a name, a string, a member, or an element by a constant index of an array. An element
-- behind a pointer is none: where that points to is the pointer's value.
abbrev pub is_lasting_place : Rows → Environment → Expression → Bool
is_lasting_place rows env (name n) = is_lasting_entity (entity env n)
is_lasting_place rows env (text ts) = true
is_lasting_place rows env (paren x) = is_lasting_place rows env x
is_lasting_place rows env (dot x m) = is_lasting_place rows env x
is_lasting_place rows env (index x y) = (is_lasting_place rows env x && is_array (kind (operand rows env x).judged)) && may_be_size (behind_expression env x) y
is_lasting_place rows env _ = false

-- `&` makes a constant of the place of such an object, an arithmetic operator one of a constant
abbrev pub unary_static : UnaryOp → Bool → Bool → Bool
unary_static u.Address is_fixed is_lasting = is_lasting
unary_static o is_fixed is_lasting = is_arithmetic o && is_fixed

-- made of constants, addresses of such objects, names of such arrays and of functions, operators and casts
abbrev pub may_be_static : Rows → Environment → Expression → Bool
may_be_static rows env (name n) = is_constant_entity (entity env n)
may_be_static rows env (integer z) = true
may_be_static rows env (character c) = true
may_be_static rows env (text ts) = true
may_be_static rows env (size_of x) = true
may_be_static rows env (size_of_type t) = true
may_be_static rows env (paren x) = may_be_static rows env x
may_be_static rows env (unary o x) = unary_static o (may_be_static rows env x) (is_lasting_place rows env x)
may_be_static rows env (binary o x y) = may_be_static rows env x && may_be_static rows (behind_expression env x) y
may_be_static rows env (choose w x y) =
    may_be_static rows env w && may_be_static rows (behind_expression env w) x && may_be_static rows (behind_expression (behind_expression env w) x) y
may_be_static rows env (cast t x) = may_be_static rows (behind_type env t) x
may_be_static rows env _ = false
