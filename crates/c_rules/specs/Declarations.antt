-- What declarations owe by the kinds that they declare (C11 6.7, 6.9).
use Rattle.std.specs.Prelude.{List, [], ◌∷◌, Bool, true, false, ◌&&◌, ◌||◌, not, if◌then◌else◌, ◌==◌, Option, Some, None}
use Rattle.c_kinds.specs.Kind.{Kind, int, array, structure, signals, function_of, list_of, word, innermost}
use Rattle.c_kinds.specs.Word.{same, has_values}
use Rattle.c_kinds.specs.declared.word.Word.TheVariants as w
use Rattle.c_kinds.specs.Matching.{agrees}
use Rattle.c_rules.specs.Types.{sigaction_number}
use Rattle.c_rules.specs.declared.misfit.MisfitKind.{MisfitKind}
use Rattle.c_rules.specs.declared.misfit.MisfitKind.TheVariants.{UnknownName, KindMismatch, LeftOut, NoMain}
use Rattle.c_rules.specs.declared.form.Constant.{Constant}
use Rattle.c_rules.specs.declared.form.Constant.TheVariants.{Zero}

abbrev pub misfit_unless : Bool → MisfitKind → Option MisfitKind
misfit_unless holds m = if holds then None else Some m

-- An object, a member or a parameter has a complete type (6.7p7, 6.7.2.1p3, 6.7.6.3p4) that is neither void nor a function's. Whether
-- it is complete but for void, and whether a typedef names a function's type, is told by who knows the declaration.
abbrev pub object_misfit : Bool → Bool → Kind → Option MisfitKind
object_misfit is_complete is_function k = misfit_unless (is_complete && not is_function && has_values (word (innermost k))) KindMismatch

-- no structure and no sigset_t is passed or returned by value
abbrev pub passed_misfit : Kind → Option MisfitKind
passed_misfit (structure n) = Some LeftOut
passed_misfit signals = Some LeftOut
passed_misfit _ = None

-- two declarations of one object or function have types that agree (6.2.7p2)
abbrev pub redeclared_misfit : Kind → Kind → Option MisfitKind
redeclared_misfit before now = misfit_unless (agrees before now) KindMismatch

-- a list of initialisers fills an array or a structure (6.7.9p16)
abbrev pub list_misfit : Kind → Option MisfitKind
list_misfit (array k) = None
list_misfit (structure n) = None
list_misfit _ = Some KindMismatch

-- A part of a list fills a member or an element of this kind, which is missing where there is none: of the name that the part gives, as in
-- every array (6.7.9p7), or behind the last (6.7.9p2).
abbrev pub part_misfit : Bool → Option Kind → Option MisfitKind
part_misfit is_named (Some k) = None
part_misfit is_named None = if is_named then Some UnknownName else Some KindMismatch

abbrev pub is_zero : Constant → Bool
is_zero Zero = true
is_zero _ = false

abbrev pub is_sigaction : Kind → Bool
is_sigaction (structure n) = n == sigaction_number
is_sigaction _ = false

-- In a list for a struct sigaction, whose members have no order that a program may know (POSIX.1-2017 XBD signal.h), a part without
-- a member's name is the constant 0, and the only part.
abbrev pub positional_misfit : Kind → Bool → Constant → Option MisfitKind
positional_misfit k is_sole c = misfit_unless (not (is_sigaction k) || (is_sole && is_zero c)) LeftOut

-- ---- main (5.1.2.2.1)

abbrev pub is_plain_int : Kind → Bool
is_plain_int (int width is_signed) = width == 32 && is_signed
is_plain_int _ = false

abbrev pub is_pointer : Kind → Bool
is_pointer k = same w.Ptr (word k)

-- none; the number of arguments and their texts; or these and the environment
abbrev pub are_main_parameters : List Kind → Bool
are_main_parameters [] = true
are_main_parameters (n ∷ texts ∷ []) = is_plain_int n && is_pointer texts
are_main_parameters (n ∷ texts ∷ environment ∷ []) = is_plain_int n && is_pointer texts && is_pointer environment
are_main_parameters _ = false

abbrev pub is_main_type : Kind → Bool
is_main_type (function_of ks k) = is_plain_int k && are_main_parameters (list_of ks)
is_main_type _ = false

-- of the program itself: it has a function main of such a type
abbrev pub main_misfit : Option Kind → Option MisfitKind
main_misfit (Some k) = misfit_unless (is_main_type k) NoMain
main_misfit None = Some NoMain
