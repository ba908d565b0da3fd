-- Values and the places that they are stored into: conversion, assignment, initialisation, return (C11 6.5.16, 6.7.9, 6.8.6.4).
use Rattle.std.specs.Prelude.{Bool, true, false, ◌&&◌, ◌||◌, not, if◌then◌else◌, ◌==◌, Option, Some, None}
use Rattle.c_kinds.specs.Kind.{Kind, int, pointer, array, word}
use Rattle.c_kinds.specs.Word.{is_pointer, same}
use Rattle.c_kinds.specs.declared.word.Word.TheVariants as w
use Rattle.c_kinds.specs.Matching.{matches}
use Rattle.c_tree.specs.declared.tree.AssignOp.{AssignOp}
use Rattle.c_tree.specs.declared.tree.AssignOp.TheVariants as o
use Rattle.c_rules.specs.declared.misfit.MisfitKind.{MisfitKind}
use Rattle.c_rules.specs.declared.misfit.MisfitKind.TheVariants.{KindMismatch, NotAssignable}
use Rattle.c_rules.specs.declared.form.Form.{Form}
use Rattle.c_rules.specs.declared.form.Constant.{Constant}
use Rattle.c_rules.specs.declared.form.Constant.TheVariants.{Zero, Null, Disposition, Initializer, Text}
use Rattle.c_rules.specs.declared.form.Designates.{Designates}
use Rattle.c_rules.specs.declared.form.Designates.TheVariants.{Object, Errno}
use Rattle.c_rules.specs.Judgement.{Judgement, Operand, fits, fails, kind, after_one, after_two, by_one, by_two}
use Rattle.c_rules.specs.Types.{is_int}

-- ---- which values may stand where

-- a null pointer constant (6.3.2.3p3)
abbrev pub is_null : Constant → Bool
is_null Zero = true
is_null Null = true
is_null _ = false

-- SIG_DFL, SIG_IGN or SIG_ERR (7.14p3), which stand for a function of any type
abbrev pub is_disposition : Constant → Bool
is_disposition Disposition = true
is_disposition _ = false

-- the constant may stand where this kind is due, whatever its own kind is
abbrev pub stands_for : Constant → Kind → Bool
stands_for c due = (is_null c && is_pointer (word due)) || (is_disposition c && same w.FnPtr (word due))

-- a value may stand where this kind is due (6.5.16.1p1)
abbrev pub may_stand : Constant → Kind → Kind → Bool
may_stand c k due = matches k due || stands_for c due

-- the same of an operand; none whose kind is missing is refused
abbrev pub is_accepted : Kind → Constant → Option Kind → Bool
is_accepted due c (Some k) = may_stand c k due
is_accepted due c None = true

-- ---- places

abbrev pub is_array : Option Kind → Bool
is_array (Some (array k)) = true
is_array _ = false

-- an object that may be stored into: it isn't declared const, nor a part of one that is
abbrev pub is_storable : Designates → Bool
is_storable Object = true
is_storable Errno = true
is_storable _ = false

-- a modifiable lvalue designates such an object, and is no array (6.3.2.1p1)
abbrev pub is_modifiable : Form → Option Kind → Bool
is_modifiable f k = is_storable f.designates && not (is_array k)

-- ---- operators that store

abbrev pub fits_if : Bool → Kind → Judgement
fits_if holds k = if holds then fits k else fails KindMismatch

-- what a number of steps may be added to: an integer or a pointer to an object
abbrev pub is_step : Kind → Bool
is_step (int w s) = true
is_step (pointer k) = true
is_step _ = false

-- simple assignment (6.5.16.1p1), and compound assignment (6.5.16.2p1, p2)
abbrev pub assign_rule : AssignOp → Constant → Kind → Kind → Judgement
assign_rule o.Plain c k l = fits_if (may_stand c l k) k
assign_rule o.Add c k l = fits_if (is_step k && is_int l) k
assign_rule o.Sub c k l = fits_if (is_step k && is_int l) k
assign_rule _ c k l = fits_if (is_int k && is_int l) k

-- the left operand is a modifiable lvalue (6.5.16p2)
abbrev pub assign : AssignOp → Operand → Operand → Judgement
assign o x y = after_two x.judged y.judged (λ k l.
    if is_modifiable x.form k then by_two k l (assign_rule o y.form.constant) else fails NotAssignable)

-- `++` and `--`, before and behind (6.5.2.4p1, 6.5.3.1p1)
abbrev pub step_rule : Kind → Judgement
step_rule k = fits_if (is_step k) k

abbrev pub step : Operand → Judgement
step x = after_one x.judged (λ k. if is_modifiable x.form k then by_one k step_rule else fails NotAssignable)

-- ---- initialisers

-- an array of char, signed char or unsigned char, which a string literal initialises (6.7.9p14)
abbrev pub is_char_array : Kind → Bool
is_char_array (array (int width is_signed)) = width == 8
is_char_array _ = false

abbrev pub is_kernel : Kind → Bool
is_kernel k = same w.Kernel (word k)

abbrev pub is_text : Constant → Bool
is_text Text = true
is_text _ = false

abbrev pub is_initializer : Constant → Bool
is_initializer Initializer = true
is_initializer _ = false

-- An expression initialises an object of this kind: as an assignment stores it (6.7.9p11), as a string literal an array (p14), or as
-- PTHREAD_MUTEX_INITIALIZER a mutex (POSIX.1-2017 XSH pthread_mutex_init).
abbrev pub initialises : Constant → Kind → Kind → Bool
initialises c k due = may_stand c k due || (is_text c && is_char_array due) || (is_initializer c && is_kernel due)

abbrev pub initial_rule : Kind → Constant → Option Kind → Option MisfitKind
initial_rule due c (Some k) = if initialises c k due then None else Some KindMismatch
initial_rule due c None = None

abbrev pub initialiser_misfit : Kind → Operand → Option MisfitKind
initialiser_misfit due x = initial_rule due x.form.constant (kind x.judged)
