-- A call of a function of the program, or by a pointer to a function (C11 6.5.2.2).
use Rattle.std.specs.Prelude.{List, [], ◌∷◌, length, ◌==◌, Bool, true, false, ◌&&◌, if◌then◌else◌, is_some}
use Rattle.std.specs.List.{list_all}
use Rattle.c_kinds.specs.Kind.{Kind, function_of, list_of}
use Rattle.c_rules.specs.declared.misfit.MisfitKind.TheVariants.{NotCallable, WrongCount, KindMismatch}
use Rattle.c_rules.specs.Judgement.{Judgement, Operand, fits, fails, waits, kind, after_all, by_one}
use Rattle.c_rules.specs.Values.{is_accepted}

-- each argument may stand where its parameter's kind is due (p2)
abbrev pub are_accepted : List Kind → List Operand → Bool
are_accepted [] [] = true
are_accepted (due ∷ dues) (x ∷ xs) = is_accepted due x.form.constant (kind x.judged) && are_accepted dues xs
are_accepted _ _ = false

-- the call's kind, where each argument has one
abbrev pub given : List Operand → Kind → Judgement
given xs k = if list_all (λ x. is_some (kind x.judged)) xs then fits k else waits

-- the arguments are as many as the parameters, and each may stand for its own (p2)
abbrev pub called : List Operand → List Kind → Kind → Judgement
called xs dues k =
    if length xs == length dues then (if are_accepted dues xs then given xs k else fails KindMismatch) else fails WrongCount

-- what is called is a pointer to a function (p1)
abbrev pub call_rule : List Operand → Kind → Judgement
call_rule xs (function_of dues k) = called xs (list_of dues) k
call_rule xs _ = fails NotCallable

abbrev pub call : Operand → List Operand → Judgement
call f xs = after_all (f ∷ xs) (by_one (kind f.judged) (call_rule xs))
