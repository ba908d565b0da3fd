-- Statements by the kinds of their expressions (C11 6.8). A statement has no kind by its form.
use Rattle.std.specs.Prelude.{Bool, true, if◌then◌else◌, Option, Some, None}
use Rattle.c_kinds.specs.Kind.{Kind, void}
use Rattle.c_rules.specs.declared.misfit.MisfitKind.TheVariants.{KindMismatch}
use Rattle.c_rules.specs.declared.form.Constant.{Constant}
use Rattle.c_rules.specs.Judgement.{Judgement, Operand, fails, silent, after_one}
use Rattle.c_rules.specs.Types.{is_int, is_condition}
use Rattle.c_rules.specs.Values.{is_accepted}

abbrev pub silent_if : Bool → Judgement
silent_if holds = if holds then silent else fails KindMismatch

abbrev pub holds_of : (Kind → Bool) → Option Kind → Bool
holds_of test (Some k) = test k
holds_of test None = true

-- an expression with `;` (6.8.3p2)
abbrev pub evaluated : Operand → Judgement
evaluated x = after_one x.judged (λ k. silent)

-- the controlling expression of if, while, do and for is a scalar (6.8.4.1p1, 6.8.5p2)
abbrev pub condition : Operand → Judgement
condition x = after_one x.judged (λ k. silent_if (holds_of is_condition k))

-- that of switch is an integer (6.8.4.2p1)
abbrev pub switched : Operand → Judgement
switched x = after_one x.judged (λ k. silent_if (holds_of is_int k))

-- A return in a function with this result (6.8.6.4p1, p3): with an expression in all but those of void.
abbrev pub return_nothing : Kind → Judgement
return_nothing void = silent
return_nothing _ = fails KindMismatch

abbrev pub return_rule : Kind → Constant → Option Kind → Judgement
return_rule void c k = fails KindMismatch
return_rule result c k = silent_if (is_accepted result c k)

abbrev pub returned : Kind → Operand → Judgement
returned result x = after_one x.judged (return_rule result x.form.constant)
