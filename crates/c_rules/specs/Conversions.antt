-- Casts and sizeof (C11 6.5.4, 6.5.3.4).
use Rattle.std.specs.Prelude.{Bool, true, false, if◌then◌else◌}
use Rattle.c_kinds.specs.Kind.{Kind, void, int, pointer, function_of, decayed}
use Rattle.c_rules.specs.declared.misfit.MisfitKind.TheVariants.{LeftOut}
use Rattle.c_rules.specs.declared.form.Constant.{Constant}
use Rattle.c_rules.specs.declared.form.Constant.TheVariants.{Zero}
use Rattle.c_rules.specs.Judgement.{Judgement, Operand, fits, fails, after_one, by_one}
use Rattle.c_rules.specs.Types.{size}

-- To void (6.5.4p2), between integers and pointers to objects (6.3.2.3p5 to p7), between pointers to functions (6.3.2.3p8), and of the
-- constant 0 to one (6.3.2.3p3). The subset leaves all other casts out.
abbrev pub may_cast : Kind → Constant → Kind → Bool
may_cast void c k = true
may_cast (int w s) c (int w' s') = true
may_cast (int w s) c (pointer k) = true
may_cast (pointer t) c (int w s) = true
may_cast (pointer t) c (pointer k) = true
may_cast (function_of ts t) c (function_of ks k) = true
may_cast (function_of ts t) Zero (int w s) = true
may_cast _ c _ = false

abbrev pub cast_rule : Kind → Constant → Kind → Judgement
cast_rule to c k = if may_cast to c (decayed k) then fits to else fails LeftOut

abbrev pub cast : Kind → Operand → Judgement
cast to x = after_one x.judged (λ k. by_one k (cast_rule to x.form.constant))

-- sizeof gives a size_t (6.5.3.4p5)
abbrev pub size_of_type : Judgement
size_of_type = fits size

abbrev pub size_of : Operand → Judgement
size_of x = after_one x.judged (λ k. by_one k (λ _. size_of_type))
