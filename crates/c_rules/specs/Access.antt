-- An index and a member (C11 6.5.2.1, 6.5.2.3).
use Rattle.std.specs.Prelude.{Bool, true, if◌then◌else◌, Option, Some, None}
use Rattle.c_kinds.specs.Kind.{Kind, int, pointer, array, structure}
use Rattle.c_rules.specs.declared.misfit.MisfitKind.TheVariants.{UnknownName, KindMismatch}
use Rattle.c_rules.specs.Judgement.{Judgement, Operand, fits, fails, after_one, after_two, by_one, by_two}

-- Of a pointer or an array (6.5.2.1p1). An array that is indexed is a name, a string, `*`, an index, `.` or `->`, or one of these in
-- parentheses: so it lies in an object.
abbrev pub index_rule : Bool → Kind → Kind → Judgement
index_rule based (pointer k) (int w s) = fits k
index_rule based (array k) (int w s) = if based then fits k else fails KindMismatch
index_rule based _ _ = fails KindMismatch

abbrev pub index : Operand → Operand → Judgement
index x y = after_two x.judged y.judged (λ k l. by_two k l (index_rule x.form.based))

-- a member of a structure with this kind, which is missing where the structure has none of that name (6.5.2.3p1, p2)
abbrev pub member_rule : Option Kind → Bool → Judgement
member_rule (Some m) based = if based then fits m else fails KindMismatch
member_rule None based = fails UnknownName

-- `.` (6.5.2.3p1): of a structure in an object, as an array that is indexed
abbrev pub dot_rule : Option Kind → Bool → Kind → Judgement
dot_rule m based (structure n) = member_rule m based
dot_rule m based _ = fails KindMismatch

abbrev pub dot : Option Kind → Operand → Judgement
dot m x = after_one x.judged (λ k. by_one k (dot_rule m x.form.based))

-- `->` (6.5.2.3p2): of a pointer to a structure
abbrev pub arrow_rule : Option Kind → Kind → Judgement
arrow_rule m (pointer k) = dot_rule m true k
arrow_rule m (array k) = dot_rule m true k
arrow_rule m _ = fails KindMismatch

abbrev pub arrow : Option Kind → Operand → Judgement
arrow m x = after_one x.judged (λ k. by_one k (arrow_rule m))
