-- What the rules of expressions look at, at a place where names stand for this, over a table with these rows (C11 6.5).
use Rattle.std.specs.Prelude.{ℕ, List, Option, Some, None, Bool, true, slice_get}
use Rattle.std.specs.Option.{option_and_then}
use Rattle.posix_table.specs.declared.row.Row.{Row}
use Rattle.c_kinds.specs.Kind.{Kind, pointer, array, structure}
use Rattle.c_tree.specs.Tree.{Name, Expression, name}
use Rattle.c_environment.specs.Entity.{member, Structure}
use Rattle.c_environment.specs.Environment.{Environment, structure as structure_at}
use Rattle.c_rules.specs.Judgement.{Judgement, Operand}
use Rattle.c_rules.specs.declared.form.Form.{Form}
use Rattle.c_rules.specs.Form as form
use Rattle.c_rules.specs.Names as names
use Rattle.c_rules.specs.Calls as calls
use Rattle.c_rules.specs.LibraryCalls.{library_call}
use Rattle.c_declared.specs.Denotes.{denoted, kind_of, library_of}

abbrev pub Rows : Type 0
Rows = List Row

-- the kind of the member of a structure (6.5.2.3p1)
abbrev pub member_of : Name → Option Structure → Option Kind
member_of m None = None
member_of m (Some s) = member s.members m

abbrev pub member_kind : Environment → Name → Option Kind → Option Kind
member_kind env m (Some (structure k)) = member_of m (structure_at env k)
member_kind env m _ = None

-- of what a pointer points to, as which an array stands
abbrev pub pointed_member : Environment → Name → Option Kind → Option Kind
pointed_member env m (Some (pointer k)) = member_kind env m (Some k)
pointed_member env m (Some (array k)) = member_kind env m (Some k)
pointed_member env m _ = None

-- an operand whose form no rule looks at
abbrev pub valued : Judgement → Operand
valued j = record { judged = j; form = form.plain_form }

abbrev pub placed : Judgement → Form → Operand
placed j f = record { judged = j; form = f }

-- a name, as an operand or before the arguments of a call
abbrev pub named_operand : Environment → Name → Bool → Operand
named_operand env n as_callee = placed (names.named (denoted env n) (kind_of env n) as_callee) (form.name_form (denoted env n))

-- the row of a library function
abbrev pub row_at : Rows → Option ℕ → Option Row
row_at rows k = option_and_then (λ i. slice_get rows i) k

abbrev pub row_of : Rows → Environment → Expression → Option Row
row_of rows env (name n) = row_at rows (library_of env n)
row_of rows env _ = None

-- a call by the row of a library function's plain name, else by the kind of what is called (6.5.2.2)
abbrev pub called : Option Row → Operand → List Operand → Judgement
called (Some row) f xs = library_call row xs
called None f xs = calls.call f xs

-- what is called: the plain name of a library function may stand there
abbrev pub as_callee : Environment → Expression → Operand → Operand
as_callee env (name n) x = named_operand env n true
as_callee env f x = x
