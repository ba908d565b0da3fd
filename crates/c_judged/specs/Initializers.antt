-- What is said of the nodes of initialisers (C11 6.7.9), for an object of a kind, where that is known.
use Rattle.std.specs.Prelude.{ℕ, suc, Option, Some, None, Bool, true, false, ◌&&◌, ◌||◌, is_none, if◌then◌else◌}
use Rattle.std.specs.Option.{option_and_then}
use Rattle.c_kinds.specs.Kind.{Kind, array, structure}
use Rattle.c_tree.specs.Tree.{Name, Initializer, single, listed, Initializers, no_initializers, initializers}
use Rattle.c_environment.specs.Entity as e
use Rattle.c_environment.specs.Entity.{Members, no_members, Structure, member_at}
use Rattle.c_environment.specs.Environment.{Environment, structure as structure_at}
use Rattle.c_environment.specs.Scopes.{behind_initializer}
use Rattle.c_rules.specs.declared.misfit.MisfitKind.{MisfitKind}
use Rattle.c_rules.specs.declared.misfit.MisfitKind.TheVariants.{UnknownName, KindMismatch}
use Rattle.c_rules.specs.declared.form.Constant.{Constant}
use Rattle.c_rules.specs.declared.form.Constant.TheVariants.{Other}
use Rattle.c_rules.specs.Judgement.{Judgement, Operand, silent, unless}
use Rattle.c_rules.specs.Values.{initialiser_misfit}
use Rattle.c_rules.specs.Declarations.{list_misfit, positional_misfit}
use Rattle.c_declared.specs.Said.{Said, nothing, both, formless, once}
use Rattle.c_declared.specs.Operands.{Rows}
use Rattle.c_declared.specs.Nodes.{operand, said}
use Rattle.c_declared.specs.StaticConstants.{may_be_static}

-- ---- initialisers of objects with static storage duration (6.7.9p4)

abbrev mutual
  pub is_static_initializer : Rows → Environment → Initializer → Bool
  is_static_initializer rows env (single x) = may_be_static rows env x
  is_static_initializer rows env (listed ps last) = are_static_initializers rows env ps

  pub are_static_initializers : Rows → Environment → Initializers → Bool
  are_static_initializers rows env no_initializers = true
  are_static_initializers rows env (initializers n i ps) = is_static_initializer rows env i && are_static_initializers rows (behind_initializer env i) ps

-- ---- the parts of a list (6.7.9p17, p18, p20): each fills the element behind that of the part before it, or the member that it names

abbrev pub members_of : Option Structure → Members
members_of None = no_members
members_of (Some s) = s.members

-- the kind of the element at a place
abbrev pub element : Environment → Option Kind → ℕ → Option Kind
element env (Some (array k)) i = Some k
element env (Some (structure k)) i = member_at (members_of (structure_at env k)) i
element env _ i = None

abbrev pub member_place : Environment → Option Kind → Name → Option ℕ
member_place env (Some (structure k)) m = e.member_place (members_of (structure_at env k)) m
member_place env _ m = None

-- the place that a part fills, behind a place
abbrev pub filled : Environment → Option Kind → ℕ → Option Name → Option ℕ
filled env due i None = Some i
filled env due i (Some m) = member_place env due m

abbrev pub next_place : ℕ → Option ℕ → ℕ
next_place i (Some j) = suc j
next_place i None = suc i

abbrev pub filled_kind : Environment → Option Kind → Option ℕ → Option Kind
filled_kind env due j = option_and_then (element env due) j

-- the constant that a part is
abbrev pub constant_of : Rows → Environment → Initializer → Constant
constant_of rows env (single x) = (operand rows env x).form.constant
constant_of rows env (listed ps last) = Other

-- what is broken by the parts, one rule after the other: each named member is one of the structure
abbrev pub names_unknown : Environment → Option Kind → ℕ → Initializers → Bool
names_unknown env due i no_initializers = false
names_unknown env due i (initializers n x ps) =
    is_none (filled env due i n) || names_unknown (behind_initializer env x) due (next_place i (filled env due i n)) ps

abbrev pub is_sole : Initializers → Bool
is_sole (initializers n x no_initializers) = true
is_sole _ = false

-- of a struct sigaction no part but a sole 0 stands without its member's name
abbrev pub positional_by : Option Kind → Bool → Option Name → Constant → Option MisfitKind
positional_by (Some k) alone None c = positional_misfit k alone c
positional_by _ alone _ c = None

abbrev pub positional_part : Rows → Environment → Option Kind → Bool → Option Name → Initializer → Option MisfitKind
positional_part rows env due alone n x = positional_by due alone n (constant_of rows env x)

abbrev pub or_misfit : Option MisfitKind → Option MisfitKind → Option MisfitKind
or_misfit (Some m) o = Some m
or_misfit None o = o

abbrev pub positional_parts : Rows → Environment → Option Kind → Bool → Initializers → Option MisfitKind
positional_parts rows env due alone no_initializers = None
positional_parts rows env due alone (initializers n x ps) =
    or_misfit (positional_part rows env due alone n x) (positional_parts rows (behind_initializer env x) due alone ps)

-- there is an element to fill, and a part that is no list may stand there
abbrev pub operand_misfit : Option Kind → Operand → Option MisfitKind
operand_misfit None x = Some KindMismatch
operand_misfit (Some k) x = initialiser_misfit k x

abbrev pub place_misfit : Option Kind → Option MisfitKind
place_misfit None = Some KindMismatch
place_misfit (Some k) = None

abbrev pub part_misfit : Rows → Environment → Option Kind → Initializer → Option MisfitKind
part_misfit rows env due (single x) = operand_misfit due (operand rows env x)
part_misfit rows env due (listed ps last) = place_misfit due

abbrev pub parts_misfit : Rows → Environment → Option Kind → ℕ → Initializers → Option MisfitKind
parts_misfit rows env due i no_initializers = None
parts_misfit rows env due i (initializers n x ps) =
    or_misfit (part_misfit rows env (filled_kind env due (filled env due i n)) x)
    (parts_misfit rows (behind_initializer env x) due (next_place i (filled env due i n)) ps)

abbrev pub unknown_if : Bool → Option MisfitKind
unknown_if holds = if holds then Some UnknownName else None

-- by what its parts give: an unknown member, a part of a struct sigaction by its place, a part of another type
abbrev pub list_judgement : Option Kind → Bool → Option MisfitKind → Option MisfitKind → Judgement
list_judgement None unknown positional misfit = silent
list_judgement (Some k) unknown positional misfit =
    unless (unknown_if unknown) (unless positional (unless (or_misfit (list_misfit k) misfit) silent))

abbrev pub list_rule : Rows → Environment → Option Kind → Initializers → Judgement
list_rule rows env due ps =
    list_judgement due (names_unknown env due 0 ps) (positional_parts rows env due (is_sole ps) ps) (parts_misfit rows env due 0 ps)

abbrev mutual
  pub said_initializer : Rows → Environment → Option Kind → Initializer → Said
  said_initializer rows env due (single x) = said rows env x
  said_initializer rows env due (listed ps last) =
      formless (once (said_initializers rows env due 0 ps) (list_rule rows env due ps)) (said_initializers rows env due 0 ps)

  pub said_initializers : Rows → Environment → Option Kind → ℕ → Initializers → Said
  said_initializers rows env due i no_initializers = nothing
  said_initializers rows env due i (initializers n x ps) =
      both (said_initializer rows env (filled_kind env due (filled env due i n)) x)
      (said_initializers rows (behind_initializer env x) due (next_place i (filled env due i n)) ps)
