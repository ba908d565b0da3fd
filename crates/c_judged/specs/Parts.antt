-- What the parts of initialisers and declarations give, from which what is said of the whole follows.
use Rattle.std.specs.Prelude.{Option, None, Bool, true, false, not, ◌&&◌, ◌||◌, if◌then◌else◌}
use Rattle.c_kinds.specs.Kind.{Kind}
use Rattle.c_rules.specs.declared.form.Constant.TheVariants.{Other}
use Rattle.c_rules.specs.Judgement.{Judgement, waits}
use Rattle.c_judged.specs.declared.declarations.NamePart.{NamePart}
use Rattle.c_judged.specs.declared.initializers.InitPart.{InitPart}
use Rattle.c_judged.specs.declared.initializers.ListPart.{ListPart}
use Rattle.c_tree.specs.declared.tree.Storage.{Storage}
use Rattle.c_tree.specs.Tree.{DeclaratorTree}
use Rattle.c_environment.specs.Entity.{DeclaredType}
use Rattle.c_environment.specs.Environment.{Environment}
use Rattle.c_environment.specs.Scopes.{is_extern, is_typedef}
use Rattle.c_declared.specs.declared.faults.Faults.{Faults}
use Rattle.c_declared.specs.Ends.{object_type_faults}
use Rattle.c_declared.specs.Faults.{no_faults, faults_of_both}
use Rattle.c_judged.specs.Initializers.{or_misfit, place_misfit, list_judgement}
use Rattle.c_judged.specs.Declarations.{is_object, is_lasting, name_rule}

abbrev pub no_part : ListPart
no_part = record { settled = true; fixed = true; unknown = false; positional = None; misfit = None; next = 0 }

abbrev pub and_part : ListPart → ListPart → ListPart
and_part p q = record {
  settled = p.settled && q.settled;
  fixed = p.fixed && q.fixed;
  unknown = p.unknown || q.unknown;
  positional = or_misfit p.positional q.positional;
  misfit = or_misfit p.misfit q.misfit;
  next = q.next;
}

-- a list is settled, whatever is said of it
abbrev pub of_list : Option Kind → ListPart → InitPart
of_list due p = record { settled = true; fixed = p.fixed; constant = Other; misfit = place_misfit due }

abbrev pub list_closed : Option Kind → ListPart → Judgement
list_closed due p = if p.settled then list_judgement due p.unknown p.positional p.misfit else waits

-- ---- a declared name

abbrev pub linked_at : Bool → Storage → Bool → Bool
linked_at outside storage is_function = not (is_typedef storage) && (is_function || outside || is_extern storage)

-- behind the declarator, which has these faults; whether the type's tag was unknown before it
abbrev pub faults_behind : Environment → Storage → Bool → DeclaredType → DeclaratorTree → Faults → Faults
faults_behind further storage unknown t d faults =
    faults_of_both (if is_object storage d then object_type_faults further unknown t else no_faults) faults

-- once the declarator and the initialiser are settled
abbrev pub name_closed : Bool → Storage → Bool → Bool → Kind → NamePart → InitPart → Judgement
name_closed outside storage settled are_sizes k p i =
    if settled && i.settled then name_rule p.first (are_sizes && (not (is_lasting outside storage) || i.fixed)) i.misfit p.is_complete k else waits
