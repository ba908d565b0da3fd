-- What is said of a declared name behind its declarator, by what that gives.
use Rattle.std.specs.Prelude.{Bool, false, not, is_some, if◌then◌else◌}
use Rattle.c_tree.specs.Tree.{DeclaratorTree}
use Rattle.c_tree.specs.DeclaredNames.{declarator_name}
use Rattle.c_environment.specs.Entity.{DeclaredType, Members, member}
use Rattle.c_environment.specs.Environment.{Environment, is_declared_here}
use Rattle.c_environment.specs.Types.{adjusted}
use Rattle.c_rules.specs.Judgement.{Judgement, waits}
use Rattle.c_declared.specs.declared.faults.Faults.{Faults}
use Rattle.c_declared.specs.Faults.{faults_of_both, incomplete_type, is_passed}
use Rattle.c_declared.specs.Nodes.{declared_rule}

-- an object with this type, whose tag was unknown before its declarator, or not
abbrev pub object_type_faults : Environment → Bool → DeclaredType → Faults
object_type_faults further is_unknown t = record { unknown = is_unknown; repeated = false; passed = false; incomplete = incomplete_type further t }

abbrev pub parameter_type_faults : Environment → Bool → DeclaredType → Faults
parameter_type_faults further is_unknown t = record { unknown = is_unknown; repeated = false; passed = is_passed t.kind; incomplete = incomplete_type further t }

-- a member; its declarator is settled, has these faults and constant sizes, and gives this type
abbrev pub member_judgement : Environment → Bool → Members → DeclaratorTree → Bool → Faults → Bool → DeclaredType → Judgement
member_judgement further is_unknown earlier d settled faults are_constant t =
    if settled
    then declared_rule (faults_of_both (object_type_faults further is_unknown t) faults) (is_some (member earlier (declarator_name d))) are_constant (not t.is_open) t.kind
    else waits

-- a parameter with a name; its specifiers have these faults
abbrev pub parameter_judgement : Environment → Bool → Faults → DeclaratorTree → Bool → Faults → Bool → DeclaredType → Judgement
parameter_judgement further is_unknown outside d settled faults are_constant t =
    if settled
    then declared_rule (faults_of_both outside (faults_of_both (parameter_type_faults further is_unknown (adjusted t)) faults)) (is_declared_here further (declarator_name d)) are_constant
    (not (adjusted t).is_open) (adjusted t).kind
    else waits
