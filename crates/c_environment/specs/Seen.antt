-- The plain data that what is declared, and what names stand for, are seen as.
use Rattle.std.specs.Prelude.{map}
use Rattle.c_kinds.specs.View.{view}
use Rattle.c_environment.specs.Entity as e
use Rattle.c_environment.specs.Environment as plain
use Rattle.c_environment.specs.declared.entity.DeclaredType.{DeclaredType}
use Rattle.c_environment.specs.declared.entity.Variable.{Variable}
use Rattle.c_environment.specs.declared.entity.Entity.{Entity}
use Rattle.c_environment.specs.declared.entity.Entity.TheVariants as v
use Rattle.c_environment.specs.declared.members.Members.{Members}
use Rattle.c_environment.specs.declared.members.Structure.{Structure}
use Rattle.c_environment.specs.declared.environment.Environment.{Environment}

abbrev pub seen_type : DeclaredType → e.DeclaredType
seen_type t = record { kind = view t.kind; is_function = t.is_function; is_open = t.is_open; constant = t.constant; volatile = t.volatile; atomic = t.atomic }

abbrev pub seen_variable : Variable → e.Variable
seen_variable x = record { number = x.number; of = seen_type x.of; owner = x.owner; lasting = x.lasting; linked = x.linked }

abbrev pub seen_entity : Entity → e.Entity
seen_entity (v.Variable x) = e.variable (seen_variable x)
seen_entity (v.Parameter t) = e.parameter (seen_type t)
seen_entity (v.Function t) = e.function (seen_type t)
seen_entity (v.Enumerator n) = e.enumerator n
seen_entity (v.TypeName t) = e.type_name (seen_type t)
seen_entity (v.Library k) = e.library k
seen_entity (v.BuiltIn b) = e.built_in b

abbrev pub seen_members : Members → e.Members
seen_members ms = record { names = ms.names; kinds = map view ms.kinds.items }

abbrev pub seen_structure : Structure → e.Structure
seen_structure s = record { members = seen_members s.members; begun = s.begun; complete = s.complete; declared = s.declared }

abbrev pub seen_environment : Environment → plain.Environment
seen_environment x = record {
  entities = map seen_entity x.entities.items;
  names = x.names;
  implementation = x.implementation;
  linked = x.linked;
  tags = x.tags;
  tagged = x.tagged.items;
  structures = map seen_structure x.structures.items;
  variables = x.variables;
  inside = x.inside;
  functions = x.functions;
  objects = x.objects;
  initialised = x.initialised;
  labels = x.labels;
}
