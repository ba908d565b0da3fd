-- Steps between the code and the names before the first item.
use Rattle.std.specs.Prelude.{ℕ, suc, List, [], ◌∷◌, ◌++◌, map, length, Some, None}
use Rattle.c_scopes.specs.Scope as scope
use Rattle.c_scopes.specs.Scope.{Name, Scope, declare}
use Rattle.c_builtins.specs.declared.names.BuiltIn.{BuiltIn}
use Rattle.c_builtins.specs.declared.types.BuiltInType.{BuiltInType}
use Rattle.c_environment.specs.Entity as e
use Rattle.c_environment.specs.Entity.{Entity}
use Rattle.c_environment.specs.Environment.{Environment, with_tag}
use Rattle.c_environment.specs.Start.{built_in_type, built_in_structure, one_block}

-- ---- names of the implementation

-- a name more, and what it stands for
abbrev pub with_known : Environment → Name × Entity → Environment
with_known env k = record env { entities = env.entities ++ k.1 ∷ []; implementation = declare k.0 (length env.entities) env.implementation }

abbrev pub with_all_known : Environment → List (Name × Entity) → Environment
with_all_known env [] = env
with_all_known env (k ∷ ks) = with_all_known (with_known env k) ks

abbrev pub known_built_in : Name × BuiltIn → Name × Entity
known_built_in b = (b.0, e.built_in b.1)

abbrev pub known_type : Name × BuiltInType → Name × Entity
known_type t = (t.0, built_in_type t)

abbrev pub known_rows : ℕ → List Name → List (Name × Entity)
known_rows i [] = []
known_rows i (n ∷ ns) = (n, e.library i) ∷ known_rows (suc i) ns

-- tags of the structures from this number on
abbrev pub with_tags : Environment → ℕ → List Name → Environment
with_tags env i [] = env
with_tags env i (n ∷ ns) = with_tags (with_tag env n (Some i)) (suc i) ns

abbrev pub with_tags_entered : Environment → Environment
with_tags_entered env = record env { tags = scope.enter env.tags }

abbrev pub with_built_in_structures : Environment → List (List (Name × BuiltInType)) → Environment
with_built_in_structures env [] = env
with_built_in_structures env (ms ∷ mss) = with_built_in_structures (record env { structures = env.structures ++ built_in_structure ms ∷ [] }) mss

-- with these built-in names, types, rows, tags and structures
abbrev pub filled : Environment → List (Name × BuiltIn) → List (Name × BuiltInType) → List Name → List Name → List (List (Name × BuiltInType)) → Environment
filled env bs ts rows gs mss =
    with_built_in_structures (with_tags_entered (with_tags (with_all_known (with_all_known (with_all_known env (map known_built_in bs)) (map known_type ts)) (known_rows 0 rows)) 0 gs)) mss

-- nothing is declared; the unit has these functions and objects
abbrev pub nothing : Scope → Scope → Environment
nothing fs os = record {
  entities = [];
  names = one_block;
  implementation = one_block;
  linked = one_block;
  tags = one_block;
  tagged = [];
  structures = [];
  variables = 0;
  inside = None;
  functions = fs;
  objects = os;
  initialised = one_block;
  labels = one_block;
}
