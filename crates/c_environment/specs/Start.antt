-- What the names stand for before the first item: those of the implementation; and what the unit defines (C11 6.9p3, 6.9.2).
use Rattle.std.specs.Prelude.{ℕ, suc, List, [], ◌∷◌, ◌++◌, map, Option, Some, None, is_some, Bool, true, false, bytes_eq, codes, if◌then◌else◌}
use Rattle.c_kinds.specs.Kind as k
use Rattle.c_kinds.specs.Kind.{Kind}
use Rattle.c_scopes.specs.Scope.{Name, Scope, declare}
use Rattle.c_builtins.specs.declared.types.BuiltInType.{BuiltInType}
use Rattle.c_builtins.specs.declared.types.BuiltInType.TheVariants as t
use Rattle.c_builtins.specs.Names.{built_ins}
use Rattle.c_builtins.specs.Types.{type_names, tags, structures}
use Rattle.c_tree.specs.declared.tree.Storage.{Storage}
use Rattle.c_tree.specs.declared.tree.Storage.TheVariants as st
use Rattle.c_tree.specs.Tree.{DeclaratorTree, function, NamedTree, ItemTree, function_item, declaration_item}
use Rattle.c_tree.specs.DeclaredNames.{declarator_name}
use Rattle.c_environment.specs.Entity as e
use Rattle.c_environment.specs.Entity.{DeclaredType, Entity, Members, no_members, with_member, Structure}
use Rattle.c_environment.specs.Environment.{Environment}

-- ---- the implementation

-- a pointer to a function of an int, and to one of an int and two pointers, without a result (POSIX.1-2017 XBD signal.h)
abbrev pub handler : Kind
handler = k.function (k.int 32 true ∷ []) k.void

abbrev pub action : Kind
action = k.function (k.int 32 true ∷ k.pointer k.void ∷ k.pointer k.void ∷ []) k.void

abbrev pub built_in_kind : BuiltInType → Kind
built_in_kind (t.Int w s) = k.int w s
built_in_kind t.Signals = k.signals
built_in_kind t.Kernel = k.kernel
built_in_kind (t.Structure n) = k.structure n
built_in_kind t.Text = k.array (k.int 8 true)
built_in_kind t.Handler = handler
built_in_kind t.Action = action

abbrev pub built_in_type : Name × BuiltInType → Entity
built_in_type p = e.type_name (record { kind = built_in_kind p.1; is_function = false; is_open = false; constant = false; volatile = false; atomic = bytes_eq p.0 (codes "sig_atomic_t") })

-- names for the things from this number on, one after the other
abbrev pub numbered : ℕ → List Name → Scope → Scope
numbered i [] s = s
numbered i (n ∷ ns) s = numbered (suc i) ns (declare n i s)

abbrev pub libraries : ℕ → List Name → List Entity
libraries i [] = []
libraries i (n ∷ ns) = e.library i ∷ libraries (suc i) ns

-- the built-in names, the names of types, and the rows of the table of library functions in its order
abbrev pub implementation_names : List Name → List Name
implementation_names rows = map (λ b. b.0) built_ins ++ (map (λ b. b.0) type_names ++ rows)

abbrev pub implementation_entities : List Name → List Entity
implementation_entities rows = map (λ b. e.built_in b.1) built_ins ++ (map built_in_type type_names ++ libraries 0 rows)

abbrev pub members_of : Members → List (Name × BuiltInType) → Members
members_of ms [] = ms
members_of ms (p ∷ ps) = members_of (with_member ms p.0 (built_in_kind p.1)) ps

abbrev pub built_in_structure : List (Name × BuiltInType) → Structure
built_in_structure ps = record { members = members_of no_members ps; begun = true; complete = true; declared = true }

abbrev pub structure_tags : ℕ → List Name → List (Option ℕ)
structure_tags i [] = []
structure_tags i (n ∷ ns) = Some i ∷ structure_tags (suc i) ns

-- ---- what the unit defines

abbrev pub one_block : Scope
one_block = [] ∷ []

-- the functions with a body, in order of the text
abbrev pub function_names : List ItemTree → List Name
function_names [] = []
function_names (function_item f ∷ is) = f.name ∷ function_names is
function_names (declaration_item d ∷ is) = function_names is

-- a declaration at file scope defines an object where it isn't `extern` or has an initialiser (6.9.2p1, p2)
abbrev pub defines : Storage → NamedTree → Bool
defines st.Typedef n = false
defines st.Extern n = is_some n.init
defines _ n = true

abbrev pub is_function_form : DeclaratorTree → Bool
is_function_form (function ss n ps v) = true
is_function_form _ = false

abbrev pub defined_name : Storage → NamedTree → List Name
defined_name storage n = if is_function_form n.declarator then [] else if defines storage n then declarator_name n.declarator ∷ [] else []

abbrev pub defined_names : Storage → List NamedTree → List Name
defined_names storage [] = []
defined_names storage (n ∷ ns) = defined_name storage n ++ defined_names storage ns

abbrev pub object_names : List ItemTree → List Name
object_names [] = []
object_names (function_item f ∷ is) = object_names is
object_names (declaration_item d ∷ is) = defined_names d.storage d.names ++ object_names is

-- before the first item of a unit, over a table with rows of these names
abbrev pub start : List Name → List ItemTree → Environment
start rows items = record {
  entities = implementation_entities rows;
  names = one_block;
  implementation = numbered 0 (implementation_names rows) one_block;
  linked = one_block;
  tags = [] ∷ numbered 0 tags one_block;
  tagged = structure_tags 0 tags;
  structures = map built_in_structure structures;
  variables = 0;
  inside = None;
  functions = numbered 0 (function_names items) one_block;
  objects = numbered 0 (object_names items) one_block;
  initialised = one_block;
  labels = one_block;
}
