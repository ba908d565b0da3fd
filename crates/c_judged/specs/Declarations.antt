-- What is said of the nodes of declarations (C11 6.7).
use Rattle.std.specs.Prelude.{List, [], ◌∷◌, Option, Some, None, Bool, true, false, not, ◌&&◌, ◌||◌, is_some, if◌then◌else◌}
use Rattle.std.specs.Option.{option_and_then}
use Rattle.c_kinds.specs.Kind.{Kind}
use Rattle.c_kinds.specs.Matching.{agrees}
use Rattle.c_tree.specs.declared.tree.Storage.{Storage}
use Rattle.c_tree.specs.declared.tree.Storage.TheVariants as st
use Rattle.c_tree.specs.Tree.{Name, Specifiers, no_specifiers, specifiers, Specifier, struct_tag, DeclaratorTree, function, Initializer, NamedTree, DeclarationTree}
use Rattle.c_tree.specs.DeclaredNames.{declarator_name}
use Rattle.c_environment.specs.Entity as e
use Rattle.c_environment.specs.Entity.{DeclaredType, Entity, variable}
use Rattle.c_environment.specs.Environment.{Environment, entity_here, linked_entity, is_reserved, is_initialised, at_file_scope, tag_here}
use Rattle.c_environment.specs.Types.{specified}
use Rattle.c_environment.specs.Behind.{behind_specifiers, behind_declarator, declared}
use Rattle.c_environment.specs.Scopes.{is_extern, is_typedef, has_linkage, with_name, initialised_by, behind_named}
use Rattle.c_rules.specs.declared.misfit.MisfitKind.{MisfitKind}
use Rattle.c_rules.specs.declared.misfit.MisfitKind.TheVariants.{UnknownName, DeclaredTwice, NotConstant, LeftOut, KindMismatch}
use Rattle.c_rules.specs.Judgement.{Judgement, fits, silent, unless}
use Rattle.c_bindings.specs.Binding.{bound_to}
use Rattle.c_declared.specs.Said.{Said, nothing, both, named_node, formless, once}
use Rattle.c_declared.specs.Operands.{Rows}
use Rattle.c_declared.specs.declared.faults.Faults.{Faults}
use Rattle.c_declared.specs.Faults.{no_faults, faults_of_both, faults_specifiers, faults_declarator, object_faults, is_own, tag_word, names_enumeration, repeated_if}
use Rattle.c_declared.specs.Sizes.{are_sizes, sizes_of}
use Rattle.c_declared.specs.Nodes.{said_specifiers, said_declarator, broken}
use Rattle.c_judged.specs.Initializers.{or_misfit, part_misfit, is_static_initializer, said_initializer}

-- ---- declared once, or often (6.7p3, 6.2.7p2, 6.9p3)

-- a function, or an object with linkage: these may be declared again as such
abbrev pub may_stand_again : Bool → Entity → Bool
may_stand_again is_function (e.function t) = is_function
may_stand_again is_function (variable v) = not is_function && v.linked
may_stand_again is_function _ = false

-- in this block the name stands for something else already
abbrev pub clashes_with : Bool → Bool → Option Entity → Bool
clashes_with has_linkage is_function None = false
clashes_with has_linkage is_function (Some x) = not (has_linkage && may_stand_again is_function x)

abbrev pub clashes_here : Environment → Bool → Bool → Name → Bool
clashes_here env has_linkage is_function n = clashes_with has_linkage is_function (entity_here env n)

-- a name of the file's scope is none of the implementation's
abbrev pub is_taken : Environment → Bool → Bool → Name → Bool
is_taken env has_linkage is_function n = (at_file_scope env && is_reserved env n) || clashes_here env has_linkage is_function n

-- the object or function of this name has had another type
abbrev pub kind_of : Entity → Option Kind
kind_of (variable v) = Some v.of.kind
kind_of (e.function t) = Some t.kind
kind_of _ = None

abbrev pub differs_from : Kind → Option Kind → Bool
differs_from k None = false
differs_from k (Some k') = not (agrees k' k)

abbrev pub differs : Environment → Name → Kind → Bool
differs env n k = differs_from k (option_and_then kind_of (linked_entity env n))

-- ---- a declared name, of specifiers with this tag

-- An object's array has a size, unless it is initialised, which gives it one (6.7.9p22), or declared with `extern`; a type's name may be one of
-- an array without a size.
abbrev pub may_be_open : Storage → Bool → Bool
may_be_open storage initialised = initialised || is_extern storage || is_typedef storage

abbrev pub mismatched : Rows → Environment → Kind → Option Initializer → Option MisfitKind
mismatched rows env k None = None
mismatched rows env k (Some i) = part_misfit rows env (Some k) i

abbrev pub is_function_form : DeclaratorTree → Bool
is_function_form (function ss n ps v) = true
is_function_form _ = false

-- an object's type is complete, and its tag declared before it; that of a typedef's name or a function's needn't be
abbrev pub is_object : Storage → DeclaratorTree → Bool
is_object storage d = not (is_typedef storage) && not (is_function_form d)

abbrev pub named_faults : Environment → Storage → Option Specifier → DeclaredType → DeclaratorTree → Faults
named_faults env storage word t d =
    faults_of_both (if is_object storage d then object_faults env (behind_declarator env d) word (is_own d) (declared env t d) else no_faults) (faults_declarator env t d)

-- it is initialised as an object of static storage duration, by constants
abbrev pub is_static : Storage → Bool
is_static st.Static = true
is_static _ = false

abbrev pub is_lasting : Bool → Storage → Bool
is_lasting outside storage = outside || is_static storage || is_extern storage

abbrev pub is_static_if_any : Rows → Environment → Option Initializer → Bool
is_static_if_any rows env None = true
is_static_if_any rows env (Some i) = is_static_initializer rows env i

-- what is broken first of a declared name: it stands for something else already, it has had another type, or its parts have these faults
abbrev pub first_broken : Bool → Bool → Faults → Option MisfitKind
first_broken is_twice is_other f =
    or_misfit (broken f.unknown UnknownName)
    (or_misfit (broken is_twice DeclaredTwice)
    (or_misfit (broken is_other KindMismatch) (or_misfit (broken f.repeated DeclaredTwice) (broken f.passed LeftOut))))

-- Behind the declarator, before the name is in scope: the same of a name with this linkage, this type and these faults, initialised or not.
abbrev pub declared_misfit : Environment → Bool → DeclaredType → Name → Bool → Faults → Option MisfitKind
declared_misfit env linked t n initialised f =
    first_broken (is_taken env linked t.is_function n || (linked && initialised && is_initialised env n)) (linked && differs env n t.kind) f

-- what is said of it, by what is broken first, whether its sizes and its initialiser are constant, what is wrong with the initialiser, and whether
-- its type is complete where that must be
abbrev pub name_rule : Option MisfitKind → Bool → Option MisfitKind → Bool → Kind → Judgement
name_rule first are_constant misfit is_complete k =
    unless first (unless (broken (not are_constant) NotConstant) (unless misfit (unless (broken (not is_complete) KindMismatch) (fits k))))

abbrev pub is_complete_by : Storage → Bool → Faults → DeclaredType → Bool
is_complete_by storage initialised f t = not f.incomplete && (not t.is_open || may_be_open storage initialised)

abbrev pub linked_by : Environment → Storage → DeclaredType → DeclaratorTree → Bool
linked_by env storage t d = has_linkage env storage (declared env t d).is_function

abbrev pub named_rule : Rows → Environment → Environment → Storage → Option Specifier → DeclaredType → NamedTree → Judgement
named_rule rows env inner storage word t n =
    name_rule
    (declared_misfit (behind_declarator env n.declarator) (linked_by env storage t n.declarator) (declared env t n.declarator) (declarator_name n.declarator) (is_some n.init)
    (named_faults env storage word t n.declarator))
    (are_sizes env (sizes_of n.declarator) && (not (is_lasting (at_file_scope env) storage) || is_static_if_any rows inner n.init))
    (mismatched rows inner (declared env t n.declarator).kind n.init)
    (is_complete_by storage (is_some n.init) (named_faults env storage word t n.declarator) (declared env t n.declarator))
    (declared env t n.declarator).kind

abbrev pub said_optional : Rows → Environment → Kind → Option Initializer → Said
said_optional rows env k None = nothing
said_optional rows env k (Some i) = said_initializer rows env (Some k) i

-- in the initialiser the name is in scope, and initialised (6.2.1p7)
abbrev pub in_initializer : Environment → Storage → DeclaredType → NamedTree → Environment
in_initializer env storage t n =
    initialised_by (with_name (behind_declarator env n.declarator) storage (declarator_name n.declarator) (declared env t n.declarator))
    (linked_by env storage t n.declarator) (declarator_name n.declarator) n.init

abbrev pub below_named : Rows → Environment → Storage → DeclaredType → NamedTree → Said
below_named rows env storage t n =
    both (said_declarator rows env n.declarator) (said_optional rows (in_initializer env storage t n) (declared env t n.declarator).kind n.init)

abbrev pub said_named : Rows → Environment → Storage → Option Specifier → DeclaredType → NamedTree → Said
said_named rows env storage word t n =
    named_node (bound_to (in_initializer env storage t n) (declarator_name n.declarator))
    (once (below_named rows env storage t n) (named_rule rows env (in_initializer env storage t n) storage word t n)) (below_named rows env storage t n)

abbrev pub said_names : Rows → Environment → Storage → Option Specifier → DeclaredType → List NamedTree → Said
said_names rows env storage word t [] = nothing
said_names rows env storage word t (n ∷ ns) = both (said_named rows env storage word t n) (said_names rows (behind_named env storage t n) storage word t ns)

-- ---- a declaration: its tags are declared once

abbrev pub alone_faults : Environment → Specifiers → Faults
alone_faults env (specifiers (struct_tag n) no_specifiers) = repeated_if (names_enumeration (tag_here env n))
alone_faults env ws = faults_specifiers env ws

abbrev pub declaration_faults : Environment → Specifiers → List NamedTree → Faults
declaration_faults env ws [] = alone_faults env ws
declaration_faults env ws ns = faults_specifiers env ws

abbrev pub declaration_rule : Faults → Judgement
declaration_rule f = unless (broken f.repeated DeclaredTwice) silent

abbrev pub said_list : Rows → Environment → Storage → Specifiers → List NamedTree → Said
said_list rows env storage ws ns = both (said_specifiers rows env ws) (said_names rows (behind_specifiers env ws) storage (tag_word ws) (specified env ws) ns)

abbrev pub below_declaration : Rows → Environment → DeclarationTree → Said
below_declaration rows env d = said_list rows env d.storage d.specs d.names

abbrev pub said_declaration : Rows → Environment → DeclarationTree → Said
said_declaration rows env d = formless (once (below_declaration rows env d) (declaration_rule (declaration_faults env d.specs d.names))) (below_declaration rows env d)
