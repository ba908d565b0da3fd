-- Parts of the rules of items, as code reads them.
use Rattle.std.specs.Prelude.{[], if◌then◌else◌}
use Rattle.c_tree.specs.declared.tree.Storage.{Storage}
use Rattle.c_tree.specs.declared.tree.Storage.TheVariants as st
use Rattle.c_tree.specs.Shape as shape
use Rattle.c_tree.specs.Shape.{Scope, of_block, outside}
use Rattle.c_tree.specs.TypeWords.{has_tag}
use Rattle.c_tree.specs.Tree.{Specifiers, DeclaratorTree, NamedTree, ItemTree, declaration_item}
use Rattle.c_grammar.specs.Body.{done, stop, look, spend, scope, strict, Outcome, and_then}
use Rattle.c_grammar.specs.Body as body
use Rattle.c_grammar.specs.Gauge.{Meter}
use Rattle.c_grammar.specs.Input.{Input}
use Rattle.c_grammar.specs.Performing.{perform, at}
use Rattle.c_grammar.specs.Rules.{NameEnvironment, Reads, skip, naming, barred, only_types, outer_types, an_outer, a_first, all_statements, an_item, may_begin, has_initializer, named_init_by, function_of, with_names, item_by, item_names_by, item_specifiers}

-- a declared name, behind its declarator
abbrev pub behind_declarator : NameEnvironment → Storage → DeclaratorTree → Reads NamedTree
behind_declarator t c x = look [] (named_init_by t 3 (may_begin c x) x)

-- one more declared name, behind a comma
abbrev pub another : Storage → Scope → Reads NamedTree
another c s = spend 1 3 (skip (body.call (an_outer c s) done))

-- a function, behind its declarator
abbrev pub function_by : NameEnvironment → Storage → Specifiers → DeclaratorTree → Reads ItemTree
function_by t c ws x = skip (body.call (all_statements t 3 (of_block outside)) (λ ss. done (function_of c ws ss x)))

-- a declaration, behind its first declarator
abbrev pub declared : Storage → Specifiers → Scope → DeclaratorTree → Input → Outcome Meter ItemTree
declared c ws s x i = and_then (perform (look [] (named_init_by (only_types s.types) 3 (has_initializer x) x)) i) (λ n us m. perform (with_names c ws s n) (at us m))

-- an item that is no typedef and has names, in the scope behind its specifiers
abbrev pub named : Storage → Specifiers → Scope → Reads ItemTree
named c ws s = naming (has_tag ws) 2 (scope 2 (a_first (only_types s.types)) (λ x. look [] (item_by c ws s x)))

-- the names of a typedef, in the scope behind its specifiers
abbrev pub type_names : Specifiers → Scope → Reads ItemTree
type_names ws s = body.call (an_outer st.Typedef s) (λ n. with_names st.Typedef ws s n)

-- the same where the first name is still to be counted
abbrev pub counted_type_names : Specifiers → Scope → Reads ItemTree
counted_type_names ws s = spend 1 3 (type_names ws s)

-- an item, behind its specifiers
abbrev pub behind_specifiers : Storage → Specifiers → Scope → Reads ItemTree
behind_specifiers c ws s = look (barred (outer_types c (shape.behind_specifiers ws s))) (item_names_by c ws (shape.behind_specifiers ws s))

-- a declaration without names
abbrev pub no_names : Storage → Specifiers → Reads ItemTree
no_names c ws = if has_tag ws then skip (done (declaration_item (record { storage = c; specs = ws; names = [] }))) else stop

-- an item, at the word of its storage
abbrev pub stored : Storage → Scope → Reads ItemTree
stored c s = spend 1 2 (skip (item_specifiers c s))

-- an item, which takes a token at least
abbrev pub one_item : Scope → Reads ItemTree
one_item s = strict (an_item s) done
