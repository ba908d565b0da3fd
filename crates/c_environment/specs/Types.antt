-- Which types specifiers and declarators give (C11 6.7.2, 6.7.3, 6.7.6), where they declare nothing that counts for it but tags.
use Rattle.std.specs.Prelude.{ℕ, List, [], ◌∷◌, length, Option, Some, None, Bool, true, false, not, ◌||◌, if◌then◌else◌}
use Rattle.c_tree.specs.declared.tree.Qual.TheVariants as q
use Rattle.c_kinds.specs.Kind as kinds
use Rattle.c_kinds.specs.Kind.{Kind}
use Rattle.c_scopes.specs.Scope.{Name}
use Rattle.c_tree.specs.Tree.{Quals, Stars, Sizes, no_sizes, open_size, size, Specifiers, no_specifiers, specifiers, Specifier, const_word, volatile_word, void_word, char_word, short_word, long_word, unsigned_word, type_name, struct_tag, struct_of, enum_tag, enum_of}
use Rattle.c_environment.specs.Entity.{DeclaredType, simple}
use Rattle.c_environment.specs.Environment.{Environment, entity, type_of, tag, tag_here}

-- ---- specifiers

abbrev pub is_const : Specifier → Bool
is_const const_word = true
is_const _ = false

abbrev pub is_volatile : Specifier → Bool
is_volatile volatile_word = true
is_volatile _ = false

abbrev pub is_char : Specifier → Bool
is_char char_word = true
is_char _ = false

abbrev pub is_short : Specifier → Bool
is_short short_word = true
is_short _ = false

abbrev pub is_long : Specifier → Bool
is_long long_word = true
is_long _ = false

abbrev pub is_unsigned : Specifier → Bool
is_unsigned unsigned_word = true
is_unsigned _ = false

abbrev pub stands_among : (Specifier → Bool) → Specifiers → Bool
stands_among is no_specifiers = false
stands_among is (specifiers w ws) = is w || stands_among is ws

-- char, short, int, and long as on LP64, with or without a sign; char is signed (6.2.5p4, p15)
abbrev pub width : Specifiers → ℕ
width ws = if stands_among is_char ws then 8 else if stands_among is_short ws then 16 else if stands_among is_long ws then 64 else 32

abbrev pub integer_kind : Specifiers → Kind
integer_kind ws = kinds.int (width ws) (not (stands_among is_unsigned ws))

-- the number of the structure that a tag names, a new one where it names none
abbrev pub structure_number : Environment → Option (Option ℕ) → ℕ
structure_number env (Some (Some k)) = k
structure_number env _ = length env.structures

-- a tag alone names what is visible (6.7.2.3p8), a tag with braces what its own block has declared (p7)
abbrev pub mentioned_structure : Environment → Name → ℕ
mentioned_structure env n = structure_number env (tag env n)

abbrev pub defined_structure : Environment → Option Name → ℕ
defined_structure env None = length env.structures
defined_structure env (Some n) = structure_number env (tag_here env n)

-- the type of an enumeration is int, as its constants are (6.7.2.2p3, p4)
abbrev pub plain_int : Kind
plain_int = kinds.int 32 true

-- a word that names a whole type
abbrev pub whole : Environment → Specifier → Option DeclaredType
whole env void_word = Some (simple kinds.void)
whole env (type_name n) = type_of (entity env n)
whole env (struct_tag n) = Some (simple (kinds.structure (mentioned_structure env n)))
whole env (struct_of t ms) = Some (simple (kinds.structure (defined_structure env t)))
whole env (enum_tag n) = Some (simple plain_int)
whole env (enum_of t es last) = Some (simple plain_int)
whole env _ = None

abbrev pub or_next : Option DeclaredType → Option DeclaredType → Option DeclaredType
or_next (Some t) o = Some t
or_next None o = o

-- the first of these; specifiers have at most one
abbrev pub first_whole : Environment → Specifiers → Option DeclaredType
first_whole env no_specifiers = None
first_whole env (specifiers w ws) = or_next (whole env w) (first_whole env ws)

abbrev pub or_integer : Option DeclaredType → Kind → DeclaredType
or_integer (Some t) k = t
or_integer None k = simple k

-- qualifiers that a typedef name has already may be given again (6.7.3p5)
abbrev pub qualified : Bool → Bool → DeclaredType → DeclaredType
qualified is_const is_volatile t = record t { constant = is_const || t.constant; volatile = is_volatile || t.volatile }

-- the type that specifiers name, at a place where names stand for this
abbrev pub specified : Environment → Specifiers → DeclaredType
specified env ws = qualified (stands_among is_const ws) (stands_among is_volatile ws) (or_integer (first_whole env ws) (integer_kind ws))

-- ---- declarators

abbrev pub has_const : Quals → Bool
has_const [] = false
has_const (q.Const ∷ qs) = true
has_const (q.Volatile ∷ qs) = has_const qs

abbrev pub has_volatile : Quals → Bool
has_volatile [] = false
has_volatile (q.Volatile ∷ qs) = true
has_volatile (q.Const ∷ qs) = has_volatile qs

-- what points to it (6.7.6.1); a function's kind is that of pointers to it already
abbrev pub pointed_kind : DeclaredType → Kind
pointed_kind t = if t.is_function then t.kind else kinds.pointer t.kind

-- a pointer with these qualifiers
abbrev pub pointer_to : Quals → DeclaredType → DeclaredType
pointer_to qs t = record { kind = pointed_kind t; is_function = false; is_open = false; constant = has_const qs; volatile = has_volatile qs; atomic = false }

abbrev pub pointed : Stars → DeclaredType → DeclaredType
pointed [] t = t
pointed (qs ∷ ss) t = pointed ss (pointer_to qs t)

-- an array for each pair of brackets (6.7.6.2); what qualifies its elements qualifies it (6.7.3p9)
abbrev pub array_kind : Sizes → Kind → Kind
array_kind no_sizes k = k
array_kind (open_size xs) k = kinds.array (array_kind xs k)
array_kind (size x xs) k = kinds.array (array_kind xs k)

abbrev pub has_sizes : Sizes → Bool
has_sizes no_sizes = false
has_sizes _ = true

-- the outermost array has no size (6.7.6.2p4)
abbrev pub begins_open : Sizes → Bool
begins_open (open_size xs) = true
begins_open _ = false

abbrev pub arrayed : Sizes → DeclaredType → DeclaredType
arrayed no_sizes t = t
arrayed xs t = record t { kind = array_kind xs t.kind; is_open = begins_open xs; atomic = false }

-- a function of these parameters (6.7.6.3)
abbrev pub function_kind : List Kind → DeclaredType → Kind
function_kind ks t = kinds.function ks t.kind

abbrev pub function_type : List Kind → DeclaredType → DeclaredType
function_type ks t = record { kind = function_kind ks t; is_function = true; is_open = false; constant = false; volatile = false; atomic = false }

-- a pointer to one, or an array of them
abbrev pub pointer_type : Quals → Sizes → List Kind → DeclaredType → DeclaredType
pointer_type qs xs ks t = arrayed xs (record { kind = function_kind ks t; is_function = false; is_open = false; constant = has_const qs; volatile = has_volatile qs; atomic = false })

abbrev pub adjusted_by : DeclaredType → Kind → DeclaredType
adjusted_by t (kinds.array k) = simple (kinds.pointer k)
adjusted_by t _ = t

-- A parameter that is declared as an array is a pointer to its element (6.7.6.3p7), without the array's qualifiers.
abbrev pub adjusted : DeclaredType → DeclaredType
adjusted t = adjusted_by t t.kind
