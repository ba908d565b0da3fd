-- What breaks a rule in types and declarators outside of the nodes that stand in them: it is told at the innermost node whose text holds it.
use Rattle.std.specs.Prelude.{ℕ, [], ◌∷◌, Option, Some, None, Bool, true, false, not, ◌&&◌, ◌||◌, is_some, is_none}
use Rattle.c_kinds.specs.Kind.{Kind, structure, innermost}
use Rattle.c_tree.specs.Tree.{Name, Stars, Sizes, TypeTree, typed, Specifiers, no_specifiers, specifiers, Specifier, struct_tag, struct_of, enum_tag, enum_of, Members, no_members, member, DeclaratorTree, plain, array, function, pointer, Parameters, no_parameters, parameters, ParameterForm, named_form, bare_form, BareTree, bare_stars, bare_pointer}
use Rattle.c_environment.specs.Entity.{DeclaredType, Structure}
use Rattle.c_environment.specs.Environment.{Environment, tag, tag_here, structure as structure_at, entered}
use Rattle.c_environment.specs.Types.{specified, pointed, adjusted}
use Rattle.c_environment.specs.Behind.{opened, behind_specifiers, behind_declarators, behind_sizes, behind_specifier, behind_bare, behind_form, bare}
use Rattle.c_rules.specs.Declarations.{object_misfit, passed_misfit}
use Rattle.c_declared.specs.declared.faults.Faults.{Faults}
use Rattle.c_declared.specs.Sizes.{elements_are_complete}

-- Which rules are broken: an object has the type of a tag that isn't declared; a tag is declared twice, or as a structure and as an
-- enumeration; a structure or a sigset_t is passed or returned by value; an object's type isn't complete, or is void or a function's.
abbrev pub no_faults : Faults
no_faults = record { unknown = false; repeated = false; passed = false; incomplete = false }

abbrev pub faults_of_both : Faults → Faults → Faults
faults_of_both f g = record { unknown = f.unknown || g.unknown; repeated = f.repeated || g.repeated; passed = f.passed || g.passed; incomplete = f.incomplete || g.incomplete }

abbrev pub repeated_if : Bool → Faults
repeated_if holds = record no_faults { repeated = holds }

-- ---- tags (6.7.2.3)

-- braces: members of the tag have begun in this block already (p1), though they may not have ended, or it is an enumeration's (p3)
abbrev pub has_begun : Option Structure → Bool
has_begun None = false
has_begun (Some s) = s.begun

abbrev pub structure_clashes : Environment → Option (Option ℕ) → Bool
structure_clashes env None = false
structure_clashes env (Some None) = true
structure_clashes env (Some (Some k)) = has_begun (structure_at env k)

abbrev pub names_enumeration : Option (Option ℕ) → Bool
names_enumeration (Some None) = true
names_enumeration _ = false

abbrev pub names_structure : Option (Option ℕ) → Bool
names_structure (Some (Some k)) = true
names_structure _ = false

abbrev pub structure_repeats : Environment → Option Name → Bool
structure_repeats env None = false
structure_repeats env (Some n) = structure_clashes env (tag_here env n)

abbrev pub enumeration_repeats : Environment → Option Name → Bool
enumeration_repeats env None = false
enumeration_repeats env (Some n) = is_some (tag_here env n)

-- a tag that is neither declared nor has members (p3, 6.2.1p7)
abbrev pub is_undeclared : Option Structure → Bool
is_undeclared None = true
is_undeclared (Some s) = not s.complete && not s.declared

abbrev pub structure_unknown : Environment → Option (Option ℕ) → Bool
structure_unknown env (Some (Some k)) = is_undeclared (structure_at env k)
structure_unknown env _ = true

-- the tag among the specifiers that stands without members or enumerators
abbrev pub tag_word : Specifiers → Option Specifier
tag_word no_specifiers = None
tag_word (specifiers (struct_tag n) ws) = Some (struct_tag n)
tag_word (specifiers (enum_tag n) ws) = Some (enum_tag n)
tag_word (specifiers w ws) = tag_word ws

-- specifiers with this one have a tag that isn't declared
abbrev pub tag_unknown : Environment → Option Specifier → Bool
tag_unknown env (Some (struct_tag n)) = structure_unknown env (tag env n)
tag_unknown env (Some (enum_tag n)) = is_none (tag env n)
tag_unknown env _ = false

-- ---- objects (6.7p7)

abbrev pub is_completed : Option Structure → Bool
is_completed None = false
is_completed (Some s) = s.complete

abbrev pub is_complete : Environment → Kind → Bool
is_complete env (structure k) = is_completed (structure_at env k)
is_complete env _ = true

abbrev pub incomplete_type : Environment → DeclaredType → Bool
incomplete_type env t = is_some (object_misfit (is_complete env (innermost t.kind)) t.is_function t.kind)

abbrev pub is_passed : Kind → Bool
is_passed k = is_some (passed_misfit k)

-- An object whose specifiers have this tag, or a parameter, before its declarator and behind it: whether it has their type itself, without a
-- star, and the type that it has. Its tag is declared before, its type is complete behind (6.7p7).
abbrev pub object_faults : Environment → Environment → Option Specifier → Bool → DeclaredType → Faults
object_faults env further word is_own t = record { unknown = is_own && tag_unknown env word; repeated = false; passed = false; incomplete = incomplete_type further t }

abbrev pub parameter_faults : Environment → Environment → Option Specifier → Bool → DeclaredType → Faults
parameter_faults env further word is_own t = record (object_faults env further word is_own t) { passed = is_passed t.kind }

abbrev pub result_faults : DeclaredType → Faults
result_faults t = record no_faults { passed = is_passed t.kind }

abbrev pub has_stars : Stars → Bool
has_stars [] = false
has_stars (qs ∷ ss) = true

-- the declared name has the specifiers' type itself, or is an array of it
abbrev pub is_own : DeclaratorTree → Bool
is_own (plain ss n) = not (has_stars ss)
is_own (array ss n xs) = not (has_stars ss)
is_own _ = false

abbrev pub is_own_bare : BareTree → Bool
is_own_bare (bare_stars ss) = not (has_stars ss)
is_own_bare (bare_pointer ss qs ps v) = false

-- ---- types

abbrev mutual
  pub faults_specifiers : Environment → Specifiers → Faults
  faults_specifiers env no_specifiers = no_faults
  faults_specifiers env (specifiers w ws) = faults_of_both (faults_specifier env w) (faults_specifiers (behind_specifier env w) ws)

  -- the members of a structure are nodes of their own, their specifiers are not
  pub faults_specifier : Environment → Specifier → Faults
  faults_specifier env (struct_tag n) = repeated_if (names_enumeration (tag env n))
  faults_specifier env (struct_of t ms) = faults_of_both (repeated_if (structure_repeats env t)) (faults_members (opened env t) ms)
  faults_specifier env (enum_tag n) = repeated_if (names_structure (tag env n))
  faults_specifier env (enum_of t es last) = repeated_if (enumeration_repeats env t)
  faults_specifier env _ = no_faults

  pub faults_members : Environment → Members → Faults
  faults_members env no_members = no_faults
  faults_members env (member ws ds ms) = faults_of_both (faults_specifiers env ws) (faults_members (behind_declarators (behind_specifiers env ws) ds) ms)

abbrev mutual
  -- parameters without a name, and results
  pub faults_parameters : Bool → Environment → Parameters → Faults
  faults_parameters has_body env no_parameters = no_faults
  faults_parameters has_body env (parameters ws f ps) =
      faults_of_both (faults_form env ws f) (faults_parameters has_body (behind_form has_body (behind_specifiers env ws) (specified env ws) f) ps)

  pub faults_form : Environment → Specifiers → ParameterForm → Faults
  faults_form env ws (named_form d) = no_faults
  faults_form env ws (bare_form b) =
      faults_of_both (faults_specifiers env ws)
      (faults_of_both
      (parameter_faults (behind_specifiers env ws) (behind_bare (behind_specifiers env ws) b) (tag_word ws) (is_own_bare b) (adjusted (bare (behind_specifiers env ws) (specified env ws) b)))
      (faults_bare (behind_specifiers env ws) (specified env ws) b))

  pub faults_bare : Environment → DeclaredType → BareTree → Faults
  faults_bare env t (bare_stars ss) = no_faults
  faults_bare env t (bare_pointer ss qs ps v) = faults_of_both (result_faults (pointed ss t)) (faults_parameters false (entered env) ps)

-- an array with these sizes (6.7.6.2p1), whatever is declared with it
abbrev pub element_faults : Bool → Sizes → Faults
element_faults is_open xs = record no_faults { incomplete = not (elements_are_complete is_open xs) }

abbrev pub faults_declarator : Environment → DeclaredType → DeclaratorTree → Faults
faults_declarator env t (plain ss n) = no_faults
faults_declarator env t (array ss n xs) = element_faults (pointed ss t).is_open xs
faults_declarator env t (function ss n ps v) = faults_of_both (result_faults (pointed ss t)) (faults_parameters false (entered env) ps)
faults_declarator env t (pointer ss qs n xs ps v) =
    faults_of_both (element_faults false xs) (faults_of_both (result_faults (pointed ss t)) (faults_parameters false (entered (behind_sizes env xs)) ps))

-- the type name of a cast or of sizeof: no object has its type
abbrev pub faults_type : Environment → TypeTree → Faults
faults_type env (typed ws b) = faults_of_both (faults_specifiers env ws) (faults_bare (behind_specifiers env ws) (specified env ws) b)
