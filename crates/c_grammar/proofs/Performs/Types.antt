-- The bodies of the rules of types and their specifiers are fine.
use Rattle.std.proofs.Common.{ℕ, ◌+◌, if◌then◌else◌, Bool, true, false, List, [], refl, Option, Some, None}
use Rattle.c_tree.specs.declared.type_word.TypeWord.{TypeWord}
use Rattle.c_tree.specs.Tree.{Name, Specifiers, Specifier, Members, Declarators, Enumerators}
use Rattle.c_grammar.specs.declared.kind.Kind.{Kind}
use Rattle.c_grammar.specs.declared.kind.Kind.TheVariants as k
use Rattle.c_grammar.specs.Body.{done, stop, spend, call}
use Rattle.c_grammar.specs.Rules.{NameEnvironment, begins_type, start_of, ends_type, specifiers_by, struct_body_by, struct_by, more_members_by, more_declarators_by, enum_body_by, enum_by, enumerator_by, next_enumerator_by, more_enumerators_by, a_type, all_specifiers, a_struct, all_members, more_members, all_declarators, more_declarators, an_enum, all_enumerators, more_enumerators}
use Rattle.c_grammar.specs.declared.start.Start.{Start}
use Rattle.c_grammar.specs.declared.start.Start.TheVariants as sp
use Rattle.c_grammar.proofs.Performs.Steps.{Fine, IsFine, fine_done, fine_stop, fine_look, fine_spend, fine_call, fine_if, fine_take, fine_expect, fine_name, fine_naming}

at_end : {free seen : Bool} {limit : ℕ} (ws : List TypeWord) → Fine Specifiers free limit seen (ends_type ws)
at_end ws = fine_if _ fine_done fine_stop

by_start : (t : NameEnvironment) (d : ℕ) (b : Bool) (ws : List TypeWord) (s : Option Start) → Fine Specifiers false 1 true (specifiers_by t d b ws s)
by_start t d b ws None = at_end ws
by_start t d b ws (Some (sp.Qualifier x)) = fine_take (λ n. fine_call refl (λ xs. fine_done))
by_start t d b ws (Some (sp.Keyword x)) = fine_if _ (fine_naming b d (fine_take (λ n. fine_call refl (λ xs. fine_done)))) (at_end ws)
by_start t d b ws (Some sp.TypeName) = fine_if _ (fine_naming b d (fine_take (λ n. fine_call refl (λ xs. fine_done)))) (at_end ws)
by_start t d b ws (Some sp.Struct) = fine_if _ (fine_take (λ n. fine_call refl (λ x. fine_call refl (λ xs. fine_done)))) (at_end ws)
by_start t d b ws (Some sp.Enum) = fine_if _ (fine_take (λ n. fine_call refl (λ x. fine_call refl (λ xs. fine_done)))) (at_end ws)

by_struct_body : (t : NameEnvironment) (d : ℕ) (n : Name) (e : Kind) → Fine Specifier true 1 true (struct_body_by t d n e)
by_struct_body t d n k.OpenBrace = fine_spend (fine_take (λ m. fine_call refl (λ ms. fine_done)))
by_struct_body t d n _ = fine_done

by_struct : (t : NameEnvironment) (d : ℕ) (e : Kind) → Fine Specifier false 1 true (struct_by t d e)
by_struct t d k.Name = fine_take (λ n. fine_look fine_done (by_struct_body t d n))
by_struct t d k.OpenBrace = fine_spend (fine_take (λ n. fine_call refl (λ ms. fine_done)))
by_struct t d _ = fine_stop

other_members : {seen : Bool} (t : NameEnvironment) (d : ℕ) (b : Bool) → Fine Members false 5 seen (if b then spend 1 (d + 1) (call (all_members t d) done) else stop)
other_members t d b = fine_if b (fine_spend (fine_call refl (λ ms. fine_done))) fine_stop

by_more_members : (t : NameEnvironment) (d : ℕ) (e : Kind) → Fine Members false 5 true (more_members_by t d e)
by_more_members t d k.CloseBrace = fine_take (λ n. fine_done)
by_more_members t d e = other_members t d (begins_type e)

by_more_declarators : (t : NameEnvironment) (d : ℕ) (e : Kind) → Fine Declarators false 1 true (more_declarators_by t d e)
by_more_declarators t d k.Comma = fine_spend (fine_take (λ n. fine_call refl (λ c. fine_call refl (λ cs. fine_done))))
by_more_declarators t d _ = fine_done

by_enum_body : (t : NameEnvironment) (d : ℕ) (n : Name) (e : Kind) → Fine Specifier true 1 true (enum_body_by t d n e)
by_enum_body t d n k.OpenBrace = fine_spend (fine_take (λ m. fine_call refl (λ es. fine_done)))
by_enum_body t d n _ = fine_done

by_enum : (t : NameEnvironment) (d : ℕ) (e : Kind) → Fine Specifier false 1 true (enum_by t d e)
by_enum t d k.Name = fine_take (λ n. fine_look fine_done (by_enum_body t d n))
by_enum t d k.OpenBrace = fine_spend (fine_take (λ n. fine_call refl (λ es. fine_done)))
by_enum t d _ = fine_stop

by_enumerator : (t : NameEnvironment) (d : ℕ) (n : Name) (e : Kind) → Fine (Enumerators × Bool) true 1 true (enumerator_by t d n e)
by_enumerator t d n k.Assign = fine_spend (fine_take (λ m. fine_call refl (λ x. fine_call refl (λ es. fine_done))))
by_enumerator t d n _ = fine_call refl (λ es. fine_done)

by_next_enumerator : (t : NameEnvironment) (d : ℕ) (e : Kind) → Fine (Enumerators × Bool) true 1 true (next_enumerator_by t d e)
by_next_enumerator t d k.CloseBrace = fine_take (λ n. fine_done)
by_next_enumerator t d k.Name = fine_spend (fine_call refl (λ es. fine_done))
by_next_enumerator t d _ = fine_stop

by_more_enumerators : (t : NameEnvironment) (d : ℕ) (e : Kind) → Fine (Enumerators × Bool) false 1 true (more_enumerators_by t d e)
by_more_enumerators t d k.CloseBrace = fine_take (λ n. fine_done)
by_more_enumerators t d k.Comma = fine_take (λ n. fine_look fine_stop (by_next_enumerator t d))
by_more_enumerators t d _ = fine_stop

pub type_fine : (t : NameEnvironment) (d : ℕ) → IsFine (a_type t d)
type_fine t d = fine_call refl (λ ws. fine_call refl (λ x. fine_done))

pub specifiers_fine : (t : NameEnvironment) (d : ℕ) (b : Bool) (ws : List TypeWord) → IsFine (all_specifiers t d b ws)
specifiers_fine t d b ws = fine_look (at_end ws) (λ e. by_start t d b ws (start_of e))

pub struct_fine : (t : NameEnvironment) (d : ℕ) → IsFine (a_struct t d)
struct_fine t d = fine_look fine_stop (by_struct t d)

pub members_fine : (t : NameEnvironment) (d : ℕ) → IsFine (all_members t d)
members_fine t d = fine_call refl (λ ws. fine_call refl (λ cs. fine_expect k.Semicolon tt (fine_call refl (λ ms. fine_done))))

pub more_members_fine : (t : NameEnvironment) (d : ℕ) → IsFine (more_members t d)
more_members_fine t d = fine_look fine_stop (by_more_members t d)

pub declarators_fine : (t : NameEnvironment) (d : ℕ) → IsFine (all_declarators t d)
declarators_fine t d = fine_call refl (λ c. fine_call refl (λ cs. fine_done))

pub more_declarators_fine : (t : NameEnvironment) (d : ℕ) → IsFine (more_declarators t d)
more_declarators_fine t d = fine_look fine_done (by_more_declarators t d)

pub enum_fine : (t : NameEnvironment) (d : ℕ) → IsFine (an_enum t d)
enum_fine t d = fine_look fine_stop (by_enum t d)

pub enumerators_fine : (t : NameEnvironment) (d : ℕ) → IsFine (all_enumerators t d)
enumerators_fine t d = fine_name [] (λ n. fine_look (fine_call refl (λ es. fine_done)) (by_enumerator t d n))

pub more_enumerators_fine : (t : NameEnvironment) (d : ℕ) → IsFine (more_enumerators t d)
more_enumerators_fine t d = fine_look fine_stop (by_more_enumerators t d)
