-- What is said of one part of a list, and what the names stand for behind it: of a size, an enumerator, a member, a parameter.
use Rattle.std.specs.Prelude.{ℕ, List, Option, Some, None, ℤ, Bool, true, ◌&&◌}
use Rattle.c_tree.specs.Tree.{Expression, Specifiers, Specifier, Declarators, DeclaratorTree, ParameterForm, BareTree}
use Rattle.c_environment.specs.Entity.{DeclaredType, Members, enumerator}
use Rattle.c_environment.specs.Environment.{Environment, with_entity}
use Rattle.c_environment.specs.Types.{specified, adjusted}
use Rattle.c_environment.specs.Behind as behind
use Rattle.c_environment.specs.Behind.{behind_expression, behind_specifiers, behind_declarators, behind_declarator, behind_form, behind_bare, declared, declared_members, bare}
use Rattle.c_rules.specs.Judgement.{Judgement}
use Rattle.c_declared.specs.declared.faults.Faults.{Faults}
use Rattle.c_declared.specs.Said.{Said, nothing, both, node, valued_node, once}
use Rattle.c_declared.specs.Operands.{Rows}
use Rattle.c_declared.specs.Faults.{faults_of_both, faults_bare, faults_declarator, is_own, is_own_bare, tag_word, tag_unknown}
use Rattle.c_declared.specs.Sizes.{may_be_size, are_sizes, sizes_of}
use Rattle.c_declared.specs.Ends.{parameter_type_faults, parameter_judgement}
use Rattle.c_declared.specs.Nodes.{said, said_specifiers, said_declarators, said_declarator, said_form, enumerator_rule, member_rule}

-- ---- a size of an array, which may be left open

abbrev pub said_size : Rows → Environment → Option Expression → Said
said_size rows env None = nothing
said_size rows env (Some x) = said rows env x

abbrev pub is_size : Environment → Option Expression → Bool
is_size env None = true
is_size env (Some x) = may_be_size env x

abbrev pub behind_size : Environment → Option Expression → Environment
behind_size env None = env
behind_size env (Some x) = behind_expression env x

-- ---- an enumerator with its value, where it has one

abbrev pub said_value : Rows → Environment → List ℕ → Option Expression → Option ℤ → Said
said_value rows env n None v = valued_node v (enumerator_rule env n v) nothing
said_value rows env n (Some x) v = valued_node v (once (said rows env x) (enumerator_rule (behind_expression env x) n v)) (said rows env x)

abbrev pub said_enumerator : Rows → Environment → (List ℕ × Option Expression) → Option ℤ → Said
said_enumerator rows env e v = said_value rows env e.0 e.1 v

abbrev pub behind_enumerator : Environment → (List ℕ × Option Expression) → Option ℤ → Environment
behind_enumerator env e v = with_entity (behind_size env e.1) e.0 (enumerator v)

-- ---- a member, behind those before it, and members of one type

abbrev pub said_named_member : Rows → Environment → Members → Option Specifier → DeclaredType → DeclaratorTree → Said
said_named_member rows env earlier word t d = node (once (said_declarator rows env d) (member_rule env earlier word t d)) (said_declarator rows env d)

abbrev pub said_member : Rows → Environment → Members → (Specifiers × Declarators) → Said
said_member rows env earlier m = both (said_specifiers rows env m.0) (said_declarators rows (behind_specifiers env m.0) earlier (tag_word m.0) (specified env m.0) m.1)

abbrev pub members_behind : Environment → Members → (Specifiers × Declarators) → Members
members_behind env earlier m = declared_members (behind_specifiers env m.0) earlier (specified env m.0) m.1

abbrev pub behind_member : Environment → (Specifiers × Declarators) → Environment
behind_member env m = behind_declarators (behind_specifiers env m.0) m.1

-- ---- a parameter

abbrev pub said_parameter : Rows → Bool → Environment → (Specifiers × ParameterForm) → Said
said_parameter rows has_body env p = said_form rows has_body env p.0 (said_specifiers rows env p.0) p.1

abbrev pub parameter_type : Environment → (Specifiers × ParameterForm) → DeclaredType
parameter_type env p = behind.parameter_type (behind_specifiers env p.0) (specified env p.0) p.1

abbrev pub behind_parameter : Bool → Environment → (Specifiers × ParameterForm) → Environment
behind_parameter has_body env p = behind_form has_body (behind_specifiers env p.0) (specified env p.0) p.1

-- with a name, behind its specifiers, which are settled, have these faults and this tag
abbrev pub parameter_judged : Rows → Environment → Bool → Faults → Option Specifier → DeclaredType → DeclaratorTree → Judgement
parameter_judged rows env settled outside word t d =
    parameter_judgement (behind_declarator env d) (is_own d && tag_unknown env word) outside d (settled && (said_declarator rows env d).settled) (faults_declarator env t d)
    (are_sizes env (sizes_of d)) (declared env t d)

-- without a name
abbrev pub bare_faults : Environment → Faults → Option Specifier → DeclaredType → BareTree → Faults
bare_faults env outside word t b =
    faults_of_both outside (faults_of_both (parameter_type_faults (behind_bare env b) (is_own_bare b && tag_unknown env word) (adjusted (bare env t b))) (faults_bare env t b))
