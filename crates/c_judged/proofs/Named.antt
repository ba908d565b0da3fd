-- What is said of a declared name, by what its declarator and its initialiser gave.
use Rattle.std.proofs.Common.{◌≡◌, Bool, ◌&&◌, ◌||◌, not, Option, is_some, if◌then◌else◌, ap, ◌∙◌}
use Rattle.c_kinds.specs.Kind.{Kind}
use Rattle.c_tree.specs.declared.tree.Storage.{Storage}
use Rattle.c_tree.specs.Tree.{Specifier, NamedTree}
use Rattle.c_tree.specs.DeclaredNames.{declarator_name}
use Rattle.c_environment.specs.Entity.{DeclaredType}
use Rattle.c_environment.specs.Environment.{Environment, at_file_scope}
use Rattle.c_environment.specs.Behind.{behind_declarator, declared}
use Rattle.c_rules.specs.declared.misfit.MisfitKind.{MisfitKind}
use Rattle.c_rules.specs.Judgement.{Judgement, waits}
use Rattle.c_declared.specs.declared.faults.Faults.{Faults}
use Rattle.c_declared.specs.Faults.{faults_declarator, is_own, tag_unknown}
use Rattle.c_declared.specs.Said.{once}
use Rattle.c_declared.specs.Sizes.{are_sizes as constant_sizes, sizes_of}
use Rattle.c_declared.specs.Operands.{Rows}
use Rattle.c_declared.specs.Nodes.{said_declarator}
use Rattle.c_judged.specs.declared.declarations.NamePart.{NamePart}
use Rattle.c_judged.specs.declared.initializers.InitPart.{InitPart}
use Rattle.c_judged.specs.Declarations.{is_lasting, name_rule, declared_misfit, is_complete_by, said_optional, is_static_if_any, mismatched, in_initializer, below_named, named_rule}
use Rattle.c_judged.specs.Parts.{linked_at, faults_behind, name_closed}

abbrev closed_by : Storage → Bool → Bool → Bool → Kind → Option MisfitKind → Bool → Bool → Bool → Option MisfitKind → Judgement
closed_by storage outside settled sizes k first complete ready fixed misfit =
    if settled && ready then name_rule first (sizes && (not (is_lasting outside storage) || fixed)) misfit complete k else waits

-- the same of equal parts
closed_same : (storage : Storage) (o o' s s' z z' : Bool) (k k' : Kind) (f f' : Option MisfitKind) (c c' r r' x x' : Bool) (m m' : Option MisfitKind) →
    o ≡ o' → s ≡ s' → z ≡ z' → k ≡ k' → f ≡ f' → c ≡ c' → r ≡ r' → x ≡ x' → m ≡ m' →
    closed_by storage o s z k f c r x m ≡ closed_by storage o' s' z' k' f' c' r' x' m'
closed_same storage o o' s s' z z' k k' f f' c c' r r' x x' m m' a1 a2 a3 a4 a5 a6 a7 a8 a9 =
    ap (λ v. closed_by storage v s z k f c r x m) a1
    ∙ ap (λ v. closed_by storage o' v z k f c r x m) a2
    ∙ ap (λ v. closed_by storage o' s' v k f c r x m) a3
    ∙ ap (λ v. closed_by storage o' s' z' v f c r x m) a4
    ∙ ap (λ v. closed_by storage o' s' z' k' v c r x m) a5
    ∙ ap (λ v. closed_by storage o' s' z' k' f' v r x m) a6
    ∙ ap (λ v. closed_by storage o' s' z' k' f' c' v x m) a7
    ∙ ap (λ v. closed_by storage o' s' z' k' f' c' r' v m) a8
    ∙ ap (λ v. closed_by storage o' s' z' k' f' c' r' x' v) a9

-- a function of what is known behind the declarator, at equal values
at_same : {A : Type 0} (g : Bool → Environment → Bool → DeclaredType → Faults → A) (o o' : Bool) (e e' : Environment) (u u' : Bool) (t t' : DeclaredType) (f f' : Faults) →
    o ≡ o' → e ≡ e' → u ≡ u' → t ≡ t' → f ≡ f' → g o e u t f ≡ g o' e' u' t' f'
at_same g o o' e e' u u' t t' f f' a1 a2 a3 a4 a5 =
    ap (λ v. g v e u t f) a1 ∙ ap (λ v. g o' v u t f) a2 ∙ ap (λ v. g o' e' v t f) a3 ∙ ap (λ v. g o' e' u' v f) a4 ∙ ap (λ v. g o' e' u' t' v) a5

pub closed_is : (rows : Rows) (env at inner : Environment) (storage : Storage) (word : Option Specifier) (t of : DeclaredType) (n : NamedTree) (outside unknown settled sizes : Bool) (faults : Faults) (p : NamePart) (i : InitPart) →
    outside ≡ at_file_scope env → unknown ≡ (is_own n.declarator && tag_unknown env word) →
    settled ≡ (said_declarator rows env n.declarator).settled → sizes ≡ constant_sizes env (sizes_of n.declarator) → of ≡ declared env t n.declarator →
    faults ≡ faults_declarator env t n.declarator → at ≡ behind_declarator env n.declarator →
    p.first ≡ declared_misfit at (linked_at outside storage of.is_function) of (declarator_name n.declarator) (is_some n.init) (faults_behind at storage unknown of n.declarator faults) →
    p.is_complete ≡ is_complete_by storage (is_some n.init) (faults_behind at storage unknown of n.declarator faults) of →
    inner ≡ in_initializer env storage t n →
    i.settled ≡ (said_optional rows inner of.kind n.init).settled → i.fixed ≡ is_static_if_any rows inner n.init → i.misfit ≡ mismatched rows inner of.kind n.init →
    name_closed outside storage settled sizes of.kind p i ≡ once (below_named rows env storage t n) (named_rule rows env (in_initializer env storage t n) storage word t n)
closed_is rows env at inner storage word t of n outside unknown settled sizes faults p i a b c d e f g h j k l m q =
    closed_same storage outside (at_file_scope env) settled (said_declarator rows env n.declarator).settled sizes (constant_sizes env (sizes_of n.declarator)) of.kind (declared env t n.declarator).kind
    p.first
    (declared_misfit (behind_declarator env n.declarator) (linked_at (at_file_scope env) storage (declared env t n.declarator).is_function) (declared env t n.declarator) (declarator_name n.declarator) (is_some n.init)
    (faults_behind (behind_declarator env n.declarator) storage (is_own n.declarator && tag_unknown env word) (declared env t n.declarator) n.declarator (faults_declarator env t n.declarator)))
    p.is_complete
    (is_complete_by storage (is_some n.init)
    (faults_behind (behind_declarator env n.declarator) storage (is_own n.declarator && tag_unknown env word) (declared env t n.declarator) n.declarator (faults_declarator env t n.declarator)) (declared env t n.declarator))
    i.settled (said_optional rows (in_initializer env storage t n) (declared env t n.declarator).kind n.init).settled
    i.fixed (is_static_if_any rows (in_initializer env storage t n) n.init)
    i.misfit (mismatched rows (in_initializer env storage t n) (declared env t n.declarator).kind n.init)
    a c d (ap (λ v. v.kind) e)
    (h ∙ at_same (λ o x u y w. declared_misfit x (linked_at o storage y.is_function) y (declarator_name n.declarator) (is_some n.init) (faults_behind x storage u y n.declarator w))
    outside (at_file_scope env) at (behind_declarator env n.declarator) unknown (is_own n.declarator && tag_unknown env word) of (declared env t n.declarator) faults (faults_declarator env t n.declarator) a g b e f)
    (j ∙ at_same (λ o x u y w. is_complete_by storage (is_some n.init) (faults_behind x storage u y n.declarator w) y)
    outside (at_file_scope env) at (behind_declarator env n.declarator) unknown (is_own n.declarator && tag_unknown env word) of (declared env t n.declarator) faults (faults_declarator env t n.declarator) a g b e f)
    (l ∙ ap (λ v. (said_optional rows v of.kind n.init).settled) k ∙ ap (λ v. (said_optional rows (in_initializer env storage t n) v.kind n.init).settled) e)
    (m ∙ ap (λ v. is_static_if_any rows v n.init) k)
    (q ∙ ap (λ v. mismatched rows v of.kind n.init) k ∙ ap (λ v. mismatched rows (in_initializer env storage t n) v.kind n.init) e)
