-- What is said of parts that stand one after another, by what each adds.
use Rattle.std.proofs.Common.{◌≡◌, ℕ, ◌+◌, ◌<◌, List, [], ◌∷◌, ◌++◌, length, get_or, drop, suc, Bool, ◌&&◌, Option, Result, Ok, Err, ap, sym, ◌∙◌, subst, add-one, drop-cons, append_assoc, OnOk}
use Rattle.c_judgements.specs.Parts.{added}
use Rattle.c_bindings.specs.Told.{Told}
use Rattle.c_tree.specs.Tree as c
use Rattle.c_environment.specs.Entity.{DeclaredType, Members}
use Rattle.c_environment.specs.Environment.{Environment}
use Rattle.c_environment.specs.Types.{specified}
use Rattle.c_environment.specs.Behind.{behind_specifiers}
use Rattle.c_declared.specs.declared.faults.Faults.{Faults}
use Rattle.c_declared.specs.Faults.{faults_of_both, tag_word}
use Rattle.c_declared.specs.Operands.{Rows}
use Rattle.c_declared.specs.Nodes.{said_type, said_specifiers, said_declarators, said_form, said_bare}
use Rattle.c_declared.specs.Parts.{said_member, said_parameter}
use Rattle.c_declared.proofs.Joins.{and_assoc, faults_assoc, added_twice, length_added}

-- what holds, whether there is a value or not
pub on_ok : {T E P : Type 0} (r : Result T E) → P → OnOk r P
on_ok (Ok x) p = p
on_ok (Err e) p = tt

-- a list from a place on, by the element there
pub next : {A : Type 0} (xs : List A) (i : ℕ) (x : A) → i < length xs → x ≡ get_or xs i x → drop i xs ≡ x ∷ drop (i + 1) xs
next xs i x h e = drop-cons xs i x h ∙ ap (λ y. y ∷ drop (suc i) xs) (sym e) ∙ ap (λ k. x ∷ drop k xs) (sym (add-one i))

-- ---- two parts

pub joined : (xs ys : List Told) (p q r : List (List Told)) → q ≡ added xs p → r ≡ added ys q → r ≡ added (xs ++ ys) p
joined xs ys p q r e f = f ∙ ap (λ s. added ys s) e ∙ added_twice xs ys p

-- members of one type
pub member_said : (rows : Rows) (env at : Environment) (earlier : Members) (m : c.Specifiers × c.Declarators) (ws : c.Specifiers) (w : Option c.Specifier) (ds : c.Declarators) (t : DeclaredType) (p q r : List (List Told)) →
    m.0 ≡ ws → m.1 ≡ ds → w ≡ tag_word ws → at ≡ behind_specifiers env ws → t ≡ specified env ws → q ≡ added (said_specifiers rows env ws).all p →
    r ≡ added (said_declarators rows at earlier w t ds).all q → r ≡ added (said_member rows env earlier m).all p
member_said rows env at earlier m ws w ds t p q r words names word here of first second =
    joined (said_specifiers rows env ws).all (said_declarators rows at earlier w t ds).all p q r first second
    ∙ ap (λ e. added ((said_specifiers rows env ws).all ++ (said_declarators rows e earlier w t ds).all) p) here
    ∙ ap (λ x. added ((said_specifiers rows env ws).all ++ (said_declarators rows (behind_specifiers env ws) earlier x t ds).all) p) word
    ∙ ap (λ u. added ((said_specifiers rows env ws).all ++ (said_declarators rows (behind_specifiers env ws) earlier (tag_word ws) u ds).all) p) of
    ∙ ap (λ v. added ((said_specifiers rows env v).all ++ (said_declarators rows (behind_specifiers env v) earlier (tag_word v) (specified env v) ds).all) p) (sym words)
    ∙ ap (λ d. added ((said_specifiers rows env m.0).all ++ (said_declarators rows (behind_specifiers env m.0) earlier (tag_word m.0) (specified env m.0) d).all) p) (sym names)

-- a type name
pub type_said : (rows : Rows) (env at : Environment) (t : c.TypeTree) (ws : c.Specifiers) (b : c.BareTree) (p q r : List (List Told)) →
    t ≡ c.typed ws b → at ≡ behind_specifiers env ws → q ≡ added (said_specifiers rows env ws).all p →
    r ≡ added (said_bare rows at b).all q → r ≡ added (said_type rows env t).all p
type_said rows env at t ws b p q r seen here first second =
    joined (said_specifiers rows env ws).all (said_bare rows at b).all p q r first second
    ∙ ap (λ e. added ((said_specifiers rows env ws).all ++ (said_bare rows e b).all) p) here
    ∙ ap (λ v. added (said_type rows env v).all p) (sym seen)

-- a parameter without a name
pub bare_said : (rows : Rows) (has_body : Bool) (env at : Environment) (m : c.Specifiers × c.ParameterForm) (ws : c.Specifiers) (b : c.BareTree) (p q r : List (List Told)) →
    m.0 ≡ ws → m.1 ≡ c.bare_form b → at ≡ behind_specifiers env ws → q ≡ added (said_specifiers rows env ws).all p →
    r ≡ added (said_bare rows at b).all q → r ≡ added (said_parameter rows has_body env m).all p
bare_said rows has_body env at m ws b p q r words form here first second =
    joined (said_specifiers rows env ws).all (said_bare rows at b).all p q r first second
    ∙ ap (λ e. added ((said_specifiers rows env ws).all ++ (said_bare rows e b).all) p) here
    ∙ ap (λ v. added ((said_specifiers rows env v).all ++ (said_bare rows (behind_specifiers env v) b).all) p) (sym words)
    ∙ ap (λ f. added (said_form rows has_body env m.0 (said_specifiers rows env m.0) f).all p) (sym form)

-- ---- one more part of a list: with what was before it, and with what is behind it

pub settled_step : (s p n a b d w : Bool) → n ≡ (s && p) → p ≡ a → d ≡ b → (s && (a && b)) ≡ w → (n && d) ≡ w
settled_step s p n a b d w e f g h =
    ap (λ x. x && d) e ∙ ap (λ x. (s && x) && d) f ∙ and_assoc s a d ∙ ap (λ x. s && (a && x)) g ∙ h

pub faults_step : (s p n a b d w : Faults) → n ≡ faults_of_both s p → p ≡ a → d ≡ b → faults_of_both s (faults_of_both a b) ≡ w → faults_of_both n d ≡ w
faults_step s p n a b d w e f g h =
    ap (λ x. faults_of_both x d) e ∙ ap (λ x. faults_of_both (faults_of_both s x) d) f ∙ faults_assoc s a d ∙ ap (λ x. faults_of_both s (faults_of_both a x)) g ∙ h

pub added_step : (a b d : List Told) (p q w : List (List Told)) → q ≡ added a p → d ≡ b → added (a ++ b) p ≡ w → added d q ≡ w
added_step a b d p q w e g h = ap (λ s. added d s) e ∙ added_twice a d p ∙ ap (λ x. added (a ++ x) p) g ∙ h

pub some_added : (a : List Told) (p q : List (List Told)) → q ≡ added a p → 0 < length p → 0 < length q
some_added a p q e h = subst (λ n. 0 < n) (sym (ap (λ s. length s) e ∙ length_added a p)) h

pub list_step : {A : Type 0} (xs : List A) (x y : A) (zs : List A) (now rest w : List A) →
    now ≡ xs ++ x ∷ [] → x ≡ y → rest ≡ zs → xs ++ (y ∷ zs) ≡ w → now ++ rest ≡ w
list_step xs x y zs now rest w e f g h =
    ap (λ s. s ++ rest) e ∙ append_assoc xs (x ∷ []) rest ∙ ap (λ z. xs ++ (z ∷ rest)) f ∙ ap (λ s. xs ++ (y ∷ s)) g ∙ h
