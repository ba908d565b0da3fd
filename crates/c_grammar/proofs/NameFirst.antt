-- Expressions that begin with a name.
use Rattle.std.proofs.Common.{◌≡◌, ◌≢◌, ℕ, Bool, true, false, cond, List, [], ◌∷◌, refl, sym, ap, ◌∙◌, arith, Option, Some, None}
use Rattle.c_tree.specs.declared.tree.UnaryOp.{UnaryOp}
use Rattle.c_tree.specs.declared.tree.StepOp.{StepOp}
use Rattle.c_tree.specs.Tree.{Name, Expression, comma, assign, choose, binary, cast, unary, before, size_of, size_of_type, index, call, dot, arrow, after, name, integer, character, text, paren}
use Rattle.c_tree.specs.Marks.{Tokens, name_token}
use Rattle.c_tree.specs.TypeWords.{is_among}
use Rattle.c_tree.specs.ExpressionShape.{ShapeExpression}
use Rattle.c_grammar.specs.declared.kind.Kind.{Kind}
use Rattle.c_grammar.specs.declared.kind.Kind.TheVariants as k
use Rattle.c_grammar.specs.Kind.{kind, head_text, tail_of, unary_kind, step_kind, operator_kind, assignment_kind}
use Rattle.c_grammar.specs.Body.{got, done}
use Rattle.c_grammar.specs.Rules.{NameEnvironment, first_of_operand, Reads, infix_of, goes_on, longer, a_whole, a_rest}
use Rattle.c_grammar.specs.declared.infix.Infix.{Infix}
use Rattle.c_grammar.specs.declared.infix.First.TheVariants as fi
use Rattle.c_grammar.specs.declared.infix.Infix.TheVariants as ix
use Rattle.c_grammar.proofs.Onto.{onto_expression}
use Rattle.c_grammar.proofs.Parse.{parse}
use Rattle.c_grammar.proofs.KindLemmas.{kind_at, kind_name, kind_type, kind_sorted}
use Rattle.c_grammar.proofs.MoreKinds.{kind_unary, kind_step, kind_operator, kind_assignment, first_unary, first_step, infix_operator, infix_assignment, infix_step, infix_sorted}
use Rattle.c_grammar.proofs.Heads.{expression_head, heads_differ}
use Rattle.c_grammar.proofs.Runs.{ran, run_seen, run_done, run_take, run_spend}
use Rattle.c_grammar.proofs.ReadBack.Operands.{prefix_reads}

unary_no_name : (o : UnaryOp) → unary_kind o ≢ k.Name
unary_no_name o = λ q. let e : Some (fi.Unary o) ≡ Some fi.Word = sym (first_unary o) ∙ ap first_of_operand q in cc

step_no_name : (o : StepOp) → step_kind o ≢ k.Name
step_no_name o = λ q. let e : Some (fi.Step o) ≡ Some fi.Word = sym (first_step o) ∙ ap first_of_operand q in cc

-- what goes on an expression is no colon
infix_no_colon : (e : Kind) → infix_of e ≢ None → e ≢ k.Colon
infix_no_colon e h = λ q. h (ap infix_of q)

behind : {P : Type 0} (us ts : Tokens) (e : Kind) → us ≡ ts → kind [] ts ≡ e → infix_of e ≢ None → kind [] us ≡ k.Colon → P
behind us ts e same is some colon = absurd (infix_no_colon e some (sym is ∙ ap (kind []) (sym same) ∙ colon))

-- a text that begins with another token begins with no name
other : {P : Type 0} (ts us : Tokens) (n : Name) (e : Kind) → ts ≡ name_token n ∷ us → kind [] ts ≡ e → e ≢ k.Name → P
other ts us n e same is differ = heads_differ [] ts (name_token n ∷ us) e k.Name same is (kind_name [] n us refl) differ

-- a colon directly behind the first name stands behind the expression
pub colon_behind : (t : NameEnvironment) (x : Expression) (r : Tokens) (n : Name) (us : Tokens) → ShapeExpression t.types x → onto_expression x r ≡ name_token n ∷ us → kind [] us ≡ k.Colon → us ≡ r
colon_behind t (comma x y) r n us s e c = behind us _ k.Comma (colon_behind t x _ n us s.2 e c) (kind_at [] k.Comma [] _ tt) (λ q. cc) c
colon_behind t (assign o x y) r n us s e c =
    behind us _ (assignment_kind o) (colon_behind t x _ n us s.2 e c) (kind_assignment [] o _) (λ q. let f : Some (ix.Assign o) ≡ None = sym (infix_assignment o) ∙ q in cc) c
colon_behind t (choose x y z) r n us s e c = behind us _ k.Question (colon_behind t x _ n us s.3 e c) (kind_at [] k.Question [] _ tt) (λ q. cc) c
colon_behind t (binary o x y) r n us s e c =
    behind us _ (operator_kind o) (colon_behind t x _ n us s.2 e c) (kind_operator [] o _) (λ q. let f : Some (ix.Operator o) ≡ None = sym (infix_operator o) ∙ q in cc) c
colon_behind t (cast y x) r n us s e c = other _ us n k.OpenParen e (kind_at [] k.OpenParen [] _ tt) (λ q. cc)
colon_behind t (unary o x) r n us s e c = other _ us n (unary_kind o) e (kind_unary [] o _) (unary_no_name o)
colon_behind t (before o x) r n us s e c = other _ us n (step_kind o) e (kind_step [] o _) (step_no_name o)
colon_behind t (size_of x) r n us s e c = other _ us n k.Sizeof e (kind_at [] k.Sizeof [] _ tt) (λ q. cc)
colon_behind t (size_of_type y) r n us s e c = other _ us n k.Sizeof e (kind_at [] k.Sizeof [] _ tt) (λ q. cc)
colon_behind t (index x y) r n us s e c = behind us _ k.OpenBracket (colon_behind t x _ n us s.1 e c) (kind_at [] k.OpenBracket [] _ tt) (λ q. cc) c
colon_behind t (call x xs) r n us s e c = behind us _ k.OpenParen (colon_behind t x _ n us s.1 e c) (kind_at [] k.OpenParen [] _ tt) (λ q. cc) c
colon_behind t (dot x m) r n us s e c = behind us _ k.Dot (colon_behind t x _ n us s.2 e c) (kind_at [] k.Dot [] _ tt) (λ q. cc) c
colon_behind t (arrow x m) r n us s e c = behind us _ k.Arrow (colon_behind t x _ n us s.2 e c) (kind_at [] k.Arrow [] _ tt) (λ q. cc) c
colon_behind t (after o x) r n us s e c =
    behind us _ (step_kind o) (colon_behind t x _ n us s.1 e c) (kind_step [] o _) (λ q. let f : Some (ix.Step o) ≡ None = sym (infix_step o) ∙ q in cc) c
colon_behind t (name m) r n us s e c = ap tail_of (sym e)
colon_behind t (integer m) r n us s e c = other _ us n k.Integer e (kind_at [] k.Integer m _ tt) (λ q. cc)
colon_behind t (character m) r n us s e c = other _ us n k.Character e (kind_at [] k.Character m _ tt) (λ q. cc)
colon_behind t (text []) r n us s e c = absurd (omega arith)
colon_behind t (text (m ∷ ms)) r n us s e c = other _ us n k.Text e (kind_at [] k.Text m _ tt) (λ q. cc)
colon_behind t (paren x) r n us s e c = other _ us n k.OpenParen e (kind_at [] k.OpenParen [] _ tt) (λ q. cc)

first_name : (types : List Name) (n : Name) (us : Tokens) (test : Bool) → is_among types n ≡ test → first_of_operand (kind types (name_token n ∷ us)) ≢ None → kind types (name_token n ∷ us) ≡ k.Name
first_name types n us true e h = absurd (h (ap first_of_operand (kind_type types n us e)))
first_name types n us false e h = kind_name types n us e

-- where a name begins an expression, what is read goes on behind the name; a colon there stands behind the expression
pub name_first : (t : NameEnvironment) (d o : ℕ) (x : Expression) (r : Tokens) (n : Name) (us : Tokens) → ShapeExpression t.types x → onto_expression x r ≡ name_token n ∷ us →
    (parse (a_whole t d 1 o) (onto_expression x r) ≡ parse (a_rest t d 1 (name n)) us) × (kind [] us ≡ k.Colon → us ≡ r)
name_first t d o x r n us s begins =
    let first : kind t.types (name_token n ∷ us) ≡ k.Name = first_name t.types n us (is_among t.types n) refl (λ q. expression_head t x r s (ap (λ v. first_of_operand (kind t.types v)) begins ∙ q)) in (
      ap (parse (a_whole t d 1 o)) begins ∙ prefix_reads t d 1 o (name_token n ∷ us) (name n) us k.Name (Some fi.Word) first refl (run_spend (run_take (run_done refl))),
      λ colon. colon_behind t x r n us s begins colon,
    )

-- where nothing goes on behind a name, nothing more is read
pub name_stops : (t : NameEnvironment) (d : ℕ) (n : Name) (us : Tokens) → infix_of (kind [] us) ≡ None → parse (a_rest t d 1 (name n)) us ≡ got (name n) us tt
name_stops t d n us none =
    let same : infix_of (kind t.types us) ≡ None = ap infix_of (kind_sorted t.types us) ∙ infix_sorted t.types (kind [] us) (head_text us) ∙ none in
    let f : Option Infix → Reads Expression = λ i. cond (goes_on 1 i 17) (longer t d 1 (name n) i) (done (name n)) in
    ran (a_rest t d 1 (name n)) us (got (name n) us tt) (run_seen (ap f same) (run_done refl))
