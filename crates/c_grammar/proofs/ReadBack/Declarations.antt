-- Initialisers and declarations: what a tree of the right shape spells is read as that tree.
use Rattle.std.proofs.Common.{◌≡◌, ◌≢◌, ◌<◌, ℕ, ◌+◌, Bool, true, false, List, [], ◌∷◌, Option, Some, None, IsTrue, refl, sym, ap, subst, ◌∙◌, codes, arith}
use Rattle.c_tree.specs.Marks.{Tokens, mark}
use Rattle.c_tree.specs.declared.tree.Storage.{Storage}
use Rattle.c_tree.specs.declared.tree.Storage.TheVariants as st
use Rattle.c_tree.specs.Tree.{Name, Specifiers, DeclaratorTree, function, Initializer, single, listed, Initializers, no_initializers, initializers, NamedTree, DeclarationTree}
use Rattle.c_tree.specs.TypeWords.{has_tag}
use Rattle.c_tree.specs.ExpressionShape.{ShapeDeclarator}
use Rattle.c_tree.specs.Shape.{Scope, HasInitializer, FitsDesignator, ShapeInit, ShapeInitializers, FitsInit, ShapeOptionalInit, ShapeNamed, ShapeNames, behind_named, behind_specifiers, IsNoTypedef, ShapeInner}
use Rattle.c_grammar.specs.declared.kind.Kind.{Kind}
use Rattle.c_grammar.specs.declared.kind.Kind.TheVariants as k
use Rattle.c_grammar.specs.Kind.{kind, token_of, IsFixed, IsUnnamed}
use Rattle.c_grammar.specs.Body.{done, look, call, got}
use Rattle.c_grammar.specs.Rules.{NameEnvironment, only_types, naming, an_expression, an_initializer, all_initializers, more_initializers, a_declaration, a_declared, a_named, more_named, first_of_operand, begins_type, begins_declarator, initializer_by, initializers_by, next_initializer_by, declaration_by, declared_names_by, has_initializer, named_init_by}
use Rattle.c_grammar.proofs.KindLemmas.{kind_at, kind_same}
use Rattle.c_grammar.proofs.Onto.{onto_init, onto_initializers, onto_more_initializers, onto_trailing, onto_specifiers, onto_declarator, onto_initial, onto_named, onto_more_named, onto_all_named, onto_storage, onto_declaration}
use Rattle.c_grammar.proofs.Parse.{parse}
use Rattle.c_grammar.proofs.Runs.{Runs, ran, run_done, run_seen, run_take, run_spend, run_call, run_then, run_at, run_expect, run_name, run_naming}
use Rattle.c_grammar.proofs.Weight.{weight, weight_of, weight_at}
use Rattle.c_grammar.proofs.ReadBack.Rules.{EndsType, EndsDeclarator, expression_complete, specifiers_complete, object_complete, expression_head, specifiers_head, declares_ordinary, declarator_head}

-- a token weighs what its kind does
pub light : (e : Kind) (r : Tokens) (n : ℕ) → IsFixed e → weight_of e < n → weight (token_of e [] ∷ r) < n
light e r n fixed h = subst (λ m. m < n) (sym (weight_at e [] r fixed)) h

-- a token has no other kind than its own
pub kind_other : (types : List Name) (x y : Kind) (r : Tokens) → IsFixed x → x ≢ y → kind types (token_of x [] ∷ r) ≢ y
kind_other types x y r fixed h is = h (sym (kind_at types x [] r fixed) ∙ is)

-- ---- initialisers

dot_brace : k.Dot ≢ k.CloseBrace
dot_brace e = absurd (cc)

brace_dot : k.OpenBrace ≢ k.Dot
brace_dot e = absurd (cc)

brace_brace : k.OpenBrace ≢ k.CloseBrace
brace_brace e = absurd (cc)

by_expression : (t : NameEnvironment) (d o : ℕ) (e : Kind) → first_of_operand e ≢ None → initializer_by t d o e ≡ call (an_expression t d 2 o) (λ x. done (single x))
by_expression t d o k.OpenBrace h = absurd (h refl)
by_expression t d o _ h = refl

by_part : (t : NameEnvironment) (d o : ℕ) (e : Kind) → e ≢ k.Dot → initializers_by t d o e ≡ call (an_initializer t d o) (λ i. call (more_initializers t d) (λ ps. done (initializers None i ps.0, ps.1)))
by_part t d o k.Dot h = absurd (h refl)
by_part t d o _ h = refl

by_next : (t : NameEnvironment) (d : ℕ) (e : Kind) → e ≢ k.CloseBrace → next_initializer_by t d e ≡ call (all_initializers t d 1) (λ ps. done ps)
by_next t d k.CloseBrace h = absurd (h refl)
by_next t d _ h = refl

-- an initialiser begins with no token of this kind
pub init_other : (t others : List Name) (i : Initializer) (r : Tokens) (e : Kind) → IsUnnamed e → first_of_operand e ≡ None → k.OpenBrace ≢ e → ShapeInit t i → kind others (onto_init i r) ≢ e
init_other t others (single x) r e un none other h is = expression_head (only_types t) x r h.1 (ap first_of_operand (kind_same others t _ e un is) ∙ none)
init_other t others (listed ps c) r e un none other h is = kind_other others k.OpenBrace e _ tt other is

part_other : (t : List Name) (n : Option Name) (i : Initializer) (ps : Initializers) (r : Tokens) → ShapeInit t i → kind t (onto_initializers (initializers n i ps) r) ≢ k.CloseBrace
part_other t None i ps r h = init_other t t i (onto_more_initializers ps r) k.CloseBrace tt refl brace_brace h
part_other t (Some n) i ps r h = kind_other t k.Dot k.CloseBrace _ tt dot_brace

-- what stands behind the parts of a list
abbrev closing : Bool → Tokens → Tokens
closing c r = onto_trailing c (mark (codes "}") ∷ r)

closing_light : (c : Bool) (r : Tokens) → weight (closing c r) < 2
closing_light true r = light k.Comma (mark (codes "}") ∷ r) 2 tt (omega arith)
closing_light false r = light k.CloseBrace r 2 tt (omega arith)

more_light : (ps : Initializers) (c : Bool) (r : Tokens) → weight (onto_more_initializers ps (closing c r)) < 2
more_light no_initializers c r = closing_light c r
more_light (initializers n i ps) c r = light k.Comma _ 2 tt (omega arith)

part_complete : (t : List Name) (d o : ℕ) (n : Option Name) (i : Initializer) (ps : Initializers) (c : Bool) (r : Tokens) → FitsDesignator t n → ShapeInit t i →
    ((d o : ℕ) → parse (an_initializer (only_types t) d o) (onto_init i (onto_more_initializers ps (closing c r))) ≡ got i (onto_more_initializers ps (closing c r)) tt) →
    ((d : ℕ) → parse (more_initializers (only_types t) d) (onto_more_initializers ps (closing c r)) ≡ got (ps, c) r tt) →
    parse (all_initializers (only_types t) d o) (onto_initializers (initializers n i ps) (closing c r)) ≡ got (initializers n i ps, c) r tt
part_complete t d o None i ps c r fits s first more =
    ran (all_initializers (only_types t) d o) _ _ (run_seen (by_part (only_types t) d o _ (init_other t [] i _ k.Dot tt refl brace_dot s)) (run_call refl (first d o) (run_call refl (more d) (run_done refl))))
part_complete t d o (Some n) i ps c r fits s first more =
    ran (all_initializers (only_types t) d o) _ _ (run_at k.Dot tt (run_spend (run_take (run_name fits (run_expect k.Assign tt (run_call refl (first d 0) (run_call refl (more d) (run_done refl))))))))

end_complete : (t : List Name) (d : ℕ) (c : Bool) (r : Tokens) → parse (more_initializers (only_types t) d) (closing c r) ≡ got (no_initializers, c) r tt
end_complete t d true r = ran (more_initializers (only_types t) d) _ _ (run_at k.Comma tt (run_take (run_at k.CloseBrace tt (run_take (run_done refl)))))
end_complete t d false r = ran (more_initializers (only_types t) d) _ _ (run_at k.CloseBrace tt (run_take (run_done refl)))

mutual
  -- an initialiser is read, where no operator follows that binds it
  pub initializer_complete : (t : List Name) (d o : ℕ) (i : Initializer) (r : Tokens) → ShapeInit t i → weight r < 2 → parse (an_initializer (only_types t) d o) (onto_init i r) ≡ got i r tt
  initializer_complete t d o (single x) r s ends =
      ran (an_initializer (only_types t) d o) _ _ (run_seen (by_expression (only_types t) d o _ (expression_head (only_types t) x r s.1)) (run_call refl (expression_complete t d 2 o x r s.1 (omega arith) (omega arith) s.0 ends) (run_done refl)))
  initializer_complete t d o (listed ps c) r s ends =
      ran (an_initializer (only_types t) d o) _ _ (run_at k.OpenBrace tt (run_spend (run_take (run_call refl (initializers_complete t (d + 1) 0 ps c r s.0 s.1) (run_done refl)))))

  -- the parts of a list are read, with the closing brace
  pub initializers_complete : (t : List Name) (d o : ℕ) (ps : Initializers) (c : Bool) (r : Tokens) → HasInitializer ps → ShapeInitializers t ps →
      parse (all_initializers (only_types t) d o) (onto_initializers ps (onto_trailing c (mark (codes "}") ∷ r))) ≡ got (ps, c) r tt
  initializers_complete t d o no_initializers c r some s = absurd some
  initializers_complete t d o (initializers n i ps) c r some s =
      part_complete t d o n i ps c r s.0 s.1 (λ d o. initializer_complete t d o i _ s.1 (more_light ps c r)) (λ d. more_initializers_complete t d ps c r s.2)

  -- the parts behind the first, with the closing brace
  pub more_initializers_complete : (t : List Name) (d : ℕ) (ps : Initializers) (c : Bool) (r : Tokens) → ShapeInitializers t ps →
      parse (more_initializers (only_types t) d) (onto_more_initializers ps (onto_trailing c (mark (codes "}") ∷ r))) ≡ got (ps, c) r tt
  more_initializers_complete t d no_initializers c r s = end_complete t d c r
  more_initializers_complete t d (initializers n i ps) c r s =
      ran (more_initializers (only_types t) d) _ _ (run_at k.Comma tt (run_take (run_seen (by_next (only_types t) d _ (part_other t n i ps (closing c r) s.1))
      (run_call refl (part_complete t d 1 n i ps c r s.0 s.1 (λ d o. initializer_complete t d o i _ s.1 (more_light ps c r)) (λ d. more_initializers_complete t d ps c r s.2)) (run_done refl)))))

-- ---- declarations

-- what follows a declared name binds no initialiser, begins none, and goes on with no declarator
pub record EndsNamed (r : Tokens) : Type 0 where
  pub binds : weight r < 2
  pub begins : kind [] r ≢ k.Assign
  pub declares : EndsDeclarator r

false_true : false ≢ true
false_true e = absurd (cc)

semicolon_assign : k.Semicolon ≢ k.Assign
semicolon_assign e = absurd (cc)

semicolon_bracket : k.Semicolon ≢ k.OpenBracket
semicolon_bracket e = absurd (cc)

semicolon_paren : k.Semicolon ≢ k.OpenParen
semicolon_paren e = absurd (cc)

semicolon_brace : k.Semicolon ≢ k.OpenBrace
semicolon_brace e = absurd (cc)

comma_assign : k.Comma ≢ k.Assign
comma_assign e = absurd (cc)

comma_bracket : k.Comma ≢ k.OpenBracket
comma_bracket e = absurd (cc)

comma_paren : k.Comma ≢ k.OpenParen
comma_paren e = absurd (cc)

assign_bracket : k.Assign ≢ k.OpenBracket
assign_bracket e = absurd (cc)

assign_paren : k.Assign ≢ k.OpenParen
assign_paren e = absurd (cc)

-- the names behind another, and a semicolon, end it
pub more_named_ends : (ns : List NamedTree) (r : Tokens) → EndsNamed (onto_more_named ns (mark (codes ";") ∷ r))
more_named_ends [] r = record {
  binds = light k.Semicolon r 2 tt (omega arith);
  begins = kind_other [] k.Semicolon k.Assign r tt semicolon_assign;
  declares = (kind_other [] k.Semicolon k.OpenBracket r tt semicolon_bracket, kind_other [] k.Semicolon k.OpenParen r tt semicolon_paren);
}
more_named_ends (n ∷ ns) r = record {
  binds = light k.Comma _ 2 tt (omega arith);
  begins = kind_other [] k.Comma k.Assign _ tt comma_assign;
  declares = (kind_other [] k.Comma k.OpenBracket _ tt comma_bracket, kind_other [] k.Comma k.OpenParen _ tt comma_paren);
}

-- behind a declarator there is no initialiser
pub by_none : (t : NameEnvironment) (d : ℕ) (may : Bool) (c : DeclaratorTree) (e : Kind) → e ≢ k.Assign → named_init_by t d may c e ≡ done (record { declarator = c; init = None })
by_none t d may c k.Assign h = absurd (h refl)
by_none t d may c _ h = refl

-- an initialiser stands only where it may
abbrev pub Permits : Bool → Option Initializer → Type 0
Permits may None = Unit {0}
Permits may (Some i) = may ≡ true

-- behind a declarator its initialiser is read, or that it has none
pub init_runs : (t : List Name) (d : ℕ) (may : Bool) (taken : Bool) (limit : ℕ) (c : DeclaratorTree) (i : Option Initializer) (r : Tokens) → Permits may i → ShapeOptionalInit t i → EndsNamed r →
    Runs taken limit (look [] (named_init_by (only_types t) d may c)) (onto_initial i r) (got (record { declarator = c; init = i }) r tt)
init_runs t d may taken limit c None r fits s ends = run_seen (by_none (only_types t) d may c _ ends.begins) (run_done refl)
init_runs t d may taken limit c (Some i) r fits s ends =
    run_at k.Assign tt (run_then _ fits (run_spend (run_take (run_call refl (initializer_complete t d 0 i r s ends.binds) (run_done refl)))))

-- an initialiser, or its absence, ends a declarator
pub initial_ends : (i : Option Initializer) (r : Tokens) → EndsNamed r → EndsDeclarator (onto_initial i r)
initial_ends None r ends = ends.declares
initial_ends (Some i) r ends = (kind_other [] k.Assign k.OpenBracket _ tt assign_bracket, kind_other [] k.Assign k.OpenParen _ tt assign_paren)

-- where the shape asks it, an initialiser stands only behind what is no function
pub fits_permits : (c : Storage) (x : DeclaratorTree) (i : Option Initializer) → IsNoTypedef c → FitsInit c x i → Permits (has_initializer x) i
fits_permits c x None inner fits = tt
fits_permits st.Typedef x (Some i) inner fits = absurd inner
fits_permits st.Nothing (function ss n ps v) (Some i) inner fits = absurd fits
fits_permits st.Static (function ss n ps v) (Some i) inner fits = absurd fits
fits_permits st.Extern (function ss n ps v) (Some i) inner fits = absurd fits
fits_permits st.Nothing _ (Some i) inner fits = refl
fits_permits st.Static _ (Some i) inner fits = refl
fits_permits st.Extern _ (Some i) inner fits = refl

-- a declared name is read
named_complete : (t : List Name) (d : ℕ) (n : NamedTree) (r : Tokens) → ShapeDeclarator t n.declarator → Permits (has_initializer n.declarator) n.init → ShapeOptionalInit t n.init → EndsNamed r →
    parse (a_named (only_types t) d) (onto_named n r) ≡ got n r tt
named_complete t d n r s fits opt ends =
    ran (a_named (only_types t) d) _ _ (run_call refl (object_complete t (d + 1) true n.declarator _ s (λ e. absurd (cc)) (initial_ends n.init r ends))
    (init_runs t (d + 1) (has_initializer n.declarator) false 3 n.declarator n.init r fits opt ends))

behind_types : (c : Storage) (n : NamedTree) (s : Scope) → IsNoTypedef c → (behind_named c n s).types ≡ s.types
behind_types st.Typedef n s inner = absurd inner
behind_types st.Nothing n s inner = refl
behind_types st.Static n s inner = refl
behind_types st.Extern n s inner = refl

one_complete : (c : Storage) (t : List Name) (d : ℕ) (s : Scope) (n : NamedTree) (r : Tokens) → IsNoTypedef c → s.types ≡ t → ShapeNamed c n s → EndsNamed r → parse (a_named (only_types t) d) (onto_named n r) ≡ got n r tt
one_complete c t d s n r inner same h ends =
    named_complete t d n r (subst (λ v. ShapeDeclarator v n.declarator) same h.0) (fits_permits c n.declarator n.init inner h.2) (subst (λ v. ShapeOptionalInit v n.init) same h.3) ends

-- the names behind the first are read, with the semicolon
more_named_complete : (c : Storage) (t : List Name) (d : ℕ) (s : Scope) (ns : List NamedTree) (r : Tokens) → IsNoTypedef c → s.types ≡ t → ShapeNames c ns s →
    parse (more_named (only_types t) d) (onto_more_named ns (mark (codes ";") ∷ r)) ≡ got ns r tt
more_named_complete c t d s [] r inner same h = ran (more_named (only_types t) d) _ _ (run_at k.Semicolon tt (run_take (run_done refl)))
more_named_complete c t d s (n ∷ ns) r inner same h =
    ran (more_named (only_types t) d) _ _ (run_at k.Comma tt (run_spend (run_take (run_call refl (one_complete c t d s n _ inner same h.0 (more_named_ends ns r))
    (run_call refl (more_named_complete c t d (behind_named c n s) ns r inner (behind_types c n s inner ∙ same) h.1) (run_done refl))))))

-- a declarator begins with no type, and no brace
pub declarator_no_type : (e : Kind) → begins_declarator e ≡ true → begins_type e ≡ false
declarator_no_type k.Star h = refl
declarator_no_type k.Name h = refl
declarator_no_type k.OpenParen h = refl
declarator_no_type _ h = absurd (cc)

-- a declarator ends the type before it
pub declarator_ends_type : (t : List Name) (c : DeclaratorTree) (r : Tokens) → ShapeDeclarator t c → EndsType (only_types t) (onto_declarator c r)
declarator_ends_type t c r s =
    let first = declarator_head t c r (declares_ordinary t c s) in
    (declarator_no_type _ first, λ is. false_true (sym (ap begins_declarator (kind_same [] t _ k.OpenBrace tt is)) ∙ first))

-- the names of a declaration, and its semicolon, end its type
pub names_end : (c : Storage) (s : Scope) (ns : List NamedTree) (r : Tokens) → ShapeNames c ns s → EndsType (only_types s.types) (onto_all_named ns (mark (codes ";") ∷ r))
names_end c s [] r h = (ap begins_type (kind_at s.types k.Semicolon [] r tt), kind_other [] k.Semicolon k.OpenBrace r tt semicolon_brace)
names_end c s (n ∷ ns) r h = declarator_ends_type s.types n.declarator _ h.0.0

by_names : (t : NameEnvironment) (d : ℕ) (c : Storage) (ws : Specifiers) (e : Kind) → begins_declarator e ≡ true →
    declared_names_by t d c ws e ≡ naming (has_tag ws) d (call (a_named t d) (λ n. call (more_named t d) (λ ns. done (record { storage = c; specs = ws; names = n ∷ ns }))))
by_names t d c ws k.Star h = refl
by_names t d c ws k.Name h = refl
by_names t d c ws k.OpenParen h = refl
by_names t d c ws _ h = absurd (cc)

names_run : (c : Storage) (t : List Name) (d : ℕ) (s : Scope) (ws : Specifiers) (ns : List NamedTree) (r : Tokens) → IsNoTypedef c → s.types ≡ t → ShapeNames c ns s → (ns ≡ [] → IsTrue (has_tag ws)) →
    Runs false 4 (look t (declared_names_by (only_types t) d c ws)) (onto_all_named ns (mark (codes ";") ∷ r)) (got (record { storage = c; specs = ws; names = ns }) r tt)
names_run c t d s ws [] r inner same h tag = run_at k.Semicolon tt (run_then _ (tag refl) (run_take (run_done refl)))
names_run c t d s ws (n ∷ ns) r inner same h tag =
    run_seen (by_names (only_types t) d c ws _ (declarator_head t n.declarator _ (declares_ordinary t n.declarator (subst (λ v. ShapeDeclarator v n.declarator) same h.0.0))))
    (run_naming (has_tag ws) d (run_call refl (one_complete c t d s n _ inner same h.0 (more_named_ends ns r))
    (run_call refl (more_named_complete c t d (behind_named c n s) ns r inner (behind_types c n s inner ∙ same) h.1) (run_done refl))))

declared_complete : (t : List Name) (d : ℕ) (x : DeclarationTree) (r : Tokens) → ShapeInner t x → parse (a_declared (only_types t) d x.storage) (onto_specifiers x.specs (onto_all_named x.names (mark (codes ";") ∷ r))) ≡ got x r tt
declared_complete t d x r s =
    ran (a_declared (only_types t) d x.storage) _ _ (run_call refl (specifiers_complete t d true x.specs _ s.1.1 s.1.0 (names_end x.storage (behind_specifiers x.specs (record { types = t; others = [] })) x.names r s.1.3))
    (names_run x.storage t d (behind_specifiers x.specs (record { types = t; others = [] })) x.specs x.names r s.0 refl s.1.3 s.1.2))

by_type : (t : NameEnvironment) (d : ℕ) (e : Kind) → begins_type e ≡ true → declaration_by t d e ≡ call (a_declared t d st.Nothing) (λ x. done x)
by_type t d k.Static h = absurd (cc)
by_type t d k.Extern h = absurd (cc)
by_type t d _ h = refl

declaration_stored : (t : List Name) (d : ℕ) (c : Storage) (ws : Specifiers) (ns : List NamedTree) (r : Tokens) → ShapeInner t (record { storage = c; specs = ws; names = ns }) →
    parse (a_declaration (only_types t) d) (onto_storage c (onto_specifiers ws (onto_all_named ns (mark (codes ";") ∷ r)))) ≡ got (record { storage = c; specs = ws; names = ns }) r tt
declaration_stored t d st.Typedef ws ns r s = absurd s.0
declaration_stored t d st.Static ws ns r s = ran (a_declaration (only_types t) d) _ _ (run_at k.Static tt (run_take (run_call refl (declared_complete t d (record { storage = st.Static; specs = ws; names = ns }) r s) (run_done refl))))
declaration_stored t d st.Extern ws ns r s = ran (a_declaration (only_types t) d) _ _ (run_at k.Extern tt (run_take (run_call refl (declared_complete t d (record { storage = st.Extern; specs = ws; names = ns }) r s) (run_done refl))))
declaration_stored t d st.Nothing ws ns r s =
    ran (a_declaration (only_types t) d) _ _ (run_seen (by_type (only_types t) d _ (specifiers_head (only_types t) ws _ s.1.1 s.1.0)) (run_call refl (declared_complete t d (record { storage = st.Nothing; specs = ws; names = ns }) r s) (run_done refl)))

-- a declaration inside a function is read, whatever follows
pub declaration_complete : (t : List Name) (d : ℕ) (x : DeclarationTree) (r : Tokens) → ShapeInner t x → parse (a_declaration (only_types t) d) (onto_declaration x r) ≡ got x r tt
declaration_complete t d x r s = declaration_stored t d x.storage x.specs x.names r s
