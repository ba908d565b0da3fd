-- What is read of each tree, as the cases of the proof hand it on. Each takes the names that are types.
use Rattle.std.proofs.Common.{◌≡◌, ◌≢◌, ◌⊎◌, ℕ, ◌≤◌, Bool, true, false, List, [], ◌∷◌, ◌++◌, codes}
use Rattle.c_tree.specs.Tree.{Expression, Expressions, Sizes, TypeTree, Specifiers, specifiers, Specifier, Members, Declarators, Enumerators, DeclaratorTree, Parameters, ParameterForm, BareTree}
use Rattle.c_tree.specs.Marks.{Tokens, mark}
use Rattle.c_tree.specs.TypeWords.{type_words, words_of, is_one_type}
use Rattle.c_tree.specs.declared.type_word.TypeWord.{TypeWord}
use Rattle.c_tree.specs.ExpressionShape.{level, AtMostOne, HasMember, HasDeclarator, HasEnumerator, IsNoFunction}
use Rattle.c_grammar.specs.declared.kind.Kind.TheVariants as k
use Rattle.c_grammar.specs.Kind.{kind}
use Rattle.c_grammar.specs.Body.{got}
use Rattle.c_grammar.specs.Body as body
use Rattle.c_grammar.specs.Rules.{NameEnvironment, Parameter, a_whole, a_rest, all_arguments, more_arguments, all_sizes, at_most_one_size, a_type, all_specifiers, all_members, more_members, all_declarators, more_declarators, all_enumerators, more_enumerators, a_declarator, some_parameters, more_parameters, all_stars, a_bare, parameter_by, begins_type, barred}
use Rattle.c_grammar.proofs.Onto.{onto_expression, onto_arguments, onto_more, onto_sizes, onto_type, onto_specifiers, onto_specifier, onto_members, onto_declarators, onto_more_declarators, onto_enumerators, onto_more_enumerators, onto_trailing, onto_declarator, onto_parameters, onto_more_parameters, onto_form, onto_bare}
use Rattle.c_grammar.proofs.Parse.{parse}
use Rattle.c_grammar.proofs.Weight.{weight, ceiling}
use Rattle.c_grammar.proofs.Runs.{Runs}

-- the next token goes on with no specifier, nor with the body of a struct or an enum
abbrev pub EndsType : NameEnvironment → Tokens → Type 0
EndsType t r = (begins_type (kind t.types r) ≡ false) × (kind [] r ≢ k.OpenBrace)

-- the next token goes on with no declarator
abbrev pub EndsDeclarator : Tokens → Type 0
EndsDeclarator r = (kind [] r ≢ k.OpenBracket) × (kind [] r ≢ k.OpenParen)

-- the next token ends a parameter
abbrev pub EndsForm : Tokens → Type 0
EndsForm r = (kind [] r ≡ k.Comma) ⊎ (kind [] r ≡ k.CloseParen)

module _ (t : NameEnvironment) where
  -- an expression is read as it, before what binds it whole
  pub record ReadsExpression (x : Expression) : Type 0 where
    pub whole : (d l o : ℕ) (r : Tokens) → 1 ≤ l → l ≤ 15 → l ≤ level x → weight r ≤ ceiling x → parse (a_whole t d l o) (onto_expression x r) ≡ parse (a_rest t d l x) r

  -- arguments, and those behind the first
  pub record ReadsArguments (xs : Expressions) : Type 0 where
    pub all : (d : ℕ) (r : Tokens) → parse (all_arguments t d) (onto_arguments xs (mark (codes ")") ∷ r)) ≡ got xs r tt
    pub more : (d : ℕ) (r : Tokens) → parse (more_arguments t d) (onto_more xs (mark (codes ")") ∷ r)) ≡ got xs r tt

  -- sizes, and at most one size
  pub record ReadsSizes (xs : Sizes) : Type 0 where
    pub all : (d : ℕ) (r : Tokens) → kind [] r ≢ k.OpenBracket → parse (all_sizes t d) (onto_sizes xs r) ≡ got xs r tt
    pub one : (d : ℕ) (r : Tokens) → AtMostOne xs → kind [] r ≢ k.OpenBracket → parse (at_most_one_size t d) (onto_sizes xs r) ≡ got xs r tt

  -- a type
  pub record ReadsType (y : TypeTree) : Type 0 where
    pub all : (d : ℕ) (r : Tokens) → parse (a_type t d) (onto_type y (mark (codes ")") ∷ r)) ≡ got y (mark (codes ")") ∷ r) tt

  -- specifiers behind these words
  pub record ReadsSpecifiers (xs : Specifiers) : Type 0 where
    pub all : (d : ℕ) (b : Bool) (ws : List TypeWord) (r : Tokens) → is_one_type (ws ++ type_words xs) ≡ true → EndsType t r → parse (all_specifiers t d b ws) (onto_specifiers xs r) ≡ got xs r tt

  -- a specifier: where those behind it are read, it is read with them
  pub record ReadsSpecifier (w : Specifier) : Type 0 where
    pub first : (d : ℕ) (b : Bool) (ws : List TypeWord) (us : Tokens) (xs : Specifiers) (r : Tokens) → is_one_type (ws ++ (words_of w ++ type_words xs)) ≡ true → kind [] us ≢ k.OpenBrace →
        ((c : Bool) → parse (all_specifiers t d c (ws ++ words_of w)) us ≡ got xs r tt) → parse (all_specifiers t d b ws) (onto_specifier w us) ≡ got (specifiers w xs) r tt

  -- members, and those behind the first
  pub record ReadsMembers (ms : Members) : Type 0 where
    pub all : (d : ℕ) (r : Tokens) → HasMember ms → parse (all_members t d) (onto_members ms (mark (codes "}") ∷ r)) ≡ got ms r tt
    pub more : (d : ℕ) (r : Tokens) → parse (more_members t d) (onto_members ms (mark (codes "}") ∷ r)) ≡ got ms r tt

  -- declarators, and those behind the first
  pub record ReadsDeclarators (cs : Declarators) : Type 0 where
    pub all : (d : ℕ) (r : Tokens) → HasDeclarator cs → parse (all_declarators t d) (onto_declarators cs (mark (codes ";") ∷ r)) ≡ got cs (mark (codes ";") ∷ r) tt
    pub more : (d : ℕ) (r : Tokens) → parse (more_declarators t d) (onto_more_declarators cs (mark (codes ";") ∷ r)) ≡ got cs (mark (codes ";") ∷ r) tt

  -- enumerators, and those behind the first
  pub record ReadsEnumerators (es : Enumerators) : Type 0 where
    pub all : (d : ℕ) (c : Bool) (r : Tokens) → HasEnumerator es → parse (all_enumerators t d) (onto_enumerators es (onto_trailing c (mark (codes "}") ∷ r))) ≡ got (es, c) r tt
    pub more : (d : ℕ) (c : Bool) (r : Tokens) → parse (more_enumerators t d) (onto_more_enumerators es (onto_trailing c (mark (codes "}") ∷ r))) ≡ got (es, c) r tt

  -- the form of a parameter, behind its specifiers
  pub record ReadsForm (f : ParameterForm) : Type 0 where
    pub all : (d : ℕ) (ws : Specifiers) (r : Tokens) → EndsForm r →
        Runs {A = Parameter} false 3 (body.call all_stars (λ ss. body.look (barred t) (parameter_by t d ws ss))) (onto_form f r) (got (ws, f) r tt)

  -- a declarator, perhaps of a type
  pub record ReadsDeclarator (y : Bool) (c : DeclaratorTree) : Type 0 where
    pub all : (d : ℕ) (f : Bool) (r : Tokens) → (f ≡ false → IsNoFunction c) → EndsDeclarator r → parse (a_declarator t d f y) (onto_declarator c r) ≡ got c r tt

  -- a declarator behind the specifiers of a parameter
  pub record ReadsNamed (c : DeclaratorTree) : Type 0 where
    pub parameter : (d : ℕ) (ws : Specifiers) (r : Tokens) → IsNoFunction c → EndsForm r →
        Runs {A = Parameter} false 3 (body.call all_stars (λ ss. body.look (barred t) (parameter_by t d ws ss))) (onto_declarator c r) (got (ws, ParameterForm.named_form c) r tt)

  -- parameters, and those behind the first
  pub record ReadsParameters (ps : Parameters) : Type 0 where
    -- with one parameter at least
    pub some : (d : ℕ) (r : Tokens) → ps ≢ Parameters.no_parameters → parse (some_parameters t d) (onto_parameters ps false (mark (codes ")") ∷ r)) ≡ got ps r tt
    pub more : (d : ℕ) (r : Tokens) → parse (more_parameters t d) (onto_more_parameters ps (mark (codes ")") ∷ r)) ≡ got ps r tt

  -- a declarator without a name, and the same behind the specifiers of a parameter
  pub record ReadsBare (b : BareTree) : Type 0 where
    pub all : (d : ℕ) (r : Tokens) → EndsForm r → parse (a_bare t d) (onto_bare b r) ≡ got b r tt
    pub parameter : (d : ℕ) (ws : Specifiers) (r : Tokens) → EndsForm r →
        Runs {A = Parameter} false 3 (body.call all_stars (λ ss. body.look (barred t) (parameter_by t d ws ss))) (onto_bare b r) (got (ws, ParameterForm.bare_form b) r tt)
