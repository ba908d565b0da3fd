-- What each rule reads: tokens that a tree of its shape spells.
use Rattle.std.proofs.Common.{◌⊎◌}
use Rattle.std.specs.Prelude.{◌≡◌, ◌≢◌, ℕ, ◌≤◌, [], ◌∷◌, ◌++◌, false, ⊤, IsTrue, codes}
use Rattle.c_tree.specs.declared.tree.Storage.{Storage}
use Rattle.c_tree.specs.Marks.{Tokens, keyword, mark}
use Rattle.c_tree.specs.TypeWords.{is_one_type, type_words, words_of, IsOrdinary, NamesType}
use Rattle.c_tree.specs.declared.type_word.TypeWord.TheVariants as tw
use Rattle.c_tree.specs.DeclaredNames.{declarator_name}
use Rattle.c_tree.specs.ExpressionShape.{level, FitsWord, IsNotVoid, AtMostOne, AtLeastOne, HasMember, HasDeclarator, HasEnumerator, IsNoFunction, ShapeExpression, ShapeArguments, ShapeSizes, ShapeType, ShapeSpecifiers, ShapeSpecifier, ShapeMembers, ShapeDeclarators, ShapeEnumerators, ShapeDeclarator, ShapeParameters, ShapeForm, ShapeBare}
use Rattle.c_tree.specs.Shape.{Scope, HasInitializer, ShapeInit, ShapeInitializers, ShapeNamed, ShapeNames, IsNoTypedef, ShapeInner, ShapeOptional, ShapeStart, ends_open, ShapeStatement, ShapeStatements, ShapeItem, ShapeItems}
use Rattle.c_tree.specs.Tree.{Expression, Parameters, no_parameters, parameters}
use Rattle.c_grammar.specs.declared.kind.Kind.TheVariants as k
use Rattle.c_grammar.specs.Kind.{kind, token_of}
use Rattle.c_grammar.specs.Rules.{NameEnvironment, Rule, Result, an_expression, a_whole, a_prefix, a_rest, an_opened, more_texts, all_arguments, more_arguments, a_type, all_specifiers, a_struct, all_members, more_members, all_declarators, more_declarators, an_enum, all_enumerators, more_enumerators, all_stars, all_quals, a_declarator, all_sizes, at_most_one_size, all_parameters, some_parameters, more_parameters, a_parameter, a_bare, an_initializer, all_initializers, more_initializers, a_declaration, a_declared, a_named, more_named, an_optional, a_start, a_statement, all_statements, an_outer, more_outer, a_first, an_item, all_items}
use Rattle.c_grammar.proofs.Onto.{onto_arguments, onto_bare, onto_declaration, onto_declarator, onto_declarators, onto_enumerators, onto_expression, onto_for_start, onto_form, onto_init, onto_initializers, onto_item, onto_members, onto_more, onto_more_declarators, onto_more_enumerators, onto_more_initializers, onto_more_named, onto_more_parameters, onto_named, onto_optional, onto_parameters, onto_program, onto_quals, onto_sizes, onto_specifier, onto_specifiers, onto_stars, onto_statement, onto_statements, onto_storage, onto_texts, onto_trailing, onto_type}

-- an operand of at least this level
abbrev pub ReadOperand : NameEnvironment → ℕ → Tokens → Expression → Tokens → Type 0
ReadOperand t l ts x us = (ts ≡ onto_expression x us) × ShapeExpression t.types x × (l ≤ level x)

-- a parameter stands in the list
abbrev pub HasParameter : Parameters → Type 0
HasParameter no_parameters = ⊥
HasParameter (parameters ws f ps) = ⊤

abbrev pub Read : (r : Rule) → Tokens → Unit {0} → Result r → Tokens → Unit {0} → Type 0
Read (an_expression t d l o) ts m x us n = l ≤ 15 → ReadOperand t l ts x us
Read (a_whole t d l o) ts m x us n = l ≤ 15 → ReadOperand t l ts x us
Read (a_prefix t d l o) ts m x us n = l ≤ 15 → ReadOperand t l ts x us
Read (a_rest t d l x) ts m y us n = ShapeExpression t.types x → l ≤ level x → (onto_expression x ts ≡ onto_expression y us) × ShapeExpression t.types y × (l ≤ level y)
Read (an_opened t d) ts m x us n = ReadOperand t 15 (mark (codes "(") ∷ ts) x us
Read more_texts ts m ns us n = ts ≡ onto_texts ns us
Read (all_arguments t d) ts m xs us n = (ts ≡ onto_arguments xs (mark (codes ")") ∷ us)) × ShapeArguments t.types xs
Read (more_arguments t d) ts m xs us n = (ts ≡ onto_more xs (mark (codes ")") ∷ us)) × ShapeArguments t.types xs
Read (a_type t d) ts m y us n = (ts ≡ onto_type y us) × ShapeType t.types y
Read (all_specifiers t d b ws) ts m xs us n = (ts ≡ onto_specifiers xs us) × ShapeSpecifiers t.types xs × IsTrue (is_one_type (ws ++ type_words xs))
Read (a_struct t d) ts m x us n = (keyword (codes "struct") ∷ ts ≡ onto_specifier x us) × ShapeSpecifier t.types x × (words_of x ≡ tw.Whole ∷ [])
Read (all_members t d) ts m ms us n = (ts ≡ onto_members ms (mark (codes "}") ∷ us)) × HasMember ms × ShapeMembers t.types ms
Read (more_members t d) ts m ms us n = (ts ≡ onto_members ms (mark (codes "}") ∷ us)) × ShapeMembers t.types ms
Read (all_declarators t d) ts m cs us n = (ts ≡ onto_declarators cs us) × HasDeclarator cs × ShapeDeclarators t.types cs
Read (more_declarators t d) ts m cs us n = (ts ≡ onto_more_declarators cs us) × ShapeDeclarators t.types cs
Read (an_enum t d) ts m x us n = (keyword (codes "enum") ∷ ts ≡ onto_specifier x us) × ShapeSpecifier t.types x × (words_of x ≡ tw.Whole ∷ [])
Read (all_enumerators t d) ts m es us n = (ts ≡ onto_enumerators es.0 (onto_trailing es.1 (mark (codes "}") ∷ us))) × HasEnumerator es.0 × ShapeEnumerators t.types es.0
Read (more_enumerators t d) ts m es us n = (ts ≡ onto_more_enumerators es.0 (onto_trailing es.1 (mark (codes "}") ∷ us))) × ShapeEnumerators t.types es.0
Read all_stars ts m ss us n = ts ≡ onto_stars ss us
Read all_quals ts m qs us n = ts ≡ onto_quals qs us
Read (a_declarator t d f y) ts m c us n = (ts ≡ onto_declarator c us) × ShapeDeclarator t.types c × (f ≡ false → IsNoFunction c) × IsOrdinary t.reserved (declarator_name c)
Read (all_sizes t d) ts m xs us n = (ts ≡ onto_sizes xs us) × ShapeSizes t.types xs × (kind [] ts ≡ k.OpenBracket → AtLeastOne xs)
Read (at_most_one_size t d) ts m xs us n = (ts ≡ onto_sizes xs us) × ShapeSizes t.types xs × AtMostOne xs
Read (all_parameters t d) ts m ps us n = (ts ≡ onto_parameters ps.0 ps.1 (mark (codes ")") ∷ us)) × FitsWord ps.1 ps.0 × IsNotVoid ps.0 × ShapeParameters t.types ps.0
Read (some_parameters t d) ts m ps us n = (ts ≡ onto_parameters ps false (mark (codes ")") ∷ us)) × HasParameter ps × ShapeParameters t.types ps
Read (more_parameters t d) ts m ps us n = (ts ≡ onto_more_parameters ps (mark (codes ")") ∷ us)) × ShapeParameters t.types ps
Read (a_parameter t d) ts m p us n = (ts ≡ onto_specifiers p.0 (onto_form p.1 us)) × NamesType p.0 × ShapeSpecifiers t.types p.0 × ShapeForm t.types p.1
Read (a_bare t d) ts m x us n = (ts ≡ onto_bare x us) × ShapeBare t.types x
Read (an_initializer t d o) ts m i us n = (ts ≡ onto_init i us) × ShapeInit t.types i
Read (all_initializers t d o) ts m ps us n = (ts ≡ onto_initializers ps.0 (onto_trailing ps.1 (mark (codes "}") ∷ us))) × HasInitializer ps.0 × ShapeInitializers t.types ps.0
Read (more_initializers t d) ts m ps us n = (ts ≡ onto_more_initializers ps.0 (onto_trailing ps.1 (mark (codes "}") ∷ us))) × ShapeInitializers t.types ps.0
Read (a_declaration t d) ts m x us n = (ts ≡ onto_declaration x us) × ShapeInner t.types x
Read (a_declared t d c) ts m x us n = IsNoTypedef c → (onto_storage c ts ≡ onto_declaration x us) × ShapeInner t.types x
Read (a_named t d) ts m x us n = (ts ≡ onto_named x us) × ((c : Storage) (s : Scope) → IsNoTypedef c → s.types ≡ t.types → ShapeNamed c x s)
Read (more_named t d) ts m xs us n = (ts ≡ onto_more_named xs (mark (codes ";") ∷ us)) × ((c : Storage) (s : Scope) → IsNoTypedef c → s.types ≡ t.types → ShapeNames c xs s)
Read (an_optional t d e) ts m x us n = (e ≡ k.Semicolon) ⊎ (e ≡ k.CloseParen) → (ts ≡ onto_optional x (token_of e [] ∷ us)) × ShapeOptional t.types x
Read (a_start t d) ts m x us n = (ts ≡ onto_for_start x us) × ShapeStart t.types x
Read (a_statement t d p o) ts m x us n = (ts ≡ onto_statement x us) × ShapeStatement t.types x p × (IsTrue (ends_open x) → kind [] us ≢ k.Else)
Read (all_statements t d p) ts m xs us n = (ts ≡ onto_statements xs (mark (codes "}") ∷ us)) × ShapeStatements t.types xs p
Read (an_outer c s) ts m x us n = (ts ≡ onto_named x us) × ShapeNamed c x s
Read (more_outer c s) ts m xs us n = (ts ≡ onto_more_named xs (mark (codes ";") ∷ us)) × ShapeNames c xs s
Read (a_first t) ts m c us n = (ts ≡ onto_declarator c us) × ShapeDeclarator t.types c
Read (an_item s) ts m x us n = (ts ≡ onto_item x us) × ShapeItem x s
Read (all_items s) ts m xs us n = (ts ≡ onto_program xs us) × (us ≡ []) × ShapeItems xs s
