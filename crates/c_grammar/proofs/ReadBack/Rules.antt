-- What a tree of the right shape spells is read as that tree: expressions, types and declarators.
use Rattle.std.proofs.Common.{◌≡◌, ◌≢◌, ℕ, ◌<◌, ◌≤◌, Bool, false, List, [], ◌∷◌, codes, refl}
use Rattle.c_tree.specs.Tree.{Name, Quals, Stars, Expression, Expressions, Sizes, TypeTree, Specifiers, DeclaratorTree, pointer, Parameters}
use Rattle.c_tree.specs.Marks.{Tokens, mark}
use Rattle.c_tree.specs.TypeWords.{IsOrdinary, NamesType}
use Rattle.c_tree.specs.DeclaredNames.{declarator_name, declared_inside, declared_expression, declared_expressions, declared_sizes, declared_type, declared_specifiers, declared_parameters}
use Rattle.c_tree.specs.ExpressionShape.{level, FitsWord, IsNotVoid, IsNoFunction, ShapeExpression, ShapeArguments, ShapeSizes, ShapeType, ShapeSpecifiers, ShapeDeclarator, ShapeParameters}
use Rattle.c_grammar.specs.declared.kind.Kind.TheVariants as k
use Rattle.c_grammar.specs.Kind.{kind}
use Rattle.c_grammar.specs.Body.{got}
use Rattle.c_grammar.specs.Rules.{NameEnvironment, only_types, inside, an_expression, a_whole, a_rest, all_arguments, a_type, all_specifiers, a_declarator, declarator_by, all_sizes, all_parameters}
use Rattle.c_grammar.proofs.Onto.{onto_expression, onto_arguments, onto_sizes, onto_type, onto_specifiers, onto_declarator, onto_parameters}
use Rattle.c_grammar.proofs.Parse.{parse}
use Rattle.c_grammar.proofs.Runs.{Runs}
use Rattle.c_grammar.proofs.Weight.{weight, ceiling}
use Rattle.c_grammar.proofs.Avoiding.{Avoids, avoids_nothing}
use Rattle.c_grammar.proofs.ReadBack.Tree.{EndsType, EndsDeclarator}
use Rattle.c_grammar.proofs.ReadBack.Operands.{expression_read}
use Rattle.c_grammar.proofs.ReadBack.ParameterLists.{list_read}
use Rattle.c_grammar.proofs.ReadBack.Declarators.{pointer_runs}
use Rattle.c_grammar.proofs.ReadBack.All.{expression_reads, arguments_reads, sizes_reads, type_reads, words_reads, declarator_reads, some_reads}
pub use Rattle.c_grammar.proofs.ReadBack.Tree.{EndsType, EndsDeclarator}
pub use Rattle.c_grammar.proofs.Heads.{expression_head, expression_longer}
pub use Rattle.c_grammar.proofs.TypeHeads.{specifiers_head}
pub use Rattle.c_grammar.proofs.ReadBack.Stars.{declares_ordinary, declarator_head}
pub use Rattle.c_grammar.proofs.Longer.{specifiers_longer, declarator_longer}
pub use Rattle.c_grammar.proofs.NameFirst.{name_first, name_stops}

-- an expression is read as it, with what goes on behind it
pub whole_complete : (types : List Name) (d l o : ℕ) (x : Expression) (r : Tokens) → ShapeExpression types x → 1 ≤ l → l ≤ 15 → l ≤ level x → weight r ≤ ceiling x →
    parse (a_whole (only_types types) d l o) (onto_expression x r) ≡ parse (a_rest (only_types types) d l x) r
whole_complete types d l o x r s some few fits ends = (expression_reads (only_types types) x s (avoids_nothing (declared_expression x))).whole d l o r some few fits ends

-- an expression is read as it, where what follows binds less than is asked
pub expression_complete : (types : List Name) (d l o : ℕ) (x : Expression) (r : Tokens) → ShapeExpression types x → 1 ≤ l → l ≤ 15 → l ≤ level x → weight r < l →
    parse (an_expression (only_types types) d l o) (onto_expression x r) ≡ got x r tt
expression_complete types d l o x r s some few fits ends =
    expression_read (only_types types) d l o x r (expression_reads (only_types types) x s (avoids_nothing (declared_expression x))) some few fits ends

-- the arguments of a call, with its bracket
pub arguments_complete : (types : List Name) (d : ℕ) (xs : Expressions) (r : Tokens) → ShapeArguments types xs → parse (all_arguments (only_types types) d) (onto_arguments xs (mark (codes ")") ∷ r)) ≡ got xs r tt
arguments_complete types d xs r s = (arguments_reads (only_types types) xs s (avoids_nothing (declared_expressions xs))).all d r

-- the sizes of an array
pub sizes_complete : (types : List Name) (d : ℕ) (xs : Sizes) (r : Tokens) → ShapeSizes types xs → kind [] r ≢ k.OpenBracket → parse (all_sizes (only_types types) d) (onto_sizes xs r) ≡ got xs r tt
sizes_complete types d xs r s ends = (sizes_reads (only_types types) xs s (avoids_nothing (declared_sizes xs))).all d r ends

-- a type in brackets
pub type_complete : (types : List Name) (d : ℕ) (y : TypeTree) (r : Tokens) → ShapeType types y →
    parse (a_type (only_types types) d) (onto_type y (mark (codes ")") ∷ r)) ≡ got y (mark (codes ")") ∷ r) tt
type_complete types d y r s = (type_reads (only_types types) y s (avoids_nothing (declared_type y))).all d r

-- specifiers, perhaps with a name to follow them
pub specifiers_complete : (types : List Name) (d : ℕ) (b : Bool) (xs : Specifiers) (r : Tokens) → ShapeSpecifiers types xs → NamesType xs → EndsType (only_types types) r →
    parse (all_specifiers (only_types types) d b []) (onto_specifiers xs r) ≡ got xs r tt
specifiers_complete types d b xs r s one ends = (words_reads (only_types types) xs s (avoids_nothing (declared_specifiers xs))).all d b [] r one ends

-- a declarator, perhaps of a type
pub declarator_complete : (t : NameEnvironment) (d : ℕ) (f y : Bool) (c : DeclaratorTree) (r : Tokens) → ShapeDeclarator t.types c → IsOrdinary t.reserved (declarator_name c) →
    Avoids (inside y (declarator_name c) t).reserved (declared_inside c) → (f ≡ false → IsNoFunction c) → EndsDeclarator r → parse (a_declarator t d f y) (onto_declarator c r) ≡ got c r tt
declarator_complete t d f y c r s new avoids may ends = (declarator_reads t y c s new avoids).all d f r may ends

-- a declarator where no name is reserved
pub object_complete : (types : List Name) (d : ℕ) (f : Bool) (c : DeclaratorTree) (r : Tokens) → ShapeDeclarator types c → (f ≡ false → IsNoFunction c) → EndsDeclarator r →
    parse (a_declarator (only_types types) d f false) (onto_declarator c r) ≡ got c r tt
object_complete types d f c r s may ends = declarator_complete (only_types types) d f false c r s refl (avoids_nothing (declared_inside c)) may ends

-- a pointer to a function, behind its stars
pub pointer_complete : (types : List Name) (taken : Bool) (limit d : ℕ) (f : Bool) (ss : Stars) (qs : Quals) (n : Name) (xs : Sizes) (ps : Parameters) (v : Bool) (r : Tokens) → ShapeDeclarator types (pointer ss qs n xs ps v) →
    Runs taken limit (declarator_by (only_types types) d f false ss k.OpenParen) (onto_declarator (pointer [] qs n xs ps v) r) (got (pointer ss qs n xs ps v) r tt)
pointer_complete types taken limit d f ss qs n xs ps v r s =
    pointer_runs (only_types types) taken limit d f false ss qs n xs ps v r s.0 s.1 (sizes_reads (only_types types) xs s.2 (avoids_nothing (declared_sizes xs)))
    (list_read (only_types types) ps v s.3 s.4 s.5 (some_reads (only_types types) ps s.5 (avoids_nothing (declared_parameters ps))))

-- the parameters of a function, with its bracket
pub parameters_complete : (types : List Name) (d : ℕ) (ps : Parameters) (v : Bool) (r : Tokens) → FitsWord v ps → IsNotVoid ps → ShapeParameters types ps →
    parse (all_parameters (only_types types) d) (onto_parameters ps v (mark (codes ")") ∷ r)) ≡ got (ps, v) r tt
parameters_complete types d ps v r fits some s = list_read (only_types types) ps v fits some s (some_reads (only_types types) ps s (avoids_nothing (declared_parameters ps))) d r
