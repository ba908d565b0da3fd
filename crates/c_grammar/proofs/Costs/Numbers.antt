-- The sizes of trees as numbers: each expression, initialiser and statement has a node of its own, so it is 1 deep at least;
-- and whether the first word of a type counts the name that has to follow.
use Rattle.std.proofs.Common.{◌≡◌, ℕ, suc, ◌+◌, ◌≤◌, max, Bool, true, false, cond, List, [], ◌∷◌, length, refl, sym, ap, ◌∙◌, arith, length-append}
use Rattle.std.specs.List.{list_any, list_all}
use Rattle.c_tree.specs.TypeWords.{is_integer_word, is_integer_type, is_one_type, words_of, type_words, has_tag}
use Rattle.c_tree.specs.declared.type_word.TypeWord.{TypeWord}
use Rattle.c_tree.specs.declared.type_word.TypeWord.TheVariants as tw
use Rattle.c_tree.specs.Tree.{Specifiers, no_specifiers, specifiers, Specifier, const_word, volatile_word, void_word, char_word, short_word, int_word, long_word, signed_word, unsigned_word, type_name, struct_tag, struct_of, enum_tag, enum_of}
use Rattle.c_tree.specs.Tree.{Expression, comma, assign, choose, binary, cast, unary, before, size_of, size_of_type, index, call, dot, arrow, after, name, integer, character, text, paren, Initializer, single, listed, StatementTree, block, declaration, expression_statement, if_statement, if_else_statement, while_statement, do_statement, for_statement, switch_statement, case_label, default_label, named_label, break_statement, continue_statement, return_statement, goto_statement}
use Rattle.c_tree.specs.Tree.{NamedTree, DeclarationTree}
use Rattle.c_tree.specs.Nodes.{nodes_specifiers, nodes_named, nodes_names, nodes_declaration}
use Rattle.c_tree.specs.Depth.{depth_expression, depth_init, depth_statement}
use Rattle.c_grammar.proofs.Costs.Counting.{first_count, first_counts}

-- an expression is 1 deep at least
pub expression_deep : (x : Expression) → 1 ≤ depth_expression x
expression_deep (comma x y) = omega arith
expression_deep (assign o x y) = omega arith
expression_deep (choose x y z) = omega arith
expression_deep (binary o x y) = omega arith
expression_deep (cast t x) = omega arith
expression_deep (unary o x) = omega arith
expression_deep (before o x) = omega arith
expression_deep (size_of x) = omega arith
expression_deep (size_of_type t) = omega arith
expression_deep (index x y) = omega arith
expression_deep (call f xs) = omega arith
expression_deep (dot x n) = omega arith
expression_deep (arrow x n) = omega arith
expression_deep (after o x) = omega arith
expression_deep (name n) = omega arith
expression_deep (integer n) = omega arith
expression_deep (character n) = omega arith
expression_deep (text ns) = omega arith
expression_deep (paren x) = omega arith

-- an initialiser is 1 deep at least
pub initializer_deep : (i : Initializer) → 1 ≤ depth_init i
initializer_deep (single x) = expression_deep x
initializer_deep (listed ps c) = omega arith

-- a statement is 1 deep at least
pub statement_deep : (s : StatementTree) → 1 ≤ depth_statement s
statement_deep (block ss) = omega arith
statement_deep (declaration d) = omega arith
statement_deep (expression_statement x) = omega arith
statement_deep (if_statement x s) = omega arith
statement_deep (if_else_statement x s r) = omega arith
statement_deep (while_statement x s) = omega arith
statement_deep (do_statement s x) = omega arith
statement_deep (for_statement a x y s) = omega arith
statement_deep (switch_statement x s) = omega arith
statement_deep (case_label x) = omega arith
statement_deep default_label = omega arith
statement_deep (named_label n) = omega arith
statement_deep break_statement = omega arith
statement_deep continue_statement = omega arith
statement_deep (return_statement x) = omega arith
statement_deep (goto_statement n) = omega arith

-- the nodes of names by the first
pub names_size : (x : NamedTree) (xs : List NamedTree) → length (nodes_names (x ∷ xs)) ≡ length (nodes_named x) + length (nodes_names xs)
names_size x xs = length-append (nodes_named x) (nodes_names xs)

-- the nodes of a declaration by its parts
pub declaration_size : (x : DeclarationTree) → length (nodes_declaration x) ≡ suc (length (nodes_specifiers x.specs) + length (nodes_names x.names))
declaration_size x = ap suc (length-append (nodes_specifiers x.specs) (nodes_names x.names))

-- two depths below one make their greatest
pub joined : (p q r d a b : ℕ) → q ≡ max p (d + a) → r ≡ max q (d + b) → r ≡ max p (d + max a b)
joined p q r d a b g h = omega arith

-- a depth that counts another, where that one was counted with the token before
below : (p d w u : ℕ) → 1 ≤ w → u ≡ max (max p (d + 2)) (d + 1 + w) → u ≡ max p (d + (1 + w))
below p d w u g h = omega arith

some_deep : (c x y z : ℕ) → 1 ≤ z → 1 ≤ max c (max x (max y z))
some_deep c x y z h = omega arith

-- the depth of a loop by its four parts
pub for_deep : (d p q r s u c x y z : ℕ) → q ≡ max (max p (d + 2)) (d + 1 + c) → r ≡ max q (d + 1 + x) → s ≡ max r (d + 1 + y) → u ≡ max s (d + 1 + z) → 1 ≤ z →
    u ≡ max p (d + (1 + max c (max x (max y z))))
for_deep d p q r s u c x y z e f g h deep =
    below p d (max c (max x (max y z))) u (some_deep c x y z deep)
    (joined (max p (d + 2)) q u (d + 1) c (max x (max y z)) e (joined q r u (d + 1) x (max y z) f (joined r s u (d + 1) y z g h)))

-- ---- the name that the first word of a type counts

abbrev is_whole : TypeWord → Bool
is_whole tw.Whole = true
is_whole _ = false

whole_is_no_integer : (us : List TypeWord) → list_any is_whole us ≡ true → list_all is_integer_word us ≡ false
whole_is_no_integer [] h = absurd (cc h)
whole_is_no_integer (tw.Void ∷ us) h = refl
whole_is_no_integer (tw.Char ∷ us) h = refl
whole_is_no_integer (tw.Short ∷ us) h = whole_is_no_integer us h
whole_is_no_integer (tw.Int ∷ us) h = whole_is_no_integer us h
whole_is_no_integer (tw.Long ∷ us) h = whole_is_no_integer us h
whole_is_no_integer (tw.Signed ∷ us) h = whole_is_no_integer us h
whole_is_no_integer (tw.Unsigned ∷ us) h = whole_is_no_integer us h
whole_is_no_integer (tw.Whole ∷ us) h = refl

no_integer : (us : List TypeWord) → list_all is_integer_word us ≡ false → is_integer_type us ≡ false
no_integer us h = rw h refl

behind_word : (w : TypeWord) (us : List TypeWord) → list_all is_integer_word us ≡ false → list_all is_integer_word (w ∷ us) ≡ false
behind_word tw.Void us h = refl
behind_word tw.Char us h = refl
behind_word tw.Whole us h = refl
behind_word _ us h = h

-- a word and a whole type behind it name no type
word_and_whole : (w : TypeWord) (us : List TypeWord) → list_any is_whole us ≡ true → is_one_type (w ∷ us) ≡ false
word_and_whole w [] h = absurd (cc h)
word_and_whole tw.Signed (tw.Char ∷ []) h = absurd (cc h)
word_and_whole tw.Unsigned (tw.Char ∷ []) h = absurd (cc h)
word_and_whole w us h = no_integer (w ∷ us) (behind_word w us (whole_is_no_integer us h))

tag_is_whole : (xs : Specifiers) → has_tag xs ≡ true → list_any is_whole (type_words xs) ≡ true
tag_is_whole no_specifiers h = absurd (cc h)
tag_is_whole (specifiers const_word xs) h = tag_is_whole xs h
tag_is_whole (specifiers volatile_word xs) h = tag_is_whole xs h
tag_is_whole (specifiers void_word xs) h = tag_is_whole xs h
tag_is_whole (specifiers char_word xs) h = tag_is_whole xs h
tag_is_whole (specifiers short_word xs) h = tag_is_whole xs h
tag_is_whole (specifiers int_word xs) h = tag_is_whole xs h
tag_is_whole (specifiers long_word xs) h = tag_is_whole xs h
tag_is_whole (specifiers signed_word xs) h = tag_is_whole xs h
tag_is_whole (specifiers unsigned_word xs) h = tag_is_whole xs h
tag_is_whole (specifiers _ xs) h = refl

word_counts : (w : TypeWord) (xs : Specifiers) (b : Bool) → has_tag xs ≡ b → is_one_type (w ∷ type_words xs) ≡ true → ◌≡◌ {A = ℕ} 1 (cond b 0 1)
word_counts w xs false tag one = refl
word_counts w xs true tag one = let none = word_and_whole w (type_words xs) (tag_is_whole xs tag) in absurd (cc (sym none ∙ one))

-- the first word of one type counts the name that has to follow, but for a struct or an enum
pub first_counted : (xs : Specifiers) (b : Bool) → has_tag xs ≡ b → is_one_type (type_words xs) ≡ true → first_count xs ≡ cond b 0 1
first_counted no_specifiers b tag one = absurd (cc one)
first_counted (specifiers const_word xs) b tag one = first_counted xs b tag one
first_counted (specifiers volatile_word xs) b tag one = first_counted xs b tag one
first_counted (specifiers void_word xs) b tag one = word_counts tw.Void xs b tag one
first_counted (specifiers char_word xs) b tag one = word_counts tw.Char xs b tag one
first_counted (specifiers short_word xs) b tag one = word_counts tw.Short xs b tag one
first_counted (specifiers int_word xs) b tag one = word_counts tw.Int xs b tag one
first_counted (specifiers long_word xs) b tag one = word_counts tw.Long xs b tag one
first_counted (specifiers signed_word xs) b tag one = word_counts tw.Signed xs b tag one
first_counted (specifiers unsigned_word xs) b tag one = word_counts tw.Unsigned xs b tag one
first_counted (specifiers (type_name n) xs) b tag one = word_counts tw.Whole xs b tag one
first_counted (specifiers (struct_tag n) xs) true tag one = refl
first_counted (specifiers (struct_of n ms) xs) true tag one = refl
first_counted (specifiers (enum_tag n) xs) true tag one = refl
first_counted (specifiers (enum_of n es c) xs) true tag one = refl
first_counted (specifiers (struct_tag n) xs) false tag one = absurd (cc tag)
first_counted (specifiers (struct_of n ms) xs) false tag one = absurd (cc tag)
first_counted (specifiers (enum_tag n) xs) false tag one = absurd (cc tag)
first_counted (specifiers (enum_of n es c) xs) false tag one = absurd (cc tag)

-- no specifiers count no name
pub none_counts : (b : Bool) → first_counts b no_specifiers ≡ 0
none_counts true = refl
none_counts false = refl

-- a struct or an enum counts no name, and is a whole type
pub tag_counts : (b : Bool) (x : Specifier) (xs : Specifiers) → has_tag (specifiers x no_specifiers) ≡ true → (first_counts b (specifiers x xs) ≡ 0) × (words_of x ≡ tw.Whole ∷ [])
tag_counts true (struct_tag n) xs h = (refl, refl)
tag_counts true (struct_of n ms) xs h = (refl, refl)
tag_counts true (enum_tag n) xs h = (refl, refl)
tag_counts true (enum_of n es c) xs h = (refl, refl)
tag_counts false (struct_tag n) xs h = (refl, refl)
tag_counts false (struct_of n ms) xs h = (refl, refl)
tag_counts false (enum_tag n) xs h = (refl, refl)
tag_counts false (enum_of n es c) xs h = (refl, refl)
tag_counts b const_word xs h = absurd (cc h)
tag_counts b volatile_word xs h = absurd (cc h)
tag_counts b void_word xs h = absurd (cc h)
tag_counts b char_word xs h = absurd (cc h)
tag_counts b short_word xs h = absurd (cc h)
tag_counts b int_word xs h = absurd (cc h)
tag_counts b long_word xs h = absurd (cc h)
tag_counts b signed_word xs h = absurd (cc h)
tag_counts b unsigned_word xs h = absurd (cc h)
tag_counts b (type_name n) xs h = absurd (cc h)
