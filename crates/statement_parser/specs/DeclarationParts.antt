-- Parts of the rules of declarations, as code reads them.
use Rattle.std.specs.Prelude.{ℕ, ◌+◌, Bool, true, false, ◌∷◌}
use Rattle.c_tree.specs.declared.tree.Storage.{Storage}
use Rattle.c_tree.specs.Tree.{Specifiers, Specifier, struct_tag, struct_of, enum_tag, enum_of, NamedTree, DeclarationTree}
use Rattle.c_grammar.specs.Body.{done, spend}
use Rattle.c_grammar.specs.Body as body
use Rattle.c_grammar.specs.Rules.{NameEnvironment, Reads, skip, a_named, more_named}

-- a struct or an enum, by its tag or its braces
abbrev pub is_tag : Specifier → Bool
is_tag (struct_tag n) = true
is_tag (struct_of t ms) = true
is_tag (enum_tag n) = true
is_tag (enum_of t es c) = true
is_tag _ = false

-- declared names, at least one, with the semicolon
abbrev pub some_names : NameEnvironment → ℕ → Storage → Specifiers → Reads DeclarationTree
some_names t d c ws = body.call (a_named t d) (λ n. body.call (more_named t d) (λ ns. done (record { storage = c; specs = ws; names = n ∷ ns })))

-- the same where the first name is still to be counted
abbrev pub counted_names : NameEnvironment → ℕ → Storage → Specifiers → Reads DeclarationTree
counted_names t d c ws = spend 1 (d + 1) (some_names t d c ws)

-- one more declared name, behind a comma
abbrev pub another_name : NameEnvironment → ℕ → Reads NamedTree
another_name t d = spend 1 (d + 1) (skip (body.call (a_named t d) done))
