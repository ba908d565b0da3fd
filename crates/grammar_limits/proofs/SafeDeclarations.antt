-- The rules of declarations and initialisers keep to what is due.
use Rattle.std.proofs.Common.{ℕ, ◌+◌, ◌≤◌, Bool, cond, ◌∷◌, arith}
use Rattle.c_tree.specs.declared.tree.Storage.{Storage}
use Rattle.c_tree.specs.Tree.{Specifiers, DeclaratorTree, DeclarationTree}
use Rattle.c_tree.specs.TypeWords.{has_tag}
use Rattle.c_grammar.specs.declared.kind.Kind.{Kind}
use Rattle.c_grammar.specs.declared.kind.Kind.TheVariants as k
use Rattle.c_grammar.specs.Body.{done}
use Rattle.c_grammar.specs.Body as body
use Rattle.c_grammar.specs.Rules.{NameEnvironment, naming, begins_declarator, has_initializer, initializer_by, initializers_by, next_initializer_by, more_initializers_by, declaration_by, declared_names_by, named_init_by, more_named_by, an_initializer, all_initializers, more_initializers, a_declaration, a_declared, a_named, more_named}
use Rattle.grammar_limits.proofs.Dues.{Safe, Due, safe_done, safe_stop, safe_look, safe_take, safe_spend, safe_call, safe_if, safe_expect, safe_name, safe_naming}

initializer-by : (t : NameEnvironment) (d o : ℕ) (e : Kind) → o ≤ 5 → Safe (initializer_by t d o e) 10 0 (d + 20) 10 0
initializer-by t d o k.OpenBrace low = safe_spend (omega arith) (omega arith) (safe_take (λ _. safe_call (omega arith) (omega arith) (omega arith) (omega arith) (λ _. safe_done (omega arith) (omega arith))))
initializer-by t d o _ low = safe_call (omega arith) (omega arith) (omega arith) (omega arith) (λ _. safe_done (omega arith) (omega arith))

-- an initialiser
pub initializer-due : (t : NameEnvironment) (d o : ℕ) → Due (an_initializer t d o)
initializer-due t d o low = safe_look (λ e. initializer-by t d o e low)

initializers-by : (t : NameEnvironment) (d o : ℕ) (e : Kind) → o ≤ 5 → Safe (initializers_by t d o e) 10 0 (d + 20) 10 0
initializers-by t d o k.Dot low = safe_spend (omega arith) (omega arith) (safe_take (λ _. safe_name (λ _. safe_expect k.Assign (safe_call (omega arith) (omega arith) (omega arith) (omega arith) (λ _. safe_call (omega arith) (omega arith) (omega arith) (omega arith) (λ _. safe_done (omega arith) (omega arith)))))))
initializers-by t d o _ low = safe_call (omega arith) (omega arith) (omega arith) (omega arith) (λ _. safe_call (omega arith) (omega arith) (omega arith) (omega arith) (λ _. safe_done (omega arith) (omega arith)))

pub initializers-due : (t : NameEnvironment) (d o : ℕ) → Due (all_initializers t d o)
initializers-due t d o low = safe_look (λ e. initializers-by t d o e low)

next-initializer-by : (t : NameEnvironment) (d u : ℕ) (e : Kind) → d + 20 ≤ u → Safe (next_initializer_by t d e) 10 0 u 110 0
next-initializer-by t d u k.CloseBrace room = safe_take (λ _. safe_done (omega arith) (omega arith))
next-initializer-by t d u _ room = safe_call (omega arith) (omega arith) (omega arith) (omega arith) (λ _. safe_done (omega arith) (omega arith))

more-initializers-by : (t : NameEnvironment) (d : ℕ) (e : Kind) → Safe (more_initializers_by t d e) 10 0 (d + 20) 10 0
more-initializers-by t d k.CloseBrace = safe_take (λ _. safe_done (omega arith) (omega arith))
more-initializers-by t d k.Comma = safe_take (λ _. safe_look (λ e. next-initializer-by t d _ e (omega arith)))
more-initializers-by t d _ = safe_stop

pub more-initializers-due : (t : NameEnvironment) (d : ℕ) → Due (more_initializers t d)
more-initializers-due t d low = safe_look (λ e. more-initializers-by t d e)

declaration-by : (t : NameEnvironment) (d : ℕ) (e : Kind) → Safe (declaration_by t d e) 60 0 (d + 21) 20 0
declaration-by t d k.Static = safe_take (λ _. safe_call (omega arith) (omega arith) (omega arith) (omega arith) (λ _. safe_done (omega arith) (omega arith)))
declaration-by t d k.Extern = safe_take (λ _. safe_call (omega arith) (omega arith) (omega arith) (omega arith) (λ _. safe_done (omega arith) (omega arith)))
declaration-by t d _ = safe_call (omega arith) (omega arith) (omega arith) (omega arith) (λ _. safe_done (omega arith) (omega arith))

-- a declaration
pub declaration-due : (t : NameEnvironment) (d : ℕ) → Due (a_declaration t d)
declaration-due t d low = safe_look (λ e. declaration-by t d e)

first-named : (t : NameEnvironment) (d : ℕ) (c : Storage) (ws : Specifiers) (b : Bool) →
    Safe {A = DeclarationTree} (cond b (naming (has_tag ws) d (body.call (a_named t d) (λ n. body.call (more_named t d) (λ ns. done (record { storage = c; specs = ws; names = n ∷ ns }))))) body.stop) 60 0 (d + 21) 20 0
first-named t d c ws b = safe_if b (safe_naming (has_tag ws) d (omega arith) (omega arith) (safe_call (omega arith) (omega arith) (omega arith) (omega arith) (λ _. safe_call (omega arith) (omega arith) (omega arith) (omega arith) (λ _. safe_done (omega arith) (omega arith)))) (safe_call (omega arith) (omega arith) (omega arith) (omega arith) (λ _. safe_call (omega arith) (omega arith) (omega arith) (omega arith) (λ _. safe_done (omega arith) (omega arith))))) safe_stop

declared-names-by : (t : NameEnvironment) (d : ℕ) (c : Storage) (ws : Specifiers) (e : Kind) → Safe (declared_names_by t d c ws e) 60 0 (d + 21) 20 0
declared-names-by t d c ws k.Semicolon = safe_if (has_tag ws) (safe_take (λ _. safe_done (omega arith) (omega arith))) safe_stop
declared-names-by t d c ws e = first-named t d c ws (begins_declarator e)

pub declared-due : (t : NameEnvironment) (d : ℕ) (c : Storage) → Due (a_declared t d c)
declared-due t d c low = safe_call (omega arith) (omega arith) (omega arith) (omega arith) (λ x. safe_look (λ e. declared-names-by t d c x e))

-- behind a declarator
pub named-init-by : (t : NameEnvironment) (d u : ℕ) (may : Bool) (c : DeclaratorTree) (e : Kind) → d + 20 ≤ u → Safe (named_init_by t d may c e) 10 0 u 10 0
named-init-by t d u may c k.Assign room = safe_if may (safe_spend (omega arith) (omega arith) (safe_take (λ _. safe_call (omega arith) (omega arith) (omega arith) (omega arith) (λ _. safe_done (omega arith) (omega arith))))) safe_stop
named-init-by t d u may c _ room = safe_done (omega arith) (omega arith)

-- a declarator and its initialiser
pub named-due : (t : NameEnvironment) (d : ℕ) → Due (a_named t d)
named-due t d low = safe_call (omega arith) (omega arith) (omega arith) (omega arith) (λ x. safe_look (λ e. named-init-by t (d + 1) _ (has_initializer x) x e (omega arith)))

more-named-by : (t : NameEnvironment) (d : ℕ) (e : Kind) → Safe (more_named_by t d e) 60 0 (d + 20) 10 0
more-named-by t d k.Semicolon = safe_take (λ _. safe_done (omega arith) (omega arith))
more-named-by t d k.Comma = safe_spend (omega arith) (omega arith) (safe_take (λ _. safe_call (omega arith) (omega arith) (omega arith) (omega arith) (λ _. safe_call (omega arith) (omega arith) (omega arith) (omega arith) (λ _. safe_done (omega arith) (omega arith)))))
more-named-by t d _ = safe_stop

pub more-named-due : (t : NameEnvironment) (d : ℕ) → Due (more_named t d)
more-named-due t d low = safe_look (λ e. more-named-by t d e)
