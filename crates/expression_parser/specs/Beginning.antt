-- What the first operand is read as, by what it begins with.
use Rattle.std.specs.Prelude.{ℕ, ◌+◌, List, ◌∷◌, Option, Some, None}
use Rattle.c_tree.specs.Tree.{Name, Expression, name, integer, character, text, before, unary, cast, paren, size_of_type}
use Rattle.c_grammar.specs.declared.kind.Kind.TheVariants as k
use Rattle.c_grammar.specs.Body.{done, look, take, spend, Outcome, refused}
use Rattle.c_grammar.specs.Body as body
use Rattle.c_grammar.specs.Gauge.{Meter}
use Rattle.c_grammar.specs.Input.{Input}
use Rattle.c_grammar.specs.Rules.{NameEnvironment, Reads, skip, expect, an_expression, a_type, more_texts, opened_by, sizeof_by}
use Rattle.c_grammar.specs.declared.infix.First.{First}
use Rattle.c_grammar.specs.declared.infix.First.TheVariants as fi
use Rattle.c_grammar.specs.Lists.{mapped}
use Rattle.c_grammar.specs.Performing.{perform}

-- one word
abbrev pub leaf : ℕ → ℕ → Reads Name
leaf d owed = spend owed (d + 1) (take (λ n. done n))

-- texts that follow one another
abbrev pub words : ℕ → ℕ → Reads (List Name)
words d owed = spend owed (d + 1) (take (λ n. body.call more_texts (λ ns. done (n ∷ ns))))

-- an operator, and the operand behind it
abbrev pub operand : NameEnvironment → ℕ → ℕ → ℕ → Reads Expression
operand t d owed least = spend (owed + 1) (d + 2) (skip (body.call (an_expression t (d + 1) least 0) done))

-- a type that ends a bracket, and the operand that is turned to it
abbrev pub turned : NameEnvironment → ℕ → Reads Expression
turned t d = body.call (a_type t (d + 1)) (λ y. expect k.CloseParen (body.call (an_expression t (d + 1) 14 0) (λ x. done (cast y x))))

-- an expression that ends a bracket
abbrev pub closed : NameEnvironment → ℕ → Reads Expression
closed t d = body.call (an_expression t (d + 1) 1 0) (λ x. expect k.CloseParen (done (paren x)))

-- an open bracket, and what it holds
abbrev pub bracketed : NameEnvironment → ℕ → ℕ → ℕ → Reads Expression
bracketed t d owed least = spend (owed + 1) (d + 2) (skip (look t.types (opened_by t d least)))

-- a type that ends the bracket behind sizeof
abbrev pub type_sized : NameEnvironment → ℕ → Reads Expression
type_sized t d = body.call (a_type t (d + 1)) (λ y. expect k.CloseParen (done (size_of_type y)))

-- sizeof, and what is behind it
abbrev pub size_of : NameEnvironment → ℕ → ℕ → Reads Expression
size_of t d owed = spend owed (d + 1) (skip (look t.types (sizeof_by t d)))

abbrev pub begun : NameEnvironment → ℕ → ℕ → ℕ → Option First → Input → Outcome Meter Expression
begun t d least owed None i = refused i.rest
begun t d least owed (Some fi.Word) i = mapped (λ n. name n) (perform (leaf d owed) i)
begun t d least owed (Some fi.Number) i = mapped (λ n. integer n) (perform (leaf d owed) i)
begun t d least owed (Some fi.Character) i = mapped (λ n. character n) (perform (leaf d owed) i)
begun t d least owed (Some fi.Text) i = mapped (λ ns. text ns) (perform (words d owed) i)
begun t d least owed (Some fi.Open) i = perform (bracketed t d owed least) i
begun t d least owed (Some fi.Sizeof) i = perform (size_of t d owed) i
begun t d least owed (Some (fi.Step o)) i = mapped (before o) (perform (operand t d owed 15) i)
begun t d least owed (Some (fi.Unary o)) i = mapped (unary o) (perform (operand t d owed 14) i)
