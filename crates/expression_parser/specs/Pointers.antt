-- The words and marks of a pointer.
use Rattle.std.specs.Prelude.{Option, Some, None}
use Rattle.c_tree.specs.declared.tree.Qual.{Qual}
use Rattle.c_tree.specs.declared.tree.Qual.TheVariants as q
use Rattle.c_grammar.specs.declared.kind.Kind.{Kind}
use Rattle.c_grammar.specs.declared.kind.Kind.TheVariants as k

-- the qualifier that a token of this kind is
abbrev pub qualifier : Kind → Option Qual
qualifier k.Const = Some q.Const
qualifier k.Volatile = Some q.Volatile
qualifier _ = None
