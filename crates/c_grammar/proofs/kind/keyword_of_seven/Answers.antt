use Rattle.std.proofs.Common.{rules, arith, refl}
use Rattle.c_grammar.specs.declared.kind.Kind.TheVariants as k
use Rattle.c_grammar.specs.Kind.{keywords, of_length}
use Rattle.c_grammar.proofs.ByLength.{among_read}
use Rattle.c_grammar.proofs.kind.keyword_of_seven.Goals as goal

pub returns-in-100 : goal.returns-in-100
returns-in-100 c = among_read (of_length 7 keywords) c.args.bytes.now k.Default refl (omega arith) (search rules)

pub returns-in-typedef : goal.returns-in-typedef
returns-in-typedef c = among_read (of_length 7 keywords) c.args.bytes.now k.Typedef refl (omega arith) (search rules)
