use Rattle.std.proofs.Common.{rules, arith, refl}
use Rattle.c_grammar.specs.declared.kind.Kind.TheVariants as k
use Rattle.c_grammar.specs.Kind.{keywords, of_length}
use Rattle.c_grammar.proofs.ByLength.{among_read}
use Rattle.c_grammar.proofs.kind.keyword_of_eight.Goals as goal

pub returns-in-continue : goal.returns-in-continue
returns-in-continue c = among_read (of_length 8 keywords) c.args.bytes.now k.Continue refl (omega arith) (search rules)

pub returns-in-unsigned : goal.returns-in-unsigned
returns-in-unsigned c = among_read (of_length 8 keywords) c.args.bytes.now k.Unsigned refl (omega arith) (search rules)

pub returns-in-volatile : goal.returns-in-volatile
returns-in-volatile c = among_read (of_length 8 keywords) c.args.bytes.now k.Volatile refl (omega arith) (search rules)
