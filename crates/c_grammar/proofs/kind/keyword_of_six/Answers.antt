use Rattle.std.proofs.Common.{rules, arith, refl}
use Rattle.c_grammar.specs.declared.kind.Kind.TheVariants as k
use Rattle.c_grammar.specs.Kind.{keywords, of_length}
use Rattle.c_grammar.proofs.ByLength.{among_read}
use Rattle.c_grammar.proofs.kind.keyword_of_six.Goals as goal

pub returns-in-extern : goal.returns-in-extern
returns-in-extern c = among_read (of_length 6 keywords) c.args.bytes.now k.Extern refl (omega arith) (search rules)

pub returns-in-return : goal.returns-in-return
returns-in-return c = among_read (of_length 6 keywords) c.args.bytes.now k.Return refl (omega arith) (search rules)

pub returns-in-signed : goal.returns-in-signed
returns-in-signed c = among_read (of_length 6 keywords) c.args.bytes.now k.Signed refl (omega arith) (search rules)

pub returns-in-sizeof : goal.returns-in-sizeof
returns-in-sizeof c = among_read (of_length 6 keywords) c.args.bytes.now k.Sizeof refl (omega arith) (search rules)

pub returns-in-static : goal.returns-in-static
returns-in-static c = among_read (of_length 6 keywords) c.args.bytes.now k.Static refl (omega arith) (search rules)

pub returns-in-struct : goal.returns-in-struct
returns-in-struct c = among_read (of_length 6 keywords) c.args.bytes.now k.Struct refl (omega arith) (search rules)

pub returns-in-switch : goal.returns-in-switch
returns-in-switch c = among_read (of_length 6 keywords) c.args.bytes.now k.Switch refl (omega arith) (search rules)
