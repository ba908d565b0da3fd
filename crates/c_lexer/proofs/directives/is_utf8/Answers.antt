use Rattle.std.proofs.Common.{sym, eq-eqb}
use Rattle.std.proofs.lemmas.Str.{utf8_valid_len-IsUtf8}
use Rattle.c_lexer.proofs.Files.{not_utf8}
use Rattle.c_lexer.proofs.directives.is_utf8.Goals as goal

pub returns-in-Ok : goal.returns-in-Ok
returns-in-Ok c = sym (eq-eqb _ _ (utf8_valid_len-IsUtf8 c.args.bytes.now c.in-Ok.ensures.cases.1))

pub returns-in-Err : goal.returns-in-Err
returns-in-Err c = sym (not_utf8 c.args.bytes.now _ c.in-Err.ensures.cases.1)
