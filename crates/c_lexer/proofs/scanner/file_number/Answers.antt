use Rattle.std.proofs.Common.{◌+◌, bytes_eq, sym, ap, ◌∙◌}
use Rattle.std.specs.List.{position_or_len}
use Rattle.c_lexer.specs.Lexis.{with_file}
use Rattle.c_lexer.proofs.Files.{names, names-insert, position-names}
use Rattle.c_lexer.proofs.scanner.file_number.Goals as goal

pub returns-clause-number : goal.returns-clause-number
returns-clause-number c =
    let files = c.args.files.now.keys in
    let key = c.in-Ok-from_str.key in
    let bytes = c.in-Ok-from_str.ensures.ok ∙ c.in-Ok.ensures.cases.0 in
    ap (λ n. n + 1) (c.in-Ok-insert_full.ensures.index ∙ sym (position-names key files) ∙ ap (λ name. position_or_len (bytes_eq name) (names files)) bytes)

pub returns-clause-files : goal.returns-clause-files
returns-clause-files c =
    let files = c.args.files.now.keys in
    let key = c.in-Ok-from_str.key in
    let bytes = c.in-Ok-from_str.ensures.ok ∙ c.in-Ok.ensures.cases.0 in
    ap names c.in-Ok-insert_full.ensures.keys ∙ names-insert key files ∙ ap (with_file (names files)) bytes
