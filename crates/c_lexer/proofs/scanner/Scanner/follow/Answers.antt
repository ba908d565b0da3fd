use Rattle.std.proofs.Common.{◌∙◌, ap}
use Rattle.c_lexer.specs.Directives.{is_utf8, is_marker}
use Rattle.c_lexer.proofs.Markers.{marker_utf8}
use Rattle.c_lexer.proofs.scanner.Scanner.follow.Goals as goal

pub file_number-requires-clause-utf8 : goal.file_number-requires-clause-utf8
file_number-requires-clause-utf8 c =
    ap is_utf8 c.file_name.ensures ∙ marker_utf8 c.body-line.result.now (ap is_marker c.body-line.ensures ∙ c.requires.marker)
