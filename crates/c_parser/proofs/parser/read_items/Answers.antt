use Rattle.std.proofs.Common.{sym, ap, ◌∙◌, map}
use Rattle.c_tree.specs.StatementView.{view_item}
use Rattle.c_grammar.specs.Reading.{read, failure_of}
use Rattle.c_grammar.proofs.Programs.{whole, begun}
use Rattle.c_parser.proofs.Leaving.{refused_within, exceeded_within}
use Rattle.c_parser.proofs.Meaning.{refused_fault, exceeded_fault, got_read, read_as, refused_as, exceeded_as}
use Rattle.c_parser.proofs.parser.read_items.Goals as goal

pub overflow_sub-token : goal.overflow_sub-token
overflow_sub-token c =
    let e = rw c.in-Err-Syntax.field-0-is at c.in-Err-Syntax.ensures in
    refused_within whole (begun c.args.tokens.now) c.in-Err-Syntax.left (ap (λ i. failure_of (read whole i)) (sym c.new-cursor.ensures) ∙ e.says)

pub overflow_sub-token-in-Err-Large : goal.overflow_sub-token-in-Err-Large
overflow_sub-token-in-Err-Large c =
    let e = rw c.in-Err-Large.field-0-is at c.in-Err-Large.ensures in
    exceeded_within whole (begun c.args.tokens.now) c.in-Err-Large.left (ap (λ i. failure_of (read whole i)) (sym c.new-cursor.ensures) ∙ e.says)

pub returns-in-Ok-clause-fault : goal.returns-in-Ok-clause-fault
returns-in-Ok-clause-fault c = got_read c.args.tokens.now _ (map view_item c.in-Ok.items) _ (ap (λ i. read whole i) (sym c.new-cursor.ensures) ∙ c.in-Ok.ensures)

pub returns-in-Err-Syntax-clause-fault : goal.returns-in-Err-Syntax-clause-fault
returns-in-Err-Syntax-clause-fault c =
    let e = rw c.in-Err-Syntax.field-0-is at c.in-Err-Syntax.ensures in
    refused_fault c.args.tokens.now c.in-Err-Syntax.left (ap (λ i. failure_of (read whole i)) (sym c.new-cursor.ensures) ∙ e.says)

pub returns-in-Err-Large-clause-fault : goal.returns-in-Err-Large-clause-fault
returns-in-Err-Large-clause-fault c =
    let e = rw c.in-Err-Large.field-0-is at c.in-Err-Large.ensures in
    exceeded_fault c.args.tokens.now c.in-Err-Large.left (ap (λ i. failure_of (read whole i)) (sym c.new-cursor.ensures) ∙ e.says)

pub returns-in-Ok-clause-answer : goal.returns-in-Ok-clause-answer
returns-in-Ok-clause-answer c = read_as c.args.tokens.now _ (map view_item c.in-Ok.items) _ (ap (λ i. read whole i) (sym c.new-cursor.ensures) ∙ c.in-Ok.ensures)

pub returns-in-Err-Syntax-clause-answer : goal.returns-in-Err-Syntax-clause-answer
returns-in-Err-Syntax-clause-answer c =
    let e = rw c.in-Err-Syntax.field-0-is at c.in-Err-Syntax.ensures in
    refused_as c.args.tokens.now c.in-Err-Syntax.left (ap (λ i. failure_of (read whole i)) (sym c.new-cursor.ensures) ∙ e.says)

pub returns-in-Err-Large-clause-answer : goal.returns-in-Err-Large-clause-answer
returns-in-Err-Large-clause-answer c =
    let e = rw c.in-Err-Large.field-0-is at c.in-Err-Large.ensures in
    exceeded_as c.args.tokens.now c.in-Err-Large.left (ap (λ i. failure_of (read whole i)) (sym c.new-cursor.ensures) ∙ e.says)
