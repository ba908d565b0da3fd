use Rattle.std.proofs.Common.{◌≡◌, ◌≤◌, [], ◌∷◌, length, get_or, rules, sym, ap, ◌∙◌, arith}
use Rattle.std.proofs.lemmas.Grind.{common_steps}
use Rattle.c_lexer.specs.Bytes.{is_among}
use Rattle.c_lexer.specs.Punctuators.{of_one, of_two, of_three}
use Rattle.c_lexer.proofs.Wholes.{one_whole, two_whole, three_whole}
use Rattle.c_lexer.proofs.punctuators.punctuator.Goals as goal

pub returns-then-is_three-clause-within : goal.returns-then-is_three-clause-within
returns-then-is_three-clause-within c =
    let z = c.args.z.now in
    let long : 3 ≤ length c.args.z.now = first_of (search rules, grind (arith, common_steps)) in
    let bytes : get_or c.args.z.now 0 0 ∷ get_or c.args.z.now 1 0 ∷ get_or c.args.z.now 2 0 ∷ [] ≡ c.byte-a.result ∷ c.byte-b.result ∷ c.byte-c.result ∷ [] = cc in
    let three = ap (is_among of_three) bytes ∙ sym c.is_three.ensures ∙ c.if-is_three.true in
    ((omega arith, long), three_whole z long three)

pub returns-then-is_two-clause-within : goal.returns-then-is_two-clause-within
returns-then-is_two-clause-within c =
    let z = c.args.z.now in
    let long : 2 ≤ length c.args.z.now = first_of (search rules, grind (arith, common_steps)) in
    let bytes : get_or c.args.z.now 0 0 ∷ get_or c.args.z.now 1 0 ∷ get_or c.args.z.now 2 0 ∷ [] ≡ c.byte-a.result ∷ c.byte-b.result ∷ c.byte-c.result ∷ [] = cc in
    let three = ap (is_among of_three) bytes ∙ sym c.is_three.ensures ∙ c.if-is_three.false in
    let front : get_or c.args.z.now 0 0 ∷ get_or c.args.z.now 1 0 ∷ [] ≡ c.byte-a.result ∷ c.byte-b.result ∷ [] = cc in
    let two = ap (is_among of_two) front ∙ sym c.is_two.ensures ∙ c.if-is_two.true in
    ((omega arith, long), two_whole z long three two)

pub returns-then-is_one-clause-within : goal.returns-then-is_one-clause-within
returns-then-is_one-clause-within c =
    let z = c.args.z.now in
    let bytes : get_or c.args.z.now 0 0 ∷ get_or c.args.z.now 1 0 ∷ get_or c.args.z.now 2 0 ∷ [] ≡ c.byte-a.result ∷ c.byte-b.result ∷ c.byte-c.result ∷ [] = cc in
    let three = ap (is_among of_three) bytes ∙ sym c.is_three.ensures ∙ c.if-is_three.false in
    let front : get_or c.args.z.now 0 0 ∷ get_or c.args.z.now 1 0 ∷ [] ≡ c.byte-a.result ∷ c.byte-b.result ∷ [] = cc in
    let two = ap (is_among of_two) front ∙ sym c.is_two.ensures ∙ c.if-is_two.false in
    let first : get_or c.args.z.now 0 0 ∷ [] ≡ c.byte-a.result ∷ [] = cc in
    let one = ap (is_among of_one) first ∙ sym c.is_one.ensures ∙ c.if-is_one.true in
    ((omega arith, omega arith), one_whole z (omega arith) three two one)
