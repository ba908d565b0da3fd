use Rattle.std.proofs.Common.{ℕ, ◌-◌, List, sym, subst}
use Rattle.std.specs.Prelude.{IsUtf8}
use Rattle.c_tree.proofs.Found.{file_text}
use Rattle.c_tree.proofs.program.Program.file.Goals as goal

pub returns-in-Err : goal.returns-in-Err
returns-in-Err c =
    let P : List ℕ → Type 0 = λ bytes. IsUtf8 bytes in
    let known = file_text c.self.inside.files (c.args.n - 1) c.in-Some.name.now c.self.invariant.names (sym c.in-Some.ensures.value) in
    absurd (c.in-Err.ensures.cases.0 (subst P (sym c.as_bytes.ensures) known))
