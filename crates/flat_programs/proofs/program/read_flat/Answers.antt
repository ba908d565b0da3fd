use Rattle.std.proofs.Common.{Option, ◌≡◌, true, false, refl, sym, ◌∙◌, subst}
use Rattle.flat_programs.specs.FlatTree.{FlatTree}
use Rattle.flat_programs.specs.Shape.{HasShape}
use Rattle.flat_programs.specs.Programs.{ReadsTree}
use Rattle.flat_programs.proofs.Readings.{readable_of_flat, shape_of_flat, flat_of_shape}
use Rattle.flat_programs.proofs.program.read_flat.Goals as goal

pub returns-then-has_shape-clause-shaped : goal.returns-then-has_shape-clause-shaped
returns-then-has_shape-clause-shaped c =
    let read = subst (λ (o : Option FlatTree). ReadsTree c.as_slice.result.now o) c.in-Some.is c.in_ok-program.ensures in
    flat_of_shape c.in-Some.program read.0 (c.if-has_shape.ensures.0 refl)

pub returns-then-has_shape-clause-only : goal.returns-then-has_shape-clause-only
returns-then-has_shape-clause-only c = λ u flat at.
    let read = subst (λ (o : Option FlatTree). ReadsTree c.as_slice.result.now o) c.in-Some.is c.in_ok-program.ensures in
    read.2 u (readable_of_flat u flat) (c.as_slice.ensures ∙ sym at)

pub returns-else-has_shape-clause-not_yet : goal.returns-else-has_shape-clause-not_yet
returns-else-has_shape-clause-not_yet c = λ _ u flat at.
    let read = subst (λ (o : Option FlatTree). ReadsTree c.as_slice.result.now o) c.in-Some.is c.in_ok-program.ensures in
    let same = read.2 u (readable_of_flat u flat) (c.as_slice.ensures ∙ sym at) in
    let clash : false ≡ true = c.if-has_shape.ensures.1 (subst HasShape same (shape_of_flat u flat)) in
    cc

pub returns-in-None-clause-not_yet : goal.returns-in-None-clause-not_yet
returns-in-None-clause-not_yet c = λ _ u flat at.
    let read = subst (λ (o : Option FlatTree). ReadsTree c.as_slice.result.now o) c.in-None.is c.in_ok-program.ensures in
    read u (readable_of_flat u flat) (c.as_slice.ensures ∙ sym at)
