use Rattle.run_model.proofs.Positions.{frames_stand}
use Rattle.run_model.proofs.law.frames_stand_at_positions.Goals as goal

pub returns : goal.returns
returns c = frames_stand
