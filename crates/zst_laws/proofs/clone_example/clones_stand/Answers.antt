use Rattle.zst_laws.proofs.examples.CloneExamples.{clones_standing}
use Rattle.zst_laws.proofs.examples.SoundClones.{clones_sound}
use Rattle.zst_laws.proofs.clone_example.clones_stand.Goals as goal

pub returns : goal.returns
returns c = record { stand = clones_standing; sound = clones_sound }
