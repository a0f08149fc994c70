use Rattle.zst_block.specs.Blocks.{Has}
use Rattle.zst_recv.proofs.KeptPartials.{stage_stays}
use Rattle.zst_recv.proofs.laws.receives_go_on.Goals as goal

pub returns : goal.returns
returns c = λ tight number later old new space less recv text stage le keeps receives. record {
  handed = receives.handed;
  reads = receives.reads;
  waits = receives.waits;
  stands = stage_stays tight number later le (Has old space) (Has new less)
      (λ set state. c.sets_hold_states.ensures.grows set old space new less state keeps)
      (λ set state. c.sets_hold_states.ensures.tight_grows set old space new less state keeps) recv.stage stage receives.stands;
}
