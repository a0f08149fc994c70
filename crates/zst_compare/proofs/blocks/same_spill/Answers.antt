use Rattle.std.proofs.lemmas.Bool.{false≢true}
use Rattle.zst_block.specs.IoStates.{blocks_of}
use Rattle.zst_block.proofs.BlocksLaws.{IsBlock-length}
use Rattle.zst_compare.proofs.SameBlocks.{spill_other, spill_same, spill_short}
use Rattle.zst_compare.proofs.blocks.same_spill.Goals as goal

pub returns-then-later-earlier-2-clause-same : goal.returns-then-later-earlier-2-clause-same
returns-then-later-earlier-2-clause-same g c = λ now was honest first second. (
  λ is. absurd (false≢true is),
  λ same. absurd (spill_other (blocks_of c.args.io.now) (λ ptr bytes there. IsBlock-length _ ptr bytes there.block) c.args.later.now c.args.earlier.now c.if-later-eq0.false c.if-later-earlier.false now was c.if-later-earlier-2.true first second same),
)

pub same_data-requires : goal.same_data-requires
same_data-requires g c = record { size = spill_short c.args.later.now c.requires.later c.if-later-eq0.false }

pub returns-clause-same : goal.returns-clause-same
returns-clause-same g c = λ now was honest first second.
    spill_same (blocks_of c.args.io.now) (λ ptr bytes there. IsBlock-length _ ptr bytes there.block) c.args.later.now c.args.earlier.now c.if-later-eq0.false c.if-later-earlier.false now was c.same_data.result c.if-later-earlier-2.false
    (λ a b one two here there long short. c.same_data.ensures.same a b honest one two here there long short) first second
