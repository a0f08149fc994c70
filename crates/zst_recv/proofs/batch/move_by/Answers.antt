use Rattle.std.proofs.Common.{◌≡◌, Ok, Err, sym, ◌∙◌, subst, [], ◌∷◌, ℕ}
use Rattle.zst_apply.specs.Damage.{apply_damage}
use Rattle.zst_block.specs.Blocks.{Has, SparesTaken}
use Rattle.zst_record.specs.RecordValues.{Fits, IsLater}
use Rattle.zst_record.specs.Heads.{covered_of}
use Rattle.zst_record.specs.declared.head.Head.{Head}
use Rattle.zst_record.specs.declared.head.Head.TheVariants as heads
use Rattle.zst_stream.specs.PassedRecords.{bare_head}
use Rattle.zst_pool.specs.declared.fault.PoolFault.TheVariants as pools
use Rattle.zst_recv.specs.Faults.{IsRecordFault, of_record, stop_at}
use Rattle.zst_recv.specs.ReceiveSteps.{moved_by}
use Rattle.zst_recv.specs.TakenRecords.{TakeFault}
use Rattle.zst_recv.specs.declared.fault.RecvFault.{RecvFault}
use Rattle.zst_image.specs.Reads.{bound_of}
use Rattle.zst_stream.specs.Items.{items_by}
use Rattle.zst_recv.specs.declared.fault.RecvFault.TheVariants as faults
use Rattle.zst_recv.proofs.DamageLemmas.{err_told, told_record}
use Rattle.zst_recv.proofs.RecordEffects.{applies_so, ends_fit, known_record, moved_is, refused_is}
use Rattle.std.specs.Prelude.{Option}
use Rattle.zst_block.specs.declared.fault.BlockFault.{BlockFault}
use Rattle.zst_recv.specs.Costs.{Spends}
use Rattle.zst_recv.proofs.CostLemmas.{spends_one, stop_same}
use Rattle.zst_recv.proofs.PlanRefusals.{record_unplanned}
use Rattle.zst_recv.proofs.batch.move_by.Goals as goal

-- a record behind BEGIN fits as it stands
later_fits : (features : ℕ) (head : Head) → IsLater head → Fits features (bare_head head) → Fits features head
later_fits features (heads.Begin header len) later fits = absurd later
later_fits features (heads.Object object kind bonus_kind block_size bonus_len max_block to) later fits = fits
later_fits features (heads.FreeObjects first count to) later fits = fits
later_fits features (heads.Write object kind offset size to) later fits = fits
later_fits features (heads.Free object offset size to) later fits = fits
later_fits features (heads.End sums to) later fits = fits
later_fits features (heads.Spill object size to) later fits = fits
later_fits features (heads.Redact object offset size to) later fits = fits

pub apply-requires-clause-record : goal.apply-requires-clause-record
apply-requires-clause-record g c =
    (c.requires.covered.0.features, later_fits c.requires.covered.0.features c.args.covered.now.head.now c.requires.covered.1 c.requires.covered.0.fits)

pub returns-in-Ok-clause-moved : goal.returns-in-Ok-clause-moved
returns-in-Ok-clause-moved g c = λ tight state honest stands.
    let covered = covered_of c.args.covered.now in
    let old = c.args.io.now in
    let new = c.apply.new.io in
    let before = Has (g.D.Disk.state old.disk.now).seen old.space in
    let after = Has (g.D.Disk.state new.disk.now).seen new.space in
    let made =
    applies_so tight c.args.number covered.index (items_by c.args.flags covered.payload covered.head) before after c.args.partial.now.objects c.apply.new.set state.objects (Ok tt) (c.in-Ok.ensures.changed.changed covered.index state.objects honest)
    (c.in-Ok.ensures.changed.tight covered.index state.objects honest) stands.objects in
    let fits = ends_fit c.requires.covered.0.features c.args.number covered.index c.args.flags covered.head covered.payload state.objects made.0
    (later_fits c.requires.covered.0.features covered.head c.requires.covered.1 c.requires.covered.0.fits) c.requires.covered.0.payload made.1 in
    moved_is (bound_of tight c.args.number) before after c.args.number c.args.flags covered c.args.partial.now c.apply.new.set c.point_behind-partial.result
    state made.0 stands made.1 made.2 (c.point_behind-partial.ensures c.args.flags covered.payload fits c.requires.covered.0.payload)

pub returns-in-Err-clause-moved : goal.returns-in-Err-clause-moved
returns-in-Err-clause-moved g c = λ tight state honest stands.
    let covered = covered_of c.args.covered.now in
    let old = c.args.io.now in
    let new = c.apply.new.io in
    let before = Has (g.D.Disk.state old.disk.now).seen old.space in
    let after = Has (g.D.Disk.state new.disk.now).seen new.space in
    let refused =
    applies_so tight c.args.number covered.index (items_by c.args.flags covered.payload covered.head) before after c.args.partial.now.objects c.apply.new.set state.objects (Err c.in-Err.fault) (c.in-Err.ensures.changed.changed covered.index state.objects honest)
    (c.in-Err.ensures.changed.tight covered.index state.objects honest) stands.objects in
    subst (λ (fault : RecvFault). TakeFault (moved_by c.args.number covered c.args.flags state) fault) (sym c.of_record.ensures)
    (refused_is c.args.number c.args.flags covered state c.in-Err.fault refused)

pub returns-in-Err-clause-known : goal.returns-in-Err-clause-known
returns-in-Err-clause-known g c = subst IsRecordFault (sym c.of_record.ensures) (known_record (covered_of c.args.covered.now).index c.in-Err.fault c.in-Err.ensures.changed.keeps.unredacted)

pub returns-in-Err-clause-damaged : goal.returns-in-Err-clause-damaged
returns-in-Err-clause-damaged g c = λ sector stated found honest is.
    let old = c.args.io.now in
    let fault : of_record (covered_of c.args.covered.now).index c.in-Err.fault ≡ faults.Pool (pools.Damaged sector stated found) = sym c.of_record.ensures ∙ err_told (Unit {0}) c.of_record.result _ is in
    told_record (apply_damage (SparesTaken old.space (g.D.Disk.state old.disk.now).seen) (g.D.Disk.state old.disk.now).size c.args.partial.now.objects) (Unit {0}) (covered_of c.args.covered.now).index c.in-Err.fault sector stated found
    (c.in-Err.ensures.changed.keeps.damaged honest) fault

pub returns-in-Ok-clause-spends : goal.returns-in-Ok-clause-spends
returns-in-Ok-clause-spends g c = spends_one (covered_of c.args.covered.now) c.in-Ok.ensures.changed.keeps.works

pub returns-in-Err-clause-spends : goal.returns-in-Err-clause-spends
returns-in-Err-clause-spends g c =
    let old = c.args.io.now.space in
    let new = c.apply.new.io.space in
    let covered = covered_of c.args.covered.now in
    subst (λ (fault : RecvFault). Spends (covered ∷ []) old new (stop_at fault)) (sym c.of_record.ensures)
    (subst (λ (stop : Option BlockFault). Spends (covered ∷ []) old new stop) (sym (stop_same covered.index c.in-Err.fault)) (spends_one covered c.in-Err.ensures.changed.keeps.works))

pub returns-in-Err-clause-unplanned : goal.returns-in-Err-clause-unplanned
returns-in-Err-clause-unplanned g c = λ fault is.
    record_unplanned (covered_of c.args.covered.now).index c.in-Err.fault fault (sym c.of_record.ensures ∙ err_told (Unit {0}) c.of_record.result _ is)

pub returns-in-Ok-clause-within : goal.returns-in-Ok-clause-within
returns-in-Ok-clause-within g c = c.in-Ok.ensures.changed.within

pub returns-in-Err-clause-within : goal.returns-in-Err-clause-within
returns-in-Err-clause-within g c = λ honest. tt
