use Rattle.std.proofs.Common.{◌≡◌, ℕ, Bool, true, [], ◌∷◌, Option, Ok, Err, refl, sym, ap, ◌∙◌, subst}
use Rattle.zst_apply.proofs.SetFaults.{slots_told}
use Rattle.zst_apply.specs.Damage.{apply_damage}
use Rattle.zst_block.specs.Blocks.{Has, SparesTaken}
use Rattle.zst_dnode.specs.declared.dnode.Dnode.{Dnode}
use Rattle.zst_objset.proofs.DamageLaws.{set_spared}
use Rattle.zst_pool.specs.declared.fault.PoolFault.TheVariants as pools
use Rattle.zst_record.specs.Heads.{covered_of}
use Rattle.zst_recv.specs.Damage.{BeginsWith}
use Rattle.zst_recv.specs.Faults.{of_record}
use Rattle.zst_recv.specs.PutOffWrites.{HasObject, HasObjectAt}
use Rattle.zst_recv.specs.ReceiveSteps.{Stage}
use Rattle.zst_recv.specs.Stages.{IsStage, has_partial}
use Rattle.zst_recv.specs.TakenRecords.{TakeFault}
use Rattle.zst_recv.specs.declared.fault.RecvFault.{RecvFault}
use Rattle.zst_recv.specs.declared.fault.RecvFault.TheVariants as faults
use Rattle.zst_recv.specs.declared.stage.Stage as coded
use Rattle.zst_recv.proofs.DamageLemmas.{err_told, told_record}
use Rattle.zst_recv.proofs.RecordEffects.{lives_is}
use Rattle.zst_recv.proofs.RunWrites.{has_found, set_bound, stopped_disk}
use Rattle.zst_recv.proofs.WriteRuns.{block_write, on_true, write_between, write_fits, writes_at, writes_one}
use Rattle.zst_recv.proofs.block_run.BlockRun.begins.Goals as goal

pub attr-requires : goal.attr-requires
attr-requires g c =
    let w = c.in-Write in
    record { object = (write_fits c.requires.covered.features c.args.covered.now.head.now w.object w.type_ w.offset w.length w.to w.is c.requires.covered.fits).0 }

pub begin_at-requires-clause-object : goal.begin_at-requires-clause-object
begin_at-requires-clause-object g c =
    let w = c.in-Write in
    write_fits c.requires.covered.features c.args.covered.now.head.now w.object w.type_ w.offset w.length w.to w.is c.requires.covered.fits

pub returns-clause-begins : goal.returns-clause-begins
returns-clause-begins g c =
    let new = c.begin_at.new.self in
    let one = covered_of c.args.covered.now in
    let w = c.in-Write in
    let size = c.in-Ok-Some.dnode.block_size in
    let alone = λ (begun : c.begin_at.result ≡ true). on_true begun c.begin_at.ensures.begins in
    let write = λ (begun : c.begin_at.result ≡ true). let a = alone begun in block_write one w.object w.type_ w.offset w.length w.to size new.first w.is c.requires.covered.payload a.long a.offset_is in
    record {
      put_off = λ begun.
          let a = alone begun in
          record { writes = writes_at (one ∷ []) (sym a.object_is) (sym a.size_is) refl (sym a.bytes_are) (writes_one w.object size new.first one.payload one (write begun)); count_is = sym a.count_is };
      stays = λ none. rw none at c.begin_at.ensures.stays;
      lives = λ begun. ap has_partial c.in-Lives.is;
      between = λ begun. write_between w.object size new.first one.payload one (write begun);
    }

pub returns-clause-found : goal.returns-clause-found
returns-clause-found g c = λ bound plain honest is begun.
    let old = c.args.io.now in
    let new = c.attr.new.io in
    let has = Has (g.D.Disk.state old.disk.now).seen old.space in
    let now = Has (g.D.Disk.state new.disk.now).seen new.space in
    let run = c.begin_at.new.self in
    let a = on_true begun c.begin_at.ensures.begins in
    let under = lives_is bound has c.in-Lives.flags c.in-Lives.partial plain (subst (λ (s : coded.Stage). IsStage bound has s plain) c.in-Lives.is is) in
    let found = rw c.in-Ok-Some.field-0-is at (c.in-Ok-Some.ensures.found under.0.objects honest (set_bound bound has c.in-Lives.partial.objects under.0.objects under.2.objects)) in
    let there = has_found now under.0.objects c.in-Write.object c.in-Ok-Some.dnode found in
    subst (λ (s : Stage). HasObjectAt s run.object run.size) (sym under.1)
    (subst (λ (n : ℕ). HasObject under.0.objects n run.size) (sym a.object_is) (subst (λ (n : ℕ). HasObject under.0.objects c.in-Write.object n) (sym a.size_is) there))

pub returns-in-Err-clause-found : goal.returns-in-Err-clause-found
returns-in-Err-clause-found g c = λ bound plain honest is.
    let old = c.args.io.now in
    let has = Has (g.D.Disk.state old.disk.now).seen old.space in
    let under = lives_is bound has c.in-Lives.flags c.in-Lives.partial plain (subst (λ (s : coded.Stage). IsStage bound has s plain) c.in-Lives.is is) in
    let found = c.in-Err.ensures.found under.0.objects honest (set_bound bound has c.in-Lives.partial.objects under.0.objects under.2.objects) in
    subst (λ (fault : RecvFault). TakeFault {A = Unit {0}} (Ok tt) fault) (sym c.of_record.ensures) (stopped_disk c.args.covered.now.index c.in-Err.fault found)

pub returns-in-Err-clause-damaged : goal.returns-in-Err-clause-damaged
returns-in-Err-clause-damaged g c = λ rows ask text sector stated found honest is.
    let old = c.args.io.now in
    let index = c.args.covered.now.index in
    let set = c.in-Lives.partial.objects in
    let now = g.D.Disk.state old.disk.now in
    let fault : of_record index c.in-Err.fault ≡ faults.Pool (pools.Damaged sector stated found) = sym c.of_record.ensures ∙ err_told Bool c.of_record.result _ is in
    let told = slots_told (SparesTaken old.space now.seen) now.size set (Err c.in-Err.fault) (set_spared _ _ _ set (Option Dnode) (Unit {0}) c.in-Err.fault (c.in-Err.ensures.damaged honest)) in
    record {
      set = set;
      begins = subst (λ (s : coded.Stage). BeginsWith rows ask text s set) (sym c.in-Lives.is) refl;
      damaged = told_record (apply_damage (SparesTaken old.space now.seen) now.size set) (Unit {0}) index c.in-Err.fault sector stated found told fault;
    }
