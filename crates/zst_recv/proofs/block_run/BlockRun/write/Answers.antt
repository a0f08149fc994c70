use Rattle.std.proofs.Common.{◌≡◌, ◌+◌, ◌*◌, ◌^◌, ◌<◌, List, ℕ, Ok, Err, length, take, sym, ◌∙◌, subst, ap, arith, ◌≤◌}
use Rattle.std.specs.Prelude.{Option}
use Rattle.zst_apply.specs.AppliedRecords.{Applies}
use Rattle.zst_apply.specs.AppliedRuns.{run_received}
use Rattle.zst_objset.specs.Sets.{SetHolds}
use Rattle.zst_objset.specs.TightSets.{SetIsTight}
use Rattle.zst_model.specs.declared.sends.header.Point.{Point}
use Rattle.std.proofs.Math.Nat.{mul-le-mul}
use Rattle.zst_record.proofs.SizeLaws.{block-bounded}
use Rattle.zst_recv.proofs.WriteRuns.{bytes_long}
use Rattle.zst_apply.specs.Damage.{apply_damage}
use Rattle.zst_block.specs.Blocks.{Has, SparesTaken}
use Rattle.zst_block.specs.declared.fault.BlockFault.{BlockFault}
use Rattle.zst_model.specs.states.State.{AreBytes}
use Rattle.zst_pool.specs.declared.fault.PoolFault.TheVariants as pools
use Rattle.zst_recv.specs.Costs.{Spends}
use Rattle.zst_recv.specs.Faults.{of_record, stop_at}
use Rattle.zst_recv.specs.PutOffWrites.{bytes_of, said_of}
use Rattle.zst_recv.specs.TakenRecords.{TakeFault}
use Rattle.zst_recv.specs.declared.fault.RecvFault.{RecvFault}
use Rattle.zst_recv.specs.declared.fault.RecvFault.TheVariants as faults
use Rattle.zst_recv.proofs.CostLemmas.{stop_same}
use Rattle.zst_recv.proofs.DamageLemmas.{err_told, told_record}
use Rattle.zst_recv.proofs.RunWrites.{run_accepted, run_stopped, run_written, said_long, set_holds, spends_run}
use Rattle.zst_recv.proofs.block_run.BlockRun.write.Goals as goal

pub returns-in-Ok-clause-made : goal.returns-in-Ok-clause-made
returns-in-Ok-clause-made g c = λ tight state records honest put has stands.
    let run = c.args.self.now in
    let old = c.args.io.now in
    let new = c.write_run.new.io in
    let before = Has (g.D.Disk.state old.disk.now).seen old.space in
    let after = Has (g.D.Disk.state new.disk.now).seen new.space in
    let said = said_of records in
    let long : length said ≡ run.count = said_long records ∙ put.count_is in
    let same : bytes_of run ≡ take run.len c.deref.result.now = ap (λ (b : List ℕ). take run.len b) (sym c.deref.ensures.value) in
    let all : AreBytes (bytes_of run) = subst AreBytes (sym same) c.are_bytes.ensures in
    let wide = bytes_long run in
    let set = c.args.partial.now.objects in
    let now = run_accepted c.applied_is_state.ensures c.args.number run.object run.first run.size run.count run.len said (bytes_of run) before set state.objects run.may long all wide (set_holds tight c.args.number before set state.objects stands.objects) has in
    record {
      objects = now.0;
      received_is = now.1;
      ends = record {
        named = record {
          target = stands.named.target;
          component = stands.named.component;
          keep = stands.named.keep;
          header = stands.named.header;
          base = stands.named.base;
          point = ap (λ (n : ℕ). let p : Point = record { object = run.object; offset = (run.first + run.count) * n } in p) (sym c.from.ensures);
        };
        objects = run_written tight c.args.number run.object run.size (run.first * run.size) said (bytes_of run) before after set c.write_run.new.set state.objects now.0 now.1 stands.objects
            (λ holds. subst (λ (b : List ℕ). Applies 0 (SetHolds after c.write_run.new.set) (run_received c.args.number run.object run.size (run.first * run.size) said b state.objects) (Ok tt)) (sym same) (c.in-Ok.ensures.changed said has.thing state.objects honest holds has.there has.size_is long))
            (λ holds dated. subst (λ (b : List ℕ). Applies 0 (SetIsTight after c.write_run.new.set) (run_received c.args.number run.object run.size (run.first * run.size) said b state.objects) (Ok tt)) (sym same) (c.in-Ok.ensures.tight said has.thing state.objects honest holds dated has.there has.size_is long));
      };
    }

pub returns-in-Err-clause-made : goal.returns-in-Err-clause-made
returns-in-Err-clause-made g c = λ tight state records honest put has stands.
    let run = c.args.self.now in
    let old = c.args.io.now in
    let new = c.write_run.new.io in
    let before = Has (g.D.Disk.state old.disk.now).seen old.space in
    let after = Has (g.D.Disk.state new.disk.now).seen new.space in
    let said = said_of records in
    let long : length said ≡ run.count = said_long records ∙ put.count_is in
    let same : bytes_of run ≡ take run.len c.deref.result.now = ap (λ (b : List ℕ). take run.len b) (sym c.deref.ensures.value) in
    let all : AreBytes (bytes_of run) = subst AreBytes (sym same) c.are_bytes.ensures in
    let wide = bytes_long run in
    let set = c.args.partial.now.objects in
    let now = run_accepted c.applied_is_state.ensures c.args.number run.object run.first run.size run.count run.len said (bytes_of run) before set state.objects run.may long all wide (set_holds tight c.args.number before set state.objects stands.objects) has in
    record {
      objects = now.0;
      received_is = now.1;
      ends = subst (λ (fault : RecvFault). TakeFault (Ok (record state { objects = now.0; point = record { object = run.object; offset = (run.first + run.count) * run.size } })) fault) (sym c.of_record.ensures)
          (run_stopped tight c.args.number run.object run.size (run.first * run.size) said (bytes_of run) before after set c.write_run.new.set state.objects now.0 now.1 stands.objects _ _ c.in-Err.fault
          (λ holds. subst (λ (b : List ℕ). Applies 0 (SetHolds after c.write_run.new.set) (run_received c.args.number run.object run.size (run.first * run.size) said b state.objects) (Err c.in-Err.fault)) (sym same) (c.in-Err.ensures.changed said has.thing state.objects honest holds has.there has.size_is long)));
    }

pub returns-in-Ok-clause-within : goal.returns-in-Ok-clause-within
returns-in-Ok-clause-within g c = c.in-Ok.ensures.trees

pub returns-in-Ok-clause-puts : goal.returns-in-Ok-clause-puts
returns-in-Ok-clause-puts g c = λ rows target can.
    let run = c.args.self.now in
    let row = can.can.row in
    let size : run.size ≤ 131072 = (block-bounded run.size run.may.size_is).1 in
    let blocks : run.first + run.count ≤ 2 ^ 43 = run.may.run.inside in
    let many : (run.first + run.count) * run.size ≤ 2 ^ 43 * 131072 = mul-le-mul blocks size in
    record {
      of_target = can.of_target;
      can = record {
        row = record { target = row.target; snapshot = row.snapshot; header = row.header; base = row.base; objects = c.in-Ok.ensures.levels row.objects; object = let small = run.may.number in omega (arith, small); offset = subst (λ (n : ℕ). (run.first + run.count) * n < 2 ^ 64) (sym c.from.ensures) (omega (arith, many)) };
        base = can.can.base;
        component = can.can.component;
      };
    }

pub returns-in-Ok-clause-spends : goal.returns-in-Ok-clause-spends
returns-in-Ok-clause-spends g c = λ records put.
    let run = c.args.self.now in
    spends_run run.object run.size run.first run.count (bytes_of run) records c.requires.some put.count_is put.writes c.in-Ok.ensures.keeps.works

pub returns-in-Err-clause-spends : goal.returns-in-Err-clause-spends
returns-in-Err-clause-spends g c = λ records put.
    let run = c.args.self.now in
    let old = c.args.io.now.space in
    let new = c.write_run.new.io.space in
    subst (λ (fault : RecvFault). Spends records old new (stop_at fault)) (sym c.of_record.ensures)
    (subst (λ (stop : Option BlockFault). Spends records old new stop) (sym (stop_same run.index c.in-Err.fault)) (spends_run run.object run.size run.first run.count (bytes_of run) records c.requires.some put.count_is put.writes c.in-Err.ensures.keeps.works))

pub returns-in-Err-clause-damaged : goal.returns-in-Err-clause-damaged
returns-in-Err-clause-damaged g c = λ sector stated found honest is.
    let run = c.args.self.now in
    let old = c.args.io.now in
    let fault : of_record run.index c.in-Err.fault ≡ faults.Pool (pools.Damaged sector stated found) = sym c.of_record.ensures ∙ err_told (Unit {0}) c.of_record.result _ is in
    told_record (apply_damage (SparesTaken old.space (g.D.Disk.state old.disk.now).seen) (g.D.Disk.state old.disk.now).size c.args.partial.now.objects) (Unit {0}) run.index c.in-Err.fault sector stated found
    (c.in-Err.ensures.keeps.damaged honest) fault
