use Rattle.std.proofs.Common.{◌^◌, ◌<◌, ◌∙◌, ◌+◌, Err, arith, ap, refl, subst, sym, Result}
use Rattle.std.proofs.lemmas.List.Elements.{All-from_get_or}
use Rattle.zst_block.specs.Blocks.{KeepsBlocks}
use Rattle.zst_block.specs.IoStates.{blocks_of}
use Rattle.zst_block.proofs.BlocksLaws.{KeepsBlocks-fills}
use Rattle.zst_block.proofs.IoCallLemmas.{Works-after, Works-block, Works-looks, Works-more, Works-then}
use Rattle.zst_dnode.specs.Dnode.{DnodeFits}
use Rattle.zst_dnode.specs.declared.dnode.Dnode.{Dnode}
use Rattle.zst_model.specs.declared.refusals.refusal.Refusal.{Refusal}
use Rattle.zst_model.specs.states.DatedState.{DatedState}
use Rattle.zst_model.specs.states.State.{index_bound}
use Rattle.zst_model.specs.declared.refusals.faults.Quantity.TheVariants as quantities
use Rattle.zst_tree.specs.Indices.{TreeIs}
use Rattle.zst_tree.specs.declared.tree.Tree.{Tree}
use Rattle.zst_tree.specs.Damage.{NamesNode}
use Rattle.zst_objset.specs.Answers.{Changes}
use Rattle.zst_objset.specs.Sets.{SetHolds}
use Rattle.zst_objset.specs.TightSets.{SetIsTight}
use Rattle.zst_objset.proofs.LeafLaws.{is_number_at, keeps_on}
use Rattle.zst_objset.proofs.SetGrowth.{SetHolds-grows}
use Rattle.zst_objset.proofs.SpillLaws.{stops}
use Rattle.zst_objset.proofs.WriteLaws.{is_refused, judged, whole_block, write_not_there, written_fits}
use Rattle.zst_objset.proofs.DamageLaws.{told_before, object_told, set_after, set_spared, tree_told, unstopped}
use Rattle.zst_objset.proofs.TreeFits.{with_tree}
use Rattle.zst_objset.proofs.LimitLaws.{if_no_limit, no_limit}
use Rattle.zst_objset.proofs.RunLaws.{all_accepted, blocks_end, may_write_one, one_written, puts_one, run_begins_over, tree_early}
use Rattle.zst_objset.proofs.TightLaws.{tight_grows}
use Rattle.zst_tree.proofs.LaterDamage.{fills_looks}
use Rattle.zst_objset.proofs.SetChangeLaws.{refused}
use Rattle.zst_objset.proofs.TreesWithin.{sums_before, trees_changed}
use Rattle.zst_objset.proofs.block_writes.write_block.Goals as goal

pub returns-in-Err : goal.returns-in-Err
returns-in-Err g c = record {
  changes = refused _ _ (λ state honest holds.
      write_not_there (blocks_of c.object_there.new.io) c.args.number c.args.object c.args.index c.args.bytes.now state c.in-Err.fault (c.in-Err.ensures.found state honest holds))
      (no_limit quantities.Block index_bound (c.args.index + 1) c.in-Err.fault c.in-Err.ensures.limits) c.in-Err.ensures.unredacted
      (λ honest.
      object_told _ _ NamesNode c.args.set.now {T = Unit {0}} (Err c.in-Err.fault) (set_spared _ _ _ c.args.set.now Dnode (Unit {0}) c.in-Err.fault (c.in-Err.ensures.damaged honest)))
      (Works-looks c.in-Err.ensures.looks.looks);
  trees = λ honest. tt;
}

pub returns-in-Err-judge_write : goal.returns-in-Err-judge_write
returns-in-Err-judge_write g c = record {
  changes = refused _ _ (λ state honest holds.
      is_refused (blocks_of c.object_there.new.io) c.args.number c.args.object c.args.index c.args.bytes.now state c.in-Ok.dnode (c.in-Ok.ensures.found state honest holds) holds.lawful
      c.in-Err-judge_write.fault c.in-Err-judge_write.ensures.judged)
      c.in-Err-judge_write.ensures.limits c.in-Err-judge_write.ensures.unredacted
      (λ honest. unstopped (Unit {0}) (Unit {0}) _ c.in-Err-judge_write.fault c.in-Err-judge_write.ensures.stop)
      (rw c.in-Err-judge_write.ensures.stop (Works-looks c.in-Ok.ensures.looks.looks));
  trees = λ honest. tt;
}

pub returns-in-Err-put_data : goal.returns-in-Err-put_data
returns-in-Err-put_data g c = record {
  changes = refused _ _ (λ state honest holds.
      let has = blocks_of c.object_there.new.io in
      let there = c.in-Ok.ensures.found state (c.in-Err-put_data.ensures.works.fills.honest honest) holds in
      let may = judged _ _ _ c.in_default.ensures.judged in
      let made = all_accepted has c.args.number c.args.object c.in-Ok.dnode.block_size 1 c.args.index c.args.bytes.now state c.in-Ok.dnode c.applied_is_state.ensures (is_number_at c.args.object c.requires.object c.in-Ok.ensures.bound) refl
      (omega arith) holds.lawful holds.bounded there (may_write_one c.in-Ok.dnode.block_size c.args.index c.args.bytes.now may (All-from_get_or (λ byte. byte < 2 ^ 8) c.args.bytes.now 0 (λ k within. (c.type_inv.bytes k).fits))) in
      stops _ _ c.in-Err-put_data.fault (sym (one_written c.args.number c.args.object c.in-Ok.dnode.block_size c.args.index c.args.bytes.now state may.whole) ∙ made.1)
      (c.in-Err-put_data.ensures.puts there.map honest (subst (λ (tree : Tree). TreeIs has tree there.map) (sym c.tree_of.ensures) there.is.tree)))
      tt tt
      (λ honest.
      let old = g.D.Disk.state c.args.io.now.disk.now in
      let stands = c.in-Ok.ensures.stands (c.in-Err-put_data.ensures.works.fills.honest honest) in
      tree_told old c.args.io.now.space c.args.set.now NamesNode c.in-Ok.dnode stands c.in-Err-put_data.fault
      (told_before (λ space seen. NamesNode) c.in-Ok.dnode.levels c.in-Ok.dnode.root c.in-Ok.ensures.looks.looks _
      (rw c.tree_of.ensures at (c.in-Err-put_data.ensures.damaged honest))))
      (Works-after c.in-Ok.ensures.looks.looks (Works-more (omega arith) c.in-Err-put_data.ensures.works));
  trees = λ honest. tt;
}

pub returns : goal.returns
returns g c = record {
  changes = record {
    set = record {
      changed = λ state honest holds.
          let mid = g.D.Disk.state c.object_there.new.io.disk.now in
          let new = g.D.Disk.state c.put_data.new.io.disk.now in
          let was_put = c.put_there.ensures.puts.keeps.works.fills.honest honest in
          let there = c.in-Ok.ensures.found state (c.in-Ok-put_data.ensures.works.fills.honest was_put) holds in
          let may = judged _ _ _ c.in_default.ensures.judged in
          let had : TreeIs (blocks_of c.object_there.new.io) c.tree_of.result there.map = subst (λ (tree : Tree). TreeIs (blocks_of c.object_there.new.io) tree there.map) (sym c.tree_of.ensures) there.is.tree in
          let putting : KeepsBlocks mid.seen c.object_there.new.io.space new.seen c.put_data.new.io.space = KeepsBlocks-fills _ _ _ _ c.in-Ok-put_data.ensures.works.fills in
          let grown = SetHolds-grows (blocks_of c.args.io.now) (blocks_of c.put_data.new.io) (keeps_on c.in-Ok.ensures.looks.looks c.in-Ok-put_data.ensures.works.fills) c.args.set.now state holds in
          let ends = blocks_end (blocks_of c.put_data.new.io) c.args.number c.args.object c.in-Ok.dnode.block_size 1 c.args.index c.args.bytes.now state c.in-Ok.dnode _ there.map c.in-Ok-put_data.tree c.applied_is_state.ensures
          (is_number_at c.args.object c.requires.object c.in-Ok.ensures.bound) refl (omega arith) (run_begins_over (blocks_of c.object_there.new.io) (blocks_of c.put_data.new.io) putting state c.args.object c.in-Ok.dnode holds.lawful holds.bounded there)
          (may_write_one c.in-Ok.dnode.block_size c.args.index c.args.bytes.now may (All-from_get_or (λ byte. byte < 2 ^ 8) c.args.bytes.now 0 (λ k within. (c.type_inv.bytes k).fits))) (puts_one (blocks_of c.put_data.new.io) there.map c.args.number c.in-Ok.dnode.block_size c.args.index c.args.bytes.now c.in-Ok-put_data.tree may.whole (c.in-Ok-put_data.ensures.puts there.map was_put had))
          (c.with_tree.ensures.made ∙ ap (with_tree c.in-Ok.dnode c.in-Ok-put_data.tree) c.max-end.ensures) in
          let is = sym (one_written c.args.number c.args.object c.in-Ok.dnode.block_size c.args.index c.args.bytes.now state may.whole) ∙ ends.is in
          subst (λ (definition : Result DatedState Refusal). Changes (SetHolds (blocks_of c.put_there.new.io) c.put_there.new.set) definition c.put_there.result) (sym is)
          (c.put_there.ensures.changed state ends.now honest grown ends.puts);
      keeps = record {
        limits = if_no_limit quantities.Block index_bound (c.args.index + 1) c.put_there.result c.put_there.ensures.puts.keeps.limits;
        unredacted = c.put_there.ensures.puts.keeps.unredacted;
        damaged = λ honest.
            let filled = (Works-after c.in-Ok.ensures.looks.looks c.in-Ok-put_data.ensures.works).fills in
            object_told _ _ NamesNode c.args.set.now c.put_there.result (set_after _ _ _ _ filled c.args.set.now c.put_there.result (c.put_there.ensures.puts.keeps.damaged honest));
        kept = c.put_there.ensures.puts.keeps.kept;
        works = Works-after c.in-Ok.ensures.looks.looks (Works-more (omega arith) (Works-then c.in-Ok-put_data.ensures.works (Works-block c.put_there.ensures.puts.keeps.works)));
      };
    };
    tight = λ state honest tight dated.
        let old = g.D.Disk.state c.args.io.now.disk.now in
        let mid = g.D.Disk.state c.object_there.new.io.disk.now in
        let new = g.D.Disk.state c.put_data.new.io.disk.now in
        let was_put = c.put_there.ensures.puts.keeps.works.fills.honest honest in
        let there = c.in-Ok.ensures.found state (c.in-Ok-put_data.ensures.works.fills.honest was_put) tight.holds in
        let may = judged _ _ _ c.in_default.ensures.judged in
        let had : TreeIs (blocks_of c.object_there.new.io) c.tree_of.result there.map = subst (λ (tree : Tree). TreeIs (blocks_of c.object_there.new.io) tree there.map) (sym c.tree_of.ensures) there.is.tree in
        let putting : KeepsBlocks mid.seen c.object_there.new.io.space new.seen c.put_data.new.io.space = KeepsBlocks-fills _ _ _ _ c.in-Ok-put_data.ensures.works.fills in
        let grown = tight_grows c.args.set.now old.seen c.args.io.now.space new.seen c.put_data.new.io.space state (keeps_on c.in-Ok.ensures.looks.looks c.in-Ok-put_data.ensures.works.fills) tight in
        let was = c.in-Ok.ensures.tight state (c.in-Ok-put_data.ensures.works.fills.honest was_put) tight in
        let early = c.in-Ok-put_data.ensures.dated there.map was_put had (rw c.tree_of.ensures (tree_early c.args.number c.args.object state c.in-Ok.dnode dated was)) in
        let ends = blocks_end (blocks_of c.put_data.new.io) c.args.number c.args.object c.in-Ok.dnode.block_size 1 c.args.index c.args.bytes.now state c.in-Ok.dnode _ there.map c.in-Ok-put_data.tree c.applied_is_state.ensures
        (is_number_at c.args.object c.requires.object c.in-Ok.ensures.bound) refl (omega arith) (run_begins_over (blocks_of c.object_there.new.io) (blocks_of c.put_data.new.io) putting state c.args.object c.in-Ok.dnode tight.holds.lawful tight.holds.bounded there)
        (may_write_one c.in-Ok.dnode.block_size c.args.index c.args.bytes.now may (All-from_get_or (λ byte. byte < 2 ^ 8) c.args.bytes.now 0 (λ k within. (c.type_inv.bytes k).fits))) (puts_one (blocks_of c.put_data.new.io) there.map c.args.number c.in-Ok.dnode.block_size c.args.index c.args.bytes.now c.in-Ok-put_data.tree may.whole (c.in-Ok-put_data.ensures.puts there.map was_put had))
        (c.with_tree.ensures.made ∙ ap (with_tree c.in-Ok.dnode c.in-Ok-put_data.tree) c.max-end.ensures) in
        let is = sym (one_written c.args.number c.args.object c.in-Ok.dnode.block_size c.args.index c.args.bytes.now state may.whole) ∙ ends.is in
        subst (λ (definition : Result DatedState Refusal). Changes (SetIsTight (blocks_of c.put_there.new.io) c.put_there.new.set) definition c.put_there.result) (sym is)
        (c.put_there.ensures.tight state ends.now honest grown ends.puts (ends.tight dated was early) (ends.rises dated));
    levels = c.put_there.ensures.puts.levels;
  };
  trees = λ honest.
      let puts = c.put_there.ensures.puts in
      let wrote = c.in-Ok-put_data.ensures in
      let looked = c.in-Ok.ensures.looks.looks in
      let was_put = puts.keeps.works.fills.honest honest in
      let made = c.with_tree.ensures.made in
      trees_changed _ _ _ _ _ _ (Works-after looked wrote.works).fills puts.keeps.works.fills c.args.set.now c.put_there.new.set c.put_there.result
      c.in-Ok.dnode c.with_tree.result c.in-Ok-put_data.tree.levels c.in-Ok-put_data.tree.root (ap (λ (d : Dnode). d.levels) made) (ap (λ (d : Dnode). d.root) made)
      (c.in-Ok.ensures.stands (wrote.works.fills.honest was_put))
      (sums_before _ _ _ _ (fills_looks looked) c.in-Ok.dnode.levels c.in-Ok.dnode.root _ c.in-Ok-put_data.tree.levels c.in-Ok-put_data.tree.root (rw c.tree_of.ensures at (wrote.trees was_put)))
      (puts.within honest) (puts.stands honest);
}

pub put_data-requires-clause-block : goal.put_data-requires-clause-block
put_data-requires-clause-block g c = rw (judged _ _ _ c.in_default.ensures.judged).whole (whole_block _ c.in-Ok.ensures.ranges.head.size)

pub put_there-requires-clause-dnode : goal.put_there-requires-clause-dnode
put_there-requires-clause-dnode g c =
    let may = judged _ _ _ c.in_default.ensures.judged in
    let made = c.with_tree.ensures in
    subst (λ (dnode : Dnode). DnodeFits dnode) (sym (made.made ∙ ap (with_tree c.in-Ok.dnode c.in-Ok-put_data.tree) c.max-end.ensures))
    (written_fits c.in-Ok.dnode c.in-Ok-put_data.tree c.args.index _ c.in-Ok.ensures.ranges may (rw c.tree_of.ensures at c.in-Ok-put_data.ensures.root) c.in-Ok-put_data.ensures.levels made.root made.past)

pub object_there-requires : goal.object_there-requires
object_there-requires g c = record { object = c.requires.object }

pub put_there-requires-clause-object : goal.put_there-requires-clause-object
put_there-requires-clause-object g c = (c.requires.object, c.in-Ok.ensures.bound)
