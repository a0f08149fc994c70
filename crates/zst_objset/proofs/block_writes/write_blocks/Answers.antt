use Rattle.std.proofs.Common.{◌^◌, ◌<◌, ◌≡◌, ◌≢◌, ◌∙◌, Err, Result, arith, ap, sym, subst}
use Rattle.std.proofs.lemmas.List.Elements.{All-from_get_or}
use Rattle.zst_block.specs.Blocks.{KeepsBlocks}
use Rattle.zst_block.specs.IoStates.{blocks_of}
use Rattle.zst_block.proofs.BlocksLaws.{KeepsBlocks-fills}
use Rattle.zst_block.proofs.IoCallLemmas.{Works-after, Works-block, Works-looks, Works-more, Works-then}
use Rattle.zst_dnode.specs.Dnode.{DnodeFits}
use Rattle.zst_dnode.specs.declared.dnode.Dnode.{Dnode}
use Rattle.zst_model.specs.declared.refusals.refusal.Refusal.{Refusal}
use Rattle.zst_model.specs.states.DatedState.{DatedState}
use Rattle.zst_tree.specs.Damage.{NamesNode}
use Rattle.zst_tree.specs.Indices.{TreeIs}
use Rattle.zst_tree.proofs.LaterDamage.{fills_looks}
use Rattle.zst_tree.specs.declared.tree.Tree.{Tree}
use Rattle.zst_objset.specs.Answers.{Changes}
use Rattle.zst_objset.specs.Sets.{SetHolds}
use Rattle.zst_objset.specs.TightSets.{SetIsTight}
use Rattle.zst_objset.proofs.DamageLaws.{told_before, object_told, set_after, set_spared, tree_told}
use Rattle.zst_objset.proofs.LeafLaws.{is_number_at, keeps_on}
use Rattle.zst_objset.proofs.RunLaws.{all_accepted, blocks_differ, blocks_end, may_write, no_blocks_there, run_begins_over, run_fits, tree_early}
use Rattle.zst_objset.proofs.SetGrowth.{SetHolds-grows}
use Rattle.zst_objset.proofs.SpillLaws.{stops}
use Rattle.zst_objset.proofs.TightLaws.{tight_grows}
use Rattle.zst_objset.proofs.TreeFits.{with_tree}
use Rattle.zst_objset.proofs.TreesWithin.{sums_before, trees_changed}
use Rattle.zst_objset.proofs.WriteLaws.{whole_block}
use Rattle.zst_objset.proofs.SetChangeLaws.{refused}
use Rattle.zst_objset.proofs.block_writes.write_blocks.Goals as goal

pub returns-in-Err : goal.returns-in-Err
returns-in-Err g c = record {
  changes = refused _ _ (λ state honest holds.
      no_blocks_there (blocks_of c.object_there.new.io) c.args.number c.args.object c.args.size c.args.count c.args.index c.args.bytes.now state c.in-Err.fault c.requires.some (c.in-Err.ensures.found state honest holds))
      c.in-Err.ensures.limits c.in-Err.ensures.unredacted
      (λ honest.
      object_told _ _ NamesNode c.args.set.now {T = Unit {0}} (Err c.in-Err.fault) (set_spared _ _ _ c.args.set.now Dnode (Unit {0}) c.in-Err.fault (c.in-Err.ensures.damaged honest)))
      (Works-looks c.in-Err.ensures.looks.looks);
  trees = λ honest. tt;
}

pub returns-then-dnode-size : goal.returns-then-dnode-size
returns-then-dnode-size g c = record {
  changes = refused _ _ (λ state honest holds.
      let differs : c.args.size ≢ c.in-Ok.dnode.block_size = omega (arith, c.if-dnode-size.true) in
      blocks_differ (blocks_of c.object_there.new.io) c.args.number c.args.object c.args.size c.args.count c.args.index c.args.bytes.now state c.in-Ok.dnode (c.in-Ok.ensures.found state honest holds) holds.lawful differs c.requires.some c.requires.run.long_is)
      tt tt (λ honest. tt) (Works-looks c.in-Ok.ensures.looks.looks);
  trees = λ honest. tt;
}

pub returns-in-Err-outcome : goal.returns-in-Err-outcome
returns-in-Err-outcome g c = record {
  changes = refused _ _ (λ state honest holds.
      let has = blocks_of c.object_there.new.io in
      let there = c.in-Ok.ensures.found state (c.in-Err-outcome.ensures.works.fills.honest honest) holds in
      let made = all_accepted has c.args.number c.args.object c.args.size c.args.count c.args.index c.args.bytes.now state c.in-Ok.dnode c.applied_is_state.ensures (is_number_at c.args.object c.requires.object c.in-Ok.ensures.bound) (omega (arith, c.if-dnode-size.false))
      c.requires.some holds.lawful holds.bounded there (may_write c.args.size c.args.index c.args.count c.args.bytes.now c.requires.run.long_is c.requires.even c.requires.run.inside (All-from_get_or (λ byte. byte < 2 ^ 8) c.args.bytes.now 0 (λ k within. (c.type_inv.bytes k).fits))) in
      stops _ _ c.in-Err-outcome.fault made.1 (c.in-Err-outcome.ensures.puts there.map honest (subst (λ (tree : Tree). TreeIs has tree there.map) (sym c.tree_of.ensures) there.is.tree)))
      tt tt
      (λ honest.
      let old = g.D.Disk.state c.args.io.now.disk.now in
      let stands = c.in-Ok.ensures.stands (c.in-Err-outcome.ensures.works.fills.honest honest) in
      tree_told old c.args.io.now.space c.args.set.now NamesNode c.in-Ok.dnode stands c.in-Err-outcome.fault
      (told_before (λ space seen. NamesNode) c.in-Ok.dnode.levels c.in-Ok.dnode.root c.in-Ok.ensures.looks.looks _
      (rw c.tree_of.ensures at (c.in-Err-outcome.ensures.damaged honest))))
      (Works-after c.in-Ok.ensures.looks.looks (Works-more (omega arith) c.in-Err-outcome.ensures.works));
  trees = λ honest. tt;
}

pub returns : goal.returns
returns g c = record {
  changes = record {
    set = record {
      changed = λ state honest holds.
          let mid = g.D.Disk.state c.object_there.new.io.disk.now in
          let new = g.D.Disk.state c.put_blocks-outcome.new.io.disk.now in
          let was_put = c.put_there.ensures.puts.keeps.works.fills.honest honest in
          let there = c.in-Ok.ensures.found state (c.in-Ok-outcome.ensures.works.fills.honest was_put) holds in
          let had : TreeIs (blocks_of c.object_there.new.io) c.tree_of.result there.map = subst (λ (tree : Tree). TreeIs (blocks_of c.object_there.new.io) tree there.map) (sym c.tree_of.ensures) there.is.tree in
          let putting : KeepsBlocks mid.seen c.object_there.new.io.space new.seen c.put_blocks-outcome.new.io.space = KeepsBlocks-fills _ _ _ _ c.in-Ok-outcome.ensures.works.fills in
          let grown = SetHolds-grows (blocks_of c.args.io.now) (blocks_of c.put_blocks-outcome.new.io) (keeps_on c.in-Ok.ensures.looks.looks c.in-Ok-outcome.ensures.works.fills) c.args.set.now state holds in
          let ends = blocks_end (blocks_of c.put_blocks-outcome.new.io) c.args.number c.args.object c.args.size c.args.count c.args.index c.args.bytes.now state c.in-Ok.dnode _ there.map c.in-Ok-outcome.tree c.applied_is_state.ensures
          (is_number_at c.args.object c.requires.object c.in-Ok.ensures.bound) (omega (arith, c.if-dnode-size.false)) c.requires.some (run_begins_over (blocks_of c.object_there.new.io) (blocks_of c.put_blocks-outcome.new.io) putting state c.args.object c.in-Ok.dnode holds.lawful holds.bounded there)
          (may_write c.args.size c.args.index c.args.count c.args.bytes.now c.requires.run.long_is c.requires.even c.requires.run.inside (All-from_get_or (λ byte. byte < 2 ^ 8) c.args.bytes.now 0 (λ k within. (c.type_inv.bytes k).fits))) (c.in-Ok-outcome.ensures.puts there.map was_put had) (c.with_tree.ensures.made ∙ ap (with_tree c.in-Ok.dnode c.in-Ok-outcome.tree) c.max-end.ensures) in
          subst (λ (definition : Result DatedState Refusal). Changes (SetHolds (blocks_of c.put_there.new.io) c.put_there.new.set) definition c.put_there.result) (sym ends.is)
          (c.put_there.ensures.changed state ends.now honest grown ends.puts);
      keeps = record {
        limits = c.put_there.ensures.puts.keeps.limits;
        unredacted = c.put_there.ensures.puts.keeps.unredacted;
        damaged = λ honest.
            let filled = (Works-after c.in-Ok.ensures.looks.looks c.in-Ok-outcome.ensures.works).fills in
            object_told _ _ NamesNode c.args.set.now c.put_there.result (set_after _ _ _ _ filled c.args.set.now c.put_there.result (c.put_there.ensures.puts.keeps.damaged honest));
        kept = c.put_there.ensures.puts.keeps.kept;
        works = Works-after c.in-Ok.ensures.looks.looks (Works-more (omega arith) (Works-then c.in-Ok-outcome.ensures.works (Works-block c.put_there.ensures.puts.keeps.works)));
      };
    };
    tight = λ state honest tight dated.
        let old = g.D.Disk.state c.args.io.now.disk.now in
        let mid = g.D.Disk.state c.object_there.new.io.disk.now in
        let new = g.D.Disk.state c.put_blocks-outcome.new.io.disk.now in
        let was_put = c.put_there.ensures.puts.keeps.works.fills.honest honest in
        let there = c.in-Ok.ensures.found state (c.in-Ok-outcome.ensures.works.fills.honest was_put) tight.holds in
        let had : TreeIs (blocks_of c.object_there.new.io) c.tree_of.result there.map = subst (λ (tree : Tree). TreeIs (blocks_of c.object_there.new.io) tree there.map) (sym c.tree_of.ensures) there.is.tree in
        let putting : KeepsBlocks mid.seen c.object_there.new.io.space new.seen c.put_blocks-outcome.new.io.space = KeepsBlocks-fills _ _ _ _ c.in-Ok-outcome.ensures.works.fills in
        let grown = tight_grows c.args.set.now old.seen c.args.io.now.space new.seen c.put_blocks-outcome.new.io.space state (keeps_on c.in-Ok.ensures.looks.looks c.in-Ok-outcome.ensures.works.fills) tight in
        let was = c.in-Ok.ensures.tight state (c.in-Ok-outcome.ensures.works.fills.honest was_put) tight in
        let early = c.in-Ok-outcome.ensures.dated there.map was_put had (rw c.tree_of.ensures (tree_early c.args.number c.args.object state c.in-Ok.dnode dated was)) in
        let ends = blocks_end (blocks_of c.put_blocks-outcome.new.io) c.args.number c.args.object c.args.size c.args.count c.args.index c.args.bytes.now state c.in-Ok.dnode _ there.map c.in-Ok-outcome.tree c.applied_is_state.ensures
        (is_number_at c.args.object c.requires.object c.in-Ok.ensures.bound) (omega (arith, c.if-dnode-size.false)) c.requires.some (run_begins_over (blocks_of c.object_there.new.io) (blocks_of c.put_blocks-outcome.new.io) putting state c.args.object c.in-Ok.dnode tight.holds.lawful tight.holds.bounded there)
        (may_write c.args.size c.args.index c.args.count c.args.bytes.now c.requires.run.long_is c.requires.even c.requires.run.inside (All-from_get_or (λ byte. byte < 2 ^ 8) c.args.bytes.now 0 (λ k within. (c.type_inv.bytes k).fits))) (c.in-Ok-outcome.ensures.puts there.map was_put had) (c.with_tree.ensures.made ∙ ap (with_tree c.in-Ok.dnode c.in-Ok-outcome.tree) c.max-end.ensures) in
        subst (λ (definition : Result DatedState Refusal). Changes (SetIsTight (blocks_of c.put_there.new.io) c.put_there.new.set) definition c.put_there.result) (sym ends.is)
        (c.put_there.ensures.tight state ends.now honest grown ends.puts (ends.tight dated was early) (ends.rises dated));
    levels = c.put_there.ensures.puts.levels;
  };
  trees = λ honest.
      let puts = c.put_there.ensures.puts in
      let wrote = c.in-Ok-outcome.ensures in
      let looked = c.in-Ok.ensures.looks.looks in
      let was_put = puts.keeps.works.fills.honest honest in
      let made = c.with_tree.ensures.made in
      trees_changed _ _ _ _ _ _ (Works-after looked wrote.works).fills puts.keeps.works.fills c.args.set.now c.put_there.new.set c.put_there.result
      c.in-Ok.dnode c.with_tree.result c.in-Ok-outcome.tree.levels c.in-Ok-outcome.tree.root (ap (λ (d : Dnode). d.levels) made) (ap (λ (d : Dnode). d.root) made)
      (c.in-Ok.ensures.stands (wrote.works.fills.honest was_put))
      (sums_before _ _ _ _ (fills_looks looked) c.in-Ok.dnode.levels c.in-Ok.dnode.root _ c.in-Ok-outcome.tree.levels c.in-Ok-outcome.tree.root (rw c.tree_of.ensures at (wrote.trees was_put)))
      (puts.within honest) (puts.stands honest);
}

pub put_blocks-outcome-requires-clause-block : goal.put_blocks-outcome-requires-clause-block
put_blocks-outcome-requires-clause-block g c = whole_block _ c.requires.size

pub put_there-requires-clause-dnode : goal.put_there-requires-clause-dnode
put_there-requires-clause-dnode g c =
    let made = c.with_tree.ensures in
    let size_is : c.in-Ok.dnode.block_size ≡ c.args.size = omega (arith, c.if-dnode-size.false) in
    subst (λ (dnode : Dnode). DnodeFits dnode) (sym (made.made ∙ ap (with_tree c.in-Ok.dnode c.in-Ok-outcome.tree) c.max-end.ensures))
    (run_fits c.in-Ok.dnode c.in-Ok-outcome.tree c.args.size c.args.index c.args.count c.in-Ok.ensures.ranges size_is c.requires.even c.requires.run.inside c.in-Ok-outcome.ensures.root c.in-Ok-outcome.ensures.levels made.root made.past)

pub object_there-requires : goal.object_there-requires
object_there-requires g c = record { object = c.requires.object }

pub put_there-requires-clause-object : goal.put_there-requires-clause-object
put_there-requires-clause-object g c = (c.requires.object, c.in-Ok.ensures.bound)
