use Rattle.std.proofs.Common.{◌≡◌, ◌^◌, ◌<◌, arith, ap, subst, sym, ◌∙◌, true}
use Rattle.std.proofs.lemmas.List.Elements.{All-from_get_or}
use Rattle.zst_block.specs.Blocks.{KeepsBlocks}
use Rattle.zst_block.specs.IoStates.{blocks_of}
use Rattle.zst_block.specs.declared.ptr.Ptr.{Ptr}
use Rattle.zst_block.proofs.BlocksLaws.{KeepsBlocks-fills}
use Rattle.zst_block.proofs.IoCallLemmas.{Works-looks, Works-after, Works-block, Works-more, Works-then}
use Rattle.zst_model.specs.declared.states.item.Change.TheVariants.{Spill}
use Rattle.zst_model.specs.states.State.{is_spill_size}
use Rattle.zst_objset.proofs.SpillLaws.{change_not_there, no_spill, spill_fits, spill_is, spill_makes_dnode, spill_some, spill_whole, spill_small, stops, undamaged_write}
use Rattle.zst_dnode.specs.Dnode.{DnodeFits}
use Rattle.zst_dnode.specs.declared.dnode.Dnode.{Dnode}
use Rattle.zst_objset.proofs.LeafLaws.{is_number_at, keeps_on}
use Rattle.zst_objset.proofs.SetGrowth.{IsThere-grows, SetHolds-grows}
use Rattle.zst_objset.proofs.DamageLaws.{set_after, set_spared, undamaged}
use Rattle.std.proofs.Common.{inl, inr, ◌≤◌}
use Rattle.std.specs.Prelude.{Some}
use Rattle.zst_objset.proofs.TreesWithin.{trees_kept}
use Rattle.zst_dnode.specs.declared.slot.Slot.TheVariants.{There}
use Rattle.zst_objset.specs.Sets.{date_in}
use Rattle.zst_objset.proofs.TightLaws.{tight_dated, tight_grows}
use Rattle.zst_objset.proofs.SetChangeLaws.{refused}
use Rattle.zst_objset.proofs.changes.put_spill.Goals as goal

pub returns-in-Err : goal.returns-in-Err
returns-in-Err g c = record {
  changes = refused _ _ (λ state honest holds.
      change_not_there (blocks_of c.object_there.new.io) c.args.number c.args.object (Spill c.args.bytes.now) state c.in-Err.fault (no_spill c.args.bytes.now) (c.in-Err.ensures.found state honest holds))
      c.in-Err.ensures.limits c.in-Err.ensures.unredacted (λ honest. set_spared _ _ _ c.args.set.now Dnode (Unit {0}) c.in-Err.fault (c.in-Err.ensures.damaged honest)) (Works-looks c.in-Err.ensures.looks.looks);
  trees = λ honest. tt;
}

pub returns-in-Err-write : goal.returns-in-Err-write
returns-in-Err-write g c = record {
  changes = refused _ _ (λ state honest holds.
      let there = c.in-Ok.ensures.found state (c.in-Err-write.ensures.block.works.fills.honest honest) holds in
      stops _ _ c.in-Err-write.fault (spill_is c.args.number c.args.object c.args.bytes.now state there.object there.there) (undamaged_write c.in-Err-write.fault c.in-Err-write.ensures.block.never_damaged))
      tt tt (λ honest. undamaged _ c.in-Err-write.fault (undamaged_write c.in-Err-write.fault c.in-Err-write.ensures.block.never_damaged)) (Works-after c.in-Ok.ensures.looks.looks (Works-more (omega arith) c.in-Err-write.ensures.block.works));
  trees = λ honest. tt;
}

pub returns : goal.returns
returns g c = record {
  changes = record {
    set = record {
      changed = λ state honest holds.
          let was_written = c.put_dnode.ensures.puts.keeps.works.fills.honest honest in
          let wrote = c.in-Ok-write.ensures.block in
          let there = c.in-Ok.ensures.found state (wrote.works.fills.honest was_written) holds in
          let mid = g.D.Disk.state c.object_there.new.io.disk.now in
          let new = g.D.Disk.state c.write.new.io.disk.now in
          let has = blocks_of c.write.new.io in
          let writing : KeepsBlocks mid.seen c.object_there.new.io.space new.seen c.write.new.io.space = KeepsBlocks-fills _ _ _ _ wrote.works.fills in
          let grown = SetHolds-grows (blocks_of c.args.io.now) has (keeps_on c.in-Ok.ensures.looks.looks wrote.works.fills) c.args.set.now state holds in
          let here = IsThere-grows (blocks_of c.object_there.new.io) has writing state c.args.object c.in-Ok.dnode there in
          let kind = ap (λ (ptr : Ptr). ptr.kind) wrote.pointer in
          let size : is_spill_size c.in-Ok-write.ptr.length ≡ true = ap (λ (ptr : Ptr). is_spill_size ptr.length) wrote.pointer ∙ c.requires.spill in
          let made = c.with_spill.ensures in
          let number = is_number_at c.args.object (omega arith) (omega (arith, c.in-Ok.ensures.bound)) in
          let makes = spill_makes_dnode has c.args.number c.args.object c.args.bytes.now state c.in-Ok.dnode c.with_spill.result c.in-Ok-write.ptr here number (c.requires.spill, All-from_get_or (λ byte. byte < 2 ^ 8) c.args.bytes.now 0 (λ k within. (c.type_inv.bytes k).fits)) kind wrote.wrote made.made
          (spill_fits c.in-Ok.dnode c.in-Ok-write.ptr c.args.number c.in-Ok.ensures.ranges made.fits made.date kind size) in
          c.put_dnode.ensures.changed c.args.number (Spill c.args.bytes.now) state honest grown makes;
      keeps = record {
        limits = c.put_dnode.ensures.puts.keeps.limits;
        unredacted = c.put_dnode.ensures.puts.keeps.unredacted;
        damaged = λ honest.
            let filled = (Works-after c.in-Ok.ensures.looks.looks c.in-Ok-write.ensures.block.works).fills in
            set_after _ _ _ _ filled c.args.set.now c.put_dnode.result (c.put_dnode.ensures.puts.keeps.damaged honest);
        kept = c.put_dnode.ensures.puts.keeps.kept;
        works = Works-after c.in-Ok.ensures.looks.looks (Works-more (omega arith) (Works-then c.in-Ok-write.ensures.block.works (Works-block c.put_dnode.ensures.puts.keeps.works)));
      };
    };
    tight = λ state honest tight dated.
        let was_written = c.put_dnode.ensures.puts.keeps.works.fills.honest honest in
        let wrote = c.in-Ok-write.ensures.block in
        let there = c.in-Ok.ensures.found state (wrote.works.fills.honest was_written) tight.holds in
        let old = g.D.Disk.state c.args.io.now.disk.now in
        let mid = g.D.Disk.state c.object_there.new.io.disk.now in
        let new = g.D.Disk.state c.write.new.io.disk.now in
        let has = blocks_of c.write.new.io in
        let writing : KeepsBlocks mid.seen c.object_there.new.io.space new.seen c.write.new.io.space = KeepsBlocks-fills _ _ _ _ wrote.works.fills in
        let grown = tight_grows c.args.set.now old.seen c.args.io.now.space new.seen c.write.new.io.space state (keeps_on c.in-Ok.ensures.looks.looks wrote.works.fills) tight in
        let here = IsThere-grows (blocks_of c.object_there.new.io) has writing state c.args.object c.in-Ok.dnode there in
        let kind = ap (λ (ptr : Ptr). ptr.kind) wrote.pointer in
        let size : is_spill_size c.in-Ok-write.ptr.length ≡ true = ap (λ (ptr : Ptr). is_spill_size ptr.length) wrote.pointer ∙ c.requires.spill in
        let made = c.with_spill.ensures in
        let number = is_number_at c.args.object (omega arith) (omega (arith, c.in-Ok.ensures.bound)) in
        let makes = spill_makes_dnode has c.args.number c.args.object c.args.bytes.now state c.in-Ok.dnode c.with_spill.result c.in-Ok-write.ptr here number (c.requires.spill, All-from_get_or (λ byte. byte < 2 ^ 8) c.args.bytes.now 0 (λ k within. (c.type_inv.bytes k).fits)) kind wrote.wrote made.made
        (spill_fits c.in-Ok.dnode c.in-Ok-write.ptr c.args.number c.in-Ok.ensures.ranges made.fits made.date kind size) in
        let was = tight_dated c.args.number state c.args.object (There c.in-Ok.dnode) dated (c.in-Ok.ensures.tight state (wrote.works.fills.honest was_written) tight) in
        let early = subst (λ (dnode : Dnode). date_in (There dnode) ≤ c.args.number) (sym made.made) (omega (arith, was)) in
        c.put_dnode.ensures.tight c.args.number (Spill c.args.bytes.now) state honest grown dated makes (inl early);
    levels = c.put_dnode.ensures.puts.levels;
  };
  trees = λ honest.
      let puts = c.put_dnode.ensures.puts in
      let wrote = c.in-Ok-write.ensures.block in
      let filled = (Works-after c.in-Ok.ensures.looks.looks wrote.works).fills in
      let made = c.with_spill.ensures.made in
      trees_kept _ _ _ _ _ _ filled puts.keeps.works.fills c.args.set.now c.put_dnode.new.set c.put_dnode.result (Some c.in-Ok.dnode) c.with_spill.result (inr (ap (λ (d : Dnode). d.levels) made, ap (λ (d : Dnode). d.root) made))
      (c.in-Ok.ensures.stands (wrote.works.fills.honest (puts.keeps.works.fills.honest honest))) (puts.within honest) (puts.stands honest);
}

pub write-requires-clause-some : goal.write-requires-clause-some
write-requires-clause-some g c = spill_some _ c.requires.spill

pub write-requires-clause-whole : goal.write-requires-clause-whole
write-requires-clause-whole g c = spill_whole _ c.requires.spill

pub write-requires-clause-small : goal.write-requires-clause-small
write-requires-clause-small g c = spill_small _ c.requires.spill

pub put_dnode-requires-clause-dnode : goal.put_dnode-requires-clause-dnode
put_dnode-requires-clause-dnode g c =
    let made = c.with_spill.ensures in
    let wrote = c.in-Ok-write.ensures.block in
    let size : is_spill_size c.in-Ok-write.ptr.length ≡ true = ap (λ (ptr : Ptr). is_spill_size ptr.length) wrote.pointer ∙ c.requires.spill in
    subst (λ (dnode : Dnode). DnodeFits dnode) (sym made.made) (spill_fits c.in-Ok.dnode c.in-Ok-write.ptr c.args.number c.in-Ok.ensures.ranges made.fits made.date (ap (λ (ptr : Ptr). ptr.kind) wrote.pointer) size)

pub object_there-requires : goal.object_there-requires
object_there-requires g c = record { object = c.requires.object }

pub put_dnode-requires-clause-object : goal.put_dnode-requires-clause-object
put_dnode-requires-clause-object g c = (c.requires.object, c.in-Ok.ensures.bound)
