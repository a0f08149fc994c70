use Rattle.std.proofs.Common.{◌∙◌, ap, sym, Err, List, ℕ}
use Rattle.std.proofs.lemmas.Result.{err_from_is_err_and}
use Rattle.zst_model.specs.declared.states.item.Change.TheVariants.{Write}
use Rattle.zst_model.specs.declared.states.item.Item.TheVariants.{At}
use Rattle.zst_model.specs.sends.ReceivedRecords.{received}
use Rattle.zst_model.specs.states.AppliedItems.{apply_change}
use Rattle.zst_space.specs.FreeSectors.{FreeSectors}
use Rattle.zst_block.specs.Blocks.{Has}
use Rattle.zst_block.specs.IoStates.{blocks_of}
use Rattle.zst_objset.specs.Changes.{block_written}
use Rattle.zst_objset.specs.Sets.{SetHolds}
use Rattle.zst_objset.specs.declared.fault.ObjFault.TheVariants as faults
use Rattle.zst_objset.proofs.LeafLaws.{look_back}
use Rattle.zst_apply.proofs.ByteRanges.{no_write, write_refused}
use Rattle.zst_apply.proofs.ReceivedRecords.{write_received}
use Rattle.zst_apply.proofs.RecordAnswers.{not_there, refused}
use Rattle.zst_apply.proofs.SetChanges.{changed_after, changed_by, no_limit, of_index, refused_after}
use Rattle.zst_apply.proofs.SetFaults.{names_told, read_told}
use Rattle.zst_apply.proofs.blocks.write_block.Goals as goal

pub returns-in_err-dnode : goal.returns-in_err-dnode
returns-in_err-dnode g c = record {
  changed = λ kind.
      let p = err_from_is_err_and c.from_residual.result c.from_residual.ensures.1 in
      let read = c.in_err-dnode.ensures in
      let change = Write c.args.offset kind c.args.bytes.now in
      rw (p.1, p.2) (refused_after (λ index. received c.args.number index (At c.args.object change)) _ read.looks
      (λ index state honest holds. not_there c.args.number index c.args.object change state (blocks_of c.object_there.new.io) _ (no_write c.args.offset kind c.args.bytes.now) (read.found state honest holds))
      (no_limit (Err _) read.limits) read.never_redacted (λ honest. read_told _ _ _ c.args.set.now _ (read.damaged honest)));
}

pub returns-in_err-check_write : goal.returns-in_err-check_write
returns-in_err-check_write g c = record {
  changed = λ kind.
      let p = err_from_is_err_and c.from_residual-in_err-check_write.result c.from_residual-in_err-check_write.ensures.1 in
      let change = Write c.args.offset kind c.args.bytes.now in
      rw (p.1, p.2) (refused_after (λ index. received c.args.number index (At c.args.object change)) (faults.CannotApply _) c.in_ok-dnode.ensures.looks
      (λ index state honest holds.
      let there = c.in_ok-dnode.ensures.found state honest holds in
      refused c.args.number index c.args.object change state _
      (ap (apply_change change) there.there ∙ write_refused c.in_ok-dnode.dnode.block_size c.args.offset kind c.args.bytes.now there.object _ there.is.size_is (sym c.in_err-check_write.ensures)))
      tt tt (λ honest. tt));
}

pub returns : goal.returns
returns g c = record {
  changed = λ kind.
      let looks = c.in_ok-dnode.ensures.looks in
      let wrote = c.write_block.ensures.changes in
      let result = c.write_block.result in
      let change = Write c.args.offset kind c.args.bytes.now in
      changed_after (λ index. received c.args.number index (At c.args.object change)) result looks
      (changed_by (At c.args.object change) (block_written c.args.number c.args.object _ c.args.bytes.now) result
      (λ index state honest holds.
      let held = look_back (λ (seen : List ℕ) (space : FreeSectors). SetHolds (Has seen space) c.args.set.now state) looks holds in
      let there = c.in_ok-dnode.ensures.found state (wrote.set.keeps.works.fills.honest honest) held in
      rw c.from.ensures (write_received _ c.args.number index c.args.object state c.in_ok-dnode.dnode held.lawful there c.args.offset kind c.args.bytes.now (sym c.in_ok-check_write.ensures)))
      (of_index _ result) (names_told _ _ c.args.set.now result) wrote c.write_block.ensures.trees);
}
