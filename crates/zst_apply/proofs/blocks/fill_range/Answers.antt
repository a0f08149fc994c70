use Rattle.std.proofs.Common.{◌∙◌, ap, sym, Err, List, ℕ}
use Rattle.std.proofs.lemmas.Result.{err_from_is_err_and}
use Rattle.zst_model.specs.declared.states.item.Change.TheVariants.{Redact}
use Rattle.zst_model.specs.declared.states.item.Item.TheVariants.{At}
use Rattle.zst_model.specs.sends.ReceivedRecords.{received}
use Rattle.zst_model.specs.states.AppliedItems.{apply_change}
use Rattle.zst_space.specs.FreeSectors.{FreeSectors}
use Rattle.zst_stream.specs.Items.{free_change}
use Rattle.zst_block.specs.Blocks.{Has}
use Rattle.zst_block.specs.IoStates.{blocks_of}
use Rattle.zst_objset.specs.Changes.{holes_made, range_redacted}
use Rattle.zst_objset.specs.Sets.{SetHolds}
use Rattle.zst_objset.specs.declared.fault.ObjFault.TheVariants as faults
use Rattle.zst_objset.proofs.LeafLaws.{look_back}
use Rattle.zst_apply.specs.Fills.{change_of}
use Rattle.zst_apply.proofs.ByteRanges.{change_refused, no_change}
use Rattle.zst_apply.proofs.ReceivedRecords.{free_received, number_of, redact_received}
use Rattle.zst_apply.proofs.RecordAnswers.{not_there, refused}
use Rattle.zst_apply.proofs.SetChanges.{changed_after, changed_by, no_limit, of_index, refused_after}
use Rattle.zst_apply.proofs.SetFaults.{names_told, read_told}
use Rattle.zst_apply.proofs.blocks.fill_range.Goals as goal

pub returns-in_err-dnode : goal.returns-in_err-dnode
returns-in_err-dnode g c = record {
  changed =
      let p = err_from_is_err_and c.from_residual.result c.from_residual.ensures.1 in
      let read = c.in_err-dnode.ensures in
      let change = change_of c.args.fill c.args.offset c.args.length in
      rw (p.1, p.2) (refused_after (λ index. received c.args.number index (At c.args.object change)) _ read.looks
      (λ index state honest holds. not_there c.args.number index c.args.object change state (blocks_of c.object_there.new.io) _ (no_change c.args.fill c.args.offset c.args.length) (read.found state honest holds))
      (no_limit (Err _) read.limits) read.never_redacted (λ honest. read_told _ _ _ c.args.set.now _ (read.damaged honest)));
}

pub returns-in_err-check_range : goal.returns-in_err-check_range
returns-in_err-check_range g c = record {
  changed =
      let p = err_from_is_err_and c.from_residual-in_err-check_range.result c.from_residual-in_err-check_range.ensures.1 in
      let change = change_of c.args.fill c.args.offset c.args.length in
      rw (p.1, p.2) (refused_after (λ index. received c.args.number index (At c.args.object change)) (faults.CannotApply _) c.in_ok-dnode.ensures.looks
      (λ index state honest holds.
      let there = c.in_ok-dnode.ensures.found state honest holds in
      refused c.args.number index c.args.object change state _
      (ap (apply_change change) there.there ∙ change_refused c.args.fill c.in_ok-dnode.dnode c.args.offset c.args.length there.object _ there.is.type_is there.is.size_is (sym c.in_err-check_range.ensures)))
      tt tt (λ honest. tt));
}

pub returns-in-Holes : goal.returns-in-Holes
returns-in-Holes g c = record {
  changed =
      let looks = c.in_ok-dnode.ensures.looks in
      let punched = c.punch.ensures.changes in
      let result = c.punch.result in
      let indices = c.freed_indices-indices in
      let change = free_change c.args.offset c.args.length in
      rw c.in-Holes.is (changed_after (λ index. received c.args.number index (At c.args.object change)) result looks
      (changed_by (At c.args.object change) (holes_made c.args.number c.args.object indices.result.first indices.result.count) result
      (λ index state honest holds.
      let held = look_back (λ (seen : List ℕ) (space : FreeSectors). SetHolds (Has seen space) c.args.set.now state) looks holds in
      let there = c.in_ok-dnode.ensures.found state (punched.set.keeps.works.fills.honest honest) held in
      free_received _ c.args.number index c.args.object state c.in_ok-dnode.dnode held.lawful there c.args.offset c.args.length indices.result.first indices.result.count
      (number_of state c.args.object c.requires.object held.lawful there.object there.there) (rw c.in-Holes.is at (sym c.in_ok-check_range.ensures)) indices.ensures.inside (rw c.from-size.ensures at indices.ensures.same))
      (of_index _ result) (λ told. told) punched c.punch.ensures.trees));
}

pub returns-in-Redacted : goal.returns-in-Redacted
returns-in-Redacted g c = record {
  changed =
      let looks = c.in_ok-dnode.ensures.looks in
      let redacted = c.redact_range.ensures.changes in
      let result = c.redact_range.result in
      let change = Redact c.args.offset c.args.length in
      rw c.in-Redacted.is (changed_after (λ index. received c.args.number index (At c.args.object change)) result looks
      (changed_by (At c.args.object change) (range_redacted c.args.number c.args.object _ _) result
      (λ index state honest holds.
      let held = look_back (λ (seen : List ℕ) (space : FreeSectors). SetHolds (Has seen space) c.args.set.now state) looks holds in
      let there = c.in_ok-dnode.ensures.found state (redacted.set.keeps.works.fills.honest honest) held in
      rw c.from-size.ensures (redact_received _ c.args.number index c.args.object state c.in_ok-dnode.dnode held.lawful there c.args.offset c.args.length (rw c.in-Redacted.is at (sym c.in_ok-check_range.ensures))))
      (of_index _ result) (names_told _ _ c.args.set.now result) redacted c.redact_range.ensures.trees));
}
