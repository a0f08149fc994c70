use Rattle.std.proofs.Common.{◌≡◌, ◌+◌, ◌^◌, ◌<◌, ◌≤◌, ℕ, true, sym, arith}
use Rattle.std.specs.Prelude.{take}
use Rattle.zst_block.proofs.IoCallLemmas.{Works-block}
use Rattle.zst_model.specs.declared.refusals.faults.Quantity.TheVariants as quantities
use Rattle.zst_model.specs.declared.states.attr.ObjectHead.{ObjectHead}
use Rattle.zst_model.specs.declared.states.item.Change.TheVariants.{Put, Redact, Spill, Write}
use Rattle.zst_model.specs.declared.states.item.Item.TheVariants.{At, FreeObjects}
use Rattle.zst_model.specs.states.AppliedItems.{within}
use Rattle.zst_model.specs.states.State.{is_number, number_bound}
use Rattle.zst_model.proofs.ObjectNumbers.{number_over_none}
use Rattle.zst_record.specs.Decoding.{is_object}
use Rattle.zst_stream.specs.Items.{free_change}
use Rattle.zst_objset.specs.Changes.{object_put, objects_freed, spill_put}
use Rattle.zst_apply.proofs.ReceivedRecords.{freed_received, put_received, spill_received, under_bound}
use Rattle.zst_apply.proofs.RecordCosts.{works_sized}
use Rattle.zst_apply.proofs.SetChanges.{changed_by, no_limit, record_changed, set_changed_by}
use Rattle.zst_apply.proofs.SetFaults.{inside, slots_told}
use Rattle.zst_apply.proofs.record_table.apply.Goals as goal

-- a number that a record may state
stated : (k : ℕ) → is_object k ≡ true → is_number k ≡ true
unfolding is_object
stated k is = is

-- one more is no more than all of them
below : (k : ℕ) → k < number_bound → k + 1 ≤ number_bound
below k less = omega (arith, less)

-- the range that is left of a FREEOBJECTS has the same numbers
cut_same : (first count other more : ℕ) → ((k : ℕ) → 1 ≤ k → k < 2 ^ 48 → within other more k ≡ within first count k) → (k : ℕ) → is_number k ≡ true → within other more k ≡ within first count k
unfolding number_bound
cut_same first count other more same k is = same k (number_over_none k is) (under_bound k is)

cut_inside : (other more : ℕ) → other + more ≤ 2 ^ 48 → other + more ≤ number_bound
unfolding number_bound
cut_inside other more is = is

pub put_object-requires-clause-object : goal.put_object-requires-clause-object
put_object-requires-clause-object g c = number_over_none c.in-Object.object (stated c.in-Object.object ((rw c.in-Object.is at c.requires.record).1.object_fits))

pub write_block-requires : goal.write_block-requires
write_block-requires g c = record { object = number_over_none c.in-Write.object (stated c.in-Write.object ((rw c.in-Write.is at c.requires.record).1.object_fits)) }

pub fill_range-requires : goal.fill_range-requires
fill_range-requires g c = record { object = number_over_none c.in-Free.object (stated c.in-Free.object ((rw c.in-Free.is at c.requires.record).1.object_fits)) }

pub put_spill-requires-clause-object : goal.put_spill-requires-clause-object
put_spill-requires-clause-object g c = number_over_none c.in-Spill.object (stated c.in-Spill.object ((rw c.in-Spill.is at c.requires.record).1.object_fits))

pub fill_range-requires-in-Redact : goal.fill_range-requires-in-Redact
fill_range-requires-in-Redact g c = record { object = number_over_none c.in-Redact.object (stated c.in-Redact.object ((rw c.in-Redact.is at c.requires.record).1.object_fits)) }

pub returns-in-Object : goal.returns-in-Object
returns-in-Object g c = record {
  changed =
      let k = c.in-Object.object in
      let less = under_bound k (stated k ((rw c.in-Object.is at c.requires.record).1.object_fits)) in
      let head : ObjectHead = record { type_ = c.in-Object.type_; bonus_type = c.in-Object.bonus_type; block_size = c.in-Object.block_size } in
      let bonus = take c.in-Object.bonus_len c.args.covered.now.payload.now in
      let put = c.put_object.ensures.changes in
      let result = c.put_object.result in
      rw (c.in-Object.is, sym c.keeps_spill.ensures) (record_changed (At k (Put head bonus c.keeps_spill.result c.in-Object.max_block)) result
      (changed_by (At k (Put head bonus c.keeps_spill.result c.in-Object.max_block)) (object_put c.args.number k head bonus c.keeps_spill.result) result
      (λ index state honest holds. put_received c.args.number index k head bonus c.keeps_spill.result c.in-Object.max_block state less)
      (inside quantities.Object number_bound (k + 1) result (below k less)) (slots_told _ _ c.args.set.now result) put c.put_object.ensures.trees)
      (Works-block put.set.keeps.works));
}

pub returns-in-FreeObjects : goal.returns-in-FreeObjects
returns-in-FreeObjects g c = record {
  changed =
      let first = c.in-FreeObjects.first in
      let count = c.in-FreeObjects.count in
      let numbers = c.cut-numbers in
      let within_numbers = cut_inside numbers.result.first numbers.result.count numbers.ensures.inside in
      let freed = c.free_objects.ensures in
      let result = c.free_objects.result in
      rw c.in-FreeObjects.is (record_changed (FreeObjects first count) result
      (set_changed_by (FreeObjects first count) (objects_freed c.args.number numbers.result.first numbers.result.count) result
      (λ index state honest holds. freed_received c.args.number index first count numbers.result.first numbers.result.count state holds.lawful within_numbers (cut_same first count numbers.result.first numbers.result.count numbers.ensures.same))
      (inside quantities.Object number_bound (numbers.result.first + numbers.result.count) result within_numbers) (slots_told _ _ c.args.set.now result)
      freed.changes (λ state honest tight dated. freed.tight state honest tight dated) freed.trees freed.levels)
      (Works-block freed.changes.keeps.works));
}

pub returns-in-Write : goal.returns-in-Write
returns-in-Write g c = record {
  changed =
      let did = c.write_block.ensures.changed c.in-Write.type_ in
      rw c.in-Write.is (record_changed (At c.in-Write.object (Write c.in-Write.offset c.in-Write.type_ c.args.covered.now.payload.now)) c.write_block.result did
      (works_sized (rw c.in-Write.is at c.requires.payload) did.keeps.works));
}

pub returns-in-Free : goal.returns-in-Free
returns-in-Free g c = record {
  changed =
      let did = c.fill_range.ensures.changed in
      rw c.in-Free.is (record_changed (At c.in-Free.object (free_change c.in-Free.offset c.in-Free.length)) c.fill_range.result did (Works-block did.keeps.works));
}

pub returns-in-Spill : goal.returns-in-Spill
returns-in-Spill g c = record {
  changed =
      let k = c.in-Spill.object in
      let bytes = c.args.covered.now.payload.now in
      let put = c.put_spill.ensures.changes in
      let result = c.put_spill.result in
      rw c.in-Spill.is (record_changed (At k (Spill bytes)) result
      (changed_by (At k (Spill bytes)) (spill_put c.args.number k bytes) result
      (λ index state honest holds. spill_received c.args.number index k bytes state)
      (no_limit result) (slots_told _ _ c.args.set.now result) put c.put_spill.ensures.trees)
      (works_sized (rw c.in-Spill.is at c.requires.payload) put.set.keeps.works));
}

pub returns-in-Redact : goal.returns-in-Redact
returns-in-Redact g c = record {
  changed =
      let did = c.fill_range-in-Redact.ensures.changed in
      rw c.in-Redact.is (record_changed (At c.in-Redact.object (Redact c.in-Redact.offset c.in-Redact.length)) c.fill_range-in-Redact.result did (Works-block did.keeps.works));
}
