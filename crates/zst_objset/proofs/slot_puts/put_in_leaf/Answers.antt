use Rattle.std.proofs.Common.{◌+◌, ◌-◌, ◌*◌, ◌/◌, ◌^◌, ◌<◌, ◌≤◌, ℕ, arith}
use Rattle.std.proofs.lemmas.Result.{err_from_is_err_and}
use Rattle.zst_block.proofs.BlocksLaws.{KeepsBlocks-fills}
use Rattle.zst_block.proofs.IoCallLemmas.{Works-after, Works-looks, Works-more, Works-then}
use Rattle.zst_tree.proofs.IndicesLaws.{TreeIs-grows}
use Rattle.zst_objset.proofs.LeafLaws.{keeps_on}
use Rattle.zst_objset.proofs.SetPuts.{InLeaf, IsPut, mended, put_leaf, Puts-one, with_one}
use Rattle.zst_objset.proofs.DamageLaws.{IfDamage-weaker, LacksSlot-put, fault_spared, lacking_spared, node_after}
use Rattle.std.proofs.Common.{◌≡◌, ◌∙◌}
use Rattle.zst_dnode.specs.declared.slot.Slot.TheVariants.{There}
use Rattle.zst_objset.proofs.TreesWithin.{put_stands, slots_put}
use Rattle.zst_objset.proofs.DamageLaws.{changed_within, leaf_whole, set_now, set_within}
use Rattle.zst_objset.proofs.TightLaws.{put_leaf_tight}
use Rattle.zst_objset.proofs.slot_puts.put_in_leaf.Goals as goal

-- the numbers' places in their leaf
within_leaf : (first below : ℕ) → 0 < first → first < below → below ≤ 2 ^ 48 → below ≤ 16 * (first / 16) + 16 → InLeaf first below (first / 16) (first - 16 * (first / 16)) (below - 16 * (first / 16))
within_leaf first below above some bound leaf = record { first_is = omega arith; below_is = omega arith; some = omega arith; inside = omega arith; small = omega arith; above = above }

pub returns-in_err-was-clause-makes : goal.returns-in_err-was-clause-makes
returns-in_err-was-clause-makes g c = record {
  damaged = λ honest.
      let p = err_from_is_err_and c.from_residual.result c.from_residual.ensures.1 in
      rw (p.1, p.2) (fault_spared _ _ _ c.args.set _ (c.in_err-was.ensures.damaged honest));
  within = λ honest.
      let p = err_from_is_err_and c.from_residual.result c.from_residual.ensures.1 in
      rw p.1 tt;
  stands = λ honest.
      let p = err_from_is_err_and c.from_residual.result c.from_residual.ensures.1 in
      rw p.1 tt;
  works =
      let p = err_from_is_err_and c.from_residual.result c.from_residual.ensures.1 in
      rw (p.1, p.2) (Works-looks c.in_err-was.ensures.looks.looks);
}

pub returns-in_err-ptr-clause-makes : goal.returns-in_err-ptr-clause-makes
returns-in_err-ptr-clause-makes g c = record {
  damaged = λ honest.
      let p = err_from_is_err_and c.from_residual-in_err-ptr.result c.from_residual-in_err-ptr.ensures.1 in
      let found = c.in_ok-was.ensures in
      let was_honest = c.in_err-ptr.ensures.works.fills.honest honest in
      let all = c.put_slots.ensures in
      rw (p.1, p.2) (IfDamage-weaker _ _
      (λ sector stated sums told. lacking_spared _ c.args.io.now.space _ c.args.set c.in_ok-was.was' c.find_slots.new.io.node (found.hangs was_honest) (found.loaded was_honest) sector stated sums
      (record { sector_is = told.sector_is; stated_is = told.stated_is; found_is = told.found_is; lacks = LacksSlot-put c.args.slot.now _ _ _ _ c.requires.slot all.put all.kept told.lacks }))
      _ c.in_err-ptr.ensures.damaged);
  within = λ honest.
      let p = err_from_is_err_and c.from_residual-in_err-ptr.result c.from_residual-in_err-ptr.ensures.1 in
      rw p.1 tt;
  stands = λ honest.
      let p = err_from_is_err_and c.from_residual-in_err-ptr.result c.from_residual-in_err-ptr.ensures.1 in
      rw p.1 tt;
  works =
      let p = err_from_is_err_and c.from_residual-in_err-ptr.result c.from_residual-in_err-ptr.ensures.1 in
      rw (p.1, p.2) (Works-after c.in_ok-was.ensures.looks.looks (Works-more (omega arith) c.in_err-ptr.ensures.works));
}

pub returns-in_err-set-clause-makes : goal.returns-in_err-set-clause-makes
returns-in_err-set-clause-makes g c = record {
  damaged = λ honest.
      let p = err_from_is_err_and c.from_residual-in_err-set.result c.from_residual-in_err-set.ensures.1 in
      let filled = (Works-after c.in_ok-was.ensures.looks.looks c.in_ok-ptr.ensures.works).fills in
      rw (p.1, p.2) (node_after _ _ _ _ filled c.args.set _ (c.in_err-set.ensures.changes.damaged honest));
  within = λ honest.
      let p = err_from_is_err_and c.from_residual-in_err-set.result c.from_residual-in_err-set.ensures.1 in
      rw p.1 tt;
  stands = λ honest.
      let p = err_from_is_err_and c.from_residual-in_err-set.result c.from_residual-in_err-set.ensures.1 in
      rw p.1 tt;
  works =
      let p = err_from_is_err_and c.from_residual-in_err-set.result c.from_residual-in_err-set.ensures.1 in
      rw (p.1, p.2) (Works-after c.in_ok-was.ensures.looks.looks (Works-then c.in_ok-ptr.ensures.works c.in_err-set.ensures.changes.works));
}

pub returns-clause-makes : goal.returns-clause-makes
returns-clause-makes g c = record {
  damaged = λ honest. tt;
  within = λ honest.
      let saved = c.in_ok-ptr.ensures in
      let set = c.in_ok-set.ensures.changes in
      let filled = (Works-after c.in_ok-was.ensures.looks.looks saved.works).fills in
      let whole = leaf_whole _ _ _ c.in_ok-ptr.ptr _ (g.met.D.Disk.seen_size c.set.new.io.disk.now ∙ set.works.fills.size) (KeepsBlocks-fills _ _ _ _ set.works.fills _ _ saved.wrote) (c.put_slots.ensures.long (omega arith)) saved.some in
      rw c.set_over.ensures.made (set_within _ _ _ c.args.set _ c.args.set _ _ filled.size (set_now _ _ _ _ filled c.args.set)
      (changed_within _ _ _ _ set.works.fills c.args.set (record { tree = c.set.new.self }) c.in_ok-ptr.ptr set.levels whole (set.within honest)));
  stands = λ honest.
      let found = c.in_ok-was.ensures in
      let saved = c.in_ok-ptr.ensures in
      let set = c.in_ok-set.ensures.changes in
      let read = saved.works.fills.honest (set.works.fills.honest honest) in
      let all = c.put_slots.ensures in
      let filled = (Works-after found.looks.looks saved.works).fills in
      rw c.set_over.ensures.made (put_stands _ _ _ _ _ _ filled set.works.fills c.args.set (record { tree = c.set.new.self }) c.in_ok-ptr.ptr c.put_slots.new.node (λ dnode. c.args.slot.now ≡ There dnode)
      (KeepsBlocks-fills _ _ _ _ set.works.fills _ _ saved.wrote) (set.within honest)
      (slots_put _ c.args.set c.in_ok-was.was' c.find_slots.new.io.node c.put_slots.new.node c.args.slot.now _ _ c.requires.slot (found.hangs read) (found.loaded read) all.put all.kept));
  works =
      Works-after c.in_ok-was.ensures.looks.looks (Works-then c.in_ok-ptr.ensures.works c.in_ok-set.ensures.changes.works);
}

pub returns-in_err-was-clause-put : goal.returns-in_err-was-clause-put
returns-in_err-was-clause-put g c = λ snap after honest holds puts.
    let p = err_from_is_err_and c.from_residual.result c.from_residual.ensures.1 in
    rw (p.1, p.2) (c.in_err-was.ensures.slots snap honest holds)

pub returns-in_err-ptr-clause-put : goal.returns-in_err-ptr-clause-put
returns-in_err-ptr-clause-put g c = λ snap after honest holds puts.
    let p = err_from_is_err_and c.from_residual-in_err-ptr.result c.from_residual-in_err-ptr.ensures.1 in
    let was_honest = c.in_err-ptr.ensures.works.fills.honest honest in
    let all = c.put_slots.ensures in
    let at = within_leaf c.args.first c.args.below c.requires.first c.requires.some c.requires.bound c.requires.leaf in
    let is : IsPut c.args.slot.now (c.args.first - 16 * (c.args.first / 16)) (c.args.below - 16 * (c.args.first / 16)) c.find_slots.new.io.node c.put_slots.new.node = record { fits = c.requires.slot; long = all.long at.some; put = all.put; kept = all.kept } in
    let there = mended _ snap after c.args.first c.args.below (c.args.first / 16) _ _ c.args.slot.now _ _ at is puts (c.in_ok-was.ensures.slots snap was_honest holds) in
    rw (p.1, p.2) (c.in_err-ptr.ensures.names there.slots there.spells)

pub returns-in_err-set-clause-put : goal.returns-in_err-set-clause-put
returns-in_err-set-clause-put g c = λ snap after honest holds puts.
    let was_saved = c.in_err-set.ensures.changes.works.fills.honest honest in
    let was_found = c.in_ok-ptr.ensures.works.fills.honest was_saved in
    let all = c.put_slots.ensures in
    let at = within_leaf c.args.first c.args.below c.requires.first c.requires.some c.requires.bound c.requires.leaf in
    let is : IsPut c.args.slot.now (c.args.first - 16 * (c.args.first / 16)) (c.args.below - 16 * (c.args.first / 16)) c.find_slots.new.io.node c.put_slots.new.node = record { fits = c.requires.slot; long = all.long at.some; put = all.put; kept = all.kept } in
    let saving = keeps_on c.in_ok-was.ensures.looks.looks c.in_ok-ptr.ensures.works.fills in
    let p = err_from_is_err_and c.from_residual-in_err-set.result c.from_residual-in_err-set.ensures.1 in
    rw (p.1, p.2) (c.in_err-set.ensures.changes.puts holds.map (with_one holds.map (c.args.first / 16) c.in_ok-ptr.ptr) honest (TreeIs-grows _ _ saving c.args.set.tree holds.map holds.tree) (Puts-one holds.map (c.args.first / 16) c.in_ok-ptr.ptr))

pub returns-clause-put : goal.returns-clause-put
returns-clause-put g c = λ snap after honest holds puts.
    let was_saved = c.in_ok-set.ensures.changes.works.fills.honest honest in
    let was_found = c.in_ok-ptr.ensures.works.fills.honest was_saved in
    let all = c.put_slots.ensures in
    let at = within_leaf c.args.first c.args.below c.requires.first c.requires.some c.requires.bound c.requires.leaf in
    let is : IsPut c.args.slot.now (c.args.first - 16 * (c.args.first / 16)) (c.args.below - 16 * (c.args.first / 16)) c.find_slots.new.io.node c.put_slots.new.node = record { fits = c.requires.slot; long = all.long at.some; put = all.put; kept = all.kept } in
    let saving = keeps_on c.in_ok-was.ensures.looks.looks c.in_ok-ptr.ensures.works.fills in
    rw c.set_over.ensures.made (put_leaf _ _ _ _ _ _ saving (KeepsBlocks-fills _ _ _ _ c.in_ok-set.ensures.changes.works.fills) c.args.set c.set.new.self snap after c.args.first c.args.below (c.args.first / 16) _ _ c.args.slot.now c.in_ok-ptr.ptr _ _
    at is puts holds (c.in_ok-was.ensures.slots snap was_found holds) c.in_ok-ptr.ensures.names (λ map other tree put. c.in_ok-set.ensures.changes.puts map other honest tree put) c.in_ok-set.ensures.changes.levels)

pub returns-clause-tight : goal.returns-clause-tight
returns-clause-tight g c = λ snap after honest tight puts each rises.
    let was_saved = c.in_ok-set.ensures.changes.works.fills.honest honest in
    let was_found = c.in_ok-ptr.ensures.works.fills.honest was_saved in
    let found = c.in_ok-was.ensures in
    let all = c.put_slots.ensures in
    let at = within_leaf c.args.first c.args.below c.requires.first c.requires.some c.requires.bound c.requires.leaf in
    let is : IsPut c.args.slot.now (c.args.first - 16 * (c.args.first / 16)) (c.args.below - 16 * (c.args.first / 16)) c.find_slots.new.io.node c.put_slots.new.node = record { fits = c.requires.slot; long = all.long at.some; put = all.put; kept = all.kept } in
    let saving = keeps_on found.looks.looks c.in_ok-ptr.ensures.works.fills in
    rw c.set_over.ensures.made (put_leaf_tight _ _ _ _ _ _ saving (KeepsBlocks-fills _ _ _ _ c.in_ok-set.ensures.changes.works.fills) c.args.set c.set.new.self snap after c.args.first c.args.below (c.args.first / 16) _ _ c.args.slot.now c.in_ok-ptr.ptr _ _
    at is puts tight (found.slots snap was_found tight.holds) (found.tight snap was_found tight) each c.in_ok-ptr.ensures.names (λ map other tree put. c.in_ok-set.ensures.changes.puts map other honest tree put) c.in_ok-set.ensures.changes.levels
    rises (λ number map tree dated early. c.in_ok-set.ensures.dated number map honest tree dated early))

pub returns-in_err-was-clause-tight : goal.returns-in_err-was-clause-tight
returns-in_err-was-clause-tight g c = λ snap after honest tight puts each rises.
    let p = err_from_is_err_and c.from_residual.result c.from_residual.ensures.1 in
    rw p.1 tt

pub returns-in_err-was-clause-levels : goal.returns-in_err-was-clause-levels
returns-in_err-was-clause-levels g c =
    let p = err_from_is_err_and c.from_residual.result c.from_residual.ensures.1 in
    rw p.1 tt

pub put_slots-requires-clause-fits : goal.put_slots-requires-clause-fits
put_slots-requires-clause-fits g c = c.requires.slot

pub returns-in_err-ptr-clause-tight : goal.returns-in_err-ptr-clause-tight
returns-in_err-ptr-clause-tight g c = λ snap after honest tight puts each rises.
    let p = err_from_is_err_and c.from_residual-in_err-ptr.result c.from_residual-in_err-ptr.ensures.1 in
    rw p.1 tt

pub returns-in_err-ptr-clause-levels : goal.returns-in_err-ptr-clause-levels
returns-in_err-ptr-clause-levels g c =
    let p = err_from_is_err_and c.from_residual-in_err-ptr.result c.from_residual-in_err-ptr.ensures.1 in
    rw p.1 tt

pub set-requires-clause-levels : goal.set-requires-clause-levels
set-requires-clause-levels g c = c.in_ok-was.ensures.levels

pub set-requires-clause-lawful : goal.set-requires-clause-lawful
set-requires-clause-lawful g c = c.in_ok-ptr.ensures.lawful

pub returns-in_err-set-clause-tight : goal.returns-in_err-set-clause-tight
returns-in_err-set-clause-tight g c = λ snap after honest tight puts each rises.
    let p = err_from_is_err_and c.from_residual-in_err-set.result c.from_residual-in_err-set.ensures.1 in
    rw p.1 tt

pub returns-in_err-set-clause-levels : goal.returns-in_err-set-clause-levels
returns-in_err-set-clause-levels g c =
    let p = err_from_is_err_and c.from_residual-in_err-set.result c.from_residual-in_err-set.ensures.1 in
    rw p.1 tt

pub set_over-requires : goal.set_over-requires
set_over-requires g c = c.in_ok-set.ensures.changes.levels

pub returns-clause-levels : goal.returns-clause-levels
returns-clause-levels g c = c.set_over.ensures.fits
