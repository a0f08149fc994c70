use Rattle.std.proofs.Common.{◌+◌, arith, sym}
use Rattle.std.proofs.lemmas.Result.{err_from_is_err_and}
use Rattle.zst_block.specs.IoStates.{blocks_of}
use Rattle.zst_block.proofs.IoCallLemmas.{Works-after, Works-looks, Works-more, Works-then}
use Rattle.zst_objset.specs.Ranges.{IsRightNode, change_of}
use Rattle.zst_objset.proofs.IndicesChanged.{Changes-indices, change_refused, in_range, indices_not_there, past_indices}
use Rattle.zst_objset.proofs.LeafLaws.{is_number_at, keeps_on}
use Rattle.zst_objset.proofs.RangeLaws.{change_fails, change_is, no_change}
use Rattle.zst_objset.proofs.SetGrowth.{SetHolds-grows}
use Rattle.zst_objset.proofs.SpillLaws.{stops}
use Rattle.std.proofs.Common.{Err}
use Rattle.zst_dnode.specs.declared.dnode.Dnode.{Dnode}
use Rattle.zst_block.specs.Blocks.{SparesTaken}
use Rattle.zst_objset.proofs.DamageLaws.{told_before, object_told, set_after, set_spared, tree_told}
use Rattle.zst_model.specs.states.State.{index_bound}
use Rattle.zst_model.specs.declared.refusals.faults.Quantity.TheVariants as quantities
use Rattle.std.proofs.Common.{refl}
use Rattle.zst_objset.proofs.LimitLaws.{if_no_limit, no_limit}
use Rattle.zst_objset.proofs.TightLaws.{tight_grows}
use Rattle.zst_tree.proofs.LaterDamage.{fills_looks}
use Rattle.zst_objset.proofs.SetChangeLaws.{refused}
use Rattle.zst_objset.proofs.TreesWithin.{sums_before, trees_changed}
use Rattle.zst_objset.proofs.ranges.change_range.Goals as goal

pub returns-in_err-dnode : goal.returns-in_err-dnode
returns-in_err-dnode g c = record {
  changes =
      let p = err_from_is_err_and c.from_residual.result c.from_residual.ensures.1 in
      rw (p.1, p.2) (refused _ _ (λ state honest holds.
      indices_not_there c.args.number c.args.object (c.args.first + c.args.count) (change_of c.args.change c.args.first c.args.count (state.state c.args.object)) state (blocks_of c.object_there.new.io) _ (no_change c.args.change _ _ _) (c.in_err-dnode.ensures.found state honest holds))
      (no_limit quantities.Block index_bound (c.args.first + c.args.count) _ c.in_err-dnode.ensures.limits) c.in_err-dnode.ensures.unredacted
      (λ honest.
      object_told _ _ _ c.args.set.now {T = Unit {0}} (Err _) (set_spared _ _ _ c.args.set.now Dnode (Unit {0}) _ (c.in_err-dnode.ensures.damaged honest)))
      (Works-looks c.in_err-dnode.ensures.looks.looks));
  trees = λ honest.
      let p = err_from_is_err_and c.from_residual.result c.from_residual.ensures.1 in
      rw p.1 tt;
}

pub returns-in_err-check_change : goal.returns-in_err-check_change
returns-in_err-check_change g c = record {
  changes =
      let p = err_from_is_err_and c.from_residual-in_err-check_change.result c.from_residual-in_err-check_change.ensures.1 in
      rw (p.1, p.2) (refused _ _ (λ state honest holds.
      let there = c.in_ok-dnode.ensures.found state honest holds in
      change_refused c.args.number c.args.object (c.args.first + c.args.count) (change_of c.args.change c.args.first c.args.count (state.state c.args.object)) state _ (change_fails _ c.args.number c.args.object c.args.first c.args.count state c.in_ok-dnode.dnode holds.lawful there c.args.change _ (sym c.in_err-check_change.ensures)))
      tt tt (λ honest. tt) (Works-looks c.in_ok-dnode.ensures.looks.looks));
  trees = λ honest.
      let p = err_from_is_err_and c.from_residual-in_err-check_change.result c.from_residual-in_err-check_change.ensures.1 in
      rw p.1 tt;
}

pub returns-in_err-check_range : goal.returns-in_err-check_range
returns-in_err-check_range g c = record {
  changes =
      let p = err_from_is_err_and c.from_residual-in_err-check_range.result c.from_residual-in_err-check_range.ensures.1 in
      let past = c.in_err-check_range.ensures.past in
      rw (p.1, p.2, past.0) (refused _ _ (λ state honest holds.
      let there = c.in_ok-dnode.ensures.found state honest holds in
      let is = change_is _ c.args.number c.args.object c.args.first c.args.count state c.in_ok-dnode.dnode holds.lawful there c.args.change (sym c.in_ok-check_change.ensures) in
      past_indices (c.args.first + c.args.count) _ is.0 past.1 is.1)
      (refl, refl, past.1) tt (λ honest. tt) (Works-looks c.in_ok-dnode.ensures.looks.looks));
  trees = λ honest.
      let p = err_from_is_err_and c.from_residual-in_err-check_range.result c.from_residual-in_err-check_range.ensures.1 in
      rw p.1 tt;
}

pub returns-in_err-made : goal.returns-in_err-made
returns-in_err-made g c = record {
  changes =
      let p = err_from_is_err_and c.from_residual-in_err-made.result c.from_residual-in_err-made.ensures.1 in
      rw (p.1, p.2) (refused _ _ (λ state honest holds.
      let there = c.in_ok-dnode.ensures.found state (c.in_err-made.ensures.works.fills.honest honest) holds in
      let number = is_number_at c.args.object (omega arith) (omega (arith, c.in_ok-dnode.ensures.bound)) in
      let is = change_is _ c.args.number c.args.object c.args.first c.args.count state c.in_ok-dnode.dnode holds.lawful there c.args.change (sym c.in_ok-check_change.ensures) in
      stops _ _ _ (in_range (c.args.first + c.args.count) _ is.0 c.in_ok-check_range.ensures.inside is.1) (c.in_err-made.ensures.made c.args.object state honest number holds.lawful there))
      tt tt
      (λ honest.
      let old = g.D.Disk.state c.args.io.now.disk.now in
      let stands = c.in_ok-dnode.ensures.stands (c.in_err-made.ensures.works.fills.honest honest) in
      tree_told old c.args.io.now.space c.args.set.now (IsRightNode c.args.change (SparesTaken c.args.io.now.space old.seen)) c.in_ok-dnode.dnode stands _
      (told_before (λ space seen. IsRightNode c.args.change (SparesTaken space seen)) c.in_ok-dnode.dnode.levels c.in_ok-dnode.dnode.root c.in_ok-dnode.ensures.looks.looks _
      (c.in_err-made.ensures.damaged honest)))
      (Works-after c.in_ok-dnode.ensures.looks.looks (Works-more (omega arith) c.in_err-made.ensures.works)));
  trees = λ honest.
      let p = err_from_is_err_and c.from_residual-in_err-made.result c.from_residual-in_err-made.ensures.1 in
      rw p.1 tt;
}

pub returns : goal.returns
returns g c = record {
  changes = record {
    set = record {
      changed = λ state honest holds.
          let made = c.in_ok-made.ensures in
          let was_made = c.put_dnode.ensures.puts.keeps.works.fills.honest honest in
          let there = c.in_ok-dnode.ensures.found state (made.works.fills.honest was_made) holds in
          let number = is_number_at c.args.object (omega arith) (omega (arith, c.in_ok-dnode.ensures.bound)) in
          let grown = SetHolds-grows (blocks_of c.args.io.now) (blocks_of c.range_changed.new.io) (keeps_on c.in_ok-dnode.ensures.looks.looks made.works.fills) c.args.set.now state holds in
          Changes-indices (c.args.first + c.args.count) _ _ _ c.in_ok-check_range.ensures.inside
          (c.put_dnode.ensures.changed c.args.number (change_of c.args.change c.args.first c.args.count (state.state c.args.object)) state honest grown (made.made c.args.object state was_made number holds.lawful there));
      keeps = record {
        limits = if_no_limit quantities.Block index_bound (c.args.first + c.args.count) c.put_dnode.result c.put_dnode.ensures.puts.keeps.limits;
        unredacted = c.put_dnode.ensures.puts.keeps.unredacted;
        damaged = λ honest.
            let filled = (Works-after c.in_ok-dnode.ensures.looks.looks c.in_ok-made.ensures.works).fills in
            object_told _ _ _ c.args.set.now c.put_dnode.result (set_after _ _ _ _ filled c.args.set.now c.put_dnode.result (c.put_dnode.ensures.puts.keeps.damaged honest));
        kept = c.put_dnode.ensures.puts.keeps.kept;
        works = Works-after c.in_ok-dnode.ensures.looks.looks (Works-more (omega arith) (Works-then c.in_ok-made.ensures.works c.put_dnode.ensures.puts.keeps.works));
      };
    };
    tight = λ state honest tight dated.
        let old = g.D.Disk.state c.args.io.now.disk.now in
        let new = g.D.Disk.state c.range_changed.new.io.disk.now in
        let made = c.in_ok-made.ensures in
        let was_made = c.put_dnode.ensures.puts.keeps.works.fills.honest honest in
        let there = c.in_ok-dnode.ensures.found state (made.works.fills.honest was_made) tight.holds in
        let number = is_number_at c.args.object (omega arith) (omega (arith, c.in_ok-dnode.ensures.bound)) in
        let grown = tight_grows c.args.set.now old.seen c.args.io.now.space new.seen c.range_changed.new.io.space state (keeps_on c.in_ok-dnode.ensures.looks.looks made.works.fills) tight in
        let was = c.in_ok-dnode.ensures.tight state (made.works.fills.honest was_made) tight in
        Changes-indices (c.args.first + c.args.count) _ _ _ c.in_ok-check_range.ensures.inside
        (c.put_dnode.ensures.tight c.args.number (change_of c.args.change c.args.first c.args.count (state.state c.args.object)) state honest grown dated (made.made c.args.object state was_made number tight.holds.lawful there)
        (made.tight c.args.object state was_made number tight.holds.lawful there dated was));
    levels = c.put_dnode.ensures.puts.levels;
  };
  trees = λ honest.
      let puts = c.put_dnode.ensures.puts in
      let made = c.in_ok-made.ensures in
      let looked = c.in_ok-dnode.ensures.looks.looks in
      let was_made = puts.keeps.works.fills.honest honest in
      trees_changed _ _ _ _ _ _ (Works-after looked made.works).fills puts.keeps.works.fills c.args.set.now c.put_dnode.new.set c.put_dnode.result
      c.in_ok-dnode.dnode c.in_ok-made.made c.in_ok-made.made.levels c.in_ok-made.made.root refl refl (c.in_ok-dnode.ensures.stands (made.works.fills.honest was_made))
      (sums_before _ _ _ _ (fills_looks looked) c.in_ok-dnode.dnode.levels c.in_ok-dnode.dnode.root _ c.in_ok-made.made.levels c.in_ok-made.made.root (made.trees was_made))
      (puts.within honest) (puts.stands honest);
}

pub object_there-requires : goal.object_there-requires
object_there-requires g c = record { object = c.requires.object }

pub range_changed-requires-clause-dnode : goal.range_changed-requires-clause-dnode
range_changed-requires-clause-dnode g c = c.in_ok-dnode.ensures.ranges

pub range_changed-requires-clause-checked : goal.range_changed-requires-clause-checked
range_changed-requires-clause-checked g c = sym c.in_ok-check_change.ensures

pub range_changed-requires-clause-range : goal.range_changed-requires-clause-range
range_changed-requires-clause-range g c = c.in_ok-check_range.ensures.inside

pub put_dnode-requires-clause-object : goal.put_dnode-requires-clause-object
put_dnode-requires-clause-object g c = (c.requires.object, c.in_ok-dnode.ensures.bound)

pub put_dnode-requires-clause-dnode : goal.put_dnode-requires-clause-dnode
put_dnode-requires-clause-dnode g c = c.in_ok-made.ensures.fits
