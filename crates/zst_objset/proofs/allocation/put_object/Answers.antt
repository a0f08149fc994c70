use Rattle.std.proofs.Common.{arith, ℕ, ◌+◌, List}
use Rattle.zst_space.specs.FreeSectors.{FreeSectors}
use Rattle.zst_block.specs.Blocks.{Has}
use Rattle.zst_block.proofs.IoCallLemmas.{Looks-none, Works-after, Works-looks, Works-more}
use Rattle.zst_model.specs.declared.states.item.Change.TheVariants.{Put}
use Rattle.zst_model.specs.declared.states.item.Item.TheVariants.{At}
use Rattle.zst_objset.specs.Changes.{changed, object_put}
use Rattle.zst_objset.specs.Sets.{SetHolds}
use Rattle.zst_objset.specs.declared.fault.ObjFault.TheVariants as faults
use Rattle.zst_objset.proofs.AnswerLaws.{Refuses-disk, disk_fault}
use Rattle.zst_objset.proofs.LeafLaws.{is_number_at, look_on}
use Rattle.zst_objset.proofs.ObjectLaws.{in_numbers-over, in_numbers-within}
use Rattle.zst_tree.proofs.LaterDamage.{fills_looks}
use Rattle.zst_objset.proofs.DamageLaws.{fault_spared, set_after, within_after}
use Rattle.zst_model.specs.states.State.{number_bound}
use Rattle.zst_model.specs.declared.refusals.faults.Quantity.TheVariants as quantities
use Rattle.std.proofs.Common.{refl}
use Rattle.zst_objset.proofs.LimitLaws.{if_no_limit}
use Rattle.std.proofs.Common.{inl}
use Rattle.zst_objset.specs.TightSets.{SetIsTight}
use Rattle.zst_objset.proofs.TightLaws.{found_dated}
use Rattle.zst_objset.proofs.SetChangeLaws.{refused}
use Rattle.zst_objset.proofs.TreesWithin.{trees_kept}
use Rattle.zst_objset.proofs.allocation.put_object.Goals as goal

pub returns-then-object-ge-NUMBER_BOUND-clause-changes : goal.returns-then-object-ge-NUMBER_BOUND-clause-changes
unfolding number_bound
returns-then-object-ge-NUMBER_BOUND-clause-changes g c =
    refused _ _ (λ state honest holds.
    in_numbers-over (c.args.object + 1) (changed c.args.number (At c.args.object (Put c.args.head c.args.bonus.now c.args.keep_spill 0)) state) (omega arith))
    (refl, refl, omega arith) tt (λ honest. tt) (Works-looks (Looks-none _))

pub returns-in-Err-clause-changes : goal.returns-in-Err-clause-changes
returns-in-Err-clause-changes g c =
    refused _ _ (λ state honest holds.
    Refuses-disk (object_put c.args.number c.args.object c.args.head c.args.bonus.now c.args.keep_spill state) (faults.Block c.in-Err.fault) (disk_fault c.in-Err.fault (c.in-Err.ensures.found state honest holds) c.in-Err.ensures.looks.looks.never_full))
    tt tt (λ honest. fault_spared _ _ _ c.args.set.now c.in-Err.fault (c.in-Err.ensures.damaged honest)) (Works-looks c.in-Err.ensures.looks.looks)

pub returns-clause-changes : goal.returns-clause-changes
returns-clause-changes g c = record {
  set = record {
    changed = λ state honest holds.
        let was_honest = c.put_dnode.ensures.puts.keeps.works.fills.honest honest in
        let mid = g.D.Disk.state c.dnode_at.new.io.disk.now in
        let grown = look_on (λ (seen : List ℕ) (space : FreeSectors). SetHolds (Has seen space) c.args.set.now state) c.in-Ok.ensures.looks.looks holds in
        let makes = c.made_dnode.ensures.made mid.seen c.dnode_at.new.io.space c.args.object state (is_number_at c.args.object (omega arith) (omega arith)) (c.in-Ok.ensures.found state was_honest holds) in
        let change = Put c.args.head c.args.bonus.now c.args.keep_spill 0 in
        rw (in_numbers-within (c.args.object + 1) (changed c.args.number (At c.args.object change) state) (omega arith)) (c.put_dnode.ensures.changed c.args.number change state honest grown makes);
    keeps = record {
      limits = if_no_limit quantities.Object number_bound (c.args.object + 1) c.put_dnode.result c.put_dnode.ensures.puts.keeps.limits;
      unredacted = c.put_dnode.ensures.puts.keeps.unredacted;
      damaged = λ honest.
          set_after _ _ _ _ (fills_looks c.in-Ok.ensures.looks.looks) c.args.set.now c.put_dnode.result (c.put_dnode.ensures.puts.keeps.damaged honest);
      kept = c.put_dnode.ensures.puts.keeps.kept;
      works = Works-after c.in-Ok.ensures.looks.looks (Works-more (omega arith) c.put_dnode.ensures.puts.keeps.works);
    };
  };
  tight = λ state honest tight dated.
      let was_honest = c.put_dnode.ensures.puts.keeps.works.fills.honest honest in
      let mid = g.D.Disk.state c.dnode_at.new.io.disk.now in
      let grown = look_on (λ (seen : List ℕ) (space : FreeSectors). SetIsTight (Has seen space) c.args.set.now state) c.in-Ok.ensures.looks.looks tight in
      let makes = c.made_dnode.ensures.made mid.seen c.dnode_at.new.io.space c.args.object state (is_number_at c.args.object (omega arith) (omega arith)) (c.in-Ok.ensures.found state was_honest tight.holds) in
      let change = Put c.args.head c.args.bonus.now c.args.keep_spill 0 in
      let early = c.made_dnode.ensures.dated (found_dated c.args.number state c.args.object _ dated (c.in-Ok.ensures.tight state was_honest tight)) in
      rw (in_numbers-within (c.args.object + 1) (changed c.args.number (At c.args.object change) state) (omega arith)) (c.put_dnode.ensures.tight c.args.number change state honest grown dated makes (inl early));
  levels = c.put_dnode.ensures.puts.levels;
}

pub returns-clause-within : goal.returns-clause-within
returns-clause-within g c = λ honest.
    within_after _ _ _ _ (fills_looks c.in-Ok.ensures.looks.looks) c.args.set.now _ c.put_dnode.new.set c.put_dnode.result (c.put_dnode.ensures.puts.within honest)

pub returns-then-object-ge-NUMBER_BOUND-clause-within : goal.returns-then-object-ge-NUMBER_BOUND-clause-within
returns-then-object-ge-NUMBER_BOUND-clause-within g c = λ honest. tt

pub returns-clause-trees : goal.returns-clause-trees
returns-clause-trees g c = λ honest.
    let puts = c.put_dnode.ensures.puts in
    trees_kept _ _ _ _ _ _ (fills_looks c.in-Ok.ensures.looks.looks) puts.keeps.works.fills c.args.set.now c.put_dnode.new.set c.put_dnode.result c.in-Ok.found c.made_dnode.result c.made_dnode.ensures.tree
    (c.in-Ok.ensures.stands (puts.keeps.works.fills.honest honest)) (puts.within honest) (puts.stands honest)

pub returns-then-object-ge-NUMBER_BOUND-clause-trees : goal.returns-then-object-ge-NUMBER_BOUND-clause-trees
returns-then-object-ge-NUMBER_BOUND-clause-trees g c = λ honest. tt

pub returns-in-Err-clause-trees : goal.returns-in-Err-clause-trees
returns-in-Err-clause-trees g c = λ honest. tt

pub dnode_at-requires : goal.dnode_at-requires
dnode_at-requires g c = record { object = c.requires.object }

pub returns-in-Err-clause-within : goal.returns-in-Err-clause-within
returns-in-Err-clause-within g c = λ honest. tt

pub made_dnode-requires-clause-head : goal.made_dnode-requires-clause-head
made_dnode-requires-clause-head g c = c.requires.head

pub made_dnode-requires-clause-bonus : goal.made_dnode-requires-clause-bonus
made_dnode-requires-clause-bonus g c = c.requires.bonus

pub made_dnode-requires-clause-ranges : goal.made_dnode-requires-clause-ranges
made_dnode-requires-clause-ranges g c = c.in-Ok.ensures.ranges
