use Rattle.std.proofs.Common.{inl, inr, ⊎_elim, ℕ, List, sym, arith}
use Rattle.std.specs.Prelude.{None, Some}
use Rattle.zst_block.specs.IoStates.{disk_of}
use Rattle.zst_objset.specs.Damage.{IfDamaged}
use Rattle.zst_tree.specs.Damage.{IsSeen}
use Rattle.zst_tree.proofs.Damage.{seen_before}
use Rattle.zst_reach.proofs.SetWalks.{on_ok}
use Rattle.zst_count.specs.DataDamage.{IsDamagedBelow}
use Rattle.zst_count.specs.MetBlocks.{AreMet, AreMetInDnode, AreRead, AreReadInDnode}
use Rattle.zst_count.proofs.DataFaults.{spill_told}
use Rattle.zst_count.proofs.MetLaws.{AllMet-more, AreMet-same, AreRead-same, up_only}
use Rattle.zst_count.proofs.ObjectSizes.{size_bound, spill_bound}
use Rattle.zst_count.proofs.ObjectWalks.{both_met, met_spill_of, met_tree_of, read_spill_of, read_tree_of}
use Rattle.zst_count.proofs.objects.count_object.Goals as goal

pub count_below-requires : goal.count_below-requires
count_below-requires g c = record { long = size_bound c.args.dnode.now c.requires.fits }

pub count_below-requires-2 : goal.count_below-requires-2
count_below-requires-2 g c = record { long = spill_bound c.args.dnode.now c.requires.fits }

pub returns-clause-all : goal.returns-clause-all
returns-clause-all g c = λ honest are.
    let one = c.in_ok-count_below.ensures in
    let two = c.count_below-2.ensures in
    let image = (disk_of c.args.io.now).seen in
    let later = (disk_of c.count_below.new.io).seen in
    let same = one.looks.reads.seen in
    let tree = one.all (two.looks.reads.honest honest) (met_tree_of image c.args.met.now.end c.args.met.now.marks c.args.known.now _ _ c.tree_beside-tree.ensures are) in
    let known = AllMet-more c.args.met.now c.count_below.new.met _ one.more (met_spill_of image c.args.met.now.end c.args.met.now.marks c.args.known.now _ c.spill_beside.ensures are) in
    on_ok {P = AreMet later c.count_below-2.new.met.end c.count_below-2.new.met.marks 0 c.args.dnode.now.spill} {Q = AreMetInDnode image c.count_below-2.new.met.end c.count_below-2.new.met.marks c.args.dnode.now}
    (λ spill. both_met image c.count_below.new.met c.count_below-2.new.met c.args.dnode.now two.more tree (AreMet-same later image c.count_below-2.new.met.end c.count_below-2.new.met.marks 0 c.args.dnode.now.spill (sym same) spill)) c.count_below-2.result
    (two.all honest (AreMet-same image later c.count_below.new.met.end c.count_below.new.met.marks 0 c.spill_beside.result same known))

pub returns-clause-only : goal.returns-clause-only
returns-clause-only g c = λ honest sector marked.
    let one = c.in_ok-count_below.ensures in
    let two = c.count_below-2.ensures in
    ⊎_elim (λ before. up_only (λ first. (inl first.0, first.1)) (one.only (two.looks.reads.honest honest) sector before))
    (λ first. inr (inr (rw one.looks.reads.seen at first.0), omega (arith, first.1, one.more.end_is)))
    (two.only honest sector marked)

pub returns-clause-read : goal.returns-clause-read
returns-clause-read g c = λ honest are.
    let one = c.in_ok-count_below.ensures in
    let two = c.count_below-2.ensures in
    let image = (disk_of c.args.io.now).seen in
    let later = (disk_of c.count_below.new.io).seen in
    let same = one.looks.reads.seen in
    let tree = one.read (two.looks.reads.honest honest) (read_tree_of image c.args.dnode.now.block_size c.args.known.now _ _ c.tree_beside-tree.ensures are) in
    let told = Some c.args.dnode.now.spill.length in
    on_ok {P = AreRead later told 0 c.args.dnode.now.spill} {Q = AreReadInDnode image c.args.dnode.now}
    (λ spill. (tree, AreRead-same later image told 0 c.args.dnode.now.spill (sym same) spill)) c.count_below-2.result
    (two.read honest (AreRead-same image later told 0 c.spill_beside.result same (read_spill_of image c.args.dnode.now.spill.length c.args.known.now _ c.spill_beside.ensures are)))

pub returns-clause-damaged : goal.returns-clause-damaged
returns-clause-damaged g c = λ honest.
    let spill = c.args.dnode.now.spill in
    spill_told _ _ c.args.dnode.now c.count_below-2.result
    (seen_before {stop = None} c.in_ok-count_below.ensures.looks (λ (seen : List ℕ) (size : ℕ). IfDamaged c.count_below-2.result (IsDamagedBelow (IsSeen seen) size (Some spill.length) 0 spill)) (c.count_below-2.ensures.damaged honest))
