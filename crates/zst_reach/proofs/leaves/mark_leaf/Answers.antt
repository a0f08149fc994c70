use Rattle.std.proofs.Common.{◌≡◌, refl, inr, ⊎_elim, ℕ, List, ◌*◌, sym, ap, subst, ◌∙◌, arith}
use Rattle.std.proofs.lemmas.Result.{err_from_is_err_and}
use Rattle.zst_bytes.specs.Bytes.{bytes_at}
use Rattle.zst_space.specs.FreeSectors.{FreeSectors}
use Rattle.zst_block.specs.Blocks.{Has}
use Rattle.zst_block.specs.IoStates.{blocks_of, disk_of}
use Rattle.zst_block.proofs.IoCallLemmas.{Looks-then}
use Rattle.zst_dnode.specs.declared.slot.Slot.{Slot}
use Rattle.zst_marks.proofs.MoreMarks.{MarksMore-then}
use Rattle.zst_tree.proofs.LoadedNodes.{there_after}
use Rattle.zst_reach.specs.ReachedSets.{ReachesInSlot}
use Rattle.zst_reach.specs.StandingNodes.{NodesStandInSlot}
use Rattle.zst_block.specs.Blocks.{IsBlock}
use Rattle.zst_reach.proofs.SetWalks.{AllMarked-more, HasSlot-read, PlaceMarked, beside_on, last_of, over_leaf, same_slot, slot_on, up_slot}
use Rattle.zst_reach.proofs.leaves.mark_leaf.Goals as goal

pub returns-in_default-clause-stands : goal.returns-in_default-clause-stands
returns-in_default-clause-stands g c = λ honest stands.
    let at_load = c.in_ok-beside.ensures.looks.reads.honest (c.loop-place.invariant.looks.reads.honest honest) in
    let same : c.replace-leaf.result ≡ stands.bytes = c.replace-leaf.ensures.value ∙ c.in_ok-load.ensures.there stands.bytes at_load stands.there stands.long in
    let slot = stands.slots c.loop-place.place (omega arith) in
    absurd (c.in_default.ensures.none refl slot.0 slot.1.fits (ap (λ (b : List ℕ). bytes_at b (512 * c.loop-place.place) 512) (c.as_slice.ensures.bytes ∙ same) ∙ slot.1.spelled))

pub returns-in_err-mark_slot-clause-stands : goal.returns-in_err-mark_slot-clause-stands
returns-in_err-mark_slot-clause-stands g c = λ honest stands.
    let inv = c.loop-place.invariant in
    let step = c.in_err-mark_slot.ensures in
    let looked = c.in_ok-beside.ensures.looks in
    let loaded = c.in_ok-load.ensures.looks in
    let at_load = looked.reads.honest (inv.looks.reads.honest (step.looks.reads.honest honest)) in
    let same : c.replace-leaf.result ≡ stands.bytes = c.replace-leaf.ensures.value ∙ c.in_ok-load.ensures.there stands.bytes at_load stands.there stands.long in
    let slot = stands.slots c.loop-place.place (omega arith) in
    let slot_is : c.in-Some.slot ≡ slot.0 = same_slot stands.bytes c.as_slice.result.now c.loop-place.place c.in-Some.slot slot.0 (c.as_slice.ensures.bytes ∙ same) slot.1 c.in-Some.ensures.back in
    let under = there_after (Looks-then loaded (Looks-then looked inv.looks)) (λ (seen : List ℕ) (space : FreeSectors). NodesStandInSlot (Has seen space) c.in-Some.slot)
    (subst (λ (s : Slot). NodesStandInSlot (blocks_of c.args.io.now) s) (sym slot_is) slot.2) in
    let p = err_from_is_err_and c.from_residual-in_err-mark_slot.result c.from_residual-in_err-mark_slot.ensures.1 in
    rw (p.1, p.2) (step.stands honest under)

pub loop-place-preserved : goal.loop-place-preserved
loop-place-preserved g c =
    let inv = c.loop-place.invariant in
    let step = c.in_ok-mark_slot.ensures in
    let looked = c.in_ok-beside.ensures.looks.reads in
    let loaded = c.in_ok-load.ensures.looks.reads in
    let image = (disk_of c.load_beside.new.io).seen in
    let now = (disk_of c.loop-place.io).seen in
    record {
      all = λ honest are.
          let was = step.looks.reads.honest honest in
          let beside = rw (← inv.looks.reads.seen) at (rw (← looked.seen) at (c.in_ok-beside.ensures.beside (inv.looks.reads.honest was))) in
          let known = beside_on image now c.args.end _ _ c.args.known_level c.args.known inv.looks.reads.seen inv.more.stay are in
          last_of (PlaceMarked image c.args.end c.mark_slot.new.marks c.replace-leaf.result) c.loop-place.place
          (λ j earlier slot stands. AllMarked-more image c.args.end _ _ (ReachesInSlot (IsBlock image) slot) step.more.stay (inv.all was are j earlier slot stands))
          (λ slot stands. slot_on image now c.args.end _ slot c.in-Some.slot inv.looks.reads.seen (same_slot c.replace-leaf.result c.as_slice.result.now c.loop-place.place c.in-Some.slot slot c.as_slice.ensures.bytes stands c.in-Some.ensures.back)
          (step.all c.args.known_level c.args.known honest beside known));
      more = MarksMore-then _ _ _ inv.more step.more;
      room = omega (arith, inv.room, step.more.room);
      only = λ honest sector marked.
          let was = step.looks.reads.honest honest in
          let at_load = looked.honest (inv.looks.reads.honest was) in
          ⊎_elim (λ before. inv.only was sector before)
          (λ reached. inr (up_slot image now _ c.args.ptr c.replace-leaf.result c.load.new.io.node c.loop-place.place sector c.in-Some.slot (looked.seen ∙ loaded.seen) inv.looks.reads.seen (c.in_ok-load.ensures.block at_load) c.replace-leaf.ensures.value (omega arith)
          (HasSlot-read c.replace-leaf.result c.as_slice.result.now c.loop-place.place c.in-Some.slot c.as_slice.ensures.bytes c.in-Some.ensures.spelled.0 c.in-Some.ensures.spelled.1) reached))
          (step.only honest sector marked);
      looks = Looks-then inv.looks step.looks;
    }

pub returns-clause-all : goal.returns-clause-all
returns-clause-all g c = λ honest are.
    let inv = c.loop-place.invariant in
    let looked = c.in_ok-beside.ensures.looks.reads in
    let loaded = c.in_ok-load.ensures.looks.reads in
    let at_load = looked.honest (inv.looks.reads.honest honest) in
    let known = beside_on _ _ c.args.end _ _ c.args.known_level c.args.known (looked.seen ∙ loaded.seen) (λ sector marked. marked) are in
    over_leaf _ _ c.args.end _ c.args.ptr c.replace-leaf.result c.load.new.io.node (looked.seen ∙ loaded.seen) c.replace-leaf.ensures.value (c.in_ok-load.ensures.block at_load)
    (λ place under. inv.all honest known place (omega arith))
