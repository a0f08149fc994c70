use Rattle.std.proofs.Common.{◌≡◌, refl, inr, ⊎_elim, ℕ, List, ◌*◌, sym, ap, subst, ◌∙◌, arith}
use Rattle.std.proofs.lemmas.Result.{err_from_is_err_and}
use Rattle.zst_bytes.specs.Bytes.{bytes_at}
use Rattle.zst_space.specs.FreeSectors.{FreeSectors}
use Rattle.zst_block.specs.Blocks.{Has}
use Rattle.zst_block.specs.IoStates.{blocks_of, disk_of}
use Rattle.zst_block.proofs.IoCallLemmas.{Looks-then}
use Rattle.zst_dnode.specs.declared.slot.Slot.{Slot}
use Rattle.zst_tree.proofs.LoadedNodes.{there_after}
use Rattle.zst_reach.proofs.SetWalks.{HasSlot-read, last_of, same_slot}
use Rattle.zst_count.specs.StandingData.{DataStandInSlot}
use Rattle.zst_count.proofs.MetLaws.{AllMet-more, MetMore-none, MetMore-then}
use Rattle.zst_count.proofs.ObjectWalks.{PlaceMet, PlaceRead, met_beside_on, met_slot_on, over_leaf, over_read, read_beside_on, read_slot_on, up_slot}
use Rattle.zst_count.proofs.objects.count_leaf.Goals as goal

pub returns-in_default-clause-stands : goal.returns-in_default-clause-stands
returns-in_default-clause-stands g c = λ honest stands.
    let at_load = c.in_ok-beside.ensures.looks.reads.honest (c.loop-place.invariant.looks.reads.honest honest) in
    let same : c.replace-leaf.result ≡ stands.bytes = c.replace-leaf.ensures.value ∙ c.in_ok-load.ensures.there stands.bytes at_load stands.there stands.long in
    let slot = stands.slots c.loop-place.place (omega arith) in
    absurd (c.in_default.ensures.none refl slot.0 slot.1.fits (ap (λ (b : List ℕ). bytes_at b (512 * c.loop-place.place) 512) (c.as_slice.ensures.bytes ∙ same) ∙ slot.1.spelled))

pub returns-in_err-count_slot-clause-stands : goal.returns-in_err-count_slot-clause-stands
returns-in_err-count_slot-clause-stands g c = λ honest stands.
    let inv = c.loop-place.invariant in
    let step = c.in_err-count_slot.ensures in
    let looked = c.in_ok-beside.ensures.looks in
    let loaded = c.in_ok-load.ensures.looks in
    let at_load = looked.reads.honest (inv.looks.reads.honest (step.looks.reads.honest honest)) in
    let same : c.replace-leaf.result ≡ stands.bytes = c.replace-leaf.ensures.value ∙ c.in_ok-load.ensures.there stands.bytes at_load stands.there stands.long in
    let slot = stands.slots c.loop-place.place (omega arith) in
    let slot_is : c.in-Some.slot ≡ slot.0 = same_slot stands.bytes c.as_slice.result.now c.loop-place.place c.in-Some.slot slot.0 (c.as_slice.ensures.bytes ∙ same) slot.1 c.in-Some.ensures.back in
    let under = there_after (Looks-then loaded (Looks-then looked inv.looks)) (λ (seen : List ℕ) (space : FreeSectors). DataStandInSlot (Has seen space) c.in-Some.slot)
    (subst (λ (s : Slot). DataStandInSlot (blocks_of c.args.io.now) s) (sym slot_is) slot.2) in
    let p = err_from_is_err_and c.from_residual-in_err-count_slot.result c.from_residual-in_err-count_slot.ensures.1 in
    rw (p.1, p.2) (step.stands honest under)

pub loop-place-preserved : goal.loop-place-preserved
loop-place-preserved g c =
    let inv = c.loop-place.invariant in
    let step = c.in_ok-count_slot.ensures in
    let looked = c.in_ok-beside.ensures.looks.reads in
    let loaded = c.in_ok-load.ensures.looks.reads in
    let image = (disk_of c.load_beside.new.io).seen in
    let now = (disk_of c.loop-place.io).seen in
    record {
      all = λ honest are.
          let was = step.looks.reads.honest honest in
          let beside = rw (← inv.looks.reads.seen) at (rw (← looked.seen) at (c.in_ok-beside.ensures.beside (inv.looks.reads.honest was))) in
          let known = met_beside_on image now c.args.met.now c.loop-place.met c.args.known.0 c.args.known.1 inv.looks.reads.seen inv.more are in
          last_of (PlaceMet image c.count_slot.new.met.end c.count_slot.new.met.marks c.replace-leaf.result) c.loop-place.place
          (λ j earlier slot stands. AllMet-more c.loop-place.met c.count_slot.new.met _ step.more (inv.all was are j earlier slot stands))
          (λ slot stands. met_slot_on image now c.count_slot.new.met.end _ slot c.in-Some.slot inv.looks.reads.seen (same_slot c.replace-leaf.result c.as_slice.result.now c.loop-place.place c.in-Some.slot slot c.as_slice.ensures.bytes stands c.in-Some.ensures.back)
          (step.all c.args.known.0 c.args.known.1 honest beside known));
      more = MetMore-then _ _ _ inv.more step.more;
      only = λ honest sector marked.
          let was = step.looks.reads.honest honest in
          let at_load = looked.honest (inv.looks.reads.honest was) in
          ⊎_elim (λ before. inv.only was sector before)
          (λ first. inr (
            up_slot image now _ c.args.ptr c.replace-leaf.result c.load.new.io.node c.loop-place.place sector c.in-Some.slot (looked.seen ∙ loaded.seen) inv.looks.reads.seen (c.in_ok-load.ensures.block at_load) c.replace-leaf.ensures.value (omega arith)
                (HasSlot-read c.replace-leaf.result c.as_slice.result.now c.loop-place.place c.in-Some.slot c.as_slice.ensures.bytes c.in-Some.ensures.spelled.0 c.in-Some.ensures.spelled.1) first.0,
            omega (arith, first.1, inv.more.end_is),
          ))
          (step.only honest sector marked);
      read = λ honest are.
          let was = step.looks.reads.honest honest in
          let beside = rw (← inv.looks.reads.seen) at (rw (← looked.seen) at (c.in_ok-beside.ensures.beside (inv.looks.reads.honest was))) in
          let known = read_beside_on image now c.args.known.0 c.args.known.1 inv.looks.reads.seen are in
          last_of (PlaceRead image c.replace-leaf.result) c.loop-place.place
          (λ j earlier slot stands. inv.read was are j earlier slot stands)
          (λ slot stands. read_slot_on image now slot c.in-Some.slot inv.looks.reads.seen (same_slot c.replace-leaf.result c.as_slice.result.now c.loop-place.place c.in-Some.slot slot c.as_slice.ensures.bytes stands c.in-Some.ensures.back)
          (step.read c.args.known.0 c.args.known.1 honest beside known));
      looks = Looks-then inv.looks step.looks;
    }

pub returns-clause-all : goal.returns-clause-all
returns-clause-all g c = λ honest are.
    let inv = c.loop-place.invariant in
    let looked = c.in_ok-beside.ensures.looks.reads in
    let loaded = c.in_ok-load.ensures.looks.reads in
    let at_load = looked.honest (inv.looks.reads.honest honest) in
    let known = met_beside_on (disk_of c.args.io.now).seen (disk_of c.load_beside.new.io).seen c.args.met.now c.args.met.now c.args.known.0 c.args.known.1 (looked.seen ∙ loaded.seen) (MetMore-none c.args.met.now) are in
    over_leaf _ _ c.loop-place.met.end _ c.args.ptr c.replace-leaf.result c.load.new.io.node (looked.seen ∙ loaded.seen) c.replace-leaf.ensures.value (c.in_ok-load.ensures.block at_load)
    (λ place under. inv.all honest known place (omega arith))

pub returns-clause-read : goal.returns-clause-read
returns-clause-read g c = λ honest are.
    let inv = c.loop-place.invariant in
    let looked = c.in_ok-beside.ensures.looks.reads in
    let loaded = c.in_ok-load.ensures.looks.reads in
    let at_load = looked.honest (inv.looks.reads.honest honest) in
    let known = read_beside_on (disk_of c.args.io.now).seen (disk_of c.load_beside.new.io).seen c.args.known.0 c.args.known.1 (looked.seen ∙ loaded.seen) are in
    over_read _ _ c.args.ptr c.replace-leaf.result c.load.new.io.node (looked.seen ∙ loaded.seen) c.replace-leaf.ensures.value (c.in_ok-load.ensures.block at_load)
    (λ place under. inv.read honest known place (omega arith))
