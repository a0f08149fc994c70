use Rattle.std.proofs.Common.{ℕ, List, refl, sym, subst}
use Rattle.std.proofs.lemmas.Result.{err_from_is_err_and}
use Rattle.zst_space.specs.FreeSectors.{FreeSectors}
use Rattle.zst_block.specs.Blocks.{Has}
use Rattle.zst_block.specs.IoStates.{blocks_of, disk_of}
use Rattle.zst_dnode.specs.declared.slot.Slot.TheVariants.{There}
use Rattle.zst_model.specs.states.State.{content_at}
use Rattle.zst_objset.specs.Damage.{IfDamaged}
use Rattle.zst_objset.specs.Dnodes.{IsThere, SlotIs}
use Rattle.zst_objset.proofs.LeafLaws.{look_on}
use Rattle.zst_tree.proofs.Damage.{seen_before}
use Rattle.zst_tree.proofs.Results.{delivers_if}
use Rattle.zst_tree.specs.Damage.{IsSeen}
use Rattle.zst_compare.specs.Agreement.{Compares}
use Rattle.zst_compare.specs.Contents.{ComparesAll, HasContents, indices_at}
use Rattle.zst_compare.specs.Damage.{IsDamagedIndex, IsDamagedInSlot, OfEither}
use Rattle.zst_compare.specs.declared.trees.Indices.{Indices}
use Rattle.zst_compare.proofs.ComparedSlots.{compares_on, contents_in, index_up, number_differs, size_most}
use Rattle.zst_compare.proofs.Contents.{contents_there}
use Rattle.zst_compare.proofs.Told.{damaged_up, either_up}
use Rattle.zst_compare.proofs.slots.compare_object.Goals as goal

pub returns-in_err-number_kept-clause-compared : goal.returns-in_err-number_kept-clause-compared
returns-in_err-number_kept-clause-compared g c = λ was now k honest before after first second.
    let p = err_from_is_err_and c.from_residual.result c.from_residual.ensures.1 in
    rw (p.1, p.2) (c.in_err-number_kept.ensures.kept was now k honest first second)

pub returns-then-not-branch-clause-compared : goal.returns-then-not-branch-clause-compared
returns-then-not-branch-clause-compared g c = λ was now k honest before after first second.
    number_differs c.args.number was now k 8796093022208 refl
    ((c.in_ok-number_kept.ensures.kept was now k honest first second).1 (λ is. absurd (cc)))

pub compare_indices-requires-clause-later : goal.compare_indices-requires-clause-later
compare_indices-requires-clause-later g c = rw c.indices_of.ensures (c.requires.later.levels, size_most c.args.later.now.block_size c.requires.later.head.size)

pub returns-clause-compared : goal.returns-clause-compared
returns-clause-compared g c = λ was now k honest before after first second.
    let looks = c.in_ok-number_kept.ensures.looks in
    let honest_before = c.compare_indices.ensures.looks.reads.honest honest in
    let one = look_on (λ (seen : List ℕ) (space : FreeSectors). IsThere (Has seen space) now k c.args.later.now) looks first in
    let two = look_on (λ (seen : List ℕ) (space : FreeSectors). SlotIs (Has seen space) was k c.args.earlier.now) looks second in
    let has = blocks_of c.number_kept.new.io in
    let later = subst (λ (i : Indices). HasContents has i (content_at (now.state k)) (now.index_date k)) (sym c.indices_of.ensures) (contents_there has now k c.args.later.now after one) in
    let earlier = subst (λ (i : Indices). HasContents has i (content_at (was.state k)) (was.index_date k)) (sym c.slot_indices.ensures) (contents_in has was k c.args.earlier.now before two) in
    let kept = (c.in_ok-number_kept.ensures.kept was now k honest_before first second).0 c.if-not-branch.false in
    delivers_if (ComparesAll c.args.number (content_at (was.state k)) (was.index_date k) (content_at (now.state k)) (now.index_date k)) (Compares c.args.number was now k) c.compare_indices.result
    (λ found is. compares_on c.args.number was now k found kept is)
    (c.compare_indices.ensures.compared (content_at (now.state k)) (content_at (was.state k)) (now.index_date k) (was.index_date k) honest later earlier)

pub returns-clause-damaged : goal.returns-clause-damaged
returns-clause-damaged g c = λ honest.
    let images = IsSeen (disk_of c.args.io.now).seen in
    let size = (disk_of c.args.io.now).size in
    let one = IsDamagedIndex images size (indices_at (There c.args.later.now)) in
    let other = IsDamagedIndex images size (indices_at c.args.earlier.now) in
    let more = IsDamagedInSlot images size (There c.args.later.now) in
    let further = IsDamagedInSlot images size c.args.earlier.now in
    damaged_up (OfEither one other) (OfEither more further) c.compare_indices.result
    (either_up one other more further (index_up images size (There c.args.later.now)) (index_up images size c.args.earlier.now))
    (seen_before c.in_ok-number_kept.ensures.looks
    (λ (seen : List ℕ) (count : ℕ). IfDamaged c.compare_indices.result (OfEither (IsDamagedIndex (IsSeen seen) count (indices_at (There c.args.later.now))) (IsDamagedIndex (IsSeen seen) count (indices_at c.args.earlier.now))))
    (rw (c.indices_of.ensures, c.slot_indices.ensures) at (c.compare_indices.ensures.damaged honest)))
