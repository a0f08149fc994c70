use Rattle.std.proofs.Common.{◌≡◌, ℕ, true, List, [], sym, ◌∙◌, ap, subst}
use Rattle.std.specs.Prelude.{IfSome, Option, None, Some}
use Rattle.std.proofs.lemmas.Result.{err_from_is_err_and}
use Rattle.zst_space.specs.FreeSectors.{FreeSectors}
use Rattle.zst_block.specs.Blocks.{Has}
use Rattle.zst_block.specs.IoStates.{blocks_of, disk_of}
use Rattle.zst_model.specs.fields.Lists.{Runs, has_pair}
use Rattle.zst_model.specs.states.DatedState.{DatedState}
use Rattle.zst_model.specs.states.State.{index_bound}
use Rattle.zst_tree.specs.Damage.{IsSeen}
use Rattle.zst_tree.specs.Indices.{Blocks}
use Rattle.zst_tree.specs.declared.tree.ObjSet.{ObjSet}
use Rattle.zst_tree.proofs.Damage.{seen_before}
use Rattle.zst_objset.specs.Damage.{IfDamage, StandsIn}
use Rattle.zst_objset.specs.Dnodes.{outside}
use Rattle.zst_objset.specs.Sets.{SetHolds, SetHoldsBut}
use Rattle.zst_objset.proofs.LeafLaws.{look_on}
use Rattle.zst_traverse.specs.Cells.{choice_with, IsNextCellIn}
use Rattle.zst_traverse.specs.Damage.{IsDamagedCell}
use Rattle.zst_traverse.specs.StandingEntries.{FoundStands}
use Rattle.zst_traverse.specs.declared.walk_entry.WalkEntry.{WalkEntry}
use Rattle.zst_traverse.specs.declared.walk_entry.WalkEntry.TheVariants.{Gone, Object}
use Rattle.zst_check.proofs.LateDates.{none_late, gone_late}
use Rattle.zst_check.proofs.dates.late_in.Goals as goal

-- what a walk with a list finds is what one finds that has no pairs, where the list is empty
without_pairs : (has : Blocks) (state : DatedState) (number : ℕ) (none : Runs) (found next : Option WalkEntry) → none ≡ [] → found ≡ next
    → IsNextCellIn has (outside (has_pair none) has) state (choice_with (Some number) none none) (record { object = 0; offset = 0 }) true found
    → IsNextCellIn has (outside (has_pair []) has) state (choice_with (Some number) [] []) (record { object = 0; offset = 0 }) true next
without_pairs has state number none found next empty same is =
    subst (λ (l : Runs). IsNextCellIn has (outside (has_pair l) has) state (choice_with (Some number) l l) (record { object = 0; offset = 0 }) true next) empty
    (subst (λ (n : Option WalkEntry). IsNextCellIn has (outside (has_pair none) has) state (choice_with (Some number) none none) (record { object = 0; offset = 0 }) true n) same is)

-- and a set that holds a state holds it but for the pairs of such a list
holds_but : (has : Blocks) (set : ObjSet) (state : DatedState) (none : Runs) → none ≡ [] → SetHolds has set state → SetHoldsBut has (has_pair none) set state
holds_but has set state none empty holds = subst (λ (l : Runs). SetHoldsBut has (has_pair l) set state) (sym empty) holds

pub returns-in_err-next_cell-clause-late : goal.returns-in_err-next_cell-clause-late
returns-in_err-next_cell-clause-late g c = λ state honest holds.
    let p = err_from_is_err_and c.from_residual.result c.from_residual.ensures.1 in
    rw (p.1, p.2) (c.in_err-next_cell.ensures.found state honest (holds_but (blocks_of c.args.io.now) c.args.set.now state c.args.none.now c.requires.none holds))

pub returns-in-None-clause-late : goal.returns-in-None-clause-late
returns-in-None-clause-late g c = λ state honest holds.
    let has = blocks_of c.next_cell.new.io in
    let on = look_on (λ (seen : List ℕ) (space : FreeSectors). SetHolds (Has seen space) c.args.set.now state) c.in_ok-next_cell.ensures.looks.looks holds in
    let found = c.in_ok-next_cell.ensures.found state honest (holds_but (blocks_of c.args.io.now) c.args.set.now state c.args.none.now c.requires.none holds) in
    none_late c.args.number state has c.args.set.now on (without_pairs has state c.args.number c.args.none.now c.in_ok-next_cell.field-0 None c.requires.none c.in-None.is found).1

pub returns-in-Some-Gone-clause-late : goal.returns-in-Some-Gone-clause-late
unfolding index_bound
returns-in-Some-Gone-clause-late g c = λ state honest holds.
    let has = blocks_of c.next_cell.new.io in
    let first = c.in-Some-Gone.first in
    let count = c.in-Some-Gone.field-0-1 in
    let on = look_on (λ (seen : List ℕ) (space : FreeSectors). SetHolds (Has seen space) c.args.set.now state) c.in_ok-next_cell.ensures.looks.looks holds in
    let found = c.in_ok-next_cell.ensures.found state honest (holds_but (blocks_of c.args.io.now) c.args.set.now state c.args.none.now c.requires.none holds) in
    gone_late c.args.number state has c.args.set.now on first count
    (without_pairs has state c.args.number c.args.none.now c.in_ok-next_cell.field-0 (Some (Gone first count)) c.requires.none (c.in-Some-Gone.is ∙ ap Some c.in-Some-Gone.field-0-is) found).1

pub returns-in_err-block-in-Some-Object-clause-late : goal.returns-in_err-block-in-Some-Object-clause-late
returns-in_err-block-in-Some-Object-clause-late g c = λ state honest holds.
    let p = err_from_is_err_and c.from_residual-in_err-block-in-Some-Object.result c.from_residual-in_err-block-in-Some-Object.ensures.1 in
    let was = c.in_err-block-in-Some-Object.ensures.looks.reads.honest honest in
    let has = blocks_of c.next_cell.new.io in
    let object = c.in-Some-Object.object in
    let found = c.in_ok-next_cell.ensures.found state was (holds_but (blocks_of c.args.io.now) c.args.set.now state c.args.none.now c.requires.none holds) in
    let next = (without_pairs has state c.args.number c.args.none.now c.in_ok-next_cell.field-0 (Some (Object object c.in-Some-Object.dnode)) c.requires.none (c.in-Some-Object.is ∙ ap Some c.in-Some-Object.field-0-is) found).1 in
    rw (p.1, p.2) (c.in_err-block-in-Some-Object.ensures.late state object honest next.is next.included)

pub returns-clause-late : goal.returns-clause-late
returns-clause-late g c = λ state honest holds.
    let was = c.in_ok-block-in-Some-Object.ensures.looks.reads.honest honest in
    let has = blocks_of c.next_cell.new.io in
    let object = c.in-Some-Object.object in
    let found = c.in_ok-next_cell.ensures.found state was (holds_but (blocks_of c.args.io.now) c.args.set.now state c.args.none.now c.requires.none holds) in
    let next = (without_pairs has state c.args.number c.args.none.now c.in_ok-next_cell.field-0 (Some (Object object c.in-Some-Object.dnode)) c.requires.none (c.in-Some-Object.is ∙ ap Some c.in-Some-Object.field-0-is) found).1 in
    c.in_ok-block-in-Some-Object.ensures.late state object honest next.is next.included

pub returns-in_err-next_cell-clause-damaged : goal.returns-in_err-next_cell-clause-damaged
returns-in_err-next_cell-clause-damaged g c = λ honest.
    let p = err_from_is_err_and c.from_residual.result c.from_residual.ensures.1 in
    rw (p.1, p.2) (c.in_err-next_cell.ensures.of_walk honest).damaged

pub returns-in_err-block-in-Some-Object-clause-damaged : goal.returns-in_err-block-in-Some-Object-clause-damaged
returns-in_err-block-in-Some-Object-clause-damaged g c = λ honest.
    let p = err_from_is_err_and c.from_residual-in_err-block-in-Some-Object.result c.from_residual-in_err-block-in-Some-Object.ensures.1 in
    let was = c.in_err-block-in-Some-Object.ensures.looks.reads.honest honest in
    let looks = c.in_ok-next_cell.ensures.looks.looks in
    let fault = c.in_err-block-in-Some-Object.field-0.0 in
    let set = c.args.set.now in
    let dnode = c.in-Some-Object.dnode in
    let stands = look_on (λ (seen : List ℕ) (space : FreeSectors). StandsIn (IsSeen seen) set dnode) looks
    (subst (λ (found : Option WalkEntry). IfSome found (FoundStands (IsSeen (disk_of c.args.io.now).seen) set)) (c.in-Some-Object.is ∙ ap Some c.in-Some-Object.field-0-is) (c.in_ok-next_cell.ensures.of_walk was).stands) in
    rw (p.1, p.2)
    (seen_before looks (λ (seen : List ℕ) (size : ℕ). IfDamage fault (IsDamagedCell (IsSeen seen) size set)) (c.in_err-block-in-Some-Object.ensures.damaged set honest stands))
