use Rattle.std.proofs.Common.{Option, Some, ◌<◌, sym, subst}
use Rattle.zst_block.specs.IoStates.{blocks_of, disk_of}
use Rattle.zst_send.specs.Costs.{cells_due}
use Rattle.zst_send.proofs.LookCosts.{found_counts}
use Rattle.std.proofs.lemmas.Result.{err_from_is_err_and}
use Rattle.zst_model.specs.fields.Lists.{has_pair}
use Rattle.zst_model.specs.sends.View.{view_of}
use Rattle.zst_objset.specs.Dnodes.{outside}
use Rattle.zst_traverse.specs.Cells.{IsNextCellIn}
use Rattle.zst_send.specs.Subjects.{choice_for}
use Rattle.zst_traverse.specs.declared.walk_entry.WalkEntry.{WalkEntry}
use Rattle.zst_send.specs.DueItems.{due_of}
use Rattle.zst_send.specs.WalkPositions.{GoesTo}
use Rattle.zst_send.specs.declared.due_items.DueItems.{DueItems}
use Rattle.zst_send.specs.declared.walk_position.WalkPosition.{WalkPosition}
use Rattle.zst_send.proofs.WalkSteps.{WalkLaws, found_goes, none_goes}
use Rattle.std.specs.Prelude.{IfSome}
use Rattle.zst_tree.specs.Damage.{IsSeen}
use Rattle.zst_traverse.specs.StandingEntries.{FoundStands}
use Rattle.zst_send.specs.KnownPointers.{DueStands, IsAmong}
use Rattle.zst_send.proofs.KnownPointers.{due_stands, found_more, seen_among}
use Rattle.zst_send.proofs.walk_position.WalkPosition.find.Goals as goal

pub returns-in_err-found-clause-found : goal.returns-in_err-found-clause-found
returns-in_err-found-clause-found g c = λ header snap honest holds of.
    let p = err_from_is_err_and c.from_residual.result c.from_residual.ensures.1 in
    rw (p.1, p.2) (c.in_err-found.ensures.finds.found snap honest holds)

pub returns-in_default-clause-found : goal.returns-in_default-clause-found
returns-in_default-clause-found g c = λ header snap honest holds of.
    let has = blocks_of c.next_found.new.io in
    let old = c.args.self.now in
    let laws : WalkLaws = record { ends = c.walk_ends.ensures; object = c.object_is_next.ensures; gone = c.gone_run_is_next.ensures; blocks = c.block_run_is_next.ensures } in
    let next = subst (λ (f : Option WalkEntry). IsNextCellIn has (outside (has_pair c.args.subject.now.redact) has) snap (choice_for c.args.subject.now) old.point old.slot f) c.in_default.is (c.in_ok-found.ensures.finds.found snap honest holds) in
    none_goes has (outside (has_pair c.args.subject.now.redact) has) header snap (choice_for c.args.subject.now) laws old c.at_end.result next c.at_end.ensures.point c.at_end.ensures.slot

pub due_of-due-requires-clause-found : goal.due_of-due-requires-clause-found
due_of-due-requires-clause-found g c = (c.args.self.now.point, rw c.in-Some.is at c.in_ok-found.ensures.finds.ranges)

pub position_after-position-requires-clause-found : goal.position_after-position-requires-clause-found
position_after-position-requires-clause-found g c = rw c.in-Some.is at c.in_ok-found.ensures.finds.ranges

pub returns-clause-found : goal.returns-clause-found
returns-clause-found g c = λ header snap honest holds of.
    let has = blocks_of c.next_found.new.io in
    let old = c.args.self.now in
    let laws : WalkLaws = record { ends = c.walk_ends.ensures; object = c.object_is_next.ensures; gone = c.gone_run_is_next.ensures; blocks = c.block_run_is_next.ensures } in
    let next = subst (λ (f : Option WalkEntry). IsNextCellIn has (outside (has_pair c.args.subject.now.redact) has) snap (choice_for c.args.subject.now) old.point old.slot f) c.in-Some.is (c.in_ok-found.ensures.finds.found snap honest holds) in
    let goes = found_goes has (outside (has_pair c.args.subject.now.redact) has) header snap (choice_for c.args.subject.now) laws holds.lawful old c.in-Some.found c.requires.position.some of next in
    let position = c.position_after-position.result in
    let there = subst (λ (p : WalkPosition). GoesTo has snap (view_of header snap (choice_for c.args.subject.now)) old p (Some (due_of c.in-Some.found p.type_ p.block_size))) (sym c.position_after-position.ensures.position) goes in
    subst (λ (d : DueItems). GoesTo has snap (view_of header snap (choice_for c.args.subject.now)) old position (Some d)) (sym c.due_of-due.ensures.due) there

pub returns-clause-stands : goal.returns-clause-stands
returns-clause-stands g c = λ images among honest.
    let seen = (disk_of c.args.io.now).seen in
    let set = c.args.subject.now.set in
    let found = c.in-Some.found in
    let position = c.position_after-position.result in
    let told = subst (λ (f : Option WalkEntry). IfSome f (FoundStands (IsSeen seen) set)) c.in-Some.is (c.in_ok-found.ensures.finds.of_walk honest).stands in
    let stands = found_more (IsSeen seen) (IsAmong images) (seen_among images seen among) set found told in
    subst (λ (d : DueItems). DueStands (IsAmong images) set d) (sym c.due_of-due.ensures.due) (due_stands (IsAmong images) set found position.type_ position.block_size stands)

pub returns-in_err-found-clause-counted : goal.returns-in_err-found-clause-counted
returns-in_err-found-clause-counted g c = λ snap honest holds of.
    let p = err_from_is_err_and c.from_residual.result c.from_residual.ensures.1 in
    rw p.1 tt

pub returns-clause-counted : goal.returns-clause-counted
returns-clause-counted g c = λ snap honest holds of.
    let has = blocks_of c.next_found.new.io in
    let old = c.args.self.now in
    let next = subst (λ (f : Option WalkEntry). IsNextCellIn has (outside (has_pair c.args.subject.now.redact) has) snap (choice_for c.args.subject.now) old.point old.slot f) c.in-Some.is (c.in_ok-found.ensures.finds.found snap honest holds) in
    let counts = found_counts has (outside (has_pair c.args.subject.now.redact) has) snap (choice_for c.args.subject.now) old c.in-Some.found c.requires.position.some of next in
    let there = subst (λ (p : WalkPosition). 0 < cells_due snap (due_of c.in-Some.found p.type_ p.block_size)) (sym c.position_after-position.ensures.position) counts in
    subst (λ (d : DueItems). 0 < cells_due snap d) (sym c.due_of-due.ensures.due) there

pub returns-in_err-found-clause-steps : goal.returns-in_err-found-clause-steps
returns-in_err-found-clause-steps g c =
    let p = err_from_is_err_and c.from_residual.result c.from_residual.ensures.1 in
    let finds = c.in_err-found.ensures.finds in
    rw (p.1, p.2) (record { ranges = tt; damaged = λ honest. (finds.of_walk honest).damaged; looks = finds.looks })

pub returns-in_default-clause-steps : goal.returns-in_default-clause-steps
returns-in_default-clause-steps g c = record { ranges = tt; damaged = λ honest. tt; looks = c.in_ok-found.ensures.finds.looks }

pub returns-clause-steps : goal.returns-clause-steps
returns-clause-steps g c = record { ranges = c.due_of-due.ensures.fits; damaged = λ honest. tt; looks = c.in_ok-found.ensures.finds.looks }
