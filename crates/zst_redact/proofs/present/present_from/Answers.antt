use Rattle.std.proofs.Common.{ℕ, ◌≤◌, true, sym, subst}
use Rattle.std.specs.Prelude.{IfSome, None, Option, Some}
use Rattle.std.proofs.lemmas.Result.{err_from_is_err_and}
use Rattle.zst_block.specs.IoStates.{blocks_of}
use Rattle.zst_model.specs.fields.Lists.{Runs, has_pair}
use Rattle.zst_model.specs.pools.RedSet.{redacted_pairs}
use Rattle.zst_objset.specs.Dnodes.{outside}
use Rattle.zst_objset.specs.Sets.{SetHoldsBut}
use Rattle.zst_traverse.specs.Cells.{choice_with, FoundFits, IsNextCellIn}
use Rattle.zst_traverse.specs.declared.walk_entry.WalkEntry.{WalkEntry}
use Rattle.zst_redact.specs.Passes.{PassesNumbers}
use Rattle.zst_redact.proofs.PresentNumbers.{walk_ends, walk_passes, walk_reaches}
use Rattle.zst_redact.proofs.present.present_from.Goals as goal

pub returns-in_err-next_cell-clause-passes : goal.returns-in_err-next_cell-clause-passes
returns-in_err-next_cell-clause-passes g c = λ state honest holds.
    let p = err_from_is_err_and c.from_residual.result c.from_residual.ensures.1 in
    rw (p.1, p.2) (c.in_err-next_cell.ensures.found state honest (subst (λ (l : Runs). SetHoldsBut (blocks_of c.args.io.now) (has_pair l) c.args.set.now state) (sym c.requires.none) holds))

pub returns-in_err-next_cell-clause-range : goal.returns-in_err-next_cell-clause-range
returns-in_err-next_cell-clause-range g c =
    let p = err_from_is_err_and c.from_residual.result c.from_residual.ensures.1 in
    rw p.1 tt

pub returns-in_err-next_cell-clause-damaged : goal.returns-in_err-next_cell-clause-damaged
returns-in_err-next_cell-clause-damaged g c = λ honest.
    let p = err_from_is_err_and c.from_residual.result c.from_residual.ensures.1 in
    rw (p.1, p.2) (c.in_err-next_cell.ensures.of_walk honest).damaged

pub returns-in_err-next_cell-clause-looks : goal.returns-in_err-next_cell-clause-looks
returns-in_err-next_cell-clause-looks g c =
    let p = err_from_is_err_and c.from_residual.result c.from_residual.ensures.1 in
    rw (p.1, p.2) c.in_err-next_cell.ensures.looks.looks

pub returns-in-None-clause-passes : goal.returns-in-None-clause-passes
returns-in-None-clause-passes g c = λ state honest holds.
    let has = blocks_of c.next_cell.new.io in
    let none = c.args.none.now in
    let found = c.in_ok-next_cell.ensures.found state honest (subst (λ (l : Runs). SetHoldsBut (blocks_of c.args.io.now) (has_pair l) c.args.set.now state) (sym c.requires.none) holds) in
    walk_ends has state holds.lawful c.args.from 0
    (subst (λ (l : Runs). IsNextCellIn has (outside (has_pair l) has) state (choice_with None l l) (record { object = c.args.from; offset = 0 }) true None) c.requires.none
    (subst (λ (next : Option WalkEntry). IsNextCellIn has (outside (has_pair none) has) state (choice_with None none none) (record { object = c.args.from; offset = 0 }) true next) c.in-None.is found))

pub returns-in-None-clause-range : goal.returns-in-None-clause-range
returns-in-None-clause-range g c = tt

pub returns-in-None-clause-damaged : goal.returns-in-None-clause-damaged
returns-in-None-clause-damaged g c = λ honest. tt

pub returns-in-None-clause-looks : goal.returns-in-None-clause-looks
returns-in-None-clause-looks g c = c.in_ok-next_cell.ensures.looks.looks

pub reached-requires : goal.reached-requires
reached-requires g c =
    let fits = subst (λ (next : Option WalkEntry). IfSome next (FoundFits (record { object = c.args.from; offset = 0 }))) c.in-Some.is c.in_ok-next_cell.ensures.ranges in
    record { below = (walk_reaches c.args.from 0 c.in-Some.found fits).1 }

pub returns-in-Some-clause-passes : goal.returns-in-Some-clause-passes
returns-in-Some-clause-passes g c = λ state honest holds.
    let has = blocks_of c.next_cell.new.io in
    let none = c.args.none.now in
    let entry = c.in-Some.found in
    let found = c.in_ok-next_cell.ensures.found state honest (subst (λ (l : Runs). SetHoldsBut (blocks_of c.args.io.now) (has_pair l) c.args.set.now state) (sym c.requires.none) holds) in
    subst (λ (to : ℕ). PassesNumbers (redacted_pairs state.state) c.args.from (Some to)) (sym c.reached.ensures)
    (walk_passes has state holds.lawful c.args.from 0 entry
    (subst (λ (l : Runs). IsNextCellIn has (outside (has_pair l) has) state (choice_with None l l) (record { object = c.args.from; offset = 0 }) true (Some entry)) c.requires.none
    (subst (λ (next : Option WalkEntry). IsNextCellIn has (outside (has_pair none) has) state (choice_with None none none) (record { object = c.args.from; offset = 0 }) true next) c.in-Some.is found)))

pub returns-in-Some-clause-range : goal.returns-in-Some-clause-range
returns-in-Some-clause-range g c =
    let fits = subst (λ (next : Option WalkEntry). IfSome next (FoundFits (record { object = c.args.from; offset = 0 }))) c.in-Some.is c.in_ok-next_cell.ensures.ranges in
    subst (λ (to : ℕ). c.args.from ≤ to) (sym c.reached.ensures) (walk_reaches c.args.from 0 c.in-Some.found fits).0

pub returns-in-Some-clause-damaged : goal.returns-in-Some-clause-damaged
returns-in-Some-clause-damaged g c = λ honest. tt

pub returns-in-Some-clause-looks : goal.returns-in-Some-clause-looks
returns-in-Some-clause-looks g c = c.in_ok-next_cell.ensures.looks.looks
