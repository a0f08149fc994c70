use Rattle.std.specs.Prelude.{Option, Result}
use Rattle.std.proofs.Common.{◌≡◌, ◌∙◌, length, sym, ap, subst}
use Rattle.zst_block.specs.IoCalls.{Works}
use Rattle.zst_block.specs.IoStates.{io_of}
use Rattle.zst_block.specs.declared.fault.BlockFault.{BlockFault}
use Rattle.zst_block.proofs.IoCallLemmas.{Looks-none, Works-looks}
use Rattle.zst_list.specs.StoredLists.{list_sectors}
use Rattle.zst_tree.specs.declared.tree.Tree.{Tree}
use Rattle.zst_model.specs.declared.refusals.plan_fault.PlanFault.{PlanFault}
use Rattle.zst_model.proofs.Results.{err_is}
use Rattle.zst_pool.specs.Checks.{JudgesCommit}
use Rattle.zst_pool.specs.Faults.{of_block, or_memory}
use Rattle.zst_pool.specs.Plans.{IsLast}
use Rattle.zst_pool.specs.Queries.{stop_of}
use Rattle.zst_pool.specs.declared.fault.PoolFault.{PoolFault}
use Rattle.zst_pool.specs.declared.fault.PoolFault.TheVariants.{Plan}
use Rattle.zst_pool.proofs.WrittenRuns.{refused_open, refused_plan, refused_so, refused_sound, refused_stop}
use Rattle.zst_pool.proofs.redacts.write_runs.Goals as goal

-- where no number is left
pub returns-in_err-check_number-clause-works : goal.returns-in_err-check_number-clause-works
returns-in_err-check_number-clause-works g c =
    let io = io_of c.args.io.now in
    subst (λ (r : Result Tree PoolFault). Works (list_sectors (length c.args.list.now)) 16 io io (stop_of r)) (sym (err_is c.from_residual.result (Plan c.in_err-check_number.field-0.0) c.from_residual.ensures.1)) (Works-looks (Looks-none io))

pub returns-in_err-check_number-clause-judged : goal.returns-in_err-check_number-clause-judged
returns-in_err-check_number-clause-judged g c = λ pool number.
    subst (λ (r : Result Tree PoolFault). JudgesCommit pool r) (sym (err_is c.from_residual.result (Plan c.in_err-check_number.field-0.0) c.from_residual.ensures.1)) (c.in_err-check_number.ensures.judged pool number, tt)

pub returns-in_err-check_number-clause-limits : goal.returns-in_err-check_number-clause-limits
returns-in_err-check_number-clause-limits g c = λ fault is.
    let same = err_is c.from_residual.result (Plan c.in_err-check_number.field-0.0) c.from_residual.ensures.1 in
    let told : c.in_err-check_number.field-0.0 ≡ fault = cc (same, is) in
    subst (λ (f : PlanFault). IsLast c.args.kept.now.body.uber.number f) told c.in_err-check_number.ensures.last

pub returns-in_err-check_number-clause-open_still : goal.returns-in_err-check_number-clause-open_still
returns-in_err-check_number-clause-open_still g c = λ is. let same = err_is c.from_residual.result (Plan c.in_err-check_number.field-0.0) c.from_residual.ensures.1 in cc (same, is)

pub returns-in_err-check_number-clause-sound : goal.returns-in_err-check_number-clause-sound
returns-in_err-check_number-clause-sound g c = λ sector stated found is.
    let same = err_is c.from_residual.result (Plan c.in_err-check_number.field-0.0) c.from_residual.ensures.1 in cc (same, is)

-- where it isn't written
pub returns-in_err-write_list-clause-works : goal.returns-in_err-write_list-clause-works
returns-in_err-write_list-clause-works g c =
    let fell = c.from_residual-in_err-write_list in
    let fault = c.in_err-write_list.field-0.0 in
    let same = err_is fell.result (or_memory of_block fault) fell.ensures.1 in
    subst (λ (stop : Option BlockFault). Works (list_sectors (length c.args.list.now)) 16 (io_of c.args.io.now) (io_of c.write_list.new.io) stop)
    (sym (ap (λ (r : Result Tree PoolFault). stop_of r) same ∙ refused_stop fault)) c.in_err-write_list.ensures.works

pub returns-in_err-write_list-clause-judged : goal.returns-in_err-write_list-clause-judged
returns-in_err-write_list-clause-judged g c = λ pool number.
    let fell = c.from_residual-in_err-write_list in
    let fault = c.in_err-write_list.field-0.0 in
    subst (λ (r : Result Tree PoolFault). JudgesCommit pool r) (sym (err_is fell.result (or_memory of_block fault) fell.ensures.1))
    (refused_so pool fault (c.in_ok-check_number.ensures.judged pool number) c.in_err-write_list.ensures.never_damaged)

pub returns-in_err-write_list-clause-limits : goal.returns-in_err-write_list-clause-limits
returns-in_err-write_list-clause-limits g c = λ fault is.
    let fell = c.from_residual-in_err-write_list in
    let same = err_is fell.result (or_memory of_block c.in_err-write_list.field-0.0) fell.ensures.1 in
    let told : or_memory of_block c.in_err-write_list.field-0.0 ≡ Plan fault = cc (same, is) in
    absurd (refused_plan c.in_err-write_list.field-0.0 fault told)

pub returns-in_err-write_list-clause-open_still : goal.returns-in_err-write_list-clause-open_still
returns-in_err-write_list-clause-open_still g c = λ is.
    let fell = c.from_residual-in_err-write_list in
    let same = err_is fell.result (or_memory of_block c.in_err-write_list.field-0.0) fell.ensures.1 in
    refused_open c.in_err-write_list.field-0.0 (cc (same, is))

pub returns-in_err-write_list-clause-sound : goal.returns-in_err-write_list-clause-sound
returns-in_err-write_list-clause-sound g c = λ sector stated found is.
    let fell = c.from_residual-in_err-write_list in
    let same = err_is fell.result (or_memory of_block c.in_err-write_list.field-0.0) fell.ensures.1 in
    refused_sound c.in_err-write_list.field-0.0 c.in_err-write_list.ensures.never_damaged sector stated found (cc (same, is))

pub returns-clause-judged : goal.returns-clause-judged
returns-clause-judged g c = λ pool number. c.in_ok-check_number.ensures.judged pool number
