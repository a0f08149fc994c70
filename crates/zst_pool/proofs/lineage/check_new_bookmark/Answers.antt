use Rattle.std.proofs.Common.{◌≡◌, ◌≢◌, true, Result, sym, subst}
use Rattle.std.specs.List.{All}
use Rattle.zst_model.specs.declared.refusals.plan_fault.PlanFault.{PlanFault}
use Rattle.zst_model.specs.declared.refusals.refusal.Refusal.{Refusal}
use Rattle.zst_model.specs.pools.Step.{Stepped}
use Rattle.zst_model.proofs.Results.{err_is}
use Rattle.zst_dir.specs.declared.rows.Bookmark.{Bookmark}
use Rattle.zst_pool.specs.Checks.{Judges}
use Rattle.zst_pool.specs.Lineage.{if_few_bookmarks, if_new_bookmark}
use Rattle.zst_pool.specs.Plans.{is_by_rows}
use Rattle.zst_pool.proofs.CheckLemmas.{err_has, ok_holds}
use Rattle.zst_pool.proofs.lineage.check_new_bookmark.Goals as goal

pub returns-in_err-check_free_bookmark-clause-checks : goal.returns-in_err-check_free_bookmark-clause-checks
returns-in_err-check_free_bookmark-clause-checks c =
    let fell = c.from_residual in
    let fault = c.in_err-check_free_bookmark.field-0.0 in
    let name = c.args.name.now in
    record {
      rows = err_has (λ (f : PlanFault). is_by_rows f ≡ true) fell.result fault fell.ensures.1 c.in_err-check_free_bookmark.ensures.checks.rows;
      judged = λ pool are rest.
          subst (λ (r : Result (Unit {0}) PlanFault). Judges (if_new_bookmark name pool rest) rest r) (sym (err_is fell.result fault fell.ensures.1))
          (c.in_err-check_free_bookmark.ensures.checks.judged pool are (if_few_bookmarks pool rest));
    }

pub returns-clause-absent : goal.returns-clause-absent
returns-clause-absent c = ok_holds c.check_few_bookmarks.result (All (λ (other : Bookmark). other.name ≢ c.args.name.now) c.args.dir.now.bookmarks) c.in_ok-check_free_bookmark.ensures.absent

pub returns-clause-checks : goal.returns-clause-checks
returns-clause-checks c =
    let few = c.check_few_bookmarks in
    record {
      rows = few.ensures.checks.rows;
      judged = λ pool are rest.
          subst (λ (d : Result Stepped Refusal). Judges d rest few.result) (sym (c.in_ok-check_free_bookmark.ensures.checks.judged pool are (if_few_bookmarks pool rest))) (few.ensures.checks.judged pool are rest);
    }
