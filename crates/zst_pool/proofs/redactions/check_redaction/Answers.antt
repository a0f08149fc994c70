use Rattle.std.proofs.Common.{◌≡◌, ◌≢◌, ◌∙◌, true, ℕ, List, Result, sym, ap, subst}
use Rattle.std.specs.List.{All}
use Rattle.zst_model.specs.declared.refusals.plan_fault.PlanFault.{PlanFault}
use Rattle.zst_model.specs.declared.refusals.refusal.Refusal.{Refusal}
use Rattle.zst_model.specs.pools.Step.{Stepped}
use Rattle.zst_model.proofs.Results.{err_is}
use Rattle.zst_dir.specs.declared.rows.Bookmark.{Bookmark}
use Rattle.zst_pool.specs.Checks.{Judges}
use Rattle.zst_pool.specs.Lineage.{if_few_bookmarks, if_free_bookmark}
use Rattle.zst_pool.specs.Plans.{is_by_rows}
use Rattle.zst_pool.specs.Redactions.{if_descend, if_redacts, if_whole}
use Rattle.zst_pool.proofs.CheckLemmas.{err_has, ok_holds}
use Rattle.zst_pool.proofs.redactions.check_redaction.Goals as goal

-- a check that answered what it hands on
judged_on : (definition rest : Result Stepped Refusal) {T : Type 0} (result : Result T PlanFault) (next : Result Stepped Refusal) → definition ≡ next → Judges next rest result → Judges definition rest result
judged_on definition rest result next same is = subst (λ (d : Result Stepped Refusal). Judges d rest result) (sym same) is

pub returns-in_err-check_dataset-clause-rows : goal.returns-in_err-check_dataset-clause-rows
returns-in_err-check_dataset-clause-rows c = err_has (λ (f : PlanFault). is_by_rows f ≡ true) c.from_residual.result c.in_err-check_dataset.field-0.0 c.from_residual.ensures.1 c.in_err-check_dataset.ensures.rows

pub returns-in_err-check_dataset-clause-judged : goal.returns-in_err-check_dataset-clause-judged
returns-in_err-check_dataset-clause-judged c = λ pool taken found rest are named each.
    let name = c.args.name.now in
    let fell = c.from_residual in
    let fault = c.in_err-check_dataset.field-0.0 in
    let next = if_free_bookmark name pool (if_whole taken.redact (if_descend pool taken found (if_few_bookmarks pool rest))) in
    subst (λ (r : Result (Unit {0}) PlanFault). Judges (if_redacts c.args.row.now.name name taken found pool rest) rest r) (sym (err_is fell.result fault fell.ensures.1)) (c.in_err-check_dataset.ensures.judged next)

pub returns-in_err-check_free_bookmark-clause-rows : goal.returns-in_err-check_free_bookmark-clause-rows
returns-in_err-check_free_bookmark-clause-rows c =
    let fell = c.from_residual-in_err-check_free_bookmark in
    err_has (λ (f : PlanFault). is_by_rows f ≡ true) fell.result c.in_err-check_free_bookmark.field-0.0 fell.ensures.1 c.in_err-check_free_bookmark.ensures.checks.rows

pub returns-in_err-check_free_bookmark-clause-judged : goal.returns-in_err-check_free_bookmark-clause-judged
returns-in_err-check_free_bookmark-clause-judged c = λ pool taken found rest are named each.
    let name = c.args.name.now in
    let fell = c.from_residual-in_err-check_free_bookmark in
    let fault = c.in_err-check_free_bookmark.field-0.0 in
    let behind = if_whole taken.redact (if_descend pool taken found (if_few_bookmarks pool rest)) in
    subst (λ (r : Result (Unit {0}) PlanFault). Judges (if_redacts c.args.row.now.name name taken found pool rest) rest r) (sym (err_is fell.result fault fell.ensures.1))
    (c.in_ok-check_dataset.ensures.judged (if_free_bookmark name pool behind) ∙ c.in_err-check_free_bookmark.ensures.checks.judged pool are behind)

-- whether the snapshot of a row was redacted its row tells
whole_same : (guids others : List ℕ) (rest : Result Stepped Refusal) → guids ≡ others → if_whole guids rest ≡ if_whole others rest
whole_same guids others rest same = ap (λ g. if_whole g rest) same

pub returns-in_err-check_whole-clause-rows : goal.returns-in_err-check_whole-clause-rows
returns-in_err-check_whole-clause-rows c =
    let fell = c.from_residual-in_err-check_whole in
    err_has (λ (f : PlanFault). is_by_rows f ≡ true) fell.result c.in_err-check_whole.field-0.0 fell.ensures.1 c.in_err-check_whole.ensures.rows

pub returns-in_err-check_whole-clause-judged : goal.returns-in_err-check_whole-clause-judged
returns-in_err-check_whole-clause-judged c = λ pool taken found rest are named each.
    let name = c.args.name.now in
    let fell = c.from_residual-in_err-check_whole in
    let fault = c.in_err-check_whole.field-0.0 in
    let last = if_descend pool taken found (if_few_bookmarks pool rest) in
    let behind = if_whole taken.redact last in
    subst (λ (r : Result (Unit {0}) PlanFault). Judges (if_redacts c.args.row.now.name name taken found pool rest) rest r) (sym (err_is fell.result fault fell.ensures.1))
    (c.in_ok-check_dataset.ensures.judged (if_free_bookmark name pool behind) ∙ c.in_ok-check_free_bookmark.ensures.checks.judged pool are behind
    ∙ whole_same taken.redact c.args.row.now.redact last named.redact ∙ c.in_err-check_whole.ensures.judged last)

pub returns-in_err-check_descend-clause-rows : goal.returns-in_err-check_descend-clause-rows
returns-in_err-check_descend-clause-rows c =
    let fell = c.from_residual-in_err-check_descend in
    err_has (λ (f : PlanFault). is_by_rows f ≡ true) fell.result c.in_err-check_descend.field-0.0 fell.ensures.1 c.in_err-check_descend.ensures.rows

pub returns-in_err-check_descend-clause-judged : goal.returns-in_err-check_descend-clause-judged
returns-in_err-check_descend-clause-judged c = λ pool taken found rest are named each.
    let name = c.args.name.now in
    let fell = c.from_residual-in_err-check_descend in
    let fault = c.in_err-check_descend.field-0.0 in
    let few = if_few_bookmarks pool rest in
    let last = if_descend pool taken found few in
    let behind = if_whole taken.redact last in
    subst (λ (r : Result (Unit {0}) PlanFault). Judges (if_redacts c.args.row.now.name name taken found pool rest) rest r) (sym (err_is fell.result fault fell.ensures.1))
    (c.in_ok-check_dataset.ensures.judged (if_free_bookmark name pool behind) ∙ c.in_ok-check_free_bookmark.ensures.checks.judged pool are behind
    ∙ whole_same taken.redact c.args.row.now.redact last named.redact ∙ c.in_ok-check_whole.ensures.judged last
    ∙ c.in_err-check_descend.ensures.judged pool taken found few are named each)

pub returns-clause-absent : goal.returns-clause-absent
returns-clause-absent c = ok_holds c.check_few_bookmarks.result (All (λ (other : Bookmark). other.name ≢ c.args.name.now) c.args.dir.now.bookmarks) c.in_ok-check_free_bookmark.ensures.absent

pub returns-clause-rows : goal.returns-clause-rows
returns-clause-rows c = c.check_few_bookmarks.ensures.checks.rows

pub returns-clause-judged : goal.returns-clause-judged
returns-clause-judged c = λ pool taken found rest are named each.
    let name = c.args.name.now in
    let few = if_few_bookmarks pool rest in
    let last = if_descend pool taken found few in
    let behind = if_whole taken.redact last in
    judged_on (if_redacts c.args.row.now.name name taken found pool rest) rest c.check_few_bookmarks.result few
    (c.in_ok-check_dataset.ensures.judged (if_free_bookmark name pool behind) ∙ c.in_ok-check_free_bookmark.ensures.checks.judged pool are behind
    ∙ whole_same taken.redact c.args.row.now.redact last named.redact ∙ c.in_ok-check_whole.ensures.judged last
    ∙ c.in_ok-check_descend.ensures.judged pool taken found few are named each)
    (c.check_few_bookmarks.ensures.checks.judged pool are rest)
