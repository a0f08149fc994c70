use Rattle.std.proofs.Common.{◌≡◌, ◌∙◌, true, Bool, Some, Err, refl, arith, sym}
use Rattle.std.specs.List.{find}
use Rattle.zst_model.specs.declared.refusals.subjects.Holder.TheVariants as holders
use Rattle.zst_model.specs.declared.refusals.plan_fault.PlanFault.TheVariants as plans
use Rattle.zst_plan.specs.RecvPlan.{Base, base_by_head}
use Rattle.zst_plan.proofs.ReceiveChecks.{bookmark_is_lost, head_rolls, is_dated, is_later, is_later_row, later_alike, none_is_lost}
use Rattle.zst_plan.proofs.receive.base.goes_back.Goals as goal
use Rattle.zst_plan.proofs.AlikeAnswers.{answers, hands_on}

pub returns-in-Some : goal.returns-in-Some
returns-in-Some c = λ pool target snapshot are names tells is.
    let rows = c.args.dir.now in
    let name = c.args.dataset.now.name in
    let number = c.args.latest.now.number in
    let dated = is_dated c.args.dataset.now target number snapshot.number tells is.number (omega (arith, c.if-latest_date-latest.false, c.latest_date.ensures)) in
    let alike = later_alike rows pool are name target.name number snapshot.number names.name is.number in
    hands_on (λ (rolls : Bool) (base : Base). base ≡ record { snapshot = Some snapshot; rolls = rolls }) (Err (plans.Busy (holders.Bookmark c.in-Some.name))) (base_by_head c.args.force target snapshot pool)
    (Err (plans.Busy (holders.Bookmark c.in-Some.name)))
    (head_rolls target snapshot pool c.args.force dated c.if-not-force.false
    ∙ bookmark_is_lost snapshot (find (is_later_row name number) rows.bookmarks) (find (is_later target.name snapshot.number) pool.bookmarks) c.in-Some.name alike (sym c.later_bookmark.ensures ∙ c.in-Some.is))
    refl

pub returns-in-None : goal.returns-in-None
returns-in-None c = λ pool target snapshot are names tells is.
    let rows = c.args.dir.now in
    let name = c.args.dataset.now.name in
    let number = c.args.latest.now.number in
    let dated = is_dated c.args.dataset.now target number snapshot.number tells is.number (omega (arith, c.if-latest_date-latest.false, c.latest_date.ensures)) in
    let alike = later_alike rows pool are name target.name number snapshot.number names.name is.number in
    answers (λ (rolls : Bool) (base : Base). base ≡ record { snapshot = Some snapshot; rolls = rolls }) true (record { snapshot = Some snapshot; rolls = true }) (base_by_head c.args.force target snapshot pool)
    (head_rolls target snapshot pool c.args.force dated c.if-not-force.false
    ∙ none_is_lost snapshot (find (is_later_row name number) rows.bookmarks) (find (is_later target.name snapshot.number) pool.bookmarks) alike (sym c.later_bookmark.ensures ∙ c.in-None.is))
    refl
