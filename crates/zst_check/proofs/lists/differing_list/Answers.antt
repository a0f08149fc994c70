use Rattle.std.proofs.Common.{◌≡◌, ℕ, List, Option, None, length, Contains, get_or, sym, ap, ◌∙◌, subst, ⊎_elim, arith}
use Rattle.std.specs.Prelude.{Err}
use Rattle.std.proofs.lemmas.Bool.{cases_lt}
use Rattle.std.proofs.lemmas.Result.{err_from_is_err_and}
use Rattle.zst_space.specs.FreeSectors.{FreeSectors}
use Rattle.zst_block.specs.Blocks.{Has}
use Rattle.zst_block.specs.IoStates.{blocks_of}
use Rattle.zst_block.proofs.IoCallLemmas.{Looks-then}
use Rattle.zst_dir.specs.declared.rows.Bookmark.{Bookmark}
use Rattle.zst_dir.proofs.Matches.{length-Match}
use Rattle.zst_image.specs.Reads.{BookmarkIs, RunsBy}
use Rattle.zst_objset.proofs.LeafLaws.{look_on}
use Rattle.zst_laws.specs.RedactionLists.{AreListed}
use Rattle.zst_check.specs.FailingPlaces.{ListDiffers}
use Rattle.zst_check.specs.Findings.{Finds}
use Rattle.zst_check.specs.Redactions.{IsListed}
use Rattle.zst_check.specs.ReportNames.{FindsNamed}
use Rattle.zst_check.specs.declared.report.Report.{Report}
use Rattle.zst_check.proofs.CheckedLists.{all_listed, fails_too, row_stands, told_too}
use Rattle.zst_check.proofs.ListDamage.{checked_before}
use Rattle.zst_check.proofs.ReportNames.{listed_at}
use Rattle.zst_check.proofs.lists.differing_list.Goals as goal

pub loop-row-preserved : goal.loop-row-preserved
loop-row-preserved g c =
    let was = c.loop-row.invariant in
    let next = c.in_ok-report.ensures.looks in
    let place = c.loop-row.row-index in
    record {
      listed = λ pool honest runs lawful sound k d under. ⊎_elim
          (λ before. was.listed pool (next.reads.honest honest) runs lawful sound k d before)
          (λ over.
          let here : place ≡ k = omega (arith, under, over) in
          let on = look_on (λ (seen : List ℕ) (space : FreeSectors). RunsBy None (Has seen space) c.args.dir.now pool) was.looks runs in
          let stands =
          row_stands (blocks_of c.loop-row.io) c.args.dir.now.bookmarks pool.bookmarks on.bookmarks c.bookmarks-row-items.result.now c.bookmarks-row-items.ensures place c.row-item.result c.loop-row-test.true c.row-item.is in
          let listed = subst (λ (found : Option Report). Finds (IsListed pool stands.bookmark) (ListDiffers pool) found) c.in_default.is
          (c.in_ok-report.ensures.found pool stands.bookmark honest on lawful sound stands.there stands.is) in
          subst (λ (n : ℕ). IsListed pool (get_or pool.bookmarks n d)) here (subst (IsListed pool) (sym (stands.at d)) listed))
          (cases_lt k place);
      looks = Looks-then {stop = None} was.looks next;
    }

pub returns-in_err-report-clause-found : goal.returns-in_err-report-clause-found
returns-in_err-report-clause-found g c = λ pool honest runs lawful sound.
    let p = err_from_is_err_and c.from_residual.result c.from_residual.ensures.1 in
    let on = look_on (λ (seen : List ℕ) (space : FreeSectors). RunsBy None (Has seen space) c.args.dir.now pool) c.loop-row.invariant.looks runs in
    let stands =
    row_stands (blocks_of c.loop-row.io) c.args.dir.now.bookmarks pool.bookmarks on.bookmarks c.bookmarks-row-items.result.now c.bookmarks-row-items.ensures c.loop-row.row-index c.row-item.result c.loop-row-test.true c.row-item.is in
    rw (p.1, p.2) (told_too (Finds (IsListed pool stands.bookmark) (ListDiffers pool)) (Finds (AreListed pool) (ListDiffers pool)) c.in_err-report.field-0.0
    (c.in_err-report.ensures.found pool stands.bookmark honest on lawful sound stands.there stands.is))

pub returns-in_err-report-clause-damaged : goal.returns-in_err-report-clause-damaged
returns-in_err-report-clause-damaged g c = λ honest.
    let p = err_from_is_err_and c.from_residual.result c.from_residual.ensures.1 in
    let rows = c.args.dir.now in
    let place = c.loop-row.row-index in
    let row = c.row-item.result in
    let same = c.bookmarks-row-items.ensures in
    let listed : Contains rows.bookmarks row = (place, omega (arith, c.loop-row-test.true, ap length same), sym (c.row-item.is ∙ ap (λ (list : List Bookmark). get_or list place row) same)) in
    rw (p.1, p.2) (checked_before {stop = None} c.loop-row.invariant.looks rows {T = Option Report} (Err c.in_err-report.field-0.0) (c.in_err-report.ensures.damaged honest listed))

pub returns-in-Some-clause-found : goal.returns-in-Some-clause-found
returns-in-Some-clause-found g c = λ pool honest runs lawful sound.
    let on = look_on (λ (seen : List ℕ) (space : FreeSectors). RunsBy None (Has seen space) c.args.dir.now pool) c.loop-row.invariant.looks runs in
    let stands =
    row_stands (blocks_of c.loop-row.io) c.args.dir.now.bookmarks pool.bookmarks on.bookmarks c.bookmarks-row-items.result.now c.bookmarks-row-items.ensures c.loop-row.row-index c.row-item.result c.loop-row-test.true c.row-item.is in
    fails_too (IsListed pool stands.bookmark) (AreListed pool) (ListDiffers pool) c.in-Some.report
    (subst (λ (found : Option Report). Finds (IsListed pool stands.bookmark) (ListDiffers pool) found) c.in-Some.is
    (c.in_ok-report.ensures.found pool stands.bookmark honest on lawful sound stands.there stands.is))

pub returns-clause-found : goal.returns-clause-found
returns-clause-found g c = λ pool honest runs lawful sound.
    let past : c.loop-row.row-index ≡ length c.args.dir.now.bookmarks = omega (arith, ap length c.bookmarks-row-items.ensures) in
    let long = length-Match (BookmarkIs (blocks_of c.args.io.now)) c.args.dir.now.bookmarks pool.bookmarks runs.bookmarks in
    all_listed pool (λ k d under. c.loop-row.invariant.listed pool honest runs lawful sound k d (omega (arith, under, past, long)))

pub returns-in-Some-clause-named : goal.returns-in-Some-clause-named
returns-in-Some-clause-named g c =
    let listed = listed_at c.args.dir.now.bookmarks c.bookmarks-row-items.result.now c.loop-row.row-index c.row-item.result c.bookmarks-row-items.ensures c.loop-row-test.true c.row-item.is in
    subst (FindsNamed c.args.dir.now) c.in-Some.is (c.in_ok-report.ensures.named listed)
