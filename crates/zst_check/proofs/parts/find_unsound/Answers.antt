use Rattle.std.proofs.Common.{ℕ, List, Some, refl}
use Rattle.std.specs.Prelude.{None}
use Rattle.zst_space.specs.FreeSectors.{FreeSectors}
use Rattle.zst_block.specs.Blocks.{Has}
use Rattle.zst_block.specs.IoStates.{blocks_of}
use Rattle.zst_block.proofs.IoCallLemmas.{Looks-then}
use Rattle.zst_image.specs.Reads.{RunsBy}
use Rattle.zst_laws.specs.NearestSnapshots.{AgreesWithNearest}
use Rattle.zst_laws.specs.RedactionLists.{AreListed}
use Rattle.zst_model.specs.pools.Soundness.{Dated, Sound}
use Rattle.zst_objset.proofs.LeafLaws.{look_on}
use Rattle.zst_check.specs.FailingPlaces.{BadBookmark, Differs, ListDiffers}
use Rattle.zst_check.specs.Reports.{AreBookmarks, IsUnsoundAt, AtBookmark, AtState, AtList}
use Rattle.zst_check.proofs.FoundParts.{finds_fails, finds_none, gives_more}
use Rattle.zst_check.proofs.NamedRows.{rows_name}
use Rattle.zst_check.proofs.Reports.{parts_are_sound}
use Rattle.zst_check.proofs.parts.find_unsound.Goals as goal

pub returns-in-Some-misplaced_bookmark-clause-found : goal.returns-in-Some-misplaced_bookmark-clause-found
returns-in-Some-misplaced_bookmark-clause-found g c = λ pool honest runs is number.
    let dated = finds_none (Dated pool) _ c.in_ok-report.field-0 c.in_default.is (c.in_ok-report.ensures.found pool honest runs is number) in
    finds_fails (AreBookmarks pool) (Sound pool × AreListed pool) (BadBookmark pool) (IsUnsoundAt pool) (Some c.in-Some-misplaced_bookmark.report) c.in-Some-misplaced_bookmark.report refl
    (λ earlier later object block at. AtBookmark dated at)
    (c.in-Some-misplaced_bookmark.ensures.found pool (rows_name (blocks_of c.args.io.now) c.args.dir.now pool runs) number)

pub returns-in-Some-2-clause-found : goal.returns-in-Some-2-clause-found
returns-in-Some-2-clause-found g c = λ pool honest runs is number.
    let before = c.in_ok-report-2.ensures.looks.reads.honest honest in
    let dated = finds_none (Dated pool) _ c.in_ok-report.field-0 c.in_default.is (c.in_ok-report.ensures.found pool before runs is number) in
    let bookmarks = c.in_default-misplaced_bookmark.ensures.found pool (rows_name (blocks_of c.args.io.now) c.args.dir.now pool runs) number in
    let now = look_on {stop = None} (λ (seen : List ℕ) (space : FreeSectors). RunsBy None (Has seen space) c.args.dir.now pool) c.in_ok-report.ensures.looks runs in
    finds_fails (AgreesWithNearest pool) (Sound pool × AreListed pool) (Differs pool) (IsUnsoundAt pool) c.in_ok-report-2.field-0 c.in-Some-2.report c.in-Some-2.is
    (λ earlier later object block at. AtState dated bookmarks at)
    (c.in_ok-report-2.ensures.found pool honest now is dated)

-- the first three parts hold, and so the pool is sound but for its lists
pub returns-clause-found : goal.returns-clause-found
returns-clause-found g c = λ pool honest runs is number.
    let last = c.differing_list.ensures.looks.reads.honest honest in
    let before = c.in_ok-report-2.ensures.looks.reads.honest last in
    let dated = finds_none (Dated pool) _ c.in_ok-report.field-0 c.in_default.is (c.in_ok-report.ensures.found pool before runs is number) in
    let bookmarks = c.in_default-misplaced_bookmark.ensures.found pool (rows_name (blocks_of c.args.io.now) c.args.dir.now pool runs) number in
    let first = c.in_ok-report.ensures.looks in
    let second = Looks-then {stop = None} first c.in_ok-report-2.ensures.looks in
    let now = look_on {stop = None} (λ (seen : List ℕ) (space : FreeSectors). RunsBy None (Has seen space) c.args.dir.now pool) first runs in
    let later = look_on {stop = None} (λ (seen : List ℕ) (space : FreeSectors). RunsBy None (Has seen space) c.args.dir.now pool) second runs in
    let near = finds_none (AgreesWithNearest pool) (Differs pool) c.in_ok-report-2.field-0 c.in_default-2.is (c.in_ok-report-2.ensures.found pool last now is dated) in
    let sound = parts_are_sound pool dated bookmarks near in
    gives_more (AreListed pool) (Sound pool × AreListed pool) (ListDiffers pool) (IsUnsoundAt pool) c.differing_list.result (λ listed. (sound, listed)) (λ earlier later object block at. AtList sound at)
    (c.differing_list.ensures.found pool honest later is sound)
