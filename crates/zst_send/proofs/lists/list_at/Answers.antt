use Rattle.std.proofs.Common.{◌<◌, ℕ, List, length, get_or, sym, ap, ◌∙◌, subst}
use Rattle.std.specs.Prelude.{Option, IfErr, IfSome, Result}
use Rattle.zst_block.specs.IoCalls.{Looks}
use Rattle.zst_block.specs.IoStates.{blocks_of, io_of}
use Rattle.zst_block.proofs.IoCallLemmas.{Looks-none}
use Rattle.zst_block.specs.declared.fault.BlockFault.{BlockFault}
use Rattle.zst_dir.specs.declared.rows.Bookmark.{Bookmark}
use Rattle.zst_model.specs.fields.Lists.{Runs}
use Rattle.zst_model.proofs.Results.{err_is}
use Rattle.zst_plan.proofs.AlikeAnswers.{none_alike}
use Rattle.zst_plan.specs.Places.{FindAlike, StandsAt}
use Rattle.zst_pool.specs.Damage.{IsOf}
use Rattle.zst_pool.specs.Faults.{of_block, or_memory}
use Rattle.zst_pool.specs.Lists.{IsUnread}
use Rattle.zst_pool.specs.declared.fault.PoolFault.{PoolFault}
use Rattle.zst_send.specs.Openings.{GivesRuns, IsDamagedList, runs_in}
use Rattle.zst_send.proofs.ListReads.{is_outside, is_unread, list_stops, list_tells, row_at}
use Rattle.zst_send.proofs.StandingRows.{list_at_place}
use Rattle.zst_send.proofs.lists.list_at.Goals as goal

pub returns-in_default-clause-found : goal.returns-in_default-clause-found
returns-in_default-clause-found g c = λ pool bookmark honest alike stands.
    let Is = StandsAt c.args.dir.now.bookmarks pool.bookmarks in
    let none = none_alike Is bookmark (subst (λ (p : Option ℕ). FindAlike Is p bookmark) c.in_default.is alike) in
    c.empty.ensures ∙ sym (ap runs_in none)

pub returns-in_default-clause-looks : goal.returns-in_default-clause-looks
returns-in_default-clause-looks g c = Looks-none _

pub returns-in_err-list-clause-found : goal.returns-in_err-list-clause-found
returns-in_err-list-clause-found g c = λ pool bookmark honest alike stands.
    let rows = c.args.dir.now in
    let row = c.index-bookmarks-place.result in
    let fault = c.in_err-list.field-0.0 in
    let at = subst (λ (p : Option ℕ). FindAlike (StandsAt rows.bookmarks pool.bookmarks) p bookmark) c.in-Some.is alike in
    let listed = list_at_place (blocks_of c.args.io.now) rows pool c.in-Some.place row bookmark at stands (c.index-bookmarks-place.is ∙ ap (λ (xs : List Bookmark). get_or xs c.in-Some.place row) c.bookmarks.ensures) in
    subst (λ (r : Result Runs PoolFault). GivesRuns (runs_in bookmark) r) (sym (err_is c.from_residual.result (or_memory of_block fault) c.from_residual.ensures.1))
    (is_outside (runs_in bookmark) fault (c.in_err-list.ensures.there (runs_in bookmark) honest listed) c.in_err-list.ensures.looks.never_full)

pub returns-in_err-list-clause-unread : goal.returns-in_err-list-clause-unread
returns-in_err-list-clause-unread g c =
    let fault = c.in_err-list.field-0.0 in
    subst (λ (r : Result Runs PoolFault). IfErr r IsUnread) (sym (err_is c.from_residual.result (or_memory of_block fault) c.from_residual.ensures.1)) (is_unread fault c.in_err-list.ensures.looks.never_full)

pub returns-in_err-list-clause-damaged : goal.returns-in_err-list-clause-damaged
returns-in_err-list-clause-damaged g c = λ honest.
    let rows = c.args.dir.now in
    let row = c.index-bookmarks-place.result in
    let fault = c.in_err-list.field-0.0 in
    let disk = g.D.Disk.state c.args.io.now.disk.now in
    let end = c.args.io.now.space.end in
    let below = subst (λ (p : Option ℕ). IfSome p (λ place. place < length rows.bookmarks)) c.in-Some.is c.requires.inside in
    let here = c.index-bookmarks-place.is ∙ ap (λ (xs : List Bookmark). get_or xs c.in-Some.place row) c.bookmarks.ensures in
    subst (λ (r : Result Runs PoolFault). IfErr r (IsOf (IsDamagedList end disk.seen disk.size rows c.args.place))) (sym (err_is c.from_residual.result (or_memory of_block fault) c.from_residual.ensures.1))
    (list_tells end disk.seen disk.size rows c.args.place row fault (row_at rows c.args.place c.in-Some.place row c.in-Some.is (below, sym here)) (c.in_err-list.ensures.damaged honest))

pub returns-in_err-list-clause-looks : goal.returns-in_err-list-clause-looks
returns-in_err-list-clause-looks g c =
    let fault = c.in_err-list.field-0.0 in
    let p = err_is c.from_residual.result (or_memory of_block fault) c.from_residual.ensures.1 in
    rw p (subst (λ (stop : Option BlockFault). Looks (io_of c.args.io.now) (io_of c.read_list.new.io) stop) (list_stops fault) c.in_err-list.ensures.looks)

pub returns-clause-found : goal.returns-clause-found
returns-clause-found g c = λ pool bookmark honest alike stands.
    let rows = c.args.dir.now in
    let row = c.index-bookmarks-place.result in
    let at = subst (λ (p : Option ℕ). FindAlike (StandsAt rows.bookmarks pool.bookmarks) p bookmark) c.in-Some.is alike in
    let listed = list_at_place (blocks_of c.args.io.now) rows pool c.in-Some.place row bookmark at stands (c.index-bookmarks-place.is ∙ ap (λ (xs : List Bookmark). get_or xs c.in-Some.place row) c.bookmarks.ensures) in
    c.in_ok-list.ensures.there (runs_in bookmark) honest listed

pub returns-clause-looks : goal.returns-clause-looks
returns-clause-looks g c = c.in_ok-list.ensures.looks
