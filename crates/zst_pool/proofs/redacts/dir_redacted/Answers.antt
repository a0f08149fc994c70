use Rattle.std.proofs.Common.{◌≢◌, ◌∙◌, ℕ, List, length, sym, ap, subst, arith}
use Rattle.std.specs.List.{All}
use Rattle.zst_model.specs.fields.Lists.{Runs}
use Rattle.zst_model.specs.pools.Pool.{inserted, is_before}
use Rattle.zst_dir.specs.Rows.{IsBookmarkRow}
use Rattle.zst_dir.specs.declared.rows.Bookmark.{Bookmark}
use Rattle.zst_pool.specs.Redactions.{redaction_row, row_guids}
use Rattle.zst_pool.specs.RowChanges.{MakesDir}
use Rattle.zst_pool.proofs.redacts.dir_redacted.Goals as goal

pub dir_with_bookmark-requires-clause-row : goal.dir_with_bookmark-requires-clause-row
dir_with_bookmark-requires-clause-row c =
    let made = c.redaction_row-bookmark.ensures in
    let row = c.requires.row in
    subst (λ (b : Bookmark). IsBookmarkRow b) (sym made.same)
    (record { name = made.name; guid = row.guid; time = row.time; number = row.number; redact = c.in_ok-redact.ensures.lawful; runs = made.runs; levels = omega (arith, c.requires.low); root = made.root })

pub dir_with_bookmark-requires-clause-absent : goal.dir_with_bookmark-requires-clause-absent
dir_with_bookmark-requires-clause-absent c =
    subst (λ (n : List ℕ). All (λ (other : Bookmark). other.name ≢ n) c.args.dir.now.bookmarks) (sym (ap (λ (b : Bookmark). b.name) c.redaction_row-bookmark.ensures.same)) c.requires.absent

pub returns-clause-makes : goal.returns-clause-makes
returns-clause-makes c =
    let name = c.args.name.now in
    let row = c.args.row.now in
    let tree = c.args.tree in
    let dir = c.args.dir.now in
    let same = c.redaction_row-bookmark.ensures.same
    ∙ ap (λ (guids : List ℕ). redaction_row name row guids (length c.runs.result.now) tree) c.in_ok-redact.ensures.set
    ∙ ap (λ (runs : Runs). redaction_row name row (row_guids c.args.rows.now) (length runs) tree) c.runs.ensures.same in
    subst (λ (b : Bookmark). MakesDir 1024 dir (record dir { bookmarks = inserted (λ (x y : Bookmark). is_before x.name y.name) b dir.bookmarks }) c.dir_with_bookmark.result) same c.dir_with_bookmark.ensures.makes
