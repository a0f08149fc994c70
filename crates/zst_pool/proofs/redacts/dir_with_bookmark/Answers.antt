use Rattle.std.proofs.Common.{rules, ◌≢◌, ◌∙◌, sym, ap, subst}
use Rattle.std.specs.List.{All}
use Rattle.zst_model.specs.pools.Pool.{inserted, is_before}
use Rattle.zst_dir.specs.Rows.{Rows}
use Rattle.zst_dir.specs.declared.rows.Bookmark.{Bookmark}
use Rattle.zst_pool.proofs.redacts.dir_with_bookmark.Goals as goal

pub add_bookmark-requires-clause-new : goal.add_bookmark-requires-clause-new
add_bookmark-requires-clause-new c = subst (λ (r : Rows). All (λ (other : Bookmark). other.name ≢ c.args.bookmark.name) r.bookmarks) (sym c.in_ok-next.ensures) c.requires.absent

pub returns-clause-makes : goal.returns-clause-makes
returns-clause-makes c = record {
  made =
      c.in_ok-add_bookmark.ensures.added ∙ ap (λ (r : Rows). record r { bookmarks = inserted (λ (a b : Bookmark). is_before a.name b.name) c.args.bookmark r.bookmarks }) c.in_ok-next.ensures;
  grows = search rules;
}
