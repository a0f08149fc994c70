use Rattle.std.proofs.Common.{rules, ◌∙◌, List, Some, None, length, get_or, option_map, sym, ap, subst, arith}
use Rattle.zst_dir.specs.RowNames.{NamesBookmark}
use Rattle.zst_dir.specs.declared.rows.Bookmark.{Bookmark}
use Rattle.zst_model.specs.pools.Ancestry.{OfBookmark}
use Rattle.zst_plan.specs.Places.{FindAlike}
use Rattle.zst_plan.specs.ResumePlan.{is_from}
use Rattle.zst_plan.specs.Sources.{IsSource}
use Rattle.zst_plan.specs.declared.source.Source.TheVariants as sources
use Rattle.zst_plan.proofs.FirstPlaces.{first_here, first_later, none_passes}
use Rattle.zst_plan.proofs.resume.first_bookmark.Goals as goal

pub returns-then-is_from : goal.returns-then-is_from
returns-then-is_from c = record {
  inside = search rules;
  found = λ pool later are to.
      let row = c.index-bookmarks-place.result in
      let first = first_here NamesBookmark (λ row. is_from c.args.token.now pool later (OfBookmark row)) c.args.dir.now.bookmarks pool.bookmarks are.bookmarks c.loop-place.place row (omega (arith, c.loop-place-test.true, ap length c.bookmarks-place-end.ensures))
      (c.index-bookmarks-place.is ∙ ap (λ (xs : List Bookmark). get_or xs c.loop-place.place c.index-bookmarks-place.result) c.bookmarks.ensures)
      (c.loop-place.invariant pool later are to) c.is_from.result (λ y names. c.is_from.ensures pool later (OfBookmark y) are to names) c.if-is_from.true in
      subst (FindAlike (IsSource c.args.dir.now pool) (Some (sources.Bookmark c.loop-place.place (record { ref_ptr = (0, 0); now = row })))) (sym (ap (option_map OfBookmark) first.1)) (first.3, first.2);
}

pub loop-place-preserved : goal.loop-place-preserved
loop-place-preserved c = λ pool later are to.
    first_later NamesBookmark (λ row. is_from c.args.token.now pool later (OfBookmark row)) c.args.dir.now.bookmarks pool.bookmarks are.bookmarks c.loop-place.place c.index-bookmarks-place.result (omega (arith, c.loop-place-test.true, ap length c.bookmarks-place-end.ensures))
    (c.index-bookmarks-place.is ∙ ap (λ (xs : List Bookmark). get_or xs c.loop-place.place c.index-bookmarks-place.result) c.bookmarks.ensures)
    (c.loop-place.invariant pool later are to) c.is_from.result (λ y names. c.is_from.ensures pool later (OfBookmark y) are to names) c.if-is_from.false

pub returns : goal.returns
returns c = record {
  inside = search rules;
  found = λ pool later are to.
      subst (FindAlike (IsSource c.args.dir.now pool) None)
      (sym (ap (option_map OfBookmark) (none_passes NamesBookmark (λ row. is_from c.args.token.now pool later (OfBookmark row)) c.args.dir.now.bookmarks pool.bookmarks are.bookmarks c.loop-place.place
      (omega (arith, c.loop-place-test.false, ap length c.bookmarks-place-end.ensures)) (c.loop-place.invariant pool later are to)))) tt;
}
