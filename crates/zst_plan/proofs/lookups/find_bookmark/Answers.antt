use Rattle.std.proofs.Common.{rules}
use Rattle.zst_model.specs.declared.refusals.subjects.Name.TheVariants as names
use Rattle.zst_model.specs.pools.Pool.{bookmark_named}
use Rattle.zst_model.specs.sends.SendPlan.{absent}
use Rattle.zst_plan.specs.Places.{StandsAt}
use Rattle.zst_plan.proofs.LookupLemmas.{bookmarks_find, found_or}
use Rattle.zst_plan.proofs.lookups.find_bookmark.Goals as goal

pub returns : goal.returns
returns c = record {
  inside = search rules;
  found = λ pool are.
      let rows = c.args.dir.now in
      let name = c.args.name.now in
      found_or (StandsAt rows.bookmarks pool.bookmarks) c.bookmark.result (bookmark_named name pool) (absent (names.Bookmark name)) c.ok_or_else.result
      (λ fault made. search rules) c.ok_or_else.ensures.cases (bookmarks_find rows pool are name c.bookmark.result c.bookmark.ensures);
}
