use Rattle.zst_dir.specs.RowNames.{AreNamed, NamesSnapshot}
use Rattle.zst_model.specs.pools.Ancestry.{OfBookmark}
use Rattle.zst_model.specs.pools.Pool.{Pool, Snapshot}
use Rattle.zst_plan.specs.ResumePlan.{is_from}
use Rattle.zst_plan.proofs.FirstPlaces.{NoneBefore}
use Rattle.zst_plan.proofs.resume.first_bookmark.Given as goal

-- none so far is one that the token is from
abbrev pub invariant-loop-place : goal.invariant-loop-place
invariant-loop-place l = (pool : Pool) (later : Snapshot) → AreNamed l.dir pool → NamesSnapshot l.to later
    → NoneBefore (λ row. is_from l.token pool later (OfBookmark row)) pool.bookmarks l.place
