-- A pool that isn't sound in two parts, and its report.
use Rattle.std.specs.Prelude.{ℕ, List, [], ◌∷◌, None, codes, if◌then◌else◌, ◌==◌}
use Rattle.zst_model.specs.pools.Pool.{Pool, Dataset, Snapshot, Bookmark, untouched}
use Rattle.zst_model.specs.states.DatedState.{DatedState}
use Rattle.zst_check.specs.FailingPlaces.{Differs, number_itself}
use Rattle.zst_check.specs.Reports.{IsReportOf}
use Rattle.zst_check.specs.declared.report.Report.TheVariants.{Unsound}

-- a snapshot of `tank/a`, which commit 3 made of a head that nothing had touched
abbrev pub taken : Snapshot
taken = record { name = codes "tank/a@s"; guid = 4294967297; time = 0; number = 3; objects = untouched; redact = [] }

-- the head that `tank/a` now has: number 1 has the date 2, which the snapshot ought to have too
abbrev pub dated_back : DatedState
dated_back = record untouched { number_date = λ k. if k == 1 then 2 else 0 }

abbrev pub tank : Dataset
tank = record { name = codes "tank/a"; kind = 2; origin = None; head = dated_back; redact = [] }

-- a bookmark of `tank/b`, which isn't there
abbrev pub lost : Bookmark
lost = record { name = codes "tank/b#s"; guid = 4294967297; time = 0; number = 3; redact = []; runs = [] }

-- the pool with these bookmarks
abbrev pub pool_with : List Bookmark → Pool
pool_with bookmarks = record { id = 1; number = 5; guids = 1; datasets = tank ∷ []; snapshots = taken ∷ []; bookmarks = bookmarks; partials = [] }

-- with that one it isn't sound in part 3, nor in part 1; its report names part 3
abbrev pub BookmarkIsTold : Type 0
BookmarkIsTold = (count : ℕ) → IsReportOf (pool_with (lost ∷ [])) count (Unsound (codes "tank/b#s") (codes "tank/b") 0 0)

abbrev pub HeadDiffers : Type 0
HeadDiffers = Differs (pool_with (lost ∷ [])) (codes "tank/a@s") (codes "tank/a") 1 number_itself

-- and not part 1
abbrev pub HeadIsNotTold : Type 0
HeadIsNotTold = (count : ℕ) → ¬ (IsReportOf (pool_with (lost ∷ [])) count (Unsound (codes "tank/a@s") (codes "tank/a") 1 number_itself))

-- which it names once the bookmark is gone
abbrev pub HeadIsTold : Type 0
HeadIsTold = (count : ℕ) → IsReportOf (pool_with []) count (Unsound (codes "tank/a@s") (codes "tank/a") 1 number_itself)
