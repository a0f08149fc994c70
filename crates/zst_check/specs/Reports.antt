-- What a report says of a pool, and the laws of it.
use Rattle.std.specs.Prelude.{◌≡◌, ◌⊎◌, ◌↔◌, ℕ, List, All}
use Rattle.zst_model.specs.pools.Pool.{Pool}
use Rattle.zst_model.specs.pools.Soundness as soundness
use Rattle.zst_model.specs.pools.Soundness.{Agree, Dated, IsBookmarkOf}
use Rattle.zst_laws.specs.NearestSnapshots.{AgreesWithNearest}
use Rattle.zst_laws.specs.RedactionLists.{AreListed}
use Rattle.zst_check.specs.FailingPlaces.{LateDate, LateSnapshot, BadBookmark, Differs, ListDiffers}
use Rattle.zst_check.specs.declared.report.Report.{Report}
use Rattle.zst_check.specs.declared.report.Report.TheVariants.{Sound, Unsound}

-- part 3 of soundness: each bookmark is one of its dataset
abbrev pub AreBookmarks : Pool → Type 0
AreBookmarks pool = All (IsBookmarkOf pool) pool.bookmarks

-- of the parts of soundness, in the order 2, 3, 1, 4, this is the first that fails, and it does so at this place
pub data IsUnsoundAt (pool : Pool) (earlier later : List ℕ) (object block : ℕ) : Type 0 where
  AtDate : LateDate pool earlier later object block → IsUnsoundAt pool earlier later object block
  AtSnapshot : LateSnapshot pool earlier later object block → IsUnsoundAt pool earlier later object block
  AtBookmark : Dated pool → BadBookmark pool earlier later object block → IsUnsoundAt pool earlier later object block
  AtState : Dated pool → AreBookmarks pool → Differs pool earlier later object block → IsUnsoundAt pool earlier later object block
  AtList : soundness.Sound pool → ListDiffers pool earlier later object block → IsUnsoundAt pool earlier later object block

-- a report is one of a pool with so many blocks: it says sound exactly of a pool of which all four parts hold, with this count; else it names where the first part fails that does
abbrev pub IsReportOf : Pool → ℕ → Report → Type 0
IsReportOf pool count (Sound blocks) = (blocks ≡ count) × soundness.Sound pool × AreListed pool
IsReportOf pool count (Unsound earlier later object block) = IsUnsoundAt pool earlier later object block

-- ---- laws

-- a place where part 2 fails, of either kind, denies it
abbrev pub LateDateDenies : Type 0
LateDateDenies = (pool : Pool) (earlier later : List ℕ) (object block : ℕ) → LateDate pool earlier later object block → ¬ (Dated pool)

abbrev pub LateSnapshotDenies : Type 0
LateSnapshotDenies = (pool : Pool) (earlier later : List ℕ) (object block : ℕ) → LateSnapshot pool earlier later object block → ¬ (Dated pool)

-- so it is with part 3
abbrev pub BadBookmarkDenies : Type 0
BadBookmarkDenies = (pool : Pool) (earlier later : List ℕ) (object block : ℕ) → BadBookmark pool earlier later object block → ¬ (AreBookmarks pool)

-- with part 1
abbrev pub DiffersDenies : Type 0
DiffersDenies = (pool : Pool) (earlier later : List ℕ) (object block : ℕ) → Differs pool earlier later object block → ¬ (Agree pool)

-- and with part 4
abbrev pub ListDiffersDenies : Type 0
ListDiffersDenies = (pool : Pool) (earlier later : List ℕ) (object block : ℕ) → ListDiffers pool earlier later object block → ¬ (AreListed pool)

-- no pool has reports of both kinds
abbrev pub NoneIsBoth : Type 0
NoneIsBoth =
    (pool : Pool) (count other blocks : ℕ) (earlier later : List ℕ) (object block : ℕ)
    → IsReportOf pool count (Sound blocks) → ¬ (IsReportOf pool other (Unsound earlier later object block))

-- a pool is told to be sound, with its count of blocks, exactly where its dates are right, its bookmarks are ones, each state agrees with the nearest snapshots before it, and each list is that of its bookmark
abbrev pub SoundByNearest : Type 0
SoundByNearest =
    (pool : Pool) (count blocks : ℕ)
    → IsReportOf pool count (Sound blocks) ↔ ((blocks ≡ count) × Dated pool × AreBookmarks pool × AgreesWithNearest pool × AreListed pool)

-- a part fails at some place
pub record FailsSomewhere (fails : List ℕ → List ℕ → ℕ → ℕ → Type 0) : Type 0 where
  pub earlier : List ℕ
  pub later : List ℕ
  pub object : ℕ
  pub block : ℕ
  pub at : fails earlier later object block

-- each part of soundness was decided: it holds, or fails at a place that was found
pub record IsDecided (pool : Pool) : Type 0 where
  pub dates : Dated pool ⊎ (FailsSomewhere (LateDate pool) ⊎ FailsSomewhere (LateSnapshot pool))
  pub bookmarks : AreBookmarks pool ⊎ FailsSomewhere (BadBookmark pool)
  pub states : AgreesWithNearest pool ⊎ FailsSomewhere (Differs pool)
  pub lists : AreListed pool ⊎ FailsSomewhere (ListDiffers pool)

-- so it has a report
abbrev pub DecidedHasReport : Type 0
DecidedHasReport = (pool : Pool) (count : ℕ) → IsDecided pool → (report : Report) × IsReportOf pool count report
