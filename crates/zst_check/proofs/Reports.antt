-- The laws of reports.
use Rattle.std.proofs.Common.{◌⊎◌, inl, inr, refl}
use Rattle.zst_model.specs.pools.Pool.{Pool}
use Rattle.zst_model.specs.pools.Soundness as soundness
use Rattle.zst_model.specs.pools.Soundness.{Dated}
use Rattle.zst_laws.specs.NearestSnapshots.{AgreesWithNearest}
use Rattle.zst_laws.specs.RedactionLists.{AreListed}
use Rattle.zst_laws.proofs.pools.NearestSnapshots.{nearest_is_enough}
use Rattle.zst_check.specs.FailingPlaces.{LateDate, LateSnapshot, BadBookmark, Differs, ListDiffers}
use Rattle.zst_check.specs.Reports.{AreBookmarks, IsUnsoundAt, AtDate, AtSnapshot, AtBookmark, AtState, AtList, IsReportOf, NoneIsBoth, SoundByNearest, FailsSomewhere, DecidedHasReport}
use Rattle.zst_check.specs.declared.report.Report.{Report}
use Rattle.zst_check.specs.declared.report.Report.TheVariants.{Sound, Unsound}
use Rattle.zst_check.proofs.Denials.{agree_with_nearest, late_date_denies, late_snapshot_denies, bad_bookmark_denies, differs_denies, list_differs_denies}

pub none_is_both : NoneIsBoth
none_is_both pool count other blocks earlier later object block sound unsound = go unsound
  where
    go : IsUnsoundAt pool earlier later object block → ⊥
    go (AtDate fails) = late_date_denies pool earlier later object block fails sound.1.dated
    go (AtSnapshot fails) = late_snapshot_denies pool earlier later object block fails sound.1.dated
    go (AtBookmark dated fails) = bad_bookmark_denies pool earlier later object block fails sound.1.bookmarks
    go (AtState dated bookmarks fails) = differs_denies pool earlier later object block fails sound.1.agree
    go (AtList parts fails) = list_differs_denies pool earlier later object block fails sound.2

-- a pool is sound where each state agrees with the nearest snapshots before it
pub parts_are_sound : (pool : Pool) → Dated pool → AreBookmarks pool → AgreesWithNearest pool → soundness.Sound pool
parts_are_sound pool dated bookmarks near = record { agree = nearest_is_enough pool dated near; dated = dated; bookmarks = bookmarks }

pub sound_by_nearest : SoundByNearest
sound_by_nearest pool count blocks = (
  λ sound. (sound.0, sound.1.dated, sound.1.bookmarks, agree_with_nearest pool sound.1.agree, sound.2),
  λ parts. (parts.0, parts_are_sound pool parts.1 parts.2 parts.3, parts.4),
)

pub decided_has_report : DecidedHasReport
decided_has_report pool count is = go is.dates is.bookmarks is.states is.lists
  where
    go : Dated pool ⊎ (FailsSomewhere (LateDate pool) ⊎ FailsSomewhere (LateSnapshot pool)) → AreBookmarks pool ⊎ FailsSomewhere (BadBookmark pool)
        → AgreesWithNearest pool ⊎ FailsSomewhere (Differs pool) → AreListed pool ⊎ FailsSomewhere (ListDiffers pool)
        → (report : Report) × IsReportOf pool count report
    go (inr (inl one)) bookmarks states lists = (Unsound one.earlier one.later one.object one.block, AtDate one.at)
    go (inr (inr one)) bookmarks states lists = (Unsound one.earlier one.later one.object one.block, AtSnapshot one.at)
    go (inl dated) (inr one) states lists = (Unsound one.earlier one.later one.object one.block, AtBookmark dated one.at)
    go (inl dated) (inl bookmarks) (inr one) lists = (Unsound one.earlier one.later one.object one.block, AtState dated bookmarks one.at)
    go (inl dated) (inl bookmarks) (inl near) (inr one) = (Unsound one.earlier one.later one.object one.block, AtList (parts_are_sound pool dated bookmarks near) one.at)
    go (inl dated) (inl bookmarks) (inl near) (inl listed) = (Sound count, (refl, parts_are_sound pool dated bookmarks near, listed))
