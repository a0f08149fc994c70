-- The sectors that a reclaim may write into, and those that it makes free, beside those that the body from before leaves free: what stands by the body, by its rows or by what sessions hold stands in none of them.
use Rattle.std.proofs.Common.{◌≡◌, ◌⊎◌, ◌↔◌, inl, inr, ⊎_elim, ℕ, ◌<◌, ◌≤◌, ◌+◌, ◌/◌, Bool, List, [], ◌∷◌, ◌++◌, Option, refl, sym, subst, arith}
use Rattle.std.proofs.lemmas.Bool.{cases_lt}
use Rattle.zst_outside.specs.Images.{DiskState}
use Rattle.zst_space.specs.FreeSectors.{FreeSectors, IsFree, IsInSome, IsSpaceFrom, Rise}
use Rattle.zst_space.specs.declared.space.Extent.{Extent}
use Rattle.zst_space.proofs.FreeSectorsLaws.{IsFree-from, Rise-end}
use Rattle.zst_marks.specs.Marks.{Apart, IsMarked}
use Rattle.zst_block.specs.Blocks.{FitsDisk, Has, IsBlock, IsTaken}
use Rattle.zst_extents.specs.UnmarkedExtents.{AreUnmarked, MayLeave}
use Rattle.zst_extents.proofs.ApartExtents.{Apart-end, IsSpaceFrom-apart}
use Rattle.zst_model.specs.pools.Pool.{Pool}
use Rattle.zst_model.proofs.FilteredLists.{filter_contains}
use Rattle.zst_dir.specs.Rows.{Rows}
use Rattle.zst_dir.specs.Spelling.{dir_bytes}
use Rattle.zst_dir.specs.declared.rows.Partial.{Partial}
use Rattle.zst_image.specs.Bodies.{free_by}
use Rattle.zst_image.specs.Commits.{Ready}
use Rattle.zst_image.specs.FreedCommits.{AreAllUnmarked, AreLeftFree, AreSomeUnmarked}
use Rattle.zst_image.specs.Reads.{Describes, RunsBy, bound_of, kept_rows}
use Rattle.zst_image.specs.declared.pool_state.PoolState.{PoolState}
use Rattle.zst_image.proofs.Extents.{IsTaken-free_by}
use Rattle.zst_reach.proofs.KeptTexts.{HasExtents-kept, HasLeaves-kept}
use Rattle.zst_roots.specs.Held.{HeldReaches}
use Rattle.zst_roots.specs.ReachedRows.{RowsReach}
use Rattle.zst_roots.specs.Unreached.{IsFoundFor, IsReached, StaysReached}
use Rattle.zst_roots.specs.declared.held.HeldBlocks.{HeldBlocks}
use Rattle.zst_roots.specs.declared.unreached.UnreachedSectors.{UnreachedSectors}
use Rattle.zst_roots.proofs.KeptRows.{RunsBy-kept}
use Rattle.zst_pool.specs.Reclaims.{AreUnreached, MayBeLeft}
use Rattle.zst_extents.proofs.UnmarkedSectors.{unmarked_extents}

-- these extents are free too
abbrev pub beside : FreeSectors → List Extent → FreeSectors
beside space extents = record space { free = space.free ++ extents }

in_either : (xs ys : List Extent) (sector : ℕ) → IsInSome (xs ++ ys) sector → IsInSome xs sector ⊎ IsInSome ys sector
in_either [] ys sector some = inr some
in_either (x ∷ xs) ys sector some = ⊎_elim (λ here. inl (inl here)) (λ later. ⊎_elim (λ front. inl (inr front)) (λ back. inr back) (in_either xs ys sector later)) some

in_first : (xs ys : List Extent) (sector : ℕ) → IsInSome xs sector → IsInSome (xs ++ ys) sector
in_first [] ys sector some = absurd some
in_first (x ∷ xs) ys sector some = ⊎_elim (λ here. inl here) (λ later. inr (in_first xs ys sector later)) some

in_second : (xs ys : List Extent) (sector : ℕ) → IsInSome ys sector → IsInSome (xs ++ ys) sector
in_second [] ys sector some = some
in_second (x ∷ xs) ys sector some = inr (in_second xs ys sector some)

module _ (space : FreeSectors) (extents : List Extent) where
  -- what was free still is
  pub free_still : (sector : ℕ) → IsFree space sector → IsFree (beside space extents) sector
  free_still sector free = ⊎_elim (λ listed. inl (in_first space.free extents sector listed)) (λ past. inr past) free

  -- and so is what they have
  free_too : (sector : ℕ) → IsInSome extents sector → IsFree (beside space extents) sector
  free_too sector listed = inl (in_second space.free extents sector listed)

  -- and nothing else
  free_of : (sector : ℕ) → IsFree (beside space extents) sector → IsFree space sector ⊎ IsInSome extents sector
  free_of sector free = ⊎_elim (λ listed. ⊎_elim (λ own. inl (inl own)) (λ other. inr other) (in_either space.free extents sector listed)) (λ past. inl (inr past)) free

-- all from an end on that is the same is free too
pub fewer_beside : (space other : FreeSectors) → other.end ≡ space.end → (sector : ℕ) → IsFree other sector → IsFree (beside space other.free) sector
fewer_beside space other end sector free = ⊎_elim (λ listed. free_too space other.free sector listed) (λ past. inr (subst (λ (n : ℕ). n ≤ sector) end past)) free

-- what rises up to an end stands below it
pub rises_below : (from : ℕ) (extents : List Extent) (end sector : ℕ) → Rise from extents end → IsInSome extents sector → sector < end
rises_below from [] end sector rise listed = absurd listed
rises_below from (e ∷ es) end sector rise listed =
    ⊎_elim (λ here. omega (arith, here.1, Rise-end (e.first + e.count) end es rise.1)) (λ later. rises_below (e.first + e.count) es end sector rise.1 later) listed

-- what the rows that last reach, all rows do
kept_reach : (image : List ℕ) (rows : Rows) (sector : ℕ) → RowsReach (IsBlock image) (kept_rows rows) sector → RowsReach (IsBlock image) rows sector
kept_reach image rows sector (inl head) = inl head
kept_reach image rows sector (inr (inl snapshot)) = inr (inl snapshot)
kept_reach image rows sector (inr (inr (inl partial))) =
    inr (inr (inl (record { row = partial.row; listed = filter_contains (λ (row : Partial). row.keep) rows.partials partial.row partial.listed; reached = partial.reached })))
kept_reach image rows sector (inr (inr (inr list))) = inr (inr (inr list))

-- what was found fits the disk, as the next commit can be made on it
pub found_fits : (disk : DiskState) (kept : PoolState) (found : UnreachedSectors) → Ready disk kept.body → IsFoundFor kept.body.uber found → FitsDisk disk.size found.space
found_fits disk kept found ready fits = record {
  extents = IsSpaceFrom-apart 8 found.space (omega (arith, fits.end, fits.sectors, ready.in_range.end.1)) (subst (λ (n : ℕ). Apart 8 found.space.free n) (sym fits.end) fits.apart);
  sectors = omega (arith, fits.sectors, ready.in_range.sectors);
}

-- and is free and unmarked
pub found_unmarked : (kept : PoolState) (found : UnreachedSectors) → IsFoundFor kept.body.uber found → AreSomeUnmarked kept.body found.marks found.space
found_unmarked kept found fits = record { end = fits.end; sectors = fits.sectors; unmarked = fits.unmarked }

module _ (kept : PoolState) (found : UnreachedSectors) (fits : IsFoundFor kept.body.uber found) where
  pub extents_there : (extents : List Extent) × AreUnmarked found.marks kept.body.uber.end extents
  extents_there = unmarked_extents found.marks kept.body.uber.end (Apart-end found.space.free kept.body.uber.end fits.apart)

  -- all that isn't marked is free
  abbrev pub all_left : FreeSectors
  all_left = record { end = kept.body.uber.end; sectors = kept.body.uber.sectors; free = extents_there.0 }

  pub all_are : AreAllUnmarked kept.body found.marks all_left
  all_are = record { end = refl; sectors = refl; extents = extents_there.1 }

  -- beside what the body leaves free, so is what a reclaim may write into
  abbrev pub with_written : FreeSectors
  with_written = beside (free_by kept.body) found.space.free

  -- or what it makes free
  abbrev pub with_freed : FreeSectors
  with_freed = beside (free_by kept.body) all_left.free

  -- sectors 0 to 7 are none of them
  pub written_behind : (disk : DiskState) → Ready disk kept.body → IsTaken with_written 0 4096
  written_behind disk ready = λ byte starts ends free.
      let from : IsSpaceFrom 8 found.space = (found_fits disk kept found ready fits).extents in
      ⊎_elim (λ own. IsTaken-free_by disk.size kept.body ready.in_range ready.apart byte starts ends own)
      (λ listed. let on : 8 ≤ byte / 512 = IsFree-from 8 (byte / 512) found.space from (inl listed) in omega (arith, ends, on)) (free_of (free_by kept.body) found.space.free (byte / 512) free)

  module _ (image : List ℕ) (held : List HeldBlocks) (marked : (sector : ℕ) → sector < kept.body.uber.end → IsMarked found.marks sector ↔ StaysReached (IsBlock image) kept.dir held sector)
      (unreached : (sector : ℕ) → sector < kept.body.uber.end → IsFree found.space sector ↔ ¬ IsReached (IsBlock image) kept.body.uber kept.dir held sector) where
    pub are_unreached : AreUnreached image kept held found.space
    are_unreached = record { end = fits.end; sectors = fits.sectors; apart = fits.apart; below = unreached }

    -- what is reached stands in none of the first, unless the body leaves it free
    pub before_written : (sector : ℕ) → IsReached (IsBlock image) kept.body.uber kept.dir held sector → IsFree with_written sector → IsFree (free_by kept.body) sector
    before_written sector reached free = ⊎_elim (λ own. own)
        (λ listed. elim (cases_lt sector kept.body.uber.end) [
          | inl under ↦ absurd ((unreached sector under).0 (inl listed) reached)
          | inr past ↦ inr past
        ]) (free_of (free_by kept.body) found.space.free sector free)

    -- and what the rows reach or sessions hold in none of the second
    pub before_freed : (sector : ℕ) → RowsReach (IsBlock image) kept.dir sector ⊎ HeldReaches (IsBlock image) held sector → IsFree with_freed sector → IsFree (free_by kept.body) sector
    before_freed sector reached free = ⊎_elim (λ own. own)
        (λ listed. let left = (all_are.extents.are sector).0 listed in absurd (left.unmarked ((marked sector left.under).1 (inr reached))))
        (free_of (free_by kept.body) all_left.free sector free)

    -- so the rows stand for what they do where all of that is free too
    pub runs_freed : (bound : Option ℕ) (running : Pool) → RunsBy bound (Has image (free_by kept.body)) kept.dir running → RunsBy bound (Has image with_freed) kept.dir running
    runs_freed bound running runs = RunsBy-kept image (free_by kept.body) with_freed bound kept.dir running runs (λ sector reached. before_freed sector (inl reached))

    pub runs_written : (bound : Option ℕ) (running : Pool) → RunsBy bound (Has image (free_by kept.body)) kept.dir running → RunsBy bound (Has image with_written) kept.dir running
    runs_written bound running runs = RunsBy-kept image (free_by kept.body) with_written bound kept.dir running runs (λ sector reached. before_written sector (inl (inr (inl reached))))

    -- and the body and the image's rows describe what they do
    pub described_written : {tight : Bool} (rows : Rows) (pool : Pool) → kept_rows kept.dir ≡ kept_rows rows → Describes tight kept.body rows pool (Has image (free_by kept.body)) → Describes tight kept.body rows pool (Has image with_written)
    described_written {tight = tight} rows pool lasting is = record {
      id = is.id;
      number = is.number;
      guids = is.guids;
      extents = HasExtents-kept image (free_by kept.body) with_written kept.body.uber.free_levels kept.body.uber.free_root kept.body.uber.free_count kept.body.free (λ some sector reached. before_written sector (inr (inr (some, reached)))) is.extents;
      apart = is.apart;
      directory = record {
        directory = is.directory.directory;
        count_is = is.directory.count_is;
        leaves = HasLeaves-kept image (free_by kept.body) with_written kept.body.uber.dir_levels kept.body.uber.dir_root (dir_bytes rows) (λ sector reached. before_written sector (inr (inl reached))) is.directory.leaves;
      };
      rows_are = RunsBy-kept image (free_by kept.body) with_written (bound_of tight pool.number) (kept_rows rows) pool is.rows_are
          (λ sector reached. before_written sector (inl (inr (inl (kept_reach image kept.dir sector (subst (λ (r : Rows). RowsReach (IsBlock image) r sector) (sym lasting) reached))))));
      lawful = is.lawful;
    }

    -- extents that are left once blocks were taken and marked are left of what doesn't stay reached
    pub may_be_left : (taken count : ℕ) → MayLeave found.marks found.space taken count → MayBeLeft image kept held found.space taken count
    may_be_left taken count left = record {
      by = left.by;
      earlier = left.earlier;
      extents = left.extents;
      apart = subst (λ (n : ℕ). Apart 8 left.extents n) fits.end left.are.apart;
      are = λ sector under.
          let below : sector < found.space.end = omega (arith, under, fits.end) in (
            (λ listed.
                let is = (left.are.are sector).0 listed in (
                  (λ stays. is.unmarked ((left.marked.marked sector).1 (inr ((marked sector under).1 stays)))),
                  (λ gone. is.unmarked ((left.marked.marked sector).1 (inl (record { under = below; was_free = gone.0; taken = gone.1 })))),
                )),
            (λ both. (left.are.are sector).1 (record {
              from_on = elim (cases_lt sector 8) [ inl less ↦ absurd (both.0 (inl less)) | inr on ↦ on ];
              under = below;
              unmarked = λ is. ⊎_elim (λ gone. both.1 (gone.was_free, gone.taken)) (λ was. both.0 ((marked sector under).0 was)) ((left.marked.marked sector).0 is);
            })),
          );
      counted = left.counted;
    }

    -- what is left free is what doesn't stay reached and wasn't taken
    pub exactly_left : (left : FreeSectors) (next : PoolState) → AreLeftFree kept.body found.marks found.space left next.body
        → (sector : ℕ) → sector < kept.body.uber.end → IsFree (free_by next.body) sector ↔ ((¬ StaysReached (IsBlock image) kept.dir held sector) × ¬ (IsFree found.space sector × ¬ IsFree left sector))
    exactly_left left next exact sector under = (
      (λ free. let is = (exact sector under).0 free in (λ stays. is.1 ((marked sector under).1 stays), is.2)),
      (λ both. (exact sector under).1 (
        elim (cases_lt sector 8) [ inl less ↦ absurd (both.0 (inl less)) | inr on ↦ on ],
        (λ is. both.0 ((marked sector under).0 is)),
        both.1,
      )),
    )

    -- whichever sectors are free that are so too has each that was found
    pub same_unreached : (space : FreeSectors) → AreUnreached image kept held space → (sector : ℕ) → IsFree found.space sector → IsFree space sector
    same_unreached space are sector free = elim (cases_lt sector kept.body.uber.end) [
      | inl under ↦ (are.below sector under).1 ((unreached sector under).0 free)
      | inr past ↦ inr (subst (λ (n : ℕ). n ≤ sector) (sym are.end) past)
    ]
