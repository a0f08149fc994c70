-- A reclaim that was refused leaves the rows by which an image reads: it wrote into sectors alone that nothing reached. Which those are can't be told by a test; that rows are
-- the same can, so that it is enough if it isn't absurd that there are such sectors.
use Rattle.std.specs.Prelude.{bytes_eq}
use Rattle.std.proofs.Common.{◌≡◌, ◌⊎◌, inl, inr, ⊎_elim, ◌↔◌, ℕ, zero, suc, ◌+◌, ◌*◌, ◌/◌, ◌<◌, ◌≤◌, Bool, true, false, List, [], ◌∷◌, ◌++◌, length, get_or, replicate, refl, sym, ap, subst, ◌∙◌, arith}
use Rattle.std.proofs.lemmas.Bool.{cases_eq, cases_lt, true≢false}
use Rattle.std.proofs.lemmas.List.{get_or_default, length-replicate, length-set}
use Rattle.zst_space.specs.FreeSectors.{FreeSectors, IsFree, IsInSome}
use Rattle.zst_space.specs.declared.space.Extent.{Extent}
use Rattle.zst_marks.specs.Marks.{IsMarked}
use Rattle.zst_marks.proofs.Bits.{marked_after, none_marked, with_bit}
use Rattle.zst_block.specs.Blocks.{Has, IsBlock, SparesTaken}
use Rattle.zst_block.specs.declared.ptr.Ptr.{Ptr}
use Rattle.zst_block.proofs.BlocksLaws.{Has-fewer, Has-spared}
use Rattle.zst_extents.proofs.ApartExtents.{Apart-end}
use Rattle.zst_leaves.specs.Leaves.{HasLeaves}
use Rattle.zst_leaves.proofs.LeavesLaws.{HasLeaves-grows}
use Rattle.zst_model.specs.pools.Pool.{Pool}
use Rattle.zst_model.proofs.OrderLaws.{bytes_same, same_bytes}
use Rattle.zst_dir.specs.Rows.{Rows}
use Rattle.zst_dir.specs.Spelling.{dir_bytes}
use Rattle.zst_image.specs.Bodies.{Body, free_by}
use Rattle.zst_image.specs.Reads.{HasDir, ReadsAs, RunsBy, bound_of, kept_rows}
use Rattle.zst_image.specs.declared.pool_state.PoolState.{PoolState}
use Rattle.zst_reach.proofs.KeptTexts.{HasLeaves-kept}
use Rattle.zst_roots.specs.Unreached.{IsReached}
use Rattle.zst_pool.specs.Reclaims.{AreUnreached}
use Rattle.zst_extents.proofs.UnmarkedSectors.{unmarked_extents}
use Rattle.zst_pool.proofs.UnreachedSectors.{beside, fewer_beside, free_still}

-- ---- sectors that can't be told by a test

module _ (P : ℕ → Type 0) where
  -- of the sectors below an end these words mark those that are so, and no others
  abbrev Mark : ℕ → List ℕ → Type 0
  Mark end words = (sector : ℕ) → IsMarked words sector ↔ ((sector < end) × P sector)

  next_not : (end : ℕ) (words : List ℕ) → ¬ P end → Mark end words → Mark (suc end) words
  next_not end words not are sector = (
    (λ marked. let is = (are sector).0 marked in (omega (arith, is.0), is.1)),
    (λ is. elim (cases_eq sector end) [
      | inl same ↦ absurd (not (subst P same is.1))
      | inr apart ↦ (are sector).1 (omega (arith, apart, is.0), is.1)
    ]),
  )

  next_so : (end : ℕ) (words : List ℕ) → end / 64 < length words → P end → Mark end words → Mark (suc end) (with_bit words end)
  next_so end words inside so are sector =
      let word = get_or words (end / 64) 0 in
      let after = marked_after words end sector word inside (get_or_default words (end / 64) 0 word inside) in (
        (λ marked. ⊎_elim (λ same. (omega (arith, same), subst P (sym same) so)) (λ was. let is = (are sector).0 was in (omega (arith, is.0), is.1)) (after.0 marked)),
        (λ is. after.1 (elim (cases_eq sector end) [ inl same ↦ inl same | inr apart ↦ inr ((are sector).1 (omega (arith, apart, is.0), is.1)) ])),
      )

  -- where it is absurd that there are such words, something is
  words_aside : (room end : ℕ) → end ≤ 64 * room → ((words : List ℕ) → length words ≡ room → Mark end words → ⊥) → ⊥
  words_aside room zero fits none =
      none (replicate room 0) (length-replicate {A = ℕ} room 0) (λ sector. ((λ marked. absurd (none_marked room sector (replicate room 0) refl marked)), (λ is. absurd (omega (arith, is.0)))))
  words_aside room (suc end) fits none = words_aside room end (omega (arith, fits)) (λ words long are.
      let inside : end / 64 < length words = omega (arith, fits, long) in
      none words long (next_not end words (λ so. none (with_bit words end) (length-set words (end / 64) _ ∙ long) (next_so end words inside so are)) are))

-- nor that there are free sectors that are just those which nothing reaches
unreached_aside : (image : List ℕ) (kept : PoolState) → 8 ≤ kept.body.uber.end → ((space : FreeSectors) → AreUnreached image kept [] space → ⊥) → ⊥
unreached_aside image kept on none =
    words_aside (λ sector. IsReached (IsBlock image) kept.body.uber kept.dir [] sector) (kept.body.uber.end / 64 + 1) kept.body.uber.end (omega arith) (λ words long are.
    let found = unmarked_extents words kept.body.uber.end on in
    none (record { end = kept.body.uber.end; sectors = kept.body.uber.sectors; free = found.0 }) (record {
      end = refl;
      sectors = refl;
      apart = found.1.apart;
      below = λ sector under. (
        (λ free reached. ⊎_elim (λ listed. ((found.1.are sector).0 listed).unmarked ((are sector).1 (under, reached))) (λ past. omega (arith, under, past)) free),
        (λ not. inl ((found.1.are sector).1 (record {
          from_on = elim (cases_lt sector 8) [ inl less ↦ absurd (not (inl (inl less))) | inr behind ↦ behind ];
          under = under;
          unmarked = λ marked. not ((are sector).0 marked).1;
        }))),
      );
    }))

-- ---- the directory

in_either : (xs ys : List Extent) (sector : ℕ) → IsInSome (xs ++ ys) sector → IsInSome xs sector ⊎ IsInSome ys sector
in_either [] ys sector some = inr some
in_either (x ∷ xs) ys sector some = ⊎_elim (λ here. inl (inl here)) (λ later. ⊎_elim (λ front. inl (inr front)) (λ back. inr back) (in_either xs ys sector later)) some

module _ (old new : List ℕ) (kept : PoolState) (space : FreeSectors) (are : AreUnreached old kept [] space) (spares : SparesTaken space old new) where
  -- where what nothing reaches is free beside what the body leaves free
  abbrev over : FreeSectors
  over = beside (free_by kept.body) space.free

  before : (sector : ℕ) → IsReached (IsBlock old) kept.body.uber kept.dir [] sector → IsFree over sector → IsFree (free_by kept.body) sector
  before sector reached free = ⊎_elim
      (λ listed. ⊎_elim (λ own. inl own)
      (λ other. elim (cases_lt sector kept.body.uber.end) [
        | inl under ↦ absurd ((are.below sector under).0 (inl other) reached)
        | inr past ↦ inr past
      ]) (in_either kept.body.free space.free sector listed))
      (λ past. inr past) free

  block_stays : (ptr : Ptr) (bytes : List ℕ) → Has old over ptr bytes → Has new (free_by kept.body) ptr bytes
  block_stays ptr bytes has =
      let moved = Has-spared space old new ptr bytes spares (Has-fewer old over space ptr bytes (fewer_beside (free_by kept.body) space are.end) has) in
      let own = Has-fewer old over (free_by kept.body) ptr bytes (free_still (free_by kept.body) space.free) has in
      record { block = moved.block; behind = own.behind; taken = own.taken }

  -- it stands still
  dir_stays : (rows : Rows) → HasDir (Has old (free_by kept.body)) kept.body.uber rows → HasDir (Has new (free_by kept.body)) kept.body.uber rows
  dir_stays rows is = record {
    directory = is.directory;
    count_is = is.count_is;
    leaves = HasLeaves-grows (Has old over) (Has new (free_by kept.body)) block_stays kept.body.uber.dir_levels kept.body.uber.dir_root (dir_bytes rows)
        (HasLeaves-kept old (free_by kept.body) over kept.body.uber.dir_levels kept.body.uber.dir_root (dir_bytes rows) (λ sector reached. before sector (inr (inl reached))) is.leaves);
  }

-- ---- the rows

-- by one image one pool is read, by one body and by rows that are one
abbrev pub ReadsOne : Type 0
ReadsOne = (tight : Bool) (body other : Body) (rows others : Rows) (pool another : Pool) (image : List ℕ) → ReadsAs tight body rows pool image → ReadsAs tight other others another image → rows ≡ others

-- an image reads by any rows that its directory has, of which the same ones last
reads_by : {tight : Bool} (body : Body) (rows others : Rows) (pool : Pool) (image : List ℕ) → kept_rows others ≡ kept_rows rows → HasDir (Has image (free_by body)) body.uber rows
    → ReadsAs tight body others pool image → ReadsAs tight body rows pool image
reads_by {tight = tight} body rows others pool image same dir is =
    let d = is.described in
    record {
      stands = is.stands;
      fits = is.fits;
      in_range = is.in_range;
      described = record {
        id = d.id;
        number = d.number;
        guids = d.guids;
        extents = d.extents;
        apart = d.apart;
        directory = dir;
        rows_are = subst (λ (r : Rows). RunsBy (bound_of tight pool.number) (Has image (free_by body)) r pool) same d.rows_are;
        lawful = d.lawful;
      };
    }

-- so they are those from before, where no sector was written that anything reached
pub rows_stay : ReadsOne → (tight : Bool) (kept : PoolState) (rows others : Rows) (pool : Pool) (old new : List ℕ) → kept_rows others ≡ kept_rows rows
    → ((space : FreeSectors) → AreUnreached old kept [] space → SparesTaken space old new)
    → ReadsAs tight kept.body rows pool old → ReadsAs tight kept.body others pool new → others ≡ rows
rows_stay one tight kept rows others pool old new same spares was is = go (bytes_eq (dir_bytes rows) (dir_bytes others)) refl
  where
    by : HasDir (Has new (free_by kept.body)) kept.body.uber rows → others ≡ rows
    by dir = one tight kept.body kept.body others rows pool pool new is (reads_by kept.body rows others pool new same dir is)

    alike : dir_bytes rows ≡ dir_bytes others → HasDir (Has new (free_by kept.body)) kept.body.uber rows
    alike bytes =
        let d = is.described.directory in
        record {
          directory = was.described.directory.directory;
          count_is = d.count_is ∙ ap length (sym bytes);
          leaves = subst (λ (text : List ℕ). HasLeaves (Has new (free_by kept.body)) kept.body.uber.dir_levels kept.body.uber.dir_root text) (sym bytes) d.leaves;
        }

    go : (t : Bool) → bytes_eq (dir_bytes rows) (dir_bytes others) ≡ t → others ≡ rows
    go true equal = by (alike (same_bytes (dir_bytes rows) (dir_bytes others) equal))
    go false differ = absurd (unreached_aside old kept (Apart-end kept.body.free kept.body.uber.end was.described.apart) (λ space are.
        let rows_are = by (dir_stays old new kept space are (spares space are) rows was.described.directory) in
        true≢false (sym (bytes_same (dir_bytes rows) (dir_bytes others) (ap dir_bytes (sym rows_are))) ∙ differ)))
