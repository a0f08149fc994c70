-- What is marked once the rows were walked, then what sessions hold, and then the texts, and what is free by it.
use Rattle.std.proofs.Common.{◌≡◌, ◌⊎◌, ◌↔◌, inl, inr, ⊎_elim, ℕ, ◌<◌, List, subst, arith}
use Rattle.std.proofs.lemmas.Bool.{cases_lt}
use Rattle.zst_block.specs.Blocks.{IsBlock}
use Rattle.zst_dir.specs.Rows.{Rows}
use Rattle.zst_marks.specs.Marks.{IsMarked, IsUnmarked, MarksMore}
use Rattle.zst_reach.specs.ReachedSets.{AllMarked}
use Rattle.zst_space.specs.FreeSectors.{FreeSectors, IsFree, IsInSome}
use Rattle.zst_uber.specs.declared.uber.Uber.{Uber}
use Rattle.zst_roots.specs.Held.{HeldReaches}
use Rattle.zst_roots.specs.ReachedRows.{AreMarkedForRows, RowsReach}
use Rattle.zst_roots.specs.Unreached.{IsReached, StaysReached, TextsReach}
use Rattle.zst_roots.specs.declared.held.HeldBlocks.{HeldBlocks}

-- all sectors before the end of which this is so are marked, and no others
pub record MarksExactly (is : ℕ → Type 0) (end : ℕ) (marks : List ℕ) : Type 0 where
  pub all : (sector : ℕ) → is sector → sector < end → IsMarked marks sector
  pub only : (sector : ℕ) → IsMarked marks sector → is sector

pub marked_exactly : (is : ℕ → Type 0) (end : ℕ) (marks : List ℕ) → MarksExactly is end marks → (sector : ℕ) → sector < end → IsMarked marks sector ↔ is sector
marked_exactly is end marks exactly sector under = (exactly.only sector, λ so. exactly.all sector so under)

module _ (image : List ℕ) (uber : Uber) (rows : Rows) (held : List HeldBlocks) where
  -- the first eight sectors were marked, then what the rows reach, and then what sessions hold
  pub stay_exactly : (now first marks more : List ℕ) → now ≡ image → ((sector : ℕ) → IsMarked first sector ↔ (sector < 8)) → MarksMore first marks → AreMarkedForRows image uber.end marks rows
      → ((sector : ℕ) → IsMarked marks sector → IsMarked first sector ⊎ RowsReach (IsBlock image) rows sector) → MarksMore marks more → AllMarked now uber.end more (HeldReaches (IsBlock now) held)
      → ((sector : ℕ) → IsMarked more sector → IsMarked marks sector ⊎ HeldReaches (IsBlock now) held sector) → MarksExactly (StaysReached (IsBlock image) rows held) uber.end more
  stay_exactly now first marks more same eight up all only again all_held only_held = record {
    all = λ sector stays under. ⊎_elim (λ less. again.stay sector (up.stay sector ((eight sector).1 less)))
        (λ reached. ⊎_elim (λ by. again.stay sector (all sector by under))
        (λ by. subst (λ (seen : List ℕ). AllMarked seen uber.end more (HeldReaches (IsBlock seen) held)) same all_held sector by under) reached) stays;
    only = λ sector marked. ⊎_elim (λ was. ⊎_elim (λ less. inl ((eight sector).0 less)) (λ by. inr (inl by)) (only sector was))
        (λ by. inr (inr (subst (λ (seen : List ℕ). HeldReaches (IsBlock seen) held sector) same by))) (only_held sector marked);
  }

  -- and then what the texts do
  pub texts_exactly : (now marks more : List ℕ) → now ≡ image → MarksExactly (StaysReached (IsBlock image) rows held) uber.end marks → MarksMore marks more → AllMarked now uber.end more (TextsReach (IsBlock now) uber)
      → ((sector : ℕ) → IsMarked more sector → IsMarked marks sector ⊎ TextsReach (IsBlock now) uber sector) → MarksExactly (IsReached (IsBlock image) uber rows held) uber.end more
  texts_exactly now marks more same exactly up all only = record {
    all = λ sector reached under. ⊎_elim (λ stays. up.stay sector (exactly.all sector stays under))
        (λ by. subst (λ (seen : List ℕ). AllMarked seen uber.end more (TextsReach (IsBlock seen) uber)) same all sector by under) reached;
    only = λ sector marked. ⊎_elim (λ was. inl (exactly.only sector was)) (λ by. inr (subst (λ (seen : List ℕ). TextsReach (IsBlock seen) uber sector) same by)) (only sector marked);
  }

  -- what isn't marked from sector 8 on is what isn't reached
  pub free_exactly : (marks : List ℕ) (space : FreeSectors) → space.end ≡ uber.end → ((sector : ℕ) → IsInSome space.free sector ↔ IsUnmarked marks 8 uber.end sector) → MarksExactly (IsReached (IsBlock image) uber rows held) uber.end marks
      → (sector : ℕ) → sector < uber.end → IsFree space sector ↔ ¬ IsReached (IsBlock image) uber rows held sector
  free_exactly marks space end_is are exactly sector under = (
    (λ free reached. ⊎_elim (λ listed. ((are sector).0 listed).unmarked (exactly.all sector reached under)) (λ past. absurd (omega (arith, past, end_is, under))) free),
    (λ not. elim (cases_lt sector 8) [
      | inl less ↦ absurd (not (inl (inl less)))
      | inr on ↦ inl ((are sector).1 (record { from_on = on; under = under; unmarked = λ marked. not (exactly.only sector marked) }))
    ]),
  )
