-- From which set the one comes that is under way, and what that says of damage.
use Rattle.std.proofs.Common.{◌≡◌, inl, inr, ℕ, Bool, true, false, List, ◌++◌, refl, sym, subst}
use Rattle.zst_outside.specs.Images.{DiskState}
use Rattle.zst_space.specs.FreeSectors.{FreeSectors}
use Rattle.zst_block.specs.Blocks.{FillsFree, KeepsBlocks, SparesTaken}
use Rattle.zst_block.proofs.BlocksLaws.{Has-spared, KeepsBlocks-fills, SparesTaken-same}
use Rattle.zst_tree.specs.declared.tree.ObjSet.{ObjSet}
use Rattle.zst_tree.proofs.LaterDamage.{IsSummedBelow-more, spares_before}
use Rattle.zst_objset.specs.Damage.{AreTreesWithin}
use Rattle.zst_objset.proofs.DamageLaws.{StandsIn-more, set_now}
use Rattle.zst_dir.specs.Rows.{Rows}
use Rattle.zst_image.specs.Bodies.{free_by}
use Rattle.zst_image.specs.declared.pool_state.PoolState.{PoolState}
use Rattle.zst_apply.specs.Damage.{apply_damage}
use Rattle.zst_plan.specs.declared.receive.RecvAsk.{RecvAsk}
use Rattle.zst_recv.specs.Damage.{BeginsWith, ComesFrom, IsBegun, IsDamagedFeed, MakesStage, StaysWith}
use Rattle.zst_recv.specs.Stages.{has_partial, stage_behind, waits_at}
use Rattle.zst_recv.specs.declared.stage.Stage as coded
use Rattle.zst_recv.specs.declared.stage.Stage.TheVariants as stages
use Rattle.zst_recv.proofs.PlanRefusals.{later_begins}

-- ---- one set, and sets one after another

-- what is told of a set after free sectors were written was told of it before
pub same_trees : (old new : DiskState) (space less : FreeSectors) → FillsFree old space new less → (set : ObjSet) → AreTreesWithin (SparesTaken space old.seen) old.size set (SparesTaken less new.seen) set
same_trees old new space less fills set sector stated found (inl slots) = inl (set_now old new space less fills set sector stated found slots)
same_trees old new space less fills set sector stated found (inr tree) = inr (record {
  dnode = tree.dnode;
  stands = StandsIn-more (SparesTaken less new.seen) (SparesTaken space old.seen) (spares_before old new space less fills) set tree.dnode tree.stands;
  damaged = IsSummedBelow-more (SparesTaken less new.seen) (SparesTaken space old.seen) (spares_before old new space less fills) old.size tree.dnode.levels tree.dnode.root sector stated found tree.damaged;
})

trees_then : (images : List ℕ → Type 0) (size other : ℕ) (set : ObjSet) (mid : List ℕ → Type 0) (made : ObjSet) (fewer : List ℕ → Type 0) (last : ObjSet) → other ≡ size → AreTreesWithin images size set mid made → AreTreesWithin mid other made fewer last
    → AreTreesWithin images size set fewer last
trees_then images size other set mid made fewer last same first second = λ sector stated found damaged.
    first sector stated found (subst (λ (n : ℕ). AreTreesWithin mid n made fewer last) same second sector stated found damaged)

-- ---- a stage

module _ (rows : Rows) (ask : RecvAsk) (text : List ℕ) where
  pub stays_same : (stage : coded.Stage) → StaysWith rows ask text stage stage
  stays_same stages.Waits = tt
  stays_same (stages.Lives flags row) = refl
  stays_same (stages.Ends row) = tt
  stays_same (stages.Done received) = tt
  stays_same stages.Over = tt

  module _ (images : List ℕ → Type 0) (size : ℕ) where
    -- the set is the one that the piece began with
    pub comes_with : (before stage : coded.Stage) → StaysWith rows ask text before stage → ComesFrom rows ask text images size before images stage
    comes_with before stages.Waits stays = tt
    comes_with before (stages.Lives flags row) stays = (row.objects, stays, λ sector stated found damaged. damaged)
    comes_with before (stages.Ends row) stays = tt
    comes_with before (stages.Done received) stays = tt
    comes_with before stages.Over stays = tt

    pub comes_kept : (old new : coded.Stage) → old ≡ new → ComesFrom rows ask text images size old images new
    comes_kept old new same = subst (λ (stage : coded.Stage). ComesFrom rows ask text images size old images stage) same (comes_with old old (stays_same old))

    -- none is under way
    pub comes_none : (before : coded.Stage) (fewer : List ℕ → Type 0) (stage : coded.Stage) → has_partial stage ≡ false → ComesFrom rows ask text images size before fewer stage
    comes_none before fewer stages.Waits none = tt
    comes_none before fewer (stages.Lives flags row) none = absurd (cc none)
    comes_none before fewer (stages.Ends row) none = tt
    comes_none before fewer (stages.Done received) none = tt
    comes_none before fewer stages.Over none = tt

  -- records behind others; where still none began, the piece had begun so
  module _ (old mid : DiskState) (space less : FreeSectors) (fills : FillsFree old space mid less) (before : coded.Stage) where
    comes_lives : (between : coded.Stage) (fewer : List ℕ → Type 0) (last : ObjSet) → (waits_at between ≡ true → between ≡ before) → ComesFrom rows ask text (SparesTaken space old.seen) old.size before (SparesTaken less mid.seen) between
        → (set : ObjSet) → BeginsWith rows ask text between set → AreTreesWithin (SparesTaken less mid.seen) mid.size set fewer last
        → (base : ObjSet) × BeginsWith rows ask text before base × AreTreesWithin (SparesTaken space old.seen) old.size base fewer last
    comes_lives stages.Waits fewer last waits first set begins within = (
      set,
      subst (λ (s : coded.Stage). BeginsWith rows ask text s set) (waits refl) begins,
      trees_then (SparesTaken space old.seen) old.size mid.size set (SparesTaken less mid.seen) set fewer last fills.size (same_trees old mid space less fills set) within,
    )
    comes_lives (stages.Lives flags row) fewer last waits first set begins within = (
      first.0,
      first.1,
      trees_then (SparesTaken space old.seen) old.size mid.size first.0 (SparesTaken less mid.seen) row.objects fewer last fills.size first.2
          (subst (λ (s : ObjSet). AreTreesWithin (SparesTaken less mid.seen) mid.size s fewer last) begins within),
    )
    comes_lives (stages.Ends row) fewer last waits first set begins within = absurd begins
    comes_lives (stages.Done received) fewer last waits first set begins within = absurd begins
    comes_lives stages.Over fewer last waits first set begins within = absurd begins

    module _ (between : coded.Stage) (waits : waits_at between ≡ true → between ≡ before) (first : ComesFrom rows ask text (SparesTaken space old.seen) old.size before (SparesTaken less mid.seen) between) where
      pub comes_then : (fewer : List ℕ → Type 0) (after : coded.Stage) → ComesFrom rows ask text (SparesTaken less mid.seen) mid.size between fewer after → ComesFrom rows ask text (SparesTaken space old.seen) old.size before fewer after
      comes_then fewer stages.Waits second = tt
      comes_then fewer (stages.Lives flags row) second = comes_lives between fewer row.objects waits first second.0 second.1 second.2
      comes_then fewer (stages.Ends row) second = tt
      comes_then fewer (stages.Done received) second = tt
      comes_then fewer stages.Over second = tt

      -- what is told of a set behind records is told of the one that the piece began with
      pub damaged_then : (sector : ℕ) (stated found : List ℕ) → IsDamagedFeed mid less rows ask text between sector stated found → IsDamagedFeed old space rows ask text before sector stated found
      damaged_then sector stated found damaged =
          let back = comes_lives between (SparesTaken less mid.seen) damaged.set waits first damaged.set damaged.begins (λ at says finds told. told) in
          record {
            set = back.0;
            begins = back.1;
            damaged = back.2 sector stated found (subst (λ (n : ℕ). apply_damage (SparesTaken less mid.seen) n damaged.set sector stated found) fills.size damaged.damaged);
          }

  -- a piece whose records were committed, or that took none
  pub piece_made : (old mid : DiskState) (free less : FreeSectors) → FillsFree old free mid less → (new : List ℕ) (left : FreeSectors) (before stage : coded.Stage) (taken : Bool)
      → ComesFrom rows ask text (SparesTaken free old.seen) old.size before (SparesTaken less mid.seen) stage → (taken ≡ false → stage ≡ before) → KeepsBlocks old.seen free new left
      → (taken ≡ true → has_partial stage ≡ true → KeepsBlocks mid.seen less new left) → MakesStage rows ask text old.seen free old.size before new left stage
  piece_made old mid free less fills new left before stages.Waits taken comes idle kept moved = tt
  piece_made old mid free less fills new left before (stages.Lives flags row) true comes idle kept moved =
      (comes.0, comes.1, record { mid = mid.seen; less = less; spares = fills.seen; within = comes.2; blocks = moved refl refl })
  piece_made old mid free less fills new left before (stages.Lives flags row) false comes idle kept moved = (
    row.objects,
    subst (λ (s : coded.Stage). BeginsWith rows ask text s row.objects) (idle refl) refl,
    record { mid = old.seen; less = free; spares = SparesTaken-same free old.seen; within = λ sector stated found damaged. damaged; blocks = kept },
  )
  piece_made old mid free less fills new left before (stages.Ends row) taken comes idle kept moved = tt
  piece_made old mid free less fills new left before (stages.Done received) taken comes idle kept moved = tt
  piece_made old mid free less fills new left before stages.Over taken comes idle kept moved = tt

  pub makes_behind : (old : List ℕ) (free : FreeSectors) (size : ℕ) (before : coded.Stage) (new : List ℕ) (left : FreeSectors) (stage : coded.Stage) → MakesStage rows ask text old free size before new left stage
      → MakesStage rows ask text old free size before new left (stage_behind stage)
  makes_behind old free size before new left stages.Waits made = tt
  makes_behind old free size before new left (stages.Lives flags row) made = made
  makes_behind old free size before new left (stages.Ends row) made = tt
  makes_behind old free size before new left (stages.Done received) made = tt
  makes_behind old free size before new left stages.Over made = tt

-- ---- a text that goes on

module _ (rows : Rows) (ask : RecvAsk) (text rest : List ℕ) where
  -- it began so
  pub begun_later : (set : ObjSet) → IsBegun rows ask text set → IsBegun rows ask (text ++ rest) set
  begun_later set is = record { header = is.header; begins = later_begins text rest is.header is.begins; planned = is.planned }

  begins_later : (before : coded.Stage) (set : ObjSet) → BeginsWith rows ask text before set → BeginsWith rows ask (text ++ rest) before set
  begins_later stages.Waits set begins = begun_later set begins
  begins_later (stages.Lives flags row) set begins = begins
  begins_later (stages.Ends row) set begins = absurd begins
  begins_later (stages.Done received) set begins = absurd begins
  begins_later stages.Over set begins = absurd begins

  comes_later : (images : List ℕ → Type 0) (size : ℕ) (before : coded.Stage) (fewer : List ℕ → Type 0) (stage : coded.Stage) → ComesFrom rows ask text images size before fewer stage → ComesFrom rows ask (text ++ rest) images size before fewer stage
  comes_later images size before fewer stages.Waits comes = tt
  comes_later images size before fewer (stages.Lives flags row) comes = (comes.0, begins_later before comes.0 comes.1, comes.2)
  comes_later images size before fewer (stages.Ends row) comes = tt
  comes_later images size before fewer (stages.Done received) comes = tt
  comes_later images size before fewer stages.Over comes = tt

  damaged_later : (old : DiskState) (space : FreeSectors) (before : coded.Stage) (sector : ℕ) (stated found : List ℕ) → IsDamagedFeed old space rows ask text before sector stated found → IsDamagedFeed old space rows ask (text ++ rest) before sector stated found
  damaged_later old space before sector stated found is = record { set = is.set; begins = begins_later before is.set is.begins; damaged = is.damaged }

-- records behind others, of a text that goes on
module _ (rows : Rows) (ask : RecvAsk) (whole text rest : List ℕ) (split : whole ≡ text ++ rest) (old mid : DiskState) (space less : FreeSectors) (fills : FillsFree old space mid less) (before between : coded.Stage) (waits : waits_at between ≡ true → between ≡ before)
    (first : ComesFrom rows ask whole (SparesTaken space old.seen) old.size before (SparesTaken less mid.seen) between) where
  pub comes_on : (fewer : List ℕ → Type 0) (after : coded.Stage) → ComesFrom rows ask text (SparesTaken less mid.seen) mid.size between fewer after → ComesFrom rows ask whole (SparesTaken space old.seen) old.size before fewer after
  comes_on fewer after second =
      comes_then rows ask whole old mid space less fills before between waits first fewer after
      (subst (λ (t : List ℕ). ComesFrom rows ask t (SparesTaken less mid.seen) mid.size between fewer after) (sym split) (comes_later rows ask text rest (SparesTaken less mid.seen) mid.size between fewer after second))

  pub damaged_on : (sector : ℕ) (stated found : List ℕ) → IsDamagedFeed mid less rows ask text between sector stated found → IsDamagedFeed old space rows ask whole before sector stated found
  damaged_on sector stated found is =
      damaged_then rows ask whole old mid space less fills before between waits first sector stated found
      (subst (λ (t : List ℕ). IsDamagedFeed mid less rows ask t between sector stated found) (sym split) (damaged_later rows ask text rest mid less between sector stated found is))

-- over its pool's free sectors
pub comes_renewed : (old one : DiskState) (space : FreeSectors) (kept same : PoolState) (ask : RecvAsk) (text : List ℕ) (was before : coded.Stage) (fewer : List ℕ → Type 0) (stage : coded.Stage) → one ≡ old → space ≡ free_by kept.body → same ≡ kept → was ≡ before
    → ComesFrom same.dir ask text (SparesTaken space one.seen) one.size was fewer stage → ComesFrom kept.dir ask text (SparesTaken (free_by kept.body) old.seen) old.size before fewer stage
comes_renewed old one space kept same ask text was before fewer stage disk free stays at comes =
    subst (λ (d : DiskState). ComesFrom kept.dir ask text (SparesTaken (free_by kept.body) d.seen) d.size before fewer stage) disk
    (subst (λ (s : FreeSectors). ComesFrom kept.dir ask text (SparesTaken s one.seen) one.size before fewer stage) free
    (subst (λ (k : PoolState). ComesFrom k.dir ask text (SparesTaken space one.seen) one.size before fewer stage) stays
    (subst (λ (b : coded.Stage). ComesFrom same.dir ask text (SparesTaken space one.seen) one.size b fewer stage) at comes)))

-- ---- blocks that stand

-- they still stand in the sectors that were taken before
pub keeps_same : (old : List ℕ) (space : FreeSectors) (new : List ℕ) (less : FreeSectors) → KeepsBlocks old space new less → KeepsBlocks old space new space
keeps_same old space new less keeps = λ ptr bytes has. record { block = (keeps ptr bytes has).block; behind = has.behind; taken = has.taken }

pub keeps_spared : (space : FreeSectors) (old new : List ℕ) → SparesTaken space old new → KeepsBlocks old space new space
keeps_spared space old new spares = λ ptr bytes has. Has-spared space old new ptr bytes spares has

-- blocks were written into free sectors, and then the others were kept
pub keeps_written : (old mid : DiskState) (free less : FreeSectors) (new : List ℕ) → FillsFree old free mid less → KeepsBlocks mid.seen less new less → KeepsBlocks old.seen free new free
keeps_written old mid free less new fills keeps = λ ptr bytes has.
    let there = keeps ptr bytes (KeepsBlocks-fills old mid free less fills ptr bytes has) in
    record { block = there.block; behind = has.behind; taken = has.taken }
