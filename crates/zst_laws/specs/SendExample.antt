-- The items of an object with all that an object may have, and those of an increment over several objects.
use Rattle.std.specs.Prelude.{◌≡◌, ℕ, false, [], ◌∷◌, replicate, Some, None, if◌then◌else◌, ◌==◌}
use Rattle.zst_model.specs.declared.sends.header.Header.{Header}
use Rattle.zst_model.specs.declared.states.item.Change.TheVariants.{Put, Spill, FreeFrom, Free, Write}
use Rattle.zst_model.specs.declared.states.item.Item.{Item}
use Rattle.zst_model.specs.declared.states.item.Item.TheVariants.{FreeObjects, At}
use Rattle.zst_model.specs.states.State.{Block, Hole, Data}
use Rattle.zst_model.specs.states.DatedState.{DatedState}
use Rattle.zst_model.specs.sends.Inclusion.{no_pairs}
use Rattle.zst_model.specs.sends.View.{view_of}
use Rattle.zst_model.specs.sends.Items.{items, origin}
use Rattle.zst_laws.specs.ExactSends.{full}
use Rattle.zst_laws.specs.FileExample.{file_of, first_block, padded, since, rest_gone}
use Rattle.zst_laws.specs.LineExample.{whole_object}

-- a snapshot with one object, which has a bonus, a spill, a hole and a block
abbrev pub whole : DatedState
whole = record {
  state = λ k. if k == 1 then Some whole_object else None;
  number_date = λ k. if k == 1 then 3 else 0;
  index_date = λ k i. if k == 1 then 4 else 0;
}

-- OBJECT with the bonus, SPILL, the tail FREE, then the blocks
abbrev pub WholeItems : Type 0
WholeItems =
    (header : Header)
    → items (view_of header whole (full no_pairs)) origin
    ≡ At 1 (Put (record { type_ = 20; bonus_type = 44; block_size = 1024 }) (1 ∷ 2 ∷ 3 ∷ []) false 1)
    ∷ At 1 (Spill (replicate 512 9)) ∷ At 1 (FreeFrom 2048)
    ∷ At 1 (Free 0 1024) ∷ At 1 (Write 1024 20 (replicate 1024 1)) ∷ rest_gone ∷ []

-- data in block 2 alone
abbrev pub third_block : ℕ → Block
third_block i = if i == 2 then Data (padded 187) else Hole

-- after a snapshot with the number 5: commit 6 wrote block 2 of file 1, commit 7 punched its block 0, commit 8 freed object 2, and the commits 9 and 10 made file 3 and wrote its block 0
abbrev pub later : DatedState
later = record {
  state = λ k. if k == 1 then Some (file_of third_block) else (if k == 3 then Some (file_of first_block) else None);
  number_date = λ k. if k == 1 then 3 else (if k == 2 then 8 else (if k == 3 then 9 else 0));
  index_date = λ k i.
      if k == 1
      then (if i == 0 then 7 else (if i == 2 then 6 else 3))
      else (if k == 2 then 8 else (if k == 3 then (if i == 0 then 10 else 9) else 0));
}

-- OBJECT of a file with blocks of 512 bytes
abbrev pub file_at : ℕ → ℕ → Item
file_at k max_block = At k (Put (record { type_ = 19; bonus_type = 0; block_size = 512 }) [] false max_block)

-- block 1 of file 1 isn't sent: no commit has touched it since
abbrev pub ChangedItems : Type 0
ChangedItems =
    (header : Header)
    → items (view_of header later (since 5)) origin
    ≡ file_at 1 2 ∷ At 1 (FreeFrom 1536) ∷ At 1 (Free 0 512) ∷ At 1 (Write 1024 19 (padded 187))
    ∷ FreeObjects 2 1
    ∷ file_at 3 0 ∷ At 3 (FreeFrom 512) ∷ At 3 (Write 0 19 (padded 170)) ∷ []
