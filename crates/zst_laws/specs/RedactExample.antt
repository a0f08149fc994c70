-- The redaction list of a snapshot with two clones.
use Rattle.std.specs.Prelude.{◌≡◌, ℕ, [], ◌∷◌, if◌then◌else◌, ◌==◌, ◌&&◌}
use Rattle.zst_model.specs.declared.sends.header.Header.{Header}
use Rattle.zst_model.specs.declared.states.item.Change.TheVariants.{FreeFrom, Redact, Write}
use Rattle.zst_model.specs.declared.states.item.Item.TheVariants.{At}
use Rattle.zst_model.specs.states.State.{Hole, Data}
use Rattle.zst_model.specs.states.DatedState.{DatedState}
use Rattle.zst_model.specs.sends.Inclusion.{Pairs}
use Rattle.zst_model.specs.sends.View.{view_of}
use Rattle.zst_model.specs.sends.Items.{items, origin}
use Rattle.zst_model.specs.pools.RedSet.{red_set}
use Rattle.zst_laws.specs.ExactSends.{full}
use Rattle.zst_laws.specs.FileExample.{one_file, file_dates, file_put, rest_gone, padded}

-- what differs at the indices 0, 1 and 2, and what all others have
abbrev pub of_three : {A : Type 0} → A → A → A → A → ℕ → A
of_three a b c other i = if i == 0 then a else (if i == 1 then b else (if i == 2 then c else other))

-- the snapshot, made by commit 7: a file with the blocks 0, 1 and 2, which the commits 4, 5 and 6 wrote
abbrev pub three : DatedState
three = record {
  state = one_file (of_three (Data (padded 160)) (Data (padded 161)) (Data (padded 162)) Hole);
  number_date = λ k. if k == 1 then 3 else 0;
  index_date = file_dates (of_three 4 5 6 3);
}

-- a clone of it whose blocks 0 and 1 the commits 10 and 11 wrote
abbrev pub first_clone : DatedState
first_clone = record three {
  state = one_file (of_three (Data (padded 176)) (Data (padded 177)) (Data (padded 162)) Hole);
  index_date = file_dates (of_three 10 11 6 3);
}

-- a clone of it whose block 1 commit 12 wrote, and whose block 2 commit 13 punched
abbrev pub second_clone : DatedState
second_clone = record three {
  state = one_file (of_three (Data (padded 160)) (Data (padded 193)) Hole Hole);
  index_date = file_dates (of_three 4 12 13 3);
}

-- the pair of the file and its block 1
abbrev pub middle : Pairs
middle k i = k == 1 && i == 1

-- what the redaction bookmark of the snapshot with these clones lists
abbrev pub listed : Pairs
listed = red_set three.state 7 (first_clone ∷ second_clone ∷ [])

-- the block that both clones changed is listed, and no other
abbrev pub TwoClonesList : Type 0
TwoClonesList = (k i : ℕ) → listed k i ≡ middle k i

-- the stream of the snapshot with the list has a REDACT in the place of that block's WRITE
abbrev pub RedactedItems : Type 0
RedactedItems =
    (header : Header)
    → items (view_of header three (full listed)) origin
    ≡ file_put 2 ∷ At 1 (FreeFrom 1536) ∷ At 1 (Write 0 19 (padded 160)) ∷ At 1 (Redact 512 512) ∷ At 1 (Write 1024 19 (padded 162)) ∷ rest_gone ∷ []
