-- Commands on a pool with one file, and what they make of it.
use Rattle.std.specs.Prelude.{◌≡◌, ℕ, Bool, List, [], ◌∷◌, Some, None, Result, Ok, codes, if◌then◌else◌, ◌==◌, nat_lt, ◌&&◌, ◌||◌}
use Rattle.zst_model.specs.declared.pools.command.Command.TheVariants as commands
use Rattle.zst_model.specs.declared.refusals.subjects.Name.TheVariants as names
use Rattle.zst_model.specs.declared.refusals.refusal.Refusal.{Refusal}
use Rattle.zst_model.specs.states.State.{Block, Hole, Data, index_bound}
use Rattle.zst_model.specs.states.DatedState.{DatedState}
use Rattle.zst_model.specs.pools.Sessions.{Held}
use Rattle.zst_model.specs.pools.Pool.{Pool, Snapshot, untouched}
use Rattle.zst_model.specs.pools.Step.{Stepped, stepped}
use Rattle.zst_laws.specs.FileExample.{file, one_file, file_dates, first_block, padded, small, rewritten}

-- a pool as it is made: with this id, the number 1 and nothing in it
abbrev pub new_pool : ℕ → Pool
new_pool id = record { id = id; number = 1; guids = 0; datasets = []; snapshots = []; bookmarks = []; partials = [] }

-- the pool 1 with this number and the file system `tank/a`, which has this head
abbrev pub with_tank : ℕ → DatedState → Pool
with_tank number head = record (new_pool 1) {
  number = number;
  datasets = record { name = codes "tank/a"; kind = 2; origin = None; head = head; redact = [] } ∷ [];
}

-- a command answers this line and leaves this pool
abbrev pub gives : List ℕ → Pool → Result Stepped Refusal
gives line pool = Ok (record { reply = line ∷ []; pool = pool })

-- the file of the example, made by commit 3: it has no block yet
abbrev pub allocated : DatedState
allocated = record {
  state = one_file (λ i. Hole);
  number_date = λ k. if k == 1 then 3 else 0;
  index_date = file_dates (λ i. 3);
}

-- its snapshot, made by commit 5: the guid is 2^32 + 1
abbrev pub small_snapshot : ℕ → Snapshot
small_snapshot now = record { name = codes "tank/a@s"; guid = 4294967297; time = now; number = 5; objects = small; redact = [] }

-- the pool with this number and head after the snapshot
abbrev pub after_snapshot : ℕ → ℕ → DatedState → Pool
after_snapshot now number head = record (with_tank number head) { guids = 1; snapshots = small_snapshot now ∷ [] }

-- each command makes one commit and answers its number; the snapshot is the file with its block
abbrev pub SmallSteps : Type 0
SmallSteps =
    (held : List Held) (now : ℕ)
    → (stepped held now (commands.Fs (codes "tank/a")) (new_pool 1) ≡ gives (codes "ok 2") (with_tank 2 untouched))
    × (stepped held now (commands.Object (codes "tank/a") 1 (record { type_ = 19; bonus_type = 0; block_size = 512 }) [] None) (with_tank 2 untouched)
    ≡ gives (codes "ok 3") (with_tank 3 allocated))
    × (stepped held now (commands.Write (codes "tank/a") 1 0 (170 ∷ [])) (with_tank 3 allocated) ≡ gives (codes "ok 4") (with_tank 4 small))
    × (stepped held now (commands.Snapshot (codes "tank/a@s")) (with_tank 4 small) ≡ gives (codes "ok 5") (after_snapshot now 5 small))

-- equal bytes are written again: the block has the new commit's number as its date
abbrev pub RewrittenStep : Type 0
RewrittenStep =
    (held : List Held) (now made : ℕ)
    → stepped held now (commands.Write (codes "tank/a") 1 0 (170 ∷ [])) (after_snapshot made 5 small) ≡ gives (codes "ok 6") (after_snapshot made 6 rewritten)

-- the file after commit 6 gave it its attributes again: its number is dated, its block stays with its date
abbrev pub put_again : DatedState
put_again = record small { number_date = λ k. if k == 1 then 6 else 0 }

-- the file after commit 6 gave it blocks of 1,024 bytes: all its blocks are made anew
abbrev pub made_anew : DatedState
made_anew = record {
  state = λ k. if k == 1 then Some (record { attr = record file { block_size = 1024 }; blocks = λ i. Hole }) else None;
  number_date = λ k. if k == 1 then 6 else 0;
  index_date = file_dates (λ i. 6);
}

-- `object` on a file that is there, with its block size and with another one
abbrev pub PutSteps : Type 0
PutSteps =
    (held : List Held) (now made : ℕ) → let pool = after_snapshot made 5 small in
    (stepped held now (commands.Object (codes "tank/a") 1 (record { type_ = 19; bonus_type = 0; block_size = 512 }) [] None) pool ≡ gives (codes "ok 6") (after_snapshot made 6 put_again))
    × (stepped held now (commands.Object (codes "tank/a") 1 (record { type_ = 19; bonus_type = 0; block_size = 1024 }) [] None) pool ≡ gives (codes "ok 6") (after_snapshot made 6 made_anew))

-- a zero block 3 beside block 0
abbrev pub zeroed_block : ℕ → Block
zeroed_block i = if i == 3 then Data (padded 0) else first_block i

-- the file after commit 6 wrote a byte 0 into block 3
abbrev pub zeroed : DatedState
zeroed = record small { state = one_file zeroed_block; index_date = file_dates (λ i. if i == 3 then 6 else (if i == 0 then 4 else 3)) }

-- block 3 alone
abbrev pub fourth_block : ℕ → Block
fourth_block i = if i == 3 then Data (padded 0) else Hole

-- the file after commit 7 punched block 0
abbrev pub punched_file : DatedState
punched_file = record small { state = one_file fourth_block; index_date = file_dates (λ i. if i == 0 then 7 else (if i == 3 then 6 else 3)) }

-- whether commit 8 freed a number: it freed 7 and 8
abbrev pub is_freed : ℕ → Bool
is_freed k = k == 7 || k == 8

-- the file after commit 8: the numbers were absent, and are dated too
abbrev pub freed : DatedState
freed = record {
  state = one_file fourth_block;
  number_date = λ k. if is_freed k then 8 else (if k == 1 then 3 else 0);
  index_date = λ k i. if is_freed k && nat_lt i index_bound then 8 else punched_file.index_date k i;
}

-- a block of zeros is written, a block is punched, and absent numbers are freed
abbrev pub ChangedSteps : Type 0
ChangedSteps =
    (held : List Held) (now made : ℕ)
    → (stepped held now (commands.Write (codes "tank/a") 1 3 (0 ∷ [])) (after_snapshot made 5 small) ≡ gives (codes "ok 6") (after_snapshot made 6 zeroed))
    × (stepped held now (commands.Punch (codes "tank/a") 1 0 1) (after_snapshot made 6 zeroed) ≡ gives (codes "ok 7") (after_snapshot made 7 punched_file))
    × (stepped held now (commands.Free (codes "tank/a") 7 2) (after_snapshot made 7 punched_file) ≡ gives (codes "ok 8") (after_snapshot made 8 freed))

-- what is read afterwards: the head's block 0 is a hole, as is its last index, and its end counts the block of zeros; the snapshot is as it was
abbrev pub ChangedReads : Type 0
ChangedReads =
    (held : List Held) (now made : ℕ) → let pool = after_snapshot made 8 freed in
    (stepped held now (commands.Read (names.Dataset (codes "tank/a")) 1 0) pool ≡ gives (codes "hole") pool)
    × (stepped held now (commands.Read (names.Dataset (codes "tank/a")) 1 8796093022207) pool ≡ gives (codes "hole") pool)
    × (stepped held now (commands.ListObjects (names.Dataset (codes "tank/a"))) pool
    ≡ gives (codes "object 1 type 19 size 512 bonustype 0 bonus 0 spill none end 4") pool)
    × (stepped held now (commands.ListObjects (names.Snapshot (codes "tank/a@s"))) pool
    ≡ gives (codes "object 1 type 19 size 512 bonustype 0 bonus 0 spill none end 1") pool)
