-- What a disk is to those who use it: what a read gives, and what a crash may leave.
use Rattle.std.specs.Prelude.{◌≡◌, ◌⊎◌, ℕ, ◌+◌, ◌≤◌, List, refl}
use Rattle.std.proofs.Common.{inl, inr, ⊎_elim, ◌∙◌, subst, sym, arith}
use Rattle.zst_outside.specs.Ranges.{Torn, Torn-same, Torn-then, Torn-wider}

pub record DiskState : Type 1 where
  -- how many bytes it has
  pub size : ℕ
  -- what a read gives, where the disk is honest
  pub seen : List ℕ
  -- no read so far gave other bytes
  pub honest : Type 0
  -- what a crash now may leave, as far as it is told
  pub images : List ℕ → Type 0
  -- the moment, as a number that doesn't fall
  pub moment : ℕ
  -- what a crash at some moment from that one on may have left, as far as it is told
  pub left_since : ℕ → List ℕ → Type 0
  -- the count of calls
  pub calls : ℕ
  -- the count of faults
  pub faults : ℕ

-- there is no image but what a read gives
abbrev pub IsSynced : DiskState → Type 0
IsSynced disk = (c : List ℕ) → disk.images c → c ≡ disk.seen

-- an image that stood before, torn in this range
abbrev pub TornImage : ℕ → ℕ → DiskState → List ℕ → Type 0
TornImage place count old c = (d : List ℕ) × old.images d × Torn place count d c

-- time went on, and no moment in between left an image without P
pub record Leaves (old new : DiskState) (P : List ℕ → Type 0) : Type 0 where
  pub later : old.moment ≤ new.moment
  pub adds : (t : ℕ) (c : List ℕ) → t ≤ old.moment → new.left_since t c → old.left_since t c ⊎ P c

-- nothing that a crash may have left is forgotten
abbrev pub Keeps : DiskState → DiskState → Type 0
Keeps old new = (t : ℕ) (c : List ℕ) → t ≤ old.moment → old.left_since t c → new.left_since t c

-- A part of a run that only read: what a read gives is as before, and a crash leaves no image that it didn't leave before.
pub record OnlyReads (old new : DiskState) : Type 0 where
  pub size : new.size ≡ old.size
  pub seen : new.seen ≡ old.seen
  pub honest : new.honest → old.honest
  pub crash : (c : List ℕ) → new.images c → old.images c
  pub time : Leaves old new old.images
  pub kept : Keeps old new

-- A part of a run that wrote in this range alone: outside it a read gives what it gave, and a crash leaves what it left.
pub record WritesIn (place count : ℕ) (old new : DiskState) : Type 0 where
  pub size : new.size ≡ old.size
  pub seen : Torn place count old.seen new.seen
  pub honest : new.honest → old.honest
  pub crash : (c : List ℕ) → new.images c → TornImage place count old c
  pub time : Leaves old new (TornImage place count old)
  pub kept : Keeps old new

-- How parts of a run follow one another.

-- where nothing is done, no image is added
pub Leaves-none : (disk : DiskState) (P : List ℕ → Type 0) → Leaves disk disk P
Leaves-none disk P = record { later = omega arith; adds = λ t c le left. inl left }

-- a weaker fact holds of each image too
pub Leaves-weaker : (old new : DiskState) (P Q : List ℕ → Type 0) → Leaves old new P → ((c : List ℕ) → P c → Q c) → Leaves old new Q
Leaves-weaker old new P Q leaves is = record {
  later = leaves.later;
  adds = λ t c le left. ⊎_elim (λ before. inl before) (λ here. inr (is c here)) (leaves.adds t c le left);
}

-- one part and then another
pub Leaves-then : (old mid new : DiskState) (P Q : List ℕ → Type 0) → Leaves old mid P → Leaves mid new Q → ((c : List ℕ) → Q c → P c) → Leaves old new P
Leaves-then old mid new P Q first second is = record {
  later = omega (arith, first.later, second.later);
  adds = λ t c le left. ⊎_elim (λ before. first.adds t c le before) (λ here. inr (is c here)) (second.adds t c (omega (arith, le, first.later)) left);
}

-- what neither part forgets is kept
pub Keeps-then : (old mid new : DiskState) → old.moment ≤ mid.moment → Keeps old mid → Keeps mid new → Keeps old new
Keeps-then old mid new later first second = λ t c le left. second t c (omega (arith, le, later)) (first t c le left)

-- where nothing is done, it only reads
pub OnlyReads-none : (disk : DiskState) → OnlyReads disk disk
OnlyReads-none disk = record { size = refl; seen = refl; honest = λ is. is; crash = λ c image. image; time = Leaves-none disk disk.images; kept = λ t c le left. left }

-- two parts that only read
pub OnlyReads-then : (old mid new : DiskState) → OnlyReads old mid → OnlyReads mid new → OnlyReads old new
OnlyReads-then old mid new first second = record {
  size = second.size ∙ first.size;
  seen = second.seen ∙ first.seen;
  honest = λ is. first.honest (second.honest is);
  crash = λ c image. first.crash c (second.crash c image);
  time = Leaves-then old mid new old.images mid.images first.time second.time first.crash;
  kept = Keeps-then old mid new first.time.later first.kept second.kept;
}

-- who only reads writes in no range
pub WritesIn-reads : (place count : ℕ) (old new : DiskState) → OnlyReads old new → WritesIn place count old new
WritesIn-reads place count old new reads = record {
  size = reads.size;
  seen = subst (λ (bytes : List ℕ). Torn place count old.seen bytes) (sym reads.seen) (Torn-same place count old.seen);
  honest = reads.honest;
  crash = λ c image. (c, reads.crash c image, Torn-same place count c);
  time = Leaves-weaker old new old.images (TornImage place count old) reads.time (λ c image. (c, image, Torn-same place count c));
  kept = reads.kept;
}

-- an image torn twice is a torn one
TornImage-back : (place count : ℕ) (old mid : DiskState) → WritesIn place count old mid → (c : List ℕ) → TornImage place count mid c → TornImage place count old c
TornImage-back place count old mid first c torn =
    let was = first.crash torn.0 torn.1 in
    (was.0, was.1, Torn-then place count was.0 torn.0 c was.2 torn.2)

-- two parts that write in one range
pub WritesIn-then : (place count : ℕ) (old mid new : DiskState) → WritesIn place count old mid → WritesIn place count mid new → WritesIn place count old new
WritesIn-then place count old mid new first second = record {
  size = second.size ∙ first.size;
  seen = Torn-then place count old.seen mid.seen new.seen first.seen second.seen;
  honest = λ is. first.honest (second.honest is);
  crash = λ c image. TornImage-back place count old mid first c (second.crash c image);
  time = Leaves-then old mid new (TornImage place count old) (TornImage place count mid) first.time second.time (TornImage-back place count old mid first);
  kept = Keeps-then old mid new first.time.later first.kept second.kept;
}

-- who writes in a part of a range writes in the range
pub WritesIn-wider : (place count p n : ℕ) (old new : DiskState) → place ≤ p → p + n ≤ place + count → WritesIn p n old new → WritesIn place count old new
WritesIn-wider place count p n old new starts ends writes =
    let wider : (c : List ℕ) → TornImage p n old c → TornImage place count old c = λ c torn. (torn.0, torn.1, Torn-wider place count p n torn.0 c starts ends torn.2) in
    record {
      size = writes.size;
      seen = Torn-wider place count p n old.seen new.seen starts ends writes.seen;
      honest = writes.honest;
      crash = λ c image. wider c (writes.crash c image);
      time = Leaves-weaker old new (TornImage p n old) (TornImage place count old) writes.time wider;
      kept = writes.kept;
    }
