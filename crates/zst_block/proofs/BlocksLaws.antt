-- How writes into free sectors follow one another, and what they leave of blocks.
use Rattle.std.proofs.Common.{◌≡◌, inl, inr, ℕ, ◌+◌, ◌*◌, ◌/◌, ◌<◌, ◌≤◌, List, length, refl, sym, ◌∙◌, ap, subst, arith}
use Rattle.std.proofs.lemmas.Bool.{cases_lt}
use Rattle.zst_outside.specs.Images.{DiskState, TornImage, WritesIn, OnlyReads, Leaves-weaker, Leaves-then, Keeps-then}
use Rattle.zst_outside.specs.Ranges.{bytes_at, length-bytes_at, Torn}
use Rattle.zst_space.specs.FreeSectors.{FreeSectors, IsFree}
use Rattle.zst_space.proofs.FreeSectorsLaws.{IsFree-from}
use Rattle.zst_block.specs.Blocks.{IsTaken, IsBlock, Has, FitsDisk, SparesTaken, Spared, FillsFree, KeepsBlocks, Follows}
use Rattle.zst_block.specs.declared.ptr.Ptr.{Ptr}

-- sectors 0 to 7 are never free
pub IsTaken-label : (size : ℕ) (space : FreeSectors) → FitsDisk size space → IsTaken space 0 4096
IsTaken-label size space fits = λ byte starts ends free. let from = IsFree-from 8 (byte / 512) space fits.extents free in omega (arith, ends, from)

-- what isn't free isn't free where fewer sectors are
pub IsTaken-fewer : (space fewer : FreeSectors) (place count : ℕ) → ((sector : ℕ) → IsFree fewer sector → IsFree space sector) → IsTaken space place count → IsTaken fewer place count
IsTaken-fewer space fewer place count less taken = λ byte starts ends free. taken byte starts ends (less (byte / 512) free)

pub Has-fewer : (image : List ℕ) (space fewer : FreeSectors) (ptr : Ptr) (bytes : List ℕ) → ((sector : ℕ) → IsFree fewer sector → IsFree space sector) → Has image space ptr bytes → Has image fewer ptr bytes
Has-fewer image space fewer ptr bytes less has = record { block = has.block; behind = has.behind; taken = IsTaken-fewer space fewer (512 * ptr.sector) ptr.length less has.taken }

-- a block stays where free sectors alone are written
pub Has-spared : (space : FreeSectors) (old new : List ℕ) (ptr : Ptr) (bytes : List ℕ) → SparesTaken space old new → Has old space ptr bytes → Has new space ptr bytes
Has-spared space old new ptr bytes spares has = record {
  block = record {
    placed = record { whole = has.block.placed.whole; inside = omega (arith, spares.size, has.block.placed.inside) };
    bytes_are = spares.ranges (512 * ptr.sector) ptr.length has.taken ∙ has.block.bytes_are;
    sum_is = has.block.sum_is;
  };
  behind = has.behind;
  taken = has.taken;
}

-- and where sectors 0 to 7 alone are
pub Has-label : (space : FreeSectors) (old new : List ℕ) (ptr : Ptr) (bytes : List ℕ) → Torn 0 4096 old new → Has old space ptr bytes → Has new space ptr bytes
Has-label space old new ptr bytes torn has = record {
  block = record {
    placed = record { whole = has.block.placed.whole; inside = omega (arith, torn.size, has.block.placed.inside) };
    bytes_are = torn.above (512 * ptr.sector) ptr.length (omega (arith, has.behind)) ∙ has.block.bytes_are;
    sum_is = has.block.sum_is;
  };
  behind = has.behind;
  taken = has.taken;
}

pub SparesTaken-same : (space : FreeSectors) (image : List ℕ) → SparesTaken space image image
SparesTaken-same space image = record { size = refl; ranges = λ place count taken. refl }

pub SparesTaken-fewer : (space fewer : FreeSectors) (old new : List ℕ) → ((sector : ℕ) → IsFree fewer sector → IsFree space sector) → SparesTaken fewer old new → SparesTaken space old new
SparesTaken-fewer space fewer old new less spares = record { size = spares.size; ranges = λ place count taken. spares.ranges place count (IsTaken-fewer space fewer place count less taken) }

pub SparesTaken-then : (space : FreeSectors) (old mid new : List ℕ) → SparesTaken space old mid → SparesTaken space mid new → SparesTaken space old new
SparesTaken-then space old mid new first second = record { size = second.size ∙ first.size; ranges = λ place count taken. second.ranges place count taken ∙ first.ranges place count taken }

bytes_at-none : (new old : List ℕ) (p n : ℕ) → n ≤ 0 → bytes_at new p n ≡ bytes_at old p n
unfolding bytes_at
bytes_at-none new old p n none = let zero_is : n ≡ 0 = omega (arith, none) in rw zero_is refl

-- a write into free sectors
pub SparesTaken-torn : (space : FreeSectors) (place count : ℕ) (old new : List ℕ) → 0 < count
    → ((byte : ℕ) → place ≤ byte → byte < place + count → IsFree space (byte / 512)) → Torn place count old new → SparesTaken space old new
SparesTaken-torn space place count old new some free torn = record { size = torn.size; ranges = range }
  where
    range : (p n : ℕ) → IsTaken space p n → bytes_at new p n ≡ bytes_at old p n
    range p n taken = elim (cases_lt place (p + n)) [
      | inr below ↦ torn.below p n below
      | inl reaches ↦ elim (cases_lt p (place + count)) [
        | inr behind ↦ torn.above p n behind
        | inl begins ↦ elim (cases_lt p place) [
          | inl before ↦ absurd (taken place (omega (arith, before)) reaches (free place (omega arith) (omega (arith, some))))
          | inr within ↦ elim (cases_lt 0 n) [
            | inl any ↦ absurd (taken p (omega arith) (omega (arith, any)) (free p within begins))
            | inr none ↦ bytes_at-none new old p n none
          ]
        ]
      ]
    ]

pub FillsFree-reads : (old new : DiskState) (space : FreeSectors) → OnlyReads old new → FillsFree old space new space
FillsFree-reads old new space reads = record {
  size = reads.size;
  fewer = λ sector free. free;
  seen = subst (λ (c : List ℕ). SparesTaken space old.seen c) (sym reads.seen) (SparesTaken-same space old.seen);
  honest = reads.honest;
  crash = λ c now. (c, reads.crash c now, SparesTaken-same space c);
  time = Leaves-weaker old new old.images (Spared space old) reads.time (λ c now. (c, now, SparesTaken-same space c));
  kept = reads.kept;
}

pub FillsFree-writes : (old new : DiskState) (space less : FreeSectors) (place count : ℕ) → 0 < count
    → ((byte : ℕ) → place ≤ byte → byte < place + count → IsFree space (byte / 512)) → ((sector : ℕ) → IsFree less sector → IsFree space sector)
    → WritesIn place count old new → FillsFree old space new less
FillsFree-writes old new space less place count some free fewer writes =
    let spared : (c : List ℕ) → TornImage place count old c → Spared space old c = λ c torn. (torn.0, torn.1, SparesTaken-torn space place count torn.0 c some free torn.2) in
    record {
      size = writes.size;
      fewer = fewer;
      seen = SparesTaken-torn space place count old.seen new.seen some free writes.seen;
      honest = writes.honest;
      crash = λ c now. spared c (writes.crash c now);
      time = Leaves-weaker old new (TornImage place count old) (Spared space old) writes.time spared;
      kept = writes.kept;
    }

pub FillsFree-then : (old mid new : DiskState) (first second third : FreeSectors) → FillsFree old first mid second → FillsFree mid second new third → FillsFree old first new third
FillsFree-then old mid new first second third one two =
    let back : (c : List ℕ) → Spared second mid c → Spared first old c = λ c spared.
    let was = one.crash spared.0 spared.1 in
    (was.0, was.1, SparesTaken-then first was.0 spared.0 c was.2 (SparesTaken-fewer first second spared.0 c one.fewer spared.2)) in
    record {
      size = two.size ∙ one.size;
      fewer = λ sector free. one.fewer sector (two.fewer sector free);
      seen = SparesTaken-then first old.seen mid.seen new.seen one.seen (SparesTaken-fewer first second mid.seen new.seen one.fewer two.seen);
      honest = λ is. one.honest (two.honest is);
      crash = λ c now. back c (two.crash c now);
      time = Leaves-then old mid new (Spared first old) (Spared second mid) one.time two.time back;
      kept = Keeps-then old mid new one.time.later one.kept two.kept;
    }

-- every block that was there still is, in what a read gives
pub KeepsBlocks-fills : (old new : DiskState) (space less : FreeSectors) → FillsFree old space new less → KeepsBlocks old.seen space new.seen less
KeepsBlocks-fills old new space less fills = λ ptr bytes has. Has-fewer new.seen space less ptr bytes fills.fewer (Has-spared space old.seen new.seen ptr bytes fills.seen has)

-- and in what a crash leaves
pub Follows-fills : (old new : DiskState) (space less : FreeSectors) → FillsFree old space new less → Follows old.images space new.images less
Follows-fills old new space less fills = λ c now.
    let was = fills.crash c now in
    (was.0, was.1, λ ptr bytes has. Has-fewer c space less ptr bytes fills.fewer (Has-spared space was.0 c ptr bytes was.2 has))

-- a block has the length that its pointer states
pub IsBlock-length : (image : List ℕ) (ptr : Ptr) (bytes : List ℕ) → IsBlock image ptr bytes → length bytes ≡ ptr.length
IsBlock-length image ptr bytes block = ap (λ (xs : List ℕ). length xs) (sym block.bytes_are) ∙ length-bytes_at image (512 * ptr.sector) ptr.length block.placed.inside
