-- Blocks that are kept, and what is told of them.
use Rattle.std.proofs.Common.{◌≡◌, ◌⊎◌, inl, inr, ⊎_elim, Contains, ℕ, ◌+◌, ◌*◌, ◌/◌, ◌≤◌, List, [], ◌++◌, length, refl, sym, ◌∙◌, ap, subst, arith, true≢false}
use Rattle.std.specs.Prelude.{Bool, true, false, Result, Ok, Err, Option, Some, None, IfOk, IsErr, IsSome, IsTrue, nat_eq}
use Rattle.std.specs.Map.{lookup, lookup_entry}
use Rattle.std.proofs.lemmas.Bool.{eq-eqb, eqb-true}
use Rattle.lru.specs.LruCache.{lru_cache, promoted}
use Rattle.lru.proofs.CallerLemmas.{Contains-lookup_entry, Contains-promoted, Contains-put_entries}
use Rattle.lru.proofs.Matching.{none_found}
use Rattle.lru.proofs.Splits.{Contains-nil}
use Rattle.std.proofs.lemmas.List.{append-nil, drop_all}
use Rattle.zst_bytes.specs.Bytes.{written}
use Rattle.zst_fletcher.specs.WeightSum.{weight_sum, parts_of}
use Rattle.zst_outside.specs.Ranges.{bytes_at}
use Rattle.zst_block.specs.Blocks.{Has, IsBlock, IsPlaced, named}
use Rattle.zst_block.specs.KeptBlocks.{Forgets, Keeps, KeepsNone}
use Rattle.zst_block.proofs.BlocksLaws.{IsBlock-length}
use Rattle.zst_space.specs.FreeSectors.{FreeSectors}
use Rattle.zst_block.specs.ReadAnswers.{Compares, GivesBlock, ReadAnswers}
use Rattle.zst_block.specs.declared.fault.BlockFault.{BlockFault}
use Rattle.zst_block.specs.declared.fault.BlockFault.TheVariants.{Full, Damaged, DiskFault}
use Rattle.zst_block.specs.declared.ptr.Ptr.{Ptr}
use Rattle.zst_outside.specs.Images.{DiskState, WritesIn}

-- a sector whose look-up finds nothing
pub KeepsNone-lookup : (kept : List (ℕ × List ℕ)) (sector : ℕ) → lookup (nat_eq sector) kept ≡ None → KeepsNone kept sector
KeepsNone-lookup kept sector none bytes is = absurd (true≢false (sym (eq-eqb sector sector refl) ∙ none_found (nat_eq sector) kept none (sector, bytes) is))

-- no block goes first where none of the sector is kept
pub promoted-none : (kept : List (ℕ × List ℕ)) (sector : ℕ) → KeepsNone kept sector → promoted (nat_eq sector) kept ≡ kept
promoted-none kept sector none = by (lookup_entry (nat_eq sector) kept) refl
  where
    by : (found : Option (ℕ × List ℕ)) → lookup_entry (nat_eq sector) kept ≡ found → promoted (nat_eq sector) kept ≡ kept
    by None is = rw is
    by (Some pair) is =
        let there = Contains-lookup_entry (nat_eq sector) kept pair is in
        absurd (none pair.1 (rw (eqb-true sector pair.0 there.1) there.0))

-- none is kept where a look-up can't find one
pub KeepsNone-none : (kept : List (ℕ × List ℕ)) (sector : ℕ) → ¬ IsSome (lookup (nat_eq sector) kept) → KeepsNone kept sector
KeepsNone-none kept sector never = by (lookup (nat_eq sector) kept) refl
  where
    by : (found : Option (List ℕ)) → lookup (nat_eq sector) kept ≡ found → KeepsNone kept sector
    by None is = KeepsNone-lookup kept sector is
    by (Some bytes) is = absurd (never (rw is refl))

-- a node that is written over as a whole is what was written
pub whole : (bytes old : List ℕ) (count : ℕ) → length old ≤ count → written 0 count bytes old ≡ bytes
unfolding written
whole bytes old count all = ap (λ (rest : List ℕ). bytes ++ rest) (drop_all (0 + count) old (omega (arith, all))) ∙ append-nil bytes

-- the bytes of a node's length are what its pointer names
pub named_node : (image : List ℕ) (ptr : Ptr) (node : List ℕ) → ptr.length ≡ 8192 → bytes_at image (512 * ptr.sector) 8192 ≡ node → named image ptr ≡ node
named_node image ptr node stated told = rw stated told

-- comparing the bytes that a pointer names answers as a read does
pub compared_answer : (image : List ℕ) (size : ℕ) (ptr : Ptr) (node : List ℕ) (result : Result (Unit {0}) BlockFault) → length image ≡ size → IsPlaced size ptr → named image ptr ≡ node → Compares ptr node result → ReadAnswers image size ptr node result
compared_answer image size ptr node (Ok done) long placed is sum = record { placed = rw long placed; bytes_are = is; sum_is = sum }
compared_answer image size ptr node (Err (Damaged sector stated found)) long placed is compared =
    (compared.0, compared.1, inl (placed, compared.2 ∙ ap (λ (b : List ℕ). parts_of (weight_sum b)) (sym is), λ same. compared.3 (ap weight_sum (sym is) ∙ same)))
compared_answer image size ptr node (Err (Full need largest)) long placed is compared = absurd compared
compared_answer image size ptr node (Err DiskFault) long placed is compared = absurd compared

-- and gives a block that is there
pub compared_gives : (image : List ℕ) (ptr : Ptr) (node bytes : List ℕ) (result : Result (Unit {0}) BlockFault) → named image ptr ≡ node → IsBlock image ptr bytes → Compares ptr node result → GivesBlock bytes node result
compared_gives image ptr node bytes (Ok done) is block sum = sym is ∙ block.bytes_are
compared_gives image ptr node bytes (Err (Damaged sector stated found)) is block compared = absurd (compared.3 (ap weight_sum (sym is ∙ block.bytes_are) ∙ block.sum_is))
compared_gives image ptr node bytes (Err (Full need largest)) is block compared = absurd compared
compared_gives image ptr node bytes (Err DiskFault) is block compared = absurd compared

-- what a block was read as is what the disk has there
pub block_bytes : (image : List ℕ) (size : ℕ) (ptr : Ptr) (node : List ℕ) (result : Result (Unit {0}) BlockFault) → result ≡ Ok tt → ptr.length ≡ 8192 → ReadAnswers image size ptr node result → bytes_at image (512 * ptr.sector) 8192 ≡ node
block_bytes image size ptr node result ok stated answer =
    let block : IsBlock image ptr node = subst (λ (r : Result (Unit {0}) BlockFault). ReadAnswers image size ptr node r) ok answer in
    rw stated at block.bytes_are

-- what is kept behind a write was kept before it
pub kept_before : (before kept : List (ℕ × List ℕ)) (result : Result Ptr BlockFault) → IfOk result (λ ptr. Forgets before kept ptr.sector (ptr.length / 512)) → (IsErr result → kept ≡ [])
    → (sector : ℕ) (bytes : List ℕ) → Contains kept (sector, bytes) → Contains before (sector, bytes)
kept_before before kept (Ok ptr) forgot none sector bytes is = ⊎_elim (λ all. rw all at is) (λ gone. absurd (Contains-nil _ (rw gone at is))) forgot.all_or_none
kept_before before kept (Err fault) forgot none sector bytes is = absurd (Contains-nil _ (rw (none refl) at is))

-- and is what the disk has there
pub told_after : (old new : DiskState) (space : FreeSectors) (written_bytes : List ℕ) (before kept : List (ℕ × List ℕ)) (result : Result Ptr BlockFault)
    → (old.honest → (sector : ℕ) (bytes : List ℕ) → Contains before (sector, bytes) → bytes_at old.seen (512 * sector) 8192 ≡ bytes)
    → IfOk result (λ ptr. Forgets before kept ptr.sector (ptr.length / 512)) → (IsErr result → kept ≡ [])
    → IfOk result (λ ptr. WritesIn (512 * ptr.sector) ptr.length old new) → IfOk result (λ ptr. Has new.seen space ptr written_bytes)
    → new.honest → (sector : ℕ) (bytes : List ℕ) → Contains kept (sector, bytes) → bytes_at new.seen (512 * sector) 8192 ≡ bytes
told_after old new space written_bytes before kept (Ok ptr) told forgot none writes wrote honest sector bytes is =
    ⊎_elim (λ low. writes.seen.below (512 * sector) 8192 (omega (arith, low))) (λ high. writes.seen.above (512 * sector) 8192 (omega (arith, high, wrote.block.placed.whole))) (forgot.apart sector bytes is)
    ∙ told (writes.honest honest) sector bytes (kept_before before kept (Ok ptr) forgot none sector bytes is)
told_after old new space written_bytes before kept (Err fault) told forgot none writes wrote honest sector bytes is =
    absurd (Contains-nil _ (subst (λ (l : List (ℕ × List ℕ)). Contains l (sector, bytes)) (none refl) is))

-- each block that is kept after one more was is that one, or was kept before
pub Contains-Keeps : (old new : List (ℕ × List ℕ)) (sector : ℕ) (bytes : List ℕ) → Keeps old new sector bytes
    → (first : ℕ) (node : List ℕ) → Contains new (first, node) → ((first ≡ sector) × (node ≡ bytes)) ⊎ Contains old (first, node)
Contains-Keeps old new sector bytes keeps first node is =
    ⊎_elim (λ put. ⊎_elim (λ before. inr before) (λ same. inl (⊎_elim (λ key. key) (λ other. sym (eqb-true sector first other.2)) same.1, same.0))
    (Contains-put_entries nat_eq (lru_cache old 64) sector bytes (first, node) (rw put at is))) (⊎_elim (λ none. inr (rw none.0 at is)) (λ empty. absurd (Contains-nil _ (rw empty at is)))) keeps

-- the same after a node was saved
pub kept_or_saved : (before kept : List (ℕ × List ℕ)) (node : List ℕ) (result : Result Ptr BlockFault) → IfOk result (λ ptr. Keeps before kept ptr.sector node) → (IsErr result → kept ≡ before)
    → (sector : ℕ) (bytes : List ℕ) → Contains kept (sector, bytes) → Contains before (sector, bytes) ⊎ ((ptr : Ptr) × (result ≡ Ok ptr) × (sector ≡ ptr.sector) × (bytes ≡ node))
kept_or_saved before kept node (Ok ptr) saved same sector bytes is = ⊎_elim (λ put. inr (ptr, refl, put.0, put.1)) (λ old. inl old) (Contains-Keeps before kept ptr.sector node saved sector bytes is)
kept_or_saved before kept node (Err fault) saved same sector bytes is = inl (rw (same refl) at is)

-- what is kept after a look was kept before it
pub kept_looked : (before kept : List (ℕ × List ℕ)) (looked : ℕ) (found : Bool) → (IsTrue found → kept ≡ promoted (nat_eq looked) before) → (found ≡ false → kept ≡ before)
    → (sector : ℕ) (bytes : List ℕ) → Contains kept (sector, bytes) → Contains before (sector, bytes)
kept_looked before kept looked true order same sector bytes is = Contains-promoted (nat_eq looked) before (sector, bytes) (rw (order refl) at is)
kept_looked before kept looked false order same sector bytes is = rw (same refl) at is

-- a node that was saved is what the disk has there, behind sectors 0 to 7
pub saved_bytes : (image : List ℕ) (space : FreeSectors) (ptr : Ptr) (bytes node : List ℕ) (result : Result Ptr BlockFault) → result ≡ Ok ptr → bytes ≡ node → length node ≡ 8192 → IfOk result (λ p. Has image space p bytes)
    → bytes_at image (512 * ptr.sector) 8192 ≡ node
saved_bytes image space ptr bytes node result ok same long wrote =
    let has : Has image space ptr bytes = rw ok at wrote in
    let stated : ptr.length ≡ 8192 = sym (IsBlock-length image ptr bytes has.block) ∙ ap length same ∙ long in
    (rw stated at has.block.bytes_are) ∙ same

pub saved_behind : (image : List ℕ) (space : FreeSectors) (ptr : Ptr) (bytes : List ℕ) (result : Result Ptr BlockFault) → result ≡ Ok ptr → IfOk result (λ p. Has image space p bytes) → 8 ≤ ptr.sector
saved_behind image space ptr bytes result ok wrote = let has : Has image space ptr bytes = rw ok at wrote in has.behind
