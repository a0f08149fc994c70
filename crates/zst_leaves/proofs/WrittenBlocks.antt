-- Blocks that are written in turn.
use Rattle.std.proofs.Common.{◌≡◌, ℕ, ◌+◌, ◌≤◌, refl, sym, ◌∙◌, ap, subst, arith, List}
use Rattle.std.specs.Prelude.{OnOk, Result, Ok, Err}
use Rattle.std.proofs.lemmas.Result.{on_ok_weaker}
use Rattle.zst_space.specs.TakenExtents.{without, without_blocks}
use Rattle.zst_block.specs.IoStates.{IoState}
use Rattle.zst_block.specs.IoCalls.{Works, stop_of}
use Rattle.zst_block.specs.declared.fault.BlockFault.{BlockFault}
use Rattle.zst_block.specs.declared.fault.BlockFault.TheVariants.{Damaged}
use Rattle.zst_block.proofs.IoCallLemmas.{Looks-none, Works-looks, Works-more, Works-then}
use Rattle.zst_leaves.specs.WrittenLeaves.{WritesBlocks}
use Rattle.zst_leaves.proofs.TakenBlocks.{blocks_none_taken, blocks_then, one_block}

ok_no_damage : {T : Type 0} → (value : T) (sector : ℕ) (stated found : List ℕ) → ¬ (Ok value ≡ Err (Damaged sector stated found))
ok_no_damage value sector stated found = λ is. absurd (cc)

-- none
pub WritesBlocks-none : {T : Type 0} {count : ℕ} (io : IoState) (value : T) → count ≡ 0 → WritesBlocks count io io (Ok value)
WritesBlocks-none io value none = record {
  works = Works-looks (Looks-none io);
  after = sym (blocks_none_taken io.space) ∙ ap (λ (n : ℕ). without_blocks n io.space) (sym none);
  never_damaged = ok_no_damage value;
  calls = omega arith;
}

module _ {old new : IoState} where
  -- one
  pub WritesBlocks-one : {T : Type 0} (result : Result T BlockFault) → Works 16 16 old new (stop_of result) → OnOk result (new.space ≡ without old.space 16)
      → ((sector : ℕ) (stated found : List ℕ) → ¬ (result ≡ Err (Damaged sector stated found))) → new.disk.calls ≤ old.disk.calls + 1 → WritesBlocks 1 old new result
  WritesBlocks-one result works after never calls = record {
    works = works;
    after = on_ok_weaker result (λ after. one_block 1 old.space new.space after refl) after;
    never_damaged = never;
    calls = calls;
  }

  module _ {T : Type 0} {count other : ℕ} where
    -- as many
    pub WritesBlocks-same : (result : Result T BlockFault) → count ≡ other → WritesBlocks count old new result → WritesBlocks other old new result
    WritesBlocks-same result same written = subst (λ (n : ℕ). WritesBlocks n old new result) same written

    -- fewer, where the call is refused
    pub WritesBlocks-refused : (fault : BlockFault) → count ≤ other → WritesBlocks {T = T} count old new (Err fault) → WritesBlocks {T = T} other old new (Err fault)
    WritesBlocks-refused fault le written = record { works = Works-more (omega (arith, le)) written.works; after = tt; never_damaged = written.never_damaged; calls = omega (arith, le, written.calls) }

  -- whatever is given
  pub WritesBlocks-gives : {T U : Type 0} {count : ℕ} (value : T) (other : U) → WritesBlocks count old new (Ok value) → WritesBlocks count old new (Ok other)
  WritesBlocks-gives value other written = record { works = written.works; after = written.after; never_damaged = ok_no_damage other; calls = written.calls }

-- some, and then more
pub WritesBlocks-then : {T U : Type 0} {first more all : ℕ} {old mid new : IoState} (value : T) (result : Result U BlockFault) → first + more ≡ all
    → WritesBlocks first old mid (Ok value) → WritesBlocks more mid new result → WritesBlocks all old new result
WritesBlocks-then {first = first} {more = more} {old = old} {mid = mid} {new = new} value result all one two = record {
  works = Works-more (omega (arith, all)) (Works-then one.works two.works);
  after = on_ok_weaker result (λ after. blocks_then first more old.space mid.space new.space one.after after ∙ ap (λ (n : ℕ). without_blocks n old.space) all) two.after;
  never_damaged = two.never_damaged;
  calls = omega (arith, all, one.calls, two.calls);
}
