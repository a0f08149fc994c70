-- What a call reads through the buffer, and what is copied of a pending record.
use Rattle.std.proofs.Common.{◌≡◌, inl, inr, ℕ, ◌<◌, ◌≤◌, ◌||◌, Bool, true, false, List, length, refl, sym, ap, subst, arith}
use Rattle.std.specs.Prelude.{Some, Ok, Err}
use Rattle.zst_outside.specs.Images.{OnlyReads-none}
use Rattle.zst_fletcher.specs.WeightSum.{parts_of}
use Rattle.zst_block.specs.Blocks.{Has}
use Rattle.zst_block.specs.IoStates.{IoState}
use Rattle.zst_block.specs.declared.fault.BlockFault.{BlockFault}
use Rattle.zst_block.specs.declared.fault.BlockFault.TheVariants.{Damaged}
use Rattle.zst_block.specs.declared.ptr.Ptr.{Ptr}
use Rattle.zst_block.proofs.IoCallLemmas.{Looks-none}
use Rattle.zst_objset.specs.Damage.{DamageFact, IfDamage}
use Rattle.zst_tree.specs.Damage.{IsSeen}
use Rattle.zst_send.specs.BufferReads.{CopiesOf, GivesMore, IsPutOf, ReadsAtMost}
use Rattle.zst_send.specs.Costs.{IsHeld, reads_due}
use Rattle.zst_send.specs.DueItems.{block_of}
use Rattle.zst_send.specs.Damage.{IsDamagedDue, IsDamagedLoad, IsDamagedPayload}
use Rattle.zst_send.specs.PendingRecords.{BufferFits, HasBlockOf, HoldsBlock, IsFresh, IsLoaded, IsPayload, IsPending, PayloadFits, PendingFits}
use Rattle.zst_send.specs.Records.{blocks_behind}
use Rattle.zst_send.specs.declared.block_buffer.BlockBuffer.{BlockBuffer}
use Rattle.zst_send.specs.declared.due_items.DueItems.{DueItems}
use Rattle.zst_send.specs.declared.pending_record.Payload.{Payload}
use Rattle.zst_send.specs.declared.pending_record.Payload.TheVariants.{Block, Bonus, Nothing}
use Rattle.zst_send.specs.declared.pending_record.PendingRecord.{PendingRecord}
use Rattle.zst_send.proofs.BlockDamage.{short_told}

-- ---- what is read

-- nothing is read
pub reads_none : {T : Type 0} (most : ℕ) (told : (List ℕ → Type 0) → ℕ → DamageFact) (io : IoState) (buffer : BlockBuffer) (value : T) → BufferFits buffer → ReadsAtMost most told io io buffer (Ok value)
reads_none most told io buffer value fits = record { looks = Looks-none io; calls = omega arith; damaged = λ honest. tt; buffer_fits = fits }

still_failed : (b : Bool) → b ≡ (b || false)
still_failed true = refl
still_failed false = refl

-- a block that is longer than any that a stream has is told as damaged, and nothing is read
pub reads_long : {T : Type 0} (most : ℕ) (io : IoState) (ptr : Ptr) (buffer : BlockBuffer) (fault : BlockFault) → fault ≡ Damaged ptr.sector (parts_of ptr.sum) (parts_of ptr.sum) → 131072 < ptr.length → BufferFits buffer
    → ReadsAtMost {T = T} most (λ images size. IsDamagedLoad images size ptr) io io buffer (Err fault)
reads_long {T = T} most io ptr buffer fault is long fits =
    let told : ReadsAtMost {T = T} most (λ images size. IsDamagedLoad images size ptr) io io buffer (Err (Damaged ptr.sector (parts_of ptr.sum) (parts_of ptr.sum))) = record {
      looks = record {
        reads = OnlyReads-none io.disk;
        space = refl;
        never_full = λ need largest same. absurd (cc);
        told = λ whole. refl;
        failed = still_failed io.failed;
        cause = record { later = omega arith; fault = λ same. absurd (cc) };
        same = refl;
      };
      calls = omega arith;
      damaged = λ honest. record { sector_is = refl; stated_is = refl; found_is = inr (refl, long) };
      buffer_fits = fits;
    } in
    subst (λ (f : BlockFault). ReadsAtMost {T = T} most (λ images size. IsDamagedLoad images size ptr) io io buffer (Err f)) (sym is) told

-- the block that is due was loaded, or its load was refused
module _ (due : DueItems) (ptr : Ptr) (one : reads_due due ≡ 1) (old new : IoState) (buffer : BlockBuffer) where
  pub due_read : {T U : Type 0} (value : T) (done : U) → ReadsAtMost 1 (λ images size. IsDamagedLoad images size ptr) old new buffer (Ok value)
      → ReadsAtMost (reads_due due) (λ images size. IsDamagedDue images size due) old new buffer (Ok done)
  due_read value done reads = record { looks = reads.looks; calls = (let most = reads.calls in omega (arith, one, most)); damaged = λ honest. tt; buffer_fits = reads.buffer_fits }

  pub due_refused : {T U : Type 0} (fault : BlockFault)
      → (IfDamage fault (IsDamagedLoad (IsSeen old.disk.seen) old.disk.size ptr) → IfDamage fault (IsDamagedDue (IsSeen old.disk.seen) old.disk.size due))
      → ReadsAtMost {T = T} 1 (λ images size. IsDamagedLoad images size ptr) old new buffer (Err fault)
      → ReadsAtMost {T = U} (reads_due due) (λ images size. IsDamagedDue images size due) old new buffer (Err fault)
  due_refused fault told reads = record { looks = reads.looks; calls = (let most = reads.calls in omega (arith, one, most)); damaged = λ honest. told (reads.damaged honest); buffer_fits = reads.buffer_fits }

-- ---- what is copied

-- what is in memory is copied, and nothing is read
pub copies_none : (pending : PendingRecord) (io : IoState) (buffer : BlockBuffer) (before into : List ℕ) (count : ℕ) → BufferFits buffer → length into ≡ length before → count ≤ length before
    → CopiesOf pending io io buffer buffer before into (Ok count)
copies_none pending io buffer before into count fits long most = record {
  loaded = λ left honest loaded is. loaded;
  reads = reads_none _ _ io buffer count fits;
  once = inl (omega arith);
  kept = λ held. (omega arith, held);
  into = record { long = long; count = most };
}

-- the block that follows the record is loaded
module _ (pending : PendingRecord) (ptr : Ptr) (is : pending.payload ≡ Block ptr) (fits : PendingFits pending) (old new : IoState) (was buffer : BlockBuffer) (before into : List ℕ)
    (loads : (bytes : List ℕ) → new.disk.honest → IsLoaded (Has old.disk.seen old.space) was → Has old.disk.seen old.space ptr bytes → IsLoaded (Has new.disk.seen new.space) buffer)
    (keeps : was.holds ≡ Some ptr → new.disk.calls ≤ old.disk.calls) (long : length into ≡ length before) where
  block_loads : (left : List ℕ) → new.disk.honest → IsLoaded (Has old.disk.seen old.space) was → IsPending (Has old.disk.seen old.space) pending left → IsLoaded (Has new.disk.seen new.space) buffer
  block_loads left honest loaded of =
      let named = subst (λ (p : Payload). IsPayload (Has old.disk.seen old.space) p of.payload) is of.payload_is in
      loads of.payload honest loaded named.0

  behind_one : blocks_behind pending.payload ≡ 1
  behind_one = ap blocks_behind is

  held_now : buffer.holds ≡ Some ptr → IsHeld buffer.holds pending.payload
  held_now holds = subst (λ (p : Payload). IsHeld buffer.holds p) (sym is) holds

  kept_calls : IsHeld was.holds pending.payload → new.disk.calls ≤ old.disk.calls
  kept_calls held = keeps (subst (λ (p : Payload). IsHeld was.holds p) is held)

  -- and copied
  pub block_copied : {T : Type 0} (value : T) (count : ℕ) → ReadsAtMost 1 (λ images size. IsDamagedLoad images size ptr) old new buffer (Ok value) → buffer.holds ≡ Some ptr → count ≤ length before
      → CopiesOf pending old new was buffer before into (Ok count)
  block_copied value count reads holds most = record {
    loaded = block_loads;
    reads = record { looks = reads.looks; calls = (let one = behind_one in let few = reads.calls in omega (arith, one, few)); damaged = λ honest. tt; buffer_fits = reads.buffer_fits };
    once = inr (held_now holds);
    kept = λ held. (kept_calls held, held_now holds);
    into = record { long = long; count = most };
  }

  -- or its load is refused
  pub block_refused : {T : Type 0} (fault : BlockFault) → ReadsAtMost {T = T} 1 (λ images size. IsDamagedLoad images size ptr) old new buffer (Err fault) → CopiesOf pending old new was buffer before into (Err fault)
  block_refused fault reads = record {
    loaded = block_loads;
    reads = record {
      looks = reads.looks;
      calls = (let one = behind_one in let few = reads.calls in omega (arith, one, few));
      damaged = λ honest.
          let most : ptr.length ≤ 131072 = subst PayloadFits is fits.payload in
          subst (λ (p : Payload). IfDamage fault (IsDamagedPayload (IsSeen old.disk.seen) old.disk.size p)) (sym is)
          (short_told (IsSeen old.disk.seen) old.disk.size ptr most fault (reads.damaged honest));
      buffer_fits = reads.buffer_fits;
    };
    once = tt;
    kept = λ held. (kept_calls held, tt);
    into = record { long = long; count = tt };
  }

-- a refusal leaves a pending record as it was
pub gives_none : (pending : PendingRecord) (fault : BlockFault) → PendingFits pending → GivesMore pending pending (Err fault)
gives_none pending fault fits = record { some = tt; moved = tt; payload = refl; stays = refl; fits = fits }

-- ---- what follows a record that was put, and what the buffer has of that

-- nothing follows it
pub lone_put_of : (due : DueItems) (buffer : BlockBuffer) (pending : PendingRecord) → IsFresh Nothing pending → IsPutOf due buffer pending
lone_put_of due buffer pending fresh = record {
  fits = record { head = fresh.long; payload = subst PayloadFits (sym fresh.payload_is) tt; given = (let none = fresh.given in omega (arith, none)) };
  given = fresh.given;
  follows = subst (HasBlockOf due) (sym fresh.payload_is) tt;
  held = subst (IsHeld buffer.holds) (sym fresh.payload_is) tt;
}

-- a bonus does
pub bonus_put_of : (due : DueItems) (buffer : BlockBuffer) (pending : PendingRecord) (field : List ℕ) (count : ℕ) → IsFresh (Bonus field count) pending → count ≤ 320 → IsPutOf due buffer pending
bonus_put_of due buffer pending field count fresh most = record {
  fits = record { head = fresh.long; payload = subst PayloadFits (sym fresh.payload_is) most; given = (let none = fresh.given in omega (arith, none)) };
  given = fresh.given;
  follows = subst (HasBlockOf due) (sym fresh.payload_is) tt;
  held = subst (IsHeld buffer.holds) (sym fresh.payload_is) tt;
}

-- the block that is due does, which the buffer has
pub block_put_of : (due : DueItems) (buffer : BlockBuffer) (pending : PendingRecord) (ptr : Ptr) → IsFresh (Block ptr) pending → HoldsBlock ptr buffer → block_of due ≡ Some ptr → IsPutOf due buffer pending
block_put_of due buffer pending ptr fresh has is = record {
  fits = record { head = fresh.long; payload = subst PayloadFits (sym fresh.payload_is) has.long; given = (let none = fresh.given in omega (arith, none)) };
  given = fresh.given;
  follows = subst (HasBlockOf due) (sym fresh.payload_is) is;
  held = subst (IsHeld buffer.holds) (sym fresh.payload_is) has.holds;
}
