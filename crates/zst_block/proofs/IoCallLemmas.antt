-- What a read and a write do, and one call after another.
use Rattle.std.proofs.Common.{◌≡◌, inl, inr, ℕ, ◌+◌, ◌<◌, ◌≤◌, ◌||◌, Bool, true, false, refl, sym, ◌∙◌, subst, ap, arith}
use Rattle.std.specs.Prelude.{Option, Some, None, Result, Ok, Err, ◌↔◌}
use Rattle.zst_outside.specs.Images.{OnlyReads}
use Rattle.zst_space.specs.FreeSectors.{largest_of, room}
use Rattle.zst_space.specs.TakenExtents.{without}
use Rattle.zst_outside.specs.Causes.{Rose-earlier}
use Rattle.zst_outside.specs.Images.{OnlyReads-none, OnlyReads-then}
use Rattle.zst_space.specs.FreeSectors.{FreeSectors}
use Rattle.zst_block.specs.Blocks.{FillsFree}
use Rattle.zst_block.proofs.BlocksLaws.{FillsFree-then, FillsFree-reads}
use Rattle.zst_block.specs.declared.fault.BlockFault.{BlockFault}
use Rattle.zst_block.specs.declared.fault.BlockFault.TheVariants.{Full, Damaged, DiskFault}
use Rattle.zst_block.specs.Faults.{is_disk_fault, HasDiskCause}
use Rattle.zst_block.specs.IoStates.{IoState}
use Rattle.zst_block.specs.IoCalls.{stop_of, fails, is_damage, HasCause, IsBlockLength, TakesAtMost, IsFull, Looks, Works}
use Rattle.zst_block.specs.declared.ptr.Ptr.{Ptr}
use Rattle.zst_block.proofs.TakenSectors.{of_tree, takes, takes_more, takes_none, takes_then, takes_tree}

or_false : (b : Bool) → (b || false) ≡ b
or_false true = refl
or_false false = refl

HasCause-then : (before mid now : ℕ) (stop : Option BlockFault) → before ≤ mid → HasCause mid now stop → HasCause before now stop
HasCause-then before mid now stop later cause = record { later = omega (arith, later, cause.later); fault = λ is. Rose-earlier before mid now later (cause.fault is) }

-- after a call that ended well, another one
pub Works-then : {most more block : ℕ} {old mid new : IoState} {stop : Option BlockFault} → Works most block old mid None → Works more block mid new stop → Works (most + more) block old new stop
Works-then {most} {more} {block} {old} {mid} {new} {stop} first second = record {
  fills = FillsFree-then old.disk mid.disk new.disk old.space mid.space new.space first.fills second.fills;
  takes = takes_then old.space mid.space new.space first.takes second.takes;
  full = λ need largest is.
      let full = second.full need largest is in
      record { shorter = full.shorter; is_longest = full.is_longest; needed = full.needed; before = omega (arith, full.before, first.takes.longest) };
  told = λ whole. second.told whole ∙ first.told refl;
  failed = second.failed ∙ ap (λ (b : Bool). b || fails stop) (first.failed ∙ or_false old.failed);
  cause = HasCause-then old.disk.faults mid.disk.faults new.disk.faults stop first.cause.later second.cause;
  same = second.same ∙ first.same;
}

-- after a call that only read, one that writes
pub Works-after : {more block : ℕ} {old mid new : IoState} {stop : Option BlockFault} → Looks old mid None → Works more block mid new stop → Works more block old new stop
Works-after {more} {block} {old} {mid} {new} {stop} first second =
    let same : mid.space ≡ old.space = first.space in
    let fills : FillsFree old.disk old.space mid.disk mid.space = subst (λ (s : FreeSectors). FillsFree old.disk old.space mid.disk s) (sym same) (FillsFree-reads old.disk mid.disk old.space first.reads) in
    record {
      fills = FillsFree-then old.disk mid.disk new.disk old.space mid.space new.space fills second.fills;
      takes = subst (λ (s : FreeSectors). TakesAtMost more (IsBlockLength block) s new.space) same second.takes;
      full = subst (λ (s : FreeSectors). (need largest : ℕ) → stop ≡ Some (Full need largest) → IsFull more block s new.space need largest) same second.full;
      told = λ whole. second.told whole ∙ first.told refl;
      failed = second.failed ∙ ap (λ (b : Bool). b || fails stop) (first.failed ∙ or_false old.failed);
      cause = HasCause-then old.disk.faults mid.disk.faults new.disk.faults stop first.cause.later second.cause;
      same = second.same ∙ first.same;
    }

module _ {most block : ℕ} {old new : IoState} {stop : Option BlockFault} where
  -- a call that only reads takes nothing
  pub Works-looks : Looks old new stop → Works most block old new stop
  Works-looks looks = record {
    fills = subst (λ (s : FreeSectors). FillsFree old.disk old.space new.disk s) (sym looks.space) (FillsFree-reads old.disk new.disk old.space looks.reads);
    takes = subst (λ (s : FreeSectors). TakesAtMost most (IsBlockLength block) old.space s) (sym looks.space) (takes_none old.space);
    full = λ need largest is. absurd (looks.never_full need largest is);
    told = looks.told;
    failed = looks.failed;
    cause = looks.cause;
    same = looks.same;
  }

  -- who takes fewer sectors takes no more
  pub Works-more : {fewer : ℕ} → fewer ≤ most → Works fewer block old new stop → Works most block old new stop
  Works-more {fewer} le works = record {
    fills = works.fills;
    takes = takes_more fewer most old.space new.space le works.takes;
    full = λ need largest is. let full = works.full need largest is in record { shorter = full.shorter; is_longest = full.is_longest; needed = full.needed; before = omega (arith, full.before, le) };
    told = works.told;
    failed = works.failed;
    cause = works.cause;
    same = works.same;
  }

  -- without a block of a length of its own, with one
  pub Works-block : Works most 16 old new stop → Works most block old new stop
  Works-block works = record {
    fills = works.fills;
    takes = takes_tree old.space new.space works.takes;
    full = λ need largest is. let full = works.full need largest is in record { shorter = full.shorter; is_longest = full.is_longest; needed = inl (of_tree full.needed); before = full.before };
    told = works.told;
    failed = works.failed;
    cause = works.cause;
    same = works.same;
  }

-- a call that does nothing
pub Looks-none : (io : IoState) → Looks io io None
Looks-none io = record {
  reads = OnlyReads-none io.disk;
  space = refl;
  never_full = λ need largest is. absurd (cc);
  told = λ whole. refl;
  failed = sym (or_false io.failed);
  cause = record { later = omega arith; fault = λ is. absurd (cc) };
  same = refl;
}

-- two calls that only read
pub Looks-then : {old mid new : IoState} {stop : Option BlockFault} → Looks old mid None → Looks mid new stop → Looks old new stop
Looks-then {old} {mid} {new} {stop} first second = record {
  reads = OnlyReads-then old.disk mid.disk new.disk first.reads second.reads;
  space = second.space ∙ first.space;
  never_full = second.never_full;
  told = λ whole. second.told whole ∙ first.told refl;
  failed = second.failed ∙ ap (λ (b : Bool). b || fails stop) (first.failed ∙ or_false old.failed);
  cause = HasCause-then old.disk.faults mid.disk.faults new.disk.faults stop first.cause.later second.cause;
  same = second.same ∙ first.same;
}

-- a call stops at a fault of the disk where its answer is one
fails_is : {T : Type 0} → (result : Result T BlockFault) → fails (stop_of result) ≡ is_disk_fault result
fails_is (Ok value) = refl
fails_is (Err (Full need largest)) = refl
fails_is (Err (Damaged sector stated found)) = refl
fails_is (Err DiskFault) = refl

err_of : {T : Type 0} → (result : Result T BlockFault) (fault : BlockFault) → stop_of result ≡ Some fault → result ≡ Err fault
err_of (Ok value) fault is = absurd (cc)
err_of (Err other) fault is = cc

cause_of : {T : Type 0} → (before now : ℕ) (result : Result T BlockFault) → HasDiskCause before now result → HasCause before now (stop_of result)
cause_of before now result cause = record { later = cause.later; fault = λ is. cause.fault (err_of result DiskFault is) }

-- a call that answers as a read does
pub Looks-read : {T : Type 0} → (old new : IoState) (result : Result T BlockFault)
    → OnlyReads old.disk new.disk → new.space ≡ old.space → ((need largest : ℕ) → ¬ (result ≡ Err (Full need largest))) → (is_damage (stop_of result) ≡ false → new.checksum_errors ≡ old.checksum_errors)
    → new.failed ≡ (old.failed || is_disk_fault result) → HasDiskCause old.disk.faults new.disk.faults result → new.reference ≡ old.reference
    → Looks old new (stop_of result)
Looks-read old new result reads space never told failed cause same = record {
  reads = reads;
  space = space;
  never_full = λ need largest is. never need largest (err_of result (Full need largest) is);
  told = told;
  failed = failed ∙ ap (λ (b : Bool). old.failed || b) (sym (fails_is result));
  cause = cause_of old.disk.faults new.disk.faults result cause;
  same = same;
}

-- a call that answers as a write of a block does
pub Works-write : (count : ℕ) (old new : IoState) (result : Result Ptr BlockFault)
    → FillsFree old.disk old.space new.disk new.space → (count ≤ largest_of old.space → new.space ≡ without old.space count) → (largest_of old.space < count → new.space ≡ old.space)
    → room old.space ≤ room new.space + count
    → ((need largest : ℕ) → (result ≡ Err (Full need largest)) ↔ ((need ≡ count) × (largest ≡ largest_of old.space) × (largest < need)))
    → new.checksum_errors ≡ old.checksum_errors → new.failed ≡ (old.failed || is_disk_fault result) → HasDiskCause old.disk.faults new.disk.faults result → new.reference ≡ old.reference
    → Works count count old new (stop_of result)
Works-write count old new result fills after untouched left full_is counts failed cause same = record {
  fills = fills;
  takes = takes {IsLength = IsBlockLength count} old.space new.space count (inr refl) after untouched left;
  full = λ need largest is.
      let full = (full_is need largest).0 (err_of result (Full need largest) is) in
      record { shorter = full.2; is_longest = full.1 ∙ ap largest_of (sym (untouched (omega (arith, full.0, full.1, full.2)))); needed = inr full.0; before = omega (arith, full.0, full.1, full.2) };
  told = λ whole. counts;
  failed = failed ∙ ap (λ (b : Bool). old.failed || b) (sym (fails_is result));
  cause = cause_of old.disk.faults new.disk.faults result cause;
  same = same;
}
