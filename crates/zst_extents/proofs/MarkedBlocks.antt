-- Blocks that are taken in turn, and marked where they stand before an end.
use Rattle.std.proofs.Common.{◌≡◌, ◌⊎◌, ◌↔◌, inl, inr, ⊎_elim, ℕ, ◌+◌, ◌-◌, ◌*◌, ◌<◌, ◌≤◌, ◌==◌, Bool, true, false, cond, nat_le, List, [], ◌∷◌, ◌++◌, length, refl, sym, ◌∙◌, subst, arith}
use Rattle.std.specs.Prelude.{Result, Ok, Err}
use Rattle.std.specs.Result.{IsErrAnd}
use Rattle.std.proofs.lemmas.Bool.{cases_lt, leb-true}
use Rattle.zst_space.specs.FreeSectors.{FreeSectors, IsFree, IsInSome, IsSpaceFrom, IsWithin, Rise, largest_of}
use Rattle.zst_space.specs.TakenExtents.{Takes, extents_without, place_in_extents, place_of, without, without_blocks}
use Rattle.zst_space.specs.declared.space.Extent.{Extent}
use Rattle.zst_space.specs.declared.space.SpaceFault.{SpaceFault}
use Rattle.zst_space.proofs.FreeSectorsLaws.{Rise-earlier, Rise-end}
use Rattle.zst_marks.specs.Marks.{IsMarked}
use Rattle.zst_block.specs.IoCalls.{IsBlockLength}
use Rattle.zst_block.proofs.TakenSectors.{takes, takes_more, takes_none, takes_then}
use Rattle.zst_tree.specs.Faults.{IfFault}
use Rattle.zst_tree.specs.declared.or_memory.OrMemory.{OrMemory}
use Rattle.zst_tree.specs.declared.or_memory.OrMemory.TheVariants.{Fault, Memory}
use Rattle.zst_leaves.proofs.TakenBlocks.{blocks_none_taken, blocks_then, one_block}
use Rattle.zst_extents.specs.StoredExtents.{extent_blocks}
use Rattle.zst_extents.specs.UnmarkedExtents.{AreUnmarked, IsFullFor, IsFullWithin, IsSpaceUpTo, MarksTaken, MayLeave, TakesMarked}
use Rattle.zst_extents.proofs.FewerSectors.{end_later}
use Rattle.zst_extents.proofs.UnmarkedSectors.{unmarked_extents}

-- ---- a sector is free or not

within_or : (first count sector : ℕ) → IsWithin first count sector ⊎ (IsWithin first count sector → ⊥)
within_or first count sector = elim (cases_lt sector first) [
  | inl before ↦ inr (λ here. omega (arith, here.0, before))
  | inr from ↦ elim (cases_lt sector (first + count)) [ inl inside ↦ inl (from, inside) | inr past ↦ inr (λ here. omega (arith, here.1, past)) ]
]

in_some_or : (extents : List Extent) (sector : ℕ) → IsInSome extents sector ⊎ (IsInSome extents sector → ⊥)
in_some_or [] sector = inr (λ none. none)
in_some_or (e ∷ es) sector =
    ⊎_elim (λ here. inl (inl here)) (λ not_here. ⊎_elim (λ later. inl (inr later)) (λ none. inr (λ some. ⊎_elim not_here none some)) (in_some_or es sector)) (within_or e.first e.count sector)

free_or : (space : FreeSectors) (sector : ℕ) → IsFree space sector ⊎ (IsFree space sector → ⊥)
free_or space sector = elim (cases_lt sector space.end) [
  | inr past ↦ inl (inr past)
  | inl under ↦ ⊎_elim (λ some. inl (inl some)) (λ none. inr (λ free. ⊎_elim none (λ past. omega (arith, past, under)) free)) (in_some_or space.free sector)
]

-- ---- where a block stands

-- a block that fits an extent stands before what the extents stand before
place_below : (extents : List Extent) (from last end count : ℕ) → Rise from extents last → (place_in_extents extents end count + count ≤ last) ⊎ (place_in_extents extents end count ≡ end)
place_below [] from last end count rise = inr refl
place_below (e ∷ es) from last end count rise = go (place_below es (e.first + e.count) last end count rise.1) (nat_le count e.count) refl
  where
    go : (place_in_extents es end count + count ≤ last) ⊎ (place_in_extents es end count ≡ end) → (b : Bool) → nat_le count e.count ≡ b
        → (cond b e.first (place_in_extents es end count) + count ≤ last) ⊎ (cond b e.first (place_in_extents es end count) ≡ end)
    go rest true fits = inl (omega (arith, leb-true count e.count fits, Rise-end (e.first + e.count) last es rise.1))
    go rest false fits = rest

pub block_whole : (end first : ℕ) (space : FreeSectors) → IsSpaceUpTo end space → first ≡ place_of space 16 → first < end → first + 16 ≤ end
block_whole end first space up_to is under = ⊎_elim (λ inside. omega (arith, is, inside)) (λ past. absurd (omega (arith, is, past, under, up_to.later))) (place_below space.free 8 end space.end 16 up_to.below)

-- the extents that are left stand before it too
rise_without : (extents : List Extent) (from last count : ℕ) → Rise from extents last → Rise from (extents_without extents count) last
rise_without [] from last count rise = rise
rise_without (e ∷ es) from last count rise = go (rise_without es (e.first + e.count) last count rise.1) (nat_le count e.count) refl (count == e.count)
  where
    go : Rise (e.first + e.count) (extents_without es count) last → (b : Bool) → nat_le count e.count ≡ b → (whole : Bool)
        → Rise from (cond b (cond whole [] (record { first = e.first + count; count = e.count - count } ∷ []) ++ es) (e ∷ extents_without es count)) last
    go rest true fits true = Rise-earlier (e.first + e.count) from last es (omega (arith, rise.0)) rise.1
    go rest true fits false =
        let same : e.first + e.count ≡ e.first + count + (e.count - count) = omega (arith, leb-true count e.count fits) in
        (omega (arith, rise.0), subst (λ (n : ℕ). Rise n es last) same rise.1)
    go rest false fits whole = (rise.0, rest)

IsSpaceUpTo-taken : (end : ℕ) (space new : FreeSectors) → new ≡ without space 16 → IsSpaceFrom 8 new → IsSpaceUpTo end space → IsSpaceUpTo end new
IsSpaceUpTo-taken end space new is kept up_to = record {
  is_space = kept;
  below = subst (λ (s : FreeSectors). Rise 8 s.free end) (sym is) (rise_without space.free 8 end 16 up_to.below);
  later = subst (λ (s : FreeSectors). end ≤ s.end) (sym is) (omega (arith, up_to.later, end_later space.free space.end 16));
}

-- ---- what is marked

pub marked_inside : (first end : ℕ) (before now : List ℕ) → first + 16 ≤ end → ((sector : ℕ) → IsMarked now sector ↔ (IsWithin first 16 sector ⊎ IsMarked before sector))
    → (sector : ℕ) → IsMarked now sector ↔ (((sector < end) × IsWithin first 16 sector) ⊎ IsMarked before sector)
marked_inside first end before now inside marked sector = (
  (λ is. ⊎_elim (λ here. inl (omega (arith, here.1, inside), here)) (λ was. inr was) ((marked sector).0 is)),
  (λ is. ⊎_elim (λ here. (marked sector).1 (inl here.1)) (λ was. (marked sector).1 (inr was)) is),
)

pub marked_past : (first end : ℕ) (marks : List ℕ) → end ≤ first → (sector : ℕ) → IsMarked marks sector ↔ (((sector < end) × IsWithin first 16 sector) ⊎ IsMarked marks sector)
marked_past first end marks past sector = ((λ is. inr is), (λ is. ⊎_elim (λ here. absurd (omega (arith, past, here.0, here.1.0))) (λ was. was) is))

MarksTaken-none : (end : ℕ) (space : FreeSectors) (marks : List ℕ) → MarksTaken end space space marks marks
MarksTaken-none end space marks = record { marked = λ sector. ((λ is. inr is), (λ is. ⊎_elim (λ gone. absurd (gone.taken gone.was_free)) (λ was. was) is)); words = refl }

MarksTaken-one : (end first : ℕ) (old new : FreeSectors) (before now : List ℕ) → Takes old new first 16
    → ((sector : ℕ) → IsMarked now sector ↔ (((sector < end) × IsWithin first 16 sector) ⊎ IsMarked before sector)) → length now ≡ length before → MarksTaken end old new before now
MarksTaken-one end first old new before now takes marked words = record {
  marked = λ sector. (
    (λ is. ⊎_elim (λ here. inl (record { under = here.0; was_free = takes.was_free sector here.1; taken = takes.is_gone sector here.1 })) (λ was. inr was) ((marked sector).0 is)),
    (λ is. ⊎_elim (λ gone. ⊎_elim (λ here. (marked sector).1 (inl (gone.under, here))) (λ free. absurd (gone.taken free)) (takes.others sector gone.was_free)) (λ was. (marked sector).1 (inr was)) is),
  );
  words = words;
}

MarksTaken-then : (end : ℕ) (old mid new : FreeSectors) (before between now : List ℕ) → ((sector : ℕ) → IsFree mid sector → IsFree old sector) → ((sector : ℕ) → IsFree new sector → IsFree mid sector)
    → MarksTaken end old mid before between → MarksTaken end mid new between now → MarksTaken end old new before now
MarksTaken-then end old mid new before between now fewer later first second = record {
  marked = λ sector. (
    (λ is. ⊎_elim (λ gone. inl (record { under = gone.under; was_free = fewer sector gone.was_free; taken = gone.taken }))
        (λ was. ⊎_elim (λ gone. inl (record { under = gone.under; was_free = gone.was_free; taken = λ free. gone.taken (later sector free) })) (λ first_was. inr first_was) ((first.marked sector).0 was))
        ((second.marked sector).0 is)),
    (λ is. ⊎_elim
        (λ gone. ⊎_elim (λ free. (second.marked sector).1 (inl (record { under = gone.under; was_free = free; taken = gone.taken })))
        (λ taken. (second.marked sector).1 (inr ((first.marked sector).1 (inl (record { under = gone.under; was_free = gone.was_free; taken = taken })))))
        (free_or mid sector))
        (λ was. (second.marked sector).1 (inr ((first.marked sector).1 (inr was)))) is),
  );
  words = second.words ∙ first.words;
}

-- ---- blocks in turn

pub TakesMarked-none : (end : ℕ) (space : FreeSectors) (marks : List ℕ) → IsSpaceUpTo end space → TakesMarked end 0 space space marks marks
TakesMarked-none end space marks up_to = record {
  after = sym (blocks_none_taken space);
  takes = takes_none space;
  room_is = omega arith;
  fewer = λ sector free. free;
  left = up_to;
  marks = MarksTaken-none end space marks;
}

pub TakesMarked-one : (end first : ℕ) (old new : FreeSectors) (before now : List ℕ) → IsSpaceUpTo end old → 16 ≤ largest_of old → new ≡ without old 16 → Takes old new first 16 → IsSpaceFrom 8 new
    → ((sector : ℕ) → IsMarked now sector ↔ (((sector < end) × IsWithin first 16 sector) ⊎ IsMarked before sector)) → length now ≡ length before → TakesMarked end 1 old new before now
TakesMarked-one end first old new before now up_to some after taken kept marked words =
    let most = takes {IsLength = IsBlockLength 16} old new 16 (inl refl) (λ fits. after) (λ under. absurd (omega (arith, under, some))) (omega (arith, taken.room_is)) in
    record {
      after = one_block 1 old new after refl;
      takes = most;
      room_is = omega (arith, taken.room_is);
      fewer = taken.fewer;
      left = IsSpaceUpTo-taken end old new after kept up_to;
      marks = MarksTaken-one end first old new before now taken marked words;
    }

pub TakesMarked-then : (end first more all : ℕ) (old mid new : FreeSectors) (before between now : List ℕ) → first + more ≡ all → TakesMarked end first old mid before between → TakesMarked end more mid new between now
    → TakesMarked end all old new before now
TakesMarked-then end first more all old mid new before between now sum one two =
    subst (λ (n : ℕ). TakesMarked end n old new before now) sum (record {
      after = blocks_then first more old mid new one.after two.after;
      takes = takes_more (16 * first + 16 * more) (16 * (first + more)) old new (omega arith) (takes_then old mid new one.takes two.takes);
      room_is = omega (arith, one.room_is, two.room_is);
      fewer = λ sector free. one.fewer sector (two.fewer sector free);
      left = two.left;
      marks = MarksTaken-then end old mid new before between now one.fewer two.fewer one.marks two.marks;
    })

-- ---- blocks for the extents that are left

-- the extents that aren't marked once so many blocks were taken are left at that time
pub MayLeave-unmarked : (by taken count : ℕ) (old mid : FreeSectors) (before now : List ℕ) (extents : List Extent) → by ≤ taken → mid ≡ without_blocks by old → MarksTaken old.end old mid before now → AreUnmarked now old.end extents → length extents ≡ count
    → MayLeave before old taken count
MayLeave-unmarked by taken count old mid before now extents earlier is marked are counted = record {
  by = by;
  earlier = earlier;
  now = now;
  marked = subst (λ (space : FreeSectors). MarksTaken old.end old space before now) is marked;
  extents = extents;
  are = are;
  counted = counted;
}

-- some are before any is taken
MayLeave-first : (taken : ℕ) (marks : List ℕ) (old : FreeSectors) → 8 ≤ old.end → (count : ℕ) × MayLeave marks old taken count
MayLeave-first taken marks old inside =
    let there = unmarked_extents marks old.end inside in
    (length there.0, MayLeave-unmarked 0 taken (length there.0) old old marks marks there.0 (omega arith) (sym (blocks_none_taken old)) (MarksTaken-none old.end old marks) there.1 refl)

-- these blocks and so many more were taken and marked, the latter no more than are taken by so many extents as are left at some time
pub record TakesRounds (end blocks taken : ℕ) (old new : FreeSectors) (before now : List ℕ) : Type 0 where
  pub end_is : end ≡ old.end
  pub rounds : TakesMarked end (blocks + taken) old new before now
  pub most : ℕ
  pub may_leave : MayLeave before old (blocks + taken) most
  pub few : taken ≤ extent_blocks most

-- none for extents yet
pub TakesRounds-none : (end blocks : ℕ) (old new : FreeSectors) (before now : List ℕ) → end ≡ old.end → 8 ≤ old.end → TakesMarked end blocks old new before now → TakesRounds end blocks 0 old new before now
TakesRounds-none end blocks old new before now end_is inside first =
    let none : blocks + 0 ≡ blocks = omega arith in
    let some = MayLeave-first (blocks + 0) before old inside in
    record { end_is = end_is; rounds = rw none first; most = some.0; may_leave = some.1; few = omega arith }

module _ (end blocks taken : ℕ) (old mid : FreeSectors) (before between : List ℕ) (extents : List Extent) (first : TakesRounds end blocks taken old mid before between) (are : AreUnmarked between end extents) where
  -- the extents that aren't marked by now are left now
  left_now : (more : ℕ) → blocks + taken ≤ more → MayLeave before old more (length extents)
  left_now more le = MayLeave-unmarked (blocks + taken) more (length extents) old mid before between extents le first.rounds.after
      (subst (λ (n : ℕ). MarksTaken n old mid before between) first.end_is first.rounds.marks) (subst (λ (n : ℕ). AreUnmarked between n extents) first.end_is are) refl

  -- a round more, for these
  pub TakesRounds-next : (needed : ℕ) (new : FreeSectors) (now : List ℕ) → taken ≤ needed → needed ≡ extent_blocks (length extents) → TakesMarked end (needed - taken) mid new between now → TakesRounds end blocks needed old new before now
  TakesRounds-next needed new now more is second = record {
    end_is = first.end_is;
    rounds = TakesMarked-then end (blocks + taken) (needed - taken) (blocks + needed) old mid new before between now (omega (arith, more)) first.rounds second;
    most = length extents;
    may_leave = left_now (blocks + needed) (omega (arith, more));
    few = omega (arith, is);
  }

  -- no room for those
  pub IsFullFor-next : (needed : ℕ) (new : FreeSectors) (full : SpaceFault) → taken ≤ needed → needed ≡ extent_blocks (length extents) → IsFullWithin (needed - taken) mid new full → IsFullFor blocks before old new full
  IsFullFor-next needed new full more is short = record {
    count = length extents;
    full_within = record {
      taken = blocks + taken + short.taken;
      fewer = omega (arith, short.fewer, more, is);
      full_after = record {
        needed = short.full_after.needed;
        shorter = short.full_after.shorter;
        is_longest = short.full_after.is_longest;
        after = blocks_then (blocks + taken) short.taken old mid new first.rounds.after short.full_after.after;
      };
      before = omega (arith, short.before, first.rounds.takes.longest, more, is);
    };
    may_leave = left_now (blocks + taken + short.taken) (omega arith);
  }

-- ---- no room is left

-- what is told of a fault is told where it is passed on
pub fault_passed : {F : Type 0} (S T : Type 0) (Told Passed : F → Type 0) (result : Result S (OrMemory F)) (fault : OrMemory F) → IsErrAnd result (λ made. made ≡ fault) → ((full : F) → Told full → Passed full)
    → IfFault {T = T} (Err fault) Told → IfFault result Passed
fault_passed S T Told Passed (Ok value) fault is up told = absurd is
fault_passed S T Told Passed (Err made) (Fault fault) is up told = rw is (up fault told)
fault_passed S T Told Passed (Err made) Memory is up told = rw is tt

-- for these blocks, before any extent is looked at
pub IsFullFor-first : (blocks : ℕ) (marks : List ℕ) (old new : FreeSectors) (full : SpaceFault) → 8 ≤ old.end → IsFullWithin blocks old new full → IsFullFor blocks marks old new full
IsFullFor-first blocks marks old new full inside is =
    let some = MayLeave-first is.taken marks old inside in
    record {
      count = some.0;
      full_within = record { taken = is.taken; fewer = omega (arith, is.fewer); full_after = is.full_after; before = omega (arith, is.before) };
      may_leave = some.1;
    }
