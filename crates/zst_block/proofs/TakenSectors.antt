-- What a block that is written takes.
use Rattle.std.proofs.Common.{◌≡◌, inl, ⊎_elim, ℕ, ◌+◌, ◌-◌, ◌<◌, ◌≤◌, ◌==◌, max, nat_le, nat_lt, Bool, true, false, if◌then◌else◌, List, [], ◌∷◌, ◌++◌, refl, sym, ◌∙◌, ap, subst, arith}
use Rattle.std.proofs.lemmas.Bool.Decides.{nat_tests}
use Rattle.zst_space.specs.FreeSectors.{FreeSectors, greatest, largest_of, room}
use Rattle.zst_space.specs.TakenExtents.{TakenInTurn, shortened, extents_without, end_without, without}
use Rattle.zst_space.specs.declared.space.Extent.{Extent}
use Rattle.zst_space.proofs.ExtentsInTurn.{none_in_turn, one_in_turn, then_in_turn, wider_in_turn}
use Rattle.zst_block.specs.IoCalls.{IsBlockLength, TakesAtMost}

greatest-shortened : (extent : Extent) (extents : List Extent) (least count : ℕ) → count ≤ extent.count
    → max extent.count (greatest extents least) ≤ greatest (shortened extent count ++ extents) least + count
greatest-shortened extent extents least count le = go (count == extent.count) refl
  where
    go : (b : Bool) → (count == extent.count) ≡ b
        → max extent.count (greatest extents least) ≤ greatest ((if b then [] else record { first = extent.first + count; count = extent.count - count } ∷ []) ++ extents) least + count
    go true e = let same : count ≡ extent.count = grind (arith, nat_tests) in omega (arith, same)
    go false e = omega (arith, le)

greatest-without : (extents : List Extent) (end sectors count : ℕ)
    → greatest extents (sectors - end) ≤ greatest (extents_without extents count) (sectors - end_without extents end count) + count
greatest-without [] end sectors count = omega arith
greatest-without (extent ∷ extents) end sectors count = go (nat_le count extent.count) refl (greatest-without extents end sectors count)
  where
    go : (b : Bool) → nat_le count extent.count ≡ b
        → greatest extents (sectors - end) ≤ greatest (extents_without extents count) (sectors - end_without extents end count) + count
        → max extent.count (greatest extents (sectors - end))
        ≤ greatest (if b then shortened extent count ++ extents else extent ∷ extents_without extents count) (sectors - (if b then end else end_without extents end count)) + count
    go true e rest = let le : count ≤ extent.count = grind (arith, nat_tests) in greatest-shortened extent extents (sectors - end) count le
    go false e rest = omega (arith, rest)

-- a block that was written, or found no room, or wasn't written by a disk that failed
pub takes : {IsLength : ℕ → Type 0} → (old new : FreeSectors) (count : ℕ) → IsLength count → (count ≤ largest_of old → new ≡ without old count) → (largest_of old < count → new ≡ old) → room old ≤ room new + count
    → TakesAtMost count IsLength old new
takes {IsLength} old new count is after untouched left = go (nat_lt (largest_of old) count) refl
  where
    go : (b : Bool) → nat_lt (largest_of old) count ≡ b → TakesAtMost count IsLength old new
    go true test =
        let same = untouched (grind (arith, nat_tests)) in
        record {
          sectors = ap (λ (s : FreeSectors). s.sectors) same;
          left = left;
          longest = subst (λ (s : FreeSectors). largest_of old ≤ largest_of s + count) (sym same) (omega arith);
          unbroken = λ none. ap (λ (s : FreeSectors). s.free) same ∙ none;
          blocks = subst (λ (s : FreeSectors). TakenInTurn IsLength old s) (sym same) (none_in_turn old);
        }
    go false test =
        let fits : count ≤ largest_of old = grind (arith, nat_tests) in
        let same = after fits in
        record {
          sectors = ap (λ (s : FreeSectors). s.sectors) same;
          left = left;
          longest = subst (λ (s : FreeSectors). largest_of old ≤ largest_of s + count) (sym same) (greatest-without old.free old.end old.sectors count);
          unbroken = λ none. ap (λ (s : FreeSectors). s.free) same ∙ ap (λ (extents : List Extent). extents_without extents count) none;
          blocks = one_in_turn old new count is fits same;
        }

-- what takes so many takes no more than more
pub takes_more : {IsLength : ℕ → Type 0} → (most more : ℕ) (old new : FreeSectors) → most ≤ more → TakesAtMost most IsLength old new → TakesAtMost more IsLength old new
takes_more most more old new le takes = record { sectors = takes.sectors; left = omega (arith, takes.left, le); longest = omega (arith, takes.longest, le); unbroken = takes.unbroken; blocks = takes.blocks }

-- and what takes so many and then more takes as many as both
pub takes_then : {most more : ℕ} {IsLength : ℕ → Type 0} (old mid new : FreeSectors) → TakesAtMost most IsLength old mid → TakesAtMost more IsLength mid new → TakesAtMost (most + more) IsLength old new
takes_then old mid new one two = record {
  sectors = two.sectors ∙ one.sectors;
  left = omega (arith, one.left, two.left);
  longest = omega (arith, one.longest, two.longest);
  unbroken = λ none. two.unbroken (one.unbroken none);
  blocks = then_in_turn old mid new one.blocks two.blocks;
}

-- where nothing is written, nothing is taken
pub takes_none : {count : ℕ} {IsLength : ℕ → Type 0} (space : FreeSectors) → TakesAtMost count IsLength space space
takes_none space = record { sectors = refl; left = omega arith; longest = omega arith; unbroken = λ none. none; blocks = none_in_turn space }

-- blocks of such lengths are blocks of these
pub takes_wider : {most : ℕ} {IsLength IsOther : ℕ → Type 0} (old new : FreeSectors) → ((count : ℕ) → IsLength count → IsOther count) → TakesAtMost most IsLength old new → TakesAtMost most IsOther old new
takes_wider old new wider takes = record { sectors = takes.sectors; left = takes.left; longest = takes.longest; unbroken = takes.unbroken; blocks = wider_in_turn old new wider takes.blocks }

-- a block of a tree has 16 sectors
pub of_tree : {need : ℕ} → IsBlockLength 16 need → need ≡ 16
of_tree is = ⊎_elim (λ tree. tree) (λ block. block) is

-- blocks of a tree alone, where one of so many sectors may be written too
pub takes_tree : {most block : ℕ} (old new : FreeSectors) → TakesAtMost most (IsBlockLength 16) old new → TakesAtMost most (IsBlockLength block) old new
takes_tree old new takes = takes_wider old new (λ count is. inl (of_tree is)) takes
