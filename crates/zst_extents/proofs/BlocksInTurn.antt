-- Blocks that were taken in turn: how many they are, and that each found room.
use Rattle.std.proofs.Common.{◌≡◌, inl, inr, ℕ, zero, suc, ◌+◌, ◌*◌, ◌<◌, ◌≤◌, List, [], ◌∷◌, length, refl, sym, ◌∙◌, ap, subst, arith}
use Rattle.std.proofs.lemmas.Bool.{cases_lt}
use Rattle.zst_space.specs.FreeSectors.{FreeSectors, IsSpaceFrom, largest_of, room}
use Rattle.zst_space.specs.TakenExtents.{FitInTurn, without, without_blocks, without_each}
use Rattle.zst_space.proofs.TakenExtentLemmas.{keeps, takes}
use Rattle.zst_block.specs.IoCalls.{IsBlockLength, IsFull, TakesAtMost}
use Rattle.zst_block.proofs.TakenSectors.{of_tree}
use Rattle.zst_leaves.proofs.TakenBlocks.{blocks_none_taken, blocks_then, one_block}
use Rattle.zst_extents.specs.UnmarkedExtents.{IsFullAfter, TakesEnough}

-- one, and then so many more
blocks_next : (more count : ℕ) (old : FreeSectors) → count ≡ 16 → without_blocks more (without old count) ≡ without_blocks (suc more) old
blocks_next more count old is =
    let one : without old count ≡ without_blocks 1 old = one_block 1 old (without old count) (ap (without old) is) refl in
    let next : 1 + more ≡ suc more = omega arith in
    blocks_then 1 more old (without old count) (without_blocks more (without old count)) one refl ∙ ap (λ (n : ℕ). without_blocks n old) next

-- blocks alone were taken, as many as these
each_block : (counts : List ℕ) (old : FreeSectors) → FitInTurn (IsBlockLength 16) counts old → without_each counts old ≡ without_blocks (length counts) old
each_block [] old fit = sym (blocks_none_taken old)
each_block (count ∷ counts) old fit = each_block counts (without old count) fit.2 ∙ blocks_next (length counts) count old (of_tree fit.0)

-- each takes its 16 sectors
room_left : (counts : List ℕ) (old : FreeSectors) → IsSpaceFrom 0 old → FitInTurn (IsBlockLength 16) counts old → room (without_each counts old) + 16 * length counts ≡ room old
room_left [] old is fit = omega arith
room_left (count ∷ counts) old is fit =
    let rest = room_left counts (without old count) (keeps 0 old count is fit.1) fit.2 in
    omega (arith, of_tree fit.0, (takes old count is fit.1).room_is, rest)

-- each found room where those before it had been taken
found_room : (counts : List ℕ) (old : FreeSectors) (before : ℕ) → FitInTurn (IsBlockLength 16) counts old → before < length counts → 16 ≤ largest_of (without_blocks before old)
found_room [] old before fit less = absurd (omega (arith, less))
found_room (count ∷ counts) old zero fit less = subst (λ (space : FreeSectors). 16 ≤ largest_of space) (sym (blocks_none_taken old)) (omega (arith, of_tree fit.0, fit.1))
found_room (count ∷ counts) old (suc before) fit less =
    subst (λ (space : FreeSectors). 16 ≤ largest_of space) (blocks_next before count old (of_tree fit.0)) (found_room counts (without old count) before fit.2 (omega (arith, less)))

-- Where these blocks and those of so many extents could be taken, a call that takes no more of them stops for want of room only once it took as many.
pub record StopsBehind (wanted could : ℕ) (old new : FreeSectors) (need largest : ℕ) : Type 0 where
  pub taken : ℕ
  pub few : taken ≤ wanted
  pub behind : could ≤ taken
  pub full_after : IsFullAfter taken old new need largest

pub stops_behind : (wanted blocks count most need largest : ℕ) (marks : List ℕ) (old new left : FreeSectors) → IsSpaceFrom 0 old → (enough : TakesEnough blocks count marks old left) → TakesAtMost (16 * wanted) (IsBlockLength 16) old new → IsFull most 16 old new need largest
    → StopsBehind wanted enough.taken old new need largest
stops_behind wanted blocks count most need largest marks old new left is enough takes_most full =
    let mine = takes_most.blocks in
    let other = enough.takes.blocks in
    let mine_room = room_left mine.counts old is mine.fit in
    let other_room = room_left other.counts old is other.fit in
    let mine_same : room new ≡ room (without_each mine.counts old) = ap room mine.left in
    let other_same : room left ≡ room (without_each other.counts old) = ap room other.left in
    let many : length other.counts ≡ enough.taken = omega (arith, other_room, other_same, enough.room_is) in
    let after : new ≡ without_blocks (length mine.counts) old = mine.left ∙ each_block mine.counts old mine.fit in
    record {
      taken = length mine.counts;
      few = omega (arith, mine_room, mine_same, takes_most.left);
      behind = elim (cases_lt (length mine.counts) enough.taken) [
        | inl less ↦ absurd (omega (arith, found_room other.counts old (length mine.counts) other.fit (omega (arith, less, many)), ap largest_of after, full.is_longest, full.shorter, of_tree full.needed))
        | inr from ↦ from
      ];
      full_after = record { needed = of_tree full.needed; shorter = full.shorter; is_longest = full.is_longest; after = after };
    }
