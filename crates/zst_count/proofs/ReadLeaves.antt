-- What is read below the root of a tree: the leaf of each index that an object may have.
use Rattle.std.proofs.Common.{◌≡◌, inl, inr, ℕ, zero, suc, ◌+◌, ◌*◌, ◌^◌, ◌<◌, ◌≤◌, Bool, true, false, nat_lt, List, refl, sym, ◌∙◌, subst, arith}
use Rattle.std.specs.Prelude.{None, Some, if◌then◌else◌}
use Rattle.std.proofs.Math.Nat.{mul-le-mul_right}
use Rattle.std.proofs.lemmas.Bool.{and_parts, cases_lt, false≢true, ltb-true}
use Rattle.zst_block.specs.Blocks.{IsBlock}
use Rattle.zst_block.specs.Ptr.{is_flat}
use Rattle.zst_block.specs.declared.ptr.Ptr.{Ptr}
use Rattle.zst_reach.specs.ReachedSets.{StandsAt}
use Rattle.zst_reach.proofs.ReachedLaws.{one_block}
use Rattle.zst_tree.specs.Indices.{Blocks, child, span}
use Rattle.zst_tree.proofs.Span.{span-suc}
use Rattle.zst_count.specs.MetBlocks.{AreRead}
use Rattle.zst_count.specs.PastLeaves.{is_past}
use Rattle.zst_count.proofs.StandingObjects.{IsInside, child_inside, root_inside}

-- a leaf below a pointer has an index from its first one on
from_first : (has : Blocks) (level : ℕ) (ptr : Ptr) (first index : ℕ) (leaf : Ptr) → StandsAt has level ptr first index leaf → first ≤ index
unfolding StandsAt
from_first has zero ptr first index leaf stands = omega (arith, stands.0)
from_first has (suc level) ptr first index leaf (inner, (bytes, there, k, less, lower)) = omega (arith, from_first has level (child bytes k) (first + k * span level) index leaf lower)

-- a pointer at level 6 or more has at least 2^42 leaves
span_six : span 6 ≡ 2 ^ 42
unfolding span
span_six = refl

many_leaves : (level : ℕ) → 6 ≤ level → 2 ^ 42 ≤ span level
many_leaves zero high = absurd (omega arith)
many_leaves (suc level) high = elim (cases_lt level 6) [
  | inl less ↦ (let six : suc level ≡ 6 = omega (arith, less, high) in let P : ℕ → Type 0 = λ n. 2 ^ 42 ≤ span n in subst P (sym six) (omega (arith, span_six)))
  | inr more ↦ omega (arith, many_leaves level more, span-suc level)
]

-- so below a child past the bound a leaf has an index that no object may have
past_root : (level first k index : ℕ) → 6 ≤ level → 2 ≤ k → first + k * span level ≤ index → 2 ^ 43 ≤ index
past_root level first k index high past under =
    let most : 2 * span level ≤ k * span level = mul-le-mul_right (span level) past in
    omega (arith, most, many_leaves level high, under)

past_index : (level first k index : ℕ) → is_past (suc level) k ≡ true → first + k * span level ≤ index → 2 ^ 43 ≤ index
past_index level first k index past under =
    let both = and_parts (nat_lt 1 k) (nat_lt 6 (suc level)) past in
    let high : 6 < suc level = ltb-true 6 (suc level) both.1 in
    let past_first : 1 < k = ltb-true 1 k both.0 in
    past_root level first k index (omega arith) (omega arith) under

module _ (image : List ℕ) (count : ℕ) where
  -- the leaf is there
  abbrev LeafRead : Ptr → Type 0
  LeafRead leaf = (bytes : List ℕ) × IsBlock image leaf bytes

  read_zero : (ptr leaf : Ptr) → AreRead image (Some count) 0 ptr → leaf ≡ ptr → is_flat leaf ≡ false → LeafRead leaf
  unfolding AreRead
  read_zero ptr leaf (inl flat) same inner = absurd (false≢true (sym inner ∙ subst (λ (p : Ptr). is_flat p ≡ true) (sym same) flat))
  read_zero ptr leaf (inr there) same inner = subst LeafRead (sym same) there

  -- a child's leaves are read, unless they stand past the bound
  unless_past : (P : Type 0) (level : ℕ) (ptr : Ptr) (past : Bool) → AreRead image (if past then None else Some count) level ptr → (past ≡ true → P) → (past ≡ false → AreRead image (Some count) level ptr → P) → P
  unless_past P level ptr true are beyond within = beyond refl
  unless_past P level ptr false are beyond within = within refl are

  read_below : (level : ℕ) (ptr : Ptr) (first index : ℕ) (leaf : Ptr) → IsInside level first → AreRead image (Some count) level ptr → StandsAt (IsBlock image) level ptr first index leaf → index < 2 ^ 43 → is_flat leaf ≡ false → LeafRead leaf
  unfolding AreRead StandsAt
  read_below zero ptr first index leaf inside are stands small inner = read_zero ptr leaf are stands.1 inner
  read_below (suc level) ptr first index leaf inside (inl flat) (some, below) small inner = absurd (false≢true (sym some ∙ flat))
  read_below (suc level) ptr first index leaf inside (inr (node, block, read)) (some, (bytes, there, k, less, lower)) small inner =
      let same : bytes ≡ node = one_block image ptr bytes node there block in
      let stands = subst (λ (b : List ℕ). StandsAt (IsBlock image) level (child b k) (first + k * span level) index leaf) same lower in
      unless_past (LeafRead leaf) level (child node k) (is_past (suc level) k) (read k less)
      (λ past. absurd (omega (arith, small, past_index level first k index past (from_first (IsBlock image) level (child node k) (first + k * span level) index leaf stands))))
      (λ within are. read_below level (child node k) (first + k * span level) index leaf (inl (child_inside level first k less within inside)) are stands small inner)

  -- where a tree was read each of its leaves at an index that an object may have is there
  pub read_at : (levels : ℕ) (root : Ptr) (index : ℕ) (leaf : Ptr) → levels ≤ 7 → AreRead image (Some count) levels root → StandsAt (IsBlock image) levels root 0 index leaf → index < 2 ^ 43 → is_flat leaf ≡ false → LeafRead leaf
  read_at levels root index leaf low are stands small inner = read_below levels root 0 index leaf (root_inside levels low) are stands small inner
