-- How many blocks a text takes in leaves.
use Rattle.std.proofs.Common.{◌≡◌, inl, inr, ℕ, zero, suc, ◌+◌, ◌-◌, ◌*◌, ◌/◌, ◌<◌, ◌≤◌, List, length, refl, sym, ◌∙◌, ap, subst, add-one, arith}
use Rattle.std.proofs.lemmas.Bool.{cases_lt}
use Rattle.zst_tree.specs.Indices.{span}
use Rattle.zst_leaves.specs.Leaves.{blocks_for, bytes_below, leaves_for, part, part_length, sum_below}
use Rattle.zst_leaves.proofs.TextParts.{length-part}
use Rattle.zst_tree.proofs.Span.{span-pos, span-suc, span_zero}

-- how many blocks the first parts of a text of so many bytes take, each below a pointer at this level
abbrev pub blocks_before : ℕ → ℕ → ℕ → ℕ
blocks_before level long count = sum_below (λ k. blocks_for level (part_length (bytes_below level) long k)) count

pub before_none : (level long : ℕ) → blocks_before level long 0 ≡ 0
unfolding sum_below
before_none level long = refl

pub before_more : (level long k : ℕ) → blocks_before level long (k + 1) ≡ blocks_before level long k + blocks_for level (part_length (bytes_below level) long k)
unfolding sum_below
before_more level long k = rw add-one refl

pub before_le : (level long k more : ℕ) → blocks_before level long k ≤ blocks_before level long (k + more)
before_le level long k zero = let same : k + 0 ≡ k = omega arith in rw same (omega arith)
before_le level long k (suc more) =
    let next : k + suc more ≡ (k + more) + 1 = omega arith in
    rw next (omega (arith, before_more level long (k + more), before_le level long k more))

pub blocks_none : (level : ℕ) → blocks_for level 0 ≡ 0
unfolding blocks_for
blocks_none zero = refl
blocks_none (suc level) = refl

blocks_leaf : (long : ℕ) → 0 < long → blocks_for 0 long ≡ 1
unfolding blocks_for
blocks_leaf zero some = absurd (omega arith)
blocks_leaf (suc long) some = refl

pub blocks_bottom : (level long : ℕ) → level ≡ 0 → 0 < long → blocks_for level long ≡ 1
blocks_bottom level long bottom some = ap (λ (n : ℕ). blocks_for n long) bottom ∙ blocks_leaf long some

blocks_suc : (level long : ℕ) → 0 < long → blocks_for (suc level) long ≡ blocks_before level long 128 + 1
unfolding blocks_for
blocks_suc level zero some = absurd (omega arith)
blocks_suc level (suc long) some = refl

pub blocks_over : (level long : ℕ) → 0 < level → 0 < long → blocks_for level long ≡ blocks_before (level - 1) long 128 + 1
blocks_over zero long inner some = absurd (omega arith)
blocks_over (suc level) long inner some = let same : suc level - 1 ≡ level = omega arith in rw same (blocks_suc level long some)

-- a part more
pub next_blocks : (level k : ℕ) (text piece : List ℕ) → piece ≡ part (bytes_below level) text k → blocks_before level (length text) k + blocks_for level (length piece) ≡ blocks_before level (length text) (k + 1)
next_blocks level k text piece is =
    ap (λ (long : ℕ). blocks_before level (length text) k + blocks_for level long) (ap length is ∙ length-part (bytes_below level) text k) ∙ sym (before_more level (length text) k)

-- the first parts take no more than all
pub first_blocks : (level long count : ℕ) → count ≤ 128 → blocks_before level long count ≤ blocks_before level long 128
first_blocks level long count le =
    let all : count + (128 - count) ≡ 128 = omega arith in
    subst (λ (n : ℕ). blocks_before level long count ≤ blocks_before level long n) all (before_le level long count (128 - count))

-- at a level: how many blocks any text takes that has room, and a full one
record Few (level : ℕ) : Type 0 where
  most : (long : ℕ) → 0 < long → long ≤ bytes_below level → 127 * blocks_for level long + 1 ≤ 128 * leaves_for long + 127 * level
  full : 127 * blocks_for level (bytes_below level) + 1 ≤ 128 * span level

few_zero : Few 0
few_zero = record {
  most = λ long some room. omega (arith, blocks_leaf long some);
  full = let some : 0 < bytes_below 0 = omega (arith, span_zero) in omega (arith, blocks_leaf (bytes_below 0) some, span_zero);
}

-- so many parts that are full, or all that there are
record FewBefore (level long count : ℕ) : Type 0 where
  whole : count * bytes_below level ≤ long → 127 * blocks_before level long count + count ≤ 128 * (count * span level)
  over : long < count * bytes_below level → 127 * blocks_before level long count + 1 ≤ 128 * leaves_for long + 127 * level

few_before : (level long : ℕ) → Few level → 0 < long → (count : ℕ) → FewBefore level long count
few_before level long few some zero = record {
  whole = λ le. omega (arith, before_none level long);
  over = λ under. absurd (omega arith);
}
few_before level long few some (suc count) =
    let before = few_before level long few some count in
    let more : blocks_before level long (suc count) ≡ blocks_before level long count + blocks_for level (part_length (bytes_below level) long count) = rw (← add-one count) (before_more level long count) in
    let wide : suc count * span level ≡ count * span level + span level = omega arith in
    let end : suc count * bytes_below level ≡ 8192 * (count * span level) + 8192 * span level = omega arith in
    let start : count * bytes_below level ≡ 8192 * (count * span level) = omega arith in
    record {
      whole = λ le.
          let all : part_length (bytes_below level) long count ≡ bytes_below level = omega arith in
          let this : blocks_for level (part_length (bytes_below level) long count) ≡ blocks_for level (bytes_below level) = ap (blocks_for level) all in
          omega (arith, more, this, few.full, before.whole (omega arith));
      over = λ under. elim (cases_lt long (count * bytes_below level)) [
        | inl less ↦ (
            let none : part_length (bytes_below level) long count ≡ 0 = omega arith in
            let this : blocks_for level (part_length (bytes_below level) long count) ≡ blocks_for level 0 = ap (blocks_for level) none in
            omega (arith, more, this, blocks_none level, before.over less))
        | inr from ↦ elim (cases_lt 0 (part_length (bytes_below level) long count)) [
          | inl any ↦ (
              let first = before.whole from in
              let last = few.most (part_length (bytes_below level) long count) any (omega arith) in
              let rest : part_length (bytes_below level) long count ≡ long - count * bytes_below level = omega arith in
              omega (arith, more, first, last, rest))
          | inr none ↦ (
              let nothing : part_length (bytes_below level) long count ≡ 0 = omega arith in
              let this : blocks_for level (part_length (bytes_below level) long count) ≡ blocks_for level 0 = ap (blocks_for level) nothing in
              let same : long ≡ 8192 * (count * span level) = omega arith in
              let any : 0 < count = elim (cases_lt 0 count) [
                | inl is ↦ is
                | inr is ↦ (let zero_is : count ≡ 0 = omega arith in let product : count * span level ≡ 0 * span level = ap (λ (n : ℕ). n * span level) zero_is in absurd (omega arith))
              ] in
              omega (arith, more, this, blocks_none level, before.whole from))
        ]
      ];
    }

few_suc : (level : ℕ) → Few level → Few (suc level)
few_suc level few =
    let wide = span-suc level in
    record {
      most = λ long some room.
          let all = few_before level long few some 128 in
          let total = blocks_suc level long some in
          elim (cases_lt long (128 * bytes_below level)) [
            | inl less ↦ omega (arith, total, all.over less)
            | inr last ↦ omega (arith, total, all.whole last)
          ];
      full =
          let some : 0 < bytes_below (suc level) = omega (arith, span-pos (suc level)) in
          let total = blocks_suc level (bytes_below (suc level)) some in
          omega (arith, total, (few_before level (bytes_below (suc level)) few some 128).whole (omega arith));
    }

few_at : (level : ℕ) → Few level
few_at zero = few_zero
few_at (suc level) = few_suc level (few_at level)

-- up to three levels of nodes are few beside the leaves
pub most_blocks : (level long : ℕ) → level ≤ 3 → 0 < long → long ≤ bytes_below level → blocks_for level long ≤ leaves_for long + leaves_for long / 127 + 3
most_blocks level long le some room = omega (arith, (few_at level).most long some room)

-- and up to two
pub most_two_levels : (level long : ℕ) → level ≤ 2 → 0 < long → long ≤ bytes_below level → long ≤ 134217728 → blocks_for level long ≤ leaves_for long + leaves_for long / 128 + 3
most_two_levels level long le some room small = omega (arith, (few_at level).most long some room)
