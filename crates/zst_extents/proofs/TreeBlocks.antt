-- How many blocks a tree has above so many leaves, and that no text in leaves takes more.
use Rattle.std.proofs.Common.{◌≡◌, ◌⊎◌, inl, inr, ℕ, zero, suc, ◌+◌, ◌-◌, ◌*◌, ◌/◌, ◌<◌, ◌≤◌, refl, ◌∙◌, ap, subst, add-one, arith}
use Rattle.std.proofs.lemmas.Bool.{cases_lt, le-leb, lt-leb}
use Rattle.zst_tree.specs.Indices.{span}
use Rattle.zst_tree.proofs.Span.{span_zero}
use Rattle.zst_leaves.specs.Leaves.{IsLeast, blocks_for, bytes_below, leaves_for, part_length}
use Rattle.zst_leaves.proofs.BlockCounts.{before_more, before_none, blocks_before, blocks_bottom, blocks_none, blocks_over}
use Rattle.zst_leaves.proofs.LevelCounts.{span_one, span_three, span_two}
use Rattle.zst_extents.specs.StoredExtents.{extent_blocks, tree_blocks}

-- ---- by the parts of a text

-- a text below a pointer at this level, which has so many leaves where it is full and then takes so many blocks, takes at most so many by its leaves; and texts that are full with one behind them take at most so many
record IsCount (level full blocks : ℕ) (most all : ℕ → ℕ) : Type 0 where
  leaves : span level ≡ full
  whole : blocks_for level (bytes_below level) ≤ blocks
  part : (long : ℕ) → 0 < long → long ≤ bytes_below level → blocks_for level long ≤ most (leaves_for long)
  none : (count : ℕ) → count * blocks ≤ all (count * full)
  some : (count leaves : ℕ) → 0 < leaves → leaves ≤ full → count * blocks + most leaves ≤ all (count * full + leaves)

module _ {level full blocks : ℕ} {most all : ℕ → ℕ} (is : IsCount level full blocks most all) (long : ℕ) where
  -- so many parts that are full, or all that there are
  record CountBefore (count : ℕ) : Type 0 where
    whole : count * bytes_below level ≤ long → blocks_before level long count ≤ count * blocks
    over : long < count * bytes_below level → blocks_before level long count ≤ all (leaves_for long)

  count_before : (count : ℕ) → CountBefore count
  count_before zero = record {
    whole = λ le. omega (arith, before_none level long);
    over = λ under. absurd (omega arith);
  }
  count_before (suc count) =
      let before = count_before count in
      let more : blocks_before level long (suc count) ≡ blocks_before level long count + blocks_for level (part_length (bytes_below level) long count) = rw (← add-one count) (before_more level long count) in
      let wide : bytes_below level ≡ 8192 * full = omega (arith, is.leaves) in
      let start : count * bytes_below level ≡ 8192 * (count * full) = rw wide (omega arith) in
      let end : suc count * bytes_below level ≡ 8192 * (count * full) + 8192 * full = rw wide (omega arith) in
      let sum : suc count * blocks ≡ count * blocks + blocks = omega arith in
      record {
        whole = λ le.
            let same : part_length (bytes_below level) long count ≡ bytes_below level = omega (arith, le, start, end, wide) in
            let this : blocks_for level (part_length (bytes_below level) long count) ≡ blocks_for level (bytes_below level) = ap (blocks_for level) same in
            omega (arith, more, this, is.whole, sum, before.whole (omega (arith, le, start, end)));
        over = λ under. elim (cases_lt long (count * bytes_below level)) [
          | inl less ↦ (
              let nothing : part_length (bytes_below level) long count ≡ 0 = omega (arith, less) in
              let this : blocks_for level (part_length (bytes_below level) long count) ≡ blocks_for level 0 = ap (blocks_for level) nothing in
              omega (arith, more, this, blocks_none level, before.over less))
          | inr from ↦ elim (cases_lt 0 (part_length (bytes_below level) long count)) [
            | inl any ↦ (
                let rest : part_length (bytes_below level) long count ≡ long - count * bytes_below level = omega (arith, under, from, start, end, wide) in
                let room : part_length (bytes_below level) long count ≤ bytes_below level = omega arith in
                let last = is.part (part_length (bytes_below level) long count) any room in
                let leaves : count * full + leaves_for (part_length (bytes_below level) long count) ≡ leaves_for long = omega (arith, rest, start, from) in
                let both = is.some count (leaves_for (part_length (bytes_below level) long count)) (omega (arith, any)) (omega (arith, room, wide)) in
                subst (λ (n : ℕ). blocks_before level long (suc count) ≤ all n) leaves (omega (arith, more, last, both, before.whole from)))
            | inr empty ↦ (
                let nothing : part_length (bytes_below level) long count ≡ 0 = omega (arith, empty) in
                let this : blocks_for level (part_length (bytes_below level) long count) ≡ blocks_for level 0 = ap (blocks_for level) nothing in
                let leaves : count * full ≡ leaves_for long = omega (arith, nothing, under, from, start, end, wide) in
                subst (λ (n : ℕ). blocks_before level long (suc count) ≤ all n) leaves (omega (arith, more, this, blocks_none level, is.none count, before.whole from)))
          ]
        ];
      }

  -- so a node above takes one more
  count_over : (above : ℕ) → above ≡ suc level → 0 < long → long ≤ 128 * bytes_below level → blocks_for above long ≤ all (leaves_for long) + 1
  count_over above next some room =
      let down : above - 1 ≡ level = omega (arith, next) in
      let total : blocks_for above long ≡ blocks_before level long 128 + 1 = blocks_over above long (omega (arith, next)) some ∙ ap (λ (n : ℕ). blocks_before n long 128 + 1) down in
      let before = count_before 128 in
      elim (cases_lt long (128 * bytes_below level)) [
        | inl less ↦ omega (arith, total, before.over less)
        | inr last ↦ (
            let wide : bytes_below level ≡ 8192 * full = omega (arith, is.leaves) in
            let leaves : 128 * full ≡ leaves_for long = omega (arith, room, last, wide) in
            let within = subst (λ (n : ℕ). 128 * blocks ≤ all n) leaves (is.none 128) in
            omega (arith, total, before.whole (omega (arith, last)), within))
      ]

-- ---- level by level

-- so many leaves with one, two and three levels of nodes above them, but for the root
abbrev leaves_alone : ℕ → ℕ
leaves_alone leaves = leaves

abbrev with_nodes : ℕ → ℕ
with_nodes leaves = leaves + (leaves + 127) / 128

abbrev with_nodes_twice : ℕ → ℕ
with_nodes_twice leaves = leaves + (leaves + 127) / 128 + (leaves + 16383) / 16384

bottom : (long : ℕ) → 0 < long → long ≤ bytes_below 0 → blocks_for 0 long ≤ leaves_for long
bottom long some room = omega (arith, blocks_bottom 0 long refl some, some)

count_leaves : IsCount 0 1 1 leaves_alone leaves_alone
count_leaves = record {
  leaves = span_zero;
  whole = omega (arith, blocks_bottom 0 (bytes_below 0) refl (omega (arith, span_zero)));
  part = bottom;
  none = λ count. omega arith;
  some = λ count leaves any few. omega arith;
}

one_over : (long : ℕ) → 0 < long → long ≤ bytes_below 1 → blocks_for 1 long ≤ leaves_for long + 1
one_over long some room = count_over count_leaves long 1 refl some (omega (arith, room, span_one, span_zero))

count_nodes : IsCount 1 128 129 (λ (leaves : ℕ). leaves + 1) with_nodes
count_nodes = record {
  leaves = span_one;
  whole = omega (arith, one_over (bytes_below 1) (omega (arith, span_one)) (omega arith), span_one);
  part = one_over;
  none = λ count. omega arith;
  some = λ count leaves any few. omega (arith, any);
}

two_over : (long : ℕ) → 0 < long → long ≤ bytes_below 2 → blocks_for 2 long ≤ leaves_for long + (leaves_for long + 127) / 128 + 1
two_over long some room = count_over count_nodes long 2 refl some (omega (arith, room, span_two, span_one))

count_upper : IsCount 2 16384 16513 (λ (leaves : ℕ). leaves + (leaves + 127) / 128 + 1) with_nodes_twice
count_upper = record {
  leaves = span_two;
  whole = omega (arith, two_over (bytes_below 2) (omega (arith, span_two)) (omega arith), span_two);
  part = two_over;
  none = λ count. omega arith;
  some = λ count leaves any few. omega (arith, any);
}

three_over : (long : ℕ) → 0 < long → long ≤ bytes_below 3 → blocks_for 3 long ≤ leaves_for long + (leaves_for long + 127) / 128 + (leaves_for long + 16383) / 16384 + 1
three_over long some room = count_over count_upper long 3 refl some (omega (arith, room, span_three, span_two))

-- ---- as many levels as have room

-- the tree is a leaf or none, or has one, two or three levels of nodes
abbrev HasLevels : ℕ → Type 0
HasLevels leaves =
    ((leaves ≤ 1) × (tree_blocks leaves ≡ leaves))
    ⊎ (((1 < leaves) × (leaves ≤ 128) × (tree_blocks leaves ≡ leaves + 1))
    ⊎ (((128 < leaves) × (leaves ≤ 16384) × (tree_blocks leaves ≡ leaves + (leaves + 127) / 128 + 1))
    ⊎ ((16384 < leaves) × (tree_blocks leaves ≡ leaves + (leaves + 127) / 128 + (leaves + 16383) / 16384 + 1))))

of_leaf : (leaves : ℕ) → leaves ≤ 1 → tree_blocks leaves ≡ leaves
of_leaf leaves few = rw (le-leb leaves 1 few) refl

of_one : (leaves : ℕ) → 1 < leaves → leaves ≤ 128 → tree_blocks leaves ≡ leaves + 1
of_one leaves more few = rw (lt-leb leaves 1 more, le-leb leaves 128 few) refl

of_two : (leaves : ℕ) → 128 < leaves → leaves ≤ 16384 → tree_blocks leaves ≡ leaves + (leaves + 127) / 128 + 1
of_two leaves more few = let some : 1 < leaves = omega (arith, more) in rw (lt-leb leaves 1 some, lt-leb leaves 128 more, le-leb leaves 16384 few) refl

of_three : (leaves : ℕ) → 16384 < leaves → tree_blocks leaves ≡ leaves + (leaves + 127) / 128 + (leaves + 16383) / 16384 + 1
of_three leaves more =
    let some : 1 < leaves = omega (arith, more) in
    let many : 128 < leaves = omega (arith, more) in
    rw (lt-leb leaves 1 some, lt-leb leaves 128 many, lt-leb leaves 16384 more) refl

has_levels : (leaves : ℕ) → HasLevels leaves
has_levels leaves = elim (cases_lt 1 leaves) [
  | inr few ↦ inl (few, of_leaf leaves few)
  | inl some ↦ elim (cases_lt 128 leaves) [
    | inr few ↦ inr (inl (some, few, of_one leaves some few))
    | inl many ↦ elim (cases_lt 16384 leaves) [
      | inr few ↦ inr (inr (inl (many, few, of_two leaves many few)))
      | inl most ↦ inr (inr (inr (most, of_three leaves most)))
    ]
  ]
]

-- ---- no fewer leaves take more

leaf_within : (fewer leaves : ℕ) → fewer ≤ leaves → fewer ≤ tree_blocks leaves
leaf_within fewer leaves le = elim (has_levels leaves) [
  | inl one ↦ omega (arith, le, one.1)
  | inr (inl two) ↦ omega (arith, le, two.2)
  | inr (inr (inl three)) ↦ omega (arith, le, three.2)
  | inr (inr (inr four)) ↦ omega (arith, le, four.1)
]

pub tree_more : (fewer leaves : ℕ) → fewer ≤ leaves → tree_blocks fewer ≤ tree_blocks leaves
tree_more fewer leaves le = elim (has_levels fewer) [
  | inl leaf ↦ omega (arith, leaf.1, leaf_within fewer leaves le)
  | inr (inl one) ↦ elim (has_levels leaves) [
    | inl a ↦ absurd (omega (arith, le, a.0, one.0))
    | inr (inl b) ↦ omega (arith, le, one.2, b.2)
    | inr (inr (inl c)) ↦ omega (arith, le, one.2, c.2)
    | inr (inr (inr d)) ↦ omega (arith, le, one.2, d.1)
  ]
  | inr (inr (inl two)) ↦ elim (has_levels leaves) [
    | inl a ↦ absurd (omega (arith, le, a.0, two.0))
    | inr (inl b) ↦ absurd (omega (arith, le, b.1, two.0))
    | inr (inr (inl c)) ↦ omega (arith, le, two.2, c.2)
    | inr (inr (inr d)) ↦ omega (arith, le, two.2, d.1)
  ]
  | inr (inr (inr three)) ↦ omega (arith, le, three.1, of_three leaves (omega (arith, le, three.0)))
]

-- ---- no text takes more

pub by_level : (levels long : ℕ) → IsLeast levels long → 0 < long → blocks_for levels long ≤ tree_blocks (leaves_for long)
by_level zero long least some =
    omega (arith, bottom long some least.enough, of_leaf (leaves_for long) (omega (arith, least.enough, span_zero)))
by_level (suc zero) long least some =
    let more : bytes_below 0 < long = least.no_fewer (omega arith) in
    omega (arith, one_over long some least.enough, of_one (leaves_for long) (omega (arith, more, span_zero)) (omega (arith, least.enough, span_one)))
by_level (suc (suc zero)) long least some =
    let more : bytes_below 1 < long = least.no_fewer (omega arith) in
    omega (arith, two_over long some least.enough, of_two (leaves_for long) (omega (arith, more, span_one)) (omega (arith, least.enough, span_two)))
by_level (suc (suc (suc zero))) long least some =
    let more : bytes_below 2 < long = least.no_fewer (omega arith) in
    omega (arith, three_over long some least.enough, of_three (leaves_for long) (omega (arith, more, span_two)))
by_level (suc (suc (suc (suc levels)))) long least some = absurd (omega (arith, least.few))

-- up to two levels of nodes are few beside the leaves
pub few_above : (leaves : ℕ) → leaves ≤ 16384 → tree_blocks leaves ≤ leaves + leaves / 128 + 3
few_above leaves small = elim (has_levels leaves) [
  | inl one ↦ omega (arith, one.1)
  | inr (inl two) ↦ omega (arith, two.2)
  | inr (inr (inl three)) ↦ omega (arith, three.2)
  | inr (inr (inr four)) ↦ absurd (omega (arith, four.0, small))
]

-- fewer extents take no more blocks
pub few_leaves : (long count fewer : ℕ) → long ≡ 16 * fewer → fewer ≤ count → tree_blocks (leaves_for long) ≤ extent_blocks count
few_leaves long count fewer is le = tree_more (leaves_for long) (leaves_for (16 * count)) (omega (arith, is, le))

pub few_blocks : (levels long count fewer : ℕ) → IsLeast levels long → 0 < long → long ≡ 16 * fewer → fewer ≤ count → blocks_for levels long ≤ extent_blocks count
few_blocks levels long count fewer least some is le = omega (arith, by_level levels long least some, few_leaves long count fewer is le)

pub fewer_extents : (fewer count : ℕ) → fewer ≤ count → extent_blocks fewer ≤ extent_blocks count
fewer_extents fewer count le = tree_more (leaves_for (16 * fewer)) (leaves_for (16 * count)) (omega (arith, le))

-- some levels are the fewest that have room for so many bytes
pub least_levels : (long : ℕ) → long ≤ 17179869184 → (levels : ℕ) × IsLeast levels long
least_levels long small = elim (cases_lt 8192 long) [
  | inr few ↦ (0, record { few = omega arith; enough = omega (arith, few, span_zero); no_fewer = λ some. absurd (omega (arith, some)) })
  | inl more ↦ elim (cases_lt 1048576 long) [
    | inr few ↦ (1, record { few = omega arith; enough = omega (arith, few, span_one); no_fewer = λ some. omega (arith, more, span_zero) })
    | inl many ↦ elim (cases_lt 134217728 long) [
      | inr few ↦ (2, record { few = omega arith; enough = omega (arith, few, span_two); no_fewer = λ some. omega (arith, many, span_one) })
      | inl most ↦ (3, record { few = omega arith; enough = omega (arith, small, span_three); no_fewer = λ some. omega (arith, most, span_two) })
    ]
  ]
]

-- ---- and no more than this

pub few_by_count : (count : ℕ) → 16 * extent_blocks count ≤ 16 * (count / 512 + count / 32768 + 3)
few_by_count count =
    let leaves : leaves_for (16 * count) ≤ count / 512 + 1 = omega arith in
    elim (has_levels (leaves_for (16 * count))) [
      | inl one ↦ omega (arith, one.0, one.1)
      | inr (inl two) ↦ omega (arith, leaves, two.2)
      | inr (inr (inl three)) ↦ omega (arith, leaves, three.2)
      | inr (inr (inr four)) ↦ omega (arith, leaves, four.0, four.1)
    ]
