-- The text that was read from the first pointers of a node.
use Rattle.std.proofs.Common.{◌≡◌, inl, inr, ℕ, ◌+◌, ◌-◌, ◌*◌, ◌<◌, ◌≤◌, min, List, [], ◌++◌, length, sym, ◌∙◌, ap, subst, append_assoc, length-append, arith}
use Rattle.std.proofs.lemmas.Bool.{cases_lt}
use Rattle.std.proofs.lemmas.List.{append-nil}
use Rattle.zst_block.specs.declared.ptr.Ptr.{Ptr}
use Rattle.zst_tree.specs.Indices.{Blocks, child}
use Rattle.zst_leaves.specs.Leaves.{Appends, BlocksBefore, IsOver, LeavesBelow, bytes_below, part, part_length}
use Rattle.zst_leaves.proofs.LeavesLaws.{none_of, over_below}
use Rattle.zst_leaves.proofs.TextParts.{part_before, part_last, part_none}
use Rattle.zst_tree.proofs.Span.{span-over}

-- the first pointers' parts of a text with so many bytes were appended, and stand below them
pub record Gathered (has : Blocks) (level : ℕ) (node : List ℕ) (long count : ℕ) (old new : List ℕ) : Type 0 where
  pub text : List ℕ
  pub long_is : length text ≡ min (count * bytes_below level) long
  pub new_is : new ≡ old ++ text
  pub parts : (k : ℕ) → k < count → LeavesBelow has level (child node k) (part (bytes_below level) text k)

pub gathered_none : (has : Blocks) (level : ℕ) (node : List ℕ) (long : ℕ) (old : List ℕ) → Gathered has level node long 0 old old
gathered_none has level node long old = record { text = []; long_is = omega arith; new_is = sym (append-nil old); parts = λ k less. absurd (omega arith) }

-- one pointer's part more
gathered_more : (has : Blocks) (level : ℕ) (node : List ℕ) (long count : ℕ) (old mid new : List ℕ) → Gathered has level node long count old mid
    → Appends has level (child node count) (part_length (bytes_below level) long count) mid new → Gathered has level node long (count + 1) old new
gathered_more has level node long count old mid new first last =
    let size = bytes_below level in
    let end : (count + 1) * size ≡ count * size + size = omega arith in
    let total = length-append first.text last.text in
    record {
      text = first.text ++ last.text;
      long_is = omega (arith, end, total, first.long_is, last.long_is);
      new_is = last.new_is ∙ ap (λ (l : List ℕ). l ++ last.text) first.new_is ∙ append_assoc old first.text last.text;
      parts = λ k less. elim (cases_lt long (count * size)) [
        | inl short ↦ (
            let nothing : last.text ≡ [] = none_of last.text (omega (arith, last.long_is)) in
            let same : first.text ++ last.text ≡ first.text = ap (λ (l : List ℕ). first.text ++ l) nothing ∙ append-nil first.text in
            subst (λ (l : List ℕ). LeavesBelow has level (child node k) (part size l k)) (sym same)
            (elim (cases_lt k count) [
              | inl before ↦ first.parts k before
              | inr here ↦ (
                  let is : k ≡ count = omega arith in
                  let empty : part size first.text count ≡ last.text = part_none size first.text count (omega (arith, first.long_is)) ∙ sym nothing in
                  subst (λ (n : ℕ). LeavesBelow has level (child node n) (part size first.text n)) (sym is)
                  (subst (λ (l : List ℕ). LeavesBelow has level (child node count) l) (sym empty) last.below))
            ]))
        | inr whole ↦ (
            let long_first : length first.text ≡ count * size = omega (arith, first.long_is) in
            elim (cases_lt k count) [
              | inl before ↦ subst (λ (l : List ℕ). LeavesBelow has level (child node k) l) (sym (part_before size first.text last.text k count before long_first)) (first.parts k before)
              | inr here ↦ (
                  let is : k ≡ count = omega arith in
                  let this : part size (first.text ++ last.text) count ≡ last.text = part_last size first.text last.text count long_first (omega (arith, last.long_is)) in
                  subst (λ (n : ℕ). LeavesBelow has level (child node n) (part size (first.text ++ last.text) n)) (sym is)
                  (subst (λ (l : List ℕ). LeavesBelow has level (child node count) l) (sym this) last.below))
            ])
      ];
    }

-- one pointer's part more, as it was read
pub gathered_next : (end now : ℕ) (image seen : List ℕ) (level : ℕ) (node : List ℕ) (long count : ℕ) (ptr : Ptr) (piece : ℕ) (old mid new : List ℕ) → now ≡ end → seen ≡ image → ptr ≡ child node count → piece ≡ part_length (bytes_below level) long count
    → Gathered (BlocksBefore end image) level node long count old mid → Appends (BlocksBefore now seen) level ptr piece mid new → Gathered (BlocksBefore end image) level node long (count + 1) old new
gathered_next end now image seen level node long count ptr piece old mid new at same ptr_is piece_is first last =
    gathered_more (BlocksBefore end image) level node long count old mid new first
    (subst (λ (n : ℕ). Appends (BlocksBefore n image) level (child node count) (part_length (bytes_below level) long count) mid new) at
    (subst (λ (c : List ℕ). Appends (BlocksBefore now c) level (child node count) (part_length (bytes_below level) long count) mid new) same
    (subst (λ (p : Ptr). Appends (BlocksBefore now seen) level p (part_length (bytes_below level) long count) mid new) ptr_is
    (subst (λ (n : ℕ). Appends (BlocksBefore now seen) level ptr n mid new) piece_is last))))

-- from all pointers of a node it is the text below it
pub gathered_all : (end now : ℕ) (image seen : List ℕ) (level : ℕ) (ptr : Ptr) (node loaded : List ℕ) (long count : ℕ) (old new : List ℕ) → 0 < level → 0 < long → long ≤ bytes_below level → now ≡ end → seen ≡ image → node ≡ loaded → count ≡ 128
    → BlocksBefore end image ptr loaded → length loaded ≡ 8192 → ptr.kind ≡ 3 → ptr.level ≡ level → Gathered (BlocksBefore now seen) (level - 1) node long count old new → Appends (BlocksBefore end image) level ptr long old new
gathered_all end now image seen level ptr node loaded long count old new inner some room at same node_is all block wide kind level_is gathered =
    let over : IsOver (BlocksBefore end image) level ptr node = record { there = subst (λ (bytes : List ℕ). BlocksBefore end image ptr bytes) (sym node_is) block; long = ap length node_is ∙ wide; kind_is = kind; level_is = level_is } in
    let whole = subst (λ (n : ℕ). Gathered (BlocksBefore end image) (level - 1) node long n old new) all (subst (λ (n : ℕ). Gathered (BlocksBefore n image) (level - 1) node long count old new) at (subst (λ (c : List ℕ). Gathered (BlocksBefore now c) (level - 1) node long count old new) same gathered)) in
    record {
      text = whole.text;
      long_is = omega (arith, whole.long_is, span-over level inner);
      new_is = whole.new_is;
      below = over_below (BlocksBefore end image) level ptr whole.text node inner (omega (arith, whole.long_is, span-over level inner)) over whole.parts;
    }
