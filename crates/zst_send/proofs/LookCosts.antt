-- How many looks a walk pays by what it finds.
use Rattle.std.proofs.Common.{◌≡◌, ℕ, zero, suc, ◌+◌, ◌*◌, ◌/◌, ◌<◌, ◌≤◌, Bool, true, false, Option, Some, None, refl, sym, ap, ◌∙◌, arith, subst, ◌==◌, ◌&&◌, if◌then◌else◌, eqb-true, min}
use Rattle.std.specs.Prelude.{IfSome}
use Rattle.std.proofs.lemmas.Bool.{true≢false}
use Rattle.std.proofs.lemmas.Nat.{div-add-mod', le-div}
use Rattle.std.proofs.Math.Nat.{div-zero, mul-div_cancel}
use Rattle.zst_block.specs.declared.ptr.Ptr.{Ptr}
use Rattle.zst_model.specs.declared.states.cell.Cell.{Cell}
use Rattle.zst_model.specs.declared.states.cell.Cell.TheVariants as cells
use Rattle.zst_model.specs.sends.Inclusion.{Choice}
use Rattle.zst_model.specs.states.DatedState.{DatedState, size_at}
use Rattle.zst_traverse.specs.Cells.{IsNextCellIn}
use Rattle.zst_traverse.specs.declared.walk_entry.WalkEntry.{WalkEntry}
use Rattle.zst_traverse.specs.declared.walk_entry.WalkEntry.TheVariants as found
use Rattle.zst_tree.specs.Indices.{Blocks}
use Rattle.zst_send.specs.Costs.{cells_due, cells_next, ended, looks_ahead}
use Rattle.zst_send.specs.DueItems.{behind, due_of, due_pairs, is_run, joined_due}
use Rattle.zst_send.specs.WalkPositions.{IsPositionOf, position_after}
use Rattle.zst_send.specs.declared.due_items.DueItems.{DueItems}
use Rattle.zst_send.specs.declared.due_items.DueItems.TheVariants as dues
use Rattle.zst_send.specs.declared.walk_position.WalkPosition.{WalkPosition}

-- ---- what is found has a cell

-- so many indices have that many cells
pairs_count : (snap : DatedState) (k first count type size : ℕ) (what : Cell) (ptr : Ptr) → 0 < size → size_at (snap.state k) ≡ size → 0 < count
    → 0 < cells_due snap (due_pairs k first count type size what ptr)
pairs_count snap k first count type size cells.Hole ptr some is positive = subst (λ (s : ℕ). 0 < count * size / s) (sym is) (subst (λ (n : ℕ). 0 < n) (sym (mul-div_cancel count some)) positive)
pairs_count snap k first count type size cells.Redacted ptr some is positive = subst (λ (s : ℕ). 0 < count * size / s) (sym is) (subst (λ (n : ℕ). 0 < n) (sym (mul-div_cancel count some)) positive)
pairs_count snap k first count type size cells.Data ptr some is positive = omega arith

pub found_counts : (has : Blocks) (reads : ℕ → ℕ → Blocks) (snap : DatedState) (choice : Choice) (position : WalkPosition) (next : WalkEntry) → 0 < position.block_size → IsPositionOf snap position
    → IsNextCellIn has reads snap choice position.point position.slot (Some next) → 0 < cells_due snap (due_of next (position_after position next).type_ (position_after position next).block_size)
found_counts has reads snap choice position (found.Object k dnode) some of next = omega arith
found_counts has reads snap choice position (found.Gone first count) some of next = next.1.some
found_counts has reads snap choice position (found.Pairs k first count what ptr) some of next =
    let passed = of next.0 in
    let size : size_at (snap.state k) ≡ position.block_size = ap (λ (j : ℕ). size_at (snap.state j)) next.1 ∙ ap size_at passed.there ∙ sym passed.size_is in
    pairs_count snap k first count position.type_ position.block_size what ptr some size next.2.some

-- ---- a run has the cells of its parts

parts_divide : (a b size : ℕ) → a / size + b / size ≤ (a + b) / size
parts_divide a b zero = rw (div-zero a, div-zero b, div-zero (a + b)) (omega arith)
parts_divide a b (suc size) =
    let one = div-add-mod' a (suc size) in
    let other = div-add-mod' b (suc size) in
    le-div (a / suc size + b / suc size) (a + b) (suc size) (omega arith) (omega (arith, one, other))

numbers_count : (snap : DatedState) (f m n : ℕ) (t : Bool) (both : DueItems) → (if t then Some (dues.Absent f (m + n)) else None) ≡ Some both → m + n ≤ cells_due snap both
numbers_count snap f m n true both e = let is : dues.Absent f (m + n) ≡ both = cc in subst (λ (d : DueItems). m + n ≤ cells_due snap d) is (omega arith)
numbers_count snap f m n false both e = absurd (cc)

module _ (snap : DatedState) where
  abbrev size : ℕ → ℕ
  size k = size_at (snap.state k)

  touching_count : (k j m n : ℕ) → k ≡ j → m / size k + n / size j ≤ (m + n) / size k
  touching_count k j m n same = subst (λ (i : ℕ). m / size k + n / size i ≤ (m + n) / size k) same (parts_divide m n (size k))

  holes_count : (k j o m n : ℕ) (s t : Bool) → (s ≡ true → k ≡ j) → (both : DueItems) → (if s && t then Some (dues.Holes k o (m + n)) else None) ≡ Some both
      → m / size k + n / size j ≤ cells_due snap both
  holes_count k j o m n true true same both e =
      let is : dues.Holes k o (m + n) ≡ both = cc in
      subst (λ (d : DueItems). m / size k + n / size j ≤ cells_due snap d) is (touching_count k j m n (same refl))
  holes_count k j o m n true false same both e = absurd (cc)
  holes_count k j o m n false t same both e = absurd (cc)

  redacted_count : (k j o m n : ℕ) (s t : Bool) → (s ≡ true → k ≡ j) → (both : DueItems) → (if s && t then Some (dues.Redacted k o (m + n)) else None) ≡ Some both
      → m / size k + n / size j ≤ cells_due snap both
  redacted_count k j o m n true true same both e =
      let is : dues.Redacted k o (m + n) ≡ both = cc in
      subst (λ (d : DueItems). m / size k + n / size j ≤ cells_due snap d) is (touching_count k j m n (same refl))
  redacted_count k j o m n true false same both e = absurd (cc)
  redacted_count k j o m n false t same both e = absurd (cc)

  -- what touches a run goes into it with its cells
  pub joined_counts : (run both : DueItems) (next : Option DueItems) → is_run run ≡ true → joined_due run next ≡ Some both → cells_due snap run + cells_next snap next ≤ cells_due snap both
  joined_counts (dues.Absent f m) both None r e = absurd (cc)
  joined_counts (dues.Absent f m) both (Some (dues.Absent g n)) r e = numbers_count snap f m n (f + m == g) both e
  joined_counts (dues.Absent f m) both (Some (dues.Object k dnode)) r e = absurd (cc)
  joined_counts (dues.Absent f m) both (Some (dues.Spill k ptr tail)) r e = absurd (cc)
  joined_counts (dues.Absent f m) both (Some (dues.Tail k offset)) r e = absurd (cc)
  joined_counts (dues.Absent f m) both (Some (dues.Holes k offset count)) r e = absurd (cc)
  joined_counts (dues.Absent f m) both (Some (dues.Redacted k offset count)) r e = absurd (cc)
  joined_counts (dues.Absent f m) both (Some (dues.Block k type offset ptr)) r e = absurd (cc)
  joined_counts (dues.Holes k o m) both None r e = absurd (cc)
  joined_counts (dues.Holes k o m) both (Some (dues.Absent g n)) r e = absurd (cc)
  joined_counts (dues.Holes k o m) both (Some (dues.Object j dnode)) r e = absurd (cc)
  joined_counts (dues.Holes k o m) both (Some (dues.Spill j ptr tail)) r e = absurd (cc)
  joined_counts (dues.Holes k o m) both (Some (dues.Tail j offset)) r e = absurd (cc)
  joined_counts (dues.Holes k o m) both (Some (dues.Holes j g n)) r e = holes_count k j o m n (k == j) (o + m == g) (eqb-true k j) both e
  joined_counts (dues.Holes k o m) both (Some (dues.Redacted j offset count)) r e = absurd (cc)
  joined_counts (dues.Holes k o m) both (Some (dues.Block j type offset ptr)) r e = absurd (cc)
  joined_counts (dues.Redacted k o m) both None r e = absurd (cc)
  joined_counts (dues.Redacted k o m) both (Some (dues.Absent g n)) r e = absurd (cc)
  joined_counts (dues.Redacted k o m) both (Some (dues.Object j dnode)) r e = absurd (cc)
  joined_counts (dues.Redacted k o m) both (Some (dues.Spill j ptr tail)) r e = absurd (cc)
  joined_counts (dues.Redacted k o m) both (Some (dues.Tail j offset)) r e = absurd (cc)
  joined_counts (dues.Redacted k o m) both (Some (dues.Holes j offset count)) r e = absurd (cc)
  joined_counts (dues.Redacted k o m) both (Some (dues.Redacted j g n)) r e = redacted_count k j o m n (k == j) (o + m == g) (eqb-true k j) both e
  joined_counts (dues.Redacted k o m) both (Some (dues.Block j type offset ptr)) r e = absurd (cc)
  joined_counts (dues.Object k dnode) both next r e = absurd (true≢false (sym r))
  joined_counts (dues.Spill k ptr tail) both next r e = absurd (true≢false (sym r))
  joined_counts (dues.Tail k offset) both next r e = absurd (true≢false (sym r))
  joined_counts (dues.Block k type offset ptr) both next r e = absurd (true≢false (sym r))

  -- ---- what is found and not given yet is a look ahead

  -- a look is paid by what it found, or by the end
  pub look_ahead : (position : WalkPosition) (next : Option DueItems) → (next ≡ None → ended position ≡ 1) → IfSome next (λ due. 0 < cells_due snap due)
      → 1 ≤ looks_ahead snap (record { position = position; held = next })
  look_ahead position None ends some = let e = ends refl in omega (arith, e)
  look_ahead position (Some due) ends some = omega (arith, some)

  -- what is no run has the cell that its look found, and what is behind it none
  pub given_counts : (due : DueItems) → is_run due ≡ false → (min 1 (cells_due snap due) ≤ cells_due snap due) × (cells_next snap (behind due) ≡ 0)
  given_counts (dues.Absent first count) r = absurd (true≢false r)
  given_counts (dues.Object k dnode) r = (omega arith, opened_none (dnode.spill.kind == 0))
    where
      opened_none : (t : Bool) → cells_next snap (Some (if t then dues.Tail k (dnode.end * dnode.block_size) else dues.Spill k dnode.spill (dnode.end * dnode.block_size))) ≡ 0
      opened_none true = refl
      opened_none false = refl
  given_counts (dues.Spill k ptr tail) r = (omega arith, refl)
  given_counts (dues.Tail k offset) r = (omega arith, refl)
  given_counts (dues.Holes k offset count) r = absurd (true≢false r)
  given_counts (dues.Redacted k offset count) r = absurd (true≢false r)
  given_counts (dues.Block k type offset ptr) r = (omega arith, refl)
