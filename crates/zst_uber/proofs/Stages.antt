-- The stages of a commit.
use Rattle.std.proofs.Common.{◌≡◌, inl, inr, ⊎_elim, ℕ, ◌+◌, ◌≤◌, List, refl, sym, ◌∙◌, ap, subst, arith, slice_index, Result, Ok, Err, OnOk}
use Rattle.zst_outside.specs.Images.{DiskState, TornImage, IsSynced, Leaves, OnlyReads, WritesIn, Leaves-weaker, Leaves-then, WritesIn-wider}
use Rattle.zst_outside.specs.Ranges.{bytes_at, Torn, Torn-same, Torn-then, Torn-wider}
use Rattle.zst_block.proofs.BlocksLaws.{Has-label}
use Rattle.zst_uber.specs.Slots.{gate_place, body_place, other, gate_of, slot_at, latest, IsOpen, IsNext, Stands}
use Rattle.zst_uber.specs.Commit.{HasOldOrNew, KeepsOldOrNew, LabelSettled, Closing, ClosedImage, Closes}
use Rattle.zst_uber.proofs.SlotsLaws.{same_slot, latest-label}
use Rattle.zst_uber.specs.declared.uber.Uber.{Uber}
use Rattle.zst_uber.specs.declared.body_slot.BodySlot.{BodySlot}
use Rattle.zst_uber.specs.declared.body_slot.BodySlot.TheVariants.{First, Second}
use Rattle.zst_uber.proofs.LatestLemmas.{gate_other, body_other, torn_shut, torn_body, IsNew, torn_open, opened_stands}

-- in sectors 0 to 7 they are alike
abbrev SameLabel : List ℕ → List ℕ → Type 0
SameLabel seen d = (p n : ℕ) → p + n ≤ 4096 → bytes_at d p n ≡ bytes_at seen p n

same_at : (t : BodySlot) (s d : List ℕ) → SameLabel s d → slot_at d t ≡ slot_at s t
same_at First s d same = same_slot s d First (same 0 1 (omega arith)) (same 512 512 (omega arith))
same_at Second s d same = same_slot s d Second (same 1024 1 (omega arith)) (same 1536 512 (omega arith))

same_gate : (t : BodySlot) (s d : List ℕ) → SameLabel s d → gate_of d t ≡ gate_of s t
same_gate First s d same = same 0 1 (omega arith)
same_gate Second s d same = same 1024 1 (omega arith)

gate_in : (t : BodySlot) (a b : List ℕ) → Torn (gate_place t) 1 a b → Torn 0 4096 a b
gate_in First a b torn = Torn-wider 0 4096 0 1 a b (omega arith) (omega arith) torn
gate_in Second a b torn = Torn-wider 0 4096 1024 1 a b (omega arith) (omega arith) torn

body_in : (t : BodySlot) (a b : List ℕ) → Torn (body_place t) 512 a b → Torn 0 4096 a b
body_in First a b torn = Torn-wider 0 4096 512 512 a b (omega arith) (omega arith) torn
body_in Second a b torn = Torn-wider 0 4096 1536 512 a b (omega arith) (omega arith) torn

pub gate_writes : (t : BodySlot) (a b : DiskState) → WritesIn (gate_place t) 1 a b → WritesIn 0 4096 a b
gate_writes First a b writes = WritesIn-wider 0 4096 0 1 a b (omega arith) (omega arith) writes
gate_writes Second a b writes = WritesIn-wider 0 4096 1024 1 a b (omega arith) (omega arith) writes

pub body_writes : (t : BodySlot) (a b : DiskState) → WritesIn (body_place t) 512 a b → WritesIn 0 4096 a b
body_writes First a b writes = WritesIn-wider 0 4096 512 512 a b (omega arith) (omega arith) writes
body_writes Second a b writes = WritesIn-wider 0 4096 1536 512 a b (omega arith) (omega arith) writes

closing_in : (t : BodySlot) (s d c : List ℕ) → Closing t s d c → Torn 0 4096 d c
closing_in t s d c (inl same) = subst (λ (x : List ℕ). Torn 0 4096 d x) (sym same) (Torn-same 0 4096 d)
closing_in t s d c (inr torn) = gate_in t d c torn.1

-- before the first write
pub at_start : (uber : Uber) (old : DiskState) (c : List ℕ) → old.images c → HasOldOrNew uber old c
at_start uber old c now = inl (c, now, refl, Torn-same 0 4096 c)

module _ (t : BodySlot) (uber : Uber) (old : DiskState) (settled : LabelSettled old) (idle : latest old.seen ≡ slot_at old.seen (other t)) where
  -- while the gate is closed
  closing : (d c : List ℕ) → old.images d → Closing t old.seen d c → HasOldOrNew uber old c
  closing d c now (inl same) = inl (d, now, ap latest same, closing_in t old.seen d c (inl same))
  closing d c now (inr torn) =
      let same = settled d now in
      let is_open = ap (λ (g : List ℕ). slice_index g 0) (same_gate t old.seen d same) ∙ torn.0 in
      inl (d, now, torn_shut t d c (latest-label old.seen d same ∙ idle ∙ sym (same_at (other t) old.seen d same)) is_open torn.1, gate_in t d c torn.1)

  -- an image from before, and what the closing left
  module _ (d s1 : List ℕ) (now : old.images d) (closed : Closing t old.seen d s1) (torn1 : Torn (gate_place t) 1 old.seen s1) where
    old_is : slot_at s1 (other t) ≡ latest d
    old_is = gate_other t old.seen s1 torn1 ∙ sym idle ∙ sym (latest-label old.seen d (settled d now))

    -- while the body is written
    filling : (c : List ℕ) → (IsOpen s1 t → ⊥) → Torn (body_place t) 512 s1 c → HasOldOrNew uber old c
    filling c shut torn = inl (d, now, torn_body t s1 c shut torn ∙ old_is, Torn-then 0 4096 d s1 c (closing_in t old.seen d s1 closed) (body_in t s1 c torn))

    -- while the gate is opened
    opening : (s2 c : List ℕ) → IsNext uber.number (latest old.seen) → Torn (body_place t) 512 s1 s2 → IsNew uber (bytes_at s2 (body_place t) 512) → Torn (gate_place t) 1 s2 c → HasOldOrNew uber old c
    opening s2 c next torn2 new torn = elim (torn_open t uber s2 c new next2 torn) [
      | inl before ↦ inl (d, now, before ∙ body_other2 ∙ old_is, Torn-then 0 4096 d s1 c (closing_in t old.seen d s1 closed) rest)
      | inr after ↦ inr (after, Torn-then 0 4096 old.seen s1 c (gate_in t old.seen s1 torn1) rest)
    ]
      where
        body_other2 : slot_at s2 (other t) ≡ slot_at s1 (other t)
        body_other2 = body_other t s1 s2 torn2

        next2 : IsNext uber.number (slot_at s2 (other t))
        next2 = subst (λ x. IsNext uber.number x) (idle ∙ sym (gate_other t old.seen s1 torn1) ∙ sym body_other2) next

        rest : Torn 0 4096 s1 c
        rest = Torn-then 0 4096 s1 s2 c (body_in t s1 s2 torn2) (gate_in t s2 c torn)

  -- The calls, one after another: the idle slot is found (d1), its gate is closed (d2), its body is written (d3), its gate is opened (d4).
  module _ (d1 d2 : DiskState) (find : OnlyReads old d1) (close : Closes t d1 d2) where
    closing_0 : (d c : List ℕ) → Closing t d1.seen d c → Closing t old.seen d c
    closing_0 d c closes = subst (λ (s : List ℕ). Closing t s d c) find.seen closes

    pub after_close : Leaves old d2 (HasOldOrNew uber old)
    after_close =
        Leaves-then old d1 d2 (HasOldOrNew uber old) (ClosedImage t d1) (Leaves-weaker old d1 old.images (HasOldOrNew uber old) find.time (at_start uber old)) close.time
        (λ c left. closing left.0 c (find.crash left.0 left.1) (closing_0 left.0 c left.2))

    torn1 : Torn (gate_place t) 1 old.seen d2.seen
    torn1 = subst (λ (s : List ℕ). Torn (gate_place t) 1 s d2.seen) find.seen close.seen

    module _ (d3 : DiskState) (close_only : IsSynced d2) (shut : IsOpen d2.seen t → ⊥) (fill : WritesIn (body_place t) 512 d2 d3) where
      -- an image after the closing came from one before
      from : (c : List ℕ) → d2.images c → (d : List ℕ) × old.images d × Closing t old.seen d d2.seen
      from c now =
          let was = close.crash c now in
          (was.0, find.crash was.0 was.1, closing_0 was.0 d2.seen (subst (λ (x : List ℕ). Closing t d1.seen was.0 x) (close_only c now) was.2))

      pub after_fill : Leaves old d3 (HasOldOrNew uber old)
      after_fill =
          Leaves-then old d2 d3 (HasOldOrNew uber old) (TornImage (body_place t) 512 d2) after_close fill.time
          (λ c left.
          let was = from left.0 left.1 in
          filling was.0 d2.seen was.1 was.2 torn1 c shut (subst (λ (x : List ℕ). Torn (body_place t) 512 x c) (close_only left.0 left.1) left.2))

      module _ (d4 : DiskState) (next : IsNext uber.number (latest old.seen)) (fill_only : IsSynced d3) (new : IsNew uber (bytes_at d3.seen (body_place t) 512)) (open_ : WritesIn (gate_place t) 1 d3 d4) where
        pub after_open : Leaves old d4 (HasOldOrNew uber old)
        after_open =
            Leaves-then old d3 d4 (HasOldOrNew uber old) (TornImage (gate_place t) 1 d3) after_fill open_.time
            (λ c left.
            let half = fill.crash left.0 left.1 in
            let was = from half.0 half.1 in
            opening was.0 d2.seen was.1 was.2 torn1 d3.seen c next fill.seen new (subst (λ (x : List ℕ). Torn (gate_place t) 1 x c) (fill_only left.0 left.1) left.2))

        -- the new body stands
        pub stands : IsOpen d4.seen t → Stands uber d4.seen
        stands is_open =
            let was : slot_at d3.seen (other t) ≡ latest old.seen = body_other t d2.seen d3.seen fill.seen ∙ gate_other t old.seen d2.seen torn1 ∙ sym idle in
            opened_stands t uber d3.seen d4.seen new (subst (λ x. IsNext uber.number x) (sym was) next) open_.seen is_open

-- each image now is one of a moment since the start
pub images_now : (uber : Uber) (old new : DiskState) (c : List ℕ) → Leaves old new (HasOldOrNew uber old) → new.left_since old.moment c → (old.left_since old.moment c → old.images c) → HasOldOrNew uber old c
images_now uber old new c leaves left only = ⊎_elim (λ before. at_start uber old c (only before)) (λ here. here) (leaves.adds old.moment c (omega arith) left)

-- what follows where there is a value
pub on_ok : {T F : Type 0} (result : Result T F) (P Q : Type 0) → (P → Q) → OnOk result P → OnOk result Q
on_ok (Ok value) P Q then p = then p
on_ok (Err fault) P Q then p = p

-- what stands behind sectors 0 to 7 stays in each image of a commit
pub keeps_blocks : (uber : Uber) (old : DiskState) (c : List ℕ) → HasOldOrNew uber old c → KeepsOldOrNew uber old c
keeps_blocks uber old c is = ⊎_elim
    (λ past. inl (past.0, past.1, past.2, λ space ptr bytes has. Has-label space past.0 c ptr bytes past.3 has))
    (λ new. inr (new.0, λ space ptr bytes has. Has-label space old.seen c ptr bytes new.1 has))
    is
