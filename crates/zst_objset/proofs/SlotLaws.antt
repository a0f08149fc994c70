-- The slots of a leaf, one after another.
use Rattle.std.proofs.Common.{◌≡◌, ◌⊎◌, inl, inr, ⊎_elim, ℕ, add-one, ◌+◌, ◌*◌, ◌<◌, ◌≤◌, Bool, false, List, length, refl, sym, ◌∙◌, ap, subst, arith, max, ◌||◌}
use Rattle.std.specs.Prelude.{Some}
use Rattle.std.proofs.lemmas.Bool.{cases_lt}
use Rattle.std.proofs.lemmas.List.{take_all}
use Rattle.zst_bytes.specs.Bytes.{bytes_at, written}
use Rattle.zst_bytes.proofs.BytesLaws.{length-written, written-same, written-above, written-below}
use Rattle.zst_dnode.proofs.Slots.{length-slot_bytes}
use Rattle.zst_dnode.specs.Slot.{slot_bytes, SlotFits}
use Rattle.zst_dnode.specs.declared.slot.Slot.{Slot}
use Rattle.zst_objset.specs.Damage.{HasSlot}
use Rattle.zst_objset.specs.Sets.{any_there, date_in, is_there, latest, Spells}

-- from one place on and below another a node has these bytes, and at each other place what it had
pub record Puts (bytes old new : List ℕ) (from below : ℕ) : Type 0 where
  pub put : (s : ℕ) → from ≤ s → s < below → bytes_at new (512 * s) 512 ≡ bytes
  pub kept : (s : ℕ) → s < 16 → (s < from) ⊎ (below ≤ s) → bytes_at new (512 * s) 512 ≡ bytes_at old (512 * s) 512
  pub long : from < below → length new ≡ 8192

pub Puts-none : (bytes old : List ℕ) (from : ℕ) → Puts bytes old old from from
Puts-none bytes old from = record { put = λ s over under. absurd (omega arith); kept = λ s less beside. refl; long = λ less. absurd (omega arith) }

-- the next place
pub Puts-next : (bytes old mid : List ℕ) (from place : ℕ) → from ≤ place → place < 16 → length bytes ≡ 512 → length mid ≡ 8192 → Puts bytes old mid from place → Puts bytes old (written (512 * place) 512 bytes mid) from (place + 1)
Puts-next bytes old mid from place over less long size before = record {
  put = λ s from_on under. ⊎_elim (λ (earlier : s < place). above s earlier ∙ before.put s from_on earlier) (λ (here : place ≤ s). at s here under) (cases_lt s place);
  kept = λ s small beside. ⊎_elim (λ (earlier : s < place). above s earlier ∙ before.kept s small (first s beside earlier)) (λ (here : place ≤ s). below s small here beside ∙ before.kept s small (inr here)) (cases_lt s place);
  long = λ some. length-written (512 * place) 512 bytes mid long (omega arith) ∙ size;
}
  where
    above : (s : ℕ) → s < place → bytes_at (written (512 * place) 512 bytes mid) (512 * s) 512 ≡ bytes_at mid (512 * s) 512
    above s earlier = written-above (512 * place) 512 (512 * s) 512 bytes mid long (omega arith) (omega arith)

    at : (s : ℕ) → place ≤ s → s < place + 1 → bytes_at (written (512 * place) 512 bytes mid) (512 * s) 512 ≡ bytes
    at s here under =
        let same : s ≡ place = omega arith in
        subst (λ (n : ℕ). bytes_at (written (512 * place) 512 bytes mid) (512 * n) 512 ≡ bytes) (sym same) (written-same (512 * place) 512 bytes mid long (omega arith))

    below : (s : ℕ) → s < 16 → place ≤ s → (s < from) ⊎ (place + 1 ≤ s) → bytes_at (written (512 * place) 512 bytes mid) (512 * s) 512 ≡ bytes_at mid (512 * s) 512
    below s small here (inl before') = absurd (omega arith)
    below s small here (inr behind) = written-below (512 * place) 512 (512 * s) 512 bytes mid long (omega arith) (omega arith)

    first : (s : ℕ) → (s < from) ⊎ (place + 1 ≤ s) → s < place → (s < from) ⊎ (place ≤ s)
    first s (inl before') earlier = inl before'
    first s (inr behind) earlier = absurd (omega arith)

-- what the first slots of a node tell together
pub record IsSummed (bytes : List ℕ) (place number : ℕ) (there : Bool) : Type 0 where
  pub number_is : (slots : ℕ → Slot) → Spells bytes slots → number ≡ latest slots place
  pub there_is : (slots : ℕ → Slot) → Spells bytes slots → there ≡ any_there slots place
  pub all : (s : ℕ) → s < place → (slot : Slot) × HasSlot bytes s slot

pub IsSummed-none : (bytes : List ℕ) → IsSummed bytes 0 0 false
unfolding latest any_there
IsSummed-none bytes = record { number_is = λ slots spells. refl; there_is = λ slots spells. refl; all = λ s under. absurd (omega arith) }

-- with the next slot, as it was read
pub IsSummed-next : (bytes : List ℕ) (place number next : ℕ) (there also : Bool) (slot : Slot) → place < 16
    → ((other : Slot) → SlotFits other → bytes_at bytes (512 * place) 512 ≡ slot_bytes other → Some slot ≡ Some other)
    → SlotFits slot → bytes_at bytes (512 * place) 512 ≡ slot_bytes slot → next ≡ max number (date_in slot) → also ≡ (there || is_there slot)
    → IsSummed bytes place number there → IsSummed bytes (place + 1) next also
unfolding latest any_there
IsSummed-next bytes place number next there also slot less back fits spelled next_is also_is before = record {
  number_is = λ slots spells. rw (add-one) (next_is ∙ rw (same slots spells, before.number_is slots spells) refl);
  there_is = λ slots spells. rw (add-one) (also_is ∙ rw (same slots spells, before.there_is slots spells) refl);
  all = λ s under. ⊎_elim (λ earlier. before.all s earlier) (λ here. at s (omega arith)) (cases_lt s place);
}
  where
    same : (slots : ℕ → Slot) → Spells bytes slots → slot ≡ slots place
    same slots spells = let found = back (slots place) (spells.fits place less) (spells.spelled place less) in cc

    at : (s : ℕ) → s ≡ place → (other : Slot) × HasSlot bytes s other
    at s is = (slot, record { fits = fits; spelled = rw is spelled })

-- a slot's bytes over others
pub slot_over : (slot : Slot) (old : List ℕ) → SlotFits slot → length old ≡ 512 → written 0 512 (slot_bytes slot) old ≡ slot_bytes slot
unfolding bytes_at
slot_over slot old fits long =
    let wide = length-slot_bytes slot fits in
    let same = written-same 0 512 (slot_bytes slot) old wide (omega arith) in
    sym (take_all 512 (written 0 512 (slot_bytes slot) old) (omega (arith, length-written 0 512 (slot_bytes slot) old wide (omega arith)))) ∙ same

-- the next place, as the bytes are put there
pub put_next : (slot : Slot) (given zeros old mid new : List ℕ) (from place : ℕ) → from ≤ place → place < 16 → SlotFits slot → length zeros ≡ 512 → given ≡ written 0 512 (slot_bytes slot) zeros
    → length mid ≡ 8192 → new ≡ written (512 * place) (length given) given mid → Puts (slot_bytes slot) old mid from place → Puts (slot_bytes slot) old new from (place + 1)
put_next slot given zeros old mid new from place over less fits wide given_is size new_is before =
    let same = given_is ∙ slot_over slot zeros fits wide in
    let long = ap length same ∙ length-slot_bytes slot fits in
    subst (λ (bytes : List ℕ). Puts (slot_bytes slot) old bytes from (place + 1)) (sym (new_is ∙ ap (λ (n : ℕ). written (512 * place) n given mid) long ∙ ap (λ (bytes : List ℕ). written (512 * place) 512 bytes mid) same))
    (Puts-next (slot_bytes slot) old mid from place over less (length-slot_bytes slot fits) size before)
