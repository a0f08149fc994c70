-- The latest body of an image after a part of a slot changed.
use Rattle.std.proofs.Common.{◌≡◌, ◌⊎◌, inl, inr, ℕ, ◌+◌, ◌^◌, ◌<◌, ◌==◌, ◌&&◌, Bool, true, false, List, Option, Some, None, length, drop, length-drop, slice_index, nat_lt, refl, sym, ◌∙◌, ap, subst, arith, eq-eqb}
use Rattle.std.proofs.lemmas.Bool.{cases_Bool, and_parts, and_left, and_from, ne_eqb, cond-true, cond-false, lt-ltb, le-ltb}
use Rattle.std.proofs.lemmas.List.{length-take}
use Rattle.zst_bytes.specs.Bytes.{number_at}
use Rattle.zst_outside.specs.Ranges.{bytes_at, Torn}
use Rattle.zst_uber.specs.Body.{body_bytes}
use Rattle.zst_uber.proofs.BodyLaws.{length-body, magic-back, number_back}
use Rattle.zst_uber.specs.Slots.{gate_place, body_place, other, counts, in_slot, gate_of, slot_at, latest, IsOpen, IsNext, Stands}
use Rattle.zst_uber.proofs.SlotsLaws.{of_slot, chosen, latest_is, same_slot}
use Rattle.zst_uber.specs.declared.TheConstants.{MAGIC}
use Rattle.zst_uber.specs.declared.uber.Uber.{Uber}
use Rattle.zst_uber.specs.declared.body_slot.BodySlot.{BodySlot}
use Rattle.zst_uber.specs.declared.body_slot.BodySlot.TheVariants.{First, Second}

-- a write to a gate
pub gate_other : (t : BodySlot) (a b : List ℕ) → Torn (gate_place t) 1 a b → slot_at b (other t) ≡ slot_at a (other t)
gate_other First a b torn = same_slot a b Second (torn.above 1024 1 (omega arith)) (torn.above 1536 512 (omega arith))
gate_other Second a b torn = same_slot a b First (torn.below 0 1 (omega arith)) (torn.below 512 512 (omega arith))

pub gate_body : (t : BodySlot) (a b : List ℕ) → Torn (gate_place t) 1 a b → bytes_at b (body_place t) 512 ≡ bytes_at a (body_place t) 512
gate_body First a b torn = torn.above 512 512 (omega arith)
gate_body Second a b torn = torn.above 1536 512 (omega arith)

-- a write to a body
pub body_other : (t : BodySlot) (a b : List ℕ) → Torn (body_place t) 512 a b → slot_at b (other t) ≡ slot_at a (other t)
body_other First a b torn = same_slot a b Second (torn.above 1024 1 (omega arith)) (torn.above 1536 512 (omega arith))
body_other Second a b torn = same_slot a b First (torn.below 0 1 (omega arith)) (torn.below 512 512 (omega arith))

pub body_gate : (t : BodySlot) (a b : List ℕ) → Torn (body_place t) 512 a b → gate_of b t ≡ gate_of a t
body_gate First a b torn = torn.below 0 1 (omega arith)
body_gate Second a b torn = torn.below 1024 1 (omega arith)

-- the latest of a slot and the other one
abbrev pub joined : BodySlot → Option (List ℕ) → Option (List ℕ) → Option (List ℕ)
joined First x y = chosen y x
joined Second x y = chosen x y

pub latest_joined : (t : BodySlot) (image : List ℕ) → latest image ≡ joined t (slot_at image (other t)) (slot_at image t)
latest_joined First image = latest_is image
latest_joined Second image = latest_is image

joined_none : (t : BodySlot) (x : Option (List ℕ)) → joined t x None ≡ x
joined_none First x = refl
joined_none Second None = refl
joined_none Second (Some x) = refl

joined_next : (t : BodySlot) (x : Option (List ℕ)) (b : List ℕ) → IsNext (number_at b 16 8) x → joined t x (Some b) ≡ Some b
joined_next First None b next = refl
joined_next First (Some a) b next = ap (λ (s : BodySlot). of_slot s (Some b) (Some a)) (cond-false (nat_lt (number_at b 16 8) (number_at a 16 8)) Second First (le-ltb _ _ (omega arith)))
joined_next Second None b next = refl
joined_next Second (Some a) b next = ap (λ (s : BodySlot). of_slot s (Some a) (Some b)) (cond-true (nat_lt (number_at a 16 8) (number_at b 16 8)) Second First (lt-ltb _ _ (omega arith)))

-- where a slot doesn't count, the other one is the latest
pub latest_other : (t : BodySlot) (c : List ℕ) → slot_at c t ≡ None → latest c ≡ slot_at c (other t)
latest_other t c none = latest_joined t c ∙ ap (joined t (slot_at c (other t))) none ∙ joined_none t (slot_at c (other t))

pub closed_none : (t : BodySlot) (c : List ℕ) → (IsOpen c t → ⊥) → slot_at c t ≡ None
closed_none t c shut = cond-false (counts (gate_of c t) (bytes_at c (body_place t) 512)) (Some (bytes_at c (body_place t) 512)) None (and_left _ _ (ne_eqb _ _ shut))

-- behind an open gate a body counts if it counts behind any
open_counts : (gate was body : List ℕ) → slice_index was 0 ≡ 165 → counts gate body ≡ true → in_slot was body ≡ in_slot gate body
open_counts gate was body is_open holds =
    cond-true (counts was body) (Some body) None (and_from _ _ (eq-eqb _ _ is_open) (and_parts _ _ holds).1) ∙ sym (cond-true (counts gate body) (Some body) None holds)

-- the gate of the idle slot was open, and then holds any byte
pub torn_shut : (t : BodySlot) (d c : List ℕ) → latest d ≡ slot_at d (other t) → IsOpen d t → Torn (gate_place t) 1 d c → latest c ≡ latest d
torn_shut t d c idle is_open torn = elim (cases_Bool (counts (gate_of c t) (bytes_at d (body_place t) 512))) [
  | inl holds ↦ latest_joined t c ∙ ap (λ x. joined t x (slot_at c t)) (gate_other t d c torn) ∙ ap (joined t (slot_at d (other t))) (body_is ∙ sym (open_counts (gate_of c t) (gate_of d t) (bytes_at d (body_place t) 512) is_open holds)) ∙ sym (latest_joined t d)
  | inr fails ↦ latest_other t c (body_is ∙ cond-false (counts (gate_of c t) (bytes_at d (body_place t) 512)) (Some (bytes_at d (body_place t) 512)) None fails) ∙ gate_other t d c torn ∙ sym idle
]
  where
    body_is : slot_at c t ≡ in_slot (gate_of c t) (bytes_at d (body_place t) 512)
    body_is = ap (λ (x : List ℕ). in_slot (gate_of c t) x) (gate_body t d c torn)

-- behind a closed gate the body holds any bytes
pub torn_body : (t : BodySlot) (d c : List ℕ) → (IsOpen d t → ⊥) → Torn (body_place t) 512 d c → latest c ≡ slot_at d (other t)
torn_body t d c shut torn =
    latest_other t c (closed_none t c (λ is_open. shut (ap (λ (g : List ℕ). slice_index g 0) (sym (body_gate t d c torn)) ∙ is_open))) ∙ body_other t d c torn

-- the bytes of a new body, by what a commit needs of them
pub record IsNew (uber : Uber) (b : List ℕ) : Type 0 where
  pub bytes : b ≡ body_bytes uber
  pub number : uber.number < 2 ^ 64

new_number : (uber : Uber) (b : List ℕ) → IsNew uber b → number_at b 16 8 ≡ uber.number
new_number uber b new = ap (λ (l : List ℕ). number_at l 16 8) new.bytes ∙ number_back uber new.number

new_counts : (uber : Uber) (gate b : List ℕ) → IsNew uber b → slice_index gate 0 ≡ 165 → counts gate b ≡ true
new_counts uber gate b new is_open =
    and_from _ _ (eq-eqb _ _ is_open)
    (and_from _ _ (eq-eqb _ _ (ap (λ (l : List ℕ). length l) new.bytes ∙ length-body uber)) (eq-eqb _ _ (ap (λ (l : List ℕ). number_at l 0 8) new.bytes ∙ magic-back uber)))

-- the gate of a new body holds any byte
pub torn_open : (t : BodySlot) (uber : Uber) (d c : List ℕ) → IsNew uber (bytes_at d (body_place t) 512) → IsNext uber.number (slot_at d (other t)) → Torn (gate_place t) 1 d c → (latest c ≡ slot_at d (other t)) ⊎ Stands uber c
torn_open t uber d c new next torn = elim (cases_Bool (counts (gate_of c t) b)) [
  | inl holds ↦ inr (latest_joined t c ∙ ap (λ x. joined t x (slot_at c t)) (gate_other t d c torn) ∙ ap (joined t (slot_at d (other t))) (body_is ∙ cond-true (counts (gate_of c t) b) (Some b) None holds) ∙ joined_next t (slot_at d (other t)) b number ∙ ap (λ (l : List ℕ). Some l) new.bytes)
  | inr fails ↦ inl (latest_other t c (body_is ∙ cond-false (counts (gate_of c t) b) (Some b) None fails) ∙ gate_other t d c torn)
]
  where
    b : List ℕ
    b = bytes_at d (body_place t) 512

    body_is : slot_at c t ≡ in_slot (gate_of c t) b
    body_is = ap (λ (x : List ℕ). in_slot (gate_of c t) x) (gate_body t d c torn)

    number : IsNext (number_at b 16 8) (slot_at d (other t))
    number = subst (λ n. IsNext n (slot_at d (other t))) (sym (new_number uber b new)) next

-- behind an open gate the new body is the latest
pub opened_stands : (t : BodySlot) (uber : Uber) (d c : List ℕ) → IsNew uber (bytes_at d (body_place t) 512) → IsNext uber.number (slot_at d (other t)) → Torn (gate_place t) 1 d c → IsOpen c t → Stands uber c
opened_stands t uber d c new next torn is_open =
    latest_joined t c ∙ ap (λ x. joined t x (slot_at c t)) (gate_other t d c torn) ∙ ap (joined t (slot_at d (other t))) (body_is ∙ cond-true (counts (gate_of c t) b) (Some b) None (new_counts uber (gate_of c t) b new is_open)) ∙ joined_next t (slot_at d (other t)) b number ∙ ap (λ (l : List ℕ). Some l) new.bytes
  where
    b : List ℕ
    b = bytes_at d (body_place t) 512

    body_is : slot_at c t ≡ in_slot (gate_of c t) b
    body_is = ap (λ (x : List ℕ). in_slot (gate_of c t) x) (gate_body t d c torn)

    number : IsNext (number_at b 16 8) (slot_at d (other t))
    number = subst (λ n. IsNext n (slot_at d (other t))) (sym (new_number uber b new)) next

and_middle : (a b c : Bool) → b ≡ false → (a && (b && c)) ≡ false
and_middle true b c fails = and_left b c fails
and_middle false b c fails = refl

short_range : (image : List ℕ) (p n : ℕ) → 0 < n → length image < p + n → length (bytes_at image p n) < n
unfolding bytes_at
short_range image p n some short = omega (arith, some, length-take n (drop p image), length-drop p image, short)

-- a slot that the image doesn't reach doesn't count
pub short_slot : (t : BodySlot) (image : List ℕ) → length image < body_place t + 512 → slot_at image t ≡ None
short_slot t image short =
    let b = bytes_at image (body_place t) 512 in
    cond-false (counts (gate_of image t) b) (Some b) None (and_middle (slice_index (gate_of image t) 0 == 165) (length b == 512) (number_at b 0 8 == MAGIC) (ne_eqb _ _ (λ whole. omega (arith, whole, short, short_range image (body_place t) 512 (omega arith) short))))
