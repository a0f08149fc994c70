-- The latest body stands in sectors 0 to 7.
use Rattle.std.proofs.Common.{◌≡◌, ◌⊎◌, inl, inr, ℕ, ◌+◌, ◌<◌, ◌≤◌, List, length, min, Option, refl, sym, ◌∙◌, ap, arith}
use Rattle.std.proofs.lemmas.Bool.{cases_lt}
use Rattle.std.proofs.lemmas.List.{take_all}
use Rattle.zst_outside.specs.Ranges.{bytes_at, bytes_at-bytes_at}
use Rattle.zst_uber.specs.Slots.{body_place, in_slot, gate_of, slot_at, greater, latest, latest_slot}
use Rattle.zst_uber.specs.declared.body_slot.BodySlot.{BodySlot}
use Rattle.zst_uber.specs.declared.body_slot.BodySlot.TheVariants.{First, Second}

-- the one of two in this slot
abbrev pub of_slot : BodySlot → Option (List ℕ) → Option (List ℕ) → Option (List ℕ)
of_slot First first second = first
of_slot Second first second = second

-- the latest of two
abbrev pub chosen : Option (List ℕ) → Option (List ℕ) → Option (List ℕ)
chosen first second = of_slot (greater first second) first second

slot_is : (image : List ℕ) (s : BodySlot) → slot_at image s ≡ of_slot s (slot_at image First) (slot_at image Second)
slot_is image First = refl
slot_is image Second = refl

pub latest_is : (image : List ℕ) → latest image ≡ chosen (slot_at image First) (slot_at image Second)
latest_is image = slot_is image (latest_slot image)

pub same_slot : (a b : List ℕ) (t : BodySlot) → gate_of b t ≡ gate_of a t → bytes_at b (body_place t) 512 ≡ bytes_at a (body_place t) 512 → slot_at b t ≡ slot_at a t
same_slot a b t gate body = ap (λ (g : List ℕ). in_slot g (bytes_at b (body_place t) 512)) gate ∙ ap (λ (x : List ℕ). in_slot (gate_of a t) x) body

-- what stands in sectors 0 to 7 alone decides on the latest body
pub latest-label : (a b : List ℕ) → ((p n : ℕ) → p + n ≤ 4096 → bytes_at b p n ≡ bytes_at a p n) → latest b ≡ latest a
latest-label a b same =
    latest_is b
    ∙ ap (λ x. chosen x (slot_at b Second)) (same_slot a b First (same 0 1 (omega arith)) (same 512 512 (omega arith)))
    ∙ ap (λ x. chosen (slot_at a First) x) (same_slot a b Second (same 1024 1 (omega arith)) (same 1536 512 (omega arith)))
    ∙ sym (latest_is a)

-- the front of an image that is shorter is the image
short_front : (image : List ℕ) → length image ≤ 2048 → bytes_at image 0 2048 ≡ image
unfolding bytes_at
short_front image short = take_all 2048 image short

all_of : (image : List ℕ) → bytes_at image 0 (length image) ≡ image
unfolding bytes_at
all_of image = take_all (length image) image (omega arith)

-- as many bytes as there are, and 2,048 at most, are the front
pub front_is : (image : List ℕ) (count : ℕ) → count ≡ min (length image) 2048 → bytes_at image 0 count ≡ bytes_at image 0 2048
front_is image count is = go (cases_lt (length image) 2048)
  where
    go : (length image < 2048) ⊎ (2048 ≤ length image) → bytes_at image 0 count ≡ bytes_at image 0 2048
    go (inl short) = ap (λ (n : ℕ). bytes_at image 0 n) (whole short) ∙ all_of image ∙ sym (short_front image (omega arith))
      where
        whole : length image < 2048 → count ≡ length image
        whole less = omega (arith, is, less)
    go (inr long) = ap (λ (n : ℕ). bytes_at image 0 n) (omega (arith, is, long))

-- both slots stand in the front of an image
pub slot_in_front : (t : BodySlot) (image : List ℕ) → slot_at (bytes_at image 0 2048) t ≡ slot_at image t
slot_in_front t image = go t (cases_lt (length image) 2048)
  where
    go : (t : BodySlot) → (length image < 2048) ⊎ (2048 ≤ length image) → slot_at (bytes_at image 0 2048) t ≡ slot_at image t
    go t (inl short) = ap (λ (front : List ℕ). slot_at front t) (short_front image (omega arith))
    go First (inr long) = same_slot image (bytes_at image 0 2048) First (bytes_at-bytes_at image 0 2048 0 1 (omega arith) (omega arith)) (bytes_at-bytes_at image 0 2048 512 512 (omega arith) (omega arith))
    go Second (inr long) = same_slot image (bytes_at image 0 2048) Second (bytes_at-bytes_at image 0 2048 1024 1 (omega arith) (omega arith)) (bytes_at-bytes_at image 0 2048 1536 512 (omega arith) (omega arith))

pub gate_in_front : (t : BodySlot) (image : List ℕ) → gate_of (bytes_at image 0 2048) t ≡ gate_of image t
gate_in_front t image = go t (cases_lt (length image) 2048)
  where
    go : (t : BodySlot) → (length image < 2048) ⊎ (2048 ≤ length image) → gate_of (bytes_at image 0 2048) t ≡ gate_of image t
    go t (inl short) = ap (λ (front : List ℕ). gate_of front t) (short_front image (omega arith))
    go First (inr long) = bytes_at-bytes_at image 0 2048 0 1 (omega arith) (omega arith)
    go Second (inr long) = bytes_at-bytes_at image 0 2048 1024 1 (omega arith) (omega arith)

pub latest_in_front : (image : List ℕ) → latest (bytes_at image 0 2048) ≡ latest image
latest_in_front image =
    latest_is (bytes_at image 0 2048)
    ∙ ap (λ x. chosen x (slot_at (bytes_at image 0 2048) Second)) (slot_in_front First image)
    ∙ ap (λ x. chosen (slot_at image First) x) (slot_in_front Second image)
    ∙ sym (latest_is image)

pub latest_slot_in_front : (image : List ℕ) → latest_slot (bytes_at image 0 2048) ≡ latest_slot image
latest_slot_in_front image =
    ap (λ x. greater x (slot_at (bytes_at image 0 2048) Second)) (slot_in_front First image) ∙ ap (λ x. greater (slot_at image First) x) (slot_in_front Second image)
