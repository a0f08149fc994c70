-- What a record of calls says of a disk's past.
use Rattle.std.specs.Prelude.{◌≡◌, ◌⊎◌, ℕ, ◌+◌, ◌<◌, ◌≤◌, true, false, List, [], ◌∷◌, ◌++◌, nat_lt, nat_le, if◌then◌else◌, length, take, drop, take_while, slice_index}
use Rattle.std.proofs.Common.{refl, sym, ◌∙◌, subst, ap, arith}
use Rattle.std.proofs.lemmas.List.{drop_all}
use Rattle.zst_outside.specs.Ranges.{overwritten}
use Rattle.zst_outside.specs.declared.call_log.Call.{Call}
use Rattle.zst_outside.specs.declared.call_log.Call.TheVariants.{Read, Write, Sync}
use Rattle.zst_outside.specs.declared.call_log.Entry.{Entry}

-- no range holds this place
abbrev pub Untouched : ℕ → List (ℕ × ℕ) → Type 0
Untouched k [] = Unit {0}
Untouched k (range ∷ ranges) = ((k < range.0) ⊎ (range.0 + range.1 ≤ k)) × Untouched k ranges

-- some range holds this place
abbrev pub Touched : ℕ → List (ℕ × ℕ) → Type 0
Touched k [] = ⊥
Touched k (range ∷ ranges) = ((range.0 ≤ k) × (k < range.0 + range.1)) ⊎ Touched k ranges

-- an image: the same bytes, but for those in the ranges
pub record IsImage (ranges : List (ℕ × ℕ)) (bytes image : List ℕ) : Type 0 where
  pub size : length image ≡ length bytes
  pub at : (k : ℕ) → Untouched k ranges → slice_index image k ≡ slice_index bytes k

-- the ranges are filled with one byte
abbrev pub IsFilled : List (ℕ × ℕ) → ℕ → List ℕ → Type 0
IsFilled ranges fill image = (k : ℕ) → k < length image → Touched k ranges → slice_index image k ≡ fill

-- the ranges that a crash may leave with any bytes, after one call more
abbrev pub pending_after : List (ℕ × ℕ) → Call → List (ℕ × ℕ)
pending_after ranges (Read place count) = ranges
pending_after ranges (Write place before) = ranges ++ (place, length before.items) ∷ []
pending_after ranges (Sync true) = []
pending_after ranges (Sync false) = ranges

-- and after more calls
abbrev pub pending : List (ℕ × ℕ) → List Entry → List (ℕ × ℕ)
pending ranges [] = ranges
pending ranges (entry ∷ log) = pending (pending_after ranges entry.call) log

-- the bytes before a call, by those after it
abbrev pub undone : Call → List ℕ → List ℕ
undone (Read place count) bytes = bytes
undone (Write place before) bytes = if nat_le (place + length before.items) (length bytes) then overwritten bytes place before.items else bytes
undone (Sync done) bytes = bytes

-- the bytes before these calls, by those after them
abbrev pub bytes_before : List Entry → List ℕ → List ℕ
bytes_before [] bytes = bytes
bytes_before (entry ∷ log) bytes = undone entry.call (bytes_before log bytes)

-- an image at the moment before entry k
abbrev pub ImageAt : List Entry → List ℕ → ℕ → List ℕ → Type 0
ImageAt log bytes k image = IsImage (pending [] (take k log)) (bytes_before (drop k log) bytes) image

-- an image at a moment from t on
abbrev pub ImageSince : List Entry → List ℕ → ℕ → List ℕ → Type 0
ImageSince log bytes t image = (k : ℕ) × (t ≤ k) × (k ≤ length log) × ImageAt log bytes k image

-- how many entries stand before the call of this number
abbrev pub entries_before : ℕ → List Entry → ℕ
entries_before number log = length (take_while (λ entry. nat_lt entry.number number) log)

-- The laws of a disk in memory: this moment is one of those since t, and since now there is no other; it reads as an image, and each image has its size.

pub now_since : (log : List Entry) (bytes : List ℕ) (t : ℕ) (image : List ℕ) → t ≤ length log → ImageAt log bytes (length log) image → ImageSince log bytes t image
now_since log bytes t image le now = (length log, le, omega arith, now)

pub since_now : (log : List Entry) (bytes image : List ℕ) → ImageSince log bytes (length log) image → ImageAt log bytes (length log) image
since_now log bytes image left =
    let same : left.0 ≡ length log = omega (arith, left.1, left.2) in
    subst (λ (k : ℕ). ImageAt log bytes k image) same left.3

pub reads_as_image : (log : List Entry) (bytes : List ℕ) → ImageAt log bytes (length log) bytes
reads_as_image log bytes =
    subst (λ (l : List Entry). IsImage (pending [] (take (length log) log)) (bytes_before l bytes) bytes) (sym (drop_all (length log) log (omega arith))) (record { size = refl; at = λ k free. refl })

pub image_size : (log : List Entry) (bytes image : List ℕ) → ImageAt log bytes (length log) image → length image ≡ length bytes
image_size log bytes image now = now.size ∙ ap (λ (l : List Entry). length (bytes_before l bytes)) (drop_all (length log) log (omega arith))
