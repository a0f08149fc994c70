-- One call more in the record.
use Rattle.std.proofs.Common.{◌≡◌, ◌⊎◌, inl, inr, ℕ, zero, suc, ◌+◌, ◌-◌, ◌<◌, ◌≤◌, Bool, true, false, List, [], ◌∷◌, ◌++◌, length, take, drop, get_or, Vec, cond, refl, sym, ◌∙◌, ap, subst, arith, length-append}
use Rattle.std.specs.declared.alloc.Global.{Global}
use Rattle.std.proofs.lemmas.List.{ext_get_or, take_all, drop_all}
use Rattle.std.proofs.lemmas.Bool.{cases_lt, cond-true, le-leb}
use lib.Dec.{leb}
use Rattle.zst_outside.specs.Ranges.{bytes_at, overwritten, Torn}
use Rattle.zst_outside.specs.Images.{Leaves, Leaves-weaker, Keeps, TornImage, OnlyReads, WritesIn, IsSynced}
use Rattle.zst_outside.specs.CallLog.{Untouched, IsImage, pending_after, pending, undone, bytes_before, ImageAt}
use Rattle.zst_outside.specs.MemDisk.{memory_state}
use Rattle.zst_outside.specs.declared.mem_disk.MemDisk.{MemDisk}
use Rattle.zst_outside.specs.declared.call_log.Entry.{Entry}
use Rattle.zst_outside.specs.declared.call_log.Call.TheVariants.{Write, Sync}
use Rattle.zst_outside.specs.Ranges.{length-bytes_at}
use Rattle.zst_outside.proofs.Bytes.{AlikeOutside, alike-overwritten, overwritten_in, torn_from_alike, get_or-bytes_at, put_back}

-- the ranges that are pending after one entry more
pub pending-push : (ranges : List (ℕ × ℕ)) (log : List Entry) (entry : Entry) → pending ranges (log ++ entry ∷ []) ≡ pending_after (pending ranges log) entry.call
pending-push ranges [] entry = refl
pending-push ranges (e ∷ log) entry = pending-push (pending_after ranges e.call) log entry

-- the bytes before a record with one entry more
before-push : (log : List Entry) (entry : Entry) (bytes : List ℕ) → bytes_before (log ++ entry ∷ []) bytes ≡ bytes_before log (undone entry.call bytes)
before-push [] entry bytes = refl
before-push (e ∷ log) entry bytes = ap (undone e.call) (before-push log entry bytes)

-- an earlier part of the record is as it was
take_push : (k : ℕ) (log : List Entry) (entry : Entry) → k ≤ length log → take k (log ++ entry ∷ []) ≡ take k log
take_push zero log entry le = refl
take_push (suc k) [] entry le = absurd (omega arith)
take_push (suc k) (e ∷ log) entry le = ap (λ (l : List Entry). e ∷ l) (take_push k log entry (omega arith))

-- a later part has the entry at its end
drop_push : (k : ℕ) (log : List Entry) (entry : Entry) → k ≤ length log → drop k (log ++ entry ∷ []) ≡ drop k log ++ entry ∷ []
drop_push zero log entry le = refl
drop_push (suc k) [] entry le = absurd (omega arith)
drop_push (suc k) (e ∷ log) entry le = drop_push k log entry (omega arith)

-- the image at this moment
image_now : (log : List Entry) (bytes image : List ℕ) → ImageAt log bytes (length log) image ≡ IsImage (pending [] log) bytes image
image_now log bytes image =
    ap (λ (l : List Entry). IsImage (pending [] l) (bytes_before (drop (length log) log) bytes) image) (take_all (length log) log (omega arith))
    ∙ ap (λ (l : List Entry). IsImage (pending [] log) (bytes_before l bytes) image) (drop_all (length log) log (omega arith))

-- and back
image_here : (log : List Entry) (bytes image : List ℕ) → IsImage (pending [] log) bytes image → ImageAt log bytes (length log) image
image_here log bytes image is = subst (λ T. T) (sym (image_now log bytes image)) is

-- a place outside one range more
untouched_push : (k : ℕ) (ranges : List (ℕ × ℕ)) (range : ℕ × ℕ) → Untouched k ranges → (k < range.0) ⊎ (range.0 + range.1 ≤ k) → Untouched k (ranges ++ range ∷ [])
untouched_push k [] range free out = (out, tt)
untouched_push k (r ∷ ranges) range free out = (free.0, untouched_push k ranges range free.1 out)

-- after a write, or one that failed, each image is an old one with other bytes in the range
image_torn : (ranges : List (ℕ × ℕ)) (place count : ℕ) (old new image : List ℕ) → place + count ≤ length old → AlikeOutside place count old new → IsImage (ranges ++ (place, count) ∷ []) new image
    → (d : List ℕ) × IsImage ranges old d × Torn place count d image
image_torn ranges place count old new image inside alike is = (d, agrees, torn_from_alike place count d image back)
  where
    was : List ℕ
    was = bytes_at old place count

    size : length was ≡ count
    size = length-bytes_at old place count inside

    d : List ℕ
    d = overwritten image place was

    fits : place + length was ≤ length image
    fits = omega (arith, size, is.size, alike.size)

    out : AlikeOutside place (length was) image d
    out = alike-overwritten image place was fits

    back : AlikeOutside place count d image
    back = record { size = sym out.size; at = λ k o. sym (out.at k (elim o [ inl lt ↦ inl lt | inr le ↦ inr (omega (arith, size, le)) ])) }

    byte : (k : ℕ) → Untouched k ranges → get_or d k 0 ≡ get_or old k 0
    byte k free = elim (cases_lt k place) [
      | inl low ↦ out.at k (inl low) ∙ is.at k (untouched_push k ranges (place, count) free (inl low)) ∙ alike.at k (inl low)
      | inr from ↦ elim (cases_lt k (place + count)) [
        | inl high ↦
            let same : place + (k - place) ≡ k = omega arith in
            overwritten_in image place was fits k from (omega (arith, size, high)) ∙ get_or-bytes_at old place count (k - place) (omega arith) ∙ ap (λ (j : ℕ). get_or old j 0) same
        | inr past ↦ out.at k (inr (omega (arith, size, past))) ∙ is.at k (untouched_push k ranges (place, count) free (inr past)) ∙ alike.at k (inr past)
      ]
    ]

    agrees : IsImage ranges old d
    agrees = record { size = out.size ∙ is.size ∙ alike.size; at = byte }

-- A call that is kept: the disk before it, and after.
module _ (old new : MemDisk) (entry : Entry) (is : new.log.items ≡ old.log.items ++ entry ∷ []) (undoes : undone entry.call new.bytes.items ≡ old.bytes.items) where
  -- an earlier moment has the images that it had
  image_before : (k : ℕ) (image : List ℕ) → k ≤ length old.log.items → ImageAt new.log.items new.bytes.items k image ≡ ImageAt old.log.items old.bytes.items k image
  image_before k image le =
      let log = old.log.items in
      let bytes = new.bytes.items in
      ap (λ (l : List Entry). ImageAt l bytes k image) is
      ∙ ap (λ (l : List Entry). IsImage (pending [] l) (bytes_before (drop k (log ++ entry ∷ [])) bytes) image) (take_push k log entry le)
      ∙ ap (λ (l : List Entry). IsImage (pending [] (take k log)) (bytes_before l bytes) image) (drop_push k log entry le)
      ∙ ap (λ (b : List ℕ). IsImage (pending [] (take k log)) b image) (before-push (drop k log) entry bytes ∙ ap (bytes_before (drop k log)) undoes)

  longer : length new.log.items ≡ length old.log.items + 1
  longer = ap length is ∙ length-append old.log.items (entry ∷ [])

  pub disk_kept : Keeps (memory_state old) (memory_state new)
  disk_kept = λ t image le was. (was.0, was.1, omega (arith, was.2, longer), subst (λ T. T) (sym (image_before was.0 image was.2)) was.3)

  pub disk_time : Leaves (memory_state old) (memory_state new) (memory_state new).images
  disk_time = record {
    later = omega (arith, longer);
    adds = λ t image le left. elim (cases_lt (length old.log.items) left.0) [
      | inl after ↦
          let last : left.0 ≡ length new.log.items = omega (arith, left.2, longer, after) in
          inr (subst (λ (k : ℕ). ImageAt new.log.items new.bytes.items k image) last left.3)
      | inr earlier ↦ inl (left.0, left.1, earlier, subst (λ T. T) (image_before left.0 image earlier) left.3)
    ];
  }

  -- the ranges after it
  image_after : (image : List ℕ) → (memory_state new).images image → IsImage (pending_after (pending [] old.log.items) entry.call) new.bytes.items image
  image_after image now =
      subst (λ (r : List (ℕ × ℕ)). IsImage r new.bytes.items image) (ap (pending []) is ∙ pending-push [] old.log.items entry) (subst (λ T. T) (image_now new.log.items new.bytes.items image) now)

  -- a call that writes nothing and adds no range
  pub disk_reads : new.bytes.items ≡ old.bytes.items
      → ((image : List ℕ) → IsImage (pending_after (pending [] old.log.items) entry.call) old.bytes.items image → IsImage (pending [] old.log.items) old.bytes.items image)
      → OnlyReads (memory_state old) (memory_state new)
  disk_reads same adds_none =
      let crash : (image : List ℕ) → (memory_state new).images image → (memory_state old).images image =
      λ image now. image_here old.log.items old.bytes.items image (adds_none image (subst (λ (l : List ℕ). IsImage (pending_after (pending [] old.log.items) entry.call) l image) same (image_after image now))) in
      record {
        size = ap length same;
        seen = same;
        honest = λ is. is;
        crash = crash;
        time = Leaves-weaker (memory_state old) (memory_state new) (memory_state new).images (memory_state old).images disk_time crash;
        kept = disk_kept;
      }

-- a sync, done or not, brings no image
sync_image : (ranges : List (ℕ × ℕ)) (done : Bool) (bytes image : List ℕ) → IsImage (pending_after ranges (Sync done)) bytes image → IsImage ranges bytes image
sync_image ranges true bytes image is = record { size = is.size; at = λ k free. is.at k tt }
sync_image ranges false bytes image is = is

-- with no range there is one image
image_only : (bytes image : List ℕ) → IsImage [] bytes image → image ≡ bytes
image_only bytes image is = ext_get_or 0 image bytes is.size (λ k lt. is.at k tt)

-- a sync, done or not, only reads
pub disk_syncs : (old new : MemDisk) (number : ℕ) (done : Bool) → new.log.items ≡ old.log.items ++ record { number = number; call = Sync done } ∷ [] → new.bytes.items ≡ old.bytes.items → OnlyReads (memory_state old) (memory_state new)
disk_syncs old new number done is same = disk_reads old new _ is same same (sync_image (pending [] old.log.items) done old.bytes.items)

-- a sync that was done leaves what a read gives
pub disk_synced : (old new : MemDisk) (number : ℕ) (done : Bool) → new.log.items ≡ old.log.items ++ record { number = number; call = Sync done } ∷ [] → new.bytes.items ≡ old.bytes.items → done ≡ true → IsSynced (memory_state new)
disk_synced old new number done is same good = λ image now.
    image_only new.bytes.items image
    (subst (λ (d : Bool). IsImage (pending_after (pending [] old.log.items) (Sync d)) new.bytes.items image) good (image_after old new _ is same image now))

-- a write, done or not, changes no byte outside its range
pub written_alike : (place : ℕ) (from old new : List ℕ) (fails : Bool) → place + length from ≤ length old → new ≡ cond fails old (overwritten old place from) → AlikeOutside place (length from) old new
written_alike place from old new true inside is = subst (λ (l : List ℕ). AlikeOutside place (length from) old l) (sym is) (record { size = refl; at = λ k out. refl })
written_alike place from old new false inside is = subst (λ (l : List ℕ). AlikeOutside place (length from) old l) (sym is) (alike-overwritten old place from inside)

-- A write that is kept, done or not.
module _ (old new : MemDisk) (number place count : ℕ) (before : Vec ℕ Global)
    (inside : place + count ≤ length old.bytes.items)
    (alike : AlikeOutside place count old.bytes.items new.bytes.items)
    (stood : before.items ≡ bytes_at old.bytes.items place count)
    (is : new.log.items ≡ old.log.items ++ record { number = number; call = Write place before } ∷ []) where
  size : length before.items ≡ count
  size = ap length stood ∙ length-bytes_at old.bytes.items place count inside

  write_undone : undone (Write place before) new.bytes.items ≡ old.bytes.items
  write_undone =
      let fits : place + length before.items ≤ length new.bytes.items = omega (arith, size, alike.size, inside) in
      cond-true (leb (place + length before.items) (length new.bytes.items)) (overwritten new.bytes.items place before.items) new.bytes.items (le-leb _ _ fits)
      ∙ put_back place before.items old.bytes.items new.bytes.items (omega (arith, size, inside)) (subst (λ (n : ℕ). AlikeOutside place n old.bytes.items new.bytes.items) (sym size) alike) (stood ∙ ap (λ (n : ℕ). bytes_at old.bytes.items place n) (sym size))

  pub write_time : Leaves (memory_state old) (memory_state new) (memory_state new).images
  write_time = disk_time old new (record { number = number; call = Write place before }) is write_undone

  pub disk_writes : WritesIn place count (memory_state old) (memory_state new)
  disk_writes =
      let crash : (image : List ℕ) → (memory_state new).images image → TornImage place count (memory_state old) image = λ image now.
      let after = image_after old new (record { number = number; call = Write place before }) is write_undone image now in
      let torn = image_torn (pending [] old.log.items) place count old.bytes.items new.bytes.items image inside alike (subst (λ (n : ℕ). IsImage (pending [] old.log.items ++ (place, n) ∷ []) new.bytes.items image) size after) in
      (torn.0, image_here old.log.items old.bytes.items torn.0 torn.1, torn.2) in
      record {
        size = alike.size;
        seen = torn_from_alike place count old.bytes.items new.bytes.items alike;
        honest = λ is. is;
        crash = crash;
        time = Leaves-weaker (memory_state old) (memory_state new) (memory_state new).images (TornImage place count (memory_state old)) write_time crash;
        kept = disk_kept old new (record { number = number; call = Write place before }) is write_undone;
      }
