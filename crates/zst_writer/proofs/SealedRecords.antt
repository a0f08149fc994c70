-- A record and its checksum, and the text that they follow.
use Rattle.std.proofs.Common.{◌≡◌, Bool, true, false, ℕ, ◌-◌, List, ◌++◌, length, take, drop, refl, sym, ap, ◌∙◌, subst, arith, append_assoc, length-drop}
use Rattle.std.proofs.lemmas.List.{take-append-drop, take_all}
use Rattle.zst_bytes.specs.Bytes.{bytes_at}
use Rattle.zst_bytes.specs.Fields.{lay}
use Rattle.zst_bytes.proofs.FieldsLaws.{lay-back}
use Rattle.zst_fletcher.specs.WeightSum.{weight_sum, parts_of}
use Rattle.zst_record.specs.declared.head.Head.{Head}
use Rattle.zst_record.specs.declared.head.Head.TheVariants as heads
use Rattle.zst_record.specs.Table.{sum_fields, head_bytes, sealed_bytes}
use Rattle.zst_stream.specs.Image.{record_after}
use Rattle.zst_writer.specs.declared.writer.Writer.{Writer}
use Rattle.zst_writer.specs.Writes.{HasWritten, is_begin, stating, bytes_after}

front-kept : (old sums : List ℕ) → length old ≡ 312 → take 280 (lay (sum_fields 280 sums) old) ≡ take 280 old
unfolding bytes_at
front-kept old sums size = lay-back 312 0 280 (sum_fields 280 sums) old (take 280 old) size refl tt refl refl

pub sealed-text : (w : Writer) (text old new last sums : List ℕ) → length old ≡ 312 → new ≡ lay (sum_fields 280 sums) old → last ≡ take (length new - 280) (drop 280 new)
    → HasWritten w ((text ++ take 280 old) ++ last) → HasWritten w (text ++ new)
sealed-text w text old new last sums size is rest h =
    let front : take 280 old ≡ take 280 new = sym (ap (take 280) is ∙ front-kept old sums size) in
    let parts : (text ++ take 280 old) ++ last ≡ text ++ new =
    append_assoc text (take 280 old) last ∙ ap (λ (t : List ℕ). text ++ t) (rw (front, rest, take_all (length new - 280) (drop 280 new) (omega (arith, length-drop 280 new))) (take-append-drop 280 new)) in
    subst (λ (t : List ℕ). HasWritten w t) parts h

-- the record of a head after a text
pub record-put : (text : List ℕ) (head : Head) (first : Bool) (old new : List ℕ) → first ≡ is_begin head → old ≡ head_bytes (stating text head) → (first ≡ true → new ≡ old)
    → (first ≡ false → new ≡ lay (sum_fields 280 (parts_of (weight_sum (text ++ take 280 old)))) old) → new ≡ bytes_after text head
unfolding bytes_after record_after sealed_bytes
record-put text (heads.Begin header len) first old new is same kept sealed = kept is ∙ same
record-put text head first old new is same kept sealed = sealed is ∙ ap (λ (l : List ℕ). lay (sum_fields 280 (parts_of (weight_sum (text ++ take 280 l)))) l) same
