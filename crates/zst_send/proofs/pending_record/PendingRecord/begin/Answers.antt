use Rattle.std.proofs.Common.{rules, ◌≡◌, ◌≤◌, List, ℕ, ◌++◌, ap, arith, length, sym, subst, take, ◌∙◌, []}
use Rattle.std.proofs.lemmas.List.{length-take}
use Rattle.zst_model.specs.declared.sends.header.Header.{Header}
use Rattle.zst_record.specs.Payload.{begin_payload}
use Rattle.zst_fletcher.specs.WeightSum.{IsWhole}
use Rattle.zst_writer.specs.Writes.{HasWritten}
use Rattle.zst_send.proofs.ItemRecords.{begin_whole, front_taken, is_front}
use Rattle.zst_send.proofs.pending_record.PendingRecord.begin.Goals as goal

-- the payload stands in front of the room, so it is no longer than that
short : (header : Header) (count : ℕ) (room : List ℕ) → count ≡ length (begin_payload header) → take count room ≡ begin_payload header → length room ≡ 296 → count ≤ 296
short header count room len taken long =
    let same = ap (λ (l : List ℕ). length l) taken in
    let most = length-take count room in
    omega (arith, same, most, long, len)

pub slice_bounds-field-end : goal.slice_bounds-field-end
slice_bounds-field-end c =
    let made = c.put_begin_payload-count in
    let most = short c.args.header made.result made.new.into made.ensures.len (front_taken c.args.header made.result _ _ made.ensures.len made.ensures.written) made.array_long in
    omega (arith, most)

pub slice_bounds-put-end : goal.slice_bounds-put-end
slice_bounds-put-end c =
    let made = c.put_begin_payload-count in
    made.ensures.len ∙ sym (ap (λ (l : List ℕ). length l) (front_taken c.args.header made.result _ _ made.ensures.len made.ensures.written))

pub put-requires-clause-len : goal.put-requires-clause-len
put-requires-clause-len c =
    let made = c.put_begin_payload-count in
    ap (λ (l : List ℕ). length l) (front_taken c.args.header made.result _ _ made.ensures.len made.ensures.written) ∙ sym made.ensures.len

pub returns-clause-fits : goal.returns-clause-fits
returns-clause-fits c =
    let made = c.put_begin_payload-count in
    let most = short c.args.header made.result made.new.into made.ensures.len (front_taken c.args.header made.result _ _ made.ensures.len made.ensures.written) made.array_long in
    record { head = search rules; payload = omega (arith, most); given = omega arith }

pub put-requires-clause-words : goal.put-requires-clause-words
put-requires-clause-words c =
    subst (λ (l : List ℕ). IsWhole l) (sym (front_taken c.args.header c.put_begin_payload-count.result _ _ c.put_begin_payload-count.ensures.len c.put_begin_payload-count.ensures.written)) (begin_whole c.args.header)

pub returns-clause-written : goal.returns-clause-written
returns-clause-written c =
    let taken = front_taken c.args.header c.put_begin_payload-count.result _ _ c.put_begin_payload-count.ensures.len c.put_begin_payload-count.ensures.written in
    subst (λ (l : List ℕ). HasWritten c.put.new.self l)
    (ap (λ (l : List ℕ). c.put.new.into ++ l) taken ∙ is_front c.args.header c.put_begin_payload-count.result c.put.new.into c.put_begin_payload-count.ensures.len (c.put.ensures.record [] c.requires))
    (c.put.ensures.written [] c.requires)

pub returns-clause-head : goal.returns-clause-head
returns-clause-head c = is_front c.args.header c.put_begin_payload-count.result c.put.new.into c.put_begin_payload-count.ensures.len (c.put.ensures.record [] c.requires)
