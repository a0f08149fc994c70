use Rattle.std.proofs.Common.{◌≡◌, ℕ, List, ◌++◌, true, length, drop, sym, ap, ◌∙◌, arith}
use Rattle.zst_record.specs.Payload.{has_payload}
use Rattle.zst_record.proofs.PayloadLaws.{begin-some, length-payload}
use Rattle.zst_record.proofs.PayloadWrites.{payload_stands}
use Rattle.zst_record.proofs.payload.put_begin_payload.Goals as goal

pub returns-clause-len : goal.returns-clause-len
returns-clause-len c =
    let header = c.args.header.now in
    let has : has_payload header ≡ true = sym c.has_payload.ensures ∙ c.if-not-has_payload.false in
    omega (
      arith,
      length-payload header,
      ap length (begin-some header has),
      ap length c.as_slice-redact.ensures.same,
      ap length c.as_slice-from_redact.ensures.same,
      c.put_words-end.ensures.end,
      c.put_words-end-2.ensures.end,
      c.put_words.ensures.end,
    )

pub returns-clause-written : goal.returns-clause-written
returns-clause-written c =
    let header = c.args.header.now in
    let old = c.args.into.now in
    let has : has_payload header ≡ true = sym c.has_payload.ensures ∙ c.if-not-has_payload.false in
    payload_stands header c.stated_point-point.result c.as_slice-redact.result.now c.as_slice-from_redact.result.now old
    c.put_bytes.new.bytes c.put_words-end.new.into c.put_words-end-2.new.into c.put_words.new.into c.put_words-end.result c.put_words-end-2.result
    c.stated_point-point.ensures c.as_slice-redact.ensures.same c.as_slice-from_redact.ensures.same
    c.put_bytes.ensures c.put_words-end.ensures.words c.put_words-end.ensures.end
    c.put_words-end-2.ensures.words c.put_words-end-2.ensures.end c.put_words.ensures.words
    ∙ sym (ap (λ (l : List ℕ). l ++ drop (length l) old) (begin-some header has))
