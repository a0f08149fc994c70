use Rattle.std.proofs.Common.{rules, ◌≡◌, ℕ, ◌+◌, ◌*◌, ◌/◌, ◌≤◌, List, length, replicate, ap, ◌∙◌, arith}
use Rattle.std.proofs.lemmas.List.{length-take-le}
use Rattle.zst_bytes.specs.Bytes.{written}
use Rattle.zst_record.proofs.PaddedTexts.{written-padded}
use Rattle.zst_stream.proofs.ItemStreams.{padded_len}
use Rattle.zst_stream.proofs.item_ref.pad_bonus.Goals as goal

pub returns-clause-padded : goal.returns-clause-padded
returns-clause-padded c =
    let bonus = c.args.bonus.now in
    let width = (length bonus + 7) / 8 * 8 in
    let zeros : c.fill.new.self ≡ replicate (length c.fill.new.self) 0 = search rules in
    let inside : c.pad8-len.result ≤ length c.args.room.now = omega (arith, c.pad8-len.ensures, c.requires.bonus, c.requires.room) in
    let size : length c.fill.new.self ≡ width = c.fill.ensures.len ∙ length-take-le c.pad8-len.result c.args.room.now inside ∙ c.pad8-len.ensures in
    c.put_bytes.ensures
    ∙ ap (λ (old : List ℕ). written 0 (length bonus) bonus old) (zeros ∙ ap (λ (n : ℕ). replicate {A = ℕ} n 0) size)
    ∙ written-padded width bonus

pub returns-clause-len : goal.returns-clause-len
returns-clause-len c = ap length (returns-clause-padded c) ∙ padded_len c.args.bonus.now
