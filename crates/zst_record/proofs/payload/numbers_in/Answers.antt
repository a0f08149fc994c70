use Rattle.std.proofs.Common.{◌≡◌, ap, sym, ◌∙◌, ◌+◌, ◌<◌, ◌++◌, [], ◌∷◌, arith, List, ℕ, suc, length}
use Rattle.zst_record.specs.Payload.{numbers_in}
use Rattle.zst_record.proofs.PayloadNumbers.{length-numbers_in, numbers_in-more}
use Rattle.zst_record.proofs.payload.numbers_in.Goals as goal

pub push-requires : goal.push-requires
push-requires c =
    let long : length c.loop-place.numbers.items ≡ c.loop-place.place = ap length c.loop-place.invariant ∙ length-numbers_in c.loop-place.place c.args.bytes.now in
    let room : length c.loop-place.numbers.items < 36 = omega arith in
    (omega arith, room)

pub loop-place-preserved : goal.loop-place-preserved
loop-place-preserved c =
    let bytes = c.args.bytes.now in
    let place = c.loop-place.place in
    let next : suc place ≡ place + 1 = omega arith in
    c.push.ensures.items
    ∙ ap (λ (l : List ℕ). l ++ c.le64.result ∷ []) c.loop-place.invariant
    ∙ ap (λ (n : ℕ). numbers_in place bytes ++ n ∷ []) c.le64.ensures
    ∙ sym (numbers_in-more place bytes)
    ∙ ap (λ (n : ℕ). numbers_in n bytes) next
