use Rattle.std.proofs.Common.{◌≡◌, ap, sym, ◌∙◌, ◌+◌, ◌-◌, ◌*◌, ◌<◌, ◌++◌, [], ◌∷◌, arith, take, drop, List, ℕ, suc, length}
use Rattle.zst_token.specs.Parser.{number_of, numbers_in}
use Rattle.zst_token.proofs.Numbers.{length-numbers_in, numbers_in-more}
use Rattle.zst_token.proofs.fields.numbers_in.Goals as goal

pub push-requires : goal.push-requires
push-requires c =
    let long : length c.loop-place.numbers.items ≡ c.loop-place.place = ap length c.loop-place.invariant ∙ length-numbers_in c.loop-place.place c.args.digits.now in
    let room : length c.loop-place.numbers.items < 39 = omega arith in
    (omega arith, room)

pub loop-place-preserved : goal.loop-place-preserved
loop-place-preserved c =
    let digits = c.args.digits.now in
    let place = c.loop-place.place in
    let wide : 16 * place + 16 - 16 * place ≡ 16 = omega arith in
    let next : suc place ≡ place + 1 = omega arith in
    c.push.ensures.items
    ∙ ap (λ (l : List ℕ). l ++ c.number_of.result ∷ []) c.loop-place.invariant
    ∙ ap (λ (n : ℕ). numbers_in place digits ++ n ∷ []) (c.number_of.ensures ∙ ap (λ (n : ℕ). number_of (take n (drop (16 * place) digits))) wide)
    ∙ sym (numbers_in-more place digits)
    ∙ ap (λ (n : ℕ). numbers_in n digits) next
