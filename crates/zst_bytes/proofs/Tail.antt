-- A write into the rest of a text from a place on.
use Rattle.std.proofs.Common.{◌≡◌, ℕ, ◌+◌, ◌-◌, ◌≤◌, List, [], ◌++◌, length, take, drop, ◌∙◌, ap, arith, length-drop}
use Rattle.std.proofs.lemmas.List.{drop-drop, drop_all, take_all, append-nil}
use borrow.Rule.Slice.PartMut.{put_mid, post_of}
use Rattle.zst_bytes.specs.Bytes.{written}

-- after a write at the front of `s[place..]`
pub put-tail : (place width : ℕ) (old bytes new : List ℕ) → place + width ≤ length old → new ≡ bytes ++ drop width (take (length old - place) (drop place old))
    → put_mid place (length old - place) old new ≡ written place width bytes old
unfolding written
put-tail place width old bytes new inside is =
    let all : take (length old - place) (drop place old) ≡ drop place old = take_all (length old - place) (drop place old) (omega (arith, length-drop place old)) in
    let none : post_of place (length old - place) old ≡ [] = drop_all (length old - place) (drop place old) (omega (arith, length-drop place old)) in
    let tail : drop width (drop place old) ≡ drop (place + width) old = drop-drop width place old in
    rw (none, append-nil new) (ap (λ (t : List ℕ). take place old ++ t) (is ∙ ap (λ (t : List ℕ). bytes ++ t) (ap (drop width) all ∙ tail)))
