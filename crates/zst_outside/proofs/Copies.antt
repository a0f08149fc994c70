-- Copies into vectors.
use Rattle.std.proofs.Common.{◌≡◌, ℕ, ◌+◌, ◌-◌, List, ◌++◌, length, take, drop, sym, ◌∙◌, ap, arith, append_assoc}
use Rattle.std.proofs.lemmas.List.{drop-drop, take_at}
use borrow.Rule.Slice.PartMut.{put_mid, post_of}
use Rattle.zst_outside.specs.Ranges.{overwritten}

-- after a copy into `s[place..place + n]`
pub overwritten-put_mid : (xs : List ℕ) (place n : ℕ) (ys bytes : List ℕ) → n ≡ length bytes → ys ≡ bytes → put_mid place (place + n - place) xs ys ≡ overwritten xs place bytes
unfolding overwritten
overwritten-put_mid xs place n ys bytes size same =
    let end : place + (place + n - place) ≡ place + length bytes = omega arith in
    sym (append_assoc (take place xs) ys (post_of place (place + n - place) xs))
    ∙ ap (λ (l : List ℕ). take place xs ++ l ++ post_of place (place + n - place) xs) same
    ∙ ap (λ (l : List ℕ). take place xs ++ bytes ++ l) (drop-drop (place + n - place) place xs ∙ ap (λ (k : ℕ). drop k xs) end)

-- a vector whose every item was put
pub whole_vec : (n : ℕ) (xs ys old : List ℕ) → xs ≡ ys → n ≡ length ys → take n (xs ++ drop (length xs) old) ≡ ys
whole_vec n xs ys old same size = ap (λ (l : List ℕ). take n (l ++ drop (length l) old)) same ∙ take_at ys (drop (length ys) old) n (sym size)
