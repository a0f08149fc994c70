-- The bytes of extents tell them, so that below a root stand one count's extents that are apart.
use Rattle.std.proofs.Common.{◌≡◌, ℕ, zero, suc, ◌^◌, ◌<◌, List, [], ◌∷◌, ◌++◌, length, take, All, refl, sym, ◌∙◌, ap, arith}
use Rattle.std.proofs.lemmas.List.{append_cancel_left, take_at, nil_from_length}
use Rattle.std.proofs.lemmas.List.Elements.{All-head, All-tail}
use Rattle.zst_bytes.specs.Words.{word}
use Rattle.zst_bytes.proofs.BytesLaws.{length-number_bytes, number-again}
use Rattle.zst_space.specs.FreeSectors.{FreeSectors}
use Rattle.zst_space.specs.declared.space.Extent.{Extent}
use Rattle.zst_marks.specs.Marks.{Apart}
use Rattle.zst_block.specs.Blocks.{Has}
use Rattle.zst_block.specs.declared.ptr.Ptr.{Ptr}
use Rattle.zst_leaves.specs.Leaves.{HasLeaves}
use Rattle.zst_extents.specs.ExtentReads.{FitsWords}
use Rattle.zst_extents.specs.StoredExtents.{HasExtents, extent_bytes}
use Rattle.zst_extents.proofs.ApartExtents.{Apart-fits}
use Rattle.zst_extents.proofs.Spelled.{bytes_cons}
use Rattle.zst_extents.proofs.Stored.{spelled_length}

-- a word in front tells its number, and what follows
word_front : (n k : ℕ) (after behind : List ℕ) → n < 2 ^ 64 → k < 2 ^ 64 → word n ++ after ≡ word k ++ behind → (n ≡ k) × (after ≡ behind)
word_front n k after behind n_fits k_fits same =
    let front = sym (take_at (word n) after 8 (length-number_bytes 8 n)) ∙ ap (take 8) same ∙ take_at (word k) behind 8 (length-number_bytes 8 k) in
    let first = number-again 8 n (omega (arith, n_fits)) in
    let second = number-again 8 k (omega (arith, k_fits)) in
    let number : n ≡ k = cc (first, second, front) in
    (number, append_cancel_left (word n) after behind (same ∙ ap (λ (m : ℕ). word m ++ behind) (sym number)))

same_extent : (x y : Extent) → x.first ≡ y.first → x.count ≡ y.count → x ≡ y
same_extent x y first count =
    let made : ◌≡◌ {A = Extent} (record { first = x.first; count = x.count }) (record { first = y.first; count = y.count }) = cc (first, count) in
    made

-- as many extents with the same bytes are the same
extents_tell : (xs ys : List Extent) → All FitsWords xs → All FitsWords ys → length xs ≡ length ys → extent_bytes xs ≡ extent_bytes ys → xs ≡ ys
extents_tell [] [] xs_fit ys_fit long same = refl
extents_tell [] (y ∷ ys) xs_fit ys_fit long same = absurd (omega (arith, long))
extents_tell (x ∷ xs) [] xs_fit ys_fit long same = absurd (omega (arith, long))
extents_tell (x ∷ xs) (y ∷ ys) xs_fit ys_fit long same =
    let x_fits = All-head FitsWords x xs xs_fit in
    let y_fits = All-head FitsWords y ys ys_fit in
    let first = word_front x.first y.first _ _ x_fits.first y_fits.first (sym (bytes_cons x xs) ∙ same ∙ bytes_cons y ys) in
    let count = word_front x.count y.count _ _ x_fits.count y_fits.count first.1 in
    let rest = extents_tell xs ys (All-tail FitsWords x xs xs_fit) (All-tail FitsWords y ys ys_fit) (omega (arith, long)) count.1 in
    let front = same_extent x y first.0 count.0 in
    cc (front, rest)

-- extents whose numbers fit words are told by their bytes alone
pub bytes_tell : (xs ys : List Extent) → All FitsWords xs → All FitsWords ys → extent_bytes xs ≡ extent_bytes ys → xs ≡ ys
bytes_tell xs ys xs_fit ys_fit same = extents_tell xs ys xs_fit ys_fit (omega (arith, ap length same, spelled_length xs, spelled_length ys)) same

-- below a root stands one text of a length
abbrev pub RootsHaveOne : Type 0
RootsHaveOne = (image : List ℕ) (space : FreeSectors) (levels : ℕ) (root : Ptr) (text other : List ℕ) → length text ≡ length other → HasLeaves (Has image space) levels root text → HasLeaves (Has image space) levels root other → text ≡ other

-- and so one count's extents that are apart
pub one_set : RootsHaveOne → (image : List ℕ) (space : FreeSectors) (levels : ℕ) (root : Ptr) (count end : ℕ) (extents other : List Extent) → end < 2 ^ 64 → Apart 8 extents end → Apart 8 other end
    → HasExtents (Has image space) levels root count extents → HasExtents (Has image space) levels root count other → extents ≡ other
one_set one image space levels root zero end extents other small apart others first second = nil_from_length extents first.count_is ∙ sym (nil_from_length other second.count_is)
one_set one image space levels root (suc count) end extents other small apart others first second =
    let long : length (extent_bytes extents) ≡ length (extent_bytes other) = omega (arith, spelled_length extents, spelled_length other, first.count_is, second.count_is) in
    bytes_tell extents other (Apart-fits extents end small apart) (Apart-fits other end small others) (one image space levels root (extent_bytes extents) (extent_bytes other) long (first.leaves (omega arith)) (second.leaves (omega arith)))
