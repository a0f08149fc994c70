-- What a range reads, and what a write at a place leaves in it.
use Rattle.std.proofs.Common.{◌≡◌, ℕ, ◌+◌, ◌-◌, ◌^◌, ◌<◌, ◌≤◌, List, [], ◌++◌, length, take, drop, sym, ◌∙◌, ap, arith, length-append, length-drop, append_assoc}
use Rattle.std.proofs.lemmas.List.{take-append-drop, take-append-le, drop-append-le, drop-drop, length-take-le, take_at, drop_at, append-nil}
use Rattle.std.proofs.Math.Seq.{drop-append-add}
use Rattle.byteorder.specs.Numbers.{little_number-reads_back, length-bytes_low_first}
use Rattle.byteorder.specs.Endian.{little_number}
use Rattle.zst_bytes.specs.Bytes.{bytes_at, number_at, number_bytes, written}

-- a range inside a text has its width
pub length-bytes_at : (xs : List ℕ) (p n : ℕ) → p + n ≤ length xs → length (bytes_at xs p n) ≡ n
unfolding bytes_at
length-bytes_at xs p n le = length-take-le n (drop p xs) (omega (arith, length-drop p xs))

-- bytes that follow a text change none of its ranges
pub bytes_at-append : (xs ys : List ℕ) (p n : ℕ) → p + n ≤ length xs → bytes_at (xs ++ ys) p n ≡ bytes_at xs p n
unfolding bytes_at
bytes_at-append xs ys p n le =
    ap (λ (l : List ℕ). take n l) (drop-append-le p xs ys (omega arith)) ∙ take-append-le n (drop p xs) ys (omega (arith, length-drop p xs))

-- a front of a text has its ranges
pub bytes_at-take : (xs : List ℕ) (k p n : ℕ) → k ≤ length xs → p + n ≤ k → bytes_at (take k xs) p n ≡ bytes_at xs p n
bytes_at-take xs k p n inside le =
    sym (bytes_at-append (take k xs) (drop k xs) p n (omega (arith, length-take-le k xs inside))) ∙ ap (λ (l : List ℕ). bytes_at l p n) (take-append-drop k xs)

-- a number has so many bytes
pub length-number_bytes : (width value : ℕ) → length (number_bytes width value) ≡ width
unfolding number_bytes
length-number_bytes width value = length-bytes_low_first 0 width value

-- the bytes of a number that fits read as that number
pub number-again : (width value : ℕ) → value < 256 ^ width → little_number width (number_bytes width value) ≡ value
unfolding number_bytes
number-again width value fits = ap (little_number width) (sym (append-nil (number_bytes width value))) ∙ little_number-reads_back width value [] fits

-- a write keeps the length
pub length-written : (place width : ℕ) (bytes old : List ℕ) → length bytes ≡ width → place + width ≤ length old → length (written place width bytes old) ≡ length old
unfolding written
length-written place width bytes old size inside =
    omega (arith, length-append (take place old) (bytes ++ drop (place + width) old), length-append bytes (drop (place + width) old), length-drop (place + width) old, length-take-le place old (omega arith))

-- what was written stands in its range
pub written-same : (place width : ℕ) (bytes old : List ℕ) → length bytes ≡ width → place + width ≤ length old → bytes_at (written place width bytes old) place width ≡ bytes
unfolding written bytes_at
written-same place width bytes old size inside =
    ap (take width) (drop_at (take place old) (bytes ++ drop (place + width) old) place (length-take-le place old (omega arith)))
    ∙ take_at bytes (drop (place + width) old) width size

-- a write leaves the ranges before it
pub written-above : (place width p n : ℕ) (bytes old : List ℕ) → length bytes ≡ width → place + width ≤ length old → p + n ≤ place → bytes_at (written place width bytes old) p n ≡ bytes_at old p n
unfolding written
written-above place width p n bytes old size inside le =
    bytes_at-append (take place old) (bytes ++ drop (place + width) old) p n (omega (arith, length-take-le place old (omega arith))) ∙ bytes_at-take old place p n (omega arith) le

-- a write leaves the ranges behind it
pub written-below : (place width p n : ℕ) (bytes old : List ℕ) → length bytes ≡ width → place + width ≤ length old → place + width ≤ p → bytes_at (written place width bytes old) p n ≡ bytes_at old p n
unfolding written bytes_at
written-below place width p n bytes old size inside le =
    let end = place + width in
    let front = take place old ++ bytes in
    let long : length front ≡ end = omega (arith, length-append (take place old) bytes, length-take-le place old (omega arith)) in
    let same : p ≡ length front + (p - end) = omega arith in
    let same_end : end + (p - end) ≡ p = omega arith in
    ap (λ (l : List ℕ). take n (drop p l)) (sym (append_assoc (take place old) bytes (drop end old)))
    ∙ ap (take n) (ap (λ (k : ℕ). drop k (front ++ drop end old)) same ∙ drop-append-add front (drop end old) (p - end) ∙ drop-drop (p - end) end old ∙ ap (λ (k : ℕ). drop k old) same_end)

-- what stands up to the end of a write
pub written_front : (place width : ℕ) (bytes old : List ℕ) → length bytes ≡ width → place + width ≤ length old → take (place + width) (written place width bytes old) ≡ take place old ++ bytes
unfolding written
written_front place width bytes old size inside =
    let front = take place old ++ bytes in
    let long : length front ≡ place + width = omega (arith, length-append (take place old) bytes, length-take-le place old (omega arith)) in
    ap (take (place + width)) (sym (append_assoc (take place old) bytes (drop (place + width) old))) ∙ take_at front (drop (place + width) old) (place + width) long

-- a number that was written is read again
pub number_at-written : (place width value : ℕ) (old : List ℕ) → value < 256 ^ width → place + width ≤ length old → number_at (written place width (number_bytes width value) old) place width ≡ value
unfolding number_at
number_at-written place width value old fits inside =
    ap (little_number width) (written-same place width (number_bytes width value) old (length-number_bytes width value) inside) ∙ number-again width value fits

-- a range of a range
pub bytes_at-bytes_at : (xs : List ℕ) (p n q m : ℕ) → p + n ≤ length xs → q + m ≤ n → bytes_at (bytes_at xs p n) q m ≡ bytes_at xs (p + q) m
unfolding bytes_at
bytes_at-bytes_at xs p n q m inside le =
    let long : n ≤ length (drop p xs) = omega (arith, length-drop p xs, inside) in
    bytes_at-take (drop p xs) n q m long le ∙ ap (take m) (drop-drop q p xs)

-- a number in a range
pub number_at-bytes_at : (xs : List ℕ) (p n q width : ℕ) → p + n ≤ length xs → q + width ≤ n → number_at (bytes_at xs p n) q width ≡ number_at xs (p + q) width
unfolding number_at
number_at-bytes_at xs p n q width inside le = ap (little_number width) (bytes_at-bytes_at xs p n q width inside le)
