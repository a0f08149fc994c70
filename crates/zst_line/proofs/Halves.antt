-- What stands before and behind a mark, and the last two of a list.
use Rattle.std.proofs.Common.{◌≡◌, ◌≢◌, ℕ, zero, suc, ◌+◌, ◌<◌, List, [], ◌∷◌, ◌++◌, length, get_or, Option, Some, None, decimal, codes, refl, ap, sym, ◌∙◌, arith}
use Rattle.std.proofs.lemmas.Fmt.{decimal_injective}
use Rattle.std.proofs.lemmas.List.{get_or-append-add, length-append}
use Rattle.zst_line.specs.Line.{IsBlockOf, IsSpillOf}
use Rattle.zst_line.proofs.Spills.{no_colon}

-- the last two of a list
pub same_end : {X : Type 0} (xs ys : List X) (a b c d : X) → xs ++ a ∷ b ∷ [] ≡ ys ++ c ∷ d ∷ [] → (a ≡ c) × (b ≡ d)
same_end xs ys a b c d e =
    let long : length xs ≡ length ys = omega (arith, simp length-append at (ap length e)) in
    let p = get_or-append-add xs (a ∷ b ∷ []) 0 a in
    let q = get_or-append-add ys (c ∷ d ∷ []) 0 a in
    let r = get_or-append-add xs (a ∷ b ∷ []) 1 a in
    let s = get_or-append-add ys (c ∷ d ∷ []) 1 a in
    (cc, cc)

-- a text without the mark, the mark, and a rest
pub same_halves : (mark : ℕ) (xs ys us vs : List ℕ) → ((i : ℕ) → i < length xs → get_or xs i 0 ≢ mark) → ((i : ℕ) → i < length ys → get_or ys i 0 ≢ mark) → xs ++ mark ∷ us ≡ ys ++ mark ∷ vs
    → (xs ≡ ys) × (us ≡ vs)
same_halves mark [] [] us vs p q e = (refl, cc)
same_halves mark [] (y ∷ ys) us vs p q e = let here : y ≡ mark = cc in absurd (q 0 (omega arith) here)
same_halves mark (x ∷ xs) [] us vs p q e = let here : x ≡ mark = cc in absurd (p 0 (omega arith) here)
same_halves mark (x ∷ xs) (y ∷ ys) us vs p q e =
    let first : x ≡ y = cc in
    let later : xs ++ mark ∷ us ≡ ys ++ mark ∷ vs = cc in
    let rest = same_halves mark xs ys us vs (λ i h. p (suc i) (omega arith)) (λ i h. q (suc i) (omega arith)) later in
    let front = rest.0 in
    (cc, rest.1)

no_colon_in_none : (k : ℕ) → get_or (codes "none") k 0 ≡ 58 → ⊥
no_colon_in_none zero e = omega arith
no_colon_in_none (suc zero) e = omega arith
no_colon_in_none (suc (suc zero)) e = omega arith
no_colon_in_none (suc (suc (suc zero))) e = omega arith
no_colon_in_none (suc (suc (suc (suc k)))) e = omega arith

-- `none` is no spill block
none_is_no_block : (block word : List ℕ) → IsBlockOf block word → word ≡ codes "none" → ⊥
none_is_no_block block word is e =
    let here = get_or-append-add (decimal (length block)) (58 ∷ is.digits) 0 0 in
    let spelled = is.spelled in
    no_colon_in_none (length (decimal (length block)) + 0) cc

same_block : (one other word : List ℕ) → IsBlockOf one word → IsBlockOf other word → one ≡ other
same_block one other word p q =
    let halves = same_halves 58 (decimal (length one)) (decimal (length other)) p.digits q.digits (no_colon (length one) p.small) (no_colon (length other) q.small) (sym p.spelled ∙ q.spelled) in
    let sizes : length one ≡ length other = decimal_injective (length one) (length other) p.small q.small halves.0 in
    let texts = halves.1 in
    let a = p.decoded in
    let b = q.decoded in
    let bytes : p.bytes ≡ q.bytes = cc in
    p.filled ∙ rw (sizes, bytes) (sym q.filled)

-- a word is one spill block
pub same_spill : (one other : Option (List ℕ)) (word : List ℕ) → IsSpillOf one word → IsSpillOf other word → one ≡ other
same_spill None None word p q = refl
same_spill None (Some other) word p q = absurd (none_is_no_block other word q p)
same_spill (Some one) None word p q = absurd (none_is_no_block one word p q)
same_spill (Some one) (Some other) word p q = ap Some (same_block one other word p q)
