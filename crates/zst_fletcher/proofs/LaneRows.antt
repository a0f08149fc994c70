-- One more row adds to each sum of a lane the sum before it, as that was.
use Rattle.std.proofs.Common.{◌≡◌, ℕ, ◌+◌, ◌*◌, ◌%◌, ◌^◌, List, [], ◌∷◌, ◌++◌, length, slice_index, refl, ap, ◌∙◌, arith, length-append, add-one}
use Rattle.std.proofs.Math.Nat.{add-mod-mod, mod-add-mod}
use Rattle.std.specs.Simd.Lanes.{zip2}
use Rattle.zst_fletcher.specs.declared.lanes.Lanes.{Lanes}
use Rattle.zst_fletcher.specs.Lanes.{lane, lanes_of, weighted_by_later, pairs, triples}

-- to show a fact of a row
pub by_four : (P : List ℕ → Type 0) → ((p q r s : ℕ) → P (p ∷ q ∷ r ∷ s ∷ [])) → (row : List ℕ) → length row ≡ 4 → P row
by_four P f [] h = absurd (omega arith)
by_four P f (a ∷ []) h = absurd (omega arith)
by_four P f (a ∷ b ∷ []) h = absurd (omega arith)
by_four P f (a ∷ b ∷ c ∷ []) h = absurd (omega arith)
by_four P f (a ∷ b ∷ c ∷ d ∷ []) h = f a b c d
by_four P f (a ∷ b ∷ c ∷ d ∷ e ∷ row) h = absurd (omega arith)

-- to show a fact of words in whole rows
pub by_rows : (P : List ℕ → Type 0) → P [] → ((a b c d : ℕ) (later : List ℕ) → length later % 4 ≡ 0 → P later → P (a ∷ b ∷ c ∷ d ∷ later))
    → (ws : List ℕ) → length ws % 4 ≡ 0 → P ws
by_rows P none next [] h = none
by_rows P none next (a ∷ []) h = absurd (omega arith)
by_rows P none next (a ∷ b ∷ []) h = absurd (omega arith)
by_rows P none next (a ∷ b ∷ c ∷ []) h = absurd (omega arith)
by_rows P none next (a ∷ b ∷ c ∷ d ∷ later) h = next a b c d later (omega arith) (by_rows P none next later (omega arith))

pub length-lane : (j : ℕ) (ws : List ℕ) → length ws % 4 ≡ 0 → length ws ≡ 4 * length (lane j ws)
length-lane j = by_rows (λ ws. length ws ≡ 4 * length (lane j ws)) refl (λ a b c d later h ih. omega (arith, ih))

-- one more row gives each lane one more word
pub lane-row : (j p q r s : ℕ) (ws : List ℕ) → length ws % 4 ≡ 0
    → lane j (ws ++ p ∷ q ∷ r ∷ s ∷ []) ≡ lane j ws ++ slice_index (p ∷ q ∷ r ∷ s ∷ []) j ∷ []
lane-row j p q r s =
    by_rows (λ ws. lane j (ws ++ p ∷ q ∷ r ∷ s ∷ []) ≡ lane j ws ++ slice_index (p ∷ q ∷ r ∷ s ∷ []) j ∷ []) refl
    (λ a b c d later h ih. ap (λ t. slice_index (a ∷ b ∷ c ∷ d ∷ []) j ∷ t) ih)

-- one more word at the end
weighted_by_later-push : (w v : ℕ → ℕ) → ((n : ℕ) → w (n + 1) ≡ w n + v n) → w 0 ≡ 0 → (fs : List ℕ) (f : ℕ)
    → weighted_by_later w (fs ++ f ∷ []) ≡ weighted_by_later w fs + weighted_by_later v fs
weighted_by_later-push w v next none [] f = rw none (omega arith)
weighted_by_later-push w v next none (x ∷ xs) f =
    let longer : length (xs ++ f ∷ []) ≡ length xs + 1 = length-append xs (f ∷ []) in
    let weight : w (length (xs ++ f ∷ [])) ≡ w (length xs) + v (length xs) = ap w longer ∙ next (length xs) in
    rw weight (omega (arith, weighted_by_later-push w v next none xs f))

weighted_by_later_one-push : (fs : List ℕ) (f : ℕ) → weighted_by_later (λ n. 1) (fs ++ f ∷ []) ≡ weighted_by_later (λ n. 1) fs + f
weighted_by_later_one-push [] f = omega arith
weighted_by_later_one-push (x ∷ xs) f = omega (arith, weighted_by_later_one-push xs f)

pairs-next : (n : ℕ) → pairs (n + 1) ≡ pairs n + n
pairs-next n = rw add-one refl

triples-next : (n : ℕ) → triples (n + 1) ≡ triples n + pairs n
triples-next n = rw add-one refl

-- one more row, as the code adds it
abbrev pub added : Lanes → List ℕ → Lanes
added l row =
    let plus : ℕ → ℕ → ℕ = λ a b. (a + b) % 2 ^ 64 in
    record { a = zip2 plus l.a row; b = zip2 plus l.b l.a; c = zip2 plus l.c l.b; d = zip2 plus l.d l.c }

pub lanes_of-row : (p q r s : ℕ) (before : List ℕ) (l : Lanes) → length before % 4 ≡ 0 → l ≡ lanes_of before
    → added l (p ∷ q ∷ r ∷ s ∷ []) ≡ lanes_of (before ++ p ∷ q ∷ r ∷ s ∷ [])
unfolding lanes_of
lanes_of-row p q r s before l whole is =
    rw (
      is,
      lane-row 0 p q r s before whole,
      lane-row 1 p q r s before whole,
      lane-row 2 p q r s before whole,
      lane-row 3 p q r s before whole,
    ) (simp (
      weighted_by_later_one-push,
      weighted_by_later-push (λ n. n) (λ n. 1) (λ n. refl) refl,
      weighted_by_later-push pairs (λ n. n) pairs-next refl,
      weighted_by_later-push triples pairs triples-next refl,
      add-mod-mod,
      mod-add-mod,
    ) refl)
