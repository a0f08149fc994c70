-- Extents that are put one behind the other.
use Rattle.std.proofs.Common.{◌≡◌, ◌⊎◌, ◌↔◌, inl, inr, ⊎_elim, ℕ, ◌+◌, ◌-◌, ◌<◌, ◌≤◌, List, [], ◌∷◌, ◌++◌, refl, sym, ◌∙◌, ap, subst, arith, nat_lt, if◌then◌else◌}
use Rattle.std.proofs.lemmas.List.{append_assoc}
use Rattle.std.proofs.lemmas.Bool.{cases_lt, cases_eq, cond-true, cond-false, lt-ltb, le-ltb}
use Rattle.zst_space.specs.FreeSectors.{IsInSome}
use Rattle.zst_space.specs.declared.space.Extent.{Extent}
use Rattle.zst_marks.specs.Marks.{IsMarked, IsUnmarked, Apart, Follow}

-- what comes of extents that were put up to here, whatever follows
abbrev pub Joins : ℕ → List Extent → ℕ → Type 0
Joins from extents first = (rest : List Extent) (end : ℕ) → Apart first rest end → Apart from (extents ++ rest) end

-- the sectors from one on and below another, as extents
pub data Piece (first below : ℕ) (piece : List Extent) : Type 0 where
  Some : (e : Extent) → piece ≡ e ∷ [] → e.first ≡ first → first < below → e.count ≡ below - first → Piece first below piece
  None : piece ≡ [] → below ≤ first → Piece first below piece

Apart-follow : (n : ℕ) (extents : List Extent) (end : ℕ) → Apart (n + 1) extents end → Follow n extents end
Apart-follow n [] end rise = omega (arith, rise)
Apart-follow n (e ∷ es) end rise = (omega (arith, rise.0), rise.1, rise.2)

Apart-earlier : (n m : ℕ) (extents : List Extent) (end : ℕ) → m ≤ n → Apart n extents end → Apart m extents end
Apart-earlier n m [] end le rise = omega (arith, rise, le)
Apart-earlier n m (e ∷ es) end le rise = (omega (arith, rise.0, le), rise.1, rise.2)

-- a piece is put, and the sector behind it is passed
pub joins_next : (from first below : ℕ) (extents piece : List Extent) → first ≤ below → Piece first below piece → Joins from extents first → Joins from (extents ++ piece) (below + 1)
joins_next from first below extents piece le (Some e is first_is some count_is) joins = λ rest end rise.
    let follow : Follow (e.first + e.count) rest end = subst (λ (n : ℕ). Follow n rest end) (omega (arith, first_is, count_is, some)) (Apart-follow below rest end rise) in
    let all = joins (e ∷ rest) end (omega (arith, first_is), omega (arith, count_is, some), follow) in
    subst (λ (l : List Extent). Apart from l end) (ap (λ (p : List Extent). extents ++ (p ++ rest)) (sym is) ∙ sym (append_assoc extents piece rest)) all
joins_next from first below extents piece le (None is none) joins = λ rest end rise.
    subst (λ (l : List Extent). Apart from l end) (ap (λ (p : List Extent). extents ++ (p ++ rest)) (sym is) ∙ sym (append_assoc extents piece rest))
    (joins rest end (Apart-earlier (below + 1) first rest end (omega (arith, le)) rise))

-- the last piece is put
pub joins_last : (from first end : ℕ) (extents piece : List Extent) → first ≤ end → Piece first end piece → Joins from extents first → Apart from (extents ++ piece) end
joins_last from first end extents piece le (Some e is first_is some count_is) joins =
    subst (λ (p : List Extent). Apart from (extents ++ p) end) (sym is) (joins (e ∷ []) end (omega (arith, first_is), omega (arith, count_is, some), omega (arith, first_is, count_is, some)))
joins_last from first end extents piece le (None is none) joins = subst (λ (p : List Extent). Apart from (extents ++ p) end) (sym is) (joins [] end le)

IsInSome-append : (xs ys : List Extent) (s : ℕ) → IsInSome (xs ++ ys) s ↔ (IsInSome xs s ⊎ IsInSome ys s)
IsInSome-append [] ys s = ((λ some. inr some), (λ some. ⊎_elim (λ none. absurd none) (λ is. is) some))
IsInSome-append (x ∷ xs) ys s =
    let later = IsInSome-append xs ys s in (
      (λ some. ⊎_elim (λ here. inl (inl here)) (λ l. ⊎_elim (λ a. inl (inr a)) (λ b. inr b) (later.0 l)) some),
      (λ some. ⊎_elim (λ front. ⊎_elim (λ here. inl here) (λ l. inr (later.1 (inl l))) front) (λ b. inr (later.1 (inr b))) some),
    )

none_between : (first s below : ℕ) → first ≤ s → s < below → below ≤ first → ⊥
none_between first s below a b c = omega (arith, a, b, c)

IsInSome-piece : (first below : ℕ) (piece : List Extent) (s : ℕ) → Piece first below piece → IsInSome piece s ↔ ((first ≤ s) × (s < below))
IsInSome-piece first below piece s (Some e is first_is some count_is) = (
  (λ inside. ⊎_elim (λ here. (omega (arith, first_is, here.0), omega (arith, first_is, count_is, some, here.1))) (λ none. absurd none) (subst (λ (p : List Extent). IsInSome p s) is inside)),
  (λ inside. subst (λ (p : List Extent). IsInSome p s) (sym is) (inl (omega (arith, first_is, inside.0), omega (arith, first_is, count_is, some, inside.1)))),
)
IsInSome-piece first below piece s (None is none) = (
  (λ inside. absurd (subst (λ (p : List Extent). IsInSome p s) is inside)),
  (λ inside. absurd (none_between first s below inside.0 inside.1 none)),
)

-- from one sector up to another none is marked
abbrev pub Clear : List ℕ → ℕ → ℕ → Type 0
Clear words first sector = (s : ℕ) → first ≤ s → s < sector → IsMarked words s → ⊥

-- with a piece of sectors that aren't marked
pub are_more : (words : List ℕ) (from first below : ℕ) (extents piece : List Extent) → from ≤ first → first ≤ below → Piece first below piece → Clear words first below
    → ((s : ℕ) → IsInSome extents s ↔ IsUnmarked words from first s) → (s : ℕ) → IsInSome (extents ++ piece) s ↔ IsUnmarked words from below s
are_more words from first below extents piece low le put clear are s =
    let both = IsInSome-append extents piece s in
    let last = IsInSome-piece first below piece s put in (
      (λ some. ⊎_elim
          (λ front. let u = (are s).0 front in record { from_on = u.from_on; under = omega (arith, u.under, le); unmarked = u.unmarked })
          (λ here. let h = last.0 here in record { from_on = omega (arith, low, h.0); under = h.1; unmarked = clear s h.0 h.1 }) (both.0 some)),
      (λ u. elim (cases_lt s first) [
        | inl under ↦ both.1 (inl ((are s).1 (record { from_on = u.from_on; under = under; unmarked = u.unmarked })))
        | inr on ↦ both.1 (inr (last.1 (on, u.under)))
      ]),
    )

-- and the marked sector behind it
pub are_next : (words : List ℕ) (from below : ℕ) (extents : List Extent) → IsMarked words below
    → ((s : ℕ) → IsInSome extents s ↔ IsUnmarked words from below s) → (s : ℕ) → IsInSome extents s ↔ IsUnmarked words from (below + 1) s
are_next words from below extents marked are s = (
  (λ some. let u = (are s).0 some in record { from_on = u.from_on; under = omega (arith, u.under); unmarked = u.unmarked }),
  (λ u. elim (cases_eq s below) [
    | inl same ↦ absurd (u.unmarked (subst (λ (n : ℕ). IsMarked words n) (sym same) marked))
    | inr apart ↦ (are s).1 (record { from_on = u.from_on; under = omega (arith, apart, u.under); unmarked = u.unmarked })
  ]),
)

-- what is put is such a piece
pub piece_of : (first below : ℕ) → Piece first below (if nat_lt first below then record { first = first; count = below - first } ∷ [] else [])
piece_of first below = elim (cases_lt first below) [
  | inl less ↦ Some (record { first = first; count = below - first }) (cond-true (nat_lt first below) _ _ (lt-ltb first below less)) refl less refl
  | inr past ↦ None (cond-false (nat_lt first below) _ _ (le-ltb first below past)) past
]

-- what a loop over the sectors keeps: the extents of those below `first` that aren't marked, and none marked from there on
pub record Kept (words : List ℕ) (from : ℕ) (extents : List Extent) (first sector : ℕ) : Type 0 where
  pub joins : Joins from extents first
  pub are : (s : ℕ) → IsInSome extents s ↔ IsUnmarked words from first s
  pub clear : Clear words first sector
  pub from_on : from ≤ first
  pub under : first ≤ sector

pub kept_marked : (words : List ℕ) (from first sector : ℕ) (extents piece : List Extent) → Kept words from extents first sector → Piece first sector piece → IsMarked words sector
    → Kept words from (extents ++ piece) (sector + 1) (sector + 1)
kept_marked words from first sector extents piece kept put marked = record {
  joins = joins_next from first sector extents piece kept.under put kept.joins;
  are = are_next words from sector (extents ++ piece) marked (are_more words from first sector extents piece kept.from_on kept.under put kept.clear kept.are);
  clear = λ s on under. omega (arith, on, under);
  from_on = omega (arith, kept.from_on, kept.under);
  under = omega arith;
}

pub kept_unmarked : (words : List ℕ) (from first sector : ℕ) (extents : List Extent) → Kept words from extents first sector → (IsMarked words sector → ⊥) → Kept words from extents first (sector + 1)
kept_unmarked words from first sector extents kept not = record {
  joins = kept.joins;
  are = kept.are;
  clear = λ s on under marked. elim (cases_eq s sector) [
    | inl same ↦ not (subst (λ (n : ℕ). IsMarked words n) same marked)
    | inr apart ↦ kept.clear s on (omega (arith, apart, under)) marked
  ];
  from_on = kept.from_on;
  under = omega (arith, kept.under);
}
