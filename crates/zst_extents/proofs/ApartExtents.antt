-- Extents that are apart.
use Rattle.std.proofs.Common.{◌≡◌, ◌↔◌, ℕ, ◌+◌, ◌^◌, ◌<◌, ◌≤◌, List, [], ◌∷◌, length, drop, get_or, drop-cons, add-one, All, subst, sym, arith}
use Rattle.std.proofs.lemmas.List.{drop_all}
use Rattle.std.proofs.lemmas.List.Elements.{All-nil, All-cons}
use Rattle.zst_space.specs.FreeSectors.{FreeSectors, IsSpaceFrom, Rise}
use Rattle.zst_space.specs.declared.space.Extent.{Extent}
use Rattle.zst_marks.specs.Marks.{Apart, Follow}
use Rattle.zst_extents.specs.ExtentReads.{FitsWords}

-- extents that follow behind a sector end no earlier
Follow-end : (from : ℕ) (extents : List Extent) (end : ℕ) → Follow from extents end → from ≤ end
Follow-end from [] end rise = rise
Follow-end from (e ∷ es) end rise = omega (arith, rise.0, rise.1, Follow-end (e.first + e.count) es end rise.2)

Follow-rise : (from : ℕ) (extents : List Extent) (end : ℕ) → Follow from extents end → Rise from extents end
Follow-rise from [] end rise = rise
Follow-rise from (e ∷ es) end rise = (omega (arith, rise.0), Follow-rise (e.first + e.count) es end rise.2)

-- extents that are apart rise
pub Apart-rise : (from : ℕ) (extents : List Extent) (end : ℕ) → Apart from extents end → Rise from extents end
Apart-rise from [] end rise = rise
Apart-rise from (e ∷ es) end rise = (rise.0, Follow-rise (e.first + e.count) es end rise.2)

-- so that they are those of free sectors
pub IsSpaceFrom-apart : (from : ℕ) (space : FreeSectors) → space.end ≤ space.sectors → Apart from space.free space.end → IsSpaceFrom from space
IsSpaceFrom-apart from space inside apart = record { end = inside; extents = Apart-rise from space.free space.end apart }

-- their numbers are no greater than the end
Follow-fits : (from : ℕ) (extents : List Extent) (end : ℕ) → end < 2 ^ 64 → Follow from extents end → All FitsWords extents
Follow-fits from [] end small rise = All-nil FitsWords
Follow-fits from (e ∷ es) end small rise =
    let last = Follow-end (e.first + e.count) es end rise.2 in
    All-cons FitsWords e es (record { first = omega (arith, last, small); count = omega (arith, last, small) }) (Follow-fits (e.first + e.count) es end small rise.2)

-- extents from sector 8 on follow behind sector 7
pub apart_follow : (extents : List Extent) (end : ℕ) → 8 ≤ end → Apart 8 extents end ↔ Follow 7 extents end
apart_follow [] end inside = ((λ rise. omega (arith, inside)), (λ rise. inside))
apart_follow (e ∷ es) end inside = ((λ rise. (omega (arith, rise.0), rise.1, rise.2)), (λ rise. (omega (arith, rise.0), rise.1, rise.2)))

pub Apart-end : (extents : List Extent) (end : ℕ) → Apart 8 extents end → 8 ≤ end
Apart-end [] end rise = rise
Apart-end (e ∷ es) end rise = omega (arith, rise.0, rise.1, Follow-end (e.first + e.count) es end rise.2)

pub Apart-fits : (extents : List Extent) (end : ℕ) → end < 2 ^ 64 → Apart 8 extents end → All FitsWords extents
Apart-fits extents end small rise = Follow-fits 7 extents end small ((apart_follow extents end (Apart-end extents end rise)).0 rise)

-- an extent more is looked at
module _ (extents : List Extent) (i behind end : ℕ) (d : Extent) (inside : i < length extents) where
  front : drop i extents ≡ get_or extents i d ∷ drop (i + 1) extents
  front = rw add-one (drop-cons extents i d inside)

  pub follow_more : (behind < (get_or extents i d).first) × (0 < (get_or extents i d).count) × ((get_or extents i d).first + (get_or extents i d).count ≤ end)
      → Follow behind (drop i extents) end ↔ Follow ((get_or extents i d).first + (get_or extents i d).count) (drop (i + 1) extents) end
  follow_more follows = (
    (λ rise. (subst (λ (l : List Extent). Follow behind l end) front rise).2),
    (λ rise. subst (λ (l : List Extent). Follow behind l end) (sym front) (follows.0, follows.1, rise)),
  )

  -- one that doesn't follow is none of them
  pub follow_stops : ¬ ((behind < (get_or extents i d).first) × (0 < (get_or extents i d).count) × ((get_or extents i d).first + (get_or extents i d).count ≤ end)) → ¬ Follow behind (drop i extents) end
  follow_stops not rise =
      let e = get_or extents i d in
      let parts = subst (λ (l : List Extent). Follow behind l end) front rise in
      not (parts.0, parts.1, Follow-end (e.first + e.count) (drop (i + 1) extents) end parts.2)

-- where all were looked at they follow up to the end
pub follow_last : (extents : List Extent) (i behind end : ℕ) → length extents ≤ i → behind ≤ end → Follow behind (drop i extents) end
follow_last extents i behind end all inside = subst (λ (l : List Extent). Follow behind l end) (sym (drop_all i extents all)) inside
