-- Snapshots that are walked in turn, with a flag for each.
use Rattle.std.proofs.Common.{◌≡◌, ◌∙◌, inl, inr, ℕ, ◌+◌, ◌<◌, ◌≤◌, Bool, true, false, List, length, get_or, set, take, sym, subst, replicate, arith}
use Rattle.std.specs.List.{All, Contains}
use Rattle.std.proofs.lemmas.Bool.{cases_eq, cases_lt, false≢true}
use Rattle.std.proofs.lemmas.List.{get_or-replicate, get_or-set_other, get_or-set_same, get_or_default, get_or_past, length-replicate, take_all}
use Rattle.std.proofs.lemmas.List.Elements.{All-contains, All-more, All-weaker}
use Rattle.zst_dir.specs.declared.rows.Snapshot.{Snapshot}
use Rattle.zst_marks.specs.Marks.{IsMarked, MarksMore}
use Rattle.zst_reach.specs.ReachedSets.{AreMarkedInSet}
use Rattle.zst_roots.specs.ReachedRows.{AreMarkedForSnapshots}
use Rattle.zst_roots.specs.WalkedRows.{AreMarkedIfWalked, IsAt}

-- at a place stands one snapshot
one_there : (rows : List Snapshot) (place : ℕ) (row other : Snapshot) → IsAt rows place row → IsAt rows place other → row ≡ other
one_there rows place row other at also = sym at.1 ∙ get_or_default rows place row other at.0 ∙ also.1

-- a flag that is set stays so
pub flag_stays : (walked : List Bool) (place other : ℕ) → place < length walked → get_or walked other false ≡ true → get_or (set walked place true) other false ≡ true
flag_stays walked place other inside was = elim (cases_eq other place) [
  | inl same ↦ subst (λ (i : ℕ). get_or (set walked place true) i false ≡ true) (sym same) (get_or-set_same walked place true false inside)
  | inr apart ↦ get_or-set_other walked place other true false apart ∙ was
]

-- after one more snapshot was walked, what those reach whose flag is set is marked
pub walked_more : (image : List ℕ) (end : ℕ) (marks more : List ℕ) (rows : List Snapshot) (walked : List Bool) (place : ℕ) (row : Snapshot) → IsAt rows place row → MarksMore marks more
    → AreMarkedIfWalked image end marks rows walked → AreMarkedInSet image end more row.objects → AreMarkedIfWalked image end more rows (set walked place true)
walked_more image end marks more rows walked place row here up before now = λ other found at flag. elim (cases_eq other place) [
  | inl same ↦ (
      let found_is : row ≡ found = one_there rows place row found here (subst (λ (i : ℕ). IsAt rows i found) same at) in
      subst (λ (r : Snapshot). AreMarkedInSet image end more r.objects) found_is now
      )
  | inr apart ↦ (
      let was : get_or walked other false ≡ true = sym (get_or-set_other walked place other true false apart) ∙ flag in
      λ sector reached under. up.stay sector (before other found at was sector reached under)
      )
]

-- a turn is that of a snapshot
pub turn_inside : (count : ℕ) (turns items : List (ℕ × ℕ)) (i : ℕ) → items ≡ turns → i < length items → All (λ (t : ℕ × ℕ). t.1 < count) turns → (get_or items i (0, 0)).1 < count
turn_inside count turns items i same less all = subst (λ (list : List (ℕ × ℕ)). All (λ (t : ℕ × ℕ). t.1 < count) list) (sym same) all i (0, 0) less

-- its flag is set then, as those of the turns before it
pub turns_more : (turns : List (ℕ × ℕ)) (walked : List Bool) (i : ℕ) → i < length turns → (get_or turns i (0, 0)).1 < length walked → All (λ (t : ℕ × ℕ). get_or walked t.1 false ≡ true) (take i turns)
    → All (λ (t : ℕ × ℕ). get_or (set walked (get_or turns i (0, 0)).1 true) t.1 false ≡ true) (take (i + 1) turns)
turns_more turns walked i less inside before =
    let turn : ℕ × ℕ = get_or turns i (0, 0) in
    let Set : ℕ × ℕ → Type 0 = λ t. get_or (set walked turn.1 true) t.1 false ≡ true in
    All-more Set turns i (0, 0) less (All-weaker (λ (t : ℕ × ℕ). get_or walked t.1 false ≡ true) Set (λ t was. flag_stays walked turn.1 t.1 inside was) (take i turns) before)
    (get_or-set_same walked turn.1 true false inside)

-- no flag is set at first
pub none_walked : (image : List ℕ) (end : ℕ) (marks : List ℕ) (rows : List Snapshot) (walked : List Bool) (count : ℕ) → walked ≡ replicate count false → AreMarkedIfWalked image end marks rows walked
none_walked image end marks rows walked count is = λ place row at flag. absurd (false≢true (sym (none count place) ∙ subst (λ (flags : List Bool). get_or flags place false ≡ true) is flag))
  where
    none : (n place : ℕ) → get_or (replicate n false) place false ≡ false
    none n place = elim (cases_lt place n) [
      | inl under ↦ get_or-replicate n place false false under
      | inr past ↦ get_or_past (replicate n false) place false (omega (arith, past, length-replicate n false))
    ]

-- the same over an image and flags that are the same
pub walked_on : (image now : List ℕ) (end : ℕ) (marks : List ℕ) (rows : List Snapshot) (walked flags : List Bool) → now ≡ image → flags ≡ walked → AreMarkedIfWalked image end marks rows walked → AreMarkedIfWalked now end marks rows flags
walked_on image now end marks rows walked flags same same_flags are =
    subst (λ (seen : List ℕ). AreMarkedIfWalked seen end marks rows flags) (sym same) (subst (λ (f : List Bool). AreMarkedIfWalked image end marks rows f) (sym same_flags) are)

at_place : (rows : List Snapshot) (row : Snapshot) (P : ℕ → Type 0) → ((place : ℕ) → IsAt rows place row → P place) → (Q : Type 0) → ((place : ℕ) → IsAt rows place row → P place → Q) → Contains rows row → Q
at_place rows row P gives Q so (place, inside, is) = so place (inside, is) (gives place (inside, is))

-- after all turns what the snapshots reach is marked
pub walked_all : (image : List ℕ) (end : ℕ) (marks : List ℕ) (rows : List Snapshot) (walked : List Bool) (turns items : List (ℕ × ℕ)) (i : ℕ) → items ≡ turns → length items ≤ i → AreMarkedIfWalked image end marks rows walked
    → All (λ (t : ℕ × ℕ). get_or walked t.1 false ≡ true) (take i items) → ((place : ℕ) → place < length rows → (number : ℕ) × Contains turns (number, place)) → AreMarkedForSnapshots image end marks rows
walked_all image end marks rows walked turns items i same over are flags each = λ sector by under.
    let Set : ℕ × ℕ → Type 0 = λ t. get_or walked t.1 false ≡ true in
    let all : All Set turns = subst (All Set) (take_all i items over ∙ same) flags in
    at_place rows by.row (λ place. get_or walked place false ≡ true) (λ place at. let turn = each place at.0 in All-contains Set turns (turn.0, place) all turn.1)
    (IsMarked marks sector) (λ place at flag. are place by.row at flag sector by.reached under) by.listed
