-- Rows are walked one after another, each beside a snapshot that was walked.
use Rattle.std.proofs.Common.{◌≡◌, ◌⊎◌, ◌∙◌, inl, inr, ⊎_elim, ℕ, ◌+◌, ◌<◌, ◌≤◌, Bool, true, false, List, length, get_or, set, take, replicate, sym, subst, arith}
use Rattle.std.specs.List.{All, Contains}
use Rattle.std.proofs.lemmas.Bool.{cases_eq, cases_lt, false≢true}
use Rattle.std.proofs.lemmas.List.{get_or-replicate, get_or-set_other, get_or_default, get_or_past, length-replicate, take_all}
use Rattle.std.proofs.lemmas.List.Elements.{All-contains, All-more, All-weaker}
use Rattle.zst_block.specs.Blocks.{IsBlock}
use Rattle.zst_dir.specs.declared.rows.Snapshot.{Snapshot}
use Rattle.zst_roots.specs.ReachedRows.{IsReachedBySome}
use Rattle.zst_roots.specs.WalkedRows.{IsAt, IsOfOne, IsOfWalked}
use Rattle.zst_roots.proofs.RowTurns.{IsInTurn}
use Rattle.zst_tree.specs.declared.tree.ObjSet.{ObjSet}
use Rattle.zst_count.specs.CountedRows.{AreMetForSnapshots, AreReadForSnapshots}
use Rattle.zst_count.specs.CountedSets.{AreMetInSet, AreReadInSet}
use Rattle.zst_count.specs.FirstSectors.{IsFirstInSet}
use Rattle.zst_count.specs.MetBlocks.{MetMore}
use Rattle.zst_count.specs.declared.met_blocks.MetBlocks.{MetBlocks}
use Rattle.zst_count.proofs.CountedSets.{AreMetInSet-empty, AreReadInSet-empty}
use Rattle.zst_count.proofs.MetLaws.{AllMet-more}

module _ {Row : Type 0} (rows : List Row) where
  -- a row in turn is listed
  pub listed_in_turn : (i : ℕ) (row : Row) → IsInTurn rows i row → Contains rows row
  listed_in_turn i row turn = (i, turn.less, sym turn.is)

  -- after one more row it is so of one more
  pub all_turn : (P Q : Row → Type 0) (i : ℕ) (row : Row) → IsInTurn rows i row → ((r : Row) → P r → Q r) → All P (take i rows) → Q row → All Q (take (i + 1) rows)
  all_turn P Q i row turn up before here = All-more Q rows i row turn.less (All-weaker P Q up (take i rows) before) (subst Q turn.is here)

  -- and of all of them at last
  pub all_turns : (P : Row → Type 0) (items : List Row) (i : ℕ) → items ≡ rows → length items ≤ i → All P (take i rows) → All P rows
  all_turns P items i same over are = subst (All P) (take_all i rows (subst (λ (list : List Row). length list ≤ i) same over)) are

  -- what is marked after a row was met before, or is first in it
  pub only_turn : (is_first : List ℕ → Row → ℕ → Type 0) (image now : List ℕ) (i : ℕ) (row : Row) (sector end mid_end : ℕ) (old mid : Type 0) → now ≡ image → mid_end ≡ end → IsInTurn rows i row
      → (mid → old ⊎ (IsReachedBySome rows (is_first image) sector × (sector < end))) → mid ⊎ (is_first now row sector × (sector < mid_end)) → old ⊎ (IsReachedBySome rows (is_first image) sector × (sector < end))
  only_turn is_first image now i row sector end mid_end old mid same end_is turn before step =
      ⊎_elim before (λ is. inr (record { row = row; listed = listed_in_turn i row turn; reached = subst (λ (seen : List ℕ). is_first seen row sector) same is.0 }, omega (arith, is.1, end_is))) step

-- what is so of the set that was walked is so of the row's, which it is
pub set_met : (image now : List ℕ) (end : ℕ) (marks : List ℕ) (set : ObjSet) → now ≡ image → AreMetInSet now end marks set → AreMetInSet image end marks set
set_met image now end marks set same are = subst (λ (i : List ℕ). AreMetInSet i end marks set) same are

pub set_read : (image now : List ℕ) (set : ObjSet) → now ≡ image → AreReadInSet now set → AreReadInSet image set
set_read image now set same are = subst (λ (i : List ℕ). AreReadInSet i set) same are

-- what the snapshots reach stays met
pub snapshots_more : (image : List ℕ) (old new : MetBlocks) (rows : List Snapshot) → MetMore old new → AreMetForSnapshots image old.end old.marks rows → AreMetForSnapshots image new.end new.marks rows
snapshots_more image old new rows more are =
    All-weaker (λ (row : Snapshot). AreMetInSet image old.end old.marks row.objects) (λ (row : Snapshot). AreMetInSet image new.end new.marks row.objects) (λ row met. AllMet-more old new (IsFirstInSet (IsBlock image) row.objects) more met) rows are

-- the same over an image that is the same
pub snapshots_on : (image now : List ℕ) (end : ℕ) (marks : List ℕ) (rows : List Snapshot) → now ≡ image → AreMetForSnapshots now end marks rows → AreMetForSnapshots image end marks rows
snapshots_on image now end marks rows same are = subst (λ (i : List ℕ). AreMetForSnapshots i end marks rows) same are

pub snapshots_read_on : (image now : List ℕ) (rows : List Snapshot) → now ≡ image → AreReadForSnapshots now rows → AreReadForSnapshots image rows
snapshots_read_on image now rows same are = subst (λ (i : List ℕ). AreReadForSnapshots i rows) same are

-- at a place stands a listed one
listed_at : (rows : List Snapshot) (place : ℕ) (row : Snapshot) → IsAt rows place row → Contains rows row
listed_at rows place row at = (place, at.0, at.1)

-- where what all snapshots reach was met, all is met of the set of one of them
pub one_met : (image : List ℕ) (end : ℕ) (marks : List ℕ) (rows : List Snapshot) (set : ObjSet) → IsOfOne rows set → AreMetForSnapshots image end marks rows → AreMetInSet image end marks set
one_met image end marks rows set (inl none) are = subst (λ (s : ObjSet). AreMetInSet image end marks s) (sym none) (AreMetInSet-empty image end marks)
one_met image end marks rows set (inr (place, row, at, is)) are =
    subst (λ (s : ObjSet). AreMetInSet image end marks s) (sym is) (All-contains (λ (r : Snapshot). AreMetInSet image end marks r.objects) rows row are (listed_at rows place row at))

-- and so with what is read
pub one_read : (image : List ℕ) (rows : List Snapshot) (set : ObjSet) → IsOfOne rows set → AreReadForSnapshots image rows → AreReadInSet image set
one_read image rows set (inl none) are = subst (λ (s : ObjSet). AreReadInSet image s) (sym none) (AreReadInSet-empty image)
one_read image rows set (inr (place, row, at, is)) are = subst (λ (s : ObjSet). AreReadInSet image s) (sym is) (All-contains (λ (r : Snapshot). AreReadInSet image r.objects) rows row are (listed_at rows place row at))

-- it is so of each snapshot whose flag is set
abbrev pub IfWalked : (Snapshot → Type 0) → List Snapshot → List Bool → Type 0
IfWalked P rows walked = (place : ℕ) (row : Snapshot) → IsAt rows place row → get_or walked place false ≡ true → P row

-- so of the set of one that was walked
pub walked_met : (image : List ℕ) (end : ℕ) (marks : List ℕ) (rows : List Snapshot) (walked : List Bool) (set : ObjSet) → IsOfWalked rows walked set → IfWalked (λ row. AreMetInSet image end marks row.objects) rows walked → AreMetInSet image end marks set
walked_met image end marks rows walked set (inl none) are = subst (λ (s : ObjSet). AreMetInSet image end marks s) (sym none) (AreMetInSet-empty image end marks)
walked_met image end marks rows walked set (inr (place, row, at, flag, is)) are = subst (λ (s : ObjSet). AreMetInSet image end marks s) (sym is) (are place row at flag)

pub walked_read : (image : List ℕ) (rows : List Snapshot) (walked : List Bool) (set : ObjSet) → IsOfWalked rows walked set → IfWalked (λ row. AreReadInSet image row.objects) rows walked → AreReadInSet image set
walked_read image rows walked set (inl none) are = subst (λ (s : ObjSet). AreReadInSet image s) (sym none) (AreReadInSet-empty image)
walked_read image rows walked set (inr (place, row, at, flag, is)) are = subst (λ (s : ObjSet). AreReadInSet image s) (sym is) (are place row at flag)

-- at a place stands one snapshot
one_there : (rows : List Snapshot) (place : ℕ) (row other : Snapshot) → IsAt rows place row → IsAt rows place other → row ≡ other
one_there rows place row other at also = sym at.1 ∙ get_or_default rows place row other at.0 ∙ also.1

-- after one more snapshot was walked, it is so of those whose flag is set
pub walked_more : (P Q : Snapshot → Type 0) (rows : List Snapshot) (walked : List Bool) (place : ℕ) (row : Snapshot) → IsAt rows place row → ((r : Snapshot) → P r → Q r) → IfWalked P rows walked → Q row → IfWalked Q rows (set walked place true)
walked_more P Q rows walked place row here up before now = λ other found at flag. elim (cases_eq other place) [
  | inl same ↦ subst Q (one_there rows place row found here (subst (λ (i : ℕ). IsAt rows i found) same at)) now
  | inr apart ↦ up found (before other found at (sym (get_or-set_other walked place other true false apart) ∙ flag))
]

-- no flag is set at first
pub none_walked : (P : Snapshot → Type 0) (rows : List Snapshot) (walked : List Bool) (count : ℕ) → walked ≡ replicate count false → IfWalked P rows walked
none_walked P rows walked count is = λ place row at flag. absurd (false≢true (sym (none count place) ∙ subst (λ (flags : List Bool). get_or flags place false ≡ true) is flag))
  where
    none : (n place : ℕ) → get_or (replicate n false) place false ≡ false
    none n place = elim (cases_lt place n) [
      | inl under ↦ get_or-replicate n place false false under
      | inr past ↦ get_or_past (replicate n false) place false (omega (arith, past, length-replicate n false))
    ]

-- after all turns it is so of all snapshots
pub walked_all : (P : Snapshot → Type 0) (rows : List Snapshot) (walked : List Bool) (turns items : List (ℕ × ℕ)) (i : ℕ) → items ≡ turns → length items ≤ i → IfWalked P rows walked → All (λ (t : ℕ × ℕ). get_or walked t.1 false ≡ true) (take i items)
    → ((place : ℕ) → place < length rows → (number : ℕ) × Contains turns (number, place)) → All P rows
walked_all P rows walked turns items i same over are flags each =
    let Set : ℕ × ℕ → Type 0 = λ t. get_or walked t.1 false ≡ true in
    let all : All Set turns = subst (All Set) (take_all i items over ∙ same) flags in
    λ place d inside. (
    let turn = each place inside in
    are place (get_or rows place d) (inside, sym (get_or_default rows place d (get_or rows place d) inside)) (All-contains Set turns (turn.0, place) all turn.1)
    )
