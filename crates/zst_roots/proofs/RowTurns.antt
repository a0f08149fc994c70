-- One row of a list is walked after another.
use Rattle.std.proofs.Common.{◌≡◌, ◌⊎◌, inr, ⊎_elim, ℕ, ◌+◌, ◌<◌, ◌≤◌, List, length, get_or, take, sym, subst}
use Rattle.std.specs.List.{All, Contains}
use Rattle.std.proofs.lemmas.List.{take_all}
use Rattle.std.proofs.lemmas.List.Elements.{All-contains, All-more, All-weaker}
use Rattle.zst_block.specs.declared.fault.BlockFault.{BlockFault}
use Rattle.zst_block.specs.Blocks.{IsBlock}
use Rattle.zst_dir.specs.declared.rows.Snapshot.{Snapshot}
use Rattle.zst_marks.specs.Marks.{MarksMore}
use Rattle.zst_objset.specs.Damage.{DamageFact, IfDamage}
use Rattle.zst_objset.proofs.DamageLaws.{IfDamage-weaker}
use Rattle.zst_reach.specs.ReachedSets.{AllMarked, AreMarkedInSet, ReachesInSet}
use Rattle.zst_reach.proofs.SetWalks.{AllMarked-more}
use Rattle.zst_tree.specs.declared.tree.ObjSet.{ObjSet}
use Rattle.zst_roots.specs.ReachedRows.{AreMarkedForSnapshots, IsReachedBySome}
use Rattle.zst_roots.specs.RowDamage.{IsDamagedIn, IsToldOfSome}

-- the row that is in turn stands at this place
pub record IsInTurn {Row : Type 0} (rows : List Row) (i : ℕ) (row : Row) : Type 0 where
  pub less : i < length rows
  pub is : row ≡ get_or rows i row

pub in_turn : {Row : Type 0} (items rows : List Row) (i : ℕ) (row : Row) → items ≡ rows → i < length items → row ≡ get_or items i row → IsInTurn rows i row
in_turn {Row} items rows i row same less is = subst (λ (list : List Row). IsInTurn list i row) same (record { less = less; is = is })

listed : {Row : Type 0} (rows : List Row) (i : ℕ) (row : Row) → IsInTurn rows i row → Contains rows row
listed rows i row turn = (i, turn.less, sym turn.is)

-- what is so of each row is so of that one
pub holds_in_turn : {Row : Type 0} (P : Row → Type 0) (rows : List Row) (i : ℕ) (row : Row) → IsInTurn rows i row → All P rows → P row
holds_in_turn P rows i row turn all = All-contains P rows row all (listed rows i row turn)

-- what the snapshots reach stays marked
pub known_more : (image : List ℕ) (end : ℕ) (marks more : List ℕ) (rows others : List Snapshot) → others ≡ rows → MarksMore marks more → AreMarkedForSnapshots image end marks rows → AreMarkedForSnapshots image end more others
known_more image end marks more rows others same up are = subst (λ (list : List Snapshot). AreMarkedForSnapshots image end more list) (sym same) (λ sector by under. up.stay sector (are sector by under))

-- the same over an image that is the same
pub set_on : (image now : List ℕ) (end : ℕ) (marks : List ℕ) (set : ObjSet) → now ≡ image → AreMarkedInSet image end marks set → AreMarkedInSet now end marks set
set_on image now end marks set same are = subst (λ (i : List ℕ). AreMarkedInSet i end marks set) (sym same) are

-- what is so of the set that was walked is so of the row's, which it is
pub set_is : (image : List ℕ) (end : ℕ) (marks : List ℕ) (walked set : ObjSet) → walked ≡ set → AreMarkedInSet image end marks walked → AreMarkedInSet image end marks set
set_is image end marks walked set is are = subst (λ (s : ObjSet). AreMarkedInSet image end marks s) is are

pub reached_is : (image : List ℕ) (walked set : ObjSet) (sector : ℕ) (old : Type 0) → walked ≡ set → old ⊎ ReachesInSet (IsBlock image) walked sector → old ⊎ ReachesInSet (IsBlock image) set sector
reached_is image walked set sector old is reached = subst (λ (s : ObjSet). old ⊎ ReachesInSet (IsBlock image) s sector) is reached

pub told_is : (images : List ℕ → Type 0) (size : ℕ) (walked set : ObjSet) (fault : BlockFault) → walked ≡ set → IfDamage fault (IsDamagedIn images size walked) → IfDamage fault (IsDamagedIn images size set)
told_is images size walked set fault is told = subst (λ (s : ObjSet). IfDamage fault (IsDamagedIn images size s)) is told

module _ {Row : Type 0} (reaches : List ℕ → Row → ℕ → Type 0) (image : List ℕ) (rows : List Row) where
  -- what each of the first rows reaches is marked
  abbrev pub FirstMarked : ℕ → List ℕ → ℕ → Type 0
  FirstMarked end marks count = All (λ row. AllMarked image end marks (reaches image row)) (take count rows)

  -- after one more row it is so
  pub marked_turn : (now : List ℕ) (end : ℕ) (marks more : List ℕ) (i : ℕ) (row : Row) → now ≡ image → IsInTurn rows i row → MarksMore marks more
      → FirstMarked end marks i → AllMarked now end more (reaches now row) → FirstMarked end more (i + 1)
  marked_turn now end marks more i row same turn up before here =
      let Marked : Row → Type 0 = λ r. AllMarked image end more (reaches image r) in
      let on_image : Marked row = subst (λ (seen : List ℕ). AllMarked seen end more (reaches seen row)) same here in
      All-more Marked rows i row turn.less (All-weaker (λ r. AllMarked image end marks (reaches image r)) Marked (λ r are. AllMarked-more image end marks more (reaches image r) up.stay are) (take i rows) before)
      (subst Marked turn.is on_image)

  -- and with all of them what the list reaches is
  pub marked_all : (end : ℕ) (marks : List ℕ) (i : ℕ) → length rows ≤ i → FirstMarked end marks i → AllMarked image end marks (IsReachedBySome rows (reaches image))
  marked_all end marks i over are = λ sector by under.
      let Marked : Row → Type 0 = λ r. AllMarked image end marks (reaches image r) in
      All-contains Marked rows by.row (subst (All Marked) (take_all i rows over) are) by.listed sector by.reached under

  -- what is marked after a row was marked before, or is reached
  pub only_turn : (now : List ℕ) (i : ℕ) (row : Row) (sector : ℕ) (old mid : Type 0) → now ≡ image → IsInTurn rows i row → (mid → old ⊎ IsReachedBySome rows (reaches image) sector)
      → mid ⊎ reaches now row sector → old ⊎ IsReachedBySome rows (reaches image) sector
  only_turn now i row sector old mid same turn before step =
      ⊎_elim before (λ reached. inr (record { row = row; listed = listed rows i row turn; reached = subst (λ (seen : List ℕ). reaches seen row sector) same reached })) step

-- what is told as damaged of the row in turn is told of the list
pub told_turn : {Row : Type 0} (tells : List ℕ → ℕ → Row → DamageFact) (image now : List ℕ) (size size_now : ℕ) (rows : List Row) (i : ℕ) (row : Row) (fault : BlockFault) → now ≡ image → size_now ≡ size → IsInTurn rows i row
    → IfDamage fault (tells now size_now row) → IfDamage fault (IsToldOfSome rows (tells image size))
told_turn tells image now size size_now rows i row fault same same_size turn told =
    IfDamage-weaker (tells now size_now row) (IsToldOfSome rows (tells image size))
    (λ sector stated found is. record {
      row = row;
      listed = listed rows i row turn;
      told = subst (λ (seen : List ℕ). tells seen size row sector stated found) same (subst (λ (n : ℕ). tells now n row sector stated found) same_size is);
    }) fault told
