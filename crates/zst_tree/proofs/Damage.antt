-- What may be told as damaged below a pointer, one step at a time.
use Rattle.std.proofs.Common.{◌≡◌, inl, inr, ⊎_elim, ℕ, zero, suc, ◌-◌, ◌<◌, true, false, List, refl, sym, ◌∙◌, subst, arith}
use Rattle.std.specs.Prelude.{Option, None, Some, IfSome, Result, Ok, Err}
use Rattle.std.proofs.lemmas.Bool.{false≢true}
use Rattle.zst_fletcher.specs.WeightSum.{parts_of}
use Rattle.zst_block.specs.Blocks.{IsBlock}
use Rattle.zst_block.specs.Ptr.{is_flat}
use Rattle.zst_block.specs.ReadAnswers.{ReadAnswers}
use Rattle.zst_block.specs.IoStates.{IoState}
use Rattle.zst_block.specs.IoCalls.{Looks}
use Rattle.zst_block.specs.declared.ptr.Ptr.{Ptr}
use Rattle.zst_block.specs.declared.fault.BlockFault.{BlockFault}
use Rattle.zst_block.specs.declared.fault.BlockFault.TheVariants.{Full, Damaged, DiskFault}
use Rattle.zst_tree.specs.Indices.{Blocks, child}
use Rattle.zst_tree.specs.Damage.{IsSeen, HangsBelow, MayHave, NamesNode, SumsUp, Reaches, IsDamagedNode, TellsNode, NamesDamage, IsBelow}
use Rattle.zst_tree.specs.PathAnswer.{HangsOn, IfThere, nearer_of}
use Rattle.zst_tree.specs.declared.path_answer.Branch.{Branch}
use Rattle.zst_tree.specs.declared.path_answer.PathAnswer.{PathAnswer}
use Rattle.zst_tree.specs.declared.path_answer.PathAnswer.TheVariants.{Nothing, Here, There}

-- more blocks reach more
pub Reaches-grows : (has more : Blocks) → ((ptr : Ptr) (bytes : List ℕ) → has ptr bytes → more ptr bytes) → (level : ℕ) (ptr : Ptr) (at : ℕ) (found : Ptr) → Reaches has level ptr at found → Reaches more level ptr at found
unfolding Reaches
Reaches-grows has more up zero ptr at found reached = reached
Reaches-grows has more up (suc level) ptr at found (inner, inl here) = (inner, inl here)
Reaches-grows has more up (suc level) ptr at found (inner, inr (bytes, there, k, less, reached)) = (inner, inr (bytes, up ptr bytes there, k, less, Reaches-grows has more up level (child bytes k) at found reached))

module _ (has : Blocks) where
  -- nothing is below a pointer that stands for all below it
  pub Reaches-flat : (level : ℕ) (ptr : Ptr) (at : ℕ) (found : Ptr) → is_flat ptr ≡ true → ¬ Reaches has level ptr at found
  unfolding Reaches
  Reaches-flat zero ptr at found flat = λ reached. reached
  Reaches-flat (suc level) ptr at found flat = λ reached. false≢true (sym reached.0 ∙ flat)

  here_suc : (level : ℕ) (ptr : Ptr) → is_flat ptr ≡ false → Reaches has (suc level) ptr (suc level) ptr
  unfolding Reaches
  here_suc level ptr inner = (inner, inl (refl, refl))

  -- the pointer itself
  pub reaches_here : (level : ℕ) (ptr : Ptr) → 0 < level → is_flat ptr ≡ false → Reaches has level ptr level ptr
  reaches_here zero ptr some inner = absurd (omega arith)
  reaches_here (suc level) ptr some inner = here_suc level ptr inner

  child_suc : (level : ℕ) (ptr : Ptr) (bytes : List ℕ) (k at : ℕ) (found : Ptr) → is_flat ptr ≡ false → has ptr bytes → k < 128 → Reaches has level (child bytes k) at found → Reaches has (suc level) ptr at found
  unfolding Reaches
  child_suc level ptr bytes k at found inner there less reached = (inner, inr (bytes, there, k, less, reached))

  -- what is reached below a child
  pub reaches_child : (level : ℕ) (ptr : Ptr) (bytes : List ℕ) (k at : ℕ) (found : Ptr) → 0 < level → is_flat ptr ≡ false → has ptr bytes → k < 128 → Reaches has (level - 1) (child bytes k) at found → Reaches has level ptr at found
  reaches_child zero ptr bytes k at found some inner there less reached = absurd (omega arith)
  reaches_child (suc level) ptr bytes k at found some inner there less reached =
      let same : suc level - 1 ≡ level = omega arith in
      child_suc level ptr bytes k at found inner there less (rw same at reached)

-- more images may have more blocks
pub MayHave-more : (images more : List ℕ → Type 0) → ((image : List ℕ) → images image → more image) → (ptr : Ptr) (bytes : List ℕ) → MayHave images ptr bytes → MayHave more ptr bytes
MayHave-more images more up ptr bytes may = record { image = may.image; among = up may.image may.among; block = may.block }

-- more blocks have more hang
pub HangsBelow-grows : (has more : Blocks) → ((ptr : Ptr) (bytes : List ℕ) → has ptr bytes → more ptr bytes) → (level : ℕ) (ptr found : Ptr) → HangsBelow has level ptr found → HangsBelow more level ptr found
unfolding HangsBelow
HangsBelow-grows has more up zero ptr found hangs = hangs
HangsBelow-grows has more up (suc level) ptr found (inl here) = inl here
HangsBelow-grows has more up (suc level) ptr found (inr (inner, bytes, there, k, less, hangs)) = inr (inner, bytes, up ptr bytes there, k, less, HangsBelow-grows has more up level (child bytes k) found hangs)

module _ (has : Blocks) where
  -- the pointer itself
  pub hangs_leaf : (level : ℕ) (ptr : Ptr) → level ≡ 0 → HangsBelow has level ptr ptr
  unfolding HangsBelow
  hangs_leaf zero ptr none = refl
  hangs_leaf (suc level) ptr none = absurd (omega arith)

  pub hangs_flat : (level : ℕ) (ptr : Ptr) → is_flat ptr ≡ true → HangsBelow has level ptr ptr
  unfolding HangsBelow
  hangs_flat zero ptr flat = refl
  hangs_flat (suc level) ptr flat = inl (flat, refl)

  hangs_suc : (level : ℕ) (ptr : Ptr) (bytes : List ℕ) (k : ℕ) (found : Ptr) → is_flat ptr ≡ false → has ptr bytes → k < 128 → HangsBelow has level (child bytes k) found → HangsBelow has (suc level) ptr found
  unfolding HangsBelow
  hangs_suc level ptr bytes k found inner there less hangs = inr (inner, bytes, there, k, less, hangs)

  -- what hangs below a child
  pub hangs_child : (level : ℕ) (ptr : Ptr) (bytes : List ℕ) (k : ℕ) (found : Ptr) → 0 < level → is_flat ptr ≡ false → has ptr bytes → k < 128 → HangsBelow has (level - 1) (child bytes k) found → HangsBelow has level ptr found
  hangs_child zero ptr bytes k found some inner there less hangs = absurd (omega arith)
  hangs_child (suc level) ptr bytes k found some inner there less hangs =
      let same : suc level - 1 ≡ level = omega arith in
      hangs_suc level ptr bytes k found inner there less (rw same at hangs)

module _ (images : List ℕ → Type 0) (size : ℕ) (right : ℕ → Ptr → Type 0) where
  -- a pointer that isn't right for a node of its level, with both sums alike
  pub alike_here : (level : ℕ) (ptr : Ptr) → 0 < level → is_flat ptr ≡ false → ¬ right level ptr → IsDamagedNode images size right level ptr ptr.sector (parts_of ptr.sum) (parts_of ptr.sum)
  alike_here level ptr some inner wrong = record {
    at = level;
    ptr = ptr;
    reached = reaches_here (MayHave images) level ptr some inner;
    sector_is = refl;
    stated_is = refl;
    found_is = inr (refl, wrong);
  }

  -- a read tells the damage of the block itself
  pub read_here : (image : List ℕ) → images image → (level : ℕ) (ptr : Ptr) → 0 < level → is_flat ptr ≡ false → (read : List ℕ) (result : Result (Unit {0}) BlockFault) → ReadAnswers image size ptr read result
      → NamesDamage images size right level ptr result
  read_here image among level ptr some inner read (Ok done) answer = tt
  read_here image among level ptr some inner read (Err (Full need largest)) answer = tt
  read_here image among level ptr some inner read (Err DiskFault) answer = tt
  read_here image among level ptr some inner read (Err (Damaged sector stated found)) answer = record {
    at = level;
    ptr = ptr;
    reached = reaches_here (MayHave images) level ptr some inner;
    sector_is = answer.0;
    stated_is = answer.1;
    found_is = inl (image, among, answer.2);
  }

  -- the damage of a child's block is one below the pointer
  pub IsBelow-child : (level : ℕ) (ptr : Ptr) (bytes : List ℕ) (k : ℕ) → 0 < level → is_flat ptr ≡ false → MayHave images ptr bytes → k < 128 → IsBelow images size right level ptr images (level - 1) (child bytes k)
  IsBelow-child level ptr bytes k some inner there less = λ sector stated found damage. record {
    at = damage.at;
    ptr = damage.ptr;
    reached = reaches_child (MayHave images) level ptr bytes k damage.at damage.ptr some inner there less damage.reached;
    sector_is = damage.sector_is;
    stated_is = damage.stated_is;
    found_is = damage.found_is;
  }

  -- there is none below a pointer that stands for all below it
  pub IsBelow-flat : (level : ℕ) (root : Ptr) (fewer : List ℕ → Type 0) (lower : ℕ) (under : Ptr) → is_flat under ≡ true → IsBelow images size right level root fewer lower under
  IsBelow-flat level root fewer lower under flat = λ sector stated found damage. absurd (Reaches-flat (MayHave fewer) lower under damage.at damage.ptr flat damage.reached)

  -- one that hangs on a pointer of the block is below the pointer to it
  pub IsBelow-hangs : (level : ℕ) (ptr : Ptr) (bytes : List ℕ) (beside : Branch) → 0 < level → is_flat ptr ≡ false → MayHave images ptr bytes → HangsOn bytes (level - 1) beside
      → IsBelow images size right level ptr images beside.level beside.ptr
  IsBelow-hangs level ptr bytes beside some inner there hangs = rw (hangs.level_is, hangs.ptr_is) (IsBelow-child level ptr bytes hangs.place some inner there hangs.under)

  pub TellsNode-below : (level : ℕ) (root : Ptr) (fewer : List ℕ → Type 0) (lower : ℕ) (under : Ptr) → IsBelow images size right level root fewer lower under
      → (fault : BlockFault) → TellsNode fewer size right lower under fault → TellsNode images size right level root fault
  TellsNode-below level root fewer lower under below (Damaged sector stated found) told = below sector stated found told
  TellsNode-below level root fewer lower under below (Full need largest) told = tt
  TellsNode-below level root fewer lower under below DiskFault told = tt

module _ {old new : IoState} {stop : Option BlockFault} (looks : Looks old new stop) where
  -- what holds of what a read gave after it held before it
  pub seen_before : (P : List ℕ → ℕ → Type 0) → P new.disk.seen new.disk.size → P old.disk.seen old.disk.size
  seen_before P is = subst (λ (size : ℕ). P old.disk.seen size) looks.reads.size (subst (λ (seen : List ℕ). P seen new.disk.size) looks.reads.seen is)

  module _ (right : List ℕ → ℕ → Ptr → Type 0) (level : ℕ) (ptr : Ptr) (bytes : List ℕ) (k : ℕ) (some : 0 < level) (inner : is_flat ptr ≡ false) (block : IsBlock old.disk.seen ptr bytes) (under : k < 128) where
    read_there : MayHave (IsSeen old.disk.seen) ptr bytes
    read_there = record { image = old.disk.seen; among = refl; block = block }

    -- what hangs below a child of a node that was read hangs below the node
    pub hangs_below : (found : Ptr) → HangsBelow (MayHave (IsSeen new.disk.seen)) (level - 1) (child bytes k) found → HangsBelow (MayHave (IsSeen old.disk.seen)) level ptr found
    hangs_below found hangs = hangs_child (MayHave (IsSeen old.disk.seen)) level ptr bytes k found some inner read_there under
        (seen_before (λ (seen : List ℕ) (size : ℕ). HangsBelow (MayHave (IsSeen seen)) (level - 1) (child bytes k) found) hangs)

    child_below : IsBelow (IsSeen old.disk.seen) old.disk.size (right old.disk.seen) level ptr (IsSeen old.disk.seen) (level - 1) (child bytes k)
    child_below = IsBelow-child (IsSeen old.disk.seen) old.disk.size (right old.disk.seen) level ptr bytes k some inner read_there under

    -- what is told below a child of a node that was read is told below the node
    pub fault_below : (fault : BlockFault) → TellsNode (IsSeen new.disk.seen) new.disk.size (right new.disk.seen) (level - 1) (child bytes k) fault → TellsNode (IsSeen old.disk.seen) old.disk.size (right old.disk.seen) level ptr fault
    fault_below fault told =
        TellsNode-below (IsSeen old.disk.seen) old.disk.size (right old.disk.seen) level ptr (IsSeen old.disk.seen) (level - 1) (child bytes k) child_below fault
        (seen_before (λ (seen : List ℕ) (size : ℕ). TellsNode (IsSeen seen) size (right seen) (level - 1) (child bytes k) fault) told)

    pub told_below : {T : Type 0} → (result : Result T BlockFault) → NamesDamage (IsSeen new.disk.seen) new.disk.size (right new.disk.seen) (level - 1) (child bytes k) result → NamesDamage (IsSeen old.disk.seen) old.disk.size (right old.disk.seen) level ptr result
    told_below (Ok value) told = tt
    told_below (Err fault) told = fault_below fault told

    -- what stands beside the path is below the node
    pub beside_below : (reach : PathAnswer) (other : Option Branch)
        → IfThere (λ (beside : Branch). IsBelow (IsSeen new.disk.seen) new.disk.size (right new.disk.seen) (level - 1) (child bytes k) (IsSeen new.disk.seen) beside.level beside.ptr) reach
        → IfSome other (HangsOn bytes (level - 1))
        → IfThere (λ (beside : Branch). IsBelow (IsSeen old.disk.seen) old.disk.size (right old.disk.seen) level ptr (IsSeen old.disk.seen) beside.level beside.ptr) (nearer_of reach other)
    beside_below Nothing None shown hangs = tt
    beside_below Nothing (Some beside) shown hangs = IsBelow-hangs (IsSeen old.disk.seen) old.disk.size (right old.disk.seen) level ptr bytes beside some inner read_there hangs
    beside_below (Here index) other shown hangs = tt
    beside_below (There beside) other shown hangs = λ sector stated found damage.
        child_below sector stated found
        (seen_before (λ (seen : List ℕ) (size : ℕ). IsBelow (IsSeen seen) size (right seen) (level - 1) (child bytes k) (IsSeen seen) beside.level beside.ptr) shown sector stated found damage)

-- what is so of each subtree that is shown is so of the nearer one
pub IfThere-nearer : (P : Branch → Type 0) (reach : PathAnswer) (other : Option Branch) → IfThere P reach → IfSome other P → IfThere P (nearer_of reach other)
IfThere-nearer P Nothing None shown is = tt
IfThere-nearer P Nothing (Some beside) shown is = is
IfThere-nearer P (Here index) other shown is = tt
IfThere-nearer P (There beside) other shown is = shown

-- a pointer that names no node sums none up
pub TellsNode-sums : (images : List ℕ → Type 0) (size level : ℕ) (root : Ptr) (fault : BlockFault) → TellsNode images size NamesNode level root fault → TellsNode images size (SumsUp images) level root fault
TellsNode-sums images size level root (Full need largest) told = tt
TellsNode-sums images size level root DiskFault told = tt
TellsNode-sums images size level root (Damaged sector stated found) told = record {
  at = told.at;
  ptr = told.ptr;
  reached = told.reached;
  sector_is = told.sector_is;
  stated_is = told.stated_is;
  found_is = ⊎_elim (λ other. inl other) (λ alike. inr (alike.0, λ sums. alike.1 sums.names)) told.found_is;
}
