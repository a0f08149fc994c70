-- What a call may tell as damaged after others.
use Rattle.std.proofs.Common.{◌≡◌, inl, inr, ⊎_elim, ℕ, ◌-◌, ◌<◌, false, List, refl, sym, subst}
use Rattle.std.specs.Prelude.{Option, OnOk, Result, Ok, Err}
use Rattle.zst_outside.specs.Images.{DiskState}
use Rattle.zst_space.specs.FreeSectors.{FreeSectors}
use Rattle.zst_block.specs.Blocks.{IsBlock, SparesTaken, FillsFree}
use Rattle.zst_block.specs.Ptr.{is_flat}
use Rattle.zst_block.specs.IoStates.{IoState}
use Rattle.zst_block.specs.IoCalls.{Looks}
use Rattle.zst_block.specs.declared.ptr.Ptr.{Ptr}
use Rattle.zst_block.specs.declared.fault.BlockFault.{BlockFault}
use Rattle.zst_block.specs.declared.fault.BlockFault.TheVariants.{Full, Damaged, DiskFault}
use Rattle.zst_block.proofs.BlocksLaws.{SparesTaken-same, SparesTaken-then, SparesTaken-fewer, FillsFree-reads}
use Rattle.zst_tree.specs.Indices.{child}
use Rattle.zst_tree.specs.Damage.{IsSeen, MayHave, NamesNode, SumsUp, TellsNode, NamesDamage, IsBelow, IsSummedBelow}
use Rattle.zst_tree.proofs.Damage.{MayHave-more, Reaches-grows, IsBelow-child, TellsNode-below}

-- what is told of no damage
module _ (images : List ℕ → Type 0) (size : ℕ) (right : ℕ → Ptr → Type 0) (level : ℕ) (root : Ptr) where
  pub NamesDamage-never : {T : Type 0} → (result : Result T BlockFault) → ((sector : ℕ) (stated found : List ℕ) → ¬ (result ≡ Err (Damaged sector stated found))) → NamesDamage images size right level root result
  NamesDamage-never (Ok value) never = tt
  NamesDamage-never (Err (Damaged sector stated found)) never = absurd (never sector stated found refl)
  NamesDamage-never (Err (Full need largest)) never = tt
  NamesDamage-never (Err DiskFault) never = tt

-- more images have more
pub IsBelow-more : (images more : List ℕ → Type 0) → ((image : List ℕ) → images image → more image) → (size : ℕ) (right : ℕ → Ptr → Type 0) (level : ℕ) (root : Ptr) → IsBelow more size right level root images level root
IsBelow-more images more up size right level root = λ sector stated found damage. record {
  at = damage.at;
  ptr = damage.ptr;
  reached = Reaches-grows (MayHave images) (MayHave more) (MayHave-more images more up) level root damage.at damage.ptr damage.reached;
  sector_is = damage.sector_is;
  stated_is = damage.stated_is;
  found_is = ⊎_elim (λ other. inl (other.0, up other.0 other.1, other.2)) (λ alike. inr alike) damage.found_is;
}

-- what sums up what may stand there among more images does so among these
SumsUp-fewer : (images more : List ℕ → Type 0) → ((image : List ℕ) → images image → more image) → (level : ℕ) (ptr : Ptr) → SumsUp more level ptr → SumsUp images level ptr
SumsUp-fewer images more up level ptr sums = record {
  names = sums.names;
  kind_is = λ bytes may. sums.kind_is bytes (MayHave-more images more up ptr bytes may);
  number_is = λ bytes may. sums.number_is bytes (MayHave-more images more up ptr bytes may);
}

-- so more may be told of nodes that don't
pub IsSummedBelow-more : (images more : List ℕ → Type 0) → ((image : List ℕ) → images image → more image) → (size level : ℕ) (root : Ptr) → IsSummedBelow more size level root images level root
IsSummedBelow-more images more up size level root = λ sector stated found damage. record {
  at = damage.at;
  ptr = damage.ptr;
  reached = Reaches-grows (MayHave images) (MayHave more) (MayHave-more images more up) level root damage.at damage.ptr damage.reached;
  sector_is = damage.sector_is;
  stated_is = damage.stated_is;
  found_is = ⊎_elim (λ other. inl (other.0, up other.0 other.1, other.2)) (λ alike. inr (alike.0, λ sums. alike.1 (SumsUp-fewer images more up damage.at damage.ptr sums))) damage.found_is;
}

-- what a read gives is among all images that spare what is taken
pub seen_spared : (space : FreeSectors) (seen image : List ℕ) → IsSeen seen image → SparesTaken space seen image
seen_spared space seen image is = subst (λ (other : List ℕ). SparesTaken space seen other) (sym is) (SparesTaken-same space seen)

-- what is opened is among all images that spare what is taken
module _ (space : FreeSectors) (seen : List ℕ) (size level : ℕ) (ptr : Ptr) where
  pub opened_told : {T : Type 0} → (result : Result T BlockFault) → NamesDamage (IsSeen seen) size NamesNode level ptr result → NamesDamage (SparesTaken space seen) size NamesNode level ptr result
  opened_told (Ok value) told = tt
  opened_told (Err fault) told = TellsNode-below (SparesTaken space seen) size NamesNode level ptr (IsSeen seen) level ptr (IsBelow-more (IsSeen seen) (SparesTaken space seen) (seen_spared space seen) size NamesNode level ptr) fault told

  pub opened_below : {T : Type 0} → (bytes : List ℕ) → 0 < level → is_flat ptr ≡ false → (result : Result T BlockFault) → OnOk result (IsBlock seen ptr bytes)
      → OnOk result ((k : ℕ) → k < 128 → IsBelow (SparesTaken space seen) size NamesNode level ptr (SparesTaken space seen) (level - 1) (child bytes k))
  opened_below bytes some inner (Err fault) block = tt
  opened_below bytes some inner (Ok value) block = λ k under.
      IsBelow-child (SparesTaken space seen) size NamesNode level ptr bytes k some inner (record { image = seen; among = SparesTaken-same space seen; block = block }) under

  pub opened_sums : {T : Type 0} → (bytes : List ℕ) → 0 < level → is_flat ptr ≡ false → (result : Result T BlockFault) → OnOk result (IsBlock seen ptr bytes)
      → OnOk result ((k : ℕ) → k < 128 → IsSummedBelow (SparesTaken space seen) size level ptr (SparesTaken space seen) (level - 1) (child bytes k))
  opened_sums bytes some inner (Err fault) block = tt
  opened_sums bytes some inner (Ok value) block = λ k under.
      IsBelow-child (SparesTaken space seen) size (SumsUp (SparesTaken space seen)) level ptr bytes k some inner (record { image = seen; among = SparesTaken-same space seen; block = block }) under

-- a call that reads fills nothing
pub fills_looks : {old new : IoState} {stop : Option BlockFault} → Looks old new stop → FillsFree old.disk old.space new.disk new.space
fills_looks {old} {new} looks = subst (λ (s : FreeSectors). FillsFree old.disk old.space new.disk s) (sym looks.space) (FillsFree-reads old.disk new.disk old.space looks.reads)

module _ (old new : DiskState) (space less : FreeSectors) (fills : FillsFree old space new less) where
  -- an image that spares what is taken now spares what was taken before
  pub spares_before : (image : List ℕ) → SparesTaken less new.seen image → SparesTaken space old.seen image
  spares_before image spares = SparesTaken-then space old.seen new.seen image fills.seen (SparesTaken-fewer space less new.seen image fills.fewer spares)

  -- what is below a pointer among the images of before is below it among those of now
  pub below_now : (right : ℕ → Ptr → Type 0) (level : ℕ) (root : Ptr) (lower : ℕ) (under : Ptr) → IsBelow (SparesTaken space old.seen) old.size right level root (SparesTaken space old.seen) lower under
      → IsBelow (SparesTaken space old.seen) old.size right level root (SparesTaken less new.seen) lower under
  below_now right level root lower under below = λ sector stated found damage.
      below sector stated found (IsBelow-more (SparesTaken less new.seen) (SparesTaken space old.seen) spares_before old.size right lower under sector stated found damage)

  -- so is the pointer itself
  pub same_now : (right : ℕ → Ptr → Type 0) (level : ℕ) (root : Ptr) → IsBelow (SparesTaken space old.seen) old.size right level root (SparesTaken less new.seen) level root
  same_now right level root = below_now right level root level root (λ sector stated found damage. damage)

  module _ (right : ℕ → Ptr → Type 0) (level : ℕ) (root : Ptr) (lower : ℕ) (under : Ptr) (below : IsBelow (SparesTaken space old.seen) old.size right level root (SparesTaken less new.seen) lower under) where
    -- what is told now of a pointer below this one is told of this one before
    pub fault_after : (fault : BlockFault) → TellsNode (SparesTaken less new.seen) new.size right lower under fault → TellsNode (SparesTaken space old.seen) old.size right level root fault
    fault_after fault told = TellsNode-below (SparesTaken space old.seen) old.size right level root (SparesTaken less new.seen) lower under below fault
        (subst (λ (size : ℕ). TellsNode (SparesTaken less new.seen) size right lower under fault) fills.size told)

    pub told_after : {T : Type 0} → (result : Result T BlockFault) → NamesDamage (SparesTaken less new.seen) new.size right lower under result → NamesDamage (SparesTaken space old.seen) old.size right level root result
    told_after (Ok value) told = tt
    told_after (Err fault) told = fault_after fault told
