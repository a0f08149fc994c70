-- What may be told as damaged of a set, from the block up.
use Rattle.std.proofs.Common.{◌≡◌, ◌⊎◌, inl, inr, ⊎_elim, ℕ, zero, suc, ◌*◌, ◌^◌, ◌<◌, ◌≤◌, List, length, refl, sym, ◌∙◌, ap, subst, arith}
use Rattle.std.specs.Prelude.{Option, Some, None, Result, Ok, Err, OnOk}
use Rattle.std.proofs.lemmas.Bool.{cases_lt}
use Rattle.zst_bytes.specs.Bytes.{bytes_at}
use Rattle.zst_fletcher.specs.WeightSum.{parts_of}
use Rattle.zst_outside.specs.Images.{DiskState}
use Rattle.zst_space.specs.FreeSectors.{FreeSectors}
use Rattle.zst_block.specs.Blocks.{FillsFree, Has, SparesTaken}
use Rattle.zst_block.proofs.BlocksLaws.{IsBlock-length}
use Rattle.zst_block.specs.IoStates.{IoState}
use Rattle.zst_block.specs.IoCalls.{Looks}
use Rattle.zst_block.specs.declared.fault.BlockFault.{BlockFault}
use Rattle.zst_block.specs.declared.fault.BlockFault.TheVariants.{Full, Damaged, DiskFault}
use Rattle.zst_block.specs.declared.ptr.Ptr.{Ptr}
use Rattle.zst_dnode.specs.Slot.{slot_bytes, SlotFits}
use Rattle.zst_dnode.specs.declared.dnode.Dnode.{Dnode}
use Rattle.zst_dnode.specs.declared.slot.Slot.{Slot}
use Rattle.zst_dnode.specs.declared.slot.Slot.TheVariants.{Absent, There}
use Rattle.zst_tree.proofs.Damage.{HangsBelow-grows, MayHave-more}
use Rattle.zst_tree.proofs.ChangedTrees.{block_same, block_whole}
use Rattle.zst_tree.proofs.LaterDamage.{IsBelow-more, seen_spared, spares_before}
use Rattle.zst_tree.specs.Damage.{HangsBelow, HangsIn, IsSeen, IsWithin, MayHave, NamesNode, SumsUp, TellsNode}
use Rattle.zst_tree.specs.Indices.{IsNoDamage}
use Rattle.zst_tree.specs.declared.tree.ObjSet.{ObjSet}
use Rattle.zst_objset.specs.Answers.{stop_of}
use Rattle.zst_objset.specs.Damage.{AreAbsent, HasAllSlots, IsSetWithin, DamageFact, HasSlot, IfDamage, IfDamaged, IfSetDamaged, IsDamagedLeaf, IsDamagedObject, IsDamagedSet, IsLoaded, IsNoLeaf, IsToldOf, LacksSlot, SlotStands, StandsIn, TellsLacking}
use Rattle.zst_objset.specs.declared.fault.ObjFault.{ObjFault}
use Rattle.zst_objset.specs.declared.fault.ObjFault.TheVariants as faults

-- what is so of each damage of one kind is so of that which is told
module _ (P Q : DamageFact) (more : (sector : ℕ) (stated found : List ℕ) → P sector stated found → Q sector stated found) where
  pub IfDamage-weaker : (fault : BlockFault) → IfDamage fault P → IfDamage fault Q
  IfDamage-weaker (Damaged sector stated found) told = more sector stated found told
  IfDamage-weaker (Full need largest) told = tt
  IfDamage-weaker DiskFault told = tt

  pub IfSetDamaged-fault : (T U : Type 0) (fault : ObjFault) → IfSetDamaged {T = T} (Err fault) P → IfSetDamaged {T = U} (Err fault) Q
  IfSetDamaged-fault T U (faults.CannotApply fault) told = tt
  IfSetDamaged-fault T U (faults.Redacted object block) told = tt
  IfSetDamaged-fault T U (faults.Limit which number) told = tt
  IfSetDamaged-fault T U (faults.Block fault) told = IfDamage-weaker fault told

  pub IfSetDamaged-weaker : {T : Type 0} → (result : Result T ObjFault) → IfSetDamaged result P → IfSetDamaged result Q
  IfSetDamaged-weaker {T} (Ok value) told = tt
  IfSetDamaged-weaker {T} (Err fault) told = IfSetDamaged-fault T T fault told

module _ (images : List ℕ → Type 0) (size : ℕ) (set : ObjSet) where
  -- where a leaf of the set lacks a slot, both sums of its pointer are told alike
  pub lacking_told : (was : Ptr) (bytes : List ℕ) → HangsIn (MayHave images) set.tree was → IsLoaded images was bytes → LacksSlot bytes → IsDamagedSet images size set was.sector (parts_of was.sum) (parts_of was.sum)
  lacking_told was bytes hangs (inl (hole, absent)) lacks = absurd (lacks.none (Absent (absent lacks.place lacks.under).0) (absent lacks.place lacks.under).1)
  lacking_told was bytes (inr past) (inr (some, there)) lacks = absurd (some (ap (λ (p : Ptr). p.kind) past))
  lacking_told was bytes (inl hangs) (inr (some, there)) lacks = inr (inr (record {
    leaf = was;
    hangs = hangs;
    damaged = record { some = some; told = record { sector_is = refl; stated_is = refl; found_is = inr (refl, inr (bytes, there, lacks)) } };
  }))

module _ (images : List ℕ → Type 0) (set : ObjSet) where
  -- the dnode of a slot that is read stands in the set
  pub slot_stands : (was : Ptr) (bytes : List ℕ) (place : ℕ) (slot : Slot) → HangsIn (MayHave images) set.tree was → IsLoaded images was bytes → place < 16 → HasSlot bytes place slot
      → ((other : Slot) → SlotFits other → bytes_at bytes (512 * place) 512 ≡ slot_bytes other → Some slot ≡ Some other) → SlotStands images set slot
  slot_stands was bytes place (Absent date) hangs loaded under has back = tt
  slot_stands was bytes place (There dnode) hangs (inl (hole, absent)) under has back =
      let other = absent place under in
      let same : Some (There dnode) ≡ Some (Absent other.0) = back (Absent other.0) other.1.fits other.1.spelled in
      absurd (cc)
  slot_stands was bytes place (There dnode) (inr past) (inr (some, there)) under has back = absurd (some (ap (λ (p : Ptr). p.kind) past))
  slot_stands was bytes place (There dnode) (inl hangs) (inr (some, there)) under has back = record { leaf = was; some = some; hangs = hangs; bytes = bytes; there = there; place = place; under = under; slot = has }

module _ (bytes mid : List ℕ) (date : ℕ) (fits : date < 2 ^ 64) (all : (s : ℕ) → 0 ≤ s → s < 16 → bytes_at mid (512 * s) 512 ≡ slot_bytes (Absent date)) where
  -- sixteen absent slots of one date
  pub AreAbsent-all : AreAbsent mid
  AreAbsent-all = λ place under. (date, record { fits = fits; spelled = all place (omega arith) under })

  -- the first of them has the date 0
  pub AreAbsent-first : ((s : ℕ) → 0 ≤ s → s < 1 → bytes_at bytes (512 * s) 512 ≡ slot_bytes (Absent 0)) → ((s : ℕ) → s < 16 → (s < 0) ⊎ (1 ≤ s) → bytes_at bytes (512 * s) 512 ≡ bytes_at mid (512 * s) 512) → AreAbsent bytes
  AreAbsent-first first kept = absent
    where
      absent : (place : ℕ) → place < 16 → (other : ℕ) × HasSlot bytes place (Absent other)
      absent zero under = (0, record { fits = omega arith; spelled = first 0 (omega arith) (omega arith) })
      absent (suc place) under = (date, record { fits = fits; spelled = kept (suc place) under (inr (omega arith)) ∙ all (suc place) (omega arith) under })

-- where more images may stand, more may be told
module _ (images more : List ℕ → Type 0) (up : (image : List ℕ) → images image → more image) where
  IsToldOf-more : (size : ℕ) (wrong other : Type 0) → (wrong → other) → (ptr : Ptr) (sector : ℕ) (stated found : List ℕ) → IsToldOf images size wrong ptr sector stated found → IsToldOf more size other ptr sector stated found
  IsToldOf-more size wrong other also ptr sector stated found told = record {
    sector_is = told.sector_is;
    stated_is = told.stated_is;
    found_is = ⊎_elim (λ has. inl (has.0, up has.0 has.1, has.2)) (λ alike. inr (alike.0, also alike.1)) told.found_is;
  }

  no_leaf : (leaf : Ptr) → IsNoLeaf images leaf → IsNoLeaf more leaf
  no_leaf leaf (inl short) = inl short
  no_leaf leaf (inr (bytes, there, lacks)) = inr (bytes, MayHave-more images more up leaf bytes there, lacks)

  hangs_more : (level : ℕ) (root found : Ptr) → HangsBelow (MayHave images) level root found → HangsBelow (MayHave more) level root found
  hangs_more level root found hangs = HangsBelow-grows (MayHave images) (MayHave more) (MayHave-more images more up) level root found hangs

  pub leaf_more : (size : ℕ) (leaf : Ptr) (sector : ℕ) (stated found : List ℕ) → IsDamagedLeaf images size leaf sector stated found → IsDamagedLeaf more size leaf sector stated found
  leaf_more size leaf sector stated found damaged = record { some = damaged.some; told = IsToldOf-more size (IsNoLeaf images leaf) (IsNoLeaf more leaf) (no_leaf leaf) leaf sector stated found damaged.told }

  pub IsDamagedSet-more : (size : ℕ) (set : ObjSet) (sector : ℕ) (stated found : List ℕ) → IsDamagedSet images size set sector stated found → IsDamagedSet more size set sector stated found
  IsDamagedSet-more size set sector stated found (inl tall) = inl tall
  IsDamagedSet-more size set sector stated found (inr (inl node)) = inr (inl (IsBelow-more images more up size NamesNode set.tree.levels set.tree.root sector stated found node))
  IsDamagedSet-more size set sector stated found (inr (inr has)) = inr (inr (record {
    leaf = has.leaf;
    hangs = hangs_more set.tree.levels set.tree.root has.leaf has.hangs;
    damaged = leaf_more size has.leaf sector stated found has.damaged;
  }))

  pub StandsIn-more : (set : ObjSet) (dnode : Dnode) → StandsIn images set dnode → StandsIn more set dnode
  StandsIn-more set dnode stands = record {
    leaf = stands.leaf;
    some = stands.some;
    hangs = hangs_more set.tree.levels set.tree.root stands.leaf stands.hangs;
    bytes = stands.bytes;
    there = MayHave-more images more up stands.leaf stands.bytes stands.there;
    place = stands.place;
    under = stands.under;
    slot = stands.slot;
  }

-- a call that reads, seen as one that writes nothing
module _ (space : FreeSectors) (seen : List ℕ) (size : ℕ) (set : ObjSet) where
  spared_set : (sector : ℕ) (stated found : List ℕ) → IsDamagedSet (IsSeen seen) size set sector stated found → IsDamagedSet (SparesTaken space seen) size set sector stated found
  spared_set sector stated found damaged = IsDamagedSet-more (IsSeen seen) (SparesTaken space seen) (seen_spared space seen) size set sector stated found damaged

  pub fault_spared : (fault : BlockFault) → IfDamage fault (IsDamagedSet (IsSeen seen) size set) → IfDamage fault (IsDamagedSet (SparesTaken space seen) size set)
  fault_spared fault told = IfDamage-weaker _ _ spared_set fault told

  pub set_spared : (T U : Type 0) (fault : ObjFault) → IfSetDamaged {T = T} (Err fault) (IsDamagedSet (IsSeen seen) size set) → IfSetDamaged {T = U} (Err fault) (IsDamagedSet (SparesTaken space seen) size set)
  set_spared T U fault told = IfSetDamaged-fault _ _ spared_set T U fault told

-- what is told of a set after free sectors were written was told of it before
module _ (old new : DiskState) (space less : FreeSectors) (fills : FillsFree old space new less) (set : ObjSet) where
  pub set_now : IsSetWithin (SparesTaken space old.seen) old.size set (SparesTaken less new.seen) set
  set_now = λ sector stated found damaged. IsDamagedSet-more (SparesTaken less new.seen) (SparesTaken space old.seen) (spares_before old new space less fills) old.size set sector stated found damaged

  set_before : (sector : ℕ) (stated found : List ℕ) → IsDamagedSet (SparesTaken less new.seen) new.size set sector stated found → IsDamagedSet (SparesTaken space old.seen) old.size set sector stated found
  set_before sector stated found damaged = set_now sector stated found (subst (λ (size : ℕ). IsDamagedSet (SparesTaken less new.seen) size set sector stated found) fills.size damaged)

  pub set_after : {T : Type 0} → (result : Result T ObjFault) → IfSetDamaged result (IsDamagedSet (SparesTaken less new.seen) new.size set) → IfSetDamaged result (IsDamagedSet (SparesTaken space old.seen) old.size set)
  set_after result told = IfSetDamaged-weaker _ _ set_before result told

  -- so is a node of its tree
  pub node_after : (fault : BlockFault) → TellsNode (SparesTaken less new.seen) new.size NamesNode set.tree.levels set.tree.root fault → IfDamage fault (IsDamagedSet (SparesTaken space old.seen) old.size set)
  node_after (Damaged sector stated found) told = set_before sector stated found (inr (inl told))
  node_after (Full need largest) told = tt
  node_after DiskFault told = tt

-- a place that lacks a slot after others were put lacked it before
pub LacksSlot-put : (slot : Slot) (from below : ℕ) (old new : List ℕ) → SlotFits slot → ((s : ℕ) → from ≤ s → s < below → bytes_at new (512 * s) 512 ≡ slot_bytes slot)
    → ((s : ℕ) → s < 16 → (s < from) ⊎ (below ≤ s) → bytes_at new (512 * s) 512 ≡ bytes_at old (512 * s) 512) → LacksSlot new → LacksSlot old
LacksSlot-put slot from below old new fits put kept lacks = ⊎_elim (λ lower. there (inl lower)) (λ from_on. ⊎_elim (λ inside. absurd (lacks.none slot (record { fits = fits; spelled = put lacks.place from_on inside }))) (λ over. there (inr over)) (cases_lt lacks.place below)) (cases_lt lacks.place from)
  where
    there : (lacks.place < from) ⊎ (below ≤ lacks.place) → LacksSlot old
    there beside = record { place = lacks.place; under = lacks.under; none = λ other has. lacks.none other (record { fits = has.fits; spelled = kept lacks.place lacks.under beside ∙ has.spelled }) }

-- what is told of a leaf that lacks a slot
pub lacking_spared : (seen : List ℕ) (space : FreeSectors) (size : ℕ) (set : ObjSet) (was : Ptr) (bytes : List ℕ) → HangsIn (MayHave (IsSeen seen)) set.tree was → IsLoaded (IsSeen seen) was bytes
    → (sector : ℕ) (stated found : List ℕ) → TellsLacking bytes was sector stated found → IsDamagedSet (SparesTaken space seen) size set sector stated found
lacking_spared seen space size set was bytes hangs loaded sector stated found told =
    spared_set space seen size set sector stated found
    (rw (told.sector_is, told.found_is, told.stated_is) (lacking_told (IsSeen seen) size set was bytes hangs loaded told.lacks))

-- a node of an object's tree that is told of after free sectors were written was told of before
module _ (old : DiskState) (space : FreeSectors) (set : ObjSet) (right : ℕ → Ptr → Type 0) (dnode : Dnode) (stands : StandsIn (IsSeen old.seen) set dnode) where
  pub tree_told : (fault : BlockFault) → TellsNode (SparesTaken space old.seen) old.size right dnode.levels dnode.root fault → IfDamage fault (IsDamagedObject (SparesTaken space old.seen) old.size right set)
  tree_told (Damaged sector stated found) told = inr (record { dnode = dnode; stands = StandsIn-more (IsSeen old.seen) (SparesTaken space old.seen) (seen_spared space old.seen) set dnode stands; damaged = told })
  tree_told (Full need largest) told = tt
  tree_told DiskFault told = tt

module _ (images : List ℕ → Type 0) (size : ℕ) (right : ℕ → Ptr → Type 0) (set : ObjSet) where
  -- a call that looks at an object's tree may also tell what one that looks at its slot may tell
  pub object_told : {T : Type 0} → (result : Result T ObjFault) → IfSetDamaged result (IsDamagedSet images size set) → IfSetDamaged result (IsDamagedObject images size right set)
  object_told result told = IfSetDamaged-weaker _ _ (λ sector stated found damaged. inl damaged) result told

-- what is told of a tree after a call that only reads is told of it before
pub told_before : {old new : IoState} {stop : Option BlockFault} (right : FreeSectors → List ℕ → ℕ → Ptr → Type 0) (level : ℕ) (root : Ptr) → Looks old new stop
    → (fault : BlockFault) → TellsNode (SparesTaken new.space new.disk.seen) new.disk.size (right new.space new.disk.seen) level root fault → TellsNode (SparesTaken old.space old.disk.seen) old.disk.size (right old.space old.disk.seen) level root fault
told_before {old} {new} right level root looks fault told =
    subst (λ (space : FreeSectors). TellsNode (SparesTaken space old.disk.seen) old.disk.size (right space old.disk.seen) level root fault) looks.space
    (subst (λ (size : ℕ). TellsNode (SparesTaken new.space old.disk.seen) size (right new.space old.disk.seen) level root fault) looks.reads.size
    (subst (λ (seen : List ℕ). TellsNode (SparesTaken new.space seen) new.disk.size (right new.space seen) level root fault) looks.reads.seen told))

-- a node that doesn't sum up what a read gives doesn't sum up what may stand there
pub sums_spared : (space : FreeSectors) (seen : List ℕ) (size level : ℕ) (root : Ptr) (fault : BlockFault) → TellsNode (IsSeen seen) size (SumsUp (IsSeen seen)) level root fault → TellsNode (SparesTaken space seen) size (SumsUp (SparesTaken space seen)) level root fault
sums_spared space seen size level root (Full need largest) told = tt
sums_spared space seen size level root DiskFault told = tt
sums_spared space seen size level root (Damaged sector stated found) told =
    let more = IsBelow-more (IsSeen seen) (SparesTaken space seen) (seen_spared space seen) size (SumsUp (IsSeen seen)) level root sector stated found told in
    record {
      at = more.at;
      ptr = more.ptr;
      reached = more.reached;
      sector_is = more.sector_is;
      stated_is = more.stated_is;
      found_is = ⊎_elim (λ other. inl other) (λ alike. inr (
        alike.0,
        λ sums. alike.1 (record {
          names = sums.names;
          kind_is = λ bytes may. sums.kind_is bytes (MayHave-more (IsSeen seen) (SparesTaken space seen) (seen_spared space seen) more.ptr bytes may);
          number_is = λ bytes may. sums.number_is bytes (MayHave-more (IsSeen seen) (SparesTaken space seen) (seen_spared space seen) more.ptr bytes may);
        }),
      )) more.found_is;
    }

-- a leaf that was written isn't damaged
pub leaf_whole : (seen : List ℕ) (space : FreeSectors) (size : ℕ) (ptr : Ptr) (bytes : List ℕ) → length seen ≡ size → Has seen space ptr bytes → length bytes ≡ 8192 → HasAllSlots bytes
    → (sector : ℕ) (stated found : List ℕ) → ¬ IsDamagedLeaf (SparesTaken space seen) size ptr sector stated found
leaf_whole seen space size ptr bytes whole has long all sector stated found = λ damaged. ⊎_elim
    (λ other. block_whole seen space size whole ptr bytes has other.0 found other.1 other.2)
    (λ alike. ⊎_elim (λ short. short (sym (IsBlock-length seen ptr bytes has.block) ∙ long))
    (λ may. lacks (subst (λ (b : List ℕ). LacksSlot b) (block_same seen space size whole ptr bytes has may.0 may.1) may.2)) alike.1)
    damaged.told.found_is
  where
    lacks : ¬ LacksSlot bytes
    lacks = λ lack. lack.none (all lack.place lack.under).0 (all lack.place lack.under).1

-- what is told of a set whose tree was changed was told of it before, but for a leaf that isn't damaged
module _ (old new : DiskState) (space less : FreeSectors) (fills : FillsFree old space new less) (set made : ObjSet) (leaf : Ptr) where
  pub changed_within : made.tree.levels ≤ 7 → ((sector : ℕ) (stated found : List ℕ) → ¬ IsDamagedLeaf (SparesTaken less new.seen) old.size leaf sector stated found)
      → IsWithin (SparesTaken space old.seen) old.size set.tree.levels set.tree.root leaf (SparesTaken less new.seen) made.tree.levels made.tree.root
      → IsSetWithin (SparesTaken space old.seen) old.size set (SparesTaken less new.seen) made
  changed_within levels whole within sector stated found (inl tall) = absurd (omega (arith, tall.tall))
  changed_within levels whole within sector stated found (inr (inl node)) = inr (inl (within.below sector stated found node))
  changed_within levels whole within sector stated found (inr (inr has)) = ⊎_elim
      (λ inside. inr (inr (record { leaf = has.leaf; hangs = inside; damaged = leaf_more (SparesTaken less new.seen) (SparesTaken space old.seen) (spares_before old new space less fills) old.size has.leaf sector stated found has.damaged })))
      (λ other. absurd (⊎_elim
      (λ is. whole sector stated found (subst (λ (p : Ptr). IsDamagedLeaf (SparesTaken less new.seen) old.size p sector stated found) is has.damaged))
      (λ hole. has.damaged.some hole) other))
      (within.hangs has.leaf has.hangs)

-- one change of a set after another
pub fault_within : (images : List ℕ → Type 0) (size other : ℕ) (set : ObjSet) (fewer : List ℕ → Type 0) (made : ObjSet) → other ≡ size → IsSetWithin images size set fewer made → (fault : BlockFault) → IfDamage fault (IsDamagedSet fewer other made)
    → IfDamage fault (IsDamagedSet images size set)
fault_within images size other set fewer made same within fault told = IfDamage-weaker _ _ within fault (subst (λ (n : ℕ). IfDamage fault (IsDamagedSet fewer n made)) same told)

pub result_within : (images : List ℕ → Type 0) (size other : ℕ) (set : ObjSet) (fewer : List ℕ → Type 0) (made : ObjSet) → other ≡ size → IsSetWithin images size set fewer made → {T : Type 0} → (result : Result T BlockFault) → IfDamaged result (IsDamagedSet fewer other made)
    → IfDamaged result (IsDamagedSet images size set)
result_within images size other set fewer made same within (Ok value) told = tt
result_within images size other set fewer made same within (Err fault) told = fault_within images size other set fewer made same within fault told

pub set_within : (images : List ℕ → Type 0) (size other : ℕ) (set : ObjSet) (mid : List ℕ → Type 0) (made : ObjSet) (fewer : List ℕ → Type 0) (last : ObjSet) → other ≡ size → IsSetWithin images size set mid made → IsSetWithin mid other made fewer last
    → IsSetWithin images size set fewer last
set_within images size other set mid made fewer last same first second = λ sector stated found damaged.
    first sector stated found (subst (λ (n : ℕ). IsSetWithin mid n made fewer last) same second sector stated found damaged)

-- what is told after a change was told before a call in front of it that wrote into free sectors alone
pub within_after : (old mid : DiskState) (space less : FreeSectors) → FillsFree old space mid less → (set : ObjSet) (fewer : List ℕ → Type 0) (made : ObjSet) (result : Result (Unit {0}) ObjFault)
    → OnOk result (IsSetWithin (SparesTaken less mid.seen) mid.size set fewer made) → OnOk result (IsSetWithin (SparesTaken space old.seen) old.size set fewer made)
within_after old mid space less fills set fewer made (Ok done) within =
    set_within (SparesTaken space old.seen) old.size mid.size set (SparesTaken less mid.seen) set fewer made fills.size (set_now old mid space less fills set) within
within_after old mid space less fills set fewer made (Err fault) within = tt

-- what a call tells of a node of the set's tree, and of a set of too many levels
pub node_told : (images : List ℕ → Type 0) (size : ℕ) (set : ObjSet) (fault : BlockFault) → TellsNode images size NamesNode set.tree.levels set.tree.root fault → IfDamage fault (IsDamagedSet images size set)
node_told images size set (Full need largest) told = tt
node_told images size set (Damaged sector stated found) told = inr (inl told)
node_told images size set DiskFault told = tt

pub tall_told : (images : List ℕ → Type 0) (size : ℕ) (set : ObjSet) (fault : BlockFault) → fault ≡ Damaged set.tree.root.sector (parts_of set.tree.root.sum) (parts_of set.tree.root.sum) → 7 < set.tree.levels → IfDamage fault (IsDamagedSet images size set)
tall_told images size set fault is tall = rw is (inl (record { tall = tall; sector_is = refl; stated_is = refl; found_is = refl }))

-- a fault that tells no damage, and one of no block
pub undamaged : (P : DamageFact) (fault : BlockFault) → IsNoDamage fault → IfDamage fault P
undamaged P (Full need largest) is = tt
undamaged P (Damaged sector stated found) is = absurd is
undamaged P DiskFault is = tt

pub unstopped : (T U : Type 0) (P : DamageFact) (fault : ObjFault) → stop_of {T = T} (Err fault) ≡ None → IfSetDamaged {T = U} (Err fault) P
unstopped T U P (faults.CannotApply fault) is = tt
unstopped T U P (faults.Redacted object block) is = tt
unstopped T U P (faults.Limit which number) is = tt
unstopped T U P (faults.Block fault) is = absurd (let e = is in cc)
