-- What may be told as damaged of a set that was changed, and of the trees of its objects, was told before.
use Rattle.std.proofs.Common.{◌≡◌, ◌⊎◌, inl, inr, ⊎_elim, ℕ, ◌*◌, ◌<◌, ◌≤◌, List, length, refl, sym, ◌∙◌, ap, subst}
use Rattle.std.specs.Prelude.{Option, Some, None, Result, Ok, Err, IfOk, IfSome, OnOk}
use Rattle.std.proofs.lemmas.Bool.{cases_lt}
use Rattle.zst_bytes.specs.Bytes.{bytes_at}
use Rattle.zst_outside.specs.Images.{DiskState}
use Rattle.zst_space.specs.FreeSectors.{FreeSectors}
use Rattle.zst_block.specs.Blocks.{FillsFree, Has, SparesTaken}
use Rattle.zst_block.specs.declared.fault.BlockFault.{BlockFault}
use Rattle.zst_block.specs.declared.ptr.Ptr.{Ptr}
use Rattle.zst_dnode.specs.Slot.{slot_bytes, SlotFits}
use Rattle.zst_dnode.specs.declared.dnode.Dnode.{Dnode}
use Rattle.zst_dnode.specs.declared.slot.Slot.{Slot}
use Rattle.zst_dnode.specs.declared.slot.Slot.TheVariants.{Absent, There}
use Rattle.zst_dnode.proofs.Slots.{slot_bytes-unique}
use Rattle.zst_tree.proofs.ChangedTrees.{block_same}
use Rattle.zst_tree.proofs.Damage.{HangsBelow-grows, MayHave-more}
use Rattle.zst_tree.proofs.LaterDamage.{IsSummedBelow-more, seen_spared, spares_before}
use Rattle.zst_tree.specs.Damage.{HangsIn, IsDamagedNode, IsSeen, IsSummedBelow, IsWithin, MayHave, Reaches, SumsUp}
use Rattle.zst_tree.specs.Indices.{Blocks}
use Rattle.zst_tree.specs.declared.tree.ObjSet.{ObjSet}
use Rattle.zst_objset.specs.Damage.{AreTreesWithin, HasSlot, IsDamagedObject, IsLoaded, IsSetWithin, StandsIn, StandsWithin, TellsWithin}
use Rattle.zst_objset.specs.KeptBlocks.{KeepsTree}
use Rattle.zst_objset.specs.declared.fault.ObjFault.{ObjFault}
use Rattle.zst_objset.proofs.DamageLaws.{StandsIn-more, set_now, set_within, slot_stands}

-- below a root of no levels there is no node
no_node : (has : Blocks) (at : ℕ) (root found : Ptr) → ¬ Reaches has 0 root at found
unfolding Reaches
no_node has at root found = λ reached. reached

-- what is told below a tree that was read is told of it before
pub sums_before : (old mid : DiskState) (space less : FreeSectors) → FillsFree old space mid less → (level : ℕ) (root : Ptr) (fewer : List ℕ → Type 0) (lower : ℕ) (under : Ptr)
    → IsSummedBelow (SparesTaken less mid.seen) mid.size level root fewer lower under → IsSummedBelow (SparesTaken space old.seen) old.size level root fewer lower under
sums_before old mid space less fills level root fewer lower under below = λ sector stated found damaged.
    IsSummedBelow-more (SparesTaken less mid.seen) (SparesTaken space old.seen) (spares_before old mid space less fills) old.size level root sector stated found
    (subst (λ (n : ℕ). IsSummedBelow (SparesTaken less mid.seen) n level root fewer lower under) fills.size below sector stated found damaged)

-- ---- which dnodes may stand in a set

-- in a leaf that was read a slot was put: a dnode of it stood in the set, or is the slot's
pub slots_put : (seen : List ℕ) (set : ObjSet) (was : Ptr) (bytes node : List ℕ) (slot : Slot) (from below : ℕ) → SlotFits slot → HangsIn (MayHave (IsSeen seen)) set.tree was → IsLoaded (IsSeen seen) was bytes
    → ((s : ℕ) → from ≤ s → s < below → bytes_at node (512 * s) 512 ≡ slot_bytes slot) → ((s : ℕ) → s < 16 → (s < from) ⊎ (below ≤ s) → bytes_at node (512 * s) 512 ≡ bytes_at bytes (512 * s) 512)
    → (place : ℕ) (dnode : Dnode) → place < 16 → HasSlot node place (There dnode) → StandsIn (IsSeen seen) set dnode ⊎ (slot ≡ There dnode)
slots_put seen set was bytes node slot from below fits hangs loaded put kept place dnode under has = ⊎_elim
    (λ lower. beside (inl lower))
    (λ from_on. ⊎_elim (λ inside. inr (slot_bytes-unique slot (There dnode) fits has.fits (sym (put place from_on inside) ∙ has.spelled))) (λ over. beside (inr over)) (cases_lt place below))
    (cases_lt place from)
  where
    beside : (place < from) ⊎ (below ≤ place) → StandsIn (IsSeen seen) set dnode ⊎ (slot ≡ There dnode)
    beside outside =
        let there : HasSlot bytes place (There dnode) = record { fits = has.fits; spelled = sym (kept place under outside) ∙ has.spelled } in
        inl (slot_stands (IsSeen seen) set was bytes place (There dnode) hangs loaded under there
        (λ other other_fits spelled. ap (λ (s : Slot). Some s) (slot_bytes-unique (There dnode) other has.fits other_fits (sym has.spelled ∙ (kept place under outside ∙ spelled)))))

module _ (old mid new : DiskState) (space less last : FreeSectors) (first : FillsFree old space mid less) (second : FillsFree mid less new last) (set made : ObjSet) where
  up : (image : List ℕ) → SparesTaken last new.seen image → SparesTaken space old.seen image
  up image spares = spares_before old mid space less first image (spares_before mid new less last second image spares)

  stood_before : (dnode : Dnode) → StandsIn (IsSeen old.seen) set dnode → StandsIn (SparesTaken space old.seen) set dnode
  stood_before dnode stood = StandsIn-more (IsSeen old.seen) (SparesTaken space old.seen) (seen_spared space old.seen) set dnode stood

  -- the leaf was written, and put into the set
  pub put_stands : (leaf : Ptr) (node : List ℕ) (Put : Dnode → Type 0) → Has new.seen last leaf node
      → IsWithin (SparesTaken less mid.seen) mid.size set.tree.levels set.tree.root leaf (SparesTaken last new.seen) made.tree.levels made.tree.root
      → ((place : ℕ) (dnode : Dnode) → place < 16 → HasSlot node place (There dnode) → StandsIn (IsSeen old.seen) set dnode ⊎ Put dnode)
      → StandsWithin Put (SparesTaken space old.seen) set (SparesTaken last new.seen) made
  put_stands leaf node Put has within slots = λ dnode stands. ⊎_elim
      (λ inside. inl (record {
        leaf = stands.leaf;
        some = stands.some;
        hangs = HangsBelow-grows (MayHave (SparesTaken less mid.seen)) (MayHave (SparesTaken space old.seen)) (MayHave-more (SparesTaken less mid.seen) (SparesTaken space old.seen) (spares_before old mid space less first)) set.tree.levels set.tree.root stands.leaf inside;
        bytes = stands.bytes;
        there = MayHave-more (SparesTaken last new.seen) (SparesTaken space old.seen) up stands.leaf stands.bytes stands.there;
        place = stands.place;
        under = stands.under;
        slot = stands.slot;
      }))
      (λ other. ⊎_elim
      (λ is.
      let same = block_same new.seen last (length new.seen) refl leaf node has stands.bytes (subst (λ (p : Ptr). MayHave (SparesTaken last new.seen) p stands.bytes) is stands.there) in
      ⊎_elim (λ stood. inl (stood_before dnode stood)) (λ put. inr put) (slots stands.place dnode stands.under (subst (λ (b : List ℕ). HasSlot b stands.place (There dnode)) same stands.slot)))
      (λ hole. absurd (stands.some hole)) other)
      (within.hangs stands.leaf stands.hangs)

  -- ---- what is told of their trees

  abbrev Within : Type 0
  Within = IsSetWithin (SparesTaken less mid.seen) mid.size set (SparesTaken last new.seen) made

  abbrev Stands : Dnode → Type 0
  Stands put = StandsWithin (λ other. other ≡ put) (SparesTaken less mid.seen) set (SparesTaken last new.seen) made

  abbrev Trees : Type 0
  Trees = AreTreesWithin (SparesTaken space old.seen) old.size set (SparesTaken last new.seen) made

  trees_put : (put : Dnode) → Within → Stands put
      → TellsWithin (IsDamagedNode (SparesTaken last new.seen) old.size (SumsUp (SparesTaken last new.seen)) put.levels put.root) (IsDamagedObject (SparesTaken space old.seen) old.size (SumsUp (SparesTaken space old.seen)) set) → Trees
  trees_put put within stands below sector stated found (inl slots) =
      inl (set_within (SparesTaken space old.seen) old.size mid.size set (SparesTaken less mid.seen) set (SparesTaken last new.seen) made first.size (set_now old mid space less first set) within sector stated found slots)
  trees_put put within stands below sector stated found (inr tree) = ⊎_elim
      (λ stood. inr (record {
        dnode = tree.dnode;
        stands = StandsIn-more (SparesTaken less mid.seen) (SparesTaken space old.seen) (spares_before old mid space less first) set tree.dnode stood;
        damaged = IsSummedBelow-more (SparesTaken last new.seen) (SparesTaken space old.seen) up old.size tree.dnode.levels tree.dnode.root sector stated found tree.damaged;
      }))
      (λ is. below sector stated found (subst (λ (d : Dnode). IsDamagedNode (SparesTaken last new.seen) old.size (SumsUp (SparesTaken last new.seen)) d.levels d.root sector stated found) is tree.damaged))
      (stands tree.dnode tree.stands)

  -- the tree of an object that stood was changed before its dnode was put
  pub trees_changed : (result : Result (Unit {0}) ObjFault) (dnode put : Dnode) (lower : ℕ) (under : Ptr) → put.levels ≡ lower → put.root ≡ under → StandsIn (IsSeen old.seen) set dnode
      → IsSummedBelow (SparesTaken space old.seen) old.size dnode.levels dnode.root (SparesTaken less mid.seen) lower under → OnOk result Within → OnOk result (Stands put) → OnOk result Trees
  trees_changed (Err fault) dnode put lower under levels root stood below within stands = tt
  trees_changed (Ok done) dnode put lower under levels root stood below within stands = trees_put put within stands (λ sector stated found damaged. inr (record {
    dnode = dnode;
    stands = stood_before dnode stood;
    damaged = below sector stated found (IsSummedBelow-more (SparesTaken last new.seen) (SparesTaken less mid.seen) (spares_before mid new less last second) old.size lower under sector stated found
        (subst (λ (n : ℕ). IsDamagedNode (SparesTaken last new.seen) old.size (SumsUp (SparesTaken last new.seen)) n under sector stated found) levels
        (subst (λ (p : Ptr). IsDamagedNode (SparesTaken last new.seen) old.size (SumsUp (SparesTaken last new.seen)) put.levels p sector stated found) root damaged)));
  }))

  trees_new : (result : Result (Unit {0}) ObjFault) (put : Dnode) → put.levels ≡ 0 → OnOk result Within → OnOk result (Stands put) → OnOk result Trees
  trees_new (Err fault) put none within stands = tt
  trees_new (Ok done) put none within stands = trees_put put within stands (λ sector stated found damaged.
      absurd (no_node (MayHave (SparesTaken last new.seen)) damaged.at put.root damaged.ptr (subst (λ (n : ℕ). Reaches (MayHave (SparesTaken last new.seen)) n put.root damaged.at damaged.ptr) none damaged.reached)))

  -- it stayed, or the dnode has none
  pub trees_kept : (result : Result (Unit {0}) ObjFault) (was : Option Dnode) (put : Dnode) → KeepsTree was put → IfSome was (StandsIn (IsSeen old.seen) set) → OnOk result Within → OnOk result (Stands put) → OnOk result Trees
  trees_kept result None put none stood within stands = trees_new result put none within stands
  trees_kept result (Some dnode) put (inl none) stood within stands = trees_new result put none within stands
  trees_kept result (Some dnode) put (inr same) stood within stands =
      trees_changed result dnode put dnode.levels dnode.root same.0 same.1 stood (IsSummedBelow-more (SparesTaken less mid.seen) (SparesTaken space old.seen) (spares_before old mid space less first) old.size dnode.levels dnode.root) within stands

-- ---- freed numbers

-- a slot of no object was put
pub absent_stands : (number : ℕ) (images : List ℕ → Type 0) (set : ObjSet) (fewer : List ℕ → Type 0) (result : Result ObjSet BlockFault)
    → IfOk result (StandsWithin (λ dnode. Absent number ≡ There dnode) images set fewer) → IfOk result (StandsWithin (λ dnode. ⊥) images set fewer)
absent_stands number images set fewer (Ok made) stands = λ dnode stood. ⊎_elim (λ before. inl before) (λ is. absurd (cc is)) (stands dnode stood)
absent_stands number images set fewer (Err fault) stands = tt

module _ (old new : DiskState) (space less : FreeSectors) (fills : FillsFree old space new less) (set : ObjSet) where
  -- holes were put into the set
  pub holes_stand : (made : ObjSet) (leaf : Ptr) → leaf.kind ≡ 0 → IsWithin (SparesTaken space old.seen) old.size set.tree.levels set.tree.root leaf (SparesTaken less new.seen) made.tree.levels made.tree.root
      → StandsWithin (λ dnode. ⊥) (SparesTaken space old.seen) set (SparesTaken less new.seen) made
  holes_stand made leaf hole within = λ dnode stands. ⊎_elim
      (λ inside. inl (record {
        leaf = stands.leaf;
        some = stands.some;
        hangs = inside;
        bytes = stands.bytes;
        there = MayHave-more (SparesTaken less new.seen) (SparesTaken space old.seen) (spares_before old new space less fills) stands.leaf stands.bytes stands.there;
        place = stands.place;
        under = stands.under;
        slot = stands.slot;
      }))
      (λ other. absurd (⊎_elim (λ is. stands.some (ap (λ (p : Ptr). p.kind) is ∙ hole)) (λ none. stands.some none) other))
      (within.hangs stands.leaf stands.hangs)

  pub trees_freed : (made : ObjSet) → IsSetWithin (SparesTaken space old.seen) old.size set (SparesTaken less new.seen) made → StandsWithin (λ dnode. ⊥) (SparesTaken space old.seen) set (SparesTaken less new.seen) made
      → AreTreesWithin (SparesTaken space old.seen) old.size set (SparesTaken less new.seen) made
  trees_freed made within stands sector stated found (inl slots) = inl (within sector stated found slots)
  trees_freed made within stands sector stated found (inr tree) = ⊎_elim
      (λ stood. inr (record {
        dnode = tree.dnode;
        stands = stood;
        damaged = IsSummedBelow-more (SparesTaken less new.seen) (SparesTaken space old.seen) (spares_before old new space less fills) old.size tree.dnode.levels tree.dnode.root sector stated found tree.damaged;
      }))
      (λ none. absurd none)
      (stands tree.dnode tree.stands)

  pub result_freed : (result : Result ObjSet BlockFault) → IfOk result (IsSetWithin (SparesTaken space old.seen) old.size set (SparesTaken less new.seen)) → IfOk result (StandsWithin (λ dnode. ⊥) (SparesTaken space old.seen) set (SparesTaken less new.seen))
      → IfOk result (AreTreesWithin (SparesTaken space old.seen) old.size set (SparesTaken less new.seen))
  result_freed (Ok made) within stands = trees_freed made within stands
  result_freed (Err fault) within stands = tt

-- one change after another
pub trees_then : (images : List ℕ → Type 0) (size other : ℕ) (set : ObjSet) (mid : List ℕ → Type 0) (made : ObjSet) (fewer : List ℕ → Type 0) (last : ObjSet) → other ≡ size → AreTreesWithin images size set mid made → AreTreesWithin mid other made fewer last
    → AreTreesWithin images size set fewer last
trees_then images size other set mid made fewer last same first second = λ sector stated found damaged.
    first sector stated found (subst (λ (n : ℕ). AreTreesWithin mid n made fewer last) same second sector stated found damaged)

pub result_then : (images : List ℕ → Type 0) (size other : ℕ) (set : ObjSet) (mid : List ℕ → Type 0) (made : ObjSet) (fewer : List ℕ → Type 0) → other ≡ size → AreTreesWithin images size set mid made
    → (result : Result ObjSet BlockFault) → IfOk result (AreTreesWithin mid other made fewer) → IfOk result (AreTreesWithin images size set fewer)
result_then images size other set mid made fewer same first (Ok last) second = trees_then images size other set mid made fewer last same first second
result_then images size other set mid made fewer same first (Err fault) second = tt
