-- What a send keeps of its set, and what it may tell of it.
use Rattle.std.proofs.Common.{◌≡◌, inl, inr, ⊎_elim, ℕ, ◌*◌, ◌<◌, ◌≤◌, arith, ◌==◌, if◌then◌else◌, Bool, true, false, List, refl, sym, subst}
use Rattle.std.specs.Prelude.{Contains, IfSome}
use Rattle.std.proofs.lemmas.Bool.{true≢false}
use Rattle.zst_block.specs.declared.ptr.Ptr.{Ptr}
use Rattle.zst_dnode.specs.Dnode.{DnodeFits}
use Rattle.zst_dnode.specs.declared.dnode.Dnode.{Dnode}
use Rattle.zst_model.specs.declared.states.cell.Cell.{Cell}
use Rattle.zst_model.specs.declared.states.cell.Cell.TheVariants as cells
use Rattle.zst_block.specs.declared.fault.BlockFault.{BlockFault}
use Rattle.zst_objset.proofs.DamageLaws.{IfDamage-weaker, IsDamagedSet-more, StandsIn-more}
use Rattle.zst_objset.specs.Damage.{DamageFact, IfDamage, IsToldOf, StandsIn}
use Rattle.zst_traverse.specs.StandingEntries.{CellStands, FoundStands, IsDataOf}
use Rattle.zst_traverse.specs.Damage.{IsDamagedCell}
use Rattle.zst_traverse.specs.declared.walk_entry.WalkEntry.{WalkEntry}
use Rattle.zst_traverse.specs.declared.walk_entry.WalkEntry.TheVariants as found
use Rattle.zst_tree.proofs.Damage.{HangsBelow-grows, MayHave-more, Reaches-grows}
use Rattle.zst_tree.specs.Damage.{IsDamagedNode, IsSeen, MayHave, SumsUp}
use Rattle.zst_tree.specs.declared.tree.ObjSet.{ObjSet}
use Rattle.zst_send.specs.Damage.{IsDamagedDue, IsDamagedLoad, IsDamagedPayload, IsDamagedRead, IsDamagedSend}
use Rattle.zst_send.specs.DueItems.{behind, due_of, is_run}
use Rattle.zst_send.specs.KnownPointers.{DueStands, IsAmong, IsSpillOf, PayloadStands}
use Rattle.zst_send.specs.PendingRecords.{HasBlockOf}
use Rattle.zst_send.specs.declared.due_items.DueItems.{DueItems}
use Rattle.zst_send.specs.declared.due_items.DueItems.TheVariants.{Absent, Object, Spill, Tail, Holes, Redacted, Block}
use Rattle.zst_send.specs.declared.pending_record.Payload.{Payload}
use Rattle.zst_send.specs.declared.pending_record.Payload.TheVariants as payloads
use Rattle.zst_send.proofs.BlockDamage.{told_for}
use Rattle.zst_send.proofs.Sizes.{size_most}

-- ---- where more images may stand, more may be told

module _ (images more : List ℕ → Type 0) (up : (image : List ℕ) → images image → more image) where
  sums_fewer : (level : ℕ) (ptr : Ptr) → SumsUp more level ptr → SumsUp images level ptr
  sums_fewer level ptr sums = record {
    names = sums.names;
    kind_is = λ bytes may. sums.kind_is bytes (MayHave-more images more up ptr bytes may);
    number_is = λ bytes may. sums.number_is bytes (MayHave-more images more up ptr bytes may);
  }

  node_more : (size level : ℕ) (root : Ptr) (sector : ℕ) (stated found : List ℕ) → IsDamagedNode images size (SumsUp images) level root sector stated found → IsDamagedNode more size (SumsUp more) level root sector stated found
  node_more size level root sector stated found damage = record {
    at = damage.at;
    ptr = damage.ptr;
    reached = Reaches-grows (MayHave images) (MayHave more) (MayHave-more images more up) level root damage.at damage.ptr damage.reached;
    sector_is = damage.sector_is;
    stated_is = damage.stated_is;
    found_is = ⊎_elim (λ other. inl (other.0, up other.0 other.1, other.2)) (λ alike. inr (alike.0, λ sums. alike.1 (sums_fewer damage.at damage.ptr sums))) damage.found_is;
  }

  told_more : (size : ℕ) (wrong : Type 0) (ptr : Ptr) (sector : ℕ) (stated found : List ℕ) → IsToldOf images size wrong ptr sector stated found → IsToldOf more size wrong ptr sector stated found
  told_more size wrong ptr sector stated found told = record {
    sector_is = told.sector_is;
    stated_is = told.stated_is;
    found_is = ⊎_elim (λ has. inl (has.0, up has.0 has.1, has.2)) (λ alike. inr alike) told.found_is;
  }

  pub cell_more : (size : ℕ) (set : ObjSet) (sector : ℕ) (stated found : List ℕ) → IsDamagedCell images size set sector stated found → IsDamagedCell more size set sector stated found
  cell_more size set sector stated found (inl (inl damaged)) = inl (inl (IsDamagedSet-more images more up size set sector stated found damaged))
  cell_more size set sector stated found (inl (inr tree)) = inl (inr (record {
    dnode = tree.dnode;
    stands = StandsIn-more images more up set tree.dnode tree.stands;
    damaged = node_more size tree.dnode.levels tree.dnode.root sector stated found tree.damaged;
  }))
  cell_more size set sector stated found (inr (inl node)) = inr (inl (node_more size set.tree.levels set.tree.root sector stated found node))
  cell_more size set sector stated found (inr (inr none)) = inr (inr (record {
    dnode = none.dnode;
    stands = StandsIn-more images more up set none.dnode none.stands;
    ptr = none.ptr;
    hangs = HangsBelow-grows (MayHave images) (MayHave more) (MayHave-more images more up) none.dnode.levels none.dnode.root none.ptr none.hangs;
    no_hole = none.no_hole;
    no_data = none.no_data;
    unredacted = none.unredacted;
    sector_is = none.sector_is;
    stated_is = none.stated_is;
    found_is = none.found_is;
  }))

  data_more : (set : ObjSet) (ptr : Ptr) → IsDataOf images set ptr → IsDataOf more set ptr
  data_more set ptr is = record {
    dnode = is.dnode;
    stands = StandsIn-more images more up set is.dnode is.stands;
    hangs = HangsBelow-grows (MayHave images) (MayHave more) (MayHave-more images more up) is.dnode.levels is.dnode.root ptr is.hangs;
    is_data = is.is_data;
    length_is = is.length_is;
  }

  pub due_more : (size : ℕ) (due : DueItems) (sector : ℕ) (stated found : List ℕ) → IsDamagedDue images size due sector stated found → IsDamagedDue more size due sector stated found
  due_more size (Absent first count) sector stated found told = absurd told
  due_more size (Object k dnode) sector stated found told = absurd told
  due_more size (Spill k ptr tail) sector stated found told = told_more size ⊥ ptr sector stated found told
  due_more size (Tail k offset) sector stated found told = absurd told
  due_more size (Holes k offset length) sector stated found told = absurd told
  due_more size (Redacted k offset length) sector stated found told = absurd told
  due_more size (Block k type offset ptr) sector stated found told = told_more size (131072 < ptr.length) ptr sector stated found told

  pub payload_more : (size : ℕ) (payload : Payload) (sector : ℕ) (stated found : List ℕ) → IsDamagedPayload images size payload sector stated found → IsDamagedPayload more size payload sector stated found
  payload_more size payloads.Nothing sector stated found told = absurd told
  payload_more size (payloads.Bonus field count) sector stated found told = absurd told
  payload_more size (payloads.Block ptr) sector stated found told = told_more size ⊥ ptr sector stated found told

  pub send_more : (size : ℕ) (set : ObjSet) (sector : ℕ) (stated found : List ℕ) → IsDamagedSend images size set sector stated found → IsDamagedSend more size set sector stated found
  send_more size set sector stated found (inl cell) = inl (cell_more size set sector stated found cell)
  send_more size set sector stated found (inr (inl index)) = inr (inl (record {
    ptr = index.ptr;
    is = data_more set index.ptr index.is;
    damaged = told_more size ⊥ index.ptr sector stated found index.damaged;
  }))
  send_more size set sector stated found (inr (inr spill)) = inr (inr (record {
    dnode = spill.dnode;
    stands = StandsIn-more images more up set spill.dnode spill.stands;
    damaged = told_more size ⊥ spill.dnode.spill sector stated found spill.damaged;
  }))

  cell_stands : (set : ObjSet) (what : Cell) (ptr : Ptr) → CellStands images set what ptr → CellStands more set what ptr
  cell_stands set cells.Hole ptr stands = tt
  cell_stands set cells.Redacted ptr stands = tt
  cell_stands set cells.Data ptr stands = data_more set ptr stands

  pub found_more : (set : ObjSet) (next : WalkEntry) → FoundStands images set next → FoundStands more set next
  found_more set (found.Object number dnode) stands = StandsIn-more images more up set dnode stands
  found_more set (found.Gone first count) stands = tt
  found_more set (found.Pairs k first count what ptr) stands = cell_stands set what ptr stands

-- ---- what a send keeps

module _ (images : List ℕ → Type 0) (set : ObjSet) where
  -- what was found
  pub due_stands : (next : WalkEntry) (type size : ℕ) → FoundStands images set next → DueStands images set (due_of next type size)
  due_stands (found.Object number dnode) type size stands = stands
  due_stands (found.Gone first count) type size stands = tt
  due_stands (found.Pairs k first count cells.Hole ptr) type size stands = tt
  due_stands (found.Pairs k first count cells.Redacted ptr) type size stands = tt
  due_stands (found.Pairs k first count cells.Data ptr) type size stands = stands

  -- what is behind it
  opened_stands : (k : ℕ) (dnode : Dnode) → StandsIn images set dnode → (none : Bool) → DueStands images set (if none then Tail k (dnode.end * dnode.block_size) else Spill k dnode.spill (dnode.end * dnode.block_size))
  opened_stands k dnode stands true = tt
  opened_stands k dnode stands false = record { dnode = dnode; stands = stands; spill_is = refl }

  pub behind_stands : (due : DueItems) → DueStands images set due → IfSome (behind due) (DueStands images set)
  behind_stands (Absent first count) stands = tt
  behind_stands (Object k dnode) stands = opened_stands k dnode stands (dnode.spill.kind == 0)
  behind_stands (Spill k ptr tail) stands = tt
  behind_stands (Tail k offset) stands = tt
  behind_stands (Holes k offset length) stands = tt
  behind_stands (Redacted k offset length) stands = tt
  behind_stands (Block k type offset ptr) stands = tt

-- ---- what a send may tell

module _ (images : List ℕ → Type 0) (size : ℕ) (set : ObjSet) where
  -- data of an object that may stand in the set is as long as a block may be
  data_short : (ptr : Ptr) → IsDataOf images set ptr → ptr.length ≤ 131072
  data_short ptr block =
      let fits : DnodeFits block.dnode = block.stands.slot.fits in
      let most : block.dnode.block_size ≤ 131072 = size_most block.dnode.block_size fits.head.size in
      omega (arith, most, block.length_is)

  index_told : (ptr : Ptr) → IsDataOf images set ptr → (sector : ℕ) (stated found : List ℕ) → IsDamagedRead images size ptr sector stated found → IsDamagedSend images size set sector stated found
  index_told ptr block sector stated found told = inr (inl (record { ptr = ptr; is = block; damaged = told }))

  load_read : (ptr : Ptr) → IsDataOf images set ptr → (sector : ℕ) (stated found : List ℕ) → IsDamagedLoad images size ptr sector stated found → IsDamagedRead images size ptr sector stated found
  load_read ptr block = told_for images size ptr (131072 < ptr.length) ⊥ (λ long. omega (arith, long, data_short ptr block))

  spill_told : (ptr : Ptr) → IsSpillOf images set ptr → (sector : ℕ) (stated found : List ℕ) → IsDamagedRead images size ptr sector stated found → IsDamagedSend images size set sector stated found
  spill_told ptr spill sector stated found told = inr (inr (record {
    dnode = spill.dnode;
    stands = spill.stands;
    damaged = subst (λ (p : Ptr). IsDamagedRead images size p sector stated found) spill.spill_is told;
  }))

  pub due_told : (due : DueItems) → DueStands images set due → (sector : ℕ) (stated found : List ℕ) → IsDamagedDue images size due sector stated found → IsDamagedSend images size set sector stated found
  due_told (Absent first count) stands sector stated found told = absurd told
  due_told (Object k dnode) stands sector stated found told = absurd told
  due_told (Spill k ptr tail) stands sector stated found told = spill_told ptr stands sector stated found told
  due_told (Tail k offset) stands sector stated found told = absurd told
  due_told (Holes k offset length) stands sector stated found told = absurd told
  due_told (Redacted k offset length) stands sector stated found told = absurd told
  due_told (Block k type offset ptr) stands sector stated found told = index_told ptr stands sector stated found (load_read ptr stands sector stated found told)

  pub payload_told : (payload : Payload) → PayloadStands images set payload → (sector : ℕ) (stated found : List ℕ) → IsDamagedPayload images size payload sector stated found → IsDamagedSend images size set sector stated found
  payload_told payloads.Nothing stands sector stated found told = absurd told
  payload_told (payloads.Bonus field count) stands sector stated found told = absurd told
  payload_told (payloads.Block ptr) (inl block) sector stated found told = index_told ptr block sector stated found told
  payload_told (payloads.Block ptr) (inr spill) sector stated found told = spill_told ptr spill sector stated found told

  pub cell_told : (sector : ℕ) (stated found : List ℕ) → IsDamagedCell images size set sector stated found → IsDamagedSend images size set sector stated found
  cell_told sector stated found told = inl told

-- ---- images

-- what a read gives is among images that have it
pub seen_among : (images : List (List ℕ)) (seen : List ℕ) → Contains images seen → (image : List ℕ) → IsSeen seen image → IsAmong images image
seen_among images seen among image is = subst (λ (other : List ℕ). Contains images other) (sym is) among

-- it still is after a call that reads
pub among_on : (images : List (List ℕ)) (seen after : List ℕ) → after ≡ seen → Contains images seen → Contains images after
among_on images seen after same among = subst (λ (other : List ℕ). Contains images other) (sym same) among

-- a run names no block
pub run_stands : (images : List ℕ → Type 0) (set : ObjSet) (due : DueItems) → is_run due ≡ true → DueStands images set due
run_stands images set (Absent first count) run = tt
run_stands images set (Object k dnode) run = absurd (true≢false (sym run))
run_stands images set (Spill k ptr tail) run = absurd (true≢false (sym run))
run_stands images set (Tail k offset) run = tt
run_stands images set (Holes k offset length) run = tt
run_stands images set (Redacted k offset length) run = tt
run_stands images set (Block k type offset ptr) run = absurd (true≢false (sym run))

-- the block of what is due follows its record
pub follows_stands : (images : List ℕ → Type 0) (set : ObjSet) (due : DueItems) (payload : Payload) → DueStands images set due → HasBlockOf due payload → PayloadStands images set payload
follows_stands images set due payloads.Nothing stands has = tt
follows_stands images set due (payloads.Bonus field count) stands has = tt
follows_stands images set (Absent first count) (payloads.Block ptr) stands has = absurd (cc)
follows_stands images set (Object k dnode) (payloads.Block ptr) stands has = absurd (cc)
follows_stands images set (Spill k p tail) (payloads.Block ptr) stands has = let same : p ≡ ptr = cc in inr (subst (λ (q : Ptr). IsSpillOf images set q) same stands)
follows_stands images set (Tail k offset) (payloads.Block ptr) stands has = absurd (cc)
follows_stands images set (Holes k offset length) (payloads.Block ptr) stands has = absurd (cc)
follows_stands images set (Redacted k offset length) (payloads.Block ptr) stands has = absurd (cc)
follows_stands images set (Block k type offset p) (payloads.Block ptr) stands has = let same : p ≡ ptr = cc in inl (subst (λ (q : Ptr). IsDataOf images set q) same stands)

-- ---- what a call tells, told of the send

module _ (images : List (List ℕ)) (set : ObjSet) (seen : List ℕ) (size other : ℕ) (same : other ≡ size) (among : Contains images seen) where
  abbrev IsTold : DamageFact
  IsTold sector stated found = IsDamagedSend (IsAmong images) size set sector stated found

  at_size : (sector : ℕ) (stated found : List ℕ) → IsDamagedSend (IsAmong images) other set sector stated found → IsTold sector stated found
  at_size sector stated found told = subst (λ (n : ℕ). IsDamagedSend (IsAmong images) n set sector stated found) same told

  pub send_told : (fault : BlockFault) → IfDamage fault (IsDamagedSend (IsAmong images) other set) → IfDamage fault IsTold
  send_told fault told = IfDamage-weaker (IsDamagedSend (IsAmong images) other set) IsTold at_size fault told

  pub walk_told : (fault : BlockFault) → IfDamage fault (IsDamagedCell (IsSeen seen) other set) → IfDamage fault IsTold
  walk_told fault told = IfDamage-weaker (IsDamagedCell (IsSeen seen) other set) IsTold (λ sector stated found cell.
      at_size sector stated found (cell_told (IsAmong images) other set sector stated found (cell_more (IsSeen seen) (IsAmong images) (seen_among images seen among) other set sector stated found cell))) fault told

  pub put_told : (due : DueItems) → DueStands (IsAmong images) set due → (fault : BlockFault) → IfDamage fault (IsDamagedDue (IsSeen seen) other due) → IfDamage fault IsTold
  put_told due stands fault told = IfDamage-weaker (IsDamagedDue (IsSeen seen) other due) IsTold (λ sector stated found block.
      at_size sector stated found (due_told (IsAmong images) other set due stands sector stated found (due_more (IsSeen seen) (IsAmong images) (seen_among images seen among) other due sector stated found block))) fault told

  pub give_told : (payload : Payload) → PayloadStands (IsAmong images) set payload → (fault : BlockFault) → IfDamage fault (IsDamagedPayload (IsSeen seen) other payload) → IfDamage fault IsTold
  give_told payload stands fault told = IfDamage-weaker (IsDamagedPayload (IsSeen seen) other payload) IsTold (λ sector stated found block.
      at_size sector stated found (payload_told (IsAmong images) other set payload stands sector stated found (payload_more (IsSeen seen) (IsAmong images) (seen_among images seen among) other payload sector stated found block))) fault told
