-- What the records of a piece spend, one after another, and with the commit.
use Rattle.std.proofs.Common.{◌≡◌, ◌⊎◌, inl, inr, ℕ, ◌+◌, ◌<◌, true, false, List, [], ◌∷◌, ◌++◌, length, drop, refl, sym, ap, ◌∙◌, subst, arith, append_assoc}
use Rattle.std.specs.Prelude.{Option, Some, None, Err}
use Rattle.std.proofs.Math.Seq.{drop-append_seam}
use Rattle.std.proofs.lemmas.List.Sums.{sum_by-append}
use Rattle.zst_space.specs.FreeSectors.{FreeSectors, largest_of}
use Rattle.zst_block.specs.IoCalls.{TakesAtMost, Works}
use Rattle.zst_block.specs.IoStates.{IoState}
use Rattle.zst_block.specs.declared.fault.BlockFault.{BlockFault}
use Rattle.zst_block.specs.declared.fault.BlockFault.TheVariants as blocks
use Rattle.zst_block.proofs.TakenSectors.{of_tree, takes_more, takes_none, takes_then, takes_wider}
use Rattle.zst_dir.specs.Spelling.{dir_bytes}
use Rattle.zst_image.specs.Bodies.{free_by}
use Rattle.zst_image.specs.Commits.{commit_sectors}
use Rattle.zst_image.specs.declared.pool_state.PoolState.{PoolState}
use Rattle.zst_objset.specs.declared.fault.ObjFault.{ObjFault}
use Rattle.zst_objset.specs.declared.fault.ObjFault.TheVariants as sets
use Rattle.zst_objset.specs.Answers as objset
use Rattle.zst_pool.specs.Calls.{CallGrows, IsCallFull}
use Rattle.zst_pool.proofs.Room.{commit-more}
use Rattle.zst_pool.proofs.TakenSectors.{fewer_extents}
use Rattle.zst_reader.specs.StandsFor.{StandsFor}
use Rattle.zst_reader.specs.declared.reader.Reader.{Reader}
use Rattle.zst_record.specs.Heads.{Covered}
use Rattle.zst_stream.specs.Reading.{reading}
use Rattle.zst_apply.specs.Costs.{record_block, record_cost}
use Rattle.zst_recv.specs.Costs.{IsNeeded, PieceGrows, PieceIsShort, Spends, piece_cost, records_behind, records_cost}
use Rattle.zst_recv.specs.Faults.{keeps_before, of_record, stop_at}
use Rattle.zst_recv.specs.declared.fault.RecvFault.{RecvFault}
use Rattle.zst_recv.specs.declared.fault.RecvFault.TheVariants as faults
use Rattle.zst_pool.specs.declared.fault.PoolFault.{PoolFault}
use Rattle.zst_pool.specs.declared.fault.PoolFault.TheVariants as pools

-- ---- sectors that are taken

-- ---- what is needed

needed_behind : (need : ℕ) (records more : List Covered) → IsNeeded need more → IsNeeded need (records ++ more)
needed_behind need [] more is = is
needed_behind need (c ∷ records) more is = inr (needed_behind need records more is)

pub needed_none : (need : ℕ) (records : List Covered) → need ≡ 16 → IsNeeded need records
needed_none need [] is = is
needed_none need (c ∷ records) is = inr (needed_none need records is)

needed_before : (need : ℕ) (records more : List Covered) → IsNeeded need records → IsNeeded need (records ++ more)
needed_before need [] more is = needed_none need more is
needed_before need (c ∷ records) more (inl is) = inl is
needed_before need (c ∷ records) more (inr is) = inr (needed_before need records more is)

-- ---- what is spent

-- nothing
pub spends_idle : (records : List Covered) (space : FreeSectors) (stop : Option BlockFault) → stop ≡ None → Spends records space space stop
spends_idle records space stop none = record {
  takes = takes_none space;
  before = λ need largest is. absurd (let both = sym none ∙ is in cc);
  needed = λ need largest is. absurd (let both = sym none ∙ is in cc);
}

-- by one record that was applied
pub spends_one : (c : Covered) {old new : IoState} {stop : Option BlockFault} → Works (record_cost c.head) (record_block c.head) old new stop → Spends (c ∷ []) old.space new.space stop
spends_one c {old} {new} works = record {
  takes = takes_more (record_cost c.head) (records_cost (c ∷ [])) old.space new.space (omega arith) (takes_wider old.space new.space either works.takes);
  before = λ need largest is. let full = works.full need largest is in omega (arith, full.before);
  needed = λ need largest is. either need (let full = works.full need largest is in full.needed);
}
  where
    either : (need : ℕ) → (need ≡ 16) ⊎ (need ≡ record_block c.head) → IsNeeded need (c ∷ [])
    either need (inl is) = inr is
    either need (inr is) = inl is

-- by more records
pub spends_then : (records more : List Covered) (old mid new : FreeSectors) (stop : Option BlockFault) → Spends records old mid None → Spends more mid new stop → Spends (records ++ more) old new stop
spends_then records more old mid new stop first second =
    let all = sum_by-append (λ (c : Covered). record_cost c.head) records more in
    record {
      takes = takes_more (records_cost records + records_cost more) (records_cost (records ++ more)) old new (omega (arith, all))
          (takes_then old mid new (takes_wider old mid (λ count is. needed_before count records more is) first.takes) (takes_wider mid new (λ count is. needed_behind count records more is) second.takes));
      before = λ need largest is. omega (arith, all, second.before need largest is, first.takes.longest);
      needed = λ need largest is. needed_behind need records more (second.needed need largest is);
    }

-- and no more by all records of which they are the front
pub spends_front : (records more : List Covered) (old new : FreeSectors) (stop : Option BlockFault) → Spends records old new stop → Spends (records ++ more) old new stop
spends_front records more old new stop spends =
    let all = sum_by-append (λ (c : Covered). record_cost c.head) records more in
    record {
      takes = takes_more (records_cost records) (records_cost (records ++ more)) old new (omega (arith, all)) (takes_wider old new (λ count is. needed_before count records more is) spends.takes);
      before = λ need largest is. omega (arith, all, spends.before need largest is);
      needed = λ need largest is. needed_before need records more (spends.needed need largest is);
    }

-- ---- of a text

-- the records that a reader handed out of a front of a text are the first of those that it covers
pub spends_whole : (reader : Reader) (whole read rest : List ℕ) (handed records : List Covered) (old new : FreeSectors) (stop : Option BlockFault) → whole ≡ read ++ rest
    → StandsFor reader read (handed ++ records) → Spends records old new stop → Spends (records_behind handed whole) old new stop
spends_whole reader whole read rest handed records old new stop is stands spends =
    let f = stands.front rest in
    let covered : (reading whole).covered ≡ handed ++ (records ++ f.0) = ap (λ (t : List ℕ). (reading t).covered) is ∙ f.1 ∙ append_assoc handed records f.0 in
    let behind : records_behind handed whole ≡ records ++ f.0 = ap (λ (cs : List Covered). drop (length handed) cs) covered ∙ drop-append_seam handed (records ++ f.0) in
    subst (λ (cs : List Covered). Spends cs old new stop) (sym behind) (spends_front records f.0 old new stop spends)

-- more of them were handed out
pub spent_then : (reader : Reader) (text : List ℕ) (handed records : List Covered) (old mid new : FreeSectors) (stop : Option BlockFault) → Spends records old mid None
    → (more : List Covered) × StandsFor reader text ((handed ++ records) ++ more) × Spends more mid new stop → (all : List Covered) × StandsFor reader text (handed ++ all) × Spends all old new stop
spent_then reader text handed records old mid new stop first spent = (
  records ++ spent.0,
  subst (StandsFor reader text) (append_assoc handed records spent.0) spent.1,
  spends_then records spent.0 old mid new stop first spent.2,
)

-- ---- faults

-- the fault of a record stops at the block's
pub stop_same : (index : ℕ) (fault : ObjFault) → stop_at (of_record index fault) ≡ objset.stop_of {T = Unit {0}} (Err fault)
stop_same index (sets.CannotApply fault) = refl
stop_same index (sets.Redacted object block) = refl
stop_same index (sets.Limit which number) = refl
stop_same index (sets.Block (blocks.Full need largest)) = refl
stop_same index (sets.Block (blocks.Damaged sector stated found)) = refl
stop_same index (sets.Block blocks.DiskFault) = refl

-- ---- a piece

-- a record found no room
pub short_read : (records : List Covered) (kept : PoolState) (left : FreeSectors) (stop : Option BlockFault) (need largest : ℕ) → stop ≡ Some (blocks.Full need largest) → largest < need → largest ≡ largest_of left
    → Spends records (free_by kept.body) left stop → PieceIsShort records kept left need largest
short_read records kept left stop need largest is shorter longest spends = record {
  taken = takes_more (records_cost records) (piece_cost records kept) (free_by kept.body) left (omega arith) spends.takes;
  shorter = shorter;
  needed = spends.needed need largest is;
  is_longest = longest;
  room = omega (arith, spends.before need largest is);
}

-- the directory found none
pub short_put : (records : List Covered) (kept : PoolState) (mid left : FreeSectors) (stop : Option BlockFault) (need largest : ℕ) → Spends records (free_by kept.body) mid stop
    → IsCallFull mid left kept.dir need largest → PieceIsShort records kept left need largest
short_put records kept mid left stop need largest spends full = record {
  taken =
      let fewer = commit-more (length (dir_bytes kept.dir) + 2048) (length (dir_bytes kept.dir) + 2048) (length mid.free) (length kept.body.free) (omega arith) (fewer_extents spends.takes) in
      takes_more (records_cost records + commit_sectors (length (dir_bytes kept.dir) + 2048) (length mid.free)) (piece_cost records kept) (free_by kept.body) left (omega (arith, fewer))
      (takes_then (free_by kept.body) mid left spends.takes (takes_wider mid left (λ count is. needed_none count records (of_tree is)) full.taken));
  shorter = full.shorter;
  needed = needed_none need records full.needed;
  is_longest = full.is_longest;
  room =
      let fewer = commit-more (length (dir_bytes kept.dir) + 2048) (length (dir_bytes kept.dir) + 2048) (length mid.free) (length kept.body.free) (omega arith) (fewer_extents spends.takes) in
      omega (arith, spends.takes.longest, full.before, fewer);
}

-- a fault of the pool is that fault
pub same_pool : (one other : PoolFault) → faults.Pool one ≡ faults.Pool other → one ≡ other
same_pool one other is = cc

-- a full disk keeps no records before it
pub full_keeps_none : (fault : RecvFault) (need largest : ℕ) → keeps_before fault ≡ true → fault ≡ faults.Pool (pools.Full need largest) → ⊥
full_keeps_none fault need largest keeps is = let none : keeps_before fault ≡ false = ap keeps_before is in let both : true ≡ false = sym keeps ∙ none in cc

-- ---- what is committed

-- a commit behind the records, or none
pub piece_grows : (records : List Covered) (kept after : PoolState) (space : FreeSectors) → TakesAtMost (records_cost records) (λ count. IsNeeded count records) (free_by kept.body) space
    → (after ≡ kept) ⊎ CallGrows space kept after → PieceGrows records kept after
piece_grows records kept after space takes (inl same) = subst (PieceGrows records kept) (sym same) (record { directory = omega arith; takes = takes_none (free_by kept.body) })
piece_grows records kept after space takes (inr grows) =
    let fewer = commit-more (length (dir_bytes kept.dir) + 2048) (length (dir_bytes kept.dir) + 2048) (length space.free) (length kept.body.free) (omega arith) (fewer_extents takes) in
    record {
      directory = grows.directory;
      takes =
          takes_more (records_cost records + commit_sectors (length (dir_bytes kept.dir) + 2048) (length space.free)) (piece_cost records kept) (free_by kept.body) (free_by after.body) (omega (arith, fewer))
          (takes_then (free_by kept.body) space (free_by after.body) takes (takes_wider space (free_by after.body) (λ count is. needed_none count records (of_tree is)) grows.takes));
    }
