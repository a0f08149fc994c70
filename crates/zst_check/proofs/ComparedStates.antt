-- What comes of comparing the set of a state with that of the snapshot at a place.
use Rattle.std.proofs.Common.{◌≡◌, inl, inr, ℕ, ◌+◌, ◌<◌, ◌≤◌, List, [], length, Some, None, HoldsAt, sym, ap, ◌∙◌, subst, arith}
use Rattle.std.proofs.lemmas.List.{get_or_past}
use Rattle.zst_block.specs.Blocks.{Has}
use Rattle.zst_block.specs.IoCalls.{Looks}
use Rattle.zst_block.specs.IoStates.{IoState}
use Rattle.zst_compare.specs.Agreement.{AgreesUpTo, DiffersAt}
use Rattle.zst_compare.specs.declared.difference.Difference.{Difference}
use Rattle.zst_compare.proofs.Agreement.{agrees_with}
use Rattle.zst_dir.specs.Rows.{Rows}
use Rattle.zst_dir.specs.declared.rows.Snapshot.{Snapshot}
use Rattle.zst_image.specs.Reads.{RunsBy, SnapshotIs}
use Rattle.zst_laws.specs.NearestSnapshots.{AgreesWithNearest, IsNearest}
use Rattle.zst_model.specs.pools.Ancestry.{InDataset}
use Rattle.zst_model.specs.pools.Pool.{Pool, untouched}
use Rattle.zst_model.specs.pools.Pool as plain
use Rattle.zst_model.specs.pools.Rows.{Row, rows}
use Rattle.zst_model.specs.pools.Soundness.{Agrees}
use Rattle.zst_model.specs.states.DatedState.{DatedState}
use Rattle.zst_objset.specs.Sets.{SetHolds}
use Rattle.zst_objset.proofs.LeafLaws.{look_on}
use Rattle.zst_space.specs.FreeSectors.{FreeSectors}
use Rattle.zst_tree.specs.Indices.{Blocks}
use Rattle.zst_check.specs.FailingPlaces.{IsOther, Differs}
use Rattle.zst_check.specs.Findings.{StandsAtPlace, StandsFor, name_of}
use Rattle.zst_check.specs.declared.states.State.{State}
use Rattle.zst_check.proofs.DecidedStates.{number_differs, index_differs}
use Rattle.zst_check.proofs.StatePlaces.{StandsOpposite, opposite}

-- a place where a comparison finds two states to differ is one where the later has another content or another date
is_other : (earlier : plain.Snapshot) (later : DatedState) (place : Difference) → DiffersAt earlier.number earlier.objects later place → IsOther earlier later place.object place.block
is_other earlier later place (is, inl (block, other)) = inl (block, number_differs earlier later place.object other.dated other.other)
is_other earlier later place (is, inr (small, other)) = inr (small, index_differs earlier later place.object place.block other.dated other.other)

-- one snapshot at most stands at a place, and none behind the last
one_at : (snapshots : List plain.Snapshot) (place : ℕ) (one other : plain.Snapshot) → StandsAtPlace snapshots (Some place) one → StandsAtPlace snapshots (Some place) other → one ≡ other
one_at snapshots place one other first second = sym (first one) ∙ second one

pub none_behind : (snapshots : List plain.Snapshot) (place : ℕ) (snapshot : plain.Snapshot) → length snapshots ≤ place → StandsAtPlace snapshots (Some place) snapshot → ⊥
none_behind snapshots place snapshot past at =
    let more : plain.Snapshot = record snapshot { number = snapshot.number + 1 } in
    let same = ap (λ (s : plain.Snapshot). s.number) (sym (get_or_past snapshots place more past) ∙ at more) in omega (arith, same)

module _ (has : Blocks) (dir : Rows) (pool : Pool) (runs : RunsBy None has dir pool) (place : ℕ) (row : Snapshot) (under : place < length dir.snapshots) (at : HoldsAt (λ r. row ≡ r) dir.snapshots place) where
  -- a row holds the objects of the snapshot at its place, whose name and number it has
  snapshot_opposite : StandsOpposite (SnapshotIs None has) pool.snapshots place row
  snapshot_opposite = opposite (SnapshotIs None has) dir.snapshots pool.snapshots place row runs.snapshots under at

  -- a state with which a comparison of the row's objects finds nothing agrees with that snapshot
  pub agrees_at : (later : DatedState) → ((was : DatedState) → SetHolds has row.objects was → AgreesUpTo row.number was later) → (earlier : plain.Snapshot) → StandsAtPlace pool.snapshots (Some place) earlier → Agrees earlier later
  agrees_at later agrees earlier here =
      let found = snapshot_opposite in
      subst (λ (s : plain.Snapshot). Agrees s later) (one_at pool.snapshots place found.other earlier found.at here)
      (agrees_with found.other later (subst (λ (n : ℕ). AgreesUpTo n found.other.objects later) (sym found.is.named.number) (agrees found.other.objects found.is.objects)))

  -- what it finds otherwise is a place at which part 1 fails, where the snapshot is a nearest one
  pub differs_at : (state : State) (later : Row) (difference : Difference) → StandsFor has pool state later
      → ((was : DatedState) → SetHolds has row.objects was → DiffersAt row.number was later.objects difference)
      → ((earlier : plain.Snapshot) → StandsAtPlace pool.snapshots (Some place) earlier → IsNearest pool earlier later.place)
      → Differs pool row.name (name_of state) difference.object difference.block
  differs_at state later difference stands differs nearest =
      let found = snapshot_opposite in
      let other : DiffersAt found.other.number found.other.objects later.objects difference =
      subst (λ (n : ℕ). DiffersAt n found.other.objects later.objects difference) (sym found.is.named.number) (differs found.other.objects found.is.objects) in
      record {
        snapshot = found.other;
        state = later;
        nearest = nearest found.other found.at;
        snapshot_named = found.is.named.name;
        state_named = stands.named;
        number = other.0;
        differs = is_other found.other later.objects difference other;
      }

  -- no damage is told where the pool's rows stand
  pub undamaged_at : (told : Type 0) → ((was : DatedState) → SetHolds has row.objects was → told) → told
  undamaged_at told undamaged = let found = snapshot_opposite in undamaged found.other.objects found.is.objects

-- this row agrees with each snapshot that is nearest before it
abbrev pub AgreesNearest : Pool → Row → Type 0
AgreesNearest pool row = (earlier : plain.Snapshot) → IsNearest pool earlier row.place → Agrees earlier row.objects

-- so does each row at a place before this one
abbrev pub AgreeBelow : Pool → ℕ → Type 0
AgreeBelow pool place = (k : ℕ) → k < place → HoldsAt (AgreesNearest pool) (rows pool) k

-- where those are all rows each agrees
pub all_agree : (pool : Pool) (place : ℕ) → AgreeBelow pool place → length (rows pool) ≤ place → AgreesWithNearest pool
all_agree pool place below past earlier later there near =
    let here = there.2 in
    let agrees = subst (λ (row : Row). AgreesNearest pool row) here (below there.0 (let less = there.1 in omega (arith, less, past)) later) in agrees earlier near

-- a row, whichever
pub some_row : Row
some_row = record { place = InDataset [] None; number = 0; objects = untouched }

-- what a state stands for it stands for where calls have only read since
pub stand_on : (dir : Rows) (pool : Pool) (state : State) (row : Row) {old new : IoState} → Looks old new None → RunsBy None (Has old.disk.seen old.space) dir pool → StandsFor (Has old.disk.seen old.space) pool state row
    → RunsBy None (Has new.disk.seen new.space) dir pool × StandsFor (Has new.disk.seen new.space) pool state row
stand_on dir pool state row looks runs stands = (
  look_on {stop = None} (λ (seen : List ℕ) (space : FreeSectors). RunsBy None (Has seen space) dir pool) looks runs,
  look_on {stop = None} (λ (seen : List ℕ) (space : FreeSectors). StandsFor (Has seen space) pool state row) looks stands,
)
