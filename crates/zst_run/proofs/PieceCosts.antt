-- Where a piece found no room.
use Rattle.std.specs.List.{concat}
use Rattle.std.proofs.Common.{◌≡◌, ℕ, ◌+◌, ◌*◌, ◌<◌, ◌≤◌, List, [], ◌∷◌, ◌++◌, length, drop, refl, sym, ap, subst, arith, append_assoc, length-append}
use Rattle.std.proofs.lemmas.List.{append-nil}
use Rattle.zst_dir.specs.Spelling.{dir_bytes}
use Rattle.zst_block.proofs.TakenSectors.{takes_more, takes_none, takes_then, takes_wider}
use Rattle.zst_image.specs.Bodies.{free_by}
use Rattle.zst_image.specs.Commits.{commit_sectors}
use Rattle.zst_space.specs.FreeSectors.{FreeSectors, largest_of}
use Rattle.zst_image.specs.declared.pool_state.PoolState.{PoolState}
use Rattle.zst_reader.specs.StandsFor.{HandsOut}
use Rattle.zst_reader.specs.declared.reader.Reader.{Reader}
use Rattle.zst_record.specs.Heads.{Covered}
use Rattle.zst_stream.specs.Reading.{Reading, reading, waiting}
use Rattle.zst_recv.specs.Costs.{PieceGrows, PieceIsShort, piece_cost, records_behind, records_cost}
use Rattle.zst_recv.specs.Feeds.{new_records}
use Rattle.zst_recv.specs.declared.recv.Recv.{Recv}
use Rattle.zst_run.specs.Receives.{CostMore, GrewBy, PiecesFindNoRoom, pieces_cost}
use Rattle.zst_run.specs.ReceiveTurns.{HasHanded}
use Rattle.zst_pool.proofs.Room.{commit-more}
use Rattle.zst_pool.proofs.TakenSectors.{fewer_extents}

-- a piece behind a text did, over what the pool kept, and the body is as it was
pub record IsShortBehind (kept kept' : PoolState) (text piece : List ℕ) (need largest : ℕ) : Type 0 where
  pub stays : kept'.body ≡ kept.body
  pub left : FreeSectors
  pub short : PieceIsShort (new_records text piece) kept left need largest

-- what was handed out was all that the text covered
pub short_behind : (reader : Reader) (text piece : List ℕ) (handed : List Covered) (kept kept' : PoolState) (left : FreeSectors) (need largest : ℕ) → HandsOut reader text handed waiting → kept'.body ≡ kept.body
    → PieceIsShort (records_behind handed (text ++ piece)) kept left need largest → IsShortBehind kept kept' text piece need largest
short_behind reader text piece handed kept kept' left need largest hands stays short = record {
  stays = stays;
  left = left;
  short =
      let covered : (reading text).covered ≡ handed = ap (λ (r : Reading). r.covered) hands.whole in
      let same : new_records text piece ≡ records_behind handed (text ++ piece) = ap (λ (cs : List Covered). drop (length cs) (reading (text ++ piece)).covered) covered in
      subst (λ (cs : List Covered). PieceIsShort cs kept left need largest) (sym same) short;
}

-- ---- pieces one after another

covered_is : (recv : Recv) (text piece : List ℕ) (has : HasHanded recv text) → new_records text piece ≡ records_behind has.0 (text ++ piece)
covered_is recv text piece has = ap (λ (cs : List Covered). drop (length cs) (reading (text ++ piece)).covered) (ap (λ (r : Reading). r.covered) has.1.whole)

-- what a feed says by what was handed out
pub grows_behind : (recv : Recv) (text piece : List ℕ) (kept kept' : PoolState) → (has : HasHanded recv text) → PieceGrows (records_behind has.0 (text ++ piece)) kept kept' → PieceGrows (new_records text piece) kept kept'
grows_behind recv text piece kept kept' has grows = subst (λ (cs : List Covered). PieceGrows cs kept kept') (sym (covered_is recv text piece has)) grows

-- one piece more costs what it does behind the others
cost_one : (count extents : ℕ) (text : List ℕ) (pieces : List (List ℕ)) (piece : List ℕ)
    → pieces_cost count extents text (pieces ++ piece ∷ [])
    ≡ pieces_cost count extents text pieces + (records_cost (new_records (text ++ concat pieces) piece) + commit_sectors (count + 2048 * length pieces + 2048) extents)
unfolding pieces_cost
cost_one count extents text [] piece =
    let none : text ++ concat [] ≡ text = append-nil text in
    let same : records_cost (new_records (text ++ concat []) piece) ≡ records_cost (new_records text piece) = ap (λ (t : List ℕ). records_cost (new_records t piece)) none in
    omega (arith, same)
cost_one count extents text (first ∷ rest) piece =
    let again = cost_one (count + 2048) extents (text ++ first) rest piece in
    let same : records_cost (new_records ((text ++ first) ++ concat rest) piece) ≡ records_cost (new_records (text ++ (first ++ concat rest)) piece) =
    ap (λ (t : List ℕ). records_cost (new_records t piece)) (append_assoc text first (concat rest)) in
    let size : count + 2048 + 2048 * length rest + 2048 ≡ count + 2048 * length (first ∷ rest) + 2048 = omega arith in
    let dir : commit_sectors (count + 2048 + 2048 * length rest + 2048) extents ≡ commit_sectors (count + 2048 * length (first ∷ rest) + 2048) extents = ap (λ (n : ℕ). commit_sectors n extents) size in
    omega (arith, again, same, dir)

-- it costs no more than it does in a directory of as many bytes as there may be
cost_within : (first kept : PoolState) (pieces : List (List ℕ)) (piece : List ℕ) → GrewBy first kept pieces
    → pieces_cost (length (dir_bytes first.dir)) (length first.body.free) [] pieces + piece_cost (new_records (concat pieces) piece) kept
    ≤ pieces_cost (length (dir_bytes first.dir)) (length first.body.free) [] (pieces ++ piece ∷ [])
cost_within first kept pieces piece grew =
    let one = cost_one (length (dir_bytes first.dir)) (length first.body.free) [] pieces piece in
    let dir =
    commit-more (length (dir_bytes kept.dir) + 2048) (length (dir_bytes first.dir) + 2048 * length pieces + 2048) (length kept.body.free) (length first.body.free)
    (let d = grew.directory in omega (arith, d)) (fewer_extents grew.takes) in
    omega (arith, one, dir)

pub grew_none : (first : PoolState) → GrewBy first first []
unfolding pieces_cost
grew_none first = record { directory = omega arith; takes = takes_none (free_by first.body) }

pub grew_more : (first kept kept' : PoolState) (pieces : List (List ℕ)) (piece : List ℕ) → GrewBy first kept pieces → PieceGrows (new_records (concat pieces) piece) kept kept' → GrewBy first kept' (pieces ++ piece ∷ [])
grew_more first kept kept' pieces piece grew grows =
    let within = cost_within first kept pieces piece grew in
    let long = length-append pieces (piece ∷ []) in
    record {
      directory = let d = grew.directory in let e = grows.directory in omega (arith, d, e, long);
      takes =
          takes_more (pieces_cost (length (dir_bytes first.dir)) (length first.body.free) [] pieces + piece_cost (new_records (concat pieces) piece) kept)
          (pieces_cost (length (dir_bytes first.dir)) (length first.body.free) [] (pieces ++ piece ∷ [])) (free_by first.body) (free_by kept'.body) within
          (takes_then (free_by first.body) (free_by kept.body) (free_by kept'.body) grew.takes (takes_wider (free_by kept.body) (free_by kept'.body) (λ count is. tt) grows.takes));
    }

costs_more : (first kept : PoolState) (pieces : List (List ℕ)) (piece : List ℕ) → GrewBy first kept pieces → largest_of (free_by kept.body) < piece_cost (new_records (concat pieces) piece) kept → CostMore first (pieces ++ piece ∷ [])
costs_more first kept pieces piece grew short =
    let within = cost_within first kept pieces piece grew in
    omega (arith, grew.takes.longest, within, short)

-- where one piece more found no room, all cost more than was free
pub short_pieces : (first kept : PoolState) (pieces : List (List ℕ)) (piece : List ℕ) (left : FreeSectors) (need largest : ℕ) → GrewBy first kept pieces
    → PieceIsShort (new_records (concat pieces) piece) kept left need largest → PiecesFindNoRoom first (pieces ++ piece ∷ []) need largest
short_pieces first kept pieces piece left need largest grew short = record {
  cost = costs_more first kept pieces piece grew short.room;
  before = pieces;
  last = piece;
  are = refl;
  kept = kept;
  grew = grew;
  left = left;
  short = short;
}
