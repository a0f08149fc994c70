-- What a step spends and spares, from what its run did.
use Rattle.std.specs.Prelude.{Result, Ok, Err, OnErr}
use Rattle.std.proofs.Common.{◌≡◌, ℕ, List, sym, ap, ◌∙◌, subst}
use Rattle.zst_outside.specs.Images.{DiskState, OnlyReads}
use Rattle.zst_space.specs.FreeSectors.{FreeSectors}
use Rattle.zst_block.specs.Blocks.{Has, KeepsBlocks, SparesTaken}
use Rattle.zst_block.proofs.BlocksLaws.{Has-spared, SparesTaken-same}
use Rattle.zst_image.specs.Bodies.{free_by}
use Rattle.zst_roots.specs.declared.held.HeldBlocks.{HeldBlocks}
use Rattle.zst_pool.specs.Cost.{Spends}
use Rattle.zst_pool.specs.CommandRuns.{as_kept}
use Rattle.zst_pool.specs.Reclaims.{Reclaims, SparesReached}
use Rattle.zst_pool.specs.declared.fault.PoolFault.{PoolFault}
use Rattle.zst_pool.specs.declared.fault.PoolFault.TheVariants.{DiskFault, Full}
use Rattle.zst_image.specs.declared.pool_state.PoolState.{PoolState}

module _ {T : Type 0} (cells block list : ℕ) (kept : PoolState) (left : FreeSectors) where
  -- a step that went well
  pub spends_ok : (next : PoolState) (reply : T) → Spends cells block list kept left as_kept (Ok next) → Spends cells block list kept left (λ value. next) (Ok reply)
  spends_ok next reply spends = record { full = tt; grows = spends.grows; directory = spends.directory }

  -- one that fell as its run did
  pub spends_err : (next : PoolState) (fault : PoolFault) (r : Result T PoolFault) → r ≡ Err fault → Spends cells block list kept left as_kept (Err fault) → Spends cells block list kept left (λ value. next) r
  spends_err next fault r same spends =
      let fell : Spends {T = T} cells block list kept left (λ value. next) (Err fault) = record { full = spends.full; grows = tt; directory = tt } in
      subst (Spends cells block list kept left (λ value. next)) (sym same) fell

  -- one that fell apart from E24
  pub spends_apart : (next : PoolState) (fault : PoolFault) (r : Result T PoolFault) → r ≡ Err fault → ((need largest : ℕ) → ¬ (fault ≡ Full need largest)) → Spends cells block list kept left (λ value. next) r
  spends_apart next fault r same apart =
      let fell : Spends {T = T} cells block list kept left (λ value. next) (Err fault) = record { full = λ need largest is. absurd (apart need largest is); grows = tt; directory = tt } in
      subst (Spends cells block list kept left (λ value. next)) (sym same) fell

-- what holds unless the disk failed does so of each answer with that fault
pub spares_err : {T : Type 0} (P : Type 0) (fault : PoolFault) (r : Result T PoolFault) → r ≡ Err fault → (¬ (◌≡◌ {A = Result PoolState PoolFault} (Err fault) (Err DiskFault)) → P) → ¬ (r ≡ Err DiskFault) → OnErr r P
spares_err {T = T} P fault r same spares apart =
    subst (λ (x : Result T PoolFault). OnErr x P) (sym same) (spares (λ is. let disk : fault ≡ DiskFault = cc in apart (same ∙ ap (λ (f : PoolFault). Err f) disk)))

-- free sectors alone were written, and what is kept stays: so do the blocks that were there
pub blocks_spared : (old new : List ℕ) (kept after : PoolState) → after ≡ kept → SparesTaken (free_by kept.body) old new → KeepsBlocks old (free_by kept.body) new (free_by after.body)
blocks_spared old new kept after same spares = λ ptr bytes has. subst (λ (k : PoolState). Has new (free_by k.body) ptr bytes) (sym same) (Has-spared (free_by kept.body) old new ptr bytes spares has)

-- so it is where a step fell with this fault, unless the disk failed
pub blocks_err : {T : Type 0} (old new : List ℕ) (kept after : PoolState) (fault : PoolFault) (r : Result T PoolFault) → r ≡ Err fault → after ≡ kept
    → (¬ (◌≡◌ {A = Result PoolState PoolFault} (Err fault) (Err DiskFault)) → SparesTaken (free_by kept.body) old new) → ¬ (r ≡ Err DiskFault) → KeepsBlocks old (free_by kept.body) new (free_by after.body)
blocks_err old new kept after fault r same stays spares apart =
    blocks_spared old new kept after stays (spares (λ is. let disk : fault ≡ DiskFault = cc in apart (same ∙ ap (λ (f : PoolFault). Err f) disk)))

-- so does what the rows reach, and what sessions hold
pub spared_still : (held : List HeldBlocks) (old new : DiskState) (kept : PoolState) → SparesTaken (free_by kept.body) old.seen new.seen → SparesReached held old new kept kept
spared_still held old new kept spares = record {
  over = free_by kept.body;
  more = λ sector free. free;
  unreached = λ sector reached free. free;
  blocks = λ ptr bytes has. Has-spared (free_by kept.body) old.seen new.seen ptr bytes spares has;
}

-- a reclaim that only read before it fell, and not for want of room
pub reclaims_idle : {T : Type 0} (held : List HeldBlocks) (old new : DiskState) (before after : PoolState) (left : FreeSectors) (fault : PoolFault) (r : Result T PoolFault) → r ≡ Err fault → OnlyReads old new → ((need largest : ℕ) → ¬ (fault ≡ Full need largest))
    → Reclaims held old new before after left r
reclaims_idle {T = T} held old new before after left fault r same reads apart =
    let fell : Reclaims {T = T} held old new before after left (Err fault) = record {
      done = tt;
      full = λ need largest is. absurd (apart need largest is);
      spares = λ not space are. subst (λ (seen : List ℕ). SparesTaken space old.seen seen) (sym reads.seen) (SparesTaken-same space old.seen);
    } in
    subst (Reclaims held old new before after left) (sym same) fell

-- one that answers its number, or falls as its run did
pub reclaims_ok : {T U : Type 0} (held : List HeldBlocks) (old new : DiskState) (before after : PoolState) (left : FreeSectors) (value : T) (reply : U) → Reclaims held old new before after left (Ok value) → Reclaims held old new before after left (Ok reply)
reclaims_ok held old new before after left value reply is = record { done = is.done; full = tt; spares = λ apart. tt }

pub reclaims_err : {T U : Type 0} (held : List HeldBlocks) (old new : DiskState) (before after : PoolState) (left : FreeSectors) (fault : PoolFault) (r : Result U PoolFault) → r ≡ Err fault → Reclaims {T = T} held old new before after left (Err fault) → Reclaims held old new before after left r
reclaims_err {T = T} {U = U} held old new before after left fault r same is =
    let fell : Reclaims {T = U} held old new before after left (Err fault) = record {
      done = tt;
      full = is.full;
      spares = λ apart. is.spares (λ of. let disk : fault ≡ DiskFault = cc in apart (ap (λ (f : PoolFault). Err f) disk));
    } in
    subst (Reclaims held old new before after left) (sym same) fell
