-- A take of bytes of the send at a place of the engine, on either of its pools.
use Rattle.std.proofs.Common.{◌≡◌, ◌||◌, ◌≤◌, ℕ, Bool, true, false, List, length, get_or, set, take, Ok, Err, inl, inr, refl, sym, ap, ◌∙◌, subst, arith}
use Rattle.std.specs.Prelude.{IfOk, OnOk, Option, Result}
use Rattle.std.specs.Vec.{with_item, with_items}
use Rattle.std.proofs.lemmas.List.{length-take, with_items_is}
use Rattle.std.proofs.lemmas.List.Elements.{All-set}
use Rattle.zst_outside.specs.Causes.{Rose}
use Rattle.zst_outside.specs.declared.disk.Disk.{Ghosts}
use Rattle.zst_block.specs.Blocks.{Has}
use Rattle.zst_block.specs.IoCalls.{fails}
use Rattle.zst_block.specs.IoStates.{IsHonest, disk_of}
use Rattle.zst_block.specs.declared.fault.BlockFault.{BlockFault}
use Rattle.zst_image.specs.Bodies.{free_by}
use Rattle.zst_model.specs.declared.refusals.refusal.Refusal.TheVariants as refusals
use Rattle.zst_model.specs.declared.sends.header.Point.{Point}
use Rattle.zst_model.specs.sends.Headers.{Sent}
use Rattle.zst_pool.specs.Queries.{stop_of}
use Rattle.zst_pool.specs.declared.fault.PoolFault.{PoolFault}
use Rattle.zst_pool.specs.declared.pool.Pool.{Pool}
use Rattle.zst_script.specs.declared.event.Side.TheVariants.{Here, There}
use Rattle.zst_send.specs.Sends.{SendFits, SendsFrom}
use Rattle.zst_send.specs.declared.send.Send.{Send}
use Rattle.zst_sessions.proofs.PoolRefusals.{answer_of_disk, answer_of_failed, answer_of_full, refused, refused_gives}
use Rattle.zst_sessions.proofs.ReadPools.{fit_read, looked_at, looked_later, read_none}
use Rattle.zst_sessions.proofs.SparedBlocks.{fell_as, still_works}
use Rattle.zst_sessions.proofs.TakenBytes.{PieceTaken, takes_on}
use Rattle.zst_sessions.proofs.UnmovedEngines.{stays_later}
use Rattle.zst_sessions.specs.EngineSteps.{EngineFits, SessionsFit, kept_pool, piece_limit}
use Rattle.zst_sessions.specs.Engines.{Kept}
use Rattle.zst_sessions.specs.Takes.{GaveOrStarved, LooksAtPool, Takes, TakesAt}
use Rattle.zst_sessions.specs.declared.engine.Engine.{Engine}
use Rattle.zst_sessions.specs.declared.open_sessions.OpenSend as kept_sends

-- ---- one pool

module _ {D : Type 0} {g : Ghosts D} where
  -- What a take of at most so many bytes of a send of this pool did, and what it put in front.
  pub record PoolTook (count : ℕ) (old new : Pool D g) (one after : Send) (front : List ℕ) (result : Result ℕ PoolFault) : Type 0 where
    pub takes : (sent : Sent) (start : Option Point) (given left : List ℕ) → IsHonest new.io → old.io.failed ≡ false
        → SendsFrom (Has (disk_of old.io).seen (free_by old.kept.body)) one sent start given left → GaveOrStarved (Has (disk_of new.io).seen (free_by new.kept.body)) one after sent start given left (take count front) result
    pub idle : old.io.failed ≡ true → after ≡ one
    pub within : IfOk result (λ taken. taken ≤ count)
    pub send : SendFits after
    pub pool : LooksAtPool old new result

  module _ (count : ℕ) (old new : Pool D g) (one after : Send) (front : List ℕ) (result : Result ℕ PoolFault) (took : PoolTook count old new one after front result) where
    -- where its disk reads as it should
    pub piece_taken : IsHonest new.io → PieceTaken count (kept_pool old) (kept_pool new) one after front result
    piece_taken honest = record {
      read = looked_at old new result took.pool;
      fits = took.send;
      idle = took.idle;
      failed_pool = took.pool.failed_pool;
      open_still = took.pool.open_still;
      failed = took.pool.failed;
      takes = λ works sent start given left from. took.takes sent start given left honest works from;
    }

    -- the disk doesn't fail where bytes are given
    pub mark_stays : OnOk (refused result) (new.io.failed ≡ old.io.failed)
    mark_stays = go result took.pool.failed
      where
        or_none : (b : Bool) → (b || false) ≡ b
        or_none true = refl
        or_none false = refl

        go : (r : Result ℕ PoolFault) → new.io.failed ≡ (old.io.failed || fails (stop_of r)) → OnOk (refused r) (new.io.failed ≡ old.io.failed)
        go (Ok taken) is = is ∙ or_none old.io.failed
        go (Err fault) is = tt

    -- and only where E28 is answered
    pub works_still : ¬ (refused result ≡ Err refusals.DiskFault) → old.io.failed ≡ false → new.io.failed ≡ false
    works_still alive = still_works old.io.failed (fails (stop_of result)) new.io.failed took.pool.failed (λ fell. alive (ap (λ (r : Result ℕ PoolFault). refused r) (fell_as result fell)))

    -- E28 comes only where its count of faults rose
    pub disk_rose : refused result ≡ Err refusals.DiskFault → Rose (disk_of old.io).faults (disk_of new.io).faults
    disk_rose is = took.pool.cause.fault (ap stopped (answer_of_disk result is))
      where
        stopped : Result ℕ PoolFault → Option BlockFault
        stopped r = stop_of r

    -- and E31 only where it had failed
    pub still_open : old.io.failed ≡ false → ¬ (refused result ≡ Err refusals.Failed)
    still_open works is = took.pool.open_still works (answer_of_failed result is)

    -- and E24 never
    pub never_filled : (need largest : ℕ) → ¬ (refused result ≡ Err (refusals.Full need largest))
    never_filled need largest is = took.pool.never_full need largest (ap stopped (answer_of_full result need largest is))
      where
        stopped : Result ℕ PoolFault → Option BlockFault
        stopped r = stop_of r

-- ---- two pools

module _ {D E : Type 0} {g : Ghosts D} {h : Ghosts E} (old : Engine D E g h) (place count : ℕ) (one : kept_sends.OpenSend) (after : Send) (front : List ℕ) (result : Result ℕ PoolFault)
    (at_place : get_or old.sends.items place one ≡ one) (most : count ≤ piece_limit) (whole : length front ≡ old.room.len) (fits : EngineFits old) where
  -- the send once it was taken from
  abbrev gone : kept_sends.OpenSend
  gone = record one { send = after }

  -- the room then has what stands in front
  room_is : (with_items old.room front).items ≡ front
  room_is = with_items_is old.room front whole

  room_long : length (with_items old.room front).items ≡ piece_limit
  room_long = ap (λ (xs : List ℕ). length xs) room_is ∙ whole ∙ old.room.ok.0 ∙ fits.room

  front_long : length (take count front) ≡ count
  front_long = omega (arith, length-take count front, whole, old.room.ok.0, fits.room, most)

  -- what is kept of the sessions stays in its ranges
  fits_gone : (here' there' : Kept) → SessionsFit here' there' old.sends.items old.receives.items → SendFits after → SessionsFit here' there' (with_item old.sends place gone).items old.receives.items
  fits_gone here' there' is send = record {
    here_ready = is.here_ready;
    there_ready = is.there_ready;
    sends_fit = All-set (λ (c : kept_sends.OpenSend). SendFits c.send) old.sends.items place gone send is.sends_fit;
    receives_fit = is.receives_fit;
    targets = is.targets;
  }

  -- on the first pool
  pub took_here : (here : Pool D g) → one.side ≡ Here → PoolTook count old.here here one.send after front result
      → TakesAt place count old (record { here = here; there = old.there; now = old.now; sends = with_item old.sends place gone; receives = old.receives; room = with_items old.room front }) (refused result)
  took_here here on took =
      let read = looked_at old.here here result took.pool in
      record {
        takes = λ id at world honest there_honest tells there_tells stands.
            subst (λ (room : List ℕ). Takes id count world (kept_pool old.here) (kept_pool old.there) (kept_pool here) (kept_pool old.there) (set old.sends.items place gone) old.receives.items room (refused result)) (sym room_is)
            (takes_on Here count (kept_pool old.here) (kept_pool old.there) (kept_pool here) old.sends.items old.receives.items world stands id place one at_place on at after front front_long result
            (piece_taken count old.here here one.send after front result took honest));
        fits = record {
          sessions = fits_gone (kept_pool here) (kept_pool old.there)
              (fit_read (kept_pool old.here) (kept_pool old.there) (kept_pool here) (kept_pool old.there) read (read_none (kept_pool old.there)) old.sends.items old.receives.items fits.sessions) took.send;
          room = room_long;
        };
        within = refused_gives (λ taken. taken ≤ count) result took.within;
        receives = refl;
        here_read = read;
        there_read = read_none (kept_pool old.there);
        later = record { here = looked_later old.here here result took.pool; there = stays_later old.there; time = refl };
        works = λ alive. (works_still count old.here here one.send after front result took alive, λ works. works);
        marks = go result (mark_stays count old.here here one.send after front result took);
        cause = λ is. inl (disk_rose count old.here here one.send after front result took is);
        open_still = λ works also is. still_open count old.here here one.send after front result took works is;
        never_full = never_filled count old.here here one.send after front result took;
      }
    where
      go : (r : Result ℕ PoolFault) → OnOk (refused r) (here.io.failed ≡ old.here.io.failed) → OnOk (refused r) ((here.io.failed ≡ old.here.io.failed) × (old.there.io.failed ≡ old.there.io.failed))
      go (Ok taken) is = (is, refl)
      go (Err fault) is = tt

  -- and on the second
  pub took_there : (there : Pool E h) → one.side ≡ There → PoolTook count old.there there one.send after front result
      → TakesAt place count old (record { here = old.here; there = there; now = old.now; sends = with_item old.sends place gone; receives = old.receives; room = with_items old.room front }) (refused result)
  took_there there on took =
      let read = looked_at old.there there result took.pool in
      record {
        takes = λ id at world here_honest honest here_tells tells stands.
            subst (λ (room : List ℕ). Takes id count world (kept_pool old.here) (kept_pool old.there) (kept_pool old.here) (kept_pool there) (set old.sends.items place gone) old.receives.items room (refused result)) (sym room_is)
            (takes_on There count (kept_pool old.here) (kept_pool old.there) (kept_pool there) old.sends.items old.receives.items world stands id place one at_place on at after front front_long result
            (piece_taken count old.there there one.send after front result took honest));
        fits = record {
          sessions = fits_gone (kept_pool old.here) (kept_pool there)
              (fit_read (kept_pool old.here) (kept_pool old.there) (kept_pool old.here) (kept_pool there) (read_none (kept_pool old.here)) read old.sends.items old.receives.items fits.sessions) took.send;
          room = room_long;
        };
        within = refused_gives (λ taken. taken ≤ count) result took.within;
        receives = refl;
        here_read = read_none (kept_pool old.here);
        there_read = read;
        later = record { here = stays_later old.here; there = looked_later old.there there result took.pool; time = refl };
        works = λ alive. (λ works. works, works_still count old.there there one.send after front result took alive);
        marks = go result (mark_stays count old.there there one.send after front result took);
        cause = λ is. inr (disk_rose count old.there there one.send after front result took is);
        open_still = λ works also is. still_open count old.there there one.send after front result took also is;
        never_full = never_filled count old.there there one.send after front result took;
      }
    where
      go : (r : Result ℕ PoolFault) → OnOk (refused r) (there.io.failed ≡ old.there.io.failed) → OnOk (refused r) ((old.here.io.failed ≡ old.here.io.failed) × (there.io.failed ≡ old.there.io.failed))
      go (Ok taken) is = (refl, is)
      go (Err fault) is = tt
