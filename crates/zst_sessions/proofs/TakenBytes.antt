-- A take of bytes of one send: what it leaves of the sessions, and of a world.
use Rattle.std.proofs.Common.{◌≡◌, ◌||◌, ◌==◌, ◌<◌, ◌≤◌, ℕ, zero, suc, Bool, true, false, List, [], ◌∷◌, length, set, get_or, take, Some, Ok, Err, inl, inr, refl, sym, ap, ◌∙◌, subst, arith}
use Rattle.std.specs.List.{position}
use Rattle.std.specs.Prelude.{Option, Result}
use Rattle.std.proofs.lemmas.List.{take-take}
use Rattle.std.proofs.lemmas.List.Quantifiers.{position-Some}
use Rattle.zst_outside.specs.Images.{Leaves}
use Rattle.zst_block.specs.Blocks.{Has}
use Rattle.zst_block.specs.IoCalls.{fails}
use Rattle.zst_dir.proofs.Matches.{Match-alike, find-Match}
use Rattle.zst_dir.specs.RowNames.{Match}
use Rattle.zst_image.specs.Bodies.{free_by}
use Rattle.zst_image.specs.Reads.{Reads}
use Rattle.zst_model.specs.declared.refusals.refusal.Refusal.TheVariants as refusals
use Rattle.zst_model.specs.declared.sends.header.Point.{Point}
use Rattle.zst_model.specs.sends.Headers.{Sent}
use Rattle.zst_pool.specs.Queries.{stop_of}
use Rattle.zst_pool.specs.declared.fault.PoolFault.{PoolFault}
use Rattle.zst_pool.specs.declared.fault.PoolFault.TheVariants as faults
use Rattle.zst_script.specs.declared.event.Side.{Side}
use Rattle.zst_script.specs.declared.event.Side.TheVariants.{Here, There}
use Rattle.zst_send.specs.Sends.{IsTakeFault, SendFits, SendsFrom, TakesFrom, begun_text}
use Rattle.zst_send.specs.declared.send.Send.{Send}
use Rattle.zst_tree.specs.Indices.{Blocks}
use Rattle.zst_sessions.proofs.Frames.{given_match, takes_stand}
use Rattle.zst_sessions.proofs.PoolRefusals.{refused}
use Rattle.zst_sessions.proofs.ReadPools.{here_read, moments_read, pool_read, read_none, receives_read, sends_read, there_read}
use Rattle.zst_sessions.proofs.Worlds.{mark_keeps, put_keeps}
use Rattle.zst_sessions.specs.EngineSteps.{here_with, there_with}
use Rattle.zst_sessions.specs.Engines.{Kept, PoolStands, SendStands, SendStandsOn, Stands, kept_at}
use Rattle.zst_sessions.specs.Lawfulness.{IsWorld}
use Rattle.zst_sessions.specs.Replay.{image_of}
use Rattle.zst_sessions.specs.Takes.{GaveOrStarved, Gives, HadFailed, Loses, Starves, Takes, WasOnlyRead}
use Rattle.zst_sessions.specs.World.{OpenSend, World, at_side, gone_on, left_of, next_piece, put_send, put_side, send_with}
use Rattle.zst_sessions.specs.declared.open_sessions.OpenReceive as kept_receives
use Rattle.zst_sessions.specs.declared.open_sessions.OpenSend as kept_sends

-- ---- lists that match

-- one of the first list is another that matches what it matched
pub set_match : {A B : Type 0} (Is : A → B → Type 0) (xs : List A) (ys : List B) (place : ℕ) (d x : A) → Match Is xs ys → place < length xs
    → ((y : B) → Is (get_or xs place d) y → Is x y) → Match Is (set xs place x) ys
set_match Is [] ys place d x m lt is = absurd (omega (arith, lt))
set_match Is (a ∷ xs) [] place d x m lt is = absurd m
set_match Is (a ∷ xs) (y ∷ ys) zero d x m lt is = (is y m.0, m.1)
set_match Is (a ∷ xs) (y ∷ ys) (suc place) d x m lt is = (m.0, set_match Is xs ys place d x m.1 (omega (arith, lt)) is)

-- what is kept of a send at a place stands for the send of the world that has its id
pub find_send : (here there : Kept) (sends : List kept_sends.OpenSend) (world : World) (id place : ℕ) (one : kept_sends.OpenSend) → get_or sends place one ≡ one
    → Match (λ one send. SendStandsOn (kept_at send.side here there) one send) sends world.sends → position (λ one. one.id == id) sends ≡ Some place
    → (send : OpenSend) × (send_with id world ≡ Some send) × SendStandsOn (kept_at send.side here there) one send
find_send here there sends world id place one at_place match at =
    let Is : kept_sends.OpenSend → OpenSend → Type 0 = λ one send. SendStandsOn (kept_at send.side here there) one send in
    let found = find-Match Is (λ one. one.id == id) (λ send. send.id == id) (λ one send is. ap (λ (n : ℕ). n == id) is.id) one sends world.sends match place at in
    (found.0, found.1, subst (λ (c : kept_sends.OpenSend). Is c found.0) at_place (Match-alike Is sends world.sends (get_or sends place one) found.0 match found.2))

-- ---- worlds of which one pool may have failed

-- the world with this mark of a pool, and with these sends
abbrev pub remade : Side → Bool → List OpenSend → World → World
remade Here mark more world = record world { here = record { pool = world.here.pool; failed = mark }; sends = more }
remade There mark more world = record world { there = record { pool = world.there.pool; failed = mark }; sends = more }

remade_marked : (side : Side) (mark : Bool) (world : World) → remade side mark world.sends world ≡ put_side side (record { pool = (at_side side world).pool; failed = mark }) world
remade_marked Here mark world = refl
remade_marked There mark world = refl

remade_same : (side : Side) (more : List OpenSend) (world : World) → remade side (at_side side world).failed more world ≡ record world { sends = more }
remade_same Here more world = refl
remade_same There more world = refl

remade_pools : (side : Side) (mark : Bool) (more : List OpenSend) (world : World) (of : Side) → (at_side of world).pool ≡ (at_side of (remade side mark more world)).pool
remade_pools Here mark more world Here = refl
remade_pools Here mark more world There = refl
remade_pools There mark more world Here = refl
remade_pools There mark more world There = refl

-- the mark of a pool that is kept is its world's
pub mark_at : (side : Side) (here there : Kept) (world : World) → PoolStands true here world.here → PoolStands true there world.there → (kept_at side here there).failed ≡ (at_side side world).failed
mark_at Here here there world is also = is.mark
mark_at There here there world is also = also.mark

-- what holds of a pool that is put on a side holds of the one that is then kept there
pub at_new : (P : Kept → Type 0) (side : Side) (here there new : Kept) → P new → P (kept_at side (here_with side new here) (there_with side new there))
at_new P Here here there new is = is
at_new P There here there new is = is

-- ---- what then stands

-- where one pool was only read, and the sends match, all stands
stands_remade : (side : Side) (here there new : Kept) (sends coded : List kept_sends.OpenSend) (receives : List kept_receives.OpenReceive) (world : World) (mark : Bool) (more : List OpenSend)
    → WasOnlyRead (kept_at side here there) new → new.failed ≡ mark → Stands true here there sends receives world
    → Match (λ one send. SendStandsOn (kept_at send.side (here_with side new here) (there_with side new there)) one send) coded more → IsWorld (remade side mark more world)
    → Stands true (here_with side new here) (there_with side new there) coded receives (remade side mark more world)
stands_remade Here here there new sends coded receives world mark more read marked stands match lawful = record {
  here_stands = pool_read true here new world.here.pool world.here.failed mark read marked stands.here_stands;
  there_stands = stands.there_stands;
  send_stands = match;
  receive_stands = receives_read here there new there read (read_none there) world (remade Here mark more world) (remade_pools Here mark more world) receives world.receives stands.receive_stands;
  lawful = lawful;
}
stands_remade There here there new sends coded receives world mark more read marked stands match lawful = record {
  here_stands = stands.here_stands;
  there_stands = pool_read true there new world.there.pool world.there.failed mark read marked stands.there_stands;
  send_stands = match;
  receive_stands = receives_read here there here new (read_none here) read world (remade There mark more world) (remade_pools There mark more world) receives world.receives stands.receive_stands;
  lawful = lawful;
}

-- ---- a take of one send

-- What a take of at most so many bytes of a send made of its pool and of it, and what the room then begins with.
pub record PieceTaken (count : ℕ) (old new : Kept) (one after : Send) (room : List ℕ) (result : Result ℕ PoolFault) : Type 0 where
  pub read : WasOnlyRead old new
  pub fits : SendFits after
  pub idle : old.failed ≡ true → after ≡ one
  pub failed_pool : old.failed ≡ true → result ≡ Err faults.Failed
  pub open_still : old.failed ≡ false → ¬ (result ≡ Err faults.Failed)
  pub failed : new.failed ≡ (old.failed || fails (stop_of result))
  pub takes : old.failed ≡ false → (sent : Sent) (start : Option Point) (given left : List ℕ) → SendsFrom (Has old.disk.seen (free_by old.state.body)) one sent start given left
      → GaveOrStarved (Has new.disk.seen (free_by new.state.body)) one after sent start given left (take count room) result

-- one that is answered with bytes gave them
gave_those : (has : Blocks) (one after : Send) (sent : Sent) (start : Option Point) (given left into : List ℕ) (taken : ℕ) → GaveOrStarved has one after sent start given left into (Ok taken) → TakesFrom has after sent start given left into (Ok taken)
gave_those has one after sent start given left into taken (inl took) = took
gave_those has one after sent start given left into taken (inr starved) = absurd (cc starved.0)

-- a take that isn't refused by a mark finds its disk failing
lost_disk : (fault : PoolFault) → IsTakeFault fault → ¬ (fault ≡ faults.Failed) → fault ≡ faults.DiskFault
lost_disk (faults.Plan plan) is open_still = absurd is
lost_disk (faults.CannotApply fault) is open_still = absurd is
lost_disk (faults.Redacted object block) is open_still = absurd is
lost_disk (faults.Full need largest) is open_still = absurd is
lost_disk (faults.Damaged sector stated found) is open_still = absurd is
lost_disk faults.DiskFault is open_still = refl
lost_disk faults.Failed is open_still = absurd (open_still refl)
lost_disk faults.OutOfMemory is open_still = absurd is

module _ (count : ℕ) (here there new : Kept) (sends : List kept_sends.OpenSend) (receives : List kept_receives.OpenReceive) (world : World) (stands : Stands true here there sends receives world)
    (place : ℕ) (one : kept_sends.OpenSend) (below : place < length sends) (at_place : get_or sends place one ≡ one) (after : Send) (send : OpenSend) (is : SendStandsOn (kept_at send.side here there) one send)
    (room : List ℕ) (long : length (take count room) ≡ count) where
  abbrev own : Kept
  own = kept_at send.side here there

  abbrev here' : Kept
  here' = here_with send.side new here

  abbrev there' : Kept
  there' = there_with send.side new there

  abbrev coded : List kept_sends.OpenSend
  coded = set sends place (record one { send = after })

  abbrev Is : kept_sends.OpenSend → OpenSend → Type 0
  Is one send = SendStandsOn (kept_at send.side here' there') one send

  abbrev gone : OpenSend
  gone = gone_on count send

  -- the sends before, over the pool that was read
  matched : WasOnlyRead own new → Match Is sends world.sends
  matched read = sends_read here there here' there' (here_read send.side here there new read) (there_read send.side here there new read) sends world.sends stands.send_stands

  marked : own.failed ≡ (at_side send.side world).failed
  marked = mark_at send.side here there world stands.here_stands stands.there_stands

  here_moments : WasOnlyRead own new → Leaves here.disk here'.disk (Reads true (image_of Here world))
  here_moments read = moments_read true here here' world.here (here_read send.side here there new read) stands.here_stands

  there_moments : WasOnlyRead own new → Leaves there.disk there'.disk (Reads true (image_of There world))
  there_moments read = moments_read true there there' world.there (there_read send.side here there new read) stands.there_stands

  -- what was given is the next piece, and the send has gone on
  goes : (taken : ℕ) → PieceTaken count own new one.send after room (Ok taken) → own.failed ≡ false
      → (taken ≡ length (next_piece count send)) × (take taken room ≡ next_piece count send) × SendStandsOn new (record one { send = after }) gone
  goes taken piece works =
      let into = take count room in
      let took = gave_those _ one.send after send.sent send.start _ _ into taken (piece.takes works send.sent send.start (take send.given (begun_text send.sent send.start)) (left_of send) (is.sends works)) in
      let standing : SendStands false own.disk.seen (free_by own.state.body) one send = subst (λ (b : Bool). SendStands b own.disk.seen (free_by own.state.body) one send) works is in
      let then = takes_stand own.disk.seen new.disk.seen into (free_by own.state.body) (free_by new.state.body) one send after taken standing piece.fits took in
      let few : taken ≤ count = omega (arith, took.0, long) in
      let works' : new.failed ≡ false = piece.failed ∙ ap (λ (b : Bool). b || false) works in (
        then.0 ∙ ap (λ (n : ℕ). length (next_piece n send)) long,
        sym (take-take taken count room few) ∙ then.1 ∙ ap (λ (n : ℕ). next_piece n send) long,
        subst (λ (n : ℕ). SendStandsOn new (record one { send = after }) (gone_on n send)) long
            (subst (λ (b : Bool). SendStands b new.disk.seen (free_by new.state.body) (record one { send = after }) (gone_on (length into) send)) (sym works') then.2),
      )

  -- so the world is that in which it has
  gives : (id taken : ℕ) → send_with id world ≡ Some send → PieceTaken count own new one.send after room (Ok taken) → own.failed ≡ false
      → Takes id count world here there here' there' coded receives room (Ok taken)
  gives id taken found piece works =
      let gone_is = goes taken piece works in
      let match = given_match (λ (at : Side). (kept_at at here' there').failed) (λ (at : Side). (kept_at at here' there').disk.seen) (λ (at : Side). free_by (kept_at at here' there').state.body)
      sends world.sends place one (record one { send = after }) gone stands.lawful.sends (matched piece.read) below (ap (λ (c : kept_sends.OpenSend). c.id) at_place ∙ is.id)
      (at_new (λ (k : Kept). SendStandsOn k (record one { send = after }) gone) send.side here there new gone_is.2) in
      let more = (put_send gone world).sends in
      let same = remade_same send.side more world in
      record {
        send = send;
        found = found;
        next = put_send gone world;
        ends = Gives taken refl (sym marked ∙ works) gone_is.0 gone_is.1 refl;
        stands = subst (λ (w : World). Stands true here' there' coded receives w) same
            (stands_remade send.side here there new sends coded receives world (at_side send.side world).failed more piece.read (piece.failed ∙ ap (λ (b : Bool). b || false) works ∙ sym works ∙ marked) stands match
            (subst IsWorld (sym same) (put_keeps world stands.lawful gone)));
        here_moments = here_moments piece.read;
        there_moments = there_moments piece.read;
      }

  -- where the disk had failed before, nothing is done
  had_failed : (id : ℕ) (result : Result ℕ PoolFault) → send_with id world ≡ Some send → PieceTaken count own new one.send after room result → own.failed ≡ true
      → Takes id count world here there here' there' coded receives room (refused result)
  had_failed id result found piece fell =
      let same = remade_same send.side world.sends world in
      let match = set_match Is sends world.sends place one (record one { send = after }) (matched piece.read) below
      (λ (y : OpenSend) stood. subst (λ (s : Send). Is (record one { send = s }) y) (sym (piece.idle fell)) (subst (λ (c : kept_sends.OpenSend). Is c y) at_place stood)) in
      record {
        send = send;
        found = found;
        next = world;
        ends = HadFailed (ap refused (piece.failed_pool fell)) (sym marked ∙ fell) refl;
        stands = subst (λ (w : World). Stands true here' there' coded receives w) same
            (stands_remade send.side here there new sends coded receives world (at_side send.side world).failed world.sends piece.read
            (piece.failed ∙ ap (λ (b : Bool). b || fails (stop_of result)) fell ∙ sym fell ∙ marked) stands match (subst IsWorld (sym same) stands.lawful));
        here_moments = here_moments piece.read;
        there_moments = there_moments piece.read;
      }

  -- and where no memory is left, neither
  starves : (id : ℕ) → send_with id world ≡ Some send → PieceTaken count own new one.send after room (Err faults.OutOfMemory) → own.failed ≡ false → after ≡ one.send
      → Takes id count world here there here' there' coded receives room (Err refusals.OutOfMemory)
  starves id found piece works stays =
      let same = remade_same send.side world.sends world in
      let match = set_match Is sends world.sends place one (record one { send = after }) (matched piece.read) below
      (λ (y : OpenSend) stood. subst (λ (s : Send). Is (record one { send = s }) y) (sym stays) (subst (λ (c : kept_sends.OpenSend). Is c y) at_place stood)) in
      record {
        send = send;
        found = found;
        next = world;
        ends = Starves refl (sym marked ∙ works) refl;
        stands = subst (λ (w : World). Stands true here' there' coded receives w) same
            (stands_remade send.side here there new sends coded receives world (at_side send.side world).failed world.sends piece.read
            (piece.failed ∙ ap (λ (b : Bool). b || false) works ∙ sym works ∙ marked) stands match (subst IsWorld (sym same) stands.lawful));
        here_moments = here_moments piece.read;
        there_moments = there_moments piece.read;
      }

  -- and where it fails, nothing but its mark is another
  loses : (id : ℕ) → send_with id world ≡ Some send → PieceTaken count own new one.send after room (Err faults.DiskFault) → own.failed ≡ false
      → Takes id count world here there here' there' coded receives room (Err refusals.DiskFault)
  loses id found piece works =
      let fell : new.failed ≡ true = piece.failed ∙ ap (λ (b : Bool). b || true) works in
      let fell' = at_new (λ (k : Kept). k.failed ≡ true) send.side here there new fell in
      let same = remade_marked send.side true world in
      let match = set_match Is sends world.sends place one (record one { send = after }) (matched piece.read) below
      (λ (y : OpenSend) stood.
      let was = subst (λ (c : kept_sends.OpenSend). Is c y) at_place stood in
      record {
        id = was.id;
        side = was.side;
        holds = was.holds;
        fits = piece.fits;
        within = was.within;
        sends = λ still. let here_still = subst (λ (at : Side). (kept_at at here' there').failed ≡ false) (sym was.side ∙ is.side) still in absurd (cc (fell', here_still));
      }) in
      record {
        send = send;
        found = found;
        next = put_side send.side (record { pool = (at_side send.side world).pool; failed = true }) world;
        ends = Loses refl (sym marked ∙ works) (record { pool = (at_side send.side world).pool; one_of = inl refl; world_is = refl });
        stands = subst (λ (w : World). Stands true here' there' coded receives w) same
            (stands_remade send.side here there new sends coded receives world true world.sends piece.read fell stands match (subst IsWorld (sym same) (mark_keeps world stands.lawful send.side true)));
        here_moments = here_moments piece.read;
        there_moments = there_moments piece.read;
      }

  pub takes_one : (id : ℕ) (result : Result ℕ PoolFault) → send_with id world ≡ Some send → PieceTaken count own new one.send after room result → Takes id count world here there here' there' coded receives room (refused result)
  takes_one id result found piece = go own.failed refl result piece
    where
      err : PoolFault → Result ℕ PoolFault
      err fault = Err fault

      stopped : (fault : PoolFault) → fault ≡ faults.DiskFault → PieceTaken count own new one.send after room (Err fault) → own.failed ≡ false
          → Takes id count world here there here' there' coded receives room (refused (Err fault))
      stopped fault lost piece works =
          subst (λ (f : PoolFault). Takes id count world here there here' there' coded receives room (refused (Err f))) (sym lost)
          (loses id found (subst (λ (f : PoolFault). PieceTaken count own new one.send after room (Err f)) lost piece) works)

      go : (failed : Bool) → own.failed ≡ failed → (result : Result ℕ PoolFault) → PieceTaken count own new one.send after room result → Takes id count world here there here' there' coded receives room (refused result)
      go true fell result piece = had_failed id result found piece fell
      go false works (Ok taken) piece = gives id taken found piece works
      go false works (Err fault) piece = by_take (piece.takes works send.sent send.start (take send.given (begun_text send.sent send.start)) (left_of send) (is.sends works))
        where
          by_take : GaveOrStarved (Has new.disk.seen (free_by new.state.body)) one.send after send.sent send.start (take send.given (begun_text send.sent send.start)) (left_of send) (take count room) (Err fault)
              → Takes id count world here there here' there' coded receives room (refused (Err fault))
          by_take (inl took) = stopped fault (lost_disk fault took.0 (λ same. piece.open_still works (ap err same))) piece works
          by_take (inr starved) =
              let which : fault ≡ faults.OutOfMemory = cc starved.0 in
              subst (λ (f : PoolFault). Takes id count world here there here' there' coded receives room (refused (Err f))) (sym which)
              (starves id found (subst (λ (f : PoolFault). PieceTaken count own new one.send after room (Err f)) which piece) works starved.1)

-- of the pool on a side, whichever that is
pub takes_on : (side : Side) (count : ℕ) (here there new : Kept) (sends : List kept_sends.OpenSend) (receives : List kept_receives.OpenReceive) (world : World)
    → Stands true here there sends receives world → (id place : ℕ) (one : kept_sends.OpenSend) → get_or sends place one ≡ one → one.side ≡ side → position (λ one. one.id == id) sends ≡ Some place
    → (after : Send) (room : List ℕ) → length (take count room) ≡ count → (result : Result ℕ PoolFault) → PieceTaken count (kept_at side here there) new one.send after room result
    → Takes id count world here there (here_with side new here) (there_with side new there) (set sends place (record one { send = after })) receives room (refused result)
takes_on side count here there new sends receives world stands id place one at_place on at after room long result piece =
    let found = find_send here there sends world id place one at_place stands.send_stands at in
    let send = found.0 in
    let same : side ≡ send.side = sym on ∙ found.2.side in
    let below = (position-Some (λ one. one.id == id) sends place one at).0 in
    subst (λ (s : Side). Takes id count world here there (here_with s new here) (there_with s new there) (set sends place (record one { send = after })) receives room (refused result)) (sym same)
    (takes_one count here there new sends receives world stands place one below at_place after send found.2 room long id result found.1
    (subst (λ (s : Side). PieceTaken count (kept_at s here there) new one.send after room result) same piece))
