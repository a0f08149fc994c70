-- What an event makes of a world where both pools were only read: all stays, but for a session that is opened, or for the mark of a disk that failed.
use Rattle.std.proofs.Common.{◌≡◌, ◌||◌, ◌++◌, ◌∷◌, ◌==◌, ℕ, Bool, true, List, [], length, Option, Some, None, Err, inl, refl, sym, ap, ◌∙◌, subst}
use Rattle.std.specs.Prelude.{is_some}
use Rattle.std.specs.List.{list_any}
use Rattle.zst_outside.specs.Images.{Leaves-weaker}
use Rattle.zst_dir.proofs.Matches.{length-Match, list_any-Match}
use Rattle.zst_dir.specs.RowNames.{Match}
use Rattle.zst_image.specs.Reads.{Reads}
use Rattle.zst_model.specs.declared.refusals.refusal.Refusal.{Refusal}
use Rattle.zst_model.specs.declared.refusals.refusal.Refusal.TheVariants as refusals
use Rattle.zst_model.specs.pools.Pool.{Pool}
use Rattle.zst_script.specs.declared.event.Event.{Event}
use Rattle.zst_script.specs.declared.event.Side.{Side}
use Rattle.zst_script.specs.declared.event.Side.TheVariants.{Here, There}
use Rattle.zst_sessions.proofs.OtherEvents.{IsOther, answers_by}
use Rattle.zst_sessions.proofs.PossibleImages.{reads_may}
use Rattle.zst_sessions.proofs.Matching.{snoc_match}
use Rattle.zst_sessions.proofs.ReadPools.{moments_read, pool_read, receives_read, sends_read}
use Rattle.zst_sessions.specs.Engines.{Kept, MayLeave, PoolStands, ReceiveStandsOn, SendStandsOn, Stands, Steps, kept_at}
use Rattle.zst_sessions.specs.Lawfulness.{MovesKeepWorlds}
use Rattle.zst_sessions.specs.Moves.{Answer, Moved, moved, refuses}
use Rattle.zst_sessions.specs.Openings.{is_coded_used}
use Rattle.zst_sessions.specs.Replay.{AsDefined, Moves, image_of}
use Rattle.zst_sessions.specs.Takes.{WasOnlyRead}
use Rattle.zst_sessions.specs.World.{OpenReceive, OpenSend, World, at_side, is_used, other_side, put_side, send_with, with_receive, with_send}
use Rattle.zst_sessions.specs.declared.open_sessions.OpenReceive as kept_receives
use Rattle.zst_sessions.specs.declared.open_sessions.OpenSend as kept_sends

-- ---- worlds of the same pools

-- the pools of a world are those of another
abbrev pub SamePools : World → World → Type 0
SamePools world next = (of : Side) → (at_side of world).pool ≡ (at_side of next).pool

same_marked : (side : Side) (mark : Bool) (world : World) → SamePools world (put_side side (record { pool = (at_side side world).pool; failed = mark }) world)
same_marked Here mark world Here = refl
same_marked Here mark world There = refl
same_marked There mark world Here = refl
same_marked There mark world There = refl

same_send : (send : OpenSend) (world : World) → SamePools world (with_send send world)
same_send send world Here = refl
same_send send world There = refl

same_receive : (receive : OpenReceive) (world : World) → SamePools world (with_receive receive world)
same_receive receive world Here = refl
same_receive receive world There = refl

-- ---- what stands

-- the pool on a side stands
pub stands_at : (side : Side) (here there : Kept) (sends : List kept_sends.OpenSend) (receives : List kept_receives.OpenReceive) (world : World) → Stands true here there sends receives world
    → PoolStands true (kept_at side here there) (at_side side world)
stands_at Here here there sends receives world stands = stands.here_stands
stands_at There here there sends receives world stands = stands.there_stands

-- a session that the engine keeps has an id where one of the world has it
pub used_alike : (id : ℕ) (here there : Kept) (sends : List kept_sends.OpenSend) (receives : List kept_receives.OpenReceive) (world : World) → Stands true here there sends receives world
    → is_coded_used id sends receives ≡ is_used id world
used_alike id here there sends receives world stands =
    let sent = list_any-Match (λ one send. SendStandsOn (kept_at send.side here there) one send) (λ one. one.id == id) (λ send. send.id == id) (λ one send is. ap (λ (n : ℕ). n == id) is.id) sends world.sends stands.send_stands in
    let received = list_any-Match (λ one receive. ReceiveStandsOn true (kept_at receive.side here there) (at_side receive.side world).pool one receive) (λ one. one.id == id) (λ receive. receive.id == id)
    (λ one receive is. ap (λ (n : ℕ). n == id) is.id) receives world.receives stands.receive_stands in
    ap (λ (b : Bool). b || list_any (λ (one : kept_receives.OpenReceive). one.id == id) receives) sent ∙ ap (λ (b : Bool). is_some (send_with id world) || b) received

-- as many are kept
pub sends_alike : (here there : Kept) (sends : List kept_sends.OpenSend) (receives : List kept_receives.OpenReceive) (world : World) → Stands true here there sends receives world
    → length sends ≡ length world.sends
sends_alike here there sends receives world stands = length-Match (λ one send. SendStandsOn (kept_at send.side here there) one send) sends world.sends stands.send_stands

pub receives_alike : (here there : Kept) (sends : List kept_sends.OpenSend) (receives : List kept_receives.OpenReceive) (world : World) → Stands true here there sends receives world
    → length receives ≡ length world.receives
receives_alike here there sends receives world stands =
    length-Match (λ one receive. ReceiveStandsOn true (kept_at receive.side here there) (at_side receive.side world).pool one receive) receives world.receives stands.receive_stands

-- ---- answers

-- what comes next, where there is no refusal
abbrev pub or_refused : Option Refusal → World → Moved → Moved
or_refused None world rest = rest
or_refused (Some refusal) world rest = refuses refusal world

-- an event that is no check moves as its definition says
pub as_defined : (now : ℕ) (event : Event) (world : World) (done : Moved) → IsOther event → moved now event world ≡ done → Moves now world event done.answer done.world
as_defined now event world done other is = AsDefined (answers_by now event world done.answer other (sym (ap (λ (m : Moved). m.answer) is))) (sym (ap (λ (m : Moved). m.world) is))

-- ---- steps

module _ (now : ℕ) (event : Event) (world : World) (here there here' there' : Kept) (read_here : WasOnlyRead here here') (read_there : WasOnlyRead there there')
    (sends : List kept_sends.OpenSend) (receives : List kept_receives.OpenReceive) (stands : Stands true here there sends receives world) (keep : MovesKeepWorlds) where
  -- sends stand where they stood, and receives do in each world of the same pools
  sends_still : Match (λ one send. SendStandsOn (kept_at send.side here' there') one send) sends world.sends
  sends_still = sends_read here there here' there' read_here read_there sends world.sends stands.send_stands

  receives_still : (next : World) → SamePools world next → Match (λ one receive. ReceiveStandsOn true (kept_at receive.side here' there') (at_side receive.side next).pool one receive) receives world.receives
  receives_still next same = receives_read here there here' there' read_here read_there world next same receives world.receives stands.receive_stands

  -- a world of the same pools stands where its sessions do
  steps_to : (answer : Answer) (next : World) (coded : List kept_sends.OpenSend) (claims : List kept_receives.OpenReceive) → Moves now world event answer next → SamePools world next
      → here'.failed ≡ next.here.failed → there'.failed ≡ next.there.failed
      → Match (λ one send. SendStandsOn (kept_at send.side here' there') one send) coded next.sends
      → Match (λ one receive. ReceiveStandsOn true (kept_at receive.side here' there') (at_side receive.side next).pool one receive) claims next.receives
      → Steps true now world event here there here' there' coded claims answer
  steps_to answer next coded claims moves same mark also match matched = record {
    next = next;
    moves = moves;
    stands = record {
      here_stands = subst (λ (pool : Pool). PoolStands true here' (record { pool = pool; failed = next.here.failed })) (same Here)
          (pool_read true here here' world.here.pool world.here.failed next.here.failed read_here mark stands.here_stands);
      there_stands = subst (λ (pool : Pool). PoolStands true there' (record { pool = pool; failed = next.there.failed })) (same There)
          (pool_read true there there' world.there.pool world.there.failed next.there.failed read_there also stands.there_stands);
      send_stands = match;
      receive_stands = matched;
      lawful = keep now world next event answer moves stands.lawful;
    };
    here_moments = Leaves-weaker here.disk here'.disk (Reads true (image_of Here world)) (MayLeave true Here event here world (moved now event world).world)
        (moments_read true here here' world.here read_here stands.here_stands) (λ c is. reads_may Here event here world (moved now event world).world c (inl is));
    there_moments = Leaves-weaker there.disk there'.disk (Reads true (image_of There world)) (MayLeave true There event there world (moved now event world).world)
        (moments_read true there there' world.there read_there stands.there_stands) (λ c is. reads_may There event there world (moved now event world).world c (inl is));
  }

  -- all stays
  pub stays : (answer : Answer) → Moves now world event answer world → here'.failed ≡ here.failed → there'.failed ≡ there.failed → Steps true now world event here there here' there' sends receives answer
  stays answer moves mark also =
      steps_to answer world sends receives moves (λ of. refl) (mark ∙ stands.here_stands.mark) (also ∙ stands.there_stands.mark) sends_still (receives_still world (λ of. refl))

  -- the disk of a side failed
  pub loses : (side : Side) → Moves now world event (Err refusals.DiskFault) (put_side side (record { pool = (at_side side world).pool; failed = true }) world)
      → (kept_at side here' there').failed ≡ true → (kept_at (other_side side) here' there').failed ≡ (kept_at (other_side side) here there).failed
      → Steps true now world event here there here' there' sends receives (Err refusals.DiskFault)
  loses Here moves fell stay =
      let next = put_side Here (record { pool = world.here.pool; failed = true }) world in
      steps_to (Err refusals.DiskFault) next sends receives moves (same_marked Here true world) fell (stay ∙ stands.there_stands.mark) sends_still (receives_still next (same_marked Here true world))
  loses There moves fell stay =
      let next = put_side There (record { pool = world.there.pool; failed = true }) world in
      steps_to (Err refusals.DiskFault) next sends receives moves (same_marked There true world) (stay ∙ stands.here_stands.mark) fell sends_still (receives_still next (same_marked There true world))

  -- a send is opened
  pub sends_more : (answer : Answer) (one : kept_sends.OpenSend) (send : OpenSend) → Moves now world event answer (with_send send world) → here'.failed ≡ here.failed → there'.failed ≡ there.failed
      → SendStandsOn (kept_at send.side here' there') one send → Steps true now world event here there here' there' (sends ++ one ∷ []) receives answer
  sends_more answer one send moves mark also is =
      steps_to answer (with_send send world) (sends ++ one ∷ []) receives moves (same_send send world) (mark ∙ stands.here_stands.mark) (also ∙ stands.there_stands.mark)
      (snoc_match (λ one send. SendStandsOn (kept_at send.side here' there') one send) sends world.sends one send sends_still is)
      (receives_still (with_send send world) (same_send send world))

  -- a receive is opened
  pub receives_more : (answer : Answer) (one : kept_receives.OpenReceive) (receive : OpenReceive) → Moves now world event answer (with_receive receive world)
      → here'.failed ≡ here.failed → there'.failed ≡ there.failed → ReceiveStandsOn true (kept_at receive.side here' there') (at_side receive.side world).pool one receive
      → Steps true now world event here there here' there' sends (receives ++ one ∷ []) answer
  receives_more answer one receive moves mark also is =
      let next = with_receive receive world in
      let same = same_receive receive world in
      steps_to answer next sends (receives ++ one ∷ []) moves same (mark ∙ stands.here_stands.mark) (also ∙ stands.there_stands.mark) sends_still
      (snoc_match (λ one receive. ReceiveStandsOn true (kept_at receive.side here' there') (at_side receive.side next).pool one receive) receives world.receives one receive (receives_still next same)
      (subst (λ (pool : Pool). ReceiveStandsOn true (kept_at receive.side here' there') pool one receive) (same receive.side) is))
