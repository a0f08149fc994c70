-- What an event that opens a send makes of a world, where its send was begun on one pool or was refused.
use Rattle.std.proofs.Common.{◌≡◌, ◌∷◌, ℕ, Bool, true, false, cond, nat_lt, List, [], length, Option, Some, None, Result, Ok, Err, inl, refl, sym, ap, ◌∙◌, subst, arith}
use Rattle.zst_block.specs.Blocks.{Has}
use Rattle.zst_block.specs.IoCalls.{fails}
use Rattle.zst_image.specs.Bodies.{free_by}
use Rattle.zst_model.specs.declared.refusals.faults.Quantity.TheVariants as quantities
use Rattle.zst_model.specs.declared.refusals.plan_fault.PlanFault.{PlanFault}
use Rattle.zst_model.specs.declared.refusals.refusal.Refusal.{Refusal}
use Rattle.zst_model.specs.declared.refusals.refusal.Refusal.TheVariants as refusals
use Rattle.zst_model.specs.declared.sends.header.Point.{Point}
use Rattle.zst_model.specs.pools.AnswerLines.{ok_line}
use Rattle.zst_model.specs.pools.Sessions.{busy_session}
use Rattle.zst_model.specs.refusals.Refusal.{refusal_of}
use Rattle.zst_model.specs.sends.Headers.{Sent}
use Rattle.zst_pool.specs.Faults.{pool_refusal}
use Rattle.zst_pool.specs.Queries.{stop_of}
use Rattle.zst_pool.specs.declared.fault.PoolFault.{PoolFault}
use Rattle.zst_pool.specs.declared.fault.PoolFault.TheVariants as faults
use Rattle.zst_script.specs.declared.event.Event.{Event}
use Rattle.zst_script.specs.declared.event.Side.{Side}
use Rattle.zst_script.specs.declared.event.Side.TheVariants.{Here, There}
use Rattle.zst_send.specs.Sends.{SendFits}
use Rattle.zst_sessions.proofs.OtherEvents.{IsOther}
use Rattle.zst_sessions.proofs.ReadEvents.{as_defined, loses, or_refused, sends_alike, sends_more, stays, used_alike}
use Rattle.zst_sessions.specs.Engines.{Kept, SendStandsOn, Stands, Steps, kept_at}
use Rattle.zst_sessions.specs.EventReplies.{answer_of}
use Rattle.zst_sessions.specs.Lawfulness.{MovesKeepWorlds}
use Rattle.zst_sessions.specs.Moves.{Answer, Moved, answers, if_new_send, most_sends, moved, number_line, opened_send, refuses}
use Rattle.zst_sessions.specs.Openings.{Adds, AddsSend, Begins, HasNoMemory, IsBegun, IsRefused, is_coded_used, opened_of, send_refusal}
use Rattle.zst_sessions.specs.Replay.{DiskFails, Fails, FindsNoMemory, LosesDisk, Moves, given_up}
use Rattle.zst_sessions.specs.Takes.{WasOnlyRead}
use Rattle.zst_sessions.specs.World.{OpenSend, World, at_side, other_side, put_side, with_send}
use Rattle.zst_sessions.specs.declared.event_reply.EventReply.{EventReply}
use Rattle.zst_sessions.specs.declared.event_reply.EventReply.TheVariants as replies
use Rattle.zst_sessions.specs.declared.open_sessions.OpenReceive as kept_receives
use Rattle.zst_sessions.specs.declared.open_sessions.OpenSend as kept_sends
use Rattle.zst_sessions.specs.declared.openings.Begun.{Begun}

-- ---- marks

-- where the mark of each side stays, both stay
pub both_stay : (side : Side) (here there here' there' : Kept) → (kept_at side here' there').failed ≡ (kept_at side here there).failed
    → (kept_at (other_side side) here' there').failed ≡ (kept_at (other_side side) here there).failed → (here'.failed ≡ here.failed) × (there'.failed ≡ there.failed)
both_stay Here here there here' there' own other = (own, other)
both_stay There here there here' there' own other = (other, own)

-- ---- an event

-- This event opens a send of what its plan gives in a world; where it is given up the world stays, and the disk that it may find failed is its side's.
pub record OpensSend (now : ℕ) (event : Event) (side : Side) (id : ℕ) (start : Option Point) (plan : Result Sent PlanFault) (world : World) : Type 0 where
  pub other : IsOther event
  pub opens : moved now event world ≡ opened_send side id start world plan
  pub given : given_up event world ≡ world
  pub loses : (next : World) → Fails side world world next → DiskFails now event world next

-- the send, which has given nothing
abbrev pub fresh : Side → ℕ → Option Point → Sent → OpenSend
fresh side id start sent = record { id = id; side = side; sent = sent; start = start; given = 0 }

-- the answer of an event that opens something
abbrev pub opened_line : ℕ → Answer
opened_line number = Ok (ok_line number ∷ [])

-- what is kept of one that was begun stands for it
begun_stands : (side : Side) (id : ℕ) (start : Option Point) (kept : Kept) (number : ℕ) (sent : Sent) (begun : Begun) → SendFits begun.send
    → IsBegun (Has kept.disk.seen (free_by kept.state.body)) start number sent begun → SendStandsOn kept (opened_of side id begun) (fresh side id start sent)
begun_stands side id start kept number sent begun fits is = record {
  id = refl;
  side = refl;
  holds = is.holds;
  fits = fits;
  within = omega arith;
  sends = λ works. is.sends;
}

-- ---- refusals of an id

-- what comes of the tests of an id and of the count of sends
abbrev id_tested : ℕ → World → Moved → (used few : Bool) → Moved
id_tested id world rest used few = cond used (refuses (busy_session id) world) (cond few rest (refuses (refusals.Limit quantities.Sends most_sends) world))

tested_so : (id : ℕ) (world : World) (rest : Moved) (used few : Bool)
    → id_tested id world rest used few ≡ or_refused (cond used (Some (busy_session id)) (cond few None (Some (refusals.Limit quantities.Sends most_sends)))) world rest
tested_so id world rest true few = refl
tested_so id world rest false true = refl
tested_so id world rest false false = refl

-- E5 and E23 of a send come where the definition says so
new_send : (id : ℕ) (here there : Kept) (sends : List kept_sends.OpenSend) (receives : List kept_receives.OpenReceive) (world : World) → Stands true here there sends receives world
    → (rest : Moved) → if_new_send id world rest ≡ or_refused (send_refusal id sends receives) world rest
new_send id here there sends receives world stands rest =
    ap (λ (u : Bool). id_tested id world rest u (nat_lt (length world.sends) most_sends)) (sym (used_alike id here there sends receives world stands))
    ∙ ap (λ (n : ℕ). id_tested id world rest (is_coded_used id sends receives) (nat_lt n most_sends)) (sym (sends_alike here there sends receives world stands))
    ∙ tested_so id world rest (is_coded_used id sends receives) (nat_lt (length sends) most_sends)

-- ---- steps

module _ (now : ℕ) (event : Event) (side : Side) (id : ℕ) (start : Option Point) (plan : Result Sent PlanFault) (world : World) (opens : OpensSend now event side id start plan world)
    (here there here' there' : Kept) (read_here : WasOnlyRead here here') (read_there : WasOnlyRead there there')
    (sends : List kept_sends.OpenSend) (receives : List kept_receives.OpenReceive) (stands : Stands true here there sends receives world) (keep : MovesKeepWorlds)
    (works : (kept_at side here there).failed ≡ false) (other : (kept_at (other_side side) here' there').failed ≡ (kept_at (other_side side) here there).failed) where
  abbrev own : Kept
  own = kept_at side here' there'

  abbrev number : ℕ
  number = (at_side side world).pool.number

  -- where the own disk didn't fail either
  marks : own.failed ≡ false → (here'.failed ≡ here.failed) × (there'.failed ≡ there.failed)
  marks stays_open = both_stay side here there here' there' (stays_open ∙ sym works) other

  -- nothing changes by a refusal
  refuses_so : (refusal : Refusal) → own.failed ≡ false → moved now event world ≡ refuses refusal world → Steps true now world event here there here' there' sends receives (Err refusal)
  refuses_so refusal stays_open is =
      let both = marks stays_open in
      stays now event world here there here' there' read_here read_there sends receives stands keep (Err refusal) (as_defined now event world (refuses refusal world) opens.other is) both.0 both.1

  -- no memory is left
  lacks_memory : own.failed ≡ false → Steps true now world event here there here' there' sends receives (Err refusals.OutOfMemory)
  lacks_memory stays_open =
      let both = marks stays_open in
      stays now event world here there here' there' read_here read_there sends receives stands keep (Err refusals.OutOfMemory) (FindsNoMemory refl (sym opens.given)) both.0 both.1

  -- a send that wasn't begun
  pub refused_begin : (fault : PoolFault) → Begins (Has own.disk.seen (free_by own.state.body)) start number plan (Err fault) → own.failed ≡ fails (stop_of {T = Begun} (Err fault))
      → Steps true now world event here there here' there' sends receives (Err (pool_refusal fault))
  refused_begin (faults.Plan fault) is mark = refuses_so (refusal_of fault) mark (opens.opens ∙ ap (opened_send side id start world) is)
  refused_begin (faults.CannotApply fault) is mark = absurd is
  refused_begin (faults.Redacted object block) is mark = absurd is
  refused_begin (faults.Full need largest) is mark = absurd is
  refused_begin (faults.Damaged sector stated found) is mark = absurd is
  refused_begin faults.DiskFault is mark =
      loses now event world here there here' there' read_here read_there sends receives stands keep side
      (LosesDisk refl (opens.loses (put_side side (record { pool = (at_side side world).pool; failed = true }) world) (record { pool = (at_side side world).pool; one_of = inl refl; world_is = refl })))
      mark other
  refused_begin faults.Failed is mark = absurd is
  refused_begin faults.OutOfMemory is mark = lacks_memory mark

  -- and one that was, which comes behind the others or doesn't
  pub added_begin : (begun : Begun) → SendFits begun.send → Begins (Has own.disk.seen (free_by own.state.body)) start number plan (Ok begun) → own.failed ≡ false
      → (coded : List kept_sends.OpenSend) (result : Result EventReply Refusal) → AddsSend (opened_of side id begun) begun.number receives sends coded result
      → Steps true now world event here there here' there' coded receives (answer_of result)
  added_begin begun fits begins stays_open coded result (IsRefused refusal why is same) =
      let e : moved now event world ≡ refuses refusal world =
      opens.opens ∙ ap (opened_send side id start world) begins.1
      ∙ new_send id here there sends receives world stands (answers (number_line side world) (with_send (fresh side id start begins.0) world))
      ∙ ap (λ (o : Option Refusal). or_refused o world (answers (number_line side world) (with_send (fresh side id start begins.0) world))) why in
      subst (λ (r : Result EventReply Refusal). Steps true now world event here there here' there' coded receives (answer_of r)) (sym is)
      (subst (λ (c : List kept_sends.OpenSend). Steps true now world event here there here' there' c receives (Err refusal)) (sym same) (refuses_so refusal stays_open e))
  added_begin begun fits begins stays_open coded result (HasNoMemory is same) =
      subst (λ (r : Result EventReply Refusal). Steps true now world event here there here' there' coded receives (answer_of r)) (sym is)
      (subst (λ (c : List kept_sends.OpenSend). Steps true now world event here there here' there' c receives (Err refusals.OutOfMemory)) (sym same) (lacks_memory stays_open))
  added_begin begun fits begins stays_open coded result (Adds why is same) =
      let send = fresh side id start begins.0 in
      let done = answers (number_line side world) (with_send send world) in
      let e : moved now event world ≡ done =
      opens.opens ∙ ap (opened_send side id start world) begins.1 ∙ new_send id here there sends receives world stands done
      ∙ ap (λ (o : Option Refusal). or_refused o world done) why in
      let both = marks stays_open in
      let line = ap opened_line begins.2.numbered in
      subst (λ (r : Result EventReply Refusal). Steps true now world event here there here' there' coded receives (answer_of r)) (sym is)
      (subst (λ (c : List kept_sends.OpenSend). Steps true now world event here there here' there' c receives (answer_of (Ok (replies.Opened begun.number)))) (sym same)
      (sends_more now event world here there here' there' read_here read_there sends receives stands keep (answer_of (Ok (replies.Opened begun.number))) (opened_of side id begun) send
      (subst (λ (a : Answer). Moves now world event a (with_send send world)) (sym line) (as_defined now event world done opens.other e)) both.0 both.1
      (begun_stands side id start own number begins.0 begun fits begins.2)))
