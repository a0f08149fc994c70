-- What a send gives is its own.
use Rattle.std.proofs.Common.{◌≡◌, ◌⊎◌, inl, inr, ℕ, ◌+◌, Bool, true, false, not, List, ◌++◌, length, take, drop, min, filter, find, Option, Some, None, Result, Ok, Err, refl, sym, ap, ◌∙◌, subst, cond, ◌==◌, ◌-◌, nat_lt, eqb-true, if◌then◌else◌, arith}
use Rattle.std.specs.Option.{option_map_or}
use Rattle.std.proofs.lemmas.List.{take-append-drop, length-take, length-take-le, length-drop, take_min}
use Rattle.std.proofs.Math.Seq.{take-append-add}
use Rattle.std.proofs.lemmas.Option.{same_Some}
use Rattle.zst_model.specs.declared.refusals.plan_fault.PlanFault.{PlanFault}
use Rattle.zst_model.specs.declared.refusals.refusal.Refusal.{Refusal}
use Rattle.zst_model.specs.declared.refusals.refusal.Refusal.TheVariants as refusals
use Rattle.zst_model.specs.declared.sends.header.Point.{Point}
use Rattle.zst_model.specs.pools.Step.{Stepped, stepped}
use Rattle.zst_model.specs.sends.Headers.{Sent}
use Rattle.zst_model.proofs.FoundElements.{found_kept, found_passes}
use Rattle.zst_recv.specs.ReceiveSteps.{Stage, Waits, Lives, Ends, Fed, Goes, Stops}
use Rattle.zst_recv.specs.Tokens.{token_told}
use Rattle.zst_script.specs.declared.event.Event.{Event}
use Rattle.zst_script.specs.declared.event.Event.TheVariants as events
use Rattle.zst_script.specs.declared.event.Side.{Side}
use Rattle.zst_script.specs.declared.event.Side.TheVariants.{Here, There}
use Rattle.zst_model.specs.sends.SendPlan.{send_plan, with_list}
use Rattle.zst_send.specs.Openings.{rest_of}
use Rattle.zst_send.specs.Sends.{SameViewsSameRest, begun_text}
use Rattle.zst_token.specs.declared.token.Token.{Token}
use Rattle.zst_sessions.specs.World.{OpenSend, OpenReceive, World, at_side, other_side, is_side, send_with, receive_with, is_used, held_at, put_send, next_piece, gone_on}
use Rattle.zst_sessions.specs.Moves.{Moved, ended, fed_on, fed_to, if_new_receive, if_new_send, in_the_way, no_session, on_receive, on_send, most_receives, most_sends, moved, opened_send, pumped, refuses, resumed, stepped_to, told_by}
use Rattle.zst_sessions.specs.Replay.{DiskFails, Fails, AsDefined, FindsNoRoom, FindsNoMemory, LosesDisk, TakesNoPiece, given_up, given_up_pump}
use Rattle.zst_sessions.specs.OwnSends.{Closes, PiecesAreAlike, PiecesAreOwn, SendsStay, asked_of}
use Rattle.zst_sessions.proofs.FoundSessions.{found_front, found_other, found_put}
use Rattle.zst_sessions.proofs.Worlds.{put_sends}

-- ---- pieces

pub pieces_own : PiecesAreOwn
pieces_own send count within =
    let text = begun_text send.sent send.start in
    let front = take send.given text in
    let rest = drop send.given text in
    let size = length (take count rest) in
    let long : length front ≡ send.given = length-take-le send.given text within in
    let short : size ≡ min count (length rest) = length-take count rest in
    let left : length rest ≡ length text - send.given = length-drop send.given text in (
      omega (arith, short, left, within),
      ap (λ (t : List ℕ). take (send.given + size) t) (sym (take-append-drop send.given text))
          ∙ ap (λ (n : ℕ). take (n + size) (front ++ rest)) (sym long)
          ∙ take-append-add front rest size
          ∙ ap (λ (t : List ℕ). front ++ t) (ap (λ (n : ℕ). take n rest) short ∙ take_min count rest),
    )

pub pieces_alike : SameViewsSameRest → PiecesAreAlike
pieces_alike law one other count views starts given =
    let texts : begun_text one.sent one.start ≡ begun_text other.sent other.start = law one.sent other.sent one.start views ∙ ap (begun_text other.sent) starts in
    let piece : next_piece count one ≡ next_piece count other =
    ap (λ (n : ℕ). take count (drop n (begun_text one.sent one.start))) given ∙ ap (λ (t : List ℕ). take count (drop other.given t)) texts in
    (piece, ap (λ (p : List ℕ). one.given + length p) piece ∙ ap (λ (n : ℕ). n + length (next_piece count other)) given)

-- ---- worlds with the same sends

fed_sends : (receive : OpenReceive) (piece : List ℕ) (stage : Stage) (world : World) → (fed_on receive piece stage world).sends ≡ world.sends
fed_sends receive piece Waits world = refl
fed_sends receive piece (Lives flags partial) world = refl
fed_sends receive piece (Ends partial) world = refl

fed_to_sends : (receive : OpenReceive) (piece : List ℕ) (applied : ℕ) (world : World) (fed : Fed) → (fed_to receive piece applied world fed).world.sends ≡ world.sends
fed_to_sends receive piece applied world (Goes pool stage) = fed_sends receive piece stage _ ∙ put_sends receive.side _ world
fed_to_sends receive piece applied world (Stops pool refusal) = put_sends receive.side _ world

stepped_sends : (side : Side) (world : World) (r : Result Stepped Refusal) → (stepped_to side world r).world.sends ≡ world.sends
stepped_sends side world (Ok done) = put_sends side _ world
stepped_sends side world (Err refusal) = refl

told_sends : (world : World) (r : Result Token PlanFault) → (told_by world r).world.sends ≡ world.sends
told_sends world (Ok token) = refl
told_sends world (Err fault) = refl

module _ (id : ℕ) (send : OpenSend) where
  abbrev found_in : List OpenSend → Type 0
  found_in sends = find (λ one. one.id == id) sends ≡ Some send

  abbrev Stays : Event → List OpenSend → Type 0
  Stays event sends = found_in sends ⊎ ((find (λ one. one.id == id) sends ≡ Some (gone_on (asked_of id event) send)) ⊎ Closes id send.side event)

  -- a test that chooses between a refusal and the rest
  either : (event : Event) (t : Bool) (world : World) (refusal : Refusal) (rest : Moved) → Stays event world.sends → Stays event rest.world.sends → Stays event (cond t (refuses refusal world) rest).world.sends
  either event true world refusal rest stays on = stays
  either event false world refusal rest stays on = on

  either_last : (event : Event) (t : Bool) (world : World) (refusal : Refusal) (rest : Moved) → Stays event world.sends → Stays event rest.world.sends → Stays event (cond t rest (refuses refusal world)).world.sends
  either_last event true world refusal rest stays on = on
  either_last event false world refusal rest stays on = stays

  on_send_stays : (event : Event) (other : ℕ) (world : World) (next : OpenSend → Moved) → found_in world.sends → ((one : OpenSend) → send_with other world ≡ Some one → Stays event (next one).world.sends)
      → Stays event (on_send other world next).world.sends
  on_send_stays event other world next found on = go (send_with other world) refl
    where
      go : (o : Option OpenSend) → send_with other world ≡ o → Stays event (option_map_or next o (refuses (no_session other) world)).world.sends
      go None is = inl found
      go (Some one) is = on one is

  on_receive_stays : (event : Event) (other : ℕ) (world : World) (next : OpenReceive → Moved) → found_in world.sends → ((one : OpenReceive) → Stays event (next one).world.sends)
      → Stays event (on_receive other world next).world.sends
  on_receive_stays event other world next found on = go (receive_with other world)
    where
      go : (o : Option OpenReceive) → Stays event (option_map_or next o (refuses (no_session other) world)).world.sends
      go None = inl found
      go (Some one) = on one

  same : (event : Event) (world : World) (sends : List OpenSend) → sends ≡ world.sends → found_in world.sends → Stays event sends
  same event world sends is found = inl (ap (find (λ one. one.id == id)) is ∙ found)

  new_send : (event : Event) (other : ℕ) (world : World) (rest : Moved) → found_in world.sends → Stays event rest.world.sends → Stays event (if_new_send other world rest).world.sends
  new_send event other world rest found on =
      either event (is_used other world) world _ _ (inl found) (either_last event (nat_lt (length world.sends) most_sends) world _ rest (inl found) on)

  opened_stays : (event : Event) (side : Side) (other : ℕ) (start : Option Point) (world : World) (r : Result Sent PlanFault) → found_in world.sends → Stays event (opened_send side other start world r).world.sends
  opened_stays event side other start world (Ok sent) found = new_send event other world _ found (inl (found_front (λ one. one.id == id) world.sends _ send found))
  opened_stays event side other start world (Err fault) found = inl found

  resumed_stays : (event : Event) (side : Side) (other : ℕ) (world : World) (r : Result Token PlanFault) → found_in world.sends → Stays event (resumed side other world r).world.sends
  resumed_stays event side other world (Ok token) found = opened_stays event side other (Some token.point) world (with_list (rest_of token (at_side side world).pool)) found
  resumed_stays event side other world (Err fault) found = inl found

  new_receive : (event : Event) (o : Option ℕ) (world : World) (rest : Moved) → found_in world.sends → Stays event rest.world.sends → Stays event (if_new_receive o world rest).world.sends
  new_receive event (Some busy) world rest found on = inl found
  new_receive event None world rest found on = either_last event (nat_lt (length world.receives) most_receives) world _ rest (inl found) on

  -- a take of a send that is found
  put_stays : (event : Event) (world : World) (other count : ℕ) (one : OpenSend) → asked_of id event ≡ (if other == id then count else 0) → send_with other world ≡ Some one → found_in world.sends
      → Stays event (put_send (gone_on count one) world).sends
  put_stays event world other count one asked there found = go (other == id) refl asked
    where
      named : one.id ≡ other
      named = eqb-true one.id other (found_passes (λ s. s.id == other) world.sends one there).1

      go : (t : Bool) → (other == id) ≡ t → asked_of id event ≡ (cond t count 0) → Stays event (put_send (gone_on count one) world).sends
      go true is asked =
          let at : other ≡ id = eqb-true other id is in
          let own : one.id ≡ id = named ∙ at in
          let same : one ≡ send = same_Some one send (sym there ∙ ap (λ (n : ℕ). find (λ s. s.id == n) world.sends) at ∙ found) in
          let placed : find (λ s. s.id == one.id) (put_send (gone_on count one) world).sends ≡ Some (gone_on count one) =
          found_put (gone_on count one) world.sends one (ap (λ (n : ℕ). find (λ s. s.id == n) world.sends) named ∙ there) in
          inr (inl (ap (λ (n : ℕ). find (λ s. s.id == n) (put_send (gone_on count one) world).sends) (sym own) ∙ placed ∙ ap (λ (s : OpenSend). Some (gone_on count s)) same ∙ ap (λ (n : ℕ). Some (gone_on n send)) (sym asked)))
      go false is asked = inl (found_other (gone_on count one) world.sends id (ap (λ (n : ℕ). n == id) named ∙ is) ∙ found)

  pumped_stays : (world : World) (sends receives count : ℕ) (one : OpenSend) (receive : OpenReceive) → send_with sends world ≡ Some one → found_in world.sends
      → Stays (events.Pump sends receives count) (pumped count one receive world).world.sends
  pumped_stays world sends receives count one receive there found =
      subst (Stays (events.Pump sends receives count)) (sym (fed_to_sends receive (next_piece count one) _ (put_send (gone_on count one) world) _))
      (put_stays (events.Pump sends receives count) world sends count one refl there found)

  -- those of a pool's other side, or that of another id, stay
  is_other : (side : Side) → (send.side ≡ side) ⊎ (not (is_side send.side side) ≡ true)
  is_other side = go send.side side
    where
      go : (a b : Side) → (a ≡ b) ⊎ (not (is_side a b) ≡ true)
      go Here Here = inl refl
      go Here There = inr refl
      go There Here = inr refl
      go There There = inl refl

  ended_stays : (world : World) (side : Side) (sends : List OpenSend) → sends ≡ filter (λ one. not (is_side one.side side)) world.sends → found_in world.sends → Stays (events.Reopen side) sends
  ended_stays world side sends is found = go (is_other side)
    where
      go : (send.side ≡ side) ⊎ (not (is_side send.side side) ≡ true) → Stays (events.Reopen side) sends
      go (inl own) = inr (inr (sym own))
      go (inr other) = inl (ap (find (λ one. one.id == id)) is ∙ found_kept (λ one. one.id == id) (λ one. not (is_side one.side side)) world.sends send found other)

  closed_stays : (world : World) (other : ℕ) → found_in world.sends → Stays (events.Close other) (filter (λ one. not (one.id == other)) world.sends)
  closed_stays world other found = go (send.id == other) refl
    where
      named : send.id ≡ id
      named = eqb-true send.id id (found_passes (λ s. s.id == id) world.sends send found).1

      go : (t : Bool) → (send.id == other) ≡ t → Stays (events.Close other) (filter (λ one. not (one.id == other)) world.sends)
      go true is = inr (inr (sym (eqb-true send.id other is) ∙ named))
      go false is = inl (found_kept (λ one. one.id == id) (λ one. not (one.id == other)) world.sends send found (ap not is))

  -- ---- events

  moved_stays : (now : ℕ) (event : Event) (world : World) → found_in world.sends → Stays event (moved now event world).world.sends
  unfolding moved
  moved_stays now (events.Step side command) world found =
      either (events.Step side command) (at_side side world).failed world refusals.Failed _ (inl found)
      (same (events.Step side command) world _ (stepped_sends side world (stepped (held_at side world) now command (at_side side world).pool)) found)
  moved_stays now (events.Token side dataset) world found =
      either (events.Token side dataset) (at_side side world).failed world refusals.Failed _ (inl found)
      (same (events.Token side dataset) world _ (told_sends world (token_told dataset (at_side side world).pool)) found)
  moved_stays now (events.Check side) world found = inl found
  moved_stays now (events.Send side other ask) world found =
      either (events.Send side other ask) (at_side side world).failed world refusals.Failed _ (inl found)
      (opened_stays (events.Send side other ask) side other None world (with_list (send_plan ask (at_side side world).pool)) found)
  moved_stays now (events.Resume side other dataset) world found =
      either (events.Resume side other dataset) (at_side side world).failed world refusals.Failed _ (inl found)
      (either (events.Resume side other dataset) (at_side (other_side side) world).failed world refusals.Failed _ (inl found)
      (resumed_stays (events.Resume side other dataset) side other world (token_told dataset (at_side (other_side side) world).pool) found))
  moved_stays now (events.Receive side other ask) world found =
      either (events.Receive side other ask) (at_side side world).failed world refusals.Failed _ (inl found)
      (new_receive (events.Receive side other ask) (in_the_way side other ask.target world) world _ found (inl found))
  moved_stays now (events.Pump sends receives count) world found =
      on_send_stays (events.Pump sends receives count) sends world _ found (λ one there.
      on_receive_stays (events.Pump sends receives count) receives world _ found (λ receive.
      either (events.Pump sends receives count) (at_side one.side world).failed world refusals.Failed _ (inl found)
      (either (events.Pump sends receives count) (at_side receive.side world).failed world refusals.Failed _ (inl found)
      (pumped_stays world sends receives count one receive there found))))
  moved_stays now (events.Drop other count) world found =
      on_send_stays (events.Drop other count) other world _ found (λ one there.
      either (events.Drop other count) (at_side one.side world).failed world refusals.Failed _ (inl found) (put_stays (events.Drop other count) world other count one refl there found))
  moved_stays now (events.Close other) world found = on_send_stays (events.Close other) other world _ found (λ one there. closed_stays world other found)
  moved_stays now (events.Cut receives) world found =
      on_receive_stays (events.Cut receives) receives world _ found (λ receive. same (events.Cut receives) world _ (put_sends receive.side _ world) found)
  moved_stays now (events.Reopen side) world found = ended_stays world side _ (put_sends side _ _ ∙ put_sends side _ _) found

  -- what is left of an event that is given up
  given_up_stays : (event : Event) (world : World) → found_in world.sends → Stays event (given_up event world).sends
  given_up_stays (events.Step side command) world found = inl found
  given_up_stays (events.Token side dataset) world found = inl found
  given_up_stays (events.Check side) world found = inl found
  given_up_stays (events.Send side other ask) world found = inl found
  given_up_stays (events.Resume side other dataset) world found = inl found
  given_up_stays (events.Receive side other ask) world found = inl found
  given_up_stays (events.Pump sends receives count) world found = go (send_with sends world) refl (receive_with receives world)
    where
      go : (o : Option OpenSend) → send_with sends world ≡ o → (p : Option OpenReceive) → Stays (events.Pump sends receives count) (given_up_pump count o p world).sends
      go None is p = inl found
      go (Some one) is None = inl found
      go (Some one) is (Some receive) =
          subst (Stays (events.Pump sends receives count)) (sym (put_sends receive.side _ (put_send (gone_on count one) world)))
          (put_stays (events.Pump sends receives count) world sends count one refl is found)
  given_up_stays (events.Drop other count) world found = inl found
  given_up_stays (events.Close other) world found = inl found
  given_up_stays (events.Cut receives) world found = inl found
  given_up_stays (events.Reopen side) world found = ended_stays world side _ (put_sends side _ _) found

  -- and of one that loses a disk
  fails_stays : (event : Event) (side : Side) (left done next : World) → Fails side left done next → Stays event left.sends → Stays event next.sends
  fails_stays event side left done next fails stays = subst (Stays event) (sym (ap (λ (w : World). w.sends) fails.world_is ∙ put_sends side _ left)) stays

  lost_stays : (now : ℕ) (event : Event) (world next : World) → DiskFails now event world next → found_in world.sends → Stays event next.sends
  lost_stays now (events.Step side command) world next fails found = fails_stays (events.Step side command) side world _ next fails (inl found)
  lost_stays now (events.Token side dataset) world next fails found = absurd fails
  lost_stays now (events.Check side) world next fails found = fails_stays (events.Check side) side world _ next fails (inl found)
  lost_stays now (events.Send side other ask) world next fails found = fails_stays (events.Send side other ask) side world _ next fails (inl found)
  lost_stays now (events.Resume side other dataset) world next fails found = fails_stays (events.Resume side other dataset) side world _ next fails (inl found)
  lost_stays now (events.Receive side other ask) world next fails found = absurd fails
  lost_stays now (events.Pump sends receives count) world next (inl take) found = fails_stays (events.Pump sends receives count) take.0.side world _ next take.2 (inl found)
  lost_stays now (events.Pump sends receives count) world next (inr feed) found =
      fails_stays (events.Pump sends receives count) feed.0.side _ _ next feed.2 (given_up_stays (events.Pump sends receives count) world found)
  lost_stays now (events.Drop other count) world next take found = fails_stays (events.Drop other count) take.0.side world _ next take.2 (inl found)
  lost_stays now (events.Close other) world next fails found = absurd fails
  lost_stays now (events.Cut receives) world next fails found = absurd fails
  lost_stays now (events.Reopen side) world next fails found =
      fails_stays (events.Reopen side) side (ended side world) _ next fails (ended_stays world side _ (put_sends side _ _) found)

pub sends_stay : SendsStay
sends_stay now world next event answer id send (AsDefined a is) found = subst (λ (w : World). Stays id send event w.sends) (sym is) (moved_stays id send now event world found)
sends_stay now world next event answer id send (FindsNoRoom need largest a less may is) found = subst (λ (w : World). Stays id send event w.sends) (sym is) (given_up_stays id send event world found)
sends_stay now world next event answer id send (FindsNoMemory a is) found = subst (λ (w : World). Stays id send event w.sends) (sym is) (given_up_stays id send event world found)
sends_stay now world next event answer id send (TakesNoPiece sends receives count which a is) found = subst (λ (w : World). Stays id send event w.sends) (sym is) (inl found)
sends_stay now world next event answer id send (LosesDisk a fails) found = lost_stays id send now event world next fails found
