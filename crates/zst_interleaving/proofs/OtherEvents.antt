-- An event leaves a receive as it stood, unless it feeds it or ends it.
use Rattle.std.proofs.Common.{◌≡◌, ◌⊎◌, inl, inr, ℕ, Bool, true, false, not, List, [], ◌∷◌, ◌++◌, length, map, filter, find, nat_lt, Option, Some, None, Result, Ok, Err, refl, sym, ap, ◌∙◌, subst, cond, ◌==◌, eq-eqb, eqb-true}
use Rattle.std.specs.Option.{option_map_or}
use Rattle.zst_model.specs.declared.refusals.plan_fault.PlanFault.{PlanFault}
use Rattle.zst_model.specs.declared.refusals.refusal.Refusal.{Refusal}
use Rattle.zst_model.specs.declared.refusals.refusal.Refusal.TheVariants as refusals
use Rattle.zst_model.specs.declared.sends.header.Point.{Point}
use Rattle.zst_model.specs.pools.Pool.{Pool}
use Rattle.zst_model.specs.pools.Step.{Stepped, stepped}
use Rattle.zst_model.specs.sends.Headers.{Sent}
use Rattle.zst_model.specs.sends.SendPlan.{send_plan, with_list}
use Rattle.zst_model.proofs.FoundElements.{found_kept, found_passes}
use Rattle.zst_recv.specs.Answers.{applied_of}
use Rattle.zst_recv.specs.ReceiveSteps.{Stage, Waits, Lives, Ends, Fed, Goes, Stops, left_by}
use Rattle.zst_recv.specs.Tokens.{token_told}
use Rattle.zst_script.specs.declared.event.Event.{Event}
use Rattle.zst_script.specs.declared.event.Event.TheVariants as events
use Rattle.zst_script.specs.declared.event.Side.{Side}
use Rattle.zst_script.specs.declared.event.Side.TheVariants.{Here, There}
use Rattle.zst_send.specs.Openings.{rest_of}
use Rattle.zst_token.specs.declared.token.Token.{Token}
use Rattle.zst_sessions.specs.World.{OpenPool, OpenReceive, OpenSend, World, at_side, other_side, is_side, gone_on, held_at, is_used, moved_to, next_piece, put_receive, put_send, put_side, receive_with, send_with, with_running, without_receive}
use Rattle.zst_sessions.specs.Moves.{Moved, ended, fed_to, feeding, if_new_receive, if_new_send, in_the_way, most_receives, most_sends, moved, no_session, on_receive, on_send, opened_send, refuses, resumed, stepped_to, told_by}
use Rattle.zst_sessions.specs.Replay.{AsDefined, DiskFails, Fails, FindsNoMemory, FindsNoRoom, LosesDisk, given_up, given_up_pump, TakesNoPiece}
use Rattle.zst_interleaving.specs.Events.{FeedsOrEnds, ReceivesStay}

-- ---- lists

-- one that is found is found in a longer list too
found_front : (test : OpenReceive → Bool) (xs ys : List OpenReceive) (x : OpenReceive) → find test xs ≡ Some x → find test (xs ++ ys) ≡ Some x
found_front test [] ys x e = absurd cc
found_front test (a ∷ xs) ys x e = go (test a) e (found_front test xs ys x)
  where
    go : (t : Bool) → cond t (Some a) (find test xs) ≡ Some x → (find test xs ≡ Some x → find test (xs ++ ys) ≡ Some x) → cond t (Some a) (find test (xs ++ ys)) ≡ Some x
    go true e on = e
    go false e on = on e

-- where another is put elsewhere, all else is found as before
moved_other : (id other : ℕ) (text : List ℕ) (stage : Stage) (rs : List OpenReceive) → (other == id) ≡ false → find (λ r. r.id == id) (map (moved_to other text stage) rs) ≡ find (λ r. r.id == id) rs
moved_other id other text stage [] apart = refl
moved_other id other text stage (one ∷ rest) apart = go (one.id == other) refl (moved_other id other text stage rest apart)
  where
    go : (t : Bool) → (one.id == other) ≡ t → find (λ r. r.id == id) (map (moved_to other text stage) rest) ≡ find (λ r. r.id == id) rest
        → find (λ r. r.id == id) (cond t (record one { text = text; stage = stage }) one ∷ map (moved_to other text stage) rest) ≡ find (λ r. r.id == id) (one ∷ rest)
    go true is more =
        let no : (one.id == id) ≡ false = ap (λ (n : ℕ). n == id) (eqb-true one.id other is) ∙ apart in
        ap (λ (t : Bool). cond t (Some (record one { text = text; stage = stage })) (find (λ r. r.id == id) (map (moved_to other text stage) rest))) no ∙ more
        ∙ sym (ap (λ (t : Bool). cond t (Some one) (find (λ r. r.id == id) rest)) no)
    go false is more = ap (λ (o : Option OpenReceive). cond (one.id == id) (Some one) o) more

apart_too : (a b : ℕ) → (a == b) ≡ false → (b == a) ≡ false
apart_too a b apart = go (b == a) refl
  where
    go : (t : Bool) → (b == a) ≡ t → (b == a) ≡ false
    go true is = absurd (let both = sym (eq-eqb a b (sym (eqb-true b a is))) ∙ apart in cc)
    go false is = is

put_receives : (side : Side) (pool : OpenPool) (world : World) → (put_side side pool world).receives ≡ world.receives
put_receives Here pool world = refl
put_receives There pool world = refl

stepped_receives : (side : Side) (world : World) (r : Result Stepped Refusal) → (stepped_to side world r).world.receives ≡ world.receives
stepped_receives side world (Ok done) = put_receives side _ world
stepped_receives side world (Err refusal) = refl

told_receives : (world : World) (r : Result Token PlanFault) → (told_by world r).world.receives ≡ world.receives
told_receives world (Ok token) = refl
told_receives world (Err fault) = refl

module _ (id : ℕ) (receive : OpenReceive) where
  abbrev found_in : List OpenReceive → Type 0
  found_in rs = find (λ one. one.id == id) rs ≡ Some receive

  abbrev Stays : Event → List OpenReceive → Type 0
  Stays event rs = found_in rs ⊎ FeedsOrEnds id receive.side event

  -- a test that chooses between a refusal and the rest
  either : (event : Event) (t : Bool) (world : World) (refusal : Refusal) (rest : Moved) → Stays event world.receives → Stays event rest.world.receives → Stays event (cond t (refuses refusal world) rest).world.receives
  either event true world refusal rest stays on = stays
  either event false world refusal rest stays on = on

  either_last : (event : Event) (t : Bool) (world : World) (refusal : Refusal) (rest : Moved) → Stays event world.receives → Stays event rest.world.receives → Stays event (cond t rest (refuses refusal world)).world.receives
  either_last event true world refusal rest stays on = on
  either_last event false world refusal rest stays on = stays

  on_send_stays : (event : Event) (other : ℕ) (world : World) (next : OpenSend → Moved) → found_in world.receives → ((one : OpenSend) → Stays event (next one).world.receives)
      → Stays event (on_send other world next).world.receives
  on_send_stays event other world next found on = go (send_with other world)
    where
      go : (o : Option OpenSend) → Stays event (option_map_or next o (refuses (no_session other) world)).world.receives
      go None = inl found
      go (Some one) = on one

  on_receive_stays : (event : Event) (other : ℕ) (world : World) (next : OpenReceive → Moved) → found_in world.receives
      → ((one : OpenReceive) → receive_with other world ≡ Some one → Stays event (next one).world.receives) → Stays event (on_receive other world next).world.receives
  on_receive_stays event other world next found on = go (receive_with other world) refl
    where
      go : (o : Option OpenReceive) → receive_with other world ≡ o → Stays event (option_map_or next o (refuses (no_session other) world)).world.receives
      go None is = inl found
      go (Some one) is = on one is

  same : (event : Event) (world : World) (rs : List OpenReceive) → rs ≡ world.receives → found_in world.receives → Stays event rs
  same event world rs is found = inl (ap (find (λ one. one.id == id)) is ∙ found)

  new_send : (event : Event) (other : ℕ) (world : World) (rest : Moved) → found_in world.receives → Stays event rest.world.receives → Stays event (if_new_send other world rest).world.receives
  new_send event other world rest found on =
      either event (is_used other world) world _ _ (inl found) (either_last event (nat_lt (length world.sends) most_sends) world _ rest (inl found) on)

  opened_stays : (event : Event) (side : Side) (other : ℕ) (start : Option Point) (world : World) (r : Result Sent PlanFault) → found_in world.receives
      → Stays event (opened_send side other start world r).world.receives
  opened_stays event side other start world (Ok sent) found = new_send event other world _ found (inl found)
  opened_stays event side other start world (Err fault) found = inl found

  resumed_stays : (event : Event) (side : Side) (other : ℕ) (world : World) (r : Result Token PlanFault) → found_in world.receives → Stays event (resumed side other world r).world.receives
  resumed_stays event side other world (Ok token) found = opened_stays event side other (Some token.point) world (with_list (rest_of token (at_side side world).pool)) found
  resumed_stays event side other world (Err fault) found = inl found

  new_receive : (event : Event) (o : Option ℕ) (world : World) (rest : Moved) → found_in world.receives → Stays event rest.world.receives → Stays event (if_new_receive o world rest).world.receives
  new_receive event (Some busy) world rest found on = inl found
  new_receive event None world rest found on = either_last event (nat_lt (length world.receives) most_receives) world _ rest (inl found) on

  -- another receive is over, or stands elsewhere
  out_stays : (other : OpenReceive) (side : Side) (pool : Pool) (world : World) → (other.id == id) ≡ false → found_in world.receives
      → found_in (without_receive other.id (with_running side pool world)).receives
  out_stays other side pool world apart found =
      let own : receive.id ≡ id = eqb-true receive.id id (found_passes (λ r. r.id == id) world.receives receive found).1 in
      let keeps : not (receive.id == other.id) ≡ true = ap not (ap (λ (n : ℕ). n == other.id) own ∙ apart_too other.id id apart) in
      found_kept (λ r. r.id == id) (λ r. not (r.id == other.id)) (with_running side pool world).receives receive (ap (find (λ r. r.id == id)) (put_receives side _ world) ∙ found) keeps

  put_stays : (other : OpenReceive) (side : Side) (pool : Pool) (text : List ℕ) (stage : Stage) (world : World) → (other.id == id) ≡ false → found_in world.receives
      → found_in (put_receive other.id text stage (with_running side pool world)).receives
  put_stays other side pool text stage world apart found =
      moved_other id other.id text stage (with_running side pool world).receives apart ∙ ap (find (λ r. r.id == id)) (put_receives side _ world) ∙ found

  fed_stays : (other : OpenReceive) (piece : List ℕ) (applied : ℕ) (world : World) (f : Fed) → (other.id == id) ≡ false → found_in world.receives → found_in (fed_to other piece applied world f).world.receives
  fed_stays other piece applied world (Goes pool Waits) apart found = put_stays other other.side pool (other.text ++ piece) Waits world apart found
  fed_stays other piece applied world (Goes pool (Lives flags partial)) apart found = put_stays other other.side pool (other.text ++ piece) (Lives flags partial) world apart found
  fed_stays other piece applied world (Goes pool (Ends partial)) apart found = out_stays other other.side pool world apart found
  fed_stays other piece applied world (Stops pool refusal) apart found = out_stays other other.side pool world apart found

  -- that is one with another id, unless the event is a feed or an end
  by_id : (event : Event) (others : ℕ) (world : World) (rs : List OpenReceive) (other : OpenReceive) → receive_with others world ≡ Some other
      → (others ≡ id → FeedsOrEnds id receive.side event) → ((other.id == id) ≡ false → found_in rs) → Stays event rs
  by_id event others world rs other there own apart = go (others == id) refl
    where
      named : other.id ≡ others
      named = eqb-true other.id others (found_passes (λ r. r.id == others) world.receives other there).1

      go : (t : Bool) → (others == id) ≡ t → Stays event rs
      go true is = inr (own (eqb-true others id is))
      go false is = inl (apart (ap (λ (n : ℕ). n == id) named ∙ is))

  is_other : (side : Side) → (receive.side ≡ side) ⊎ (not (is_side receive.side side) ≡ true)
  is_other side = go receive.side side
    where
      go : (a b : Side) → (a ≡ b) ⊎ (not (is_side a b) ≡ true)
      go Here Here = inl refl
      go Here There = inr refl
      go There Here = inr refl
      go There There = inl refl

  ended_stays : (world : World) (side : Side) (rs : List OpenReceive) → rs ≡ filter (λ one. not (is_side one.side side)) world.receives → found_in world.receives → Stays (events.Reopen side) rs
  ended_stays world side rs is found = go (is_other side)
    where
      go : (receive.side ≡ side) ⊎ (not (is_side receive.side side) ≡ true) → Stays (events.Reopen side) rs
      go (inl own) = inr (sym own)
      go (inr other) = inl (ap (find (λ one. one.id == id)) is ∙ found_kept (λ one. one.id == id) (λ one. not (is_side one.side side)) world.receives receive found other)

  -- ---- events

  moved_stays : (now : ℕ) (event : Event) (world : World) → found_in world.receives → Stays event (moved now event world).world.receives
  unfolding moved
  moved_stays now (events.Step side command) world found =
      either (events.Step side command) (at_side side world).failed world refusals.Failed _ (inl found)
      (same (events.Step side command) world _ (stepped_receives side world (stepped (held_at side world) now command (at_side side world).pool)) found)
  moved_stays now (events.Token side dataset) world found =
      either (events.Token side dataset) (at_side side world).failed world refusals.Failed _ (inl found)
      (same (events.Token side dataset) world _ (told_receives world (token_told dataset (at_side side world).pool)) found)
  moved_stays now (events.Check side) world found = inl found
  moved_stays now (events.Send side other ask) world found =
      either (events.Send side other ask) (at_side side world).failed world refusals.Failed _ (inl found)
      (opened_stays (events.Send side other ask) side other None world (with_list (send_plan ask (at_side side world).pool)) found)
  moved_stays now (events.Resume side other dataset) world found =
      either (events.Resume side other dataset) (at_side side world).failed world refusals.Failed _ (inl found)
      (either (events.Resume side other dataset) (at_side (other_side side) world).failed world refusals.Failed _ (inl found)
      (resumed_stays (events.Resume side other dataset) side other world (token_told dataset (at_side (other_side side) world).pool) found))
  moved_stays now (events.Receive side other ask) world found =
      either (events.Receive side other ask) (at_side side world).failed world refusals.Failed _ (inl found)
      (new_receive (events.Receive side other ask) (in_the_way side other ask.target world) world _ found (inl (found_front (λ one. one.id == id) world.receives _ receive found)))
  moved_stays now (events.Pump sends receives count) world found =
      on_send_stays (events.Pump sends receives count) sends world _ found (λ one.
      on_receive_stays (events.Pump sends receives count) receives world _ found (λ other there.
      either (events.Pump sends receives count) (at_side one.side world).failed world refusals.Failed _ (inl found)
      (either (events.Pump sends receives count) (at_side other.side world).failed world refusals.Failed _ (inl found)
      (by_id (events.Pump sends receives count) receives world _ other there (λ own. own) (λ apart.
      fed_stays other (next_piece count one) (applied_of other.ask other.text (next_piece count one) other.stage (at_side other.side world).pool) (put_send (gone_on count one) world)
      (feeding other.ask other.text (next_piece count one) other.stage (at_side other.side world).pool) apart found)))))
  moved_stays now (events.Drop other count) world found =
      on_send_stays (events.Drop other count) other world _ found (λ one. either (events.Drop other count) (at_side one.side world).failed world refusals.Failed _ (inl found) (inl found))
  moved_stays now (events.Close other) world found = on_send_stays (events.Close other) other world _ found (λ one. inl found)
  moved_stays now (events.Cut receives) world found =
      on_receive_stays (events.Cut receives) receives world _ found (λ other there.
      by_id (events.Cut receives) receives world _ other there (λ own. own) (λ apart. out_stays other other.side (left_by other.stage (at_side other.side world).pool) world apart found))
  moved_stays now (events.Reopen side) world found = ended_stays world side _ (put_receives side _ _ ∙ put_receives side _ _) found

  -- what is left of an event that is given up
  given_up_stays : (event : Event) (world : World) → found_in world.receives → Stays event (given_up event world).receives
  given_up_stays (events.Step side command) world found = inl found
  given_up_stays (events.Token side dataset) world found = inl found
  given_up_stays (events.Check side) world found = inl found
  given_up_stays (events.Send side other ask) world found = inl found
  given_up_stays (events.Resume side other dataset) world found = inl found
  given_up_stays (events.Receive side other ask) world found = inl found
  given_up_stays (events.Pump sends receives count) world found = go (send_with sends world) (receive_with receives world) refl
    where
      go : (o : Option OpenSend) (p : Option OpenReceive) → receive_with receives world ≡ p → Stays (events.Pump sends receives count) (given_up_pump count o p world).receives
      go None p is = inl found
      go (Some one) None is = inl found
      go (Some one) (Some other) is =
          by_id (events.Pump sends receives count) receives world _ other is (λ own. own) (λ apart.
          out_stays other other.side (left_by other.stage (at_side other.side (put_send (gone_on count one) world)).pool) (put_send (gone_on count one) world) apart found)
  given_up_stays (events.Drop other count) world found = inl found
  given_up_stays (events.Close other) world found = inl found
  given_up_stays (events.Cut receives) world found = inl found
  given_up_stays (events.Reopen side) world found = ended_stays world side _ (put_receives side _ _) found

  -- and of one that loses a disk
  fails_stays : (event : Event) (side : Side) (left done next : World) → Fails side left done next → Stays event left.receives → Stays event next.receives
  fails_stays event side left done next fails stays = subst (Stays event) (sym (ap (λ (w : World). w.receives) fails.world_is ∙ put_receives side _ left)) stays

  lost_stays : (now : ℕ) (event : Event) (world next : World) → DiskFails now event world next → found_in world.receives → Stays event next.receives
  lost_stays now (events.Step side command) world next fails found = fails_stays (events.Step side command) side world _ next fails (inl found)
  lost_stays now (events.Token side dataset) world next fails found = absurd fails
  lost_stays now (events.Check side) world next fails found = fails_stays (events.Check side) side world _ next fails (inl found)
  lost_stays now (events.Send side other ask) world next fails found = fails_stays (events.Send side other ask) side world _ next fails (inl found)
  lost_stays now (events.Resume side other dataset) world next fails found = fails_stays (events.Resume side other dataset) side world _ next fails (inl found)
  lost_stays now (events.Receive side other ask) world next fails found = absurd fails
  lost_stays now (events.Pump sends receives count) world next (inl take) found = fails_stays (events.Pump sends receives count) take.0.side world _ next take.2 (inl found)
  lost_stays now (events.Pump sends receives count) world next (inr feed) found =
      fails_stays (events.Pump sends receives count) feed.0.side _ _ next feed.2 (given_up_stays (events.Pump sends receives count) world found)
  lost_stays now (events.Drop other count) world next take found = fails_stays (events.Drop other count) take.0.side world _ next take.2 (inl found)
  lost_stays now (events.Close other) world next fails found = absurd fails
  lost_stays now (events.Cut receives) world next fails found = absurd fails
  lost_stays now (events.Reopen side) world next fails found =
      fails_stays (events.Reopen side) side (ended side world) _ next fails (ended_stays world side _ (put_receives side _ _) found)

pub receives_stay : ReceivesStay
receives_stay now world next event answer id receive (AsDefined a is) found = subst (λ (w : World). Stays id receive event w.receives) (sym is) (moved_stays id receive now event world found)
receives_stay now world next event answer id receive (FindsNoRoom need largest a less may is) found = subst (λ (w : World). Stays id receive event w.receives) (sym is) (given_up_stays id receive event world found)
receives_stay now world next event answer id receive (FindsNoMemory a is) found = subst (λ (w : World). Stays id receive event w.receives) (sym is) (given_up_stays id receive event world found)
receives_stay now world next event answer id receive (TakesNoPiece from into most which a is) found = subst (λ (w : World). Stays id receive event w.receives) (sym is) (inl found)
receives_stay now world next event answer id receive (LosesDisk a fails) found = lost_stays id receive now event world next fails found
