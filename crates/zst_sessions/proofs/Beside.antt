-- Where an event makes something of one pool that keeps its sessions so, all sessions stand on but those that the event is of.
use Rattle.std.proofs.Common.{◌≡◌, ◌≤◌, inl, inr, ℕ, true, false, List, [], ◌∷◌, filter, take, refl, ap, ◌∙◌, subst, get_or}
use Rattle.std.specs.List.{All, Contains}
use Rattle.std.proofs.lemmas.List.Elements.{All-head, All-tail}
use Rattle.zst_block.specs.Blocks.{Has}
use Rattle.zst_dir.specs.RowNames.{Match}
use Rattle.zst_image.specs.Bodies.{free_by}
use Rattle.zst_image.specs.Reads.{bound_of}
use Rattle.zst_model.proofs.FilteredLists.{contains-filter}
use Rattle.zst_model.proofs.InsertedLaws.{contains-map, contains_first, contains_later}
use Rattle.zst_model.specs.pools.Pool.{Pool}
use Rattle.zst_plan.specs.declared.receive.RecvAsk.{RecvAsk}
use Rattle.zst_recv.specs.GoingOn.{FittingReceive, ReceivesGoOn, ReceivesOutlast}
use Rattle.zst_recv.specs.Stages.{Receives, ask_of, stage_of}
use Rattle.zst_roots.specs.declared.held.HeldBlocks.{HeldBlocks}
use Rattle.zst_script.specs.declared.event.Side.{Side}
use Rattle.zst_script.specs.declared.event.Side.TheVariants.{Here, There}
use Rattle.zst_send.specs.HeldPointers.{SendsOutlast, held_of}
use Rattle.zst_send.specs.Sends.{SendsGoOn, begun_text}
use Rattle.zst_sessions.proofs.Frames.{receive_goes, row_on, send_goes, sends_stand_on}
use Rattle.zst_sessions.proofs.HeldThings.{same_side}
use Rattle.zst_sessions.specs.EngineSteps.{KeepsHeld, KeepsSessions, LeavesRows, ReceiveFits, ReceivesStandBeside, ReceivesStandHeld, SendsStandBeside, SendsStandHeld, SessionsFitBeside, here_with, held_blocks, target_of, there_with}
use Rattle.zst_sessions.specs.Engines.{Kept, ReceiveStandsOn, SendStandsOn, kept_at}
use Rattle.zst_sessions.specs.World.{OpenReceive, OpenSend, at_side, is_side, left_of}
use Rattle.zst_sessions.specs.declared.open_sessions.OpenReceive as kept_receives
use Rattle.zst_sessions.specs.declared.open_sessions.OpenSend as kept_sends

-- what is made of each match, where that is one of those that are so
pub Match-each : {A B : Type 0} (So : B → Type 0) (Is After : A → B → Type 0) → ((x : A) (y : B) → So y → Is x y → After x y)
    → (xs : List A) (ys : List B) → All So ys → Match Is xs ys → Match After xs ys
Match-each So Is After make [] [] all m = tt
Match-each So Is After make [] (y ∷ ys) all m = absurd m
Match-each So Is After make (x ∷ xs) [] all m = absurd m
Match-each So Is After make (x ∷ xs) (y ∷ ys) all m = (make x y (All-head So y ys all) m.0, Match-each So Is After make xs ys (All-tail So y ys all) m.1)

-- so of each match whose first is one of a list
pub Match-among : {A B : Type 0} (among : List A) (Is After : A → B → Type 0) → ((x : A) (y : B) → Contains among x → Is x y → After x y)
    → (xs : List A) (ys : List B) → ((x : A) → Contains xs x → Contains among x) → Match Is xs ys → Match After xs ys
Match-among among Is After make [] [] listed m = tt
Match-among among Is After make [] (y ∷ ys) listed m = absurd m
Match-among among Is After make (x ∷ xs) [] listed m = absurd m
Match-among among Is After make (x ∷ xs) (y ∷ ys) listed m =
    (make x y (listed x (contains_first x xs)) m.0, Match-among among Is After make xs ys (λ z later. listed z (contains_later x xs z later)) m.1)

-- ---- sends

-- a send on either pool, of which one changes, where it goes on on that
send_at : (side at : Side) (here there new : Kept) (one : kept_sends.OpenSend) (send : OpenSend) → (at ≡ side → SendStandsOn (kept_at side here there) one send → SendStandsOn new one send)
    → SendStandsOn (kept_at at here there) one send → SendStandsOn (kept_at at (here_with side new here) (there_with side new there)) one send
send_at Here Here here there new one send goes is = goes refl is
send_at Here There here there new one send goes is = is
send_at There Here here there new one send goes is = is
send_at There There here there new one send goes is = goes refl is

module _ (go_on : SendsGoOn) (own : List ℕ → Type 0) where
  -- a send on the pool that changes
  send_on : (old new : Kept) → KeepsSessions own old new → (one : kept_sends.OpenSend) (send : OpenSend) → SendStandsOn old one send → SendStandsOn new one send
  send_on old new keeps one send is =
      sends_stand_on go_on old.failed new.failed old.disk.seen new.disk.seen (free_by old.state.body) (free_by new.state.body) one send
      (λ works. (keeps.leaves.mark works, keeps.blocks works)) is

  -- so where it is among those whose blocks stay: by what becomes free that it doesn't hold, and then by what is made of the pool
  module _ (outlast : SendsOutlast) (held : List HeldBlocks) where
    send_outlasts : (old new : Kept) → KeepsHeld own held old new → new.disk.honest → (one : kept_sends.OpenSend) (send : OpenSend) → Contains held (held_of one.send)
        → SendStandsOn old one send → SendStandsOn new one send
    send_outlasts old new keeps honest one send among is =
        send_goes old.failed new.failed old.disk.seen new.disk.seen (free_by old.state.body) (free_by new.state.body) one send
        (λ works.
        let spared = keeps.blocks honest works in
        let given = take send.given (begun_text send.sent send.start) in (
          keeps.leaves.mark works,
          λ was.
              go_on one.send send.sent send.start given (left_of send) old.disk.seen new.disk.seen spared.over (free_by new.state.body) spared.blocks
              (outlast one.send send.sent send.start given (left_of send) old.disk.seen (free_by old.state.body) spared.over
              (λ sector its. spared.unreached sector (inr (record { row = held_of one.send; listed = among; reached = its }))) was),
        )) is

pub sends_beside : SendsGoOn → SendsStandBeside
sends_beside go_on side own here there new coded sends keeps match =
    Match-each (λ send. Unit {0}) (λ one send. SendStandsOn (kept_at send.side here there) one send)
    (λ one send. SendStandsOn (kept_at send.side (here_with side new here) (there_with side new there)) one send)
    (λ one send so is. send_at side send.side here there new one send (λ on was. send_on go_on own (kept_at side here there) new keeps one send was) is) coded sends (λ k d lt. tt) match

-- what a send of a pool holds is among what the sends of that pool do
among_held : (side : Side) (coded : List kept_sends.OpenSend) (one : kept_sends.OpenSend) → Contains coded one → one.side ≡ side → Contains (held_blocks side coded) (held_of one.send)
among_held side coded one there on =
    let of_side = λ (s : kept_sends.OpenSend). is_side s.side side in
    contains-map (λ (s : kept_sends.OpenSend). held_of s.send) (filter of_side coded) one (contains-filter of_side coded one there (ap (λ (s : Side). is_side s side) on ∙ same_side side))

pub sends_beside_held : SendsGoOn → SendsOutlast → SendsStandHeld
sends_beside_held go_on outlast side own here there new coded sends keeps honest match =
    Match-among coded (λ one send. SendStandsOn (kept_at send.side here there) one send)
    (λ one send. SendStandsOn (kept_at send.side (here_with side new here) (there_with side new there)) one send)
    (λ one send listed is.
    send_at side send.side here there new one send
    (λ on was. send_outlasts go_on own outlast (held_blocks side coded) (kept_at side here there) new keeps honest one send (among_held side coded one listed (is.side ∙ on)) was) is)
    coded sends (λ one listed. listed) match

-- ---- receives

-- a receive on a pool that is kept as it was, whose number doesn't fall
pub receive_stays : ReceivesGoOn → (kept : Kept) (pool next : Pool) → pool.number ≤ next.number → (one : kept_receives.OpenReceive) (receive : OpenReceive)
    → ReceiveStandsOn true kept pool one receive → ReceiveStandsOn true kept next one receive
receive_stays go_on kept pool next later one receive is = record {
  id = is.id;
  side = is.side;
  ask = is.ask;
  live = is.live;
  fits = is.fits;
  row = is.row;
  fed = is.fed;
  receives = λ works.
      go_on true pool.number next.number kept.disk.seen kept.disk.seen (free_by kept.state.body) (free_by kept.state.body) one.recv receive.text receive.stage
      later (λ ptr bytes has. has) (is.receives works);
}

-- a receive on either pool, where it goes on on the one that changes
receive_at : ReceivesGoOn → (side at : Side) (here there new : Kept) (pool next : Pool) → pool.number ≤ next.number → (one : kept_receives.OpenReceive) (receive : OpenReceive)
    → (at ≡ side → ReceiveStandsOn true (kept_at side here there) pool one receive → ReceiveStandsOn true new next one receive)
    → ReceiveStandsOn true (kept_at at here there) pool one receive → ReceiveStandsOn true (kept_at at (here_with side new here) (there_with side new there)) next one receive
receive_at go_on Here Here here there new pool next later one receive goes is = goes refl is
receive_at go_on Here There here there new pool next later one receive goes is = receive_stays go_on there pool next later one receive is
receive_at go_on There Here here there new pool next later one receive goes is = receive_stays go_on here pool next later one receive is
receive_at go_on There There here there new pool next later one receive goes is = goes refl is

module _ (go_on : ReceivesGoOn) (fitting : FittingReceive) (own : List ℕ → Type 0) where
  -- one on the pool that changes, whose row isn't the event's own, and which goes on from what was there
  receive_left : (old new : Kept) → LeavesRows own old new → (pool next : Pool) (one : kept_receives.OpenReceive) (receive : OpenReceive) → ¬ (own receive.ask.target)
      → (new.failed ≡ false → Receives (bound_of true pool.number) (Has old.disk.seen (free_by old.state.body)) one.recv receive.text receive.stage
      → Receives (bound_of true next.number) (Has new.disk.seen (free_by new.state.body)) one.recv receive.text receive.stage)
      → ReceiveStandsOn true old pool one receive → ReceiveStandsOn true new next one receive
  receive_left old new leaves pool next one receive other goes is =
      receive_goes fitting true pool.number next.number old.failed new.failed old.disk.seen new.disk.seen (free_by old.state.body) (free_by new.state.body)
      old.state.dir new.state.dir one receive leaves.lawful
      (leaves.rows one.recv.ask.target (λ its. other (subst (λ (ask : RecvAsk). own ask.target) is.ask its)))
      (λ works. (leaves.mark works, goes works)) is

  -- by the blocks that were there
  receive_on : (old new : Kept) → KeepsSessions own old new → (pool next : Pool) → pool.number ≤ next.number → (one : kept_receives.OpenReceive) (receive : OpenReceive)
      → ¬ (own receive.ask.target) → ReceiveStandsOn true old pool one receive → ReceiveStandsOn true new next one receive
  receive_on old new keeps pool next later one receive other =
      receive_left old new keeps.leaves pool next one receive other
      (λ works.
      go_on true pool.number next.number old.disk.seen new.disk.seen (free_by old.state.body) (free_by new.state.body) one.recv receive.text receive.stage
      later (keeps.blocks works))

  pub receive_beside : (side at : Side) (here there new : Kept) → KeepsSessions own (kept_at side here there) new → (pool next : Pool) → pool.number ≤ next.number
      → (one : kept_receives.OpenReceive) (receive : OpenReceive) → (at ≡ side → ¬ (own receive.ask.target))
      → ReceiveStandsOn true (kept_at at here there) pool one receive → ReceiveStandsOn true (kept_at at (here_with side new here) (there_with side new there)) next one receive
  receive_beside side at here there new keeps pool next later one receive other =
      receive_at go_on side at here there new pool next later one receive (λ on. receive_on (kept_at side here there) new keeps pool next later one receive (other on))

  -- or first by what becomes free that the rows don't reach
  receive_outlasts : ReceivesOutlast → (held : List HeldBlocks) (old new : Kept) → KeepsHeld own held old new → new.disk.honest → (pool next : Pool) → pool.number ≤ next.number
      → (one : kept_receives.OpenReceive) (receive : OpenReceive) → ¬ (own receive.ask.target) → ReceiveStandsOn true old pool one receive → ReceiveStandsOn true new next one receive
  receive_outlasts outlast held old new keeps honest pool next later one receive other is =
      receive_left old new keeps.leaves pool next one receive other
      (λ works was.
      let spared = keeps.blocks honest works in
      go_on true pool.number next.number old.disk.seen new.disk.seen spared.over (free_by new.state.body) one.recv receive.text receive.stage later spared.blocks
      (outlast (bound_of true pool.number) old.disk.seen (free_by old.state.body) spared.over old.state.dir one.recv receive.text receive.stage is.live is.row
      (λ sector its. spared.unreached sector (inl its)) was)) is

pub receives_beside : ReceivesGoOn → FittingReceive → ReceivesStandBeside
receives_beside go_on fitting side own here there new world next coded receives keeps later others match =
    Match-each (λ receive. receive.side ≡ side → ¬ (own receive.ask.target))
    (λ one receive. ReceiveStandsOn true (kept_at receive.side here there) (at_side receive.side world).pool one receive)
    (λ one receive. ReceiveStandsOn true (kept_at receive.side (here_with side new here) (there_with side new there)) (at_side receive.side next).pool one receive)
    (λ one receive other is. receive_beside go_on fitting own side receive.side here there new keeps (at_side receive.side world).pool (at_side receive.side next).pool (later receive.side) one receive other is)
    coded receives others match

pub receives_beside_held : ReceivesGoOn → FittingReceive → ReceivesOutlast → ReceivesStandHeld
receives_beside_held go_on fitting outlast side own held here there new world next coded receives keeps honest later others match =
    Match-each (λ receive. receive.side ≡ side → ¬ (own receive.ask.target))
    (λ one receive. ReceiveStandsOn true (kept_at receive.side here there) (at_side receive.side world).pool one receive)
    (λ one receive. ReceiveStandsOn true (kept_at receive.side (here_with side new here) (there_with side new there)) (at_side receive.side next).pool one receive)
    (λ one receive other is.
    let pool = (at_side receive.side world).pool in
    let after = (at_side receive.side next).pool in
    receive_at go_on side receive.side here there new pool after (later receive.side) one receive
    (λ on. receive_outlasts go_on fitting own outlast held (kept_at side here there) new keeps honest pool after (later receive.side) one receive (other on)) is)
    coded receives others match

-- ---- what is kept of sessions

module _ (fitting : FittingReceive) (own : List ℕ → Type 0) where
  -- a receive on the pool that changes, whose row isn't the event's own
  fits_on : (old new : Kept) → LeavesRows own old new → (one : kept_receives.OpenReceive) → ¬ (own (target_of one)) → ReceiveFits old.state.dir one → ReceiveFits new.state.dir one
  fits_on old new leaves one other is =
      let row = row_on old.state.dir new.state.dir (ask_of one.recv).target (stage_of one.recv) (leaves.rows (target_of one) other) is.row in
      record { live = is.live; fits = fitting old.state.dir new.state.dir one.recv leaves.lawful row is.fits; row = row; fed = is.fed }

  -- a receive on either
  pub fits_beside : (side at : Side) (here there new : Kept) → LeavesRows own (kept_at side here there) new → (one : kept_receives.OpenReceive) → (at ≡ side → ¬ (own (target_of one)))
      → ReceiveFits (kept_at at here there).state.dir one → ReceiveFits (kept_at at (here_with side new here) (there_with side new there)).state.dir one
  fits_beside Here Here here there new leaves one other is = fits_on here new leaves one (other refl) is
  fits_beside Here There here there new leaves one other is = is
  fits_beside There Here here there new leaves one other is = is
  fits_beside There There here there new leaves one other is = fits_on there new leaves one (other refl) is

pub sessions_fit_beside : FittingReceive → SessionsFitBeside
sessions_fit_beside fitting Here own here there new sends receives leaves others fits = record {
  here_ready = leaves.ready;
  there_ready = fits.there_ready;
  sends_fit = fits.sends_fit;
  receives_fit = λ k d lt. fits_beside fitting own Here (get_or receives k d).side here there new leaves (get_or receives k d) (others k d lt) (fits.receives_fit k d lt);
  targets = fits.targets;
}
sessions_fit_beside fitting There own here there new sends receives leaves others fits = record {
  here_ready = fits.here_ready;
  there_ready = leaves.ready;
  sends_fit = fits.sends_fit;
  receives_fit = λ k d lt. fits_beside fitting own There (get_or receives k d).side here there new leaves (get_or receives k d) (others k d lt) (fits.receives_fit k d lt);
  targets = fits.targets;
}
