-- A receive that was fed stays in its place, or leaves.
use Rattle.std.proofs.Common.{◌≡◌, ◌<◌, ℕ, Bool, true, false, List, length, set, get_or, get_or-set_same, take, Vec, Global, Result, sym, ap, ◌∙◌}
use Rattle.std.specs.List.{remove}
use Rattle.zst_outside.specs.declared.disk.Disk.{Ghosts}
use Rattle.zst_recv.specs.Answers.{goes_on}
use Rattle.zst_recv.specs.Stages.{is_live, stage_of}
use Rattle.zst_recv.specs.declared.fault.RecvFault.{RecvFault}
use Rattle.zst_recv.specs.declared.recv.FeedReport.{FeedReport}
use Rattle.zst_recv.specs.declared.recv.Recv.{Recv}
use Rattle.zst_model.specs.declared.refusals.refusal.Refusal.{Refusal}
use Rattle.zst_script.specs.declared.event.Side.{Side}
use Rattle.zst_script.specs.declared.event.Side.TheVariants.{Here, There}
use Rattle.zst_sessions.proofs.ChangedMatches.{remove_set}
use Rattle.zst_sessions.specs.Pumps.{FeedsAt, FeedsSide, SettlesFeed, fed_reply, settled}
use Rattle.zst_sessions.specs.declared.engine.Engine.{Engine}
use Rattle.zst_sessions.specs.declared.event_reply.EventReply.{EventReply}
use Rattle.zst_sessions.specs.declared.open_sessions.OpenReceive.{OpenReceive}

-- what stands at a place where it was put
pub put_there : {A : Type 0} (xs ys : List A) (place : ℕ) (x y : A) → place < length xs → ys ≡ set xs place x → y ≡ get_or ys place y → y ≡ x
put_there xs ys place x y below is there = there ∙ ap (λ (l : List _). get_or l place y) is ∙ get_or-set_same xs place x y below

module _ {D E : Type 0} {g : Ghosts D} {h : Ghosts E} (old mid : Engine D E g h) where
  -- a receive that was fed is live where its feed says so
  live_so : (side : Side) (before after : Recv) (piece : List ℕ) (fed : Result FeedReport RecvFault) → FeedsSide side old mid before after piece fed → is_live (stage_of after) ≡ goes_on fed
  live_so Here before after piece fed is = is.0.receive.live
  live_so There before after piece fed is = is.0.receive.live

  -- the list of receives is no part of the pools
  same_side : (left : Vec OpenReceive Global) (side : Side) (before after : Recv) (piece : List ℕ) (fed : Result FeedReport RecvFault) → FeedsSide side old mid before after piece fed
      → FeedsSide side old (record mid { receives = left }) before after piece fed
  same_side left Here before after piece fed is = is
  same_side left There before after piece fed is = is

  module _ (place count : ℕ) (fed : Result FeedReport RecvFault) (feeds : FeedsAt place count old mid fed) (below : place < length old.receives.items) where
    pub live_is : is_live (stage_of feeds.after) ≡ goes_on fed
    live_is = live_so feeds.one.side feeds.one.recv feeds.after (take count old.room.items) fed feeds.feeds.feeds

    pub stands_there : (x : OpenReceive) → x ≡ get_or mid.receives.items place x → x ≡ record feeds.one { recv = feeds.after }
    stands_there x there = put_there old.receives.items mid.receives.items place (record feeds.one { recv = feeds.after }) x below feeds.receives there

    settled_as : (goes : Bool) (left : Vec OpenReceive Global) (result : Result EventReply Refusal) → goes_on fed ≡ goes → left.items ≡ settled goes place (record feeds.one { recv = feeds.after }) old.receives.items
        → result ≡ fed_reply count feeds.after fed → SettlesFeed place count old (record mid { receives = left }) result
    settled_as goes left result on is said = record {
      one = feeds.one;
      after = feeds.after;
      fed = fed;
      feeds = record {
        is_there = feeds.feeds.is_there;
        feeds = same_side left feeds.one.side feeds.one.recv feeds.after (take count old.room.items) fed feeds.feeds.feeds;
        sends = feeds.feeds.sends;
        room = feeds.feeds.room;
        time = feeds.feeds.time;
      };
      receives = is ∙ ap (λ (b : Bool). settled b place (record feeds.one { recv = feeds.after }) old.receives.items) (sym on);
      reply = said;
    }

    -- it goes on
    pub stays_settled : (result : Result EventReply Refusal) → goes_on fed ≡ true → result ≡ fed_reply count feeds.after fed → SettlesFeed place count old mid result
    stays_settled result on said = settled_as true mid.receives result on feeds.receives said

    -- it is over
    pub leaves_settled : (left : Vec OpenReceive Global) (result : Result EventReply Refusal) → goes_on fed ≡ false → left.items ≡ remove mid.receives.items place → result ≡ fed_reply count feeds.after fed
        → SettlesFeed place count old (record mid { receives = left }) result
    leaves_settled left result over is said =
        settled_as false left result over
        (is ∙ ap (λ (l : List OpenReceive). remove l place) feeds.receives ∙ remove_set old.receives.items place (record feeds.one { recv = feeds.after })) said
