use Rattle.std.proofs.Common.{◌≡◌, List, ℕ, take, Result, refl, sym, ap, subst}
use Rattle.std.specs.Vec.{with_item}
use Rattle.zst_outside.specs.declared.disk.Disk.{Ghosts}
use Rattle.zst_recv.specs.declared.fault.RecvFault.{RecvFault}
use Rattle.zst_recv.specs.declared.recv.FeedReport.{FeedReport}
use Rattle.zst_recv.specs.declared.recv.Recv.{Recv}
use Rattle.zst_script.specs.declared.event.Side.{Side}
use Rattle.zst_script.specs.declared.event.Side.TheVariants.{Here, There}
use Rattle.zst_sessions.specs.EngineSteps.{IsLaterPool, kept_pool}
use Rattle.zst_sessions.specs.Pumps.{FeedReads, FeedsKept, FeedsSide}
use Rattle.zst_sessions.specs.declared.engine.Engine.{Engine}
use Rattle.zst_sessions.specs.declared.open_sessions.OpenReceive.{OpenReceive}
use Rattle.zst_sessions.proofs.engine.Engine.feed_at.Goals as goal

-- the pool of a side was fed this text
module _ {D E : Type 0} {g : Ghosts D} {h : Ghosts E} (old new : Engine D E g h) (side : Side) (before after : Recv) (piece text : List ℕ) (fed : Result FeedReport RecvFault) (same : piece ≡ text) where
  fed_here : side ≡ Here → FeedsKept (kept_pool old.here) (kept_pool new.here) before after piece fed → IsLaterPool old.here new.here → new.there ≡ old.there
      → FeedReads before after piece old.here.kept new.here.kept new.here.io.space fed → FeedsSide side old new before after text fed
  fed_here is feeds later other reads =
      subst (λ (s : Side). FeedsSide s old new before after text fed) (sym is)
      (subst (λ (t : List ℕ). FeedsKept (kept_pool old.here) (kept_pool new.here) before after t fed) same feeds, later, other, subst (λ (t : List ℕ). FeedReads before after t old.here.kept new.here.kept new.here.io.space fed) same reads)

  fed_there : side ≡ There → FeedsKept (kept_pool old.there) (kept_pool new.there) before after piece fed → IsLaterPool old.there new.there → new.here ≡ old.here
      → FeedReads before after piece old.there.kept new.there.kept new.there.io.space fed → FeedsSide side old new before after text fed
  fed_there is feeds later other reads =
      subst (λ (s : Side). FeedsSide s old new before after text fed) (sym is)
      (subst (λ (t : List ℕ). FeedsKept (kept_pool old.there) (kept_pool new.there) before after t fed) same feeds, later, other, subst (λ (t : List ℕ). FeedReads before after t old.there.kept new.there.kept new.there.io.space fed) same reads)

pub returns-in-Here : goal.returns-in-Here
returns-in-Here g c =
    let old = c.args.self.now in
    let one = c.index_mut-open.result.now in
    let after = c.feed_into.new.recv in
    let new : Engine g.row.D.Denot g.row.E.Denot g.D.Disk g.E.Disk = record old { here = c.feed_into.new.pool; receives = with_item old.receives c.args.place (record one { recv = after }) } in
    record {
      one = one;
      after = after;
      feeds = record {
        is_there = sym c.index_mut-open.ensures.value;
        feeds = fed_here old new one.side one.recv after (take c.args.count c.as_slice.result.now) (take c.args.count old.room.items) c.feed_into.result
            (ap (λ (l : List ℕ). take c.args.count l) c.as_slice.ensures.value) c.in-Here.is c.feed_into.ensures.fed c.feed_into.ensures.later refl c.feed_into.ensures.reads;
        sends = refl;
        room = refl;
        time = refl;
      };
      receives = refl {A = List OpenReceive};
    }

pub returns-in-There : goal.returns-in-There
returns-in-There g c =
    let old = c.args.self.now in
    let one = c.index_mut-open.result.now in
    let feed = c.feed_into-in-There in
    let after = feed.new.recv in
    let new : Engine g.row.D.Denot g.row.E.Denot g.D.Disk g.E.Disk = record old { there = feed.new.pool; receives = with_item old.receives c.args.place (record one { recv = after }) } in
    record {
      one = one;
      after = after;
      feeds = record {
        is_there = sym c.index_mut-open.ensures.value;
        feeds = fed_there old new one.side one.recv after (take c.args.count c.as_slice.result.now) (take c.args.count old.room.items) feed.result
            (ap (λ (l : List ℕ). take c.args.count l) c.as_slice.ensures.value) c.in-There.is feed.ensures.fed feed.ensures.later refl feed.ensures.reads;
        sends = refl;
        room = refl;
        time = refl;
      };
      receives = refl {A = List OpenReceive};
    }
