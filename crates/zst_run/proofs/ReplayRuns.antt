-- Runs of events of the engine, one after another.
use Rattle.std.specs.Prelude.{Contains, Result, Ok, Err}
use Rattle.std.proofs.Common.{sym, ◌≡◌, ◌≢◌, ◌≤◌, inl, inr, ℕ, ◌⊎◌, true, false, All, List, [], ◌∷◌, ◌++◌, refl, ap, ◌∙◌, subst, arith, ◌+◌, length, length-append}
use Rattle.std.proofs.lemmas.List.Elements.{All-append, All-cons, All-head, All-nil, All-tail, All-weaker, Contains-append_left, Contains-append_right, Contains-push}
use Rattle.zst_outside.specs.Causes.{Rose, Rose-earlier}
use Rattle.zst_outside.specs.Images.{DiskState, Leaves, Leaves-none, Leaves-then, Leaves-weaker}
use Rattle.zst_outside.specs.declared.disk.Disk.{Ghosts}
use Rattle.zst_space.specs.FreeSectors.{FreeSectors}
use Rattle.zst_block.specs.IoStates.{disk_of}
use Rattle.zst_dir.specs.RowNames.{Match}
use Rattle.zst_roots.specs.declared.held.HeldBlocks.{HeldBlocks}
use Rattle.zst_model.specs.declared.pools.command.Command.{Command}
use Rattle.zst_model.specs.declared.pools.command.Command.TheVariants as commands
use Rattle.zst_model.specs.declared.refusals.refusal.Refusal.{Refusal}
use Rattle.zst_model.specs.declared.refusals.refusal.Refusal.TheVariants as refusals
use Rattle.zst_script.specs.declared.event.Event.{Event}
use Rattle.zst_script.specs.declared.event.Event.TheVariants as events
use Rattle.zst_script.specs.declared.event.Side.{Side}
use Rattle.zst_script.specs.declared.event.Side.TheVariants.{Here, There}
use Rattle.zst_sessions.specs.Engines.{BeforeOrAfter, Kept, MayLeave, kept_at}
use Rattle.zst_sessions.specs.EngineSteps.{EngineFits, EventIsShort, IsLaterPool, SparesBlocks, StepsEngine, held_blocks, kept_pool, left_on}
use Rattle.zst_sessions.specs.EventReplies.{answer_of}
use Rattle.zst_sessions.specs.FullPools.{StepIsShort}
use Rattle.zst_sessions.specs.Moves.{Answer, moved}
use Rattle.zst_sessions.specs.Replay.{AtStart, GoesOn, InEvent, Replay, Stays, WaysFollow, WaysGoOn}
use Rattle.zst_sessions.specs.World.{World}
use Rattle.zst_sessions.specs.declared.engine.Engine.{Engine}
use Rattle.zst_sessions.specs.declared.event_reply.EventReply.{EventReply}
use Rattle.zst_pool.specs.declared.pool.Pool.{Pool}
use Rattle.zst_run.specs.Replays.{MayLack, ReadsOnWay, StoodOrReads}
use Rattle.zst_run.specs.ReplayTurns.{Lost, RunsEvents, RunsFrom, SparesAll}
use Rattle.zst_run.proofs.CommandLemmas.{images_after}

-- a run behind another
replays_join : (now : ℕ) (world mid last : World) (events more : List Event) (answers told : List Answer)
    → Replay now world events answers mid → Replay now mid more told last → Replay now world (events ++ more) (answers ++ told) last
replays_join now world mid last events more answers told (Stays here) on = on
replays_join now world mid last events more answers told (GoesOn here next end event answer rest said moves ends) on =
    GoesOn here next last event answer (rest ++ more) (said ++ told) moves (replays_join now next end last rest more said told ends on)

-- on the way of a front of a run, and on the way from where it led
module _ (go_on : WaysGoOn) (follow : WaysFollow) where
  way_of_front : (now : ℕ) (side : Side) (world : World) (events more : List Event) (answers told : List Answer) (c : List ℕ)
      → ReadsOnWay now side world events answers c → ReadsOnWay now side world (events ++ more) (answers ++ told) c
  way_of_front now side world events more answers told c on = (on.0, go_on now world on.0 events more answers told on.1, on.2)

  way_behind : (now : ℕ) (side : Side) (world mid : World) (events more : List Event) (answers told : List Answer) (c : List ℕ)
      → Replay now world events answers mid → ReadsOnWay now side mid more told c → ReadsOnWay now side world (events ++ more) (answers ++ told) c
  way_behind now side world mid events more answers told c runs on = (on.0, follow now world mid on.0 events more answers told runs on.1, on.2)

  -- an image that stood before a front, or is on its way
  stood_front : (now : ℕ) (side : Side) (world : World) (events more : List Event) (answers told : List Answer) (start : DiskState) (c : List ℕ)
      → StoodOrReads start now side world events answers c → StoodOrReads start now side world (events ++ more) (answers ++ told) c
  stood_front now side world events more answers told start c (inl stood) = inl stood
  stood_front now side world events more answers told start c (inr on) = inr (way_of_front now side world events more answers told c on)

  -- and one that stood where the front led, or is on the way from there
  stood_behind : (now : ℕ) (side : Side) (world mid : World) (events more : List Event) (answers told : List Answer) (start disk : DiskState) → Replay now world events answers mid
      → ((c : List ℕ) → disk.images c → StoodOrReads start now side world events answers c) → (c : List ℕ)
      → StoodOrReads disk now side mid more told c → StoodOrReads start now side world (events ++ more) (answers ++ told) c
  stood_behind now side world mid events more answers told start disk runs images c (inl stood) = stood_front now side world events more answers told start c (images c stood)
  stood_behind now side world mid events more answers told start disk runs images c (inr on) = inr (way_behind now side world mid events more answers told c runs on)

  moments_then : (now : ℕ) (side : Side) (world mid : World) (events more : List Event) (answers told : List Answer) (old disk new : DiskState)
      → Replay now world events answers mid → ((c : List ℕ) → disk.images c → StoodOrReads old now side world events answers c)
      → Leaves old disk (StoodOrReads old now side world events answers) → Leaves disk new (StoodOrReads disk now side mid more told)
      → Leaves old new (StoodOrReads old now side world (events ++ more) (answers ++ told))
  moments_then now side world mid events more answers told old disk new runs images first second =
      Leaves-then old disk new (StoodOrReads old now side world (events ++ more) (answers ++ told)) (StoodOrReads disk now side mid more told)
      (Leaves-weaker old disk (StoodOrReads old now side world events answers) (StoodOrReads old now side world (events ++ more) (answers ++ told)) first
      (stood_front now side world events more answers told old)) second
      (stood_behind now side world mid events more answers told old disk runs images)

-- what an event's definition leaves is on its way
way_of_one : (now : ℕ) (side : Side) (world : World) (event : Event) (answer : Answer) (start : DiskState) (c : List ℕ)
    → BeforeOrAfter true side world (moved now event world).world c → StoodOrReads start now side world (event ∷ []) (answer ∷ []) c
way_of_one now side world event answer start c (inl before) = inr (world, AtStart world (event ∷ []) (answer ∷ []), before)
way_of_one now side world event answer start c (inr after) = inr ((moved now event world).world, InEvent world event [] (answer ∷ []), after)

-- and so is what a crash within it may leave, but for what stood before
may_leave : (now : ℕ) (side : Side) (world : World) (event : Event) (answer : Answer) (kept : Kept) (c : List ℕ)
    → MayLeave true side event kept world (moved now event world).world c → StoodOrReads kept.disk now side world (event ∷ []) (answer ∷ []) c
may_leave now side world (events.Reopen other) answer kept c (inl stood) = inl stood.1
may_leave now side world (events.Reopen other) answer kept c (inr reads) = way_of_one now side world (events.Reopen other) answer kept.disk c reads
may_leave now side world (events.Step of command) answer kept c reads = way_of_one now side world (events.Step of command) answer kept.disk c reads
may_leave now side world (events.Token of dataset) answer kept c reads = way_of_one now side world (events.Token of dataset) answer kept.disk c reads
may_leave now side world (events.Check of) answer kept c reads = way_of_one now side world (events.Check of) answer kept.disk c reads
may_leave now side world (events.Send of id ask) answer kept c reads = way_of_one now side world (events.Send of id ask) answer kept.disk c reads
may_leave now side world (events.Resume of id dataset) answer kept c reads = way_of_one now side world (events.Resume of id dataset) answer kept.disk c reads
may_leave now side world (events.Receive of id ask) answer kept c reads = way_of_one now side world (events.Receive of id ask) answer kept.disk c reads
may_leave now side world (events.Pump sends receives count) answer kept c reads = way_of_one now side world (events.Pump sends receives count) answer kept.disk c reads
may_leave now side world (events.Drop id count) answer kept c reads = way_of_one now side world (events.Drop id count) answer kept.disk c reads
may_leave now side world (events.Close id) answer kept c reads = way_of_one now side world (events.Close id) answer kept.disk c reads
may_leave now side world (events.Cut id) answer kept c reads = way_of_one now side world (events.Cut id) answer kept.disk c reads

-- of a disk no image is forgotten
abbrev pub OnlyNow : DiskState → Type 0
OnlyNow disk = (c : List ℕ) → disk.left_since disk.moment c → disk.images c

abbrev pub CountsNow : DiskState → Type 0
CountsNow disk = (t : ℕ) (c : List ℕ) → t ≤ disk.moment → disk.images c → disk.left_since t c

pub record Remembers {D : Type 0} (g : Ghosts D) : Type 0 where
  pub only : (disk : D) → OnlyNow (g.state disk)
  pub counts : (disk : D) → CountsNow (g.state disk)

-- the moments of one event
moments_of_one : (now : ℕ) (side : Side) (world : World) (event : Event) (answer : Answer) (old new : Kept)
    → Leaves old.disk new.disk (MayLeave true side event old world (moved now event world).world) → Leaves old.disk new.disk (StoodOrReads old.disk now side world (event ∷ []) (answer ∷ []))
moments_of_one now side world event answer old new leaves =
    Leaves-weaker old.disk new.disk (MayLeave true side event old world (moved now event world).world) (StoodOrReads old.disk now side world (event ∷ []) (answer ∷ [])) leaves
    (may_leave now side world event answer old)

-- and its images in the end
images_of_one : (now : ℕ) (side : Side) (world : World) (event : Event) (answer : Answer) (old new : Kept) → OnlyNow old.disk → CountsNow new.disk
    → Leaves old.disk new.disk (MayLeave true side event old world (moved now event world).world) → (c : List ℕ) → new.disk.images c → StoodOrReads old.disk now side world (event ∷ []) (answer ∷ []) c
images_of_one now side world event answer old new only counts leaves =
    images_after old.disk new.disk (StoodOrReads old.disk now side world (event ∷ []) (answer ∷ [])) (moments_of_one now side world event answer old new leaves) (λ c image. inl image) only counts

-- a refusal among answers
lost_of : (reply : Result EventReply Refusal) → answer_of reply ≡ Err refusals.DiskFault → reply ≡ Err refusals.DiskFault
lost_of (Ok reply) is = absurd (cc is)
lost_of (Err refusal) is = let same : refusal ≡ refusals.DiskFault = cc is in ap (λ (r : Refusal). Err r) same

full_of : (reply : Result EventReply Refusal) (need largest : ℕ) → answer_of reply ≡ Err (refusals.Full need largest) → reply ≡ Err (refusals.Full need largest)
full_of (Ok reply) need largest is = absurd (cc is)
full_of (Err refusal) need largest is = let same : refusal ≡ refusals.Full need largest = cc is in ap (λ (r : Refusal). Err r) same

-- lists that match do so behind others
Match-append : {A B : Type 0} (Is : A → B → Type 0) (xs more : List A) (ys also : List B) → Match Is xs ys → Match Is more also → Match Is (xs ++ more) (ys ++ also)
Match-append Is [] more [] also m rest = rest
Match-append Is [] more (y ∷ ys) also m rest = absurd m
Match-append Is (x ∷ xs) more [] also m rest = absurd m
Match-append Is (x ∷ xs) more (y ∷ ys) also m rest = (m.0, Match-append Is xs more ys also m.1 rest)

-- ---- what a full pool tells

-- a command is a reclaim, or another
is_reclaim : (command : Command) → (command ≡ commands.Reclaim) ⊎ (command ≢ commands.Reclaim)
is_reclaim commands.Reclaim = inl refl
is_reclaim command = inr (λ is. absurd (cc is))

step_lacks : (side : Side) (command : Command) (held : List HeldBlocks) (old new : Kept) (left : FreeSectors) (need largest : ℕ) → new.disk.honest → StepIsShort command held old new left need largest
    → MayLack (events.Step side command) need largest
step_lacks side command held old new left need largest honest is = go (is_reclaim command)
  where
    go : (command ≡ commands.Reclaim) ⊎ (command ≢ commands.Reclaim) → MayLack (events.Step side command) need largest
    go (inl one) = let found = (is.reclaims one honest).full_after in (found.shorter, is.commits, (0, omega arith, inl found.needed))
    go (inr other) = let found = is.runs other in (found.short.shorter, is.commits, (found.block, found.most, found.short.needed))

module _ {D E : Type 0} {g : Ghosts D} {h : Ghosts E} (old new : Engine D E g h) (need largest : ℕ) (honest : (disk_of new.here.io).honest) (also : (disk_of new.there.io).honest) where
  honest_at : (side : Side) → (kept_at side (kept_pool new.here) (kept_pool new.there)).disk.honest
  honest_at Here = honest
  honest_at There = also

  may_lack : (event : Event) → EventIsShort event old new need largest → MayLack event need largest
  may_lack (events.Step side command) is =
      step_lacks side command (held_blocks side old.sends.items) (kept_at side (kept_pool old.here) (kept_pool old.there)) (kept_at side (kept_pool new.here) (kept_pool new.there)) (left_on side new) need largest (honest_at side) is
  may_lack (events.Pump send receive count) is = (is.short is.fed.0 is.fed.1).shorter
  may_lack event is = absurd is

same_pool : {D : Type 0} {g : Ghosts D} → (pool : Pool D g) → IsLaterPool pool pool
same_pool pool = record { faults = omega arith; honest = λ is. is; same = refl }

later_pool : {D : Type 0} {g : Ghosts D} → (old mid new : Pool D g) → IsLaterPool old mid → IsLaterPool mid new → IsLaterPool old new
later_pool old mid new first second = record {
  faults = let before = first.faults in let after = second.faults in omega arith;
  honest = λ is. first.honest (second.honest is);
  same = second.same ∙ first.same;
}

-- ---- blocks

-- what holds of all holds of a front and of the rest
module _ {X : Type 0} (P : X → Type 0) where
  all_front : (xs ys : List X) → All P (xs ++ ys) → All P xs
  all_front [] ys all = All-nil P
  all_front (x ∷ xs) ys all = All-cons P x xs (All-head P x (xs ++ ys) all) (all_front xs ys (All-tail P x (xs ++ ys) all))

  all_rest : (xs ys : List X) → All P (xs ++ ys) → All P ys
  all_rest [] ys all = all
  all_rest (x ∷ xs) ys all = all_rest xs ys (All-tail P x (xs ++ ys) all)

none_spare : (side : Side) (kept : Kept) → SparesAll side kept kept [] []
none_spare side kept none never finds honest works = (works, (λ ptr bytes has. has), λ has. has)

one_spares : (side : Side) (event : Event) (old new : Kept) (answer : Answer) → (¬ (answer ≡ Err refusals.DiskFault) → old.failed ≡ false → new.failed ≡ false) → (event ≢ events.Step side commands.Reclaim → SparesBlocks (event ≡ events.Reopen side) old new)
    → SparesAll side old new (event ∷ []) (answer ∷ [])
one_spares side event old new answer still spares none never finds honest works =
    let alive = still (All-head (λ answer. ¬ (answer ≡ Err refusals.DiskFault)) answer [] none) works in
    let spared = spares (λ is. never (contained (events.Step side commands.Reclaim) is)) in
    (alive, spared.blocks (λ is. (works, honest, finds (contained (events.Reopen side) is))) alive, spared.extents (λ is. (works, honest)) alive)
  where
    contained : (other : Event) → event ≡ other → Contains (event ∷ []) other
    contained other is = subst (λ (e : Event). Contains (event ∷ []) e) is (Contains-push [] event)

spares_then : (side : Side) (old mid new : Kept) (first_events more : List Event) (answers told : List Answer) → (new.disk.honest → mid.disk.honest) → SparesAll side old mid first_events answers → SparesAll side mid new more told
    → SparesAll side old new (first_events ++ more) (answers ++ told)
spares_then side old mid new first_events more answers told truth first second none never finds honest works =
    let Fails : Answer → Type 0 = λ answer. ¬ (answer ≡ Err refusals.DiskFault) in
    let reclaim : Event = events.Step side commands.Reclaim in
    let before = first (all_front Fails answers told none) (λ there. never (Contains-append_left first_events more reclaim there)) (λ there. finds (Contains-append_left first_events more (events.Reopen side) there)) (truth honest) works in
    let behind = second (all_rest Fails answers told none) (λ there. never (Contains-append_right first_events more reclaim there)) (λ there. before.2 (finds (Contains-append_right first_events more (events.Reopen side) there))) honest before.0 in
    (behind.0, (λ ptr bytes has. behind.1 ptr bytes (before.1 ptr bytes has)), λ has. behind.2 (before.2 has))

-- what rose before a later count rose by then
rose_later : (before mid now : ℕ) → mid ≤ now → Rose before mid → Rose before now
rose_later before mid now later rose = omega arith

module _ {D E : Type 0} {g : Ghosts D} {h : Ghosts E} where
  -- nothing is run
  pub none_run : (engine : Engine D E g h) → EngineFits engine → RunsEvents engine engine [] []
  none_run engine fits = record {
    worlds = λ world here there tells others stands. record {
      last = world;
      runs = Stays world;
      stands = stands;
      here_moments = Leaves-none (disk_of engine.here.io) (StoodOrReads (disk_of engine.here.io) engine.now Here world [] []);
      there_moments = Leaves-none (disk_of engine.there.io) (StoodOrReads (disk_of engine.there.io) engine.now There world [] []);
      here_images = λ c image. inl image;
      there_images = λ c image. inl image;
    };
    fits = fits;
    here_later = same_pool engine.here;
    there_later = same_pool engine.there;
    time = refl;
    one_each = refl;
    lost = All-nil (λ answer. answer ≡ Err refusals.DiskFault → Lost engine engine);
    full = λ honest also. tt;
    here_spares = none_spare Here (kept_pool engine.here);
    there_spares = none_spare There (kept_pool engine.there);
  }

  -- one event
  pub one_run : Remembers g → Remembers h → (event : Event) (old new : Engine D E g h) (reply : Result EventReply Refusal) → StepsEngine event old new reply
      → RunsEvents old new (event ∷ []) (answer_of reply ∷ [])
  one_run knows knows_there event old new reply did = record {
    worlds = λ world here there tells others stands.
        let s = did.steps world here there tells others stands in
        record {
          last = s.next;
          runs = GoesOn world s.next s.next event (answer_of reply) [] [] s.moves (Stays s.next);
          stands = s.stands;
          here_moments = moments_of_one old.now Here world event (answer_of reply) (kept_pool old.here) (kept_pool new.here) s.here_moments;
          there_moments = moments_of_one old.now There world event (answer_of reply) (kept_pool old.there) (kept_pool new.there) s.there_moments;
          here_images = images_of_one old.now Here world event (answer_of reply) (kept_pool old.here) (kept_pool new.here) (knows.only old.here.io.disk.now) (knows.counts new.here.io.disk.now) s.here_moments;
          there_images =
              images_of_one old.now There world event (answer_of reply) (kept_pool old.there) (kept_pool new.there) (knows_there.only old.there.io.disk.now) (knows_there.counts new.there.io.disk.now) s.there_moments;
        };
    fits = did.fits;
    here_later = did.later.here;
    there_later = did.later.there;
    time = did.later.time;
    one_each = refl;
    lost = let P : Answer → Type 0 = λ answer. answer ≡ Err refusals.DiskFault → Lost old new in All-cons P (answer_of reply) [] (λ is. did.cause (lost_of reply is)) (All-nil P);
    full = λ honest also. (λ need largest is. may_lack old new need largest honest also event (did.full need largest (full_of reply need largest is)), tt);
    here_spares = one_spares Here event (kept_pool old.here) (kept_pool new.here) (answer_of reply) (λ alive. (did.works (λ is. alive (ap answer_of is))).0) did.here_spares;
    there_spares = one_spares There event (kept_pool old.there) (kept_pool new.there) (answer_of reply) (λ alive. (did.works (λ is. alive (ap answer_of is))).1) did.there_spares;
  }

  lost_earlier : (old mid new : Engine D E g h) → IsLaterPool old.here mid.here → IsLaterPool old.there mid.there → Lost mid new → Lost old new
  lost_earlier old mid new here there (inl rose) = inl (Rose-earlier _ (disk_of mid.here.io).faults _ here.faults rose)
  lost_earlier old mid new here there (inr rose) = inr (Rose-earlier _ (disk_of mid.there.io).faults _ there.faults rose)

  lost_later : (old mid new : Engine D E g h) → IsLaterPool mid.here new.here → IsLaterPool mid.there new.there → Lost old mid → Lost old new
  lost_later old mid new here there (inl rose) = inl (rose_later _ (disk_of mid.here.io).faults _ here.faults rose)
  lost_later old mid new here there (inr rose) = inr (rose_later _ (disk_of mid.there.io).faults _ there.faults rose)

  -- events behind others
  pub runs_then : WaysGoOn → WaysFollow → (old mid new : Engine D E g h) (events more : List Event) (answers told : List Answer)
      → RunsEvents old mid events answers → RunsEvents mid new more told → RunsEvents old new (events ++ more) (answers ++ told)
  runs_then go_on follow old mid new events more answers told first second = record {
    worlds = λ world here there tells others stands.
        let f = first.worlds world (second.here_later.honest here) (second.there_later.honest there) tells others stands in
        let at : ℕ → Type 0 = λ now. RunsFrom now f.last more told (kept_pool mid.here) (kept_pool mid.there) (kept_pool new.here) (kept_pool new.there) new.sends.items new.receives.items in
        let s = subst at first.time (second.worlds f.last here there tells others f.stands) in
        record {
          last = s.last;
          runs = replays_join old.now world f.last s.last events more answers told f.runs s.runs;
          stands = s.stands;
          here_moments = moments_then go_on follow old.now Here world f.last events more answers told (disk_of old.here.io) (disk_of mid.here.io) (disk_of new.here.io) f.runs f.here_images f.here_moments s.here_moments;
          there_moments = moments_then go_on follow old.now There world f.last events more answers told (disk_of old.there.io) (disk_of mid.there.io) (disk_of new.there.io) f.runs f.there_images f.there_moments s.there_moments;
          here_images = λ c image. stood_behind go_on follow old.now Here world f.last events more answers told (disk_of old.here.io) (disk_of mid.here.io) f.runs f.here_images c (s.here_images c image);
          there_images = λ c image. stood_behind go_on follow old.now There world f.last events more answers told (disk_of old.there.io) (disk_of mid.there.io) f.runs f.there_images c (s.there_images c image);
        };
    fits = second.fits;
    here_later = later_pool old.here mid.here new.here first.here_later second.here_later;
    there_later = later_pool old.there mid.there new.there first.there_later second.there_later;
    time = second.time ∙ first.time;
    one_each = length-append answers told ∙ ap (λ (n : ℕ). n + length told) first.one_each ∙ ap (λ (n : ℕ). length events + n) second.one_each ∙ sym (length-append events more);
    lost =
        let P : Answer → Type 0 = λ answer. answer ≡ Err refusals.DiskFault → Lost old new in
        All-append P answers told (All-weaker (λ answer. answer ≡ Err refusals.DiskFault → Lost old mid) P (λ answer was is. lost_later old mid new second.here_later second.there_later (was is)) answers first.lost)
        (All-weaker (λ answer. answer ≡ Err refusals.DiskFault → Lost mid new) P (λ answer was is. lost_earlier old mid new first.here_later first.there_later (was is)) told second.lost);
    full = λ honest also.
        Match-append (λ event answer. (need largest : ℕ) → answer ≡ Err (refusals.Full need largest) → MayLack event need largest) events more answers told
        (first.full (second.here_later.honest honest) (second.there_later.honest also)) (second.full honest also);
    here_spares = spares_then Here (kept_pool old.here) (kept_pool mid.here) (kept_pool new.here) events more answers told second.here_later.honest first.here_spares second.here_spares;
    there_spares = spares_then There (kept_pool old.there) (kept_pool mid.there) (kept_pool new.there) events more answers told second.there_later.honest first.there_spares second.there_spares;
  }
