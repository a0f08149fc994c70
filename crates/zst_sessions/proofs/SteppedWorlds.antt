-- What a command of a pool makes of a world, and of what the engine keeps.
use Rattle.std.specs.Prelude.{◌≢◌, ◌⊎◌, IsTrue, All}
use Rattle.std.proofs.Common.{◌≡◌, inl, inr, ℕ, Bool, true, false, cond, List, [], ◌∷◌, ◌++◌, map, filter, Option, None, Result, Ok, Err, refl, sym, ap, ◌∙◌, subst, ⊎_elim, arith}
use Rattle.std.proofs.lemmas.List.Elements.{All-cons, All-head, All-nil, All-tail}
use Rattle.zst_outside.specs.Causes.{Rose}
use Rattle.zst_outside.specs.Images.{Leaves, Leaves-none, Leaves-weaker}
use Rattle.zst_outside.specs.declared.disk.Disk.{Ghosts}
use Rattle.zst_block.specs.Blocks.{Has}
use Rattle.zst_block.specs.IoStates.{IsHonest, disk_of}
use Rattle.zst_dir.proofs.Matches.{filter-Match}
use Rattle.zst_dir.specs.RowNames.{AreNamed, Match}
use Rattle.zst_image.specs.Bodies.{free_by}
use Rattle.zst_image.specs.Reads.{Reads}
use Rattle.zst_model.specs.declared.pools.command.Command.{Command}
use Rattle.zst_model.specs.declared.pools.command.Command.TheVariants as commands
use Rattle.zst_model.specs.declared.refusals.refusal.Refusal.{Refusal}
use Rattle.zst_model.specs.declared.refusals.refusal.Refusal.TheVariants as refusals
use Rattle.zst_model.specs.pools.KeptPool.{kept_of}
use Rattle.zst_model.specs.pools.Pool.{Pool as Plain}
use Rattle.zst_model.specs.pools.Sessions.{Held, Holds, Claims}
use Rattle.zst_model.specs.pools.Step.{Stepped, stepped}
use Rattle.zst_plan.specs.declared.receive.RecvAsk.{RecvAsk}
use Rattle.zst_pool.proofs.NamedPools.{rows_named}
use Rattle.zst_pool.specs.Reclaims.{HeldStand}
use Rattle.zst_pool.specs.declared.pool.Pool.{Pool}
use Rattle.zst_recv.specs.GoingOn.{FittingReceive, ReceivesGoOn, ReceivesOutlast}
use Rattle.zst_script.specs.declared.event.Event.TheVariants as events
use Rattle.zst_script.specs.declared.event.Side.{Side}
use Rattle.zst_script.specs.declared.event.Side.TheVariants.{Here, There}
use Rattle.zst_send.specs.HeldPointers.{HeldSendsStand, SendsOutlast}
use Rattle.zst_send.specs.Sends.{SendsGoOn}
use Rattle.zst_sessions.proofs.Beside.{receives_beside_held, sends_beside_held, sessions_fit_beside}
use Rattle.zst_sessions.proofs.HeldSends.{held_stand}
use Rattle.zst_sessions.proofs.SparedBlocks.{kept_spares, none_spares}
use Rattle.zst_sessions.specs.BusySessions.{busy_for}
use Rattle.zst_sessions.specs.CommandSteps.{GivesUp, StepEnds, HadFailed, Accepts, Refuses, LacksRoom, LacksMemory, Loses, IsUnclaimed, StepsPool, made_of, pool_after}
use Rattle.zst_sessions.specs.EngineSteps.{EngineFits, IsLaterPool, KeepsHeld, KeepsSessions, StepsEngine, coded_claim, coded_held, coded_hold, held_blocks, here_with, kept_pool, target_of, there_with}
use Rattle.zst_sessions.specs.Engines.{BeforeOrAfter, Kept, PoolStands, ReceiveStandsOn, SendStandsOn, Stands, Steps, kept_at}
use Rattle.zst_sessions.specs.FullPools.{StepIsShort}
use Rattle.zst_sessions.specs.EventReplies.{answer_of}
use Rattle.zst_sessions.specs.Lawfulness.{MovesKeepWorlds}
use Rattle.zst_sessions.specs.Moves.{Answer, moved, refuses, stepped_to}
use Rattle.zst_sessions.specs.Numbers.{NumbersRise}
use Rattle.zst_sessions.specs.Replay.{Moves, AsDefined, FindsNoMemory, FindsNoRoom, LosesDisk}
use Rattle.zst_sessions.specs.World.{OpenPool, OpenReceive, OpenSend, World, at_side, claim_of, held_at, hold_of, is_side, put_side, receives_on, sends_on}
use Rattle.zst_sessions.specs.declared.engine.Engine.{Engine}
use Rattle.zst_sessions.specs.declared.event_reply.EventReply.{EventReply}
use Rattle.zst_sessions.specs.declared.open_sessions.OpenReceive as kept_receives
use Rattle.zst_sessions.specs.declared.open_sessions.OpenSend as kept_sends

-- ---- one of two pools

put_same : (side : Side) (world : World) → put_side side (at_side side world) world ≡ world
put_same Here world = refl
put_same There world = refl

sends_stay : (side : Side) (pool : OpenPool) (world : World) → (put_side side pool world).sends ≡ world.sends
sends_stay Here pool world = refl
sends_stay There pool world = refl

receives_stay : (side : Side) (pool : OpenPool) (world : World) → (put_side side pool world).receives ≡ world.receives
receives_stay Here pool world = refl
receives_stay There pool world = refl

pub stands_at : (side : Side) (here there : Kept) (world : World) → PoolStands true here world.here → PoolStands true there world.there → PoolStands true (kept_at side here there) (at_side side world)
stands_at Here here there world first second = first
stands_at There here there world first second = second

here_stands : (side : Side) (here new : Kept) (next : OpenPool) (world : World) → PoolStands true here world.here → PoolStands true new next → PoolStands true (here_with side new here) (put_side side next world).here
here_stands Here here new next world was is = is
here_stands There here new next world was is = was

there_stands : (side : Side) (there new : Kept) (next : OpenPool) (world : World) → PoolStands true there world.there → PoolStands true new next → PoolStands true (there_with side new there) (put_side side next world).there
there_stands Here there new next world was is = was
there_stands There there new next world was is = is

-- ---- what the sessions hold and claim

-- of lists that match what is made of each is the same
map-same : {A B C : Type 0} (Is : A → B → Type 0) (f : A → C) (g : B → C) → ((x : A) (y : B) → Is x y → g y ≡ f x) → (xs : List A) (ys : List B) → Match Is xs ys → map g ys ≡ map f xs
map-same Is f g same [] [] m = refl
map-same Is f g same [] (y ∷ ys) m = absurd m
map-same Is f g same (x ∷ xs) [] m = absurd m
map-same {C = C} Is f g same (x ∷ xs) (y ∷ ys) m = ap (λ (z : C). z ∷ map g ys) (same x y m.0) ∙ ap (λ (rest : List C). f x ∷ rest) (map-same Is f g same xs ys m.1)

-- what holds of each of a list holds so of each that matches
all-Match : {A B : Type 0} (Is : A → B → Type 0) (P : A → Type 0) (Q : B → Type 0) → ((x : A) (y : B) → Is x y → P x → Q y) → (xs : List A) (ys : List B) → Match Is xs ys → All P xs → All Q ys
all-Match Is P Q on [] [] m all = All-nil Q
all-Match Is P Q on [] (y ∷ ys) m all = absurd m
all-Match Is P Q on (x ∷ xs) [] m all = absurd m
all-Match Is P Q on (x ∷ xs) (y ∷ ys) m all = All-cons Q y ys (on x y m.0 (All-head P x xs all)) (all-Match Is P Q on xs ys m.1 (All-tail P x xs all))

module _ (here there : Kept) (sends : List kept_sends.OpenSend) (receives : List kept_receives.OpenReceive) (world : World) (stands : Stands true here there sends receives world) where
  abbrev IsSend : kept_sends.OpenSend → OpenSend → Type 0
  IsSend coded send = SendStandsOn (kept_at send.side here there) coded send

  abbrev IsReceive : kept_receives.OpenReceive → OpenReceive → Type 0
  IsReceive coded receive = ReceiveStandsOn true (kept_at receive.side here there) (at_side receive.side world).pool coded receive

  -- what the engine's sessions hold and claim of a pool is what those of the world do
  pub held_is : (side : Side) → held_at side world ≡ coded_held side sends receives
  held_is side =
      ap (λ (holds : List Held). holds ++ map claim_of (receives_on side world))
      (map-same IsSend coded_hold hold_of (λ x y is. ap (λ (n : ℕ). Holds n y.sent.snapshot.name) (sym is.id) ∙ ap (λ (name : List ℕ). Holds x.id name) (sym is.holds))
      (filter (λ one. is_side one.side side) sends) (sends_on side world)
      (filter-Match IsSend (λ one. is_side one.side side) (λ send. is_side send.side side) (λ x y is. ap (λ (s : Side). is_side s side) is.side) sends world.sends stands.send_stands))
      ∙ ap (λ (claims : List Held). map coded_hold (filter (λ one. is_side one.side side) sends) ++ claims)
      (map-same IsReceive coded_claim claim_of (λ x y is. ap (λ (n : ℕ). Claims n y.ask.target) (sym is.id) ∙ ap (λ (ask : RecvAsk). Claims x.id ask.target) (sym is.ask))
      (filter (λ one. is_side one.side side) receives) (receives_on side world)
      (filter-Match IsReceive (λ one. is_side one.side side) (λ receive. is_side receive.side side) (λ x y is. ap (λ (s : Side). is_side s side) is.side) receives world.receives stands.receive_stands))

  -- what isn't an event's own of the engine's receives isn't of the world's
  pub others_are : (side : Side) (own : List ℕ → Type 0) → All (λ one. one.side ≡ side → ¬ (own (target_of one))) receives → All (λ receive. receive.side ≡ side → ¬ (own receive.ask.target)) world.receives
  others_are side own others =
      all-Match IsReceive (λ one. one.side ≡ side → ¬ (own (target_of one))) (λ receive. receive.side ≡ side → ¬ (own receive.ask.target))
      (λ x y is other at its. other (is.side ∙ at) (subst (λ (ask : RecvAsk). own ask.target) (sym is.ask) its)) receives world.receives stands.receive_stands others

-- ---- what the definition makes of a world

module _ (now : ℕ) (command : Command) where
  -- the world that a command makes, by whether the pool's disk had failed
  abbrev made_world : Side → World → Bool → Result Stepped Refusal → World
  made_world side world failed definition = (cond failed (refuses refusals.Failed world) (stepped_to side world definition)).world

  abbrev definition_at : Side → World → Result Stepped Refusal
  definition_at side world = stepped (held_at side world) now command (at_side side world).pool

  made_at : (side : Side) (world : World) (failed : Bool) (definition : Result Stepped Refusal)
      → (at_side side (made_world side world failed definition)).pool ≡ cond failed (at_side side world).pool (pool_after (at_side side world).pool definition)
  made_at Here world true definition = refl
  made_at There world true definition = refl
  made_at Here world false (Ok done) = refl
  made_at There world false (Ok done) = refl
  made_at Here world false (Err refusal) = refl
  made_at There world false (Err refusal) = refl

  made_there : (side : Side) (world : World) → (at_side side (moved now (events.Step side command) world).world).pool ≡ made_of (at_side side world) (definition_at side world)
  unfolding moved
  made_there side world = made_at side world (at_side side world).failed (definition_at side world)

  -- a command that ends so moves the world so
  step_moves : (side : Side) (world : World) (answer : Answer) (next : OpenPool) → StepEnds command (definition_at side world) (at_side side world) answer next
      → Moves now world (events.Step side command) answer (put_side side next world)
  unfolding moved
  step_moves side world answer next (HadFailed failed told is) =
      AsDefined (told ∙ sym (ap (λ (b : Bool). (cond b (refuses refusals.Failed world) (stepped_to side world (definition_at side world))).answer) failed))
      (ap (λ (pool : OpenPool). put_side side pool world) is ∙ put_same side world ∙ sym (ap (λ (b : Bool). made_world side world b (definition_at side world)) failed))
  step_moves side world answer next (Accepts works done made told is) =
      AsDefined
      (told ∙ sym (ap (λ (b : Bool). (cond b (refuses refusals.Failed world) (stepped_to side world (definition_at side world))).answer) works ∙ ap (λ (d : Result Stepped Refusal). (stepped_to side world d).answer) made))
      (ap (λ (pool : OpenPool). put_side side pool world) is ∙ ap (λ (b : Bool). put_side side (record { pool = done.pool; failed = b }) world) (sym works)
      ∙ sym (ap (λ (b : Bool). made_world side world b (definition_at side world)) works ∙ ap (λ (d : Result Stepped Refusal). (stepped_to side world d).world) made))
  step_moves side world answer next (Refuses works refusal made told is) =
      AsDefined
      (told ∙ sym (ap (λ (b : Bool). (cond b (refuses refusals.Failed world) (stepped_to side world (definition_at side world))).answer) works ∙ ap (λ (d : Result Stepped Refusal). (stepped_to side world d).answer) made))
      (ap (λ (pool : OpenPool). put_side side pool world) is ∙ put_same side world
      ∙ sym (ap (λ (b : Bool). made_world side world b (definition_at side world)) works ∙ ap (λ (d : Result Stepped Refusal). (stepped_to side world d).world) made))
  step_moves side world answer next (LacksRoom need largest told less may is) = FindsNoRoom need largest told less may (ap (λ (pool : OpenPool). put_side side pool world) is ∙ put_same side world)
  step_moves side world answer next (LacksMemory told is) = FindsNoMemory told (ap (λ (pool : OpenPool). put_side side pool world) is ∙ put_same side world)
  step_moves side world answer next (Loses told pool one is) =
      LosesDisk told (record {
        pool = pool;
        one_of = ⊎_elim (λ before. inl before) (λ after. inr (after ∙ sym (made_at side world (at_side side world).failed (definition_at side world)))) one;
        world_is = ap (λ (p : OpenPool). put_side side p world) is;
      })

  -- at each moment each image reads as its pool before the event or after it
  module _ (world : World) where
    after_made : (side : Side) (c : List ℕ) → Reads true (kept_of (at_side side world).pool) c ⊎ Reads true (kept_of (made_of (at_side side world) (definition_at side world))) c
        → BeforeOrAfter true side world (moved now (events.Step side command) world).world c
    after_made side c one = ⊎_elim (λ before. inl before) (λ after. inr (subst (λ (p : Plain). Reads true (kept_of p) c) (sym (made_there side world)) after)) one

    here_each : (side : Side) (here there new : Kept)
        → Leaves (kept_at side here there).disk new.disk (λ c. Reads true (kept_of (at_side side world).pool) c ⊎ Reads true (kept_of (made_of (at_side side world) (definition_at side world))) c)
        → Leaves here.disk (here_with side new here).disk (BeforeOrAfter true Here world (moved now (events.Step side command) world).world)
    here_each Here here there new leaves = Leaves-weaker here.disk new.disk _ (BeforeOrAfter true Here world (moved now (events.Step Here command) world).world) leaves (after_made Here)
    here_each There here there new leaves = Leaves-none here.disk (BeforeOrAfter true Here world (moved now (events.Step There command) world).world)

    there_each : (side : Side) (here there new : Kept)
        → Leaves (kept_at side here there).disk new.disk (λ c. Reads true (kept_of (at_side side world).pool) c ⊎ Reads true (kept_of (made_of (at_side side world) (definition_at side world))) c)
        → Leaves there.disk (there_with side new there).disk (BeforeOrAfter true There world (moved now (events.Step side command) world).world)
    there_each Here here there new leaves = Leaves-none there.disk (BeforeOrAfter true There world (moved now (events.Step Here command) world).world)
    there_each There here there new leaves = Leaves-weaker there.disk new.disk _ (BeforeOrAfter true There world (moved now (events.Step There command) world).world) leaves (after_made There)

-- ---- the event

-- The laws by which sessions stand on beside a command, and by which worlds go on.
pub record Laws : Type 0 where
  pub sends : SendsGoOn
  pub sends_outlast : SendsOutlast
  pub stand : HeldSendsStand
  pub receives : ReceivesGoOn
  pub receives_outlast : ReceivesOutlast
  pub fit : FittingReceive
  pub worlds : MovesKeepWorlds
  pub numbers : NumbersRise

module _ (laws : Laws) (side : Side) (now : ℕ) (command : Command) (holder : Option ℕ) (answer : Answer) (here there new : Kept) (sends : List kept_sends.OpenSend) (receives : List kept_receives.OpenReceive)
    (keeps : KeepsHeld (GivesUp holder command (kept_at side here there).state.dir) (held_blocks side sends) (kept_at side here there) new)
    (claimed : holder ≡ None → IsUnclaimed side command (kept_at side here there).state.dir receives) where
  -- no receive is into what is given up
  pub others_stay : All (λ one. one.side ≡ side → ¬ (GivesUp holder command (kept_at side here there).state.dir (target_of one))) receives
  others_stay k d lt at gives = claimed gives.0 k d lt at (gives.1, gives.2)

  abbrev own : List ℕ → Type 0
  own = GivesUp holder command (kept_at side here there).state.dir

  -- what a command made of one pool makes of a world
  stepped_world : (world : World) → new.disk.honest → Stands true here there sends receives world → StepsPool command (definition_at now command side world) (at_side side world) (kept_at side here there) new answer
      → Steps true now world (events.Step side command) here there (here_with side new here) (there_with side new there) sends receives answer
  stepped_world world honest stands steps =
      let next = put_side side steps.next world in
      let moves = step_moves now command side world answer steps.next steps.ends in
      record {
        next = next;
        moves = moves;
        stands = record {
          here_stands = here_stands side here new steps.next world stands.here_stands steps.stands;
          there_stands = there_stands side there new steps.next world stands.there_stands steps.stands;
          send_stands =
              subst (λ (all : List OpenSend). Match (λ one send. SendStandsOn (kept_at send.side (here_with side new here) (there_with side new there)) one send) sends all) (sym (sends_stay side steps.next world))
              (sends_beside_held laws.sends laws.sends_outlast side own here there new sends world.sends keeps honest stands.send_stands);
          receive_stands =
              subst (λ (all : List OpenReceive). Match (λ one receive. ReceiveStandsOn true (kept_at receive.side (here_with side new here) (there_with side new there)) (at_side receive.side next).pool one receive) receives all)
              (sym (receives_stay side steps.next world))
              (receives_beside_held laws.receives laws.fit laws.receives_outlast side own (held_blocks side sends) here there new world next receives world.receives keeps honest
              (λ of. laws.numbers now world next (events.Step side command) answer of moves) (others_are here there sends receives world stands side own others_stay) stands.receive_stands);
          lawful = laws.worlds now world next (events.Step side command) answer moves stands.lawful;
        };
        here_moments = here_each now command world side here there new steps.moments;
        there_moments = there_each now command world side here there new steps.moments;
      }

  -- and so does one that the session in its way was looked for
  pub command_steps : ((running : Plain) → AreNamed (kept_at side here there).state.dir running → holder ≡ busy_for (coded_held side sends receives) command running)
      → ((held : List Held) (opened : OpenPool) → PoolStands true (kept_at side here there) opened
      → ((kept_at side here there).failed ≡ false → HeldStand (kept_at side here there).disk (kept_at side here there).state.body (held_blocks side sends))
      → (opened.failed ≡ false → holder ≡ busy_for held command opened.pool)
      → StepsPool command (stepped held now command opened.pool) opened (kept_at side here there) new answer)
      → (world : World) → new.disk.honest → Stands true here there sends receives world
      → Steps true now world (events.Step side command) here there (here_with side new here) (there_with side new there) sends receives answer
  command_steps busy steps world honest stands =
      let kept = kept_at side here there in
      let opened = at_side side world in
      let at = stands_at side here there world stands.here_stands stands.there_stands in
      stepped_world world honest stands
      (steps (held_at side world) opened at (held_stand side here there laws.stand sends world.sends stands.send_stands)
      (λ works. let rested = at.rests (at.mark ∙ works) in
      busy opened.pool (rows_named (Has kept.disk.seen (free_by kept.state.body)) kept.state.dir opened.pool rested.runs_by)
      ∙ ap (λ (held : List Held). busy_for held command opened.pool) (sym (held_is here there sends receives world stands side))))

-- ---- the engine

-- the same pool is a later one
pub same_later : {D : Type 0} {g : Ghosts D} (pool : Pool D g) → IsLaterPool pool pool
same_later pool = record { faults = omega arith; honest = λ told. told; same = refl }

-- an event's answer is E28 only as its result
lost_as : (result : Result EventReply Refusal) → answer_of result ≡ Err refusals.DiskFault → result ≡ Err refusals.DiskFault
lost_as (Ok reply) is = absurd (cc is)
lost_as (Err refusal) is = let same : refusal ≡ refusals.DiskFault = cc is in ap (λ (r : Refusal). Err r) same

module _ {D E : Type 0} {g : Ghosts D} {h : Ghosts E} (laws : Laws) (old : Engine D E g h) (command : Command) (holder : Option ℕ) (answer : Answer) (result : Result EventReply Refusal) (told : answer_of result ≡ answer)
    (fits : EngineFits old) where
  abbrev first : Kept
  first = kept_pool {g = g} old.here

  abbrev second : Kept
  second = kept_pool {g = h} old.there

  pub step_here : (side : Side) → side ≡ Here → (pool : Pool D g)
      → ((running : Plain) → AreNamed (kept_at side first second).state.dir running → holder ≡ busy_for (coded_held side old.sends.items old.receives.items) command running)
      → (holder ≡ None → IsUnclaimed side command (kept_at side first second).state.dir old.receives.items)
      → ((held : List Held) (opened : OpenPool) → IsHonest pool.io → IsTrue g.tells_images → PoolStands true first opened
      → (old.here.io.failed ≡ false → HeldStand (disk_of old.here.io) old.here.kept.body (held_blocks side old.sends.items)) → (opened.failed ≡ false → holder ≡ busy_for held command opened.pool)
      → StepsPool command (stepped held old.now command opened.pool) opened first (kept_pool {g = g} pool) answer)
      → KeepsHeld (GivesUp holder command old.here.kept.dir) (held_blocks side old.sends.items) first (kept_pool {g = g} pool)
      → (command ≢ commands.Reclaim → KeepsSessions (GivesUp holder command old.here.kept.dir) first (kept_pool {g = g} pool)) → IsLaterPool old.here pool
      → (answer ≡ Err refusals.DiskFault → Rose (disk_of old.here.io).faults (disk_of pool.io).faults) → (old.here.io.failed ≡ false → ¬ (answer ≡ Err refusals.Failed))
      → (¬ (answer ≡ Err refusals.DiskFault) → old.here.io.failed ≡ false → pool.io.failed ≡ false)
      → ((need largest : ℕ) → answer ≡ Err (refusals.Full need largest) → StepIsShort command (held_blocks side old.sends.items) first (kept_pool {g = g} pool) pool.io.space need largest)
      → StepsEngine (events.Step side command) old (record old { here = pool }) result
  step_here There is pool busy claimed steps held keeps later cause open_still still full = absurd (cc is)
  step_here Here is pool busy claimed steps held keeps later cause open_still still full =
      let new = kept_pool {g = g} pool in
      let own = GivesUp holder command old.here.kept.dir in
      record {
        steps = λ world honest also tells and stands.
            subst (λ (a : Answer). Steps true old.now world (events.Step Here command) first second new second old.sends.items old.receives.items a) (sym told)
            (command_steps laws Here old.now command holder answer first second new old.sends.items old.receives.items held claimed busy (λ others opened. steps others opened honest tells) world honest stands);
        fits = record {
          sessions = sessions_fit_beside laws.fit Here own first second new old.sends.items old.receives.items held.leaves
              (others_stay laws Here old.now command holder answer first second new old.sends.items old.receives.items held claimed) fits.sessions;
          room = fits.room;
        };
        later = record { here = later; there = same_later old.there; time = refl };
        cause = λ is. inl (cause (sym told ∙ ap answer_of is));
        open_still = λ works also is. open_still works (sym told ∙ ap answer_of is);
        checks = λ of running is honest. absurd (cc is);
        works = λ alive. (still (λ is. alive (lost_as result (told ∙ is))), λ works. works);
        here_spares = λ no_reclaim. kept_spares own first new (keeps (λ one. no_reclaim (ap (λ (other : Command). events.Step Here other) one)));
        there_spares = λ no_reclaim. none_spares second;
        full = λ need largest is. full need largest (sym told ∙ ap answer_of is);
      }

  pub step_there : (side : Side) → side ≡ There → (pool : Pool E h)
      → ((running : Plain) → AreNamed (kept_at side first second).state.dir running → holder ≡ busy_for (coded_held side old.sends.items old.receives.items) command running)
      → (holder ≡ None → IsUnclaimed side command (kept_at side first second).state.dir old.receives.items)
      → ((held : List Held) (opened : OpenPool) → IsHonest pool.io → IsTrue h.tells_images → PoolStands true second opened
      → (old.there.io.failed ≡ false → HeldStand (disk_of old.there.io) old.there.kept.body (held_blocks side old.sends.items)) → (opened.failed ≡ false → holder ≡ busy_for held command opened.pool)
      → StepsPool command (stepped held old.now command opened.pool) opened second (kept_pool {g = h} pool) answer)
      → KeepsHeld (GivesUp holder command old.there.kept.dir) (held_blocks side old.sends.items) second (kept_pool {g = h} pool)
      → (command ≢ commands.Reclaim → KeepsSessions (GivesUp holder command old.there.kept.dir) second (kept_pool {g = h} pool)) → IsLaterPool old.there pool
      → (answer ≡ Err refusals.DiskFault → Rose (disk_of old.there.io).faults (disk_of pool.io).faults) → (old.there.io.failed ≡ false → ¬ (answer ≡ Err refusals.Failed))
      → (¬ (answer ≡ Err refusals.DiskFault) → old.there.io.failed ≡ false → pool.io.failed ≡ false)
      → ((need largest : ℕ) → answer ≡ Err (refusals.Full need largest) → StepIsShort command (held_blocks side old.sends.items) second (kept_pool {g = h} pool) pool.io.space need largest)
      → StepsEngine (events.Step side command) old (record old { there = pool }) result
  step_there Here is pool busy claimed steps held keeps later cause open_still still full = absurd (cc is)
  step_there There is pool busy claimed steps held keeps later cause open_still still full =
      let new = kept_pool {g = h} pool in
      let own = GivesUp holder command old.there.kept.dir in
      record {
        steps = λ world honest also tells and stands.
            subst (λ (a : Answer). Steps true old.now world (events.Step There command) first second first new old.sends.items old.receives.items a) (sym told)
            (command_steps laws There old.now command holder answer first second new old.sends.items old.receives.items held claimed busy (λ others opened. steps others opened also and) world also stands);
        fits = record {
          sessions = sessions_fit_beside laws.fit There own first second new old.sends.items old.receives.items held.leaves
              (others_stay laws There old.now command holder answer first second new old.sends.items old.receives.items held claimed) fits.sessions;
          room = fits.room;
        };
        later = record { here = same_later old.here; there = later; time = refl };
        cause = λ is. inr (cause (sym told ∙ ap answer_of is));
        open_still = λ also works is. open_still works (sym told ∙ ap answer_of is);
        checks = λ of running is honest. absurd (cc is);
        works = λ alive. (λ works. works, still (λ is. alive (lost_as result (told ∙ is))));
        here_spares = λ no_reclaim. none_spares first;
        there_spares = λ no_reclaim. kept_spares own second new (keeps (λ one. no_reclaim (ap (λ (other : Command). events.Step There other) one)));
        full = λ need largest is. full need largest (sym told ∙ ap answer_of is);
      }
