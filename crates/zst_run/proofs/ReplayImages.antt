-- What a replay leaves of its two images, from what opening them and running the script say.
use Rattle.std.specs.Prelude.{Result, Ok, Err}
use Rattle.std.proofs.Common.{◌≡◌, ◌≤◌, ◌⊎◌, inl, inr, ℕ, Bool, true, false, IsTrue, List, [], All, refl, sym, ap, ◌∙◌, subst, arith, rules}
use Rattle.std.proofs.lemmas.List.Elements.{All-weaker}
use Rattle.zst_outside.specs.Causes.{Rose, Rose-earlier}
use Rattle.zst_outside.specs.Images.{DiskState, Leaves, Leaves-then, Leaves-weaker, OnlyReads, OnlyReads-none}
use Rattle.zst_outside.specs.States.{SourceState, SinkState}
use Rattle.zst_outside.specs.declared.disk.Disk.{Ghosts}
use Rattle.zst_block.specs.Blocks.{Has, KeepsBlocks}
use Rattle.zst_block.specs.IoStates.{disk_of}
use Rattle.zst_uber.specs.DiskCalls as disk_calls
use Rattle.zst_image.proofs.Growth.{HasItsExtents-kept}
use Rattle.zst_image.specs.Bodies.{Body, free_by}
use Rattle.zst_dir.specs.Rows.{Rows}
use Rattle.zst_image.specs.Commits.{Ready}
use Rattle.zst_image.specs.Faults.{open_refusal}
use Rattle.zst_image.specs.OpenAnswers.{GivesPool, OpenAnswers}
use Rattle.zst_image.specs.Reads.{Reads, ReadsAs, Rests, kept_rows}
use Rattle.zst_image.specs.declared.open_fault.OpenFault.{OpenFault}
use Rattle.zst_image.specs.declared.open_fault.OpenFault.TheVariants as opens
use Rattle.zst_image.specs.declared.pool_state.PoolState.{PoolState}
use Rattle.zst_model.specs.declared.refusals.refusal.Refusal.{Refusal}
use Rattle.zst_model.specs.declared.refusals.refusal.Refusal.TheVariants as refusals
use Rattle.zst_model.specs.pools.KeptPool.{kept_of}
use Rattle.zst_model.specs.pools.Pool.{Pool as Plain}
use Rattle.zst_pool.specs.Calls.{IsAtRest}
use Rattle.zst_pool.specs.declared.pool.Pool.{Pool}
use Rattle.zst_script.specs.declared.event.Event.{Event}
use Rattle.zst_script.specs.declared.event.Side.{Side}
use Rattle.zst_script.specs.declared.event.Side.TheVariants.{Here, There}
use Rattle.zst_sessions.specs.Engines.{Kept, PoolStands, Stands}
use Rattle.zst_sessions.specs.EngineSteps.{StandsFor, kept_pool}
use Rattle.zst_sessions.specs.Lawfulness.{IsWorld}
use Rattle.zst_sessions.specs.Moves.{Answer}
use Rattle.zst_sessions.specs.Replay.{opened}
use Rattle.zst_sessions.specs.World.{OpenPool, World}
use Rattle.zst_sessions.specs.declared.engine.Engine.{Engine}
use Rattle.zst_run.specs.Replays.{IsLeft, Replays, RunsOver, Stood, StoodOrReads}
use Rattle.zst_run.specs.ReplayTurns.{Lost, RunsAll, RunsEvents, RunsFrom, SparesAll}
use Rattle.zst_run.proofs.CommandLemmas.{images_after}
use Rattle.zst_run.proofs.ReplayRuns.{CountsNow, OnlyNow}

-- ---- where nothing is run

-- what opening an image says that isn't opened
pub record CannotOpen (here here' : DiskState) (fault : OpenFault) : Type 0 where
  pub there : (tight : Bool) (body : Body) (rows : Rows) (pool : Plain) → here'.honest → ReadsAs tight body rows pool here.seen → GivesPool body rows (Err fault)
  pub answer : here'.honest → OpenAnswers here (Err fault)
  pub reads : OnlyReads here here'
  pub cause : disk_calls.HasDiskCause {T = PoolState} opens.DiskFault here.faults here'.faults (Err fault)

-- and one that is opened, and what is kept of its pool
pub record HasOpened (here here' : DiskState) (kept : PoolState) : Type 0 where
  pub there : (tight : Bool) (body : Body) (rows : Rows) (pool : Plain) → here'.honest → ReadsAs tight body rows pool here.seen → GivesPool body rows (Ok kept)
  pub answer : here'.honest → OpenAnswers here (Ok kept)
  pub stands : (tight : Bool) (body : Body) (rows : Rows) (pool : Plain) → here'.honest → ReadsAs tight body rows pool here.seen → Rests tight here' kept.body rows pool
  pub ready : Ready here' kept.body
  pub reads : OnlyReads here here'
  pub later : here.faults ≤ here'.faults

module _ (now : ℕ) (here there : DiskState) (tells others : Bool) (input : SourceState) (out : SinkState) where
  -- no memory was left at first
  pub unroomed : Replays now here here tells there there others input input out out (Err refusals.OutOfMemory)
  unroomed = record {
    does = inl (record {
      fault = opens.OutOfMemory;
      refused = refl;
      why = λ honest honest_there. inl tt;
      sound = λ tight pool other honest honest_there reads reads_there. tt;
      cause = λ is. absurd (cc is);
      here_reads = OnlyReads-none here;
      there_reads = OnlyReads-none there;
      streams = (refl, refl);
    });
    here_later = omega arith;
    there_later = omega arith;
    input_later = omega arith;
    out_later = omega arith;
  }

  -- the first image isn't opened
  pub first_unopened : (here' : DiskState) (fault : OpenFault) → CannotOpen here here' fault → Replays now here here' tells there there others input input out out (Err (open_refusal fault))
  first_unopened here' fault first = record {
    does = inl (record {
      fault = fault;
      refused = refl;
      why = λ honest honest_there. inl (first.answer honest);
      sound = λ tight pool other honest honest_there reads reads_there. first.there tight reads.0 reads.1 pool honest reads.2;
      cause = λ is. inl (first.cause.fault (ap (λ (f : OpenFault). Err f) is));
      here_reads = first.reads;
      there_reads = OnlyReads-none there;
      streams = (refl, refl);
    });
    here_later = first.cause.later;
    there_later = omega arith;
    input_later = omega arith;
    out_later = omega arith;
  }

  -- the first one is, and the second one isn't
  pub second_unopened : (here' there' : DiskState) (kept : PoolState) (fault : OpenFault) → HasOpened here here' kept → CannotOpen there there' fault
      → Replays now here here' tells there there' others input input out out (Err (open_refusal fault))
  second_unopened here' there' kept fault first second = record {
    does = inl (record {
      fault = fault;
      refused = refl;
      why = λ honest honest_there. inr (kept, first.answer honest, second.answer honest_there);
      sound = λ tight pool other honest honest_there reads reads_there. second.there tight reads_there.0 reads_there.1 other honest_there reads_there.2;
      cause = λ is. inr (second.cause.fault (ap (λ (f : OpenFault). Err f) is));
      here_reads = first.reads;
      there_reads = second.reads;
      streams = (refl, refl);
    });
    here_later = first.later;
    there_later = second.cause.later;
    input_later = omega arith;
    out_later = omega arith;
  }

-- ---- where both are opened

-- two pools without sessions are a world
pub new_is_world : (plain other : Plain) → IsWorld (opened plain other)
new_is_world plain other = record { sends = search rules; receives = search rules; targets = search rules; standing = search rules }

-- a pool that was opened is at rest
abbrev pub OpenedRests : {D : Type 0} → Ghosts D → Type 0
OpenedRests {D} g = (tight : Bool) (disk : D) (kept : PoolState) (rows : Rows) (pool : Plain) → Rests tight (g.state disk) kept.body rows pool → kept.dir ≡ kept_rows rows → IsAtRest tight (g.state disk) kept pool

-- what an image is in the end
seen_of : (kept : Kept) (pool : OpenPool) (failed : Bool) → kept.failed ≡ failed → PoolStands true kept pool → IsTrue kept.tells → Reads true (kept_of pool.pool) kept.disk.seen
seen_of kept pool false works stands tells = let rests = stands.rests works in (kept.state.body, rests.rows, rests.rests.reads)
seen_of kept pool true fails stands tells = stands.lost fails tells

pub left_of : (kept : Kept) (pool : OpenPool) → PoolStands true kept pool → IsTrue kept.tells → IsLeft kept.disk pool
left_of kept pool stands tells = record {
  rests = λ works. let rests = stands.rests (stands.mark ∙ works) in (kept.state.body, rests.rows, rests.rests);
  reads = seen_of kept pool kept.failed refl stands tells;
}

-- and what stood in sectors that the body which was opened left not free
all_stood : (side : Side) (start : DiskState) (old new : Kept) (events : List Event) (answers : List Answer) → old.disk.seen ≡ start.seen → old.failed ≡ false → SparesAll side old new events answers
    → Stood start new.disk old.state.body side events answers
all_stood side start old new events answers same works spares honest none never finds ptr bytes has =
    let is = (spares none never (λ there. HasItsExtents-kept start old.disk old.state.body still (finds there)) honest works).1 ptr bytes (still ptr bytes has) in
    record { block = is.block; behind = has.behind; taken = has.taken }
  where
    still : KeepsBlocks start.seen (free_by old.state.body) old.disk.seen (free_by old.state.body)
    still ptr bytes = subst (λ (seen : List ℕ). Has seen (free_by old.state.body) ptr bytes) (sym same)

-- its moments, and its images in the end: it was only read as it was opened
stood_first : (now : ℕ) (side : Side) (world : World) (events : List Event) (answers : List Answer) (start mid : DiskState) → OnlyReads start mid → (c : List ℕ)
    → StoodOrReads mid now side world events answers c → StoodOrReads start now side world events answers c
stood_first now side world events answers start mid reads c (inl stood) = inl (reads.crash c stood)
stood_first now side world events answers start mid reads c (inr on) = inr on

whole_moments : (now : ℕ) (side : Side) (world : World) (events : List Event) (answers : List Answer) (start mid end : DiskState) → OnlyReads start mid
    → Leaves mid end (StoodOrReads mid now side world events answers) → Leaves start end (StoodOrReads start now side world events answers)
whole_moments now side world events answers start mid end reads leaves =
    Leaves-then start mid end (StoodOrReads start now side world events answers) (StoodOrReads mid now side world events answers)
    (Leaves-weaker start mid start.images (StoodOrReads start now side world events answers) reads.time (λ c image. inl image)) leaves (stood_first now side world events answers start mid reads)

module _ {D : Type 0} {g : Ghosts D} where
  -- a pool over a disk that was opened, and which has not failed since
  pub record IsOpenedPool (start : DiskState) (pool : Pool D g) : Type 0 where
    pub has : HasOpened start (disk_of pool.io) pool.kept
    pub works : pool.io.failed ≡ false

  pub opened_pool : (start : DiskState) (disk : D) (kept : PoolState) (pool : Pool D g) → pool.io.disk.now ≡ disk → pool.kept ≡ kept → pool.io.failed ≡ false → HasOpened start (g.state disk) kept
      → IsOpenedPool start pool
  opened_pool start disk kept pool disk_is kept_is works has = record {
    has = subst (λ (k : PoolState). HasOpened start (disk_of pool.io) k) (sym kept_is) (subst (λ (d : D). HasOpened start (g.state d) kept) (sym disk_is) has);
    works = works;
  }

  pool_stands : OpenedRests g → (start : DiskState) (pool : Pool D g) (plain : Plain) → IsOpenedPool start pool → (disk_of pool.io).honest → Reads true plain start.seen
      → PoolStands true (kept_pool pool) (record { pool = plain; failed = false })
  pool_stands at_rest start pool plain is honest reads =
      let works = is.works in
      record {
        mark = works;
        rests = λ still. at_rest true pool.io.disk.now pool.kept reads.1 plain (is.has.stands true reads.0 reads.1 plain honest reads.2) (is.has.there true reads.0 reads.1 plain honest reads.2).1;
        ready = λ still. is.has.ready;
        lost = λ failed. absurd (cc (works, failed));
      }

module _ {D E : Type 0} {g : Ghosts D} {h : Ghosts E} where
  -- the engine of two pools that were opened stands for them
  stands_for : OpenedRests g → OpenedRests h → (here there : DiskState) (engine : Engine D E g h) (plain other : Plain) → IsOpenedPool here engine.here → IsOpenedPool there engine.there
      → engine.sends.items ≡ [] → engine.receives.items ≡ [] → (disk_of engine.here.io).honest → (disk_of engine.there.io).honest → Reads true plain here.seen → Reads true other there.seen
      → StandsFor engine (opened plain other)
  stands_for rests_here rests_there here there engine plain other first second no_sends no_receives honest honest_there reads reads_there =
      let world = opened plain other in
      subst (λ (s : List _). Stands true (kept_pool engine.here) (kept_pool engine.there) s engine.receives.items world) (sym no_sends)
      (subst (λ (r : List _). Stands true (kept_pool engine.here) (kept_pool engine.there) [] r world) (sym no_receives)
      (record {
        here_stands = pool_stands rests_here here engine.here plain first honest reads;
        there_stands = pool_stands rests_there there engine.there other second honest_there reads_there;
        send_stands = tt;
        receive_stands = tt;
        lawful = new_is_world plain other;
      }))

  -- the run over the images
  module _ (now : ℕ) (here there : DiskState) (old new : Engine D E g h) (first : IsOpenedPool here old.here) (second : IsOpenedPool there old.there) (events : List Event) (answers : List Answer)
      (ran : RunsEvents old new events answers) (time : old.now ≡ now)
      (only_here : OnlyNow here) (only_there : OnlyNow there) (counts_here : CountsNow (disk_of new.here.io)) (counts_there : CountsNow (disk_of new.there.io)) where
    runs_over : (plain other : Plain) → (disk_of new.here.io).honest → (disk_of new.there.io).honest → IsTrue g.tells_images → IsTrue h.tells_images → StandsFor old (opened plain other)
        → RunsOver now here (disk_of new.here.io) there (disk_of new.there.io) (opened plain other) events answers
    runs_over plain other honest honest_there tells others stands =
        let world = opened plain other in
        let at : ℕ → Type 0 = λ n. RunsFrom n world events answers (kept_pool old.here) (kept_pool old.there) (kept_pool new.here) (kept_pool new.there) new.sends.items new.receives.items in
        let r = subst at time (ran.worlds world honest honest_there tells others stands) in
        let moments = whole_moments now Here world events answers here (disk_of old.here.io) (disk_of new.here.io) first.has.reads r.here_moments in
        let moments_there = whole_moments now There world events answers there (disk_of old.there.io) (disk_of new.there.io) second.has.reads r.there_moments in
        record {
          last = r.last;
          runs = r.runs;
          here_moments = moments;
          there_moments = moments_there;
          here_images = images_after here (disk_of new.here.io) (StoodOrReads here now Here world events answers) moments (λ c image. inl image) only_here counts_here;
          there_images = images_after there (disk_of new.there.io) (StoodOrReads there now There world events answers) moments_there (λ c image. inl image) only_there counts_there;
          here_left = left_of (kept_pool new.here) r.last.here r.stands.here_stands tells;
          there_left = left_of (kept_pool new.there) r.last.there r.stands.there_stands others;
        }

    lost_since : Lost old new → Rose here.faults (disk_of new.here.io).faults ⊎ Rose there.faults (disk_of new.there.io).faults
    lost_since (inl rose) = inl (Rose-earlier here.faults (disk_of old.here.io).faults (disk_of new.here.io).faults first.has.later rose)
    lost_since (inr rose) = inr (Rose-earlier there.faults (disk_of old.there.io).faults (disk_of new.there.io).faults second.has.later rose)

    all_lost : All (λ answer. answer ≡ Err refusals.DiskFault → Rose here.faults (disk_of new.here.io).faults ⊎ Rose there.faults (disk_of new.there.io).faults) answers
    all_lost = All-weaker (λ answer. answer ≡ Err refusals.DiskFault → Lost old new) (λ answer. answer ≡ Err refusals.DiskFault → Rose here.faults (disk_of new.here.io).faults ⊎ Rose there.faults (disk_of new.there.io).faults)
        (λ answer was is. lost_since (was is)) answers ran.lost

  -- the script was run
  pub replayed : OpenedRests g → OpenedRests h → (now : ℕ) (here there : DiskState) (old new : Engine D E g h) (input input' : SourceState) (out out' : SinkState) (result : Result (Unit {0}) Refusal)
      → IsOpenedPool here old.here → IsOpenedPool there old.there → old.now ≡ now → old.sends.items ≡ [] → old.receives.items ≡ []
      → OnlyNow here → OnlyNow there → CountsNow (disk_of new.here.io) → CountsNow (disk_of new.there.io) → RunsAll old new input input' out out' result
      → Replays now here (disk_of new.here.io) g.tells_images there (disk_of new.there.io) h.tells_images input input' out out' result
  replayed rests_here rests_there now here there old new input input' out out' result first second time no_sends no_receives only_here only_there counts_here counts_there all =
      let later = all.runs.here_later in
      let later_there = all.runs.there_later in
      let opening = first.has.later in
      let opening_there = second.has.later in
      let faults = later.faults in
      let faults_there = later_there.faults in
      record {
        does = inr (record {
          text = all.text;
          events = all.events;
          answers = all.answers;
          consumed = all.consumed;
          kept = old.here.kept;
          other = old.there.kept;
          opens = λ honest honest_there. (first.has.answer (later.honest honest), second.has.answer (later_there.honest honest_there));
          here_stood = all_stood Here here (kept_pool old.here) (kept_pool new.here) all.events all.answers first.has.reads.seen first.works all.runs.here_spares;
          there_stood = all_stood There there (kept_pool old.there) (kept_pool new.there) all.events all.answers second.has.reads.seen second.works all.runs.there_spares;
          script = all.script;
          writes = all.writes;
          says = record {
            one_each = all.runs.one_each;
            lost = all_lost now here there old new first second all.events all.answers all.runs time only_here only_there counts_here counts_there;
            full = all.runs.full;
          };
          pools = λ plain other honest honest_there tells others reads reads_there.
              runs_over now here there old new first second all.events all.answers all.runs time only_here only_there counts_here counts_there plain other honest honest_there tells others
              (stands_for rests_here rests_there here there old plain other first second no_sends no_receives (later.honest honest) (later_there.honest honest_there) reads reads_there);
        });
        here_later = omega (arith, opening, faults);
        there_later = omega (arith, opening_there, faults_there);
        input_later = all.input_later;
        out_later = all.out_later;
      }
