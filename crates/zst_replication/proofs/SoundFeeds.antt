-- A receive of whatever is read leaves a sound pool sound, and what a source remembers in it.
use Rattle.std.proofs.Common.{◌≡◌, ℕ, List, Contains, refl, sym, ap, subst}
use Rattle.zst_names.specs.Names.{IsDataset}
use Rattle.zst_laws.specs.ReceivedRecords.{ReceivedIsApplied}
use Rattle.zst_laws.specs.RememberedStates.{OwnIsRemembered, RememberedIsBase, StepsRemember}
use Rattle.zst_laws.specs.StepInvariants.{StepsKeepPools, StepsKeepSound}
use Rattle.zst_laws.proofs.pools.Descent.{PartialRow}
use Rattle.zst_model.proofs.InsertedLaws.{inserted_has_rest, inserted_has_row}
use Rattle.zst_model.specs.pools.Ancestry.{Source, OfSnapshot, OfBookmark, number_of_source, IsIn, IsBeforePartial}
use Rattle.zst_model.specs.pools.KeptPool.{kept_of}
use Rattle.zst_model.specs.pools.Pool.{Pool, IsPool, IsLinked, Snapshot, Bookmark, Partial, inserted, snapshot_is_before}
use Rattle.zst_model.specs.pools.Rows.{partial_row}
use Rattle.zst_model.specs.pools.Soundness.{Agrees, Sound}
use Rattle.zst_model.specs.sends.Target.{Remembers}
use Rattle.zst_model.specs.states.State.{State}
use Rattle.zst_model.proofs.FilteredLists.{filter_contains}
use Rattle.zst_plan.specs.RecvPlan.{snapshot_name}
use Rattle.zst_plan.specs.declared.receive.RecvAsk.{RecvAsk}
use Rattle.zst_recv.specs.Feeds.{receives}
use Rattle.zst_recv.specs.ReceiveSteps.{Ends, Fed, Goes, Stops, pool_of}
use Rattle.zst_replication.specs.Histories.{ByCommand, ByReceive, EventsAreHistory, Here, LeadsOn, ReceivedRemembers, ReceivesRemember, StillRemembers}
use Rattle.zst_replication.specs.Soundness.{ReceivesKeepSound}
use Rattle.zst_replication.proofs.PoolInvariants.{FedWell, HoldsAll, cleared, receive_well, some, well_holds}
use Rattle.zst_replication.proofs.GrownPartials.{AreOrdered}
use Rattle.zst_replication.proofs.RunningPools.{finished_snapshot}
use Rattle.zst_replication.proofs.SoundSnapshots.{finished, finished_remembers, finished_sound}
use Rattle.zst_replication.proofs.SoundPartials.{under, under_remembers, under_sound}
use Rattle.zst_replication.proofs.Ancestry.{fewer_before_partial, fewer_linked, fewer_remembers, fewer_sound, has_row, sound_agrees}

-- a source is in a pool that has all snapshots and bookmarks of one that it is in
some_in : (pool other : Pool) (source : Source) → ((snapshot : Snapshot) → Contains pool.snapshots snapshot → Contains other.snapshots snapshot) → pool.bookmarks ≡ other.bookmarks
    → IsIn pool source → IsIn other source
some_in pool other (OfSnapshot snapshot) stay same there = stay snapshot there
some_in pool other (OfBookmark bookmark) stay same there = subst (λ (bs : List Bookmark). Contains bs bookmark) same there

-- with fewer partial states it is there, and remembers what it did
fewer_still : (pool : Pool) (partials : List Partial) → ((partial : Partial) → Contains partials partial → Contains pool.partials partial) → (source : Source) (state : State)
    → StillRemembers pool source state → StillRemembers (record pool { partials = partials }) source state
fewer_still pool partials some source state still = record {
  here = some_in pool (record pool { partials = partials }) source (λ s there. there) refl still.here;
  remembers = fewer_remembers pool partials some source state still.remembers;
}

-- ---- a receive

module _ (law : ReceivedIsApplied) (ask : RecvAsk) (pool : Pool) (is_name : IsDataset ask.target) (lawful : IsPool pool) (sound : Sound pool) where
  named : AreOrdered pool.snapshots
  named = record { order = lawful.named.snapshots; differ = lawful.named.snapshots_differ }

  abbrev start : Pool
  start = cleared ask pool

  few : (partial : Partial) → Contains start.partials partial → Contains pool.partials partial
  few partial there = some ask pool partial there

  old_row : (source : Source) (other : Partial) → IsBeforePartial start source other → IsBeforePartial pool source other
  old_row source other before = fewer_before_partial pool start.partials few source other before

  start_linked : IsLinked start
  start_linked = fewer_linked pool start.partials few lawful.linked

  start_sound : Sound start
  start_sound = fewer_sound pool start.partials few sound

  all_sound : HoldsAll ask pool Sound
  all_sound = record {
    first = sound;
    lives = λ number datasets partial later heads grown. under_sound start start_linked named start_sound pool.partials number later datasets partial heads grown held;
    ends = λ number datasets partial later heads grown is_name only. finished_sound start start_linked named start_sound pool.partials number later datasets partial heads grown is_name only held;
    fewer = λ pool partials some is. fewer_sound pool partials some is;
  }
    where
      held : (earlier : Snapshot) → Contains start.snapshots earlier → (old : Partial) → Contains pool.partials old → IsBeforePartial start (OfSnapshot earlier) old → Agrees earlier old.objects
      held earlier here other there before = sound_agrees pool sound earlier here (partial_row pool.number other) (PartialRow other there) (old_row (OfSnapshot earlier) other before)

  all_remember : (source : Source) (state : State) → StillRemembers pool source state → HoldsAll ask pool (λ p. StillRemembers p source state)
  all_remember source state still = record {
    first = still;
    lives = λ number datasets partial later heads grown. record {
      here = some_in start (under start number datasets partial) source (λ s there. there) refl now.here;
      remembers = under_remembers start start_linked named start_sound pool.partials number later datasets partial heads grown source state now.here now.remembers held;
    };
    ends = λ number datasets partial later heads grown is_name only. record {
      here = some_in start (finished start number datasets partial) source (λ s there. inserted_has_rest snapshot_is_before (finished_snapshot number partial) start.snapshots s there) refl now.here;
      remembers = finished_remembers start start_linked named start_sound pool.partials number later datasets partial heads grown is_name only source state now.here now.remembers held;
    };
    fewer = λ pool partials some is. fewer_still pool partials some source state is;
  }
    where
      now : StillRemembers start source state
      now = fewer_still pool start.partials few source state still

      held : (old : Partial) → Contains pool.partials old → IsBeforePartial start source old → Remembers old.objects (number_of_source source) state
      held other there before = still.remembers.later (partial_row pool.number other) (has_row pool (partial_row pool.number other) (PartialRow other there)) (old_row source other before)

  module _ (Holds : Pool → Type 0) (all : HoldsAll ask pool Holds) where
    fed_holds : (pieces : List (List ℕ)) → FedWell law ask pool lawful.linked sound Holds all is_name (receives ask pool pieces)
    fed_holds pieces = receive_well law ask pool lawful.linked sound Holds all is_name pieces

    pub holds_after : (pieces : List (List ℕ)) → Holds (pool_of (receives ask pool pieces))
    holds_after pieces = go (receives ask pool pieces) (fed_holds pieces)
      where
        go : (f : Fed) → FedWell law ask pool lawful.linked sound Holds all is_name f → Holds (pool_of f)
        go (Goes next after) well = well_holds law ask pool lawful.linked sound Holds all is_name after next well
        go (Stops next refusal) is = is

  sound_after : (pieces : List (List ℕ)) → Sound (pool_of (receives ask pool pieces))
  sound_after pieces = holds_after Sound all_sound pieces

  still_after : (pieces : List (List ℕ)) (source : Source) (state : State) → StillRemembers pool source state → StillRemembers (pool_of (receives ask pool pieces)) source state
  still_after pieces source state still = holds_after (λ p. StillRemembers p source state) (all_remember source state still) pieces

  -- the snapshot that was received
  record IsEnded (after : Pool) (partial : Partial) : Type 0 where
    number : ℕ
    target : partial.target ≡ ask.target
    there : Contains after.snapshots (finished_snapshot number partial)

  new_there : (snapshots : List Snapshot) (after : Pool) (partial : Partial) (number : ℕ) → after.snapshots ≡ inserted snapshot_is_before (finished_snapshot number partial) snapshots
      → Contains after.snapshots (finished_snapshot number partial)
  new_there snapshots after partial number e = subst (λ (ss : List Snapshot). Contains ss (finished_snapshot number partial)) (sym e) (inserted_has_row snapshot_is_before (finished_snapshot number partial) snapshots)

  ended : (pieces : List (List ℕ)) (after : Pool) (partial : Partial) → receives ask pool pieces ≡ Goes after (Ends partial) → IsEnded after partial
  ended pieces after partial e =
      let stands = (subst (λ (f : Fed). FedWell law ask pool lawful.linked sound Sound all_sound is_name f) e (fed_holds Sound all_sound pieces)).stands in
      let is = stands.runs in
      record { number = is.number; target = stands.asked.target; there = new_there pool.snapshots after partial is.number (ap (λ (p : Pool). p.snapshots) is.pool_is) }

pub kept : (pool : Pool) (partial : Partial) → Contains (kept_of pool).partials partial → Contains pool.partials partial
kept pool partial there = filter_contains (λ (p : Partial). p.keep) pool.partials partial there

pub receives_sound : ReceivedIsApplied → ReceivesKeepSound
receives_sound law ask pool pieces is_name lawful sound =
    let now = pool_of (receives ask pool pieces) in
    let is = sound_after law ask pool is_name lawful sound pieces in
    (is, fewer_sound now (kept_of now).partials (kept now) is)

pub receives_remember : ReceivedIsApplied → ReceivesRemember
receives_remember law ask pool pieces source state is_name lawful sound still =
    let now = pool_of (receives ask pool pieces) in
    let is = still_after law ask pool is_name lawful sound pieces source state still in
    (is, fewer_still now (kept_of now).partials (kept now) source state is)

-- the new snapshot is there, in a sound pool
pub received_remembers : ReceivedIsApplied → OwnIsRemembered → ReceivedRemembers
received_remembers law own ask pool after partial pieces is_name lawful sound e =
    let is = ended law ask pool is_name lawful sound pieces after partial e in
    let new = finished_snapshot is.number partial in
    let now : Sound (kept_of after) = subst (λ (f : Fed). Sound (kept_of (pool_of f))) e (receives_sound law ask pool pieces is_name lawful sound).1 in (
      new,
      ap (λ (t : List ℕ). snapshot_name t partial.component) is.target,
      record { here = is.there; remembers = own (kept_of after) (OfSnapshot new) new now is.there (record { dataset = refl; number = refl }) },
    )

-- ---- commands and receives

module _ (sounds : StepsKeepSound) (pools : StepsKeepPools) (steps : StepsRemember) (kept : ReceivesKeepSound) (remember : ReceivesRemember) (source : Source) (state : State) where
  -- what they keep while the source stands
  record IsKept (pool : Pool) : Type 0 where
    lawful : IsPool pool
    sound : Sound pool
    still : StillRemembers pool source state

  kept_on : (pool last : Pool) → LeadsOn source pool last → IsKept pool → IsKept last
  kept_on pool last (Here _) is = is
  kept_on pool last (ByCommand held now command _ after _ words fits made here rest) is = kept_on after.pool last rest (record {
    lawful = pools held now command pool after words fits is.lawful made;
    sound = sounds held now command pool after words is.lawful is.sound made;
    still = record { here = here; remembers = steps held now command pool after source state words is.lawful is.sound made is.still.here here is.still.remembers };
  })
  kept_on pool last (ByReceive ask pieces _ _ named lawful rest) is = kept_on (kept_of (pool_of (receives ask pool pieces))) last rest (record {
    lawful = lawful;
    sound = (kept ask pool pieces named is.lawful is.sound).1;
    still = (remember ask pool pieces source state named is.lawful is.sound is.still).1;
  })

pub events_base : StepsKeepSound → StepsKeepPools → StepsRemember → RememberedIsBase → ReceivesKeepSound → ReceivesRemember → EventsAreHistory
events_base sounds pools steps base kept remember pool last source state row listed redact lawful sound is still leads there before =
    let now = kept_on sounds pools steps kept remember source state pool last leads (record { lawful = lawful; sound = sound; still = still }) in
    base last source state row listed redact now.lawful is now.still.remembers there before
