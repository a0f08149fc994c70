-- What redaction bookmarks list stays so through a receive.
use Rattle.std.proofs.Common.{◌≡◌, inl, inr, ℕ, ◌<◌, List, refl, ap, ◌∙◌, subst, Contains}
use Rattle.zst_names.specs.Names.{IsDataset}
use Rattle.zst_laws.specs.ReceivedRecords.{ReceivedIsApplied}
use Rattle.zst_laws.specs.RedactionSteps.{HasNoNewLists, ListsAreKept, OnlyAddsTo}
use Rattle.zst_model.proofs.InsertedLaws.{contains-inserted}
use Rattle.zst_model.specs.pools.Ancestry.{IsOrigin}
use Rattle.zst_model.specs.pools.KeptPool.{kept_of}
use Rattle.zst_model.specs.pools.Pool.{Dataset, IsLinked, IsPool, Partial, Pool, Snapshot, snapshot_is_before}
use Rattle.zst_model.specs.pools.Soundness.{Sound}
use Rattle.zst_plan.specs.declared.receive.RecvAsk.{RecvAsk}
use Rattle.zst_pool.specs.Partials.{partials_of_others}
use Rattle.zst_recv.specs.Feeds.{receives}
use Rattle.zst_recv.specs.ReceiveSteps.{pool_of}
use Rattle.zst_replication.specs.Soundness.{ReceivesKeepLists}
use Rattle.zst_replication.proofs.Ancestry.{fewer_linked, fewer_sound}
use Rattle.zst_replication.proofs.GrownPartials.{AreOrdered}
use Rattle.zst_replication.proofs.PoolInvariants.{HoldsAll, IsGrown, cleared, some}
use Rattle.zst_replication.proofs.RunningPools.{finished_snapshot}
use Rattle.zst_replication.proofs.SoundFeeds.{holds_after}
use Rattle.zst_replication.proofs.SoundPartials.{AreOlds, under}
use Rattle.zst_replication.proofs.SoundSnapshots.{finished, finished_origin}

-- a pool adds later snapshots to another, and no redaction bookmark
record Adds (pool after : Pool) : Type 0 where
  adds : OnlyAddsTo pool after
  none : HasNoNewLists pool after

same_origin : (pool after : Pool) → after.datasets ≡ pool.datasets → after.snapshots ≡ pool.snapshots → (origin : Snapshot) (name : List ℕ) → IsOrigin after origin name → IsOrigin pool origin name
same_origin pool after datasets snapshots origin name is = record {
  dataset = is.dataset;
  there = subst (λ (ds : List Dataset). Contains ds is.dataset) datasets is.there;
  named = is.named;
  snapshot_there = subst (λ (ss : List Snapshot). Contains ss origin) snapshots is.snapshot_there;
  is_origin = is.is_origin;
}

-- with other partial states it does so too
fewer_adds : (pool after : Pool) (partials : List Partial) → Adds pool after → Adds pool (record after { partials = partials })
fewer_adds pool after partials is = record {
  adds = record {
    origins = λ origin name has of. is.adds.origins origin name has (same_origin after (record after { partials = partials }) refl refl origin name of);
    snapshots = is.adds.snapshots;
  };
  none = is.none;
}

module _ (ask : RecvAsk) (pool : Pool) (lawful : IsPool pool) (sound : Sound pool) where
  abbrev start : Pool
  start = cleared ask pool

  few : (partial : Partial) → Contains start.partials partial → Contains pool.partials partial
  few partial there = some ask pool partial there

  start_linked : IsLinked start
  start_linked = fewer_linked pool start.partials few lawful.linked

  start_sound : Sound start
  start_sound = fewer_sound pool start.partials few sound

  named : AreOrdered pool.snapshots
  named = record { order = lawful.named.snapshots; differ = lawful.named.snapshots_differ }

  -- a pool with a partial state of the target adds none
  under_adds : (number : ℕ) (datasets : List Dataset) (partial : Partial) → AreOlds start partial.target datasets → Adds pool (under start number datasets partial)
  under_adds number datasets partial heads = record {
    adds = record {
      origins = λ origin name has of.
          let old = heads.olds of.dataset of.there in
          record { dataset = old.0; there = old.1; named = old.2.name ∙ of.named; snapshot_there = of.snapshot_there; is_origin = old.2.origin ∙ of.is_origin };
      snapshots = λ snapshot there. inl there;
    };
    none = λ bookmark there. inl there;
  }

  -- and one with its snapshot adds that
  finished_adds : (number : ℕ) (datasets : List Dataset) (partial : Partial) → pool.number < number → AreOlds start partial.target datasets → IsGrown ask pool number partial
      → IsDataset partial.target → ((other : Partial) → Contains (partials_of_others ask.target pool) other → other.target ≡ partial.target → ⊥) → Adds pool (finished start number datasets partial)
  finished_adds number datasets partial later heads grown is_name only = record {
    adds = record {
      origins = λ origin name has of.
          same_origin pool start refl refl origin name
          (finished_origin start start_linked named start_sound pool.partials number later datasets partial heads grown is_name only origin name has of);
      snapshots = λ snapshot there. elim (contains-inserted snapshot_is_before (finished_snapshot number partial) pool.snapshots snapshot there) [
        | inl new ↦ inr (subst (λ (n : ℕ). pool.number < n) (ap (λ (s : Snapshot). s.number) new) later)
        | inr old ↦ inl old
      ];
    };
    none = λ bookmark there. inl there;
  }

  all_add : HoldsAll ask pool (Adds pool)
  all_add = record {
    first = record {
      adds = record { origins = λ origin name has of. of; snapshots = λ snapshot there. inl there };
      none = λ bookmark there. inl there;
    };
    lives = λ number datasets partial later heads grown. under_adds number datasets partial heads;
    ends = λ number datasets partial later heads grown is_name only. finished_adds number datasets partial later heads grown is_name only;
    fewer = λ after partials some is. fewer_adds pool after partials is;
  }

pub receives_keep_lists : ReceivedIsApplied → ListsAreKept → ReceivesKeepLists
receives_keep_lists law lists ask pool pieces is_name lawful sound guids new listed =
    let now = pool_of (receives ask pool pieces) in
    let is = holds_after law ask pool is_name lawful sound (Adds pool) (all_add ask pool lawful sound) pieces in
    let also = fewer_adds pool now (kept_of now).partials is in
    (lists pool now lawful sound is.adds is.none guids new listed, lists pool (kept_of now) lawful sound also.adds also.none guids new listed)
