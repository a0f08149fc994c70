-- No definition of a receive refuses for the bytes of a stream: that limit is told by the code before a piece is read.
use Rattle.std.proofs.Common.{◌≡◌, ℕ, ◌+◌, ◌==◌, ◌&&◌, ◌||◌, not, nat_lt, length, Bool, true, false, cond, List, [], ◌∷◌, Option, Some, None, Result, Ok, Err}
use Rattle.std.specs.Prelude.{IfErr, IfSome, bit_and, bytes_eq, find, is_some}
use Rattle.std.specs.Option.{ok_or, option_map_or}
use Rattle.zst_model.specs.declared.refusals.apply_fault.ApplyFault.{ApplyFault}
use Rattle.zst_model.specs.declared.refusals.faults.Quantity.TheVariants as quantities
use Rattle.zst_model.specs.declared.refusals.plan_fault.PlanFault.{PlanFault}
use Rattle.zst_model.specs.declared.refusals.plan_fault.PlanFault.TheVariants as plans
use Rattle.zst_model.specs.declared.refusals.subjects.Holder.TheVariants as holders
use Rattle.zst_model.specs.declared.refusals.refusal.Refusal.{Refusal}
use Rattle.zst_model.specs.declared.refusals.refusal.Refusal.TheVariants as refusals
use Rattle.zst_model.specs.declared.sends.header.Header.{Header}
use Rattle.zst_model.specs.declared.states.item.Item.{Item}
use Rattle.zst_names.specs.Names.{component_of}
use Rattle.zst_model.specs.pools.Limits.{most_datasets, most_partials, most_snapshots}
use Rattle.zst_model.specs.pools.Pool.{Pool, Partial, Dataset, Snapshot, dataset_named, dataset_of_bookmark, partial_of, snapshot_named}
use Rattle.zst_model.specs.pools.Step.{count_datasets, last_number}
use Rattle.zst_model.specs.refusals.Refusal.{refusal_of}
use Rattle.zst_model.specs.sends.Headers.{free_records}
use Rattle.zst_model.specs.sends.Points.{point_of}
use Rattle.zst_model.specs.sends.ReceivedRecords.{is_past, of_record, received}
use Rattle.zst_model.specs.sends.SendPlan.{find_snapshot, kind_of}
use Rattle.zst_model.specs.states.State.{index_bound}
use Rattle.zst_model.specs.states.AppliedItems.{unless, ◌>>=◌}
use Rattle.zst_model.specs.states.DatedState.{DatedState, apply_dated}
use Rattle.zst_apply.specs.AppliedRecords.{received_all}
use Rattle.zst_plan.specs.RecvPlan.{Base, RecvPlan, Begins, base_anew, base_by_guid, base_by_head, base_by_origin, base_for, base_onto, cloned_base, component_for, find_latest, fresh_plan, goes_on, if_contained, if_frees, if_from_origin, if_kind, if_new, if_room, if_source, is_component, is_contained, is_dated_after, is_full, is_resumed, latest_of, new_datasets, recv_plan, redacted_for, resumed_plan, rolled_back, snapshot_name, stated_component}
use Rattle.zst_plan.specs.declared.receive.RecvAsk.{RecvAsk}
use Rattle.zst_pool.specs.Partials.{next_commit, with_finished, with_partial}
use Rattle.zst_record.specs.declared.head.Head.{Head}
use Rattle.zst_record.specs.declared.head.Head.TheVariants as heads
use Rattle.zst_record.specs.Heads.{Covered}
use Rattle.zst_stream.specs.Items.{items_by}
use Rattle.zst_stream.specs.Reading.{Outcome, waiting, faulty, complete}
use Rattle.zst_recv.specs.Feeds.{fault_of}
use Rattle.zst_recv.specs.ReceiveSteps.{Stage, Waits, Lives, Ends, Batch, EndedBatch, batch_of, batch_by, began, first_fault, moved_by, of_plan, opened, put, put_at, taken_at, went_on, with_applied}
use Rattle.zst_recv.specs.TakenRecords.{fault_in, taken_of}

-- no refusal for the bytes of a stream
abbrev pub IsTame : Refusal → Type 0
IsTame (refusals.Limit which number) = which ≡ quantities.Stream → ⊥
IsTame _ = Unit {0}

abbrev IsTamePlan : PlanFault → Type 0
IsTamePlan (plans.Limit which number) = which ≡ quantities.Stream → ⊥
IsTamePlan _ = Unit {0}

-- each refusal is so
record Avoids {A E : Type 0} (P : E → Type 0) (r : Result A E) : Type 0 where
  avoids : IfErr r P

module _ {A E : Type 0} (P : E → Type 0) where
  of_unless : (b : Bool) (fault : E) (rest : Result A E) → P fault → Avoids P rest → Avoids P (unless b fault rest)
  of_unless true fault rest is later = record { avoids = is }
  of_unless false fault rest is later = later

  of_cond : (b : Bool) (one other : Result A E) → Avoids P one → Avoids P other → Avoids P (cond b one other)
  of_cond true one other is later = is
  of_cond false one other is later = later

  of_ok_or : (o : Option A) (fault : E) → P fault → Avoids P (ok_or o fault)
  of_ok_or None fault is = record { avoids = is }
  of_ok_or (Some a) fault is = record { avoids = tt }

module _ {A B E : Type 0} (P : E → Type 0) where
  of_then : (r : Result A E) (f : A → Result B E) → Avoids P r → ((a : A) → Avoids P (f a)) → Avoids P (r >>= f)
  of_then (Ok a) f is later = later a
  of_then (Err fault) f is later = record { avoids = is.avoids }

  of_map_or : (f : A → Result B E) (o : Option A) (other : Result B E) → ((a : A) → Avoids P (f a)) → Avoids P other → Avoids P (option_map_or f o other)
  of_map_or f None other is later = later
  of_map_or f (Some a) other is later = is a

-- ---- plans

module _ (ask : RecvAsk) (header : Header) (pool : Pool) where
  cloned : (snapshot : Snapshot) → Avoids IsTamePlan (cloned_base header pool snapshot)
  cloned snapshot = of_unless IsTamePlan (not (kind_of pool snapshot == header.kind)) _ _ tt (record { avoids = tt })

  by_guid : Avoids IsTamePlan (base_by_guid header pool)
  by_guid =
      of_cond IsTamePlan (is_full header) _ _ (record { avoids = tt })
      (of_then IsTamePlan (ok_or (find (λ snapshot. snapshot.guid == header.from) pool.snapshots) (plans.NoOrigin header.from)) (cloned_base header pool) (of_ok_or IsTamePlan (find (λ snapshot. snapshot.guid == header.from) pool.snapshots) (plans.NoOrigin header.from) tt) cloned)

  from_origin : (snapshot : Snapshot) → Avoids IsTamePlan (if_from_origin snapshot header (if_frees header (cloned_base header pool snapshot)))
  from_origin snapshot =
      let rest : Avoids IsTamePlan (if_frees header (cloned_base header pool snapshot)) = of_unless IsTamePlan (is_full header && bit_and header.flags free_records == 0) _ _ tt (cloned snapshot) in
      of_cond IsTamePlan (is_full header) _ _ rest (of_unless IsTamePlan (not (snapshot.guid == header.from)) _ _ tt rest)

  by_origin : (name : List ℕ) → Avoids IsTamePlan (base_by_origin header pool name)
  by_origin name =
      of_then IsTamePlan (find_snapshot name pool) (λ snapshot. if_from_origin snapshot header (if_frees header (cloned_base header pool snapshot))) (of_ok_or IsTamePlan (snapshot_named name pool) _ tt) from_origin

  anew : Avoids IsTamePlan (base_anew ask header pool)
  anew = of_map_or IsTamePlan (base_by_origin header pool) ask.origin (base_by_guid header pool) by_origin by_guid

  back : (dataset : Dataset) (latest : Snapshot) → Avoids IsTamePlan (rolled_back dataset latest pool)
  back dataset latest =
      of_map_or IsTamePlan (λ bookmark. Err (plans.Busy (holders.Bookmark bookmark.name)))
      (find (λ bookmark. bytes_eq (dataset_of_bookmark bookmark) dataset.name && nat_lt latest.number bookmark.number) pool.bookmarks) _ (λ bookmark. record { avoids = tt }) (record { avoids = tt })

  by_head : (dataset : Dataset) (latest : Snapshot) → Avoids IsTamePlan (base_by_head ask.force dataset latest pool)
  by_head dataset latest =
      of_cond IsTamePlan (is_dated_after latest.number dataset.head) _ _ (of_unless IsTamePlan (not ask.force) _ _ tt (back dataset latest)) (record { avoids = tt })

  onto_latest : (dataset : Dataset) (latest : Snapshot) → Avoids IsTamePlan (if_source latest.guid header (if_kind dataset.kind header (base_by_head ask.force dataset latest pool)))
  onto_latest dataset latest =
      of_unless IsTamePlan (not (latest.guid == header.from)) _ _ tt (of_unless IsTamePlan (not (dataset.kind == header.kind)) _ _ tt (by_head dataset latest))

  onto : (dataset : Dataset) → Avoids IsTamePlan (base_onto ask header pool dataset)
  onto dataset =
      of_unless IsTamePlan (is_full header || is_some ask.origin) _ _ tt
      (of_then IsTamePlan (find_latest dataset.name header pool) (λ latest. if_source latest.guid header (if_kind dataset.kind header (base_by_head ask.force dataset latest pool)))
      (of_ok_or IsTamePlan (latest_of dataset.name pool) _ tt) (onto_latest dataset))

  base : Avoids IsTamePlan (base_for ask header pool)
  base = of_map_or IsTamePlan (base_onto ask header pool) (dataset_named ask.target pool) (base_anew ask header pool) onto anew

  room : (plan : RecvPlan) → Avoids IsTamePlan (if_room ask.target pool (Ok plan))
  room plan =
      of_unless IsTamePlan (nat_lt most_partials (length pool.partials + 1)) _ _ (λ is. cc)
      (of_unless IsTamePlan (nat_lt most_datasets (count_datasets pool + new_datasets ask.target pool)) _ _ (λ is. cc)
      (of_unless IsTamePlan (nat_lt most_snapshots (length pool.snapshots + (length pool.partials + 1))) _ _ (λ is. cc) (record { avoids = tt })))

  abbrev behind_base : List ℕ → Base → Result RecvPlan PlanFault
  behind_base component found = if_contained found header (if_new (snapshot_name ask.target component) pool (if_room ask.target pool (Ok (Begins component found))))

  behind : (component : List ℕ) (found : Base) → Avoids IsTamePlan (behind_base component found)
  behind component found =
      of_unless IsTamePlan (not (is_contained (redacted_for found.snapshot) header)) _ _ tt
      (of_unless IsTamePlan (is_some (snapshot_named (snapshot_name ask.target component) pool)) _ _ tt (room (Begins component found)))

  fresh : (component : List ℕ) → Avoids IsTamePlan (fresh_plan ask header component pool)
  fresh component = of_unless IsTamePlan (is_resumed header) _ _ tt (of_then IsTamePlan (base_for ask header pool) (behind_base component) base (behind component))

  resumed : (partial : Partial) → Avoids IsTamePlan (resumed_plan header partial)
  resumed partial = of_unless IsTamePlan (not (is_resumed header)) _ _ tt (of_unless IsTamePlan (not (goes_on partial header)) _ _ tt (record { avoids = tt }))

  component_is : Avoids IsTamePlan (component_for ask header)
  component_is =
      of_map_or IsTamePlan (λ snapshot. Ok (component_of 64 snapshot)) ask.snap (stated_component header.name) (λ snapshot. record { avoids = tt })
      (of_unless IsTamePlan (not (is_component (component_of 64 header.name))) _ _ tt (record { avoids = tt }))

  planned : Avoids IsTamePlan (recv_plan ask header pool)
  unfolding recv_plan
  planned =
      of_then IsTamePlan (component_for ask header) (λ component. option_map_or (resumed_plan header) (partial_of ask.target pool) (fresh_plan ask header component pool)) component_is
      (λ component. of_map_or IsTamePlan (resumed_plan header) (partial_of ask.target pool) (fresh_plan ask header component pool) resumed (fresh component))

tame_fault : (fault : PlanFault) → IsTamePlan fault → IsTame (refusal_of fault)
tame_fault (plans.BadName place) is = tt
tame_fault (plans.NoSuch missing) is = tt
tame_fault (plans.Exists present) is = tt
tame_fault (plans.Busy holder) is = tt
tame_fault (plans.NotAncestor to from) is = tt
tame_fault (plans.NotRedactionOf bookmark snapshot) is = tt
tame_fault (plans.NotDescendant name) is = tt
tame_fault (plans.Modified name) is = tt
tame_fault (plans.NotLatest have want) is = tt
tame_fault (plans.NoOrigin guid) is = tt
tame_fault (plans.NotContained guid) is = tt
tame_fault (plans.PartialExists name) is = tt
tame_fault (plans.NoPartial name) is = tt
tame_fault (plans.WrongResume have want) is = tt
tame_fault (plans.Unsupported lack) is = tt
tame_fault (plans.Limit which number) is = is

tame_plan : {A : Type 0} (r : Result A PlanFault) → Avoids IsTamePlan r → Avoids IsTame (of_plan r)
tame_plan (Ok plan) is = record { avoids = tt }
tame_plan (Err fault) is = record { avoids = tame_fault fault is.avoids }

-- ---- records

tame_applied : (index : ℕ) (r : Result DatedState ApplyFault) → Avoids IsTame (of_record index r)
tame_applied index (Ok made) = record { avoids = tt }
tame_applied index (Err fault) = record { avoids = tt }

tame_item : (number index : ℕ) (item : Item) (snap : DatedState) → Avoids IsTame (received number index item snap)
tame_item number index item snap =
    of_then IsTame (of_record index (apply_dated number item snap)) (λ after. unless (is_past item snap.state) (refusals.Limit quantities.Block index_bound) (Ok after)) (tame_applied index (apply_dated number item snap))
    (λ after. of_unless IsTame (is_past item snap.state) _ _ (λ is. cc) (record { avoids = tt }))

tame_items : (number index : ℕ) (items : List Item) (snap : DatedState) → Avoids IsTame (received_all number index items snap)
tame_items number index [] snap = record { avoids = tt }
tame_items number index (item ∷ rest) snap = of_then IsTame (received number index item snap) (received_all number index rest) (tame_item number index item snap) (λ after. tame_items number index rest after)

tame_moved : (number : ℕ) (c : Covered) (flags : ℕ) (partial : Partial) (plain : Batch) → Avoids IsTame (moved_by number c flags partial >>= λ moved. Ok (with_applied flags moved plain))
tame_moved number c flags partial plain =
    let items = items_by flags c.payload c.head in
    of_then IsTame (moved_by number c flags partial) (λ moved. Ok (with_applied flags moved plain))
    (of_then IsTame (received_all number c.index items partial.objects) (λ objects. Ok (record partial { objects = objects; point = point_of partial.point items })) (tame_items number c.index items partial.objects)
    (λ objects. record { avoids = tt })) (λ moved. record { avoids = tt })

tame_went : (number : ℕ) (c : Covered) (flags : ℕ) (partial : Partial) (plain : Batch) (head : Head) → Avoids IsTame (went_on number c flags partial plain head)
tame_went number c flags partial plain (heads.Begin header len) = record { avoids = tt }
tame_went number c flags partial plain (heads.Object object kind bonus_kind block_size bonus_len max_block to) = tame_moved number c flags partial plain
tame_went number c flags partial plain (heads.FreeObjects first count to) = tame_moved number c flags partial plain
tame_went number c flags partial plain (heads.Write object kind offset size to) = tame_moved number c flags partial plain
tame_went number c flags partial plain (heads.Free object offset size to) = tame_moved number c flags partial plain
tame_went number c flags partial plain (heads.End sums to) = record { avoids = tt }
tame_went number c flags partial plain (heads.Spill object size to) = tame_moved number c flags partial plain
tame_went number c flags partial plain (heads.Redact object offset size to) = tame_moved number c flags partial plain

tame_began : (ask : RecvAsk) (pool : Pool) (plain : Batch) (head : Head) → Avoids IsTame (began ask pool plain head)
tame_began ask pool plain (heads.Begin header len) =
    of_then IsTame (of_plan (recv_plan ask header pool)) (λ plan. Ok (opened ask header plan)) (tame_plan (recv_plan ask header pool) (planned ask header pool)) (λ plan. record { avoids = tt })
tame_began ask pool plain (heads.Object object kind bonus_kind block_size bonus_len max_block to) = record { avoids = tt }
tame_began ask pool plain (heads.FreeObjects first count to) = record { avoids = tt }
tame_began ask pool plain (heads.Write object kind offset size to) = record { avoids = tt }
tame_began ask pool plain (heads.Free object offset size to) = record { avoids = tt }
tame_began ask pool plain (heads.End sums to) = record { avoids = tt }
tame_began ask pool plain (heads.Spill object size to) = record { avoids = tt }
tame_began ask pool plain (heads.Redact object offset size to) = record { avoids = tt }

tame_taken : (ask : RecvAsk) (pool : Pool) (c : Covered) (plain : Batch) (stage : Stage) → Avoids IsTame (taken_at ask pool c plain stage)
tame_taken ask pool c plain Waits = tame_began ask pool plain c.head
tame_taken ask pool c plain (Lives flags partial) = tame_went (pool.number + 1) c flags partial plain c.head
tame_taken ask pool c plain (Ends partial) = record { avoids = tt }

tame_by : (r : Result Batch Refusal) (plain : Batch) (next : Batch → EndedBatch) → Avoids IsTame r → ((after : Batch) → IfSome (next after).fault IsTame) → IfSome (batch_by r plain next).fault IsTame
tame_by (Ok after) plain next is later = later after
tame_by (Err refusal) plain next is later = is.avoids

tame_batch : (ask : RecvAsk) (pool : Pool) (records : List Covered) (plain : Batch) → IfSome (batch_of ask pool records plain).fault IsTame
unfolding batch_of
tame_batch ask pool [] plain = tt
tame_batch ask pool (c ∷ rest) plain = tame_by (taken_at ask pool c plain plain.stage) plain (batch_of ask pool rest) (tame_taken ask pool c plain plain.stage) (tame_batch ask pool rest)

tame_reading : (outcome : Outcome) → IfSome (fault_of outcome) IsTame
tame_reading waiting = tt
tame_reading (faulty fault) = tt
tame_reading complete = tt

tame_first : (one other : Option Refusal) → IfSome one IsTame → IfSome other IsTame → IfSome (first_fault one other) IsTame
tame_first None other is later = later
tame_first (Some refusal) other is later = is

-- the first fault of a piece isn't of the bytes of a stream
pub tame_piece : (ask : RecvAsk) (pool : Pool) (text piece : List ℕ) (plain : Batch) → IfSome (fault_in ask pool text piece plain) IsTame
tame_piece ask pool text piece plain = tame_first (taken_of ask pool text piece plain).fault _ (tame_batch ask pool _ plain) (tame_reading _)

-- ---- commits

tame_next : (pool : Pool) → Avoids IsTame (next_commit pool)
tame_next pool =
    of_unless IsTame (nat_lt most_partials (length pool.partials)) _ _ (λ is. cc)
    (of_unless IsTame (nat_lt most_datasets (count_datasets pool)) _ _ (λ is. cc)
    (of_unless IsTame (nat_lt most_snapshots (length pool.snapshots + length pool.partials)) _ _ (λ is. cc)
    (of_unless IsTame (nat_lt last_number (pool.number + 1)) _ _ (λ is. cc) (record { avoids = tt }))))

tame_put_at : (rolls : Bool) (stage : Stage) (pool : Pool) → Avoids IsTame (put_at rolls stage pool)
tame_put_at rolls Waits pool = record { avoids = tt }
tame_put_at rolls (Lives flags partial) pool = tame_next (with_partial rolls partial pool)
tame_put_at rolls (Ends partial) pool = tame_next (with_finished partial pool)

-- nor is that of a commit
pub tame_put : (plain : Batch) (pool : Pool) → IfErr (put plain pool) IsTame
tame_put plain pool = let is = of_cond IsTame plain.taken _ _ (tame_put_at plain.rolls plain.stage pool) (record { avoids = tt }) in is.avoids
