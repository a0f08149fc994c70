-- A feed that stops: which records it took, and what it left.
use Rattle.std.proofs.Common.{◌≡◌, ◌⊎◌, inl, inr, ℕ, ◌+◌, ◌≤◌, Bool, true, false, List, [], ◌∷◌, ◌++◌, Option, Some, None, Result, Ok, Err, nat_lt, length, refl, sym, ap, ◌∙◌, subst, cond, ◌&&◌, append_assoc, append-nil, arith}
use Rattle.std.specs.List.{concat}
use Rattle.std.proofs.lemmas.Option.{same_Some}
use Rattle.zst_apply.specs.AppliedRecords.{received_all}
use Rattle.zst_laws.specs.ReceivedRecords.{ReceivedIsApplied}
use Rattle.zst_model.specs.declared.refusals.faults.Quantity.{Quantity}
use Rattle.zst_model.specs.declared.refusals.faults.Quantity.TheVariants as quantities
use Rattle.zst_model.specs.declared.refusals.refusal.Refusal.{Refusal}
use Rattle.zst_model.specs.declared.refusals.refusal.Refusal.TheVariants as refusals
use Rattle.zst_model.specs.declared.refusals.stream_fault.StreamFault.{StreamFault}
use Rattle.zst_model.specs.pools.Limits.{most_partials}
use Rattle.zst_model.specs.pools.Pool.{Pool, Partial}
use Rattle.zst_model.specs.pools.Step.{count_datasets, last_number, most_datasets, most_snapshots}
use Rattle.zst_model.specs.sends.Points.{point_of}
use Rattle.zst_model.specs.states.AppliedItems.{◌>>=◌, unless}
use Rattle.zst_model.specs.states.DatedState.{DatedState}
use Rattle.zst_model.proofs.Results.{ok_parts}
use Rattle.zst_plan.specs.declared.receive.RecvAsk.{RecvAsk}
use Rattle.zst_pool.specs.Partials.{next_commit, with_finished, with_partial}
use Rattle.zst_record.specs.declared.head.Head.{Head}
use Rattle.zst_record.specs.declared.head.Head.TheVariants as heads
use Rattle.zst_record.specs.Heads.{Covered}
use Rattle.zst_recv.proofs.CommitLemmas.{commit_is}
use Rattle.zst_recv.proofs.RecordOrder.{EndsBy}
use Rattle.zst_recv.specs.Feeds.{and_feed, fault_of, fed_piece, feeds, receives}
use Rattle.zst_recv.specs.ReceiveSteps.{Stage, Waits, Lives, Ends, Fed, Goes, Stops, Batch, EndedBatch, batch_by, batch_of, committed, first_fault, is_kept, keeps_front, left_by, moved_by, put, put_at, settled, taken, taken_at, went_on, with_applied}
use Rattle.zst_recv.specs.Stages.{is_end}
use Rattle.zst_stream.specs.Items.{items_by}
use Rattle.zst_stream.specs.Reading.{Outcome, waiting, faulty, complete}
use Rattle.zst_replication.specs.FeedFaults.{EndsAtFault, IsOfRecords}
use Rattle.zst_replication.proofs.AppliedRecords.{Applied, taken_applied}
use Rattle.zst_replication.proofs.FirstRecords.{FirstIsBegin}
use Rattle.zst_replication.proofs.StreamRecords.{IsEnd}

-- ---- pieces behind pieces

pub feeds_more : (ask : RecvAsk) (text : List ℕ) (pieces more : List (List ℕ)) (stage : Stage) (pool : Pool)
    → feeds ask text (pieces ++ more) stage pool ≡ and_feed (feeds ask text pieces stage pool) (feeds ask (text ++ concat pieces) more)
unfolding feeds
feeds_more ask text [] more stage pool = ap (λ (t : List ℕ). feeds ask t more stage pool) (sym (append-nil text))
feeds_more ask text (piece ∷ rest) more stage pool = go (fed_piece ask text piece stage pool) (λ next after. feeds_more ask (text ++ piece) rest more after next)
  where
    go : (f : Fed) → ((next : Pool) (after : Stage) → feeds ask (text ++ piece) (rest ++ more) after next ≡ and_feed (feeds ask (text ++ piece) rest after next) (feeds ask ((text ++ piece) ++ concat rest) more))
        → and_feed f (feeds ask (text ++ piece) (rest ++ more)) ≡ and_feed (and_feed f (feeds ask (text ++ piece) rest)) (feeds ask (text ++ (piece ++ concat rest)) more)
    go (Goes next after) on =
        on next after ∙ ap (λ (t : List ℕ). and_feed (feeds ask (text ++ piece) rest after next) (feeds ask t more)) (append_assoc text piece (concat rest))
    go (Stops next refusal) on = refl

-- one piece more
pub receives_last : (ask : RecvAsk) (start pool : Pool) (pieces : List (List ℕ)) (piece : List ℕ) (stage : Stage) → receives ask start pieces ≡ Goes pool stage
    → receives ask start (pieces ++ piece ∷ []) ≡ fed_piece ask (concat pieces) piece stage pool
unfolding feeds
receives_last ask start pool pieces piece stage went =
    feeds_more ask [] pieces (piece ∷ []) Waits start ∙ ap (λ (f : Fed). and_feed f (feeds ask (concat pieces) (piece ∷ []))) went
    ∙ last (fed_piece ask (concat pieces) piece stage pool)
  where
    last : (f : Fed) → and_feed f (feeds ask (concat pieces ++ piece) []) ≡ f
    last (Goes next after) = refl
    last (Stops next refusal) = refl

-- ---- END stands last

end_is : (head : Head) → IsEnd head → is_end head ≡ true
end_is (heads.End sums to) end = refl
end_is (heads.Begin header len) end = absurd end
end_is (heads.Object object kind bonus_kind block_size bonus_len max_block to) end = absurd end
end_is (heads.FreeObjects first count to) end = absurd end
end_is (heads.Write object kind offset size to) end = absurd end
end_is (heads.Free object offset size to) end = absurd end
end_is (heads.Spill object size to) end = absurd end
end_is (heads.Redact object offset size to) end = absurd end

not_empty : (xs : List Covered) (c : Covered) (more : List Covered) → xs ++ c ∷ more ≡ [] → ⊥
not_empty [] c more e = cc
not_empty (x ∷ xs) c more e = cc

-- nothing is covered behind it, and the reading is complete
pub end_completes : (front : List Covered) (c : Covered) (more : List Covered) (outcome : Outcome) → EndsBy (front ++ c ∷ more) outcome → IsEnd c.head → (more ≡ []) × (outcome ≡ complete)
end_completes [] c more outcome (inl last) end = (last.1, last.2)
end_completes [] c more outcome (inr middle) end = absurd (let both = sym (end_is c.head end) ∙ middle.0 in cc)
end_completes (x ∷ xs) c more outcome (inl last) end = absurd (not_empty xs c more last.1)
end_completes (x ∷ xs) c more outcome (inr middle) end = end_completes xs c more outcome middle.1 end

-- ---- the records before the first that is refused

module _ (law : ReceivedIsApplied) (ask : RecvAsk) (start pool : Pool) where
  -- none is left, or the first of those that are left is refused behind this batch
  abbrev pub WhyLeft : Batch → Option Refusal → List Covered → Type 0
  WhyLeft batch None left = left ≡ []
  WhyLeft batch (Some refusal) left = (c : Covered) × (rest : List Covered) × (left ≡ c ∷ rest) × (taken ask pool c batch ≡ Err refusal)

  pub record TakenFront (all : List Covered) (done : EndedBatch) : Type 0 where
    pub front : List Covered
    pub left : List Covered
    pub split : front ++ left ≡ all
    pub applied : Applied ask start pool done.batch.stage front
    pub why : WhyLeft done.batch done.fault left

  pub taken_front : (done records : List Covered) (batch : Batch) → FirstIsBegin (done ++ records) → Applied ask start pool batch.stage done → TakenFront (done ++ records) (batch_of ask pool records batch)
  unfolding batch_of
  taken_front done [] batch begins applied = record { front = done; left = []; split = refl; applied = applied; why = refl }
  taken_front done (c ∷ rest) batch begins applied =
      let same = append_assoc done (c ∷ []) rest in
      go (taken ask pool c batch) refl (λ after more.
      subst (λ (cs : List Covered). TakenFront cs (batch_of ask pool rest after)) same
      (taken_front (done ++ c ∷ []) rest after (subst (λ (cs : List Covered). FirstIsBegin cs) (sym same) begins) more))
    where
      go : (r : Result Batch Refusal) → taken ask pool c batch ≡ r
          → ((after : Batch) → Applied ask start pool after.stage (done ++ c ∷ []) → TakenFront (done ++ c ∷ rest) (batch_of ask pool rest after))
          → TakenFront (done ++ c ∷ rest) (batch_by r batch (batch_of ask pool rest))
      go (Ok after) e on = on after (taken_applied law ask start pool c done batch after batch.stage refl (λ none. subst (λ (cs : List Covered). FirstIsBegin (cs ++ c ∷ rest)) none begins) applied e)
      go (Err refusal) e on = record { front = done; left = c ∷ rest; split = refl; applied = applied; why = (c, rest, refl, e) }

-- ---- why a record behind BEGIN is refused

same_fault : {A : Type 0} (x y : Refusal) → ◌≡◌ {A = Result A Refusal} (Err x) (Err y) → x ≡ y
same_fault x y e = cc

module _ (number : ℕ) (c : Covered) (flags : ℕ) (partial : Partial) (batch : Batch) (refusal : Refusal) where
  moved_refused : (moved_by number c flags partial >>= λ moved. Ok (with_applied flags moved batch)) ≡ Err refusal → received_all number c.index (items_by flags c.payload c.head) partial.objects ≡ Err refusal
  moved_refused e = go (received_all number c.index (items_by flags c.payload c.head) partial.objects) e
    where
      moved : DatedState → Result Partial Refusal
      moved objects = Ok (record partial { objects = objects; point = point_of partial.point (items_by flags c.payload c.head) })

      go : (r : Result DatedState Refusal) → ((r >>= moved) >>= λ next. Ok (with_applied flags next batch)) ≡ Err refusal → r ≡ Err refusal
      go (Ok objects) e = absurd cc
      go (Err fault) e = ap (λ (f : Refusal). Err f) (same_fault fault refusal e)

  pub item_refused : (head : Head) → went_on number c flags partial batch head ≡ Err refusal → received_all number c.index (items_by flags c.payload c.head) partial.objects ≡ Err refusal
  item_refused (heads.Begin header len) e = absurd cc
  item_refused (heads.Object object kind bonus_kind block_size bonus_len max_block to) e = moved_refused e
  item_refused (heads.FreeObjects first count to) e = moved_refused e
  item_refused (heads.Write object kind offset size to) e = moved_refused e
  item_refused (heads.Free object offset size to) e = moved_refused e
  item_refused (heads.End sums to) e = absurd cc
  item_refused (heads.Spill object size to) e = moved_refused e
  item_refused (heads.Redact object offset size to) e = moved_refused e

-- a reading that ends with a fault
pub stream_fault : (outcome : Outcome) (refusal : Refusal) → fault_of outcome ≡ Some refusal → (fault : StreamFault) × (outcome ≡ faulty fault) × (refusal ≡ refusals.Stream fault)
stream_fault waiting refusal e = absurd cc
stream_fault (faulty fault) refusal e = (fault, refl, sym (same_Some (refusals.Stream fault) refusal e))
stream_fault complete refusal e = absurd cc

-- so the records that were taken end at the fault
pub ends_at : (law : ReceivedIsApplied) (ask : RecvAsk) (start pool : Pool) (batch : Batch) (flags : ℕ) (partial : Partial) (first : Option Refusal) (left : List Covered) (outcome : Outcome) (refusal : Refusal)
    → batch.stage ≡ Lives flags partial → WhyLeft law ask start pool batch first left → first_fault first (fault_of outcome) ≡ Some refusal
    → EndsAtFault (pool.number + 1) flags partial left outcome refusal
ends_at law ask start pool batch flags partial None left outcome refusal is why e =
    let found = stream_fault outcome refusal e in
    inl (found.0, why, found.1, found.2)
ends_at law ask start pool batch flags partial (Some fault) left outcome refusal is why e =
    let c = why.0 in
    let refused = item_refused (pool.number + 1) c flags partial batch fault c.head (subst (λ (s : Stage). taken_at ask pool c batch s ≡ Err fault) is why.3) in
    inr (c, why.1, why.2, refused ∙ ap (λ (f : Refusal). Err f) (same_Some fault refusal e))

-- ---- what is left

stops_parts : (a b : Pool) (r s : Refusal) → Stops a r ≡ Stops b s → (a ≡ b) × (r ≡ s)
stops_parts a b r s e = (cc, cc)

-- the commit is refused; or a fault is told, with what was taken before it, or without
abbrev pub Stopped : Stage → Pool → Batch → Option Refusal → Pool → Refusal → Type 0
Stopped before pool batch fault after refusal =
    ((put batch pool ≡ Err refusal) × (after ≡ left_by before pool))
    ⊎ ((fault ≡ Some refusal)
    × ((((keeps_front refusal && is_kept batch.stage) ≡ true) × (put batch pool ≡ Ok after))
    ⊎ (((keeps_front refusal && is_kept batch.stage) ≡ false) × (after ≡ left_by before pool))))

module _ (before : Stage) (pool : Pool) (batch : Batch) (after : Pool) (refusal : Refusal) where
  not_put : (fault : Option Refusal) (other : Refusal) → put batch pool ≡ Err other → Stops (left_by before pool) other ≡ Stops after refusal → Stopped before pool batch fault after refusal
  not_put fault other is e =
      let both = stops_parts (left_by before pool) after other refusal e in
      inl (is ∙ ap (λ (f : Refusal). Err f) both.1, sym both.0)

  stopped_well : (r : Result Pool Refusal) → put batch pool ≡ r → committed before pool r (λ now. Goes now batch.stage) ≡ Stops after refusal → Stopped before pool batch None after refusal
  stopped_well (Ok next) is e = absurd cc
  stopped_well (Err other) is e = not_put None other is e

  stopped_after : (fault : Refusal) (r : Result Pool Refusal) → put batch pool ≡ r → (keeps_front fault && is_kept batch.stage) ≡ true
      → committed before pool r (λ now. Stops now fault) ≡ Stops after refusal → Stopped before pool batch (Some fault) after refusal
  stopped_after fault (Ok next) is kept e =
      let both = stops_parts next after fault refusal e in
      inr (
        ap (λ (f : Refusal). Some f) both.1,
        inl (subst (λ (f : Refusal). (keeps_front f && is_kept batch.stage) ≡ true) both.1 kept, is ∙ ap (λ (p : Pool). Ok p) both.0),
      )
  stopped_after fault (Err other) is kept e = not_put (Some fault) other is e

  pub stopped_so : (fault : Option Refusal) → settled before pool batch fault ≡ Stops after refusal → Stopped before pool batch fault after refusal
  stopped_so None e = stopped_well (put batch pool) refl e
  stopped_so (Some fault) e = go (keeps_front fault && is_kept batch.stage) refl e
    where
      go : (t : Bool) → (keeps_front fault && is_kept batch.stage) ≡ t
          → cond t (committed before pool (put batch pool) (λ now. Stops now fault)) (Stops (left_by before pool) fault) ≡ Stops after refusal → Stopped before pool batch (Some fault) after refusal
      go true is e = stopped_after fault (put batch pool) refl is e
      go false is e =
          let both = stops_parts (left_by before pool) after fault refusal e in
          inr (ap (λ (f : Refusal). Some f) both.1, inr (subst (λ (f : Refusal). (keeps_front f && is_kept batch.stage) ≡ false) both.1 is, sym both.0))

-- ---- a commit is refused by a limit of the pool alone

abbrev OfPool : Result Pool Refusal → Type 0
OfPool (Ok pool) = Unit {0}
OfPool (Err refusal) = IsOfRecords refusal → ⊥

no_index : (which : Quantity) (most : ℕ) → (which ≡ quantities.Block → ⊥) → IsOfRecords (refusals.Limit which most) → ⊥
no_index which most other (inl stream) = let e = stream.1 in cc
no_index which most other (inr (inl item)) = let e = item.2 in cc
no_index which most other (inr (inr index)) = other (let e = index.1 in cc)

within : (t : Bool) (which : Quantity) (most : ℕ) (rest : Result Pool Refusal) → (which ≡ quantities.Block → ⊥) → OfPool rest → OfPool (unless t (refusals.Limit which most) rest)
within true which most rest other is = no_index which most other
within false which most rest other is = is

commit_of_pool : (pool : Pool) → OfPool (next_commit pool)
commit_of_pool pool =
    within (nat_lt most_partials (length pool.partials)) quantities.Partials most_partials _ (λ e. cc)
    (within (nat_lt most_datasets (count_datasets pool)) quantities.Datasets most_datasets _ (λ e. cc)
    (within (nat_lt most_snapshots (length pool.snapshots + length pool.partials)) quantities.Snapshots most_snapshots _ (λ e. cc)
    (within (nat_lt last_number (pool.number + 1)) quantities.Number last_number (Ok (record pool { number = pool.number + 1 })) (λ e. cc) tt)))

put_of_pool : (batch : Batch) (pool : Pool) → OfPool (put batch pool)
put_of_pool batch pool = go batch.taken
  where
    at : (s : Stage) → OfPool (put_at batch.rolls s pool)
    at Waits = tt
    at (Lives flags partial) = commit_of_pool (with_partial batch.rolls partial pool)
    at (Ends partial) = commit_of_pool (with_finished partial pool)

    go : (t : Bool) → OfPool (cond t (put_at batch.rolls batch.stage pool) (Ok pool))
    go true = at batch.stage
    go false = tt

pub put_refused : (batch : Batch) (pool : Pool) (refusal : Refusal) → put batch pool ≡ Err refusal → IsOfRecords refusal → ⊥
put_refused batch pool refusal e = subst (λ (r : Result Pool Refusal). OfPool r) e (put_of_pool batch pool)

-- what waits for BEGIN is put with no refusal
pub waits_put : (batch : Batch) (pool : Pool) (refusal : Refusal) → batch.stage ≡ Waits → put batch pool ≡ Err refusal → ⊥
waits_put batch pool refusal waits e = go batch.taken (subst (λ (s : Stage). cond batch.taken (put_at batch.rolls s pool) (Ok pool) ≡ Err refusal) waits e)
  where
    go : (t : Bool) → cond t (put_at batch.rolls Waits pool) (Ok pool) ≡ Err refusal → ⊥
    go true e = cc
    go false e = cc

-- a commit raises the number by one
pub put_once : (batch : Batch) (pool next : Pool) → put batch pool ≡ Ok next → next.number ≤ pool.number + 1
put_once batch pool next e = go batch.taken e
  where
    as_is : ◌≡◌ {A = Result Pool Refusal} (Ok pool) (Ok next) → next.number ≤ pool.number + 1
    as_is e = let same : pool.number ≡ next.number = ap (λ (p : Pool). p.number) (ok_parts pool next e) in omega (arith, same)

    at : (s : Stage) → put_at batch.rolls s pool ≡ Ok next → next.number ≤ pool.number + 1
    at Waits e = as_is e
    at (Lives flags partial) e =
        let same : next.number ≡ pool.number + 1 = ap (λ (p : Pool). p.number) (commit_is (with_partial batch.rolls partial pool) next e) in omega (arith, same)
    at (Ends partial) e = let same : next.number ≡ pool.number + 1 = ap (λ (p : Pool). p.number) (commit_is (with_finished partial pool) next e) in omega (arith, same)

    go : (t : Bool) → cond t (put_at batch.rolls batch.stage pool) (Ok pool) ≡ Ok next → next.number ≤ pool.number + 1
    go true e = at batch.stage e
    go false e = as_is e

-- ---- which refusals keep the records before them

pub front_stays : (refusal : Refusal) → IsOfRecords refusal → keeps_front refusal ≡ true
front_stays refusal (inl stream) = ap keeps_front stream.1
front_stays refusal (inr (inl item)) = ap keeps_front item.2
front_stays refusal (inr (inr index)) = ap keeps_front index.1

of_index : (which : Quantity) (number : ℕ) → keeps_front (refusals.Limit which number) ≡ true → which ≡ quantities.Block
of_index quantities.Object number e = absurd cc
of_index quantities.Block number e = refl
of_index quantities.Datasets number e = absurd cc
of_index quantities.Snapshots number e = absurd cc
of_index quantities.Bookmarks number e = absurd cc
of_index quantities.Partials number e = absurd cc
of_index quantities.RedactionSnapshots number e = absurd cc
of_index quantities.Runs number e = absurd cc
of_index quantities.Sends number e = absurd cc
of_index quantities.Receives number e = absurd cc
of_index quantities.Number number e = absurd cc
of_index quantities.Guids number e = absurd cc
of_index quantities.Device number e = absurd cc
of_index quantities.Stream number e = absurd cc
of_index quantities.Script number e = absurd cc

pub front_of : (refusal : Refusal) → keeps_front refusal ≡ true → IsOfRecords refusal
front_of (refusals.Usage place) e = absurd cc
front_of (refusals.Plan fault) e = absurd cc
front_of (refusals.BadToken place) e = absurd cc
front_of (refusals.Stream fault) e = inl (fault, refl)
front_of (refusals.CannotApply index fault) e = inr (inl (index, fault, refl))
front_of (refusals.Redacted object block) e = absurd cc
front_of (refusals.Limit which number) e = inr (inr (number, ap (λ (q : Quantity). refusals.Limit q number) (of_index which number e)))
front_of (refusals.Full need largest) e = absurd cc
front_of (refusals.Damaged sector stated found) e = absurd cc
front_of refusals.NoPool e = absurd cc
front_of (refusals.BadVersion number) e = absurd cc
front_of refusals.DiskFault e = absurd cc
front_of refusals.SourceFault e = absurd cc
front_of refusals.SinkFault e = absurd cc
front_of refusals.Failed e = absurd cc
front_of refusals.OutOfMemory e = absurd cc
