-- What a feed applies is counted.
use Rattle.std.proofs.Common.{◌≡◌, ◌⊎◌, inl, inr, ℕ, ◌+◌, ◌<◌, false, List, [], ◌∷◌, ◌++◌, length, Some, None, Result, Ok, Err, refl, sym, ap, ◌∙◌, subst, append_assoc, append-nil, arith}
use Rattle.std.specs.Prelude.{slice_get}
use Rattle.std.proofs.lemmas.List.{length-append, nil_from_length}
use Rattle.zst_model.specs.declared.refusals.refusal.Refusal.{Refusal}
use Rattle.zst_model.specs.declared.sends.header.Header.{Header}
use Rattle.zst_model.specs.pools.Pool.{Pool, Partial}
use Rattle.zst_model.specs.states.AppliedItems.{◌>>=◌}
use Rattle.zst_model.proofs.Results.{bind_ok, ok_parts}
use Rattle.zst_plan.specs.RecvPlan.{RecvPlan, Resumes, Begins, recv_plan}
use Rattle.zst_plan.specs.declared.receive.RecvAsk.{RecvAsk}
use Rattle.zst_record.specs.declared.head.Head.{Head}
use Rattle.zst_record.specs.declared.head.Head.TheVariants as heads
use Rattle.zst_record.specs.RecordValues.{IsLater}
use Rattle.zst_record.specs.Heads.{Covered}
use Rattle.zst_stream.specs.Laws.{FrontsAgree}
use Rattle.zst_stream.specs.PassedRecords.{CoveredInOrder, IsInPlace, IsBegin}
use Rattle.zst_stream.specs.Reading.{closing, reading}
use Rattle.zst_recv.specs.Answers.{is_done}
use Rattle.zst_recv.specs.Feeds.{fault_of, new_records}
use Rattle.zst_recv.specs.ReceiveSteps.{Stage, Waits, Lives, Ends, Batch, at_stage, batch_of, batch_by, began, moved_by, of_plan, opened, taken, taken_at, went_on, with_applied}
use Rattle.zst_replication.specs.RecordCounts.{Counts, RecordsAreCounted}
use Rattle.zst_replication.proofs.FeedSteps.{goes_on, new_are}

-- behind so many records of so many, this many between BEGIN and END were applied
abbrev Counted : ℕ → ℕ → Stage → ℕ → Type 0
Counted count place Waits n = (place ≡ 0) × (n ≡ 0)
Counted count place (Lives flags partial) n = place ≡ n + 1
Counted count place (Ends partial) n = (place ≡ n + 2) × (place ≡ count)

abbrev CountedBatch : ℕ → ℕ → Batch → ℕ → Type 0
CountedBatch count place batch n = Counted count place batch.stage (n + batch.applied)

-- ---- one record

module _ (ask : RecvAsk) (pool : Pool) (c : Covered) (count place n : ℕ) (batch : Batch) where
  opened_counted : (header : Header) (plan : RecvPlan) → place ≡ 0 → n ≡ 0 → CountedBatch count (place + 1) (opened ask header plan) n
  opened_counted header (Resumes partial) at none = omega (arith, at, none)
  opened_counted header (Begins component base) at none = omega (arith, at, none)

  began_counted : (head : Head) (after : Batch) → IsBegin head → place ≡ 0 → n + batch.applied ≡ 0 → began ask pool batch head ≡ Ok after → CountedBatch count (place + 1) after n
  began_counted (heads.Begin header len) after is at none e =
      let found = bind_ok (of_plan (recv_plan ask header pool)) (λ plan. Ok (opened ask header plan)) after e in
      subst (λ (w : Batch). CountedBatch count (place + 1) w n) (ok_parts _ _ found.2) (opened_counted header found.0 at (omega (arith, none)))
  began_counted (heads.Object object kind bonus_kind block_size bonus_len max_block to) after is at none e = absurd is
  began_counted (heads.FreeObjects first many to) after is at none e = absurd is
  began_counted (heads.Write object kind offset size to) after is at none e = absurd is
  began_counted (heads.Free object offset size to) after is at none e = absurd is
  began_counted (heads.End sums to) after is at none e = absurd is
  began_counted (heads.Spill object size to) after is at none e = absurd is
  began_counted (heads.Redact object offset size to) after is at none e = absurd is

  moved_counted : (flags : ℕ) (r : Result Partial Refusal) (after : Batch) → place ≡ n + batch.applied + 1 → (r >>= λ moved. Ok (with_applied flags moved batch)) ≡ Ok after → CountedBatch count (place + 1) after n
  moved_counted flags r after at e =
      let found = bind_ok r (λ moved. Ok (with_applied flags moved batch)) after e in
      subst (λ (w : Batch). CountedBatch count (place + 1) w n) (ok_parts _ _ found.2) (omega (arith, at))

  went_counted : (flags : ℕ) (partial : Partial) (head : Head) (after : Batch) → IsLater head → (closing head ≡ None) ⊎ (place + 1 ≡ count) → place ≡ n + batch.applied + 1
      → went_on (pool.number + 1) c flags partial batch head ≡ Ok after → CountedBatch count (place + 1) after n
  went_counted flags partial (heads.Begin header len) after later last at e = absurd later
  went_counted flags partial (heads.Object object kind bonus_kind block_size bonus_len max_block to) after later last at e = moved_counted flags (moved_by (pool.number + 1) c flags partial) after at e
  went_counted flags partial (heads.FreeObjects first many to) after later last at e = moved_counted flags (moved_by (pool.number + 1) c flags partial) after at e
  went_counted flags partial (heads.Write object kind offset size to) after later last at e = moved_counted flags (moved_by (pool.number + 1) c flags partial) after at e
  went_counted flags partial (heads.Free object offset size to) after later last at e = moved_counted flags (moved_by (pool.number + 1) c flags partial) after at e
  went_counted flags partial (heads.End sums to) after later (inl still) at e = absurd cc
  went_counted flags partial (heads.End sums to) after later (inr all) at e = subst (λ (w : Batch). CountedBatch count (place + 1) w n) (ok_parts _ _ e) (omega (arith, at), all)
  went_counted flags partial (heads.Spill object size to) after later last at e = moved_counted flags (moved_by (pool.number + 1) c flags partial) after at e
  went_counted flags partial (heads.Redact object offset size to) after later last at e = moved_counted flags (moved_by (pool.number + 1) c flags partial) after at e

  taken_counted : (stage : Stage) (after : Batch) → IsInPlace place count c → place < count → Counted count place stage (n + batch.applied) → taken_at ask pool c batch stage ≡ Ok after → CountedBatch count (place + 1) after n
  taken_counted Waits after is below counted e = began_counted c.head after (is.first counted.0) counted.0 counted.1 e
  taken_counted (Lives flags partial) after is below counted e =
      let behind : 0 < place = omega (arith, counted) in
      went_counted flags partial c.head after (is.later behind) is.last counted e
  taken_counted (Ends partial) after is below counted e = absurd (let full = counted.1 in omega (arith, full, below))

-- ---- all of a feed

at_seam : (done : List Covered) (c : Covered) (rest : List Covered) → slice_get (done ++ c ∷ rest) (length done) ≡ Some c
at_seam [] c rest = refl
at_seam (d ∷ done) c rest = at_seam done c rest

all_counted : (ask : RecvAsk) (pool : Pool) (n : ℕ) (all done rest : List Covered) (batch : Batch) → ((place : ℕ) (c : Covered) → slice_get all place ≡ Some c → IsInPlace place (length all) c)
    → done ++ rest ≡ all → CountedBatch (length all) (length done) batch n → (batch_of ask pool rest batch).fault ≡ None → CountedBatch (length all) (length all) (batch_of ask pool rest batch).batch n
unfolding batch_of
all_counted ask pool n all done [] batch places same counted none =
    let whole : done ≡ all = sym (append-nil done) ∙ same in
    subst (λ (cs : List Covered). CountedBatch (length all) (length cs) batch n) whole counted
all_counted ask pool n all done (c ∷ rest) batch places same counted none = go (taken ask pool c batch) refl none
    (λ after more free. all_counted ask pool n all (done ++ c ∷ []) rest after places (append_assoc done (c ∷ []) rest ∙ same) more free)
  where
    seam : slice_get all (length done) ≡ Some c
    seam = subst (λ (cs : List Covered). slice_get cs (length done) ≡ Some c) same (at_seam done c rest)

    below : length done < length all
    below = let size : length (done ++ c ∷ rest) ≡ length all = ap length same in omega (arith, size, length-append done (c ∷ rest))

    one_more : length (done ++ c ∷ []) ≡ length done + 1
    one_more = length-append done (c ∷ [])

    go : (r : Result Batch Refusal) → taken ask pool c batch ≡ r → (batch_by r batch (batch_of ask pool rest)).fault ≡ None
        → ((after : Batch) → CountedBatch (length all) (length (done ++ c ∷ [])) after n → (batch_of ask pool rest after).fault ≡ None → CountedBatch (length all) (length all) (batch_of ask pool rest after).batch n)
        → CountedBatch (length all) (length all) (batch_by r batch (batch_of ask pool rest)).batch n
    go (Ok after) e free on =
        on after (subst (λ (k : ℕ). CountedBatch (length all) k after n) (sym one_more)
        (taken_counted ask pool c (length all) (length done) n batch batch.stage after (places (length done) c seam) below counted e)) free
    go (Err refusal) e free on = absurd cc

begins : (text : List ℕ) (stage : Stage) (n count : ℕ) → is_done stage ≡ false → Counts text stage n → Counted count (length (reading text).covered) stage (n + 0)
begins text Waits n count unended counts = (ap length counts.0, omega (arith, counts.1))
begins text (Lives flags partial) n count unended counts = omega (arith, counts)
begins text (Ends partial) n count unended counts = absurd cc

ends : (text : List ℕ) (stage : Stage) (n : ℕ) → Counted (length (reading text).covered) (length (reading text).covered) stage n → Counts text stage n
ends text Waits n counted = (nil_from_length (reading text).covered counted.0, counted.1)
ends text (Lives flags partial) n counted = counted
ends text (Ends partial) n counted = counted.0

pub records_counted : CoveredInOrder → FrontsAgree → RecordsAreCounted
records_counted order agree ask text piece stage after pool next n bytes unended counts e =
    let new = new_records text piece in
    let on = goes_on ask new (fault_of (reading (text ++ piece)).outcome) stage after pool next e in
    let all = (reading (text ++ piece)).covered in
    let done = batch_of ask pool new (at_stage stage) in
    let counted = all_counted ask pool n all (reading text).covered new (at_stage stage) (λ place c at. order (text ++ piece) place c bytes at) (sym (new_are agree text piece)) (begins text stage n (length all) unended counts) on.none_refused in
    ends (text ++ piece) after (n + done.batch.applied) (subst (λ (s : Stage). Counted (length all) (length all) s (n + done.batch.applied)) on.after_is counted)
