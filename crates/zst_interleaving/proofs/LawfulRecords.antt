-- What a receive has under way fits its lawful pool, whatever records of bytes it takes.
use Rattle.std.proofs.Common.{inl, inr, ◌≡◌, ℕ, ◌+◌, ◌^◌, ◌<◌, ◌==◌, Bool, true, false, not, ◌&&◌, List, [], ◌∷◌, ◌++◌, length, take, Option, Result, Ok, Err, All, refl, sym, ap, ◌∙◌, subst, cond, arith, length-take, nat_lt}
use Rattle.std.specs.Prelude.{bytes_eq}
use Rattle.std.proofs.lemmas.Bool.Decides.{nat_tests}
use Rattle.std.proofs.lemmas.List.Elements.{All-cons, All-drop, All-head, All-nil, All-tail, All-take}
use Rattle.zst_laws.specs.ReceivedRecords.{IsRanged, ReceivedIsState}
use Rattle.zst_laws.proofs.pools.LawfulRest.{fewer_partials_are_lawful}
use Rattle.zst_model.specs.declared.refusals.faults.Quantity.TheVariants as quantities
use Rattle.zst_model.specs.declared.refusals.plan_fault.PlanFault.{PlanFault}
use Rattle.zst_model.specs.declared.refusals.refusal.Refusal.{Refusal}
use Rattle.zst_model.specs.declared.refusals.refusal.Refusal.TheVariants as refusals
use Rattle.zst_model.specs.declared.states.item.Change.TheVariants.{Put, Spill, FreeFrom, Free, Redact, Write}
use Rattle.zst_model.specs.declared.states.item.Item.{Item}
use Rattle.zst_model.specs.declared.states.item.Item.TheVariants.{FreeObjects, At}
use Rattle.zst_model.specs.pools.Pool.{Pool, IsPool, Partial}
use Rattle.zst_model.specs.sends.Points.{point_of}
use Rattle.zst_model.specs.sends.ReceivedRecords.{received}
use Rattle.zst_model.specs.states.AppliedItems.{◌>>=◌}
use Rattle.zst_model.specs.states.DatedState.{DatedState}
use Rattle.zst_model.specs.states.State.{AreBytes, IsState, is_number, is_spill_size}
use Rattle.zst_model.proofs.Results.{bind_ok, ok_parts}
use Rattle.zst_apply.specs.AppliedRecords.{received_all}
use Rattle.zst_plan.specs.RecvPlan.{recv_plan}
use Rattle.zst_plan.specs.declared.receive.RecvAsk.{RecvAsk}
use Rattle.zst_reader.specs.InputReads.{stream_limit}
use Rattle.zst_record.specs.Decoding.{features_in, is_object}
use Rattle.zst_record.specs.Formats.{to_end}
use Rattle.zst_record.specs.Heads.{Covered, payload_len}
use Rattle.zst_record.specs.RecordValues.{Fits, ObjectFits}
use Rattle.zst_record.specs.declared.head.Head.{Head}
use Rattle.zst_record.specs.declared.head.Head.TheVariants as heads
use Rattle.zst_stream.specs.Items.{free_change, items_by, keeps_spill}
use Rattle.zst_stream.specs.PassedRecords.{CoveredFit, HasPassed, StatesHeader, bare_head}
use Rattle.zst_stream.specs.Reading.{reading}
use Rattle.zst_recv.specs.Feeds.{fault_of, fed_piece, new_records}
use Rattle.zst_recv.specs.ReceiveSteps.{Stage, Waits, Lives, Ends, Batch, Fed, Goes, Stops, at_stage, batch_by, batch_of, began, fed, left_by, moved_by, of_plan, opened, pool_of, put, put_at, taken, taken_at, went_on, with_applied}
use Rattle.zst_replication.proofs.FeedSteps.{goes_on, stops_by}
use Rattle.zst_sessions.specs.Lawfulness.{IsStanding}
use Rattle.zst_interleaving.specs.LawfulFeeds.{FeedsKeepLawful, IsAsk}
use Rattle.zst_interleaving.proofs.LawfulCommits.{finished_lawful, put_lawful}
use Rattle.zst_interleaving.proofs.LawfulPlans.{IsOwn, StandsFit, old_fits, opened_fits}

-- ---- the items of a record

one_item : (item : Item) → IsRanged item → All IsRanged (item ∷ [])
one_item item is = All-cons IsRanged item [] is (All-nil IsRanged)

as_number : (k : ℕ) → is_object k ≡ true → is_number k ≡ true
unfolding is_object
as_number k is = is

freed : (k offset count : ℕ) → is_number k ≡ true → IsRanged (At k (free_change offset count))
freed k offset count is = go (count == to_end)
  where
    go : (t : Bool) → IsRanged (At k (cond t (FreeFrom offset) (Free offset count)))
    go true = is
    go false = is

put_ranged : (k kind bonus_kind block_size bonus_len max_block to : ℕ) (payload : List ℕ) (keep : Bool) → ObjectFits k kind bonus_kind block_size bonus_len max_block to → AreBytes payload
    → IsRanged (At k (Put (record { type_ = kind; bonus_type = bonus_kind; block_size = block_size }) (take bonus_len payload) keep max_block))
put_ranged k kind bonus_kind block_size bonus_len max_block to payload keep fits bytes = (
  as_number k fits.object_fits,
  record { some_type = let there = fits.kind_there in grind (arith, nat_tests); type_fits = fits.kind_fits; bonus_type_fits = fits.bonus_kind_fits; size = fits.size },
  (let taken = length-take bonus_len payload in let most = fits.bonus_len_fits in omega (arith, taken, most), All-take (λ byte. byte < 2 ^ 8) bonus_len payload bytes),
)

-- those of a record that passed its checks are of bytes, and of numbers and lengths that objects may have
ranged : (features flags : ℕ) (payload : List ℕ) (head : Head) → Fits features (bare_head head) → length payload ≡ payload_len head → AreBytes payload → All IsRanged (items_by flags payload head)
ranged features flags payload (heads.Begin header len) fits long bytes = All-nil IsRanged
ranged features flags payload (heads.Object k kind bonus_kind block_size bonus_len max_block to) fits long bytes =
    one_item (At k (Put (record { type_ = kind; bonus_type = bonus_kind; block_size = block_size }) (take bonus_len payload) (keeps_spill flags) max_block))
    (put_ranged k kind bonus_kind block_size bonus_len max_block to payload (keeps_spill flags) fits bytes)
ranged features flags payload (heads.FreeObjects first count to) fits long bytes = one_item (FreeObjects first count) tt
ranged features flags payload (heads.Write k kind offset size to) fits long bytes = one_item (At k (Write offset kind payload)) (as_number k fits.object_fits, bytes)
ranged features flags payload (heads.Free k offset count to) fits long bytes = one_item (At k (free_change offset count)) (freed k offset count (as_number k fits.object_fits))
ranged features flags payload (heads.End sums to) fits long bytes = All-nil IsRanged
ranged features flags payload (heads.Spill k size to) fits long bytes =
    one_item (At k (Spill payload)) (as_number k fits.object_fits, (ap is_spill_size long ∙ fits.size_fits, bytes))
ranged features flags payload (heads.Redact k offset count to) fits long bytes = one_item (At k (Redact offset count)) (as_number k fits.object_fits)

-- so what they make of a lawful state is lawful
all_lawful : ReceivedIsState → (number index : ℕ) (items : List Item) (snap after : DatedState) → All IsRanged items → IsState snap.state → received_all number index items snap ≡ Ok after → IsState after.state
all_lawful law number index [] snap after are lawful e = subst (λ (d : DatedState). IsState d.state) (ok_parts snap after e) lawful
all_lawful law number index (item ∷ rest) snap after are lawful e =
    let found = bind_ok (received number index item snap) (received_all number index rest) after e in
    all_lawful law number index rest found.0 after (All-tail IsRanged item rest are) (law number index item snap found.0 lawful (All-head IsRanged item rest are) found.1) found.2

-- ---- the records

plan_ok : {A : Type 0} (r : Result A PlanFault) (x : A) → of_plan r ≡ Ok x → r ≡ Ok x
plan_ok (Ok y) x e = cc
plan_ok (Err fault) x e = absurd cc

module _ (law : ReceivedIsState) (ask : RecvAsk) (asks : IsAsk ask) (pool : Pool) (p : IsPool pool) (features : ℕ) where
  abbrev BatchFits : Batch → Type 0
  BatchFits batch = StandsFit ask pool batch.stage

  same_batch : (batch after : Batch) → BatchFits batch → ◌≡◌ {A = Result Batch Refusal} (Ok batch) (Ok after) → BatchFits after
  same_batch batch after fits e = subst BatchFits (ok_parts batch after e) fits

  began_fits : (batch after : Batch) (head : Head) → StatesHeader head → BatchFits batch → began ask pool batch head ≡ Ok after → BatchFits after
  began_fits batch after (heads.Begin header len) states fits e =
      let found = bind_ok (of_plan (recv_plan ask header pool)) (λ plan. Ok (opened ask header plan)) after e in
      subst BatchFits (ok_parts (opened ask header found.0) after found.2) (opened_fits ask asks pool p header states found.0 (plan_ok (recv_plan ask header pool) found.0 found.1))
  began_fits batch after (heads.Object object kind bonus_kind block_size bonus_len max_block to) states fits e = same_batch batch after fits e
  began_fits batch after (heads.FreeObjects first many to) states fits e = same_batch batch after fits e
  began_fits batch after (heads.Write object kind offset size to) states fits e = same_batch batch after fits e
  began_fits batch after (heads.Free object offset size to) states fits e = same_batch batch after fits e
  began_fits batch after (heads.End sums to) states fits e = same_batch batch after fits e
  began_fits batch after (heads.Spill object size to) states fits e = same_batch batch after fits e
  began_fits batch after (heads.Redact object offset size to) states fits e = same_batch batch after fits e

  -- a record that is applied
  moved_fits : (batch after : Batch) (c : Covered) (flags : ℕ) (partial : Partial) → HasPassed features c → IsOwn ask pool partial
      → (moved_by (pool.number + 1) c flags partial >>= λ moved. Ok (with_applied flags moved batch)) ≡ Ok after → BatchFits after
  moved_fits batch after c flags partial passed is e =
      let items = items_by flags c.payload c.head in
      let made : DatedState → Result Partial Refusal = λ objects. Ok (record partial { objects = objects; point = point_of partial.point items }) in
      let found = bind_ok (moved_by (pool.number + 1) c flags partial) (λ moved. Ok (with_applied flags moved batch)) after e in
      let went = bind_ok (received_all (pool.number + 1) c.index items partial.objects) made found.0 found.1 in
      let lawful = all_lawful law (pool.number + 1) c.index items partial.objects went.0 (ranged features flags c.payload c.head passed.fits passed.len passed.bytes) is.fits.lawful went.1 in
      let next = record partial { objects = went.0; point = point_of partial.point items } in
      let fits : IsOwn ask pool next = record {
        own = is.own;
        fits = record { target = is.fits.target; component = is.fits.component; stated = is.fits.stated; lawful = lawful; based = is.fits.based; free = is.fits.free };
      } in
      subst BatchFits (ok_parts (with_applied flags found.0 batch) after found.2) (subst (IsOwn ask pool) (ok_parts next found.0 went.2) fits)

  went_fits : (batch after : Batch) (c : Covered) (flags : ℕ) (partial : Partial) (head : Head) → HasPassed features c → BatchFits batch → IsOwn ask pool partial
      → went_on (pool.number + 1) c flags partial batch head ≡ Ok after → BatchFits after
  went_fits batch after c flags partial (heads.Begin header len) passed fits is e = same_batch batch after fits e
  went_fits batch after c flags partial (heads.Object object kind bonus_kind block_size bonus_len max_block to) passed fits is e = moved_fits batch after c flags partial passed is e
  went_fits batch after c flags partial (heads.FreeObjects first many to) passed fits is e = moved_fits batch after c flags partial passed is e
  went_fits batch after c flags partial (heads.Write object kind offset size to) passed fits is e = moved_fits batch after c flags partial passed is e
  went_fits batch after c flags partial (heads.Free object offset size to) passed fits is e = moved_fits batch after c flags partial passed is e
  went_fits batch after c flags partial (heads.End sums to) passed fits is e = subst BatchFits (ok_parts _ _ e) is
  went_fits batch after c flags partial (heads.Spill object size to) passed fits is e = moved_fits batch after c flags partial passed is e
  went_fits batch after c flags partial (heads.Redact object offset size to) passed fits is e = moved_fits batch after c flags partial passed is e

  taken_fits : (c : Covered) (batch after : Batch) (stage : Stage) → batch.stage ≡ stage → HasPassed features c → BatchFits batch → taken_at ask pool c batch stage ≡ Ok after → BatchFits after
  taken_fits c batch after Waits is passed fits e = began_fits batch after c.head passed.stated fits e
  taken_fits c batch after (Lives flags partial) is passed fits e = went_fits batch after c flags partial c.head passed fits (subst (StandsFit ask pool) is fits) e
  taken_fits c batch after (Ends partial) is passed fits e = same_batch batch after fits e

  -- all records of a feed
  batch_fits : (records : List Covered) (batch : Batch) → All (HasPassed features) records → BatchFits batch → BatchFits (batch_of ask pool records batch).batch
  unfolding batch_of
  batch_fits [] batch passed fits = fits
  batch_fits (c ∷ rest) batch passed fits = go (taken ask pool c batch) refl (λ after more. batch_fits rest after (All-tail (HasPassed features) c rest passed) more)
    where
      go : (r : Result Batch Refusal) → taken ask pool c batch ≡ r → ((after : Batch) → BatchFits after → BatchFits (batch_of ask pool rest after).batch)
          → BatchFits (batch_by r batch (batch_of ask pool rest)).batch
      go (Ok after) e on = on after (taken_fits c batch after batch.stage refl (All-head (HasPassed features) c rest passed) fits e)
      go (Err refusal) e on = fits

  -- ---- the commit

  put_at_lawful : (rolls : Bool) (stage : Stage) (next : Pool) → StandsFit ask pool stage → put_at rolls stage pool ≡ Ok next → IsPool next
  put_at_lawful rolls Waits next fits e = subst IsPool (ok_parts pool next e) p
  put_at_lawful rolls (Lives flags partial) next is e = put_lawful partial pool p is.fits rolls next e
  put_at_lawful rolls (Ends partial) next is e = finished_lawful partial pool p is.fits next e

  batch_lawful : (batch : Batch) (next : Pool) → BatchFits batch → put batch pool ≡ Ok next → IsPool next
  batch_lawful batch next fits e = go batch.taken e
    where
      go : (t : Bool) → cond t (put_at batch.rolls batch.stage pool) (Ok pool) ≡ Ok next → IsPool next
      go true e = put_at_lawful batch.rolls batch.stage next fits e
      go false e = subst IsPool (ok_parts pool next e) p

  -- where a receive ends
  pub left_lawful : (stage : Stage) → IsPool (left_by stage pool)
  left_lawful Waits = p
  left_lawful (Lives flags partial) = fewer_partials_are_lawful (λ (q : Partial). not (bytes_eq q.target partial.target && not q.keep)) pool p
  left_lawful (Ends partial) = p

  pub fed_lawful : (records : List Covered) (fault : Option Refusal) (stage : Stage) → All (HasPassed features) records → StandsFit ask pool stage → IsPool (pool_of (fed ask records fault stage pool))
  fed_lawful records fault stage passed fits = go (fed ask records fault stage pool) refl
    where
      go : (f : Fed) → fed ask records fault stage pool ≡ f → IsPool (pool_of f)
      go (Goes next after) e =
          batch_lawful (batch_of ask pool records (at_stage stage)).batch next (batch_fits records (at_stage stage) passed fits) (goes_on ask records fault stage after pool next e).put_is
      go (Stops next refusal) e = elim (stops_by ask records fault stage pool next refusal e) [
        | inl left ↦ subst IsPool (sym left) (left_lawful stage)
        | inr kept ↦ batch_lawful (batch_of ask pool records (at_stage stage)).batch next (batch_fits records (at_stage stage) passed fits) kept.1
      ]

-- ---- a feed

stands_fit : (ask : RecvAsk) (stage : Stage) (pool : Pool) → IsPool pool → IsStanding ask stage pool → StandsFit ask pool stage
stands_fit ask Waits pool p there = tt
stands_fit ask (Lives flags partial) pool p there = old_fits ask pool partial p there
stands_fit ask (Ends partial) pool p there = absurd there

pub feeds_lawful : ReceivedIsState → CoveredFit → FeedsKeepLawful
feeds_lawful law covered ask text piece stage pool asks bytes p there = go (nat_lt stream_limit (length text + length piece))
  where
    new_passed : All (HasPassed (features_in (text ++ piece))) (new_records text piece)
    new_passed = All-drop (HasPassed (features_in (text ++ piece))) (length (reading text).covered) (reading (text ++ piece)).covered (covered (text ++ piece) bytes)

    go : (t : Bool) → IsPool (pool_of (cond t (Stops (left_by stage pool) (refusals.Limit quantities.Stream stream_limit)) (fed_piece ask text piece stage pool)))
    go true = left_lawful law ask asks pool p (features_in (text ++ piece)) stage
    go false =
        fed_lawful law ask asks pool p (features_in (text ++ piece)) (new_records text piece) (fault_of (reading (text ++ piece)).outcome) stage new_passed (stands_fit ask stage pool p there)
