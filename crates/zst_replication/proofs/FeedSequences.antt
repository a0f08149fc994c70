-- Feeds, one after another.
use Rattle.std.proofs.Common.{◌≡◌, ◌⊎◌, inl, inr, ℕ, Bool, true, false, List, [], ◌∷◌, ◌++◌, Option, Some, None, Ok, refl, sym, ap, ◌∙◌, subst, cond, ◌&&◌, append_assoc, append-nil}
use Rattle.std.specs.List.{concat}
use Rattle.std.specs.Prelude.{bytes_eq}
use Rattle.zst_laws.specs.ReceivedRecords.{ReceivedIsApplied}
use Rattle.zst_model.specs.declared.refusals.refusal.Refusal.{Refusal}
use Rattle.zst_model.specs.pools.KeptPool.{kept_of}
use Rattle.zst_model.specs.pools.Pool.{Pool, Partial}
use Rattle.zst_plan.specs.declared.receive.RecvAsk.{RecvAsk}
use Rattle.zst_record.specs.Heads.{Covered}
use Rattle.zst_stream.specs.Laws.{FrontsAgree}
use Rattle.zst_stream.specs.Reading.{after, reading, reading_from, ruling}
use Rattle.zst_recv.specs.Answers.{is_done}
use Rattle.zst_recv.specs.Feeds.{and_feed, fault_of, fed_piece, feeds, new_records, receives}
use Rattle.zst_recv.specs.ReceiveSteps.{Stage, Waits, Lives, Ends, Fed, Goes, Stops, EndedBatch, at_stage, batch_of, committed, fed, first_fault, is_kept, keeps_front, left_by, put, settled}
use Rattle.zst_replication.proofs.FeedSteps.{StopsBy, goes_on, new_are, stops_by}
use Rattle.zst_replication.proofs.AppliedRecords.{Applied, batch_applied, batch_somewhere, ended_more}
use Rattle.zst_replication.proofs.FirstRecords.{FirstIsBegin, first_is_begin}
use Rattle.zst_replication.proofs.Rows.{filter_narrow}
use Rattle.zst_replication.proofs.RunningPools.{Asked, Runs, Worked, batch_ended, batch_worked, nothing_worked, batch_runs}

-- what goes where a receive ends isn't kept
pub kept_left : (stage : Stage) (pool : Pool) → kept_of (left_by stage pool) ≡ kept_of pool
kept_left Waits pool = refl
kept_left (Lives flags partial) pool = ap (λ (ps : List Partial). record pool { partials = ps }) (filter_narrow (λ (p : Partial). p.keep) (λ (p : Partial). bytes_eq p.target partial.target) pool.partials)
kept_left (Ends partial) pool = refl

-- where a receive stands in its pool
pub record Stands (ask : RecvAsk) (start : Pool) (stage : Stage) (pool : Pool) : Type 0 where
  pub runs : Runs ask start stage pool
  pub asked : Asked ask start stage

pub stands_first : (ask : RecvAsk) (start : Pool) → Stands ask start Waits start
stands_first ask start = record { runs = refl; asked = tt }

module _ (ask : RecvAsk) (start : Pool) where
  same_waiting : (before : Stage) (pool : Pool) → Stands ask start before pool → before ≡ Waits → pool ≡ start
  same_waiting before pool stands waits = subst (λ (s : Stage). Runs ask start s pool) waits stands.runs

  pub feed_worked : (before : Stage) (pool : Pool) (records : List Covered) → Stands ask start before pool → Worked ask start before (batch_of ask pool records (at_stage before)).batch
  feed_worked before pool records stands =
      batch_worked ask start pool before (same_waiting before pool stands) records (at_stage before) (nothing_worked ask start before stands.asked)

  pub put_stands : (before : Stage) (pool next : Pool) (records : List Covered) → is_done before ≡ false → Stands ask start before pool
      → put (batch_of ask pool records (at_stage before)).batch pool ≡ Ok next → Stands ask start (batch_of ask pool records (at_stage before)).batch.stage next
  put_stands before pool next records unended stands e =
      let worked = feed_worked before pool records stands in
      record { runs = batch_runs ask start before pool next (batch_of ask pool records (at_stage before)).batch unended stands.runs stands.asked worked e; asked = worked.asked }

  -- a feed that goes on stands behind what it took
  pub fed_stands : (before after : Stage) (pool next : Pool) (records : List Covered) (fault : Option Refusal) → is_done before ≡ false → Stands ask start before pool
      → fed ask records fault before pool ≡ Goes next after → Stands ask start after next
  fed_stands before after pool next records fault unended stands e =
      let on = goes_on ask records fault before after pool next e in
      subst (λ (s : Stage). Stands ask start s next) on.after_is (put_stands before pool next records unended stands on.put_is)

  -- what the image keeps of a feed that stops: what stood before it, or what was taken of it, where the partial state is kept
  pub record KeepsAtStop (before : Stage) (pool next : Pool) (records : List Covered) : Type 0 where
    pub stage : Stage
    pub standing : Pool
    pub stands : Stands ask start stage standing
    pub which : ((stage ≡ before) × (standing ≡ pool)) ⊎ ((stage ≡ (batch_of ask pool records (at_stage before)).batch.stage) × (is_kept stage ≡ true))
    pub keeps : kept_of next ≡ kept_of standing

  pub fed_keeps : (before : Stage) (pool next : Pool) (records : List Covered) (fault : Option Refusal) (refusal : Refusal) → is_done before ≡ false → Stands ask start before pool
      → fed ask records fault before pool ≡ Stops next refusal → KeepsAtStop before pool next records
  fed_keeps before pool next records fault refusal unended stands e = go (stops_by ask records fault before pool next refusal e)
    where
      go : StopsBy before pool (batch_of ask pool records (at_stage before)).batch next → KeepsAtStop before pool next records
      go (inl left) = record { stage = before; standing = pool; stands = stands; which = inl (refl, refl); keeps = ap kept_of left ∙ kept_left before pool }
      go (inr taken) = record {
        stage = (batch_of ask pool records (at_stage before)).batch.stage;
        standing = next;
        stands = put_stands before pool next records unended stands taken.1;
        which = inr (refl, taken.0);
        keeps = refl;
      }

-- ---- behind END

abbrev pub ended_feed : (partial : Partial) (pool : Pool) (fault : Option Refusal) → Fed
ended_feed partial pool None = Goes pool (Ends partial)
ended_feed partial pool (Some refusal) = Stops pool refusal

pub fed_ended : (ask : RecvAsk) (records : List Covered) (fault : Option Refusal) (partial : Partial) (pool : Pool) → fed ask records fault (Ends partial) pool ≡ ended_feed partial pool fault
unfolding fed
fed_ended ask records fault partial pool =
    ap (λ (done : EndedBatch). settled (Ends partial) pool done.batch (first_fault done.fault fault)) (batch_ended ask pool records partial) ∙ go fault
  where
    go : (f : Option Refusal) → settled (Ends partial) pool (at_stage (Ends partial)) f ≡ ended_feed partial pool f
    go None = refl
    go (Some refusal) = last (keeps_front refusal)
      where
        last : (t : Bool) → cond (t && false) (committed (Ends partial) pool (put (at_stage (Ends partial)) pool) (λ next. Stops next refusal)) (Stops pool refusal) ≡ Stops pool refusal
        last true = refl
        last false = refl

-- ---- feeds

module _ (law : ReceivedIsApplied) (ask : RecvAsk) (start : Pool) where
  -- what the image keeps is what stands behind some first ones of these records
  pub record OnWay (all : List Covered) (next : Pool) : Type 0 where
    pub stage : Stage
    pub standing : Pool
    pub stands : Stands ask start stage standing
    pub front : List Covered
    pub left : List Covered
    pub split : front ++ left ≡ all
    pub applied : Applied ask start standing stage front
    pub keeps : kept_of next ≡ kept_of standing

  -- where a receive stands behind them, or what it left
  abbrev pub Way : List Covered → Fed → Type 0
  Way all (Goes next after) = Stands ask start after next × Applied ask start next after all
  Way all (Stops next refusal) = OnWay all next

  -- a receive that waits stands in the pool that it began with
  moved_pool : (stage : Stage) (pool next : Pool) (all : List Covered) → Runs ask start stage next → Applied ask start pool stage all → Applied ask start next stage all
  moved_pool Waits pool next all runs applied = (runs, applied.1)
  moved_pool (Lives flags partial) pool next all runs applied = applied
  moved_pool (Ends partial) pool next all runs applied = applied

  fed_on : (done records : List Covered) (fault : Option Refusal) (before : Stage) (pool : Pool) → FirstIsBegin (done ++ records) → is_done before ≡ false → Stands ask start before pool → Applied ask start pool before done
      → (f : Fed) → fed ask records fault before pool ≡ f → Way (done ++ records) f
  fed_on done records fault before pool begins unended stands applied (Goes next after) e =
      let on = goes_on ask records fault before after pool next e in
      let now = fed_stands ask start before after pool next records fault unended stands e in
      let led : Applied ask start pool after (done ++ records) =
      subst (λ (s : Stage). Applied ask start pool s (done ++ records)) on.after_is (batch_applied law ask start pool done records (at_stage before) begins applied on.none_refused) in
      (now, moved_pool after pool next (done ++ records) now.runs led)
  fed_on done records fault before pool begins unended stands applied (Stops next refusal) e = go kept.which
    where
      kept : KeepsAtStop ask start before pool next records
      kept = fed_keeps ask start before pool next records fault refusal unended stands e

      on_way : (front left : List Covered) → front ++ left ≡ done ++ records → Applied ask start pool kept.stage front → OnWay (done ++ records) next
      on_way front left split applied = record {
        stage = kept.stage;
        standing = kept.standing;
        stands = kept.stands;
        front = front;
        left = left;
        split = split;
        applied = moved_pool kept.stage pool kept.standing front kept.stands.runs applied;
        keeps = kept.keeps;
      }

      go : ((kept.stage ≡ before) × (kept.standing ≡ pool)) ⊎ ((kept.stage ≡ (batch_of ask pool records (at_stage before)).batch.stage) × (is_kept kept.stage ≡ true)) → OnWay (done ++ records) next
      go (inl same) = on_way done records refl (subst (λ (s : Stage). Applied ask start pool s done) (sym same.0) applied)
      go (inr taken) =
          let some = batch_somewhere law ask start pool done records (at_stage before) begins applied in
          on_way some.front some.left some.split (subst (λ (s : Stage). Applied ask start pool s some.front) (sym taken.0) some.applied)

  fed_done : (done records : List Covered) (fault : Option Refusal) (partial : Partial) (pool : Pool) → Stands ask start (Ends partial) pool → Applied ask start pool (Ends partial) done
      → Way (done ++ records) (fed ask records fault (Ends partial) pool)
  fed_done done records fault partial pool stands ended = subst (λ (f : Fed). Way (done ++ records) f) (sym (fed_ended ask records fault partial pool)) (go fault)
    where
      go : (f : Option Refusal) → Way (done ++ records) (ended_feed partial pool f)
      go None = (stands, ended_more ask start done records partial ended)
      go (Some refusal) = record { stage = Ends partial; standing = pool; stands = stands; front = done; left = records; split = refl; applied = ended; keeps = refl }

  fed_way : (done records : List Covered) (fault : Option Refusal) (before : Stage) (pool : Pool) → FirstIsBegin (done ++ records) → Stands ask start before pool → Applied ask start pool before done
      → Way (done ++ records) (fed ask records fault before pool)
  fed_way done records fault Waits pool begins stands applied = fed_on done records fault Waits pool begins refl stands applied (fed ask records fault Waits pool) refl
  fed_way done records fault (Lives flags partial) pool begins stands applied = fed_on done records fault (Lives flags partial) pool begins refl stands applied (fed ask records fault (Lives flags partial) pool) refl
  fed_way done records fault (Ends partial) pool begins stands applied = fed_done done records fault partial pool stands applied

  -- what stands behind some records of a text stands behind some of a longer one
  longer_way : (few all others : List Covered) (next : Pool) → all ≡ few ++ others → OnWay few next → OnWay all next
  longer_way few all others next more way = record {
    stage = way.stage;
    standing = way.standing;
    stands = way.stands;
    front = way.front;
    left = way.left ++ others;
    split = sym (append_assoc way.front way.left others) ∙ ap (λ (cs : List Covered). cs ++ others) way.split ∙ sym more;
    applied = way.applied;
    keeps = way.keeps;
  }

  feeds_way : FrontsAgree → (whole text : List ℕ) (pieces : List (List ℕ)) (stage : Stage) (pool : Pool) → text ++ concat pieces ≡ whole → Stands ask start stage pool → Applied ask start pool stage (reading text).covered
      → Way (reading whole).covered (feeds ask text pieces stage pool)
  unfolding feeds
  feeds_way agree whole text [] stage pool same stands applied =
      (stands, subst (λ (t : List ℕ). Applied ask start pool stage (reading t).covered) (sym (append-nil text) ∙ same) applied)
  feeds_way agree whole text (piece ∷ rest) stage pool same stands applied =
      let longer : (text ++ piece) ++ concat rest ≡ whole = append_assoc text piece (concat rest) ∙ same in
      let front = agree (text ++ piece) (concat rest) in
      let all : (reading whole).covered ≡ (reading (text ++ piece)).covered ++ front.others = ap (λ (t : List ℕ). (reading t).covered) (sym longer) ∙ front.covered in
      let new = new_are agree text piece in
      let begins = subst (λ (cs : List Covered). FirstIsBegin cs) new (first_is_begin (text ++ piece)) in
      go (fed_piece ask text piece stage pool) front.others all
      (subst (λ (cs : List Covered). Way cs (fed_piece ask text piece stage pool)) (sym new)
      (fed_way (reading text).covered (new_records text piece) (fault_of (reading (text ++ piece)).outcome) stage pool begins stands applied))
      (λ next after stands applied. feeds_way agree whole (text ++ piece) rest after next longer stands applied)
    where
      go : (f : Fed) (others : List Covered) → (reading whole).covered ≡ (reading (text ++ piece)).covered ++ others → Way (reading (text ++ piece)).covered f
          → ((next : Pool) (after : Stage) → Stands ask start after next → Applied ask start next after (reading (text ++ piece)).covered → Way (reading whole).covered (feeds ask (text ++ piece) rest after next))
          → Way (reading whole).covered (and_feed f (feeds ask (text ++ piece) rest))
      go (Goes next after) others all way on = on next after way.0 way.1
      go (Stops next refusal) others all way on = longer_way (reading (text ++ piece)).covered (reading whole).covered others next all way

  nothing_read : (reading []).covered ≡ []
  unfolding reading reading_from after ruling
  nothing_read = refl

  -- a receive of pieces
  pub receives_way : FrontsAgree → (pieces : List (List ℕ)) → Way (reading (concat pieces)).covered (receives ask start pieces)
  receives_way agree pieces = feeds_way agree (concat pieces) [] pieces Waits start refl (stands_first ask start) (refl, nothing_read)
