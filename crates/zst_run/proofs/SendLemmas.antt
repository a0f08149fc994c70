-- What each piece of a send leaves, and how a send ends.
use Rattle.std.proofs.Common.{◌≡◌, ◌≢◌, ◌⊎◌, inl, inr, ⊎_elim, ℕ, ◌+◌, zero, suc, ◌<◌, ◌≤◌, Bool, true, Option, Some, None, Result, List, [], ◌∷◌, ◌++◌, length, take, drop, Ok, Err, IfErr, refl, sym, ap, ◌∙◌, subst, arith, length-append}
use Rattle.std.specs.Prelude.{Contains, IfSome, slice_index_or}
use Rattle.std.proofs.lemmas.List.{append-nil, drop_all}
use Rattle.zst_outside.specs.Causes.{Rose, Rose-earlier}
use Rattle.zst_outside.specs.Images.{DiskState}
use Rattle.zst_outside.specs.States.{HandedOn, SinkState}
use Rattle.zst_outside.specs.declared.disk.Disk.{Ghosts}
use Rattle.zst_outside.specs.Printing.{Wrote, Printed, Wrote-kept, Wrote-then, Wrote-longer, Wrote-start, Printed-start, Printed-then}
use Rattle.zst_model.specs.declared.refusals.faults.Quantity.TheVariants.{Runs, Stream}
use Rattle.zst_model.specs.declared.refusals.plan_fault.PlanFault.{PlanFault}
use Rattle.zst_model.specs.declared.refusals.plan_fault.PlanFault.TheVariants as plans
use Rattle.zst_model.specs.declared.refusals.refusal.Refusal.{Refusal}
use Rattle.zst_model.specs.declared.refusals.refusal.Refusal.TheVariants as refusals
use Rattle.zst_model.specs.declared.sends.header.Point.{Point}
use Rattle.zst_model.specs.pools.Limits.{most_runs}
use Rattle.zst_model.specs.pools.Pool.{Pool as Plain}
use Rattle.zst_model.specs.refusals.Refusal.{refusal_of}
use Rattle.zst_model.specs.sends.Headers.{Sent}
use Rattle.zst_model.specs.sends.SendPlan.{is_redacted}
use Rattle.zst_model.proofs.PlanFaults.{plan_cases}
use Rattle.zst_dir.specs.Rows.{Rows}
use Rattle.zst_tree.specs.Damage.{IsSeen}
use Rattle.zst_tree.specs.declared.tree.ObjSet.{ObjSet}
use Rattle.zst_objset.specs.Damage.{DamageFact}
use Rattle.zst_pool.specs.Damage.{IsOf}
use Rattle.zst_pool.specs.Faults.{pool_refusal}
use Rattle.zst_pool.specs.Queries.{stop_of}
use Rattle.zst_block.specs.IoCalls.{Looks}
use Rattle.zst_block.specs.IoStates.{IoState, IsHonest, disk_of, io_of}
use Rattle.zst_block.specs.declared.fault.BlockFault.TheVariants as blocks
use Rattle.zst_pool.specs.declared.fault.PoolFault.{PoolFault}
use Rattle.zst_pool.specs.declared.fault.PoolFault.TheVariants as faults
use Rattle.zst_pool.specs.declared.pool.Pool.{Pool}
use Rattle.zst_reader.specs.InputReads.{stream_limit}
use Rattle.zst_send.proofs.KnownPointers.{send_more}
use Rattle.zst_send.specs.Damage.{IsDamagedSend}
use Rattle.zst_send.specs.KnownPointers.{IsAmong, Knows}
use Rattle.zst_send.specs.Openings.{IsPlanned}
use Rattle.zst_send.specs.Sends as given
use Rattle.zst_send.specs.Sends.{begun_text, sent_set}
use Rattle.zst_send.specs.declared.send.Send.{Send}
use Rattle.zst_tree.specs.Indices.{Blocks}
use Rattle.zst_run.specs.Replies.{HandsOn}
use Rattle.zst_run.specs.declared.send.SendRequest.{SendRequest}
use Rattle.zst_run.specs.Sends.{HasSet, IsDamagedRequest, IsSendRefusal, OfGiving, RefusalEnds, SendsBy, TellsLong, TellsOf, TextEnds, to_send}
use Rattle.zst_run.specs.SendPieces.{IfUnplanned, OpensBy, Passed, PieceWritten, Sending, TellsLists, WhySendEnds, WritesPiece}
use Rattle.zst_run.proofs.CommandLemmas.{damaged_only, disk_fault, failed_before, full_only, plan_named, plan_only}
use Rattle.zst_run.proofs.PlannedSends.{no_limit}

-- ---- refusals

-- a pool's fault is never the output's
no_sink : (fault : PoolFault) → pool_refusal fault ≢ refusals.SinkFault
no_sink (faults.Plan fault) is = absurd (plan_cases (λ f r. r ≡ refusals.SinkFault → ⊥) (λ f e. absurd (cc e)) (λ w n e. absurd (cc e)) fault is)
no_sink (faults.CannotApply fault) is = absurd (cc is)
no_sink (faults.Redacted object block) is = absurd (cc is)
no_sink (faults.Full need largest) is = absurd (cc is)
no_sink (faults.Damaged sector stated found) is = absurd (cc is)
no_sink faults.DiskFault is = absurd (cc is)
no_sink faults.Failed is = absurd (cc is)
no_sink faults.OutOfMemory is = absurd (cc is)

-- a refusal of a later part is one of the whole
refusal_earlier : (here mid here' : DiskState) (out between out' : SinkState) (refusal : Refusal) → here.faults ≤ mid.faults → out.faults ≤ between.faults
    → IsSendRefusal OfGiving mid here' between out' refusal → IsSendRefusal OfGiving here here' out out' refusal
refusal_earlier here mid here' out between out' refusal disk sink is = record {
  pool = record { one = is.pool.one; alive = is.pool.alive; cause = λ e. Rose-earlier here.faults mid.faults here'.faults disk (is.pool.cause e) };
  never_full = is.never_full;
  cause = λ e. Rose-earlier out.faults between.faults out'.faults sink (is.cause e);
}

pub refused_earlier : (here mid here' : DiskState) (out between out' : SinkState) (result : Result (Unit {0}) Refusal) → here.faults ≤ mid.faults → out.faults ≤ between.faults
    → IfErr result (IsSendRefusal OfGiving mid here' between out') → IfErr result (IsSendRefusal OfGiving here here' out out')
refused_earlier here mid here' out between out' (Ok done) disk sink is = tt
refused_earlier here mid here' out between out' (Err refusal) disk sink is = refusal_earlier here mid here' out between out' refusal disk sink is

-- what a take refuses is handed on: no plan's refusal, and E25 of its damage alone
no_plan : (fault : PoolFault) → ((plan : PlanFault) → fault ≢ faults.Plan plan) → (plan : PlanFault) → pool_refusal fault ≢ refusals.Plan plan
no_plan (faults.Plan fault) never plan is = never fault refl
no_plan (faults.CannotApply fault) never plan is = absurd (cc is)
no_plan (faults.Redacted object block) never plan is = absurd (cc is)
no_plan (faults.Full need largest) never plan is = absurd (cc is)
no_plan (faults.Damaged sector stated found) never plan is = absurd (cc is)
no_plan faults.DiskFault never plan is = absurd (cc is)
no_plan faults.Failed never plan is = absurd (cc is)
no_plan faults.OutOfMemory never plan is = absurd (cc is)

module _ (fault : PoolFault) (out out' : SinkState) (result : Result (Unit {0}) Refusal) (hands : HandsOn out out' (Err (pool_refusal fault)) result) where
  pub hands_no_plan : ((plan : PlanFault) → fault ≢ faults.Plan plan) → (plan : PlanFault) → result ≢ Err (refusals.Plan plan)
  hands_no_plan never plan is =
      ⊎_elim (λ done. let same : pool_refusal fault ≡ refusals.Plan plan = cc (done.0, is) in no_plan fault never plan same)
      (λ lost. absurd (cc (lost.0, is))) hands.outcome

  -- so neither is it a limit of a list
  pub hands_no_list : ((plan : PlanFault) → fault ≢ faults.Plan plan) → (number : ℕ) → result ≢ Err (refusals.Limit Runs number)
  hands_no_list never number is =
      ⊎_elim (λ done. let same : pool_refusal fault ≡ refusals.Limit Runs number = cc (done.0, is) in never (plans.Limit Runs number) (plan_only fault (plans.Limit Runs number) same))
      (λ lost. absurd (cc (lost.0, is))) hands.outcome

  pub hands_damage : (Is : DamageFact) → IsOf Is fault → TellsOf Is result
  hands_damage Is told = λ sector stated found is.
      ⊎_elim (λ done. let same : pool_refusal fault ≡ refusals.Damaged sector stated found = cc (done.0, is) in told sector stated found (damaged_only fault sector stated found same))
      (λ lost. absurd (cc (lost.0, is))) hands.outcome

  -- it has its cause
  hands_refused : (old new : IoState) → Looks old new (stop_of {T = ℕ} (Err fault)) → (fault ≡ faults.Failed → ⊥) → IfErr result (IsSendRefusal OfGiving old.disk new.disk out out')
  hands_refused old new looks alive = by result hands.outcome
    where
      told : (refusal : Refusal) → refusal ≡ pool_refusal fault → IsSendRefusal OfGiving old.disk new.disk out out' refusal
      told refusal is = record {
        pool = record {
          one = inl (fault, is);
          alive = λ e. alive (failed_before fault (sym is ∙ e));
          cause = λ e. looks.cause.fault (ap (λ (f : PoolFault). stop_of {T = ℕ} (Err f)) (disk_fault fault (sym is ∙ e)));
        };
        never_full = λ need largest e. looks.never_full need largest (ap (λ (f : PoolFault). stop_of {T = ℕ} (Err f)) (full_only fault need largest (sym is ∙ e)));
        cause = λ e. absurd (no_sink fault (sym is ∙ e));
      }

      lost_so : (refusal : Refusal) → refusal ≡ refusals.SinkFault → Rose out.faults out'.faults → IsSendRefusal OfGiving old.disk new.disk out out' refusal
      lost_so refusal is rose = record {
        pool = record { one = inr (inl is); alive = λ e. absurd (cc (is, e)); cause = λ e. absurd (cc (is, e)) };
        never_full = λ need largest e. absurd (cc (is, e));
        cause = λ e. rose;
      }

      by : (answer : Result (Unit {0}) Refusal) → ((answer ≡ Err (pool_refusal fault)) × (out'.faults ≡ out.faults) × HandedOn out') ⊎ ((answer ≡ Err refusals.SinkFault) × Rose out.faults out'.faults)
          → IfErr answer (IsSendRefusal OfGiving old.disk new.disk out out')
      by (Ok done) ends = tt
      by (Err refusal) ends = ⊎_elim (λ done. told refusal (cc (done.0))) (λ lost. lost_so refusal (cc (lost.0)) lost.1) ends

-- so a send ends whose take is refused
module _ {D : Type 0} {g : Ghosts D} (old new : Pool D g) (send : Send) where
  pub hands_end : (fault : PoolFault) (out out' : SinkState) (result : Result (Unit {0}) Refusal) → HandsOn out out' (Err (pool_refusal fault)) result → Looks (io_of old.io) (io_of new.io) (stop_of {T = ℕ} (Err fault))
      → (fault ≡ faults.Failed → ⊥) → ((plan : PlanFault) → fault ≢ faults.Plan plan)
      → ((images : List (List ℕ)) → Contains images (disk_of old.io).seen → IsHonest new.io → Knows (IsAmong images) send → IsOf (IsDamagedSend (IsAmong images) (disk_of old.io).size (sent_set send)) fault)
      → WhySendEnds old new send out out' result
  hands_end fault out out' result hands looks alive never damaged = record {
    refused = hands_refused fault out out' result hands (io_of old.io) (io_of new.io) looks alive;
    unplanned = hands_no_plan fault out out' result hands never;
    listed = hands_no_list fault out out' result hands never;
    told = λ done is. absurd (⊎_elim (λ as_told. let other = as_told.0 in cc (other, is)) (λ lost. let other = lost.0 in cc (other, is)) hands.outcome);
    damaged = λ images among honest knows. hands_damage fault out out' result hands (IsDamagedSend (IsAmong images) (disk_of old.io).size (sent_set send)) (damaged images among honest knows);
  }

-- ---- pieces

-- a piece is refused by no plan and for no list, and tells no damage
module _ (piece : List ℕ) (is_last : Bool) (old new : ℕ) (out out' : SinkState) where
  piece_no_plan : (result : Result (Unit {0}) Refusal) → WritesPiece piece is_last old new out out' (Some result) → (plan : PlanFault) → result ≢ Err (refusals.Plan plan)
  piece_no_plan result writes plan is = subst (λ (r : Result (Unit {0}) Refusal). WritesPiece piece is_last old new out out' (Some r)) is writes

  piece_no_list : (result : Result (Unit {0}) Refusal) → WritesPiece piece is_last old new out out' (Some result) → (number : ℕ) → result ≢ Err (refusals.Limit Runs number)
  piece_no_list result writes number is =
      let limit = subst (λ (r : Result (Unit {0}) Refusal). WritesPiece piece is_last old new out out' (Some r)) is writes in
      let which : Runs ≡ Stream = limit.0 in absurd (cc which)

  piece_no_damage : (Is : DamageFact) (result : Result (Unit {0}) Refusal) → WritesPiece piece is_last old new out out' (Some result) → TellsOf Is result
  piece_no_damage Is result writes = λ sector stated found is.
      absurd (subst (λ (r : Result (Unit {0}) Refusal). WritesPiece piece is_last old new out out' (Some r)) is writes)

  -- the refusal of one that is too long, or of the output, has its cause
  piece_refused : (here here' : DiskState) (result : Result (Unit {0}) Refusal) → WritesPiece piece is_last old new out out' (Some result) → IfErr result (IsSendRefusal OfGiving here here' out out')
  piece_refused here here' (Ok done) writes = tt
  piece_refused here here' (Err (refusals.Limit which number)) writes = record {
    pool = record { one = inr (inr (let w = writes.0 in let n = writes.1 in cc (w, n))); alive = λ is. absurd (cc is); cause = λ is. absurd (cc is) };
    never_full = λ need largest is. absurd (cc is);
    cause = λ is. absurd (cc is);
  }
  piece_refused here here' (Err refusals.SinkFault) writes = record {
    pool = record { one = inr (inl refl); alive = λ is. absurd (cc is); cause = λ is. absurd (cc is) };
    never_full = λ need largest is. absurd (cc is);
    cause = λ is. writes.rose;
  }
  piece_refused here here' (Err other) writes = absurd writes

  module _ {D : Type 0} {g : Ghosts D} (before after : Pool D g) (send : Send) where
    pub piece_ends : after.io.checksum_errors ≡ before.io.checksum_errors → (result : Option (Result (Unit {0}) Refusal)) → WritesPiece piece is_last old new out out' result → IfSome result (WhySendEnds before after send out out')
    piece_ends counts None writes = tt
    piece_ends counts (Some result) writes = record {
      refused = piece_refused (disk_of before.io) (disk_of after.io) result writes;
      unplanned = piece_no_plan result writes;
      listed = piece_no_list result writes;
      told = λ done is. counts;
      damaged = λ images among honest knows. piece_no_damage (IsDamagedSend (IsAmong images) (disk_of before.io).size (sent_set send)) result writes;
    }

-- a piece that would go past a stream's bytes
pub piece_too_long : (piece : List ℕ) (is_last : Bool) (old new : ℕ) (out out' : SinkState) (result : Result (Unit {0}) Refusal) → stream_limit < old + length piece
    → HandsOn out out' (Err (refusals.Limit Stream stream_limit)) result → WritesPiece piece is_last old new out out' (Some result)
piece_too_long piece is_last old new out out' result longer hands =
    ⊎_elim (λ done. rw done.0 (refl, refl, record { longer = longer; kept = hands.written; later = hands.later; is_out = (done.1, done.2) }))
    (λ lost. rw lost.0 (record { front = (piece, Wrote-kept out out out' piece piece (Wrote-start out piece) hands.written hands.later); rose = lost.1 }))
    hands.outcome

-- a text that is written is a front of a longer one
front_of : (out out' : SinkState) (text left whole : List ℕ) → text ++ left ≡ whole → Wrote out out' text [] → (rest : List ℕ) × Wrote out out' whole rest
front_of out out' text left whole is wrote = (left, subst (λ (t : List ℕ). Wrote out out' t left) is (Wrote-longer out out' text [] left wrote))

-- a piece was taken behind a text of which so much was left
module _ (has : Blocks) (start : Option Point) (sent : Sent) (send : Send) (before after : ℕ) (begun out out' : SinkState) (into text left : List ℕ) (taken old new : ℕ) (is_last : Bool)
    (takes : given.TakesFrom has send sent start text left into (Ok taken)) (whole : text ++ left ≡ begun_text sent start) (counted : old ≡ length text) (printed : Printed begun out text) where
  longer : length (text ++ take taken left) ≡ old + length (take taken into)
  longer = omega (arith, length-append text (take taken left), ap length takes.1, counted)

  all : (count : ℕ) → PieceWritten (take taken into) old count out out' → Printed begun out' (text ++ take taken left)
  all count w = Printed-then begun out out' text (take taken left) printed (subst (λ (t : List ℕ). Printed out out' t) takes.1 w.printed)

  -- what a piece that wasn't filled leaves
  last_is : taken < length into → text ++ take taken left ≡ begun_text sent start
  last_is short =
      let none = drop_all taken left (omega (arith, takes.0, short)) in
      sym (append-nil (text ++ take taken left)) ∙ ap (λ (rest : List ℕ). (text ++ take taken left) ++ rest) (sym none) ∙ takes.2.text

  pub passed : (result : Option (Result (Unit {0}) Refusal)) → (is_last ≡ true → taken < length into) → WritesPiece (take taken into) is_last old new out out' result
      → Passed has start sent send before after begun out' new result
  passed None last w = record { text = text ++ take taken left; left = drop taken left; stands = takes.2; counted = w.1.counted ∙ sym longer; printed = all new w.1 }
  passed (Some (Ok done)) last w =
      let is = last_is (last w.0) in
      let printed_all = subst (λ (t : List ℕ). Printed begun out' t) is (all (old + length (take taken into)) w.1) in
      record {
        front = ([], printed_all.wrote);
        ends = record { within = omega (arith, w.1.within, longer, ap length is); printed = printed_all; handed_on = w.2 };
      }
  passed (Some (Err (refusals.Limit which number))) last w = record {
    front = front_of begun out' text left (begun_text sent start) whole (Wrote-kept begun out out' text [] printed.wrote w.2.kept w.2.later);
    ends = (
      w.0,
      w.1,
      record {
        longer = omega (arith, w.2.longer, longer, ap length takes.2.text, length-append (text ++ take taken left) (drop taken left));
        is_out = (w.2.is_out.0 ∙ printed.stays, w.2.is_out.1);
      },
    );
  }
  passed (Some (Err refusals.SinkFault)) last w =
      let front = Wrote-then begun out out' text (take taken left) w.front.0 printed.wrote (subst (λ (t : List ℕ). Wrote out out' t w.front.0) takes.1 w.front.1) in
      record {
        front = (
          w.front.0 ++ drop taken left,
          subst (λ (t : List ℕ). Wrote begun out' t (w.front.0 ++ drop taken left)) takes.2.text
              (Wrote-longer begun out' (text ++ take taken left) w.front.0 (drop taken left) front),
        );
        ends = Rose-earlier begun.faults out.faults out'.faults printed.wrote.later w.rose;
      }
  passed (Some (Err other)) last w = absurd w

-- a take that fails leaves a front of the text written, as far as it was, and hands that on
module _ (start : Option Point) (sent : Sent) (before after : ℕ) (begun out out' : SinkState) (text left : List ℕ) (whole : text ++ left ≡ begun_text sent start) (printed : Printed begun out text) where
  pub take_failed : (fault : PoolFault) (result : Result (Unit {0}) Refusal) → given.IsTakeFault fault → (stop_of {T = ℕ} (Err fault) ≡ Some blocks.DiskFault → Rose before after) → ¬ (fault ≡ faults.Failed)
      → HandsOn out out' (Err (pool_refusal fault)) result → SendsBy start (Ok sent) before after begun out' result
  take_failed faults.DiskFault result is rose alive hands =
      let front = front_of begun out' text left (begun_text sent start) whole (Wrote-kept begun out out' text [] printed.wrote hands.written hands.later) in
      ⊎_elim (λ done. rw done.0 (record { front = front; ends = (rose refl, inr (done.1 ∙ printed.stays, done.2)) }))
      (λ lost. rw lost.0 (record { front = front; ends = Rose-earlier begun.faults out.faults out'.faults printed.wrote.later lost.1 }))
      hands.outcome
  take_failed faults.Failed result is rose alive hands = absurd (alive refl)
  take_failed (faults.Plan fault) result is rose alive hands = absurd is
  take_failed (faults.CannotApply fault) result is rose alive hands = absurd is
  take_failed (faults.Redacted object block) result is rose alive hands = absurd is
  take_failed (faults.Full need largest) result is rose alive hands = absurd is
  take_failed (faults.Damaged sector stated found) result is rose alive hands = absurd is
  take_failed faults.OutOfMemory result is rose alive hands = absurd is

-- ---- the whole

text_earlier : (text : List ℕ) (before mid after : ℕ) (out out' : SinkState) (result : Result (Unit {0}) Refusal) → before ≤ mid → TextEnds text mid after out out' result
    → TextEnds text before after out out' result
text_earlier text before mid after out out' (Ok done) later e = e
text_earlier text before mid after out out' (Err (refusals.Limit which number)) later e = e
text_earlier text before mid after out out' (Err refusals.DiskFault) later e = (Rose-earlier before mid after later e.0, e.1)
text_earlier text before mid after out out' (Err refusals.SinkFault) later e = e
text_earlier text before mid after out out' (Err refusals.OutOfMemory) later e = e
text_earlier text before mid after out out' (Err other) later e = absurd e

-- how a later part of a send ends, the whole does
pub sent_earlier : (start : Option Point) (sent : Sent) (before mid after : ℕ) (out out' : SinkState) (result : Result (Unit {0}) Refusal) → before ≤ mid → SendsBy start (Ok sent) mid after out out' result
    → SendsBy start (Ok sent) before after out out' result
sent_earlier start sent before mid after out out' result later s = record { front = s.front; ends = text_earlier (begun_text sent start) before mid after out out' result later s.ends }

-- ---- opening

-- a send that was opened has all of its text left
pub sends_from : (has : Blocks) (start : Option Point) (planned : Result Sent PlanFault) (send : Send) (before mid after : ℕ) (out out' : SinkState) (result : Result (Unit {0}) Refusal) → before ≤ mid
    → OpensBy has start planned (Ok send) → ((sent : Sent) → Sending has start sent send out out 0 → SendsBy start (Ok sent) mid after out out' result) → SendsBy start planned before after out out' result
sends_from has start planned send before mid after out out' result later opens gives =
    subst (λ (p : Result Sent PlanFault). SendsBy start p before after out out' result) (sym opens.1)
    (sent_earlier start opens.0 before mid after out out' result later
    (gives opens.0 (record { text = []; left = begun_text opens.0 start; stands = opens.2; counted = refl; printed = Printed-start out })))

-- a plan's refusal is how its send ends
by_plan : (fault : PlanFault) (before after : ℕ) → RefusalEnds fault before after (Err (refusal_of fault))
by_plan fault before after = plan_cases (λ f r. r ≡ refusal_of fault → RefusalEnds fault before after (Err r)) (λ f is. is) (λ which number is. is) fault refl

-- a send that isn't opened writes nothing
unread : (start : Option Point) (planned : Result Sent PlanFault) (before after : ℕ) (out : SinkState) → Rose before after → SendsBy start planned before after out out (Err refusals.DiskFault)
unread start (Ok sent) before after out rose = record { front = (begun_text sent start, Wrote-start out (begun_text sent start)); ends = (rose, inl refl) }
unread start (Err fault) before after out rose = record { front = ([], Wrote-start out []); ends = (rose, refl) }

pub no_memory : (start : Option Point) (planned : Result Sent PlanFault) (before after : ℕ) (out : SinkState) → SendsBy start planned before after out out (Err refusals.OutOfMemory)
no_memory start (Ok sent) before after out = record { front = (begun_text sent start, Wrote-start out (begun_text sent start)); ends = refl }
no_memory start (Err fault) before after out = record { front = ([], Wrote-start out []); ends = (tt, refl) }

pub unopened_by : (has : Blocks) (start : Option Point) (planned : Result Sent PlanFault) (before after : ℕ) (out : SinkState) (fault : PoolFault) → OpensBy has start planned (Err fault)
    → (fault ≡ faults.DiskFault → Rose before after) → SendsBy start planned before after out out (Err (pool_refusal fault))
unopened_by has start planned before after out (faults.Plan fault) is rose =
    subst (λ (p : Result Sent PlanFault). SendsBy start p before after out out (Err (refusal_of fault))) (sym is)
    (record { front = ([], Wrote-start out []); ends = (by_plan fault before after, refl) })
unopened_by has start planned before after out (faults.CannotApply fault) is rose = absurd is
unopened_by has start planned before after out (faults.Redacted object block) is rose = absurd is
unopened_by has start planned before after out (faults.Full need largest) is rose = absurd is
unopened_by has start planned before after out (faults.Damaged sector stated found) is rose = absurd is
unopened_by has start planned before after out faults.DiskFault is rose = unread start planned before after out (rose refl)
unopened_by has start planned before after out faults.Failed is rose = absurd is
unopened_by has start planned before after out faults.OutOfMemory is rose = no_memory start planned before after out

pub memory_refused : (here here' : DiskState) (out out' : SinkState) → IsSendRefusal OfGiving here here' out out' refusals.OutOfMemory
memory_refused here here' out out' = record {
  pool = record { one = inl (faults.OutOfMemory, refl); alive = λ is. absurd (cc is); cause = λ is. absurd (cc is) };
  never_full = λ need largest is. absurd (cc is);
  cause = λ is. absurd (cc is);
}

pub open_refused : (old new : IoState) (out out' : SinkState) (fault : PoolFault) → Looks old new (stop_of {T = Send} (Err fault)) → (fault ≡ faults.Failed → ⊥)
    → IsSendRefusal OfGiving old.disk new.disk out out' (pool_refusal fault)
open_refused old new out out' fault looks alive = record {
  pool = record {
    one = inl (fault, refl);
    alive = λ is. alive (failed_before fault is);
    cause = λ is. looks.cause.fault (ap (λ (f : PoolFault). stop_of {T = Send} (Err f)) (disk_fault fault is));
  };
  never_full = λ need largest is. looks.never_full need largest (ap (λ (f : PoolFault). stop_of {T = Send} (Err f)) (full_only fault need largest is));
  cause = λ is. absurd (no_sink fault is);
}

-- ---- what its plan says of a send, whatever the image

-- what wasn't opened ends as its plan says, where that refuses
pub unopened_planned : (planned : Result Sent PlanFault) (out : SinkState) (fault : PoolFault) → IsPlanned planned (Err fault) → IfUnplanned planned out out (Err (pool_refusal fault))
unopened_planned (Ok sent) out fault is = tt
unopened_planned (Err plan) out (faults.Plan fault) is =
    ⊎_elim (λ refused. let same : fault ≡ plan = cc refused in (ap (λ (f : PlanFault). Err (refusal_of f)) same, refl))
    (λ long. let passed = long.1 in absurd (cc passed)) is
unopened_planned (Err plan) out (faults.CannotApply fault) is = absurd is
unopened_planned (Err plan) out (faults.Redacted object block) is = absurd is
unopened_planned (Err plan) out (faults.Full need largest) is = absurd is
unopened_planned (Err plan) out (faults.Damaged sector stated found) is = let passed = is.1 in absurd (cc passed)
unopened_planned (Err plan) out faults.DiskFault is = let passed = is.1 in absurd (cc passed)
unopened_planned (Err plan) out faults.Failed is = absurd is
unopened_planned (Err plan) out faults.OutOfMemory is = let passed = is.1 in absurd (cc passed)

-- what was opened has a plan that passes
pub opened_planned : (planned : Result Sent PlanFault) (send : Send) (out out' : SinkState) (result : Result (Unit {0}) Refusal) → IsPlanned planned (Ok send)
    → IfUnplanned planned out out' result
opened_planned (Ok sent) send out out' result is = tt
opened_planned (Err fault) send out out' result is = let passed = is.1 in absurd (cc passed)

-- ---- why a plan's refusal comes, and of what E25

-- what wasn't opened for a plan's refusal has that plan
pub unopened_because : (planned : Result Sent PlanFault) (fault : PoolFault) → IsPlanned planned (Err fault) → (plan : PlanFault) → pool_refusal fault ≡ refusals.Plan plan → planned ≡ Err plan
unopened_because planned (faults.Plan fault) is plan same =
    ⊎_elim (λ refused. refused ∙ ap (λ (f : PlanFault). Err f) (plan_named fault plan same))
    (λ long. let limit : refusals.Limit Runs most_runs ≡ refusals.Plan plan = sym (ap refusal_of long.3) ∙ same in absurd (cc limit)) is
unopened_because planned (faults.CannotApply fault) is plan same = absurd (cc same)
unopened_because planned (faults.Redacted object block) is plan same = absurd (cc same)
unopened_because planned (faults.Full need largest) is plan same = absurd (cc same)
unopened_because planned (faults.Damaged sector stated found) is plan same = absurd (cc same)
unopened_because planned faults.DiskFault is plan same = absurd (cc same)
unopened_because planned faults.Failed is plan same = absurd (cc same)
unopened_because planned faults.OutOfMemory is plan same = absurd (cc same)

-- and what wasn't opened for a limit of runs has a plan that passes, of a redacted source
pub unopened_long : (request : SendRequest) (pool : Plain) (out : SinkState) (fault : PoolFault) → IsPlanned (to_send request pool) (Err fault)
    → TellsLong (to_send request pool) out out (Err (pool_refusal fault))
unopened_long request pool out fault is = λ number told.
    let limit : pool_refusal fault ≡ refusals.Limit Runs number = cc told in
    of_limit number (subst (λ (f : PoolFault). IsPlanned (to_send request pool) (Err f)) (plan_only fault (plans.Limit Runs number) limit) is)
  where
    of_limit : (number : ℕ) → IsPlanned (to_send request pool) (Err (faults.Plan (plans.Limit Runs number)))
        → (number ≡ most_runs) × (out ≡ out) × (sent : Sent) × (to_send request pool ≡ Ok sent) × (is_redacted sent.source ≡ true)
    of_limit number (inl refused) = absurd (no_limit request pool Runs number refused)
    of_limit number (inr long) = let same : plans.Limit Runs number ≡ plans.Limit Runs most_runs = long.3 in (cc same, refl, long.0, long.1, long.2)

-- it tells a damage of what is listed alone
pub unopened_damage : (request : SendRequest) (rows : Rows) (old : IoState) (fault : PoolFault) → TellsLists request old rows (Err fault)
    → TellsOf (IsDamagedRequest request old.space.end rows old.disk) (Err (pool_refusal fault))
unopened_damage request rows old fault is = λ sector stated found same.
    let told : pool_refusal fault ≡ refusals.Damaged sector stated found = cc same in
    inr (is sector stated found (damaged_only fault sector stated found told))

-- an image alone is among itself, and nothing else is
pub among_one : (seen : List ℕ) → Contains (seen ∷ []) seen
among_one seen = (0, omega arith, refl)

is_one : (seen image : List ℕ) → IsAmong (seen ∷ []) image → IsSeen seen image
is_one seen image among = go among.0 among.1 among.2
  where
    go : (k : ℕ) → k < length (seen ∷ []) → slice_index_or (seen ∷ []) k image ≡ image → image ≡ seen
    go zero below is = sym is
    go (suc k) below is = absurd (omega (arith, below))

-- the damage of the set of what is asked is told of that
pub set_damage : (rows : Rows) (request : SendRequest) (end : ℕ) (disk : DiskState) (set : ObjSet) (result : Result (Unit {0}) Refusal) → HasSet request rows set
    → TellsOf (IsDamagedSend (IsAmong (disk.seen ∷ [])) disk.size set) result → TellsOf (IsDamagedRequest request end rows disk) result
set_damage rows request end disk set result named told = λ sector stated found is.
    inl (set, named, send_more (IsAmong (disk.seen ∷ [])) (IsSeen disk.seen) (is_one disk.seen) disk.size set sector stated found (told sector stated found is))
