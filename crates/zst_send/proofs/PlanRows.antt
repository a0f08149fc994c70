-- What a plan's rows tell of the send that it is of, where they stand for what a pool lists.
use Rattle.std.proofs.Common.{◌≡◌, inl, inr, ℕ, Bool, true, false, List, [], ◌∷◌, length, Option, Some, None, Result, Ok, Err, cond, option_map, suc, zero, ◌<◌, refl, sym, ap, ◌∙◌, subst, get_or, arith}
use Rattle.std.specs.Prelude.{IfErr, IfOk}
use Rattle.std.proofs.lemmas.List.Quantifiers.{position-Some}
use Rattle.std.specs.List.{find, position}
use Rattle.zst_dir.specs.Rows.{Rows}
use Rattle.zst_dir.specs.declared.rows.Snapshot.{Snapshot}
use Rattle.zst_image.specs.Reads.{RunsBy, SetIs, SnapshotIs}
use Rattle.zst_model.specs.declared.refusals.plan_fault.PlanFault.{PlanFault}
use Rattle.zst_model.specs.declared.sends.ask.SendAsk.{SendAsk}
use Rattle.zst_model.specs.fields.Lists.{Runs, has_pair}
use Rattle.zst_model.specs.pools.Ancestry.{number_of_source}
use Rattle.zst_model.specs.pools.Pool.{Pool}
use Rattle.zst_model.specs.sends.Headers.{Sent, choice_of, redaction_list, source_list, source_runs}
use Rattle.zst_model.specs.sends.Inclusion.{Choice, Pairs}
use Rattle.zst_model.specs.sends.SendPlan.{is_redacted, send_plan, with_list}
use Rattle.zst_objset.specs.Damage.{DamageFact}
use Rattle.zst_objset.specs.Dnodes.{outside}
use Rattle.zst_objset.specs.TightSets.{SetIsTightIn}
use Rattle.zst_plan.specs.Plans.{IsPlanOf}
use Rattle.zst_plan.specs.declared.plan.SendPlan.{SendPlan}
use Rattle.zst_plan.proofs.AlikeAnswers.{at_names}
use Rattle.zst_pool.specs.Damage.{IsOf}
use Rattle.zst_pool.specs.Lists.{IsUnread}
use Rattle.zst_pool.specs.declared.fault.PoolFault.{PoolFault}
use Rattle.zst_pool.specs.declared.fault.PoolFault.TheVariants.{Plan, CannotApply, Redacted, Full, Damaged, DiskFault, Failed, OutOfMemory}
use Rattle.zst_traverse.specs.Cells.{choice_with}
use Rattle.zst_tree.specs.Indices.{Blocks}
use Rattle.zst_send.specs.Openings.{IsPlanned, IsUnlisted, Opens, Starts, runs_in, set_where}
use Rattle.zst_send.specs.declared.send.Send.{Send}
use Rattle.zst_send.proofs.StandingRows.{redaction_pairs}

-- what is found is the first that passes
found_at : {A : Type 0} (p : A → Bool) (d : A) (xs : List A) (i : ℕ) → i < length xs → p (get_or xs i d) ≡ true → ((k : ℕ) → k < i → p (get_or xs k d) ≡ false) → find p xs ≡ Some (get_or xs i d)
found_at p d [] i below here before = absurd (omega (arith, below))
found_at p d (x ∷ xs) zero below here before = ap (λ b. cond b (Some x) (find p xs)) here
found_at p d (x ∷ xs) (suc i) below here before =
    ap (λ b. cond b (Some x) (find p xs)) (before 0 (omega arith)) ∙ found_at p d xs i (omega (arith, below)) here (λ k less. before (suc k) (omega (arith, less)))

-- the first snapshot that passes a test has the set that is found so
pub set_at : (rows : Rows) (passes : Snapshot → Bool) (place : ℕ) (row : Snapshot) → position passes rows.snapshots ≡ Some place → row ≡ get_or rows.snapshots place row
    → set_where passes rows ≡ Some row.objects
set_at rows passes place row stands here =
    let at = position-Some passes rows.snapshots place row stands in
    ap (λ (o : Option Snapshot). option_map (λ (snapshot : Snapshot). snapshot.objects) o) (found_at passes row rows.snapshots place at.0 at.1 at.2)
    ∙ ap (λ (r : Snapshot). Some r.objects) (sym here)

-- what is asked, by its parts
abbrev choice : Option ℕ → Pairs → Pairs → Choice
choice from source redact = record { from = from; source = source; redact = redact }

-- what is sent is what the plan's source and these two lists include
pub plan_choice : (sent : Sent) (from : Option ℕ) (listed redact : Runs) → from ≡ option_map number_of_source sent.source → listed ≡ source_runs sent.source → redact ≡ runs_in sent.redaction
    → choice_of sent ≡ choice_with from listed redact
plan_choice sent from listed redact number lists redacts =
    ap (λ (from : Option ℕ). choice from (source_list sent.source) (redaction_list sent.redaction)) (sym number)
    ∙ ap (λ (runs : Runs). choice from (has_pair runs) (redaction_list sent.redaction)) (sym lists)
    ∙ ap (λ (pairs : Pairs). choice from (has_pair listed) pairs) (redaction_pairs sent.redaction ∙ ap has_pair (sym redacts))

-- the set of the snapshot's row is known as well as the rows
pub plan_holds : {bound : Option ℕ} (has : Blocks) (rows : Rows) (running : Pool) → RunsBy bound has rows running → (plan : SendPlan) (sent : Sent) → IsPlanOf rows running plan sent
    → (row : Snapshot) → row ≡ get_or rows.snapshots plan.snap row → SetIs bound has row.objects sent.snapshot.objects
plan_holds {bound} has rows running runs plan sent is row here =
    (at_names (SnapshotIs bound has) rows.snapshots running.snapshots plan.snap row sent.snapshot runs.snapshots is.snapshot here).objects

-- ---- what opening refuses

-- the fault of the plan is the refusal
pub refuses : (has : Blocks) (ask : SendAsk) (pool : Pool) (result : Result Send PoolFault) (fault : PlanFault) → result ≡ Err (Plan fault) → send_plan ask pool ≡ Err fault → Opens has ask pool result
refuses has ask pool result fault same is = subst (λ (r : Result Send PoolFault). Opens has ask pool r) (sym same) (ap (λ (plan : Result Sent PlanFault). with_list plan) is)

-- so it is for the plan alone
pub plan_refuses : (plan : Result Sent PlanFault) (result : Result Send PoolFault) (fault : PlanFault) → result ≡ Err (Plan fault) → plan ≡ Err fault → IsPlanned plan result
plan_refuses plan result fault same is = subst (λ (r : Result Send PoolFault). IsPlanned plan r) (sym same) (inl is)

-- where a list can't be read, the plan passes
unread_planned : (plan : Result Sent PlanFault) (sent : Sent) (fault : PoolFault) → plan ≡ Ok sent → IsUnread fault → IsPlanned plan (Err fault)
unread_planned plan sent (Plan fault) is unread = absurd unread
unread_planned plan sent (CannotApply fault) is unread = absurd unread
unread_planned plan sent (Redacted object block) is unread = absurd unread
unread_planned plan sent (Full need largest) is unread = absurd unread
unread_planned plan sent (Damaged sector stated found) is unread = (sent, is)
unread_planned plan sent DiskFault is unread = (sent, is)
unread_planned plan sent Failed is unread = absurd unread
unread_planned plan sent OutOfMemory is unread = (sent, is)

-- what passes is opened, unless a list can't be read or made
pub passes_planned : (plan : Result Sent PlanFault) (sent : Sent) (redacted : Type 0) (result : Result Send PoolFault) → plan ≡ Ok sent → (redacted → is_redacted sent.source ≡ true)
    → IfErr result (IsUnlisted redacted) → IsPlanned plan result
passes_planned plan sent redacted (Ok send) is source unlisted = (sent, is)
passes_planned plan sent redacted (Err fault) is source unlisted = elim unlisted [
  | inl unread ↦ unread_planned plan sent fault is unread
  | inr long ↦ subst (λ (f : PoolFault). IsPlanned plan (Err f)) (sym long.1) (inr (sent, is, source long.0, refl))
]

-- and starts by its plan
pub starts_opened : (has : Blocks) (ask : SendAsk) (pool : Pool) (sent : Sent) (result : Result Send PoolFault) → send_plan ask pool ≡ Ok sent → Starts has sent None result → Opens has ask pool result
starts_opened has ask pool sent (Ok send) is starts = (sent, ap (λ (plan : Result Sent PlanFault). with_list plan) is ∙ starts.0, starts.1)
starts_opened has ask pool sent (Err (Plan fault)) is starts = ap (λ (plan : Result Sent PlanFault). with_list plan) is ∙ starts
starts_opened has ask pool sent (Err (CannotApply fault)) is starts = absurd starts
starts_opened has ask pool sent (Err (Redacted object block)) is starts = absurd starts
starts_opened has ask pool sent (Err (Full need largest)) is starts = absurd starts
starts_opened has ask pool sent (Err (Damaged sector stated found)) is starts = absurd starts
starts_opened has ask pool sent (Err DiskFault) is starts = tt
starts_opened has ask pool sent (Err Failed) is starts = absurd starts
starts_opened has ask pool sent (Err OutOfMemory) is starts = tt

-- a list that can't be read or made isn't that the pool failed before
pub open_yet : (redacted : Type 0) (result : Result Send PoolFault) → IfErr result (IsUnlisted redacted) → ¬ (result ≡ Err Failed)
open_yet redacted result unlisted is = elim (subst (λ (r : Result Send PoolFault). IfErr r (IsUnlisted redacted)) is unlisted) [
  | inl unread ↦ absurd unread
  | inr long ↦ let same = long.1 in absurd (cc same)
]

-- ---- what it tells

-- what a send's set is, and what a fault tells
pub tight_opened : (has : Blocks) (plan : Result Sent PlanFault) (sent : Sent) (result : Result Send PoolFault) → plan ≡ Ok sent
    → IfOk result (λ send. SetIsTightIn has (outside (has_pair send.subject.redact) has) send.subject.set sent.snapshot.objects)
    → IfOk result (λ send. (other : Sent) → plan ≡ Ok other → SetIsTightIn has (outside (has_pair send.subject.redact) has) send.subject.set other.snapshot.objects)
tight_opened has plan sent (Ok send) is tight = λ other also.
    let same : sent ≡ other = cc (is, also) in
    subst (λ (o : Sent). SetIsTightIn has (outside (has_pair send.subject.redact) has) send.subject.set o.snapshot.objects) same tight
tight_opened has plan sent (Err fault) is tight = tt

pub plan_tells : (Is : DamageFact) (result : Result Send PoolFault) (fault : PlanFault) → result ≡ Err (Plan fault) → IfErr result (IsOf Is)
plan_tells Is result fault same = subst (λ (r : Result Send PoolFault). IfErr r (IsOf Is)) (sym same) (λ sector stated found is. absurd (cc is))
