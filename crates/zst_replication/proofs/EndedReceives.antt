-- The headers of partial states, and a receive that comes to END, whatever it read.
use Rattle.std.proofs.Common.{◌≡◌, ℕ, List, [], ◌∷◌, ◌++◌, Option, Some, None, refl, sym, ap, ◌∙◌, subst}
use Rattle.std.specs.List.{concat}
use Rattle.std.specs.Prelude.{bytes_eq}
use Rattle.std.proofs.lemmas.List.Elements.{All-contains}
use Rattle.zst_laws.specs.ReceivedRecords.{ReceivedIsApplied}
use Rattle.zst_model.proofs.FoundElements.{found_passes, own_target}
use Rattle.zst_model.proofs.OrderLaws.{same_bytes}
use Rattle.zst_model.specs.declared.sends.header.Header.{Header}
use Rattle.zst_model.specs.declared.states.item.Item.{Item}
use Rattle.zst_model.specs.pools.Pool.{HasSnapshot, IsPool, Partial, Pool, Snapshot, partial_of, snapshot_named}
use Rattle.zst_model.specs.sends.Points.{point_of}
use Rattle.zst_model.specs.states.AppliedItems.{apply_all}
use Rattle.zst_plan.specs.RecvPlan.{RecvPlan, snapshot_name}
use Rattle.zst_plan.specs.declared.receive.RecvAsk.{RecvAsk}
use Rattle.zst_record.specs.declared.head.Head.{Head}
use Rattle.zst_record.specs.declared.head.Head.TheVariants as heads
use Rattle.zst_record.specs.Heads.{Covered}
use Rattle.zst_recv.proofs.RecordOrder.{EndsBy, ends_last}
use Rattle.zst_recv.specs.ReceiveSteps.{Lives, Fed, begun, opened}
use Rattle.zst_stream.specs.Items.{items_by}
use Rattle.zst_stream.specs.Laws.{FrontsAgree}
use Rattle.zst_stream.specs.Reading.{reading}
use Rattle.zst_replication.specs.Resumption.{AppliedBehind, EndsAreApplied, IsHeaded}
use Rattle.zst_replication.proofs.AppliedRecords.{BehindEnd, behind_on}
use Rattle.zst_replication.proofs.FeedSequences.{Way, receives_way}
use Rattle.zst_replication.proofs.FinishedReceives.{one_more}
use Rattle.zst_replication.proofs.ReceivePlans.{begins_anew, resumed_guids, resumed_ok, resumes}
use Rattle.zst_replication.proofs.RefusedFeeds.{end_completes}
use Rattle.zst_replication.proofs.StreamRecords.{IsEnd}

pub lives_parts : (flags other : ℕ) (a b : Partial) → Lives flags a ≡ Lives other b → (flags ≡ other) × (a ≡ b)
lives_parts flags other a b e = (cc, cc)

-- ---- with what a receive begins

module _ (ask : RecvAsk) (pool : Pool) (records : List Covered) (flags : ℕ) (partial : Partial) (behind : AppliedBehind ask pool records flags partial) where
  abbrev pub header : Header
  header = behind.is.header

  -- with a partial state of its own, of the planned component
  pub record IsBegun (component : List ℕ) : Type 0 where
    pub named : partial.component ≡ component
    pub headed : partial.header ≡ header
    pub free : snapshot_named (snapshot_name ask.target component) pool ≡ None

  pub begins_fresh : partial_of ask.target pool ≡ None → (component : List ℕ) × IsBegun component
  begins_fresh none =
      let fresh = begins_anew ask header pool behind.is.plan none behind.is.planned in
      let opens = subst (λ (p : RecvPlan). (opened ask header p).stage ≡ Lives flags behind.is.begun) fresh.plan_is behind.is.begins in
      let parts = lives_parts header.flags flags (begun ask header fresh.component fresh.base) behind.is.begun opens in (
        fresh.component,
        record {
          named = ap (λ (p : Partial). p.component) behind.is.stays ∙ sym (ap (λ (p : Partial). p.component) parts.1);
          headed = ap (λ (p : Partial). p.header) behind.is.stays ∙ sym (ap (λ (p : Partial). p.header) parts.1);
          free = fresh.new;
        },
      )

  -- or with the target's
  pub record GoesOn (old : Partial) : Type 0 where
    pub named : partial.component ≡ old.component
    pub headed : partial.header ≡ old.header

  pub begins_there : (old : Partial) → partial_of ask.target pool ≡ Some old → GoesOn old
  begins_there old found =
      let same = resumes ask header pool old behind.is.plan found behind.is.planned in
      let opens = subst (λ (p : RecvPlan). (opened ask header p).stage ≡ Lives flags behind.is.begun) same behind.is.begins in
      let parts = lives_parts header.flags flags old behind.is.begun opens in
      record {
        named = ap (λ (p : Partial). p.component) behind.is.stays ∙ sym (ap (λ (p : Partial). p.component) parts.1);
        headed = ap (λ (p : Partial). p.header) behind.is.stays ∙ sym (ap (λ (p : Partial). p.header) parts.1);
      }

  pub headed : IsHeaded ask pool header partial
  headed = go (partial_of ask.target pool) refl
    where
      go : (o : Option Partial) → partial_of ask.target pool ≡ o → IsHeaded ask pool header partial
      go None none =
          let fresh = begins_fresh none in
          record {
            fresh = λ e. fresh.1.headed;
            resumed = λ old e. absurd (let both = sym none ∙ e in cc);
            to = ap (λ (h : Header). h.to) fresh.1.headed;
            from = ap (λ (h : Header). h.from) fresh.1.headed;
          }
      go (Some old) found =
          let on = begins_there old found in
          let guids = resumed_guids header old behind.is.plan (resumed_ok ask header pool old behind.is.plan found behind.is.planned) in
          record {
            fresh = λ e. absurd (let both = sym found ∙ e in cc);
            resumed = λ other e. (begins_there other e).headed;
            to = ap (λ (h : Header). h.to) on.headed ∙ guids.0;
            from = ap (λ (h : Header). h.from) on.headed ∙ guids.1;
          }

  -- no snapshot has its name
  pub is_new : IsPool pool → snapshot_named (snapshot_name ask.target partial.component) pool ≡ None
  is_new lawful = go (partial_of ask.target pool) refl
    where
      free : (old : Partial) → partial_of ask.target pool ≡ Some old → HasSnapshot pool (snapshot_name ask.target old.component) → ⊥
      free old found =
          subst (λ (t : List ℕ). HasSnapshot pool (snapshot_name t old.component) → ⊥) (own_target ask.target pool old found)
          (All-contains (λ (p : Partial). HasSnapshot pool (p.target ++ 64 ∷ p.component) → ⊥) pool.partials old lawful.linked.components
          (found_passes (λ (p : Partial). bytes_eq p.target ask.target) pool.partials old found).0)

      none_named : (name : List ℕ) → (HasSnapshot pool name → ⊥) → (o : Option Snapshot) → snapshot_named name pool ≡ o → o ≡ None
      none_named name absent None e = refl
      none_named name absent (Some snapshot) e =
          let found = found_passes (λ (s : Snapshot). bytes_eq s.name name) pool.snapshots snapshot e in
          absurd (absent (snapshot, found.0, same_bytes snapshot.name name found.1))

      named : (component : List ℕ) → partial.component ≡ component → snapshot_named (snapshot_name ask.target component) pool ≡ None → snapshot_named (snapshot_name ask.target partial.component) pool ≡ None
      named component same none = ap (λ (c : List ℕ). snapshot_named (snapshot_name ask.target c) pool) same ∙ none

      go : (o : Option Partial) → partial_of ask.target pool ≡ o → snapshot_named (snapshot_name ask.target partial.component) pool ≡ None
      go None none = let fresh = begins_fresh none in named fresh.0 fresh.1.named fresh.1.free
      go (Some old) found =
          let name = snapshot_name ask.target old.component in
          named old.component (begins_there old found).named (none_named name (free old found) (snapshot_named name pool) refl)

-- ---- END

none_said : (flags : ℕ) (payload : List ℕ) (head : Head) → IsEnd head → items_by flags payload head ≡ []
none_said flags payload (heads.End sums to) end = refl
none_said flags payload (heads.Begin stated len) end = refl
none_said flags payload (heads.Object object kind bonus_kind block_size bonus_len max_block to) end = absurd end
none_said flags payload (heads.FreeObjects first count to) end = absurd end
none_said flags payload (heads.Write object kind offset size to) end = absurd end
none_said flags payload (heads.Free object offset size to) end = absurd end
none_said flags payload (heads.Spill object size to) end = absurd end
none_said flags payload (heads.Redact object offset size to) end = absurd end

-- what stands behind the records up to END stands behind all of a text
whole_behind : ReceivedIsApplied → (ask : RecvAsk) (pool : Pool) (text : List ℕ) (partial : Partial) → (ended : BehindEnd ask pool (reading text).covered partial)
    → AppliedBehind ask pool (reading text).covered ended.flags partial
whole_behind law ask pool text partial ended =
    let none = none_said ended.flags ended.last.payload ended.last.head ended.ends in
    let last = end_completes ended.front ended.last ended.more (reading text).outcome (subst (λ (cs : List Covered). EndsBy cs (reading text).outcome) ended.records_are (ends_last text)) ended.ends in
    let all : (reading text).covered ≡ ended.front ++ ended.last ∷ [] = ended.records_are ∙ ap (λ (cs : List Covered). ended.front ++ ended.last ∷ cs) last.0 in
    subst (λ (cs : List Covered). AppliedBehind ask pool cs ended.flags partial) (sym all)
    (behind_on law ask pool pool ended.last ended.front ended.flags partial partial ended.behind
    (ap (λ (is : List Item). apply_all is partial.objects.state) none) (sym (ap (λ (is : List Item). point_of partial.point is) none)) refl)

pub ends_applied : FrontsAgree → ReceivedIsApplied → EndsAreApplied
ends_applied fronts law ask pool after partial pieces lawful e =
    let way = subst (λ (f : Fed). Way law ask pool (reading (concat pieces)).covered f) e (receives_way law ask pool fronts pieces) in
    let behind = whole_behind law ask pool (concat pieces) partial way.1 in
    let all = (reading (concat pieces)).covered in (
      way.1.flags,
      behind,
      headed ask pool all way.1.flags partial behind,
      one_more ask partial.header pool after partial way.0.asked.target refl (is_new ask pool all way.1.flags partial behind lawful) way.0.runs,
    )
