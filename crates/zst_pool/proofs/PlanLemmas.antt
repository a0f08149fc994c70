-- Which refusals the directory tells, and which it doesn't.
use Rattle.std.specs.Prelude.{Result, Ok, Err, IfErr}
use Rattle.std.proofs.Common.{◌≡◌, ◌⊎◌, inl, inr, ℕ, ◌+◌, ◌*◌, ◌<◌, Bool, true, false, List, [], ◌∷◌, length, map, Option, nat_lt, refl, sym, ap, ◌∙◌, subst}
use Rattle.std.proofs.lemmas.Bool.{true≢false}
use Rattle.zst_image.specs.Bodies.{Body}
use Rattle.zst_model.specs.declared.refusals.apply_fault.ApplyFault.{ApplyFault}
use Rattle.zst_model.specs.declared.refusals.faults.Quantity.{Quantity}
use Rattle.zst_model.specs.declared.refusals.faults.Quantity.TheVariants as quantities
use Rattle.zst_model.specs.declared.refusals.plan_fault.PlanFault.{PlanFault}
use Rattle.zst_model.specs.declared.refusals.plan_fault.PlanFault.TheVariants as plans
use Rattle.zst_model.specs.declared.refusals.refusal.Refusal.{Refusal}
use Rattle.zst_model.specs.declared.refusals.refusal.Refusal.TheVariants as refusals
use Rattle.zst_model.specs.refusals.Refusal.{refusal_of}
use Rattle.zst_model.specs.declared.states.attr.ObjectHead.{ObjectHead}
use Rattle.zst_model.specs.declared.states.item.Change.TheVariants.{Free, Put, Write}
use Rattle.zst_model.specs.declared.states.item.Item.{Item}
use Rattle.zst_model.specs.declared.states.item.Item.TheVariants.{At, FreeObjects}
use Rattle.zst_model.specs.sends.Items.{spill_change}
use Rattle.zst_model.specs.states.AppliedItems.{unless, ◌>>=◌}
use Rattle.zst_model.specs.states.DatedState.{DatedState, apply_all_dated, size_at}
use Rattle.zst_model.specs.states.State.{index_bound, number_bound}
use Rattle.zst_model.specs.pools.Limits.{most_runs}
use Rattle.zst_model.specs.pools.Pool.{Pool}
use Rattle.zst_model.specs.pools.Pool as plain
use Rattle.zst_model.specs.pools.Step.{Stepped, applied, committed, filled, in_indices, in_numbers, last_number, of_applying, on_head, punched, written}
use Rattle.zst_model.proofs.PlanFaults.{plan_cases, same_plan}
use Rattle.zst_tree.specs.declared.tree.ObjSet.{ObjSet}
use Rattle.zst_dir.specs.Rows.{Rows}
use Rattle.zst_block.specs.declared.fault.BlockFault.TheVariants as blocks
use Rattle.zst_objset.specs.Answers.{IsOfBlock, LimitOnly, NotLimit}
use Rattle.zst_objset.specs.declared.fault.ObjFault.{ObjFault}
use Rattle.zst_objset.specs.declared.fault.ObjFault.TheVariants as sets
use Rattle.zst_pool.specs.Checks.{FindsHead, freed, next_of, put_in, with_head_of}
use Rattle.zst_pool.specs.Faults.{of_committed, of_set}
use Rattle.zst_pool.specs.Heads.{of_call, of_change}
use Rattle.zst_pool.specs.Lineage.{with_marked}
use Rattle.zst_pool.specs.Plans.{IsLast, IsLimitOf, IsPast, Plans, is_by_rows, is_counted}
use Rattle.zst_pool.specs.Redactions.{if_short}
use Rattle.zst_image.specs.Reads.{IsNamedBy}
use Rattle.zst_pool.specs.declared.fault.PoolFault.{PoolFault}
use Rattle.zst_pool.specs.declared.fault.PoolFault.TheVariants.{OutOfMemory, Plan}
use Rattle.zst_tree.specs.declared.or_memory.OrMemory.{OrMemory}
use Rattle.zst_image.specs.declared.commit_fault.CommitFault.{CommitFault}
use Rattle.zst_image.specs.declared.commit_fault.CommitFault.TheVariants as commits
use Rattle.zst_image.specs.declared.pool_state.PoolState.{PoolState}

-- whether the directory tells a refusal, and whether a definition gives such a one
pub is_told : Refusal → Bool
is_told (refusals.Plan fault) = is_by_rows fault
is_told (refusals.Limit which number) = is_counted which
is_told refusal = false

abbrev pub gives_told : {A : Type 0} → Result A Refusal → Bool
gives_told (Ok value) = false
gives_told (Err refusal) = is_told refusal

told_of : (fault : PlanFault) → is_told (refusal_of fault) ≡ is_by_rows fault
unfolding is_told
told_of = plan_cases (λ fault refusal. is_told refusal ≡ is_by_rows fault) (λ fault. refl) (λ which number. refl)

-- what passes a limit isn't told by the directory
limit_apart : (numbers indices : ℕ) (lists : Bool) (body : Body) (fault : PlanFault) → IsLimitOf numbers indices lists body fault → is_by_rows fault ≡ false
limit_apart numbers indices lists body fault (inl (inl past)) = ap is_by_rows past.0
limit_apart numbers indices lists body fault (inl (inr past)) = ap is_by_rows past.0
limit_apart numbers indices lists body fault (inr (inl long)) = ap is_by_rows long.0
limit_apart numbers indices lists body fault (inr (inr last)) = ap is_by_rows last.0

module _ {T : Type 0} (definition : Pool → Result Stepped Refusal) (numbers indices : ℕ) (lists : Bool) (kept : PoolState) where
  -- a command that its plan refuses
  pub plans_refused : (fault : PlanFault) {result : Result T PoolFault} → result ≡ Err (Plan fault) → (is_by_rows fault ≡ true) ⊎ IsLimitOf numbers indices lists kept.body fault
      → ((pool : Pool) → IsNamedBy kept.body kept.dir pool → definition pool ≡ Err (refusal_of fault)) → Plans definition numbers indices lists kept result
  plans_refused fault {result = result} answered told refuses =
      let made : Plans {T = T} definition numbers indices lists kept (Err (Plan fault)) = record {
        exact = λ pool other named is. (
          λ refused. let same : refusal_of fault ≡ refusal_of other = cc (refuses pool named, refused) in ap (λ f. Err (Plan f)) (same_plan fault other same),
          λ was. let same : fault ≡ other = cc in refuses pool named ∙ ap (λ f. Err (refusal_of f)) same,
        );
        limits = λ other was. let same : fault ≡ other = cc in subst (λ (f : PlanFault). (is_by_rows f ≡ true) ⊎ IsLimitOf numbers indices lists kept.body f) same told;
      } in
      subst (Plans definition numbers indices lists kept) (sym answered) made

  -- one that the directory doesn't refuse, by its definition and by its answer
  pub plans_apart : (result : Result T PoolFault) → ((pool : Pool) → IsNamedBy kept.body kept.dir pool → gives_told (definition pool) ≡ false)
      → ((fault : PlanFault) → result ≡ Err (Plan fault) → IsLimitOf numbers indices lists kept.body fault) → Plans definition numbers indices lists kept result
  plans_apart result apart limits = record {
    exact = λ pool fault named is. (
      λ refused. absurd (true≢false (sym is ∙ sym (told_of fault) ∙ ap gives_told (sym refused) ∙ apart pool named)),
      λ was. absurd (true≢false (sym is ∙ limit_apart numbers indices lists kept.body fault (limits fault was))),
    );
    limits = λ fault was. inr (limits fault was);
  }

  -- one that falls for want of memory, where the directory doesn't refuse it
  pub plans_starved : (result : Result T PoolFault) → result ≡ Err OutOfMemory → ((pool : Pool) → IsNamedBy kept.body kept.dir pool → gives_told (definition pool) ≡ false) → Plans definition numbers indices lists kept result
  plans_starved result answered apart = plans_apart result apart (λ fault is. absurd (cc (answered, is)))

  -- the same answer of another call
  pub plans_err : {U : Type 0} (fault : PoolFault) {result : Result U PoolFault} → result ≡ Err fault → Plans {T = T} definition numbers indices lists kept (Err fault) → Plans {T = U} definition numbers indices lists kept result
  plans_err {U = U} fault {result = result} answered is =
      let again : Plans {T = U} definition numbers indices lists kept (Err fault) = record {
        exact = λ pool plan named told. (
          λ refused. let was = (is.exact pool plan named told).0 refused in let same : fault ≡ Plan plan = cc in ap (λ f. Err f) same,
          λ was. let same : fault ≡ Plan plan = cc in (is.exact pool plan named told).1 (ap (λ f. Err f) same),
        );
        limits = λ plan was. let same : fault ≡ Plan plan = cc in is.limits plan (ap (λ f. Err f) same);
      } in
      subst (Plans definition numbers indices lists kept) (sym answered) again

  pub plans_ok : {U : Type 0} (value : T) (other : U) → Plans {T = T} definition numbers indices lists kept (Ok value) → Plans {T = U} definition numbers indices lists kept (Ok other)
  plans_ok value other is = record {
    exact = λ pool plan named told. (
      λ refused. let was = (is.exact pool plan named told).0 refused in absurd (cc),
      λ was. absurd (cc),
    );
    limits = λ plan was. absurd (cc);
  }

-- what tells of a definition's part
apart_unless : {A : Type 0} (test : Bool) (refusal : Refusal) (rest : Result A Refusal) → is_told refusal ≡ false → gives_told rest ≡ false → gives_told (unless test refusal rest) ≡ false
apart_unless true refusal rest apart after = apart
apart_unless false refusal rest apart after = after

apart_then : {A B : Type 0} (first : Result A Refusal) (next : A → Result B Refusal) → gives_told first ≡ false → ((value : A) → gives_told (next value) ≡ false) → gives_told (first >>= next) ≡ false
apart_then (Ok value) next apart after = after value
apart_then (Err refusal) next apart after = apart

apart_applied : {A : Type 0} (made : Result A ApplyFault) → gives_told (of_applying made) ≡ false
unfolding is_told
apart_applied (Ok value) = refl
apart_applied (Err fault) = refl

apart_committed : (pool : Pool) → gives_told (committed pool) ≡ false
unfolding is_told
apart_committed pool = apart_unless (nat_lt last_number (pool.number + 1)) (refusals.Limit quantities.Number last_number) (Ok (next_of pool)) refl refl

apart_numbers : {A : Type 0} (past : ℕ) (rest : Result A Refusal) → gives_told rest ≡ false → gives_told (in_numbers past rest) ≡ false
unfolding is_told
apart_numbers past rest after = apart_unless (nat_lt number_bound past) (refusals.Limit quantities.Object number_bound) rest refl after

apart_indices : {A : Type 0} (past : ℕ) (rest : Result A Refusal) → gives_told rest ≡ false → gives_told (in_indices past rest) ≡ false
unfolding is_told
apart_indices past rest after = apart_unless (nat_lt index_bound past) (refusals.Limit quantities.Block index_bound) rest refl after

-- a change of a head is never refused for what the directory tells
pub put_apart : (pool : Pool) (k : ℕ) (head : ObjectHead) (bonus : List ℕ) (spill : Option (List ℕ)) (old : DatedState) → gives_told (put_in pool k head bonus spill old) ≡ false
put_apart pool k head bonus spill old =
    let items : List Item = map (At k) (Put head bonus false 0 ∷ spill_change spill) in
    apart_numbers (k + 1) (applied pool items old) (apart_applied (apply_all_dated (pool.number + 1) items old))

pub freed_apart : (pool : Pool) (first count : ℕ) (old : DatedState) → gives_told (freed pool first count old) ≡ false
freed_apart pool first count old =
    let items = FreeObjects first count ∷ [] in
    apart_numbers (first + count) (applied pool items old) (apart_applied (apply_all_dated (pool.number + 1) items old))

ranged : (pool : Pool) (items : List Item) (past : ℕ) (old : DatedState) → gives_told (applied pool items old >>= λ after. in_indices past (Ok after)) ≡ false
ranged pool items past old =
    apart_then (applied pool items old) (λ after. in_indices past (Ok after)) (apart_applied (apply_all_dated (pool.number + 1) items old)) (λ after. apart_indices past (Ok after) refl)

pub written_apart : (pool : Pool) (k i : ℕ) (bytes : List ℕ) (old : DatedState) → gives_told (written pool k i bytes old) ≡ false
written_apart pool k i bytes old = let size = size_at (old.state k) in ranged pool (At k (Write (i * size) 0 (filled size bytes)) ∷ []) (i + 1) old

pub punched_apart : (pool : Pool) (k first count : ℕ) (old : DatedState) → gives_told (punched pool k first count old) ≡ false
punched_apart pool k first count old = let size = size_at (old.state k) in ranged pool (At k (Free (first * size) (count * size)) ∷ []) (first + count) old

-- a command on a head that is there
pub head_apart : (rows : Rows) (name : List ℕ) (pool : Pool) (set : ObjSet) (make : DatedState → Result DatedState Refusal) → ((old : DatedState) → gives_told (make old) ≡ false)
    → FindsHead rows name pool (Ok set) → gives_told (on_head name pool make) ≡ false
head_apart rows name pool set make apart found =
    let dataset = found.1 in
    ap gives_told (found.4 make)
    ∙ apart_then (make dataset.head) (λ after. committed (with_head_of name after pool)) (apart dataset.head) (λ after. apart_committed (with_head_of name after pool))

-- a list is never refused for what the directory tells
pub short_apart : (bookmark : plain.Bookmark) (pool : Pool) → gives_told (if_short bookmark pool) ≡ false
unfolding is_told
short_apart bookmark pool = apart_unless (nat_lt most_runs (length bookmark.runs)) (refusals.Limit quantities.Runs most_runs) (committed (with_marked bookmark pool)) refl (apart_committed (with_marked bookmark pool))

-- a commit that is made isn't refused
pub made_apart : (definition : Result Stepped Refusal) (done : Stepped) → definition ≡ Ok done → gives_told definition ≡ false
made_apart definition done is = ap gives_told is

-- what a call of an object set is refused for passes its limit
past_call : (which : Quantity) (limit past : ℕ) (called : Result (Unit {0}) ObjFault) (fault : PlanFault) → IfErr called (LimitOnly which limit past) → of_change (of_call called) ≡ Err (Plan fault)
    → (fault ≡ plans.Limit which limit) × (limit < past)
past_call which limit past (Ok done) fault limits is = absurd (cc)
past_call which limit past (Err (sets.CannotApply apply)) fault limits is = absurd (cc)
past_call which limit past (Err (sets.Redacted object block)) fault limits is = absurd (cc)
past_call which limit past (Err (sets.Limit other number)) fault limits is =
    let same : plans.Limit other number ≡ fault = cc in
    (sym same ∙ ap (λ (w : Quantity). plans.Limit w number) limits.0 ∙ ap (λ (n : ℕ). plans.Limit which n) limits.1, limits.2)
past_call which limit past (Err (sets.Block (blocks.Full need largest))) fault limits is = absurd (cc)
past_call which limit past (Err (sets.Block (blocks.Damaged sector stated found))) fault limits is = absurd (cc)
past_call which limit past (Err (sets.Block blocks.DiskFault)) fault limits is = absurd (cc)

pub past_numbers : (past : ℕ) (called : Result (Unit {0}) ObjFault) {answered : Result (Unit {0}) (OrMemory ObjFault)} → answered ≡ of_call called → IfErr called (LimitOnly quantities.Object number_bound past)
    → (fault : PlanFault) → of_change answered ≡ Err (Plan fault) → IsPast past 0 fault
unfolding number_bound
past_numbers past called same limits fault is = inl (past_call quantities.Object number_bound past called fault limits (sym (ap of_change same) ∙ is))

pub past_indices : (past : ℕ) (called : Result (Unit {0}) ObjFault) {answered : Result (Unit {0}) (OrMemory ObjFault)} → answered ≡ of_call called → IfErr called (LimitOnly quantities.Block index_bound past)
    → (fault : PlanFault) → of_change answered ≡ Err (Plan fault) → IsPast 0 past fault
unfolding index_bound
past_indices past called same limits fault is = inr (past_call quantities.Block index_bound past called fault limits (sym (ap of_change same) ∙ is))

-- and a call without limits has no plan
pub no_plan : (called : Result (Unit {0}) ObjFault) {answered : Result (Unit {0}) (OrMemory ObjFault)} → answered ≡ of_call called → IfErr called NotLimit → (fault : PlanFault) → of_change answered ≡ Err (Plan fault) → ⊥
no_plan called same limits fault is = not_planned called fault limits (sym (ap of_change same) ∙ is)
  where
    not_planned : (called : Result (Unit {0}) ObjFault) (fault : PlanFault) → IfErr called NotLimit → of_change (of_call called) ≡ Err (Plan fault) → ⊥
    not_planned (Ok done) fault limits is = absurd (cc)
    not_planned (Err (sets.CannotApply apply)) fault limits is = absurd (cc)
    not_planned (Err (sets.Redacted object block)) fault limits is = absurd (cc)
    not_planned (Err (sets.Limit other number)) fault limits is = absurd limits
    not_planned (Err (sets.Block (blocks.Full need largest))) fault limits is = absurd (cc)
    not_planned (Err (sets.Block (blocks.Damaged sector stated found))) fault limits is = absurd (cc)
    not_planned (Err (sets.Block blocks.DiskFault)) fault limits is = absurd (cc)

-- no read of a block has a plan
pub no_plan-block : (called : ObjFault) (fault : PlanFault) → IsOfBlock called → of_set called ≡ Plan fault → ⊥
no_plan-block (sets.CannotApply apply) fault known is = absurd known
no_plan-block (sets.Redacted object block) fault known is = absurd known
no_plan-block (sets.Limit other number) fault known is = absurd known
no_plan-block (sets.Block (blocks.Full need largest)) fault known is = absurd (cc)
no_plan-block (sets.Block (blocks.Damaged sector stated found)) fault known is = absurd (cc)
no_plan-block (sets.Block blocks.DiskFault) fault known is = absurd (cc)

-- nor has a commit
pub no_plan-commit : (made : Result PoolState CommitFault) {answered : Result PoolState PoolFault} → answered ≡ of_committed made → (fault : PlanFault) → answered ≡ Err (Plan fault) → ⊥
no_plan-commit made same fault is = not_planned made fault (sym same ∙ is)
  where
    not_planned : (made : Result PoolState CommitFault) (fault : PlanFault) → of_committed made ≡ Err (Plan fault) → ⊥
    not_planned (Ok kept) fault is = absurd (cc)
    not_planned (Err (commits.Full need largest)) fault is = absurd (cc)
    not_planned (Err commits.DiskFault) fault is = absurd (cc)
    not_planned (Err commits.OutOfMemory) fault is = absurd (cc)

-- what a command on a head is refused for once it was opened
pub head_limits : (numbers indices : ℕ) (lists : Bool) (body : Body) (changed : Result (Unit {0}) (OrMemory ObjFault)) → ((fault : PlanFault) → of_change changed ≡ Err (Plan fault) → IsPast numbers indices fault)
    → (fault : PlanFault) → (of_change changed ≡ Err (Plan fault)) ⊎ IsLast body.uber.number fault → IsLimitOf numbers indices lists body fault
head_limits numbers indices lists body changed past fault (inl was) = inl (past fault was)
head_limits numbers indices lists body changed past fault (inr last) = inr (inr last)

-- what the plan of a snapshot is refused for
pub told_or_last : (numbers indices : ℕ) (lists : Bool) (body : Body) (fault : PlanFault) → (is_by_rows fault ≡ true) ⊎ IsLast body.uber.number fault → (is_by_rows fault ≡ true) ⊎ IsLimitOf numbers indices lists body fault
told_or_last numbers indices lists body fault (inl told) = inl told
told_or_last numbers indices lists body fault (inr last) = inr (inr (inr last))
