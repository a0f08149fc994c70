-- What a step of a pool made of it, as one that is open.
use Rattle.std.specs.Prelude.{◌≢◌, ◌⊎◌, ◌||◌, IsTrue, find, not, OnErr, OnOk}
use Rattle.std.proofs.Common.{◌≡◌, ◌<◌, ◌≤◌, inl, inr, ℕ, Bool, true, false, cond, List, [], ◌∷◌, filter, Option, Some, None, Result, Ok, Err, bytes_eq, refl, sym, ap, ◌∙◌, subst, ⊎_elim}
use Rattle.zst_outside.specs.Images.{Leaves, Leaves-none, Leaves-weaker}
use Rattle.zst_outside.specs.declared.disk.Disk.{Ghosts}
use Rattle.zst_block.specs.Blocks.{KeepsBlocks}
use Rattle.zst_block.specs.IoStates.{IsHonest, disk_of}
use Rattle.zst_dir.specs.Rows.{IsLawful, Rows, is_for}
use Rattle.zst_dir.specs.declared.rows.Partial.{Partial}
use Rattle.zst_image.proofs.Growth.{HasItsExtents-kept}
use Rattle.zst_image.specs.Bodies.{free_by}
use Rattle.zst_image.specs.Commits.{HasItsExtents, Ready}
use Rattle.zst_image.specs.Reads.{Reads}
use Rattle.zst_image.specs.declared.pool_state.PoolState.{PoolState}
use Rattle.zst_model.proofs.OrderLaws.{same_bytes}
use Rattle.zst_model.specs.declared.pools.command.Command.{Command}
use Rattle.zst_model.specs.declared.pools.command.Command.TheVariants as commands
use Rattle.zst_model.specs.declared.refusals.refusal.Refusal.{Refusal}
use Rattle.zst_model.specs.declared.refusals.refusal.Refusal.TheVariants as refusals
use Rattle.zst_model.specs.pools.KeptPool.{kept_of}
use Rattle.zst_model.specs.pools.Pool.{Pool as Plain}
use Rattle.zst_model.specs.pools.Sessions.{Held, busy_session, unless_busy}
use Rattle.zst_model.specs.pools.Step.{Stepped, commits, stepped}
use Rattle.zst_model.specs.refusals.Refusal.{refusal_of}
use Rattle.zst_pool.specs.Calls.{IsAtRest}
use Rattle.zst_pool.specs.Events.{Settles, StepDid}
use Rattle.zst_pool.specs.Cost.{Spends, cost_of}
use Rattle.zst_pool.specs.Faults.{is_disk_fault, pool_refusal}
use Rattle.zst_pool.specs.PartialRows.{rows_after}
use Rattle.zst_pool.specs.Reclaims.{FindsAllReached, HeldStand, Reclaims}
use Rattle.zst_pool.specs.StepAnswers.{BeforeOrAfter, StepAnswer}
use Rattle.zst_pool.specs.declared.fault.PoolFault.{PoolFault}
use Rattle.zst_pool.specs.declared.fault.PoolFault.TheVariants as faults
use Rattle.zst_pool.specs.declared.pool.Pool.{Pool}
use Rattle.zst_roots.specs.declared.held.HeldBlocks.{HeldBlocks}
use Rattle.zst_sessions.proofs.PoolRefusals.{fault_of_full}
use Rattle.zst_sessions.specs.BusySessions.{SessionsComeFirst, busy_for}
use Rattle.zst_sessions.specs.CommandSteps.{GivesUp, StepEnds, Accepts, Refuses, LacksRoom, LacksMemory, Loses, StepsPool, made_of, pool_after, pool_told}
use Rattle.zst_sessions.specs.EngineSteps.{KeepsHeld, KeepsSessions, LeavesRows, kept_pool}
use Rattle.zst_sessions.specs.Engines.{Kept, PoolStands}
use Rattle.zst_sessions.specs.FullPools.{CommandIsShort, StepIsShort}
use Rattle.zst_sessions.specs.LostDisks.{ReadsAsOne}
use Rattle.zst_sessions.specs.Moves.{Answer}
use Rattle.zst_sessions.specs.World.{OpenPool}

-- ---- rows

-- among rows without those of a target another's is found as before, and none of the target
module _ (target : List ℕ) where
  others_found : (other : List ℕ) → bytes_eq other target ≡ false → (rows : List Partial) → find (is_for other) (filter (λ row. not (is_for target row)) rows) ≡ find (is_for other) rows
  others_found other apart [] = refl
  others_found other apart (x ∷ rows) = go (bytes_eq x.target target) (bytes_eq x.target other) refl refl (others_found other apart rows)
    where
      go : (t o : Bool) → bytes_eq x.target target ≡ t → bytes_eq x.target other ≡ o → find (is_for other) (filter (λ row. not (is_for target row)) rows) ≡ find (is_for other) rows
          → find (is_for other) (cond (not t) (x ∷ filter (λ row. not (is_for target row)) rows) (filter (λ row. not (is_for target row)) rows)) ≡ cond o (Some x) (find (is_for other) rows)
      go true true is also rest = absurd (let same : bytes_eq other target ≡ true = ap (λ (n : List ℕ). bytes_eq n target) (sym (same_bytes x.target other also)) ∙ is in cc (same, apart))
      go true false is also rest = rest
      go false o is also rest = ap (λ (b : Bool). cond b (Some x) (find (is_for other) (filter (λ row. not (is_for target row)) rows))) also ∙ ap (λ (f : Option Partial). cond o (Some x) f) rest

  none_left : (rows : List Partial) → find (is_for target) rows ≡ None → find (is_for target) (filter (λ row. not (is_for target row)) rows) ≡ None
  none_left [] none = refl
  none_left (x ∷ rows) none = go (bytes_eq x.target target) refl none (none_left rows)
    where
      go : (t : Bool) → bytes_eq x.target target ≡ t → cond t (Some x) (find (is_for target) rows) ≡ None
          → (find (is_for target) rows ≡ None → find (is_for target) (filter (λ row. not (is_for target row)) rows) ≡ None)
          → find (is_for target) (cond (not t) (x ∷ filter (λ row. not (is_for target row)) rows) (filter (λ row. not (is_for target row)) rows)) ≡ None
      go true is some on = absurd (cc some)
      go false is rest on = ap (λ (b : Bool). cond b (Some x) (find (is_for target) (filter (λ row. not (is_for target row)) rows))) is ∙ on rest

-- a command leaves the rows of the partial states that it doesn't give up
rows_left : (holder : Option ℕ) → holder ≡ None → (command : Command) (rows : Rows) (target : List ℕ) → ¬ (GivesUp holder command rows target) → find (is_for target) (rows_after command rows.partials) ≡ find (is_for target) rows.partials
rows_left holder free (commands.Abort given) rows target stays = go (bytes_eq target given) refl (find (is_for target) rows.partials) refl
  where
    goes : find (is_for target) rows.partials ≢ None → target ≡ given → ⊥
    goes there same = stays (free, ap (λ (n : List ℕ). commands.Abort n) (sym same), there)

    go : (b : Bool) → bytes_eq target given ≡ b → (found : Option Partial) → find (is_for target) rows.partials ≡ found
        → find (is_for target) (filter (λ row. not (is_for given row)) rows.partials) ≡ find (is_for target) rows.partials
    go false apart found is = others_found given target apart rows.partials
    go true same None is =
        let one : target ≡ given = same_bytes target given same in
        subst (λ (n : List ℕ). find (is_for target) (filter (λ row. not (is_for n row)) rows.partials) ≡ find (is_for target) rows.partials) one (none_left target rows.partials is ∙ sym is)
    go true same (Some row) is = absurd (goes (λ none. cc (is, none)) (same_bytes target given same))
rows_left holder free (commands.Fs dataset) rows target stays = refl
rows_left holder free (commands.Volume dataset) rows target stays = refl
rows_left holder free (commands.Object dataset k head bonus spill) rows target stays = refl
rows_left holder free (commands.Write dataset k i bytes) rows target stays = refl
rows_left holder free (commands.Punch dataset k first count) rows target stays = refl
rows_left holder free (commands.Free dataset first count) rows target stays = refl
rows_left holder free (commands.Snapshot name) rows target stays = refl
rows_left holder free (commands.Clone origin dataset) rows target stays = refl
rows_left holder free (commands.Bookmark snapshot bookmark) rows target stays = refl
rows_left holder free (commands.Redact snapshot bookmark redactions) rows target stays = refl
rows_left holder free (commands.Rollback destroys name) rows target stays = refl
rows_left holder free (commands.Destroy name) rows target stays = refl
rows_left holder free commands.Reclaim rows target stays = refl
rows_left holder free (commands.Read name k i) rows target stays = refl
rows_left holder free commands.List rows target stays = refl
rows_left holder free (commands.ListObjects name) rows target stays = refl

-- ---- a pool that nothing was made of

-- its sessions are kept
module _ (own : List ℕ → Type 0) (kept : Kept) (ready : kept.failed ≡ false → Ready kept.disk kept.state.body) (lawful : IsLawful kept.state.dir) where
  stays_left : LeavesRows own kept kept
  stays_left = record { mark = λ works. works; ready = ready; lawful = lawful; rows = λ target other. refl }

  pub stays_kept : KeepsSessions own kept kept
  stays_kept = record { leaves = stays_left; blocks = λ works ptr bytes has. has; extents = λ works has. has }

  pub stays_held : (held : List HeldBlocks) → KeepsHeld own held kept kept
  stays_held held = record {
    leaves = stays_left;
    blocks = λ honest works. record { over = free_by kept.state.body; more = λ sector free. free; unreached = λ sector reached free. free; blocks = λ ptr bytes has. has };
  }

-- a command that ended so and left the pool as it was
pub stays_stepped : (command : Command) (definition : Result Stepped Refusal) (opened : OpenPool) (kept : Kept) (answer : Answer) → PoolStands true kept opened → StepEnds command definition opened answer opened → StepsPool command definition opened kept kept answer
stays_stepped command definition opened kept answer stands ends = record {
  next = opened;
  ends = ends;
  stands = stands;
  moments = Leaves-none kept.disk (λ c. Reads true (kept_of opened.pool) c ⊎ Reads true (kept_of (made_of opened definition)) c);
}

-- a command in whose way a session is
pub busy_stepped : SessionsComeFirst → (now : ℕ) (command : Command) (held : List Held) (opened : OpenPool) (kept : Kept) (session : ℕ) → opened.failed ≡ false → PoolStands true kept opened
    → Some session ≡ busy_for held command opened.pool → StepsPool command (stepped held now command opened.pool) opened kept kept (Err (busy_session session))
busy_stepped first now command held opened kept session works stands is =
    let refused_is : stepped held now command opened.pool ≡ Err (busy_session session) =
    first held now command opened.pool ∙ ap (λ (o : Option ℕ). unless_busy o (stepped [] now command opened.pool)) (sym is) in
    stays_stepped command (stepped held now command opened.pool) opened kept (Err (busy_session session)) stands (Refuses works (busy_session session) refused_is refl refl)

-- a command is a reclaim, or another
is_reclaim : (command : Command) → (command ≡ commands.Reclaim) ⊎ (command ≢ commands.Reclaim)
is_reclaim commands.Reclaim = inl refl
is_reclaim command = inr (λ is. absurd (cc is))

-- a step in which the disk failed answers so
pub fell_told : (told : Result (List (List ℕ)) PoolFault) → is_disk_fault told ≡ true → pool_told told ≡ Err refusals.DiskFault
fell_told (Ok reply) fell = absurd (cc)
fell_told (Err (faults.Plan fault)) fell = absurd (cc)
fell_told (Err (faults.CannotApply fault)) fell = absurd (cc)
fell_told (Err (faults.Redacted object block)) fell = absurd (cc)
fell_told (Err (faults.Full need largest)) fell = absurd (cc)
fell_told (Err (faults.Damaged sector stated found)) fell = absurd (cc)
fell_told (Err faults.DiskFault) fell = refl
fell_told (Err faults.Failed) fell = absurd (cc)
fell_told (Err faults.OutOfMemory) fell = absurd (cc)

-- and one that found no room answers so
full_told : (told : Result (List (List ℕ)) PoolFault) (need largest : ℕ) → pool_told told ≡ Err (refusals.Full need largest) → told ≡ Err (faults.Full need largest)
full_told (Ok reply) need largest is = absurd (cc)
full_told (Err fault) need largest is = let same : pool_refusal fault ≡ refusals.Full need largest = cc in ap err (fault_of_full fault need largest same)
  where
    err : PoolFault → Result (List (List ℕ)) PoolFault
    err f = Err f

module _ {D : Type 0} {g : Ghosts D} (old new : Pool D g) where
  -- what a command that is no reclaim took, where it found no room
  spent : (command : Command) (answer : Result (List (List ℕ)) PoolFault)
      → (block : ℕ) × (block ≤ (cost_of command).most) × Spends (cost_of command).cells block (cost_of command).most_list old.kept new.io.space (λ reply. new.kept) answer
      → (need largest : ℕ) → answer ≡ Err (faults.Full need largest) → CommandIsShort command old.kept new.io.space need largest
  spent command (Ok reply) spends need largest is = absurd (cc is)
  spent command (Err fault) spends need largest is = let fell : fault ≡ faults.Full need largest = cc is in record { block = spends.0; most = spends.1; short = spends.2.full need largest fell }

  -- and what a reclaim found
  starved : (blocks : List HeldBlocks) (answer : Result (List (List ℕ)) PoolFault) → Reclaims blocks (disk_of old.io) (disk_of new.io) old.kept new.kept new.io.space answer
      → (need largest : ℕ) → answer ≡ Err (faults.Full need largest) → FindsAllReached (disk_of old.io).seen old.kept blocks new.io.space need largest
  starved blocks (Ok reply) reclaims need largest is = absurd (cc is)
  starved blocks (Err fault) reclaims need largest is = let fell : fault ≡ faults.Full need largest = cc is in reclaims.full need largest fell

  -- so E24 of a step tells what it found, whatever the image is
  pub step_full : (now : ℕ) (command : Command) (blocks : List HeldBlocks) (told : Result (List (List ℕ)) PoolFault) → StepDid now command blocks old new told
      → ((need largest : ℕ) → told ≡ Err (faults.Full need largest) → commits command ≡ true) → old.io.failed ≡ false
      → (need largest : ℕ) → pool_told told ≡ Err (refusals.Full need largest) → StepIsShort command blocks (kept_pool old) (kept_pool new) new.io.space need largest
  step_full now command blocks told did room works need largest is =
      let same = full_told told need largest is in
      record {
        commits = room need largest same;
        runs = λ other. spent command told (did.spends other works) need largest same;
        reclaims = λ one honest. starved blocks told (did.reclaims one honest works) need largest same;
      }

  -- where the disk works after a step, it worked before, and didn't fail in it
  worked : (told : Result (List (List ℕ)) PoolFault) → new.io.failed ≡ (old.io.failed || is_disk_fault told) → new.io.failed ≡ false → (old.io.failed ≡ false) × (¬ (told ≡ Err faults.DiskFault))
  worked told failed works =
      let neither = sym failed ∙ works in
      (first old.io.failed (is_disk_fault told) neither, λ fell. second old.io.failed (is_disk_fault told) neither (ap (λ (r : Result (List (List ℕ)) PoolFault). is_disk_fault r) fell))
    where
      first : (a b : Bool) → (a || b) ≡ false → a ≡ false
      first true b is = is
      first false b is = refl

      second : (a b : Bool) → (a || b) ≡ false → b ≡ true → ⊥
      second true b is also = cc is
      second false b is also = cc (is, also)

  module _ (now : ℕ) (command : Command) (held : List HeldBlocks) (holder : Option ℕ) (told : Result (List (List ℕ)) PoolFault) (did : StepDid now command held old new told) (settles : Settles old new told)
      (free : holder ≡ None) (lawful : IsLawful new.kept.dir) (partials : OnOk told (new.kept.dir.partials ≡ rows_after command old.kept.dir.partials)) where
    -- the rows stay, but for that of the partial state that a step gives up
    step_leaves : LeavesRows (GivesUp holder command old.kept.dir) (kept_pool old) (kept_pool new)
    step_leaves = record { mark = λ works. (worked told settles.failed works).0; ready = settles.ready; lawful = lawful; rows = rows_by told partials settles.stays }
      where
        rows_by : (answer : Result (List (List ℕ)) PoolFault) → OnOk answer (new.kept.dir.partials ≡ rows_after command old.kept.dir.partials) → OnErr answer (new.kept ≡ old.kept)
            → (target : List ℕ) → ¬ (GivesUp holder command old.kept.dir target) → find (is_for target) new.kept.dir.partials ≡ find (is_for target) old.kept.dir.partials
        rows_by (Ok reply) left stays target other = ap (λ (rows : List Partial). find (is_for target) rows) left ∙ rows_left holder free command old.kept.dir target other
        rows_by (Err fault) left stays target other = ap (λ (kept : PoolState). find (is_for target) kept.dir.partials) stays

    -- so all sessions of a pool are kept by a command that is no reclaim
    pub step_keeps : command ≢ commands.Reclaim → KeepsSessions (GivesUp holder command old.kept.dir) (kept_pool old) (kept_pool new)
    step_keeps other = record {
      leaves = step_leaves;
      blocks = λ works. did.blocks other (worked told settles.failed works).1;
      extents = λ works. extents_by told settles.extents settles.stays (did.blocks other (worked told settles.failed works).1);
    }
      where
        -- after a refusal what is kept is as it was, and so are the blocks in which its extents stand
        extents_by : (answer : Result (List (List ℕ)) PoolFault) → OnOk answer (HasItsExtents (disk_of old.io) old.kept.body → HasItsExtents (disk_of new.io) new.kept.body) → OnErr answer (new.kept ≡ old.kept)
            → KeepsBlocks (disk_of old.io).seen (free_by old.kept.body) (disk_of new.io).seen (free_by new.kept.body) → HasItsExtents (disk_of old.io) old.kept.body → HasItsExtents (disk_of new.io) new.kept.body
        extents_by (Ok reply) hands stays blocks has = hands has
        extents_by (Err fault) hands stays blocks has =
            subst (λ (kept : PoolState). HasItsExtents (disk_of new.io) kept.body) (sym stays)
            (HasItsExtents-kept (disk_of old.io) (disk_of new.io) old.kept.body
            (subst (λ (kept : PoolState). KeepsBlocks (disk_of old.io).seen (free_by old.kept.body) (disk_of new.io).seen (free_by kept.body)) stays blocks) has)

    -- and by each those that are told to it
    pub step_held : KeepsHeld (GivesUp holder command old.kept.dir) held (kept_pool old) (kept_pool new)
    step_held = record { leaves = step_leaves; blocks = λ honest works. did.spared honest (worked told settles.failed works).1 }

  -- ---- by its answer
  module _ (command : Command) (definition : Result Stepped Refusal) (opened : OpenPool) (works : old.io.failed ≡ false) (is_open : opened.failed ≡ false) (ready : new.io.failed ≡ false → Ready (disk_of new.io) new.kept.body)
      (moments : Leaves (disk_of old.io) (disk_of new.io) (BeforeOrAfter true opened.pool definition)) where
    -- what is made of a pool whose disk works
    made_is : made_of opened definition ≡ pool_after opened.pool definition
    made_is = ap (λ (b : Bool). cond b opened.pool (pool_after opened.pool definition)) is_open

    abbrev BeforeOrMade : List ℕ → Type 0
    BeforeOrMade c = Reads true (kept_of opened.pool) c ⊎ Reads true (kept_of (made_of opened definition)) c

    each_moment : Leaves (disk_of old.io) (disk_of new.io) BeforeOrMade
    each_moment =
        Leaves-weaker (disk_of old.io) (disk_of new.io) (BeforeOrAfter true opened.pool definition) BeforeOrMade moments
        (λ c is. ⊎_elim (λ before. inl before)
        (λ after. let made : made_of opened definition ≡ after.0.pool = made_is ∙ ap (λ (d : Result Stepped Refusal). pool_after opened.pool d) after.1 in inr (subst (λ (p : Plain). Reads true (kept_of p) c) (sym made) after.2)) is)

    standing : (pool : Plain) → IsAtRest true (disk_of new.io) new.kept pool → new.io.failed ≡ false → PoolStands true (kept_pool new) (record { pool = pool; failed = false })
    standing pool rest still = record { mark = still; rests = λ w. rest; ready = ready; lost = λ fell. absurd (cc (fell, still)) }

    -- it left the pool as it was
    unmoved : (answer : Answer) → StepEnds command definition opened answer opened → IsAtRest true (disk_of new.io) new.kept opened.pool → new.io.failed ≡ false → StepsPool command definition opened (kept_pool old) (kept_pool new) answer
    unmoved answer ends rest still = record {
      next = opened;
      ends = ends;
      stands = subst (PoolStands true (kept_pool new)) (ap (λ (b : Bool). as_open b) (sym is_open)) (standing opened.pool rest still);
      moments = each_moment;
    }
      where
        as_open : Bool → OpenPool
        as_open failed = record { pool = opened.pool; failed = failed }

    -- or its disk failed
    loses : (pool : Plain) → (pool ≡ opened.pool) ⊎ (pool ≡ made_of opened definition) → Reads true (kept_of pool) (disk_of new.io).seen → new.io.failed ≡ true
        → StepsPool command definition opened (kept_pool old) (kept_pool new) (Err refusals.DiskFault)
    loses pool one reads fell = record {
      next = record { pool = pool; failed = true };
      ends = Loses refl pool one refl;
      stands = record { mark = fell; rests = λ w. absurd (cc (w, fell)); ready = λ w. absurd (cc (w, fell)); lost = λ f tells. reads };
      moments = each_moment;
    }

    abbrev accepted : List (List ℕ) → Answer
    accepted reply = Ok reply

    pub by_answer : (told : Result (List (List ℕ)) PoolFault) → new.io.failed ≡ (old.io.failed || is_disk_fault told) → StepAnswer true (disk_of new.io) new.kept opened.pool definition told
        → ((need largest : ℕ) → told ≡ Err (faults.Full need largest) → (largest < need) × (commits command ≡ true)) → ¬ (told ≡ Err faults.Failed)
        → ReadsAsOne true (kept_of opened.pool) (kept_of (pool_after opened.pool definition)) (disk_of new.io).seen → StepsPool command definition opened (kept_pool old) (kept_pool new) (pool_told told)
    by_answer (Ok reply) failed answer full alive seen = record {
      next = record { pool = answer.0.pool; failed = false };
      ends = Accepts is_open answer.0 answer.1 (ap accepted answer.2) refl;
      stands = standing answer.0.pool answer.3 (failed ∙ ap (λ (b : Bool). b || false) works);
      moments = each_moment;
    }
    by_answer (Err (faults.Plan fault)) failed answer full alive seen =
        unmoved (Err (refusal_of fault)) (Refuses is_open (refusal_of fault) answer.0 refl refl) answer.1 (failed ∙ ap (λ (b : Bool). b || false) works)
    by_answer (Err (faults.CannotApply fault)) failed answer full alive seen =
        unmoved (Err (refusals.CannotApply 0 fault)) (Refuses is_open (refusals.CannotApply 0 fault) answer.0 refl refl) answer.1 (failed ∙ ap (λ (b : Bool). b || false) works)
    by_answer (Err (faults.Redacted object block)) failed answer full alive seen =
        unmoved (Err (refusals.Redacted object block)) (Refuses is_open (refusals.Redacted object block) answer.0 refl refl) answer.1 (failed ∙ ap (λ (b : Bool). b || false) works)
    by_answer (Err (faults.Full need largest)) failed answer full alive seen =
        let both = full need largest refl in
        unmoved (Err (refusals.Full need largest)) (LacksRoom need largest refl both.0 both.1 refl) answer.1 (failed ∙ ap (λ (b : Bool). b || false) works)
    by_answer (Err (faults.Damaged sector stated found)) failed answer full alive seen = absurd answer
    by_answer (Err faults.DiskFault) failed answer full alive seen =
        let fell : new.io.failed ≡ true = failed ∙ ap (λ (b : Bool). b || true) works in
        ⊎_elim (λ before. loses opened.pool (inl refl) before fell)
        (λ after. loses (made_of opened definition) (inr refl) (subst (λ (p : Plain). Reads true (kept_of p) (disk_of new.io).seen) (sym made_is) after) fell) seen
    by_answer (Err faults.Failed) failed answer full alive seen = absurd (alive refl)
    by_answer (Err faults.OutOfMemory) failed answer full alive seen = unmoved (Err refusals.OutOfMemory) (LacksMemory refl refl) answer (failed ∙ ap (λ (b : Bool). b || false) works)

  -- What a step made of a pool, where no session is in the command's way: beside what is held it is what the definition makes.
  pub step_stepped : SessionsComeFirst
      → ((tight : Bool) (before after : Plain) (was is : D) → Leaves (g.state was) (g.state is) (ReadsAsOne tight before after) → ((c : List ℕ) → (g.state was).images c → Reads tight before c) → IsTrue g.tells_images → ReadsAsOne tight before after (g.state is).seen)
      → (now : ℕ) (command : Command) (blocks : List HeldBlocks) (told : Result (List (List ℕ)) PoolFault) → StepDid now command blocks old new told → Settles old new told
      → ((need largest : ℕ) → told ≡ Err (faults.Full need largest) → commits command ≡ true) → old.io.failed ≡ false → HeldStand (disk_of old.io) old.kept.body blocks
      → (held : List Held) (opened : OpenPool) → IsHonest new.io → IsTrue g.tells_images → PoolStands true (kept_pool old) opened → None ≡ busy_for held command opened.pool
      → StepsPool command (stepped held now command opened.pool) opened (kept_pool old) (kept_pool new) (pool_told told)
  step_stepped first lost now command blocks told did settles room works stand held opened honest tells stands free =
      let alone = stepped [] now command opened.pool in
      let rested = stands.rests works in
      let moments = did.moments true opened.pool honest rested in
      let beside : stepped held now command opened.pool ≡ alone = first held now command opened.pool ∙ ap (λ (o : Option ℕ). unless_busy o alone) (sym free) in
      let seen = lost true (kept_of opened.pool) (kept_of (pool_after opened.pool alone)) old.io.disk.now new.io.disk.now (as_one opened alone moments) (λ c image. (old.kept.body, rested.rows, rested.rests.each c image)) tells in
      subst (λ (definition : Result Stepped Refusal). StepsPool command definition opened (kept_pool old) (kept_pool new) (pool_told told)) (sym beside)
      (by_answer command alone opened works (sym stands.mark ∙ works) settles.ready moments told settles.failed (did.answer true opened.pool honest works rested stand)
      (λ need largest is.
      (⊎_elim (λ one. (starved blocks told (did.reclaims one honest works) need largest is).full_after.shorter) (λ other. (spent command told (did.spends other works) need largest is).short.shorter) (is_reclaim command), room need largest is))
      (did.open_still works) seen)
    where
      as_one : (opened : OpenPool) (alone : Result Stepped Refusal) → Leaves (disk_of old.io) (disk_of new.io) (BeforeOrAfter true opened.pool alone)
          → Leaves (disk_of old.io) (disk_of new.io) (ReadsAsOne true (kept_of opened.pool) (kept_of (pool_after opened.pool alone)))
      as_one opened alone moments =
          Leaves-weaker (disk_of old.io) (disk_of new.io) (BeforeOrAfter true opened.pool alone) (ReadsAsOne true (kept_of opened.pool) (kept_of (pool_after opened.pool alone))) moments
          (λ c is. ⊎_elim (λ before. inl before)
          (λ after. inr (subst (λ (p : Plain). Reads true (kept_of p) c) (sym (ap (λ (d : Result Stepped Refusal). pool_after opened.pool d) after.1)) after.2)) is)
