-- What is redacted of what was sent can't be read of what was received.
use Rattle.std.specs.Prelude.{◌+◌, bytes_eq, find, if◌then◌else◌, nat_lt}
use Rattle.std.proofs.Common.{◌≡◌, ◌⊎◌, inl, inr, ℕ, Bool, true, false, List, [], Option, Some, None, option_map, Result, Ok, Err, refl, sym, ap, ◌∙◌, subst}
use Rattle.zst_outside.specs.Images.{DiskState}
use Rattle.zst_image.specs.Bodies.{Body}
use Rattle.zst_dir.specs.Rows.{Rows}
use Rattle.zst_laws.proofs.pools.Lookups.{find-inserted_row}
use Rattle.zst_model.proofs.FoundElements.{none_passes}
use Rattle.zst_model.proofs.OrderLaws.{bytes_same}
use Rattle.zst_model.specs.declared.pools.command.Command.{Command}
use Rattle.zst_model.specs.declared.pools.command.Command.TheVariants.{Read}
use Rattle.zst_model.specs.declared.refusals.apply_fault.ApplyFault.TheVariants.{NoObject}
use Rattle.zst_model.specs.declared.refusals.faults.Quantity.TheVariants as quantities
use Rattle.zst_model.specs.declared.refusals.refusal.Refusal.{Refusal}
use Rattle.zst_model.specs.declared.refusals.refusal.Refusal.TheVariants as refusals
use Rattle.zst_model.specs.declared.refusals.subjects.Name.TheVariants as names
use Rattle.zst_model.specs.declared.sends.header.Header.{Header}
use Rattle.zst_model.specs.pools.KeptPool.{kept_of}
use Rattle.zst_model.specs.pools.Pool.{Pool, Snapshot, snapshot_is_before, snapshot_named}
use Rattle.zst_model.specs.pools.Step.{Stepped, block_read, cannot_apply, in_indices, no_such, or_else, stepped}
use Rattle.zst_model.specs.sends.Headers.{Sent, choice_of, header_of}
use Rattle.zst_model.specs.sends.Target.{redacted_object}
use Rattle.zst_model.specs.states.AppliedItems.{unless}
use Rattle.zst_model.specs.states.State.{Block, Data, Hole, Object, Redacted, State, index_bound}
use Rattle.zst_plan.specs.RecvPlan.{snapshot_name}
use Rattle.zst_replication.specs.Outcomes.{HasOneMore, base_name}
use Rattle.zst_replication.specs.Replicas.{sent_state}
use Rattle.zst_run.specs.Commands.{Answers}
use Rattle.zst_run.specs.Unreadable.{IsRedactedAt, IsUnreadable, IsWithheld, RedactedExactly, RedactedIsUnreadable}

-- ---- what is redacted

module _ (sent : Sent) (k i : ℕ) where
  abbrev pairs : ℕ → Bool
  pairs = (choice_of sent).redact k

  listed_or : (object : Object) → (redacted_object pairs object).blocks i ≡ Redacted → (pairs i ≡ true) ⊎ (object.blocks i ≡ Redacted)
  listed_or object is = go (pairs i) refl is
    where
      go : (t : Bool) → pairs i ≡ t → (if t then Redacted else object.blocks i) ≡ Redacted → (pairs i ≡ true) ⊎ (object.blocks i ≡ Redacted)
      go true listed block = inl listed
      go false listed block = inr block

  either_redacted : (object : Object) → (pairs i ≡ true) ⊎ (object.blocks i ≡ Redacted) → (redacted_object pairs object).blocks i ≡ Redacted
  either_redacted object why = go (pairs i) refl why
    where
      go : (t : Bool) → pairs i ≡ t → (pairs i ≡ true) ⊎ (object.blocks i ≡ Redacted) → (if t then Redacted else object.blocks i) ≡ Redacted
      go true listed why = refl
      go false listed (inl other) = absurd (let both : false ≡ true = sym listed ∙ other in cc both)
      go false listed (inr block) = block

  withheld_of : (was : Option Object) → sent.snapshot.objects.state k ≡ was → (object : Object) → option_map (redacted_object pairs) was ≡ Some object → object.blocks i ≡ Redacted → IsWithheld sent k i
  withheld_of None there object now block = absurd (cc now)
  withheld_of (Some old) there object now block =
      let same : redacted_object pairs old ≡ object = cc now in
      record { object = old; there = there; why = listed_or old (ap (λ (o : Object). o.blocks i) same ∙ block) }

  of_withheld : IsWithheld sent k i → IsRedactedAt (sent_state sent) k i
  of_withheld is = record { object = redacted_object pairs is.object; there = ap (option_map (redacted_object pairs)) is.there; block = either_redacted is.object is.why }

pub redacted_exactly : RedactedExactly
redacted_exactly sent k i = (λ is. withheld_of sent k i (sent.snapshot.objects.state k) refl is.object is.there is.block, λ is. of_withheld sent k i is)

-- ---- what is read

-- what `read` makes of a block of a state
abbrev read_of : Pool → State → ℕ → ℕ → Result Stepped Refusal
read_of pool state k i = or_else (cannot_apply NoObject) (state k) (λ object. block_read pool k i (object.blocks i))

read_named : (now : ℕ) (pool : Pool) (name : List ℕ) (k i : ℕ) (snapshot : Snapshot) → snapshot_named name pool ≡ Some snapshot
    → stepped [] now (Read (names.Snapshot name) k i) pool ≡ read_of pool snapshot.objects.state k i
unfolding stepped
read_named now pool name k i snapshot there =
    ap (λ (found : Option Snapshot). or_else (no_such (names.Snapshot name)) (option_map (λ s. s.objects) found) (λ snap. read_of pool snap.state k i)) there

-- a redacted block is refused, and no other is refused so
read_redacted : (pool : Pool) (state : State) (k i : ℕ) → IsRedactedAt state k i → read_of pool state k i ≡ Err (refusals.Redacted k i)
read_redacted pool state k i is =
    ap (λ (found : Option Object). or_else (cannot_apply NoObject) found (λ object. block_read pool k i (object.blocks i))) is.there
    ∙ ap (block_read pool k i) is.block

never_redacted : (k i : ℕ) (done : Stepped) → in_indices (i + 1) (Ok done) ≡ Err (refusals.Redacted k i) → ⊥
never_redacted k i done is = go (nat_lt index_bound (i + 1)) is
  where
    go : (t : Bool) → unless t (refusals.Limit quantities.Block index_bound) (Ok done) ≡ Err (refusals.Redacted k i) → ⊥
    go true e = absurd (cc e)
    go false e = absurd (cc e)

only_redacted : (pool : Pool) (state : State) (k i : ℕ) → read_of pool state k i ≡ Err (refusals.Redacted k i) → IsRedactedAt state k i
only_redacted pool state k i is = by (state k) refl is
  where
    at : (object : Object) → state k ≡ Some object → (block : Block) → object.blocks i ≡ block → block_read pool k i block ≡ Err (refusals.Redacted k i) → IsRedactedAt state k i
    at object there Redacted same refused = record { object = object; there = there; block = same }
    at object there Hole same refused = absurd (never_redacted k i _ refused)
    at object there (Data bytes) same refused = absurd (never_redacted k i _ refused)

    by : (found : Option Object) → state k ≡ found → or_else (cannot_apply NoObject) found (λ object. block_read pool k i (object.blocks i)) ≡ Err (refusals.Redacted k i) → IsRedactedAt state k i
    by None there refused = absurd (cc refused)
    by (Some object) there refused = at object there (object.blocks i) refl refused

-- ---- of what was received

-- the snapshot is there, by its name
pub there_by_name : (old new : Pool) (target component : List ℕ) (origin : Option (List ℕ)) (header : Header) (state : State) → (more : HasOneMore old new target component origin header state)
    → snapshot_named (snapshot_name target component) new ≡ Some more.snapshot
there_by_name old new target component origin header state more =
    let name = snapshot_name target component in
    ap (find (λ (s : Snapshot). bytes_eq s.name name)) more.added
    ∙ find-inserted_row (λ (s : Snapshot). bytes_eq s.name name) snapshot_is_before more.snapshot old.snapshots
    (none_passes (λ (s : Snapshot). bytes_eq s.name name) old.snapshots more.name_is_new) (bytes_same more.snapshot.name name more.name)

module _ (tight : Bool) (command : Command) (body : Body) (rows : Rows) (pool : Pool) (here later : DiskState) (k i : ℕ) where
  -- what the definition refuses so is refused so, unless the disk or the memory failed
  refused_so : (after : Result Stepped Refusal) (answer : Result (List (List ℕ)) Refusal) → after ≡ Err (refusals.Redacted k i) → Answers tight command body rows pool here later after answer → IsUnreadable k i answer
  refused_so after (Ok lines) is answers = absurd (let both : Ok answers.done ≡ Err (refusals.Redacted k i) = sym answers.accepts ∙ is in cc both)
  refused_so after (Err refusals.DiskFault) is answers = inr (inl refl)
  refused_so after (Err (refusals.Full need largest)) is answers = absurd (let both : Ok answers.0.done ≡ Err (refusals.Redacted k i) = sym answers.0.accepts ∙ is in cc both)
  refused_so after (Err refusals.OutOfMemory) is answers = inr (inr refl)
  refused_so after (Err refusal) is answers =
      let same : refusal ≡ refusals.Redacted k i = let told = answers.0 in cc (told, is) in inl (ap (λ (r : Refusal). Err r) same)

  -- and what is refused so the definition refuses so
  because_so : (after : Result Stepped Refusal) (answer : Result (List (List ℕ)) Refusal) → answer ≡ Err (refusals.Redacted k i) → Answers tight command body rows pool here later after answer → after ≡ Err (refusals.Redacted k i)
  because_so after answer is answers = (subst (λ (a : Result (List (List ℕ)) Refusal). Answers tight command body rows pool here later after a) is answers).0

pub redacted_is_unreadable : (there' later : DiskState) → RedactedIsUnreadable there' later
redacted_is_unreadable there' later tight receive into sent done now k i answer honest step =
    let name = snapshot_name receive.target done.component in
    let command = Read (names.Snapshot name) k i in
    let pool = kept_of done.after in
    let body = done.keeps.0 in
    let rows = done.keeps.1 in
    let there = there_by_name into pool receive.target done.component (base_name done.base) (header_of sent) (sent_state sent) done.more in
    let answers = step.answers tight body rows pool honest done.keeps.2.reads in
    let reads : stepped [] now command pool ≡ read_of pool (sent_state sent) k i =
    read_named now pool name k i done.more.snapshot there ∙ ap (λ (state : State). read_of pool state k i) done.more.state_is in (
      λ is. refused_so tight command body rows pool there' later k i (stepped [] now command pool) answer (reads ∙ read_redacted pool (sent_state sent) k i (of_withheld sent k i is)) answers,
      λ is. let refused = because_so tight command body rows pool there' later k i (stepped [] now command pool) answer is answers in
          (redacted_exactly sent k i).0 (only_redacted pool (sent_state sent) k i (sym reads ∙ refused)),
    )
