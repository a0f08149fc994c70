-- What a source of a sound pool remembers, and that it is fit as a base.
use Rattle.std.proofs.Common.{◌≡◌, inl, inr, ℕ, ◌^◌, ◌<◌, List, Option, Some, None, Contains, refl, subst, sym, ◌∙◌}
use Rattle.std.proofs.lemmas.List.Elements.{All-contains}
use Rattle.zst_model.specs.fields.Guids.{IsGuidSet}
use Rattle.zst_model.specs.declared.pools.command.Command.TheVariants as commands
use Rattle.zst_model.specs.states.State.{State, IsState}
use Rattle.zst_model.specs.states.DatedState.{DatedState}
use Rattle.zst_model.specs.pools.Pool.{Pool, Snapshot, Partial, IsPool, IsKind, dataset_of_snapshot, snapshot_is_before, IsGuid, IsStated}
use Rattle.zst_model.specs.pools.Ancestry.{Source, OfSnapshot, dataset_of_source, number_of_source, IsIn, Marks, IsBelow, StandsBefore, Earlier, AtOrigin, BeforeOrigin, IsBeforeClone, IsBeforePartial, InDataset, InPartial, Place, IsBefore}
use Rattle.zst_model.specs.pools.Rows.{Row}
use Rattle.zst_model.specs.pools.Soundness.{Agrees, Sound}
use Rattle.zst_model.specs.pools.Step.{stepped, snapshot_of}
use Rattle.zst_model.proofs.InsertedLaws.{inserted_has_row}
use Rattle.zst_model.specs.sends.Target.{Remembers}
use Rattle.zst_laws.specs.RememberedStates.{IsOwn, SourceRemembers, OwnIsRemembered, TakenRemembers, RememberedIsBase, SourcesAreBases, HistoryIsBase, Leads, Stays, Steps}
use Rattle.zst_laws.proofs.histories.Dates.{remembered_itself}
use Rattle.zst_laws.proofs.sends.ViewLaws.{before_base}
use Rattle.zst_laws.proofs.pools.Ancestry.{marks_dataset, marks_number}
use Rattle.zst_laws.proofs.pools.Descent.{same_snapshot, IsRow, SnapshotRow, HeadRow, PartialRow, row_cases}
use Rattle.zst_laws.proofs.pools.AcceptedCommands.{with_snapshot_ok}
use Rattle.zst_laws.proofs.pools.Rows.{committed_ok}
use Rattle.zst_laws.proofs.pools.SoundSteps.{steps_sound, steps_remember}
use Rattle.zst_laws.proofs.pools.LawfulPools.{steps_keep_lawful}

module _ (pool : Pool) (source : Source) (own : Snapshot) (sound : Sound pool) (there : Contains pool.snapshots own) (is : IsOwn source own) where
  one_own : (other : Snapshot) → Contains pool.snapshots other → dataset_of_source source ≡ dataset_of_snapshot other → number_of_source source ≡ other.number → own ≡ other
  one_own other here of same = same_snapshot pool.snapshots sound.dated.rise own other there here (sym is.dataset ∙ of) (sym is.number ∙ same)

  own_marks : (marked : Snapshot) → Contains pool.snapshots marked → Marks source marked → own ≡ marked
  own_marks marked here marks = one_own marked here (marks_dataset source marked marks) (marks_number source marked marks)

  own_below : (bound : Option ℕ) → IsBelow (number_of_source source) bound → IsBelow own.number bound
  own_below bound below = subst (λ n. IsBelow n bound) is.number below

  -- the own snapshot stands before all that the source does
  pub own_before : (name : List ℕ) (bound : Option ℕ) → StandsBefore pool source name bound → StandsBefore pool (OfSnapshot own) name bound
  own_before name bound (Earlier _ _ same below) = Earlier name bound (sym is.dataset ∙ same) (own_below bound below)
  own_before name bound (AtOrigin _ _ origin origins marks) = AtOrigin name bound origin origins (own_marks origin origins.snapshot_there marks)
  own_before name bound (BeforeOrigin _ _ origin origins before) = BeforeOrigin name bound origin origins (own_before (dataset_of_snapshot origin) (Some origin.number) before)

  own_before_clone : (partial : Partial) → IsBeforeClone pool source partial → IsBeforeClone pool (OfSnapshot own) partial
  own_before_clone partial clone = record {
    base = clone.base;
    is_base = clone.is_base;
    before = elim clone.before [
      | inl marks ↦ inl (own_marks clone.base clone.is_base.there marks)
      | inr before ↦ inr (own_before (dataset_of_snapshot clone.base) (Some clone.base.number) before)
    ];
  }

  own_before_partial : (partial : Partial) → IsBeforePartial pool source partial → IsBeforePartial pool (OfSnapshot own) partial
  own_before_partial partial (inl h) = inl (record { target = h.target; before = own_before partial.target None h.before })
  own_before_partial partial (inr h) = inr (tt, own_before_clone partial h.1)

  own_before_place : (place : Place) → IsBefore pool source place → IsBefore pool (OfSnapshot own) place
  own_before_place (InDataset name bound) before = own_before name bound before
  own_before_place (InPartial partial) before = own_before_partial partial before

-- a state remembers each snapshot that agrees with it
agrees_remembers : (earlier : Snapshot) (later : DatedState) → Agrees earlier later → Remembers later earlier.number earlier.objects.state
agrees_remembers earlier later h = record { numbers = h.numbers; indices = h.indices }

pub own_remembered : OwnIsRemembered
own_remembered pool source own sound there is = record {
  own = λ snapshot here other.
      subst (λ s. Remembers s.objects (number_of_source source) own.objects.state) (one_own pool source own sound there is snapshot here other.dataset other.number)
      (remembered_itself own.objects (number_of_source source));
  later = λ row here before.
      subst (λ n. Remembers row.objects n own.objects.state) (sym is.number)
      (agrees_remembers own row.objects (sound.agree own row there here (own_before_place pool source own sound there is row.place before)));
}

-- the rows of a lawful pool have lawful states
pub row_is_state : (pool : Pool) → IsPool pool → (row : Row) → IsRow pool row → IsState row.objects.state
row_is_state pool is row (SnapshotRow snapshot there) = (All-contains (λ s. IsGuid s.guid × IsGuidSet s.redact × IsState s.objects.state × (s.time < 2 ^ 64)) pool.snapshots snapshot is.snapshots there).2
row_is_state pool is row (HeadRow dataset there) = (All-contains (λ d. IsKind d.kind × IsGuidSet d.redact × IsState d.head.state) pool.datasets dataset is.datasets there).2
row_is_state pool is row (PartialRow partial there) = (All-contains (λ p. IsStated p.header × IsState p.objects.state) pool.partials partial is.partials there).1

pub remembered_base : RememberedIsBase
remembered_base pool source state row listed redact is lawful h there before =
    before_base state row.objects (number_of_source source) listed redact lawful (row_is_state pool is row (row_cases pool row there)) (h.later row there before)

pub sources_bases : SourcesAreBases
sources_bases pool source own row listed redact is sound here of there before =
    let lawful = All-contains (λ s. IsGuid s.guid × IsGuidSet s.redact × IsState s.objects.state × (s.time < 2 ^ 64)) pool.snapshots own is.snapshots here in
    remembered_base pool source own.objects.state row listed redact is lawful.2 (own_remembered pool source own sound here of) there before

pub taken_remembers : TakenRemembers
unfolding stepped
taken_remembers held now name pool after words is sound h =
    let new = with_snapshot_ok now name pool after h in
    let row = snapshot_of now name pool new.dataset in
    let there : Contains after.pool.snapshots row =
    subst (λ s. Contains s.pool.snapshots row) (committed_ok _ after new.made).1 (inserted_has_row snapshot_is_before row pool.snapshots) in
    (row, there, refl, own_remembered after.pool (OfSnapshot row) row (steps_sound held now (commands.Snapshot name) pool after words is sound h) there (record { dataset = refl; number = refl }))

-- what commands keep while a source stands: a lawful, sound pool, in which the source is and remembers the state
record IsKept (source : Source) (state : State) (pool : Pool) : Type 0 where
  lawful : IsPool pool
  sound : Sound pool
  here : IsIn pool source
  remembers : SourceRemembers pool source state

kept_on : (source : Source) (state : State) (pool last : Pool) → Leads source pool last → IsKept source state pool → IsKept source state last
kept_on source state pool last (Stays _) kept = kept
kept_on source state pool last (Steps held now command _ after _ words fits made here rest) kept = kept_on source state after.pool last rest (record {
  lawful = steps_keep_lawful held now command pool after words fits kept.lawful made;
  sound = steps_sound held now command pool after words kept.lawful kept.sound made;
  here = here;
  remembers = steps_remember held now command pool after source state words kept.lawful kept.sound made kept.here here kept.remembers;
})

pub history_base : HistoryIsBase
history_base pool last source state row listed redact is sound lawful here remembers leads there before =
    let kept = kept_on source state pool last leads (record { lawful = is; sound = sound; here = here; remembers = remembers }) in
    remembered_base last source state row listed redact kept.lawful lawful kept.remembers there before
