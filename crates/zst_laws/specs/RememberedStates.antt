-- What a source remembers in a pool, and that it does so while commands run.
use Rattle.std.specs.Prelude.{◌≡◌, ℕ, ◌^◌, ◌<◌, List, Some, Ok, Contains}
use Rattle.zst_model.specs.declared.pools.command.Command.{Command}
use Rattle.zst_model.specs.declared.pools.command.Command.TheVariants as commands
use Rattle.zst_model.specs.states.State.{State, IsState}
use Rattle.zst_model.specs.sends.Inclusion.{Pairs, Choice}
use Rattle.zst_model.specs.pools.Sessions.{Held}
use Rattle.zst_model.specs.pools.Pool.{Pool, Snapshot, IsPool, dataset_of_snapshot}
use Rattle.zst_model.specs.pools.Ancestry.{Source, OfSnapshot, dataset_of_source, number_of_source, IsIn, IsBefore}
use Rattle.zst_model.specs.pools.Rows.{Row, rows}
use Rattle.zst_model.specs.pools.Soundness.{Sound}
use Rattle.zst_model.specs.pools.Step.{Stepped, stepped, IsCommand}
use Rattle.zst_model.specs.sends.Target.{Remembers, BaseOk}

-- a snapshot is the source's own: it is of the source's dataset and has its number
pub record IsOwn (source : Source) (snapshot : Snapshot) : Type 0 where
  pub dataset : dataset_of_source source ≡ dataset_of_snapshot snapshot
  pub number : number_of_source source ≡ snapshot.number

-- a source remembers a state: its own snapshot, as long as it is there, and each row that the source stands before have the state's
-- content at every number and index that they date at or below the source's number
pub record SourceRemembers (pool : Pool) (source : Source) (state : State) : Type 0 where
  pub own : (snapshot : Snapshot) → Contains pool.snapshots snapshot → IsOwn source snapshot → Remembers snapshot.objects (number_of_source source) state
  pub later : (row : Row) → Contains (rows pool) row → IsBefore pool source row.place → Remembers row.objects (number_of_source source) state

-- in a sound pool a source remembers the state of its own snapshot, where that is there
abbrev pub OwnIsRemembered : Type 0
OwnIsRemembered =
    (pool : Pool) (source : Source) (snapshot : Snapshot) → Sound pool
    → Contains pool.snapshots snapshot → IsOwn source snapshot → SourceRemembers pool source snapshot.objects.state

-- what a source of a sound pool remembers, it remembers after each accepted command that leaves it there
abbrev pub StepsRemember : Type 0
StepsRemember =
    (held : List Held) (now : ℕ) (command : Command) (pool : Pool) (after : Stepped) (source : Source) (state : State)
    → IsCommand command → IsPool pool → Sound pool → stepped held now command pool ≡ Ok after
    → IsIn pool source → IsIn after.pool source → SourceRemembers pool source state → SourceRemembers after.pool source state

-- what an increment from a number is asked, with any pairs of a source and any pairs to redact
abbrev pub increment : ℕ → Pairs → Pairs → Choice
increment number source redact = record { from = Some number; source = source; redact = redact }

-- a state that a source remembers is fit as the base of each row that the source stands before
abbrev pub RememberedIsBase : Type 0
RememberedIsBase =
    (pool : Pool) (source : Source) (state : State) (row : Row) (listed redact : Pairs) → IsPool pool → IsState state
    → SourceRemembers pool source state → Contains (rows pool) row → IsBefore pool source row.place
    → BaseOk state row.objects (increment (number_of_source source) listed redact)

-- so in a sound pool the state of a source's own snapshot, where that is there, is fit as the base of each row that the source stands before
abbrev pub SourcesAreBases : Type 0
SourcesAreBases =
    (pool : Pool) (source : Source) (own : Snapshot) (row : Row) (listed redact : Pairs) → IsPool pool → Sound pool
    → Contains pool.snapshots own → IsOwn source own → Contains (rows pool) row → IsBefore pool source row.place
    → BaseOk own.objects.state row.objects (increment (number_of_source source) listed redact)

-- a snapshot that a command makes remembers its own state
abbrev pub TakenRemembers : Type 0
TakenRemembers =
    (held : List Held) (now : ℕ) (name : List ℕ) (pool : Pool) (after : Stepped)
    → IsCommand (commands.Snapshot name) → IsPool pool → Sound pool → stepped held now (commands.Snapshot name) pool ≡ Ok after
    → (snapshot : Snapshot) × Contains after.pool.snapshots snapshot × (snapshot.name ≡ name) × SourceRemembers after.pool (OfSnapshot snapshot) snapshot.objects.state

-- accepted commands lead from a pool to another while a source stands
pub data Leads (source : Source) : Pool → Pool → Type 0 where
  Stays : (pool : Pool) → Leads source pool pool
  Steps : (held : List Held) (now : ℕ) (command : Command) (pool : Pool) (after : Stepped) (last : Pool)
      → IsCommand command → now < 2 ^ 64 → stepped held now command pool ≡ Ok after → IsIn after.pool source → Leads source after.pool last → Leads source pool last

-- so what a source remembers is fit as a base after any number of commands, of each row that the source then stands before
abbrev pub HistoryIsBase : Type 0
HistoryIsBase =
    (pool last : Pool) (source : Source) (state : State) (row : Row) (listed redact : Pairs)
    → IsPool pool → Sound pool → IsState state → IsIn pool source → SourceRemembers pool source state → Leads source pool last
    → Contains (rows last) row → IsBefore last source row.place
    → BaseOk state row.objects (increment (number_of_source source) listed redact)
