-- What a source remembers while its pool receives.
use Rattle.std.specs.Prelude.{ℕ, ◌≡◌, ◌^◌, ◌<◌, List, Ok, Contains}
use Rattle.zst_names.specs.Names.{IsDataset}
use Rattle.zst_model.specs.declared.pools.command.Command.{Command}
use Rattle.zst_model.specs.pools.Ancestry.{Source, OfSnapshot, number_of_source, IsIn, IsBefore}
use Rattle.zst_model.specs.pools.Sessions.{Held}
use Rattle.zst_model.specs.pools.KeptPool.{kept_of}
use Rattle.zst_model.specs.pools.Pool.{Pool, Partial, Snapshot, IsPool}
use Rattle.zst_model.specs.pools.Rows.{Row, rows}
use Rattle.zst_model.specs.pools.Soundness.{Sound}
use Rattle.zst_model.specs.pools.Step.{Stepped, stepped, IsCommand}
use Rattle.zst_model.specs.sends.Inclusion.{Pairs}
use Rattle.zst_model.specs.sends.Target.{BaseOk}
use Rattle.zst_model.specs.states.State.{State, IsState}
use Rattle.zst_laws.specs.RememberedStates.{SourceRemembers, increment}
use Rattle.zst_plan.specs.RecvPlan.{snapshot_name}
use Rattle.zst_plan.specs.declared.receive.RecvAsk.{RecvAsk}
use Rattle.zst_recv.specs.Feeds.{receives}
use Rattle.zst_recv.specs.ReceiveSteps.{Ends, Goes, pool_of}

-- a source stands in a pool, and remembers this state there
pub record StillRemembers (pool : Pool) (source : Source) (state : State) : Type 0 where
  pub here : IsIn pool source
  pub remembers : SourceRemembers pool source state

-- Whatever is read, and however it is cut into pieces, a receive into a target with a dataset's name leaves each snapshot and bookmark of a sound
-- pool there, and what it remembered it remembers still: in the pool that runs, and in what the image keeps of it.
abbrev pub ReceivesRemember : Type 0
ReceivesRemember =
    (ask : RecvAsk) (pool : Pool) (pieces : List (List ℕ)) (source : Source) (state : State)
    → IsDataset ask.target → IsPool pool → Sound pool → StillRemembers pool source state
    → StillRemembers (pool_of (receives ask pool pieces)) source state × StillRemembers (kept_of (pool_of (receives ask pool pieces))) source state

-- The snapshot that a receive makes where it comes to END remembers its own state.
abbrev pub ReceivedRemembers : Type 0
ReceivedRemembers =
    (ask : RecvAsk) (pool after : Pool) (partial : Partial) (pieces : List (List ℕ))
    → IsDataset ask.target → IsPool pool → Sound pool → receives ask pool pieces ≡ Goes after (Ends partial)
    → (snapshot : Snapshot) × (snapshot.name ≡ snapshot_name ask.target partial.component) × StillRemembers (kept_of after) (OfSnapshot snapshot) snapshot.objects.state

-- accepted commands and receives lead from a pool to another while a source stands; of a receive its image keeps a lawful pool
pub data LeadsOn (source : Source) : Pool → Pool → Type 0 where
  Here : (pool : Pool) → LeadsOn source pool pool
  ByCommand : (held : List Held) (now : ℕ) (command : Command) (pool : Pool) (after : Stepped) (last : Pool)
      → IsCommand command → now < 2 ^ 64 → stepped held now command pool ≡ Ok after → IsIn after.pool source → LeadsOn source after.pool last → LeadsOn source pool last
  ByReceive : (ask : RecvAsk) (pieces : List (List ℕ)) (pool last : Pool)
      → IsDataset ask.target → IsPool (kept_of (pool_of (receives ask pool pieces)))
      → LeadsOn source (kept_of (pool_of (receives ask pool pieces))) last → LeadsOn source pool last

-- So what a source remembers is fit as a base after any number of them, of each row that the source then stands before.
abbrev pub EventsAreHistory : Type 0
EventsAreHistory =
    (pool last : Pool) (source : Source) (state : State) (row : Row) (listed redact : Pairs)
    → IsPool pool → Sound pool → IsState state → StillRemembers pool source state → LeadsOn source pool last
    → Contains (rows last) row → IsBefore last source row.place
    → BaseOk state row.objects (increment (number_of_source source) listed redact)
