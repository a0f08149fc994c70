-- Where the plan of a receive passes for what was sent.
use Rattle.std.specs.Prelude.{ℕ, ◌≡◌, List, Some, None, Ok, Contains}
use Rattle.std.specs.Option.{option_map_or}
use Rattle.zst_names.specs.Names.{IsDataset, component_of}
use Rattle.zst_model.specs.pools.Ancestry.{Source}
use Rattle.zst_model.specs.pools.Pool.{Dataset, Pool, Snapshot, IsPool, dataset_named, partial_of, snapshot_named}
use Rattle.zst_model.specs.sends.Headers.{Sent, IsOf, guid_of_source, header_of}
use Rattle.zst_plan.specs.AcceptedStreams.{HasRoom, IsContained, IsDatedAfter, IsLatest, nothing, over}
use Rattle.zst_plan.specs.RecvPlan.{Begins, recv_plan, snapshot_name}
use Rattle.zst_plan.specs.declared.receive.RecvAsk.{RecvAsk}

-- the component of the snapshot that comes: that of the name that is asked for, and else that of the snapshot that was sent
abbrev pub component_asked : RecvAsk → Sent → List ℕ
component_asked ask sent = component_of 64 (option_map_or (λ name. name) ask.snap sent.snapshot.name)

-- a lawful pool has no partial state of the target, and room for one; no origin is asked for
pub record CanReceive (ask : RecvAsk) (into : Pool) : Type 0 where
  pub lawful : IsPool into
  pub name : IsDataset ask.target
  pub alone : partial_of ask.target into ≡ None
  pub unasked : ask.origin ≡ None
  pub room : HasRoom ask.target into

-- A full send passes the plan of a receive into a pool where the target isn't there, and begins with nothing.
abbrev pub FullIsPlanned : Type 0
FullIsPlanned =
    (ask : RecvAsk) (from into : Pool) (sent : Sent) → IsPool from → Contains from.snapshots sent.snapshot → sent.source ≡ None
    → CanReceive ask into → dataset_named ask.target into ≡ None
    → recv_plan ask (header_of sent) into ≡ Ok (Begins (component_asked ask sent) nothing)

-- the target stands at the source of what was sent: it is of the same kind, its latest snapshot has the source's guid, its head is as that left it, and
-- the stream is contained in what that is redacted for
pub record IsAtSource (into : Pool) (target : List ℕ) (sent : Sent) (source : Source) (latest : Snapshot) : Type 0 where
  pub dataset : Dataset
  pub there : dataset_named target into ≡ Some dataset
  pub kind : dataset.kind ≡ sent.kind
  pub is_latest : IsLatest into target latest
  pub guid : latest.guid ≡ guid_of_source source
  pub unchanged : IsDatedAfter latest.number dataset.head → ⊥
  pub contained : IsContained latest.redact (header_of sent)

-- An increment passes it where the target stands at its source and has no snapshot of the name, and begins with the target's latest snapshot.
abbrev pub IncrementIsPlanned : Type 0
IncrementIsPlanned =
    (ask : RecvAsk) (from into : Pool) (sent : Sent) (source : Source) (latest : Snapshot) → IsPool from → IsOf from sent → sent.source ≡ Some source
    → CanReceive ask into → IsAtSource into ask.target sent source latest
    → snapshot_named (snapshot_name ask.target (component_asked ask sent)) into ≡ None
    → recv_plan ask (header_of sent) into ≡ Ok (Begins (component_asked ask sent) (over latest))
