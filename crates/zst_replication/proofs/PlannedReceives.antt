-- Plans of receives of what was sent.
use Rattle.std.proofs.Common.{◌≡◌, ◌≢◌, ℕ, ◌+◌, List, [], ◌∷◌, Option, Some, None, bit_and, refl, sym, ap, ◌∙◌, subst, arith}
use Rattle.std.specs.Prelude.{Contains, IfSome, bytes_eq}
use Rattle.std.specs.Option.{option_map_or}
use Rattle.std.proofs.lemmas.Bool.{true≢false}
use Rattle.std.proofs.lemmas.List.Elements.{All-contains}
use Rattle.zst_names.specs.Marks.{at_is_mark}
use Rattle.zst_names.specs.Names.{IsSnapshot, component_of, dataset_of}
use Rattle.zst_names.proofs.MarkedNames.{join_is_name}
use Rattle.zst_model.specs.pools.Ancestry.{Source, IsIn}
use Rattle.zst_model.specs.pools.Pool.{Dataset, HasDataset, IsPool, Pool, Snapshot, dataset_named, dataset_of_snapshot, snapshot_named}
use Rattle.zst_model.specs.sends.Features.{redacts, resuming, sa_spill}
use Rattle.zst_model.specs.sends.Headers.{Sent, features_of, from_guid, guid_of_source, header_of, redacted_part, redaction_guids}
use Rattle.zst_model.proofs.FoundElements.{found_passes, none_passes}
use Rattle.zst_model.proofs.OrderLaws.{bytes_same, same_bytes}
use Rattle.zst_plan.specs.AcceptedStreams.{Asked, ComesAs, IsFresh, Stated, StreamsBegin, TakesLatest, TakesNothing, nothing, over}
use Rattle.zst_plan.specs.RecvPlan.{snapshot_name}
use Rattle.zst_plan.specs.declared.receive.RecvAsk.{RecvAsk}
use Rattle.zst_replication.specs.PlannedReceives.{CanReceive, FullIsPlanned, IncrementIsPlanned, component_asked}
use Rattle.zst_replication.proofs.MatchingBases.{some_guid}

-- a send that isn't resumed says so
says_none : (guids : List ℕ) → bit_and (redacted_part guids + sa_spill) resuming ≡ 0
unfolding sa_spill redacts resuming
says_none [] = refl
says_none (guid ∷ guids) = refl

not_resumed : (sent : Sent) → bit_and (header_of sent).features resuming ≡ 0
unfolding features_of
not_resumed sent = says_none (redaction_guids sent.snapshot sent.redaction)

-- the component that comes
comes_as : (ask : RecvAsk) (sent : Sent) → IsSnapshot sent.snapshot.name → ComesAs ask (header_of sent) (component_asked ask sent)
comes_as ask sent named = go ask.snap refl
  where
    go : (o : Option (List ℕ)) → ask.snap ≡ o → ComesAs ask (header_of sent) (component_of 64 (option_map_or (λ name. name) o sent.snapshot.name))
    go None e = Stated e named.1
    go (Some name) e = Asked name e

module _ (ask : RecvAsk) (from into : Pool) (sent : Sent) (lawful : IsPool from) (there : Contains from.snapshots sent.snapshot) (can : CanReceive ask into) where
  fresh : IsFresh ask (header_of sent) into (component_asked ask sent)
  fresh = record {
    named = can.lawful.named;
    comes = comes_as ask sent (All-contains (λ (s : Snapshot). IsSnapshot s.name) from.snapshots sent.snapshot lawful.named.snapshot_names there);
    no_partial = can.alone;
    plain = not_resumed sent;
  }

  -- a target that isn't there has no snapshot
  none_there : dataset_named ask.target into ≡ None → snapshot_named (snapshot_name ask.target (component_asked ask sent)) into ≡ None
  none_there absent = go (snapshot_named (snapshot_name ask.target (component_asked ask sent)) into) refl
    where
      own : dataset_of 64 (snapshot_name ask.target (component_asked ask sent)) ≡ ask.target
      own = (join_is_name 64 ask.target (component_asked ask sent) at_is_mark can.name).dataset_back

      never : (snapshot : Snapshot) → Contains into.snapshots snapshot → snapshot.name ≡ snapshot_name ask.target (component_asked ask sent) → ⊥
      never snapshot here named =
          let has = All-contains (λ (s : Snapshot). HasDataset into (dataset_of_snapshot s)) into.snapshots snapshot can.lawful.linked.snapshots here in
          let same : has.0.name ≡ ask.target = has.2 ∙ ap (dataset_of 64) named ∙ own in
          true≢false (sym (bytes_same has.0.name ask.target same) ∙ none_passes (λ (d : Dataset). bytes_eq d.name ask.target) into.datasets absent has.0 has.1)

      go : (o : Option Snapshot) → snapshot_named (snapshot_name ask.target (component_asked ask sent)) into ≡ o → o ≡ None
      go None e = refl
      go (Some snapshot) e =
          let found = found_passes (λ (s : Snapshot). bytes_eq s.name (snapshot_name ask.target (component_asked ask sent))) into.snapshots snapshot e in
          absurd (never snapshot found.0 (same_bytes snapshot.name (snapshot_name ask.target (component_asked ask sent)) found.1))

pub full_planned : StreamsBegin → FullIsPlanned
full_planned begins ask from into sent lawful there full can absent =
    begins ask (header_of sent) into (component_asked ask sent) nothing (fresh ask from into sent lawful there can)
    (TakesNothing (record { absent = absent; unasked = can.unasked }) (ap from_guid full)) tt (none_there ask from into sent lawful there can absent) can.room

pub increment_planned : StreamsBegin → IncrementIsPlanned
increment_planned begins ask from into sent source latest lawful of is_from can is free =
    begins ask (header_of sent) into (component_asked ask sent) (over latest) (fresh ask from into sent lawful of.snapshot can)
    (TakesLatest is.dataset latest (record {
      into = record { there = is.there; unasked = can.unasked; increment = some };
      is_latest = is.is_latest;
      source = is.guid ∙ sym guid;
      kind = is.kind;
    }) is.unchanged) is.contained free can.room
  where
    guid : (header_of sent).from ≡ guid_of_source source
    guid = ap from_guid is_from

    some : (header_of sent).from ≢ 0
    some = λ zero. let more = some_guid from lawful source (subst (λ (o : Option Source). IfSome o (IsIn from)) is_from of.source) in omega (arith, more, guid, zero)
