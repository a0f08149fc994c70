-- Pools that are alike but for the bytes of pairs that aren't sent.
use Rattle.std.specs.Prelude.{◌≡◌, ℕ, List, Option, Some, None, Ok}
use Rattle.zst_model.specs.declared.sends.ask.FromName.{FromName}
use Rattle.zst_model.specs.declared.sends.ask.FromName.TheVariants.{Snap, Book}
use Rattle.zst_model.specs.declared.sends.ask.SendAsk.{SendAsk}
use Rattle.zst_model.specs.pools.Ancestry.{OfSnapshot}
use Rattle.zst_model.specs.pools.Pool.{Pool, Snapshot, bookmark_named, snapshot_named}
use Rattle.zst_model.specs.sends.Headers.{Sent, choice_of, sent_view, source_runs}
use Rattle.zst_model.specs.sends.Inclusion.{Pairs}
use Rattle.zst_model.specs.sends.SendPlan.{kind_of, send_plan}
use Rattle.zst_laws.specs.ExactSends.{DifferAt}

-- two snapshots are alike, with all their dates, but for the bytes of these pairs
pub record AreAlike (pairs : Pairs) (a b : Snapshot) : Type 0 where
  pub name : a.name ≡ b.name
  pub guid : a.guid ≡ b.guid
  pub time : a.time ≡ b.time
  pub number : a.number ≡ b.number
  pub redact : a.redact ≡ b.redact
  pub number_dates : a.objects.number_date ≡ b.objects.number_date
  pub index_dates : a.objects.index_date ≡ b.objects.index_date
  pub objects : (k : ℕ) → DifferAt (pairs k) (a.objects.state k) (b.objects.state k)

-- what a send is from is alike: a snapshot has one guid and number and one set of redaction guids, and where it has some the same is redacted in it; a bookmark is one
abbrev pub AreSources : Option FromName → Pool → Pool → Type 0
AreSources None pool other = Unit {0}
AreSources (Some (Snap name)) pool other =
    (a b : Snapshot) → snapshot_named name pool ≡ Some a → snapshot_named name other ≡ Some b
    → (a.name ≡ b.name) × (a.guid ≡ b.guid) × (a.number ≡ b.number) × (a.redact ≡ b.redact) × (source_runs (Some (OfSnapshot a)) ≡ source_runs (Some (OfSnapshot b)))
AreSources (Some (Book name)) pool other = bookmark_named name pool ≡ bookmark_named name other

-- and so is the redaction bookmark
abbrev pub AreRedacting : Option (List ℕ) → Pool → Pool → Type 0
AreRedacting None pool other = Unit {0}
AreRedacting (Some name) pool other = bookmark_named name pool ≡ bookmark_named name other

-- two pools are alike in what is asked of them, but for the bytes of these pairs: whatever else they hold, and wherever
pub record AlikeFor (ask : SendAsk) (pairs : Pairs) (pool other : Pool) : Type 0 where
  pub snapshots : (a b : Snapshot) → snapshot_named ask.snap pool ≡ Some a → snapshot_named ask.snap other ≡ Some b → AreAlike pairs a b × (kind_of pool a ≡ kind_of other b)
  pub sources : AreSources ask.from pool other
  pub redactions : AreRedacting ask.redact pool other

-- such pools have one view of what is asked, where both can send it
abbrev pub AlikePoolsAreSentAlike : Type 0
AlikePoolsAreSentAlike =
    (ask : SendAsk) (pool other : Pool) (sent also : Sent) → send_plan ask pool ≡ Ok sent → send_plan ask other ≡ Ok also
    → AlikeFor ask (choice_of sent).redact pool other → sent_view sent ≡ sent_view also
