-- What the names of a line ask to be sent, and to be received.
use Rattle.std.specs.Prelude.{ℕ, Bool, List, Option, Some, None, IfSome}
use Rattle.zst_line.specs.declared.line.Line.{Line}
use Rattle.zst_line.specs.declared.line.Line.TheVariants as lines
use Rattle.zst_model.specs.declared.refusals.subjects.Name.{Name}
use Rattle.zst_model.specs.declared.refusals.subjects.Name.TheVariants as names
use Rattle.zst_model.specs.declared.sends.ask.FromName.{FromName}
use Rattle.zst_model.specs.declared.sends.ask.FromName.TheVariants.{Snap, Book}
use Rattle.zst_model.specs.declared.sends.ask.SendAsk.{SendAsk}
use Rattle.zst_names.specs.Names.{dataset_of}
use Rattle.zst_plan.specs.declared.receive.RecvAsk.{RecvAsk}

-- a name that a send may be from: a snapshot's or a bookmark's
abbrev pub IsSource : Name → Type 0
IsSource (names.Dataset name) = ⊥
IsSource name = Unit {0}

-- what an increment is asked to be sent from
abbrev pub source_of : Option Name → Option FromName
source_of None = None
source_of (Some (names.Snapshot name)) = Some (Snap name)
source_of (Some (names.Bookmark name)) = Some (Book name)
source_of (Some (names.Dataset name)) = None

-- what the names of a line that sends ask for
abbrev pub ask_of : Option Name → Option (List ℕ) → List ℕ → SendAsk
ask_of from redacts snapshot = record { snap = snapshot; from = source_of from; redact = redacts }

-- a name that a receive may be into: a dataset's, or a snapshot's
abbrev pub IsTarget : Name → Type 0
IsTarget (names.Bookmark name) = ⊥
IsTarget name = Unit {0}

-- the dataset that a stream comes into
abbrev pub target_of : Name → List ℕ
target_of (names.Snapshot name) = dataset_of 64 name
target_of (names.Dataset name) = name
target_of (names.Bookmark name) = name

-- the snapshot's name, where one is asked for
abbrev pub snapshot_of : Name → Option (List ℕ)
snapshot_of (names.Snapshot name) = Some name
snapshot_of (names.Dataset name) = None
snapshot_of (names.Bookmark name) = None

-- what the words of a line that receives ask for
abbrev pub receipt_of : (keeps forces : Bool) → Option (List ℕ) → Name → RecvAsk
receipt_of keeps forces origin target = record { target = target_of target; snap = snapshot_of target; keep = keeps; force = forces; origin = origin }

-- a line that sends is from a name that a send may be from, and one that receives is into a name that a receive may be into
abbrev pub NamesFit : Line → Type 0
NamesFit (lines.Send image from redacts snapshot) = IfSome from IsSource
NamesFit (lines.Receive image keeps forces origin target) = IsTarget target
NamesFit line = Unit {0}
