-- The words for what breaks a grammar, for what isn't supported, and for what has a limit.
use Rattle.std.specs.Prelude.{ℕ, List, [], ◌∷◌, codes, decimal}
use Rattle.std.specs.List.{concat}
use Rattle.zst_model.specs.declared.refusals.faults.Flaw.{Flaw}
use Rattle.zst_model.specs.declared.refusals.faults.Flaw.TheVariants as flaws
use Rattle.zst_model.specs.declared.refusals.faults.Lack.{Lack}
use Rattle.zst_model.specs.declared.refusals.faults.Lack.TheVariants as lacks
use Rattle.zst_model.specs.declared.refusals.faults.Quantity.{Quantity}
use Rattle.zst_model.specs.declared.refusals.faults.Quantity.TheVariants as quantities

-- the word for what breaks the grammar
abbrev pub flaw_text : Flaw → List ℕ
flaw_text flaws.RecordType = codes "type"
flaw_text flaws.Magic = codes "magic"
flaw_text flaws.HeaderType = codes "header type"
flaw_text flaws.Kind = codes "kind"
flaw_text flaws.Guid = codes "guid"
flaw_text flaws.Name = codes "name"
flaw_text flaws.Payload = codes "payload"
flaw_text flaws.SecondBegin = codes "second begin"
flaw_text flaws.Redact = codes "redact"
flaw_text flaws.Object = codes "object"
flaw_text flaws.ObjectType = codes "object type"
flaw_text flaws.BlockSize = codes "block size"
flaw_text flaws.Bonus = codes "bonus"
flaw_text flaws.Size = codes "size"
flaw_text flaws.Range = codes "range"

-- the words for what isn't supported
abbrev pub lack_text : Lack → List ℕ
lack_text lacks.BigEndian = codes "big endian"
lack_text lacks.Compound = codes "compound"
lack_text lacks.Dedup = codes "dedup"
lack_text lacks.DedupProps = codes "dedupprops"
lack_text lacks.EmbedData = codes "embed data"
lack_text lacks.Lz4 = codes "lz4"
lack_text lacks.LargeBlocks = codes "large blocks"
lack_text lacks.Compressed = codes "compressed"
lack_text lacks.Raw = codes "raw"
lack_text (lacks.Feature bit) = concat (codes "feature " ∷ decimal bit ∷ [])
lack_text lacks.ForeignPayload = codes "foreign payload"
lack_text lacks.ByReference = codes "by reference"
lack_text lacks.Embedded = codes "embedded"
lack_text lacks.ObjectRange = codes "object range"
lack_text lacks.LargeDnode = codes "large dnode"
lack_text lacks.Kind = codes "kind"
lack_text lacks.FullWithoutFrees = codes "full without frees"
lack_text lacks.Relay = codes "relay"

-- the word for what has a limit
abbrev pub quantity_text : Quantity → List ℕ
quantity_text quantities.Object = codes "object"
quantity_text quantities.Block = codes "block"
quantity_text quantities.Datasets = codes "datasets"
quantity_text quantities.Snapshots = codes "snapshots"
quantity_text quantities.Bookmarks = codes "bookmarks"
quantity_text quantities.Partials = codes "partials"
quantity_text quantities.RedactionSnapshots = codes "redaction snapshots"
quantity_text quantities.Runs = codes "runs"
quantity_text quantities.Sends = codes "sends"
quantity_text quantities.Receives = codes "receives"
quantity_text quantities.Number = codes "number"
quantity_text quantities.Guids = codes "guids"
quantity_text quantities.Device = codes "device"
quantity_text quantities.Stream = codes "stream"
quantity_text quantities.Script = codes "script"
