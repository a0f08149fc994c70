use Rattle.std.proofs.Common.{map, string_bytes, refl}
use Rattle.std.proofs.lemmas.List.{length-map}
use Rattle.zst_line.specs.declared.kind.Kind.TheVariants as kinds
use Rattle.zst_line.proofs.OptionPlaces.{named_fits}
use Rattle.zst_line.proofs.kind_lines.spelled.Goals as goal

pub create-requires : goal.create-requires
create-requires c = named_fits kinds.Create (map string_bytes c.args.words.now) (λ word. refl) refl (rw c.in-Create.is at c.requires)

pub fs-requires : goal.fs-requires
fs-requires c = named_fits kinds.Fs (map string_bytes c.args.words.now) (λ word. refl) refl (rw c.in-Fs.is at c.requires)

pub volume-requires : goal.volume-requires
volume-requires c = named_fits kinds.Volume (map string_bytes c.args.words.now) (λ word. refl) refl (rw c.in-Volume.is at c.requires)

pub object-requires : goal.object-requires
object-requires c = named_fits kinds.Object (map string_bytes c.args.words.now) (λ word. refl) refl (rw c.in-Object.is at c.requires)

pub write-requires : goal.write-requires
write-requires c = named_fits kinds.Write (map string_bytes c.args.words.now) (λ word. refl) refl (rw c.in-Write.is at c.requires)

pub punch-requires : goal.punch-requires
punch-requires c = named_fits kinds.Punch (map string_bytes c.args.words.now) (λ word. refl) refl (rw c.in-Punch.is at c.requires)

pub free-requires : goal.free-requires
free-requires c = named_fits kinds.Free (map string_bytes c.args.words.now) (λ word. refl) refl (rw c.in-Free.is at c.requires)

pub read-requires : goal.read-requires
read-requires c = named_fits kinds.Read (map string_bytes c.args.words.now) (λ word. refl) refl (rw c.in-Read.is at c.requires)

pub snapshot_of-requires : goal.snapshot_of-requires
snapshot_of-requires c = named_fits kinds.Snapshot (map string_bytes c.args.words.now) (λ word. refl) refl (rw c.in-Snapshot.is at c.requires)

pub clone-requires : goal.clone-requires
clone-requires c = named_fits kinds.Clone (map string_bytes c.args.words.now) (λ word. refl) refl (rw c.in-Clone.is at c.requires)

pub bookmark_of-requires : goal.bookmark_of-requires
bookmark_of-requires c = named_fits kinds.Bookmark (map string_bytes c.args.words.now) (λ word. refl) refl (rw c.in-Bookmark.is at c.requires)

pub destroy-requires : goal.destroy-requires
destroy-requires c = named_fits kinds.Destroy (map string_bytes c.args.words.now) (λ word. refl) refl (rw c.in-Destroy.is at c.requires)

pub abort-requires : goal.abort-requires
abort-requires c = named_fits kinds.Abort (map string_bytes c.args.words.now) (λ word. refl) refl (rw c.in-Abort.is at c.requires)

pub token-requires : goal.token-requires
token-requires c = named_fits kinds.Token (map string_bytes c.args.words.now) (λ word. refl) refl (rw c.in-Token.is at c.requires)

pub check-requires : goal.check-requires
check-requires c = named_fits kinds.Check (map string_bytes c.args.words.now) (λ word. refl) refl (rw c.in-Check.is at c.requires)

pub gen_line-requires : goal.gen_line-requires
gen_line-requires c = named_fits kinds.Gen (map string_bytes c.args.words.now) (λ word. refl) refl (rw c.in-Gen.is at c.requires)

pub reclaim-requires : goal.reclaim-requires
reclaim-requires c = named_fits kinds.Reclaim (map string_bytes c.args.words.now) (λ word. refl) refl (rw c.in-Reclaim.is at c.requires)

pub replay-requires : goal.replay-requires
replay-requires c = named_fits kinds.Replay (map string_bytes c.args.words.now) (λ word. refl) refl (rw c.in-Replay.is at c.requires)

pub redact-requires : goal.redact-requires
redact-requires c =
    let long = length-map c.args.words.now string_bytes in
    rw long at (named_fits kinds.Redact (map string_bytes c.args.words.now) (λ word. refl) refl (rw c.in-Redact.is at c.requires))
