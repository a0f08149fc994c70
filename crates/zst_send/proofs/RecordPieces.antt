-- What is given of a record and of what follows it, piece by piece.
use Rattle.std.proofs.Common.{◌≡◌, ℕ, ◌+◌, ◌-◌, ◌≤◌, min, List, [], ◌++◌, length, take, drop, refl, sym, ap, subst, ◌∙◌, arith, length-append, length-drop}
use Rattle.std.proofs.lemmas.List.{append-nil, drop-append-le, take-append-le}
use Rattle.std.proofs.Math.Seq.{drop-append-add}
use Rattle.zst_model.specs.declared.states.item.Item.{Item}
use Rattle.zst_stream.specs.Image.{piece_after}
use Rattle.zst_stream.specs.Records.{piece_for}
use Rattle.zst_tree.specs.Indices.{Blocks}
use Rattle.zst_writer.specs.Writes.{HasWritten}
use Rattle.zst_writer.specs.declared.writer.Writer.{Writer}
use Rattle.zst_send.specs.PendingRecords.{IsPayload, IsPut}
use Rattle.zst_send.specs.declared.pending_record.Payload.{Payload}
use Rattle.zst_send.specs.declared.pending_record.Payload.TheVariants.{Nothing}
use Rattle.zst_send.specs.declared.pending_record.PendingRecord.{PendingRecord}

-- bytes that are left behind some were copied from the text of which they are left
pub record AreCopied (into left : List ℕ) (count : ℕ) : Type 0 where
  pub same : take count into ≡ take count left
  pub less : count ≤ length left

-- of the record
pub head_given : (head payload into left : List ℕ) (given count room : ℕ) → given ≤ length head → left ≡ drop given (head ++ payload)
    → count ≡ min (length head - given) room → take count into ≡ take count (drop given head) → AreCopied into left count
head_given head payload into left given count room inside left_is count_is copied =
    let split : left ≡ drop given head ++ payload = left_is ∙ drop-append-le given head payload inside in
    let long : length (drop given head) ≡ length head - given = length-drop given head in
    let less : count ≤ length (drop given head) = omega (arith, count_is, long) in
    record {
      same = copied ∙ sym (ap (take count) split ∙ take-append-le count (drop given head) payload less);
      less =
          let whole : length left ≡ length (drop given head) + length payload = ap length split ∙ length-append (drop given head) payload in
          omega (arith, whole, less);
    }

-- of what follows it
pub payload_given : (head payload into left : List ℕ) (given from count room : ℕ) → given ≡ length head + from → left ≡ drop given (head ++ payload)
    → count ≡ min (length payload - from) room → take count into ≡ take count (drop from payload) → AreCopied into left count
payload_given head payload into left given from count room given_is left_is count_is copied =
    let rest : left ≡ drop from payload = left_is ∙ ap (λ (n : ℕ). drop n (head ++ payload)) given_is ∙ drop-append-add head payload from in
    let long : length (drop from payload) ≡ length payload - from = length-drop from payload in
    let whole : length left ≡ length payload - from = ap length rest ∙ long in
    record { same = copied ∙ sym (ap (take count) rest); less = omega (arith, whole, count_is) }

-- the record of an item that nothing follows
pub lone_put : (has : Blocks) (to : ℕ) (text : List ℕ) (item found : Item) (writer : Writer) (pending : PendingRecord) → item ≡ found
    → HasWritten writer (text ++ piece_after text (piece_for to found)) × (pending.head ≡ piece_after text (piece_for to found)) → pending.payload ≡ Nothing → pending.given ≡ 0 → IsPut has to text item writer pending
lone_put has to text item found writer pending same put nothing given = subst (λ (i : Item). IsPut has to text i writer pending) (sym same) (record {
  written = put.0;
  pending_is = record {
    payload = [];
    payload_is = subst (λ (p : Payload). IsPayload has p []) (sym nothing) refl;
    left_are = sym put.1 ∙ sym (append-nil pending.head) ∙ ap (λ (n : ℕ). drop n (pending.head ++ [])) (sym given);
  };
})
