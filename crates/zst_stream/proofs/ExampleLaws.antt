-- The small stream can be stated.
use Rattle.std.proofs.Common.{◌^◌, ◌-◌, ◌<◌, [], length, refl, lit<, lit≤, arith}
use Rattle.std.specs.List.{All}
use Rattle.std.proofs.lemmas.List.Elements.{All-from_recursion}
use Rattle.zst_model.specs.sends.Headers.{spill_block}
use Rattle.zst_model.specs.sends.Items.{origin}
use Rattle.zst_model.specs.sends.Features.{sa_spill, resuming, redacts}
use Rattle.zst_model.specs.states.State.{number_bound, is_block_size, largest_block}
use Rattle.zst_record.specs.Decoding.{is_object, is_range, is_payload_len, needs_payload}
use Rattle.zst_record.specs.RecordValues.{BeginFits, ObjectFits, WriteFits, FreeFits}
use Rattle.zst_model.specs.fields.Guids.{IsGuidSet}
use Rattle.zst_record.specs.Payload.{bare, begin_payload, has_payload}
use Rattle.zst_record.specs.Table.{padded}
use Rattle.zst_stream.specs.Reading.{opened}
use Rattle.zst_stream.specs.Image.{CanBegin, PiecesFit}
use Rattle.zst_stream.specs.Example.{example_header, example_items, example_pieces, no_snapshot, full_choice, ExampleIsStream, ExampleCanBeSent}
use Rattle.zst_stream.specs.Items.{Says}
use Rattle.zst_stream.proofs.AllowedItems.{plain_allowed}

begins-bare : BeginFits (bare example_header) (length (begin_payload example_header))
unfolding is_payload_len needs_payload sa_spill resuming redacts bare begin_payload has_payload
begins-bare = record {
  features = lit< tt;
  accepted = refl;
  small_blocks = refl;
  kind = refl;
  flags = lit< tt;
  time = lit< tt;
  to = lit< tt;
  to_there = refl;
  from = lit< tt;
  name = lit< tt;
  no_zero = refl;
  len = refl;
  stated = λ e. refl;
  no_resume = refl;
  no_redact = refl;
  no_from_redact = refl;
}

no-guids : IsGuidSet []
no-guids = record { few = lit≤ tt; rising = refl; fit = All-from_recursion (λ guid. guid < 2 ^ 64) [] tt }

begins : CanBegin example_header
unfolding needs_payload resuming redacts begin_payload has_payload
begins = record {
  begins = begins-bare;
  payload = record { resume = refl; redact = no-guids; from_redact = no-guids; redacted = refl; source = λ some. absurd (omega arith) };
}

object-fits : ObjectFits 1 19 0 512 0 0 4294967297
unfolding is_object number_bound is_block_size largest_block
object-fits = record {
  object_fits = refl;
  kind_fits = lit< tt;
  kind_there = refl;
  bonus_kind_fits = lit< tt;
  size = refl;
  bonus_len_fits = lit≤ tt;
  max_block_fits = lit< tt;
  to_fits = lit< tt;
}

write-fits : WriteFits 1 19 0 512 4294967297
unfolding is_object number_bound is_block_size largest_block
write-fits = record { object_fits = refl; kind_fits = lit< tt; offset_fits = lit< tt; size_fits = refl; to_fits = lit< tt }

free-fits : FreeFits 1 512 (2 ^ 64 - 1) 4294967297
unfolding is_object number_bound is_range
free-fits = record { object_fits = refl; offset_fits = lit< tt; size_fits = lit< tt; range = refl; to_fits = lit< tt }

pieces-fit : PiecesFit 4 example_pieces
unfolding opened padded
pieces-fit = (
  record { later = tt; not_end = refl; fits = (lit< tt, lit< tt, lit< tt); len = refl; sound = refl },
  (
    record { later = tt; not_end = refl; fits = object-fits; len = refl; sound = refl },
    (
      record { later = tt; not_end = refl; fits = write-fits; len = refl; sound = refl },
      (record { later = tt; not_end = refl; fits = free-fits; len = refl; sound = refl }, tt),
    ),
  ),
)

says : All (Says example_header.flags) example_items
unfolding spill_block
says =
    All-from_recursion (Says example_header.flags) example_items (tt, (refl, (tt, (tt, tt))))

pub example-fits : ExampleIsStream
example-fits = (record { begins = begins; pieces_fit = pieces-fit }, says)

pub example-can : ExampleCanBeSent
unfolding spill_block
example-can = record {
  lawful = record { zero = refl; bounded = λ k h. refl; objects = λ k. tt };
  begins = begins;
  flags = refl;
  allowed = plain_allowed example_header.features example_header no_snapshot full_choice origin (λ k i object e r. absurd (cc)) (λ k i. refl);
}
