-- A small stream: one object with a block, and nothing behind it.
use Rattle.std.specs.Prelude.{false, List, [], ◌∷◌, None, codes, replicate, All}
use Rattle.zst_model.specs.declared.sends.header.Header.{Header}
use Rattle.zst_model.specs.declared.states.item.Change.TheVariants.{Put, FreeFrom, Write}
use Rattle.zst_model.specs.declared.states.item.Item.{Item}
use Rattle.zst_model.specs.declared.states.item.Item.TheVariants.{FreeObjects, At}
use Rattle.zst_model.specs.states.State.{no_objects}
use Rattle.zst_model.specs.states.DatedState.{DatedState}
use Rattle.zst_model.specs.sends.Inclusion.{Choice, no_pairs}
use Rattle.zst_model.specs.sends.Items.{origin}
use Rattle.zst_stream.specs.Image.{Piece, IsStream}
use Rattle.zst_stream.specs.Items.{CanSend, Says}
use Rattle.zst_stream.specs.Records.{pieces_for}

abbrev pub example_header : Header
example_header = record {
  kind = 2;
  flags = 12;
  features = 4;
  time = 1700000000;
  to = 4294967297;
  from = 0;
  name = codes "t/a@s";
  resume = None;
  redact = [];
  from_redact = [];
}

abbrev pub example_items : List Item
example_items =
    FreeObjects 0 1
    ∷ At 1 (Put (record { type_ = 19; bonus_type = 0; block_size = 512 }) [] false 0)
    ∷ At 1 (Write 0 19 (replicate 512 0))
    ∷ At 1 (FreeFrom 512)
    ∷ []

abbrev pub example_pieces : List Piece
example_pieces = pieces_for example_header.to example_items

-- a snapshot without objects
abbrev pub no_snapshot : DatedState
no_snapshot = record { state = no_objects; number_date = λ k. 0; index_date = λ k i. 0 }

-- a full send, without a redaction bookmark
abbrev pub full_choice : Choice
full_choice = record { from = None; source = no_pairs; redact = no_pairs }

-- Streams of which the laws speak exist.
abbrev pub ExampleIsStream : Type 0
ExampleIsStream = IsStream example_header example_pieces × All (Says example_header.flags) example_items

-- So do views that can be sent.
abbrev pub ExampleCanBeSent : Type 0
ExampleCanBeSent = CanSend example_header no_snapshot full_choice origin
