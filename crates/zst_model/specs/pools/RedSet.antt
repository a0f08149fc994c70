-- Which pairs a redaction bookmark lists (zfs-redact(8)): the blocks that no redaction snapshot has kept; and which pairs are redacted already.
use Rattle.std.specs.Prelude.{ℕ, Bool, true, false, List, Option, Some, None, map, nat_lt, ◌&&◌}
use Rattle.std.specs.List.{list_all}
use Rattle.zst_model.specs.states.State.{Block, Hole, Redacted, Data, Object, State, is_user_data}
use Rattle.zst_model.specs.states.DatedState.{DatedState}
use Rattle.zst_model.specs.pools.Pool.{Snapshot}
use Rattle.zst_model.specs.sends.Inclusion.{Pairs}

-- the dated states of snapshots
abbrev pub objects_of : List Snapshot → List DatedState
objects_of snapshots = map (λ snapshot. snapshot.objects) snapshots

-- whether a block has data
abbrev pub is_data : Block → Bool
is_data Hole = false
is_data Redacted = false
is_data (Data bytes) = true

-- whether an index of what stands at a number is data of a file or a volume
abbrev pub is_user_block : Option Object → ℕ → Bool
is_user_block None i = false
is_user_block (Some object) i = is_user_data object.attr && is_data (object.blocks i)

-- the pairs of user data of a snapshot with this state and number that every redaction snapshot dates after it
abbrev pub red_set : State → ℕ → List DatedState → Pairs
red_set state number redactions k i = is_user_block (state k) i && list_all (λ redaction. nat_lt number (redaction.index_date k i)) redactions

-- whether a block is redacted
abbrev pub is_redacted_block : Block → Bool
is_redacted_block Hole = false
is_redacted_block Redacted = true
is_redacted_block (Data bytes) = false

-- whether an index of what stands at a number is a redacted block of a file or a volume
abbrev pub is_unreadable : Option Object → ℕ → Bool
is_unreadable None i = false
is_unreadable (Some object) i = is_user_data object.attr && is_redacted_block (object.blocks i)

-- the redacted pairs of user data of a state
abbrev pub redacted_pairs : State → Pairs
redacted_pairs state k i = is_unreadable (state k) i
