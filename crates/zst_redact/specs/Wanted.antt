-- Which pairs of a snapshot a list is to have.
use Rattle.std.specs.Prelude.{ℕ, ◌+◌, Bool, List, [], ◌==◌}
use Rattle.zst_model.specs.pools.RedSet.{is_redacted_block, red_set, redacted_pairs}
use Rattle.zst_model.specs.sends.Inclusion.{Pairs}
use Rattle.zst_model.specs.states.DatedState.{DatedState}
use Rattle.zst_model.specs.states.State.{Block, Hole, Redacted, Data, Object}
use Rattle.zst_tree.specs.declared.tree.ObjSet.{ObjSet}
use Rattle.zst_traverse.specs.declared.walk_entry.WalkEntry.{WalkEntry}
use Rattle.zst_traverse.specs.declared.walk_entry.WalkEntry.TheVariants as entries
use Rattle.zst_redact.specs.Passes.{States, are_data}
use Rattle.zst_redact.specs.declared.wanted.Wanted.{Wanted}
use Rattle.zst_redact.specs.declared.wanted.Wanted.TheVariants as wants

-- the sets that are looked at beside the snapshot's
abbrev pub sets_beside : Wanted → List ObjSet
sets_beside (wants.Unkept number redactions) = redactions.now
sets_beside wants.Redacted = []

-- the pairs: those that no redaction snapshot has kept, or those that are redacted
abbrev pub wanted_pairs : Wanted → DatedState → States → Pairs
wanted_pairs (wants.Unkept number redactions) state kept = red_set state.state number kept
wanted_pairs wants.Redacted state kept = redacted_pairs state.state

-- so it is with the blocks of an object with user data, which has a number
abbrev pub are_wanted : Wanted → Object → States → Pairs
are_wanted (wants.Unkept number redactions) own kept = are_data own number kept
are_wanted wants.Redacted own kept = λ k i. is_redacted_block (own.blocks i)

-- the kind of a pointer that stands for a block
abbrev pub kind_of_block : Block → ℕ
kind_of_block Hole = 0
kind_of_block Redacted = 2
kind_of_block (Data bytes) = 1

-- whether an index of an object is of a kind
abbrev pub is_of_kind : Object → ℕ → ℕ → Bool
is_of_kind own kind i = kind_of_block (own.blocks i) == kind

-- the number that a walk over all numbers has reached by what it found: that of an object, or the one behind absent numbers
abbrev pub reached : WalkEntry → ℕ
reached (entries.Object number dnode) = number
reached (entries.Gone first count) = first + count
reached (entries.Pairs object first count what ptr) = object
