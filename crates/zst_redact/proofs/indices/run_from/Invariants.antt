use Rattle.std.proofs.Common.{◌≡◌, ℕ, ◌-◌, ◌<◌, ◌≤◌, false, List}
use Rattle.std.specs.Prelude.{None}
use Rattle.std.specs.List.{AllZip}
use Rattle.zst_block.specs.IoStates.{IsHonest, blocks_of, io_of}
use Rattle.zst_block.specs.IoCalls.{Looks}
use Rattle.zst_model.specs.states.DatedState.{DatedState}
use Rattle.zst_model.specs.states.State.{IsObject, Object}
use Rattle.zst_tree.specs.Indices.{Map}
use Rattle.zst_objset.specs.Dnodes.{ObjectIs}
use Rattle.zst_objset.specs.Sets.{SetHolds}
use Rattle.zst_redact.specs.Wanted.{are_wanted, sets_beside}
use Rattle.zst_redact.proofs.indices.run_from.Given as goal

abbrev pub invariant-loop-at : goal.invariant-loop-at
invariant-loop-at g l = record {
  from_on : l.from ≤ l.at;
  none : (own : Object) (date : ℕ) (dates : ℕ → ℕ) (map : Map) (kept : List DatedState) → IsHonest l.io → IsObject own → ObjectIs (blocks_of l.fn.io) l.dnode own date dates map
      → AllZip (SetHolds (blocks_of l.fn.io)) (sets_beside l.wanted) kept → (i : ℕ) → l.from ≤ i → i < l.at → are_wanted l.wanted own kept l.object i ≡ false;
  looks : Looks (io_of l.fn.io) (io_of l.io) None;
}

abbrev pub decreases-loop-at : goal.decreases-loop-at
decreases-loop-at g l = l.dnode.end - l.at
