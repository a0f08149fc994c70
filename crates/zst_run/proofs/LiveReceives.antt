-- What a piece that was fed leaves.
use Rattle.std.specs.Prelude.{Option, None, Some}
use Rattle.std.proofs.Common.{◌≡◌, ℕ, ◌+◌, ◌≤◌, Bool, true, false, List, length, take, ap, ◌∙◌, arith}
use Rattle.std.proofs.lemmas.List.{length-take-le}
use Rattle.zst_outside.specs.Images.{DiskState}
use Rattle.zst_outside.specs.States.{SourceState}
use Rattle.zst_recv.specs.Stages.{fed_of, is_live, stage_of}
use Rattle.zst_recv.specs.declared.recv.Recv.{Recv}
use Rattle.zst_run.specs.Receives.{piece_size}
use Rattle.zst_run.specs.ReceiveTurns.{Fills, LivesOrEnds, turn_behind}
use Rattle.zst_run.specs.declared.receive.End.{End}

-- one that goes on is live, over a pool that works, and was fed a whole piece where more is to come
pub lives_on : (old now : DiskState) (recv recv' : Recv) (failed : Bool) (input input' : SourceState) (room : List ℕ) (count : ℕ) (end : Option End) → count ≤ length room → length room ≡ piece_size
    → Fills input input' (length room) count end → is_live (stage_of recv') ≡ true → failed ≡ false → fed_of recv' ≡ fed_of recv + length (take count room) → LivesOrEnds old now recv recv' failed (turn_behind end)
lives_on old now recv recv' failed input input' room count None within size fills live alive fed =
    (live, alive, fed ∙ ap (λ (n : ℕ). fed_of recv + n) (length-take-le count room within ∙ fills.0 ∙ size))
lives_on old now recv recv' failed input input' room count (Some end) within size fills live alive fed = (live, alive)

-- nothing more was there
pub lives_without : (old now : DiskState) (recv : Recv) (failed : Bool) (input input' : SourceState) (room : List ℕ) (count : ℕ) (end : Option End) → count ≡ 0 → length room ≡ piece_size
    → Fills input input' (length room) count end → is_live (stage_of recv) ≡ true → failed ≡ false → LivesOrEnds old now recv recv failed (turn_behind end)
lives_without old now recv failed input input' room count None none size fills live alive = absurd (let full = fills.0 in omega (arith, full, none, size))
lives_without old now recv failed input input' room count (Some end) none size fills live alive = (live, alive)
