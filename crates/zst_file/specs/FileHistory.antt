-- What a file holds after the calls on it, what a crash may leave of it, and whether its answers are those of a disk.
use Rattle.std.specs.Prelude.{◌≡◌, ◌⊎◌, ℕ, ◌+◌, ◌-◌, ◌≤◌, nat_le, Bool, true, ◌&&◌, if◌then◌else◌, List, [], ◌∷◌, ◌++◌, length, take, replicate}
use Rattle.std.proofs.Common.{arith, length-append, length-take}
use Rattle.std.proofs.lemmas.List.{length-replicate, take_all, append-nil}
use Rattle.zst_outside.specs.Images.{DiskState}
use Rattle.zst_outside.specs.Ranges.{bytes_at, overwritten, Torn}
use Rattle.zst_file.specs.Event.{Event, read, wrote, synced}

-- bytes inside a file, written over what stood there
abbrev pub put_in : ℕ → List ℕ → List ℕ → List ℕ
put_in place bytes file = if nat_le (place + length bytes) (length file) then overwritten file place bytes else file

-- what a file holds after a call: a write that succeeded stands there
abbrev pub after_call : Event → List ℕ → List ℕ
after_call (wrote place true bytes) file = put_in place bytes file
after_call _ file = file

-- what a file holds after these calls, of which the newest comes first
abbrev pub held_after : List ℕ → List Event → List ℕ
held_after start [] = start
held_after start (e ∷ earlier) = after_call e (held_after start earlier)

-- it is no sync that failed
abbrev pub keeps_usable : Event → Bool
keeps_usable (synced done) = done
keeps_usable _ = true

-- no sync failed: after one that did, the kernel may drop what was written and tell no more of it
abbrev pub is_usable : List Event → Bool
is_usable [] = true
is_usable (e ∷ earlier) = keeps_usable e && is_usable earlier

-- a read that succeeded gave what the file held
abbrev pub Answers : Event → List ℕ → Type 0
Answers (read place true bytes) file = bytes_at file place (length bytes) ≡ bytes
Answers _ file = Unit {0}

-- each read that succeeded gave what the file held then
abbrev pub IsHonest : List ℕ → List Event → Type 0
IsHonest start [] = Unit {0}
IsHonest start (e ∷ earlier) = Answers e (held_after start earlier) × IsHonest start earlier

-- What a crash after a call may leave, where it might leave `before` ahead of the call: a write may be torn, and a sync
-- that succeeded, after none that failed, leaves what the file holds.
abbrev pub MayLeaveCall : Event → Bool → List ℕ → (List ℕ → Type 0) → List ℕ → Type 0
MayLeaveCall (wrote place done bytes) usable held before c = (d : List ℕ) × before d × Torn place (length bytes) d c
MayLeaveCall (synced true) true held before c = c ≡ held
MayLeaveCall _ usable held before c = before c

-- what a crash may leave, of a file that held `start`, of which it might have left `left` as it was opened
abbrev pub MayLeave : List ℕ → (List ℕ → Type 0) → List Event → List ℕ → Type 0
MayLeave start left [] c = (c ≡ start) ⊎ ((length c ≡ length start) × left c)
MayLeave start left (e ∷ earlier) c = MayLeaveCall e (is_usable earlier) (held_after start earlier) (MayLeave start left earlier) c

-- what a crash may have left at a moment from t on: a moment is told by how many calls had been made
abbrev pub LeftSince : List ℕ → (List ℕ → Type 0) → List Event → ℕ → List ℕ → Type 0
LeftSince start left [] t c = (t ≤ 0) × MayLeave start left [] c
LeftSince start left (e ∷ earlier) t c = ((t ≤ length earlier + 1) × MayLeave start left (e ∷ earlier) c) ⊎ LeftSince start left earlier t c

-- the first `size` bytes of a file, with zeros after a file that is shorter
unfoldable pub fitted : ℕ → List ℕ → List ℕ
fitted size file = take size (file ++ replicate (size - length file) 0)

-- A file of so many bytes as a disk, by what it held as it was opened and the calls since. The disk is honest where it
-- had as many bytes, and each answer agrees.
abbrev pub file_state : List ℕ → (List ℕ → Type 0) → ℕ → ℕ → ℕ → List Event → DiskState
file_state start left size calls faults history = record {
  size = size;
  seen = held_after (fitted size start) history;
  honest = (length start ≡ size) × IsHonest (fitted size start) history;
  images = MayLeave (fitted size start) left history;
  moment = length history;
  left_since = LeftSince (fitted size start) left history;
  calls = calls;
  faults = faults;
}

-- it has so many bytes
pub length-fitted : (size : ℕ) (file : List ℕ) → length (fitted size file) ≡ size
unfolding fitted
length-fitted size file =
    omega (arith, length-take size (file ++ replicate (size - length file) 0), length-append file (replicate (size - length file) 0), length-replicate {A = ℕ} (size - length file) 0)

-- of a file of so many bytes it is all
pub fitted-same : (size : ℕ) (file : List ℕ) → length file ≡ size → fitted size file ≡ file
unfolding fitted
fitted-same size file is =
    let none : size - length file ≡ 0 = omega (arith, is) in
    rw (none, append-nil file) (take_all size file (omega (arith, is)))
