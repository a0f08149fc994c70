-- The laws of a file as a disk.
use Rattle.std.specs.Prelude.{◌≡◌, ℕ, ◌+◌, ◌≤◌, nat_le, Bool, true, false, List, [], ◌∷◌, length, refl}
use Rattle.std.proofs.Common.{inl, inr, ◌∙◌, ap, arith}
use Rattle.std.proofs.lemmas.Bool.{cases_Bool, leb-true}
use Rattle.zst_outside.specs.Ranges.{bytes_at, length-overwritten, length-bytes_at, Torn, Torn-same, Torn-overwritten}
use Rattle.zst_file.specs.Event.{Event, read, wrote, synced, gave, took}
use Rattle.zst_file.specs.FileHistory.{put_in, after_call, held_after, IsHonest, MayLeaveCall, MayLeave, LeftSince, is_usable, fitted, length-fitted}

length-put_in : (place : ℕ) (bytes file : List ℕ) → length (put_in place bytes file) ≡ length file
length-put_in place bytes file = elim (cases_Bool (nat_le (place + length bytes) (length file))) [
  | inl inside ↦ rw inside (length-overwritten file place bytes (leb-true _ _ inside))
  | inr outside ↦ rw outside refl
]

length-after : (e : Event) (file : List ℕ) → length (after_call e file) ≡ length file
length-after (wrote place true bytes) file = length-put_in place bytes file
length-after _ file = refl

-- a file keeps its length
pub length-held : (start : List ℕ) (history : List Event) → length (held_after start history) ≡ length start
length-held start [] = refl
length-held start (e ∷ earlier) = length-after e (held_after start earlier) ∙ length-held start earlier

torn_put : (place : ℕ) (bytes file : List ℕ) → Torn place (length bytes) file (put_in place bytes file)
torn_put place bytes file = elim (cases_Bool (nat_le (place + length bytes) (length file))) [
  | inl inside ↦ rw inside (Torn-overwritten file place bytes (leb-true _ _ inside))
  | inr outside ↦ rw outside (Torn-same place (length bytes) file)
]

-- a write changes its range alone
pub torn_write : (place : ℕ) (done : Bool) (bytes file : List ℕ) → Torn place (length bytes) file (after_call (wrote place done bytes) file)
torn_write place true bytes file = torn_put place bytes file
torn_write place false bytes file = Torn-same place (length bytes) file

rests_call : (e : Event) (usable : Bool) (held : List ℕ) (before : List ℕ → Type 0) → before held → MayLeaveCall e usable held before (after_call e held)
rests_call (read place done bytes) usable held before was = was
rests_call (wrote place done bytes) usable held before was = (held, was, torn_write place done bytes held)
rests_call (synced true) true held before was = refl
rests_call (synced true) false held before was = was
rests_call (synced false) usable held before was = was
rests_call (gave room bytes) usable held before was = was
rests_call (took bytes) usable held before was = was

-- what a file holds, a crash may leave
pub rests : (start : List ℕ) (left : List ℕ → Type 0) (history : List Event) → MayLeave start left history (held_after start history)
rests start left [] = inl refl
rests start left (e ∷ earlier) = rests_call e (is_usable earlier) (held_after start earlier) (MayLeave start left earlier) (rests start left earlier)

size_call : (e : Event) (usable : Bool) (size : ℕ) (held : List ℕ) (before : List ℕ → Type 0) → length held ≡ size → ((d : List ℕ) → before d → length d ≡ size)
    → (c : List ℕ) → MayLeaveCall e usable held before c → length c ≡ size
size_call (read place done bytes) usable size held before long was c may = was c may
size_call (wrote place done bytes) usable size held before long was c may = may.2.size ∙ was may.0 may.1
size_call (synced true) true size held before long was c may = ap length may ∙ long
size_call (synced true) false size held before long was c may = was c may
size_call (synced false) usable size held before long was c may = was c may
size_call (gave room bytes) usable size held before long was c may = was c may
size_call (took bytes) usable size held before long was c may = was c may

left_size : (start : List ℕ) (left : List ℕ → Type 0) (history : List Event) (c : List ℕ) → MayLeave start left history c → length c ≡ length start
left_size start left [] c (inl same) = ap length same
left_size start left [] c (inr other) = other.0
left_size start left (e ∷ earlier) c may =
    size_call e (is_usable earlier) (length start) (held_after start earlier) (MayLeave start left earlier) (length-held start earlier) (left_size start left earlier) c may

-- what a read gives is as long as the file was as it was opened
pub length_seen : (size : ℕ) (start : List ℕ) (history : List Event) → length (held_after (fitted size start) history) ≡ size
length_seen size start history = length-held (fitted size start) history ∙ length-fitted size start

-- so is what a crash leaves
pub size_left : (size : ℕ) (start : List ℕ) (left : List ℕ → Type 0) (history : List Event) (c : List ℕ) → MayLeave (fitted size start) left history c → length c ≡ size
size_left size start left history c may = left_size (fitted size start) left history c may ∙ length-fitted size start

-- this moment is one of those since an earlier one
pub since_now : (start : List ℕ) (left : List ℕ → Type 0) (history : List Event) (t : ℕ) (c : List ℕ) → t ≤ length history → MayLeave start left history c → LeftSince start left history t c
since_now start left [] t c le may = (le, may)
since_now start left (e ∷ earlier) t c le may = inl (omega (arith, le), may)

since_before : (start : List ℕ) (left : List ℕ → Type 0) (history : List Event) (t : ℕ) (c : List ℕ) → LeftSince start left history t c → t ≤ length history
since_before start left [] t c since = since.0
since_before start left (e ∷ earlier) t c (inl now) = omega (arith, now.0)
since_before start left (e ∷ earlier) t c (inr before) = let le = since_before start left earlier t c before in omega (arith, le)

-- since this moment there is no other
pub now_only : (start : List ℕ) (left : List ℕ → Type 0) (history : List Event) (c : List ℕ) → LeftSince start left history (length history) c → MayLeave start left history c
now_only start left [] c since = since.1
now_only start left (e ∷ earlier) c (inl now) = now.1
now_only start left (e ∷ earlier) c (inr before) = let le = since_before start left earlier (length (e ∷ earlier)) c before in absurd (omega (arith, le))

-- A file that answers as the model does stays honest, so the hypothesis can be met, whatever the file held.
pub honest_read : (start : List ℕ) (history : List Event) (place count : ℕ) → place + count ≤ length (held_after start history) → IsHonest start history
    → IsHonest start (read place true (bytes_at (held_after start history) place count) ∷ history)
honest_read start history place count inside honest =
    (ap (λ (n : ℕ). bytes_at (held_after start history) place n) (length-bytes_at (held_after start history) place count inside), honest)

-- each other call leaves it honest
pub honest_else : (start : List ℕ) (history : List Event) (place : ℕ) (done : Bool) (bytes : List ℕ) → IsHonest start history
    → IsHonest start (read place false bytes ∷ history) × IsHonest start (wrote place done bytes ∷ history) × IsHonest start (synced done ∷ history)
honest_else start history place done bytes honest = ((tt, honest), (tt, honest), (tt, honest))
