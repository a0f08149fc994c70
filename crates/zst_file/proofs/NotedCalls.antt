-- What a call that was noted makes of the disk.
use Rattle.std.proofs.Common.{refl, ◌≡◌, inl, inr, ℕ, ◌+◌, ◌≤◌, Bool, true, false, List, ◌∷◌, length, Result, Ok, Err, OnOk, is_ok, sym, ◌∙◌, subst, arith}
use Rattle.std.proofs.lemmas.Bool.{le-leb}
use Rattle.zst_outside.specs.Images.{DiskState, Leaves, OnlyReads, WritesIn, TornImage, Leaves-weaker}
use Rattle.zst_outside.specs.Ranges.{bytes_at, bytes_at-overwritten}
use Rattle.zst_file.specs.Event.{Event, wrote, synced}
use Rattle.zst_file.specs.FileHistory.{held_after, is_usable, fitted, file_state, length-fitted}
use Rattle.zst_file.specs.Laws.{length-held, rests, torn_write}

module _ (start : List ℕ) (left : List ℕ → Type 0) (size calls calls' faults faults' : ℕ) (earlier : List Event) where
  abbrev old : DiskState
  old = file_state start left size calls faults earlier

  abbrev after : Event → DiskState
  after e = file_state start left size calls' faults' (e ∷ earlier)

  leaves : (e : Event) → Leaves old (after e) (after e).images
  leaves e = record {
    later = omega arith;
    adds = λ t c le since. elim since [
      | inl now ↦ inr now.1
      | inr before ↦ inl before
    ];
  }

  writes : (place : ℕ) (done : Bool) (bytes : List ℕ) → WritesIn place (length bytes) old (after (wrote place done bytes))
  writes place done bytes =
      let crash : (c : List ℕ) → (after (wrote place done bytes)).images c → TornImage place (length bytes) old c = λ c image. image in
      record {
        size = refl;
        seen = torn_write place done bytes (held_after (fitted size start) earlier);
        honest = λ is. (is.0, is.1.1);
        crash = crash;
        time = Leaves-weaker old (after (wrote place done bytes)) (after (wrote place done bytes)).images (TornImage place (length bytes) old) (leaves (wrote place done bytes)) crash;
        kept = λ t c le since. inr since;
      }

  stands : (place : ℕ) (bytes : List ℕ) → place + length bytes ≤ size → bytes_at (after (wrote place true bytes)).seen place (length bytes) ≡ bytes
  stands place bytes inside =
      let file = held_after (fitted size start) earlier in
      let long : length file ≡ size = length-held (fitted size start) earlier ∙ length-fitted size start in
      let fits : place + length bytes ≤ length file = omega (arith, long, inside) in
      rw (le-leb _ _ fits) (bytes_at-overwritten file place bytes fits)

  syncs_crash : (done usable : Bool) (c : List ℕ) → is_usable earlier ≡ usable → (after (synced done)).images c → old.images c
  syncs_crash true true c is image = subst (λ (d : List ℕ). old.images d) (sym (rw is at image)) (rests (fitted size start) left earlier)
  syncs_crash true false c is image = rw is at image
  syncs_crash false usable c is image = image

  syncs : (done : Bool) → OnlyReads old (after (synced done))
  syncs done = record {
    size = refl;
    seen = refl;
    honest = λ is. (is.0, is.1.1);
    crash = λ c image. syncs_crash done (is_usable earlier) c refl image;
    time = Leaves-weaker old (after (synced done)) (after (synced done)).images old.images (leaves (synced done)) (λ c image. syncs_crash done (is_usable earlier) c refl image);
    kept = λ t c le since. inr since;
  }

-- a write changes its range alone
pub noted_write : (start : List ℕ) (left : List ℕ → Type 0) (size calls calls' faults faults' : ℕ) (earlier history : List Event) (place : ℕ) (done : Bool) (bytes : List ℕ)
    → history ≡ wrote place done bytes ∷ earlier
    → WritesIn place (length bytes) (file_state start left size calls faults earlier) (file_state start left size calls' faults' history)
noted_write start left size calls calls' faults faults' earlier history place done bytes noted =
    rw noted (writes start left size calls calls' faults faults' earlier place done bytes)

-- what was written stands there
pub noted_success : {T E : Type 0} (result : Result T E) (start : List ℕ) (size : ℕ) (earlier history : List Event) (place : ℕ) (done : Bool) (bytes : List ℕ)
    → history ≡ wrote place done bytes ∷ earlier → is_ok result ≡ done → place + length bytes ≤ size
    → OnOk result (bytes_at (held_after (fitted size start) history) place (length bytes) ≡ bytes)
noted_success (Ok value) start size earlier history place done bytes noted is inside =
    rw (noted, ← is) (stands start (λ c. ⊥) size 0 0 0 0 earlier place bytes inside)
noted_success (Err fault) start size earlier history place done bytes noted is inside = tt

-- a sync changes nothing that a read gives
pub noted_sync : (start : List ℕ) (left : List ℕ → Type 0) (size calls calls' faults faults' : ℕ) (earlier history : List Event) (done : Bool)
    → history ≡ synced done ∷ earlier
    → OnlyReads (file_state start left size calls faults earlier) (file_state start left size calls' faults' history)
noted_sync start left size calls calls' faults faults' earlier history done noted =
    rw noted (syncs start left size calls calls' faults faults' earlier done)
