-- What is planned in small pools, and what is refused there.
use Rattle.std.specs.Prelude.{◌≡◌, ℕ, List, [], ◌∷◌, Option, Some, None, Ok, Err, codes}
use Rattle.zst_model.specs.declared.refusals.faults.Lack.TheVariants.{Relay}
use Rattle.zst_model.specs.declared.refusals.subjects.AbsentSubject.TheVariants.{Named}
use Rattle.zst_model.specs.declared.refusals.subjects.Name.TheVariants as names
use Rattle.zst_model.specs.declared.refusals.plan_fault.PlanFault.{PlanFault}
use Rattle.zst_model.specs.declared.refusals.plan_fault.PlanFault.TheVariants.{NoSuch, NotAncestor, NotRedactionOf, Unsupported}
use Rattle.zst_model.specs.declared.refusals.refusal.Refusal.TheVariants.{Plan}
use Rattle.zst_model.specs.declared.sends.ask.FromName.{FromName}
use Rattle.zst_model.specs.declared.sends.ask.FromName.TheVariants.{Snap, Book}
use Rattle.zst_model.specs.declared.sends.ask.SendAsk.{SendAsk}
use Rattle.zst_model.specs.pools.Ancestry.{OfSnapshot, OfBookmark}
use Rattle.zst_model.specs.pools.Pool.{Pool, Snapshot, Bookmark}
use Rattle.zst_model.specs.sends.Headers.{flags_of}
use Rattle.zst_model.specs.sends.SendPlan.{send_plan}
use Rattle.zst_laws.specs.CloneExample.{clones, first, second, inner, of_first}
use Rattle.zst_laws.specs.FileExample.{small, rewritten}
use Rattle.zst_laws.specs.HeaderExample.{of_files}
use Rattle.zst_laws.specs.LineageExample.{Says, first_taken, mark, second_taken, taken, tank_with}

-- a send of this snapshot, from this source or from nothing
abbrev pub asked : List ℕ → Option FromName → SendAsk
asked snap from = record { snap = snap; from = from; redact = None }

-- a full send of it, redacted by this bookmark
abbrev pub asked_redacted : List ℕ → List ℕ → SendAsk
asked_redacted snap redact = record { snap = snap; from = None; redact = Some redact }

abbrev pub no_such_bookmark : PlanFault
no_such_bookmark = NoSuch (Named (names.Bookmark (codes "tank/a#m")))

abbrev pub no_such_snapshot : PlanFault
no_such_snapshot = NoSuch (Named (names.Snapshot (codes "tank/z@s")))

abbrev pub not_before_first : PlanFault
not_before_first = NotAncestor (names.Snapshot (codes "tank/a@s1")) (names.Snapshot (codes "tank/a@s2"))

-- `tank/a` with two snapshots and a bookmark of the second
abbrev pub marked : ℕ → Pool
marked now = tank_with 8 2 rewritten (first_taken now ∷ second_taken now ∷ []) (mark (second_taken now) ∷ [])

-- an increment is planned from the earlier snapshot; a later one, and the same one, is refused (E6), as is what isn't there (E3)
abbrev pub SnapshotsArePlanned : Type 0
SnapshotsArePlanned =
    (now : ℕ)
    → (send_plan (asked (codes "tank/a@s1") None) (marked now) ≡ Ok (of_files (first_taken now) None None))
    × (send_plan (asked (codes "tank/a@s2") (Some (Snap (codes "tank/a@s1")))) (marked now) ≡ Ok (of_files (second_taken now) (Some (OfSnapshot (first_taken now))) None))
    × (send_plan (asked (codes "tank/a@s1") (Some (Snap (codes "tank/a@s2")))) (marked now) ≡ Err not_before_first)
    × (send_plan (asked (codes "tank/a@s1") (Some (Snap (codes "tank/a@s1")))) (marked now)
    ≡ Err (NotAncestor (names.Snapshot (codes "tank/a@s1")) (names.Snapshot (codes "tank/a@s1"))))
    × (send_plan (asked (codes "tank/a@s2") (Some (Book (codes "tank/a#m")))) (marked now)
    ≡ Err (NotAncestor (names.Snapshot (codes "tank/a@s2")) (names.Bookmark (codes "tank/a#m"))))
    × (send_plan (asked (codes "tank/z@s") None) (marked now) ≡ Err no_such_snapshot)
    × (send_plan (asked (codes "tank/a@s1") (Some (Snap (codes "tank/z@s")))) (marked now) ≡ Err no_such_snapshot)

-- a snapshot that was made after a rollback took the bookmark with it, and one that was made while the bookmark was there
abbrev pub third_taken : ℕ → ℕ → Snapshot
third_taken now number = taken (codes "tank/a@s3") 4294967299 now number small

-- after the rollback the bookmark isn't there (E3); without it an increment is sent from the bookmark, though its snapshot is gone
abbrev pub BookmarksArePlanned : Type 0
BookmarksArePlanned =
    (now : ℕ)
    → (send_plan (asked (codes "tank/a@s3") (Some (Book (codes "tank/a#m")))) (tank_with 11 3 small (first_taken now ∷ third_taken now 11 ∷ []) []) ≡ Err no_such_bookmark)
    × (send_plan (asked (codes "tank/a@s3") (Some (Book (codes "tank/a#m")))) (tank_with 10 3 small (first_taken now ∷ third_taken now 10 ∷ []) (mark (second_taken now) ∷ []))
    ≡ Ok (of_files (third_taken now 10) (Some (OfBookmark (mark (second_taken now)))) None))

-- the texts of these refusals
abbrev pub PlansAreTold : Type 0
PlansAreTold =
    Says (Plan no_such_bookmark) 3 (codes "no such tank/a#m")
    × Says (Plan no_such_snapshot) 3 (codes "no such tank/z@s")
    × Says (Plan not_before_first) 6 (codes "not an ancestor of tank/a@s1: tank/a@s2")

-- a clone's snapshot is sent from the clone's origin, or from a bookmark of it, and has CLONE, which is 1; not from what came after the origin
abbrev pub ClonesArePlanned : Type 0
ClonesArePlanned =
    (send_plan (asked inner.name (Some (Snap first.name))) clones ≡ Ok (of_files inner (Some (OfSnapshot first)) None))
    × (send_plan (asked inner.name (Some (Book of_first.name))) clones ≡ Ok (of_files inner (Some (OfBookmark of_first)) None))
    × (send_plan (asked inner.name (Some (Snap second.name))) clones ≡ Err (NotAncestor (names.Snapshot inner.name) (names.Snapshot second.name)))
    × (flags_of (of_files inner (Some (OfSnapshot first)) None) ≡ 13)

-- a redaction bookmark of the first snapshot of the clones' pool, and of its guid at another number
abbrev pub redacting : List ℕ → Bookmark
redacting guids = record { name = codes "tank/a#r"; guid = first.guid; time = 0; number = 3; redact = guids; runs = [] }

-- `clones` with the bookmark, and with the redaction guids of its first snapshot
abbrev pub clones_with : Bookmark → List ℕ → Pool
clones_with bookmark guids = record clones { snapshots = record first { redact = guids } ∷ second ∷ inner ∷ []; bookmarks = bookmark ∷ [] }

-- the first snapshot as it stands there with redaction guids
abbrev pub redacted_first : Snapshot
redacted_first = record first { redact = 9 ∷ [] }

-- a redacted send wants a bookmark with redaction guids and the snapshot's guid (E7); a redacted snapshot is sent on, and sent from, but isn't redacted once more (E19)
abbrev pub RedactedArePlanned : Type 0
RedactedArePlanned =
    (send_plan (asked_redacted first.name (codes "tank/a#r")) (clones_with (redacting (7 ∷ [])) []) ≡ Ok (of_files first None (Some (redacting (7 ∷ [])))))
    × (send_plan (asked_redacted first.name (codes "tank/a#r")) (clones_with (redacting []) []) ≡ Err (NotRedactionOf (codes "tank/a#r") first.name))
    × (send_plan (asked_redacted second.name (codes "tank/a#r")) (clones_with (redacting (7 ∷ [])) []) ≡ Err (NotRedactionOf (codes "tank/a#r") second.name))
    × (send_plan (asked first.name None) (clones_with (redacting (7 ∷ [])) (9 ∷ [])) ≡ Ok (of_files redacted_first None None))
    × (send_plan (asked inner.name (Some (Snap first.name))) (clones_with (redacting (7 ∷ [])) (9 ∷ [])) ≡ Ok (of_files inner (Some (OfSnapshot redacted_first)) None))
    × (send_plan (asked_redacted first.name (codes "tank/a#r")) (clones_with (redacting (7 ∷ [])) (9 ∷ [])) ≡ Err (Unsupported Relay))
