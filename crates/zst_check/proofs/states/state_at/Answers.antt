use Rattle.std.proofs.Common.{◌≡◌, ℕ, List, ◌-◌, ◌<◌, ◌≤◌, length, Contains, HoldsAt, sym, ap, subst, arith}
use Rattle.zst_block.specs.Blocks.{Has}
use Rattle.zst_dir.specs.declared.rows.Dataset.{Dataset}
use Rattle.zst_dir.specs.declared.rows.Snapshot.{Snapshot}
use Rattle.zst_dir.specs.declared.rows.Partial.{Partial}
use Rattle.zst_check.proofs.StatePlaces.{snapshot_at, head_at, partial_at, none_at}
use Rattle.zst_check.proofs.states.state_at.Goals as goal

pub returns-in-Some-clause-at : goal.returns-in-Some-clause-at
returns-in-Some-clause-at c = λ image space pool runs.
    let same = c.snapshots-snapshots.ensures in
    let found = c.in-Some.ensures.lookup.3 in
    snapshot_at (Has image space) c.args.dir.now pool runs c.args.place c.in-Some.row
    (subst (λ (xs : List Snapshot). c.args.place < length xs) same found.0)
    (subst (λ (xs : List Snapshot). HoldsAt (λ x. c.in-Some.row.now ≡ x) xs c.args.place) same found.1)

pub returns-in-Some-get-clause-at : goal.returns-in-Some-get-clause-at
returns-in-Some-get-clause-at c = λ image space pool runs.
    let place = c.args.place in
    let row = c.in-Some-get.row in
    let before = c.snapshots-snapshots.ensures in
    let same = c.datasets-datasets.ensures.same in
    let found = c.in-Some-get.ensures.lookup.3 in
    head_at (Has image space) c.args.dir.now pool runs place row
    (subst (λ (xs : List Snapshot). length xs ≤ place) before c.in_default.ensures.lookup.3)
    (subst (λ (xs : List Snapshot). place - length xs < length c.args.dir.now.datasets) before (subst (λ (ys : List Dataset). place - length c.snapshots-snapshots.result.now < length ys) same found.0))
    (subst (λ (xs : List Snapshot). HoldsAt (λ y. row.now ≡ y) c.args.dir.now.datasets (place - length xs)) before
    (subst (λ (ys : List Dataset). HoldsAt (λ y. row.now ≡ y) ys (place - length c.snapshots-snapshots.result.now)) same found.1))

pub returns-in-Some-get-2-clause-at : goal.returns-in-Some-get-2-clause-at
returns-in-Some-get-2-clause-at c = λ image space pool runs.
    let place = c.args.place in
    let row = c.in-Some-get-2.row in
    let before = c.snapshots-snapshots.ensures in
    let heads = c.datasets-datasets.ensures.same in
    let same = c.partials.ensures in
    let found = c.in-Some-get-2.ensures.lookup.3 in
    partial_at (Has image space) c.args.dir.now pool runs place row
    (subst (λ (xs : List Snapshot). length xs ≤ place) before c.in_default.ensures.lookup.3)
    (subst (λ (xs : List Snapshot). length c.args.dir.now.datasets ≤ place - length xs) before
    (subst (λ (ys : List Dataset). length ys ≤ place - length c.snapshots-snapshots.result.now) heads c.in_default-get.ensures.lookup.3))
    (subst (λ (xs : List Snapshot). place - length xs - length c.args.dir.now.datasets < length c.args.dir.now.partials) before
    (subst (λ (ys : List Dataset). place - length c.snapshots-snapshots.result.now - length ys < length c.args.dir.now.partials) heads
    (subst (λ (zs : List Partial). place - length c.snapshots-snapshots.result.now - length c.datasets-datasets.result.now < length zs) same found.0)))
    (subst (λ (xs : List Snapshot). HoldsAt (λ z. row.now ≡ z) c.args.dir.now.partials (place - length xs - length c.args.dir.now.datasets)) before
    (subst (λ (ys : List Dataset). HoldsAt (λ z. row.now ≡ z) c.args.dir.now.partials (place - length c.snapshots-snapshots.result.now - length ys)) heads
    (subst (λ (zs : List Partial). HoldsAt (λ z. row.now ≡ z) zs (place - length c.snapshots-snapshots.result.now - length c.datasets-datasets.result.now)) same found.1)))

pub returns-in-None-clause-at : goal.returns-in-None-clause-at
returns-in-None-clause-at c = λ image space pool runs.
    let place = c.args.place in
    let before = c.snapshots-snapshots.ensures in
    let heads = c.datasets-datasets.ensures.same in
    none_at (Has image space) c.args.dir.now pool runs place
    (subst (λ (xs : List Snapshot). length xs ≤ place) before c.in_default.ensures.lookup.3)
    (subst (λ (xs : List Snapshot). length c.args.dir.now.datasets ≤ place - length xs) before
    (subst (λ (ys : List Dataset). length ys ≤ place - length c.snapshots-snapshots.result.now) heads c.in_default-get.ensures.lookup.3))
    (subst (λ (xs : List Snapshot). length c.args.dir.now.partials ≤ place - length xs - length c.args.dir.now.datasets) before
    (subst (λ (ys : List Dataset). length c.args.dir.now.partials ≤ place - length c.snapshots-snapshots.result.now - length ys) heads
    (subst (λ (zs : List Partial). length zs ≤ place - length c.snapshots-snapshots.result.now - length c.datasets-datasets.result.now) c.partials.ensures c.in-None.ensures.lookup.3)))

-- what stands at a place below the length of a list is contained in it
contained : {A : Type 0} (xs ys : List A) (place : ℕ) (x : A) → xs ≡ ys → place < length xs → HoldsAt (λ y. x ≡ y) xs place → Contains ys x
contained {A = A} xs ys place x same under at = subst (λ (zs : List A). Contains zs x) same (place, under, sym (at x))

pub returns-in-Some-clause-own : goal.returns-in-Some-clause-own
returns-in-Some-clause-own c =
    let found = c.in-Some.ensures.lookup.3 in
    contained c.snapshots-snapshots.result.now c.args.dir.now.snapshots c.args.place c.in-Some.row.now c.snapshots-snapshots.ensures found.0 found.1

pub returns-in-Some-get-clause-own : goal.returns-in-Some-get-clause-own
returns-in-Some-get-clause-own c =
    let found = c.in-Some-get.ensures.lookup.3 in
    contained c.datasets-datasets.result.now c.args.dir.now.datasets (c.args.place - length c.snapshots-snapshots.result.now) c.in-Some-get.row.now c.datasets-datasets.ensures.same found.0 found.1

pub returns-in-Some-get-2-clause-own : goal.returns-in-Some-get-2-clause-own
returns-in-Some-get-2-clause-own c =
    let found = c.in-Some-get-2.ensures.lookup.3 in
    contained c.partials.result.now c.args.dir.now.partials (c.args.place - length c.snapshots-snapshots.result.now - length c.datasets-datasets.result.now) c.in-Some-get-2.row.now c.partials.ensures found.0 found.1

pub returns-in-Some-clause-under : goal.returns-in-Some-clause-under
returns-in-Some-clause-under c =
    let found = c.in-Some.ensures.lookup.3.0 in
    let same = ap length c.snapshots-snapshots.ensures in
    let small = c.snapshots-snapshots.type_inv.1 in
    (omega (arith, found, same), omega (arith, found, small))

pub returns-in-Some-get-clause-under : goal.returns-in-Some-get-clause-under
returns-in-Some-get-clause-under c =
    let found = c.in-Some-get.ensures.lookup.3.0 in
    let before = ap length c.snapshots-snapshots.ensures in
    let same = ap length c.datasets-datasets.ensures.same in
    let few = c.snapshots-snapshots.type_inv.1 in
    let small = c.datasets-datasets.type_inv.1 in
    (omega (arith, found, before, same), omega (arith, found, few, small))

pub returns-in-Some-get-2-clause-under : goal.returns-in-Some-get-2-clause-under
returns-in-Some-get-2-clause-under c =
    let found = c.in-Some-get-2.ensures.lookup.3.0 in
    let before = ap length c.snapshots-snapshots.ensures in
    let heads = ap length c.datasets-datasets.ensures.same in
    let same = ap length c.partials.ensures in
    let few = c.snapshots-snapshots.type_inv.1 in
    let fewer = c.datasets-datasets.type_inv.1 in
    let small = c.partials.type_inv.1 in
    (omega (arith, found, before, heads, same), omega (arith, found, few, fewer, small))
