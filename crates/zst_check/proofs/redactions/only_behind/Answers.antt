use Rattle.std.proofs.Common.{◌≡◌, ℕ, ◌+◌, ◌<◌, length, List, Option, Some, None, IfSome, get_or, sym, ◌∙◌, ap, subst, arith}
use Rattle.zst_dir.specs.RowNames.{AreNamed, NamesSnapshot}
use Rattle.zst_dir.specs.declared.rows.Snapshot.{Snapshot as Row}
use Rattle.zst_dir.proofs.Matches.{length-Match}
use Rattle.zst_model.specs.pools.Pool.{Pool, Snapshot}
use Rattle.zst_check.proofs.OnlyPlaces.{PassesOnly, passes_first, passes_none, passes_on}
use Rattle.zst_check.proofs.OwnSnapshots.{is_later, none_of, none_of_two, only_stands, row_named, some_of}
use Rattle.zst_check.proofs.redactions.only_behind.Goals.{then-is_behind+else-is_some, else-is_behind}
use Rattle.zst_check.proofs.redactions.only_behind.Goals as goal

-- what is below a number is below the next
further : (found : Option ℕ) (place : ℕ) → IfSome found (λ n. n < place) → IfSome found (λ n. n < place + 1)
further None place under = tt
further (Some n) place under = omega (arith, under)

pub loop-place-init : goal.loop-place-init
loop-place-init c = record {
  only = λ pool own are names. passes_none (is_later pool own c.args.guid) pool.snapshots;
  inside = tt;
}

pub loop-place-preserved : goal.loop-place-preserved
loop-place-preserved c =
    let place = c.loop-place.place in
    let same = c.snapshots-row-items.ensures in
    let under : place < length c.args.dir.now.snapshots = omega (arith, ap length same) in
    let stands : c.row-item.result ≡ get_or c.args.dir.now.snapshots place c.row-item.result = c.row-item.is ∙ ap (λ (all : List Row). get_or all place c.row-item.result) same in
    let tested = λ (pool : Pool) (own d : Snapshot) (are : AreNamed c.args.dir.now pool) (names : NamesSnapshot c.args.own.now own).
    c.is_behind.ensures pool own (get_or pool.snapshots place d) are names (row_named c.args.dir.now.snapshots pool.snapshots are.snapshots place c.row-item.result stands under d) in
    let was = c.loop-place.invariant in
    elim c.if-is_behind.branch [
      | then-is_behind+else-is_some w ↦
          let none = none_of c.loop-place.found (sym w.is_some.ensures ∙ w.if-is_some.false) in
          rw w.found-is (record {
            only = λ pool own are names.
                passes_first (is_later pool own c.args.guid) pool.snapshots place
                (subst (λ (found : Option ℕ). PassesOnly (is_later pool own c.args.guid) pool.snapshots place found) none (was.only pool own are names))
                (λ d. sym (tested pool own d are names) ∙ w.if-is_behind.true);
            inside = omega arith;
          })
      | else-is_behind w ↦
          rw w.found-is (record {
            only = λ pool own are names. passes_on (is_later pool own c.args.guid) pool.snapshots place c.loop-place.found (was.only pool own are names) (λ d. sym (tested pool own d are names) ∙ w.if-is_behind.false);
            inside = further c.loop-place.found place was.inside;
          })
    ]

pub returns-then-is_some-clause-only : goal.returns-then-is_some-clause-only
returns-then-is_some-clause-only c = λ pool own snapshot are lawful sound there names.
    let place = c.loop-place.place in
    let same = c.snapshots-row-items.ensures in
    let under : place < length c.args.dir.now.snapshots = omega (arith, ap length same) in
    let stands : c.row-item.result ≡ get_or c.args.dir.now.snapshots place c.row-item.result = c.row-item.is ∙ ap (λ (all : List Row). get_or all place c.row-item.result) same in
    let long = length-Match NamesSnapshot c.args.dir.now.snapshots pool.snapshots are.snapshots in
    let found = some_of c.loop-place.found (sym c.is_some.ensures ∙ c.if-is_some.true) in
    let first = subst (λ (o : Option ℕ). PassesOnly (is_later pool own c.args.guid) pool.snapshots place o) found.1 (c.loop-place.invariant.only pool own are names) in
    none_of_two pool lawful sound own there c.args.guid found.0 place first.0 (omega (arith, under, long)) first.1
    (λ d. sym (c.is_behind.ensures pool own (get_or pool.snapshots place d) are names (row_named c.args.dir.now.snapshots pool.snapshots are.snapshots place c.row-item.result stands under d)) ∙ c.if-is_behind.true)
    snapshot

pub returns-clause-only : goal.returns-clause-only
returns-clause-only c = λ pool own snapshot are lawful sound there names.
    let past : c.loop-place.place ≡ length c.args.dir.now.snapshots = omega (arith, ap length c.snapshots-row-items.ensures) in
    let long = length-Match NamesSnapshot c.args.dir.now.snapshots pool.snapshots are.snapshots in
    only_stands pool lawful sound own there c.args.guid c.loop-place.found
    (subst (λ (n : ℕ). PassesOnly (is_later pool own c.args.guid) pool.snapshots n c.loop-place.found) (past ∙ long) (c.loop-place.invariant.only pool own are names)) snapshot
