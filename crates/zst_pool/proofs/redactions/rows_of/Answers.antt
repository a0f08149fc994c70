use Rattle.std.proofs.Common.{◌∙◌, ◌++◌, [], List, sym, ap, subst, arith}
use Rattle.std.specs.List.{All}
use Rattle.zst_dir.specs.Rows.{IsSnapshotRow}
use Rattle.zst_dir.specs.declared.rows.Snapshot.{Snapshot}
use Rattle.zst_pool.specs.Redactions.{rows_of, with_found}
use Rattle.zst_pool.proofs.BookmarkLists.{option_map-same}
use Rattle.zst_pool.proofs.RedactionRows.{gathers_all, gathers_more, rows_lawful}
use Rattle.zst_pool.proofs.redactions.rows_of.Goals as goal

pub loop-name-init : goal.loop-name-init
loop-name-init c = ap (λ (l : List Snapshot). l ++ rows_of c.args.names.now c.args.dir.now) c.new-rows.ensures.items

pub loop-name-preserved : goal.loop-name-preserved
loop-name-preserved c =
    gathers_more c.args.dir.now c.args.names.now c.loop-name.name-index c.name-item.result c.loop-name.rows.items c.push_found.new.rows.items c.loop-name-test.true c.name-item.is
    (c.in_ok-push_found.ensures.pushed ∙ ap (λ o. c.loop-name.rows.items ++ with_found o []) (c.row_of.ensures ∙ option_map-same _)) c.loop-name.invariant

pub returns-clause-rows : goal.returns-clause-rows
returns-clause-rows c = gathers_all c.args.dir.now c.args.names.now c.loop-name.name-index c.loop-name.rows.items (omega arith) c.loop-name.invariant

pub returns-clause-each : goal.returns-clause-each
returns-clause-each c =
    subst (λ (rows : List Snapshot). All IsSnapshotRow rows) (sym (gathers_all c.args.dir.now c.args.names.now c.loop-name.name-index c.loop-name.rows.items (omega arith) c.loop-name.invariant))
    (rows_lawful c.args.dir.now c.datasets-lawful.ensures.lawful.snapshots c.args.names.now)
