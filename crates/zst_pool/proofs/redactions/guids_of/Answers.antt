use Rattle.std.proofs.Common.{◌≡◌, ◌∙◌, ◌-◌, ℕ, length, drop, sym, ap, arith}
use Rattle.zst_model.specs.pools.Step.{with_guid}
use Rattle.zst_dir.specs.declared.rows.Snapshot.{Snapshot}
use Rattle.zst_pool.specs.Redactions.{row_guids}
use Rattle.zst_pool.proofs.RedactionGuids.{guids_all, guids_more, guids_none}
use Rattle.zst_pool.proofs.redactions.guids_of.Goals as goal

pub loop-done-init : goal.loop-done-init
loop-done-init c =
    let rows = c.args.rows.now in
    let all : length rows ≡ length rows - 0 = omega arith in
    c.new-guids.ensures.items ∙ sym (guids_none rows) ∙ ap (λ (n : ℕ). row_guids (drop n rows)) all

pub loop-done-preserved : goal.loop-done-preserved
loop-done-preserved c =
    guids_more c.args.rows.now c.loop-done.done c.index-rows-rows.result c.loop-done.guids.items c.put_guid.new.guids.items c.loop-done-test.true c.index-rows-rows.is c.loop-done.invariant
    (c.in_ok-put_guid.ensures ∙ ap (λ (row : Snapshot). with_guid row.guid c.loop-done.guids.items) (sym c.index-rows-rows.is))

pub returns : goal.returns
returns c = c.loop-done.invariant ∙ guids_all c.args.rows.now c.loop-done.done (omega arith)
