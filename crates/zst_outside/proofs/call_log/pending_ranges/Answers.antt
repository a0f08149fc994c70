use Rattle.std.proofs.Common.{◌∙◌, ◌++◌, ◌∷◌, [], take, ap, sym, List, ℕ}
use Rattle.std.proofs.lemmas.List.{take_more}
use Rattle.zst_outside.specs.CallLog.{pending, pending_after}
use Rattle.zst_outside.specs.declared.call_log.Entry.{Entry}
use Rattle.zst_outside.proofs.CallLogLemmas.{pending-push}
use Rattle.zst_outside.proofs.call_log.pending_ranges.Goals as goal

pub loop-entry-preserved : goal.loop-entry-preserved
loop-entry-preserved c =
    let log = c.args.log.now in
    let i = c.loop-entry.entry-index in
    c.in_ok-add_pending.ensures
    ∙ ap (λ (r : List (ℕ × ℕ)). pending_after r c.entry-item.result.call) c.loop-entry.invariant
    ∙ sym (pending-push [] (take i log) c.entry-item.result)
    ∙ ap (λ (x : Entry). pending [] (take i log ++ x ∷ [])) c.entry-item.is
    ∙ ap (pending []) (sym (take_more log i c.entry-item.result c.loop-entry-test.true))
