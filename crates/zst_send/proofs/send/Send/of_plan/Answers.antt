use Rattle.std.proofs.Common.{ℕ, List, inl, inr}
use Rattle.std.specs.Prelude.{IfSome}
use Rattle.std.proofs.lemmas.Result.{err_from_is_err_and}
use Rattle.zst_space.specs.FreeSectors.{FreeSectors}
use Rattle.zst_block.specs.Blocks.{Has}
use Rattle.zst_block.proofs.IoCallLemmas.{Looks-then}
use Rattle.zst_model.proofs.Results.{err_is}
use Rattle.zst_objset.proofs.LeafLaws.{look_on}
use Rattle.zst_pool.specs.declared.fault.PoolFault.TheVariants.{OutOfMemory}
use Rattle.zst_send.specs.Openings.{HasListOf, StandsSent}
use Rattle.zst_send.proofs.ListReads.{told_earlier}
use Rattle.zst_send.proofs.SourceLists.{listed_passes, outside_unstarted, unstarted}
use Rattle.zst_send.proofs.send.Send.of_plan.Goals as goal

-- ---- the source's list isn't read or made

pub returns-in_err-listed-clause-starts : goal.returns-in_err-listed-clause-starts
returns-in_err-listed-clause-starts g c = λ running sent honest named is stands.
    let p = err_from_is_err_and c.from_residual.result c.from_residual.ensures.1 in
    rw (p.1, p.2) (unstarted sent c.in_err-listed.field-0.0 (c.in_err-listed.ensures.found running sent.source honest named is.source stands.source_set stands.source))

pub returns-in_err-listed-clause-unlisted : goal.returns-in_err-listed-clause-unlisted
returns-in_err-listed-clause-unlisted g c =
    let p = err_from_is_err_and c.from_residual.result c.from_residual.ensures.1 in
    rw (p.1, p.2) c.in_err-listed.ensures.unlisted

pub returns-in_err-listed-clause-damaged : goal.returns-in_err-listed-clause-damaged
returns-in_err-listed-clause-damaged g c = λ honest.
    let p = err_from_is_err_and c.from_residual.result c.from_residual.ensures.1 in
    rw (p.1, p.2) (λ sector stated found same. inl (c.in_err-listed.ensures.damaged honest sector stated found same))

pub returns-in_err-listed-clause-looks : goal.returns-in_err-listed-clause-looks
returns-in_err-listed-clause-looks g c =
    let p = err_from_is_err_and c.from_residual.result c.from_residual.ensures.1 in
    rw (p.1, p.2) c.in_err-listed.ensures.looks

-- ---- that of the pairs to redact isn't

pub returns-in_err-redact-clause-starts : goal.returns-in_err-redact-clause-starts
returns-in_err-redact-clause-starts g c = λ running sent honest named is stands.
    let p = err_from_is_err_and c.from_residual-in_err-redact.result c.from_residual-in_err-redact.ensures.1 in
    let on = look_on (λ (seen : List ℕ) (space : FreeSectors). IfSome sent.redaction (HasListOf (Has seen space) c.args.dir.now running)) c.in_ok-listed.ensures.looks stands.redaction in
    rw (p.1, p.2) (outside_unstarted sent c.in_err-redact.field-0.0 (c.in_err-redact.ensures.found running sent.redaction honest is.redaction on))

pub returns-in_err-redact-clause-unlisted : goal.returns-in_err-redact-clause-unlisted
returns-in_err-redact-clause-unlisted g c =
    let p = err_from_is_err_and c.from_residual-in_err-redact.result c.from_residual-in_err-redact.ensures.1 in
    rw (p.1, p.2) (inl c.in_err-redact.ensures.unread)

pub returns-in_err-redact-clause-damaged : goal.returns-in_err-redact-clause-damaged
returns-in_err-redact-clause-damaged g c = λ honest.
    let p = err_from_is_err_and c.from_residual-in_err-redact.result c.from_residual-in_err-redact.ensures.1 in
    let told = told_earlier c.in_ok-listed.ensures.looks c.args.dir.now c.args.plan.now.book_t c.in_err-redact.field-0.0 (c.in_err-redact.ensures.damaged honest) in
    rw (p.1, p.2) (λ sector stated found same. inr (told sector stated found same))

pub returns-in_err-redact-clause-looks : goal.returns-in_err-redact-clause-looks
returns-in_err-redact-clause-looks g c =
    let p = err_from_is_err_and c.from_residual-in_err-redact.result c.from_residual-in_err-redact.ensures.1 in
    rw (p.1, p.2) (Looks-then c.in_ok-listed.ensures.looks c.in_err-redact.ensures.looks)

-- ---- no memory is left

pub returns-in_err-buffer-clause-starts : goal.returns-in_err-buffer-clause-starts
returns-in_err-buffer-clause-starts g c = λ running sent honest named is stands.
    let p = err_is c.from_residual-in_err-buffer.result OutOfMemory c.from_residual-in_err-buffer.ensures.1 in
    rw p tt

pub returns-in_err-buffer-clause-unlisted : goal.returns-in_err-buffer-clause-unlisted
returns-in_err-buffer-clause-unlisted g c =
    let p = err_is c.from_residual-in_err-buffer.result OutOfMemory c.from_residual-in_err-buffer.ensures.1 in
    rw p (inl tt)

pub returns-in_err-buffer-clause-damaged : goal.returns-in_err-buffer-clause-damaged
returns-in_err-buffer-clause-damaged g c = λ honest.
    let p = err_is c.from_residual-in_err-buffer.result OutOfMemory c.from_residual-in_err-buffer.ensures.1 in
    rw p (λ sector stated found same. absurd (cc same))

pub returns-in_err-buffer-clause-looks : goal.returns-in_err-buffer-clause-looks
returns-in_err-buffer-clause-looks g c =
    let p = err_is c.from_residual-in_err-buffer.result OutOfMemory c.from_residual-in_err-buffer.ensures.1 in
    rw p (Looks-then c.in_ok-listed.ensures.looks c.in_ok-redact.ensures.looks)

-- ---- it starts

pub returns-clause-starts : goal.returns-clause-starts
returns-clause-starts g c = λ running sent honest named is stands.
    let mid = c.in_ok-redact.ensures.looks.reads.honest honest in
    let on = look_on (λ (seen : List ℕ) (space : FreeSectors). IfSome sent.redaction (HasListOf (Has seen space) c.args.dir.now running)) c.in_ok-listed.ensures.looks stands.redaction in
    let both = Looks-then c.in_ok-listed.ensures.looks c.in_ok-redact.ensures.looks in
    let now = look_on (λ (seen : List ℕ) (space : FreeSectors). StandsSent (Has seen space) c.args.dir.now running sent) both stands in
    let listed = c.in_ok-listed.ensures.found running sent.source mid named is.source stands.source_set stands.source in (
      listed_passes sent listed.1,
      c.planned.ensures.sends _ _ running sent named is now listed.0 (c.in_ok-redact.ensures.found running sent.redaction honest is.redaction on),
    )

pub returns-clause-tight : goal.returns-clause-tight
returns-clause-tight g c = λ image space running sent number runs is. c.planned.ensures.tight image space running sent number runs is

pub returns-clause-set : goal.returns-clause-set
returns-clause-set g c = λ test stands. c.planned.ensures.set test stands

pub returns-clause-looks : goal.returns-clause-looks
returns-clause-looks g c = Looks-then c.in_ok-listed.ensures.looks c.in_ok-redact.ensures.looks
