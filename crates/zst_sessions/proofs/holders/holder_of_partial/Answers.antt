use Rattle.std.proofs.Common.{◌≡◌, ℕ, Bool, false, cond, not, Option, None, is_some, bytes_eq, sym, ap, ◌∙◌}
use Rattle.std.specs.List.{position}
use Rattle.zst_dir.specs.declared.rows.Partial.{Partial}
use Rattle.zst_model.specs.pools.Sessions.{session_into}
use Rattle.zst_sessions.proofs.HeldThings.{none_for, partial_busy}
use Rattle.zst_sessions.specs.EngineSteps.{coded_held}
use Rattle.zst_sessions.proofs.holders.holder_of_partial.Goals as goal
use Rattle.zst_sessions.proofs.holders.holder_of_partial.Goals.{Then-is_none}

-- no row of the target was found
is_absent : (c : Then-is_none) → is_some (position (λ (partial : Partial). bytes_eq partial.target c.args.target.now) c.args.dir.now.partials) ≡ false
is_absent c = ap (λ (o : Option ℕ). is_some o) (sym c.partial.ensures) ∙ c.is_none.ensures ∙ ap not c.if-is_none.true

pub returns-then-is_none-clause-busy : goal.returns-then-is_none-clause-busy
returns-then-is_none-clause-busy c = λ sends running are.
    let held = coded_held c.args.side sends c.args.receives.now in
    ap (λ (b : Bool). cond b (session_into c.args.target.now held) None) (sym (is_absent c)) ∙ partial_busy c.args.dir.now running are held c.args.target.now

pub returns-then-is_none-clause-claimed : goal.returns-then-is_none-clause-claimed
returns-then-is_none-clause-claimed c = λ is there. absurd (there (none_for c.args.target.now c.args.dir.now.partials (is_absent c)))

pub returns-clause-busy : goal.returns-clause-busy
returns-clause-busy c = λ sends running are.
    let held = coded_held c.args.side sends c.args.receives.now in
    c.session_into.ensures.into sends
    ∙ ap (λ (b : Bool). cond b (session_into c.args.target.now held) None) (sym (ap not c.if-is_none.false) ∙ sym c.is_none.ensures ∙ ap (λ (o : Option ℕ). is_some o) c.partial.ensures)
    ∙ partial_busy c.args.dir.now running are held c.args.target.now
