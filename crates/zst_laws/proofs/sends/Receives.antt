-- A receive that is cut and resumed, any number of times.
use Rattle.std.proofs.Common.{◌≡◌, List, [], ◌∷◌, Some, Ok, sym, ◌∙◌}
use Rattle.zst_model.specs.declared.states.item.Item.{Item}
use Rattle.zst_model.specs.states.State.{State, no_objects}
use Rattle.zst_model.specs.sends.Inclusion.{Choice}
use Rattle.zst_model.specs.sends.View.{View, IsView, view_of}
use Rattle.zst_model.specs.sends.Items.{origin}
use Rattle.zst_model.specs.sends.Points.{point_of}
use Rattle.zst_model.specs.sends.Target.{target, redacted}
use Rattle.zst_model.proofs.Results.{ok_parts}
use Rattle.zst_laws.specs.ExactSends.{full}
use Rattle.zst_laws.specs.Sessions.{Receives, CutsAreExact, CutsComplete, FullCutsAreExact, IncrementCutsAreExact}
use Rattle.zst_laws.proofs.sends.CutSends.{cut_stand, start_stand}
use Rattle.zst_laws.proofs.sends.ExactSends.{full_exact, view_is_view}
use Rattle.zst_laws.proofs.histories.Increments.{history_remembered, increment_exact}
use Rattle.zst_laws.proofs.sends.ResumedSends.{resume_exact}

pub cuts_exact : CutsAreExact
cuts_exact view base point x [] whole v stands receives = sym (resume_exact view base point x v stands) ∙ receives
cuts_exact view base point x (done ∷ later) whole v stands receives =
    cuts_exact view base (point_of point done) receives.1 later whole v
    (cut_stand view base point x done receives.0 receives.1 v stands receives.2 receives.3) receives.4

pub cuts_completed : CutsComplete
cuts_completed view base point x v stands = (stands.whole, resume_exact view base point x v stands ∙ stands.is_target)

-- from the start, a receive has what the send gives
from_start : (view : View) (base whole given : State) (cuts : List (List Item)) → IsView view → target view base ≡ Ok given → Receives view origin base cuts whole → whole ≡ given
from_start view base whole given cuts v exact receives =
    ok_parts _ _ (sym (cuts_exact view base origin base cuts whole v (start_stand view base given v exact) receives) ∙ exact)

pub full_cuts_exact : FullCutsAreExact
full_cuts_exact header snap redact cuts whole s can receives =
    from_start (view_of header snap (full redact)) no_objects whole (redacted snap.state redact) cuts
    (view_is_view header snap (full redact) s can) (full_exact header snap redact s can) receives

pub increment_cuts_exact : IncrementCutsAreExact
increment_cuts_exact header snap after number commits source redact cuts whole s later applied can receives =
    let choice : Choice = record { from = Some number; source = source; redact = redact } in
    let found = history_remembered snap after number commits s later applied in
    from_start (view_of header after choice) snap.state whole (redacted after.state redact) cuts
    (view_is_view header after choice found.0 can) (increment_exact header snap after number commits source redact s later applied can) receives
