-- The number and the text of each fault of a plan.
use Rattle.std.specs.Prelude.{ℕ, List, [], ◌∷◌, codes, decimal}
use Rattle.std.specs.List.{concat}
use Rattle.zst_model.specs.refusals.Faults.{lack_text, quantity_text}
use Rattle.zst_model.specs.refusals.Subjects.{name_text, missing_text, present_text, holder_text, place_text}
use Rattle.zst_model.specs.refusals.Texts.{guid_text}
use Rattle.zst_model.specs.declared.refusals.plan_fault.PlanFault.{PlanFault}
use Rattle.zst_model.specs.declared.refusals.plan_fault.PlanFault.TheVariants as faults

-- the number of a plan's fault
abbrev pub plan_number : PlanFault → ℕ
plan_number (faults.BadName place) = 2
plan_number (faults.NoSuch missing) = 3
plan_number (faults.Exists present) = 4
plan_number (faults.Busy holder) = 5
plan_number (faults.NotAncestor to from) = 6
plan_number (faults.NotRedactionOf bookmark snapshot) = 7
plan_number (faults.NotDescendant snapshot) = 8
plan_number (faults.Modified dataset) = 9
plan_number (faults.NotLatest have want) = 10
plan_number (faults.NoOrigin guid) = 11
plan_number (faults.NotContained guid) = 12
plan_number (faults.PartialExists dataset) = 13
plan_number (faults.NoPartial dataset) = 14
plan_number (faults.WrongResume have want) = 15
plan_number (faults.Unsupported lack) = 19
plan_number (faults.Limit which number) = 23

-- the text of a plan's fault
unfoldable pub plan_text : PlanFault → List ℕ
plan_text (faults.BadName place) = concat (codes "bad name at " ∷ decimal place ∷ [])
plan_text (faults.NoSuch missing) = missing_text missing
plan_text (faults.Exists present) = present_text present
plan_text (faults.Busy holder) = holder_text holder
plan_text (faults.NotAncestor to from) = concat (codes "not an ancestor of " ∷ name_text to ∷ codes ": " ∷ name_text from ∷ [])
plan_text (faults.NotRedactionOf bookmark snapshot) = concat (codes "not a redaction of " ∷ snapshot ∷ codes ": " ∷ bookmark ∷ [])
plan_text (faults.NotDescendant snapshot) = concat (codes "not a descendant: " ∷ snapshot ∷ [])
plan_text (faults.Modified dataset) = concat (codes "modified: " ∷ dataset ∷ [])
plan_text (faults.NotLatest have want) = concat (codes "not latest: have " ∷ guid_text have ∷ codes ", want " ∷ guid_text want ∷ [])
plan_text (faults.NoOrigin guid) = concat (codes "no origin with guid " ∷ guid_text guid ∷ [])
plan_text (faults.NotContained guid) = concat (codes "not contained: guid " ∷ guid_text guid ∷ [])
plan_text (faults.PartialExists dataset) = concat (codes "partial exists: " ∷ dataset ∷ [])
plan_text (faults.NoPartial dataset) = concat (codes "no partial: " ∷ dataset ∷ [])
plan_text (faults.WrongResume have want) = concat (codes "wrong resume: have " ∷ place_text have ∷ codes ", want " ∷ place_text want ∷ [])
plan_text (faults.Unsupported lack) = concat (codes "unsupported: " ∷ lack_text lack ∷ [])
plan_text (faults.Limit which number) = concat (codes "limit: " ∷ quantity_text which ∷ codes " " ∷ decimal number ∷ [])
