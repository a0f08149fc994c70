-- Which numbers a walk over all numbers passes over: those without objects.
use Rattle.std.proofs.Common.{◌≡◌, ℕ, ◌^◌, ◌≤◌, true, false, refl, sym, ◌∙◌, ap, ⊎_elim, arith, []}
use Rattle.std.specs.Prelude.{Option, Some, None}
use Rattle.std.proofs.lemmas.Bool.{and_from, cases_Bool, cases_lt, false≢true}
use Rattle.zst_model.specs.fields.Lists.{has_pair}
use Rattle.zst_model.specs.pools.RedSet.{is_unreadable, redacted_pairs}
use Rattle.zst_model.specs.sends.Inclusion.{includes_number}
use Rattle.zst_model.specs.states.DatedState.{DatedState}
use Rattle.zst_model.specs.states.State.{IsState, Object, is_number, number_bound}
use Rattle.zst_model.proofs.ObjectNumbers.{absent_outside}
use Rattle.zst_tree.specs.Indices.{Blocks}
use Rattle.zst_objset.specs.Dnodes.{outside}
use Rattle.zst_traverse.specs.Cells.{choice_with, FoundFits, IsNextCellIn}
use Rattle.zst_traverse.specs.declared.walk_entry.WalkEntry.{WalkEntry}
use Rattle.zst_traverse.specs.declared.walk_entry.WalkEntry.TheVariants as found
use Rattle.zst_redact.specs.Passes.{PassesNumbers}
use Rattle.zst_redact.specs.Wanted.{reached}

module _ (has : Blocks) (state : DatedState) (lawful : IsState state.state) where
  -- what isn't included where all numbers are is no number, and has no object
  passed_absent : (k : ℕ) → includes_number state (choice_with None [] []) k ≡ false → state.state k ≡ None
  unfolding includes_number
  passed_absent k none = ⊎_elim
      (λ is. absurd (false≢true (sym none ∙ and_from (is_number k) true is refl)))
      (λ isnt. absent_outside state.state lawful k isnt)
      (cases_Bool (is_number k))

  absent_none : (k i : ℕ) → state.state k ≡ None → redacted_pairs state.state k i ≡ false
  absent_none k i none = ap (λ (o : Option Object). is_unreadable o i) none

  pub walk_ends : (from offset : ℕ) → IsNextCellIn has (outside (has_pair []) has) state (choice_with None [] []) (record { object = from; offset = offset }) true None → PassesNumbers (redacted_pairs state.state) from None
  walk_ends from offset next = λ k i on. absent_none k i (⊎_elim (λ under. passed_absent k (next.1 k on under)) (λ over. lawful.bounded k over) (cases_lt k number_bound))

  pub walk_passes : (from offset : ℕ) (entry : WalkEntry) → IsNextCellIn has (outside (has_pair []) has) state (choice_with None [] []) (record { object = from; offset = offset }) true (Some entry)
      → PassesNumbers (redacted_pairs state.state) from (Some (reached entry))
  walk_passes from offset (found.Object at dnode) next = λ k i on under. absent_none k i (passed_absent k (next.1.none_before k on under))
  walk_passes from offset (found.Gone first count) next = λ k i on under. absent_none k i (⊎_elim (λ before. passed_absent k (next.1.none_before k on before)) (λ behind. next.1.absent k behind under) (cases_lt k first))
  walk_passes from offset (found.Pairs object first count what ptr) next = absurd (false≢true (sym next.0))

-- whatever the image, a walk reaches a number at or after its point, or the end of all numbers
pub walk_reaches : (from offset : ℕ) (entry : WalkEntry) → FoundFits (record { object = from; offset = offset }) entry → (from ≤ reached entry) × (reached entry ≤ 2 ^ 48)
walk_reaches from offset (found.Object at dnode) fits = (fits.1, let under = fits.2 in omega (arith, under))
walk_reaches from offset (found.Gone first count) fits = (let on = fits.1 in omega (arith, on), fits.3)
walk_reaches from offset (found.Pairs object first count what ptr) fits = (let same = fits.2 in omega (arith, same), let under = fits.1 in omega (arith, under))
