-- Which indices of an object are data that each of some states dates after a number.
use Rattle.std.proofs.Common.{◌≡◌, ℕ, Bool, true, refl, sym, subst, ◌∙◌, arith, List}
use Rattle.std.specs.Prelude.{None}
use Rattle.std.proofs.lemmas.Bool.{and_from, and_left, and_right}
use Rattle.zst_model.specs.pools.RedSet.{is_data}
use Rattle.zst_model.specs.states.DatedState.{DatedState}
use Rattle.zst_model.specs.states.State.{Object}
use Rattle.zst_redact.specs.Passes.{AheadFits, PassesTo, StopsAt, TellsAhead, are_data, are_late, first_alone}
use Rattle.zst_redact.specs.Wanted.{is_of_kind}
use Rattle.zst_redact.specs.declared.ahead.Ahead.{Ahead}
use Rattle.zst_redact.specs.declared.ahead.Ahead.TheVariants.{Here, Later, Never}
use Rattle.zst_redact.proofs.PointerKinds.{data_kind}

-- whatever the images, one of those that pass stands below the end
pub alone_fits : (from end : ℕ) (ahead : Ahead) → AheadFits from end ahead → AheadFits from end (first_alone ahead)
alone_fits from end (Here count) fits = let some = fits.0 in let under = fits.1 in (omega arith, omega (arith, some, under))
alone_fits from end (Later to) fits = fits
alone_fits from end Never fits = tt

module _ (own : Object) (number : ℕ) (kept : List DatedState) (k from : ℕ) where
  abbrev data_at : ℕ → Bool
  data_at i = are_data own number kept k i

  -- where no index is late, none is such data
  pub none_data : PassesTo (are_late number kept k) from None → TellsAhead data_at from Never
  none_data none i on = and_right (is_data (own.blocks i)) (are_late number kept k i) (none i on)

  -- those before the first that may be late aren't
  pub later_data : (late : ℕ) → StopsAt (are_late number kept k) from late → TellsAhead data_at from (Later late)
  later_data late stops i on before = and_right (is_data (own.blocks i)) (are_late number kept k i) (stops.none_before i on before)

  -- nor are those that aren't data; a late index that is is one
  pub data_ahead : (end : ℕ) → StopsAt (are_late number kept k) from from → (ahead : Ahead) → AheadFits from end ahead → TellsAhead (is_of_kind own 1) from ahead → TellsAhead data_at from (first_alone ahead)
  data_ahead end late (Here count) fits tells = λ i on before.
      let some = fits.0 in
      let same : i ≡ from = omega (arith, on, before) in
      subst (λ (n : ℕ). data_at n ≡ true) (sym same)
      (and_from (is_data (own.blocks from)) (are_late number kept k from) (data_kind (own.blocks from) ∙ tells from (omega arith) (omega (arith, some))) (late.stays refl))
  data_ahead end late (Later to) fits tells = λ i on before. and_left (is_data (own.blocks i)) (are_late number kept k i) (data_kind (own.blocks i) ∙ tells i on before)
  data_ahead end late Never fits tells = λ i on. and_left (is_data (own.blocks i)) (are_late number kept k i) (data_kind (own.blocks i) ∙ tells i on)
