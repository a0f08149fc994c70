use Rattle.std.proofs.Common.{◌≡◌, ap, sym, ◌∙◌, ◌+◌, ◌++◌, [], ◌∷◌, true, take, get_or, List, ℕ, subst}
use Rattle.std.proofs.lemmas.List.{take_more}
use Rattle.zst_model.specs.fields.Guids.{IsGuidSet}
use Rattle.zst_model.proofs.GuidFronts.{IsGuidSet-front}
use Rattle.zst_model.proofs.fields.guids.GuidSet.from_slice.Goals as goal

pub returns-then-not-insert_last-clause-exact : goal.returns-then-not-insert_last-clause-exact
returns-then-not-insert_last-clause-exact c = (
  λ some. cc some,
  λ lawful.
      let guids = c.args.guids.now in
      let place = c.loop-guid.guid-index in
      let front : take (place + 1) guids ≡ c.loop-guid.set ++ get_or guids place 0 ∷ [] =
      take_more guids place 0 c.loop-guid-test.true ∙ ap (λ (l : List ℕ). l ++ get_or guids place 0 ∷ []) (sym c.loop-guid.invariant.front) in
      let added : c.insert_last.result ≡ true = c.insert_last.ensures.exact.1 (subst IsGuidSet front (IsGuidSet-front (place + 1) guids lawful)) in
      sym c.if-not-insert_last.true ∙ added,
)
