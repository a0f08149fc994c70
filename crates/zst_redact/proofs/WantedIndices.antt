-- Which indices of an object are wanted.
use Rattle.std.proofs.Common.{◌≡◌, ℕ, ◌^◌, ◌<◌, ◌≤◌, Bool, true, false, ◌∙◌, ⊎_elim, arith, List}
use Rattle.std.specs.Prelude.{Option, Some, None, Result}
use Rattle.std.proofs.lemmas.Bool.{cases_lt}
use Rattle.zst_block.specs.declared.fault.BlockFault.{BlockFault}
use Rattle.zst_dnode.specs.declared.dnode.Dnode.{Dnode}
use Rattle.zst_laws.proofs.sends.Ends.{past_end}
use Rattle.zst_model.specs.states.DatedState.{DatedState}
use Rattle.zst_model.specs.states.State.{Object, index_bound, is_user_data}
use Rattle.zst_tree.specs.Indices.{Blocks, Delivers, Map}
use Rattle.zst_tree.proofs.Results.{delivers_if}
use Rattle.zst_objset.specs.Dnodes.{ObjectIs}
use Rattle.zst_redact.specs.Passes.{FindsRunIn, TellsAhead}
use Rattle.zst_redact.specs.Wanted.{are_wanted, is_of_kind, wanted_pairs}
use Rattle.zst_redact.specs.declared.ahead.Ahead.{Ahead}
use Rattle.zst_redact.specs.declared.ahead.Ahead.TheVariants.{Here, Later, Never}
use Rattle.zst_redact.specs.declared.wanted.Wanted.{Wanted}
use Rattle.zst_redact.specs.declared.wanted.Wanted.TheVariants as wants
use Rattle.zst_redact.proofs.PointerKinds.{redacted_kind}
use Rattle.zst_redact.proofs.WantedPairs.{absent_unwanted, hole_apart, other_unwanted, same_wanted}

-- redacted blocks are wanted by their kind
module _ (own : Object) (kept : List DatedState) (k from : ℕ) where
  redacted_tells : (ahead : Ahead) → TellsAhead (is_of_kind own 2) from ahead → TellsAhead (are_wanted wants.Redacted own kept k) from ahead
  redacted_tells (Here count) tells = λ i on before. redacted_kind (own.blocks i) ∙ tells i on before
  redacted_tells (Later to) tells = λ i on before. redacted_kind (own.blocks i) ∙ tells i on before
  redacted_tells Never tells = λ i on. redacted_kind (own.blocks i) ∙ tells i on

  pub redacted_told : (result : Result Ahead BlockFault) → Delivers (TellsAhead (is_of_kind own 2) from) result → Delivers (TellsAhead (are_wanted wants.Redacted own kept k) from) result
  redacted_told result told = delivers_if _ _ result redacted_tells told

module _ (wanted : Wanted) (own : Object) (kept : List DatedState) (k from : ℕ) where
  abbrev wanted_at : ℕ → Bool
  wanted_at i = are_wanted wanted own kept k i

  module _ (has : Blocks) (dnode : Dnode) (date : ℕ) (dates : ℕ → ℕ) (map : Map) (is : ObjectIs has dnode own date dates map) where
    -- from the end on there is none
    pub none_past : (at : ℕ) → dnode.end ≤ at → ((i : ℕ) → from ≤ i → i < at → wanted_at i ≡ false) → FindsRunIn wanted_at from (2 ^ 43) None
    unfolding index_bound
    none_past at over none i on under = ⊎_elim
        (λ before. none i on before)
        (λ behind. hole_apart wanted own kept k i (past_end own.blocks index_bound i (let end = is.end_is in omega (arith, over, behind, end)) under))
        (cases_lt i at)

  -- the search stops where some are here
  pub found_here : (at count : ℕ) → from ≤ at → at < 2 ^ 43 → 0 < count → ((i : ℕ) → from ≤ i → i < at → wanted_at i ≡ false) → TellsAhead wanted_at at (Here count) → FindsRunIn wanted_at from (2 ^ 43) (Some (at, count))
  found_here at count on under some none tells = record {
    first = record { from_on = on; under = under; passes = tells at (omega arith) (omega (arith, some)); none_before = none };
    all = tells;
  }

  pub found_none : (at : ℕ) → ((i : ℕ) → from ≤ i → i < at → wanted_at i ≡ false) → TellsAhead wanted_at at Never → FindsRunIn wanted_at from (2 ^ 43) None
  found_none at none past i on under = ⊎_elim (λ before. none i on before) (λ behind. past i behind) (cases_lt i at)

-- ---- the wanted indices of what stands at a number

module _ (wanted : Wanted) (state : DatedState) (kept : List DatedState) (k from : ℕ) where
  abbrev pair_at : ℕ → Bool
  pair_at i = wanted_pairs wanted state kept k i

  pub absent_none : state.state k ≡ None → FindsRunIn pair_at from (2 ^ 43) None
  absent_none none i on under = absent_unwanted state kept k i wanted none

  module _ (own : Object) (there : state.state k ≡ Some own) where
    pub other_none : is_user_data own.attr ≡ false → FindsRunIn pair_at from (2 ^ 43) None
    other_none other i on under = other_unwanted state kept k i own there wanted other

    own_finds : is_user_data own.attr ≡ true → (found : Option (ℕ × ℕ)) → FindsRunIn (are_wanted wanted own kept k) from (2 ^ 43) found → FindsRunIn pair_at from (2 ^ 43) found
    own_finds user None none = λ i on under. same_wanted state kept k i own there wanted user ∙ none i on under
    own_finds user (Some found) run = record {
      first = record {
        from_on = run.first.from_on;
        under = run.first.under;
        passes = same_wanted state kept k found.0 own there wanted user ∙ run.first.passes;
        none_before = λ i on before. same_wanted state kept k i own there wanted user ∙ run.first.none_before i on before;
      };
      all = λ i on before. same_wanted state kept k i own there wanted user ∙ run.all i on before;
    }

    pub own_found : is_user_data own.attr ≡ true → (result : Result (Option (ℕ × ℕ)) BlockFault) → Delivers (FindsRunIn (are_wanted wanted own kept k) from (2 ^ 43)) result → Delivers (FindsRunIn pair_at from (2 ^ 43)) result
    own_found user result found = delivers_if _ _ result (own_finds user) found
