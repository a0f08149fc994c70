-- Items of a later commit, and what agrees with the state under them.
use Rattle.std.proofs.Common.{◌≡◌, ℕ, ◌<◌, ◌≤◌, Bool, true, false, List, [], ◌∷◌, Ok, sym, ◌∙◌, subst, arith, if◌then◌else◌}
use Rattle.zst_model.specs.declared.states.item.Item.{Item}
use Rattle.zst_model.specs.states.State.{State, IsState}
use Rattle.zst_model.specs.states.DatedState.{DatedState, touches_number, touches_index, apply_dated, apply_all_dated}
use Rattle.zst_model.specs.pools.Pool.{Snapshot}
use Rattle.zst_model.specs.pools.Soundness.{Agrees, DatedUpTo}
use Rattle.zst_model.specs.sends.Target.{Remembers}
use Rattle.zst_model.proofs.Results.{ok_parts, bind_ok}
use Rattle.zst_laws.specs.Dates.{AreLawfulItems}
use Rattle.zst_laws.proofs.histories.Dates.{changes_dated, dates_exact, kept_date, remembered_on, dated_parts, applied_state}

-- a snapshot that agrees with a state agrees with it after an item of a later commit
pub agrees_on : (earlier : Snapshot) (next : ℕ) (item : Item) (snap after : DatedState) → earlier.number < next → IsState snap.state
    → apply_dated next item snap ≡ Ok after → Agrees earlier snap → Agrees earlier after
agrees_on earlier next item snap after less s applied h =
    let changes = changes_dated next item snap after s applied in
    let dates = dates_exact next item snap after applied in record {
      numbers = λ k n d.
          let kept = kept_date (touches_number item k) earlier.number next (snap.number_date k) (after.number_date k) less (dates.0 k) d in
          h.numbers k n kept.1 ∙ sym (changes.0 k kept.0);
      number_dates = λ k n d.
          let kept = kept_date (touches_number item k) earlier.number next (snap.number_date k) (after.number_date k) less (dates.0 k) d in
          h.number_dates k n kept.1 ∙ sym kept.2;
      indices = λ k i n b d.
          let kept = kept_date (touches_index item snap.state k i) earlier.number next (snap.index_date k i) (after.index_date k i) less (dates.1 k i) d in
          h.indices k i n b kept.1 ∙ sym (changes.1 k i b kept.0);
      index_dates = λ k i n b d.
          let kept = kept_date (touches_index item snap.state k i) earlier.number next (snap.index_date k i) (after.index_date k i) less (dates.1 k i) d in
          h.index_dates k i n b kept.1 ∙ sym kept.2;
    }

-- an item gives no date past its commit's number
pub dated_on : (next : ℕ) (item : Item) (snap after : DatedState) → apply_dated next item snap ≡ Ok after → DatedUpTo next snap → DatedUpTo next after
dated_on next item snap after applied h =
    let dates = dates_exact next item snap after applied in record {
      numbers = λ k. most (touches_number item k) (snap.number_date k) (after.number_date k) (h.numbers k) (dates.0 k);
      indices = λ k i. most (touches_index item snap.state k i) (snap.index_date k i) (after.index_date k i) (h.indices k i) (dates.1 k i);
    }
  where
    most : (t : Bool) (old date : ℕ) → old ≤ next → date ≡ (if t then next else old) → date ≤ next
    most true old date l e = omega arith
    most false old date l e = omega arith

-- the next commit's items keep what a head remembers, what agrees with it, and its dates
pub record Keeps (next : ℕ) (head after : DatedState) : Type 0 where
  pub remembers : (number : ℕ) (state : State) → number < next → Remembers head number state → Remembers after number state
  pub agrees : (earlier : Snapshot) → earlier.number < next → Agrees earlier head → Agrees earlier after
  pub dated : DatedUpTo next head → DatedUpTo next after

-- an item keeps them, whether it is lawful or not
pub keeps_one : (next : ℕ) (item : Item) (head after : DatedState) → IsState head.state → apply_all_dated next (item ∷ []) head ≡ Ok after → Keeps next head after
keeps_one next item head after s applied =
    let found = bind_ok (apply_dated next item head) (apply_all_dated next []) after applied in
    let whole : apply_dated next item head ≡ Ok after = found.1 ∙ found.2 in record {
      remembers = λ number state less h. remembered_on head after number next item state s less h whole;
      agrees = λ earlier less h. agrees_on earlier next item head after less s whole h;
      dated = dated_on next item head after whole;
    }

-- lawful items keep them
pub keeps_all : (next : ℕ) (items : List Item) (head after : DatedState) → IsState head.state → AreLawfulItems items head.state → apply_all_dated next items head ≡ Ok after
    → Keeps next head after
keeps_all next [] head after s lawful applied = subst (Keeps next head) (ok_parts _ _ applied) (record { remembers = λ number state less h. h; agrees = λ earlier less h. h; dated = λ h. h })
keeps_all next (item ∷ rest) head after s lawful applied =
    let found = bind_ok (apply_dated next item head) (apply_all_dated next rest) after applied in
    let state = (dated_parts next item head found.0 found.1).0 in
    let more = keeps_all next rest found.0 after (applied_state next item head found.0 s lawful.0 found.1) (lawful.1 found.0.state state) found.2 in record {
      remembers = λ number old less h. more.remembers number old less (remembered_on head found.0 number next item old s less h found.1);
      agrees = λ earlier less h. more.agrees earlier less (agrees_on earlier next item head found.0 less s found.1 h);
      dated = λ h. more.dated (dated_on next item head found.0 found.1 h);
    }
