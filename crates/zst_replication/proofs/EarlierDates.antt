-- Items of a later commit keep what the state under them dates earlier, whether they are lawful or not.
use Rattle.std.proofs.Common.{◌≡◌, ℕ, ◌<◌, ◌≤◌, Bool, true, false, List, [], ◌∷◌, None, Ok, refl, sym, ap, ◌∙◌, subst, arith, ◌==◌, nat_lt, ◌&&◌, if◌then◌else◌}
use Rattle.std.proofs.lemmas.Bool.{cond-false, lt-ltb}
use Rattle.zst_model.specs.declared.states.item.Item.{Item}
use Rattle.zst_model.specs.declared.states.item.Item.TheVariants.{FreeObjects, At}
use Rattle.zst_model.specs.pools.Pool.{Snapshot}
use Rattle.zst_model.specs.pools.Soundness.{Agrees, DatedUpTo}
use Rattle.zst_model.specs.sends.ReceivedRecords.{received}
use Rattle.zst_model.specs.sends.Target.{Remembers}
use Rattle.zst_model.specs.states.State.{State, attr_at, content_at, is_number, index_bound}
use Rattle.zst_model.specs.states.AppliedItems.{apply, apply_change, within, put_at}
use Rattle.zst_model.specs.states.DatedState.{DatedState, dates_number, dates_index, touches_number, touches_index, apply_dated}
use Rattle.zst_model.proofs.Booleans.{right_fails, left_fails}
use Rattle.zst_model.proofs.Results.{bind_ok, ok_parts}
use Rattle.zst_apply.specs.AppliedRecords.{received_all}
use Rattle.zst_laws.specs.ReceivedRecords.{ReceivedIsApplied}
use Rattle.zst_laws.proofs.histories.Dates.{attr_kept, content_kept, put_kept}

-- ---- what an item doesn't date stays

item_attr : (item : Item) (state after : State) → apply item state ≡ Ok after → (k : ℕ) → is_number k ≡ true → touches_number item k ≡ false → attr_at (after k) ≡ attr_at (state k)
unfolding apply
item_attr (FreeObjects first count) state after h k n t =
    ap (λ f. attr_at (f k)) (sym (ok_parts _ _ h))
    ∙ ap attr_at (cond-false (within first count k) None (state k) (left_fails (within first count k) (is_number k) t n))
item_attr (At j change) state after h k n t =
    let found = bind_ok (apply_change change (state j)) (λ o. Ok (put_at state j o)) after h in
    ap (λ f. attr_at (f k)) (sym (ok_parts _ _ found.2))
    ∙ put_kept attr_at state j k found.0 (λ e. attr_kept change (state j) found.0 (right_fails (k == j) (dates_number change) t e) found.1)

item_content : (item : Item) (state after : State) → apply item state ≡ Ok after → (k i : ℕ) → is_number k ≡ true → i < index_bound
    → touches_index item state k i ≡ false → content_at (after k) i ≡ content_at (state k) i
unfolding apply
item_content (FreeObjects first count) state after h k i n l t =
    let apart : (within first count k && is_number k) ≡ false = left_fails _ (nat_lt i index_bound) t (lt-ltb _ _ l) in
    ap (λ f. content_at (f k) i) (sym (ok_parts _ _ h))
    ∙ ap (λ o. content_at o i) (cond-false (within first count k) None (state k) (left_fails (within first count k) (is_number k) apart n))
item_content (At j change) state after h k i n l t =
    let found = bind_ok (apply_change change (state j)) (λ o. Ok (put_at state j o)) after h in
    let apart : (k == j && dates_index change (state j) i) ≡ false = left_fails _ (nat_lt i index_bound) t (lt-ltb _ _ l) in
    ap (λ f. content_at (f k) i) (sym (ok_parts _ _ found.2))
    ∙ put_kept (λ o. content_at o i) state j k found.0 (λ e. content_kept change (state j) found.0 i (right_fails (k == j) (dates_index change (state j) i) apart e) found.1)

-- ---- dates

-- what an item that was applied with its dates has made
record Dates (number : ℕ) (item : Item) (snap after : DatedState) : Type 0 where
  applied : apply item snap.state ≡ Ok after.state
  numbers : (k : ℕ) → after.number_date k ≡ (if touches_number item k then number else snap.number_date k)
  indices : (k i : ℕ) → after.index_date k i ≡ (if touches_index item snap.state k i then number else snap.index_date k i)

dates : (number : ℕ) (item : Item) (snap after : DatedState) → apply_dated number item snap ≡ Ok after → Dates number item snap after
dates number item snap after h =
    let made : State → DatedState = λ state. record {
      state = state;
      number_date = λ k. if touches_number item k then number else snap.number_date k;
      index_date = λ k i. if touches_index item snap.state k i then number else snap.index_date k i;
    } in
    let found = bind_ok (apply item snap.state) (λ state. Ok (made state)) after h in
    subst (Dates number item snap) (ok_parts (made found.0) after found.2) (record { applied = found.1; numbers = λ k. refl; indices = λ k i. refl })

-- what has a date up to a number before the commit's was not dated by it, and has its old date
kept_date : (t : Bool) (number next old date : ℕ) → number < next → date ≡ (if t then next else old) → date ≤ number → (t ≡ false) × (date ≡ old)
kept_date true number next old date l e d = absurd (omega arith)
kept_date false number next old date l e d = (refl, e)

-- each number and index that the later of two states dates up to a number has in the earlier one the same content and the same date
pub record Stays (number : ℕ) (snap after : DatedState) : Type 0 where
  pub numbers : (k : ℕ) → is_number k ≡ true → after.number_date k ≤ number → attr_at (snap.state k) ≡ attr_at (after.state k)
  pub number_dates : (k : ℕ) → is_number k ≡ true → after.number_date k ≤ number → snap.number_date k ≡ after.number_date k
  pub indices : (k i : ℕ) → is_number k ≡ true → i < index_bound → after.index_date k i ≤ number → content_at (snap.state k) i ≡ content_at (after.state k) i
  pub index_dates : (k i : ℕ) → is_number k ≡ true → i < index_bound → after.index_date k i ≤ number → snap.index_date k i ≡ after.index_date k i

pub stays_same : (number : ℕ) (snap : DatedState) → Stays number snap snap
stays_same number snap = record { numbers = λ k n up. refl; number_dates = λ k n up. refl; indices = λ k i n b up. refl; index_dates = λ k i n b up. refl }

pub stays_on : (number : ℕ) (snap next after : DatedState) → Stays number snap next → Stays number next after → Stays number snap after
stays_on number snap next after first more = record {
  numbers = λ k n up. let date = more.number_dates k n up in first.numbers k n (omega (arith, date, up)) ∙ more.numbers k n up;
  number_dates = λ k n up. let date = more.number_dates k n up in first.number_dates k n (omega (arith, date, up)) ∙ date;
  indices = λ k i n b up. let date = more.index_dates k i n b up in first.indices k i n b (omega (arith, date, up)) ∙ more.indices k i n b up;
  index_dates = λ k i n b up. let date = more.index_dates k i n b up in first.index_dates k i n b (omega (arith, date, up)) ∙ date;
}

-- so a snapshot up to that number which agrees with the earlier one agrees with the later one
pub stays_agrees : (number : ℕ) (earlier : Snapshot) (snap after : DatedState) → earlier.number ≤ number → Stays number snap after → Agrees earlier snap → Agrees earlier after
stays_agrees number earlier snap after less stays h =
    let full = λ (date : ℕ) (up : date ≤ earlier.number). let l : date ≤ number = omega (arith, up, less) in l in
    let at = λ (k : ℕ) (n : is_number k ≡ true) (up : after.number_date k ≤ earlier.number).
    let date = stays.number_dates k n (full (after.number_date k) up) in let l : snap.number_date k ≤ earlier.number = omega (arith, date, up) in l in
    let within_at = λ (k i : ℕ) (n : is_number k ≡ true) (b : i < index_bound) (up : after.index_date k i ≤ earlier.number).
    let date = stays.index_dates k i n b (full (after.index_date k i) up) in let l : snap.index_date k i ≤ earlier.number = omega (arith, date, up) in l in record {
      numbers = λ k n up. h.numbers k n (at k n up) ∙ stays.numbers k n (full (after.number_date k) up);
      number_dates = λ k n up. h.number_dates k n (at k n up) ∙ stays.number_dates k n (full (after.number_date k) up);
      indices = λ k i n b up. h.indices k i n b (within_at k i n b up) ∙ stays.indices k i n b (full (after.index_date k i) up);
      index_dates = λ k i n b up. h.index_dates k i n b (within_at k i n b up) ∙ stays.index_dates k i n b (full (after.index_date k i) up);
    }

-- and what the earlier one remembers of a source up to that number the later one remembers
pub stays_remembers : (number of : ℕ) (state : State) (snap after : DatedState) → of ≤ number → Stays number snap after → Remembers snap of state → Remembers after of state
stays_remembers number of state snap after less stays h =
    let full = λ (date : ℕ) (up : date ≤ of). let l : date ≤ number = omega (arith, up, less) in l in record {
      numbers = λ k n up.
          let date = stays.number_dates k n (full (after.number_date k) up) in
          h.numbers k n (omega (arith, date, up)) ∙ stays.numbers k n (full (after.number_date k) up);
      indices = λ k i n b up.
          let date = stays.index_dates k i n b (full (after.index_date k i) up) in
          h.indices k i n b (omega (arith, date, up)) ∙ stays.indices k i n b (full (after.index_date k i) up);
    }

-- what a later commit's items make of a state: all that is dated up to an earlier number stays, and no date passes the commit's number
pub record Carries (next : ℕ) (snap after : DatedState) : Type 0 where
  pub stays : (number : ℕ) → number < next → Stays number snap after
  pub dated : DatedUpTo next snap → DatedUpTo next after

most : (t : Bool) (next old date : ℕ) → old ≤ next → date ≡ (if t then next else old) → date ≤ next
most true next old date l e = omega arith
most false next old date l e = omega arith

one_carries : (next : ℕ) (item : Item) (snap after : DatedState) → Dates next item snap after → Carries next snap after
one_carries next item snap after d = record {
  stays = λ number less.
      let at = λ (k : ℕ) (up : after.number_date k ≤ number). kept_date (touches_number item k) number next (snap.number_date k) (after.number_date k) less (d.numbers k) up in
      let within_at = λ (k i : ℕ) (up : after.index_date k i ≤ number). kept_date (touches_index item snap.state k i) number next (snap.index_date k i) (after.index_date k i) less (d.indices k i) up in record {
        numbers = λ k n up. sym (item_attr item snap.state after.state d.applied k n (at k up).0);
        number_dates = λ k n up. sym (at k up).1;
        indices = λ k i n b up. sym (item_content item snap.state after.state d.applied k i n b (within_at k i up).0);
        index_dates = λ k i n b up. sym (within_at k i up).1;
      };
  dated = λ h. record {
    numbers = λ k. most (touches_number item k) next (snap.number_date k) (after.number_date k) (h.numbers k) (d.numbers k);
    indices = λ k i. most (touches_index item snap.state k i) next (snap.index_date k i) (after.index_date k i) (h.indices k i) (d.indices k i);
  };
}

-- the items of a record
pub all_carry : ReceivedIsApplied → (number index : ℕ) (items : List Item) (snap after : DatedState) → received_all number index items snap ≡ Ok after → Carries number snap after
all_carry law number index [] snap after e = subst (Carries number snap) (ok_parts snap after e) (record { stays = λ of less. stays_same of snap; dated = λ h. h })
all_carry law number index (item ∷ rest) snap after e =
    let found = bind_ok (received number index item snap) (received_all number index rest) after e in
    let one = one_carries number item snap found.0 (dates number item snap found.0 (law number index item snap found.0 found.1)) in
    let more = all_carry law number index rest found.0 after found.2 in
    record { stays = λ of less. stays_on of snap found.0 after (one.stays of less) (more.stays of less); dated = λ h. more.dated (one.dated h) }
