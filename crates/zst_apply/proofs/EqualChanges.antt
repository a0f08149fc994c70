-- Changes that make the same of what stands at a number, and cover the same indices, make the same state.
use Rattle.std.proofs.Common.{◌≡◌, ℕ, ◌==◌, ◌&&◌, nat_lt, Bool, true, false, refl, ap, ◌∙◌, sym, arith, ◌<◌, Option, Some, None, Result, Ok, if◌then◌else◌}
use Rattle.std.proofs.Math.Path.{fun_ext}
use Rattle.std.proofs.lemmas.Bool.Decides.{nat_tests}
use Rattle.zst_model.specs.declared.refusals.apply_fault.ApplyFault.{ApplyFault}
use Rattle.zst_model.specs.declared.states.attr.ObjectHead.{ObjectHead}
use Rattle.zst_model.specs.declared.states.item.Change.{Change}
use Rattle.zst_model.specs.declared.states.item.Change.TheVariants.{Put, Write}
use Rattle.zst_model.specs.declared.states.item.Item.TheVariants.{At}
use Rattle.zst_model.specs.states.AppliedItems.{◌>>=◌, apply, apply_change, put_at}
use Rattle.zst_model.specs.states.DatedState.{DatedState, apply_dated, dates_index, dates_number}
use Rattle.zst_model.specs.states.State.{Object, State, index_bound}
use Rattle.std.proofs.Common.{List}

-- the state after a change, with its dates
abbrev dated : (number k : ℕ) → (dates : Bool) → (covers : ℕ → Bool) → DatedState → State → DatedState
dated number k dates covers old state = record {
  state = state;
  number_date = λ j. if j == k && dates then number else old.number_date j;
  index_date = λ j i. if (j == k && covers i) && nat_lt i index_bound then number else old.index_date j i;
}

applied_is : (number k : ℕ) (change : Change) (old : DatedState)
    → apply_dated number (At k change) old ≡ ((apply_change change (old.state k) >>= λ object. Ok (put_at old.state k object)) >>= λ state. Ok (dated number k (dates_number change) (dates_index change (old.state k)) old state))
unfolding apply
applied_is number k change old = refl

same_date : (a c d b : Bool) (x y : ℕ) → (b ≡ true → c ≡ d) → (if (a && c) && b then x else y) ≡ (if (a && d) && b then x else y)
same_date true c d true x y same = ap (λ t. if (true && t) && true then x else y) (same refl)
same_date true true true false x y same = refl
same_date true true false false x y same = refl
same_date true false true false x y same = refl
same_date true false false false x y same = refl
same_date false c d b x y same = refl

same_dates : (number k : ℕ) (covers other : ℕ → Bool) (old : DatedState) → ((i : ℕ) → i < index_bound → covers i ≡ other i)
    → ◌≡◌ {A = ℕ → ℕ → ℕ} (λ j i. if (j == k && covers i) && nat_lt i index_bound then number else old.index_date j i) (λ j i. if (j == k && other i) && nat_lt i index_bound then number else old.index_date j i)
same_dates number k covers other old same =
    fun_ext (λ j. fun_ext (λ i. same_date (j == k) (covers i) (other i) (nat_lt i index_bound) number (old.index_date j i) (λ test. same i (below i test))))
  where
    below : (i : ℕ) → nat_lt i index_bound ≡ true → i < index_bound
    below i test = grind (arith, nat_tests)

pub same_change : (number k : ℕ) (change other : Change) (old : DatedState)
    → apply_change change (old.state k) ≡ apply_change other (old.state k) → dates_number change ≡ dates_number other → ((i : ℕ) → i < index_bound → dates_index change (old.state k) i ≡ dates_index other (old.state k) i)
    → apply_dated number (At k change) old ≡ apply_dated number (At k other) old
same_change number k change other old makes numbers indices =
    applied_is number k change old
    ∙ ap (λ (r : Result (Option Object) ApplyFault). (r >>= λ object. Ok (put_at old.state k object)) >>= λ state. Ok (dated number k (dates_number change) (dates_index change (old.state k)) old state)) makes
    ∙ ap (λ b. made >>= λ state. Ok (dated number k b (dates_index change (old.state k)) old state)) numbers
    ∙ ap (λ (dates : ℕ → ℕ → ℕ). made >>= λ state. Ok (with_dates dates state)) (same_dates number k (dates_index change (old.state k)) (dates_index other (old.state k)) old indices)
    ∙ sym (applied_is number k other old)
  where
    made : Result State ApplyFault
    made = apply_change other (old.state k) >>= λ object. Ok (put_at old.state k object)

    with_dates : (ℕ → ℕ → ℕ) → State → DatedState
    with_dates dates state = record { state = state; number_date = λ j. if j == k && dates_number other then number else old.number_date j; index_date = dates }

-- nothing is made by the greatest index that an OBJECT states, or by the type that a WRITE states
put_makes : (head : ObjectHead) (bonus : List ℕ) (keep_spill : Bool) (max_block other : ℕ) (there : Option Object) → apply_change (Put head bonus keep_spill max_block) there ≡ apply_change (Put head bonus keep_spill other) there
unfolding apply_change
put_makes head bonus keep_spill max_block other None = refl
put_makes head bonus keep_spill max_block other (Some object) = refl

pub same_put : (number k : ℕ) (head : ObjectHead) (bonus : List ℕ) (keep_spill : Bool) (max_block other : ℕ) (old : DatedState)
    → apply_dated number (At k (Put head bonus keep_spill max_block)) old ≡ apply_dated number (At k (Put head bonus keep_spill other)) old
same_put number k head bonus keep_spill max_block other old =
    same_change number k (Put head bonus keep_spill max_block) (Put head bonus keep_spill other) old (put_makes head bonus keep_spill max_block other (old.state k)) refl (λ i less. refl)

write_makes : (offset kind other : ℕ) (bytes : List ℕ) (there : Option Object) → apply_change (Write offset kind bytes) there ≡ apply_change (Write offset other bytes) there
unfolding apply_change
write_makes offset kind other bytes None = refl
write_makes offset kind other bytes (Some object) = refl

pub same_write : (number k offset kind other : ℕ) (bytes : List ℕ) (old : DatedState)
    → apply_dated number (At k (Write offset kind bytes)) old ≡ apply_dated number (At k (Write offset other bytes)) old
same_write number k offset kind other bytes old =
    same_change number k (Write offset kind bytes) (Write offset other bytes) old (write_makes offset kind other bytes (old.state k)) refl (λ i less. refl)
