-- What an object that tells a late date shows.
use Rattle.std.proofs.Common.{◌≡◌, ℕ, ◌+◌, ◌^◌, ◌<◌, true, false, sym, subst, arith}
use Rattle.std.specs.Prelude.{Option, Some, None, Result, Ok, Err}
use Rattle.std.proofs.lemmas.Bool.{le-ltb, lt-ltb}
use Rattle.zst_block.specs.declared.fault.BlockFault.{BlockFault}
use Rattle.zst_dnode.specs.declared.dnode.Dnode.{Dnode}
use Rattle.zst_model.specs.sends.Inclusion.{includes_number, is_after}
use Rattle.zst_model.specs.states.DatedState.{DatedState}
use Rattle.zst_tree.specs.Indices.{Blocks, Delivers, Map}
use Rattle.zst_tree.specs.LateIndices.{FindsFirst}
use Rattle.zst_objset.specs.Dnodes.{IsThereIn}
use Rattle.zst_objset.proofs.LeafLaws.{is_number_at}
use Rattle.zst_traverse.specs.Cells.{choice_after, IsNextObjectIn, NoNumber}
use Rattle.zst_traverse.specs.Dates.{FindsLate, IsFirstLate, NoneLate}
use Rattle.zst_traverse.proofs.SlotDates.{object_early, object_late, object_touched}

-- what is dated after a number is dated after a source of that number
pub late_found : (map : Map) (source : Option ℕ) (number from below : ℕ) → source ≡ Some number → (result : Result (Option ℕ) BlockFault) → Delivers (FindsFirst map from below number) result → Delivers (FindsLate map source from below) result
late_found map source number from below is (Ok None) quiet = subst (λ (s : Option ℕ). NoneLate map s from below) (sym is) (λ i u l. le-ltb number _ (quiet.early i u l))
late_found map source number from below is (Ok (Some found)) first = subst (λ (s : Option ℕ). IsFirstLate map s from below found) (sym is) (record {
  from_on = first.from_on;
  under = first.under;
  late = lt-ltb number _ first.late;
  none_before = λ i u l. le-ltb number _ (first.quiet.early i u l);
})
late_found map source number from below is (Err fault) told = told

module _ (has : Blocks) (reads : ℕ → ℕ → Blocks) (snap : DatedState) (source : Option ℕ) (number : ℕ) (dnode : Dnode) (is : IsThereIn has reads snap number dnode) (some : 0 < number) (less : number < 2 ^ 48) where
  shown : includes_number snap (choice_after source) number ≡ true → IsNextObjectIn has reads snap (choice_after source) number number dnode
  shown included = record { from_on = omega arith; none_before = λ k u l. absurd (omega arith); included = included; is = is }

  -- its own date shows it, or that of an index
  pub date_shown : is_after source dnode.date ≡ true → IsNextObjectIn has reads snap (choice_after source) number number dnode
  date_shown late = shown (object_late has reads snap source number dnode (is_number_at number some less) is late)

  pub index_shown : (found : ℕ) → IsFirstLate is.map source 0 (2 ^ 43) found → IsNextObjectIn has reads snap (choice_after source) number number dnode
  index_shown found first = shown (object_touched has reads snap source number dnode found (is_number_at number some less) is first)

  -- and else it isn't included
  pub early_passed : is_after source dnode.date ≡ false → NoneLate is.map source 0 (2 ^ 43) → NoNumber snap (choice_after source) number (number + 1)
  early_passed early none k u l =
      let same : number ≡ k = omega arith in
      subst (λ (n : ℕ). includes_number snap (choice_after source) n ≡ false) same (object_early has reads snap source number dnode is early none)
