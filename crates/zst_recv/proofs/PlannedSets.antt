-- Of which pool a plan over rows is, and that it begins with one set.
use Rattle.std.proofs.Common.{◌≡◌, ℕ, Bool, true, false, ◌&&◌, ◌||◌, nat_lt, List, [], ◌∷◌, map, Option, Some, None, Result, Ok, Err, refl, sym, ap, ◌∙◌, subst, arith}
use Rattle.std.proofs.lemmas.Bool.{and_from, and_parts, and_right, false_from_ne_true, ltb-true, or_from, or_left}
use Rattle.zst_model.specs.declared.refusals.plan_fault.PlanFault.{PlanFault}
use Rattle.zst_model.specs.pools.Pool.{Pool, is_before, untouched}
use Rattle.zst_model.specs.pools.Pool as plain
use Rattle.zst_model.specs.sends.Inclusion.{any_below}
use Rattle.zst_model.specs.states.DatedState.{DatedState}
use Rattle.zst_model.specs.states.State.{index_bound, is_number, number_bound}
use Rattle.zst_model.proofs.IndexTests.{any_passes, none_pass}
use Rattle.zst_model.proofs.OrderLaws.{not_before_itself}
use Rattle.zst_model.proofs.UniqueElements.{same_element}
use Rattle.zst_tree.specs.declared.tree.ObjSet.{ObjSet}
use Rattle.zst_dir.specs.RowNames.{Match, NamesBookmark, NamesDataset, NamesPartial, NamesSnapshot}
use Rattle.zst_dir.specs.Rows.{Rows, IsLawful}
use Rattle.zst_dir.specs.declared.rows.Dataset.{Dataset}
use Rattle.zst_dir.specs.declared.rows.Partial.{Partial}
use Rattle.zst_dir.specs.declared.rows.Snapshot.{Snapshot}
use Rattle.zst_pool.specs.Plans.{bare_bookmark, bare_partial, bare_snapshot}
use Rattle.zst_plan.specs.Receipts.{TellsHead, latest_date}
use Rattle.zst_plan.specs.RecvPlan.{RecvPlan, Resumes, Begins, is_dated_after, recv_plan}
use Rattle.zst_recv.specs.Damage.{IsOfBase, IsOfPartial, IsOfPlan}
use Rattle.zst_recv.specs.PlannedSets.{OneSetIsPlanned, RowsNameDatedPools}

-- ---- dates

-- a state without objects, each of whose numbers has this date
abbrev dated : ℕ → DatedState
dated date = record { state = untouched.state; number_date = λ k. date; index_date = λ k i. 0 }

one_is : is_number 1 ≡ true
unfolding number_bound
one_is = refl

never_late : (number : ℕ) → nat_lt number 0 ≡ false
never_late number = false_from_ne_true (nat_lt number 0) (λ late. let less = ltb-true number 0 late in omega (arith, less))

module _ (number date : ℕ) where
  abbrev late_index : ℕ → Bool
  late_index i = nat_lt number 0

  abbrev is_late : ℕ → Bool
  is_late k = is_number k && (nat_lt number date || any_below late_index index_bound)

  by_date : (b : Bool) → nat_lt number date ≡ b → nat_lt number date ≡ any_below is_late number_bound
  by_date true is =
      is ∙ sym (any_passes is_late number_bound 1 (ltb-true 1 number_bound ((and_parts (nat_lt 0 1) (nat_lt 1 number_bound) one_is).1))
      (and_from (is_number 1) (nat_lt number date || any_below late_index index_bound) one_is (or_left (nat_lt number date) (any_below late_index index_bound) is)))
  by_date false is =
      is ∙ sym (none_pass is_late number_bound (λ k below.
      and_right (is_number k) (nat_lt number date || any_below late_index index_bound)
      (or_from (nat_lt number date) (any_below late_index index_bound) is (none_pass late_index index_bound (λ i within. never_late number)))))

  -- whether it is dated after a number
  tells_date : nat_lt number date ≡ is_dated_after number (dated date)
  unfolding is_dated_after
  tells_date = by_date (nat_lt number date) refl

-- ---- the pool

abbrev dated_dataset : Dataset → plain.Dataset
dated_dataset row = record { name = row.name; kind = row.kind; origin = row.origin; head = dated (latest_date row.head); redact = row.redact }

abbrev dated_pool : Rows → Pool
dated_pool rows = record {
  id = 0;
  number = 0;
  guids = 0;
  datasets = map dated_dataset rows.datasets;
  snapshots = map bare_snapshot rows.snapshots;
  bookmarks = map bare_bookmark rows.bookmarks;
  partials = map bare_partial rows.partials;
}

each_made : {A B : Type 0} (Is : A → B → Type 0) (make : A → B) → ((a : A) → Is a (make a)) → (xs : List A) → Match Is xs (map make xs)
each_made Is make of [] = tt
each_made Is make of (x ∷ xs) = (of x, each_made Is make of xs)

pub dated_named : RowsNameDatedPools
dated_named rows = (
  dated_pool rows,
  record {
    datasets = each_made NamesDataset dated_dataset (λ row. record { name = refl; kind = refl; origin = refl; redact = refl }) rows.datasets;
    snapshots = each_made NamesSnapshot bare_snapshot (λ row. record { name = refl; guid = refl; time = refl; number = refl; redact = refl }) rows.snapshots;
    bookmarks = each_made NamesBookmark bare_bookmark (λ row. record { name = refl; guid = refl; time = refl; number = refl; redact = refl }) rows.bookmarks;
    partials = each_made NamesPartial bare_partial (λ row. record { target = refl; component = refl; keep = refl; header = refl; base = refl; point = refl }) rows.partials;
  },
  each_made TellsHead dated_dataset (λ row number. tells_date number (latest_date row.head)) rows.datasets,
)

-- ---- one set

neither_before : (one other name : List ℕ) → one ≡ name → other ≡ name → is_before one other ≡ true → ⊥
neither_before one other name first second before =
    not_before_itself name (subst (λ (l : List ℕ). is_before name l ≡ true) second (subst (λ (l : List ℕ). is_before l other ≡ true) first before))

module _ (rows : Rows) (lawful : IsLawful rows) (target : List ℕ) where
  -- a target has one partial state
  one_partial : (one other : ObjSet) → IsOfPartial rows target one → IsOfPartial rows target other → one ≡ other
  one_partial one other a b =
      let same : a.0 ≡ b.0 = same_element (λ (x y : Partial). is_before x.target y.target ≡ true) rows.partials lawful.ordered.partials a.0 b.0 a.1 b.1
      (neither_before a.0.target b.0.target target a.2 b.2) (neither_before b.0.target a.0.target target b.2 a.2) in
      a.3 ∙ ap (λ (row : Partial). row.objects) same ∙ sym b.3

  -- and a name is that of one snapshot
  one_base : (base : Option plain.Snapshot) (one other : ObjSet) → IsOfBase rows base one → IsOfBase rows base other → one ≡ other
  one_base None one other a b = a ∙ sym b
  one_base (Some base) one other a b =
      let same : a.0 ≡ b.0 = same_element (λ (x y : Snapshot). x.name ≡ y.name → ⊥) rows.snapshots lawful.ordered.snapshots_differ a.0 b.0 a.1 b.1
      (λ differ. differ (a.2 ∙ sym b.2)) (λ differ. differ (b.2 ∙ sym a.2)) in
      a.3 ∙ ap (λ (row : Snapshot). row.objects) same ∙ sym b.3

  one_plan : (plan : Result RecvPlan PlanFault) (one other : ObjSet) → IsOfPlan rows target plan one → IsOfPlan rows target plan other → one ≡ other
  one_plan (Ok (Resumes partial)) one other a b = one_partial one other a b
  one_plan (Ok (Begins component base)) one other a b = one_base base.snapshot one other a b
  one_plan (Err fault) one other a b = absurd a

pub one_planned : OneSetIsPlanned
one_planned rows ask header one other lawful a b =
    let pool = dated_named rows in
    one_plan rows lawful ask.target (recv_plan ask header pool.0) one other (a.planned pool.0 pool.1 (λ full there. pool.2)) (b.planned pool.0 pool.1 (λ full there. pool.2))
