-- What stands before what in the pool with a clone of a clone.
use Rattle.std.proofs.Common.{◌≡◌, inl, inr, ◌⊎◌, ℕ, List, [], ◌∷◌, Option, Some, None, All, Contains, refl, subst, sym, ◌∙◌, ap, arith, codes}
use Rattle.std.proofs.lemmas.List.Elements.{All-nil, All-cons}
use Rattle.std.proofs.lemmas.Option.{same_Some}
use Rattle.zst_model.specs.pools.Pool.{Dataset, Snapshot, HasDataset, dataset_of_snapshot}
use Rattle.zst_model.specs.pools.Ancestry.{IsOrigin, IsBase, Source, OfSnapshot, OfBookmark, dataset_of_source, number_of_source, Marks, IsBelow, StandsBefore, Earlier, AtOrigin, BeforeOrigin, BaseCounts, Place, IsBefore}
use Rattle.zst_model.proofs.InsertedLaws.{contains_cases, contains_nothing}
use Rattle.zst_laws.specs.CloneExample.{first, second, inner, dataset, of_first, of_second, receiving, clones, at_first, at_second, at_inner, at_head, at_received, of_clone, Stands, FirstStands, SecondStands, InnerStands, ClonesStand, MadeOfOne}
use Rattle.zst_laws.proofs.pools.Rows.{bytes_differ}
use Rattle.zst_laws.proofs.pools.Ancestry.{marks_number}

abbrev pub tank_a : List ℕ
tank_a = codes "tank/a"

abbrev pub tank_b : List ℕ
tank_b = codes "tank/b"

abbrev pub tank_c : List ℕ
tank_c = codes "tank/c"

-- the datasets and snapshots that are there
pub dataset_cases : (d : Dataset) → Contains clones.datasets d → (dataset tank_a None ≡ d) ⊎ ((dataset tank_b (Some first.name) ≡ d) ⊎ (dataset tank_c (Some inner.name) ≡ d))
dataset_cases d h = elim (contains_cases (dataset tank_a None) (dataset tank_b (Some first.name) ∷ dataset tank_c (Some inner.name) ∷ []) d h) [
  | inl e ↦ inl e
  | inr k ↦ elim (contains_cases (dataset tank_b (Some first.name)) (dataset tank_c (Some inner.name) ∷ []) d k) [
    | inl e ↦ inr (inl e)
    | inr l ↦ elim (contains_cases (dataset tank_c (Some inner.name)) [] d l) [ inl e ↦ inr (inr e) | inr none ↦ absurd (contains_nothing d none) ]
  ]
]

pub snapshot_cases : (s : Snapshot) → Contains clones.snapshots s → (first ≡ s) ⊎ ((second ≡ s) ⊎ (inner ≡ s))
snapshot_cases s h = elim (contains_cases first (second ∷ inner ∷ []) s h) [
  | inl e ↦ inl e
  | inr k ↦ elim (contains_cases second (inner ∷ []) s k) [
    | inl e ↦ inr (inl e)
    | inr l ↦ elim (contains_cases inner [] s l) [ inl e ↦ inr (inr e) | inr none ↦ absurd (contains_nothing s none) ]
  ]
]

-- the snapshots by their names
first_named : (s : Snapshot) → s.name ≡ first.name → (first ≡ s) ⊎ ((second ≡ s) ⊎ (inner ≡ s)) → first ≡ s
first_named s n (inl e) = e
first_named s n (inr (inl e)) = absurd (bytes_differ second.name first.name refl (ap (λ x. x.name) e ∙ n))
first_named s n (inr (inr e)) = absurd (bytes_differ inner.name first.name refl (ap (λ x. x.name) e ∙ n))

inner_named : (s : Snapshot) → s.name ≡ inner.name → (first ≡ s) ⊎ ((second ≡ s) ⊎ (inner ≡ s)) → inner ≡ s
inner_named s n (inl e) = absurd (bytes_differ first.name inner.name refl (ap (λ x. x.name) e ∙ n))
inner_named s n (inr (inl e)) = absurd (bytes_differ second.name inner.name refl (ap (λ x. x.name) e ∙ n))
inner_named s n (inr (inr e)) = e

-- the two clones and their origins
pub origin_cases : (origin : Snapshot) (name : List ℕ) → IsOrigin clones origin name → ((tank_b ≡ name) × (first ≡ origin)) ⊎ ((tank_c ≡ name) × (inner ≡ origin))
origin_cases origin name is = elim (dataset_cases is.dataset is.there) [
  | inl e ↦ let none : None ≡ Some origin.name = ap (λ d. d.origin) e ∙ is.is_origin in absurd (cc)
  | inr (inl e) ↦
      let same : first.name ≡ origin.name = same_Some first.name origin.name (ap (λ d. d.origin) e ∙ is.is_origin) in
      inl (ap (λ d. d.name) e ∙ is.named, first_named origin (sym same) (snapshot_cases origin is.snapshot_there))
  | inr (inr e) ↦
      let same : inner.name ≡ origin.name = same_Some inner.name origin.name (ap (λ d. d.origin) e ∙ is.is_origin) in
      inr (ap (λ d. d.name) e ∙ is.named, inner_named origin (sym same) (snapshot_cases origin is.snapshot_there))
]

b_has_origin : IsOrigin clones first tank_b
b_has_origin = record {
  dataset = dataset tank_b (Some first.name);
  there = (1, omega arith, refl);
  named = refl;
  snapshot_there = (0, omega arith, refl);
  is_origin = refl;
}

c_has_origin : IsOrigin clones inner tank_c
c_has_origin = record {
  dataset = dataset tank_c (Some inner.name);
  there = (2, omega arith, refl);
  named = refl;
  snapshot_there = (2, omega arith, refl);
  is_origin = refl;
}

received_has_base : IsBase clones inner receiving
received_has_base = record { there = c_has_origin.snapshot_there; is_base = refl }

module _ (source : Source) where
  -- what stands before something of each dataset
  in_a : (bound : Option ℕ) → StandsBefore clones source tank_a bound → (dataset_of_source source ≡ tank_a) × IsBelow (number_of_source source) bound
  in_a bound before = go tank_a refl before
    where
      no_origin : (origin : Snapshot) (name : List ℕ) → name ≡ tank_a → IsOrigin clones origin name → ⊥
      no_origin origin name e is = elim (origin_cases origin name is) [
        | inl h ↦ bytes_differ tank_b tank_a refl (h.0 ∙ e)
        | inr h ↦ bytes_differ tank_c tank_a refl (h.0 ∙ e)
      ]

      go : (name : List ℕ) → name ≡ tank_a → StandsBefore clones source name bound → (dataset_of_source source ≡ tank_a) × IsBelow (number_of_source source) bound
      go name e (Earlier _ _ same below) = (same ∙ e, below)
      go name e (AtOrigin _ _ origin is marks) = absurd (no_origin origin name e is)
      go name e (BeforeOrigin _ _ origin is rest) = absurd (no_origin origin name e is)

  in_b : (bound : Option ℕ) → StandsBefore clones source tank_b bound
      → ((dataset_of_source source ≡ tank_b) × IsBelow (number_of_source source) bound) ⊎ (Marks source first ⊎ StandsBefore clones source tank_a (Some 3))
  in_b bound before = go tank_b refl before
    where
      one_origin : (origin : Snapshot) (name : List ℕ) → name ≡ tank_b → IsOrigin clones origin name → origin ≡ first
      one_origin origin name e is = elim (origin_cases origin name is) [
        | inl h ↦ sym h.1
        | inr h ↦ absurd (bytes_differ tank_c tank_b refl (h.0 ∙ e))
      ]

      go : (name : List ℕ) → name ≡ tank_b → StandsBefore clones source name bound
          → ((dataset_of_source source ≡ tank_b) × IsBelow (number_of_source source) bound) ⊎ (Marks source first ⊎ StandsBefore clones source tank_a (Some 3))
      go name e (Earlier _ _ same below) = inl (same ∙ e, below)
      go name e (AtOrigin _ _ origin is marks) = inr (inl (subst (Marks source) (one_origin origin name e is) marks))
      go name e (BeforeOrigin _ _ origin is rest) =
          inr (inr (subst (λ o. StandsBefore clones source (dataset_of_snapshot o) (Some o.number)) (one_origin origin name e is) rest))

  in_c : (bound : Option ℕ) → StandsBefore clones source tank_c bound
      → ((dataset_of_source source ≡ tank_c) × IsBelow (number_of_source source) bound) ⊎ (Marks source inner ⊎ StandsBefore clones source tank_b (Some 8))
  in_c bound before = go tank_c refl before
    where
      one_origin : (origin : Snapshot) (name : List ℕ) → name ≡ tank_c → IsOrigin clones origin name → origin ≡ inner
      one_origin origin name e is = elim (origin_cases origin name is) [
        | inl h ↦ absurd (bytes_differ tank_b tank_c refl (h.0 ∙ e))
        | inr h ↦ sym h.1
      ]

      go : (name : List ℕ) → name ≡ tank_c → StandsBefore clones source name bound
          → ((dataset_of_source source ≡ tank_c) × IsBelow (number_of_source source) bound) ⊎ (Marks source inner ⊎ StandsBefore clones source tank_b (Some 8))
      go name e (Earlier _ _ same below) = inl (same ∙ e, below)
      go name e (AtOrigin _ _ origin is marks) = inr (inl (subst (Marks source) (one_origin origin name e is) marks))
      go name e (BeforeOrigin _ _ origin is rest) =
          inr (inr (subst (λ o. StandsBefore clones source (dataset_of_snapshot o) (Some o.number)) (one_origin origin name e is) rest))

  -- and before what is received for a dataset that isn't there
  no_target : (name : List ℕ) → name ≡ receiving.target → HasDataset clones name → ⊥
  no_target name e (d, there, named) = elim (dataset_cases d there) [
    | inl f ↦ bytes_differ tank_a receiving.target refl (ap (λ x. x.name) f ∙ named ∙ e)
    | inr (inl f) ↦ bytes_differ tank_b receiving.target refl (ap (λ x. x.name) f ∙ named ∙ e)
    | inr (inr f) ↦ bytes_differ tank_c receiving.target refl (ap (λ x. x.name) f ∙ named ∙ e)
  ]

  in_received : IsBefore clones source at_received → Marks source inner ⊎ StandsBefore clones source tank_b (Some 8)
  in_received (inl h) = absurd (no_target receiving.target refl h.target)
  in_received (inr (counts, clone)) =
      let same : inner.name ≡ clone.base.name = same_Some inner.name clone.base.name clone.is_base.is_base in
      let one : inner ≡ clone.base = inner_named clone.base (sym same) (snapshot_cases clone.base clone.is_base.there) in
      subst (λ s. Marks source s ⊎ StandsBefore clones source (dataset_of_snapshot s) (Some s.number)) (sym one) clone.before

base_counts : (source : Source) → BaseCounts clones source receiving
base_counts (OfSnapshot snapshot) = tt
base_counts (OfBookmark bookmark) = no_target (OfBookmark bookmark) receiving.target refl

received : (source : Source) → Marks source inner ⊎ StandsBefore clones source tank_b (Some 8) → IsBefore clones source at_received
received source before = inr (base_counts source, record { base = inner; is_base = received_has_base; before = before })

-- a fact for each of some places, as pairs
abbrev Each : (Place → Type 0) → List Place → Type 0
Each P [] = Unit {0}
Each P (place ∷ places) = P place × Each P places

all_of_each : (P : Place → Type 0) (places : List Place) → Each P places → All P places
all_of_each P [] h = All-nil P
all_of_each P (place ∷ places) h = All-cons P place places h.0 (all_of_each P places h.1)

-- what stands before these places and not before those
stands : (source : Source) (these those : List Place) → Each (IsBefore clones source) these → Each (λ place. IsBefore clones source place → ⊥) those → Stands source these those
stands source these those before not_before = record {
  before = all_of_each (IsBefore clones source) these before;
  not_before = all_of_each (λ place. IsBefore clones source place → ⊥) those not_before;
}

module _ (source : Source) (of : dataset_of_source source ≡ tank_a) where
  -- a source of `tank/a` with the number 3 that marks the first snapshot
  first_stands : number_of_source source ≡ 3 → Marks source first → FirstStands source
  first_stands n marks =
      stands source (at_second ∷ at_head tank_a ∷ of_clone) (at_first ∷ []) (
        Earlier tank_a (Some 5) of (omega arith),
        (
          Earlier tank_a None of tt,
          (
            in_clone (Some 8),
            (
              in_clone None,
              (BeforeOrigin tank_c None inner c_has_origin (in_clone (Some 8)), (received source (inr (in_clone (Some 8))), tt)),
            ),
          ),
        ),
      )
      (λ before. let l = (in_a source (Some 3) before).1 in omega arith, tt)
    where
      in_clone : (bound : Option ℕ) → StandsBefore clones source tank_b bound
      in_clone bound = AtOrigin tank_b bound first b_has_origin marks

  -- a source of `tank/a` with the number 5
  second_stands : number_of_source source ≡ 5 → SecondStands source
  second_stands n =
      stands source (at_head tank_a ∷ []) (at_first ∷ at_second ∷ of_clone) (Earlier tank_a None of tt, tt) (
        λ before. let l = (in_a source (Some 3) before).1 in omega arith,
        (
          λ before. let l = (in_a source (Some 5) before).1 in omega arith,
          (not_b (Some 8), (not_b None, (λ before. not_c (in_c source None before), (λ before. not_inner (in_received source before), tt)))),
        ),
      )
    where
      not_b : (bound : Option ℕ) → StandsBefore clones source tank_b bound → ⊥
      not_b bound before = elim (in_b source bound before) [
        | inl h ↦ bytes_differ tank_a tank_b refl (sym of ∙ h.0)
        | inr rest ↦ elim rest [
          | inl marks ↦ let m = marks_number source first marks in omega arith
          | inr more ↦ let l = (in_a source (Some 3) more).1 in omega arith
        ]
      ]

      not_inner : Marks source inner ⊎ StandsBefore clones source tank_b (Some 8) → ⊥
      not_inner (inl marks) = let m = marks_number source inner marks in omega arith
      not_inner (inr before) = not_b (Some 8) before

      not_c : ((dataset_of_source source ≡ tank_c) × IsBelow (number_of_source source) None) ⊎ (Marks source inner ⊎ StandsBefore clones source tank_b (Some 8)) → ⊥
      not_c (inl h) = bytes_differ tank_a tank_c refl (sym of ∙ h.0)
      not_c (inr h) = not_inner h

abbrev from_inner : Source
from_inner = OfSnapshot inner

inner_stands : InnerStands from_inner
inner_stands =
    stands from_inner (at_head tank_b ∷ at_head tank_c ∷ at_received ∷ []) (at_first ∷ at_second ∷ at_head tank_a ∷ at_inner ∷ [])
    (Earlier tank_b None refl tt, (AtOrigin tank_c None inner c_has_origin refl, (received from_inner (inl refl), tt)))
    (not_a (Some 3), (not_a (Some 5), (not_a None, (not_itself, tt))))
  where
    not_a : (bound : Option ℕ) → StandsBefore clones from_inner tank_a bound → ⊥
    not_a bound before = bytes_differ tank_b tank_a refl (in_a from_inner bound before).0

    not_itself : StandsBefore clones from_inner tank_b (Some 8) → ⊥
    not_itself before = elim (in_b from_inner (Some 8) before) [
      | inl h ↦ let l = h.1 in omega arith
      | inr rest ↦ elim rest [
        | inl marks ↦ let m = marks_number from_inner first marks in omega arith
        | inr more ↦ not_a (Some 3) more
      ]
    ]

pub clones_standing : ClonesStand
clones_standing = (
  first_stands (OfSnapshot first) refl refl refl,
  first_stands (OfBookmark of_first) refl refl (record { dataset = refl; guid = refl; number = refl }),
  second_stands (OfSnapshot second) refl refl,
  second_stands (OfBookmark of_second) refl refl,
  inner_stands,
)

pub made_of_one : MadeOfOne
made_of_one = (
  record { dataset = refl; guid = refl; number = refl },
  λ is. let e = is.number in absurd (omega arith),
  λ is. let e = is.guid in absurd (omega arith),
  λ is. let e = is.number in absurd (omega arith),
  λ is. bytes_differ tank_b tank_a refl is.dataset,
)
