-- From a position in a text to the front of the text that stands before it.
use Rattle.std.proofs.Common.{◌≡◌, ◌≢◌, ℕ, zero, suc, ◌+◌, ◌<◌, ◌≤◌, true, false, ◌==◌, ◌↔◌, ◌⊎◌, Option, Some, None, IfSome, List, [], ◌∷◌, ◌++◌, length, get_or, take, drop, refl, sym, ap, ◌∙◌, subst, inl, inr, arith, append_assoc, add-one, take-append-drop}
use Rattle.std.proofs.Math.Seq.{take-suc, take-length}
use Rattle.std.proofs.lemmas.Bool.Decides.{nat_tests}
use Rattle.std.proofs.lemmas.List.{append-nil}
use Rattle.std.proofs.lemmas.List.Elements.{recursion_from_All, All-from_recursion}
use Rattle.std.specs.List.{AllByRecursion}
use Rattle.zst_names.specs.Names.{is_component_byte, IsComponent, IsDataset, IsName, CanGoOn, StopsAt, parts, dataset_of, component_of}
use Rattle.zst_names.specs.Rest.{IsTail, AreLastParts, IsDatasetRest, IsRest, IsOpen}
use Rattle.zst_names.specs.declared.scan.Position.{Position}
use Rattle.zst_names.specs.declared.scan.Position.TheVariants.{InDataset, InComponent}
use Rattle.zst_names.proofs.Parts.{tail_of_component, component_of_tail, parts_some}
use Rattle.zst_names.proofs.NameEnds.{before_first-skip, after_first-skip}

-- at the start all of a name is left
pub last_parts : (ps : List (List ℕ)) → 0 < length ps → AllByRecursion IsComponent ps → length ps ≤ 8 → AreLastParts 1 0 ps
last_parts [] some h few = absurd (omega (arith, some))
last_parts (p ∷ ps) some h few = (tail_of_component p h.0, h.1, omega (arith, few))

pub first_parts : (ps : List (List ℕ)) → AreLastParts 1 0 ps → AllByRecursion IsComponent ps × (length ps ≤ 8)
first_parts [] h = absurd h
first_parts (p ∷ ps) h = ((component_of_tail p h.0, h.1), omega (arith, h.2))

pub dataset_start : (text : List ℕ) → IsDataset text ↔ IsDatasetRest 1 0 0 text
dataset_start text = (
  λ h. (last_parts (parts text) (parts_some text) (recursion_from_All IsComponent (parts text) h.components) h.few, omega (arith, h.short)),
  λ h. let first = first_parts (parts text) h.0 in
      record { components = All-from_recursion IsComponent (parts text) first.0; few = first.1; short = omega (arith, h.1) },
)

pub start : (mark : Option ℕ) (text : List ℕ) → IsName mark text ↔ IsRest mark (InDataset 1 0) 0 text
start None text = dataset_start text
start (Some mark) text =
    (λ h. ((dataset_start (dataset_of mark text)).0 h.0, h.1), λ h. ((dataset_start (dataset_of mark text)).1 h.0, h.1))

-- `0` is a component
pub zero_is_component_byte : is_component_byte 48 ≡ true
unfolding is_component_byte
zero_is_component_byte = refl

pub zero_is_tail : IsTail 0 (48 ∷ [])
zero_is_tail = record { some = omega arith; short = omega arith; bytes = rw zero_is_component_byte refl; first = λ _ e. absurd (omega (arith, e)) }

pub nothing_is_tail : (used : ℕ) → 0 < used → used ≤ 64 → IsTail used []
nothing_is_tail used some short = record { some = omega arith; short = omega arith; bytes = refl; first = λ e. absurd (omega arith) }

zero_is_component : IsComponent (48 ∷ [])
zero_is_component = component_of_tail (48 ∷ []) zero_is_tail

-- at the mark the dataset's part ends, and the component begins
pub dataset_at_mark : (mark : ℕ) (text : List ℕ) → dataset_of mark (mark ∷ text) ≡ []
dataset_at_mark mark text =
    let e : (mark == mark) ≡ true = grind (arith, nat_tests) in
    rw e refl

pub component_at_mark : (mark : ℕ) (text : List ℕ) → component_of mark (mark ∷ text) ≡ text
component_at_mark mark text =
    let e : (mark == mark) ≡ true = grind (arith, nat_tests) in
    rw e refl

-- from each open position some text completes a name
pub completes_dataset : (components used place : ℕ) → IsOpen (InDataset components used) place → (rest : List ℕ) × IsDatasetRest components used place rest
completes_dataset components zero place h = (48 ∷ [], ((zero_is_tail, tt, omega (arith, h.0)), omega (arith, h.3 refl)))
completes_dataset components (suc used) place h = ([], ((nothing_is_tail (suc used) (omega arith) h.1, tt, omega (arith, h.0)), omega (arith, h.2)))

pub completes_component : (used : ℕ) → used ≤ 64 → (rest : List ℕ) × IsTail used rest
completes_component zero h = (48 ∷ [], zero_is_tail)
completes_component (suc used) h = ([], nothing_is_tail (suc used) (omega arith) h)

-- the mark and a component stand behind a dataset name's end that isn't the mark's byte
pub completes_marked : (mark : ℕ) → mark ≢ 48 → (components used place : ℕ) → IsOpen (InDataset components used) place → (rest : List ℕ) × IsRest (Some mark) (InDataset components used) place rest
completes_marked mark ne components zero place h =
    let other : (48 == mark) ≡ false = grind (arith, nat_tests) in
    let text = mark ∷ 48 ∷ [] in
    let front : dataset_of mark (48 ∷ text) ≡ 48 ∷ [] = before_first-skip (λ b. b == mark) 48 text other ∙ ap (λ ys. 48 ∷ ys) (dataset_at_mark mark (48 ∷ [])) in
    let last : component_of mark (48 ∷ text) ≡ 48 ∷ [] = after_first-skip (λ b. b == mark) 48 text other ∙ component_at_mark mark (48 ∷ []) in
    (48 ∷ text, (subst (IsDatasetRest components 0 place) (sym front) ((zero_is_tail, tt, omega (arith, h.0)), omega (arith, h.3 refl)), subst IsComponent (sym last) zero_is_component))
completes_marked mark ne components (suc used) place h = (
  mark ∷ 48 ∷ [],
  (
    subst (IsDatasetRest components (suc used) place) (sym (dataset_at_mark mark (48 ∷ []))) ((nothing_is_tail (suc used) (omega arith) h.1, tt, omega (arith, h.0)), omega (arith, h.2)),
    subst IsComponent (sym (component_at_mark mark (48 ∷ []))) zero_is_component,
  ),
)

pub completes : (mark : Option ℕ) → IfSome mark (λ m. m ≢ 48) → (position : Position) (place : ℕ) → IsOpen position place → (rest : List ℕ) × IsRest mark position place rest
completes None ne (InDataset components used) place h = completes_dataset components used place h
completes None ne (InComponent used) place h = completes_component used h
completes (Some mark) ne (InDataset components used) place h = completes_marked mark ne components used place h
completes (Some mark) ne (InComponent used) place h = completes_component used h

-- what is whole can go on from each front of it
pub whole_goes_on : (IsOne : List ℕ → Type 0) (text : List ℕ) (place : ℕ) → IsOne text → CanGoOn IsOne (take place text)
whole_goes_on IsOne text place h = (drop place text, subst IsOne (sym (take-append-drop place text)) h)

-- the front of the text, and the position that has the same ends
pub record IsAt (mark : Option ℕ) (IsOne : List ℕ → Type 0) (text : List ℕ) (position : Position) (place : ℕ) : Type 0 where
  pub open_here : IsOpen position place
  pub same_ends : (rest : List ℕ) → IsOne (take place text ++ rest) ↔ IsRest mark position place rest

pub front_goes_on : (mark : Option ℕ) (IsOne : List ℕ → Type 0) → IfSome mark (λ m. m ≢ 48) → (text : List ℕ) (position : Position) (place : ℕ) → IsAt mark IsOne text position place → CanGoOn IsOne (take place text)
front_goes_on mark IsOne ne text position place at =
    let end = completes mark ne position place at.open_here in
    (end.0, (at.same_ends end.0).1 end.1)

-- with a byte that leads nowhere no name can go on
pub byte_stops : (mark : Option ℕ) (IsOne : List ℕ → Type 0) (text : List ℕ) (position : Position) (place : ℕ) → IsAt mark IsOne text position place → place < length text
    → ((rest : List ℕ) → IsRest mark position place (get_or text place 0 ∷ rest) → ⊥)
    → CanGoOn IsOne (take (place + 1) text) → ⊥
byte_stops mark IsOne text position place at below none goes =
    let cut : take (place + 1) text ++ goes.0 ≡ take place text ++ (get_or text place 0 ∷ goes.0) = rw (add-one, take-suc text place 0 below, append_assoc) refl in
    none goes.0 ((at.same_ends (get_or text place 0 ∷ goes.0)).0 (subst IsOne cut goes.1))

pub stops_at_byte : (mark : Option ℕ) (IsOne : List ℕ → Type 0) → IfSome mark (λ m. m ≢ 48) → (text : List ℕ) (position : Position) (place : ℕ) → IsAt mark IsOne text position place → place < length text
    → ((rest : List ℕ) → IsRest mark position place (get_or text place 0 ∷ rest) → ⊥) → StopsAt IsOne text place
stops_at_byte mark IsOne ne text position place at below none =
    record { goes = front_goes_on mark IsOne ne text position place at; stops = inl (below, byte_stops mark IsOne text position place at below none) }

-- a text that ends before a name does
pub stops_at_end : (mark : Option ℕ) (IsOne : List ℕ → Type 0) → IfSome mark (λ m. m ≢ 48) → (text : List ℕ) (position : Position) (place : ℕ) → IsAt mark IsOne text position place → place ≡ length text
    → (IsRest mark position place [] → ⊥) → StopsAt IsOne text (length text)
stops_at_end mark IsOne ne text position place at e none =
    let whole : take place text ++ [] ≡ text = append-nil (take place text) ∙ (ap (λ n. take n text) e ∙ take-length text) in
    record {
      goes = subst (λ (n : ℕ). CanGoOn IsOne (take n text)) e (front_goes_on mark IsOne ne text position place at);
      stops = inr (refl, λ h. none ((at.same_ends []).0 (subst IsOne (sym whole) h)));
    }

-- two words for one kind of name stop at one place
pub stops_alike : (IsOne IsOther : List ℕ → Type 0) → ((text : List ℕ) → IsOther text ↔ IsOne text) → (text : List ℕ) (place : ℕ) → StopsAt IsOne text place → StopsAt IsOther text place
stops_alike IsOne IsOther alike text place h =
    record {
      goes = (h.goes.0, (alike (take place text ++ h.goes.0)).1 h.goes.1);
      stops = elim h.stops as (λ _. ((place < length text) × (CanGoOn IsOther (take (place + 1) text) → ⊥)) ⊎ ((place ≡ length text) × (IsOther text → ⊥))) [
        | inl s ↦ inl (s.0, λ goes. s.1 (goes.0, (alike (take (place + 1) text ++ goes.0)).0 goes.1))
        | inr s ↦ inr (s.0, λ other. s.1 ((alike text).0 other))
      ];
    }

-- a component is what is left at its start
pub component_start : (text : List ℕ) → IsComponent text ↔ IsRest None (InComponent 0) 0 text
component_start text = (tail_of_component text, component_of_tail text)
