-- Rows of a pool: what a look-up gives, and what a chain says that ends well.
use Rattle.std.proofs.Common.{subst, ◌≡◌, ◌≢◌, ℕ, ◌+◌, ◌≤◌, Bool, true, false, List, [], ◌∷◌, Option, Some, None, is_some, Result, Ok, Err, if◌then◌else◌, nat_lt, refl, sym, ap, ◌∙◌}
use Rattle.std.specs.List.{All, Contains, find}
use Rattle.std.specs.Str.{bytes_eq}
use Rattle.std.proofs.lemmas.Bool.{true≢false, ltb-false}
use Rattle.std.proofs.lemmas.List.Elements.{All-contains}
use Rattle.zst_model.specs.declared.refusals.apply_fault.ApplyFault.{ApplyFault}
use Rattle.zst_model.specs.declared.refusals.faults.Quantity.{Quantity}
use Rattle.zst_model.specs.declared.refusals.refusal.Refusal.{Refusal}
use Rattle.zst_model.specs.declared.refusals.refusal.Refusal.TheVariants as refusals
use Rattle.zst_model.specs.declared.refusals.subjects.Name.TheVariants as names
use Rattle.zst_model.specs.states.AppliedItems.{unless, ◌>>=◌}
use Rattle.zst_model.specs.states.DatedState.{DatedState}
use Rattle.zst_model.specs.pools.AnswerLines.{ok_line}
use Rattle.zst_model.specs.pools.Pool.{Pool, Dataset, dataset_named, partial_of}
use Rattle.zst_model.specs.pools.Step.{Stepped, no_such, busy_partial, or_else, of_applying, last_number, limited, committed, with_head_at, with_head, on_dataset, on_head}
use Rattle.zst_model.proofs.InsertedLaws.{contains_first, contains_later, All-from_contains, map_contains}
use Rattle.zst_model.proofs.OrderLaws.{same_bytes, bytes_same}
use Rattle.zst_model.proofs.Options.{none_there}
use Rattle.zst_model.proofs.FoundElements.{found_passes, none_passes}
use Rattle.zst_model.proofs.Results.{ok_parts, bind_ok, unless_ok}

-- where no element passes, none is found
pub none_from_absent : {A : Type 0} (p : A → Bool) (xs : List A) → ((x : A) → Contains xs x → p x ≡ false) → find p xs ≡ None
none_from_absent p [] h = refl
none_from_absent p (y ∷ ys) h =
    rw (h y (contains_first y ys)) (none_from_absent p ys (λ x k. h x (contains_later y ys x k)))

-- names that test as different differ
pub bytes_differ : (a b : List ℕ) → bytes_eq a b ≡ false → a ≢ b
bytes_differ a b h e = true≢false (sym (bytes_same a b e) ∙ h)

-- what is found by a name has the name, and where none is found, none has it
pub named_found : {A : Type 0} (name_of : A → List ℕ) (name : List ℕ) (xs : List A) (x : A)
    → find (λ y. bytes_eq (name_of y) name) xs ≡ Some x → Contains xs x × (name_of x ≡ name)
named_found name_of name xs x h =
    let found = found_passes (λ y. bytes_eq (name_of y) name) xs x h in (found.0, same_bytes (name_of x) name found.1)

pub none_named : {A : Type 0} (name_of : A → List ℕ) (name : List ℕ) (xs : List A)
    → is_some (find (λ y. bytes_eq (name_of y) name) xs) ≡ false → (x : A) → Contains xs x → name_of x ≢ name
none_named name_of name xs h x k =
    bytes_differ (name_of x) name
    (none_passes (λ y. bytes_eq (name_of y) name) xs (none_there (find (λ y. bytes_eq (name_of y) name) xs) h) x k)

-- a chain that ends well gives its conditions
pub or_else_ok : {A B : Type 0} (refusal : Refusal) (o : Option A) (next : A → Result B Refusal) (y : B)
    → or_else refusal o next ≡ Ok y → (x : A) × (o ≡ Some x) × (next x ≡ Ok y)
or_else_ok refusal None next y h = absurd (cc)
or_else_ok refusal (Some x) next y h = (x, refl, h)

pub of_applying_ok : {A : Type 0} (r : Result A ApplyFault) (x : A) → of_applying r ≡ Ok x → r ≡ Ok x
of_applying_ok (Ok made) x h = ap (λ y. Ok y) (ok_parts made x h)
of_applying_ok (Err fault) x h = absurd (cc)

pub limited_ok : {A : Type 0} (which : Quantity) (most quantity : ℕ) (rest : Result A Refusal) (x : A)
    → limited which most quantity rest ≡ Ok x → (quantity ≤ most) × (rest ≡ Ok x)
limited_ok which most quantity rest x h =
    let below = unless_ok (nat_lt most quantity) (refusals.Limit which most) rest x h in
    (ltb-false most quantity below.0, below.1)

-- the answer of a commit, and the pool after it
pub committed_ok : (pool : Pool) (after : Stepped) → committed pool ≡ Ok after
    → (pool.number + 1 ≤ last_number) × (record { reply = ok_line (pool.number + 1) ∷ []; pool = record pool { number = pool.number + 1 } } ≡ after)
committed_ok pool after h = let made = limited_ok _ last_number (pool.number + 1) _ after h in (made.0, ok_parts _ after made.1)

-- a command on a dataset: the dataset is there, and has no partial state
pub on_dataset_ok : (name : List ℕ) (pool : Pool) (next : Dataset → Result Stepped Refusal) (after : Stepped) → on_dataset name pool next ≡ Ok after
    → (dataset : Dataset) × (dataset_named name pool ≡ Some dataset) × (is_some (partial_of name pool) ≡ false) × (next dataset ≡ Ok after)
on_dataset_ok name pool next after h =
    let found = or_else_ok (no_such (names.Dataset name)) (dataset_named name pool) (λ dataset. unless (is_some (partial_of name pool)) (busy_partial name) (next dataset)) after h in
    let free = unless_ok (is_some (partial_of name pool)) (busy_partial name) (next found.0) after found.2 in
    (found.0, found.1, free.0, free.1)

-- a command on a head: the dataset is there, the change gives another head, and the datasets with it are the next commit's
pub on_head_ok : (name : List ℕ) (pool : Pool) (change : DatedState → Result DatedState Refusal) (after : Stepped) → on_head name pool change ≡ Ok after
    → (dataset : Dataset) × (head : DatedState)
    × (dataset_named name pool ≡ Some dataset) × (is_some (partial_of name pool) ≡ false) × (change dataset.head ≡ Ok head)
    × (committed (record pool { datasets = with_head name head pool.datasets }) ≡ Ok after)
on_head_ok name pool change after h =
    let make = λ (head : DatedState). committed (record pool { datasets = with_head name head pool.datasets }) in
    let found = on_dataset_ok name pool (λ dataset. change dataset.head >>= make) after h in
    let changed = bind_ok (change found.0.head) make after found.3 in
    (found.0, changed.0, found.1, found.2, changed.1, changed.2)

-- what is seen of a dataset beside its head stays under another head
pub seen_under_head : {A : Type 0} (seen : Dataset → A) (name : List ℕ) (head : DatedState) (dataset : Dataset)
    → seen (record dataset { head = head }) ≡ seen dataset → seen (with_head_at name head dataset) ≡ seen dataset
seen_under_head {A = A} seen name head dataset h = go (bytes_eq dataset.name name)
  where
    go : (t : Bool) → seen (if t then record dataset { head = head } else dataset) ≡ seen dataset
    go true = h
    go false = refl

pub name_under_head : (name : List ℕ) (head : DatedState) (dataset : Dataset) → (with_head_at name head dataset).name ≡ dataset.name
name_under_head name head dataset = seen_under_head (λ d. d.name) name head dataset refl

pub origin_under_head : (name : List ℕ) (head : DatedState) (dataset : Dataset) → (with_head_at name head dataset).origin ≡ dataset.origin
origin_under_head name head dataset = seen_under_head (λ d. d.origin) name head dataset refl

-- the head is the new one where the name is this one, and otherwise the old one
pub head_is_new : (name : List ℕ) (head : DatedState) (dataset : Dataset) → dataset.name ≡ name → (with_head_at name head dataset).head ≡ head
head_is_new name head dataset e = rw (bytes_same dataset.name name e) refl

pub head_is_old : (name : List ℕ) (head : DatedState) (dataset : Dataset) → bytes_eq dataset.name name ≡ false → with_head_at name head dataset ≡ dataset
head_is_old name head dataset e = rw e refl

-- what holds of each dataset with its own head and of the changed one holds of all under another head
pub All-with_head : (P : Dataset → Type 0) (name : List ℕ) (head : DatedState) (datasets : List Dataset)
    → ((d : Dataset) → Contains datasets d → d.name ≡ name → P (record d { head = head })) → All P datasets → All P (with_head name head datasets)
All-with_head P name head datasets new old =
    All-from_contains P (with_head name head datasets)
    (λ d k. let found = map_contains (with_head_at name head) datasets d k in subst P found.2 (go found.0 found.1 (bytes_eq found.0.name name) refl))
  where
    go : (d : Dataset) → Contains datasets d → (t : Bool) → bytes_eq d.name name ≡ t → P (if t then record d { head = head } else d)
    go d k true e = new d k (same_bytes d.name name e)
    go d k false e = All-contains P datasets d old k
