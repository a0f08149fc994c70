-- The names of a report are of rows, and what is found with such names is no word that a pool is sound.
use Rattle.std.proofs.Common.{◌≡◌, ℕ, ◌<◌, List, length, Contains, get_or, Option, Some, None, Result, Ok, Err, refl, sym, ap, ◌∙◌, subst, arith}
use Rattle.std.specs.Prelude.{IfOk}
use Rattle.zst_block.specs.declared.fault.BlockFault.{BlockFault}
use Rattle.zst_dir.specs.Rows.{Rows}
use Rattle.zst_dir.specs.declared.rows.Bookmark.{Bookmark}
use Rattle.zst_dir.specs.declared.rows.Snapshot.{Snapshot}
use Rattle.zst_tree.specs.declared.or_memory.OrMemory.{OrMemory}
use Rattle.zst_check.specs.Findings.{Finds, IsStateOf, name_of}
use Rattle.zst_check.specs.ReportNames.{AreNamesIn, FindsNamed, IsStateName, OfHead, OfPartial, OfSnapshot, WithOwn}
use Rattle.zst_check.specs.declared.report.Report.{Report}
use Rattle.zst_check.specs.declared.report.Report.TheVariants.{Sound, Unsound}
use Rattle.zst_check.specs.declared.states.State.{State}
use Rattle.zst_check.specs.declared.states.State.TheVariants as states

-- what stands at a place of a list is in it
pub listed_at : {A : Type 0} (all there : List A) (place : ℕ) (item : A) → there ≡ all → place < length there → item ≡ get_or there place item → Contains all item
listed_at {A} all there place item same under is = (place, omega (arith, under, ap length same), sym (is ∙ ap (λ (list : List A). get_or list place item) same))

-- a state of the rows has its name
pub state_named : (rows : Rows) (state : State) → IsStateOf rows state → IsStateName rows (name_of state)
state_named rows (states.Snapshot row) own = OfSnapshot row.now own refl
state_named rows (states.Head row) own = OfHead row.now own refl
state_named rows (states.Partial row) own = OfPartial row.now own refl

-- what is found doesn't say that the pool is sound
pub none_sound : (rows : Rows) (found : Option Report) (blocks : ℕ) → found ≡ Some (Sound blocks) → FindsNamed rows found → ⊥
none_sound rows found blocks is named = subst (FindsNamed rows) is named

-- and its names are of the rows
pub names_found : (rows : Rows) (found : Option Report) (earlier later : List ℕ) (object block : ℕ) → found ≡ Some (Unsound earlier later object block) → FindsNamed rows found → AreNamesIn rows earlier later
names_found rows found earlier later object block is named = subst (FindsNamed rows) is named

-- what is found of the list of a bookmark has its name and that of its own snapshot
pub own_named : (rows : Rows) (row : Bookmark) (own : Snapshot) → Contains rows.bookmarks row → Contains rows.snapshots own → (result : Result (Option Report) (OrMemory BlockFault))
    → IfOk result (Finds (Unit {0}) (λ earlier later object block. (row.name ≡ earlier) × (own.name ≡ later))) → IfOk result (FindsNamed rows)
own_named rows row own listed also (Ok None) named = tt
own_named rows row own listed also (Ok (Some (Sound blocks))) named = absurd named
own_named rows row own listed also (Ok (Some (Unsound earlier later object block))) named = WithOwn row listed named.0 own also named.1
own_named rows row own listed also (Err fault) named = tt
