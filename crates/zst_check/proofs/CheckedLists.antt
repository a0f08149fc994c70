-- What is found of one list is so of its bookmark.
use Rattle.std.proofs.Common.{◌≡◌, ◌↔◌, ℕ, zero, suc, ◌<◌, List, [], ◌∷◌, length, Option, Some, None, Contains, get_or, refl, sym, ◌∙◌, ap, subst, arith}
use Rattle.std.specs.List.{AllZip}
use Rattle.std.specs.Prelude.{Result, Ok, Err}
use Rattle.zst_block.specs.declared.fault.BlockFault.{BlockFault}
use Rattle.zst_dir.specs.RowNames.{Match}
use Rattle.zst_dir.specs.declared.rows.Bookmark as rows
use Rattle.zst_dir.specs.declared.rows.Snapshot.{Snapshot as Row}
use Rattle.zst_dir.proofs.Matches.{Match-alike, length-Match}
use Rattle.zst_image.specs.Reads.{BookmarkIs, SnapshotIs}
use Rattle.zst_model.specs.fields.Guids.{IsGuidSet}
use Rattle.zst_model.specs.pools.Ancestry.{OfBookmark}
use Rattle.zst_model.specs.pools.Pool.{Bookmark, Pool, Snapshot}
use Rattle.zst_model.specs.pools.RedSet.{objects_of}
use Rattle.zst_objset.specs.Sets.{SetHolds}
use Rattle.zst_tree.specs.Faults.{GivesOrTells}
use Rattle.zst_tree.specs.Indices.{Blocks, IsNoDamage}
use Rattle.zst_tree.specs.declared.or_memory.OrMemory.{OrMemory}
use Rattle.zst_tree.specs.declared.or_memory.OrMemory.TheVariants.{Fault, Memory}
use Rattle.zst_tree.specs.declared.tree.ObjSet.{ObjSet}
use Rattle.zst_laws.specs.RedactionLists.{AreListed, AreRedactions, Lists}
use Rattle.zst_laws.specs.RememberedStates.{IsOwn}
use Rattle.zst_check.specs.FailingPlaces.{ListDiffers}
use Rattle.zst_check.specs.Findings.{Finds, StandsAtPlace}
use Rattle.zst_check.specs.Redactions.{AreSetsOf, DiffersFrom, IsListed}
use Rattle.zst_check.specs.declared.report.Report.{Report}
use Rattle.zst_check.specs.declared.report.Report.TheVariants as reports
use Rattle.zst_check.proofs.NamedPlaces.{Match-at}
use Rattle.zst_check.proofs.RedactionSets.{same_redactions}

-- the sets of rows hold the states of the snapshots for which these stand
pub sets_hold : (has : Blocks) (all : List Row) (snapshots : List Snapshot) → Match (SnapshotIs None has) all snapshots → (sets : List ObjSet) (redactions : List Snapshot) → AreSetsOf all snapshots sets redactions
    → AllZip (SetHolds has) sets (objects_of redactions)
sets_hold has all snapshots match [] [] are = tt
sets_hold has all snapshots match [] (redaction ∷ redactions) are = absurd are
sets_hold has all snapshots match (set ∷ sets) [] are = absurd are
sets_hold has all snapshots match (set ∷ sets) (redaction ∷ redactions) are = (
  subst (λ (s : ObjSet). SetHolds has s redaction.objects) are.0.is_set (Match-alike (SnapshotIs None has) all snapshots are.0.row redaction match are.0.alike).objects,
  sets_hold has all snapshots match sets redactions are.1,
)

-- so does the set of a row where a snapshot stands
pub row_is : (has : Blocks) (all : List Row) (snapshots : List Snapshot) → Match (SnapshotIs None has) all snapshots → (place : ℕ) (row : Row) → place < length all → row ≡ get_or all place row → (snapshot : Snapshot)
    → StandsAtPlace snapshots (Some place) snapshot → SnapshotIs None has row snapshot
row_is has all snapshots match place row inside is snapshot at =
    subst (SnapshotIs None has row) (at snapshot) (subst (λ (other : Row). SnapshotIs None has other (get_or snapshots place snapshot)) (sym is) (Match-at (SnapshotIs None has) all snapshots match place row snapshot inside))

-- something stands at each place of a list
pub at_place : {A : Type 0} (xs : List A) (k : ℕ) → k < length xs → (x : A) × ((d : A) → get_or xs k d ≡ x)
at_place [] k inside = absurd (omega (arith, inside))
at_place (x ∷ xs) zero inside = (x, λ d. refl)
at_place (x ∷ xs) (suc k) inside = at_place xs k (omega (arith, inside))

-- what is found of less is found of more
pub finds_more : (holds more : Type 0) (fails others : List ℕ → List ℕ → ℕ → ℕ → Type 0) → (holds → more) → ((earlier later : List ℕ) (object block : ℕ) → fails earlier later object block → others earlier later object block)
    → (result : Result (Option Report) (OrMemory BlockFault)) → GivesOrTells (Finds holds fails) IsNoDamage result → GivesOrTells (Finds more others) IsNoDamage result
finds_more holds more fails others one other (Ok None) found = one found
finds_more holds more fails others one other (Ok (Some (reports.Sound blocks))) found = found
finds_more holds more fails others one other (Ok (Some (reports.Unsound earlier later object block))) found = other earlier later object block found
finds_more holds more fails others one other (Err (Fault fault)) found = found
finds_more holds more fails others one other (Err Memory) found = tt

-- a bookmark's own snapshot is the one at this place, and that one alone
module _ (pool : Pool) (bookmark : Bookmark) (found : Option ℕ) (only : (snapshot : Snapshot) → (Contains pool.snapshots snapshot × IsOwn (OfBookmark bookmark) snapshot) ↔ StandsAtPlace pool.snapshots found snapshot) where
  same_place : (found : Option ℕ) (a b : Snapshot) → StandsAtPlace pool.snapshots found a → StandsAtPlace pool.snapshots found b → a ≡ b
  same_place None a b here there = absurd here
  same_place (Some place) a b here there = sym (here a) ∙ there a

  -- without it, or without redaction snapshots, there is nothing to list
  pub lists_none : ((snapshot : Snapshot) → StandsAtPlace pool.snapshots found snapshot → (others : List Snapshot) → AreRedactions pool snapshot bookmark.redact others → ⊥) → IsListed pool bookmark
  lists_none none other others some there is also = absurd (none other ((only other).0 (there, is)) others also)

  -- its redaction snapshots are the only ones: what they have left of it is to be listed
  module _ (set : IsGuidSet bookmark.redact) (own : Snapshot) (redactions : List Snapshot) (at : StandsAtPlace pool.snapshots found own) (are : AreRedactions pool own bookmark.redact redactions) where
    pub lists_all : Lists bookmark own redactions → IsListed pool bookmark
    lists_all lists other others some there is also =
        let one = same_place found own other at ((only other).0 (there, is)) in
        let same = same_redactions pool own bookmark.redact set redactions others are (subst (λ (s : Snapshot). AreRedactions pool s bookmark.redact others) (sym one) also) in
        subst (λ (s : Snapshot). Lists bookmark s others) one (subst (Lists bookmark own) same lists)

    pub differs_there : Contains pool.bookmarks bookmark → 0 < length bookmark.redact → (earlier later : List ℕ) (object block : ℕ)
        → DiffersFrom bookmark own redactions earlier later object block → ListDiffers pool earlier later object block
    differs_there there some earlier later object block is = record {
      bookmark = bookmark;
      there = there;
      own = own;
      own_there = ((only own).1 at).0;
      named = is.named;
      own_named = is.own_named;
      is_own = ((only own).1 at).1;
      lists = some;
      redactions = redactions;
      are = are;
      differs = is.differs;
    }

-- what isn't found is told all the same
pub told_too : (holds more : Option Report → Type 0) (fault : OrMemory BlockFault) → GivesOrTells holds IsNoDamage (Err fault) → GivesOrTells more IsNoDamage (Err fault)
told_too holds more (Fault fault) told = told
told_too holds more Memory told = tt

-- a place at which it fails is one at which more fails
pub fails_too : (holds more : Type 0) (fails : List ℕ → List ℕ → ℕ → ℕ → Type 0) (report : Report) → Finds holds fails (Some report) → Finds more fails (Some report)
fails_too holds more fails (reports.Sound blocks) found = found
fails_too holds more fails (reports.Unsound earlier later object block) found = found

-- the bookmark at a place is there, and the row at that place stands for it
pub record StandsThere (has : Blocks) (bookmarks : List Bookmark) (place : ℕ) (row : rows.Bookmark) : Type 0 where
  pub bookmark : Bookmark
  pub is : BookmarkIs has row bookmark
  pub there : Contains bookmarks bookmark
  pub at : (d : Bookmark) → get_or bookmarks place d ≡ bookmark

pub row_stands : (has : Blocks) (all : List rows.Bookmark) (bookmarks : List Bookmark) → Match (BookmarkIs has) all bookmarks → (items : List rows.Bookmark) → items ≡ all → (place : ℕ) (row : rows.Bookmark)
    → place < length items → row ≡ get_or items place row → StandsThere has bookmarks place row
row_stands has all bookmarks match items same place row inside is = record {
  bookmark = one.0;
  is =
      subst (BookmarkIs has row) (one.1 one.0) (subst (λ (other : rows.Bookmark). BookmarkIs has other (get_or bookmarks place one.0)) (sym (is ∙ ap (λ (list : List rows.Bookmark). get_or list place row) same))
      (Match-at (BookmarkIs has) all bookmarks match place row one.0 under));
  there = (place, within, one.1 one.0);
  at = one.1;
}
  where
    under : place < length all
    under = omega (arith, inside, ap length same)

    within : place < length bookmarks
    within = omega (arith, under, length-Match (BookmarkIs has) all bookmarks match)

    one : (x : Bookmark) × ((d : Bookmark) → get_or bookmarks place d ≡ x)
    one = at_place bookmarks place within

-- where each bookmark lists what it should, part 4 holds
pub all_listed : (pool : Pool) → ((k : ℕ) (d : Bookmark) → k < length pool.bookmarks → IsListed pool (get_or pool.bookmarks k d)) → AreListed pool
all_listed pool each bookmark own redactions there some here is are =
    (subst (IsListed pool) there.2 (each there.0 bookmark there.1)) own redactions some here is are
