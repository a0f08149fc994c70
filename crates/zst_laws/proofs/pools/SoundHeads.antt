-- A command that changes the head of a dataset keeps a pool sound.
use Rattle.std.proofs.Common.{◌≡◌, inl, ℕ, ◌+◌, Bool, true, false, List, None, Contains, if◌then◌else◌, refl, subst, sym, ◌∙◌, ap, arith}
use Rattle.std.specs.Str.{bytes_eq}
use Rattle.zst_model.specs.states.DatedState.{DatedState}
use Rattle.zst_model.specs.pools.Pool.{Pool, Dataset}
use Rattle.zst_model.specs.pools.Ancestry.{Source, StandsBefore}
use Rattle.zst_model.specs.pools.Rows.{head_row}
use Rattle.zst_model.specs.pools.Step.{with_head_at, with_head}
use Rattle.zst_model.proofs.InsertedLaws.{contains-map, map_contains}
use Rattle.zst_model.proofs.OrderLaws.{same_bytes}
use Rattle.zst_model.proofs.DatedStates.{dated_higher}
use Rattle.zst_laws.proofs.pools.Rows.{name_under_head, origin_under_head}
use Rattle.zst_laws.proofs.histories.Agreement.{Keeps}
use Rattle.zst_laws.proofs.pools.Ancestry.{HasOrigins, stands_on}
use Rattle.zst_laws.proofs.pools.Descent.{head_has_row, ComesFrom}
use Rattle.zst_laws.proofs.pools.OtherDatasets.{with_datasets, KeepsDatasets}

module _ (pool : Pool) (name : List ℕ) (head : DatedState) where
  abbrev next_pool : Pool
  next_pool = with_datasets pool (with_head name head pool.datasets)

  -- each dataset under the new head is an old one, whose name and origin it has
  old_of : (dataset : Dataset) → Contains (with_head name head pool.datasets) dataset
      → (old : Dataset) × Contains pool.datasets old × (with_head_at name head old ≡ dataset)
  old_of dataset there = map_contains (with_head_at name head) pool.datasets dataset there

  old_name : (dataset old : Dataset) → with_head_at name head old ≡ dataset → old.name ≡ dataset.name
  old_name dataset old e = sym (name_under_head name head old) ∙ ap (λ d. d.name) e

  head_origins : HasOrigins pool next_pool
  head_origins origin of is =
      let (old, there, e) = old_of is.dataset is.there in record {
        dataset = old;
        there = there;
        named = old_name is.dataset old e ∙ is.named;
        snapshot_there = is.snapshot_there;
        is_origin = sym (origin_under_head name head old) ∙ ap (λ d. d.origin) e ∙ is.is_origin;
      }

  -- what stands before a head now stood before each head of its name
  head_before : (source : Source) (now old : List ℕ) → now ≡ old → StandsBefore next_pool source now None → StandsBefore pool source old None
  head_before source now old e before = stands_on next_pool pool source head_origins old None (subst (λ n. StandsBefore next_pool source n None) e before)

  module _ (dataset : Dataset) (there : Contains pool.datasets dataset) (named : dataset.name ≡ name) (keeps : Keeps (pool.number + 1) dataset.head head) where
    -- the new head comes from the old head of its dataset, and each other one is as it was
    head_comes : (old : Dataset) → Contains pool.datasets old → ComesFrom pool next_pool (head_row (pool.number + 1) (with_head_at name head old))
    head_comes old is = go (bytes_eq old.name name) refl
      where
        go : (t : Bool) → bytes_eq old.name name ≡ t → ComesFrom pool next_pool (head_row (pool.number + 1) (if t then record old { head = head } else old))
        go true e = record {
          old = head_row pool.number dataset;
          there = head_has_row pool dataset there;
          before = λ source here is before. inl (head_before source old.name dataset.name (same_bytes old.name name e ∙ sym named) before);
          remembers = λ number state l h. keeps.remembers number state (omega arith) h;
          agrees = λ earlier l h. keeps.agrees earlier (omega arith) h;
          dated = λ h. keeps.dated (dated_higher pool.number (pool.number + 1) (omega arith) dataset.head h);
        }
        go false e = record {
          old = head_row pool.number old;
          there = head_has_row pool old is;
          before = λ source here is before. inl (head_before source old.name old.name refl before);
          remembers = λ number state l h. h;
          agrees = λ earlier l h. h;
          dated = dated_higher pool.number (pool.number + 1) (omega arith) old.head;
        }

    -- a head that keeps what its dataset's old head remembered keeps the datasets
    pub head_keeps : KeepsDatasets pool (with_head name head pool.datasets)
    head_keeps = record {
      origins = λ origin of has is. head_origins origin of is;
      names = λ of (d, here, same). (with_head_at name head d, contains-map (with_head_at name head) pool.datasets d here, name_under_head name head d ∙ same);
      targets = λ partial here (d, is, same). let (old, was, e) = old_of d is in (old, was, old_name d old e ∙ same);
      heads = λ d is.
          let (old, was, e) = old_of d is in
          inl (subst (λ x. ComesFrom pool next_pool (head_row (pool.number + 1) x)) e (head_comes old was));
    }
