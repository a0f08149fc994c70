-- Items whose records are put with one head.
use Rattle.std.specs.Prelude.{◌≡◌, ℕ, ◌%◌, List, [], length}
use Rattle.zst_record.specs.Heads.{payload_len}
use Rattle.zst_stream.specs.FoundItems.{HasBonus, found_item}
use Rattle.zst_stream.specs.Records.{item_head, item_payload}
use Rattle.zst_stream.specs.declared.item_ref.ItemRef.{ItemRef}

-- the record of an item that nothing follows
pub record IsLone (to : ℕ) (item : ItemRef) : Type 0 where
  pub alone : item_payload (found_item item) ≡ []
  pub len : payload_len (item_head to (found_item item)) ≡ 0
  pub bonus : HasBonus item

-- the record of an item that the bytes of a block follow
pub record IsFollowed (to : ℕ) (item : ItemRef) (bytes : List ℕ) : Type 0 where
  pub are : item_payload (found_item item) ≡ bytes
  pub bonus : HasBonus item
  pub len : payload_len (item_head to (found_item item)) ≡ length bytes
  pub words : length bytes % 4 ≡ 0
