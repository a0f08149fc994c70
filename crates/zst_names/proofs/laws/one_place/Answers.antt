use Rattle.zst_names.specs.Names.{IsDataset, IsSnapshot, IsBookmark}
use Rattle.zst_names.proofs.Places.{same_place}
use Rattle.zst_names.proofs.laws.one_place.Goals as goal

pub returns : goal.returns
returns c = record { dataset = same_place IsDataset; snapshot = same_place IsSnapshot; bookmark = same_place IsBookmark }
