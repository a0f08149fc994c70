-- What is kept of the bytes before a record.
use Rattle.std.specs.Prelude.{ℕ, ◌≡◌, ◌≤◌, ◌%◌, List, ◌++◌, length, take}
use Rattle.zst_bytes.specs.Bytes.{number_at}
use Rattle.zst_fletcher.specs.WeightSum.{weight_sum, IsWhole}
use Rattle.zst_record.specs.Decoding.{features_in}
use Rattle.zst_record.specs.Formats.{record_len}
use Rattle.zst_reader.specs.declared.place.LeadingSum.{LeadingSum}
use Rattle.zst_reader.specs.declared.place.Place.{Place}

-- the sum has gone so far into the rest, behind these bytes
pub record IsAhead (before rest : List ℕ) (ahead : LeadingSum) : Type 0 where
  pub there : ahead.count ≤ length rest
  pub sum : ahead.sum ≡ weight_sum (before ++ take ahead.count rest)

-- the place that these bytes, whole words, lead to, where this rest follows
pub record IsPlaceAfter (before rest : List ℕ) (place : Place) : Type 0 where
  pub words : IsWhole before
  pub at : place.at ≡ length before
  pub sum : place.sum ≡ weight_sum before
  pub ahead : IsAhead before rest place.ahead
  pub features : place.features ≡ features_in before
  pub to : place.to ≡ number_at before 40 8

-- a record that is handed out is there, in whole words
pub record IsWithin (count size : ℕ) : Type 0 where
  pub there : size ≤ count
  pub words : size % 4 ≡ 0

-- so many of the held bytes are a record
pub record IsRecordIn (count size : ℕ) : Type 0 where
  pub header : record_len ≤ size
  pub within : IsWithin count size
