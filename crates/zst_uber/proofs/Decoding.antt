-- What a body says.
use Rattle.std.proofs.Common.{◌≡◌, ℕ, ◌+◌, ◌^◌, ◌<◌, List, Option, Some, Result, Ok, Err, IfOk, sym, ◌∙◌, ap, subst}
use Rattle.zst_bytes.specs.Bytes.{number_at}
use Rattle.zst_outside.specs.Images.{DiskState, IsSynced, OnlyReads}
use Rattle.zst_outside.specs.Ranges.{bytes_at}
use Rattle.zst_uber.specs.Body.{IsBody, InRange, body_bytes, uber_at}
use Rattle.zst_uber.proofs.BodyLaws.{uber_at-body_bytes, version-back, number_back}
use Rattle.zst_uber.specs.Slots.{latest, Stands, IsNext}
use Rattle.zst_uber.specs.Commit.{LabelSettled}
use Rattle.zst_uber.specs.OpenAnswers.{Decodes, GivesUber, IsLatest, TellsNext}
use Rattle.zst_uber.specs.declared.uber.Uber.{Uber}
use Rattle.zst_uber.specs.declared.fault.UberFault.{UberFault}
use Rattle.zst_uber.specs.declared.fault.UberFault.TheVariants.{Damaged, NoPool, BadVersion, DiskFault}

-- the uber of a body is what its fields say
pub read_is : (size : ℕ) (uber : Uber) (body : List ℕ) → IsBody size uber body → uber_at body ≡ uber
read_is size uber body is = ap uber_at is.spelled ∙ uber_at-body_bytes uber is.fits

-- where a body is an uber's, that uber is the answer
pub gives : (size place : ℕ) (uber : Uber) (body : List ℕ) (result : Result Uber UberFault) → IsBody size uber body → Decodes size place body result → GivesUber uber result
gives size place uber body (Ok found) is decodes = sym (read_is size found body decodes) ∙ read_is size uber body is
gives size place uber body (Err (Damaged sector stated found)) is decodes = decodes.4 uber is
gives size place uber body (Err NoPool) is decodes = decodes
gives size place uber body (Err (BadVersion version)) is decodes =
    decodes.1 (decodes.0 ∙ ap (λ (l : List ℕ). number_at l 8 4) is.spelled ∙ version-back uber is.fits.version ∙ is.in_range.version)
gives size place uber body (Err DiskFault) is decodes = tt

-- what was no body by its fields is none
pub none_is : (size : ℕ) (read : Uber) (body : List ℕ) → read ≡ uber_at body → ((InRange size read × (body ≡ body_bytes read)) → ⊥) → (uber : Uber) → IsBody size uber body → ⊥
none_is size read body fields isnt uber is =
    let same : read ≡ uber = fields ∙ read_is size uber body is in
    isnt (subst (λ (u : Uber). InRange size u × (body ≡ body_bytes u)) (sym same) (is.in_range, is.spelled))

-- reads leave nothing pending where nothing was
pub still_synced : (old new : DiskState) → IsSynced old → OnlyReads old new → IsSynced new
still_synced old new synced reads = λ c now. synced c (reads.crash c now) ∙ sym reads.seen

-- the next number after an uber that stands
pub next_after : (uber : Uber) (image : List ℕ) → uber.number < 2 ^ 64 → Stands uber image → IsNext (uber.number + 1) (latest image)
next_after uber image fits stands = subst (λ (b : Option (List ℕ)). IsNext (uber.number + 1) b) (sym stands) (ap (λ (n : ℕ). n + 1) (sym (number_back uber fits)))

-- so it is for the latest body, however the disk was read
pub gives_latest : (size now place : ℕ) (uber : Uber) (read image : List ℕ) (result : Result Uber UberFault) → now ≡ size → Some read ≡ latest image → IsLatest size uber image → Decodes now place read result → GivesUber uber result
gives_latest size now place uber read image result same_size same is decodes =
    let spelled : Some read ≡ Some (body_bytes uber) = same ∙ is.stands in
    let same_body : read ≡ body_bytes uber = cc in
    gives now place uber read result (record { spelled = same_body; fits = is.fits; in_range = rw same_size is.in_range }) decodes

pub stands_latest : (size now place : ℕ) (read image : List ℕ) (result : Result Uber UberFault) → now ≡ size → Some read ≡ latest image → Decodes now place read result → IfOk result (λ uber. IsLatest size uber image)
stands_latest size now place read image (Ok uber) same_size same decodes =
    record { stands = sym same ∙ ap (λ (l : List ℕ). Some l) decodes.spelled; fits = decodes.fits; in_range = rw same_size at decodes.in_range }
stands_latest size now place read image (Err fault) same_size same decodes = tt

pub next_latest : (size now place : ℕ) (read image : List ℕ) (result : Result Uber UberFault) → now ≡ size → Some read ≡ latest image → Decodes now place read result → TellsNext result (latest image)
next_latest size now place read image (Ok uber) same_size same decodes = next_after uber image decodes.fits.number (sym same ∙ ap (λ (l : List ℕ). Some l) decodes.spelled)
next_latest size now place read image (Err (Damaged sector stated found)) same_size same decodes = tt
next_latest size now place read image (Err NoPool) same_size same decodes = absurd decodes
next_latest size now place read image (Err (BadVersion version)) same_size same decodes = tt
next_latest size now place read image (Err DiskFault) same_size same decodes = tt

-- what was synced is settled in sectors 0 to 7
pub synced_label : (disk : DiskState) → IsSynced disk → LabelSettled disk
synced_label disk synced = λ d now p n le. ap (λ (l : List ℕ). bytes_at l p n) (synced d now)
