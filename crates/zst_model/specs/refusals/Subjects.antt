-- The texts of what a refusal names.
use Rattle.std.specs.Prelude.{ℕ, List, [], ◌∷◌, codes, decimal}
use Rattle.std.specs.List.{concat}
use Rattle.zst_model.specs.refusals.Texts.{guid_text}
use Rattle.zst_model.specs.declared.refusals.subjects.Name.{Name}
use Rattle.zst_model.specs.declared.refusals.subjects.Name.TheVariants as names
use Rattle.zst_model.specs.declared.refusals.subjects.AbsentSubject.{AbsentSubject}
use Rattle.zst_model.specs.declared.refusals.subjects.AbsentSubject.TheVariants as missings
use Rattle.zst_model.specs.declared.refusals.subjects.PresentSubject.{PresentSubject}
use Rattle.zst_model.specs.declared.refusals.subjects.PresentSubject.TheVariants as presents
use Rattle.zst_model.specs.declared.refusals.subjects.Holder.{Holder}
use Rattle.zst_model.specs.declared.refusals.subjects.Holder.TheVariants as holders
use Rattle.zst_model.specs.declared.refusals.subjects.ResumePlace.{ResumePlace}

-- the text of a name
abbrev pub name_text : Name → List ℕ
name_text (names.Dataset name) = name
name_text (names.Snapshot name) = name
name_text (names.Bookmark name) = name

-- that something is absent (E3)
abbrev pub missing_text : AbsentSubject → List ℕ
missing_text (missings.Named name) = concat (codes "no such " ∷ name_text name ∷ [])
missing_text (missings.Guid guid) = concat (codes "no such guid " ∷ guid_text guid ∷ [])
missing_text (missings.Session id) = concat (codes "no such session " ∷ decimal id ∷ [])

-- that something is there (E4)
abbrev pub present_text : PresentSubject → List ℕ
present_text (presents.Named name) = concat (codes "exists: " ∷ name_text name ∷ [])
present_text presents.Pool = codes "exists: pool"

-- that something is held, and by what (E5)
abbrev pub holder_text : Holder → List ℕ
holder_text (holders.Session id) = concat (codes "busy: session " ∷ decimal id ∷ [])
holder_text (holders.Partial name) = concat (codes "busy: partial " ∷ name ∷ [])
holder_text (holders.Clone name) = concat (codes "busy: clone " ∷ name ∷ [])
holder_text (holders.Bookmark name) = concat (codes "busy: bookmark " ∷ name ∷ [])
holder_text (holders.Snapshot name) = concat (codes "busy: snapshot " ∷ name ∷ [])

-- a guid, and the object and the offset at which a stream goes on
abbrev pub place_text : ResumePlace → List ℕ
place_text place =
    concat (guid_text place.guid ∷ codes " " ∷ decimal place.point.object ∷ codes " " ∷ decimal place.point.offset ∷ [])
