-- What the laws of a received send rest on.
use Rattle.zst_laws.specs.ReceivedRecords.{ReceivedIsApplied}
use Rattle.zst_laws.specs.ResumedSends.{CutStands, PointsRise, ResumeIsExact, StartStands}
use Rattle.zst_laws.specs.ExactSends.{SendIsExact, SnapshotHasView}
use Rattle.zst_stream.specs.Items.{ViewIsRead, ViewIsStream}
use Rattle.zst_stream.specs.Laws.{CoversArePieces, FrontsAgree, ImageIsRead}

-- the laws of views and of what is applied, and those of the bytes of streams
pub record Grounds : Type 0 where
  pub exact : SendIsExact
  pub views : SnapshotHasView
  pub starts : StartStands
  pub cuts : CutStands
  pub resumes : ResumeIsExact
  pub rises : PointsRise
  pub applied : ReceivedIsApplied
  pub fronts : FrontsAgree
  pub streams : ViewIsStream
  pub reads : ViewIsRead
  pub images : ImageIsRead
  pub covered : CoversArePieces
