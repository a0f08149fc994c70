-- How the program opens an image, or the two of a replay.
use Rattle.std.specs.Prelude.{◌≡◌, ◌≢◌, ℕ, ◌*◌, if◌then◌else◌, List, Option, Some, None, Result, Ok, Err}
use Rattle.zst_line.specs.Line.{LineAnswers}
use Rattle.zst_line.specs.declared.line.Line.{Line}
use Rattle.zst_line.specs.declared.line.Line.TheVariants.{Create, Step, Send, Resume, Receive, Token, Check, Gen, Replay}
use Rattle.zst_line.specs.declared.line.LineFault.{LineFault}
use Rattle.zst_line.specs.declared.line.LineFault.TheVariants.{Memory}
use Rattle.zst_model.specs.pools.Step.{commits}
use Rattle.zst_run.specs.declared.image.OpenMode.{OpenMode}
use Rattle.zst_run.specs.declared.image.OpenMode.TheVariants.{Shared, Alone, Made}
use Rattle.zst_run.specs.declared.image.Opening.{Opening}
use Rattle.zst_run.specs.declared.image.Opening.TheVariants.{One, Two}

-- the one image that a line names
abbrev pub image_in : Line → Option (List ℕ)
image_in (Create image sectors id) = Some image
image_in (Step image command) = Some image
image_in (Send image from redacts snapshot) = Some image
image_in (Resume image token) = Some image
image_in (Receive image keeps forces origin target) = Some image
image_in (Token image dataset) = Some image
image_in (Check image) = Some image
image_in (Gen image steps) = Some image
image_in line = None

-- and how it is opened: a new one is made, of 512 bytes for each sector; a line that commits has its image alone
abbrev pub way_of : Line → Option OpenMode
way_of (Create image sectors id) = Some (Made (sectors * 512))
way_of (Step image command) = Some (if commits command then Alone else Shared)
way_of (Send image from redacts snapshot) = Some Shared
way_of (Resume image token) = Some Shared
way_of (Receive image keeps forces origin target) = Some Alone
way_of (Token image dataset) = Some Shared
way_of (Check image) = Some Shared
way_of (Gen image steps) = Some Alone
way_of line = None

-- both of them, where they are there
abbrev pub one_of : Option (List ℕ) → Option OpenMode → Option Opening
one_of None way = None
one_of (Some image) None = None
one_of (Some image) (Some way) = Some (One image way)

-- the images of a line and how they are opened, both of a replay each alone; none where a line names no image
abbrev pub opening_in : Line → Option Opening
opening_in (Replay here there) = Some (Two here there)
opening_in line = one_of (image_in line) (way_of line)

-- the same of what words are; none where they are no line
abbrev pub opening_by : Result Line LineFault → Option Opening
opening_by (Ok line) = opening_in line
opening_by (Err fault) = None

-- what words open: the line that they are, or why they are none, says it
pub record OpensBy (words : List (List ℕ)) (found : Option Opening) : Type 0 where
  pub line : Result Line LineFault
  pub says : LineAnswers words line
  pub known : line ≢ Err Memory
  pub is : found ≡ opening_by line
