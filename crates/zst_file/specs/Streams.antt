-- What an input gave and an output took, read off the calls and their answers.
use Rattle.std.specs.Prelude.{ℕ, ◌==◌, nat_lt, Bool, false, ◌&&◌, List, [], ◌∷◌, ◌++◌, length}
use Rattle.zst_file.specs.Event.{Event, gave, took}

-- the bytes that a call passed on
abbrev pub passed : Event → List ℕ
passed (gave room bytes) = bytes
passed (took bytes) = bytes
passed _ = []

-- the bytes that were passed on, in the order of the calls
abbrev pub text_of : List Event → List ℕ
text_of [] = []
text_of (e ∷ earlier) = text_of earlier ++ passed e

-- a read gave no byte, though there was room for some
abbrev pub tells_end : Event → Bool
tells_end (gave room bytes) = nat_lt 0 room && (length bytes == 0)
tells_end _ = false

-- the last call told the end
abbrev pub is_ended : List Event → Bool
is_ended [] = false
is_ended (e ∷ earlier) = tells_end e
