-- The kind of a line, by its first word.
use Rattle.std.proofs.Common.{◌≡◌, ℕ, List, ◌∷◌, if◌then◌else◌, bytes_eq, codes, refl, sym, ap, ◌∙◌}
use Rattle.zst_line.specs.declared.kind.Kind.{Kind}
use Rattle.zst_line.specs.declared.kind.Kind.TheVariants as kinds
use Rattle.zst_line.specs.Grammar.{word_of, word_at}

-- the kind that a first word names
abbrev pub kind_named : List ℕ → Kind
kind_named word =
    if bytes_eq word (codes "dump") then kinds.Dump
    else (if bytes_eq word (codes "create") then kinds.Create
    else (if bytes_eq word (codes "fs") then kinds.Fs
    else (if bytes_eq word (codes "volume") then kinds.Volume
    else (if bytes_eq word (codes "object") then kinds.Object
    else (if bytes_eq word (codes "write") then kinds.Write
    else (if bytes_eq word (codes "punch") then kinds.Punch
    else (if bytes_eq word (codes "free") then kinds.Free
    else (if bytes_eq word (codes "read") then kinds.Read
    else (if bytes_eq word (codes "list") then kinds.List
    else (if bytes_eq word (codes "snapshot") then kinds.Snapshot
    else (if bytes_eq word (codes "clone") then kinds.Clone
    else (if bytes_eq word (codes "bookmark") then kinds.Bookmark
    else (if bytes_eq word (codes "rollback") then kinds.Rollback
    else (if bytes_eq word (codes "destroy") then kinds.Destroy
    else (if bytes_eq word (codes "redact") then kinds.Redact
    else (if bytes_eq word (codes "send") then kinds.Send
    else (if bytes_eq word (codes "receive") then kinds.Receive
    else (if bytes_eq word (codes "abort") then kinds.Abort
    else (if bytes_eq word (codes "token") then kinds.Token
    else (if bytes_eq word (codes "check") then kinds.Check
    else (if bytes_eq word (codes "gen") then kinds.Gen
    else (if bytes_eq word (codes "reclaim") then kinds.Reclaim
    else kinds.Replay))))))))))))))))))))))

named_back : (kind : Kind) → kind_named (word_of kind) ≡ kind
named_back kinds.Dump = refl
named_back kinds.Create = refl
named_back kinds.Fs = refl
named_back kinds.Volume = refl
named_back kinds.Object = refl
named_back kinds.Write = refl
named_back kinds.Punch = refl
named_back kinds.Free = refl
named_back kinds.Read = refl
named_back kinds.List = refl
named_back kinds.Snapshot = refl
named_back kinds.Clone = refl
named_back kinds.Bookmark = refl
named_back kinds.Rollback = refl
named_back kinds.Destroy = refl
named_back kinds.Redact = refl
named_back kinds.Send = refl
named_back kinds.Receive = refl
named_back kinds.Abort = refl
named_back kinds.Token = refl
named_back kinds.Check = refl
named_back kinds.Gen = refl
named_back kinds.Reclaim = refl
named_back kinds.Replay = refl

abbrev pub first_kind : List (List ℕ) → Kind
first_kind words = kind_named (word_at words 0)

-- words are of one kind
pub same_kind : (a b : Kind) (x y : List (List ℕ)) → word_of a ∷ x ≡ word_of b ∷ y → a ≡ b
same_kind a b x y e = sym (named_back a) ∙ (ap first_kind e ∙ named_back b)
