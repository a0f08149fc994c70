-- Lines that are written out, and what they say.
use Rattle.std.specs.Prelude.{◌≡◌, true, false, None, codes}
use Rattle.zst_model.specs.declared.pools.command.Command.TheVariants as commands
use Rattle.zst_script.specs.Lines.{LineSays, with_image, words_of}
use Rattle.zst_script.specs.Scripts.{SaysNone}
use Rattle.zst_script.specs.declared.event.Event.TheVariants as events
use Rattle.zst_script.specs.declared.event.Side.TheVariants.{Here, There}

-- The lines of sessions that are open, with the least and the greatest count of bytes, and of a pool that is opened again.
abbrev pub SessionsAreSaid : Type 0
SessionsAreSaid =
    LineSays (events.Pump 1 2 1) (codes "pump 1 2 1") × LineSays (events.Drop 1 1048576) (codes "drop 1 1048576")
    × LineSays (events.Close 1) (codes "close 1") × LineSays (events.Cut 4294967295) (codes "cut 4294967295")
    × LineSays (events.Reopen Here) (codes "here reopen") × LineSays (events.Reopen There) (codes "there reopen")

-- An image stands behind the word of a command, and of a rollback behind its option.
abbrev pub ImagesStand : Type 0
ImagesStand =
    (with_image (codes "here") (words_of (codes "fs tank/a")) ≡ words_of (codes "fs here tank/a"))
    × (with_image (codes "here") (words_of (codes "list")) ≡ words_of (codes "list here"))
    × (with_image (codes "here") (words_of (codes "rollback tank/a@s")) ≡ words_of (codes "rollback here tank/a@s"))
    × (with_image (codes "here") (words_of (codes "rollback -r tank/a@s")) ≡ words_of (codes "rollback -r here tank/a@s"))

-- Lines of a pool: commands, a token and a check behind the word for it, and sessions that are opened, by their ids.
abbrev pub PoolsAreSaid : Type 0
PoolsAreSaid =
    LineSays (events.Step Here commands.List) (codes "here list") × LineSays (events.Step Here commands.Reclaim) (codes "here reclaim")
    × LineSays (events.Token There (codes "tank")) (codes "there token tank") × LineSays (events.Check Here) (codes "here check")
    × LineSays (events.Resume Here 7 (codes "tank")) (codes "here resume 7 tank")
    × LineSays (events.Send There 0 (record { snap = codes "tank@s"; from = None; redact = None })) (codes "there send 0 tank@s")
    × LineSays (events.Receive Here 1 (record { target = codes "tank"; snap = None; keep = true; force = false; origin = None })) (codes "here receive 1 -s tank")

-- Lines that say none: with nothing to take, with an empty word between two blanks, of a command that scripts don't have, and of a send that goes on from a token of its own.
abbrev pub LinesAreRefused : Type 0
LinesAreRefused = SaysNone (codes "pump 1 2 0") × SaysNone (codes "here  list") × SaysNone (codes "here dump") × SaysNone (codes "here send 1 -t 00")
