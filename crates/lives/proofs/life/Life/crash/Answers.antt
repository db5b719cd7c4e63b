use Rattle.std.proofs.Common.{◌∷◌, ◌++◌, [], sym, ap, ◌∙◌, subst}
use Rattle.disk.specs.File.{crash_leaves}
use Rattle.simdisk.specs.Replay.{settled}
use Rattle.simdisk.specs.State.{disk_file}
use Rattle.lives.specs.Lives.{LivesAs, crash_by}
use Rattle.lives.proofs.Crashing.{holds_crashed}
use Rattle.lives.proofs.life.Life.crash.Goals as goal

pub returns-clause-crashed : goal.returns-clause-crashed
returns-clause-crashed c setup s h =
    let fates = c.from_vec.ensures ∙ c.in_ok-push.ensures.items ∙ ap (λ l. l ++ c.args.fate ∷ []) c.new-fates.ensures.items in
    subst (LivesAs setup (crash_by c.args.fate s)) (sym c.replace-2.ensures.after)
    (holds_crashed s c.args.fate c.into_disk-disk.result c.crash-disk.result c.crash-disk.ensures.plan
    (c.crash-disk.ensures.image ∙ ap (λ l. settled (crash_leaves l (disk_file c.into_disk-disk.result))) fates)
    (c.into_disk-disk.ensures setup s (subst (LivesAs setup s) (sym c.replace.ensures.value) h)))
