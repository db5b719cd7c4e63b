-- Time goes on over the calls of a disk in memory.
use Rattle.std.proofs.Common.{◌≡◌, ◌⊎◌, inl, inr, ℕ, ◌≤◌, List, ◌∷◌, length, ap, sym, subst, arith}
use Rattle.disk.specs.Image.{MayLeave}
use Rattle.disk.specs.File.{File, surface}
use Rattle.disk.specs.Moments.{Elapses}
use Rattle.simdisk.specs.Moments.{Left}
use Rattle.simdisk.specs.State.{disk_file, disk_past, disk_failures, disk_clock, LeftSince}
use Rattle.simdisk.specs.declared.simdisk.SimDisk.{SimDisk}

-- a call that begins a change: what the file was is one moment more
pub elapses_past : (old new : SimDisk) → disk_past new ≡ disk_file old ∷ disk_past old → disk_failures old ≤ disk_failures new →
    Elapses disk_file disk_clock LeftSince disk_failures old new
elapses_past old new past failures = record {
  later = omega (arith, ap length past);
  nothing_else = λ moment image le left. by_part moment image (subst (λ (files : List File). Left moment (disk_file new ∷ files) image) past left);
  stays = λ moment image le left. subst (λ (files : List File). Left moment (disk_file new ∷ files) image) (sym past) (inr left);
  failures_stay = failures;
}
  where
    by_part : (moment : ℕ) (image : List ℕ) → Left moment (disk_file new ∷ disk_file old ∷ disk_past old) image →
        LeftSince old moment image ⊎ MayLeave (surface (disk_file new)) image
    by_part moment image (inl now) = inr now.1
    by_part moment image (inr was) = inl was
