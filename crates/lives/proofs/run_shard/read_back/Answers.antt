use Rattle.std.proofs.Common.{inl, inr, ◌++◌, map, ap, ◌∙◌}
use Rattle.disk.specs.File.{surface}
use Rattle.simdisk.specs.State.{disk_file}
use Rattle.lives.proofs.Ending.{ends_on, ends_with, no_fault, waits_for_none}
use Rattle.lives.proofs.run_shard.read_back.Goals as goal

pub returns-in-Ok-copied-clause-disk : goal.returns-in-Ok-copied-clause-disk
returns-in-Ok-copied-clause-disk c =
    ends_on c.args.disk c.into_disk-disk.result c.in-Ok.entries.items c.copy_records-copied.new.records.items (c.in-Ok.ensures.entries tt)
    (ap (λ d. surface (disk_file d)) c.into_disk-disk.ensures ∙ c.in-Ok.ensures.synced tt)
    (c.in-Ok-copied.ensures.same ∙ ap (λ rs. rs ++ map (λ e. e.item) c.deref.result.now) c.new-records.ensures.items
    ∙ ap (map (λ e. e.item)) c.deref.ensures.value)

pub returns-in-Ok-copied-clause-log : goal.returns-in-Ok-copied-clause-log
returns-in-Ok-copied-clause-log c s holds =
    ends_with s c.args.disk c.in-Ok.entries.items c.copy_records-copied.new.records.items holds (c.in-Ok.ensures.entries tt)
    (c.in-Ok-copied.ensures.same ∙ ap (λ rs. rs ++ map (λ e. e.item) c.deref.result.now) c.new-records.ensures.items
    ∙ ap (map (λ e. e.item)) c.deref.ensures.value)

pub returns-in-Err-clause-memory : goal.returns-in-Err-clause-memory
returns-in-Err-clause-memory c s holds =
    no_fault s c.args.disk c.in-Err.fault holds
    (elim (c.in-Err.ensures.refused_planned tt (waits_for_none c.args.disk holds.never)).1 [
      | inl memory ↦ inl memory
      | inr none ↦ inr
          (none.0, none.1 tt)
    ])
