use Rattle.std.proofs.Common.{inl, inr}
use Rattle.disk.specs.File.{surface}
use Rattle.inspection.proofs.Reading.{only_damage, refused_records}
use Rattle.inspection.proofs.judging.read_log.Goals as goal

pub returns-in-Err-clause-refused : goal.returns-in-Err-clause-refused
returns-in-Err-clause-refused g c = elim c.in-Err.ensures [
  | inl memory ↦ inl memory
  | inr refused ↦ inr (inr (
    only_damage _ _ _ _ refused,
    λ keeps. refused_records c.args.shard (surface (g.D.Disk.file c.args.disk)).seen _ _ c.in-Err.fault (c.in_ok-log.ensures.entries keeps)
        c.deref.ensures.value refused,
  ))
]
