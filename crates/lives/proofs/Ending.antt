-- What a read of a disk gives at the end of a run.
use Rattle.std.proofs.Common.{◌≡◌, ◌⊎◌, inl, inr, IsTrue, true, List, map, Result, Ok, Err, refl, sym, ap, subst, ◌∙◌}
use Rattle.units.specs.declared.fault.Fault.{Fault}
use Rattle.units.specs.declared.fault.Fault.TheVariants.{Memory}
use Rattle.disk.specs.File.{surface}
use Rattle.disk.specs.Image.{Surface, after_sync}
use Rattle.disk.specs.declared.plan.FailurePlan.{FailurePlan}
use Rattle.frames.specs.Calls.{waits}
use Rattle.gatelog.specs.Log.{is_no_log, log}
use Rattle.frames.specs.Placed.{Placed}
use Rattle.record.specs.declared.record.Record.{Record}
use Rattle.shard.specs.Logs.{KeepsRecords, items_of, records_in}
use Rattle.simdisk.specs.State.{disk_file, disk_plan}
use Rattle.simdisk.specs.declared.simdisk.SimDisk.{SimDisk}
use Rattle.world.specs.World.{ShardNow}
use Rattle.lives.specs.Fleet.{IsOn}
use Rattle.lives.specs.Lives.{HoldsLog, disk_log}

-- a disk that was read and synced holds what was read, whatever a crash leaves
pub ends_on : (old new : SimDisk) (entries : List Placed) (records : List Record) → log (surface (disk_file old)).seen ≡ Ok entries
    → surface (disk_file new) ≡ after_sync (surface (disk_file old)) → records ≡ map (λ (e : Placed). e.item) entries → IsOn new records
ends_on old new entries records read synced same =
    let shown : records_in (surface (disk_file new)).seen ≡ Ok records = ap (λ (s : Surface). records_in s.seen) synced ∙ ap items_of read
    ∙ ap (λ rs. Ok rs) (sym same) in (
      subst (λ s. KeepsRecords s (Ok records)) (sym synced) (λ image may.
          ap records_in (may.unchanged refl ∙ ap (λ (s : Surface). s.seen) (sym synced)) ∙ shown),
      shown,
    )

abbrev Found : Type 0
Found = Result (List Record) Fault

ok_same : (a b : List Record) (x y : Found) → x ≡ Ok a → y ≡ Ok b → x ≡ y → a ≡ b
ok_same a b x y is there same = cc

-- it is the log that the disk holds
pub ends_with : (s : ShardNow) (disk : SimDisk) (entries : List Placed) (records : List Record) → HoldsLog s disk
    → log (surface (disk_file disk)).seen ≡ Ok entries
    → records ≡ map (λ (e : Placed). e.item) entries → records ≡ disk_log s
ends_with s disk entries records h read same =
    same ∙ ok_same (map (λ (e : Placed). e.item) entries) (disk_log s) (records_in (surface (disk_file disk)).seen) (records_in (surface (disk_file disk)).seen)
    (ap items_of read) h.read.0 refl

-- no fault but want of memory
pub no_fault : (s : ShardNow) (disk : SimDisk) (fault : Fault) → HoldsLog s disk
    → (fault ≡ Memory) ⊎ (IsTrue (is_no_log fault) × (log (surface (disk_file disk)).seen ≡ Err fault)) → fault ≡ Memory
no_fault s disk fault h (inl memory) = memory
no_fault s disk fault h (inr none) = absurd (not_ok (disk_log s) (sym (ap items_of none.1) ∙ h.read.0))
  where
    not_ok : (a : List Record) → Err fault ≡ Ok a → ⊥
    not_ok a e = cc

-- a disk that is not to fail does not
pub waits_for_none : (disk : SimDisk) → disk_plan disk ≡ FailurePlan.Never → waits (disk_plan disk) ≡ true
waits_for_none disk never = ap waits never
