use Rattle.std.proofs.Common.{◌≡◌, ◌++◌, ◌∷◌, [], List, Ok, rules, subst, sym}
use Rattle.std.specs.Prelude.{All}
use Rattle.std.proofs.lemmas.List.Elements.{All-push}
use Rattle.disk.specs.File.{surface}
use Rattle.disk.specs.declared.plan.FailurePlan.TheVariants.{Never}
use Rattle.gatelog.specs.Crash.{Stands}
use Rattle.gatelog.specs.Log.{log}
use Rattle.simdisk.specs.State.{disk_file, disk_plan}
use Rattle.host_files.proofs.folder.logs_in_memory.Goals as goal

-- what holds of all and of one more
with_one : {X : Type 0} (P : X → Type 0) (xs longer : List X) (x : X) → longer ≡ xs ++ x ∷ [] → All P xs → P x → All P longer
with_one P xs longer x is before new = subst (All P) (sym is) (All-push P xs x before new)

pub loop-preserved : goal.loop-preserved
loop-preserved c =
    record {
      count = search rules;
      empty = with_one (λ disk. Stands (surface (disk_file disk)) (Ok [])) _ _ c.into_disk.result (search rules) c.loop.invariant.empty (search rules);
      read = with_one (λ disk. log (surface (disk_file disk)).seen ≡ Ok []) _ _ c.into_disk.result (search rules) c.loop.invariant.read (search rules);
      planned = with_one (λ disk. disk_plan disk ≡ Never) _ _ c.into_disk.result (search rules) c.loop.invariant.planned (search rules);
    }
