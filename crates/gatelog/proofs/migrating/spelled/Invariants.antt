use Rattle.std.proofs.Common.{◌≡◌, ◌++◌, map, drop}
use Rattle.std.specs.List.{AllByRecursion}
use Rattle.spelling.specs.Limits.{IsRecord}
use Rattle.gatelog.specs.Areas.{area_bytes, without_header}
use Rattle.gatelog.proofs.migrating.spelled.Given as goal

abbrev pub invariant-loop-entry : goal.invariant-loop-entry
invariant-loop-entry l = record {
  so_far : l.bytes.items ++ area_bytes (map (λ e. e.item) (drop l.entry-index l.fn.entries)) ≡ without_header (map (λ e. e.item) l.fn.entries);
  fit : AllByRecursion IsRecord (map (λ e. e.item) (drop l.entry-index l.fn.entries)) → AllByRecursion IsRecord (map (λ e. e.item) l.fn.entries);
}
