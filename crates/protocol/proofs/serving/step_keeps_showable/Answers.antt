use Rattle.std.proofs.Common.{[], ap, ◌∙◌}
use Rattle.protocol.specs.Plan.{Before, start_of_step}
use Rattle.protocol.proofs.PlanShapes.{shape_of}
use Rattle.protocol.proofs.RowChanges.{by_id-claims}
use Rattle.protocol.specs.Showable.{added, rises_by_key}
use Rattle.protocol.proofs.Rising.{installs_rise}
use Rattle.protocol.proofs.Ascending.{entries_kept, rows_kept}
use Rattle.protocol.proofs.Serves.{AddsBy, rises_of, adds_of, ascend_of, grows}
use Rattle.protocol.proofs.serving.step_keeps_showable.Goals as goal

pub returns : goal.returns
unfolding AddsBy
returns c = λ rows setup facts memory now i p limit ordered sound orderly e.
    let b : Before = start_of_step rows setup facts memory in
    let shape = shape_of rows setup facts memory now i p (by_id-claims memory.rows sound.table.order) e in
    let adds = adds_of b i p sound (ascend_of b orderly.entries) shape in
    record {
      rises = rises_of b i p shape;
      orderly = record {
        entries = entries_kept setup rows facts memory now i p orderly ordered e (ascend_of b orderly.entries);
        rows = rows_kept setup rows facts memory now i p orderly ordered e;
        installs = ap (rises_by_key []) (grows facts p.logged) ∙ installs_rise facts.installs (added facts p.logged) orderly.installs adds.1;
      };
      above = adds.0;
      order = adds.1;
    }
