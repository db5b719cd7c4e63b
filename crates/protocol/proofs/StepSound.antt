-- A step keeps a shard sound, and a fresh shard is sound.
use Rattle.std.proofs.Common.{refl, arith}
use Rattle.record.specs.Computing.{computing as computing_logs}
use Rattle.message.specs.declared.message.Input.{Input}
use Rattle.protocol.specs.Sound.{FreshIsSound, IsSound, StepKeepsSound}
use Rattle.protocol.specs.Plan.{Plan, Before, start_of_step, carried}
use Rattle.protocol.specs.Step.{facts_after, IsInLimit}
use Rattle.protocol.proofs.Agreement.{Sound}
use Rattle.protocol.proofs.KeptAgreement.{KeepsAgreement, agreeing_of}
use Rattle.protocol.proofs.KeptFacts.{KeepsFacts, kept_facts_of}
use Rattle.protocol.proofs.KeptRows.{KeepsFit, KeepsTable, kept_fit_of, kept_table_of}
use Rattle.protocol.proofs.PlanShapes.{shape_of}
use Rattle.protocol.proofs.RowChanges.{by_id-claims}
use Rattle.protocol.proofs.Serves.{kept_horizon_of}
use Rattle.protocol.proofs.Shapes.{ShapeOf}

kept : (b : Before) (i : Input) (p : Plan) → IsInLimit i → Sound b → ShapeOf b i p → IsSound b.shard (facts_after b.facts p.logged) (carried p b.memory)
unfolding KeepsFacts KeepsTable KeepsFit KeepsAgreement
kept b i p fits sound shape =
    let known = kept_facts_of b i p fits sound shape in record {
      opened = known.opened;
      table = kept_table_of b i p sound shape;
      entries = known.entries;
      ended = known.ended;
      under = known.under;
      installed = known.installed;
      fit = kept_fit_of b i p sound shape;
      agrees = agreeing_of b i p sound shape;
      horizon = kept_horizon_of b i p sound shape;
    }

pub step_keeps_sound : StepKeepsSound
step_keeps_sound rows setup facts memory now i p fits sound e =
    kept (start_of_step rows setup facts memory) i p fits sound (shape_of rows setup facts memory now i p (by_id-claims memory.rows sound.table.order) e)

-- nothing is recorded and nothing stands
pub fresh_is_sound : FreshIsSound
unfolding computing_logs
fresh_is_sound shard = record {
  opened = omega arith;
  table = record { order = tt; keys = refl; lock_law = refl; wait_law = refl };
  entries = tt;
  ended = refl;
  under = omega arith;
  installed = refl;
  fit = refl;
  agrees = λ t. tt;
  horizon = omega arith;
}
