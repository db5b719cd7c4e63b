-- The definitions of the step that are shut by default, named once: `unfolding computing` lets an example compute through
-- all of them and through those below.
use Rattle.record.specs.Computing.{computing as computing_logs}
use Rattle.protocol.specs.Rows.{safe, standing, rebuilt}
use Rattle.protocol.specs.Plan.{after_change, ended_by, carried}
use Rattle.protocol.specs.Cells.{plan_read_row, plan_promise, plan_prepare_fresh, plan_abort, plan_decide, plan_commit_granted, plan_commit_fresh}
use Rattle.protocol.specs.Cells.{plan_granted, plan_asks, plan_count, plan_advance, plan_forget, plan_retire}
use Rattle.protocol.specs.Step.{is_for, plan_input, step_within}

-- the list of names
unfoldable pub computing : Unit {0}
unfolding computing_logs safe standing rebuilt is_for after_change ended_by carried plan_read_row plan_promise plan_prepare_fresh plan_abort plan_decide
    plan_commit_granted plan_commit_fresh plan_granted plan_asks plan_count plan_advance plan_forget plan_retire plan_input step_within
computing = tt
