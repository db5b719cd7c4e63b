use Rattle.std.proofs.Common.{◌≡◌, ◌∙◌, sym, ap, subst, refl, List, [], filter, not, Option, Some, true}
use Rattle.units.specs.Ids.{Id, older, with_id}
use Rattle.units.specs.Locks.{with_locks}
use Rattle.record.specs.declared.record.Record.{Record}
use Rattle.protocol.specs.Rows.{Idle, find_row, without_row, held_in, without_rows}
use Rattle.protocol.specs.Plan.{after_change, ended_by, with_ids}
use Rattle.rows.specs.CodeRows.{is_reading, phase_of_wait}
use Rattle.rows.specs.RowTable.{has_phase, put_row, phase_by}
use Rattle.memory.specs.Carry.{MayStand, IsDated}
use Rattle.memory.specs.Plans.{change_of, collecting, counted}
use Rattle.memory.specs.Served.{IsHolding}
use Rattle.memory.specs.declared.plan.Change.TheVariants.{Stands, Decides}
use Rattle.memory.proofs.Carried.{asker_reads, put_is_idle, put_twice, put_is_change, holding_put, holding_left, holding_counted, counted_is}
use Rattle.memory.proofs.Changing.{fits_as, ids_as, rows_as, there_as}
use Rattle.memory.proofs.Carried.{ending_holds_none, wait_holds_none, can_stand}
use Rattle.memory.proofs.carry.make_change.Goals as goal

pub grant-requires-clause-reading : goal.grant-requires-clause-reading
grant-requires-clause-reading c =
    let fits = fits_as c.args.rows.now.rows c.args.wounded.now c.args.needs.now c.args.logged c.in-Reads.is c.requires.fits in
    let here = there_as c.args.rows.now.rows c.in-Reads.is c.requires.there in
    asker_reads c.args.rows.now.rows c.in-Reads.txn here fits.0.0

pub wait-requires-clause-reading : goal.wait-requires-clause-reading
wait-requires-clause-reading c =
    let fits = fits_as c.args.rows.now.rows c.args.wounded.now c.args.needs.now c.args.logged c.in-Waits.is c.requires.fits in
    let here = there_as c.args.rows.now.rows c.in-Waits.is c.requires.there in
    asker_reads c.args.rows.now.rows c.in-Waits.txn here fits.0.0

pub grant-requires-in-Collects-clause-reading : goal.grant-requires-in-Collects-clause-reading
grant-requires-in-Collects-clause-reading c =
    let fits = fits_as c.args.rows.now.rows c.args.wounded.now c.args.needs.now c.args.logged c.in-Collects.is c.requires.fits in
    let here = there_as c.args.rows.now.rows c.in-Collects.is c.requires.there in
    asker_reads c.args.rows.now.rows c.in-Collects.txn here fits.0.0

pub grant-requires-in-Stands-clause-reading : goal.grant-requires-in-Stands-clause-reading
grant-requires-in-Stands-clause-reading c =
    let fits = fits_as c.args.rows.now.rows c.args.wounded.now c.args.needs.now c.args.logged c.in-Stands.is c.requires.fits in
    let here = there_as c.args.rows.now.rows c.in-Stands.is c.requires.there in
    asker_reads c.args.rows.now.rows c.in-Stands.txn here fits.0.0

pub collect-requires : goal.collect-requires
collect-requires c =
    put_is_idle (without_rows c.args.rows.now.rows c.args.wounded.now) c.grant-in-Collects.new.self.rows c.in-Collects.txn _ c.grant-in-Collects.ensures

pub stand-requires-clause-holding : goal.stand-requires-clause-holding
stand-requires-clause-holding c =
    let fits = fits_as c.args.rows.now.rows c.args.wounded.now c.args.needs.now c.args.logged c.in-Stands.is c.requires.fits in
    let here = there_as c.args.rows.now.rows c.in-Stands.is c.requires.there in
    let reads : has_phase is_reading c.args.rows.now.rows c.in-Stands.txn ≡ true = asker_reads c.args.rows.now.rows c.in-Stands.txn here fits.0.0 in
    subst (IsHolding c.args.times.now.holds) (sym (c.grant-in-Stands.ensures))
    (holding_put c.args.times.now.holds c.args.rows.now.rows c.in-Stands.txn c.args.needs.now c.args.wounded.now
    (with_locks (held_in c.args.rows.now.rows c.in-Stands.txn) c.args.needs.now) (Idle) c.laws.ensures.order c.requires.holding fits.0.1 reads refl)

pub stand-requires-clause-stands : goal.stand-requires-clause-stands
stand-requires-clause-stands c =
    let fits = fits_as c.args.rows.now.rows c.args.wounded.now c.args.needs.now c.args.logged c.in-Stands.is c.requires.fits in
    let r : Record = c.there-in-Stands.result in
    let may : MayStand c.in-Stands.txn (Some r) = subst (MayStand c.in-Stands.txn) c.there-in-Stands.ensures fits.1 in
    let dated : IsDated (Some r) = subst IsDated c.there-in-Stands.ensures c.requires.dated in
    can_stand c.grant-in-Stands.new.self.rows c.in-Stands.txn r may dated
    (put_is_idle (without_rows c.args.rows.now.rows c.args.wounded.now) c.grant-in-Stands.new.self.rows c.in-Stands.txn _ c.grant-in-Stands.ensures)

pub returns-in-Keeps-clause-rows : goal.returns-in-Keeps-clause-rows
unfolding after_change
returns-in-Keeps-clause-rows c =
    let fits = fits_as c.args.rows.now.rows c.args.wounded.now c.args.needs.now c.args.logged c.in-Keeps.is c.requires.fits in
    ap (without_rows c.args.rows.now.rows) (sym fits.0)
    ∙ rows_as c.args.rows.now.rows c.args.wounded.now c.args.needs.now c.args.logged c.in-Keeps.is

pub returns-in-Keeps-clause-ended : goal.returns-in-Keeps-clause-ended
unfolding ended_by
returns-in-Keeps-clause-ended c =
    c.note_ended.ensures.ids ∙ ids_as c.args.rows.now.rows c.args.needs.now c.args.logged (with_ids c.args.ended.now.ids c.args.wounded.now) c.in-Keeps.is

pub returns-in-Ends-clause-holding : goal.returns-in-Ends-clause-holding
returns-in-Ends-clause-holding c =
    let fits = fits_as c.args.rows.now.rows c.args.wounded.now c.args.needs.now c.args.logged c.in-Ends.is c.requires.fits in
    holding_left c.args.times.now.holds c.args.rows.now.rows c.end.new.rows.rows c.in-Ends.txn c.laws.ensures.order c.requires.holding
    (ending_holds_none c.args.rows.now.rows c.in-Ends.txn fits.2) c.end.ensures

pub returns-in-Ends-clause-rows : goal.returns-in-Ends-clause-rows
unfolding after_change
returns-in-Ends-clause-rows c =
    let fits = fits_as c.args.rows.now.rows c.args.wounded.now c.args.needs.now c.args.logged c.in-Ends.is c.requires.fits in
    c.end.ensures ∙ ap (λ (us : List Id). without_row (without_rows c.args.rows.now.rows us) c.in-Ends.txn) (sym fits.0)
    ∙ rows_as c.args.rows.now.rows c.args.wounded.now c.args.needs.now c.args.logged c.in-Ends.is

pub returns-in-Ends-clause-ended : goal.returns-in-Ends-clause-ended
unfolding ended_by
returns-in-Ends-clause-ended c =
    c.add.ensures.ids ∙ ap (λ (ids : List Id). with_id ids c.in-Ends.txn) c.note_ended.ensures.ids
    ∙ ids_as c.args.rows.now.rows c.args.needs.now c.args.logged (with_ids c.args.ended.now.ids c.args.wounded.now) c.in-Ends.is

pub returns-in-Drops-clause-rows : goal.returns-in-Drops-clause-rows
unfolding after_change
returns-in-Drops-clause-rows c =
    let fits = fits_as c.args.rows.now.rows c.args.wounded.now c.args.needs.now c.args.logged c.in-Drops.is c.requires.fits in
    c.drop_row.ensures.rows ∙ ap (λ (us : List Id). without_row (without_rows c.args.rows.now.rows us) c.in-Drops.txn) (sym fits.0)
    ∙ rows_as c.args.rows.now.rows c.args.wounded.now c.args.needs.now c.args.logged c.in-Drops.is

pub returns-in-Drops-clause-ended : goal.returns-in-Drops-clause-ended
unfolding ended_by
returns-in-Drops-clause-ended c =
    c.note_ended.ensures.ids ∙ ids_as c.args.rows.now.rows c.args.needs.now c.args.logged (with_ids c.args.ended.now.ids c.args.wounded.now) c.in-Drops.is

pub returns-in-Reads-clause-holding : goal.returns-in-Reads-clause-holding
returns-in-Reads-clause-holding c =
    let fits = fits_as c.args.rows.now.rows c.args.wounded.now c.args.needs.now c.args.logged c.in-Reads.is c.requires.fits in
    let here = there_as c.args.rows.now.rows c.in-Reads.is c.requires.there in
    let reads : has_phase is_reading c.args.rows.now.rows c.in-Reads.txn ≡ true = asker_reads c.args.rows.now.rows c.in-Reads.txn here fits.0.0 in
    subst (IsHolding c.args.times.now.holds) (sym (c.grant.ensures))
    (holding_put c.args.times.now.holds c.args.rows.now.rows c.in-Reads.txn c.args.needs.now c.args.wounded.now
    (with_locks (held_in c.args.rows.now.rows c.in-Reads.txn) c.args.needs.now) (Idle) c.laws.ensures.order c.requires.holding fits.0.1 reads refl)

pub returns-in-Reads-clause-rows : goal.returns-in-Reads-clause-rows
unfolding after_change
returns-in-Reads-clause-rows c =
    let fits = fits_as c.args.rows.now.rows c.args.wounded.now c.args.needs.now c.args.logged c.in-Reads.is c.requires.fits in
    c.grant.ensures ∙ put_is_change c.args.rows.now.rows c.in-Reads.txn c.args.needs.now c.args.needs.now c.args.wounded.now Idle fits.0.1
    ∙ rows_as c.args.rows.now.rows c.args.wounded.now c.args.needs.now c.args.logged c.in-Reads.is

pub returns-in-Reads-clause-ended : goal.returns-in-Reads-clause-ended
unfolding ended_by
returns-in-Reads-clause-ended c =
    c.note_ended.ensures.ids ∙ ids_as c.args.rows.now.rows c.args.needs.now c.args.logged (with_ids c.args.ended.now.ids c.args.wounded.now) c.in-Reads.is

pub returns-in-Waits-clause-holding : goal.returns-in-Waits-clause-holding
returns-in-Waits-clause-holding c =
    let fits = fits_as c.args.rows.now.rows c.args.wounded.now c.args.needs.now c.args.logged c.in-Waits.is c.requires.fits in
    let here = there_as c.args.rows.now.rows c.in-Waits.is c.requires.there in
    let reads : has_phase is_reading c.args.rows.now.rows c.in-Waits.txn ≡ true = asker_reads c.args.rows.now.rows c.in-Waits.txn here fits.0.0 in
    subst (IsHolding c.args.times.now.holds) (sym (c.wait.ensures))
    (holding_put c.args.times.now.holds c.args.rows.now.rows c.in-Waits.txn c.args.needs.now c.args.wounded.now
    (held_in c.args.rows.now.rows c.in-Waits.txn) (phase_of_wait (Some c.in-Waits.wait)) c.laws.ensures.order c.requires.holding fits.0.1 reads
    (wait_holds_none c.in-Waits.wait))

pub returns-in-Waits-clause-rows : goal.returns-in-Waits-clause-rows
unfolding after_change
returns-in-Waits-clause-rows c =
    let fits = fits_as c.args.rows.now.rows c.args.wounded.now c.args.needs.now c.args.logged c.in-Waits.is c.requires.fits in
    c.wait.ensures ∙ put_is_change c.args.rows.now.rows c.in-Waits.txn c.args.needs.now [] c.args.wounded.now (phase_of_wait (Some c.in-Waits.wait)) fits.0.1
    ∙ rows_as c.args.rows.now.rows c.args.wounded.now c.args.needs.now c.args.logged c.in-Waits.is

pub returns-in-Waits-clause-ended : goal.returns-in-Waits-clause-ended
unfolding ended_by
returns-in-Waits-clause-ended c =
    c.note_ended.ensures.ids ∙ ids_as c.args.rows.now.rows c.args.needs.now c.args.logged (with_ids c.args.ended.now.ids c.args.wounded.now) c.in-Waits.is

pub returns-in-Collects-clause-holding : goal.returns-in-Collects-clause-holding
returns-in-Collects-clause-holding c =
    let fits = fits_as c.args.rows.now.rows c.args.wounded.now c.args.needs.now c.args.logged c.in-Collects.is c.requires.fits in
    let here = there_as c.args.rows.now.rows c.in-Collects.is c.requires.there in
    let reads : has_phase is_reading c.args.rows.now.rows c.in-Collects.txn ≡ true = asker_reads c.args.rows.now.rows c.in-Collects.txn here fits.0.0 in
    subst (IsHolding c.args.times.now.holds) (sym (c.collect.ensures
    ∙ put_twice (without_rows c.args.rows.now.rows c.args.wounded.now) c.grant-in-Collects.new.self.rows c.in-Collects.txn
    (with_locks (held_in c.args.rows.now.rows c.in-Collects.txn) c.args.needs.now) (collecting c.in-Collects.gathering []) c.grant-in-Collects.ensures))
    (holding_put c.args.times.now.holds c.args.rows.now.rows c.in-Collects.txn c.args.needs.now c.args.wounded.now
    (with_locks (held_in c.args.rows.now.rows c.in-Collects.txn) c.args.needs.now) (collecting c.in-Collects.gathering []) c.laws.ensures.order
    c.requires.holding fits.0.1 reads refl)

pub returns-in-Collects-clause-rows : goal.returns-in-Collects-clause-rows
unfolding after_change
returns-in-Collects-clause-rows c =
    let fits = fits_as c.args.rows.now.rows c.args.wounded.now c.args.needs.now c.args.logged c.in-Collects.is c.requires.fits in
    c.collect.ensures ∙ put_twice (without_rows c.args.rows.now.rows c.args.wounded.now) c.grant-in-Collects.new.self.rows c.in-Collects.txn
    (with_locks (held_in c.args.rows.now.rows c.in-Collects.txn) c.args.needs.now) (collecting c.in-Collects.gathering []) c.grant-in-Collects.ensures
    ∙ put_is_change c.args.rows.now.rows c.in-Collects.txn c.args.needs.now c.args.needs.now c.args.wounded.now (collecting c.in-Collects.gathering []) fits.0.1
    ∙ rows_as c.args.rows.now.rows c.args.wounded.now c.args.needs.now c.args.logged c.in-Collects.is

pub returns-in-Collects-clause-ended : goal.returns-in-Collects-clause-ended
unfolding ended_by
returns-in-Collects-clause-ended c =
    c.note_ended.ensures.ids ∙ ids_as c.args.rows.now.rows c.args.needs.now c.args.logged (with_ids c.args.ended.now.ids c.args.wounded.now) c.in-Collects.is

pub returns-in-Counts-clause-holding : goal.returns-in-Counts-clause-holding
returns-in-Counts-clause-holding c =
    let fits = fits_as c.args.rows.now.rows c.args.wounded.now c.args.needs.now c.args.logged c.in-Counts.is c.requires.fits in
    holding_counted c.args.times.now.holds c.args.rows.now.rows c.vote.new.self.rows c.in-Counts.txn c.in-Counts.from c.in-Counts.at _
    c.laws.ensures.order c.requires.holding fits.2 (c.vote.ensures
    ∙ ap (put_row c.args.rows.now.rows c.in-Counts.txn (held_in c.args.rows.now.rows c.in-Counts.txn))
    (counted_is c.in-Counts.from c.in-Counts.at (find_row c.args.rows.now.rows c.in-Counts.txn)))

pub returns-in-Counts-clause-rows : goal.returns-in-Counts-clause-rows
unfolding after_change
returns-in-Counts-clause-rows c =
    let fits = fits_as c.args.rows.now.rows c.args.wounded.now c.args.needs.now c.args.logged c.in-Counts.is c.requires.fits in
    c.vote.ensures ∙ ap (put_row c.args.rows.now.rows c.in-Counts.txn (held_in c.args.rows.now.rows c.in-Counts.txn))
    (counted_is c.in-Counts.from c.in-Counts.at (find_row c.args.rows.now.rows c.in-Counts.txn))
    ∙ ap (λ (us : List Id). put_row (without_rows c.args.rows.now.rows us) c.in-Counts.txn
    (held_in (without_rows c.args.rows.now.rows us) c.in-Counts.txn) (counted c.in-Counts.from c.in-Counts.at
    (find_row c.args.rows.now.rows c.in-Counts.txn))) (sym fits.0)
    ∙ rows_as c.args.rows.now.rows c.args.wounded.now c.args.needs.now c.args.logged c.in-Counts.is

pub returns-in-Counts-clause-ended : goal.returns-in-Counts-clause-ended
unfolding ended_by
returns-in-Counts-clause-ended c =
    c.note_ended.ensures.ids ∙ ids_as c.args.rows.now.rows c.args.needs.now c.args.logged (with_ids c.args.ended.now.ids c.args.wounded.now) c.in-Counts.is

pub returns-in-Stands-clause-rows : goal.returns-in-Stands-clause-rows
unfolding after_change
returns-in-Stands-clause-rows c =
    let fits = fits_as c.args.rows.now.rows c.args.wounded.now c.args.needs.now c.args.logged c.in-Stands.is c.requires.fits in
    c.stand.ensures.rows ∙ put_twice (without_rows c.args.rows.now.rows c.args.wounded.now) c.grant-in-Stands.new.self.rows c.in-Stands.txn
    (with_locks (held_in c.args.rows.now.rows c.in-Stands.txn) c.args.needs.now) (phase_by c.there-in-Stands.result) c.grant-in-Stands.ensures
    ∙ put_is_change c.args.rows.now.rows c.in-Stands.txn c.args.needs.now c.args.needs.now c.args.wounded.now (phase_by c.there-in-Stands.result) fits.0.1
    ∙ ap (λ (l : Option Record). after_change (change_of c.args.rows.now.rows c.args.needs.now l (Stands c.in-Stands.txn))
    (without_rows c.args.rows.now.rows c.args.wounded.now)) (sym c.there-in-Stands.ensures)
    ∙ rows_as c.args.rows.now.rows c.args.wounded.now c.args.needs.now c.args.logged c.in-Stands.is

pub returns-in-Stands-clause-ended : goal.returns-in-Stands-clause-ended
unfolding ended_by
returns-in-Stands-clause-ended c =
    c.note_ended.ensures.ids ∙ ids_as c.args.rows.now.rows c.args.needs.now c.args.logged (with_ids c.args.ended.now.ids c.args.wounded.now) c.in-Stands.is

pub returns-in-Decides-clause-rows : goal.returns-in-Decides-clause-rows
unfolding after_change
returns-in-Decides-clause-rows c =
    let fits = fits_as c.args.rows.now.rows c.args.wounded.now c.args.needs.now c.args.logged c.in-Decides.is c.requires.fits in
    c.stand-in-Decides.ensures.rows ∙ ap (λ (us : List Id). put_row (without_rows c.args.rows.now.rows us) c.in-Decides.txn
    (held_in (without_rows c.args.rows.now.rows us) c.in-Decides.txn) (phase_by c.there-in-Decides.result)) (sym fits.0)
    ∙ ap (λ (l : Option Record). after_change (change_of c.args.rows.now.rows c.args.needs.now l (Decides c.in-Decides.txn))
    (without_rows c.args.rows.now.rows c.args.wounded.now)) (sym c.there-in-Decides.ensures)
    ∙ rows_as c.args.rows.now.rows c.args.wounded.now c.args.needs.now c.args.logged c.in-Decides.is

pub returns-in-Decides-clause-ended : goal.returns-in-Decides-clause-ended
unfolding ended_by
returns-in-Decides-clause-ended c =
    c.note_ended.ensures.ids ∙ ids_as c.args.rows.now.rows c.args.needs.now c.args.logged (with_ids c.args.ended.now.ids c.args.wounded.now) c.in-Decides.is

pub returns-in-Retires-clause-rows : goal.returns-in-Retires-clause-rows
unfolding after_change
returns-in-Retires-clause-rows c =
    let fits = fits_as c.args.rows.now.rows c.args.wounded.now c.args.needs.now c.args.logged c.in-Retires.is c.requires.fits in
    ap (without_rows c.args.rows.now.rows) (sym fits.0)
    ∙ rows_as c.args.rows.now.rows c.args.wounded.now c.args.needs.now c.args.logged c.in-Retires.is

pub returns-in-Retires-clause-ended : goal.returns-in-Retires-clause-ended
unfolding ended_by
returns-in-Retires-clause-ended c =
    c.retire.ensures.ids ∙ ap (filter (λ t. not (older t c.in-Retires.below))) c.note_ended.ensures.ids
    ∙ ids_as c.args.rows.now.rows c.args.needs.now c.args.logged (with_ids c.args.ended.now.ids c.args.wounded.now) c.in-Retires.is
