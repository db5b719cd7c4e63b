use Rattle.std.proofs.Common.{◌≡◌, ◌∙◌, inr, ◌+◌, [], Some, Ok, sym, ap, subst}
use Rattle.std.proofs.lemmas.Result.{IfErr-weaker, IfOk-weaker}
use Rattle.record.specs.Accepted.{Accepted, taken}
use Rattle.record.specs.Facts.{facts_of}
use Rattle.record.specs.declared.record.Record.{Record}
use Rattle.std.specs.Prelude.{List}
use Rattle.frames.specs.Placed.{Placed}
use Rattle.gatelog.specs.Frames.{IsFull}
use Rattle.gatelog.specs.Shown.{disk_of, gate_at, next_slot}
use Rattle.protocol.specs.Rows.{rebuilt}
use Rattle.recovery.specs.Recovered.{IsRebuilt, fault_in, items}
use Rattle.units.specs.declared.fault.Fault.{Fault}
use Rattle.std.proofs.Common.{◌⊎◌}
use Rattle.disk.specs.File.{surface}
use Rattle.gatelog.specs.Log.{scan}
use Rattle.shard.specs.Beginnings.{begun_in}
use Rattle.shard.specs.Core.{begun_of, book_of, seen_machine}
use Rattle.shard.specs.Taking.{entries_in, told_to}
use Rattle.shard.specs.Logs.{facts_logged, items_of}
use Rattle.shard.specs.Opened.{HasNotOpened, next_opening}
use Rattle.shard.proofs.TakenUp.{epoch_of_facts, facts_are, facts_then, first_is, first_memory, first_records, found_by, from_five, from_four}
use Rattle.shard.proofs.TakenUp.{no_log, not_opened, not_rebuilt, opened, records_are, room_spent, same_records}
use Rattle.book.specs.Books.{new_book}
use Rattle.units.specs.declared.setup.Setup.{Setup}
use Rattle.shard.specs.Booked.{stand_of}
use Rattle.shard.specs.Opened.{HasOpened}
use Rattle.shard.proofs.Beginnings.{begun_by}
use Rattle.shard.proofs.Booked.{begun, found-in, not-through, stands-at, through}
use Rattle.shard.proofs.Showable.{taken-lasting, taken-showable}
use Rattle.shard.proofs.shard_core.Core.open.Goals as goal

pub returns-in-Err-scan-clause-refused : goal.returns-in-Err-scan-clause-refused
returns-in-Err-scan-clause-refused g c =
    let back = c.in-Err-scan.refused in
    no_log g.D.Disk.keeps_model g.D.Disk.obeys g.D.Disk.file g.D.Disk.clock g.D.Disk.since g.D.Disk.failures g.D.Disk.plan c.args.setup c.args.disk
    back.1 back.0 c.in-Err-scan.ensures.cause c.in-Err-scan.ensures.refused_moment c.in-Err-scan.ensures.unchanged
    c.in-Err-scan.ensures.refused_synced (λ obey waits. (c.in-Err-scan.ensures.refused_planned obey waits).1)

pub take_up-requires-clause-known : goal.take_up-requires-clause-known
take_up-requires-clause-known g c = λ keep.
    let ts : List Placed = entries_in c.scan.new.sink in
    let told : told_to c.scan.new.sink ≡ c.args.setup = c.in-Ok-scan.ensures.told ∙ c.in-Ok.ensures.setup in
    let accepted : taken c.args.setup (items ts) ≡ Accepted = subst (λ s. taken s (items ts) ≡ Accepted) told c.in-Ok-finish.ensures.accepted in
    let s = c.in-Ok-scan.ensures in
    let found = found_by g.D.Disk.keeps_model g.D.Disk.obeys g.D.Disk.file g.D.Disk.clock g.D.Disk.since g.D.Disk.failures g.D.Disk.plan c.args.disk
    (disk_of c.in-Ok-scan.gate_log) (gate_at c.in-Ok-scan.gate_log) (next_slot c.in-Ok-scan.gate_log) ts
    s.entries s.end s.slot s.synced s.any_moment s.failures_stay (λ obey never. (s.planned obey never).0) in
    let rebuilt_as : IsRebuilt c.args.setup (items ts) (Some c.in-Some.state) = subst (λ s. IsRebuilt s (items ts) (Some c.in-Some.state)) told
    (subst (IsRebuilt (told_to c.scan.new.sink) (items ts)) c.in-Some.is c.in-Ok-finish.ensures.found) in
    ap facts_logged (same_records found keep ∙ records_are found keep)
    ∙ facts_are c.learnt_agrees.ensures c.accepted_follows.ensures c.args.setup (items ts) c.in-Some.state.facts
    accepted rebuilt_as.1

pub take_up-requires-clause-showable : goal.take_up-requires-clause-showable
take_up-requires-clause-showable g c =
    let ts : List Placed = entries_in c.scan.new.sink in
    let told : told_to c.scan.new.sink ≡ c.args.setup = c.in-Ok-scan.ensures.told ∙ c.in-Ok.ensures.setup in
    let accepted : taken c.args.setup (items ts) ≡ Accepted = subst (λ s. taken s (items ts) ≡ Accepted) told c.in-Ok-finish.ensures.accepted in
    let rebuilt_as : IsRebuilt c.args.setup (items ts) (Some c.in-Some.state) = subst (λ s. IsRebuilt s (items ts) (Some c.in-Some.state)) told
    (subst (IsRebuilt (told_to c.scan.new.sink) (items ts)) c.in-Some.is c.in-Ok-finish.ensures.found) in
    taken-showable c.taken_is_showable.ensures c.args.setup ts c.in-Some.state accepted
    c.in-Ok-finish.ensures.ascends rebuilt_as.1 rebuilt_as.2

pub take_up-requires-clause-lasting : goal.take_up-requires-clause-lasting
take_up-requires-clause-lasting g c =
    let ts : List Placed = entries_in c.scan.new.sink in
    let told : told_to c.scan.new.sink ≡ c.args.setup = c.in-Ok-scan.ensures.told ∙ c.in-Ok.ensures.setup in
    let accepted : taken c.args.setup (items ts) ≡ Accepted = subst (λ s. taken s (items ts) ≡ Accepted) told c.in-Ok-finish.ensures.accepted in
    let rebuilt_as : IsRebuilt c.args.setup (items ts) (Some c.in-Some.state) = subst (λ s. IsRebuilt s (items ts) (Some c.in-Some.state)) told
    (subst (IsRebuilt (told_to c.scan.new.sink) (items ts)) c.in-Some.is c.in-Ok-finish.ensures.found) in
    ∣ taken-lasting c.taken_lasts.ensures c.args.setup ts c.in-Some.state.facts accepted c.in-Ok-finish.ensures.ascends rebuilt_as.1 ∣₁

pub returns-in-Some-clause-opened : goal.returns-in-Some-clause-opened
returns-in-Some-clause-opened g c =
    let ts : List Placed = entries_in c.scan.new.sink in
    let told : told_to c.scan.new.sink ≡ c.args.setup = c.in-Ok-scan.ensures.told ∙ c.in-Ok.ensures.setup in
    let accepted : taken c.args.setup (items ts) ≡ Accepted = subst (λ s. taken s (items ts) ≡ Accepted) told c.in-Ok-finish.ensures.accepted in
    let s = c.in-Ok-scan.ensures in
    let found = found_by g.D.Disk.keeps_model g.D.Disk.obeys g.D.Disk.file g.D.Disk.clock g.D.Disk.since g.D.Disk.failures g.D.Disk.plan c.args.disk
    (disk_of c.in-Ok-scan.gate_log) (gate_at c.in-Ok-scan.gate_log) (next_slot c.in-Ok-scan.gate_log) ts
    s.entries s.end s.slot s.synced s.any_moment s.failures_stay (λ obey never. (s.planned obey never).0) in
    let rebuilt_as : IsRebuilt c.args.setup (items ts) (Some c.in-Some.state) = subst (λ s. IsRebuilt s (items ts) (Some c.in-Some.state)) told
    (subst (IsRebuilt (told_to c.scan.new.sink) (items ts)) c.in-Some.is c.in-Ok-finish.ensures.found) in
    let k = c.in-Some.state in
    let rs = items ts in
    through c.take_up.result c.with_book.result (λ core. core.machine) (λ core. book_of core ≡ c.in-Ok-finish.book)
    (λ machine. HasOpened g.D.Disk.keeps_model g.D.Disk.obeys g.D.Disk.file g.D.Disk.clock g.D.Disk.since g.D.Disk.failures g.D.Disk.plan c.args.disk
    c.args.setup (seen_machine machine)) c.with_book.ensures.made
    (from_five c.take_up.result _ _ _ _ _ _
    (λ core setup facts memory slot appended.
    opened found g.met.D.Disk.counts_now c.args.setup (Record.Opened (k.facts.epoch + 1)) (seen_machine core)
    (epoch_of_facts rs k.facts rebuilt_as.1) appended slot (setup ∙ rebuilt_as.0) (memory ∙ ap rebuilt (sym facts)) accepted
    (facts ∙ facts_then c.learn_agrees.ensures c.accepted_follows.ensures c.args.setup rs k.facts accepted rebuilt_as.1))
    c.take_up.ensures.setup c.take_up.ensures.facts c.take_up.ensures.memory c.take_up.ensures.slot c.take_up.ensures.appended)

pub returns-in-Some-clause-refused : goal.returns-in-Some-clause-refused
returns-in-Some-clause-refused g c =
    let ts : List Placed = entries_in c.scan.new.sink in
    let told : told_to c.scan.new.sink ≡ c.args.setup = c.in-Ok-scan.ensures.told ∙ c.in-Ok.ensures.setup in
    let accepted : taken c.args.setup (items ts) ≡ Accepted = subst (λ s. taken s (items ts) ≡ Accepted) told c.in-Ok-finish.ensures.accepted in
    let s = c.in-Ok-scan.ensures in
    let found = found_by g.D.Disk.keeps_model g.D.Disk.obeys g.D.Disk.file g.D.Disk.clock g.D.Disk.since g.D.Disk.failures g.D.Disk.plan c.args.disk
    (disk_of c.in-Ok-scan.gate_log) (gate_at c.in-Ok-scan.gate_log) (next_slot c.in-Ok-scan.gate_log) ts
    s.entries s.end s.slot s.synced s.any_moment s.failures_stay (λ obey never. (s.planned obey never).0) in
    let rebuilt_as : IsRebuilt c.args.setup (items ts) (Some c.in-Some.state) = subst (λ s. IsRebuilt s (items ts) (Some c.in-Some.state)) told
    (subst (IsRebuilt (told_to c.scan.new.sink) (items ts)) c.in-Some.is c.in-Ok-finish.ensures.found) in
    let k = c.in-Some.state in
    let rs = items ts in
    not-through c.take_up.result c.with_book.result
    (λ refused. HasNotOpened g.D.Disk.keeps_model g.D.Disk.obeys g.D.Disk.file g.D.Disk.clock g.D.Disk.since g.D.Disk.failures g.D.Disk.plan c.args.disk
    c.args.setup refused.0 refused.1) c.with_book.ensures.refused
    (IfErr-weaker c.take_up.result _ _
    (λ refused h.
    not_opened found g.met.D.Disk.counts_now c.args.setup (Record.Opened (k.facts.epoch + 1)) _ refused.0 refused.1
    (epoch_of_facts rs k.facts rebuilt_as.1) accepted (room_spent rs k.facts (gate_at c.in-Ok-scan.gate_log) rebuilt_as.1) h)
    c.take_up.ensures.refused)

pub returns-in-None-clause-opened : goal.returns-in-None-clause-opened
returns-in-None-clause-opened g c =
    let ts : List Placed = entries_in c.scan.new.sink in
    let told : told_to c.scan.new.sink ≡ c.args.setup = c.in-Ok-scan.ensures.told ∙ c.in-Ok.ensures.setup in
    let accepted : taken c.args.setup (items ts) ≡ Accepted = subst (λ s. taken s (items ts) ≡ Accepted) told c.in-Ok-finish.ensures.accepted in
    let s = c.in-Ok-scan.ensures in
    let found = found_by g.D.Disk.keeps_model g.D.Disk.obeys g.D.Disk.file g.D.Disk.clock g.D.Disk.since g.D.Disk.failures g.D.Disk.plan c.args.disk
    (disk_of c.in-Ok-scan.gate_log) (gate_at c.in-Ok-scan.gate_log) (next_slot c.in-Ok-scan.gate_log) ts
    s.entries s.end s.slot s.synced s.any_moment s.failures_stay (λ obey never. (s.planned obey never).0) in
    let empty : items ts ≡ [] = subst (IsRebuilt (told_to c.scan.new.sink) (items ts)) c.in-None.is c.in-Ok-finish.ensures.found in
    let first : Record.Opened 1 ≡ next_opening (items ts) = first_is (items ts) empty in
    through c.begin.result c.with_book-in-None.result (λ core. core.machine) (λ core. book_of core ≡ c.in-Ok-finish.book)
    (λ machine. HasOpened g.D.Disk.keeps_model g.D.Disk.obeys g.D.Disk.file g.D.Disk.clock g.D.Disk.since g.D.Disk.failures g.D.Disk.plan c.args.disk
    c.args.setup (seen_machine machine)) c.with_book-in-None.ensures.made
    (from_five c.begin.result _ _ _ _ _ _
    (λ core setup facts memory slot appended.
    opened found g.met.D.Disk.counts_now c.args.setup (Record.Opened 1) (seen_machine core) first appended slot setup
    (memory ∙ first_memory (seen_machine core).facts facts) accepted
    (facts ∙ ap facts_of (first_records (items ts) empty)))
    c.begin.ensures.setup c.begin.ensures.facts c.begin.ensures.memory c.begin.ensures.slot c.begin.ensures.appended)

pub returns-in-None-clause-refused : goal.returns-in-None-clause-refused
returns-in-None-clause-refused g c =
    let ts : List Placed = entries_in c.scan.new.sink in
    let told : told_to c.scan.new.sink ≡ c.args.setup = c.in-Ok-scan.ensures.told ∙ c.in-Ok.ensures.setup in
    let accepted : taken c.args.setup (items ts) ≡ Accepted = subst (λ s. taken s (items ts) ≡ Accepted) told c.in-Ok-finish.ensures.accepted in
    let s = c.in-Ok-scan.ensures in
    let found = found_by g.D.Disk.keeps_model g.D.Disk.obeys g.D.Disk.file g.D.Disk.clock g.D.Disk.since g.D.Disk.failures g.D.Disk.plan c.args.disk
    (disk_of c.in-Ok-scan.gate_log) (gate_at c.in-Ok-scan.gate_log) (next_slot c.in-Ok-scan.gate_log) ts
    s.entries s.end s.slot s.synced s.any_moment s.failures_stay (λ obey never. (s.planned obey never).0) in
    let empty : items ts ≡ [] = subst (IsRebuilt (told_to c.scan.new.sink) (items ts)) c.in-None.is c.in-Ok-finish.ensures.found in
    let first : Record.Opened 1 ≡ next_opening (items ts) = first_is (items ts) empty in
    not-through c.begin.result c.with_book-in-None.result
    (λ refused. HasNotOpened g.D.Disk.keeps_model g.D.Disk.obeys g.D.Disk.file g.D.Disk.clock g.D.Disk.since g.D.Disk.failures g.D.Disk.plan c.args.disk
    c.args.setup refused.0 refused.1) c.with_book-in-None.ensures.refused
    (IfErr-weaker c.begin.result _ _
    (λ refused h.
    not_opened found g.met.D.Disk.counts_now c.args.setup (Record.Opened 1) _ refused.0 refused.1 first accepted
    (λ full. inr (subst (IsFull (gate_at c.in-Ok-scan.gate_log)) first full)) h)
    c.begin.ensures.refused)

pub returns-in-Err-finish-clause-refused : goal.returns-in-Err-finish-clause-refused
returns-in-Err-finish-clause-refused g c =
    let ts : List Placed = entries_in c.scan.new.sink in
    let told : told_to c.scan.new.sink ≡ c.args.setup = c.in-Ok-scan.ensures.told ∙ c.in-Ok.ensures.setup in
    let s = c.in-Ok-scan.ensures in
    let found = found_by g.D.Disk.keeps_model g.D.Disk.obeys g.D.Disk.file g.D.Disk.clock g.D.Disk.since g.D.Disk.failures g.D.Disk.plan c.args.disk
    (disk_of c.in-Ok-scan.gate_log) (gate_at c.in-Ok-scan.gate_log) (next_slot c.in-Ok-scan.gate_log) ts
    s.entries s.end s.slot s.synced s.any_moment s.failures_stay (λ obey never. (s.planned obey never).0) in
    not_rebuilt found c.args.setup c.in-Err-finish.fault c.into_disk.result
    c.into_disk.ensures (subst (λ (s : Setup). (c.in-Err-finish.fault ≡ Fault.Memory) ⊎ (fault_in (taken s (items ts)) ts ≡ Some c.in-Err-finish.fault)) told
    c.in-Err-finish.ensures.refused)

pub with_book-requires : goal.with_book-requires
with_book-requires g c =
    let ts : List Placed = entries_in c.scan.new.sink in
    let told : told_to c.scan.new.sink ≡ c.args.setup = c.in-Ok-scan.ensures.told ∙ c.in-Ok.ensures.setup in
    let accepted : taken c.args.setup (items ts) ≡ Accepted = subst (λ s. taken s (items ts) ≡ Accepted) told c.in-Ok-finish.ensures.accepted in
    let booked : c.in-Ok-finish.book ≡ new_book c.args.setup.book (items ts) = c.in-Ok-finish.ensures.book
    ∙ ap (λ (s : Setup). new_book s.book (items ts)) told in
    let rebuilt_as : IsRebuilt c.args.setup (items ts) (Some c.in-Some.state) = subst (λ s. IsRebuilt s (items ts) (Some c.in-Some.state)) told
    (subst (IsRebuilt (told_to c.scan.new.sink) (items ts)) c.in-Some.is c.in-Ok-finish.ensures.found) in
    let k = c.in-Some.state in
    let rs = items ts in
    from_four c.take_up.result _ _ _ _ _
    (λ machine setup facts memory appended.
    ∣ begun (seen_machine machine).setup rs c.in-Ok-finish.book (stand_of (seen_machine machine))
    (booked
    ∙ ap (λ (s : Setup). new_book s.book rs) (sym (setup ∙ rebuilt_as.0)))
    (stands-at rs (seen_machine machine).facts (seen_machine machine).memory
    (facts ∙ facts_then c.learn_agrees.ensures c.accepted_follows.ensures c.args.setup rs k.facts accepted rebuilt_as.1)
    (memory ∙ ap rebuilt (sym facts))) ∣₁)
    c.take_up.ensures.setup c.take_up.ensures.facts c.take_up.ensures.memory c.take_up.ensures.appended

pub with_book-requires-in-None : goal.with_book-requires-in-None
with_book-requires-in-None g c =
    let ts : List Placed = entries_in c.scan.new.sink in
    let told : told_to c.scan.new.sink ≡ c.args.setup = c.in-Ok-scan.ensures.told ∙ c.in-Ok.ensures.setup in
    let booked : c.in-Ok-finish.book ≡ new_book c.args.setup.book (items ts) = c.in-Ok-finish.ensures.book
    ∙ ap (λ (s : Setup). new_book s.book (items ts)) told in
    let rs = items ts in
    let empty : items ts ≡ [] = subst (IsRebuilt (told_to c.scan.new.sink) (items ts)) c.in-None.is c.in-Ok-finish.ensures.found in
    from_four c.begin.result _ _ _ _ _
    (λ machine setup facts memory appended.
    ∣ begun (seen_machine machine).setup rs c.in-Ok-finish.book (stand_of (seen_machine machine))
    (booked
    ∙ ap (λ (s : Setup). new_book s.book rs) (sym setup))
    (stands-at rs (seen_machine machine).facts (seen_machine machine).memory (facts ∙ ap facts_of (first_records rs empty))
    (memory ∙ first_memory (seen_machine machine).facts facts)) ∣₁)
    c.begin.ensures.setup c.begin.ensures.facts c.begin.ensures.memory c.begin.ensures.appended

pub returns-in-Some-clause-book : goal.returns-in-Some-clause-book
returns-in-Some-clause-book g c =
    let ts : List Placed = entries_in c.scan.new.sink in
    let told : told_to c.scan.new.sink ≡ c.args.setup = c.in-Ok-scan.ensures.told ∙ c.in-Ok.ensures.setup in
    let booked : c.in-Ok-finish.book ≡ new_book c.args.setup.book (items ts) = c.in-Ok-finish.ensures.book
    ∙ ap (λ (s : Setup). new_book s.book (items ts)) told in
    IfOk-weaker c.with_book.result (λ core. (c.take_up.result ≡ Ok core.machine) × (book_of core ≡ c.in-Ok-finish.book)) _
    (λ core made keep records read.
    found-in c.args.setup (items ts) (book_of core) _ (ap items_of (c.in-Ok-scan.ensures.entries keep)) (made.1 ∙ booked) records read)
    c.with_book.ensures.made

pub returns-in-None-clause-book : goal.returns-in-None-clause-book
returns-in-None-clause-book g c =
    let ts : List Placed = entries_in c.scan.new.sink in
    let told : told_to c.scan.new.sink ≡ c.args.setup = c.in-Ok-scan.ensures.told ∙ c.in-Ok.ensures.setup in
    let booked : c.in-Ok-finish.book ≡ new_book c.args.setup.book (items ts) = c.in-Ok-finish.ensures.book
    ∙ ap (λ (s : Setup). new_book s.book (items ts)) told in
    IfOk-weaker c.with_book-in-None.result (λ core. (c.begin.result ≡ Ok core.machine) × (book_of core ≡ c.in-Ok-finish.book)) _
    (λ core made keep records read.
    found-in c.args.setup (items ts) (book_of core) _ (ap items_of (c.in-Ok-scan.ensures.entries keep)) (made.1 ∙ booked) records read)
    c.with_book-in-None.ensures.made

pub returns-in-Some-clause-begun : goal.returns-in-Some-clause-begun
returns-in-Some-clause-begun g c =
    let s = c.in-Ok-scan.ensures in
    IfOk-weaker c.with_book.result _ _
    (λ core is keeps.
    begun_by (scan (surface (g.D.Disk.file c.args.disk)).seen) (entries_in c.scan.new.sink) (gate_at c.in-Ok-scan.gate_log) (begun_of core)
    (s.entries keeps) (s.gate keeps) (is ∙ c.begun-begun.ensures ∙ ap (begun_in (entries_in c.scan.new.sink)) c.gate.ensures))
    c.with_book.ensures.begun

pub returns-in-None-clause-begun : goal.returns-in-None-clause-begun
returns-in-None-clause-begun g c =
    let s = c.in-Ok-scan.ensures in
    IfOk-weaker c.with_book-in-None.result _ _
    (λ core is keeps.
    begun_by (scan (surface (g.D.Disk.file c.args.disk)).seen) (entries_in c.scan.new.sink) (gate_at c.in-Ok-scan.gate_log) (begun_of core)
    (s.entries keeps) (s.gate keeps) (is ∙ c.begun-begun.ensures ∙ ap (begun_in (entries_in c.scan.new.sink)) c.gate.ensures))
    c.with_book-in-None.ensures.begun
