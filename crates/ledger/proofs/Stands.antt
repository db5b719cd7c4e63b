-- Where a transaction stands is told from its status.
use Rattle.std.proofs.Common.{◌≡◌, ℕ, Bool, true, false, cond, ◌||◌, List, Option, Some, None, refl, sym, ap, ◌∙◌}
use Rattle.units.specs.Ids.{Id}
use Rattle.units.proofs.Folds.{is_there}
use Rattle.facts.specs.Shown.{status_in}
use Rattle.record.specs.Records.{Ended, Status, Unrecorded, StandsPrepared, StandsDecided, HasAborted, HasSettled, HasClosed, status_by, status_of, status_written}
use Rattle.record.specs.Records.{is_aborted, committed_of, prepared_of, ended_of, retired_of, is_below}
use Rattle.record.specs.Facts.{facts_of}
use Rattle.record.specs.Whole.{stands_by, stands_at, coordinator_says}
use Rattle.record.specs.declared.record.Committed.{Committed}
use Rattle.record.specs.declared.record.Prepared.{Prepared}
use Rattle.record.specs.declared.record.Record.{Record}
use Rattle.record.proofs.Sound.{Sound, made, not_below}
use Rattle.record.proofs.Statuses.{recorded_is}
use Rattle.facts.proofs.Kept.{kept_followed}
use Rattle.ledger.specs.Laws.{AlikeStands}

-- where an id of a status stands
abbrev stands_as : List (List Record) → Status → Option ℕ
stands_as logs Unrecorded = None
stands_as logs (StandsPrepared p) = coordinator_says logs p
stands_as logs (StandsDecided c) = Some c.at
stands_as logs HasAborted = None
stands_as logs (HasSettled at ps) = Some at
stands_as logs (HasClosed c o) = o

clash : ¬ (false ≡ true)
clash e = cc

by_parts : (logs : List (List Record)) (a : Bool) (c : Option Committed) (p : Option Prepared) (e : Option Ended)
    → (a ≡ true → (is_there p || is_there c) ≡ false) → (is_there e ≡ true → (is_there p || is_there c) ≡ true)
    → stands_by logs c e p ≡ stands_as logs (status_by a c p e)
by_parts logs true (Some c) (Some p) e apart closed = absurd (clash (sym (apart refl)))
by_parts logs true (Some c) None e apart closed = absurd (clash (sym (apart refl)))
by_parts logs true None (Some p) e apart closed = absurd (clash (sym (apart refl)))
by_parts logs true None None (Some e) apart closed = absurd (clash (closed refl))
by_parts logs true None None None apart closed = refl
by_parts logs false (Some c) p (Some e) apart closed = refl
by_parts logs false (Some c) p None apart closed = refl
by_parts logs false None (Some p) (Some e) apart closed = refl
by_parts logs false None (Some p) None apart closed = refl
by_parts logs false None None (Some e) apart closed = absurd (clash (closed refl))
by_parts logs false None None None apart closed = refl

pub stands-as : (logs : List (List Record)) (log : List Record) (t : Id) → Sound log → is_below (retired_of log) t ≡ false
    → stands_at logs log t ≡ stands_as logs (status_of log t)
unfolding stands_at status_of status_written made
stands-as logs log t s kept =
    by_parts logs (is_aborted log t) (committed_of log t) (prepared_of log t) (ended_of log t) (s.apart t) (s.closed t)
    ∙ ap (λ b. stands_as logs (cond b Unrecorded (status_written log t))) (sym kept)

status-in : (log : List Record) (t : Id) → status_in (facts_of log).entries t ≡ status_of log t
status-in log t = recorded_is log t

pub alike-stands : AlikeStands
unfolding facts_of
alike-stands shard one other logs t h k same kept =
    let here = not_below one t kept in
    let there = ap (λ (below : Option Id). is_below below t) (sym same.retired) ∙ here in
    stands-as logs one t ((kept_followed shard one h).sound) here
    ∙ ap (stands_as logs) (sym (status-in one t) ∙ ap (λ l. status_in l t) same.entries ∙ status-in other t)
    ∙ sym (stands-as logs other t ((kept_followed shard other k).sound) there)
