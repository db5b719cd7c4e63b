-- The laws of accounts, of sessions alone.
use Rattle.std.proofs.Common.{◌≡◌, inl, ℕ, ◌≤◌, List, map, refl, sym, subst, ◌∙◌, IsTrue}
use Rattle.units.specs.declared.line.Line.{Line}
use Rattle.record.specs.History.{Txn, Map, history, put_all, empty, upto}
use Rattle.record.specs.Lines.{IsLine}
use Rattle.record.specs.declared.record.Record.{Record}
use Rattle.session.specs.Sessions.{Client}
use Rattle.units.specs.Ids.{same_id}
use Rattle.units.proofs.IdLaws.{same_id-is}
use Rattle.units.proofs.ByIdLaws.{first_passes}
use Rattle.world.specs.Headline.{MayBeLeft}
use Rattle.world.specs.Lawful.{lawful}
use Rattle.world.specs.World.{World, ShardNow, run}
use Rattle.world.specs.declared.event.Config.{Config}
use Rattle.world.specs.declared.event.Event.{Event}
use Rattle.law.proofs.Recorded.{among_first}
use Rattle.law.proofs.WholeLaw.{as_they_are, externally_consistent}
use Rattle.law.specs.Among.{IsAmong}
use Rattle.law.specs.Written.{IsOfSession, has_closed}
use Rattle.accounts.specs.Keeping.{AgreesWithReads}
use Rattle.accounts.specs.Bank.{Bank, total}
use Rattle.accounts.specs.Sessions.{AllClosed, AllTransfer, SessionsKeep, SessionsConserve, SessionsLeaveEnough, ServicesKeep}
use Rattle.accounts.proofs.Induction.{Keeps, kept_behind}
use Rattle.accounts.proofs.Sums.{NoneBelow, enough_keeps, from_the_start, sum_alike, transfer_keeps}
use Rattle.law.proofs.OfSessions.{written_by_sessions}

-- what a session keeps its transaction keeps
by_session : (P : Map → Type 0) (w : World) (u : Txn) → IsOfSession w u → AllClosed w (λ c. Keeps P w.lines c.txn c.writes) → Keeps P w.lines u.txn u.writes
by_session P w u s all m says p =
    let named : s.client.txn ≡ u.txn = same_id-is s.client.txn u.txn (first_passes (λ (d : Client). same_id d.txn u.txn) w.clients s.client s.there) in
    let kept = all s.client (among_first (λ (d : Client). same_id d.txn u.txn) w.clients s.client s.there)
    (subst (λ t. IsTrue (has_closed w t)) (sym named) s.closed) m (λ k x line. says k x (subst (λ t. IsLine w.lines (Line.Read t k x)) named line)) p in
    subst P (sym (λ i k. s.same m k i)) kept

pub keep_by_sessions : (P : Map → Type 0) (config : Config) (es : List Event) (logs : List (List Record)) (at : ℕ) → IsTrue (lawful config es) →
    MayBeLeft config es logs →
    P empty → AllClosed (run config es) (λ c. Keeps P (run config es).lines c.txn c.writes) → P (upto (history logs) at)
keep_by_sessions P config es logs at fair may start all =
    from_the_start P config es logs at fair may start (λ u there below. by_session P (run config es) u
    (written_by_sessions config es logs fair may u there) all)

-- what a transaction brings about and each closed session keeps
pub keep_behind : (P : Map → Type 0) (config : Config) (es : List Event) (logs : List (List Record)) (u : Txn) (at : ℕ) → IsTrue (lawful config es) →
    MayBeLeft config es logs → IsAmong (history logs) u → u.at ≤ at
    → ((m : Map) → AgreesWithReads (run config es).lines u.txn m → P (put_all u.writes m))
    → AllClosed (run config es) (λ c. Keeps P (run config es).lines c.txn c.writes) → P (upto (history logs) at)
keep_behind P config es logs u at fair may among le brings all =
    kept_behind P config logs (run config es).lines (externally_consistent config es logs fair may) u at among le brings
    (λ v there. by_session P (run config es) v (written_by_sessions config es logs fair may v there) all)

pub sessions_keep : SessionsKeep
sessions_keep test = keep_by_sessions (λ m. IsTrue (test m))

pub services_keep : ServicesKeep
services_keep test config es logs at fair may start all =
    keep_by_sessions (λ m. IsTrue (test m)) config es logs at fair may start
    (λ c there closed m says p. let s = all c there closed in subst (λ ws. IsTrue (test (put_all ws m))) (s.2 m says) (s.1 m p))

-- ---- the laws of accounts

pub sessions_conserve : SessionsConserve
sessions_conserve = record {
  snapshots = λ b config es logs at fair may all. snapshot b config es logs at fair may all;
  audits = λ b config es at seen fair all audit.
      let logs : List (List Record) = map (λ (s : ShardNow). s.log) (run config es).shards in
      let may : MayBeLeft config es logs = inl (as_they_are (run config es).shards) in
      sum_alike b b.accounts seen (upto (history logs) at) (λ k h. sym ((externally_consistent config es logs fair may).looks k at (seen k) (audit k h)))
      ∙ snapshot b config es logs at fair may all;
}
  where
    snapshot : (b : Bank) (config : Config) (es : List Event) (logs : List (List Record)) (at : ℕ) → IsTrue (lawful config es) → MayBeLeft config es logs →
        AllTransfer b (run config es) → total b (upto (history logs) at) ≡ total b empty
    snapshot b config es logs at fair may all =
        keep_by_sessions (λ m. total b m ≡ total b empty) config es logs at fair may refl
        (λ c there closed. transfer_keeps b (total b empty) (run config es).lines c.txn c.writes (all c there closed))

pub sessions_leave_enough : SessionsLeaveEnough
sessions_leave_enough b least config es k at x fair start all among line =
    let logs : List (List Record) = map (λ (s : ShardNow). s.log) (run config es).shards in
    let may : MayBeLeft config es logs = inl (as_they_are (run config es).shards) in
    subst (λ y. least ≤ b.amount y) ((externally_consistent config es logs fair may).looks k at x line)
    (keep_by_sessions (NoneBelow b least) config es logs at fair may start (λ c there closed. enough_keeps b least
    (run config es).lines c.txn c.writes (all c there closed)) k among)
