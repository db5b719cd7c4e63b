-- Acknowledged commits are in the history, and it is ordered by true time.
use Rattle.std.proofs.Common.{◌≡◌, ℕ, ◌<◌, ◌≤◌, Bool, true, false, cond, ◌&&◌, nat_eq, nat_lt, List, Option, Some, None, slice_get, refl, sym, ap}
use Rattle.std.proofs.Common.{subst, ◌∙◌, arith}
use Rattle.std.proofs.lemmas.Bool.{ltb-true}
use Rattle.std.proofs.lemmas.Bool.Decides.{nat_tests}
use Rattle.units.specs.Lists.{gather, head, when}
use Rattle.units.specs.Ids.{Id, same_id}
use Rattle.units.specs.declared.line.Line.{Line}
use Rattle.units.proofs.IdLaws.{same_id-is, same_id-refl}
use Rattle.units.proofs.ByIdLaws.{first_passes}
use Rattle.record.specs.History.{Txn, history, whole_txn, by_shard}
use Rattle.record.specs.Records.{as_committed}
use Rattle.record.specs.Serially.{OrderedByTime}
use Rattle.record.specs.Lines.{IsLine, is_in_at}
use Rattle.record.specs.declared.record.Committed.{Committed}
use Rattle.record.specs.declared.record.Record.{Record}
use Rattle.message.specs.declared.message.Address.{Address}
use Rattle.law.specs.Acknowledged.{committed_to}
use Rattle.law.specs.Among.{IsAmong}
use Rattle.law.specs.Evidence.{Scene, AckEvidence, Holds}
use Rattle.law.specs.Left.{AreLeft}
use Rattle.law.proofs.Logged.{AreLogged}
use Rattle.law.proofs.Recorded.{among_first, among_gather, decision_among}
use Rattle.law.proofs.Doings.{get_among}
use Rattle.law.proofs.Homes.{log_in, evidence, kept, decision_home}
use Rattle.law.proofs.AllWhole.{when_head}
use Rattle.law.proofs.Decisions.{left_logged, log_of_number, log_in-is, number_there}
use Rattle.law.proofs.Picked.{any_of, gather_among, join_among, among_join, some_same}

-- the transaction of a decision, where it stands in the log of its least part
abbrev counted : List (List Record) → ℕ → Committed → Option Txn
counted logs n c = cond (when (nat_eq n) (head c.parts)) (Some (whole_txn logs n c)) None

abbrev counted_in : List (List Record) → ℕ × List Record → List Txn
counted_in logs l = gather (counted logs l.0) (gather as_committed l.1)

-- a decision at its least part is in the history
pub history_has : (logs : List (List Record)) (n : ℕ) (c : Committed) → IsAmong (log_in logs n) (Record.Commit c) → head c.parts ≡ Some n →
    IsAmong (history logs) (whole_txn logs n c)
unfolding history
history_has logs n c k least =
    join_among (counted_in logs) (by_shard logs) (n, log_in logs n) (whole_txn logs n c) (number_there logs n (Record.Commit c) k)
    (gather_among (counted logs n) (gather as_committed (log_in logs n)) c (whole_txn logs n c)
    (gather_among as_committed (log_in logs n) (Record.Commit c) c k refl)
    (ap (λ b. cond b (Some (whole_txn logs n c)) None) (when_head c.parts n least)))

-- a transaction of the history has its decision
pub record InHistory (logs : List (List Record)) (x : Txn) : Type 0 where
  pub shard : ℕ
  pub commit : Committed
  pub among : IsAmong (log_in logs shard) (Record.Commit commit)
  pub is : whole_txn logs shard commit ≡ x

pub from_history : (logs : List (List Record)) → ((n : ℕ) (log : List Record) → slice_get logs n ≡ Some log → AreLogged log) → (x : Txn) →
    IsAmong (history logs) x → InHistory logs x
unfolding history
from_history logs logged x h =
    let j = among_join (counted_in logs) (by_shard logs) x h in
    let s = among_gather (counted logs j.from.0) (gather as_committed j.from.1) x j.within in
    record {
      shard = j.from.0;
      commit = s.from;
      among = subst (λ l. IsAmong l (Record.Commit s.from)) (sym (log_in-is logs j.from.0 j.from.1 (log_of_number logs j.from j.among)))
          (decision_among j.from.1 (logged j.from.0 j.from.1 (log_of_number logs j.from j.among)) s.from s.among);
      is = by_test (when (nat_eq j.from.0) (head s.from.parts)) (whole_txn logs j.from.0 s.from) s.gives;
    }
  where
    by_test : (b : Bool) (y : Txn) → cond b (Some y) None ≡ Some x → y ≡ x
    by_test true y e = some_same y x e
    by_test false y e = cc

module _ (sc : Scene) (h : Holds sc) (logs : List (List Record)) (left : AreLeft sc logs) where
  -- what a session was told to be committed is in the history
  pub record ToldTxn (t : Id) (at : ℕ) : Type 0 where
    pub txn : Txn
    pub among : IsAmong (history logs) txn
    pub named : txn.txn ≡ t
    pub stamp : txn.at ≡ at

  pub told_txn : (to : Address) (t : Id) (at : ℕ) → IsAmong sc.world.bag (committed_to to t at) → ToldTxn t at
  told_txn to t at sent =
      let said = h.messages _ sent in
      let d = said.told.decided in
      let c : Committed = record { txn = t; at = at; parts = d.parts; reads = d.reads; writes = d.writes } in
      let there = kept sc h logs left said.shard (Record.Commit c) d.among in
      record {
        txn = whole_txn logs said.shard c;
        among = history_has logs said.shard c there (decision_home sc h logs left said.shard c there).1;
        named = refl;
        stamp = refl;
      }

  pub ack_of_line : (t : Id) (at m : ℕ) → IsLine sc.world.lines (Line.Ack t at m) → AckEvidence sc t at m
  ack_of_line t at m line = h.lines (Line.Ack t at m) (get_among sc.world.lines line.0 (Line.Ack t at m) line.1)

  -- so at its timestamp
  pub acknowledged : (t : Id) (at m : ℕ) → IsLine sc.world.lines (Line.Ack t at m) → is_in_at (history logs) t at ≡ true
  acknowledged t at m line =
      let ack = ack_of_line t at m line in
      let told = told_txn ack.to t at ack.sent in
      any_of (λ (u : Txn). same_id u.txn t && nat_eq u.at at) (history logs) told.txn told.among (both_same told.txn t at told.named told.stamp)
    where
      both_same : (x : Txn) (u : Id) (s : ℕ) → x.txn ≡ u → x.at ≡ s → (same_id x.txn u && nat_eq x.at s) ≡ true
      both_same x u s e f = let same = subst (λ v. same_id x.txn v ≡ true) e (same_id-refl x.txn) in grind (arith, nat_tests)

  -- who began after an acknowledgement has the larger timestamp
  pub ordered : ((i j a b : ℕ) → i ≤ j → slice_get sc.times i ≡ Some a → slice_get sc.times j ≡ Some b → a ≤ b) → OrderedByTime logs sc.world.lines
  ordered rises t u at m n x acked begun before found =
      let ack = ack_of_line t at m acked in
      let p = from_history logs (left_logged sc h logs left) x (among_first (λ (y : Txn). same_id y.txn u) (history logs) x found) in
      let named : p.commit.txn ≡ u = ap (λ (y : Txn). y.txn) p.is ∙ same_id-is x.txn u (first_passes (λ (y : Txn). same_id y.txn u) (history logs) x found) in
      let e = evidence sc h logs left p.shard (Record.Commit p.commit) p.among in
      let began = e.began in
      let same : began.event ≡ n = h.once u began.event n (subst (λ v. IsAmong sc.world.lines (Line.Begin v began.event)) named began.line)
      (get_among sc.world.lines begun.0 (Line.Begin u n) begun.1) in
      let earlier : m < n = ltb-true m n before in
      let risen = rises m n ack.time began.time (omega (arith, earlier)) ack.timed (subst (λ i. slice_get sc.times i ≡ Some began.time) same began.timed) in
      let above = ack.above in
      let low = began.below in
      let high = e.above in
      let stamp = ap (λ (y : Txn). y.at) p.is in
      less at x.at (omega (arith, risen, above, low, high, stamp))
    where
      less : (a b : ℕ) → a < b → nat_lt a b ≡ true
      less a b k = grind (arith, nat_tests)
