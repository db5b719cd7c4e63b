-- The few changes of which every event is made, and that each keeps something behind all that there is.
use Rattle.std.proofs.Common.{◌≡◌, ◌≢◌, inl, inr, ℕ, List, [], Some, None, slice_get, sym, ap, subst, ◌∙◌, arith}
use Rattle.std.proofs.lemmas.Bool.{cases_eq}
use Rattle.units.specs.Lists.{replaced}
use Rattle.record.specs.declared.record.Record.{Record}
use Rattle.world.specs.World.{World, ShardNow, State, Runs, IsStopped, IsDown, set_shard}
use Rattle.world.proofs.Places.{get-replaced_same, get-replaced_other}
use Rattle.law.specs.Among.{IsAmong}
use Rattle.law.specs.Evidence.{Scene, log_at, StateEvidence, ShardEvidence, Holds}
use Rattle.law.proofs.Grows.{Within, Grows, message_stays, line_stays, began_stays, record_stays, rows_stay}
use Rattle.law.proofs.Picked.{some_same}

-- the scene with another world
abbrev pub with_world : Scene → World → Scene
with_world sc w = record sc { world = w }

-- ---- shards

-- what stood behind a shard
state_stays : (a b : Scene) → Grows a b → (n : ℕ) (s : ShardNow) (state : State) → StateEvidence a s n state → StateEvidence b s n state
state_stays a b g n s (Runs m) h = (rows_stay a b g s.log s.log (λ r k. k) n m.rows h.0, h.1)
state_stays a b g n s (IsStopped m) h = tt
state_stays a b g n s IsDown h = tt

pub shard_stays : (a b : Scene) → Grows a b → (n : ℕ) (s : ShardNow) → ShardEvidence a n s → ShardEvidence b n s
shard_stays a b g n s h = record {
  records = λ r k. record_stays a b g s.log s.log (λ q j. j) n r (h.records r k);
  unsure = λ r k. record_stays a b g s.log s.log (λ q j. j) n r (h.unsure r k);
  state = state_stays a b g n s s.state h.state;
}

module _ (sc : Scene) (n : ℕ) (old new : ShardNow) (there : slice_get sc.world.shards n ≡ Some old) (within : Within old.log new.log) where
  pub log_after : log_at (set_shard n new sc.world) n ≡ new.log
  log_after = ap (λ o. elim o as (λ x. List Record) [ None ↦ [] | Some s ↦ s.log ]) (get-replaced_same sc.world.shards n old new there)

  log_before : log_at sc.world n ≡ old.log
  log_before = ap (λ o. elim o as (λ x. List Record) [ None ↦ [] | Some s ↦ s.log ]) there

  log_elsewhere : (m : ℕ) → n ≢ m → log_at (set_shard n new sc.world) m ≡ log_at sc.world m
  log_elsewhere m ne = ap (λ o. elim o as (λ x. List Record) [ None ↦ [] | Some s ↦ s.log ]) (get-replaced_other sc.world.shards n m new ne)

  logs_grow : (m : ℕ) → Within (log_at sc.world m) (log_at (set_shard n new sc.world) m)
  logs_grow m r h = elim (cases_eq n m) [
    | inl same ↦ subst (λ k. IsAmong (log_at (set_shard n new sc.world) k) r) same
        (subst (λ l. IsAmong l r) (sym log_after) (within r (subst (λ l. IsAmong l r) log_before (subst (λ k. IsAmong (log_at sc.world k) r) (sym same) h))))
    | inr ne ↦ subst (λ l. IsAmong l r) (sym (log_elsewhere m ne)) h
  ]

  pub set_grows : Grows sc (with_world sc (set_shard n new sc.world))
  set_grows = record {
    sent = λ e h. h;
    lines = λ l h. h;
    times = λ i time h. h;
    asked = λ r h. h;
    decided = λ n c h. h;
    now = omega arith;
    closed = λ t messages h. record { client = h.client; there = h.there; closed = h.closed; same = h.same };
    logs = logs_grow;
  }

  -- another shard in the place of one
  pub set_holds : ShardEvidence sc n new → Holds sc → Holds (with_world sc (set_shard n new sc.world))
  set_holds evidence h = record {
    counted = h.counted;
    messages = λ e k. message_stays sc _ set_grows e.to e.message (h.messages e k);
    shards = λ m s e. elim (cases_eq n m) [
      | inl same ↦ by_place m s same e
      | inr ne ↦ shard_stays sc _ set_grows m s (h.shards m s (sym (get-replaced_other sc.world.shards n m new ne) ∙ e))
    ];
    lines = λ l k. line_stays sc _ set_grows l (h.lines l k);
    clients = λ t c e. began_stays sc _ set_grows t sc.now (h.clients t c e);
    begun = λ t event k. h.begun t event k;
    once = λ t event other k l. h.once t event other k l;
  }
    where
      by_place : (m : ℕ) (s : ShardNow) → n ≡ m → slice_get (replaced sc.world.shards n new) m ≡ Some s →
          ShardEvidence (with_world sc (set_shard n new sc.world)) m s
      by_place m s same e =
          let is : new ≡ s = some_same new s (sym (get-replaced_same sc.world.shards n old new there)
          ∙ subst (λ k. slice_get (replaced sc.world.shards n new) k ≡ Some s) (sym same) e) in
          subst (λ k. ShardEvidence (with_world sc (set_shard n new sc.world)) k s) same
          (subst (λ x. ShardEvidence (with_world sc (set_shard n new sc.world)) n x) is (shard_stays sc _ set_grows n new evidence))
