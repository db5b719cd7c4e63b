-- The few kinds of plan, each with what it rests on.
use Rattle.std.proofs.Common.{ℕ, List, [], ◌∷◌, ◌++◌, Option, Some, None}
use Rattle.std.specs.Prelude.{Ok}
use Rattle.units.specs.Ids.{Id}
use Rattle.units.specs.declared.lock.Lock.{Lock}
use Rattle.record.specs.declared.record.Record.{Record}
use Rattle.message.specs.declared.message.Envelope.{Envelope}
use Rattle.protocol.specs.Rows.{Row, Phase, WaitsPrepare, Standing, HasRow, WasAborted, WasSettled, find_row}
use Rattle.protocol.specs.Outputs.{refused_vote}
use Rattle.protocol.specs.Plan.{Change, Puts, Plan, Planned, Before, votes_of, replies, serves, ends, drops, puts}
use Rattle.protocol.proofs.Each.{Each, planned}
use Rattle.law.specs.Among.{IsAmong}
use Rattle.law.specs.Evidence.{Scene, RecordEvidence, PhaseEvidence, Told, AllTold, HasOutcome}
use Rattle.law.proofs.Members.{all_append}
use Rattle.world.proofs.Places.{with_record}

-- what is logged rests on something
abbrev pub LoggedEvidence : Scene → List Record → ℕ → Option Record → Type 0
LoggedEvidence sc log n None = Unit {0}
LoggedEvidence sc log n (Some r) = RecordEvidence sc log n r

-- a row that is put rests on something
abbrev pub ChangeEvidence : Scene → List Record → ℕ → Change → Type 0
ChangeEvidence sc log n (Puts t needs phase) = PhaseEvidence sc log n t phase
ChangeEvidence sc log n _ = Unit {0}

-- a plan does only what something stands behind
pub record PlanEvidence (sc : Scene) (log : List Record) (n : ℕ) (p : Plan) : Type 0 where
  pub logged : LoggedEvidence sc log n p.logged
  pub change : ChangeEvidence sc (with_record log p.logged) n p.change
  pub told : AllTold (with_record log p.logged) sc.now n p.outbox

-- a refusal rests on nothing
abbrev pub PlannedEvidence : Scene → List Record → ℕ → Planned → Type 0
PlannedEvidence sc log n = Each (PlanEvidence sc log n) (λ fault. Unit {0})

-- what a standing rests on
abbrev pub StandingEvidence : Scene → List Record → ℕ → Id → Standing → Type 0
StandingEvidence sc log n t (HasRow held phase) = PhaseEvidence sc log n t phase
StandingEvidence sc log n t WasAborted = IsAmong log (Record.Abort t)
StandingEvidence sc log n t (WasSettled s ps) = HasOutcome log sc.now t s
StandingEvidence sc log n t _ = Unit {0}

-- a refused vote rests on nothing
refused_told : (log : List Record) (now n : ℕ) (o : Option Row) → AllTold log now n (refused_vote n o)
refused_told log now n None = tt
refused_told log now n (Some r) = by_phase r.phase
  where
    by_phase : (phase : Phase) → AllTold log now n (refused_vote n (Some (record r { phase = phase })))
    by_phase (WaitsPrepare c rs ws) = (tt, tt)
    by_phase _ = tt

votes_told : (log : List Record) (now n : ℕ) (rows : List Row) (ts : List Id) → AllTold log now n (votes_of n rows ts)
votes_told log now n rows [] = tt
votes_told log now n rows (t ∷ ts) =
    all_append (λ (e : Envelope). Told log now n e.to e.message) (refused_vote n (find_row rows t)) (votes_of n rows ts)
    (refused_told log now n (find_row rows t)) (votes_told log now n rows ts)

module _ (sc : Scene) (log : List Record) (b : Before) where
  -- messages alone
  pub replying : (out : List Envelope) → AllTold log sc.now b.shard out → PlannedEvidence sc log b.shard (Ok (replies b out))
  replying out told = planned _ (record { logged = tt; change = tt; told = told })

  pub ending : (t : Id) (out : List Envelope) → AllTold log sc.now b.shard out → PlannedEvidence sc log b.shard (Ok (ends b t out))
  ending t out told = planned _ (record { logged = tt; change = tt; told = told })

  -- served time, or a horizon
  pub serving : (r : Option Record) (last : ℕ) → LoggedEvidence sc log b.shard r → PlannedEvidence sc log b.shard (Ok (serves r last))
  serving r last logged = planned _ (record { logged = logged; change = tt; told = tt })

  pub dropping : (t : Id) (r : Record) (last : ℕ) (out : List Envelope) → RecordEvidence sc log b.shard r → AllTold (log ++ r ∷ []) sc.now b.shard out →
      PlannedEvidence sc log b.shard (Ok (drops t r last out))
  dropping t r last out logged told = planned _ (record { logged = logged; change = tt; told = told })

  -- a row without a record
  pub putting : (ended : List Id) (t : Id) (needs : List Lock) (phase : Phase) (last : ℕ) (out : List Envelope) →
      PhaseEvidence sc log b.shard t phase → AllTold log sc.now b.shard out →
      PlannedEvidence sc log b.shard (Ok (puts b ended t needs phase None last out))
  putting ended t needs phase last out evidence told = planned _ (record {
    logged = tt;
    change = evidence;
    told = all_append (λ (e : Envelope). Told log sc.now b.shard e.to e.message) (votes_of b.shard b.memory.rows ended) out
        (votes_told log sc.now b.shard b.memory.rows ended) told;
  })

  -- a row with its record
  pub standing_by_record : (ended : List Id) (t : Id) (needs : List Lock) (phase : Phase) (r : Record) (last : ℕ) (out : List Envelope) →
      RecordEvidence sc log b.shard r → PhaseEvidence sc (log ++ r ∷ []) b.shard t phase → AllTold (log ++ r ∷ []) sc.now b.shard out →
      PlannedEvidence sc log b.shard (Ok (puts b ended t needs phase (Some r) last out))
  standing_by_record ended t needs phase r last out logged evidence told = planned _ (record {
    logged = logged;
    change = evidence;
    told = all_append (λ (e : Envelope). Told (log ++ r ∷ []) sc.now b.shard e.to e.message) (votes_of b.shard b.memory.rows ended) out
        (votes_told (log ++ r ∷ []) sc.now b.shard b.memory.rows ended) told;
  })
