-- Two transfers between two shards, with a crash between a promise and its outcome, and two audits.
use Rattle.std.proofs.Common.{inl, inr, refl, subst}
use Rattle.std.specs.Prelude.{◌≡◌, ℕ, ◌+◌, ◌*◌, ◌-◌, true, List, [], ◌∷◌, map, take, Option, Some, None}
use Rattle.units.specs.Lists.{gather}
use Rattle.units.specs.Ids.{Id}
use Rattle.record.specs.History.{Map, history, upto, empty, put_all}
use Rattle.record.specs.Verdict.{verdict}
use Rattle.record.specs.Lines.{IsLine}
use Rattle.record.specs.declared.record.Record.{Record}
use Rattle.units.specs.declared.line.Verdict.TheVariants.{Yes}
use Rattle.protocol.specs.Outputs.{decision}
use Rattle.units.specs.Keys.{Bytes}
use Rattle.units.specs.declared.line.Line.{Line}
use Rattle.world.specs.World.{run, logs_of}
use Rattle.world.specs.Lawful.{lawful}
use Rattle.disk.specs.declared.plan.Fate.{Fate}
use Rattle.world.specs.declared.event.Act.{Act}
use Rattle.world.specs.declared.event.Doing.{Doing}
use Rattle.world.specs.declared.event.Event.{Event}
use Rattle.world.specs.Computing.{computing}
use Rattle.protocol.proofs.Samples.{a, m, z, sets, txn, clock}
use Rattle.world.specs.declared.event.Config.{Config}
use Rattle.units.specs.declared.writes.Write.{Write}
use Rattle.law.specs.Among.{IsAmong}
use Rattle.law.proofs.Picked.{map_among}
use Rattle.session.specs.Sessions.{Client}
use Rattle.world.specs.Headline.{MayBeLeft}
use Rattle.accounts.specs.Bank.{Bank, total, IsTransfer}
use Rattle.accounts.specs.Sessions.{AllTransfer}
use Rattle.accounts.proofs.BySessions.{sessions_conserve}

-- two shards
abbrev pub two_shards : Config
two_shards = record { splits = m ∷ []; stride = 0 }

-- an event at a time
abbrev pub on : ℕ → Act → Event
on t act = record { time = t; act = act }

-- a decimal number
abbrev decimal : ℕ → List ℕ → ℕ
decimal n [] = n
decimal n (d ∷ ds) = decimal (10 * n + (d - 48)) ds

-- an account has ten at the start
abbrev pub bank : Bank
bank = record { accounts = a ∷ z ∷ []; amount = λ x. elim x [ None ↦ 10 | Some ds ↦ decimal 0 ds ] }

-- three from `a` to `z`; shard 1 crashes when it has promised
abbrev pub events : List Event
events =
    on 100 (Act.Begin (txn 2)) ∷ on 100 (Act.Read (txn 2) a) ∷ on 100 (Act.Read (txn 2) z)
    ∷ on 105 (Act.Deliver 0 (clock 100 110)) ∷ on 105 (Act.Deliver 1 (clock 100 110)) ∷ on 106 (Act.Deliver 2 (clock 100 110)) ∷ on 106
    (Act.Deliver 3 (clock 100 110))
    ∷ on 106 (Act.Write (txn 2) a (Some (55 ∷ []))) ∷ on 106 (Act.Write (txn 2) z (Some (49 ∷ 51 ∷ []))) ∷ on 107 (Act.Close (txn 2))
    ∷ on 108 (Act.Deliver 4 (clock 100 110)) ∷ on 205 (Act.Deliver 5 (clock 200 210)) ∷ on 206 (Act.Deliver 6 (clock 200 210))
    ∷ on 207 (Act.Crash 1)
    ∷ on 208 (Act.At 1 Doing.Open)
    ∷ on 230 (Act.At 0 (Doing.Settle (txn 2) (clock 220 240)))
    ∷ on 231 (Act.Deliver 8 (clock 220 240))
    ∷ on 240 (Act.Begin (txn 3)) ∷ on 240 (Act.Read (txn 3) z) ∷ on 240 (Act.Read (txn 3) a)
    ∷ on 241 (Act.Deliver 9 (clock 230 250)) ∷ on 241 (Act.Deliver 10 (clock 230 250)) ∷ on 242 (Act.Deliver 11 (clock 230 250)) ∷ on 242
    (Act.Deliver 12 (clock 230 250))
    ∷ on 243 (Act.Write (txn 3) z (Some (56 ∷ []))) ∷ on 243 (Act.Write (txn 3) a (Some (49 ∷ 50 ∷ []))) ∷ on 244 (Act.Close (txn 3))
    ∷ on 245 (Act.Deliver 13 (clock 240 260)) ∷ on 255 (Act.Deliver 14 (clock 250 260)) ∷ on 256 (Act.Deliver 15 (clock 250 260))
    ∷ on 257 (Act.CrashIn 0 2 Fate.Old 0 (Doing.Settle (txn 3) (clock 255 259)))
    ∷ on 258 (Act.At 0 Doing.Open)
    ∷ on 400 (Act.At 0 (Doing.Settle (txn 3) (clock 390 410)))
    ∷ on 401 (Act.Deliver 17 (clock 390 410))
    ∷ on 402 (Act.Look 0 a 230) ∷ on 402 (Act.Look 1 z 230) ∷ on 402 (Act.Look 0 a 150) ∷ on 402 (Act.Look 1 z 150)
    ∷ on 402 (Act.At 0 (Doing.Advance 405 (clock 390 410))) ∷ on 402 (Act.At 1 (Doing.Advance 405 (clock 390 410)))
    ∷ on 403 (Act.Look 0 a 380) ∷ on 403 (Act.Look 1 z 380)
    ∷ []

pub is_lawful : lawful two_shards events ≡ true
unfolding computing
is_lawful = refl

-- each audit finds twenty: at 150, at 230 and at 380
abbrev seen : Line → Option (Bytes × ℕ × ℕ)
seen (Line.Look k at x) = Some (k, at, bank.amount x)
seen _ = None

pub audits_are : gather seen (run two_shards events).lines
    ≡ (a, 230, 7) ∷ (z, 230, 13) ∷ (a, 150, 10) ∷ (z, 150, 10) ∷ (a, 380, 12) ∷ (z, 380, 8) ∷ []
unfolding computing
audits_are = refl

-- each session was answered both accounts
abbrev answered : Line → Option (Id × Bytes × ℕ)
answered (Line.Read t k x) = Some (t, k, bank.amount x)
answered _ = None

pub answers_are : gather answered (run two_shards events).lines ≡ (txn 2, a, 10) ∷ (txn 2, z, 10) ∷ (txn 3, z, 13) ∷ (txn 3, a, 7) ∷ []
unfolding computing
answers_are = refl

-- both transactions stand in the logs, and at every timestamp the accounts hold twenty
pub history_is : map {B = Id × ℕ} (λ u. (u.txn, u.at)) (history (logs_of (run two_shards events))) ≡ (txn 2, 200) ∷ (txn 3, 261) ∷ []
unfolding computing history
history_is = refl

pub totals_are : map (λ t. total bank (upto (history (logs_of (run two_shards events))) t)) (0 ∷ 150 ∷ 199 ∷ 200 ∷ 260 ∷ 261 ∷ 500 ∷ []) ≡
    20 ∷ 20 ∷ 20 ∷ 20 ∷ 20 ∷ 20 ∷ 20 ∷ []
unfolding computing history upto
totals_are = refl

-- the logs as they are when shard 1 has crashed: its promise waits for the outcome, and the total is the same
pub totals_in_the_crash : map (λ t. total bank (upto (history (logs_of (run two_shards (take 14 events)))) t)) (150 ∷ 200 ∷ 500 ∷ []) ≡ 20 ∷ 20 ∷ 20 ∷ []
unfolding computing history upto
totals_in_the_crash = refl

-- ---- the same by the law

-- what both sessions wrote adds up to what they read
first_is : IsTransfer bank (run two_shards events).lines (txn 2) (sets a (55 ∷ []) ∷ sets z (49 ∷ 51 ∷ []) ∷ [])
unfolding computing
first_is = record {
  found = empty;
  read = λ k h. elim h [
    | inl same ↦ subst (λ j. IsLine (run two_shards events).lines (Line.Read (txn 2) j None)) same (1, refl)
    | inr later ↦ elim later [ inl same ↦ subst (λ j. IsLine (run two_shards events).lines (Line.Read (txn 2) j None)) same (2, refl) | inr none ↦ absurd none ]
  ];
  even = refl;
}

-- seven and thirteen
abbrev after_first : Map
after_first = put_all (sets a (55 ∷ []) ∷ sets z (49 ∷ 51 ∷ []) ∷ []) empty

second_is : IsTransfer bank (run two_shards events).lines (txn 3) (sets a (49 ∷ 50 ∷ []) ∷ sets z (56 ∷ []) ∷ [])
unfolding computing
second_is = record {
  found = after_first;
  read = λ k h. elim h [
    | inl same ↦ subst (λ j. IsLine (run two_shards events).lines (Line.Read (txn 3) j (after_first j))) same (6, refl)
    | inr later ↦ elim later [
      | inl same ↦ subst (λ j. IsLine (run two_shards events).lines (Line.Read (txn 3) j (after_first j))) same
          (5, refl)
      | inr none ↦ absurd none
    ]
  ];
  even = refl;
}

-- of two members
of_two : {A : Type 0} (P : A → Type 0) (xs : List A) (x y z : A) → xs ≡ x ∷ y ∷ [] → P x → P y → IsAmong xs z → P z
of_two {A} P xs x y z is p q among = by_member (subst (λ l. IsAmong l z) is among)
  where
    by_member : IsAmong (x ∷ y ∷ []) z → P z
    by_member (inl same) = subst P same p
    by_member (inr (inl same)) = subst P same q
    by_member (inr (inr none)) = absurd none

abbrev does : Client → Id × List Write
does c = (c.txn, c.writes)

sessions_are : map does (run two_shards events).clients ≡ (txn 2, sets a (55 ∷ []) ∷ sets z (49 ∷ 51 ∷ []) ∷ []) ∷
    (txn 3, sets a (49 ∷ 50 ∷ []) ∷ sets z (56 ∷ []) ∷ []) ∷ []
unfolding computing
sessions_are = refl

all_transfer : AllTransfer bank (run two_shards events)
all_transfer c among closed =
    of_two (λ (p : Id × List Write). IsTransfer bank (run two_shards events).lines p.0 p.1) (map does (run two_shards events).clients)
    (txn 2, sets a (55 ∷ []) ∷ sets z (49 ∷ 51 ∷ []) ∷ []) (txn 3, sets a (49 ∷ 50 ∷ []) ∷ sets z (56 ∷ []) ∷ [])
    (does c) sessions_are first_is second_is (map_among does (run two_shards events).clients c among)

-- so whatever a crash leaves of these logs, at every timestamp the accounts hold twenty
pub twenty : (logs : List (List Record)) (at : ℕ) → MayBeLeft two_shards events logs → total bank (upto (history logs) at) ≡ 20
twenty logs at may = sessions_conserve.snapshots bank two_shards events logs at is_lawful may all_transfer

-- ---- a session that writes without reading loses money

abbrev pub blind : List Event
blind =
    on 100 (Act.Begin (txn 2)) ∷ on 100 (Act.Write (txn 2) a (Some (55 ∷ []))) ∷ on 100 (Act.Close (txn 2))
    ∷ on 105 (Act.Deliver 0 (clock 100 110)) ∷ []

pub blind_total : total bank (upto (history (logs_of (run two_shards blind))) 500) ≡ 17
unfolding computing history upto
blind_total = refl

-- ---- what the clauses of looks and reads leave open

-- these logs lack what session 2 wrote, and its commit is acknowledged; the inspector finds nothing
pub lost_writes : verdict ((Record.Opened 1 ∷ decision (txn 2) 200 (0 ∷ []) [] [] ∷ Record.Outcome (txn 2) (Some 200) ∷ []) ∷
    (Record.Opened 1 ∷ []) ∷ []) (Line.Begin (txn 2) 0 ∷ Line.Ack (txn 2) 200 7 ∷ Line.Look a 300 None ∷ []) ≡ Yes
unfolding computing verdict history upto
lost_writes = refl
