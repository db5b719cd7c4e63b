-- A plan puts rows and logs records of the shard's own keys alone.
use Rattle.std.proofs.Common.{refl, sym, ap, ◌∙◌}
use Rattle.std.specs.Prelude.{◌≡◌, true, List, [], ◌∷◌}
use Rattle.std.proofs.lemmas.Bool.{and_parts}
use Rattle.units.specs.Lists.{gather}
use Rattle.units.specs.declared.setup.Setup.{Setup}
use Rattle.truetime.specs.Interval.{Interval}
use Rattle.record.specs.Accepted.{belongs, keys_belong}
use Rattle.record.specs.Facts.{TxnStatus, Facts}
use Rattle.record.specs.Records.{Status, StandsPrepared}
use Rattle.message.specs.declared.message.Input.{Input}
use Rattle.message.specs.declared.message.Message.{Message}
use Rattle.protocol.specs.OwnKeys.{LoggedBelongs, StepKeepsOwn, all_own, names_own}
use Rattle.protocol.specs.Rows.{rebuilt, standing_row}
use Rattle.protocol.specs.Plan.{start_of_step, Before}
use Rattle.protocol.specs.Step.{is_for, plan_input}
use Rattle.protocol.proofs.Each.{told_plan}
use Rattle.protocol.proofs.Contents.{Brings, Fits, Told, logged_told, rows-carried, walked}

module _ (setup : Setup) where
  pub own_fits : Fits (keys_belong setup) (names_own setup) (belongs setup)
  unfolding belongs
  own_fits = record {
    idle = refl;
    reading = λ k. refl;
    preparing = λ c rs ws. refl;
    committing = λ l ps rs ws. refl;
    collecting = λ l ps rs ws votes. refl;
    prepared = λ c p. refl;
    decided = λ s ps. refl;
    promised = λ t c p rs ws. refl;
    decides = λ t s ps rs ws. refl;
    aborted = λ t. refl;
    outcomes = λ t outcome. refl;
    ceilings = λ at. refl;
    horizons = λ at. refl;
    retirements = λ below. refl;
  }

  -- a message for this shard names its keys alone
  brought : (m : Message) → is_for setup m ≡ true → Brings (keys_belong setup) m
  unfolding is_for
  brought (Message.Prepare p) e = (and_parts _ _ e).0
  brought (Message.Commit c) e = (and_parts _ _ e).0
  brought _ e = tt

  own_input : (b : Before) (now : Interval) (i : Input) → all_own setup b.memory.rows ≡ true
      → Told (keys_belong setup) (names_own setup) (belongs setup) own_fits (plan_input setup b now i)
  own_input b now i own = walked (keys_belong setup) (names_own setup) (belongs setup) own_fits setup b now i own (λ m same e. brought m e)

  -- ---- an opening

  own-left : (es : List TxnStatus) → all_own setup (gather standing_row es) ≡ true
  own-left [] = refl
  own-left (e ∷ es) = by_status e.status (own-left es)
    where
      by_status : (s : Status) → all_own setup (gather standing_row es) ≡ true → all_own setup
          (gather standing_row (record { txn = e.txn; status = s } ∷ es)) ≡ true
      by_status (StandsPrepared p) rest = rest
      by_status _ rest = rest

  -- the rows that an opening finds wait for nothing
  pub own-rebuilt : (f : Facts) → all_own setup (rebuilt f).rows ≡ true
  unfolding rebuilt
  own-rebuilt f = own-left f.entries

pub step_keeps_own : StepKeepsOwn
step_keeps_own rows setup facts memory now i p own e =
    rows-carried (keys_belong setup) (names_own setup) (belongs setup) (own_fits setup) p memory
    (told_plan (own_input setup (start_of_step rows setup facts memory) now i own) e).0
    own

pub logged_belongs : LoggedBelongs
logged_belongs rows setup facts memory now i p r own e logged =
    sym (ap (logged_told (keys_belong setup) (names_own setup) (belongs setup) (own_fits setup)) logged)
    ∙ (told_plan (own_input setup (start_of_step rows setup facts memory) now i own) e).1
