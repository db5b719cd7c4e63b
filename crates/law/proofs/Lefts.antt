-- Something stands behind each record of logs that a crash may leave, between events and within one.
use Rattle.std.proofs.Common.{◌≡◌, ◌⊎◌, inl, inr, ℕ, zero, suc, ◌≤◌, true, nat_le, List, [], ◌∷◌, ◌++◌, Option, Some, None, slice_get, refl, sym, ap}
use Rattle.std.proofs.Common.{subst}
use Rattle.std.proofs.lemmas.Bool.{leb-true, and_parts}
use Rattle.units.specs.Lists.{when}
use Rattle.truetime.specs.Reading.{is_honest}
use Rattle.record.specs.declared.record.Record.{Record}
use Rattle.message.specs.declared.message.Address.{Address}
use Rattle.message.specs.declared.message.Address.TheVariants.{Shard, Session}
use Rattle.message.specs.declared.message.Envelope.{Envelope}
use Rattle.world.specs.World.{World, ShardNow, read_log, input_of}
use Rattle.world.specs.Lawful.{may_act, can_come}
use Rattle.world.specs.Headline.{MayLeaveLog, MayLeaveLogs, MayHaveLogged, MayLeaveWithin, doing_of}
use Rattle.world.specs.declared.event.Act.{Act}
use Rattle.world.specs.declared.event.Doing.{Doing}
use Rattle.law.specs.Among.{IsAmong}
use Rattle.law.specs.Evidence.{Scene, RecordEvidence, Holds}
use Rattle.law.specs.Left.{IsLeftLog, AreLeft}
use Rattle.world.specs.Steady.{IsSteady}
use Rattle.law.proofs.Members.{among_left, among_cases}
use Rattle.law.proofs.Grows.{record_stays}
use Rattle.law.proofs.Doings.{SteppedEvidence, Given, IsAskedBy, delivered, given, grows_same}
use Rattle.law.proofs.Picked.{some_same}
use Rattle.law.proofs.Shards.{effect_evidence, logged_known, within_listed}

-- ---- places

-- the shard of a log that a crash may leave
pub record ShardOf (ss : List ShardNow) (n : ℕ) (P : ShardNow → Type 0) : Type 0 where
  pub shard : ShardNow
  pub there : slice_get ss n ≡ Some shard
  pub fits : P shard

pub left_get : (ss : List ShardNow) (ls : List (List Record)) (n : ℕ) (l : List Record) → MayLeaveLogs ss ls → slice_get ls n ≡ Some l →
    ShardOf ss n (λ s. MayLeaveLog s l)
left_get [] [] n l h e = cc
left_get [] (m ∷ ls) n l h e = absurd h
left_get (s ∷ ss) [] n l h e = cc
left_get (s ∷ ss) (m ∷ ls) zero l h e = record { shard = s; there = refl; fits = subst (MayLeaveLog s) (some_same m l e) h.0 }
left_get (s ∷ ss) (m ∷ ls) (suc n) l h e = let k = left_get ss ls n l h.1 e in record { shard = k.shard; there = k.there; fits = k.fits }

left_all : (ss : List ShardNow) (ls : List (List Record)) (n : ℕ) (s : ShardNow) → MayLeaveLogs ss ls → slice_get ss n ≡ Some s → (l : List Record)
    × (slice_get ls n ≡ Some l)
left_all [] ls n s h e = cc
left_all (x ∷ ss) [] n s h e = absurd h
left_all (x ∷ ss) (m ∷ ls) zero s h e = (m, refl)
left_all (x ∷ ss) (m ∷ ls) (suc n) s h e = left_all ss ls n s h.1 e

module _ (w : World) (n : ℕ) (doing : Doing) where
  pub within_get : (i : ℕ) (ss : List ShardNow) (ls : List (List Record)) (k : ℕ) (l : List Record) → MayLeaveWithin w n doing i ss ls →
      slice_get ls k ≡ Some l →
      ShardOf ss k (λ s. MayLeaveLog s l ⊎ ((k ≡ i) × MayHaveLogged w s n doing l))
  within_get i [] [] k l h e = cc
  within_get zero [] (m ∷ ls) k l h e = absurd h
  within_get (suc i) [] (m ∷ ls) k l h e = absurd h
  within_get i (s ∷ ss) [] k l h e = cc
  within_get zero (s ∷ ss) (m ∷ ls) zero l h e = record { shard = s; there = refl; fits = inr (refl, subst (MayHaveLogged w s n doing) (some_same m l e) h.0) }
  within_get zero (s ∷ ss) (m ∷ ls) (suc k) l h e = let p = left_get ss ls k l h.1 e in record { shard = p.shard; there = p.there; fits = inl p.fits }
  within_get (suc i) (s ∷ ss) (m ∷ ls) zero l h e = record { shard = s; there = refl; fits = inl (subst (MayLeaveLog s) (some_same m l e) h.0) }
  within_get (suc i) (s ∷ ss) (m ∷ ls) (suc k) l h e =
      let p = within_get i ss ls k l h.1 e in
      record { shard = p.shard; there = p.there; fits = elim p.fits [ inl a ↦ inl a | inr b ↦ inr (ap suc b.0, b.1) ] }

  within_all : (i : ℕ) (ss : List ShardNow) (ls : List (List Record)) (k : ℕ) (s : ShardNow) → MayLeaveWithin w n doing i ss ls →
      slice_get ss k ≡ Some s → (l : List Record) × (slice_get ls k ≡ Some l)
  within_all i [] ls k s h e = cc
  within_all zero (x ∷ ss) [] k s h e = absurd h
  within_all (suc i) (x ∷ ss) [] k s h e = absurd h
  within_all zero (x ∷ ss) (m ∷ ls) zero s h e = (m, refl)
  within_all zero (x ∷ ss) (m ∷ ls) (suc k) s h e = left_all ss ls k s h.1 e
  within_all (suc i) (x ∷ ss) (m ∷ ls) zero s h e = (m, refl)
  within_all (suc i) (x ∷ ss) (m ∷ ls) (suc k) s h e = within_all i ss ls k s h.1 e

-- ---- between events

module _ (sc : Scene) (h : Holds sc) (steady : IsSteady sc.world) where
  left_log : (n : ℕ) (s : ShardNow) (log : List Record) → slice_get sc.world.shards n ≡ Some s → MayLeaveLog s log → IsLeftLog sc n log
  left_log n s log there (inl same) =
      subst (IsLeftLog sc n) (sym same) (record {
        shard = s;
        there = there;
        whole = λ r k. k;
        records = (h.shards n s there).records;
        follows = steady.follows n s s.log there (inl refl);
      })
  left_log n s log there (inr more) =
      subst (IsLeftLog sc n) (sym more.2) (record {
        shard = s;
        there = there;
        whole = λ r k. among_left s.log (more.0 ∷ []) r k;
        records = λ r k. record_stays sc sc (grows_same sc) s.log (s.log ++ more.0 ∷ []) (λ q j. among_left s.log (more.0 ∷ []) q j) n r (by_place r k);
        follows = steady.follows n s (s.log ++ more.0 ∷ []) there (inr (more.0, more.1, refl));
      })
    where
      by_place : (r : Record) → IsAmong (s.log ++ more.0 ∷ []) r → RecordEvidence sc s.log n r
      by_place r k = elim (among_cases s.log (more.0 ∷ []) r k) [
        | inl old ↦ (h.shards n s there).records r old
        | inr new ↦ elim new [ inl same ↦ subst (λ x. RecordEvidence sc s.log n x) same ((h.shards n s there).unsure more.0 more.1) | inr none ↦ absurd none ]
      ]

  pub left_between : (logs : List (List Record)) → MayLeaveLogs sc.world.shards logs → AreLeft sc logs
  left_between logs may = record {
    each = λ n log e. let s = left_get sc.world.shards logs n log may e in left_log n s.shard log s.there s.fits;
    all = λ n s e. left_all sc.world.shards logs n s may e;
  }

  -- ---- within an event

  -- what is under way was honestly given
  given_by : (a : Act) (n : ℕ) (doing : Doing) → may_act sc.world sc.now a ≡ true → IsAskedBy sc a → doing_of sc.world a ≡ Some (n, doing) →
      Given sc n (input_of sc.world.bag doing)
  unfolding may_act
  given_by (Act.At m d) n doing may asks e = by_same (some_same (m, d) (n, doing) e) (given sc m d (and_parts _ _ may).1 (asks m d refl))
    where
      by_same : ◌≡◌ {A = ℕ × Doing} (m, d) (n, doing) → Given sc m (input_of sc.world.bag d) → Given sc n (input_of sc.world.bag doing)
      by_same same g = subst (λ (p : ℕ × Doing). Given sc p.0 (input_of sc.world.bag p.1)) same g
  given_by (Act.CrashIn m call fate named d) n doing may asks e =
      by_same (some_same (m, d) (n, doing) e) (given sc m d (and_parts _ _ (and_parts _ _ may).0).1 (asks m d refl))
    where
      by_same : ◌≡◌ {A = ℕ × Doing} (m, d) (n, doing) → Given sc m (input_of sc.world.bag d) → Given sc n (input_of sc.world.bag doing)
      by_same same g = subst (λ (p : ℕ × Doing). Given sc p.0 (input_of sc.world.bag p.1)) same g
  given_by (Act.FailIn m call named d) n doing may asks e =
      by_same (some_same (m, d) (n, doing) e) (given sc m d (and_parts _ _ may).1 (asks m d refl))
    where
      by_same : ◌≡◌ {A = ℕ × Doing} (m, d) (n, doing) → Given sc m (input_of sc.world.bag d) → Given sc n (input_of sc.world.bag doing)
      by_same same g = subst (λ (p : ℕ × Doing). Given sc p.0 (input_of sc.world.bag p.1)) same g
  given_by (Act.Deliver m now) n doing may asks e = by_message (slice_get sc.world.bag m) refl e
    where
      times : (now.earliest ≤ sc.now) × (sc.now ≤ now.latest)
      times = let p = and_parts (nat_le now.earliest sc.now) (nat_le sc.now now.latest)
          ((and_parts (is_honest sc.now now) (when (can_come sc.world) (slice_get sc.world.bag m)) may).0) in (leb-true _ _ p.0, leb-true _ _ p.1)

      by_address : (x : Envelope) → slice_get sc.world.bag m ≡ Some x → (a : Address) → x.to ≡ a →
          (elim a as (λ y. Option (ℕ × Doing)) [ Shard k ↦ Some (k, Doing.Take m now) | Session t ↦ None ]) ≡ Some (n, doing) →
          Given sc n (input_of sc.world.bag doing)
      by_address x is (Shard k) goes same = subst (λ (p : ℕ × Doing). Given sc p.0 (input_of sc.world.bag p.1))
          (some_same (k, Doing.Take m now) (n, doing) same) (delivered sc m now x k is goes (times.1, times.0) asks)
      by_address x is (Session t) goes same = cc

      by_message : (o : Option Envelope) → slice_get sc.world.bag m ≡ o →
          (elim o as (λ y. Option (ℕ × Doing)) [
            | None ↦ None
            | Some x ↦ elim x.to as (λ y. Option (ℕ × Doing)) [
              | Shard k ↦
                  Some (k, Doing.Take m now)
              | Session t ↦ None
            ]
          ]) ≡ Some (n, doing) →
          Given sc n (input_of sc.world.bag doing)
      by_message None is same = cc
      by_message (Some x) is same = by_address x is x.to refl same
  given_by _ n doing may asks e = cc

  module _ (present : slice_get sc.times sc.world.event ≡ Some sc.now) where
    step_left : (n : ℕ) (s : ShardNow) (doing : Doing) (log : List Record) → slice_get sc.world.shards n ≡ Some s → Given sc n (input_of sc.world.bag doing) →
        MayHaveLogged sc.world s n doing log → IsLeftLog sc n log
    step_left n s doing log there heard may =
        let e = subst (SteppedEvidence sc n (read_log s)) may.1.0.2 (effect_evidence sc h steady present n s there doing heard) in
        subst (IsLeftLog sc n) (sym may.1.1) (record {
          shard = s;
          there = there;
          whole = within_listed sc h steady present n s there (Some may.0);
          records = logged_known sc h steady present n s there (Some may.0) e.rests;
          follows = steady.logged n s doing may.0 may.1.0.0 may.1.0.1 there may.1.0.2;
        })

    pub left_within : (a : Act) (n : ℕ) (doing : Doing) (logs : List (List Record)) → may_act sc.world sc.now a ≡ true → IsAskedBy sc a →
        doing_of sc.world a ≡ Some (n, doing) → MayLeaveWithin sc.world n doing n sc.world.shards logs → AreLeft sc logs
    left_within a n doing logs may asks is within = record {
      each = λ k log e. by_place k log (within_get sc.world n doing n sc.world.shards logs k log within e);
      all = λ k s e. within_all sc.world n doing n sc.world.shards logs k s within e;
    }
      where
        by_place : (k : ℕ) (log : List Record) → ShardOf sc.world.shards k (λ s. MayLeaveLog s log
            ⊎ ((k ≡ n) × MayHaveLogged sc.world s n doing log)) → IsLeftLog sc k log
        by_place k log p = elim p.fits [
          | inl plain ↦ left_log k p.shard log p.there plain
          | inr here ↦ subst (λ m. IsLeftLog sc m log) (sym here.0)
              (step_left n p.shard doing log (subst (λ m. slice_get sc.world.shards m ≡ Some p.shard) here.0 p.there) (given_by a n doing may asks is) here.1)
        ]
