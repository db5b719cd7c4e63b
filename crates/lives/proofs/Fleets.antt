-- The running shards of a run, by their places.
use Rattle.std.proofs.Common.{◌≡◌, inl, inr, ℕ, zero, suc, ◌+◌, ◌<◌, ◌≤◌, Bool, true}
use Rattle.std.proofs.Common.{false, not, nat_lt, List, [], ◌∷◌, ◌++◌, length, map, replicate, set, slice_get}
use Rattle.std.proofs.Common.{Option, Some, None, ◌⊎◌, Result, Ok, Err, IfOk, IfErr, OnOk, get_or, drop, ◌==◌, refl, sym, ap, ◌∙◌, subst, append_assoc, arith}
use Rattle.std.proofs.lemmas.Bool.Decides.{nat_tests}
use Rattle.std.proofs.lemmas.List.{length-replicate, map-append, replicate-append-replicate}
use Rattle.std.proofs.lemmas.Option.{slice_get_past, slice_get_within}
use Rattle.units.specs.Lists.{replaced, when}
use Rattle.units.specs.declared.fault.Fault.{Fault}
use Rattle.units.specs.declared.fault.Fault.TheVariants.{Memory, Stranger}
use Rattle.units.specs.declared.setup.Setup.{Setup}
use Rattle.record.specs.declared.record.Record.{Record}
use Rattle.message.specs.declared.message.Envelope.{Envelope}
use Rattle.simdisk.specs.declared.simdisk.SimDisk.{SimDisk}
use Rattle.world.specs.World.{ShardNow, effect, fresh_shard, setup_of}
use Rattle.world.specs.Lawful.{is_down, is_up}
use Rattle.world.specs.declared.event.Config.{Config}
use Rattle.world.specs.declared.event.Doing.{Doing}
use Rattle.world.specs.declared.event.Reply.{Reply}
use Rattle.lives.specs.Carries.{Comes, answer_of}
use Rattle.lives.specs.Lives.{disk_log}
use Rattle.lives.specs.Fleet.{ActsAt, AreOn, AreShards, AreStanding, CrashesAt, IsOn, known_of}
use Rattle.lives.specs.Shows.{Acts, StandsFor, done_by}
use Rattle.lives.specs.declared.fleet.Known.{Known}
use Rattle.lives.specs.declared.fleet.Shards.{Shards}
use Rattle.lives.specs.declared.run_shard.RunShard.{RunShard}

-- there are as many
pub as_many : (config : Config) (n : ℕ) (rs : List RunShard) (ss : List ShardNow) → AreStanding config n rs ss → length rs ≡ length ss
as_many config n [] [] h = refl
as_many config n [] (s ∷ ss) h = absurd h
as_many config n (r ∷ rs) [] h = absurd h
as_many config n (r ∷ rs) (s ∷ ss) h = ap suc (as_many config (suc n) rs ss h.1)

some_same : {A : Type 0} (x y : A) → Some x ≡ Some y → x ≡ y
some_same {A = A} x y e = ap (λ o. elim o as (λ p. A) [ None ↦ x | Some z ↦ z ]) e

not_none : {A : Type 0} (x : A) → None ≡ Some x → ⊥
not_none {A = A} x e = subst (λ o. elim o as (λ p. Type 0) [ None ↦ Unit {0} | Some y ↦ ⊥ ]) e tt

-- what stands in the first place
at_first : (config : Config) (n k : ℕ) (r : RunShard) (s : ShardNow) → k ≡ n → StandsFor (setup_of config n) r s →
    StandsFor (setup_of config k) r s
at_first config n k r s here h = subst (λ m. StandsFor (setup_of config m) r s) (sym here) h

-- what stands in a place of the code
pub in_place : (config : Config) (n i k : ℕ) (rs : List RunShard) (ss : List ShardNow) (r : RunShard) → AreStanding config n rs ss →
    k ≡ n + i → slice_get rs i ≡ Some r
    → (s : ShardNow) × (slice_get ss i ≡ Some s) × StandsFor (setup_of config k) r s
in_place config n i k [] ss r h at there = absurd (not_none r there)
in_place config n i k (x ∷ rs) [] r h at there = absurd h
in_place config n zero k (x ∷ rs) (s ∷ ss) r h at there =
    let same : x ≡ r = some_same x r there in
    (s, refl, at_first config n k r s (omega (arith, at)) (subst (λ y. StandsFor (setup_of config n) y s) same h.0))
in_place config n (suc i) k (x ∷ rs) (s ∷ ss) r h at there = in_place config (suc n) i k rs ss r h.1 (omega (arith, at)) there

-- and of the definitions
pub of_place : (config : Config) (n i k : ℕ) (rs : List RunShard) (ss : List ShardNow) (s : ShardNow) → AreStanding config n rs ss →
    k ≡ n + i → slice_get ss i ≡ Some s
    → (r : RunShard) × (slice_get rs i ≡ Some r) × StandsFor (setup_of config k) r s
of_place config n i k rs [] s h at there = absurd (not_none s there)
of_place config n i k [] (y ∷ ss) s h at there = absurd h
of_place config n zero k (x ∷ rs) (y ∷ ss) s h at there =
    let same : y ≡ s = some_same y s there in
    (x, refl, at_first config n k x s (omega (arith, at)) (subst (λ z. StandsFor (setup_of config n) x z) same h.0))
of_place config n (suc i) k (x ∷ rs) (y ∷ ss) s h at there = of_place config (suc n) i k rs ss s h.1 (omega (arith, at)) there

-- another in a place
pub another : (config : Config) (n i k : ℕ) (rs : List RunShard) (ss : List ShardNow) (r : RunShard) (s : ShardNow) →
    AreStanding config n rs ss → k ≡ n + i
    → i < length rs → StandsFor (setup_of config k) r s → AreStanding config n (set rs i r) (replaced ss i s)
another config n i k [] [] r s h at lt new = absurd (omega (arith, lt))
another config n i k [] (y ∷ ss) r s h at lt new = absurd h
another config n i k (x ∷ rs) [] r s h at lt new = absurd h
another config n zero k (x ∷ rs) (y ∷ ss) r s h at lt new =
    let here : k ≡ n = omega (arith, at) in
    (subst (λ m. StandsFor (setup_of config m) r s) here new, h.1)
another config n (suc i) k (x ∷ rs) (y ∷ ss) r s h at lt new = (
  h.0,
  another config (suc n) i k rs ss r s h.1 (omega (arith, at))
      (omega (arith, lt)) new,
)

-- one more behind them
pub one_more : (config : Config) (n k : ℕ) (rs : List RunShard) (ss : List ShardNow) (r : RunShard) (s : ShardNow) →
    AreStanding config n rs ss → k ≡ n + length rs
    → StandsFor (setup_of config k) r s → AreStanding config n (rs ++ r ∷ []) (ss ++ s ∷ [])
one_more config n k [] [] r s h at new =
    let here : k ≡ n = omega (arith, at) in
    (subst (λ m. StandsFor (setup_of config m) r s) here new, tt)
one_more config n k [] (y ∷ ss) r s h at new = absurd h
one_more config n k (x ∷ rs) [] r s h at new = absurd h
one_more config n k (x ∷ rs) (y ∷ ss) r s h at new = (h.0, one_more config (suc n) k rs ss r s h.1 (omega (arith, at)) new)

-- so of fresh ones
pub one_more_fresh : (config : Config) (k : ℕ) (rs new : List RunShard) (r : RunShard) → AreStanding config 0 rs (replicate k fresh_shard) →
    StandsFor (setup_of config k) r fresh_shard
    → new ≡ rs ++ r ∷ [] → AreStanding config 0 new (replicate (k + 1) fresh_shard)
one_more_fresh config k rs new r h fresh put =
    let many = as_many config 0 rs (replicate k fresh_shard) h in
    let place : k ≡ 0 + length rs = omega (arith, many, length-replicate k fresh_shard) in
    let more : AreStanding config 0 (rs ++ r ∷ []) (replicate k fresh_shard ++ fresh_shard ∷ []) =
    one_more config 0 k rs (replicate k fresh_shard) r fresh_shard h place fresh in
    subst (λ ss. AreStanding config 0 new ss) (replicate-append-replicate k 1 fresh_shard)
    (subst (λ l. AreStanding config 0 l (replicate k fresh_shard ++ fresh_shard ∷ [])) (sym put) more)

-- ---- a shard that does something, or is looked at

-- there is one
pub looks_there : (config : Config) (shards : Shards) (ss : List ShardNow) (n : ℕ) (r : RunShard) (result : Result Reply Fault)
    (f : ShardNow → Reply) → AreShards config shards ss
    → slice_get shards.shards.items n ≡ Some r → ((s : ShardNow) → StandsFor (setup_of config n) r s → IfOk result (λ reply. reply ≡ f s))
    → IfOk result (λ reply. reply ≡ elim (slice_get ss n) as (λ x. Reply) [ None ↦ Reply.Refused Stranger | Some s ↦ f s ])
looks_there config shards ss n r result f h there look =
    let p : (s : ShardNow) × (slice_get ss n ≡ Some s) × StandsFor (setup_of config n) r s =
    in_place config 0 n n shards.shards.items ss r h.standing (omega arith) there in
    subst (λ x. IfOk result (λ reply. reply ≡ x)) (sym (ap (λ o. elim o as (λ x. Reply) [ None ↦ Reply.Refused Stranger | Some s ↦ f s ]) p.1)) (look p.0 p.2)

-- there is none
pub none_past : (config : Config) (shards : Shards) (ss : List ShardNow) (n : ℕ) → AreShards config shards ss → length shards.shards.items ≤ n
    → slice_get ss n ≡ None
none_past config shards ss n h over = slice_get_past ss n (omega (arith, as_many config 0 shards.shards.items ss h.standing, over))

-- there is none to look at
pub looks_nowhere : (config : Config) (shards : Shards) (ss : List ShardNow) (n : ℕ) (f : ShardNow → Reply) → AreShards config shards ss
    → length shards.shards.items ≤ n
    → Reply.Refused Stranger ≡ elim (slice_get ss n) as (λ x. Reply) [ None ↦ Reply.Refused Stranger | Some s ↦ f s ]
looks_nowhere config shards ss n f h over =
    sym (ap (λ o. elim o as (λ x. Reply) [ None ↦ Reply.Refused Stranger | Some s ↦ f s ]) (none_past config shards ss n h over))

-- what is known of one, and of none
pub known_there : (config : Config) (shards : Shards) (ss : List ShardNow) (n : ℕ) (r : RunShard) (rests stands : Bool) (views : ℕ) →
    AreShards config shards ss → slice_get shards.shards.items n ≡ Some r
    → ((s : ShardNow) → StandsFor (setup_of config n) r s →
    (rests ≡ not (is_up s.state)) × (stands ≡ not (is_down s.state)) × (views ≡ length s.views))
    → ◌≡◌ {A = Known} (record { exists = true; rests = rests; stands = stands; views = views }) (known_of ss n)
known_there config shards ss n r rests stands views h there told =
    let p : (s : ShardNow) × (slice_get ss n ≡ Some s) × StandsFor (setup_of config n) r s =
    in_place config 0 n n shards.shards.items ss r h.standing (omega arith) there in
    let t = told p.0 p.2 in
    let here : true ≡ nat_lt n (length ss) = within n (length ss) (slice_get_within ss n p.0 p.1) in
    λ i. record {
      exists = here i;
      rests = (t.0 ∙ ap (when (λ s. not (is_up s.state))) (sym p.1)) i;
      stands = (t.1 ∙ ap (when (λ s. not (is_down s.state))) (sym p.1)) i;
      views = (t.2 ∙ ap (λ o. elim o as (λ x. ℕ) [ None ↦ 0 | Some s ↦ length s.views ]) (sym p.1)) i;
    }
  where
    within : (m k : ℕ) → m < k → true ≡ nat_lt m k
    within m k lt = grind (arith, nat_tests)

pub known_nowhere : (config : Config) (shards : Shards) (ss : List ShardNow) (n : ℕ) → AreShards config shards ss
    → length shards.shards.items ≤ n
    → ◌≡◌ {A = Known} (record { exists = false; rests = false; stands = false; views = 0 }) (known_of ss n)
known_nowhere config shards ss n h over =
    let past : length ss ≤ n = omega (arith, as_many config 0 shards.shards.items ss h.standing, over) in
    let none : slice_get ss n ≡ None = slice_get_past ss n past in
    λ i. record {
      exists = beyond n (length ss) past i;
      rests = sym (ap (when (λ s. not (is_up s.state))) none) i;
      stands = sym (ap (when (λ s. not (is_down s.state))) none) i;
      views = sym (ap (λ o. elim o as (λ x. ℕ) [ None ↦ 0 | Some s ↦ length s.views ]) none) i;
    }
  where
    beyond : (m k : ℕ) → k ≤ m → false ≡ nat_lt m k
    beyond m k le = grind (arith, nat_tests)

pub has_view : (ss : List ShardNow) (n v : ℕ) (known : Known) → known ≡ known_of ss n
    → nat_lt v known.views ≡ when (λ s. nat_lt v (length s.views)) (slice_get ss n)
has_view ss n v known is = ap (λ (k : Known). nat_lt v k.views) is ∙ by_place (slice_get ss n)
  where
    none : false ≡ nat_lt v 0
    none = grind (arith, nat_tests)

    by_place : (o : Option ShardNow) → nat_lt v (elim o as (λ x. ℕ) [ None ↦ 0 | Some s ↦ length s.views ]) ≡ when (λ s. nat_lt v (length s.views)) o
    by_place None = sym none
    by_place (Some s) = refl

-- what is answered, and the shards, by what stands in a place
abbrev by_place : Config → List ShardNow → ℕ → List Envelope → Option ℕ → Doing → Option ShardNow → Result (List Envelope) Fault × List ShardNow
by_place config ss n bag call doing o =
    elim o as (λ x. Result (List Envelope) Fault × List ShardNow) [
      | None ↦ (Err Stranger, ss)
      | Some s ↦ (
        answer_of call doing (effect (setup_of config n) bag s doing),
        replaced ss n (done_by s call doing (effect (setup_of config n) bag s doing)),
      )
    ]

abbrev Answers : Config → List ShardNow → ℕ → Shards → List Envelope → Option ℕ → Doing → Result (List Envelope) Fault → Option ShardNow → Type 0
Answers config ss n new bag call doing result o =
    (result ≡ Err Memory) ⊎ ((result ≡ (by_place config ss n bag call doing o).0) × AreShards config new (by_place config ss n bag call doing o).1)

-- one that did something
module _ (config : Config) (ss : List ShardNow) (n : ℕ) (old new : Shards) (before after : RunShard) (h : AreShards config old ss)
    (splits : new.splits.now ≡ old.splits.now) (put : new.shards.items ≡ set old.shards.items n after)
    (there : slice_get old.shards.items n ≡ Some before) where
  place : (s : ShardNow) × (slice_get ss n ≡ Some s) × StandsFor (setup_of config n) before s
  place = in_place config 0 n n old.shards.items ss before h.standing (omega arith) there

  changed : (s : ShardNow) → StandsFor (setup_of config n) after s → AreShards config new (replaced ss n s)
  changed s k = record {
    splits_are = splits ∙ h.splits_are;
    standing = subst (λ rs. AreStanding config 0 rs (replaced ss n s)) (sym put)
        (another config 0 n n old.shards.items ss after s h.standing (omega arith) (slice_get_within old.shards.items n before there) k);
  }

  pub acts_there : (bag : List Envelope) (call : Option ℕ) (doing : Doing) (result : Result (List Envelope) Fault)
      → ((s : ShardNow) → StandsFor (setup_of config n) before s → Acts (setup_of config n) bag s call doing after result)
      → ActsAt config bag ss n call doing new result
  acts_there bag call doing result act = λ orderly. by_answer (act place.0 place.2 (orderly place.0 place.1))
    where
      by_answer : Comes call doing (effect (setup_of config n) bag place.0 doing) result
          (StandsFor (setup_of config n) after (done_by place.0 call doing (effect (setup_of config n) bag place.0 doing)))
          → Answers config ss n new bag call doing result (slice_get ss n)
      by_answer (inl memory) = inl memory
      by_answer (inr k) = subst (Answers config ss n new bag call doing result) (sym place.1)
          (inr (k.0, changed (done_by place.0 call doing (effect (setup_of config n) bag place.0 doing)) k.1))

  -- one that crashed
  pub crash_there : (f : ShardNow → ShardNow) (r : Result Reply Fault)
      → ((s : ShardNow) → slice_get ss n ≡ Some s → StandsFor (setup_of config n) before s → OnOk r (StandsFor (setup_of config n) after (f s)))
      → IfOk r (λ reply. reply ≡ Reply.Crashed) → IfErr r (λ fault. fault ≡ Memory) → CrashesAt config f ss n new r
  crash_there f (Err fault) crash replies memory = memory
  crash_there f (Ok reply) crash replies memory =
      subst (λ o. (reply ≡ elim o as (λ x. Reply) [ None ↦ Reply.Refused Stranger | Some s ↦ Reply.Crashed ])
      × AreShards config new (elim o as (λ x. List ShardNow) [ None ↦ ss | Some s ↦ replaced ss n (f s) ])) (sym place.1)
      (replies, changed (f place.0) (crash place.0 place.1 place.2))

-- there is none to crash
pub nothing_crashes : (config : Config) (shards : Shards) (ss : List ShardNow) (n : ℕ) (f : ShardNow → ShardNow) → AreShards config shards ss
    → length shards.shards.items ≤ n → CrashesAt config f ss n shards (Ok (Reply.Refused Stranger))
nothing_crashes config shards ss n f h over =
    let none : slice_get ss n ≡ None = none_past config shards ss n h over in
    subst (λ o. (Reply.Refused Stranger ≡ elim o as (λ x. Reply) [ None ↦ Reply.Refused Stranger | Some s ↦ Reply.Crashed ])
    × AreShards config shards (elim o as (λ x. List ShardNow) [ None ↦ ss | Some s ↦ replaced ss n (f s) ])) (sym none) (refl, h)

-- ---- the logs, one after another

-- each is on its disk
pub on_more : (disks : List SimDisk) (logs : List (List Record)) (disk : SimDisk) (log : List Record) → AreOn disks logs → IsOn disk log
    → AreOn (disks ++ disk ∷ []) (logs ++ log ∷ [])
on_more [] [] disk log h k = (k, tt)
on_more [] (l ∷ logs) disk log h k = absurd h
on_more (d ∷ disks) [] disk log h k = absurd h
on_more (d ∷ disks) (l ∷ logs) disk log h k = (h.0, on_more disks logs disk log h.1 k)

-- the logs of the shards that were taken from the front, and those that are left
abbrev pub AreTaken : List RunShard → List (List Record) → List RunShard → Type 0
AreTaken all logs left =
    (config : Config) (n : ℕ) (ss : List ShardNow) → AreStanding config n all ss
    → (m : ℕ) × (rest : List ShardNow) × AreStanding config m left rest × (map disk_log ss ≡ logs ++ map disk_log rest)

pub one_taken : (all left after : List RunShard) (logs : List (List Record)) (r : RunShard) (log : List Record) → left ≡ r ∷ after
    → ((setup : Setup) (s : ShardNow) → StandsFor setup r s → log ≡ disk_log s) → AreTaken all logs left → AreTaken all (logs ++ log ∷ []) after
one_taken all left after logs r log is read h = λ config n ss running. let p = h config n ss running in
    by_rest config p.0 p.1 (map disk_log ss) (subst (λ l. AreStanding config p.0 l p.1) is p.2) p.3
  where
    by_rest : (config : Config) (m : ℕ) (rest : List ShardNow) (whole : List (List Record)) → AreStanding config m (r ∷ after) rest →
        whole ≡ logs ++ map disk_log rest
        → (k : ℕ) × (others : List ShardNow) × AreStanding config k after others × (whole ≡ (logs ++ log ∷ []) ++ map disk_log others)
    by_rest config m [] whole k e = absurd k
    by_rest config m (s ∷ rest) whole k e = (
      suc m,
      rest,
      k.1,
      e ∙ ap (λ l. logs ++ l ∷ map disk_log rest) (sym (read (setup_of config m) s k.0))
          ∙ sym (append_assoc logs (log ∷ []) (map disk_log rest)),
    )

-- the first that is left
pub stands_first : (all left after : List RunShard) (logs : List (List Record)) (r : RunShard) (P : Type 0) → left ≡ r ∷ after
    → ((setup : Setup) (s : ShardNow) → StandsFor setup r s → P) → AreTaken all logs left
    → (config : Config) (n : ℕ) (ss : List ShardNow) → AreStanding config n all ss → P
stands_first all left after logs r P is so h config n ss running = let p = h config n ss running in
    by_rest p.0 p.1 (subst (λ l. AreStanding config p.0 l p.1) is p.2)
  where
    by_rest : (m : ℕ) (rest : List ShardNow) → AreStanding config m (r ∷ after) rest → P
    by_rest m [] k = absurd k
    by_rest m (s ∷ rest) k = so (setup_of config m) s k.0

-- one is taken from the front
pub not_empty : (n : ℕ) (b : Bool) → b ≡ (n == 0) → b ≡ false → 0 < n
not_empty n b e none = grind (arith, nat_tests)

pub first_left : (left after : List RunShard) (r : RunShard) → 0 < length left → r ≡ get_or left 0 r → after ≡ drop 1 left → left ≡ r ∷ after
first_left [] after r there first rest = absurd (omega (arith, there))
first_left (x ∷ xs) after r there first rest = λ i. sym first i ∷ sym rest i

-- its log comes behind the others
pub logs_more : {A : Type 0} (logs more : List A) (log : A) (f : A → List Record) → more ≡ logs ++ log ∷ [] → map f logs ++ f log ∷ [] ≡ map f more
logs_more logs more log f put = sym (ap (map f) put ∙ map-append f logs (log ∷ []))

-- a refusal is passed on
pub passed : {A : Type 0} (r : Result A Fault) (fault : Fault) → r ≡ Err fault → fault ≡ Memory → IfErr r (λ f. f ≡ Memory)
passed {A = A} r fault is memory = subst (λ (x : Result A Fault). IfErr x (λ f. f ≡ Memory)) (sym is) memory
