-- The nodes over some disks, one behind the other.
use Rattle.std.proofs.Common.{◌≡◌, ◌⊎◌, ⊎_elim, inl, inr, ℕ, suc, ◌+◌, ◌<◌, ◌≤◌, max, List, [], ◌∷◌, ◌++◌, length, map, Option, Some, Result, Ok, Err}
use Rattle.std.proofs.Common.{refl, sym, ap, subst, ◌∙◌, arith}
use Rattle.std.specs.Prelude.{IsOk, IfSome, IfNone}
use Rattle.std.specs.List.{AllZip}
use Rattle.std.proofs.lemmas.Bool.{false≢true}
use Rattle.units.specs.Keys.{Bytes}
use Rattle.units.specs.Lists.{gather, greatest}
use Rattle.units.proofs.Folds.{gather_append, greatest_append}
use Rattle.units.specs.declared.fault.Fault.{Fault}
use Rattle.units.specs.declared.fault.Fault.TheVariants.{BadRequest, Device, Memory}
use Rattle.units.specs.declared.fault.Reason.TheVariants.{Settings}
use Rattle.units.specs.declared.setup.Setup.{Setup}
use Rattle.disk.specs.declared.plan.FailurePlan.{FailurePlan}
use Rattle.disk.specs.File.{File, surface}
use Rattle.record.specs.Facts.{Facts, facts_of}
use Rattle.record.specs.Records.{as_opened, epoch_of, floor_of, stamp_in}
use Rattle.record.specs.declared.record.Record.{Record}
use Rattle.protocol.specs.Rows.{rebuilt}
use Rattle.shard.specs.Logs.{records_in}
use Rattle.shard.specs.Opened.{IsTaken, IsToldReason, next_opening}
use Rattle.node.specs.Openings.{IsMade}
use Rattle.node.specs.Together.{AreMade, AreSetups, IsCauseOf, IsFirstOf, IsOpenedOver, epoch_in, last_in}
use Rattle.node.specs.Setups.{IsSetupOf}
use Rattle.node.specs.Unopened.{HoldLogs, IsFirst, IsLastIn, IsRefusedFirst, IsRunOver, floor_in, next_in}
use Rattle.node.specs.declared.fleet.Made.{Made}
use Rattle.node.specs.declared.unopened.Unopened.{Unopened}
use Rattle.node.proofs.Lists.{all_passed, front_of}

-- ---- lists

pub map_on : {A B : Type 0} (f : A → B) (xs : List A) (x : A) → map f (xs ++ x ∷ []) ≡ map f xs ++ f x ∷ []
map_on f [] x = refl
map_on f (y ∷ ys) x = ap (λ l. f y ∷ l) (map_on f ys x)

pub setups_on : {D : Type 0} (splits : List Bytes) (stride n : ℕ) (told : List (D × Setup)) (one : D × Setup) → AreSetups splits stride n told
    → IsSetupOf splits stride (n + length told) one.1 → AreSetups splits stride n (told ++ one ∷ [])
setups_on splits stride n [] one are is = (subst (λ (k : ℕ). IsSetupOf splits stride k one.1) (omega arith) is, tt)
setups_on splits stride n (t ∷ ts) one are is =
    (are.0, setups_on splits stride (suc n) ts one are.1 (subst (λ (k : ℕ). IsSetupOf splits stride k one.1) (omega arith) is))

max_zero : (n : ℕ) → max n 0 ≡ n
max_zero n = grind arith

greatest_on : {A : Type 0} (f : A → ℕ) (xs : List A) (x : A) → greatest (map f (xs ++ x ∷ [])) ≡ max (greatest (map f xs)) (f x)
greatest_on f xs x =
    ap greatest (map_on f xs x) ∙ greatest_append (map f xs) (f x ∷ []) ∙ ap (λ n. max (greatest (map f xs)) n) (max_zero (f x))

max_again : (a b c : ℕ) → max (max a b) c ≡ max a (max b c)
max_again a b c = grind arith

pub told_on : {D : Type 0} (told more : List (D × Setup)) (one : D × Setup) (rest left disks : List D) → more ≡ told ++ one ∷ [] → rest ≡ one.0 ∷ left
    → map (λ (t : D × Setup). t.0) told ++ rest ≡ disks → map (λ (t : D × Setup). t.0) more ++ left ≡ disks
told_on {D = D} told more one rest left disks is next was =
    ap (λ (l : List (D × Setup)). map (λ (t : D × Setup). t.0) l ++ left) is ∙ ap (λ (l : List D). l ++ left) (map_on (λ (t : D × Setup). t.0) told one)
    ∙ sym (front_of (map (λ (t : D × Setup). t.0) told) left one.0 (map (λ (t : D × Setup). t.0) told ++ one.0 ∷ left) refl)
    ∙ ap (λ (l : List D). map (λ (t : D × Setup). t.0) told ++ l) (sym next) ∙ was

-- ---- nodes, one behind the other

module _ {N : Type 0} where
  made_on : (all : List (Result (Made N) Fault)) (one : Result (Made N) Fault) → AreMade all → IsOk one → AreMade (all ++ one ∷ [])
  made_on [] one are is = (is, tt)
  made_on (m ∷ ms) one are is = (are.0, made_on ms one are.1 is)

  pub none_opened : (n e l : ℕ) → n ≡ 0 → e ≡ 1 → l ≡ 0 → IsOpenedOver {N = N} [] n e l
  none_opened n e l nodes epoch last = record { made = tt; nodes = nodes; epoch = epoch; last = last }

  -- one node more
  pub one_opened : (done : List (Result (Made N) Fault)) (one : Result (Made N) Fault) (n m e f l k : ℕ) → IsOpenedOver done n e l
      → m ≡ n + 1 → IsOk one → f ≡ max e (epoch_in one) → k ≡ max l (last_in one) → IsOpenedOver (done ++ one ∷ []) m f k
  one_opened done one n m e f l k is more opened epoch last = record {
    made = made_on done one is.made opened;
    nodes = more ∙ ap (λ (x : ℕ). x + 1) is.nodes ∙ sym (longer done);
    epoch = epoch ∙ ap (λ (x : ℕ). max x (epoch_in one)) is.epoch ∙ max_again 1 (greatest (map epoch_in done)) (epoch_in one)
        ∙ ap (λ (x : ℕ). max 1 x) (sym (greatest_on epoch_in done one));
    last = last ∙ ap (λ (x : ℕ). max x (last_in one)) is.last ∙ sym (greatest_on last_in done one);
  }
    where
      longer : (xs : List (Result (Made N) Fault)) → length (xs ++ one ∷ []) ≡ length xs + 1
      longer [] = refl
      longer (x ∷ xs) = let e = longer xs in omega (arith, e)

  -- all of them
  pub all_passed_over : (all done rest : List (Result (Made N) Fault)) (n e l : ℕ) → done ++ rest ≡ all → length rest ≡ 0 → IsOpenedOver done n e l
      → IsOpenedOver all n e l
  all_passed_over all done rest n e l whole none is =
      subst (λ (them : List (Result (Made N) Fault)). IsOpenedOver them n e l) (all_passed done rest all whole none) is

-- ---- what a log tells

pub next_epoch : (records : List Record) → epoch_of (records ++ next_opening records ∷ []) ≡ epoch_of records + 1
next_epoch records =
    ap greatest (gather_append as_opened records (next_opening records ∷ []))
    ∙ greatest_append (gather as_opened records) ((epoch_of records + 1) ∷ [])
    ∙ above (epoch_of records)
  where
    above : (n : ℕ) → max n (max (n + 1) 0) ≡ n + 1
    above n = grind arith

pub same_floor : (records : List Record) → floor_of (records ++ next_opening records ∷ []) ≡ floor_of records
same_floor records =
    ap greatest (gather_append stamp_in records (next_opening records ∷ [])) ∙ greatest_append (gather stamp_in records) [] ∙ max_zero (floor_of records)

epoch_is : (log : List Record) → (facts_of log).epoch ≡ epoch_of log
unfolding facts_of
epoch_is log = refl

floor_is : (log : List Record) → (facts_of log).floor ≡ floor_of log
unfolding facts_of
floor_is log = refl

taken_epoch : (setup : Setup) (r : Result (List Record) Fault) (facts : Facts) → IsTaken setup r facts → facts.epoch ≡ next_in r
taken_epoch setup (Ok records) facts is = ap (λ (f : Facts). f.epoch) is.1 ∙ epoch_is _ ∙ next_epoch records
taken_epoch setup (Err fault) facts is = absurd is

taken_floor : (setup : Setup) (r : Result (List Record) Fault) (facts : Facts) → IsTaken setup r facts → facts.floor ≡ floor_in r
taken_floor setup (Ok records) facts is = ap (λ (f : Facts). f.floor) is.1 ∙ floor_is _ ∙ same_floor records
taken_floor setup (Err fault) facts is = absurd is

taken_log : (setup : Setup) (r : Result (List Record) Fault) (facts : Facts) → IsTaken setup r facts → IsOk r
taken_log setup (Ok records) facts is = refl
taken_log setup (Err fault) facts is = absurd is

least_next : (r : Result (List Record) Fault) → IsOk r → 1 ≤ next_in r
least_next (Ok records) is = omega arith
least_next (Err fault) is = absurd (false≢true is)

-- ---- from openings to the logs of the disks

firsts : {D : Type 0} (xs : List (D × Setup)) (t : D × Setup) (ys : List (D × Setup))
    → map (λ (one : D × Setup). one.0) (xs ++ t ∷ ys) ≡ map (λ (one : D × Setup). one.0) xs ++ t.0 ∷ map (λ (one : D × Setup). one.0) ys
firsts [] t ys = refl
firsts {D = D} (x ∷ xs) t ys = ap (λ (l : List D). x.0 ∷ l) (firsts xs t ys)

pub as_many : {D : Type 0} (xs : List (D × Setup)) → length (map (λ (one : D × Setup). one.0) xs) ≡ length xs
as_many [] = refl
as_many (x ∷ xs) = ap suc (as_many xs)

-- why there is no node over the opening of a disk, by what the disk holds
Cause : {D : Type 0} (keeps : Type 0) (file : D → File) → List Bytes → ℕ → ℕ → D → Fault → Type 0
Cause keeps file splits stride number disk fault =
    (fault ≡ Memory) ⊎ ((fault ≡ Device) ⊎ ((setup : Setup) × IsSetupOf splits stride number setup × IsToldReason keeps setup (surface (file disk)) fault))

-- the first that is refused, among what shards are told from a number on
record Found {D : Type 0} (keeps : Type 0) (file : D → File) (splits : List Bytes) (stride n k : ℕ) (told : List (D × Setup)) (fault : Fault) : Type 0 where
  before : List (D × Setup)
  one : D × Setup
  behind : List (D × Setup)
  whole : told ≡ before ++ one ∷ behind
  place : length before ≡ k
  opened : HoldLogs keeps file (map (λ (t : D × Setup). t.0) before)
  cause : Cause keeps file splits stride (n + k) one.0 fault

refused_first : {D : Type 0} (keeps : Type 0) (file : D → File) (splits : List Bytes) (stride : ℕ) (told : List (D × Setup)) (disks : List D) (k : ℕ)
    (fault : Fault)
    → map (λ (one : D × Setup). one.0) told ≡ disks → Found keeps file splits stride 0 k told fault → IsRefusedFirst keeps file splits stride disks k fault
unfolding Cause
refused_first {D = D} keeps file splits stride told disks k fault same is = record {
  before = map (λ (one : D × Setup). one.0) is.before;
  disk = is.one.0;
  behind = map (λ (one : D × Setup). one.0) is.behind;
  whole = sym same ∙ ap (map (λ (one : D × Setup). one.0)) is.whole ∙ firsts is.before is.one is.behind;
  place = as_many is.before ∙ is.place;
  opened = is.opened;
  cause = subst (λ (m : ℕ). (fault ≡ Memory) ⊎ ((fault ≡ Device) ⊎ ((setup : Setup) × IsSetupOf splits stride m setup
      × IsToldReason keeps setup (surface (file is.one.0)) fault))) (omega arith) is.cause;
}

module _ {D N : Type 0} (keeps obeys : Type 0) (file : D → File) (clock : D → ℕ) (since : D → ℕ → List ℕ → Type 0) (failures : D → ℕ)
    (plan : D → FailurePlan) (n : ℕ) where
  epochs : (told : List (D × Setup)) (all : List (Result (Made N) Fault))
      → AllZip (IsMade keeps obeys file clock since failures plan n) told all → AreMade all → keeps
      → map epoch_in all ≡ map (λ disk. next_in (records_in (surface (file disk)).seen)) (map (λ one. one.0) told)
  epochs [] [] each made k = refl
  epochs [] (one ∷ all) each made k = absurd each
  epochs (t ∷ ts) [] each made k = absurd each
  epochs (t ∷ ts) (Err fault ∷ all) each made k = absurd (false≢true made.0)
  epochs (t ∷ ts) (Ok one ∷ all) each made k =
      let is = each.0 in
      let here : one.epoch ≡ next_in (records_in (surface (file t.0)).seen) =
      is.epoch_is ∙ taken_epoch t.1 _ is.core.facts (is.opened.taken k) in
      let rest = epochs ts all each.1 made.1 k in
      λ i. here i ∷ rest i

  lasts : (told : List (D × Setup)) (all : List (Result (Made N) Fault))
      → AllZip (IsMade keeps obeys file clock since failures plan n) told all → AreMade all → keeps
      → map last_in all ≡ map (λ disk. floor_in (records_in (surface (file disk)).seen)) (map (λ one. one.0) told)
  unfolding rebuilt
  lasts [] [] each made k = refl
  lasts [] (one ∷ all) each made k = absurd each
  lasts (t ∷ ts) [] each made k = absurd each
  lasts (t ∷ ts) (Err fault ∷ all) each made k = absurd (false≢true made.0)
  lasts (t ∷ ts) (Ok one ∷ all) each made k =
      let is = each.0 in
      let here : one.last ≡ floor_in (records_in (surface (file t.0)).seen) =
      is.last_is ∙ ap (λ m. m.last) is.opened.memory ∙ taken_floor t.1 _ is.core.facts (is.opened.taken k) in
      let rest = lasts ts all each.1 made.1 k in
      λ i. here i ∷ rest i

  -- where there is a disk, the greatest of the next epochs is at least 1
  some_next : (told : List (D × Setup)) (all : List (Result (Made N) Fault))
      → AllZip (IsMade keeps obeys file clock since failures plan n) told all → AreMade all → keeps → 0 < length told
      → max 1 (greatest (map (λ disk. next_in (records_in (surface (file disk)).seen)) (map (λ one. one.0) told)))
      ≡ greatest (map (λ disk. next_in (records_in (surface (file disk)).seen)) (map (λ one. one.0) told))
  some_next [] all each made k some = absurd (omega (arith, some))
  some_next (t ∷ ts) [] each made k some = absurd each
  some_next (t ∷ ts) (Err fault ∷ all) each made k some = absurd (false≢true made.0)
  some_next (t ∷ ts) (Ok one ∷ all) each made k some =
      above (next_in (records_in (surface (file t.0)).seen)) (greatest (map (λ disk. next_in (records_in (surface (file disk)).seen)) (map (λ one. one.0) ts)))
      (least_next _ (taken_log t.1 _ each.0.core.facts (each.0.opened.taken k)))
    where
      above : (a b : ℕ) → 1 ≤ a → max 1 (max a b) ≡ max a b
      above a b least = grind (arith, least)

  pub run_over : (told : List (D × Setup)) (disks : List D) (all : List (Result (Made N) Fault)) (count epoch last : ℕ)
      → AllZip (IsMade keeps obeys file clock since failures plan n) told all → map (λ one. one.0) told ≡ disks → 0 < length told
      → IsOpenedOver all count epoch last → IsRunOver keeps file disks epoch
  run_over told disks all count epoch last each same some is = λ k.
      is.epoch ∙ ap (λ ns. max 1 (greatest ns)) (epochs told all each is.made k) ∙ some_next told all each is.made k some
      ∙ ap (λ (ds : List D). greatest (map (λ disk. next_in (records_in (surface (file disk)).seen)) ds)) same

  pub last_over : (told : List (D × Setup)) (disks : List D) (all : List (Result (Made N) Fault)) (count epoch last : ℕ)
      → AllZip (IsMade keeps obeys file clock since failures plan n) told all → map (λ one. one.0) told ≡ disks
      → IsOpenedOver all count epoch last → IsLastIn keeps file disks last
  last_over told disks all count epoch last each same is = λ k.
      is.last ∙ ap greatest (lasts told all each is.made k)
      ∙ ap (λ (ds : List D). greatest (map (λ disk. floor_in (records_in (surface (file disk)).seen)) ds)) same

  cause_of : (splits : List Bytes) (stride number : ℕ) (t : D × Setup) (one : Result (Made N) Fault) (fault : Fault) → 0 < n → n ≤ 64
      → IsMade keeps obeys file clock since failures plan n t one → IsSetupOf splits stride number t.1 → IsCauseOf one fault
      → Cause keeps file splits stride number t.0 fault
  unfolding Cause
  cause_of splits stride number t (Ok one) fault some few is setup cause = inl cause
  cause_of splits stride number t (Err why) fault some few is setup cause =
      subst (λ (f : Fault). (f ≡ Memory) ⊎ ((f ≡ Device) ⊎ ((told : Setup) × IsSetupOf splits stride number told
      × IsToldReason keeps told (surface (file t.0)) f))) (sym cause)
      (⊎_elim (λ memory. inl memory)
      (λ refused. ⊎_elim (λ memory. inl memory) (λ else. ⊎_elim (λ failed. inr (inl failed.0)) (λ reason. inr (inr (t.1, setup, reason))) else)
      refused.1.cause) (is some few))

  found : (splits : List Bytes) (stride m : ℕ) (told : List (D × Setup)) (before : List (Result (Made N) Fault))
      (one : Result (Made N) Fault) (behind : List (Result (Made N) Fault)) (fault : Fault) → 0 < n → n ≤ 64
      → AllZip (IsMade keeps obeys file clock since failures plan n) told (before ++ one ∷ behind) → AreSetups splits stride m told
      → AreMade before → IsCauseOf one fault → Found keeps file splits stride m (length before) told fault
  found splits stride m [] [] one behind fault some few each setups made cause = absurd each
  found splits stride m (t ∷ ts) [] one behind fault some few each setups made cause = record {
    before = [];
    one = t;
    behind = ts;
    whole = refl;
    place = refl;
    opened = tt;
    cause = subst (λ (k : ℕ). Cause keeps file splits stride k t.0 fault) (omega arith) (cause_of splits stride m t one fault some few each.0 setups.0 cause);
  }
  found splits stride m [] (b ∷ bs) one behind fault some few each setups made cause = absurd each
  found splits stride m (t ∷ ts) (Err refused ∷ bs) one behind fault some few each setups made cause = absurd (false≢true made.0)
  found splits stride m (t ∷ ts) (Ok own ∷ bs) one behind fault some few each setups made cause =
      let rest = found splits stride (suc m) ts bs one behind fault some few each.1 setups.1 made.1 cause in
      record {
        before = t ∷ rest.before;
        one = rest.one;
        behind = rest.behind;
        whole = ap (λ (l : List (D × Setup)). t ∷ l) rest.whole;
        place = ap suc rest.place;
        opened = (λ k. taken_log t.1 _ each.0.core.facts (each.0.opened.taken k), rest.opened);
        cause = subst (λ (k : ℕ). Cause keeps file splits stride k rest.one.0 fault) (omega arith) rest.cause;
      }

  pub first_over : (splits : List Bytes) (stride : ℕ) (told : List (D × Setup)) (disks : List D) (all : List (Result (Made N) Fault)) (u : Unopened)
      → 0 < n → n ≤ 64
      → AllZip (IsMade keeps obeys file clock since failures plan n) told all → map (λ (one : D × Setup). one.0) told ≡ disks
      → AreSetups splits stride 0 told → IsFirstOf all u → IsFirst keeps file splits stride disks u
  first_over splits stride told disks all u some few each same setups is = by_shard u.shard is.place
    where
      at : IsRefusedFirst keeps file splits stride disks (length is.before) u.fault
      at =
          refused_first keeps file splits stride told disks (length is.before) u.fault same
          (found splits stride 0 told is.before is.one is.behind u.fault some few
          (subst (AllZip (IsMade keeps obeys file clock since failures plan n) told) is.whole each) setups is.made is.cause)

      by_shard : (o : Option ℕ) → o ≡ Some (length is.before)
          → IfSome o (λ number. IsRefusedFirst keeps file splits stride disks number u.fault) × IfNone o ((u.fault ≡ BadRequest Settings) ⊎ (u.fault ≡ Memory))
      by_shard o its = subst (λ (p : Option ℕ). IfSome p (λ number. IsRefusedFirst keeps file splits stride disks number u.fault)
          × IfNone p ((u.fault ≡ BadRequest Settings) ⊎ (u.fault ≡ Memory))) (sym its) (at, tt)
