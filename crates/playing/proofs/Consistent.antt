-- The logs that a run ends with are some that a crash may leave, the lines that count are some of its lines, and the areas of its disks
-- are judged as all its records are.
use Rattle.std.proofs.Common.{◌≡◌, inl, inr, ℕ, zero, suc, Bool, true, false, not, cond, IsFalse, IsTrue, List, [], ◌∷◌, ◌++◌, length, map, filter, slice_get}
use Rattle.std.proofs.Common.{nat_lt, option_map, Option, Some, None, refl, sym, ap, ◌∙◌, subst}
use Rattle.std.specs.List.{AllByRecursion}
use Rattle.std.proofs.lemmas.List.{append-nil}
use Rattle.std.proofs.lemmas.Option.{slice_get-map}
use Rattle.record.specs.Accepted.{Accepted, is_kept, taken}
use Rattle.record.specs.Facts.{facts_of}
use Rattle.record.specs.Records.{is_below, retired_of}
use Rattle.record.specs.Verdict.{are_renewed, retired_in, verdict}
use Rattle.record.specs.Lines.{IsLine}
use Rattle.record.specs.VerdictLaws.{IsBorneOut, SoundIsYes}
use Rattle.units.specs.Ids.{Id}
use Rattle.units.specs.Keys.{Bytes}
use Rattle.units.specs.Lists.{when}
use Rattle.units.specs.declared.line.Line.{Line}
use Rattle.units.specs.declared.line.Verdict.TheVariants.{Yes}
use Rattle.record.specs.declared.record.Record.{Record}
use Rattle.record.proofs.LearnAgrees.{accepted_follows}
use Rattle.record.specs.History.{Txn, find_txn, history}
use Rattle.ledger.specs.Keeps.{Keeps}
use Rattle.ledger.proofs.Alike.{alike-keeps}
use Rattle.world.proofs.Untouched.{run_settings}
use Rattle.world.specs.Lawful.{lawful}
use Rattle.world.specs.World.{World, ShardNow, Unsure, Shown, areas_of, counted_lines, line_counts, logs_of}
use Rattle.world.specs.World.{read_area, read_log, run, setup_of, shown_records}
use Rattle.world.specs.Headline.{IsExternallyConsistent, IsUnsure, MayLeaveLog, MayLeaveLogs}
use Rattle.law.proofs.HasAreas.{always_has_areas, area_decides}
use Rattle.law.proofs.Picked.{some_same}
use Rattle.law.proofs.WholeLaw.{externally_consistent}
use Rattle.playing.specs.Reported.{ReportsAreConsistent}
use Rattle.playing.proofs.Plain.{plain_logs}
use Rattle.playing.proofs.InAll.{found_in_all}
use Rattle.playing.proofs.KeptIds.{NotRetired, kept_in_each}
use Rattle.playing.proofs.SameStatus.{SayTheSame, found_same, in_at_same, same_entries, whole_same}
use Rattle.world.specs.declared.event.Config.{Config}
use Rattle.world.specs.declared.event.Event.{Event}

-- a read of the disk is one of the logs that a crash may leave
may_leave : (s : ShardNow) → MayLeaveLog s (read_log s)
may_leave s = by_unsure s.unsure refl
  where
    by_unsure : (u : Unsure) → s.unsure ≡ u → MayLeaveLog s (s.log ++ shown_records u)
    by_unsure (Shown r) is = inr (r, subst (λ u. IsUnsure u r) (sym is) refl, refl)
    by_unsure _ is = inl (append-nil s.log)

all_may_leave : (ss : List ShardNow) → MayLeaveLogs ss (map read_log ss)
all_may_leave [] = tt
all_may_leave (s ∷ ss) = (may_leave s, all_may_leave ss)

-- a line that is kept was there
was_there : (p : Line → Bool) (ls : List Line) (l : Line) → IsLine (filter p ls) l → IsLine ls l
was_there p [] l h = h
was_there p (x ∷ ls) l h = by_test (p x) (λ k. was_there p ls l k) h
  where
    behind : IsLine ls l → IsLine (x ∷ ls) l
    behind k = (suc k.0, k.1)

    by_place : (IsLine (filter p ls) l → IsLine ls l) → (i : ℕ) → slice_get (x ∷ filter p ls) i ≡ Some l → IsLine (x ∷ ls) l
    by_place rest zero e = (zero, e)
    by_place rest (suc i) e = behind (rest (i, e))

    by_test : (b : Bool) → (IsLine (filter p ls) l → IsLine ls l) → IsLine (cond b (x ∷ filter p ls) (filter p ls)) l → IsLine (x ∷ ls) l
    by_test true rest k = by_place rest k.0 k.1
    by_test false rest k = behind (rest k)

-- what holds of lines holds of some of them
fewer : (config : Config) (logs : List (List Record)) (lines some : List Line) → ((l : Line) → IsLine some l → IsLine lines l)
    → IsExternallyConsistent config logs lines → IsExternallyConsistent config logs some
fewer config logs lines some are h = record {
  recovered = h.recovered;
  acknowledged = λ t at m is. h.acknowledged t at m (are (Line.Ack t at m) is);
  all_or_nothing = h.all_or_nothing;
  looks = λ k at x is. h.looks k at x (are (Line.Look k at x) is);
  reads = λ t k x u is found. h.reads t k x u (are (Line.Read t k x) is) found;
  order = λ t u at m n x ack began before found. h.order t u at m n x (are (Line.Ack t at m) ack) (are (Line.Begin u n) began) before found;
}

-- a line that is kept passes
passes : (p : Line → Bool) (ls : List Line) (l : Line) → IsLine (filter p ls) l → p l ≡ true
passes p [] l h = absurd (nothing h.0 h.1)
  where
    nothing : (i : ℕ) → slice_get [] i ≡ Some l → ⊥
    nothing i e = cc
passes p (x ∷ ls) l h = by_test (p x) refl (λ k. passes p ls l k) h
  where
    by_place : p x ≡ true → (IsLine (filter p ls) l → p l ≡ true) → (i : ℕ) → slice_get (x ∷ filter p ls) i ≡ Some l → p l ≡ true
    by_place kept rest zero e = subst (λ y. p y ≡ true) (one e) kept
      where
        one : Some x ≡ Some l → x ≡ l
        one same = cc
    by_place kept rest (suc i) e = rest (i, e)

    by_test : (b : Bool) → p x ≡ b → (IsLine (filter p ls) l → p l ≡ true) → IsLine (cond b (x ∷ filter p ls) (filter p ls)) l → p l ≡ true
    by_test true kept rest k = by_place kept rest k.0 k.1
    by_test false dropped rest k = rest k

found : (o : Option Txn) → when (λ u. true) o ≡ true → (u : Txn) × (o ≡ Some u)
found None e = absurd (cc)
found (Some u) e = (u, refl)

-- each read that counts is of a transaction that is committed
reads_committed : (logs : List (List Record)) (ls : List Line) (t : Id) (k : Bytes) (x : Option Bytes)
    → IsLine (filter (line_counts (history logs)) ls) (Line.Read t k x) → (u : Txn) × (find_txn (history logs) t ≡ Some u)
reads_committed logs ls t k x is = found (find_txn (history logs) t) (passes (line_counts (history logs)) ls (Line.Read t k x) is)

-- the shard of a place in a list that is made of shards
shard_at : {A : Type 0} (f : ShardNow → A) (ss : List ShardNow) (n : ℕ) (x : A) → slice_get (map f ss) n ≡ Some x
    → (s : ShardNow) × (slice_get ss n ≡ Some s) × (x ≡ f s)
shard_at f [] n x e = absurd (cc)
shard_at f (s ∷ ss) zero x e = (s, refl, one (f s) x e)
  where
    one : {B : Type 0} (a b : B) → Some a ≡ Some b → b ≡ a
    one a b same = cc
shard_at f (s ∷ ss) (suc n) x e = shard_at f ss n x e

as_many : {A B : Type 0} (f : ShardNow → A) (g : ShardNow → B) (ss : List ShardNow) → length (map f ss) ≡ length (map g ss)
as_many f g [] = refl
as_many f g (s ∷ ss) = ap suc (as_many f g ss)

abbrev area_of : ShardNow → List Record
area_of s = (read_area s).records

-- the area of each shard keeps what its records say
each_keeps : (config : Config) (es : List Event) → IsTrue (lawful config es) → (n : ℕ) (all log : List Record)
    → slice_get (logs_of (run config es)) n ≡ Some all → slice_get (areas_of (run config es)) n ≡ Some log
    → (taken (setup_of config n) log ≡ Accepted) × Keeps (facts_of all) (facts_of log)
unfolding logs_of areas_of
each_keeps config es fair n all log of_all of_log =
    let w : World = run config es in
    let one = shard_at read_log w.shards n all of_all in
    let other = shard_at area_of w.shards n log of_log in
    let same : one.0 ≡ other.0 = some_same one.0 other.0 (sym one.1 ∙ other.1) in
    let areas = always_has_areas config es fair in
    let log_is : log ≡ area_of one.0 = other.2 ∙ ap area_of (sym same) in (
      subst (λ l. taken (setup_of config n) l ≡ Accepted) (sym log_is)
          (subst (λ (c : Config). taken (setup_of c n) (area_of one.0) ≡ Accepted) (run_settings config es) (areas.takes n one.0 one.1)),
      subst (λ l. Keeps (facts_of l) (facts_of log)) (sym one.2)
          (subst (λ l. Keeps (facts_of (read_log one.0)) (facts_of l)) (sym log_is)
          (alike-keeps (facts_of (read_log one.0)) (facts_of (area_of one.0)) (areas.alike n one.0 one.1))),
    )

-- ---- the areas are judged as all records are

each_shard : (P : ShardNow → Type 0) (ss : List ShardNow) → ((n : ℕ) (s : ShardNow) → slice_get ss n ≡ Some s → P s) → AllByRecursion P ss
each_shard P [] all = tt
each_shard P (s ∷ ss) all = (all 0 s refl, each_shard P ss (λ n x there. all (suc n) x there))

-- what holds of all that is made of shards holds of what is made of one
at_shard : (P : List Record → Type 0) (f : ShardNow → List Record) (ss : List ShardNow) (n : ℕ) (s : ShardNow) → AllByRecursion P (map f ss) →
    slice_get ss n ≡ Some s → P (f s)
at_shard P f [] n s all there = cc
at_shard P f (x ∷ ss) zero s all there = subst (λ z. P (f z)) (some_same x s there) all.0
at_shard P f (x ∷ ss) (suc n) s all there = at_shard P f ss n s all.1 there

not_below : (below : Option Id) (t : Id) → is_kept below t ≡ true → is_below below t ≡ false
not_below below t h = by_test (is_below below t) h
  where
    by_test : (b : Bool) → not b ≡ true → b ≡ false
    by_test true e = cc
    by_test false e = refl

module _ (config : Config) (es : List Event) (fair : IsTrue (lawful config es)) where
  abbrev shards : List ShardNow
  shards = (run config es).shards

  -- the law, of all records and all lines
  lawfully : IsExternallyConsistent config (logs_of (run config es)) (run config es).lines
  unfolding logs_of
  lawfully = externally_consistent config es (logs_of (run config es)) fair (inl (all_may_leave shards))

  -- no log retired the id
  abbrev IsKept : Id → Type 0
  IsKept t = IsTrue (is_kept (retired_in (map area_of shards)) t)

  all_say : (t : Id) → IsKept t → AllByRecursion (λ s. SayTheSame t (read_log s) (area_of s)) shards
  unfolding logs_of facts_of
  all_say t kept = each_shard _ shards (λ n s there.
      let alike = (always_has_areas config es fair).alike n s there in
      let here : is_below (retired_of (area_of s)) t ≡ false =
      at_shard (NotRetired t) area_of shards n s (kept_in_each None (map area_of shards) t (not_below (retired_in (map area_of shards)) t kept)).1 there in
      same_entries n n (read_log s) (area_of s)
      (accepted_follows (setup_of config n) (read_log s)
      (lawfully.recovered n (read_log s) (slice_get-map read_log shards n ∙ ap (option_map read_log) there)))
      (accepted_follows (setup_of (run config es).config n) (area_of s) ((always_has_areas config es fair).takes n s there))
      alike.entries t (ap (λ below. is_below below t) alike.retired ∙ here) here)

  -- an answered read counts by the areas as it does by all records
  counts_same : (t : Id) (k : Bytes) (x : Option Bytes) → IsTrue (is_kept (retired_in (areas_of (run config es))) t) →
      line_counts (history (areas_of (run config es))) (Line.Read t k x) ≡ line_counts (history (logs_of (run config es))) (Line.Read t k x)
  unfolding logs_of areas_of
  counts_same t k x kept = sym (found_same read_log area_of t shards (all_say t kept))

  -- what is borne out by all records is borne out by the areas
  borne_out : (lines : List Line) → IsExternallyConsistent config (logs_of (run config es)) lines → IsBorneOut (areas_of (run config es)) lines
  unfolding logs_of areas_of
  borne_out lines h = record {
    whole = λ t kept. sym (whole_same read_log area_of t shards (all_say t kept)) ∙ (h.all_or_nothing t).0;
    acknowledged = λ t at m is kept. sym (in_at_same read_log area_of t shards (all_say t kept) at) ∙ (h.acknowledged t at m is).0;
    looks = λ none. (plain none).looks;
    reads = λ none. (plain none).reads;
    order = λ t u at m n x ack began before found.
        let y = found_in_all read_log area_of shards (area_decides config es fair) (λ v. (h.all_or_nothing v).0) u x found in
        subst (λ s. IsTrue (nat_lt at s)) y.2 (h.order t u at m n y.0 ack began before y.1);
  }
    where
      plain : IsFalse (are_renewed (areas_of (run config es))) → IsExternallyConsistent config (areas_of (run config es)) lines
      plain none = subst (λ ls. IsExternallyConsistent config ls lines) (sym (plain_logs config es fair none)) h

pub consistent : SoundIsYes → ReportsAreConsistent
unfolding logs_of areas_of counted_lines
consistent sound_is_yes config es r h =
    let w : World = run config es in
    let logs : List (List Record) = logs_of w in
    let areas : List (List Record) = areas_of w in
    let lines : List Line = counted_lines areas w.lines in
    let ends = fewer config logs w.lines lines
    (λ l is. was_there (line_counts (history areas)) w.lines l is)
    (lawfully config es h.fair) in
    let is_yes : verdict areas lines ≡ Yes =
    sound_is_yes areas lines (borne_out config es h.fair lines ends) (λ whole t k x is. reads_committed areas w.lines t k x is) in
    record {
      on_disks = h.disks;
      consistent = subst (IsExternallyConsistent config logs) (sym h.lines) ends;
      lines = h.lines ∙ sym (ap (λ ls. counted_lines ls w.lines) h.logs);
      counted = λ t k x kept.
          ap (λ ls. line_counts (history ls) (Line.Read t k x)) h.logs
          ∙ counts_same config es h.fair t k x (subst (λ ls. IsTrue (is_kept (retired_in ls) t)) h.logs kept);
      count = ap length h.logs ∙ as_many area_of read_log w.shards;
      keeps = λ n all log of_all of_log. each_keeps config es h.fair n all log of_all (sym (ap (λ ls. slice_get ls n) h.logs) ∙ of_log);
      plain = λ none. h.logs ∙ plain_logs config es h.fair (sym (ap are_renewed h.logs) ∙ none);
      judged = subst (λ ls. verdict ls r.lines.items ≡ Yes) (sym h.logs) (subst (λ ls. verdict areas ls ≡ Yes) (sym h.lines) is_yes);
    }
