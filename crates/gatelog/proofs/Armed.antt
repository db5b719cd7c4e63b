-- An append on a disk that fails by a plan.
use Rattle.std.proofs.Common.{◌≡◌, ◌⊎◌, inl, inr, ◌+◌, ◌-◌, ◌≤◌, ◌||◌, ℕ, zero, suc, eqb, Bool, true, false, if◌then◌else◌, List, [], ◌∷◌, length}
use Rattle.std.proofs.Common.{get_or, refl, sym, subst, ap, ◌∙◌, arith}
use Rattle.std.specs.Prelude.{IsTrue, nat_le, nat_lt}
use Rattle.std.proofs.lemmas.Bool.{cases_eq, eq-eqb, ne_eqb, false≢true, le-leb, lt-leb, le-ltb}
use Rattle.record.specs.declared.record.Record.{Record}
use Rattle.spelling.specs.Limits.{IsRecord}
use Rattle.disk.specs.declared.plan.FailurePlan.{FailurePlan}
use Rattle.disk.specs.declared.plan.FailurePlan.TheVariants.{Never, After, AfterWrite}
use Rattle.disk.specs.declared.plan.Fate.{Fate}
use Rattle.disk.specs.declared.plan.Fate.TheVariants.{Old, New, Filled}
use Rattle.disk.specs.Image.{MayLeave, IsSynced, with_bytes, tried_write}
use Rattle.disk.specs.File.{File, FileChange, wrote, tried, with_change, synced, surface, by_fate, crash_leaves, laid, seen_by, none_of}
use Rattle.disk.specs.Planned.{fails, next}
use Rattle.disk.proofs.Crashes.{crashed_may, laid_is}
use Rattle.disk.proofs.Runs.{after_write_within}
use Rattle.frames.specs.Placed.{Placed}
use Rattle.gatelog.specs.Frames.{staged_bytes}
use Rattle.frames.specs.Gate.{open_gate}
use Rattle.gatelog.specs.Gates.{is_read, opens_gate}
use Rattle.gatelog.specs.Log.{log, scan, ends_at, and_entry}
use Rattle.frames.specs.Calls.{fails_in_two, after_two, two_made, fails_in_append, appended}
use Rattle.gatelog.specs.Armed.{with_if, IsArmed}
use Rattle.gatelog.proofs.Goes.{gate_within}
use Rattle.gatelog.proofs.Images.{ends_found, staged_long, log-staged, log-shut, log-opened, log-staging}

-- no call of the append fails where the count is greater
late_calls : (call : ℕ) → 4 ≤ call → (fails_in_two (AfterWrite call) ≡ false) × (after_two (AfterWrite call) ≡ After (call - 1 - 1))
    × (fails_in_two (after_two (AfterWrite call)) ≡ false)
late_calls call le =
    let a : eqb call 0 ≡ false = ne_eqb call 0 (λ e. absurd (omega (arith, le, e))) in
    let b : eqb (call - 1) 0 ≡ false = ne_eqb (call - 1) 0 (λ e. absurd (omega (arith, le, e))) in
    let d : eqb (call - 1 - 1) 0 ≡ false = ne_eqb (call - 1 - 1) 0 (λ e. absurd (omega (arith, le, e))) in
    let f : eqb (call - 1 - 1 - 1) 0 ≡ false = ne_eqb (call - 1 - 1 - 1) 0 (λ e. absurd (omega (arith, le, e))) in
    let first : fails_in_two (AfterWrite call) ≡ false = rw (a, b) refl in
    let plan : after_two (AfterWrite call) ≡ After (call - 1 - 1) = rw (a, b) refl in
    let second : fails_in_two (After (call - 1 - 1)) ≡ false = rw (d, f) refl in
    (first, plan, ap fails_in_two plan ∙ second)

two_whole : (count at : ℕ) (bytes : List ℕ) (file : File) → 2 ≤ count → two_made (After count) at bytes file ≡ synced (with_change (wrote at bytes) file)
two_whole count at bytes file le =
    let a : eqb count 0 ≡ false = ne_eqb count 0 (λ e. absurd (omega (arith, le, e))) in
    let b : eqb (count - 1) 0 ≡ false = ne_eqb (count - 1) 0 (λ e. absurd (omega (arith, le, e))) in
    let d : fails (next (After count)) ≡ false = ap (λ (t : Bool). fails (if t then Never else After (count - 1))) a ∙ b in
    neither (eqb count 0) (fails (next (After count))) a d
  where
    neither : (one two : Bool) → one ≡ false → two ≡ false
        → (if one then with_change (tried at bytes) file else (if two then with_change (wrote at bytes) file else synced
        (with_change (wrote at bytes) file))) ≡ synced (with_change (wrote at bytes) file)
    neither true two first second = absurd (false≢true (sym first))
    neither false true first second = absurd (false≢true (sym second))
    neither false false first second = refl

late_file : (call gate : ℕ) (bytes : List ℕ) (file : File) → 4 ≤ call → appended (AfterWrite call) gate bytes file ≡
    synced (with_change (wrote gate (open_gate ∷ [])) (synced (with_change (wrote (gate + 1) bytes) file)))
late_file call gate bytes file le =
    let late = late_calls call le in
    let half = two_made (AfterWrite call) (gate + 1) bytes file in
    ap (λ (b : Bool). if b then half else two_made (after_two (AfterWrite call)) gate (open_gate ∷ []) half) late.0
    ∙ ap (λ (p : FailurePlan). two_made p gate (open_gate ∷ []) half) late.1
    ∙ two_whole (call - 1 - 1) gate (open_gate ∷ []) half (omega (arith, le))
    ∙ ap (λ (f : File). synced (with_change (wrote gate (open_gate ∷ [])) f)) (two_whole call (gate + 1) bytes file (omega (arith, le)))

-- which calls of an append are its own
pub fails_by_call : (call : ℕ) → fails_in_append (AfterWrite call) ≡ nat_lt call 4
fails_by_call zero = refl
fails_by_call (suc zero) = refl
fails_by_call (suc (suc zero)) = refl
fails_by_call (suc (suc (suc zero))) = refl
fails_by_call (suc (suc (suc (suc more)))) =
    let late = late_calls (suc (suc (suc (suc more)))) (omega arith) in
    ap (λ (b : Bool). b || fails_in_two (after_two (AfterWrite (suc (suc (suc (suc more))))))) late.0 ∙ late.2
    ∙ sym (not_less (suc (suc (suc (suc more)))) (omega arith))
  where
    not_less : (call : ℕ) → 4 ≤ call → nat_lt call 4 ≡ false
    not_less call le = le-ltb call 4 le

module _ (durable : List ℕ) (gate : ℕ) (item : Record) (whole : IsTrue (ends_at durable gate)) (fits : IsRecord item) where
  abbrev start : File
  start = record { durable = durable; changes = [] }

  is_synced : IsSynced (surface start)
  is_synced = record { whole = refl; none = refl; synced = refl }

  abbrev entry : Placed
  entry = record { offset = gate; item = item }

  abbrev bytes : List ℕ
  bytes = staged_bytes item

  abbrev behind : List ℕ
  behind = laid (gate + 1) bytes durable

  inside : gate + 1 ≤ length durable
  inside =
      let found = ends_found (scan durable) gate whole in
      omega (arith, (gate_within durable found.0 gate found.1).1)

  behind-is : behind ≡ with_bytes (gate + 1) bytes durable
  behind-is = laid_is (gate + 1) bytes durable inside

  long : gate ≤ length behind
  long = omega (arith, ap length behind-is, staged_long (surface start) gate item is_synced whole fits)

  log-behind : log behind ≡ log durable
  log-behind = ap log behind-is ∙ log-staged (surface start) gate item is_synced whole fits

  log-laid : (byte : ℕ) → log (laid gate (byte ∷ []) behind) ≡ log (with_bytes gate (byte ∷ []) (with_bytes (gate + 1) bytes durable))
  log-laid byte = ap log (laid_is gate (byte ∷ []) behind long ∙ ap (λ (l : List ℕ). with_bytes gate (byte ∷ []) l) behind-is)

  log-open : log (laid gate (open_gate ∷ []) behind) ≡ and_entry (log durable) entry
  log-open = log-laid open_gate ∙ log-opened (surface start) gate item is_synced whole fits

  log-filled : (byte : ℕ) → log (laid gate (byte ∷ []) behind) ≡ with_if (eqb byte open_gate) (log durable) entry
  log-filled byte = elim (cases_eq byte open_gate) [
    | inl same ↦ ap (λ (n : ℕ). log (laid gate (n ∷ []) behind)) same ∙ log-open ∙ ap (λ (b : Bool). with_if b (log durable) entry)
        (sym (eq-eqb byte open_gate same))
    | inr other ↦ log-laid byte ∙ log-shut (surface start) gate item is_synced whole fits byte other
        ∙ ap (λ (b : Bool). with_if b (log durable) entry) (sym (ne_eqb byte open_gate other))
  ]

  by_gate : (fate : Fate) (change : FileChange) → ((change ≡ wrote gate (open_gate ∷ [])) ⊎ (change ≡ tried gate (open_gate ∷ []))) →
      log (by_fate fate change behind) ≡ with_if (opens_gate fate) (log durable) entry
  by_gate Old change is = log-behind
  by_gate New change (inl is) = ap (λ (c : FileChange). log (by_fate New c behind)) is ∙ log-open
  by_gate New change (inr is) = ap (λ (c : FileChange). log (by_fate New c behind)) is ∙ log-open
  by_gate (Filled byte) change (inl is) = ap (λ (c : FileChange). log (by_fate (Filled byte) c behind)) is ∙ log-filled byte
  by_gate (Filled byte) change (inr is) = ap (λ (c : FileChange). log (by_fate (Filled byte) c behind)) is ∙ log-filled byte

  wrote_within : (image : List ℕ) → MayLeave (surface (with_change (wrote (gate + 1) bytes) start)) image →
      MayLeave (tried_write (gate + 1) (length bytes) (surface start)) image
  wrote_within image may =
      after_write_within (gate + 1) bytes (surface start) inside image
      (subst (λ (l : List ℕ). MayLeave (record { seen = l; kept = length durable; written = (gate + 1, length bytes) ∷ []; synced = false }) image)
      behind-is may)

  -- what each call leaves where it fails
  abbrev Left : ℕ → File → Type 0
  Left call file = IsArmed call (log durable) entry file

  call_0 : Left 0 (with_change (tried (gate + 1) bytes) start)
  call_0 = record {
    read = refl;
    left = λ fates. log-staging (surface start) gate item is_synced whole fits (crash_leaves fates (with_change (tried (gate + 1) bytes) start))
        (crashed_may fates (with_change (tried (gate + 1) bytes) start));
  }

  call_1 : Left 1 (with_change (wrote (gate + 1) bytes) start)
  call_1 = record {
    read = log-behind;
    left = λ fates. log-staging (surface start) gate item is_synced whole fits (crash_leaves fates (with_change (wrote (gate + 1) bytes) start))
        (wrote_within (crash_leaves fates (with_change (wrote (gate + 1) bytes) start)) (crashed_may fates (with_change (wrote (gate + 1) bytes) start)));
  }

  call_2 : Left 2 (with_change (tried gate (open_gate ∷ [])) (synced (with_change (wrote (gate + 1) bytes) start)))
  call_2 = record { read = log-behind; left = λ fates. by_gate (get_or fates 0 Old) (tried gate (open_gate ∷ [])) (inr refl) }

  call_3 : Left 3 (with_change (wrote gate (open_gate ∷ [])) (synced (with_change (wrote (gate + 1) bytes) start)))
  call_3 = record { read = log-open; left = λ fates. by_gate (get_or fates 0 Old) (wrote gate (open_gate ∷ [])) (inl refl) }

  none_fails : (call : ℕ) → 4 ≤ call → Left call (synced (with_change (wrote gate (open_gate ∷ [])) (synced (with_change (wrote (gate + 1) bytes) start))))
  none_fails call le =
      let read : is_read call ≡ true = le-leb 3 call (omega (arith, le)) in
      let one : nat_le call 1 ≡ false = lt-leb call 1 (omega (arith, le)) in
      let three : nat_le call 3 ≡ false = lt-leb call 3 (omega (arith, le)) in
      record {
        read = log-open ∙ ap (λ (b : Bool). with_if b (log durable) entry) (sym read);
        left = λ fates. log-open ∙ sym (rw (one, three) refl);
      }

  armed_from_start : (call : ℕ) → Left call (appended (AfterWrite call) gate bytes start)
  armed_from_start zero = call_0
  armed_from_start (suc zero) = call_1
  armed_from_start (suc (suc zero)) = call_2
  armed_from_start (suc (suc (suc zero))) = call_3
  armed_from_start (suc (suc (suc (suc more)))) =
      let call = suc (suc (suc (suc more))) in
      subst (λ (f : File). Left call f) (sym (late_file call gate bytes start (omega arith))) (none_fails call (omega arith))

-- what an append leaves whose call of this number fails
pub armed_is : (file : File) (gate : ℕ) (item : Record) (synced : IsSynced (surface file)) (whole : IsTrue (ends_at (surface file).seen gate))
    (fits : IsRecord item) (call : ℕ)
    → IsArmed call (log (surface file).seen) (record { offset = gate; item = item }) (appended (AfterWrite call) gate (staged_bytes item) file)
armed_is file gate item synced whole fits call = from_changes file.changes synced.synced whole
  where
    from_changes : (changes : List FileChange) → none_of changes ≡ true → IsTrue (ends_at (seen_by file.durable changes) gate)
        → IsArmed call (log (seen_by file.durable changes)) (record { offset = gate; item = item })
        (appended (AfterWrite call) gate (staged_bytes item) (record { durable = file.durable; changes = changes }))
    from_changes [] none whole = armed_from_start file.durable gate item whole fits call
    from_changes (change ∷ changes) none whole = absurd (false≢true none)
