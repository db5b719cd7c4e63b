-- The bytes of a copy, frame by frame; and what a copy is.
use Rattle.std.proofs.Common.{◌≡◌, ◌≢◌, inl, inr, ℕ, suc, ◌+◌, ◌<◌, ◌≤◌, ◌^◌, true, List, [], ◌∷◌, ◌++◌, length, map, take, drop, replicate}
use Rattle.std.proofs.Common.{slice_index_or, Ok, Err, refl, sym, ap, subst, ◌∙◌, append_assoc, arith}
use Rattle.std.specs.Prelude.{flat_map, bytes_eq, IsTrue}
use Rattle.std.specs.List.{AllByRecursion}
use Rattle.std.proofs.Math.Seq.{drop-cons}
use Rattle.std.proofs.lemmas.Bool.{cases_Bool, eq-eqb}
use Rattle.std.proofs.lemmas.List.{replicate-append-replicate, nil_from_length, length-drop}
use Rattle.std.proofs.lemmas.Slice.Eq.{bytes_eq-Decides}
use Rattle.units.specs.declared.fault.Fault.TheVariants.{NotALog}
use Rattle.record.specs.declared.record.Record.{Record}
use Rattle.spelling.specs.Limits.{IsRecord}
use Rattle.disk.specs.File.{File, surface}
use Rattle.disk.specs.Image.{IsSynced}
use Rattle.disk.proofs.Runs.{weaker}
use Rattle.gatelog.specs.First.{first_header, first_scan, first_log, moved, moved_by, AreSpelled, HasCopied}
use Rattle.gatelog.specs.Frames.{header, end_from, end_of}
use Rattle.gatelog.specs.Areas.{placed_from, whole_frame, area_bytes, without_header, fresh_with}
use Rattle.gatelog.specs.Gates.{first_gate}
use Rattle.gatelog.specs.Laid.{HoldsBehind, HasNoneOr, WasLaid}
use Rattle.frames.specs.Entries.{entries_at}
use Rattle.gatelog.specs.Log.{log, entries_of, ends_at, ends_with}
use Rattle.frames.specs.Placed.{Placed}
use Rattle.gatelog.specs.Slots.{begins_in}
use Rattle.gatelog.specs.Turns.{IsNextOrNone}
use Rattle.gatelog.proofs.Next.{fresh-next, fresh-begins}
use Rattle.gatelog.proofs.Fresh.{scan-fresh, none-or-log, placed-end, placed-moved, area-size, bare-size, bare-behind}

abbrev pub items : List Placed → List Record
items es = map (λ (e : Placed). e.item) es

-- ---- spelling

-- before the first frame
pub spelled-none : (rs : List Record) (bytes : List ℕ) → bytes ≡ replicate 9224 0 → bytes ++ area_bytes rs ≡ without_header rs
spelled-none rs bytes is =
    ap (λ (l : List ℕ). l ++ area_bytes rs) (is ∙ sym (replicate-append-replicate 8 9216 0))
    ∙ append_assoc (replicate 8 0) (replicate 9216 0) (area_bytes rs)

next-is : (es : List Placed) (i : ℕ) (e : Placed) → i < length es → e ≡ slice_index_or es i e → drop i es ≡ e ∷ drop (i + 1) es
next-is es i e lt is =
    drop-cons es i e lt ∙ ap (λ (x : Placed). x ∷ drop (suc i) es) (sym is) ∙ ap (λ (n : ℕ). e ∷ drop n es) one
  where
    one : suc i ≡ i + 1
    one = omega arith

-- one frame more
pub spelled-more : (es : List Placed) (i : ℕ) (e : Placed) (bytes bytes' all : List ℕ) → i < length es → e ≡ slice_index_or es i e
    → bytes' ≡ bytes ++ whole_frame e.item
    → bytes ++ area_bytes (items (drop i es)) ≡ all → bytes' ++ area_bytes (items (drop (i + 1) es)) ≡ all
spelled-more es i e bytes bytes' all lt is more so_far =
    let rest = items (drop (i + 1) es) in
    ap (λ (l : List ℕ). l ++ area_bytes rest) more
    ∙ append_assoc bytes (whole_frame e.item) (area_bytes rest)
    ∙ ap (λ (l : List ℕ). bytes ++ l) (sym (append_assoc (whole_frame e.item) (flat_map whole_frame rest) (0 ∷ [])))
    ∙ ap (λ (l : List Placed). bytes ++ area_bytes (items l)) (sym (next-is es i e lt is))
    ∙ so_far

pub fit-more : (es : List Placed) (i : ℕ) (e : Placed) (A : Type 0) → i < length es → e ≡ slice_index_or es i e → IsRecord e.item
    → (AllByRecursion IsRecord (items (drop i es)) → A) → AllByRecursion IsRecord (items (drop (i + 1) es)) → A
fit-more es i e A lt is fits so_far rest =
    so_far (subst (λ (l : List Placed). AllByRecursion IsRecord (items l)) (sym (next-is es i e lt is)) (fits, rest))

-- behind the last frame
none-left : (es : List Placed) (i : ℕ) → length es ≤ i → drop i es ≡ []
none-left es i le = nil_from_length (drop i es) (omega (arith, le, length-drop i es))

pub spelled-all : (es : List Placed) (gate i : ℕ) (bytes bytes' : List ℕ) → length es ≤ i → placed_from 8 (items es) ≡ (es, gate)
    → gate + 9217 ≤ 2 ^ 40
    → bytes ++ area_bytes (items (drop i es)) ≡ without_header (items es)
    → (AllByRecursion IsRecord (items (drop i es)) → AllByRecursion IsRecord (items es)) → bytes' ≡ bytes ++ 0 ∷ [] → AreSpelled es bytes'
spelled-all es gate i bytes bytes' le placed small so_far fit last =
    let none = none-left es i le in
    let are : bytes' ≡ without_header (items es) =
    last ∙ ap (λ (l : List Placed). bytes ++ area_bytes (items l)) (sym none) ∙ so_far in
    let ends : end_from 8 (items es) ≡ gate = sym (placed-end (items es) 8) ∙ ap (λ (p : List Placed × ℕ). p.1) placed in
    record {
      are = are;
      fit = fit (subst (λ (l : List Placed). AllByRecursion IsRecord (items l)) (sym none) tt);
      placed = ap (λ (p : List Placed × ℕ). p.0) placed;
      small = omega (arith, ap length are, bare-size (items es), area-size (items es) 8, ends, small);
    }

-- ---- a file of version 1

pub first-from : (image : List ℕ) → take 8 image ≡ first_header → first_scan image ≡ entries_at 8 0 (drop 8 image)
unfolding first_scan
first-from image h =
    let same : bytes_eq (take 8 image) first_header ≡ true = (bytes_eq-Decides (take 8 image) first_header).1 h in
    rw same refl

pub first-none : (image : List ℕ) → take 8 image ≢ first_header → first_scan image ≡ Err NotALog
unfolding first_scan
first-none image other = elim (cases_Bool (bytes_eq (take 8 image) first_header)) [
  | inl same ↦ absurd (other ((bytes_eq-Decides (take 8 image) first_header).0 same))
  | inr none ↦ rw none refl
]

-- ---- the copy

module _ (es : List Placed) (bytes : List ℕ) (spelled : AreSpelled es bytes) where
  copy-is : header ++ drop 8 bytes ≡ fresh_with (items es)
  copy-is = ap (λ (l : List ℕ). header ++ drop 8 l) spelled.are ∙ ap (λ (l : List ℕ). header ++ l) (bare-behind (items es))

  same-entries : (placed_from first_gate (items es)).0 ≡ moved es
  same-entries = placed-moved moved_by (items es) 8 ∙ ap moved spelled.placed

  pub copy-log : log (header ++ drop 8 bytes) ≡ Ok (moved es)
  copy-log =
      ap log copy-is ∙ ap entries_of (scan-fresh (items es) spelled.fit) ∙ ap (λ (l : List Placed). Ok l) same-entries

  pub copy-begins : begins_in (header ++ drop 8 bytes) ≡ record { at = first_gate; slots = 0 }
  copy-begins = ap begins_in copy-is ∙ fresh-begins (items es)

  pub copy-next : IsNextOrNone (header ++ drop 8 bytes) 0
  copy-next = subst (λ (l : List ℕ). IsNextOrNone l 0) (sym copy-is) (fresh-next (items es))

  pub copy-long : 1 ≤ length bytes
  copy-long = omega (arith, ap length spelled.are, bare-size (items es))

  pub copy-gate : (gate : ℕ) → gate + 1 ≡ length bytes → gate ≡ end_of (items es)
  copy-gate gate long =
      omega (arith, long, ap length spelled.are, bare-size (items es), area-size (items es) first_gate)

  pub copy-ends : (gate : ℕ) → gate + 1 ≡ length bytes → IsTrue (ends_at (header ++ drop 8 bytes) gate)
  copy-ends gate long =
      ap (λ (l : List ℕ). ends_at l gate) copy-is ∙ ap (λ found. ends_with found gate) (scan-fresh (items es) spelled.fit)
      ∙ eq-eqb (placed_from first_gate (items es)).1 gate (placed-end (items es) first_gate ∙ sym (copy-gate gate long))

  pub copy-or-none : (image : List ℕ) → HoldsBehind bytes image → HasNoneOr (moved es) image
  copy-or-none image holds =
      subst (λ (l : List Placed). HasNoneOr l image) same-entries
      (none-or-log (items es) spelled.fit image (subst (λ (l : List ℕ). HoldsBehind l image) spelled.are holds))

  -- it was laid out
  module _ {D : Type 0} (file : D → File) (clock : D → ℕ) (since : D → ℕ → List ℕ → Type 0) where
    pub has-copied : (image : List ℕ) (old new : D) (gate : ℕ) → first_log image ≡ Ok es → gate + 1 ≡ length bytes
        → ((surface (file new)).seen ≡ header ++ drop 8 bytes) × IsSynced (surface (file new))
        → WasLaid file clock since bytes (HoldsBehind bytes) old new
        → HasCopied file clock since image old new gate es
    has-copied image old new gate from long done laid = record {
      from = from;
      durable = λ left may. ap log (may.unchanged done.1.synced ∙ done.0) ∙ copy-log;
      read = ap log done.0 ∙ copy-log;
      begins = λ left may. ap begins_in (may.unchanged done.1.synced ∙ done.0) ∙ copy-begins;
      ends = copy-gate gate long;
      laid = (
        laid.0,
        record {
          within = laid.1.within;
          synced = laid.1.synced;
          bare = laid.1.bare ∙ spelled.are;
          from_then_on = weaker clock since laid.0 new (HoldsBehind bytes) (HasNoneOr (moved es)) laid.1.from_then_on copy-or-none;
        },
      );
    }
