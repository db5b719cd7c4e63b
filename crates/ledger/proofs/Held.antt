-- The versions that are held alone serve as all versions do.
use Rattle.std.specs.List.{AllByRecursion}
use Rattle.std.proofs.Common.{◌≡◌, ◌||◌, not, ℕ, Bool, true, false, nat_le, List, [], ◌∷◌, Option, Some, None, refl, sym, ◌∙◌}
use Rattle.std.proofs.lemmas.Bool.{and_from}
use Rattle.units.specs.Ids.{Id}
use Rattle.units.specs.Keys.{Bytes}
use Rattle.units.specs.Lists.{ascends}
use Rattle.units.specs.declared.writes.Install.{Install}
use Rattle.units.specs.declared.writes.Write.{Write}
use Rattle.units.proofs.ListLaws.{all-keep, all_of_each, each_of_all}
use Rattle.record.specs.Facts.{Facts, recorded}
use Rattle.record.specs.Records.{Status, Unrecorded, StandsPrepared, StandsDecided, HasAborted, HasSettled, HasClosed}
use Rattle.facts.specs.Stages.{is_head}
use Rattle.facts.specs.declared.stage.Stage.{Stage}
use Rattle.protocol.specs.Rows.{IsDecided, IsPrepared, Memory, Phase, Row, find_row}
use Rattle.protocol.specs.Showable.{IsShowable}
use Rattle.protocol.specs.Sound.{Agrees, IsSound, StandsBy}
use Rattle.versions.specs.Ordered.{version_before, AscendsByVersion}
use Rattle.versions.specs.Places.{SameVersions}
use Rattle.versions.specs.Pruned.{kept_from, pruned}
use Rattle.ledger.specs.Keeps.{IsLasting, IsRegular}
use Rattle.ledger.specs.Ledger.{head_ascends}
use Rattle.ledger.specs.Turned.{held_facts, versions_held}
use Rattle.ledger.proofs.Again.{held-lasting}
use Rattle.ledger.proofs.Said.{all-in_order, held-keeps}
use Rattle.ledger.proofs.Takes.{above-alike}

-- each is before the next one
pub sorted-ascends : (xs : List Install) → AscendsByVersion xs → ascends version_before xs ≡ true
sorted-ascends [] up = refl
sorted-ascends (x ∷ []) up = refl
sorted-ascends (x ∷ y ∷ xs) up = and_from _ _ up.0.0 (sorted-ascends (y ∷ xs) up.1)

-- so they are where the head of a log lists them
pub in-head : (stage : Stage) (xs : List Install) → AscendsByVersion xs → head_ascends stage xs ≡ true
in-head stage xs up = by_test (not (is_head stage)) (sorted-ascends xs up)
  where
    by_test : (b : Bool) → ascends version_before xs ≡ true → (b || ascends version_before xs) ≡ true
    by_test true h = refl
    by_test false h = h

-- what is so of all versions is so of those that are held
all-held : (P : Install → Type 0) (facts : Facts) → AllByRecursion P facts.installs → AllByRecursion P (versions_held facts)
unfolding pruned
all-held P facts all =
    all-in_order P [] (pruned facts.horizon facts.installs) tt
    (all-keep P (λ i. nat_le (kept_from facts.horizon facts.installs i.key) i.at) facts.installs all)

standing-over : (h : ℕ) (a b : List Install) (last : ℕ) (r : Row) (standing : Phase) (txn : Id) (at : ℕ) (rs : List Bytes) (ws : List Write) → SameVersions h a b
    → StandsBy a last r standing txn at rs ws → StandsBy b last r standing txn at rs ws
standing-over h a b last r standing txn at rs ws same s = record {
  phase = s.phase;
  own = s.own;
  above_zero = s.above_zero;
  assigned = s.assigned;
  read = s.read;
  held = s.held;
  above = sym (above-alike h a b at ws same) ∙ s.above;
}

stands-over : (h : ℕ) (a b : List Install) (last : ℕ) (s : Status) (r : Option Row) → SameVersions h a b → Agrees a last s r → Agrees b last s r
stands-over h a b last (StandsPrepared p) (Some r) same stands =
    standing-over h a b last r (IsPrepared p.coordinator p.at) p.txn p.at p.reads p.writes same stands
stands-over h a b last (StandsDecided c) (Some r) same stands =
    standing-over h a b last r (IsDecided c.at c.parts) c.txn c.at c.reads c.writes same stands
stands-over h a b last (StandsPrepared p) None same agrees = absurd agrees
stands-over h a b last (StandsDecided c) None same agrees = absurd agrees
stands-over h a b last Unrecorded r same agrees = agrees
stands-over h a b last HasAborted (Some r) same agrees = absurd agrees
stands-over h a b last (HasSettled at parts) (Some r) same agrees = absurd agrees
stands-over h a b last (HasClosed coordinator outcome) (Some r) same agrees = absurd agrees
stands-over h a b last HasAborted None same agrees = agrees
stands-over h a b last (HasSettled at parts) None same agrees = agrees
stands-over h a b last (HasClosed coordinator outcome) None same agrees = agrees

-- a sound shard stays so
pub held-sound : (shard : ℕ) (facts : Facts) (memory : Memory) → IsRegular facts → IsSound shard facts memory → IsSound shard (held_facts facts) memory
held-sound shard facts memory regular sound = record {
  opened = sound.opened;
  table = sound.table;
  entries = sound.entries;
  ended = sound.ended;
  under = sound.under;
  installed =
      each_of_all (λ i. nat_le i.at memory.last) (versions_held facts)
      (all-held (λ i. nat_le i.at memory.last ≡ true) facts (all_of_each (λ i. nat_le i.at memory.last) facts.installs sound.installed));
  fit = sound.fit;
  agrees = λ t.
      stands-over facts.horizon facts.installs (versions_held facts) memory.last (recorded facts t) (find_row memory.rows t)
      (held-keeps facts regular).versions (sound.agrees t);
  horizon = sound.horizon;
}

-- and its versions may still be put on a board
pub held-showable : (facts : Facts) (memory : Memory) → IsLasting facts → IsShowable facts memory → IsShowable (held_facts facts) memory
held-showable facts memory lasting showable = record {
  entries = showable.entries;
  rows = showable.rows;
  installs = (held-lasting facts lasting).regular.rising;
}
