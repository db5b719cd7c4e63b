-- Facts that are alike: back and forth, behind one more record, and what an opening finds in them.
use Rattle.std.proofs.Common.{◌≡◌, ◌≤◌, List, [], ◌∷◌, ◌++◌, length, take, Option, Some, None, refl, sym, ap, ◌∙◌, subst, arith}
use Rattle.std.proofs.lemmas.List.{append-nil, take-append-le, take_all}
use Rattle.units.specs.Lists.{gather}
use Rattle.units.specs.declared.writes.Install.{Install}
use Rattle.record.specs.Facts.{Facts, installs_at, learn, recorded}
use Rattle.record.specs.declared.record.Record.{Record}
use Rattle.protocol.specs.Rows.{rebuilt, standing_row}
use Rattle.protocol.specs.Step.{facts_after}
use Rattle.ledger.specs.Keeps.{Alike}
use Rattle.ledger.proofs.Alike.{alike-stays}

pub alike_back : (a b : Facts) → Alike a b → Alike b a
alike_back a b h = record {
  epoch = sym h.epoch;
  floor = sym h.floor;
  horizon = sym h.horizon;
  retired = sym h.retired;
  entries = sym h.entries;
  versions = record {
    now = λ k. sym (h.versions.now k);
    at = λ k t le. sym (h.versions.at k t (subst (λ n. n ≤ t) (sym h.horizon) le));
  };
}

-- behind a record, where there is one
pub alike_after : (a b : Facts) (logged : Option Record) → Alike a b → Alike (facts_after a logged) (facts_after b logged)
alike_after a b None h = h
alike_after a b (Some r) h = alike-stays a b r h

-- an opening finds the same rows and the same greatest timestamp
pub same_rebuilt : (a b : Facts) → Alike a b → rebuilt a ≡ rebuilt b
unfolding rebuilt
same_rebuilt a b h = λ i. record { last = h.floor i; rows = gather standing_row (h.entries i); ended = [] }

-- the versions that a record adds stand behind those before it
added : (facts : Facts) (logged : Option Record) → (more : List Install) × ((facts_after facts logged).installs ≡ facts.installs ++ more)
unfolding learn
added facts (Some (Record.Version install)) = (install ∷ [], refl)
added facts (Some (Record.Outcome t outcome)) = (installs_at (recorded facts t) outcome, refl)
added facts _ = ([], sym (append-nil facts.installs))

in_front : (xs ys : List Install) → take (length xs) (xs ++ ys) ≡ xs
in_front xs ys = take-append-le (length xs) xs ys (omega arith) ∙ take_all (length xs) xs (omega arith)

-- so those before it are in front
pub still_first : (a b : Facts) (logged : Option Record) → b ≡ facts_after a logged → take (length a.installs) b.installs ≡ a.installs
still_first a b logged is =
    let more = added a logged in
    ap (λ (f : Facts). take (length a.installs) f.installs) is ∙ ap (take (length a.installs)) more.1 ∙ in_front a.installs more.0

-- the same facts show the same
pub first_of_same : (a b : Facts) → b ≡ a → take (length a.installs) b.installs ≡ a.installs
first_of_same a b is = still_first a b None is
