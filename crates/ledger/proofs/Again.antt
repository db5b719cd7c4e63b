-- A renewed log may be renewed again, into the same records.
use Rattle.std.specs.List.{AllByRecursion, list_all}
use Rattle.std.proofs.Common.{◌≡◌, Bool, true, false, cond, nat_lt, List, [], ◌∷◌, refl, sym, ap, subst, ◌∙◌, arith}
use Rattle.std.proofs.lemmas.Bool.{and_from}
use Rattle.std.proofs.lemmas.Bool.Decides.{nat_tests}
use Rattle.units.specs.Keys.{same_key, key_before}
use Rattle.units.specs.Versions.{of_key}
use Rattle.units.specs.declared.writes.Install.{Install}
use Rattle.units.proofs.KeyLaws.{same_key-is, key_before-irreflexive}
use Rattle.record.specs.FactLaws.{learnt}
use Rattle.record.specs.Facts.{Facts, no_facts}
use Rattle.versions.specs.Ordered.{version_before, AscendsByVersion}
use Rattle.protocol.specs.Showable.{rises_by_key}
use Rattle.protocol.proofs.Rising.{below, rise_none, rise_one}
use Rattle.ledger.specs.Keeps.{IsLasting}
use Rattle.ledger.specs.Laws.{TurnedAgain, TurnedLasts}
use Rattle.ledger.specs.Turned.{held_facts, turned, versions_held}
use Rattle.ledger.proofs.One.{one-turnover, ordered}
use Rattle.ledger.proofs.Said.{covered-held, turned-keeps, turned-says}

-- a version in order is above the earlier ones of its key
pub above-before : (x y : Install) → version_before x y ≡ true → same_key x.key y.key ≡ true → nat_lt x.at y.at ≡ true
above-before x y before same =
    let level : key_before x.key y.key ≡ false =
    ap (λ k. key_before k y.key) (same_key-is x.key y.key same) ∙ key_before-irreflexive y.key in
    grind (arith, nat_tests)

-- each is above those before
abbrev AllAbove : List Install → List Install → Type 0
AllAbove before xs = AllByRecursion (λ y. below before y.key y.at ≡ true) xs

above-more : (x : Install) (before xs : List Install) → AllByRecursion (λ y. version_before x y ≡ true) xs → AllAbove before xs → AllAbove (x ∷ before) xs
above-more x before [] behind above = tt
above-more x before (y ∷ xs) behind above = (by_test (same_key x.key y.key) refl, above-more x before xs behind.1 above.1)
  where
    by_test : (c : Bool) → same_key x.key y.key ≡ c → list_all (λ j. nat_lt j.at y.at) (cond c (x ∷ of_key before y.key) (of_key before y.key)) ≡ true
    by_test true e = and_from _ _ (above-before x y behind.0 e) above.0
    by_test false e = above.0

ascending-rises : (before xs : List Install) → AscendsByVersion xs → AllAbove before xs → rises_by_key before xs ≡ true
ascending-rises before [] up above = rise_none before
ascending-rises before (x ∷ xs) up above =
    rise_one before x xs above.0 (ascending-rises (x ∷ before) xs up.1 (above-more x before xs up.0 above.1))

none-before : (xs : List Install) → AllAbove [] xs
none-before [] = tt
none-before (x ∷ xs) = (refl, none-before xs)

-- what is in order rises
pub sorted-rises : (xs : List Install) → AscendsByVersion xs → rises_by_key [] xs ≡ true
sorted-rises xs up = ascending-rises [] xs up (none-before xs)

pub held-lasting : (facts : Facts) → IsLasting facts → IsLasting (held_facts facts)
held-lasting facts l =
    let r = l.regular in
    record {
      regular = record {
        order = r.order;
        placed = r.placed;
        rising = sorted-rises (versions_held facts) (ordered facts r);
        covered = covered-held facts r;
        under = r.under;
        kept = r.kept;
      };
      entries = l.entries;
    }

pub turned-lasts : TurnedLasts
turned-lasts facts l = subst IsLasting (sym (turned-says facts l.regular)) (held-lasting facts l)

pub turned-again : TurnedAgain
turned-again facts l =
    sym (one-turnover facts (learnt no_facts (turned facts)) (turned-keeps facts l.regular) l.regular ((turned-lasts facts l).regular))
