-- Lists with the same newest versions of every key.
use Rattle.std.proofs.Common.{ℕ, ◌≤◌, List, Option, sym, ap, ◌∙◌, arith}
use Rattle.units.specs.Lists.{follow}
use Rattle.units.specs.Versions.{of_key}
use Rattle.units.specs.declared.writes.Install.{Install}
use Rattle.versions.specs.Places.{SameFrom, SameVersions}
use Rattle.versions.proofs.Newest.{at_time_is, latest_is, above_newest, was_before}

-- they answer alike, and take the same timestamps as new
pub same-from : (h : ℕ) (a b : List Install) → SameVersions h a b → SameFrom h a b
same-from h a b same = record {
  now = λ k. latest_is k a ∙ ap (λ (f : Option Install). follow f (λ i. i.value)) (same.now k) ∙ sym (latest_is k b);
  at = λ k t le. at_time_is k t a ∙ ap (λ (f : Option Install). follow f (λ i. i.value)) (same.at k t le) ∙ sym (at_time_is k t b);
  above = λ k t. above_newest t (of_key a k) ∙ ap (was_before t) (same.now k) ∙ sym (above_newest t (of_key b k));
}

-- what is the same from a horizon up is so from a later one up
pub same-higher : (h n : ℕ) (a b : List Install) → h ≤ n → SameVersions h a b → SameVersions n a b
same-higher h n a b le same = record { now = same.now; at = λ k t more. same.at k t (omega (arith, le, more)) }

pub same-then : (h : ℕ) (a b c : List Install) → SameVersions h a b → SameVersions h b c → SameVersions h a c
same-then h a b c p q = record { now = λ k. p.now k ∙ q.now k; at = λ k t le. p.at k t le ∙ q.at k t le }

pub same-back : (h : ℕ) (a b : List Install) → SameVersions h a b → SameVersions h b a
same-back h a b p = record { now = λ k. sym (p.now k); at = λ k t le. sym (p.at k t le) }
