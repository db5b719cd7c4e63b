-- Versions that stand where they come in order.
use Rattle.std.proofs.Common.{◌≡◌, ℕ, ◌+◌, ◌<◌, ◌≤◌, ◌^◌, ◌-◌, List, ◌++◌, length, get_or, drop}
use Rattle.std.proofs.Common.{refl, sym, ap, subst, ◌∙◌, arith}
use Rattle.std.proofs.lemmas.List.{append-nil, drop_all, get_or-map, get_or_default, same_lists}
use Rattle.units.specs.declared.writes.Install.{Install}
use Rattle.versions.specs.Arranged.{arranged, no_install}
use Rattle.versions.specs.Gathered.{StandInOrder}
use Rattle.versions.specs.Headed.{Headed}
use Rattle.versions.specs.Heads.{AreHeads}
use Rattle.versions.specs.Ordered.{AscendsByVersion, IsInOrder}
use Rattle.versions.specs.Orders.{Orders}
use Rattle.versions.specs.Places.{SameVersions}
use Rattle.versions.specs.Pruned.{pruned}
use Rattle.versions.proofs.Arranged.{length_arranged}
use Rattle.versions.proofs.Orders.{take_whole}
use Rattle.versions.proofs.Passed.{left_of, left-is-pruned}
use Rattle.versions.proofs.Shorter.{within_each}

module _ (installs : List Install) (p : Headed) (o : StandInOrder installs p) where
  -- they are read as they stand
  pub stands : arranged installs p.places ≡ installs
  stands =
      same_lists (arranged installs p.places) installs (length_arranged installs p.places ∙ o.all)
      (λ k d less. each k d (omega (arith, less, length_arranged installs p.places)))
    where
      each : (k : ℕ) (d : Install) → k < length p.places → get_or (arranged installs p.places) k d ≡ get_or installs k d
      each k d less =
          get_or-map (λ q. get_or installs q no_install) p.places k 0 d less
          ∙ ap (λ q. get_or installs q no_install) (o.settled k (omega (arith, less, o.all)))
          ∙ get_or_default installs k no_install d (omega (arith, less, o.all))

  pub orders_held : IsInOrder (2 ^ 62 - 1) installs → (from : ℕ) → Orders from installs (length installs) p
  orders_held kept from = record {
    within =
        within_each p.places (length installs) (λ k less.
        let is = o.settled k (omega (arith, less, o.all)) in
        omega (arith, is, less, o.all));
    few = omega (arith, o.all);
    kept = subst (IsInOrder (2 ^ 62 - 1)) (sym stands) kept;
    headed = subst (λ t. AreHeads p.prefix t p.heads) (sym stands) o.headed;
    same =
        subst (λ t. SameVersions from (arranged installs p.places) t) (sym (take_whole installs))
        (subst (λ t. SameVersions from t installs) (sym stands) (record { now = λ k. refl; at = λ k t le. refl }));
  }

-- when all were looked at, these are those that the horizon leaves
pub left_all : (h : ℕ) (t held : List Install) (at : ℕ) → length t ≤ at → AscendsByVersion t → held ++ left_of h (drop at t) ≡ left_of h t
    → held ≡ pruned h t
left_all h t held at le up is =
    sym (append-nil held) ∙ sym (ap (λ (r : List Install). held ++ left_of h r) (drop_all at t le)) ∙ is ∙ left-is-pruned h t up
