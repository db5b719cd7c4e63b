-- Places by which versions of another list are read, as that list grows.
use Rattle.std.proofs.Common.{◌≡◌, ℕ, ◌+◌, ◌<◌, ◌≤◌, ◌^◌, ◌-◌, max, true, List, [], ◌∷◌, ◌++◌, length, get_or, take, drop, refl, sym, ap, subst, ◌∙◌, arith}
use Rattle.std.proofs.lemmas.Bool.{and_parts}
use Rattle.std.proofs.lemmas.List.{drop_more, take_more}
use Rattle.units.specs.Keys.{write_before}
use Rattle.units.specs.Lists.{ascends}
use Rattle.units.specs.Versions.{latest, at_time, versions, above_versions}
use Rattle.units.specs.declared.writes.Install.{Install}
use Rattle.units.specs.declared.writes.Write.{Write}
use Rattle.versions.specs.Arranged.{arranged, no_install, AreWithin}
use Rattle.versions.specs.Headed.{Headed}
use Rattle.versions.specs.Heads.{AreHeads}
use Rattle.versions.specs.Ordered.{is_above, IsInOrder}
use Rattle.versions.specs.Orders.{Orders, AreBehind}
use Rattle.versions.specs.Places.{SameVersions}
use Rattle.versions.proofs.Arranged.{still_arranged}
use Rattle.versions.proofs.AtOnce.{still_above, rest_ascends}
use Rattle.versions.proofs.Pruned.{kept-pruned, pruned_after}
use Rattle.versions.specs.Pruned.{pruned}
use Rattle.versions.proofs.Same.{same-from, same-higher}
use Rattle.versions.specs.TakenIn.{TakesIn}
use Rattle.versions.proofs.SameMore.{above-same}
use Rattle.versions.proofs.TakenIn.{kept-taken, newest-taken}

pub take_whole : (t : List Install) → take (length t) t ≡ t
take_whole [] = refl
take_whole (x ∷ t) = ap (λ r. x ∷ r) (take_whole t)

take_front : (t more : List Install) → take (length t) (t ++ more) ≡ t
take_front [] more = refl
take_front (x ∷ t) more = ap (λ r. x ∷ r) (take_front t more)

drop_front : (t more : List Install) → drop (length t) (t ++ more) ≡ more
drop_front [] more = refl
drop_front (x ∷ t) more = drop_front t more

-- the list has grown
pub orders_more : (h : ℕ) (t more : List Install) (p : Headed) → Orders h t (length t) p → Orders h (t ++ more) (length t) p
orders_more h t more p o =
    let same : arranged t p.places ≡ arranged (t ++ more) p.places = sym (still_arranged t more p.places o.within) in
    record {
      within = o.within;
      few = o.few;
      kept = subst (IsInOrder (2 ^ 62 - 1)) same o.kept;
      headed = subst (λ r. AreHeads p.prefix r p.heads) same o.headed;
      same = subst (λ r. SameVersions h r (take (length t) (t ++ more))) same
          (subst (SameVersions h (arranged t p.places)) (take_whole t ∙ sym (take_front t more)) o.same);
    }

-- what is read by the places is read of the list
module _ (h : ℕ) (t : List Install) (p : Headed) (o : Orders h t (length t) p) where
  -- the newest versions are those of the list
  pub same_by : SameVersions h (arranged t p.places) t
  same_by = subst (SameVersions h (arranged t p.places)) (take_whole t) o.same

  pub latest_by : (key : List ℕ) → latest t key ≡ latest (arranged t p.places) key
  latest_by key = sym ((same-from h _ t same_by).now key)

  pub at_time_by : (key : List ℕ) (at : ℕ) → h ≤ at → at_time t key at ≡ at_time (arranged t p.places) key at
  at_time_by key at le = sym ((same-from h _ t same_by).at key at le)

  pub above_by : (key : List ℕ) (at : ℕ) → is_above t key at ≡ is_above (arranged t p.places) key at
  above_by key at = sym ((same-from h _ t same_by).above key at)

-- the writes of one transaction came behind
pub behind_written : (t : List Install) (ws : List Write) (at : ℕ) → ascends write_before ws ≡ true → above_versions t at ws ≡ true
    → AreBehind (t ++ versions ws at) (length t)
behind_written t ws at up above = record {
  writes = ws;
  at = at;
  rest = drop_front t (versions ws at);
  up = up;
  above = subst (λ r. above_versions r at ws ≡ true) (sym (take_front t (versions ws at))) above;
}

-- the first of those behind, and the others
module _ (t : List Install) (k : ℕ) (lt : k < length t) where
  first : Install
  first = get_or t k no_install

  pub first_above : AreBehind t k → is_above (take k t) (get_or t k no_install).key (get_or t k no_install).at ≡ true
  first_above b = by_writes b.writes b.rest b.above
    where
      by_writes : (ws : List Write) → drop k t ≡ versions ws b.at → above_versions (take k t) b.at ws ≡ true
          → is_above (take k t) (get_or t k no_install).key (get_or t k no_install).at ≡ true
      by_writes [] rest above =
          let clash : ◌≡◌ {A = List Install} (get_or t k no_install ∷ drop (k + 1) t) [] = sym (drop_more t k no_install lt) ∙ rest in cc
      by_writes (w ∷ ws) rest above =
          let both : get_or t k no_install ∷ drop (k + 1) t ≡ versions (w ∷ ws) b.at = sym (drop_more t k no_install lt) ∙ rest in
          let is : ◌≡◌ {A = Install} (get_or t k no_install) (record { key = w.key; at = b.at; value = w.value }) = cc in
          subst (λ (x : Install). is_above (take k t) x.key x.at ≡ true) (sym is) (and_parts _ _ above).0

  pub others_behind : AreBehind t k → AreBehind t (k + 1)
  others_behind b = by_writes b.writes b.rest b.up b.above
    where
      by_writes : (ws : List Write) → drop k t ≡ versions ws b.at → ascends write_before ws ≡ true → above_versions (take k t) b.at ws ≡ true
          → AreBehind t (k + 1)
      by_writes [] rest up above =
          let clash : ◌≡◌ {A = List Install} (get_or t k no_install ∷ drop (k + 1) t) [] = sym (drop_more t k no_install lt) ∙ rest in cc
      by_writes (w ∷ ws) rest up above =
          let both : get_or t k no_install ∷ drop (k + 1) t ≡ versions (w ∷ ws) b.at = sym (drop_more t k no_install lt) ∙ rest in
          let is : ◌≡◌ {A = Install} (get_or t k no_install) (record { key = w.key; at = b.at; value = w.value }) = cc in
          let more : drop (k + 1) t ≡ versions ws b.at = cc in
          record {
            writes = ws;
            at = b.at;
            rest = more;
            up = rest_ascends w ws up;
            above = subst (λ r. above_versions r b.at ws ≡ true) (ap (λ (x : Install). take k t ++ x ∷ []) (sym is) ∙ sym (take_more t k no_install lt))
                (still_above w b.at (take k t) ws up (and_parts _ _ above).1);
          }

  -- the first is taken in
  pub orders_next : (h : ℕ) (p q : Headed) → Orders h t k p → AreBehind t k → TakesIn h (arranged t p.places) (get_or t k no_install) (arranged t q.places)
      → AreWithin q.places (k + 1) → AreHeads q.prefix (arranged t q.places) q.heads → length q.places ≤ length p.places + 1
      → (get_or t k no_install).at < 2 ^ 62 → Orders h t (k + 1) q
  orders_next h p q o b taken within heads long in_time =
      let x = get_or t k no_install in
      let above = first_above b in
      let above_here = above-same h x (arranged t p.places) (take k t) above o.same in
      record {
        within = within;
        few = omega (arith, long, o.few);
        kept = kept-taken (2 ^ 62 - 1) h (arranged t p.places) x (arranged t q.places) taken above_here (omega (arith, in_time)) o.kept;
        headed = heads;
        same = subst (SameVersions h (arranged t q.places)) (sym (take_more t k no_install lt))
            (newest-taken h (arranged t p.places) x (arranged t q.places) (take k t) taken o.kept.order above o.same);
      }

-- what is below a horizon is forgotten
pub orders_forgotten : (before h : ℕ) (t : List Install) (p q : Headed) → Orders before t (length t) p → arranged t q.places ≡ pruned h (arranged t p.places)
    → AreWithin q.places (length t) → AreHeads q.prefix (arranged t q.places) q.heads → length q.places ≤ length p.places → Orders (max before h) t (length t) q
orders_forgotten before h t p q o items within heads fewer = record {
  within = within;
  few = omega (arith, fewer, o.few);
  kept = subst (IsInOrder (2 ^ 62 - 1)) (sym items) (kept-pruned (2 ^ 62 - 1) h (arranged t p.places) o.kept);
  headed = heads;
  same = subst (λ r. SameVersions (max before h) r (take (length t) t)) (sym items) (pruned_after before h (arranged t p.places) (take (length t) t) o.same);
}

-- nothing was forgotten below a horizon
pub orders_later : (before h : ℕ) (t : List Install) (p : Headed) → Orders before t (length t) p → Orders (max before h) t (length t) p
orders_later before h t p o = record {
  within = o.within;
  few = o.few;
  kept = o.kept;
  headed = o.headed;
  same = same-higher before (max before h) (arranged t p.places) (take (length t) t) (omega arith) o.same;
}
