-- The writes of a transaction are versions of different keys, so each is above its key's others when its turn comes.
use Rattle.std.specs.List.{list_all}
use Rattle.std.proofs.Common.{◌≡◌, ℕ, Bool, true, false, ◌&&◌, nat_lt, List, [], ◌∷◌, ◌++◌, refl, sym, ap, subst, ◌∙◌}
use Rattle.std.proofs.lemmas.Bool.{false≢true, and_from}
use Rattle.std.proofs.lemmas.List.{append_assoc}
use Rattle.units.specs.Lists.{ascends}
use Rattle.units.specs.Keys.{same_key, key_before, write_before}
use Rattle.units.specs.Versions.{versions, above_versions}
use Rattle.units.proofs.KeyLaws.{same_key-is, key_before-trans, key_before-irreflexive}
use Rattle.units.specs.declared.writes.Install.{Install}
use Rattle.units.specs.declared.writes.Write.{Write}
use Rattle.versions.specs.Ordered.{installed, all_installed, is_above}
use Rattle.versions.specs.Places.{SameValues, PlacesDoNotMatter}
use Rattle.versions.proofs.OneMore.{keep-installed, keep-last, place_does_not_matter}

-- a version of a write
abbrev version : Write → ℕ → Install
version w at = record { key = w.key; at = at; value = w.value }

-- a key that is before another is not that one
differs : (a b : List ℕ) → key_before a b ≡ true → same_key a b ≡ false
differs a b h = by_test (same_key a b) refl
  where
    by_test : (c : Bool) → same_key a b ≡ c → c ≡ false
    by_test true k = absurd (false≢true (sym (key_before-irreflexive b) ∙ (sym (ap (λ z. key_before z b) (same_key-is a b k)) ∙ h)))
    by_test false k = refl

left : (a b : Bool) → (a && b) ≡ true → a ≡ true
left true b h = refl
left false b h = h

right : (a b : Bool) → (a && b) ≡ true → b ≡ true
right true b h = h
right false b h = absurd (false≢true h)

pub rest_ascends : (w : Write) (ws : List Write) → ascends write_before (w ∷ ws) ≡ true → ascends write_before ws ≡ true
rest_ascends w [] h = refl
rest_ascends w (v ∷ ws) h = right _ _ h

-- without the second the writes still ascend
skipped : (w v : Write) (ws : List Write) → ascends write_before (w ∷ v ∷ ws) ≡ true → ascends write_before (w ∷ ws) ≡ true
skipped w v [] h = refl
skipped w v (u ∷ ws) h = and_from _ _ (key_before-trans w.key v.key u.key (left _ _ h) (left _ _ (right _ _ h))) (right _ _ (right _ _ h))

-- a version of an earlier key leaves what the later keys take, in the log
pub still_above : (w : Write) (at : ℕ) (log : List Install) (ws : List Write) → ascends write_before (w ∷ ws) ≡ true → above_versions log at ws ≡ true
    → above_versions (log ++ version w at ∷ []) at ws ≡ true
still_above w at log [] up above = refl
still_above w at log (v ∷ ws) up above =
    and_from _ _ (ap (λ r. list_all (λ i. nat_lt i.at at) r) (keep-last (λ i. same_key i.key v.key) (version w at) log
    (differs w.key v.key (left _ _ up))) ∙ left _ _ above)
    (still_above w at log ws (skipped w v ws up) (right _ _ above))

-- and in order
above_in_order : (w : Write) (at : ℕ) (ordered : List Install) (ws : List Write) → ascends write_before (w ∷ ws) ≡ true → above_versions ordered at ws ≡ true
    → above_versions (installed ordered (version w at)) at ws ≡ true
above_in_order w at ordered [] up above = refl
above_in_order w at ordered (v ∷ ws) up above =
    and_from _ _ (ap (λ r. list_all (λ i. nat_lt i.at at) r) (keep-installed (λ i. same_key i.key v.key) (version w at) ordered
    (differs w.key v.key (left _ _ up))) ∙ left _ _ above)
    (above_in_order w at ordered ws (skipped w v ws up) (right _ _ above))

-- when its turn comes, each write is above its key's versions
pub above_at_turn : (done : List Write) (w : Write) (ws : List Write) (at : ℕ) (ordered : List Install) → ascends write_before (done ++ w ∷ ws) ≡ true
    → above_versions ordered at (done ++ w ∷ ws) ≡ true → is_above (all_installed ordered (versions done at)) w.key at ≡ true
above_at_turn [] w ws at ordered up above = left _ _ above
above_at_turn (v ∷ done) w ws at ordered up above =
    above_at_turn done w ws at (installed ordered (version v at)) (rest_ascends v (done ++ w ∷ ws) up)
    (above_in_order v at ordered (done ++ w ∷ ws) up (right _ _ above))

-- one more write is one more version
pub installed_next : (done : List Write) (w : Write) (at : ℕ) (ordered : List Install)
    → installed (all_installed ordered (versions done at)) (version w at) ≡ all_installed ordered (versions (done ++ w ∷ []) at)
installed_next [] w at ordered = refl
installed_next (v ∷ done) w at ordered = installed_next done w at (installed ordered (version v at))

pub places_do_not_matter : PlacesDoNotMatter
places_do_not_matter [] at ordered log up above same = subst (SameValues ordered) (sym (append-nil log)) same
  where
    append-nil : (t : List Install) → t ++ [] ≡ t
    append-nil [] = refl
    append-nil (x ∷ t) = ap (λ r. x ∷ r) (append-nil t)
places_do_not_matter (w ∷ ws) at ordered log up above same =
    subst (SameValues (all_installed ordered (versions (w ∷ ws) at))) (append_assoc log (version w at ∷ []) (versions ws at))
    (places_do_not_matter ws at _ (log ++ version w at ∷ []) (rest_ascends w ws up) (still_above w at log ws up (right _ _ above))
    (place_does_not_matter (version w at) ordered log (left _ _ above) same))
