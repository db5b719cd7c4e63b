-- Versions in order answer as in the order of the log.
use Rattle.std.specs.List.{list_all}
use Rattle.std.proofs.Common.{◌≡◌, ℕ, Bool, true, false, ◌&&◌, cond, nat_lt, List, [], ◌∷◌, ◌++◌, filter, refl, sym, ap, subst, ◌∙◌}
use Rattle.std.proofs.lemmas.Bool.{and_parts, and_from}
use Rattle.std.proofs.lemmas.List.{append-nil}
use Rattle.std.proofs.lemmas.List.Elements.{filter-append}
use Rattle.std.proofs.lemmas.List.Folds.{list_all-append}
use Rattle.units.specs.Keys.{Bytes, same_key}
use Rattle.units.specs.Versions.{of_key}
use Rattle.units.specs.declared.writes.Install.{Install}
use Rattle.versions.specs.Ordered.{installed, all_installed}
use Rattle.versions.proofs.SameMore.{same-one}
use Rattle.protocol.specs.Showable.{rises_by_key}
use Rattle.protocol.proofs.Rising.{below, rise_none, rise_one, rise_parts}
use Rattle.versions.specs.Places.{SameVersions}

-- what is above the versions of one list is above those of the other
abbrev pub IsUnder : List Install → List Install → Type 0
IsUnder a b = (key : Bytes) (at : ℕ) → below b key at ≡ true → below a key at ≡ true

-- the one with a version more behind it, the other with it in front
pub under-last : (x : Install) (a b : List Install) → IsUnder a b → IsUnder (a ++ x ∷ []) (x ∷ b)
under-last x a b under key at h =
    ap (list_all (λ i. nat_lt i.at at)) (filter-append (λ i. same_key i.key key) a (x ∷ []))
    ∙ list_all-append (λ i. nat_lt i.at at) (of_key a key) (of_key (x ∷ []) key)
    ∙ by_test (same_key x.key key) h
  where
    by_test : (c : Bool) → list_all (λ i. nat_lt i.at at) (cond c (x ∷ of_key b key) (of_key b key)) ≡ true
        → (list_all (λ i. nat_lt i.at at) (of_key a key) && list_all (λ i. nat_lt i.at at) (cond c (x ∷ []) [])) ≡ true
    by_test true k = and_from _ _ (under key at ((and_parts _ _ k).1)) (ap (λ b. b && true) ((and_parts _ _ k).0))
    by_test false k = and_from _ _ (under key at k) refl

pub append_one : {A : Type 0} (xs : List A) (x : A) (ys : List A) → (xs ++ x ∷ []) ++ ys ≡ xs ++ x ∷ ys
append_one [] x ys = refl
append_one (w ∷ ws) x ys = ap (λ l. w ∷ l) (append_one ws x ys)

same-all : (a b acc xs : List Install) → SameVersions 0 a b → IsUnder b acc → rises_by_key acc xs ≡ true → SameVersions 0 (all_installed a xs) (b ++ xs)
same-all a b acc [] same under up = subst (SameVersions 0 a) (sym (append-nil b)) same
same-all a b acc (x ∷ xs) same under up =
    let parts = rise_parts acc x xs up in
    subst (SameVersions 0 (all_installed (installed a x) xs)) (append_one b x xs)
    (same-all (installed a x) (b ++ x ∷ []) (x ∷ acc) xs (same-one 0 x a b (under x.key x.at parts.0) same) (under-last x b acc under) parts.1)

pub same-in_order : (xs : List Install) → rises_by_key [] xs ≡ true → SameVersions 0 (all_installed [] xs) xs
same-in_order xs up = same-all [] [] [] xs (record { now = λ k. refl; at = λ k t le. refl }) (λ key at h. h) up

-- ---- some of the versions rise as all do

-- one in front of both, or of the greater alone
under-both : (x : Install) (a b : List Install) → IsUnder a b → IsUnder (x ∷ a) (x ∷ b)
under-both x a b under key at = by_test (same_key x.key key)
  where
    by_test : (c : Bool) → list_all (λ i. nat_lt i.at at) (cond c (x ∷ of_key b key) (of_key b key)) ≡ true
        → list_all (λ i. nat_lt i.at at) (cond c (x ∷ of_key a key) (of_key a key)) ≡ true
    by_test true h = and_from _ _ ((and_parts _ _ h).0) (under key at ((and_parts _ _ h).1))
    by_test false h = under key at h

under-more : (x : Install) (a b : List Install) → IsUnder a b → IsUnder a (x ∷ b)
under-more x a b under key at = by_test (same_key x.key key)
  where
    by_test : (c : Bool) → list_all (λ i. nat_lt i.at at) (cond c (x ∷ of_key b key) (of_key b key)) ≡ true → below a key at ≡ true
    by_test true h = under key at ((and_parts _ _ h).1)
    by_test false h = under key at h

rising-under : (q : Install → Bool) (a b xs : List Install) → IsUnder a b → rises_by_key b xs ≡ true → rises_by_key a (filter q xs) ≡ true
rising-under q a b [] under up = rise_none a
rising-under q a b (x ∷ xs) under up =
    let parts = rise_parts b x xs up in
    by_test (q x) (under x.key x.at parts.0) (rising-under q (x ∷ a) (x ∷ b) xs (under-both x a b under) parts.1)
    (rising-under q a (x ∷ b) xs (under-more x a b under) parts.1)
  where
    by_test : (c : Bool) → below a x.key x.at ≡ true → rises_by_key (x ∷ a) (filter q xs) ≡ true → rises_by_key a (filter q xs) ≡ true
        → rises_by_key a (cond c (x ∷ filter q xs) (filter q xs)) ≡ true
    by_test true over one rest = rise_one a x (filter q xs) over one
    by_test false over one rest = rest

pub rising-some : (q : Install → Bool) (xs : List Install) → rises_by_key [] xs ≡ true → rises_by_key [] (filter q xs) ≡ true
rising-some q xs up = rising-under q [] [] xs (λ key at h. h) up
