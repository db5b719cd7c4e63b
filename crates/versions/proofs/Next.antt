-- What comes next among versions in order.
use Rattle.std.proofs.Common.{◌≡◌, ℕ, zero, suc, ◌+◌, ◌<◌, ◌≤◌, Bool, true, false, cond, List, [], ◌∷◌, length, get_or, nat_le, nat_lt, Some, None, refl, sym, ap, subst, ◌∙◌, arith, filter}
use Rattle.std.proofs.lemmas.Bool.{false≢true, false_from_ne_true}
use Rattle.std.proofs.lemmas.Bool.Decides.{nat_tests}
use Rattle.units.specs.Keys.{same_key, key_before}
use Rattle.units.proofs.KeyLaws.{same_key-refl, same_key-is, same_key_comm, key_before-trans, key_before-irreflexive, key_before-total}
use Rattle.units.specs.declared.writes.Install.{Install}
use Rattle.units.specs.Lists.{follow}
use Rattle.units.specs.Versions.{newest, at_time}
use Rattle.versions.specs.Next.{IsNextVersion}
use Rattle.versions.specs.Ordered.{is_by, is_not_after, version_before, AscendsByVersion}
use Rattle.versions.specs.Halves.{AllUpTo, AllAfter}
use Rattle.versions.proofs.Halves.{each_at}
use Rattle.std.proofs.lemmas.List.{get_or_default}
use Rattle.versions.proofs.Newest.{at_time_is, newest_at, by_is_same}

-- of two places the version at the first is before that at the second
pub in_pairs : (t : List Install) (p q : ℕ) (d : Install) → AscendsByVersion t → p < q → q < length t →
    version_before (get_or t p d) (get_or t q d) ≡ true
in_pairs [] p q d up lt within = absurd (omega arith)
in_pairs (x ∷ t) p zero d up lt within = absurd (omega arith)
in_pairs (x ∷ t) zero (suc q) d up lt within = each_at (λ next. version_before x next ≡ true) t q d up.0 (omega arith)
in_pairs (x ∷ t) (suc p) (suc q) d up lt within = in_pairs t p q d up.1 (omega arith) (omega arith)

-- what passes one test at each place as it passes another leaves the same
pub same_filter : (f g : Install → Bool) (t : List Install) → ((j : ℕ) (d : Install) → j < length t → f (get_or t j d) ≡ g (get_or t j d)) →
    filter f t ≡ filter g t
same_filter f g [] same = refl
same_filter f g (x ∷ t) same = by_test (g x) (same 0 x (omega arith)) (same_filter f g t (λ j d lt. same (suc j) d (omega arith)))
  where
    by_test : (b : Bool) → f x ≡ b → filter f t ≡ filter g t → cond (f x) (x ∷ filter f t) (filter f t) ≡ cond b (x ∷ filter g t) (filter g t)
    by_test true k rest = rw k (ap (λ r. x ∷ r) rest)
    by_test false k rest = rw k rest

none_left : (t : List Install) → filter (λ i. false) t ≡ []
none_left [] = refl
none_left (x ∷ t) = none_left t

-- where no version is of the key, it has no value at any time
pub no_value : (t : List Install) (key : List ℕ) (at : ℕ) → ((j : ℕ) (d : Install) → j < length t → same_key (get_or t j d).key key ≡ false) →
    at_time t key at ≡ None
no_value t key at none = at_time_is key at t ∙ ap (λ f. follow (newest f) (λ i. i.value))
    (same_filter (is_by key at) (λ i. false) t (λ j d lt. rw (none j d lt) refl) ∙ none_left t)

differs : (a b : List ℕ) → key_before a b ≡ true → same_key a b ≡ false
differs a b before = false_from_ne_true (same_key a b)
    (λ same. false≢true (sym (key_before-irreflexive b) ∙ ap (λ z. key_before z b) (sym (same_key-is a b same)) ∙ before))

-- a version that is not after the key is of no later key
not_later : (key later : List ℕ) (at : ℕ) (x : Install) → is_not_after key at x ≡ true → key_before key later ≡ true → same_key x.key later ≡ false
not_later key later at x passes before = by_test (key_before x.key key) refl
  where
    by_test : (b : Bool) → key_before x.key key ≡ b → same_key x.key later ≡ false
    by_test true k = differs x.key later (key_before-trans x.key key later k before)
    by_test false k =
        let same : same_key x.key key ≡ true = grind (arith, nat_tests) in
        differs x.key later (ap (λ z. key_before z later) (same_key-is x.key key same) ∙ before)

-- a version that is of the next key or comes after it is of no key before that
not_earlier : (later : List ℕ) (next x : Install) → version_before next x ≡ true → key_before later next.key ≡ true → same_key x.key later ≡ false
not_earlier later next x order before = by_test (key_before next.key x.key) refl
  where
    by_test : (b : Bool) → key_before next.key x.key ≡ b → same_key x.key later ≡ false
    by_test true k = same_key_comm x.key later ∙ differs later x.key (key_before-trans later next.key x.key before k)
    by_test false k =
        let same : same_key next.key x.key ≡ true = grind (arith, nat_tests) in
        same_key_comm x.key later ∙ differs later x.key (ap (key_before later) (sym (same_key-is next.key x.key same)) ∙ before)

-- no key after this one has a value, where all versions are not after it
pub none_later : (key later : List ℕ) (greatest at : ℕ) (t : List Install) → AllUpTo key greatest t (length t) → key_before key later ≡ true →
    at_time t later at ≡ None
none_later key later greatest at t before lt = no_value t later at (λ j d within. not_later key later greatest (get_or t j d) (before j d within) lt)

-- the place is before another, it is that, or it comes after it
abbrev pub ByPlace : (Type 0) → ℕ → ℕ → Type 0
ByPlace R j p = (j < p → R) → (j ≡ p → R) → (p < j → R) → R

pub by_place : {R : Type 0} (j p : ℕ) → ByPlace R j p
by_place {R = R} j p before here after = by_tests (nat_lt j p) (nat_lt p j) refl refl
  where
    by_tests : (a b : Bool) → nat_lt j p ≡ a → nat_lt p j ≡ b → R
    by_tests true b k l = before (grind (arith, nat_tests))
    by_tests false true k l = after (grind (arith, nat_tests))
    by_tests false false k l = here (grind (arith, nat_tests))

-- no key between this one and that of the first version after it has a value
pub none_between : (key later : List ℕ) (greatest at p : ℕ) (t : List Install) (d : Install) → AscendsByVersion t → p < length t →
    AllUpTo key greatest t p → key_before key later ≡ true → key_before later (get_or t p d).key ≡ true → at_time t later at ≡ None
none_between key later greatest at p t d up within before above below = no_value t later at each
  where
    each : (j : ℕ) (e : Install) → j < length t → same_key (get_or t j e).key later ≡ false
    each j e lt = by_place j p (λ less. not_later key later greatest (get_or t j e) (before j e less) above)
        (λ same. same_key_comm (get_or t j e).key later ∙ ap (λ n. same_key later (get_or t n e).key) same
        ∙ ap (λ x. same_key later x.key) (get_or_default t p e d within) ∙ differs later (get_or t p d).key below)
        (λ more. not_earlier later (get_or t p d) (get_or t j e)
        (ap (λ x. version_before (get_or t p d) x) (get_or_default t j e d lt) ∙ in_pairs t p j d up more lt) below)

-- the first version that is after a key, and not above the greatest timestamp, is of a later key
pub is_later : (key : List ℕ) (greatest : ℕ) (x : Install) → is_not_after key greatest x ≡ false → nat_le x.at greatest ≡ true → key_before key x.key ≡ true
is_later key greatest x after in_time =
    key_before-total x.key key (grind (arith, nat_tests)) (grind (arith, nat_tests))

-- From the time on the versions of the key that are no later than another time are the same, if none of them comes between.
pub same_value : (key : List ℕ) (at later p : ℕ) (t : List Install) → at ≤ later → AllUpTo key at t p →
    ((j : ℕ) (d : Install) → p ≤ j → j < length t → is_by key later (get_or t j d) ≡ false) → AllAfter key at t p → at_time t key later ≡ at_time t key at
same_value key at later p t le before none after =
    at_time_is key later t ∙ ap (λ f. follow (newest f) (λ i. i.value)) (same_filter (is_by key later) (is_by key at) t each) ∙ sym (at_time_is key at t)
  where
    each : (j : ℕ) (d : Install) → j < length t → is_by key later (get_or t j d) ≡ is_by key at (get_or t j d)
    each j d lt = by_test (nat_lt j p) refl
      where
        by_test : (b : Bool) → nat_lt j p ≡ b → is_by key later (get_or t j d) ≡ is_by key at (get_or t j d)
        by_test true k = up_to (get_or t j d) (before j d (grind (arith, nat_tests)))
          where
            up_to : (x : Install) → is_not_after key at x ≡ true → is_by key later x ≡ is_by key at x
            up_to x passes = by_is_same key later x (grind (arith, nat_tests)) ∙ sym (by_is_same key at x passes)
        by_test false k = none j d (grind (arith, nat_tests)) lt ∙ sym (grind (arith, nat_tests, after j d (grind (arith, nat_tests)) lt))

-- no version of the key that is not above a time comes after the first that is after the key and an earlier time, if that is of another key
pub other_key : (key : List ℕ) (at later p j : ℕ) (t : List Install) (d e : Install) → AscendsByVersion t → p < length t → AllAfter key at t p →
    same_key (get_or t p d).key key ≡ false → p ≤ j → j < length t → is_by key later (get_or t j e) ≡ false
other_key key at later p j t d e up within after differ le lt = by_test (nat_lt p j) refl
  where
    by_test : (b : Bool) → nat_lt p j ≡ b → is_by key later (get_or t j e) ≡ false
    by_test true k = beyond (get_or t p d) (get_or t j e) (after p d (omega arith) within) differ
        (ap (λ x. version_before (get_or t p d) x) (get_or_default t j e d lt) ∙ in_pairs t p j d up (grind (arith, nat_tests)) lt)
      where
        beyond : (x y : Install) → is_not_after key at x ≡ false → same_key x.key key ≡ false → version_before x y ≡ true → is_by key later y ≡ false
        beyond x y out other before =
            let above : key_before key x.key ≡ true = key_before-total x.key key other (grind (arith, nat_tests)) in
            let no : same_key y.key key ≡ false = not_earlier key x y before above in
            rw no refl
    by_test false k =
        let here : get_or t j e ≡ get_or t p d = ap (λ n. get_or t n e) (level (grind (arith, nat_tests))) ∙ get_or_default t p e d within in
        let no : same_key (get_or t j e).key key ≡ false = ap (λ x. same_key x.key key) here ∙ differ in
        rw no refl
      where
        level : p ≡ j → j ≡ p
        level same = sym same

-- nor one that is below that version's time, if it is of the key
pub not_yet : (key : List ℕ) (at later p j : ℕ) (t : List Install) (d e : Install) → AscendsByVersion t → p < length t →
    (get_or t p d).key ≡ key → later < (get_or t p d).at → p ≤ j → j < length t → is_by key later (get_or t j e) ≡ false
not_yet key at later p j t d e up within own below le lt = by_test (nat_lt p j) refl
  where
    by_test : (b : Bool) → nat_lt p j ≡ b → is_by key later (get_or t j e) ≡ false
    by_test true k = beyond (get_or t p d) (get_or t j e) own below
        (ap (λ x. version_before (get_or t p d) x) (get_or_default t j e d lt) ∙ in_pairs t p j d up (grind (arith, nat_tests)) lt)
      where
        beyond : (x y : Install) → x.key ≡ key → later < x.at → version_before x y ≡ true → is_by key later y ≡ false
        beyond x y of less before = by_same (same_key y.key key) refl
          where
            by_same : (c : Bool) → same_key y.key key ≡ c → is_by key later y ≡ false
            by_same false m = rw m refl
            by_same true m =
                let one : x.key ≡ y.key = of ∙ sym (same_key-is y.key key m) in
                let level : key_before x.key y.key ≡ false = ap (key_before x.key) (sym one) ∙ key_before-irreflexive x.key in
                grind (arith, nat_tests)
    by_test false k =
        let here : get_or t j e ≡ get_or t p d = ap (λ n. get_or t n e) (level (grind (arith, nat_tests))) ∙ get_or_default t p e d within in
        ap (is_by key later) here ∙ late (get_or t p d) below
      where
        level : p ≡ j → j ≡ p
        level same = sym same

        late : (x : Install) → later < x.at → is_by key later x ≡ false
        late x less = grind (arith, nat_tests)

-- at its own timestamp the first version of the key after a time is its value
pub value_there : (key : List ℕ) (at p : ℕ) (t : List Install) (d : Install) → AscendsByVersion t → p < length t → AllUpTo key at t p →
    (get_or t p d).key ≡ key → at ≤ (get_or t p d).at → at_time t key (get_or t p d).at ≡ (get_or t p d).value
value_there key at p t d up within before own le =
    at_time_is key (get_or t p d).at t ∙ ap (λ f. follow f (λ i. i.value))
    (newest_at key (get_or t p d).at t p (get_or t p d) up within (get_or_default t p d (get_or t p d) within) up_to beyond
    ∙ ap (λ b. cond b (Some (get_or t p d)) None) (ap (λ k. same_key k key) own ∙ same_key-refl key))
  where
    up_to : AllUpTo key (get_or t p d).at t (p + 1)
    up_to j e lt = by_test (nat_lt j p) refl
      where
        by_test : (b : Bool) → nat_lt j p ≡ b → is_not_after key (get_or t p d).at (get_or t j e) ≡ true
        by_test true k = sooner (get_or t j e) (before j e (grind (arith, nat_tests)))
          where
            sooner : (x : Install) → is_not_after key at x ≡ true → is_not_after key (get_or t p d).at x ≡ true
            sooner x passes = grind (arith, nat_tests)
        by_test false k =
            let here : get_or t j e ≡ get_or t p d = ap (λ n. get_or t n e) (level (grind (arith, nat_tests))) ∙ get_or_default t p e d within in
            ap (is_not_after key (get_or t p d).at) here ∙ itself (get_or t p d) own
          where
            level : p ≡ j → j ≡ p
            level same = sym same

            itself : (x : Install) → x.key ≡ key → is_not_after key x.at x ≡ true
            itself x of =
                let same : same_key x.key key ≡ true = ap (λ k. same_key k key) of ∙ same_key-refl key in
                grind (arith, nat_tests)

    beyond : AllAfter key (get_or t p d).at t (p + 1)
    beyond j e ge lt = after_it (get_or t p d) (get_or t j e) own
        (ap (λ x. version_before (get_or t p d) x) (get_or_default t j e d lt) ∙ in_pairs t p j d up (omega arith) lt)
      where
        after_it : (x y : Install) → x.key ≡ key → version_before x y ≡ true → is_not_after key x.at y ≡ false
        after_it x y of order = by_same (key_before x.key y.key) refl
          where
            by_same : (c : Bool) → key_before x.key y.key ≡ c → is_not_after key x.at y ≡ false
            by_same true m =
                let above : key_before key y.key ≡ true = ap (λ k. key_before k y.key) (sym of) ∙ m in
                let other : same_key y.key key ≡ false = same_key_comm y.key key ∙ differs key y.key above in
                let under : key_before y.key key ≡ false = false_from_ne_true (key_before y.key key)
                (λ back. false≢true (sym (key_before-irreflexive key) ∙ key_before-trans key y.key key above back)) in
                rw (other, under) refl
            by_same false m =
                let same : same_key x.key y.key ≡ true = grind (arith, nat_tests) in
                let under : key_before y.key key ≡ false =
                ap (key_before y.key) (sym of ∙ same_key-is x.key y.key same) ∙ key_before-irreflexive y.key in
                grind (arith, nat_tests)

-- the first version after a key and a time, where it is of the key
pub next_is : (key : List ℕ) (at p : ℕ) (t : List Install) (next : Install) → AscendsByVersion t → p < length t → get_or t p next ≡ next → next.key ≡ key →
    AllUpTo key at t p → AllAfter key at t p → IsNextVersion t key at (Some next)
next_is key at p t next up within is own before after =
    let of : (get_or t p next).key ≡ key = ap (λ x. x.key) is ∙ own in
    let same : same_key next.key key ≡ true = ap (λ k. same_key k key) own ∙ same_key-refl key in
    let out : is_not_after key at next ≡ false = ap (is_not_after key at) (sym is) ∙ after p next (omega arith) within in
    let above : at < next.at = grind (arith, nat_tests) in (
      own,
      above,
      ap (λ x. at_time t key x.at) (sym is) ∙ value_there key at p t next up within before of (subst (λ (x : Install). at ≤ x.at) (sym is) (omega (arith, above)))
          ∙ ap (λ x. x.value) is,
      λ later le lt. same_value key at later p t le before
          (λ j e from inside. not_yet key at later p j t next e up within of (subst (λ (x : Install). later < x.at) (sym is) lt) from inside) after,
    )
