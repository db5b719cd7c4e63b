-- What each transaction keeps holds of every snapshot.
use Rattle.std.proofs.Common.{◌≡◌, inl, inr, ℕ, ◌<◌, ◌≤◌, Bool, true, false, cond, nat_le, nat_lt, List, [], ◌∷◌, ◌++◌, refl, sym, ap, subst, ◌∙◌, arith, filter}
use Rattle.std.proofs.lemmas.Bool.Decides.{nat_tests}
use Rattle.units.specs.Ids.{Id}
use Rattle.units.specs.declared.line.Line.{Line}
use Rattle.units.specs.declared.writes.Write.{Write}
use Rattle.record.specs.History.{Txn, Map, history, serial_before, serial, put_all, applied, empty, before, upto}
use Rattle.record.specs.declared.record.Record.{Record}
use Rattle.law.specs.Among.{IsAmong}
use Rattle.world.specs.Headline.{IsExternallyConsistent}
use Rattle.world.specs.declared.event.Config.{Config}
use Rattle.law.proofs.Members.{among_right}
use Rattle.accounts.specs.Keeping.{AgreesWithReads}
use Rattle.law.proofs.Serial.{serial_has}
use Rattle.law.proofs.InOrder.{Apart, Strict, apart, found, serial_from, serial_strict, in_history_once, in_front, before_low, applied_more, nobody}

append_one : (pre : List Txn) (u : Txn) (post : List Txn) → (pre ++ u ∷ []) ++ post ≡ pre ++ u ∷ post
append_one [] u post = refl
append_one (p ∷ ps) u post = ap (λ (l : List Txn). p ∷ l) (append_one ps u post)

strict_later : (pre : List Txn) (u : Txn) (post : List Txn) → Strict (pre ++ u ∷ post) → (v : Txn) → IsAmong post v → u.at ≤ v.at
strict_later [] u post s v k = before_low u v (s.0 v k)
strict_later (p ∷ ps) u post s v k = strict_later ps u post s.1 v k

strict_earlier : (pre : List Txn) (u : Txn) (post : List Txn) → Strict (pre ++ u ∷ post) → (v : Txn) → IsAmong pre v → v.at ≤ u.at
strict_earlier [] u post s v k = absurd k
strict_earlier (p ∷ ps) u post s v (inl same) = subst (λ z. z.at ≤ u.at) same (before_low p u (s.0 u (among_right ps (u ∷ post) u (inl refl))))
strict_earlier (p ∷ ps) u post s v (inr later) = strict_earlier ps u post s.1 v later

-- what stands in a list stands between two parts of it
parted : (l : List Txn) (u : Txn) → IsAmong l u → (pre : List Txn) × (post : List Txn) × (l ≡ pre ++ u ∷ post)
parted [] u k = absurd k
parted (t ∷ ts) u (inl same) = ([], ts, ap (λ z. z ∷ ts) same)
parted (t ∷ ts) u (inr later) = let rest = parted ts u later in (t ∷ rest.0, rest.1, ap (λ (l : List Txn). t ∷ l) rest.2)

-- a transaction keeps a property
abbrev pub Keeps : (Map → Type 0) → List Line → Id → List Write → Type 0
Keeps P lines t ws = (m : Map) → AgreesWithReads lines t m → P m → P (put_all ws m)

module _ (P : Map → Type 0) (config : Config) (logs : List (List Record)) (lines : List Line) (law : IsExternallyConsistent config logs lines) where
  abbrev h : List Txn
  h = history logs

  each_apart : Apart h
  each_apart = apart h (λ t. in_history_once logs t (law.all_or_nothing t).0)

  strict : Strict (serial h)
  strict = serial_strict h each_apart

  -- what a transaction read is what those in front of it left
  agrees : (pre : List Txn) (u : Txn) (post : List Txn) → serial h ≡ pre ++ u ∷ post → AgreesWithReads lines u.txn (applied pre empty)
  unfolding before
  agrees pre u post e k x line =
      let among : IsAmong h u = serial_from h u (subst (λ l. IsAmong l u) (sym e) (among_right pre (u ∷ post) u (inl refl))) in
      let front : filter (λ v. serial_before v u) (serial h) ≡ pre = ap (λ l. filter (λ v. serial_before v u) l) e
      ∙ in_front pre u post (subst Strict e strict) in
      sym (ap (λ l. applied l empty k) front) ∙ law.reads u.txn k x u line (found h u each_apart among)

  module _ (low : ℕ → Bool) (at : ℕ) (falls : (a b : ℕ) → a ≤ b → low a ≡ false → low b ≡ false) (below : (a : ℕ) → low a ≡ true → a ≤ at)
      (keeps : (u : Txn) → IsAmong h u → low u.at ≡ false → u.at ≤ at → Keeps P lines u.txn u.writes) where
    abbrev below_at : Txn → Bool
    below_at v = nat_le v.at at

    abbrev is_low : Txn → Bool
    is_low v = low v.at

    is_below : (a b : ℕ) → a ≤ b → nat_le a b ≡ true
    is_below a b k = grind (arith, nat_tests)

    goes_on : (pre post : List Txn) → serial h ≡ pre ++ post → P (applied (filter is_low post) (applied pre empty)) →
        P (applied (filter below_at post) (applied pre empty))
    goes_on pre [] e p = p
    goes_on pre (u ∷ post) e p = by_low (low u.at) refl p (λ next q. goes_on (pre ++ u ∷ []) post next q)
      where
        next : serial h ≡ (pre ++ u ∷ []) ++ post
        next = e ∙ sym (append_one pre u post)

        among : IsAmong h u
        among = serial_from h u (subst (λ l. IsAmong l u) (sym e) (among_right pre (u ∷ post) u (inl refl)))

        later : (v : Txn) → IsAmong post v → u.at ≤ v.at
        later = strict_later pre u post (subst Strict e strict)

        more : applied (pre ++ u ∷ []) empty ≡ put_all u.writes (applied pre empty)
        more = applied_more pre u empty

        Rest : Type 0
        Rest = serial h ≡ (pre ++ u ∷ []) ++ post → P (applied (filter is_low post) (applied (pre ++ u ∷ []) empty)) →
            P (applied (filter below_at post) (applied (pre ++ u ∷ []) empty))

        by_time : (b : Bool) → nat_le u.at at ≡ b → low u.at ≡ false → P (applied pre empty) → Rest →
            P (applied (cond b (u ∷ filter below_at post) (filter below_at post)) (applied pre empty))
        by_time true t f q rest =
            let none : filter is_low post ≡ [] = nobody is_low post (λ v k. falls u.at v.at (later v k) f) in
            let now : P (put_all u.writes (applied pre empty)) = keeps u among f (le u.at at t) (applied pre empty) (agrees pre u post e) q in
            subst (λ m. P (applied (filter below_at post) m)) more
            (rest next (subst (λ l. P (applied l (applied (pre ++ u ∷ []) empty))) (sym none) (subst P (sym more) now)))
          where
            le : (a b : ℕ) → nat_le a b ≡ true → a ≤ b
            le a b k = grind (arith, nat_tests)
        by_time false t f q rest =
            let none : filter below_at post ≡ [] = nobody below_at post (λ v k. above u.at v.at at (later v k) t) in
            subst (λ l. P (applied l (applied pre empty))) (sym none) q
          where
            above : (a b c : ℕ) → a ≤ b → nat_le a c ≡ false → nat_le b c ≡ false
            above a b c k j = grind (arith, nat_tests)

        by_low : (b : Bool) → low u.at ≡ b → P (applied (cond b (u ∷ filter is_low post) (filter is_low post)) (applied pre empty)) → Rest →
            P (applied (filter below_at (u ∷ post)) (applied pre empty))
        by_low true f q rest =
            subst (λ b. P (applied (cond b (u ∷ filter below_at post) (filter below_at post)) (applied pre empty))) (sym (is_below u.at at (below u.at f)))
            (subst (λ m. P (applied (filter below_at post) m)) more (rest next (subst (λ m. P (applied (filter is_low post) m)) (sym more) q)))
        by_low false f q rest =
            let none : filter is_low post ≡ [] = nobody is_low post (λ v k. falls u.at v.at (later v k) f) in
            by_time (nat_le u.at at) refl f (subst (λ l. P (applied l (applied pre empty))) none q) rest

  pub kept_between : (from at : ℕ) → from ≤ at → P (upto h from) → ((u : Txn) → IsAmong h u → from < u.at → u.at ≤ at →
      Keeps P lines u.txn u.writes) → P (upto h at)
  unfolding upto
  kept_between from at le p keeps =
      goes_on (λ a. nat_le a from) at (λ a b k f. falls a b k f) (λ a k. below a k) (λ u k f l. keeps u k (above u.at f) l) [] (serial h) refl p
    where
      falls : (a b : ℕ) → a ≤ b → nat_le a from ≡ false → nat_le b from ≡ false
      falls a b k f = grind (arith, nat_tests)

      below : (a : ℕ) → nat_le a from ≡ true → a ≤ at
      below a k = grind (arith, nat_tests)

      above : (a : ℕ) → nat_le a from ≡ false → from < a
      above a k = grind (arith, nat_tests)

  pub kept_always : (at : ℕ) → P empty → ((u : Txn) → IsAmong h u → u.at ≤ at → Keeps P lines u.txn u.writes) → P (upto h at)
  unfolding upto
  kept_always at p keeps =
      goes_on (λ a. false) at (λ a b k f. refl) (λ a k. cc) (λ u k f l. keeps u k l) [] (serial h) refl
      (subst (λ l. P (applied l empty)) (sym (nobody (λ v. false) (serial h) (λ u k. refl))) p)

  -- what a transaction brings about and all others keep holds of every snapshot from it on
  pub kept_behind : (u : Txn) (at : ℕ) → IsAmong h u → u.at ≤ at → ((m : Map) → AgreesWithReads lines u.txn m → P (put_all u.writes m))
      → ((v : Txn) → IsAmong h v → Keeps P lines v.txn v.writes) → P (upto h at)
  unfolding upto
  kept_behind u at among le brings keeps =
      let parts = parted (serial h) u (serial_has h u among) in
      let pre = parts.0 in
      let post = parts.1 in
      let s : Strict (pre ++ u ∷ post) = subst Strict parts.2 strict in
      let none : filter (λ v. nat_lt v.at u.at) post ≡ [] = nobody (λ v. nat_lt v.at u.at) post (λ v k. not_below u.at v.at (strict_later pre u post s v k)) in
      let more : applied (pre ++ u ∷ []) empty ≡ put_all u.writes (applied pre empty) = applied_more pre u empty in
      let now : P (applied (pre ++ u ∷ []) empty) = subst P (sym more) (brings (applied pre empty) (agrees pre u post parts.2)) in
      let rest = goes_on (λ a. nat_lt a u.at) at (λ a b k f. falls a b k f) (λ a k. below a k) (λ v k f l. keeps v k) (pre ++ u ∷ []) post
      (parts.2 ∙ sym (append_one pre u post)) (subst (λ l. P (applied l (applied (pre ++ u ∷ []) empty))) (sym none) now) in
      subst (λ l. P (applied (filter (λ v. nat_le v.at at) l) empty)) (sym parts.2)
      (subst P (sym (upto_parted pre post empty (λ v k. trans v.at u.at at (strict_earlier pre u post s v k) le))) rest)
    where
      falls : (a b : ℕ) → a ≤ b → nat_lt a u.at ≡ false → nat_lt b u.at ≡ false
      falls a b k f = grind (arith, nat_tests)

      below : (a : ℕ) → nat_lt a u.at ≡ true → a ≤ at
      below a k = grind (arith, nat_tests)

      not_below : (a b : ℕ) → a ≤ b → nat_lt b a ≡ false
      not_below a b k = grind (arith, nat_tests)

      is_below_at : (a : ℕ) → a ≤ at → nat_le a at ≡ true
      is_below_at a k = grind (arith, nat_tests)

      trans : (a b c : ℕ) → a ≤ b → b ≤ c → a ≤ c
      trans a b c k l = omega (arith, k, l)

      upto_parted : (front back : List Txn) (m : Map) → ((v : Txn) → IsAmong front v → v.at ≤ at) →
          applied (filter (λ v. nat_le v.at at) (front ++ u ∷ back)) m ≡ applied (filter (λ v. nat_le v.at at) back) (applied (front ++ u ∷ []) m)
      upto_parted [] back m low =
          ap (λ b. applied (cond b (u ∷ filter (λ v. nat_le v.at at) back) (filter (λ v. nat_le v.at at) back)) m) (is_below_at u.at le)
      upto_parted (p ∷ ps) back m low =
          ap (λ b. applied (cond b (p ∷ filter (λ v. nat_le v.at at) (ps ++ u ∷ back)) (filter (λ v. nat_le v.at at) (ps ++ u ∷ back))) m)
          (is_below_at p.at (low p (inl refl)))
          ∙ upto_parted ps back (put_all p.writes m) (λ v k. low v (inr k))
