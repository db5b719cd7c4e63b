-- The session of an id, by its place in the code.
use Rattle.std.proofs.Common.{◌≡◌, inl, inr, ℕ, zero, suc, ◌+◌, ◌<◌, ◌≤◌, Bool, true, false, not, ◌&&◌, ◌||◌, cond, nat_lt, List, [], ◌∷◌, ◌++◌, length, map}
use Rattle.std.proofs.Common.{get_or, set, Option, Some, None, Result, Ok, Err, refl, sym, ap, ◌∙◌, subst, arith, filter}
use Rattle.std.proofs.lemmas.Bool.{and_parts, or_parts, and_from}
use Rattle.std.specs.HashSet.{HashSet}
use Rattle.std.specs.List.{position, position_or_len, list_any}
use Rattle.std.proofs.lemmas.List.{get_or-map, length-map}
use Rattle.std.proofs.lemmas.List.Quantifiers.{position-Some}
use Rattle.std.proofs.lemmas.List.Sums.{prefix_len-le-length}
use Rattle.indexmap.specs.IndexSet.{insert_key}
use Rattle.std.proofs.lemmas.Bool.Decides.{nat_tests}
use Rattle.units.specs.Lists.{first, head, when}
use Rattle.units.specs.Ids.{Id, same_id}
use Rattle.units.specs.Keys.{Bytes}
use Rattle.units.proofs.IdLaws.{same_id-refl, same_id_comm, same_id-is}
use Rattle.units.proofs.Folds.{any_append}
use Rattle.units.specs.declared.fault.Fault.{Fault}
use Rattle.units.specs.declared.fault.Fault.TheVariants.{Stranger}
use Rattle.units.specs.declared.line.Line.{Line}
use Rattle.message.specs.declared.message.Envelope.{Envelope}
use Rattle.message.specs.declared.message.ReadAnswer.{ReadAnswer}
use Rattle.session.specs.Sessions.{Client, Moved, begun, finishes}
use Rattle.world.specs.Held.{IsBegun, Moves, Hears, when_open}
use Rattle.world.specs.Hosts.{AreBegun, Hosts, HearsIn, MovesIn, are_once, session_step, with_client}
use Rattle.world.proofs.HeldSteps.{hears_keeps}
use Rattle.world.specs.declared.begun.Begun.{Begun}
use Rattle.world.specs.declared.hosting.Sessions.{Sessions}

abbrev pub place_of : List Begun → Id → ℕ
place_of bs t = position_or_len (λ b. same_id b.txn t) bs

abbrev pub client_at : List Client → Id → Option Client
client_at cs t = first (λ c. same_id c.txn t) cs

abbrev Tested : Client → List Client → Id → Bool → Option Client
Tested c cs t b = head (cond b (c ∷ filter (λ d. same_id d.txn t) cs) (filter (λ d. same_id d.txn t) cs))

same_txn : (splits : List Bytes) (b : Begun) (c : Client) (t : Id) → IsBegun splits b c → same_id c.txn t ≡ same_id b.txn t
same_txn splits b c t h = ap (λ i. same_id i t) h.txn

-- the session that stands at the place is that of the id
pub found : (splits : List Bytes) (bs : List Begun) (cs : List Client) (t : Id) (i : ℕ) (b : Begun) → AreBegun splits bs cs → i ≡ place_of bs t →
    i < length bs → b ≡ get_or bs i b
    → (c : Client) × (client_at cs t ≡ Some c) × IsBegun splits b c × (same_id b.txn t ≡ true)
found splits [] [] t i b h at lt is = absurd (omega arith)
found splits [] (c ∷ cs) t i b h at lt is = absurd h
found splits (x ∷ bs) [] t i b h at lt is = absurd h
found splits (x ∷ bs) (c ∷ cs) t zero b h at lt is =
    let same : same_id x.txn t ≡ true = grind (arith, nat_tests) in
    (c, ap (Tested c cs t) (same_txn splits x c t h.0 ∙ same), subst (λ y. IsBegun splits y c) (sym is) h.0, ap (λ y. same_id y.txn t) is ∙ same)
found splits (x ∷ bs) (c ∷ cs) t (suc i) b h at lt is =
    let other : same_id x.txn t ≡ false = grind (arith, nat_tests) in
    let rest = found splits bs cs t i b h.1 (grind (arith, nat_tests)) (omega arith) is in
    (rest.0, ap (Tested c cs t) (same_txn splits x c t h.0 ∙ other) ∙ rest.1, rest.2, rest.3)

-- where there is no place there is none
pub absent : (splits : List Bytes) (bs : List Begun) (cs : List Client) (t : Id) → AreBegun splits bs cs → length bs ≤ place_of bs t → client_at cs t ≡ None
absent splits [] [] t h none = refl
absent splits [] (c ∷ cs) t h none = absurd h
absent splits (x ∷ bs) [] t h none = absurd h
absent splits (x ∷ bs) (c ∷ cs) t h none =
    let other : same_id x.txn t ≡ false = grind (arith, nat_tests) in
    ap (Tested c cs t) (same_txn splits x c t h.0 ∙ other) ∙ absent splits bs cs t h.1 (grind (arith, nat_tests))

-- another in its place leaves the rest
not_is : (a : Bool) → not a ≡ true → a ≡ false
not_is true e = cc
not_is false e = refl

none_changed : (d : Client) (cs : List Client) → list_any (λ e. same_id e.txn d.txn) cs ≡ false → with_client d cs ≡ cs
none_changed d [] h = refl
none_changed d (c ∷ cs) h =
    let p = or_parts (same_id c.txn d.txn) (list_any (λ e. same_id e.txn d.txn) cs) h in
    (λ i. cond (p.0 i) d c ∷ none_changed d cs p.1 i)

pub placed : (splits : List Bytes) (bs : List Begun) (cs : List Client) (t : Id) (i : ℕ) (b : Begun) (d : Client) → AreBegun splits bs cs → are_once cs ≡ true
    → i ≡ place_of bs t → i < length bs → IsBegun splits b d → same_id d.txn t ≡ true → AreBegun splits (set bs i b) (with_client d cs)
placed splits [] [] t i b d h once at lt is same = absurd (omega arith)
placed splits [] (c ∷ cs) t i b d h once at lt is same = absurd h
placed splits (x ∷ bs) [] t i b d h once at lt is same = absurd h
placed splits (x ∷ bs) (c ∷ cs) t zero b d h once at lt is same =
    let here : same_id x.txn t ≡ true = grind (arith, nat_tests) in
    let id : c.txn ≡ d.txn = same_id-is c.txn t (same_txn splits x c t h.0 ∙ here) ∙ sym (same_id-is d.txn t same) in
    let first_is : d ≡ cond (same_id c.txn d.txn) d c = sym (ap (λ u. cond (same_id c.txn u) d c) (sym id) ∙ ap (λ v. cond v d c) (same_id-refl c.txn)) in
    let others : with_client d cs ≡ cs = none_changed d cs (ap (λ u. list_any (λ e. same_id e.txn u) cs) (sym id) ∙ not_is _ ((and_parts _ _ once).0)) in
    (subst (IsBegun splits b) first_is is, subst (AreBegun splits bs) (sym others) h.1)
placed splits (x ∷ bs) (c ∷ cs) t (suc i) b d h once at lt is same =
    let other : same_id x.txn t ≡ false = grind (arith, nat_tests) in
    let differs : same_id c.txn d.txn ≡ false = ap (same_id c.txn) (same_id-is d.txn t same) ∙ same_txn splits x c t h.0 ∙ other in (
      subst (IsBegun splits x) (sym (ap (λ v. cond v d c) differs)) h.0,
      placed splits bs cs t i b d h.1 ((and_parts _ _ once).1) (grind (arith, nat_tests)) (omega arith) is same,
    )

-- the same one put back leaves all
pub put_back : (splits : List Bytes) (bs : List Begun) (cs : List Client) (t : Id) (i : ℕ) (b : Begun) (c : Client) → AreBegun splits bs cs
    → i ≡ place_of bs t → i < length bs → client_at cs t ≡ Some c → IsBegun splits b c → AreBegun splits (set bs i b) cs
put_back splits [] [] t i b d h at lt is new = absurd (omega arith)
put_back splits [] (c ∷ cs) t i b d h at lt is new = absurd h
put_back splits (x ∷ bs) [] t i b d h at lt is new = absurd h
put_back splits (x ∷ bs) (c ∷ cs) t zero b d h at lt is new =
    let here : same_id x.txn t ≡ true = grind (arith, nat_tests) in
    let one : Some c ≡ Some d = sym (ap (Tested c cs t) (same_txn splits x c t h.0 ∙ here)) ∙ is in
    let same : d ≡ c = cc in
    (subst (IsBegun splits b) same new, h.1)
put_back splits (x ∷ bs) (c ∷ cs) t (suc i) b d h at lt is new =
    let other : same_id x.txn t ≡ false = grind (arith, nat_tests) in
    (h.0, put_back splits bs cs t i b d h.1 (grind (arith, nat_tests)) (omega arith) (sym (ap (Tested c cs t) (same_txn splits x c t h.0 ∙ other)) ∙ is) new)

-- no id comes twice
chosen_txn : (d c : Client) → (cond (same_id c.txn d.txn) d c).txn ≡ c.txn
chosen_txn d c = by_test (same_id c.txn d.txn) refl
  where
    by_test : (b : Bool) → same_id c.txn d.txn ≡ b → (cond b d c).txn ≡ c.txn
    by_test true e = sym (same_id-is c.txn d.txn e)
    by_test false e = refl

any_with : (d : Client) (cs : List Client) (t : Id) → list_any (λ e. same_id e.txn t) (with_client d cs) ≡ list_any (λ e. same_id e.txn t) cs
any_with d [] t = refl
any_with d (c ∷ cs) t = (λ i. same_id (chosen_txn d c i) t || any_with d cs t i)

pub once_with : (d : Client) (cs : List Client) → are_once (with_client d cs) ≡ are_once cs
once_with d [] = refl
once_with d (c ∷ cs) = (λ i. not ((ap (λ u. list_any (λ e. same_id e.txn u) (with_client d cs)) (chosen_txn d c) ∙ any_with d cs c.txn) i) && once_with d cs i)

none_has : (cs : List Client) (t : Id) → client_at cs t ≡ None → list_any (λ c. same_id c.txn t) cs ≡ false
none_has [] t e = refl
none_has (c ∷ cs) t e = by_test (same_id c.txn t) e (none_has cs t)
  where
    by_test : (b : Bool) → Tested c cs t b ≡ None → (client_at cs t ≡ None → list_any (λ d. same_id d.txn t) cs ≡ false) →
        (b || list_any (λ d. same_id d.txn t) cs) ≡ false
    by_test true k rest = absurd (cc)
    by_test false k rest = rest k

pub once_more : (cs : List Client) (c : Client) → are_once cs ≡ true → list_any (λ d. same_id d.txn c.txn) cs ≡ false → are_once (cs ++ c ∷ []) ≡ true
once_more [] c h new = refl
once_more (x ∷ cs) c h new =
    let p = and_parts _ _ h in
    let n = or_parts _ _ new in
    let apart : list_any (λ d. same_id d.txn x.txn) (cs ++ c ∷ []) ≡ false =
    any_append (λ d. same_id d.txn x.txn) cs (c ∷ []) ∙ (λ i. not_is _ p.0 i || ((same_id_comm c.txn x.txn ∙ n.0) i || false)) in
    and_from _ _ (ap not apart) (once_more cs c p.1 n.1)

pub begun_more : (splits : List Bytes) (bs : List Begun) (cs : List Client) (b : Begun) (c : Client) → AreBegun splits bs cs → IsBegun splits b c
    → AreBegun splits (bs ++ b ∷ []) (cs ++ c ∷ [])
begun_more splits [] [] b c h is = (is, tt)
begun_more splits [] (d ∷ cs) b c h is = absurd h
begun_more splits (x ∷ bs) [] b c h is = absurd h
begun_more splits (x ∷ bs) (d ∷ cs) b c h is = (h.0, begun_more splits bs cs b c h.1 is)

-- ---- the ids of the sessions

abbrev ids_of : List Begun → List Id
ids_of bs = map (λ b. b.txn) bs

ids_append : (bs : List Begun) (b : Begun) → ids_of (bs ++ b ∷ []) ≡ ids_of bs ++ b.txn ∷ []
ids_append [] b = refl
ids_append (x ∷ bs) b = ap (λ ks. x.txn ∷ ks) (ids_append bs b)

ids_set : (bs : List Begun) (i : ℕ) (b old : Begun) → i < length bs → old ≡ get_or bs i old → b.txn ≡ old.txn → ids_of (set bs i b) ≡ ids_of bs
ids_set [] i b old lt is txn = refl
ids_set (x ∷ bs) zero b old lt is txn = (λ i. (txn ∙ ap (λ y. y.txn) is) i ∷ ids_of bs)
ids_set (x ∷ bs) (suc i) b old lt is txn = ap (λ ks. x.txn ∷ ks) (ids_set bs i b old (omega arith) is txn)

-- an id stands among those of the code where its session stands in the definitions
is_new : (splits : List Bytes) (bs : List Begun) (cs : List Client) (t : Id) → AreBegun splits bs cs →
    list_any (same_id t) (ids_of bs) ≡ list_any (λ c. same_id c.txn t) cs
is_new splits [] [] t h = refl
is_new splits [] (c ∷ cs) t h = absurd h
is_new splits (b ∷ bs) [] t h = absurd h
is_new splits (b ∷ bs) (c ∷ cs) t h = (λ i. (same_id_comm t b.txn ∙ sym (same_txn splits b c t h.0)) i || is_new splits bs cs t h.1 i)

-- the place of an id is that of its session
pub place_by_id : (bs : List Begun) (t : Id) → position_or_len (same_id t) (ids_of bs) ≡ place_of bs t
place_by_id [] t = refl
place_by_id (b ∷ bs) t = (λ i. cond (not (same_id_comm t b.txn i)) (1 + place_by_id bs t i) 0)

-- where an id is found its session stands
pub placed_by : (bs : List Begun) (ids : List Id) (t : Id) (i : ℕ) (d : Begun) → ids ≡ ids_of bs → position (same_id t) ids ≡ Some i
    → (i ≡ place_of bs t) × (i < length bs) × (same_id (get_or bs i d).txn t ≡ true)
placed_by bs ids t i d same found =
    let p = position-Some (same_id t) (ids_of bs) i d.txn (ap (position (same_id t)) (sym same) ∙ found) in
    let within : i < length bs = subst (λ n. i < n) (length-map bs (λ b. b.txn)) p.0 in
    let there : same_id (get_or bs i d).txn t ≡ true =
    same_id_comm (get_or bs i d).txn t ∙ ap (same_id t) (sym (get_or-map (λ (b : Begun). b.txn) bs i d d.txn within)) ∙ p.1 in
    (by_test (nat_lt (position_or_len (same_id t) (ids_of bs)) (length (ids_of bs))) (ap (position (same_id t)) (sym same) ∙ found), within, there)
  where
    by_test : (b : Bool) → cond b (Some (position_or_len (same_id t) (ids_of bs))) None ≡ Some i → i ≡ place_of bs t
    by_test true is = let at : position_or_len (same_id t) (ids_of bs) ≡ i = cc in sym at ∙ place_by_id bs t
    by_test false is = let clash : ◌≡◌ {A = Option ℕ} None (Some i) = is in cc

-- and where it is not found there is none
pub not_placed : (bs : List Begun) (ids : List Id) (t : Id) → ids ≡ ids_of bs → position (same_id t) ids ≡ None → length bs ≡ place_of bs t
not_placed bs ids t same none =
    by_test (nat_lt (position_or_len (same_id t) (ids_of bs)) (length (ids_of bs))) refl (ap (position (same_id t)) (sym same) ∙ none)
  where
    most : place_of bs t ≤ length bs
    most = prefix_len-le-length (λ b. not (same_id b.txn t)) bs

    by_test : (b : Bool) → nat_lt (position_or_len (same_id t) (ids_of bs)) (length (ids_of bs)) ≡ b
        → cond b (Some (position_or_len (same_id t) (ids_of bs))) None ≡ None → length bs ≡ place_of bs t
    by_test true e is = let clash : ◌≡◌ {A = Option ℕ} (Some (position_or_len (same_id t) (ids_of bs))) None = is in cc
    by_test false e is = grind (arith, nat_tests, e, most, place_by_id bs t, length-map bs (λ b. b.txn))

pub ids_in : (splits : List Bytes) (s : Sessions) (cs : List Client) (bs : List Begun) → Hosts splits s cs → bs ≡ s.begun.items → s.ids.keys ≡ ids_of bs
ids_in splits s cs bs h same = h.ids_are ∙ ap ids_of (sym same)

pub begins : (splits : List Bytes) (s new : Sessions) (cs : List Client) (b : Begun) (t : Id) → Hosts splits s cs → client_at cs t ≡ None →
    IsBegun splits b (begun t)
    → new.splits.now ≡ splits → new.ids.keys ≡ insert_key same_id s.ids.keys t → new.begun.items ≡ s.begun.items ++ b ∷ []
    → Hosts splits new (cs ++ begun t ∷ [])
begins splits s new cs b t h none is same ids pushed = record {
  splits_are = same;
  ids_are = ids ∙ ap (λ ks. insert_key same_id ks t) h.ids_are
      ∙ ap (λ w. cond w (ids_of s.begun.items) (ids_of s.begun.items ++ t ∷ [])) (is_new splits s.begun.items cs t h.begun ∙ none_has cs t none)
      ∙ ap (λ u. ids_of s.begun.items ++ u ∷ []) is.txn ∙ sym (ids_append s.begun.items b) ∙ ap ids_of (sym pushed);
  begun = subst (λ bs. AreBegun splits bs (cs ++ begun t ∷ [])) (sym pushed) (begun_more splits s.begun.items cs b (begun t) h.begun is);
  once = once_more cs (begun t) h.once (none_has cs t none);
}

-- it has begun
pub has_place : (splits : List Bytes) (bs : List Begun) (cs : List Client) (t : Id) (i : ℕ) → AreBegun splits bs cs → i ≡ place_of bs t
    → ((i < length bs) → when (λ c. true) (client_at cs t) ≡ true) × ((length bs ≤ i) → when (λ c. true) (client_at cs t) ≡ false)
has_place splits [] [] t i h at = (λ lt. absurd (omega arith), λ le. refl)
has_place splits [] (c ∷ cs) t i h at = absurd h
has_place splits (x ∷ bs) cs t i h at = (
  λ lt. ap (when (λ c. true)) (found splits (x ∷ bs) cs t i (get_or (x ∷ bs) i x) h at lt (there (x ∷ bs) i x lt)).1,
  λ le. ap (when (λ c. true)) (absent splits (x ∷ bs) cs t h (omega (arith, le, at))),
)
  where
    there : (ys : List Begun) (j : ℕ) (z : Begun) → j < length ys → get_or ys j z ≡ get_or ys j (get_or ys j z)
    there [] j z lt = absurd (omega arith)
    there (y ∷ ys) zero z lt = refl
    there (y ∷ ys) (suc j) z lt = there ys j z (omega arith)

-- ---- a step of one session is one of all

module _ (splits : List Bytes) (s new : Sessions) (cs : List Client) (t : Id) (at : ℕ) (old b : Begun) (h : Hosts splits s cs)
    (place : at ≡ place_of s.begun.items t) (within : at < length s.begun.items) (taken : old ≡ get_or s.begun.items at old)
    (same : new.splits.now ≡ splits) (ids : new.ids ≡ s.ids) (put : new.begun.items ≡ set s.begun.items at b)
    (client : Client) (is : client_at cs t ≡ Some client) (stands : IsBegun splits old client) (own : same_id client.txn t ≡ true) where
  ids_stay : client.txn ≡ b.txn → new.ids.keys ≡ ids_of new.begun.items
  ids_stay txn =
      ap (λ (ks : HashSet Id _). ks.keys) ids ∙ h.ids_are ∙ sym (ids_set s.begun.items at b old within taken (sym txn ∙ stands.txn)) ∙ ap ids_of (sym put)

  kept : IsBegun splits b client → Hosts splits new cs
  kept back = record {
    splits_are = same;
    ids_are = ids_stay back.txn;
    begun = subst (λ bs. AreBegun splits bs cs) (sym put) (put_back splits s.begun.items cs t at b client h.begun place within is back);
    once = h.once;
  }

  goes_on : (d : Client) → d.txn ≡ client.txn → IsBegun splits b d → Hosts splits new (with_client d cs)
  goes_on d txn next = record {
    splits_are = same;
    ids_are = ids_stay (sym txn ∙ next.txn);
    begun = subst (λ bs. AreBegun splits bs (with_client d cs)) (sym put) (placed splits s.begun.items cs t at b d h.begun h.once place within next
        (ap (λ i. same_id i t) txn ∙ own));
    once = once_with d cs ∙ h.once;
  }

  moves_from : (f : Client → Moved) (r : Result (List Envelope) Fault) → ((c : Client) → IsBegun splits old c → Moves splits (f c) b c r) →
      MovesIn splits (session_step f (client_at cs t)) new cs r
  moves_from f r moves = by_result r (moves client stands)
    where
      step : session_step f (client_at cs t) ≡ f client
      step = ap (session_step f) is

      by_result : (r : Result (List Envelope) Fault) → Moves splits (f client) b client r → MovesIn splits (session_step f (client_at cs t)) new cs r
      by_result (Ok out) m = (m.0, step ∙ m.1, goes_on m.0 m.2 m.3)
      by_result (Err fault) (inl memory) = inl memory
      by_result (Err fault) (inr m) = inr (step ∙ m.0, kept m.1)

  hears_from : (a : ReadAnswer) (r : Result (Option Line) Fault) → ((c : Client) → IsBegun splits old c → Hears splits a b c r) →
      HearsIn splits a new cs (client_at cs t) r
  hears_from a r hears_it = by_result r (hears_it client stands)
    where
      by_result : (r : Result (Option Line) Fault) → Hears splits a b client r → HearsIn splits a new cs (client_at cs t) r
      by_result (Ok line) m =
          let txn : m.0.txn ≡ client.txn = ap (λ (d : Client). d.txn) m.2 ∙ (hears_keeps a.from a.key a.epoch a.answer client).0 in
          (client, is, m.1, (m.0, m.2, m.3, goes_on m.0 txn m.4))
      by_result (Err fault) (inl memory) = inl memory
      by_result (Err fault) (inr m) = inr (m.0, ap (session_step (when_open finishes)) is ∙ m.1, kept m.2)

module _ (splits : List Bytes) (s new : Sessions) (cs : List Client) (t : Id) (at : ℕ) (old b : Begun) (h : Hosts splits s cs)
    (place : at ≡ place_of s.begun.items t) (within : at < length s.begun.items) (taken : old ≡ get_or s.begun.items at old)
    (same : new.splits.now ≡ splits) (ids : new.ids ≡ s.ids) (put : new.begun.items ≡ set s.begun.items at b) where
  pub moves_in : (f : Client → Moved) (r : Result (List Envelope) Fault) → ((c : Client) → IsBegun splits old c → Moves splits (f c) b c r) →
      MovesIn splits (session_step f (client_at cs t)) new cs r
  moves_in =
      let p = found splits s.begun.items cs t at old h.begun place within taken in
      moves_from splits s new cs t at old b h place within taken same ids put p.0 p.1 p.2 (same_txn splits old p.0 t p.2 ∙ p.3)

  pub hears_in : (a : ReadAnswer) (r : Result (Option Line) Fault) → ((c : Client) → IsBegun splits old c → Hears splits a b c r) →
      HearsIn splits a new cs (client_at cs t) r
  hears_in =
      let p = found splits s.begun.items cs t at old h.begun place within taken in
      hears_from splits s new cs t at old b h place within taken same ids put p.0 p.1 p.2 (same_txn splits old p.0 t p.2 ∙ p.3)

-- the id of the session that stands there
pub id_there : (bs xs : List Begun) (t : Id) (i : ℕ) (b : Begun) → xs ≡ bs → ((y : Begun) → i < length xs → y ≡ get_or xs i y →
    same_id y.txn t ≡ true) → i < length bs → b ≡ get_or bs i b → same_id b.txn t ≡ true
id_there bs xs t i b same there lt is = there b (subst (λ ys. i < length ys) (sym same) lt) (is ∙ ap (λ ys. get_or ys i b) (sym same))

-- there is no session
pub none_moves : (splits : List Bytes) (s : Sessions) (cs : List Client) (t : Id) (at : ℕ) (f : Client → Moved) → Hosts splits s cs →
    at ≡ place_of s.begun.items t → length s.begun.items ≤ at
    → MovesIn splits (session_step f (client_at cs t)) s cs (Err Stranger)
none_moves splits s cs t at f h place over = inr (ap (session_step f) (absent splits s.begun.items cs t h.begun (omega (arith, place, over))), h)

pub none_hears : (splits : List Bytes) (s : Sessions) (cs : List Client) (a : ReadAnswer) (at : ℕ) → Hosts splits s cs →
    at ≡ place_of s.begun.items a.txn → length s.begun.items ≤ at
    → HearsIn splits a s cs (client_at cs a.txn) (Err Stranger)
none_hears splits s cs a at h place over =
    inr (refl, ap (session_step (when_open finishes)) (absent splits s.begun.items cs a.txn h.begun (omega (arith, place, over))), h)

pub is_below : (i n : ℕ) (w : Bool) → (i < n → w ≡ true) → (n ≤ i → w ≡ false) → nat_lt i n ≡ w
is_below i n w so not_so = by_test (nat_lt i n) refl
  where
    by_test : (b : Bool) → nat_lt i n ≡ b → b ≡ w
    by_test true e = sym (so (grind (arith, nat_tests)))
    by_test false e = sym (not_so (grind (arith, nat_tests)))
