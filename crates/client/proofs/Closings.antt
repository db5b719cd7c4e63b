-- What a session puts out as it closes, and what it hears.
use Rattle.std.proofs.Common.{◌≡◌, ◌⊎◌, inl, inr, ℕ, zero, suc, ◌+◌, Bool, true, false, true≢false, cond, not, ◌&&◌, List, [], ◌∷◌, ◌++◌, map, Option}
use Rattle.std.proofs.Common.{None, Some}
use Rattle.std.proofs.Common.{refl, ap, sym, ◌∙◌, subst, append_assoc, append-nil, arith}
use Rattle.std.specs.List.{list_all}
use Rattle.units.specs.Ids.{Id, same_id}
use Rattle.units.specs.Keys.{Bytes}
use Rattle.units.specs.declared.fault.Fault.{Fault}
use Rattle.units.specs.declared.fault.Fault.TheVariants.{BadRequest, Memory}
use Rattle.units.specs.declared.fault.Reason.{Reason}
use Rattle.units.specs.declared.fault.Reason.TheVariants.{Nothing, Awaited, Doomed}
use Rattle.units.proofs.IdLaws.{same_id-refl}
use Rattle.message.specs.Ends.{End}
use Rattle.message.specs.declared.message.Envelope.{Envelope}
use Rattle.session.specs.Sessions.{Client, Stage, IsClosing, IsOver, Moved, Denies, Goes, unless, asked_keys, is_none, is_doomed, closes}
use Rattle.session.specs.Sessions.{closing_messages, gives_up, shards_told}
use Rattle.session.specs.Shown.{IsDenied, farewells, finished_as, give_up_to, is_made}
use Rattle.client.specs.declared.ended.Ended.{Ended}
use Rattle.client.specs.declared.ended.Ended.TheVariants as ended
use Rattle.client.specs.Ends.{times, is_give_up, is_other, ended_of, IsAskedOnce, IsAwaited, IsClosed, IsGivenUp, IsPressed, IsTold, WasHeard, WasNotHeard}
use Rattle.client.specs.Traffic.{Traffic}
use Rattle.client.proofs.Steps.{all_both, longer}

-- ---- over and over

times_on : {A : Type 0} (n m : ℕ) (xs : List A) → times n xs ++ times m xs ≡ times (m + n) xs
times_on n zero xs = let e : n ≡ 0 + n = omega arith in append-nil (times n xs) ∙ ap (λ k. times k xs) e
times_on n (suc m) xs =
    let e : suc (m + n) ≡ suc m + n = omega arith in
    sym (append_assoc (times n xs) (times m xs) xs) ∙ (ap (λ l. l ++ xs) (times_on n m xs) ∙ ap (λ k. times k xs) e)

-- so often, and then more often
pub again : {A : Type 0} (old mid new xs : List A) → ((n : ℕ) × (mid ≡ old ++ times n xs)) → ((m : ℕ) × (new ≡ mid ++ times m xs))
    → (n : ℕ) × (new ≡ old ++ times n xs)
again old mid new xs one two =
    (two.0 + one.0, longer old mid new (times one.0 xs) (times two.0 xs) one.1 two.1 ∙ ap (λ l. old ++ l) (times_on one.0 two.0 xs))

-- What was put out and heard of a session that is closing while it waits for its end: the messages of its closing over and over, and ends of
-- other transactions.
pub record Awaits (splits : List Bytes) (c : Client) (old new : Traffic) : Type 0 where
  pub sent : (n : ℕ) × (new.sent ≡ old.sent ++ times n (closing_messages splits c))
  pub heard : (heard : List End) × (new.heard ≡ old.heard ++ heard) × WasNotHeard c.txn heard

-- and then ends of others were heard
pub awaits_on : (splits : List Bytes) (c : Client) (old mid new : Traffic) (heard : List End) → Awaits splits c old mid → new.sent ≡ mid.sent
    → new.heard ≡ mid.heard ++ heard → WasNotHeard c.txn heard → Awaits splits c old new
awaits_on splits c old mid new heard one same hears none = record {
  sent = (one.sent.0, same ∙ one.sent.1);
  heard = (
    one.heard.0 ++ heard,
    longer old.heard mid.heard new.heard one.heard.0 heard one.heard.1 hears,
    all_both (is_other c.txn) one.heard.0 heard one.heard.2 none,
  );
}

-- and then it was asked for once more
pub asks_on : (splits : List Bytes) (c : Client) (old mid new : Traffic) → Awaits splits c old mid
    → ((n : ℕ) × (new.sent ≡ mid.sent ++ times n (closing_messages splits c))) → new.heard ≡ mid.heard → Awaits splits c old new
asks_on splits c old mid new one sent same = record {
  sent = again old.sent mid.sent new.sent (closing_messages splits c) one.sent sent;
  heard = (one.heard.0, same ∙ one.heard.1, one.heard.2);
}

-- whether an end is of the transaction, by two ids that were compared
pub compared : (txn of mine its : Id) (b v : Bool) → mine ≡ txn → its ≡ of → b ≡ same_id mine its → b ≡ v → same_id txn of ≡ v
compared txn of mine its b v own other same is = sym (same ∙ (λ i. same_id (own i) (other i))) ∙ is

-- ---- what the steps of the definition say

session_after : Moved → Client → Client
session_after (Goes c es) d = c
session_after (Denies f) d = d

said : Moved → List Envelope
said (Goes c es) = es
said (Denies f) = []

-- a step that is made leaves the session and the messages that it says
steps_to : (rs : List (Bool × Reason)) (c d : Client) (es fs : List Envelope) → unless rs (Goes c es) ≡ Goes d fs → (d ≡ c) × (fs ≡ es)
unfolding session_after said
steps_to [] c d es fs e = (sym (ap (λ m. session_after m d) e), sym (ap said e))
steps_to (r ∷ rs) c d es fs e = by_test (steps_to rs c d es fs) r.0 e
  where
    by_test : (unless rs (Goes c es) ≡ Goes d fs → (d ≡ c) × (fs ≡ es)) → (b : Bool)
        → cond b (Denies (BadRequest r.1)) (unless rs (Goes c es)) ≡ Goes d fs → (d ≡ c) × (fs ≡ es)
    by_test more true e = absurd (true≢false (sym (ap is_made e)))
    by_test more false e = more e

closed_as : (splits : List Bytes) (c d : Client) (es : List Envelope) → closes splits c ≡ Goes d es
    → (d ≡ record c { stage = IsClosing }) × (es ≡ closing_messages splits c)
unfolding closes
closed_as splits c d es e =
    steps_to ((is_none (asked_keys c) && is_none c.writes, Nothing) ∷ (not (is_none c.awaited), Awaited) ∷ (is_doomed c, Doomed) ∷ [])
    (record c { stage = IsClosing }) d (closing_messages splits c) es e

gave_up : (splits : List Bytes) (c d : Client) (es : List Envelope) → gives_up splits c ≡ Goes d es → es ≡ farewells splits c
unfolding gives_up said
gave_up splits c d es e = sym (ap said e)

all_give_up : (txn : Id) (ns : List ℕ) → list_all (is_give_up txn) (map (give_up_to txn) ns) ≡ true
all_give_up txn [] = refl
all_give_up txn (n ∷ ns) = ap (λ b. b && list_all (is_give_up txn) (map (give_up_to txn) ns)) (same_id-refl txn) ∙ all_give_up txn ns

-- giving up says that alone
pub given_up : (splits : List Bytes) (c d : Client) (es : List Envelope) → gives_up splits c ≡ Goes d es → IsGivenUp c.txn es
given_up splits c d es e =
    subst (λ (l : List Envelope). IsGivenUp c.txn l) (sym (gave_up splits c d es e)) (all_give_up c.txn (shards_told splits c))

-- a doomed session is denied for that
pub denied_doomed : (m : Moved) (f : Fault) → IsDenied m f → f ≡ BadRequest Doomed → m ≡ Denies (BadRequest Doomed)
denied_doomed m f (inl e) same = e ∙ ap Denies same
denied_doomed m f (inr e) same = absurd (no_memory (sym e.0 ∙ same))
  where
    is_memory : Fault → Bool
    is_memory Memory = true
    is_memory _ = false

    no_memory : Memory ≡ BadRequest Doomed → ⊥
    no_memory e = true≢false (ap is_memory e)

-- the closing is the same at each stage
closing_at : (splits : List Bytes) (c : Client) (stage : Stage) → closing_messages splits (record c { stage = stage }) ≡ closing_messages splits c
unfolding closing_messages
closing_at splits c stage = refl

-- ---- a session that is given up, and asked for once more

pub asked_once : (splits ss : List Bytes) (c d : Client) (out old mid new : List Envelope) → ss ≡ splits → d ≡ record c { stage = IsOver }
    → out ≡ farewells splits c ++ closing_messages splits c → mid ≡ old ++ out → ((n : ℕ) × (new ≡ mid ++ times n (closing_messages ss d)))
    → (sent : List Envelope) × (new ≡ old ++ sent) × IsAskedOnce splits c sent
asked_once splits ss c d out old mid new same over says one more =
    let closing : closing_messages ss d ≡ closing_messages splits c =
    (λ i. closing_messages (same i) (over i)) ∙ closing_at splits c IsOver in
    let said = farewells splits c ++ closing_messages splits c in (
      said ++ times more.0 (closing_messages splits c),
      longer old mid new out (times more.0 (closing_messages ss d)) one more.1 ∙ (λ i. old ++ (says i ++ times more.0 (closing i))),
      (more.0, refl),
    )

-- ---- ends

-- what an end tells that was heard
pub told_by : (txn : Id) (done : End) (heard : List End) → IsAwaited txn (Some done) heard → IsTold txn (ended_of (finished_as done.outcome)) heard
told_by txn done heard is = by_outcome done.outcome refl
  where
    by_outcome : (o : Option ℕ) → done.outcome ≡ o → IsTold txn (ended_of (finished_as o)) heard
    by_outcome None e = (is.0, done, is.1, is.2, e)
    by_outcome (Some s) e = (is.0, done, is.1, is.2, e)

was_heard_on : (txn : Id) (o : Option ℕ) (before heard : List End) → WasHeard txn o heard → WasHeard txn o (before ++ heard)
was_heard_on txn o before heard is = (
  before ++ is.0,
  is.1,
  ap (λ (l : List End). before ++ l) is.2 ∙ sym (append_assoc before is.0 (is.1 ∷ [])),
  is.3,
  is.4,
)

-- what is told behind ends of other transactions
told_on : (txn : Id) (e : Ended) (before heard : List End) → WasNotHeard txn before → IsTold txn e heard → IsTold txn e (before ++ heard)
told_on txn (ended.Committed s) before heard none told = was_heard_on txn (Some s) before heard told
told_on txn ended.Aborted before heard none told = was_heard_on txn None before heard told
told_on txn (ended.Unknown t) before heard none told = (told.0, all_both (is_other txn) before heard none told.1)

-- what was put out and heard of a session that is closing
pub pressed_on : (splits : List Bytes) (c : Client) (e : Ended) (old mid new : List Envelope) (before between behind : List End)
    → ((n : ℕ) × (mid ≡ old ++ times n (closing_messages splits c)))
    → ((heard : List End) × (between ≡ before ++ heard) × WasNotHeard c.txn heard)
    → ((sent : List Envelope) × (heard : List End) × (new ≡ mid ++ sent) × (behind ≡ between ++ heard)
    × ((sent ≡ []) ⊎ IsAskedOnce splits c sent) × IsTold c.txn e heard)
    → (sent : List Envelope) × (heard : List End) × (new ≡ old ++ sent) × (behind ≡ before ++ heard)
    × IsPressed splits c sent × IsTold c.txn e heard
pressed_on splits c e old mid new before between behind one none more = (
  times one.0 (closing_messages splits c) ++ more.0,
  none.0 ++ more.1,
  longer old mid new (times one.0 (closing_messages splits c)) more.0 one.1 more.2,
  longer before between behind none.0 more.1 none.1 more.3,
  record { again = one.0; last = more.0; whole = refl; asks = more.4 },
  told_on c.txn e none.0 more.1 none.2 more.5,
)

-- what was put out and heard of a session that closes
pub closed_on : (splits ss : List Bytes) (c d : Client) (e : Ended) (out old mid new : List Envelope) (before between behind : List End)
    → ss ≡ splits → closes splits c ≡ Goes d out → mid ≡ old ++ out → between ≡ before
    → ((sent : List Envelope) × (heard : List End) × (new ≡ mid ++ sent) × (behind ≡ between ++ heard) × IsPressed ss d sent × IsTold d.txn e heard)
    → (sent : List Envelope) × (heard : List End) × (new ≡ old ++ sent) × (behind ≡ before ++ heard)
    × IsClosed splits c sent × IsTold c.txn e heard
closed_on splits ss c d e out old mid new before between behind same goes one still more =
    let shown = closed_as splits c d out goes in
    let presses : IsPressed splits (record c { stage = IsClosing }) more.0 =
    subst (λ (k : Client). IsPressed splits k more.0) shown.0 (subst (λ (s : List Bytes). IsPressed s d more.0) same more.4) in (
      out ++ more.0,
      more.1,
      longer old mid new out more.0 one more.2,
      more.3 ∙ ap (λ (l : List End). l ++ more.1) still,
      record {
        behind = more.0;
        may = goes ∙ (λ i. Goes (shown.0 i) (shown.1 i));
        whole = ap (λ (l : List Envelope). l ++ more.0) shown.1;
        presses = presses;
      },
      subst (λ (t : Id). IsTold t e more.1) (ap (λ (k : Client). k.txn) shown.0) more.5,
    )
