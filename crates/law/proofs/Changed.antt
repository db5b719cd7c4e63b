-- What one act changes of what shards show and of the lines of looks and of acknowledgements.
use Rattle.std.specs.List.{list_any}
use Rattle.std.proofs.Common.{◌≡◌, ◌⊎◌, inl, inr, ℕ, ◌≤◌, Bool, true, false, not, cond, ◌&&◌, nat_eq, nat_lt, nat_le, List, [], ◌∷◌, ◌++◌, Option}
use Rattle.std.proofs.Common.{Some, None, slice_get, refl, sym, ap, subst, ◌∙◌, flat_map, option_to_list}
use Rattle.std.proofs.lemmas.Bool.{cases_eq, false≢true, eqb-true, leb-true}
use Rattle.std.proofs.lemmas.List.{append-nil}
use Rattle.units.specs.Ids.{Id, same_id}
use Rattle.world.proofs.Places.{get-replaced_same, get-replaced_other}
use Rattle.world.proofs.EveryRun.{WellShard, WellWorld, shard_with}
use Rattle.units.specs.Keys.{Bytes, shard_of, has_key}
use Rattle.units.specs.Lists.{replaced, when}
use Rattle.units.specs.Versions.{at_time}
use Rattle.units.specs.declared.fault.Fault.TheVariants.{NotYet, Stopped, Stranger, TooOld}
use Rattle.units.specs.declared.line.Line.{Line}
use Rattle.units.specs.declared.setup.Setup.{Setup}
use Rattle.units.proofs.IdLaws.{same_id-is}
use Rattle.record.specs.Facts.{facts_of}
use Rattle.record.specs.declared.record.Record.{Record}
use Rattle.message.specs.declared.message.Address.{Address}
use Rattle.message.specs.declared.message.Answer.{Answer}
use Rattle.message.specs.declared.message.Answer.TheVariants.{Holds, Refused}
use Rattle.message.specs.declared.message.Envelope.{Envelope}
use Rattle.message.specs.declared.message.Message.{Message}
use Rattle.message.specs.declared.message.ReadAnswer.{ReadAnswer}
use Rattle.protocol.specs.Rows.{Memory}
use Rattle.session.specs.Sessions.{Client, Moved, Denies, Goes, hears, take_answer, epochs_agree}
use Rattle.session.specs.Sessions.{was_taken, is_doomed}
use Rattle.law.specs.Acknowledged.{committed_to}
use Rattle.law.specs.Among.{IsAmong}
use Rattle.law.specs.Passes.{ShowsView, view_in}
use Rattle.world.specs.Lawful.{may_act}
use Rattle.world.specs.World.{World, ShardNow, View, State, Runs, IsStopped, IsDown, Area, Unsure, shown_records, read_log, view_of, setup_of, finished}
use Rattle.world.specs.World.{new_view, makes_view, crashed, failed_in, failed_turn, set_shard, set_client, put_out, acks_of, ack_of, commit_told}
use Rattle.world.specs.World.{moved, answered}
use Rattle.world.specs.World.{read_lines, look_noted, look_view, look_shard, look_at_view, begin, acts}
use Rattle.world.specs.declared.event.Act.{Act}
use Rattle.world.specs.declared.event.Doing.{Doing}
use Rattle.world.specs.declared.event.Reply.{Reply}
use Rattle.law.proofs.Doings.{get_among}
use Rattle.law.proofs.Members.{among_cases, among_left, among_right, some_passes}
use Rattle.law.proofs.Picked.{join_among, some_same}
use Rattle.law.proofs.Acts.{acts_go, step_of}
use Rattle.law.proofs.Kept.{IsPresent}

-- ---- what a shard shows

-- what it shows while it runs
pub record RunsWith (s : ShardNow) (v : View) : Type 0 where
  pub memory : Memory
  pub runs : s.state ≡ Runs memory
  pub is : view_of (facts_of s.log) memory ≡ v

pub record Offers (w : World) (n : ℕ) (v : View) : Type 0 where
  pub shard : ShardNow
  pub there : slice_get w.shards n ≡ Some shard
  pub shows : ShowsView shard v

pub record HasShard (w : World) (n : ℕ) : Type 0 where
  pub shard : ShardNow
  pub there : slice_get w.shards n ≡ Some shard

-- a look that is answered
pub record Looked (w : World) (k : Bytes) (at : ℕ) (x : Option Bytes) : Type 0 where
  pub shard : ℕ
  pub view : View
  pub offers : Offers w shard view
  pub own : shard_of w.config.splits k ≡ shard
  pub served : at ≤ view.safe
  pub value : at_time view.installs k at ≡ x

-- a line of acknowledgement of an id
pub record HasAck (lines : List Line) (t : Id) : Type 0 where
  pub stamp : ℕ
  pub event : ℕ
  pub among : IsAmong lines (Line.Ack t stamp event)

-- each commit that a session was told has a line
abbrev pub AcksAreLines : List Envelope → List Line → Type 0
AcksAreLines bag lines = (to : Address) (t : Id) (s : ℕ) → IsAmong bag (committed_to to t s) → HasAck lines t

-- what a change of the world leaves
pub record Changes (w v : World) : Type 0 where
  pub config : v.config ≡ w.config
  pub lines : (l : Line) → IsAmong w.lines l → IsAmong v.lines l
  pub acked : AcksAreLines w.bag w.lines → AcksAreLines v.bag v.lines
  pub has : (n : ℕ) → HasShard w n → HasShard v n
  pub offered : (n : ℕ) (view : View) → Offers v n view → Offers w n view ⊎ IsPresent v n view
  pub looked : (k : Bytes) (at : ℕ) (x : Option Bytes) → IsAmong v.lines (Line.Look k at x) → IsAmong w.lines (Line.Look k at x) ⊎ Looked w k at x

unchanged : (w : World) → Changes w w
unchanged w = record { config = refl; lines = λ l h. h; acked = λ h. h; has = λ n h. h; offered = λ n view o. inl o; looked = λ k at x h. inl h }

-- ---- messages

-- what comes with messages is acknowledgements
abbrev pub is_ack : Line → Bool
is_ack (Line.Ack t s event) = true
is_ack _ = false

one_ack : (b : Bool) (t : Id) (s event : ℕ) (l : Line) → IsAmong (cond b [] (Line.Ack t s event ∷ [])) l → is_ack l ≡ true
one_ack true t s event l none = absurd none
one_ack false t s event l (inl same) = ap is_ack (sym same)
one_ack false t s event l (inr none) = absurd none

outcome_ack : (w : World) (t : Id) (o : Option ℕ) (l : Line) → IsAmong (ack_of w t o) l → is_ack l ≡ true
outcome_ack w t None l h = absurd h
outcome_ack w t (Some s) l h = one_ack (list_any (λ e. when (λ y. true) (commit_told t e)) w.bag) t s w.event l h

message_ack : (w : World) (to : Address) (m : Message) (l : Line) → IsAmong (acks_of w (record { to = to; message = m })) l → is_ack l ≡ true
message_ack w to (Message.Done d) l h = outcome_ack w d.txn d.outcome l h
message_ack w to _ l h = absurd h

pub acks_alone : (w : World) (es : List Envelope) (l : Line) → IsAmong (flat_map (acks_of w) es) l → is_ack l ≡ true
acks_alone w [] l h = absurd h
acks_alone w (e ∷ es) l h = elim (among_cases (acks_of w e) (flat_map (acks_of w) es) l h) [
  | inl here ↦ message_ack w e.to e.message l here
  | inr later ↦ acks_alone w es l later
]

acks_no_look : (w : World) (es : List Envelope) (k : Bytes) (at : ℕ) (x : Option Bytes) → IsAmong (flat_map (acks_of w) es) (Line.Look k at x) → ⊥
acks_no_look w es k at x h = false≢true (acks_alone w es (Line.Look k at x) h)

has_ack_more : (lines more : List Line) (t : Id) → HasAck lines t → HasAck (lines ++ more) t
has_ack_more lines more t h = record { stamp = h.stamp; event = h.event; among = among_left lines more (Line.Ack t h.stamp h.event) h.among }

module _ (v : World) (acked : AcksAreLines v.bag v.lines) (t : Id) where
  told_end : (to : Address) (u : Id) (o : Option ℕ) (b : Bool) → same_id u t ≡ b → IsAmong v.bag
      (record { to = to; message = Message.Done (record { txn = u; outcome = o }) }) → when (λ s. true) (cond b o None) ≡ true → HasAck v.lines t
  told_end to u (Some s) true same k e = subst (HasAck v.lines) (same_id-is u t same) (acked to u s k)
  told_end to u None true same k e = cc
  told_end to u o false same k e = cc

  told_before : (to : Address) (m : Message) → IsAmong v.bag (record { to = to; message = m }) →
      when (λ s. true) (commit_told t (record { to = to; message = m })) ≡ true → HasAck v.lines t
  told_before to (Message.Done d) k e = told_end to d.txn d.outcome (same_id d.txn t) refl k e
  told_before to _ k e = cc

  -- who is told now has a line, or had one
  told_now : (to : Address) (s : ℕ) (out : List Envelope) → IsAmong out (committed_to to t s) → HasAck (v.lines ++ flat_map (acks_of v) out) t
  told_now to s out there = by_test (list_any (λ e. when (λ x. true) (commit_told t e)) v.bag) refl
    where
      by_test : (b : Bool) → list_any (λ e. when (λ x. true) (commit_told t e)) v.bag ≡ b → HasAck (v.lines ++ flat_map (acks_of v) out) t
      by_test true is =
          let p = some_passes v.bag (λ e. when (λ x. true) (commit_told t e)) is in
          has_ack_more v.lines (flat_map (acks_of v) out) t (told_before p.member.to p.member.message p.among p.passes)
      by_test false is = record {
        stamp = s;
        event = v.event;
        among = among_right v.lines (flat_map (acks_of v) out) (Line.Ack t s v.event)
            (join_among (acks_of v) out (committed_to to t s) (Line.Ack t s v.event) there
            (subst (λ b. IsAmong (cond b [] (Line.Ack t s v.event ∷ [])) (Line.Ack t s v.event)) (sym is) (inl refl)));
      }

put_acked : (v : World) (out : List Envelope) → AcksAreLines v.bag v.lines → AcksAreLines (v.bag ++ out) (v.lines ++ flat_map (acks_of v) out)
put_acked v out acked to t s h = elim (among_cases v.bag out (committed_to to t s) h) [
  | inl old ↦ has_ack_more v.lines (flat_map (acks_of v) out) t (acked to t s old)
  | inr new ↦ told_now v acked t to s out new
]

put_changes : (w v : World) (out : List Envelope) → Changes w v → Changes w (put_out out v)
unfolding put_out
put_changes w v out c = record {
  config = c.config;
  lines = λ l h. among_left v.lines (flat_map (acks_of v) out) l (c.lines l h);
  acked = λ h. put_acked v out (c.acked h);
  has = λ n h. let s = c.has n h in record { shard = s.shard; there = s.there };
  offered = λ n view o. elim (c.offered n view (record { shard = o.shard; there = o.there; shows = o.shows })) [
    | inl old ↦ inl old
    | inr p ↦ inr (record { shard = p.shard; there = p.there; memory = p.memory; runs = p.runs; is = p.is })
  ];
  looked = λ k at x h. elim (among_cases v.lines (flat_map (acks_of v) out) (Line.Look k at x) h) [
    | inl old ↦ c.looked k at x old
    | inr new ↦ absurd (acks_no_look v out k at x new)
  ];
}

-- ---- sessions

set_client_changes : (w : World) (c : Client) → Changes w (set_client c w)
set_client_changes w c = record {
  config = refl;
  lines = λ l h. h;
  acked = λ h. h;
  has = λ n h. record { shard = h.shard; there = h.there };
  offered = λ n view o. inl (record { shard = o.shard; there = o.there; shows = o.shows });
  looked = λ k at x h. inl h;
}

moved_changes : (w : World) (m : Moved) → Changes w (moved w m).0
moved_changes w (Denies f) = unchanged w
moved_changes w (Goes c out) = put_changes w (set_client c w) out (set_client_changes w c)

pub heard_writes : (n : ℕ) (k : Bytes) (epoch : ℕ) (a : Answer) (c : Client) → (hears n k epoch a c).writes ≡ c.writes
unfolding hears
heard_writes n k epoch a c = by_test (has_key c.awaited k && not (is_doomed c))
  where
    by_epochs : (b : Bool) (x y : Client) → x.writes ≡ c.writes → y.writes ≡ c.writes → (cond {A = Client} b x y).writes ≡ c.writes
    by_epochs true x y e f = e
    by_epochs false x y e f = f

    by_answer : (z : Answer) → (take_answer c n k epoch z).writes ≡ c.writes
    by_answer Refused = refl
    by_answer (Holds x) = by_epochs (epochs_agree c.taken n epoch) _ _ refl refl

    by_test : (b : Bool) → (cond {A = Client} b (take_answer c n k epoch a) c).writes ≡ c.writes
    by_test true = by_answer a
    by_test false = refl

read_no_look : (c d : Client) (j : Bytes) (a : Answer) (k : Bytes) (at : ℕ) (x : Option Bytes) → IsAmong (read_lines c d j a) (Line.Look k at x) → ⊥
read_no_look c d j Refused k at x h = h
read_no_look c d j (Holds y) k at x h = by_test (was_taken d j && not (was_taken c j)) h
  where
    by_test : (b : Bool) → IsAmong (cond b (Line.Read c.txn j y ∷ []) []) (Line.Look k at x) → ⊥
    by_test true (inl same) = cc
    by_test true (inr none) = none
    by_test false none = none

answered_changes : (w : World) (c : Client) (a : ReadAnswer) → Changes w (answered w c a).0
answered_changes w c a =
    let d : Client = hears a.from a.key a.epoch a.answer c in
    let k = set_client_changes w d in
    record {
      config = k.config;
      lines = λ l h. among_left w.lines (read_lines c d a.key a.answer) l h;
      acked = λ h to t s j. has_ack_more w.lines (read_lines c d a.key a.answer) t (h to t s j);
      has = λ n h. let s = k.has n h in record { shard = s.shard; there = s.there };
      offered = λ n view o. inl (record { shard = o.shard; there = o.there; shows = o.shows });
      looked = λ j at x h. elim (among_cases w.lines (read_lines c d a.key a.answer) (Line.Look j at x) h) [
        | inl old ↦ inl old
        | inr new ↦
            absurd (read_no_look c d a.key a.answer j at x new)
      ];
    }

begin_changes : (w : World) (t : Id) → Changes w (begin t w)
begin_changes w t = record {
  config = refl;
  lines = λ l h. among_left w.lines (Line.Begin t w.event ∷ []) l h;
  acked = λ h to u s j. has_ack_more w.lines (Line.Begin t w.event ∷ []) u (h to u s j);
  has = λ n h. record { shard = h.shard; there = h.there };
  offered = λ n view o. inl (record { shard = o.shard; there = o.there; shows = o.shows });
  looked = λ k at x h. elim (among_cases w.lines (Line.Begin t w.event ∷ []) (Line.Look k at x) h) [ inl old ↦ inl old | inr new ↦ absurd (apart k at x new) ];
}
  where
    apart : (k : Bytes) (at : ℕ) (x : Option Bytes) → IsAmong (Line.Begin t w.event ∷ []) (Line.Look k at x) → ⊥
    apart k at x (inl same) = cc
    apart k at x (inr none) = none

-- ---- shards

set_changes : (w : World) (n : ℕ) (old new : ShardNow) → slice_get w.shards n ≡ Some old →
    ((v : View) → ShowsView new v → ShowsView old v ⊎ RunsWith new v) → Changes w (set_shard n new w)
set_changes w n old new there shows = record {
  config = refl;
  lines = λ l h. h;
  acked = λ h. h;
  has = λ m h. elim (cases_eq n m) [
    | inl same ↦ record { shard = new; there = subst (λ j. slice_get (replaced w.shards n new) j ≡ Some new) same (get-replaced_same w.shards n old new there) }
    | inr other ↦ record { shard = h.shard; there = get-replaced_other w.shards n m new other ∙ h.there }
  ];
  offered = λ m view o. elim (cases_eq n m) [
    | inl same ↦ here m view same o
    | inr other ↦ inl (record { shard = o.shard; there = sym (get-replaced_other w.shards n m new other) ∙ o.there; shows = o.shows })
  ];
  looked = λ k at x h. inl h;
}
  where
    here : (m : ℕ) (view : View) → n ≡ m → Offers (set_shard n new w) m view → Offers w m view ⊎ IsPresent (set_shard n new w) m view
    here m view same o =
        let there_now : slice_get (replaced w.shards n new) m ≡ Some new = subst (λ j. slice_get (replaced w.shards n new) j ≡ Some new) same
        (get-replaced_same w.shards n old new there) in
        let is : o.shard ≡ new = some_same o.shard new (sym o.there ∙ there_now) in
        elim (shows view (subst (λ (s : ShardNow). ShowsView s view) is o.shows)) [
          | inl before ↦ inl (record { shard = old; there = subst (λ j. slice_get w.shards j ≡ Some old) same there; shows = before })
          | inr now ↦ inr (record { shard = new; there = there_now; memory = now.memory; runs = now.runs; is = now.is })
        ]

crashed_shows : (s : ShardNow) (log : List Record) (area : Area) (v : View) → ShowsView (crashed s log area) v → ShowsView s v ⊎ RunsWith (crashed s log area) v
crashed_shows s log area v (inl h) = inl (inl h)
crashed_shows s log area v (inr e) = cc

finished_shows : (s : ShardNow) (doing : Doing) (logged : Option Record) (m : Memory) (v : View) → ShowsView (finished s doing logged m) v →
    ShowsView s v ⊎ RunsWith (finished s doing logged m) v
unfolding finished
finished_shows s doing logged m v (inr e) = inr (record { memory = m; runs = refl; is = some_same _ v e })
finished_shows s doing logged m v (inl h) = elim (among_cases s.views (new_view doing (read_log s ++ option_to_list logged) m) v h) [
  | inl old ↦ inl (inl old)
  | inr new ↦ by_test (makes_view doing) new
]
  where
    by_test : (b : Bool) → IsAmong (cond b (view_of (facts_of (read_log s ++ option_to_list logged)) m ∷ []) []) v → ShowsView s v
        ⊎ RunsWith (finished s doing logged m) v
    by_test true (inl same) = inr (record { memory = m; runs = refl; is = same })
    by_test true (inr none) = absurd none
    by_test false none = absurd none

-- a shard that its device stops shows what it showed
failed_shows : (setup : Setup) (log : List Record) (area : Area) (unsure : Unsure) (st : State) (views : List View) (call : ℕ) (r : Record) (v : View) →
    WellShard setup (shard_with log area unsure st views) →
    ShowsView (failed_in (shard_with log area unsure st views) call r) v → ShowsView (shard_with log area unsure st views) v
    ⊎ RunsWith (failed_in (shard_with log area unsure st views) call r) v
unfolding failed_in
failed_shows setup log area unsure st views call r v well (inl h) = inl (inl h)
failed_shows setup log area unsure (Runs m) views call r v well (inr e) =
    inl (inr (subst (λ l. Some (view_of (facts_of l) m) ≡ Some v) (ap (λ u. log ++ shown_records u) well.state.1 ∙ append-nil log) e))
failed_shows setup log area unsure (IsStopped m) views call r v well (inr e) = cc
failed_shows setup log area unsure IsDown views call r v well (inr e) = cc

-- so does one whose turnover failed
turn_failed_shows : (setup : Setup) (log : List Record) (area : Area) (unsure : Unsure) (st : State) (views : List View) (call : ℕ) (v : View) →
    WellShard setup (shard_with log area unsure st views) →
    ShowsView (failed_turn (shard_with log area unsure st views) call) v → ShowsView (shard_with log area unsure st views) v
    ⊎ RunsWith (failed_turn (shard_with log area unsure st views) call) v
unfolding failed_turn
turn_failed_shows setup log area unsure st views call v well (inl h) = inl (inl h)
turn_failed_shows setup log area unsure (Runs m) views call v well (inr e) =
    inl (inr (subst (λ l. Some (view_of (facts_of l) m) ≡ Some v) (ap (λ u. log ++ shown_records u) well.state.1 ∙ append-nil log) e))
turn_failed_shows setup log area unsure (IsStopped m) views call v well (inr e) = cc
turn_failed_shows setup log area unsure IsDown views call v well (inr e) = cc

module _ (w : World) (well : WellWorld w) (n : ℕ) (s : ShardNow) (there : slice_get w.shards n ≡ Some s) where
  crash_changes : (log : List Record) (area : Area) → Changes w (set_shard n (crashed s log area) w)
  crash_changes log area = set_changes w n s (crashed s log area) there (crashed_shows s log area)

  -- ---- looks

  noted_changes : (k : Bytes) (at : ℕ) (r : Reply) → ((x : Option Bytes) → r ≡ Reply.Shows x → Looked w k at x) → Changes w (look_noted w k at r).0
  noted_changes k at (Reply.Shows y) answer = record {
    config = refl;
    lines = λ l h. among_left w.lines (Line.Look k at y ∷ []) l h;
    acked = λ h to t s j. has_ack_more w.lines (Line.Look k at y ∷ []) t (h to t s j);
    has = λ m h. record { shard = h.shard; there = h.there };
    offered = λ m view o. inl (record { shard = o.shard; there = o.there; shows = o.shows });
    looked = λ j t x h. elim (among_cases w.lines (Line.Look k at y ∷ []) (Line.Look j t x) h) [ inl old ↦ inl old | inr new ↦ inr (by_line j t x new) ];
  }
    where
      by_line : (j : Bytes) (t : ℕ) (x : Option Bytes) → IsAmong (Line.Look k at y ∷ []) (Line.Look j t x) → Looked w j t x
      by_line j t x (inr none) = absurd none
      by_line j t x (inl same) =
          let p = parts k j at t y x same in
          subst (λ z. Looked w z t x) p.0 (subst (λ z. Looked w k z x) p.1 (subst (λ z. Looked w k at z) p.2 (answer y refl)))
        where
          parts : (a b : Bytes) (c d : ℕ) (e f : Option Bytes) → Line.Look a c e ≡ Line.Look b d f → (a ≡ b) × (c ≡ d) × (e ≡ f)
          parts a b c d e f g = (cc, cc, cc)
  noted_changes k at _ answer = unchanged w

  look_answers : (v : View) (k : Bytes) (at : ℕ) (x : Option Bytes) → ShowsView s v → look_view (setup_of w.config n) v k at ≡ Reply.Shows x → Looked w k at x
  look_answers v k at x shows e = by_tests (nat_eq (shard_of w.config.splits k) n) refl (nat_lt at v.horizon) (nat_le at v.safe) refl e
    where
      shows_is : (a b : Option Bytes) → Reply.Shows a ≡ Reply.Shows b → a ≡ b
      shows_is a b f = cc

      by_tests : (b : Bool) → nat_eq (shard_of w.config.splits k) n ≡ b → (old c : Bool) → nat_le at v.safe ≡ c →
          cond (not b) (Reply.Refused Stranger) (cond old (Reply.Refused TooOld) (cond c
          (Reply.Shows (at_time v.installs k at)) (Reply.Refused NotYet))) ≡ Reply.Shows x → Looked w k at x
      by_tests false own old c low f = cc
      by_tests true own true c low f = cc
      by_tests true own false false low f = cc
      by_tests true own false true low f = record {
        shard = n;
        view = v;
        offers = record { shard = s; there = there; shows = shows };
        own = eqb-true (shard_of w.config.splits k) n own;
        served = leb-true at v.safe low;
        value = shows_is (at_time v.installs k at) x f;
      }

  look_changes : (k : Bytes) (at : ℕ) → Changes w (look_noted w k at (look_shard (setup_of w.config n) s k at)).0
  look_changes k at = noted_changes k at (look_shard (setup_of w.config n) s k at) (λ x e. by_state s.state refl x e)
    where
      by_state : (st : State) → s.state ≡ st → (x : Option Bytes) →
          (elim st as (λ y. Reply) [
            | Runs m ↦ look_view (setup_of w.config n) (view_of (facts_of s.log) m) k at
            | IsStopped m ↦
                look_view (setup_of w.config n) (view_of (facts_of s.log) m) k at
            | IsDown ↦ Reply.Refused Stopped
          ]) ≡ Reply.Shows x →
          Looked w k at x
      by_state (Runs m) is x e = look_answers (view_of (facts_of s.log) m) k at x (inr (ap (λ z. view_in z s.log) is)) e
      by_state (IsStopped m) is x e = look_answers (view_of (facts_of s.log) m) k at x (inr (ap (λ z. view_in z s.log) is)) e
      by_state IsDown is x e = cc

  view_changes : (i : ℕ) (k : Bytes) (at : ℕ) → Changes w (look_noted w k at (look_at_view (setup_of w.config n) (slice_get s.views i) k at)).0
  view_changes i k at = noted_changes k at (look_at_view (setup_of w.config n) (slice_get s.views i) k at) (λ x e. by_view (slice_get s.views i) refl x e)
    where
      by_view : (o : Option View) → slice_get s.views i ≡ o → (x : Option Bytes) → look_at_view (setup_of w.config n) o k at ≡ Reply.Shows x → Looked w k at x
      by_view None is x e = cc
      by_view (Some v) is x e = look_answers v k at x (inl (get_among s.views i v is)) e

-- ---- all acts

pub acts_change : (w : World) → WellWorld w → (time : ℕ) (a : Act) → may_act w time a ≡ true → Changes w (acts w a).0
acts_change w well =
    acts_go w (Changes w) (unchanged w) (λ t new. begin_changes w t)
    (λ c s there. moved_changes w (step_of w.config.splits s c))
    (λ c to a there named told. answered_changes w c a)
    (λ n s there log area left. set_changes w n s (crashed s log area) there (crashed_shows s log area))
    (λ n s there doing logged memory out is. put_changes w (set_shard n (finished s doing logged memory) w) out
    (set_changes w n s (finished s doing logged memory) there (finished_shows s doing logged memory)))
    (λ n s there call doing r memory out is. set_changes w n s (failed_in s call r) there (λ v h. failed_shows
    (setup_of w.config n) s.log s.area s.unsure s.state s.views call r v (well n s there) h))
    (λ n s there call doing memory out turning is. set_changes w n s (failed_turn s call) there (λ v h. turn_failed_shows
    (setup_of w.config n) s.log s.area s.unsure s.state s.views call v (well n s there) h))
    (look_changes w well) (λ n s there i k at. view_changes w well n s there i k at)
