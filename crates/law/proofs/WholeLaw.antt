-- The law of the store, whole.
use Rattle.std.proofs.Common.{◌≡◌, inl, inr, ℕ, true, List, [], ◌∷◌, ◌++◌, map, Option, Some, None, slice_get, refl, sym, ap, subst, ◌∙◌, suc}
use Rattle.std.proofs.Common.{append_assoc, arith}
use Rattle.std.proofs.lemmas.Bool.{and_parts}
use Rattle.units.specs.Keys.{Bytes}
use Rattle.units.specs.declared.fault.Fault.TheVariants.{Stranger}
use Rattle.units.specs.declared.line.Line.{Line}
use Rattle.units.specs.declared.setup.Setup.{Setup}
use Rattle.record.specs.History.{Txn, find_txn, history}
use Rattle.record.specs.Lines.{IsLine}
use Rattle.record.specs.declared.record.Record.{Record}
use Rattle.world.specs.Headline.{ExternalConsistency, MayBeLeft, MayLeaveLogs}
use Rattle.world.specs.Lawful.{lawful, lawful_from, may_happen}
use Rattle.world.specs.World.{World, After, ShardNow, acts, at_shard, happens, look_at_view, look_shard, look_noted, refused, run, run_from, setup_of, start}
use Rattle.world.specs.declared.event.Act.{Act}
use Rattle.world.specs.declared.event.Config.{Config}
use Rattle.world.specs.declared.event.Event.{Event}
use Rattle.world.specs.declared.event.Reply.{Reply}
use Rattle.law.specs.Acknowledged.{CommitsAreLines, committed_to}
use Rattle.law.specs.Among.{IsAmong}
use Rattle.law.specs.InOrder.{BeforeIsInFront, IdsStandOnce}
use Rattle.law.specs.TimeLaws.{InstalledInThePast, LooksShowAcknowledged, looks_at}
use Rattle.law.proofs.Doings.{get_among}
use Rattle.law.proofs.InHistory.{ack_of_line, told_txn}
use Rattle.law.proofs.InOrder.{Apart, apart, found, front_leaves, in_history_once, once_is_one}
use Rattle.law.proofs.Instants.{Moment, acknowledged_before, all_or_nothing, installed_in_the_past, keeps_acknowledged, lawful_front, moment, ordered_by_time}
use Rattle.law.proofs.LeftGood.{recovered}
use Rattle.law.proofs.LooksHold.{always_kept, event_keeps, lines_stay, looks_serially}
use Rattle.law.proofs.Members.{among_last}
use Rattle.law.proofs.Picked.{some_same}
use Rattle.law.proofs.ReadsEqual.{reads_serially}

pub externally_consistent : ExternalConsistency
externally_consistent config es ls fair may = record {
  recovered = recovered config es ls fair may;
  acknowledged = keeps_acknowledged config es ls fair may;
  all_or_nothing = all_or_nothing config es ls fair may;
  looks = looks_serially config es ls fair may;
  reads = reads_serially config es ls fair may;
  order = ordered_by_time config es ls fair may;
}

pub in_the_past : InstalledInThePast
in_the_past = installed_in_the_past

-- ---- looks at the present

-- a member has a place
line_of : (ls : List Line) (l : Line) → IsAmong ls l → IsLine ls l
line_of [] l h = absurd h
line_of (x ∷ xs) l (inl same) = (0, ap (λ y. Some y) same)
line_of (x ∷ xs) l (inr later) = let p = line_of xs l later in (suc p.0, p.1)

-- an answered look is a line
noted_line : (w : World) (k : Bytes) (at : ℕ) (r : Reply) (x : Option Bytes) → (look_noted w k at r).1 ≡ Reply.Shows x →
    IsAmong (look_noted w k at r).0.lines (Line.Look k at x)
noted_line w k at (Reply.Shows y) x e = subst (λ z. IsAmong (w.lines ++ Line.Look k at y ∷ []) (Line.Look k at z)) (shows_is y x e)
    (among_last w.lines (Line.Look k at y))
  where
    shows_is : (a b : Option Bytes) → Reply.Shows a ≡ Reply.Shows b → a ≡ b
    shows_is a b f = cc
noted_line w k at _ x e = cc

at_shard_line : (w : World) (n : ℕ) (k : Bytes) (at : ℕ) (look : Setup → ShardNow → Reply) (x : Option Bytes) →
    (at_shard w n (λ setup s. look_noted w k at (look setup s))).1 ≡ Reply.Shows x →
    IsAmong (at_shard w n (λ setup s. look_noted w k at (look setup s))).0.lines (Line.Look k at x)
at_shard_line w n k at look x = by_value (slice_get w.shards n)
  where
    by_value : (o : Option ShardNow) → (elim o as (λ y. After) [
      | None ↦ refused w Stranger
      | Some s ↦
          look_noted w k at (look (setup_of w.config n) s)
    ]).1 ≡ Reply.Shows x →
        IsAmong (elim o as (λ y. After) [ None ↦ refused w Stranger | Some s ↦ look_noted w k at (look (setup_of w.config n) s) ]).0.lines (Line.Look k at x)
    by_value None e = cc
    by_value (Some s) e = noted_line w k at (look (setup_of w.config n) s) x e

some_look : (p q : Bytes × ℕ) → ◌≡◌ {A = Option (Bytes × ℕ)} (Some p) (Some q) → p ≡ q
some_look p q e = cc

-- a look at a key and a time, by its act
of_look : (w : World) (j : Bytes) (z : ℕ) (k : Bytes) (at : ℕ) (x : Option Bytes) → ◌≡◌ {A = Option (Bytes × ℕ)} (Some (j, z)) (Some (k, at)) →
    IsAmong w.lines (Line.Look j z x) → IsAmong w.lines (Line.Look k at x)
of_look w j z k at x e h = subst (λ (p : Bytes × ℕ). IsAmong w.lines (Line.Look p.0 p.1 x)) (some_look (j, z) (k, at) e) h

look_line : (w : World) (a : Act) (k : Bytes) (at : ℕ) (x : Option Bytes) → looks_at a ≡ Some (k, at) → (acts w a).1 ≡ Reply.Shows x →
    IsAmong (acts w a).0.lines (Line.Look k at x)
unfolding acts
look_line w (Act.Look n j z) k at x e shows =
    of_look (acts w (Act.Look n j z)).0 j z k at x e (at_shard_line w n j z (λ setup s. look_shard setup s j z) x shows)
look_line w (Act.View n v j z) k at x e shows =
    of_look (acts w (Act.View n v j z)).0 j z k at x e (at_shard_line w n j z (λ setup s. look_at_view setup (slice_get s.views v) j z) x shows)
look_line w _ k at x e shows = cc

-- more events go on from the world of the first
pub run_on : (w : World) (es more : List Event) → run_from w (es ++ more) ≡ run_from (run_from w es) more
run_on w [] more = refl
run_on w (x ∷ xs) more = run_on ((happens w x).0) xs more

pub lawful_on : (w : World) (es more : List Event) → lawful_from w (es ++ more) ≡ true → lawful_from (run_from w es) more ≡ true
lawful_on w [] more h = h
lawful_on w (x ∷ xs) more h = lawful_on ((happens w x).0) xs more (and_parts (may_happen w x) (lawful_from ((happens w x).0) (xs ++ more)) h).1

module _ (config : Config) (es later : List Event) (e : Event) (fair : lawful config (es ++ e ∷ later) ≡ true) where
  front : lawful config es ≡ true
  unfolding lawful
  front = lawful_front (start config) es (e ∷ later) fair

  with_it : lawful config (es ++ e ∷ []) ≡ true
  unfolding lawful
  with_it = lawful_front (start config) (es ++ e ∷ []) later (subst (λ l. lawful_from (start config) l ≡ true) (sym (append_assoc es (e ∷ []) later)) fair)

  -- the event and those after it
  rest : lawful_from (run config es) (e ∷ later) ≡ true
  unfolding run lawful
  rest = lawful_on (start config) es (e ∷ later) fair

  -- lines before it, and its own, are lines of the whole run
  old_line : (l : Line) → IsAmong (run config es).lines l → IsAmong (run config (es ++ e ∷ later)).lines l
  unfolding run
  old_line l h =
      subst (λ (w : World). IsAmong w.lines l) (sym (run_on (start config) es (e ∷ later)))
      (lines_stay config (run config es) (e ∷ later) rest (always_kept config es front) l h)

  own_line : (l : Line) → IsAmong (happens (run config es) e).0.lines l → IsAmong (run config (es ++ e ∷ later)).lines l
  unfolding run
  own_line l h =
      let p = and_parts (may_happen (run config es) e) (lawful_from ((happens (run config es) e).0) later) rest in
      subst (λ (w : World). IsAmong w.lines l) (sym (run_on (start config) es (e ∷ later)))
      (lines_stay config (happens (run config es) e).0 later p.1 (event_keeps config (run config es) e p.0 (always_kept config es front)) l h)

  shown_line : (k : Bytes) (at : ℕ) (x : Option Bytes) → looks_at e.act ≡ Some (k, at) → (happens (run config es) e).1 ≡ Reply.Shows x →
      IsAmong (happens (run config es) e).0.lines (Line.Look k at x)
  unfolding happens
  shown_line k at x look shows = look_line (run config es) e.act k at x look shows

pub looks_show_acknowledged : LooksShowAcknowledged
looks_show_acknowledged config es later e logs fair may k at look late t s m line = record {
  logged =
      let ack = line_of (run config (es ++ e ∷ later)).lines (Line.Ack t s m)
      (old_line config es later e fair (Line.Ack t s m) (get_among (run config es).lines line.0 (Line.Ack t s m) line.1)) in
      (keeps_acknowledged config (es ++ e ∷ later) logs fair may t s m ack).0;
  within = let before = acknowledged_before config es e t s m (with_it config es later e fair) line in omega (arith, before, late);
  shown = λ x shows. looks_serially config (es ++ e ∷ later) logs fair may k at x
      (line_of (run config (es ++ e ∷ later)).lines (Line.Look k at x) (own_line config es later e fair (Line.Look k at x)
      (shown_line config es later e fair k at x look shows)));
}

-- ---- one strict order

pub each_apart : (config : Config) (es : List Event) (logs : List (List Record)) → lawful config es ≡ true → MayBeLeft config es logs → Apart (history logs)
each_apart config es logs fair may = apart (history logs) (λ t. in_history_once logs t (all_or_nothing config es logs fair may t).0)

pub ids_stand_once : IdsStandOnce
ids_stand_once config es logs fair may = record {
  once = λ t. once_is_one _ (in_history_once logs t (all_or_nothing config es logs fair may t).0);
  found = λ u h. found (history logs) u (each_apart config es logs fair may) h;
}

pub before_is_in_front : BeforeIsInFront
before_is_in_front config es logs fair may front u back same k = front_leaves (history logs) (each_apart config es logs fair may) front u back same k

-- ---- each commit that is told has a line

-- the logs as they are may be left
pub as_they_are : (ss : List ShardNow) → MayLeaveLogs ss (map (λ s. s.log) ss)
as_they_are [] = tt
as_they_are (s ∷ ss) = (inl refl, as_they_are ss)

pub commits_are_lines : CommitsAreLines
commits_are_lines config es fair to t s there =
    let k = (always_kept config es fair).acks to t s there in
    let logs : List (List Record) = map (λ (x : ShardNow). x.log) (run config es).shards in
    let may : MayBeLeft config es logs = inl (as_they_are (run config es).shards) in
    let m : Moment (run config es) logs = moment config es logs fair may in
    let one = each_apart config es logs fair may in
    let told = told_txn m.scene m.holds logs m.left to t s (subst (λ (w : World). IsAmong w.bag (committed_to to t s)) (sym m.same) there) in
    let line = line_of (run config es).lines (Line.Ack t k.stamp k.event) k.among in
    let ack = ack_of_line m.scene m.holds logs m.left t k.stamp k.event (subst (λ (w : World). IsLine w.lines (Line.Ack t k.stamp k.event))
    (sym m.same) line) in
    let first = told_txn m.scene m.holds logs m.left ack.to t k.stamp ack.sent in
    let same : first.txn ≡ told.txn =
    some_same first.txn told.txn
    (sym (found (history logs) first.txn one first.among) ∙ ap (find_txn (history logs)) (first.named ∙ sym told.named)
    ∙ found (history logs) told.txn one told.among) in
    let stamp : k.stamp ≡ s = sym first.stamp ∙ ap (λ (x : Txn). x.at) same ∙ told.stamp in
    (k.event, subst (λ z. IsLine (run config es).lines (Line.Ack t z k.event)) stamp line)
