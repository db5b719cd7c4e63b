-- A step of a transaction is the step of the session that it stands for.
use Rattle.std.specs.List.{list_any}
use Rattle.std.proofs.Common.{◌≡◌, inl, inr, ℕ, Bool, true, false, not, ◌&&◌, cond, nat_le, ◌||◌, List, [], ◌∷◌, ◌++◌, length, Option, Result, Ok}
use Rattle.std.proofs.Common.{Err, OnOk, IfOk, IfErr, refl, sym, ap, ◌∙◌, subst, option_to_list}
use Rattle.units.specs.Keys.{Bytes, same_key, has_key, shard_of, writes_key}
use Rattle.units.specs.Ids.{Id}
use Rattle.units.proofs.Folds.{any_append}
use Rattle.units.proofs.KeyLaws.{same_key-refl}
use Rattle.units.specs.declared.fault.Fault.{Fault}
use Rattle.units.specs.declared.fault.Fault.TheVariants.{BadRequest, Memory, Stranger}
use Rattle.units.specs.declared.fault.Reason.{Reason}
use Rattle.units.specs.declared.fault.Reason.TheVariants.{Many, Nothing, Again, Awaited, Doomed}
use Rattle.units.specs.declared.line.Line.{Line}
use Rattle.units.specs.declared.writes.Write.{Write}
use Rattle.message.specs.declared.message.Answer.{Answer}
use Rattle.message.specs.declared.message.Answer.TheVariants.{Holds, Refused}
use Rattle.message.specs.declared.message.Address.TheVariants.{Shard}
use Rattle.message.specs.declared.message.Envelope.{Envelope}
use Rattle.message.specs.declared.message.Message.{Message}
use Rattle.message.specs.declared.message.ReadAnswer.{ReadAnswer}
use Rattle.session.specs.Sessions.{Client, Stage, IsOpen, IsClosing, IsOver, Moved, Denies, Goes, unless, reads, buffers, closes, gives_up, finishes}
use Rattle.session.specs.Sessions.{hears, take_answer, is_doomed, epochs_agree, asked_keys, was_answered, with_write, is_none, closing_messages}
use Rattle.session.specs.Sessions.{without_key, doomed_by, was_taken}
use Rattle.session.specs.Shown.{Session, heard_as, taken_as}
use Rattle.session.specs.declared.answered.Answered.{Answered}
use Rattle.session.specs.declared.answered.Heard.{Heard}
use Rattle.world.specs.World.{read_lines}
use Rattle.world.specs.Held.{IsHeld, IsBegun, Steps, Moves, Hears, when_open, when_not_over, when_closing}
use Rattle.world.specs.declared.begun.Begun.{Begun}
use Rattle.world.specs.declared.begun.Held.TheVariants.{Open, Closing, Over}

-- ---- what a step leaves of its session

-- the id stays, and the stage is this one
abbrev pub Leaves : Client → Stage → Moved → Type 0
Leaves c s (Denies fault) = Unit {0}
Leaves c s (Goes d out) = (d.txn ≡ c.txn) × (d.stage ≡ s)

after_tests : (c : Client) (s : Stage) (rs : List (Bool × Reason)) (m : Moved) → Leaves c s m → Leaves c s (unless rs m)
after_tests c s [] m h = h
after_tests c s (r ∷ rs) m h = elim r.0 as (λ b. Leaves c s (cond b (Denies (BadRequest r.1)) (unless rs m))) [ true ↦ tt | false ↦ after_tests c s rs m h ]

-- the id and the stage stay
abbrev pub Keeps : (Client → Moved) → Type 0
Keeps f = (c : Client) → Leaves c c.stage (f c)

pub reads_keeps : (splits : List Bytes) (k : Bytes) → Keeps (reads splits k)
unfolding reads
reads_keeps splits k c =
    after_tests c c.stage ((nat_le 128 (length (asked_keys c)), Many) ∷ (was_answered c k, Again) ∷ (has_key c.awaited k, Awaited) ∷ (is_doomed c, Doomed) ∷ [])
    (Goes (record c { awaited = c.awaited ++ k ∷ [] }) (record {
      to = Shard (shard_of splits k);
      message =
          Message.Read (record { txn = c.txn; key = k });
    } ∷ []))
    (refl, refl)

pub buffers_keeps : (w : Write) → Keeps (buffers w)
unfolding buffers
buffers_keeps w c =
    after_tests c c.stage ((nat_le 128 (length c.writes) && not (writes_key c.writes w.key), Many) ∷ (is_doomed c, Doomed) ∷ [])
    (Goes (record c { writes = with_write c.writes w }) []) (refl, refl)

pub closes_closing : (splits : List Bytes) (c : Client) → Leaves c IsClosing (closes splits c)
unfolding closes
closes_closing splits c =
    after_tests c IsClosing ((is_none (asked_keys c) && is_none c.writes, Nothing) ∷ (not (is_none c.awaited), Awaited) ∷ (is_doomed c, Doomed) ∷ [])
    (Goes (record c { stage = IsClosing }) (closing_messages splits c)) (refl, refl)

-- the ids and the stages of two sessions are the same
abbrev pub Alike : Client → Client → Type 0
Alike c d = (d.txn ≡ c.txn) × (d.stage ≡ c.stage)

take_keeps : (c : Client) (n : ℕ) (k : Bytes) (epoch : ℕ) (a : Answer) → Alike c (take_answer c n k epoch a)
take_keeps c n k epoch Refused = (refl, refl)
take_keeps c n k epoch (Holds x) =
    let taken : Client = record c { taken = c.taken ++ record { key = k; shard = n; epoch = epoch; value = x } ∷ []; awaited = without_key c.awaited k } in
    elim (epochs_agree c.taken n epoch) as (λ b. Alike c (cond b taken (doomed_by k c))) [ true ↦ (refl, refl) | false ↦ (refl, refl) ]

pub hears_keeps : (n : ℕ) (k : Bytes) (epoch : ℕ) (a : Answer) (c : Client) → Alike c (hears n k epoch a c)
unfolding hears
hears_keeps n k epoch a c =
    elim (has_key c.awaited k && not (is_doomed c)) as (λ b. Alike c (cond b (take_answer c n k epoch a) c)) [
      | true ↦
          take_keeps c n k epoch a
      | false ↦ (refl, refl)
    ]

-- ---- in which stage it is taken

pub open_takes : (f : Client → Moved) (c : Client) → c.stage ≡ IsOpen → when_open f c ≡ f c
open_takes f c e = ap (λ s. elim s as (λ x. Moved) [ IsOpen ↦ f c | _ ↦ Denies Stranger ]) e

-- ---- steps of an open transaction

pub open_moves : (f : List Bytes → Client → Moved) → ((splits : List Bytes) → Keeps (f splits)) →
    (b : Begun) (tx new : Session) (r : Result (List Envelope) Fault)
    → b.held ≡ Open tx → new.splits ≡ tx.splits → Steps (f tx.splits tx.client) new.client tx.client r
    → (splits : List Bytes) (c : Client) → IsBegun splits b c → Moves splits (when_open (f splits) c) (record { txn = b.txn; held = Open new }) c r
open_moves f keeps b tx new r is same step splits c begun = by_result r step
  where
    h : IsHeld splits (Open tx) c
    h = subst (λ x. IsHeld splits x c) is begun.held

    takes : when_open (f splits) c ≡ f tx.splits tx.client
    takes = open_takes (f splits) c h.1 ∙ ap (λ (t : Session). f t.splits t.client) (sym h.0)

    by_result : (r : Result (List Envelope) Fault) → Steps (f tx.splits tx.client) new.client tx.client r →
        Moves splits (when_open (f splits) c) (record { txn = b.txn; held = Open new }) c r
    by_result (Ok out) e =
        let kept = subst (Leaves tx.client tx.client.stage) e (keeps tx.splits tx.client) in
        let client : tx.client ≡ c = ap (λ (t : Session). t.client) h.0 in
        let txn : new.client.txn ≡ c.txn = kept.0 ∙ ap (λ (d : Client). d.txn) client in
        let there : new ≡ record { splits = splits; client = new.client } = ap (λ s. record { splits = s; client = new.client })
        (same ∙ ap (λ (t : Session). t.splits) h.0) in (
          new.client,
          takes ∙ e,
          txn,
          record {
            txn = txn ∙ begun.txn;
            held = (there, kept.1 ∙ ap (λ (d : Client). d.stage) client ∙ h.1);
          },
        )
    by_result (Err fault) (inl memory) = inl memory
    by_result (Err fault) (inr refused) =
        let there : new ≡ record { splits = splits; client = c } =
        (λ i. record { splits = (same ∙ ap (λ (t : Session). t.splits) h.0) i; client = (refused.1 ∙ ap (λ (t : Session). t.client) h.0) i }) in
        inr (takes ∙ refused.0, record { txn = begun.txn; held = (there, h.1) })

-- it closes
pub close_moves : (b : Begun) (tx new : Session) (out : List Envelope) → b.held ≡ Open tx → new.splits ≡ tx.splits →
    closes tx.splits tx.client ≡ Goes new.client out
    → (splits : List Bytes) (c : Client) → IsBegun splits b c → Moves splits (when_open (closes splits) c)
    (record { txn = b.txn; held = Closing new }) c (Ok out)
close_moves b tx new out is same step splits c begun =
    let h : IsHeld splits (Open tx) c = subst (λ x. IsHeld splits x c) is begun.held in
    let kept = subst (Leaves tx.client IsClosing) step (closes_closing tx.splits tx.client) in
    let txn : new.client.txn ≡ c.txn = kept.0 ∙ ap (λ (t : Session). t.client.txn) h.0 in
    let there : new ≡ record { splits = splits; client = new.client } = ap (λ s. record { splits = s; client = new.client })
    (same ∙ ap (λ (t : Session). t.splits) h.0) in (
      new.client,
      open_takes (closes splits) c h.1 ∙ ap (λ (t : Session). closes t.splits t.client) (sym h.0) ∙ step,
      txn,
      record {
        txn = txn ∙ begun.txn;
        held = (there, kept.1);
      },
    )

-- it gives up
abbrev over : Client → Client
over c = record c { stage = IsOver }

over_begun : (b gone : Begun) (splits : List Bytes) (c : Client) → IsBegun splits b c → gone ≡ record { txn = b.txn; held = Over } →
    IsBegun splits gone (over c)
over_begun b gone splits c begun is = subst (λ x. IsBegun splits x (over c)) (sym is) (record { txn = begun.txn; held = refl })

not_over_takes : (f : Client → Moved) (c : Client) (s : Stage) → c.stage ≡ s → elim s as (λ x. Moved) [ IsOver ↦ Denies Stranger | _ ↦ f c ] ≡ f c →
    when_not_over f c ≡ f c
not_over_takes f c s e is = ap (λ x. elim x as (λ y. Moved) [ IsOver ↦ Denies Stranger | _ ↦ f c ]) e ∙ is

pub quit_open : (b gone : Begun) (tx : Session) (out : List Envelope) → b.held ≡ Open tx → gives_up tx.splits tx.client ≡ Goes (over tx.client) out
    → gone ≡ record { txn = b.txn; held = Over }
    → (splits : List Bytes) (c : Client) → IsBegun splits b c → Moves splits (when_not_over (gives_up splits) c) gone c (Ok out)
quit_open b gone tx out is step ends splits c begun =
    let h : IsHeld splits (Open tx) c = subst (λ x. IsHeld splits x c) is begun.held in
    let made : gives_up splits c ≡ Goes (over c) out = subst (λ (t : Session). gives_up t.splits t.client ≡ Goes (over t.client) out) h.0 step in
    (over c, not_over_takes (gives_up splits) c IsOpen h.1 refl ∙ made, refl, over_begun b gone splits c begun ends)

pub quit_closing : (b gone : Begun) (tx : Session) (out : List Envelope) → b.held ≡ Closing tx → gives_up tx.splits tx.client ≡ Goes (over tx.client) out
    → gone ≡ record { txn = b.txn; held = Over }
    → (splits : List Bytes) (c : Client) → IsBegun splits b c → Moves splits (when_not_over (gives_up splits) c) gone c (Ok out)
quit_closing b gone tx out is step ends splits c begun =
    let h : IsHeld splits (Closing tx) c = subst (λ x. IsHeld splits x c) is begun.held in
    let made : gives_up splits c ≡ Goes (over c) out = subst (λ (t : Session). gives_up t.splits t.client ≡ Goes (over t.client) out) h.0 step in
    (over c, not_over_takes (gives_up splits) c IsClosing h.1 refl ∙ made, refl, over_begun b gone splits c begun ends)

-- it hears the end
pub finish_moves : (b gone : Begun) (tx : Session) (out : List Envelope) → b.held ≡ Closing tx → out ≡ [] → gone ≡ record { txn = b.txn; held = Over }
    → (splits : List Bytes) (c : Client) → IsBegun splits b c → Moves splits (when_closing c) gone c (Ok out)
finish_moves b gone tx out is none ends splits c begun =
    let h : IsHeld splits (Closing tx) c = subst (λ x. IsHeld splits x c) is begun.held in
    let takes : when_closing c ≡ finishes c = ap (λ s. elim s as (λ x. Moved) [ IsClosing ↦ finishes c | _ ↦ Denies Stranger ]) h.1 in
    (over c, takes ∙ ap (Goes (over c)) (sym none), refl, over_begun b gone splits c begun ends)

-- ---- answers

pub open_hears : (b : Begun) (tx new : Session) (a : ReadAnswer) (r : Result (Option Line) Fault) → b.held ≡ Open tx → new.splits ≡ tx.splits
    → OnOk r (new.client ≡ hears a.from a.key a.epoch a.answer tx.client)
    → (tx.client.txn ≡ b.txn → IfOk r (λ line. option_to_list line ≡ read_lines tx.client new.client a.key a.answer)) → IfErr r (λ fault. fault ≡ Memory)
    → (splits : List Bytes) (c : Client) → IsBegun splits b c → Hears splits a (record { txn = b.txn; held = Open new }) c r
open_hears b tx new a r is same heard line memory splits c begun = by_result r heard line memory
  where
    h : IsHeld splits (Open tx) c
    h = subst (λ x. IsHeld splits x c) is begun.held

    client : tx.client ≡ c
    client = ap (λ (t : Session). t.client) h.0

    by_result : (r : Result (Option Line) Fault) → OnOk r (new.client ≡ hears a.from a.key a.epoch a.answer tx.client)
        → (tx.client.txn ≡ b.txn → IfOk r (λ l. option_to_list l ≡ read_lines tx.client new.client a.key a.answer)) → IfErr r (λ fault. fault ≡ Memory)
        → Hears splits a (record { txn = b.txn; held = Open new }) c r
    by_result (Ok l) is_heard is_line spent =
        let made : new.client ≡ hears a.from a.key a.epoch a.answer c = is_heard ∙ ap (hears a.from a.key a.epoch a.answer) client in
        let kept = hears_keeps a.from a.key a.epoch a.answer c in
        let there : new ≡ record { splits = splits; client = new.client } = ap (λ s. record { splits = s; client = new.client })
        (same ∙ ap (λ (t : Session). t.splits) h.0) in (
          new.client,
          h.1,
          made,
          is_line (ap (λ (d : Client). d.txn) client ∙ begun.txn) ∙ ap (λ d. read_lines d new.client a.key a.answer) client,
          record {
            txn = ap (λ (d : Client). d.txn) made ∙ kept.0 ∙ begun.txn;
            held = (there, ap (λ (d : Client). d.stage) made ∙ kept.1 ∙ h.1);
          },
        )
    by_result (Err fault) is_heard is_line spent = inl spent

-- the line of what an answer came to
abbrev pub lines_of : Id → Bytes → Heard → List Line
lines_of t k (Heard.Value x) = Line.Read t k x ∷ []
lines_of t k _ = []

none_twice : (w : Bool) (ls : List Line) → [] ≡ cond (w && not w) ls []
none_twice true ls = refl
none_twice false ls = refl

-- nothing more was taken
no_line : (c d : Client) (k : Bytes) (a : Answer) → d.taken ≡ c.taken → [] ≡ read_lines c d k a
no_line c d k Refused e = refl
no_line c d k (Holds x) e =
    none_twice (was_taken c k) (Line.Read c.txn k x ∷ [])
    ∙ ap (λ (taken : List Answered). cond (list_any (λ a. same_key a.key k) taken && not (was_taken c k)) (Line.Read c.txn k x ∷ []) []) (sym e)

-- a value was taken
one_line : (c : Client) (r : Answered) (aw : List Bytes) (k : Bytes) (x : Option Bytes) → r.key ≡ k → was_taken c k ≡ false
    → (Line.Read c.txn k x ∷ []) ≡ read_lines c (record c { taken = c.taken ++ r ∷ []; awaited = aw }) k (Holds x)
one_line c r aw k x own new =
    let there : list_any (λ (a : Answered). same_key a.key k) (c.taken ++ r ∷ []) ≡ true =
    any_append (λ (a : Answered). same_key a.key k) c.taken (r ∷ []) ∙ ap (λ b. b || (same_key r.key k || false)) new
    ∙ ap (λ j. same_key j k || false) own ∙ ap (λ b. b || false) (same_key-refl k) in
    (λ i. cond (sym there i && not (sym new i)) (Line.Read c.txn k x ∷ []) [])

-- what is heard and the line agree
heard_lines : (n : ℕ) (k : Bytes) (epoch : ℕ) (a : Answer) (c : Client) → (has_key c.awaited k ≡ true → was_taken c k ≡ false)
    → lines_of c.txn k (heard_as c n k epoch a) ≡ read_lines c (hears n k epoch a c) k a
unfolding hears
heard_lines n k epoch a c apart = by_tests (has_key c.awaited k) refl (is_doomed c)
  where
    new : has_key c.awaited k ≡ true → was_taken c k ≡ false
    new = apart

    by_agree : (x : Option Bytes) → has_key c.awaited k ≡ true → (b : Bool)
        → lines_of c.txn k (cond b (Heard.Value x) Heard.Doomed)
        ≡ read_lines c (cond b (record c {
          taken = c.taken ++ record { key = k; shard = n; epoch = epoch; value = x } ∷ [];
          awaited =
              without_key c.awaited k;
        }) (doomed_by k c)) k (Holds x)
    by_agree x is true = one_line c (record { key = k; shard = n; epoch = epoch; value = x }) (without_key c.awaited k) k x refl (new is)
    by_agree x is false = no_line c (doomed_by k c) k (Holds x) refl

    by_answer : (answer : Answer) → has_key c.awaited k ≡ true → lines_of c.txn k (taken_as (epochs_agree c.taken n epoch) answer) ≡
        read_lines c (take_answer c n k epoch answer) k answer
    by_answer Refused is = refl
    by_answer (Holds x) is = by_agree x is (epochs_agree c.taken n epoch)

    by_tests : (b : Bool) → has_key c.awaited k ≡ b → (d : Bool)
        → lines_of c.txn k (cond (b && not d) (taken_as (epochs_agree c.taken n epoch) a) Heard.Again) ≡
        read_lines c (cond (b && not d) (take_answer c n k epoch a) c) k a
    by_tests false is d = no_line c c k a refl
    by_tests true is true = no_line c c k a refl
    by_tests true is false = by_answer a is

-- so is the line of the code
pub line_heard : (c d : Client) (a : ReadAnswer) (t : Id) (h : Heard) → ((k : Bytes) → has_key c.awaited k ≡ true → was_taken c k ≡ false)
    → d ≡ hears a.from a.key a.epoch a.answer c → h ≡ heard_as c a.from a.key a.epoch a.answer → c.txn ≡ t → lines_of t a.key h ≡ read_lines c d a.key a.answer
line_heard c d a t h apart made is own =
    (λ i. lines_of (sym own i) a.key (is i)) ∙ heard_lines a.from a.key a.epoch a.answer c (apart a.key) ∙ ap (λ x. read_lines c x a.key a.answer) (sym made)
