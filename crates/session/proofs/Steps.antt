-- The steps of a session, by the tests that they make.
use Rattle.std.proofs.Common.{◌≡◌, ℕ, ◌≤◌, ◌<◌, Bool, true, false, cond, not, ◌&&◌, nat_le, List, [], ◌∷◌, ◌++◌, length, Option, refl, sym, ◌∙◌}
use Rattle.std.proofs.Common.{subst, arith}
use Rattle.std.proofs.lemmas.Bool.Decides.{nat_tests}
use Rattle.units.specs.Keys.{Bytes, has_key, shard_of, writes_key}
use Rattle.units.specs.declared.fault.Fault.TheVariants.{BadRequest}
use Rattle.units.specs.declared.fault.Reason.TheVariants.{Many, Nothing, Again, Awaited, Doomed}
use Rattle.units.specs.declared.writes.Write.{Write}
use Rattle.message.specs.declared.message.Message.{Message}
use Rattle.message.specs.declared.message.Address.TheVariants.{Shard}
use Rattle.message.specs.declared.message.Answer.{Answer}
use Rattle.message.specs.declared.message.Answer.TheVariants.{Holds, Refused}
use Rattle.session.specs.declared.answered.Heard.{Heard}
use Rattle.session.specs.Shown.{heard_as, taken_as, closing_client, is_closing}
use Rattle.session.specs.Sessions.{Client, Moved, Denies, Goes, unless, asked_keys, was_answered, is_doomed, reads, buffers, hears, with_write}
use Rattle.session.specs.Sessions.{take_answer, epochs_agree, doomed_by, without_key, Stage, IsOpen, IsClosing, IsOver, is_none, closes}
use Rattle.session.specs.Sessions.{closing_messages, parts_of, asked_shards, shards_told}

-- a reading, by its tests
abbrev reads_by : List Bytes → Bytes → Client → List Bytes → ℕ → Bool → Bool → Bool → Bool → Moved
reads_by splits k c aw n a b d e =
    unless ((a, Many) ∷ (b, Again) ∷ (d, Awaited) ∷ (e, Doomed) ∷ [])
    (Goes (record c { awaited = aw }) (record { to = Shard n; message = Message.Read (record { txn = c.txn; key = k }) } ∷ []))

read_as : (splits : List Bytes) (k : Bytes) (c : Client)
    → reads splits k c ≡ reads_by splits k c (c.awaited ++ k ∷ []) (shard_of splits k) (nat_le 128 (length (asked_keys c))) (was_answered c k)
    (has_key c.awaited k) (is_doomed c)
unfolding reads
read_as splits k c = refl

pub reads_many : (splits : List Bytes) (k : Bytes) (c : Client) → nat_le 128 (length (asked_keys c)) ≡ true → reads splits k c ≡ Denies (BadRequest Many)
reads_many splits k c a =
    read_as splits k c ∙ (λ i. reads_by splits k c (c.awaited ++ k ∷ []) (shard_of splits k) (a i) (was_answered c k) (has_key c.awaited k) (is_doomed c))

pub reads_again : (splits : List Bytes) (k : Bytes) (c : Client) → nat_le 128 (length (asked_keys c)) ≡ false → was_answered c k ≡ true
    → reads splits k c ≡ Denies (BadRequest Again)
reads_again splits k c a b =
    read_as splits k c ∙ (λ i. reads_by splits k c (c.awaited ++ k ∷ []) (shard_of splits k) (a i) (b i) (has_key c.awaited k) (is_doomed c))

pub reads_awaited : (splits : List Bytes) (k : Bytes) (c : Client) → nat_le 128 (length (asked_keys c)) ≡ false → was_answered c k ≡ false
    → has_key c.awaited k ≡ true → reads splits k c ≡ Denies (BadRequest Awaited)
reads_awaited splits k c a b d =
    read_as splits k c ∙ (λ i. reads_by splits k c (c.awaited ++ k ∷ []) (shard_of splits k) (a i) (b i) (d i) (is_doomed c))

pub reads_doomed : (splits : List Bytes) (k : Bytes) (c : Client) → nat_le 128 (length (asked_keys c)) ≡ false → was_answered c k ≡ false
    → has_key c.awaited k ≡ false → is_doomed c ≡ true → reads splits k c ≡ Denies (BadRequest Doomed)
reads_doomed splits k c a b d e =
    read_as splits k c ∙ (λ i. reads_by splits k c (c.awaited ++ k ∷ []) (shard_of splits k) (a i) (b i) (d i) (e i))

pub reads_goes : (splits : List Bytes) (k : Bytes) (c : Client) (aw : List Bytes) (n : ℕ) → nat_le 128 (length (asked_keys c)) ≡ false →
    was_answered c k ≡ false
    → has_key c.awaited k ≡ false → is_doomed c ≡ false → aw ≡ c.awaited ++ k ∷ [] → n ≡ shard_of splits k
    → reads splits k c ≡ Goes (record c { awaited = aw }) (record { to = Shard n; message = Message.Read (record { txn = c.txn; key = k }) } ∷ [])
reads_goes splits k c aw n a b d e is at =
    read_as splits k c ∙ (λ i. reads_by splits k c (sym is i) (sym at i) (a i) (b i) (d i) (e i))

-- a buffering, by its tests
abbrev buffers_by : Client → List Write → Bool → Bool → Moved
buffers_by c ws a b = unless ((a, Many) ∷ (b, Doomed) ∷ []) (Goes (record c { writes = ws }) [])

buffer_as : (w : Write) (c : Client) → buffers w c ≡ buffers_by c (with_write c.writes w)
    (nat_le 128 (length c.writes) && not (writes_key c.writes w.key)) (is_doomed c)
unfolding buffers
buffer_as w c = refl

pub buffers_many : (w : Write) (c : Client) → (nat_le 128 (length c.writes) && not (writes_key c.writes w.key)) ≡ true → buffers w c ≡ Denies (BadRequest Many)
buffers_many w c a = buffer_as w c ∙ (λ i. buffers_by c (with_write c.writes w) (a i) (is_doomed c))

pub buffers_doomed : (w : Write) (c : Client) → (nat_le 128 (length c.writes) && not (writes_key c.writes w.key)) ≡ false → is_doomed c ≡ true
    → buffers w c ≡ Denies (BadRequest Doomed)
buffers_doomed w c a b = buffer_as w c ∙ (λ i. buffers_by c (with_write c.writes w) (a i) (b i))

pub buffers_goes : (w : Write) (c : Client) (ws : List Write) → (nat_le 128 (length c.writes) && not (writes_key c.writes w.key)) ≡ false → is_doomed c ≡ false
    → ws ≡ with_write c.writes w → buffers w c ≡ Goes (record c { writes = ws }) []
buffers_goes w c ws a b is = buffer_as w c ∙ (λ i. buffers_by c (sym is i) (a i) (b i))

-- numbers as tests
pub at_least : (n m : ℕ) → n ≡ m → 128 ≤ n → nat_le 128 m ≡ true
at_least n m e h = grind (arith, nat_tests)

pub below : (n m : ℕ) → n ≡ m → n < 128 → nat_le 128 m ≡ false
below n m e h = grind (arith, nat_tests)

-- ---- answers

hear_as : (n : ℕ) (k : Bytes) (epoch : ℕ) (a : Answer) (c : Client)
    → hears n k epoch a c ≡ cond (has_key c.awaited k && not (is_doomed c)) (take_answer c n k epoch a) c
unfolding hears
hear_as n k epoch a c = refl

-- what an answer does, and what it comes to
abbrev pub Hears : ℕ → Bytes → ℕ → Answer → Client → Client → Heard → Type 0
Hears n k epoch a c d h = (d ≡ hears n k epoch a c) × (h ≡ heard_as c n k epoch a)

pub heard_again : (n : ℕ) (k : Bytes) (epoch : ℕ) (a : Answer) (c : Client) → (has_key c.awaited k && not (is_doomed c)) ≡ false
    → Hears n k epoch a c c Heard.Again
heard_again n k epoch a c e = (
  sym (hear_as n k epoch a c ∙ (λ i. cond (e i) (take_answer c n k epoch a) c)),
  sym (λ i. cond (e i)
      (taken_as (epochs_agree c.taken n epoch) a) Heard.Again),
)

heard_taken : (n : ℕ) (k : Bytes) (epoch : ℕ) (a : Answer) (c : Client) → (has_key c.awaited k && not (is_doomed c)) ≡ true
    → Hears n k epoch a c (take_answer c n k epoch a) (taken_as (epochs_agree c.taken n epoch) a)
heard_taken n k epoch a c e = (
  sym (hear_as n k epoch a c ∙ (λ i. cond (e i) (take_answer c n k epoch a) c)),
  sym (λ i. cond (e i)
      (taken_as (epochs_agree c.taken n epoch) a) Heard.Again),
)

pub heard_refused : (n : ℕ) (k : Bytes) (epoch : ℕ) (a : Answer) (c : Client) → (has_key c.awaited k && not (is_doomed c)) ≡ true
    → a ≡ Refused → Hears n k epoch a c (doomed_by k c) Heard.Doomed
heard_refused n k epoch a c e is =
    subst (λ b. Hears n k epoch b c (doomed_by k c) Heard.Doomed) (sym is) (heard_taken n k epoch Refused c e)

pub heard_value : (n : ℕ) (k : Bytes) (epoch : ℕ) (a : Answer) (c : Client) (x : Option Bytes) → (has_key c.awaited k && not (is_doomed c)) ≡ true
    → a ≡ Holds x → epochs_agree c.taken n epoch ≡ true → Hears n k epoch a c (take_answer c n k epoch (Holds x)) (Heard.Value x)
heard_value n k epoch a c x e is agree =
    let h = heard_taken n k epoch (Holds x) c e in
    subst (λ b. Hears n k epoch b c (take_answer c n k epoch (Holds x)) (Heard.Value x)) (sym is)
    (h.0, sym (λ i. cond (agree i) (Heard.Value x) Heard.Doomed) ∙ h.1)

pub heard_second_epoch : (n : ℕ) (k : Bytes) (epoch : ℕ) (a : Answer) (c : Client) (x : Option Bytes) → (has_key c.awaited k && not (is_doomed c)) ≡ true
    → a ≡ Holds x → epochs_agree c.taken n epoch ≡ false → Hears n k epoch a c (doomed_by k c) Heard.Doomed
heard_second_epoch n k epoch a c x e is agree =
    let h = heard_taken n k epoch (Holds x) c e in
    let d : doomed_by k c ≡ take_answer c n k epoch (Holds x) =
    sym (λ i. cond (agree i)
    (record c { taken = c.taken ++ record { key = k; shard = n; epoch = epoch; value = x } ∷ []; awaited = without_key c.awaited k })
    (doomed_by k c)) in
    subst (λ b. Hears n k epoch b c (doomed_by k c) Heard.Doomed) (sym is) (d ∙ h.0, sym (λ i. cond (agree i) (Heard.Value x) Heard.Doomed) ∙ h.1)

-- ---- closing and giving up

-- a closing, by its tests
abbrev closes_by : List Bytes → Client → Bool → Bool → Bool → Moved
closes_by splits c a b d =
    unless ((a, Nothing) ∷ (b, Awaited) ∷ (d, Doomed) ∷ []) (Goes (record c { stage = IsClosing }) (closing_messages splits c))

close_as : (splits : List Bytes) (c : Client) → closes splits c ≡ closes_by splits c (is_none (asked_keys c) && is_none c.writes)
    (not (is_none c.awaited)) (is_doomed c)
unfolding closes
close_as splits c = refl

pub closes_nothing : (splits : List Bytes) (c : Client) → (is_none (asked_keys c) && is_none c.writes) ≡ true → closes splits c ≡ Denies (BadRequest Nothing)
closes_nothing splits c a = close_as splits c ∙ (λ i. closes_by splits c (a i) (not (is_none c.awaited)) (is_doomed c))

pub closes_awaited : (splits : List Bytes) (c : Client) → (is_none (asked_keys c) && is_none c.writes) ≡ false → not (is_none c.awaited) ≡ true
    → closes splits c ≡ Denies (BadRequest Awaited)
closes_awaited splits c a b = close_as splits c ∙ (λ i. closes_by splits c (a i) (b i) (is_doomed c))

pub closes_doomed : (splits : List Bytes) (c : Client) → (is_none (asked_keys c) && is_none c.writes) ≡ false → not (is_none c.awaited) ≡ false →
    is_doomed c ≡ true
    → closes splits c ≡ Denies (BadRequest Doomed)
closes_doomed splits c a b d = close_as splits c ∙ (λ i. closes_by splits c (a i) (b i) (d i))

pub closes_goes : (splits : List Bytes) (c : Client) → (is_none (asked_keys c) && is_none c.writes) ≡ false → not (is_none c.awaited) ≡ false →
    is_doomed c ≡ false
    → closes splits c ≡ Goes (record c { stage = IsClosing }) (closing_messages splits c)
closes_goes splits c a b d = close_as splits c ∙ (λ i. closes_by splits c (a i) (b i) (d i))

-- the closing reads the id, the answers and the writes alone
pub closing_same : (splits : List Bytes) (c : Client) → closing_messages splits (closing_client c.txn c.taken c.writes) ≡ closing_messages splits c
unfolding closing_messages
closing_same splits c = refl

-- the shards that are told, by the stage
pub told_closing : (splits : List Bytes) (c : Client) (stage : Stage) → c.stage ≡ stage → is_closing stage ≡ true → parts_of splits c ≡ shards_told splits c
told_closing splits c IsOpen e f = cc
told_closing splits c IsClosing e f = sym (λ i. elim (e i) as (λ _. List ℕ) [ IsClosing ↦ parts_of splits c | _ ↦ asked_shards splits c ])
told_closing splits c IsOver e f = cc

pub told_open : (splits : List Bytes) (c : Client) (stage : Stage) → c.stage ≡ stage → is_closing stage ≡ false → asked_shards splits c ≡ shards_told splits c
told_open splits c IsOpen e f = sym (λ i. elim (e i) as (λ _. List ℕ) [ IsClosing ↦ parts_of splits c | _ ↦ asked_shards splits c ])
told_open splits c IsClosing e f = cc
told_open splits c IsOver e f = sym (λ i. elim (e i) as (λ _. List ℕ) [ IsClosing ↦ parts_of splits c | _ ↦ asked_shards splits c ])
