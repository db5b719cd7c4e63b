-- The steps of a session that reads, one behind the other.
use Rattle.std.proofs.Common.{◌≡◌, ℕ, Bool, true, false, true≢false, ◌⊎◌, Result, Ok, Err, cond, not, ◌&&◌, nat_le, List, [], ◌∷◌, ◌++◌, length, refl}
use Rattle.std.proofs.Common.{ap, sym, ◌∙◌, subst, append_assoc, append-nil}
use Rattle.std.specs.List.{list_all}
use Rattle.std.specs.Prelude.{MatchResult}
use Rattle.units.specs.Ids.{Id, same_id}
use Rattle.units.specs.Keys.{Bytes, has_key, shard_of}
use Rattle.units.specs.declared.fault.Fault.{Fault}
use Rattle.units.specs.declared.fault.Fault.TheVariants.{BadRequest, Memory, Stranger}
use Rattle.units.specs.declared.fault.Reason.{Reason}
use Rattle.units.specs.declared.fault.Reason.TheVariants.{Many, Again, Awaited, Doomed}
use Rattle.message.specs.Ends.{End}
use Rattle.message.specs.declared.message.Answer.{Answer}
use Rattle.message.specs.declared.message.Answer.TheVariants.{Holds, Refused}
use Rattle.message.specs.declared.message.Envelope.{Envelope}
use Rattle.message.specs.declared.message.Message.{Message}
use Rattle.message.specs.declared.message.Address.TheVariants.{Shard}
use Rattle.session.specs.Sessions.{Client, Moved, Denies, Goes, unless, asked_keys, was_answered, is_doomed, reads, hears, take_answer, epochs_agree}
use Rattle.session.specs.Sessions.{doomed_by, without_key}
use Rattle.session.specs.Shown.{Session, heard_as, is_made}
use Rattle.session.specs.declared.answered.Heard.{Heard}
use Rattle.client.specs.Readings.{Step, Asks, Hears, AreSteps, HasRead, AreReads, IsReading, is_read}
use Rattle.client.specs.Traffic.{Traffic}

-- the session after a step, where it is made
client_after : Moved → Client → Client
client_after (Goes c es) d = c
client_after (Denies f) d = d

-- a step that is made leaves the session that it says
pub made : (rs : List (Bool × Reason)) (c d : Client) (es fs : List Envelope) → unless rs (Goes c es) ≡ Goes d fs → d ≡ c
unfolding client_after
made [] c d es fs e = sym (ap (λ m. client_after m d) e)
made (r ∷ rs) c d es fs e = by_test (made rs c d es fs) r.0 e
  where
    by_test : (unless rs (Goes c es) ≡ Goes d fs → d ≡ c) → (b : Bool) → cond b (Denies (BadRequest r.1)) (unless rs (Goes c es)) ≡ Goes d fs → d ≡ c
    by_test more true e = absurd (true≢false (sym (ap is_made e)))
    by_test more false e = more e

-- reading keeps the id
pub asked_txn : (splits : List Bytes) (k : Bytes) (c d : Client) (es : List Envelope) → reads splits k c ≡ Goes d es → d.txn ≡ c.txn
unfolding reads
asked_txn splits k c d es e =
    ap (λ (x : Client). x.txn)
    (made ((nat_le 128 (length (asked_keys c)), Many) ∷ (was_answered c k, Again) ∷ (has_key c.awaited k, Awaited) ∷ (is_doomed c, Doomed) ∷ [])
    (record c { awaited = c.awaited ++ k ∷ [] }) d
    (record { to = Shard (shard_of splits k); message = Message.Read (record { txn = c.txn; key = k }) } ∷ []) es e)

pub heard_txn : (n : ℕ) (k : Bytes) (epoch : ℕ) (a : Answer) (c : Client) → (hears n k epoch a c).txn ≡ c.txn
unfolding hears
heard_txn n k epoch a c = by_test (has_key c.awaited k && not (is_doomed c))
  where
    by_agree : (x : _) (b : Bool)
        → (cond b (record c { taken = c.taken ++ record { key = k; shard = n; epoch = epoch; value = x } ∷ []; awaited = without_key c.awaited k })
        (doomed_by k c)).txn ≡ c.txn
    by_agree x true = refl
    by_agree x false = refl

    by_answer : (b : Answer) → (take_answer c n k epoch b).txn ≡ c.txn
    by_answer Refused = refl
    by_answer (Holds x) = by_agree x (epochs_agree c.taken n epoch)

    by_test : (b : Bool) → (cond b (take_answer c n k epoch a) c).txn ≡ c.txn
    by_test true = by_answer a
    by_test false = refl

-- nothing was read
pub unread : (splits : List Bytes) (c d : Client) → d ≡ c → HasRead splits c d
unread splits c d same = ([], same)

-- a key was asked for
pub asks : (splits : List Bytes) (k : Bytes) (c d : Client) (es : List Envelope) → reads splits k c ≡ Goes d es → HasRead splits c d
asks splits k c d es e = (Asks k ∷ [], (d, (es, e), refl))

-- an answer was heard
pub hears_one : (splits : List Bytes) (n : ℕ) (k : Bytes) (epoch : ℕ) (a : Answer) (c d : Client) → d ≡ hears n k epoch a c → HasRead splits c d
hears_one splits n k epoch a c d e = (Hears n k epoch a ∷ [], (d, e, refl))

steps_on : (splits : List Bytes) (ss ts : List Step) (c m d : Client) → AreSteps splits ss c m → AreSteps splits ts m d → AreSteps splits (ss ++ ts) c d
steps_on splits [] ts c m d same more = subst (λ (x : Client). AreSteps splits ts x d) same more
steps_on splits (s ∷ ss) ts c m d are more = (are.0, are.1, steps_on splits ss ts are.0 m d are.2 more)

-- what was read, and then more
pub reads_on : (splits : List Bytes) (c m d : Client) → HasRead splits c m → HasRead splits m d → HasRead splits c d
reads_on splits c m d one more = (one.0 ++ more.0, steps_on splits one.0 more.0 c m d one.1 more.1)

pub all_both : {A : Type 0} (p : A → Bool) (xs ys : List A) → list_all p xs ≡ true → list_all p ys ≡ true → list_all p (xs ++ ys) ≡ true
all_both p [] ys a b = b
all_both p (x ∷ xs) ys a b = by_test (p x) a (λ rest. all_both p xs ys rest b)
  where
    by_test : (t : Bool) → (t && list_all p xs) ≡ true → (list_all p xs ≡ true → list_all p (xs ++ ys) ≡ true) → (t && list_all p (xs ++ ys)) ≡ true
    by_test true a more = more a
    by_test false a more = a

-- a list that was made longer twice
pub longer : {A : Type 0} (old mid new xs ys : List A) → mid ≡ old ++ xs → new ≡ mid ++ ys → new ≡ old ++ (xs ++ ys)
longer old mid new xs ys one two = two ∙ (ap (λ l. l ++ ys) one ∙ append_assoc old xs ys)

-- reads that were put out, and then more
pub reads_sent : (txn : Id) (old mid new : List Envelope) → ((xs : List Envelope) × (mid ≡ old ++ xs) × AreReads txn xs)
    → ((ys : List Envelope) × (new ≡ mid ++ ys) × AreReads txn ys) → (zs : List Envelope) × (new ≡ old ++ zs) × AreReads txn zs
reads_sent txn old mid new one two = (one.0 ++ two.0, longer old mid new one.0 two.0 one.1 two.1, all_both (is_read txn) one.0 two.0 one.2 two.2)

-- and the same where the id is another word for it
pub reads_of : (txn other : Id) (old new : List Envelope) → other ≡ txn
    → ((ys : List Envelope) × (new ≡ old ++ ys) × AreReads other ys) → (ys : List Envelope) × (new ≡ old ++ ys) × AreReads txn ys
reads_of txn other old new same sent = (sent.0, sent.1, subst (λ (t : Id). AreReads t sent.0) same sent.2)

-- what was read, and then more, of a session of the same splits
pub reads_more : (splits ss : List Bytes) (c m d : Client) → ss ≡ splits → HasRead splits c m → HasRead ss m d → HasRead splits c d
reads_more splits ss c m d same one more = reads_on splits c m d one (subst (λ (s : List Bytes). HasRead s m d) same more)

-- ---- a wire and a session that reads

-- keys were asked for, and nothing else was done
pub asks_only : (w : Traffic) (s t : Session) → t.splits ≡ s.splits → t.client.txn ≡ s.client.txn → HasRead s.splits s.client t.client → IsReading w w s t
asks_only w s t splits txn read = record {
  sent = ([], sym (append-nil w.sent), refl);
  heard = ([], sym (append-nil w.heard));
  splits = splits;
  txn = txn;
  read = read;
}

-- an answer was heard, taken or not, and nothing else was done
pub hears_only : (w : Traffic) (s t : Session) (of : Id) (n : ℕ) (k : Bytes) (epoch : ℕ) (a : Answer) (r : Result Heard Fault) → t.splits ≡ s.splits
    → MatchResult r
    (λ heard. (same_id s.client.txn of ≡ true) × (t.client ≡ hears n k epoch a s.client) × (heard ≡ heard_as s.client n k epoch a))
    (λ fault. (t.client ≡ s.client)
    × (((fault ≡ Stranger) × (same_id s.client.txn of ≡ false)) ⊎ ((fault ≡ Memory) × (same_id s.client.txn of ≡ true))))
    → IsReading w w s t
hears_only w s t of n k epoch a (Ok heard) same is =
    asks_only w s t same (ap (λ (x : Client). x.txn) is.1 ∙ heard_txn n k epoch a s.client)
    (hears_one s.splits n k epoch a s.client t.client is.1)
hears_only w s t of n k epoch a (Err fault) same is =
    asks_only w s t same (ap (λ (x : Client). x.txn) is.0) (unread s.splits s.client t.client is.0)

-- nothing was done
pub reads_none : (w : Traffic) (s : Session) → IsReading w w s s
reads_none w s = asks_only w s s refl refl ([], refl)

-- what is awaited was sent
pub sends_only : (a b : Traffic) (s : Session) → ((sent : List Envelope) × (b.sent ≡ a.sent ++ sent) × AreReads s.client.txn sent) → b.heard ≡ a.heard
    → IsReading a b s s
sends_only a b s sent same = record {
  sent = sent;
  heard = ([], same ∙ sym (append-nil a.heard));
  splits = refl;
  txn = refl;
  read = ([], refl);
}

-- and then more
pub reading_on : (a b c : Traffic) (r s t : Session) → IsReading a b r s → IsReading b c s t → IsReading a c r t
reading_on a b c r s t one two = record {
  sent = reads_sent r.client.txn a.sent b.sent c.sent one.sent (reads_of r.client.txn s.client.txn b.sent c.sent one.txn two.sent);
  heard = (one.heard.0 ++ two.heard.0, longer a.heard b.heard c.heard one.heard.0 two.heard.0 one.heard.1 two.heard.1);
  splits = two.splits ∙ one.splits;
  txn = two.txn ∙ one.txn;
  read = reads_more r.splits s.splits r.client s.client t.client one.splits one.read two.read;
}

-- behind what was heard
pub heard_on : (a b c : Traffic) (s t : Session) (heard : List End) → b.sent ≡ a.sent → b.heard ≡ a.heard ++ heard → IsReading b c s t
    → IsReading a c s t
heard_on a b c s t heard same hears more = record {
  sent = (more.sent.0, more.sent.1 ∙ ap (λ (l : List Envelope). l ++ more.sent.0) same, more.sent.2);
  heard = (heard ++ more.heard.0, longer a.heard b.heard c.heard heard more.heard.0 hears more.heard.1);
  splits = more.splits;
  txn = more.txn;
  read = more.read;
}
